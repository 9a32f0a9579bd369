-- Every coherent record replays: one memory, in the order of the record, does what the record says, and ends as it ends.
use Rattle.std.specs.Prelude.{◌≡◌, ℕ, ℤ, List, IsTrue}
use Rattle.cw_strand.specs.Strands.{Strands}
use Rattle.cw_tree.specs.declared.node.Node.{Node}
use Rattle.cw_tree.specs.declared.access.Entry.{Entry}
use Rattle.cw_tree.specs.declared.conflict.Conflict.{Conflict}
use Rattle.cw_tree.specs.declared.picks.Picks.{Picks}
use Rattle.cw_tree.specs.Nodes.{is_strand}
use Rattle.cw_tree.specs.Walks.{IsRooted}
use Rattle.cw_serial.specs.Machine.{serial_end}
use Rattle.cw_record.specs.declared.record_end.RecordEnd.{RecordEnd}
use Rattle.cw_record.specs.declared.record.Record.{Record}
use Rattle.cw_record.specs.Order.{order_of}
use Rattle.cw_record.specs.Coherent.{IsCoherent, HasOutputs}
use Rattle.cw_record.specs.Replay.{Replays, SameEnd}
use Rattle.cw_record.specs.Records.{IsCoherentRecord, HasItsOutputs, IsReplayed}

-- The strands may be any: given by a syntax tree, by compiled code, or by hand. The record may be of any run of them: strands may
-- have run at the same time, been refused and rolled back, and blocks may have been left pending. The run may have ended in any
-- way.
abbrev pub RecordsReplay : {A : Type 0} → Strands A → Type 0
RecordsReplay s =
    -- over a memory with any first values, and with any budget
    (first : List ℤ) (budget : ℕ)
    -- what the record keeps: its tree, its journals and its conflicts, and how the run ended
    → (t : List Node) (kept : List (List Entry)) (cs : List Conflict) (e : RecordEnd)
    -- it is coherent for these strands
    → IsCoherent s first budget t kept cs e
    -- and the outputs of a run that finished are those of its output nodes
    → HasOutputs t cs budget e
    -- then it replays in its order
    → Replays s first budget t cs (order_of t cs budget e) e

-- The same for a record with its program: if its order is the right one, a check agrees with it.
abbrev pub KeptRecordsReplay : Type 0
KeptRecordsReplay = (r : Record) → IsCoherentRecord r → HasItsOutputs r → r.order ≡ order_of r.tree r.conflicts r.limits.aborts r.end → IsReplayed r

-- If a run replays, the picks of its order alone lead the machine to its end.
abbrev pub PicksLeadThere : {A : Type 0} → Strands A → Type 0
PicksLeadThere s =
    (first : List ℤ) (budget : ℕ) (t : List Node) (cs : List Conflict) (picks : Picks) (e : RecordEnd)
    → IsRooted t → IsTrue (is_strand t 0) → Replays s first budget t cs picks e → SameEnd e picks (serial_end s first picks)
