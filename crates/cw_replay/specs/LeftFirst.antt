-- Records of runs in which left strands went first: their order is the depth-first one.
use Rattle.std.specs.Prelude.{◌≡◌, ◌⊎◌, ℕ, ℤ, ◌<◌, Bool, IsTrue, List, [], map, length, Option, Some}
use Rattle.cw_code.specs.declared.FaultKind.{FaultKind}
use Rattle.cw_strand.specs.Names.{first_memory}
use Rattle.cw_strand.specs.Strands.{Strands}
use Rattle.cw_tree.specs.declared.node.Node.{Node}
use Rattle.cw_tree.specs.declared.access.Entry.{Entry}
use Rattle.cw_tree.specs.declared.conflict.Conflict.{Conflict}
use Rattle.cw_tree.specs.declared.closed.Halt.{Halt}
use Rattle.cw_tree.specs.declared.closed.Halt.TheVariants.{Fault}
use Rattle.cw_tree.specs.Nodes.{stamp_of, is_strand}
use Rattle.cw_tree.specs.Walks.{IsNumbered}
use Rattle.cw_tree.specs.Names.{name_of}
use Rattle.cw_tree.specs.Refusals.{MayFault}
use Rattle.cw_tree.specs.Histories.{IsHistory}
use Rattle.cw_tree.specs.InOrder.{in_order, conflicts_in_order, halt_in_order}
use Rattle.cw_open.specs.Machine.{OpenMachine}
use Rattle.cw_open.specs.LeftFirst.{lefts_have_finished, IsLeftOf, LeftsAreOlder, LeftsHaveFinished}
use Rattle.cw_job.specs.Jobs.{Job}
use Rattle.cw_job.specs.Room.Strands.{strands_of_job}
use Rattle.cw_record.specs.declared.items.OrderItem.{OrderItem}
use Rattle.cw_record.specs.declared.record_end.RecordEnd.{RecordEnd}
use Rattle.cw_record.specs.declared.record_end.RecordEnd.TheVariants.{Finished, Fault as Faulted}
use Rattle.cw_record.specs.Items.{items, place_of_end}
use Rattle.cw_record.specs.Coherent.{Follows, EndStands, StrandEnded, HasMemory, HasOutputs, IsMemory, halt_of}
use Rattle.cw_record.specs.ClosedRun.{IsClosedRun, end_after}
use Rattle.cw_record.specs.Replay.{doer}
use Rattle.cw_record.specs.Records.{HasEnded, GoesThrough}

-- if the run ended at place p, each strand to the left of p, or of a stamp, has ended
abbrev pub LeftsHaveEnded : {A : Type 0} → Strands A → List Node → (before after reached : ℕ → A) → (p : ℕ) → Type 0
LeftsHaveEnded s t before after reached p =
    (x n : ℕ) → IsTrue (is_strand t x) → n < length t → IsLeftOf t x n → (0 < stamp_of t n) ⊎ (n ≡ p) → StrandEnded s t before after reached x

-- What a record keeps is coherent, and left strands went first in its run: everything to the left of a stamp is older, and has
-- ended.
pub record WentLeftFirst {A : Type 0} (s : Strands A) (first : List ℤ) (budget : ℕ) (t : List Node) (kept : List (List Entry)) (cs : List Conflict) (e : RecordEnd) : Type 0 where
  pub history : IsHistory t first kept cs
  pub faulted : MayFault t (halt_of e)
  pub memory : HasMemory t first e
  pub older : LeftsAreOlder t
  pub strands : (before after reached : ℕ → A) × Follows s t before after reached × EndStands s t before after reached e × LeftsHaveEnded s t before after reached (place_of_end t cs budget e)

-- If such a run ended by itself or at a fault, its order is the depth-first one.
abbrev pub LeftFirstIsDepthFirst : Type 0
LeftFirstIsDepthFirst =
    (job : Job) (budget : ℕ) (t : List Node) (kept : List (List Entry)) (cs : List Conflict) (e : RecordEnd)
    → WentLeftFirst (strands_of_job job) (first_memory job.program.cells) budget t kept cs e → HasOutputs t cs budget e → HasEnded e
    → GoesThrough job t (items t cs budget e) e

-- ## Closed runs

-- Left strands went first in a run that left this machine, and that was stopped by h or not at all. No access was refused.
-- Everything to the left of a stamp is older, and each strand there has finished, as has each strand to the left of one that came
-- to a fault.
pub record CameLeftFirst (m : OpenMachine) (h : Option Halt) : Type 0 where
  pub unrefused : m.conflicts ≡ []
  pub older : LeftsAreOlder m.tree
  pub finished : LeftsHaveFinished m
  pub faulted : (x : ℕ) (kind : FaultKind) → h ≡ Some (Fault x kind) → IsTrue (lefts_have_finished m x)

-- In depth-first order, the tree of such a closed run, with its journals, is that of a run in which left strands went first.
abbrev pub ClosedWentLeftFirst : Type 0 → Type 0
ClosedWentLeftFirst A =
    (s : Strands A) (first : List ℤ) (budget : ℕ) (m : OpenMachine) (kept : List (List Entry)) (h : Option Halt) (spent : Bool) (memory outputs : List ℤ)
    → IsNumbered m.tree → IsClosedRun s first budget m kept h spent → CameLeftFirst m h → IsMemory m.tree first memory
    → WentLeftFirst s first budget (in_order m.tree) kept (conflicts_in_order m.tree m.conflicts) (end_after (halt_in_order m.tree h) spent memory outputs)

-- ## Two runs

-- the same end, if strands go by their names
abbrev pub SameEnding : (t u : List Node) → RecordEnd → RecordEnd → Type 0
SameEnding t u (Finished memory outputs) (Finished other shown) = (memory ≡ other) × (outputs ≡ shown)
SameEnding t u (Faulted x kind) (Faulted y other) = (name_of t x ≡ name_of u y) × (kind ≡ other)
SameEnding t u d e = ⊥

-- If the orders of two runs of one job are the depth-first one, the runs have the same picks, by their names, and the same end.
abbrev pub DepthFirstIsOne : Type 0
DepthFirstIsOne =
    (job : Job) (t u : List Node) (is js : List OrderItem) (d e : RecordEnd) → GoesThrough job t is d → GoesThrough job u js e → (map (doer t) is ≡ map (doer u) js) × SameEnding t u d e
