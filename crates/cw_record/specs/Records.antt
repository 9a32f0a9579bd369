-- What a record holds, and what is true of a run of one worker.
use Rattle.std.specs.Prelude.{◌≡◌, ℕ, suc, ◌<◌, List, [], map, length, true, Some, IsTrue}
use Rattle.cw_strand.specs.declared.want.Want.TheVariants.{Fault as AFault}
use Rattle.cw_strand.specs.Programs.{IsCompiled}
use Rattle.cw_strand.specs.Names.{first_memory}
use Rattle.cw_tree.specs.declared.node.Node.{Node}
use Rattle.cw_tree.specs.declared.access.Entry.{Entry}
use Rattle.cw_tree.specs.Nodes.{parent_of, is_strand, is_block, is_pending, is_committed}
use Rattle.cw_tree.specs.Walks.{is_ancestor}
use Rattle.cw_tree.specs.Names.{name_of}
use Rattle.cw_job.specs.Jobs.{Job, TakesWords}
use Rattle.cw_job.specs.Room.Strands.{StrandState, strands_of_job}
use Rattle.cw_serial.specs.Machine.{Machine, has_ended}
use Rattle.cw_serial.specs.StrandTree.{at}
use Rattle.cw_serial.specs.DepthFirst.{leftmost, GoesDepthFirst}
use Rattle.cw_serial.specs.MachineOf.{machine_of}
use Rattle.cw_record.specs.declared.record_end.RecordEnd.{RecordEnd}
use Rattle.cw_record.specs.declared.record_end.RecordEnd.TheVariants.{Finished, Fault, Budget, Moves}
use Rattle.cw_record.specs.declared.record.Record.{Record}
use Rattle.cw_record.specs.declared.items.OrderItem.{OrderItem}
use Rattle.cw_record.specs.Items.{items, place_of_end}
use Rattle.cw_record.specs.Order.{ending_strand}
use Rattle.cw_record.specs.Replay.{doer, DoesAll, Replays}
use Rattle.cw_record.specs.Coherent.{IsCoherent, HasOutputs}

-- the job that a record is a run of
abbrev pub job_of_record : Record → Job
job_of_record r = record { program = r.program; words = r.words; limits = r.limits }

-- One memory, in the order of the record, does what the record says, and ends as it ends.
abbrev pub IsReplayed : Record → Type 0
IsReplayed r = Replays (strands_of_job (job_of_record r)) (first_memory r.program.cells) r.limits.aborts r.tree r.conflicts r.order r.end

-- a record is coherent for the strands of its program
abbrev pub IsCoherentRun : Record → Type 0
IsCoherentRun r = IsCoherent (strands_of_job (job_of_record r)) (first_memory r.program.cells) r.limits.aborts r.tree r.journals r.conflicts r.end

-- A record is coherent, its program is a compiled one, and it has as many words as main has parameters.
pub record IsCoherentRecord (r : Record) : Type 0 where
  pub program : IsCompiled r.program
  pub words : TakesWords r.program (length r.words)
  pub coherent : IsCoherentRun r

-- the outputs of a record are those of its output nodes, in its order
abbrev pub HasItsOutputs : Record → Type 0
HasItsOutputs r = HasOutputs r.tree r.conflicts r.limits.aborts r.end

-- a run of one worker ends by itself, or at a fault
abbrev pub HasEnded : RecordEnd → Type 0
HasEnded (Finished memory outputs) = Unit {0}
HasEnded (Fault strand kind) = Unit {0}
HasEnded (Budget strand) = ⊥
HasEnded Moves = ⊥

-- Nothing is left to do in main; or the leftmost strand, which has the name of x, is at the fault.
abbrev pub StopsAt : Job → List Node → RecordEnd → Machine StrandState → Type 0
StopsAt job t (Finished memory outputs) m = (has_ended (strands_of_job job) m ≡ true) × (m.memory ≡ memory) × (m.outputs ≡ outputs)
StopsAt job t (Fault x kind) m =
    (leftmost (strands_of_job job) m.strands ≡ Some (name_of t x))
    × ((a : StrandState) × (at (strands_of_job job) m.strands (name_of t x) ≡ Some a) × ((strands_of_job job).want a ≡ AFault kind))
StopsAt job t e m = ⊥

-- The order of these items is depth first: it picks the leftmost strand, until there is none or it is at a fault. At each pick the
-- machine does what the tree has there.
pub record GoesThrough (job : Job) (t : List Node) (is : List OrderItem) (e : RecordEnd) : Type 0 where
  pub machine : Machine StrandState
  pub picks : GoesDepthFirst (strands_of_job job) (machine_of job) (map (doer t) is) machine
  pub acts : DoesAll (strands_of_job job) t (machine_of job) is machine
  pub stops : StopsAt job t e machine

abbrev pub IsDepthFirst : Record → Type 0
IsDepthFirst r = GoesThrough (job_of_record r) r.tree (items r.tree r.conflicts r.limits.aborts r.end) r.end

-- Nodes are numbered depth first: each hangs from the one before it, or from a node above that one.
abbrev pub IsNumberedDepthFirst : List Node → Type 0
IsNumberedDepthFirst t = (n : ℕ) → suc n < length t → IsTrue (is_ancestor t (parent_of t (suc n)) n)

-- the blocks around place q, or at it, are pending, and all others are committed
pub record BlocksAround (t : List Node) (q : ℕ) : Type 0 where
  pub pending : (b : ℕ) → IsTrue (is_block t b) → IsTrue (is_ancestor t b q) → IsTrue (is_pending t b)
  pub committed : (b : ℕ) → IsTrue (is_block t b) → (IsTrue (is_ancestor t b q) → ⊥) → IsTrue (is_committed t b)

-- All blocks are committed, except those around the place of a fault, which are pending.
abbrev pub BlocksEnded : List Node → RecordEnd → Type 0
BlocksEnded t e = BlocksAround t (place_of_end t [] 0 e)

-- What one worker leaves: its tree, its journals and its end. It is coherent and has its outputs, whatever the budget.
pub record IsWorkerRun (job : Job) (t : List Node) (kept : List (List Entry)) (e : RecordEnd) : Type 0 where
  pub ended : HasEnded e
  pub coherent : (budget : ℕ) → IsCoherent (strands_of_job job) (first_memory job.program.cells) budget t kept [] e
  pub outputs : (budget : ℕ) → HasOutputs t [] budget e
  pub numbered : IsNumberedDepthFirst t
  pub blocks : BlocksEnded t e
  pub strand : IsTrue (is_strand t (ending_strand e))
  pub order : (budget : ℕ) → GoesThrough job t (items t [] budget e) e
