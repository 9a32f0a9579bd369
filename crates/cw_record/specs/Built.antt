-- The record of a closed run: which closed runs have one, what it says of memory and outputs, and how it says that the run ended.
use Rattle.std.specs.Prelude.{◌≡◌, ℕ, ℤ, Bool, IsTrue, List, [], ◌∷◌, Option, Some, None}
use Rattle.cw_strand.specs.Names.{first_memory}
use Rattle.cw_strand.specs.Strands.{Strands}
use Rattle.cw_tree.specs.declared.node.Node.{Node}
use Rattle.cw_tree.specs.declared.access.Entry.{Entry}
use Rattle.cw_tree.specs.declared.conflict.Conflict.{Conflict}
use Rattle.cw_tree.specs.declared.closed.Closed.{Closed}
use Rattle.cw_tree.specs.declared.closed.Halt.{Halt}
use Rattle.cw_tree.specs.declared.closed.Halt.TheVariants as stop
use Rattle.cw_tree.specs.Nodes.{is_strand}
use Rattle.cw_tree.specs.Walks.{IsNumbered}
use Rattle.cw_tree.specs.Histories.{IsHistory}
use Rattle.cw_tree.specs.Refusals.{MayFault, MaySpend}
use Rattle.cw_tree.specs.InOrder.{in_order, conflicts_in_order, halt_in_order}
use Rattle.cw_open.specs.Machine.{OpenMachine}
use Rattle.cw_job.specs.Jobs.{Job}
use Rattle.cw_job.specs.Room.Strands.{strands_of_job}
use Rattle.cw_record.specs.declared.record_end.RecordEnd.{RecordEnd}
use Rattle.cw_record.specs.declared.record_end.RecordEnd.TheVariants.{Finished}
use Rattle.cw_record.specs.Items.{items}
use Rattle.cw_record.specs.Coherent.{outputs_shown, Follows, EndStands}
use Rattle.cw_record.specs.ClosedRun.{IsClosedRun, end_after}

-- A run that stopped because memory ran out has no record. A strand at which a run stopped is one of its tree.
abbrev pub HasRecord : List Node → Option Halt → Type 0
HasRecord t None = Unit {0}
HasRecord t (Some (stop.Fault x kind)) = IsTrue (is_strand t x)
HasRecord t (Some (stop.Budget x)) = IsTrue (is_strand t x)
HasRecord t (Some stop.Memory) = ⊥

-- the value of a cell after these accesses of it, if it was v before
abbrev pub value_left : ℤ → List Entry → ℤ
value_left v [] = v
value_left v (e ∷ es) = value_left e.value es

-- what each cell holds after its journal, or its first value if it has none
abbrev pub memory_left : (first : List ℤ) → List (List Entry) → List ℤ
memory_left vs [] = vs
memory_left [] (es ∷ kept) = []
memory_left (v ∷ vs) (es ∷ kept) = value_left v es ∷ memory_left vs kept

-- the outputs of a run that finished: those of its output nodes, in its order
abbrev pub outputs_left : List Node → List Conflict → (budget : ℕ) → List ℤ
outputs_left t cs budget = outputs_shown t (items t cs budget (Finished [] []))

-- the end, with this memory and these outputs if the run finished
abbrev pub with_left : RecordEnd → (memory outputs : List ℤ) → RecordEnd
with_left (Finished m o) memory outputs = Finished memory outputs
with_left e memory outputs = e

-- how a closed run ended, and what it left if it finished
abbrev pub end_left : (first : List ℤ) → (budget : ℕ) → Closed → (spent : Bool) → RecordEnd
end_left first budget c spent = end_after c.halt spent (memory_left first c.journals) (outputs_left c.tree c.conflicts budget)

-- A closed run of this job, which left this machine and halt, leaves c in depth-first order.
pub record IsLeftBy (job : Job) (spent : Bool) (m : OpenMachine) (h : Option Halt) (c : Closed) : Type 0 where
  pub numbered : IsNumbered m.tree
  pub tree : c.tree ≡ in_order m.tree
  pub conflicts : c.conflicts ≡ conflicts_in_order m.tree m.conflicts
  pub halt : c.halt ≡ halt_in_order m.tree h
  pub run : IsClosedRun (strands_of_job job) (first_memory job.program.cells) job.limits.aborts m c.journals h spent

-- Strands may leave c, over a memory with these first values, if each may have `budget` attempts. The tree is a history, the run
-- may have stopped that way, and each strand did what it wanted and is where the end says. How the strands were run is left open.
pub record AreLeft {A : Type 0} (s : Strands A) (first : List ℤ) (budget : ℕ) (spent : Bool) (c : Closed) : Type 0 where
  pub history : IsHistory c.tree first c.journals c.conflicts
  pub faulted : MayFault c.tree c.halt
  pub spends : MaySpend c.tree c.conflicts budget c.halt
  pub strands : (before after reached : ℕ → A) × Follows s c.tree before after reached × EndStands s c.tree before after reached (end_left first budget c spent)
