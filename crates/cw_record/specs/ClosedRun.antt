-- A closed run of a program's strands: the state of the open machine in which the run was left, what its strands did, and how it
-- ended.
use Rattle.std.specs.Prelude.{◌≡◌, ℕ, ℤ, ◌<◌, ◌&&◌, ◌||◌, Bool, true, false, not, IsTrue, List, [], ◌∷◌, length, slice_get, Option, Some, None}
use Rattle.cw_strand.specs.declared.want.Want.TheVariants as want
use Rattle.cw_strand.specs.Strands.{Strands, is_over}
use Rattle.cw_tree.specs.declared.node.Node.{Node}
use Rattle.cw_tree.specs.declared.access.Entry.{Entry}
use Rattle.cw_tree.specs.declared.closed.Halt.{Halt}
use Rattle.cw_tree.specs.declared.closed.Halt.TheVariants as halt
use Rattle.cw_tree.specs.Nodes.{is_strand, is_block}
use Rattle.cw_tree.specs.Walks.{has, IsNumbered}
use Rattle.cw_tree.specs.Series.{children, place}
use Rattle.cw_tree.specs.Newest.{newest}
use Rattle.cw_tree.specs.InOrder.{in_order, conflicts_in_order, halt_in_order}
use Rattle.cw_open.specs.Machine.{OpenMachine, has_finished, finished_dead, is_free}
use Rattle.cw_open.specs.Laws.{NoneUndone}
use Rattle.cw_open.specs.Times.{ReachedInTime}
use Rattle.cw_open.specs.Refused.{as_told, unstopped}
use Rattle.cw_open.specs.Left.{AreKept}
use Rattle.cw_open.specs.Spent.{HasSpent}
use Rattle.cw_record.specs.declared.record_end.RecordEnd.{RecordEnd}
use Rattle.cw_record.specs.declared.record_end.RecordEnd.TheVariants.{Finished, Fault, Budget, Moves}
use Rattle.cw_record.specs.Coherent.{InSeries, IsWanted, entered, IsMemory, IsCoherent}

-- ## What strands did

-- As in a coherent record, each node has the state of its strand before it and the one after it. A strand or block also has the one
-- that was reached in it.
module _ {A : Type 0} (s : Strands A) (m : OpenMachine) (before after reached : ℕ → A) where
  pub record AreStates : Type 0 where
    pub start : before 0 ≡ s.start
    pub series : (n : ℕ) → n < length m.tree → IsTrue (is_strand m.tree n || is_block m.tree n) → InSeries before after (entered s m.tree before after reached n) (children m.tree n) (reached n)
    pub fits : (n : ℕ) (x : Node) → slice_get m.tree n ≡ Some x → IsWanted s m.tree before after reached n x.kind x.state
    -- after a joined fork comes what its strands join to, if none of them died
    pub joined : (f l r : ℕ) → IsTrue (has m.joined f) → children m.tree f ≡ l ∷ r ∷ [] → finished_dead m l ≡ false → finished_dead m r ≡ false → after f ≡ s.joined (reached r) (reached l)
    -- a strand that finished and did not die is over
    pub over : (x : ℕ) → IsTrue (is_strand m.tree x && has_finished m x && not (finished_dead m x)) → IsTrue (is_over (s.want (reached x)))

  -- ## How it ended

  -- A fault is what its strand wants, and that strand may go on. If nothing stopped the run, either its moves were spent before the
  -- root had finished, or the root finished.
  abbrev pub EndsSo : (budget : ℕ) → Option Halt → (spent : Bool) → Type 0
  EndsSo budget (Some (halt.Fault x kind)) spent = IsTrue (is_free (unstopped m) x) × (s.want (reached (place m.tree x)) ≡ want.Fault kind)
  EndsSo budget (Some (halt.Budget x)) spent = HasSpent m budget x
  EndsSo budget (Some halt.Memory) spent = ⊥
  EndsSo budget None true = IsTrue (not (has_finished m 0))
  EndsSo budget None false = IsTrue (has_finished m 0 && not (finished_dead m 0))

-- ## A closed run

-- A run of these strands was left in this state, with these entries of its cells, over a memory with these first values. A strand
-- may have `budget` attempts, which matters only if a spent budget stopped the run.
pub record IsClosedRun {A : Type 0} (s : Strands A) (first : List ℤ) (budget : ℕ) (m : OpenMachine) (kept : List (List Entry)) (h : Option Halt) (spent : Bool) : Type 0 where
  pub reached : ReachedInTime (as_told (λ t us w. newest us)) first m
  -- no undo is under way
  pub complete : NoneUndone m
  pub entries : AreKept m kept
  pub states : (before after reached : ℕ → A) × AreStates s m before after reached × EndsSo s m before after reached budget h spent

-- how a run ended: as it was stopped; otherwise its moves were spent; otherwise it finished
abbrev pub end_after : Option Halt → (spent : Bool) → (memory outputs : List ℤ) → RecordEnd
end_after (Some (halt.Fault x kind)) spent memory outputs = Fault x kind
end_after (Some (halt.Budget x)) spent memory outputs = Budget x
end_after (Some halt.Memory) spent memory outputs = Moves
end_after None true memory outputs = Moves
end_after None false memory outputs = Finished memory outputs

-- The tree of a closed run in depth-first order, with its journals and conflicts, is coherent, whatever its end.
abbrev pub ClosedAreCoherent : Type 0 → Type 0
ClosedAreCoherent A =
    (s : Strands A) (first : List ℤ) (budget : ℕ) (m : OpenMachine) (kept : List (List Entry)) (h : Option Halt) (spent : Bool) (memory outputs : List ℤ)
    → IsNumbered m.tree → IsClosedRun s first budget m kept h spent → IsMemory m.tree first memory
    → IsCoherent s first budget (in_order m.tree) kept (conflicts_in_order m.tree m.conflicts) (end_after (halt_in_order m.tree h) spent memory outputs)
