-- What a run leaves in its tree, journals, cancels and conflicts, if an access may conflict only with the newest one.
use Rattle.std.specs.Prelude.{◌≡◌, ℕ, ℤ, false, IsTrue, is_some, All, List, [], ◌∷◌, length, map, filter, slice_get, Some, unwrap_or}
use Rattle.std.specs.List.{list_any}
use Rattle.cw_tree.specs.declared.node.Node.{Node}
use Rattle.cw_tree.specs.declared.access.Entry.{Entry}
use Rattle.cw_tree.specs.declared.conflict.Conflict.{Conflict}
use Rattle.cw_tree.specs.Nodes.{is_tried, is_aborted, is_committed, all_nodes}
use Rattle.cw_tree.specs.Walks.{IsNumbered, path}
use Rattle.cw_tree.specs.Accesses.{written}
use Rattle.cw_tree.specs.AccessStacks.{access_at}
use Rattle.cw_tree.specs.Journals.{FitsCells, AreJournals, JournalsEnded}
use Rattle.cw_tree.specs.Cancels.{AreCancels}
use Rattle.cw_tree.specs.Refusals.{IsRecorded, is_victim, RollsBack}
use Rattle.cw_tree.specs.Newest.{newest}
use Rattle.cw_tree.specs.NextNodes.{IsSound}
use Rattle.cw_tree.specs.Histories.{IsHistory}
use Rattle.cw_tree.specs.InOrder.{in_order, conflicts_in_order}
use Rattle.cw_open.specs.Machine.{OpenMachine, live}
use Rattle.cw_open.specs.Laws.{NoneUndone}
use Rattle.cw_open.specs.Times.{ReachedInTime}
use Rattle.cw_open.specs.Refused.{as_told}

-- e is the entry of the access with the stamp s, which met value v
pub record IsEntryAt (t : List Node) (v : ℤ) (s : ℕ) (e : Entry) : Type 0 where
  pub stamp : e.mark.stamp ≡ s
  pub wrote : e.wrote ≡ is_some (written t (access_at t s))
  pub value : e.value ≡ unwrap_or (written t (access_at t s)) v
  pub old : e.old ≡ v

-- the entries of a list of accesses, the first of which met value v
abbrev pub AreEntriesAt : List Node → ℤ → List ℕ → List Entry → Type 0
AreEntriesAt t v [] [] = Unit {0}
AreEntriesAt t v [] (e ∷ es) = ⊥
AreEntriesAt t v (s ∷ ss) [] = ⊥
AreEntriesAt t v (s ∷ ss) (e ∷ es) = IsEntryAt t v s e × AreEntriesAt t (unwrap_or (written t (access_at t s)) v) ss es

-- the entries of each cell's list
pub record AreKept (m : OpenMachine) (kept : List (List Entry)) : Type 0 where
  pub len : length kept ≡ length m.first
  pub each : (c : ℕ) (v : ℤ) (es : List Entry) → slice_get m.first c ≡ Some v → slice_get kept c ≡ Some es → AreEntriesAt m.tree v (live m c) es

-- Conflicts as a run makes them: each refused access has one, and they are in the order of their askers' numbers. The
-- rest is as for conflicts in depth-first order.
pub record AreMade (t : List Node) (cs : List Conflict) : Type 0 where
  pub each : map (λ c. c.asker) cs ≡ filter (is_tried t) (all_nodes t)
  pub recorded : All (IsRecorded t) cs
  pub aborted : (b : ℕ) → IsTrue (is_aborted t b) → IsTrue (list_any (is_victim t cs) (path t b))
  pub committed : (b : ℕ) → IsTrue (is_committed t b) → is_victim t cs b ≡ false

-- the history of a run, as it was made
pub record IsHistoryAsMade (t : List Node) (first : List ℤ) (kept : List (List Entry)) (cs : List Conflict) : Type 0 where
  pub sound : IsSound t
  pub cells : FitsCells t (length first)
  pub journals : AreJournals t first kept
  pub ended : JournalsEnded t (length first)
  pub cancels : AreCancels t first
  pub refusals : AreMade t cs
  pub rolls_back : RollsBack t cs

-- if no undo is under way, a run leaves a history as made
abbrev pub HistoriesAreLeft : Type 0
HistoriesAreLeft =
    (first : List ℤ) (m : OpenMachine) (kept : List (List Entry)) → ReachedInTime (as_told (λ t us w. newest us)) first m → NoneUndone m → AreKept m kept
    → IsHistoryAsMade m.tree first kept m.conflicts

-- in depth-first order, with the conflicts as that lists their askers, what a run leaves is a history
abbrev pub HistoriesAreInOrder : Type 0
HistoriesAreInOrder =
    (first : List ℤ) (m : OpenMachine) (kept : List (List Entry)) → ReachedInTime (as_told (λ t us w. newest us)) first m → NoneUndone m → AreKept m kept → IsNumbered m.tree
    → IsHistory (in_order m.tree) first kept (conflicts_in_order m.tree m.conflicts)
