-- A core's fields after a cancel.
use Rattle.std.proofs.Common.{◌≡◌, ℕ, ◌+◌, ◌-◌, ◌^◌, List, [], ◌∷◌, ◌++◌, length, ap, sym, ◌∙◌, subst, true, false}
use Rattle.std.specs.Prelude.{◌&&◌, not}
use Rattle.std.specs.BTreeMap.{BTreeMap, IsOrdered}
use Rattle.std.specs.Ordering.{nat_cmp}
use Rattle.std.proofs.lemmas.Bool.{and_parts, not-true}
use Rattle.cw_code.specs.declared.Back.{Back}
use Rattle.cw_tree.specs.declared.node.Kind.TheVariants.{Cancel}
use Rattle.cw_tree.specs.Nodes.{fresh_node}
use Rattle.cw_tree.specs.Series.{place}
use Rattle.cw_open.specs.Machine.{is_running, in_block, is_free}
use Rattle.cw_open.specs.Steps.{puts_back}
use Rattle.cw_core.specs.declared.event.Event.TheVariants as event
use Rattle.cw_core.specs.declared.row.Row.{Row}
use Rattle.cw_core.specs.declared.cores.Core.TheInside.{Inside}
use Rattle.cw_core.specs.State.{CoreState, waits_for_left}
use Rattle.cw_core.specs.Events.{fits, after_event}
use Rattle.cw_core.specs.Kept.{IsRow, AreParts, with_row_changed, with_tail, with_place, plain_tail, leaf_row}
use Rattle.cw_core.specs.InMemory.{state_of, IsCoreInMemory}
use Rattle.cw_core.specs.Undone.{MayUndo}
use Rattle.cw_core.specs.Touched.{AreTouched, HaveEntries, backs_of}
use Rattle.cw_core.specs.declared.beneath.Touched.{Touched}
use Rattle.cw_core.proofs.Fits.Ready.{row_there, place_there, one_more}
use Rattle.cw_core.proofs.Kept.Outputs.{cancel_parts}
use Rattle.cw_core.proofs.Kept.Rolled.{may_undo}
use Rattle.cw_core.proofs.Touched.PuttingBack.{have_entries, backs_are}
use Rattle.cw_core.proofs.InMemory.Out.{Finds, finds, seen, now_of, runs_free, max_next}

-- what a cancel needs of its strand
pub record MayCancel (k : CoreState) (s : ℕ) : Type 0 where
  pub running : is_running k.machine s ≡ true
  pub ready : waits_for_left k s ≡ false
  pub within : in_block k.machine s ≡ true

pub may_cancel : (k : CoreState) (s : ℕ) → fits k (event.Cancel s) ≡ true → MayCancel k s
may_cancel k s fit =
    let y = and_parts (is_free k.machine s && not (waits_for_left k s)) (in_block k.machine s) (now_of k (event.Cancel s) fit) in
    let z = and_parts (is_free k.machine s) (not (waits_for_left k s)) y.0 in
    record { running = runs_free k s y.0; ready = not-true (waits_for_left k s) z.1; within = y.1 }

-- what is found by the row of its strand
pub cancel_finds : (a : Inside) → IsCoreInMemory a → (k : CoreState) → state_of a ≡ k → (s : ℕ) → fits k (event.Cancel s) ≡ true → (r : Row)
    → IsRow k s r → (fits (state_of a) (event.Cancel s) ≡ true) × Finds a s r
cancel_finds a i k e s fit r row = (seen a k (λ k. fits k (event.Cancel s) ≡ true) e fit, finds a i k e s (may_cancel k s fit).running r row)

pub touched_at : (a : Inside) (s : ℕ) (r : Row) (touched : BTreeMap ℕ Touched) → Finds a s r → AreTouched a.tree r.now.place touched
    → AreTouched a.tree (place a.tree s) touched
touched_at a s r touched f are = let P : ℕ → Type 0 = λ n. AreTouched a.tree n touched in subst P f.at are

module _ (a : Inside) (i : IsCoreInMemory a) (s : ℕ) (fit : fits (state_of a) (event.Cancel s) ≡ true) where
  abbrev k : CoreState
  k = state_of a

  abbrev back : List Back
  back = puts_back k.machine s (a.clock + 1)

  running : is_running k.machine s ≡ true
  running = (may_cancel k s fit).running

  pub undoable : MayUndo a.tree (place a.tree s) a.cells.items
  undoable = let may = may_cancel k s fit in may_undo k a.rows.items a.forks.items a.cells.items a.spent i s may.running may.ready may.within

  module _ (touched : BTreeMap ℕ Touched) (are : AreTouched a.tree (place a.tree s) touched) where
    pub cancel_entries : HaveEntries touched a.cells.items
    cancel_entries = let may = may_cancel k s fit in have_entries k a.rows.items a.forks.items a.cells.items
        a.spent i s may.running may.ready may.within touched are

    pub cancel_backs : IsOrdered nat_cmp touched → backs_of a.cells.items touched.entries ≡ back
    cancel_backs = let may = may_cancel k s fit in backs_are k a.rows.items a.forks.items a.cells.items a.spent i s may.running may.ready may.within touched are

  pub cancel_state : (b : Inside) → b.tree ≡ a.tree ++ fresh_node (place a.tree s) (Cancel back) (a.clock + 1) ∷ [] → b.clock ≡ a.clock + 1
      → state_of (record a { tree = b.tree; clock = b.clock; rows = b.rows }) ≡ after_event k (event.Cancel s)
  cancel_state b grown drawn =
      ap (λ t. state_of (record a { tree = t; clock = b.clock; rows = b.rows })) grown
      ∙ ap (λ n. state_of (record a { tree = a.tree ++ fresh_node (place a.tree s) (Cancel back) (a.clock + 1) ∷ []; clock = n; rows = b.rows }))
      (drawn ∙ max_next a.clock)

  pub cancel_kept : (b : Inside) → b.tree ≡ a.tree ++ fresh_node (place a.tree s) (Cancel back) (a.clock + 1) ∷ [] → b.clock ≡ a.clock + 1
      → (length a.tree ≡ 2 ^ 32 - 1 → ⊥)
      → b.rows.items ≡ with_row_changed (with_place (place a.tree s)) s (with_row_changed (with_tail plain_tail) (place a.tree s) a.rows.items ++ leaf_row s 0 ∷ [])
      → IsCoreInMemory (record a { tree = b.tree; clock = b.clock; rows = b.rows })
  cancel_kept b grown drawn full rows =
      let r = row_there k a.rows.items a.forks.items a.cells.items a.spent i (place a.tree s) (place_there k a.rows.items a.forks.items
      a.cells.items a.spent i s running) in
      let parts = cancel_parts k a.rows.items a.forks.items a.cells.items a.spent i s fit r.0 r.1 (one_more (length a.tree) i.few full) in
      let P : CoreState → Type 0 = λ z. AreParts z b.rows.items a.forks.items a.cells.items a.spent in
      let Q : List Row → Type 0 = λ rs. AreParts (after_event k (event.Cancel s)) rs a.forks.items a.cells.items a.spent in
      subst P (sym (cancel_state b grown drawn)) (subst Q (sym rows) parts)
