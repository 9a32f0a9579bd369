-- The entries of a core's cells are the journals of their live accesses.
use Rattle.std.proofs.Common.{◌≡◌, ℕ, suc, List, [], ◌∷◌, map, refl, ap, sym, ◌∙◌, Bool, true, false, cond, Some, None}
use Rattle.std.specs.Prelude.{ℤ, slice_get, is_some, unwrap_or}
use Rattle.cw_tree.specs.declared.access.Mark.{Mark}
use Rattle.cw_tree.specs.declared.access.Entry.{Entry}
use Rattle.cw_tree.specs.Accesses.{written}
use Rattle.cw_tree.specs.Shape.{AreStamps}
use Rattle.cw_tree.specs.AccessStacks.{access_at, written_by, stamps}
use Rattle.cw_open.proofs.Laws.Named.{access_named}
use Rattle.cw_stack.specs.Cells.{CellParts, entry_of, AreSteps}
use Rattle.cw_core.specs.declared.cores.Core.TheInside.{Inside}
use Rattle.cw_core.specs.State.{CoreState, column_of}
use Rattle.cw_core.specs.Kept.{IsEntryOf, IsHeld}
use Rattle.cw_core.specs.InMemory.{state_of, IsCoreInMemory}
use Rattle.cw_core.specs.Closing.{journal, journals, journals_of}
use Rattle.cw_core.proofs.Events.Going.{well}

-- an entry says whether there was a write
wrote_is : (b : Bool) (v : ℤ) → is_some (cond b (Some v) None) ≡ b
wrote_is true v = refl
wrote_is false v = refl

module _ (k : CoreState) (stamped : AreStamps k.machine.tree) (c : ℕ) where
  abbrev u : Entry → ℕ
  u e = access_at k.machine.tree e.mark.stamp

  named : (e : Entry) → (h : IsEntryOf k c e) → u e ≡ h.node
  named e h = ap (access_at k.machine.tree) (sym h.stamp) ∙ access_named k.machine.tree stamped c h.node h.touches

  wrote : (e : Entry) → IsEntryOf k c e → written k.machine.tree (u e) ≡ written_by e
  wrote e h = ap (written k.machine.tree) (named e h) ∙ h.wrote

  entry_is : (v : ℤ) (e : Entry) → IsEntryOf k c e → e.old ≡ v → e.value ≡ unwrap_or (written_by e) v → entry_of (record { strand = column_of k (u e); stamp = e.mark.stamp }) (written k.machine.tree (u e)) v ≡ e
  entry_is v e h old value =
      ap (λ x. let mark : Mark = record { strand = x; stamp = e.mark.stamp } in entry_of mark (written k.machine.tree (u e)) v) (ap (column_of k) (named e h) ∙ h.strand)
      ∙ ap (λ w. entry_of e.mark w v) (wrote e h)
      ∙ ap (λ b. let z : Entry = record { mark = e.mark; wrote = b; value = unwrap_or (written_by e) v; old = v } in z) (wrote_is e.wrote e.value)
      ∙ ap (λ x. let z : Entry = record { mark = e.mark; wrote = e.wrote; value = x; old = v } in z) (sym value)
      ∙ ap (λ x. let z : Entry = record { mark = e.mark; wrote = e.wrote; value = e.value; old = x } in z) (sym old)

  journal_is : (v : ℤ) (es : List Entry) → ((i : ℕ) (e : Entry) → slice_get es i ≡ Some e → IsEntryOf k c e) → AreSteps v es → es ≡ journal k v (stamps es)
  journal_is v [] h steps = refl
  journal_is v (e ∷ es) h steps =
      let first = h 0 e refl in
      let rest = journal_is (unwrap_or (written_by e) v) es (λ i x at. h (suc i) x at) steps.2 in
      sym (ap (λ x. x ∷ journal k (unwrap_or (written k.machine.tree (u e)) v) (stamps es)) (entry_is v e first steps.0 steps.1)
      ∙ ap (λ w. e ∷ journal k (unwrap_or w v) (stamps es)) (wrote e first)
      ∙ ap (λ xs. e ∷ xs) (sym rest))

pub journals_are : (k : CoreState) → AreStamps k.machine.tree → (cells : List CellParts) → ((i : ℕ) (x : CellParts) → slice_get cells i ≡ Some x → (c : ℕ) × IsHeld k c x) → ((i : ℕ) (x : CellParts) → slice_get cells i ≡ Some x → AreSteps x.first x.entries)
    → map (λ x. x.entries) cells ≡ journals k (map (λ x. x.first) cells) (map (λ x. stamps x.entries) cells)
journals_are k stamped [] held steps = refl
journals_are k stamped (x ∷ cells) held steps =
    let h = held 0 x refl in
    ap (λ es. es ∷ map (λ x. x.entries) cells) (journal_is k stamped h.0 x.first x.entries h.1.entries (steps 0 x refl))
    ∙ ap (λ xs. journal k x.first (stamps x.entries) ∷ xs) (journals_are k stamped cells (λ i y at. held (suc i) y at) (λ i y at. steps (suc i) y at))

-- so they are where each cell's entries are steps from its first value
pub closed_journals : (a : Inside) → IsCoreInMemory a → ((i : ℕ) (x : CellParts) → slice_get a.cells.items i ≡ Some x → AreSteps x.first x.entries) → map (λ x. x.entries) a.cells.items ≡ journals_of (state_of a)
closed_journals a w steps =
    let k = state_of a in
    journals_are k (well k.machine.first k w.core).sound.stamps a.cells.items (λ i x at. (i, w.held i x at)) steps
