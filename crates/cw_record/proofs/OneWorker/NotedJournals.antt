-- Journals as a worker notes its accesses in them, also those of an element that is not there.
use Rattle.std.proofs.Common.{◌≡◌, ℕ, ℤ, zero, suc, ◌<◌, List, [], ◌∷◌, length, refl, ap, sym, ◌∙◌, subst, arith, Option, Some, None, true, false, nat_eq}
use Rattle.std.specs.Prelude.{slice_get, slice_set, unwrap_or, pos}
use Rattle.cw_tree.specs.declared.node.Node.{Node}
use Rattle.cw_tree.specs.declared.node.Kind.{Kind}
use Rattle.cw_tree.specs.declared.node.Kind.TheVariants.{Read, Write}
use Rattle.cw_tree.specs.declared.access.Entry.{Entry}
use Rattle.cw_tree.specs.Nodes.{touches_kind}
use Rattle.cw_tree.proofs.ChainLaws.CellJournals.{HasJournals, journals_outside}
use Rattle.cw_job.specs.Memory.{value_at}
use Rattle.cw_record.specs.Drawn.{added, noted, with_entry, entry}
use Rattle.cw_record.proofs.OneWorker.Building.{IsBuilt}
use Rattle.cw_record.proofs.OneWorker.GrowingJournals.{same_added, live_elsewhere, has_read, has_written}

-- what is there in one list is there in another one as long
pub there_too : {X Y : Type 0} (xs : List X) (ys : List Y) (c : ℕ) (x : X) → length xs ≡ length ys → slice_get xs c ≡ Some x → (y : Y) × (slice_get ys c ≡ Some y)
there_too [] ys c x len h = absurd (cc h)
there_too (z ∷ xs) [] c x len h = absurd (omega (arith, len))
there_too (z ∷ xs) (y ∷ ys) zero x len h = (y, refl)
there_too (z ∷ xs) (y ∷ ys) (suc c) x len h = there_too xs ys c x (omega (arith, len)) h

nor_there : {X Y : Type 0} (xs : List X) (ys : List Y) (c : ℕ) → length xs ≡ length ys → slice_get xs c ≡ None → slice_get ys c ≡ None
nor_there [] [] c len h = refl
nor_there [] (y ∷ ys) c len h = absurd (omega (arith, len))
nor_there (z ∷ xs) [] c len h = refl
nor_there (z ∷ xs) (y ∷ ys) zero len h = absurd (cc h)
nor_there (z ∷ xs) (y ∷ ys) (suc c) len h = nor_there xs ys c (omega (arith, len)) h

set_outside : {X : Type 0} (xs : List X) (c : ℕ) (x : X) → slice_get xs c ≡ None → slice_set xs c x ≡ xs
set_outside [] c x h = refl
set_outside (z ∷ xs) zero x h = absurd (cc h)
set_outside (z ∷ xs) (suc c) x h = ap (λ ys. z ∷ ys) (set_outside xs c x h)

module _ (t : List Node) (p clock : ℕ) (b : IsBuilt t p clock) (first memory : List ℤ) (kept : List (List Entry)) (h : HasJournals t first memory kept) (c st : ℕ) (later : clock < st) where
  outside : (kind : Kind) → slice_get kept c ≡ None → ((d : ℕ) → touches_kind d kind ≡ nat_eq c d) → HasJournals (added t p kind st) first memory kept
  outside kind none only =
      journals_outside t (added t p kind st) (same_added t p clock b p kind st) first memory kept h c (nor_there kept first c h.journals.len none) (λ d ne. live_elsewhere t p clock b p kind st c d ne (only d))

  same_len : length kept ≡ length memory
  same_len = h.journals.len ∙ sym h.len

  pub noted_read : HasJournals (added t p (Read c (value_at memory c)) st) first memory (noted kept c (entry st false (value_at memory c) (value_at memory c)))
  noted_read = by (slice_get kept c) refl where
    by : (o : Option (List Entry)) → slice_get kept c ≡ o → HasJournals (added t p (Read c (value_at memory c)) st) first memory (with_entry kept c (entry st false (value_at memory c) (value_at memory c)) o)
    by None none = outside (Read c (value_at memory c)) none (λ d. refl)
    by (Some es) journal =
        let (w, met) = there_too kept memory c es same_len journal in
        let is : value_at memory c ≡ w = ap (λ o. unwrap_or o (pos 0)) met in
        has_read t p clock b first memory kept h p c (value_at memory c) es (entry st false (value_at memory c) (value_at memory c)) st later journal (met ∙ ap Some (sym is)) (record { stamp = refl; wrote = refl; value = refl; old = refl })

  pub noted_write : (v : ℤ) → HasJournals (added t p (Write c v) st) first (slice_set memory c v) (noted kept c (entry st true v (value_at memory c)))
  noted_write v = by (slice_get kept c) refl where
    by : (o : Option (List Entry)) → slice_get kept c ≡ o → HasJournals (added t p (Write c v) st) first (slice_set memory c v) (with_entry kept c (entry st true v (value_at memory c)) o)
    by None none =
        let P : List ℤ → Type 0 = λ m. HasJournals (added t p (Write c v) st) first m kept in
        subst P (sym (set_outside memory c v (nor_there kept memory c same_len none))) (outside (Write c v) none (λ d. refl))
    by (Some es) journal =
        let (w, met) = there_too kept memory c es same_len journal in
        let is : value_at memory c ≡ w = ap (λ o. unwrap_or o (pos 0)) met in
        has_written t p clock b first memory kept h p c (value_at memory c) es (entry st true v (value_at memory c)) st later journal (met ∙ ap Some (sym is)) v (record { stamp = refl; wrote = refl; value = refl; old = refl })
