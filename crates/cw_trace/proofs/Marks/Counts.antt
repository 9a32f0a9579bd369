-- How many columns name a trace, as that changes, and whose a mark is.
use Rattle.std.proofs.Common.{◌≡◌, ◌≢◌, ℕ, zero, suc, ◌+◌, ◌<◌, ◌≤◌, List, [], ◌∷◌, ◌++◌, length, refl, ap, ◌∙◌, arith, Bool, true, false, Option, Some, None, inl, inr}
use Rattle.std.specs.Prelude.{◌⊎◌, ◌/◌, ◌%◌, is_some, slice_set}
use Rattle.std.specs.List.{slice_get}
use Rattle.std.proofs.lemmas.Option.{slice_get_past}
use Rattle.cw_tree.specs.Walks.{has}
use Rattle.cw_tree.proofs.NextNodes.Closing.{get_set_other}
use Rattle.cw_trace.specs.declared.tier.Trace.{Trace}
use Rattle.cw_trace.specs.Columns.{ColumnTable, used, trace_in, is_trace, opening_mark, closing_mark, marks}
use Rattle.cw_trace.specs.Tier.{trace_count, AreSound}
use Rattle.cw_trace.proofs.Marks.Edits.{set_get_same}
use Rattle.cw_trace.proofs.Segments.Lines.{le_or_lt}
use Rattle.cw_trace.proofs.Marks.Numbering.{has_here, has_later}
use Rattle.cw_trace.proofs.Segments.Nested.{whose}

-- ## How many name a trace

abbrev pub named_at : List (Option Trace) → ℕ → Bool
named_at ts i = is_some (trace_in (slice_get ts i))

pub count_keep : (ts : List (Option Trace)) (i : ℕ) (x : Trace) → named_at ts i ≡ true → trace_count (slice_set ts i (Some x)) ≡ trace_count ts
count_keep [] i x h = refl
count_keep (None ∷ ts) zero x h = absurd (cc h)
count_keep (Some y ∷ ts) zero x h = refl
count_keep (None ∷ ts) (suc i) x h = count_keep ts i x h
count_keep (Some y ∷ ts) (suc i) x h = ap suc (count_keep ts i x h)

pub count_fill : (ts : List (Option Trace)) (i : ℕ) (x : Trace) → i < length ts → named_at ts i ≡ false → trace_count (slice_set ts i (Some x)) ≡ suc (trace_count ts)
count_fill [] i x l h = absurd (omega arith)
count_fill (None ∷ ts) zero x l h = refl
count_fill (Some y ∷ ts) zero x l h = absurd (cc h)
count_fill (None ∷ ts) (suc i) x l h = count_fill ts i x (omega arith) h
count_fill (Some y ∷ ts) (suc i) x l h = ap suc (count_fill ts i x (omega arith) h)

pub count_clear : (ts : List (Option Trace)) (i : ℕ) → named_at ts i ≡ true → suc (trace_count (slice_set ts i None)) ≡ trace_count ts
count_clear [] i h = absurd (cc h)
count_clear (None ∷ ts) zero h = absurd (cc h)
count_clear (Some y ∷ ts) zero h = refl
count_clear (None ∷ ts) (suc i) h = count_clear ts i h
count_clear (Some y ∷ ts) (suc i) h = ap suc (count_clear ts i h)

pub count_le : (ts : List (Option Trace)) → trace_count ts ≤ length ts
count_le [] = omega arith
count_le (None ∷ ts) = let l = count_le ts in omega arith
count_le (Some y ∷ ts) = let l = count_le ts in omega arith

pub count_none : (ts : List (Option Trace)) → trace_count (ts ++ None ∷ None ∷ []) ≡ trace_count ts
count_none [] = refl
count_none (None ∷ ts) = count_none ts
count_none (Some y ∷ ts) = ap suc (count_none ts)

pub named_same : (ts : List (Option Trace)) (i j : ℕ) (v : Option Trace) → j ≢ i → named_at (slice_set ts i v) j ≡ named_at ts j
named_same ts i j v n = ap (λ o. is_some (trace_in o)) (get_set_other ts i j v n)

pub named_set : (ts : List (Option Trace)) (i : ℕ) (v : Option Trace) → i < length ts → named_at (slice_set ts i v) i ≡ is_some v
named_set ts i v h = ap (λ o. is_some (trace_in o)) (set_get_same ts i v h)

pub named_low : (ts : List (Option Trace)) (i : ℕ) → named_at ts i ≡ true → i < length ts
named_low ts i h = elim (le_or_lt (length ts) i) [ inl l ↦ absurd (cc (ap (λ o. is_some (trace_in o)) (slice_get_past ts i l), h)) | inr l ↦ l ]

-- the lists that go with the owners
pub record SameLengths (c : ColumnTable) : Type 0 where
  pub parents : length c.parents ≡ used c
  pub traces : length c.traces ≡ used c
  pub outers : length c.outers ≡ used c

pub odd_next : (f n : ℕ) → f % 2 ≡ 1 → f < n → n % 2 ≡ 1 → f + 1 < n
odd_next f n a b e = omega arith

pub half_opening : (x : ℕ) → opening_mark x / 2 ≡ x
half_opening x = omega arith

pub half_closing : (x : ℕ) → closing_mark x / 2 ≡ x
half_closing x = omega arith

-- a mark of the fork's two traces
pub half_marks : (f b : ℕ) → has (marks f) b ≡ true → (b / 2 ≡ f) ⊎ (b / 2 ≡ f + 1)
half_marks f b h =
    let w = whose f b h in
    let half : b / 2 ≡ w.0 = elim w.2 [ inl e ↦ ap (λ n. n / 2) e ∙ half_opening w.0 | inr e ↦ ap (λ n. n / 2) e ∙ half_closing w.0 ] in
    elim w.1 [ inl e ↦ inl (half ∙ e) | inr e ↦ inr (half ∙ e) ]

pub marks_has : (f : ℕ) → (has (marks f) (opening_mark f) ≡ true) × (has (marks f) (closing_mark f) ≡ true) × (has (marks f) (opening_mark (f + 1)) ≡ true) × (has (marks f) (closing_mark (f + 1)) ≡ true)
marks_has f =
    let last = closing_mark (f + 1) ∷ [] in
    let two = opening_mark (f + 1) ∷ last in
    let three = closing_mark f ∷ two in (
      has_here (opening_mark f) three (opening_mark f) refl,
      has_later (opening_mark f) three (closing_mark f) (has_here (closing_mark f) two (closing_mark f) refl),
      has_later (opening_mark f) three (opening_mark (f + 1)) (has_later (closing_mark f) two (opening_mark (f + 1)) (has_here (opening_mark (f + 1)) last (opening_mark (f + 1)) refl)),
      has_later (opening_mark f) three (closing_mark (f + 1)) (has_later (closing_mark f) two (closing_mark (f + 1)) (has_later (opening_mark (f + 1)) last (closing_mark (f + 1)) (has_here (closing_mark (f + 1)) [] (closing_mark (f + 1)) refl))),
    )

module _ (c : ColumnTable) (s : AreSound c) (l : SameLengths c) where
  -- a mark of what names no trace is not there
  pub lacks_mark : (x b : ℕ) → is_trace c x ≡ false → b / 2 ≡ x → has c.brackets b ≡ false
  lacks_mark x b h e = by_case (has c.brackets b) refl where
    by_case : (v : Bool) → has c.brackets b ≡ v → has c.brackets b ≡ false
    by_case false q = q
    by_case true q = absurd (cc (s.only b q, ap (is_trace c) e, h))
