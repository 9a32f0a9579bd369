-- Serves `IsChanged`: which columns name no trace after a fork, a split or a merge, and what their words are.
use Rattle.std.proofs.Common.{◌≡◌, ◌∙◌, ◌+◌, ◌++◌, ◌∷◌, [], List, ℕ, zero, suc, ap, refl, sym, subst, arith, Bool, false, length-append, inl, inr}
use Rattle.std.specs.Prelude.{is_some, slice_index, slice_set, Option, Some, None, OnOk, Result, Ok, Err, if◌then◌else◌}
use Rattle.std.proofs.lemmas.Bool.{cases_eq}
use Rattle.std.proofs.lemmas.List.{length-map}
use Rattle.cw_trace.specs.declared.tier.Trace.{Trace}
use Rattle.cw_trace.specs.Columns.{ColumnTable, back_to, around_fork, closing_mark, forked, is_trace, lead_in, merged, opening_mark, owner, split_at, trace, up_in, used}
use Rattle.cw_trace.specs.Labels.{AreLabels}
use Rattle.cw_trace.specs.Touched.{TouchedAreListed}
use Rattle.cw_trace.specs.Traces.{Traces}
use Rattle.cw_trace.proofs.Marks.Counts.{named_at, named_same}
use Rattle.cw_trace.proofs.Marks.Edits.{length_parts}
use Rattle.cw_trace.proofs.Segments.Lines.{le_or_lt}
use Rattle.cw_steps.specs.declared.places.Place.TheVariants.{Lead, Up, Opening, Closing}
use Rattle.cw_steps.specs.Words.{as_word, row_of, row_value}
use Rattle.cw_board.specs.Turns.{IsChanged, UnnamedAsBefore}

-- ## Which columns name none

-- a column that names no trace now, after some column was set to name one, named none before
unnamed_set : (ts : List (Option Trace)) (j i : ℕ) (x : Trace) → named_at (slice_set ts j (Some x)) i ≡ false → named_at ts i ≡ false
unnamed_set [] j i x e = e
unnamed_set (o ∷ ts) zero zero x e = absurd (cc e)
unnamed_set (o ∷ ts) zero (suc i) x e = e
unnamed_set (o ∷ ts) (suc j) zero x e = e
unnamed_set (o ∷ ts) (suc j) (suc i) x e = unnamed_set ts j i x e

-- one that names none among more columns names none among the first of them
unnamed_append : (ts us : List (Option Trace)) (i : ℕ) → named_at (ts ++ us) i ≡ false → named_at ts i ≡ false
unnamed_append [] us i e = refl
unnamed_append (o ∷ ts) us zero e = e
unnamed_append (o ∷ ts) us (suc i) e = unnamed_append ts us i e

forked_unnamed : (word p : ℕ) (c : ColumnTable) → UnnamedAsBefore (used c) c (forked word p c)
forked_unnamed word p c i less e = elim (le_or_lt (used c) i) [
  | inr low ↦ inr (inr (low, unnamed_append c.traces (None ∷ None ∷ []) i e))
  | inl high ↦ elim (cases_eq i (used c)) [
    | inl same ↦ inl same
    | inr other ↦ inr (inl (omega (arith, high, other, less, length-append c.owners (owner c p ∷ owner c p ∷ []))))
  ]
]

split_unnamed : (f : ℕ) (c : ColumnTable) → UnnamedAsBefore f c (split_at f c)
split_unnamed f c i less e =
    inr (inr (omega (arith, less, length_parts (owner c f) f 0 c.owners), unnamed_set c.traces (owner c f) i _ (unnamed_set _ f i _ (unnamed_set _ (f + 1) i _ e))))

merged_unnamed : (f : ℕ) (c : ColumnTable) → UnnamedAsBefore f c (merged f c)
merged_unnamed f c i less e = elim (cases_eq i f) [
  | inl left ↦ inl left
  | inr none ↦ elim (cases_eq i (f + 1)) [
    | inl right ↦ inr (inl right)
    | inr nor ↦ inr (inr (
      omega (arith, less, length-map c.owners (back_to (around_fork c f) f)),
      unnamed_set c.traces (around_fork c f) i _ (sym (named_same _ f i None none) ∙ sym (named_same _ (f + 1) i None nor) ∙ e),
    ))
  ]
]

-- ## The words of a column that names none

module _ (x : Traces) (i : ℕ) (unnamed : is_trace x.columns i ≡ false) where
  none_of : (o : Option Trace) → is_some o ≡ false → o ≡ None
  none_of None e = refl
  none_of (Some y) e = absurd (cc e)

  -- all but that of its owner
  pub lead_blank : row_value (row_of x i) (Lead i) ≡ 0
  lead_blank = ap (λ o. as_word (lead_in o)) (none_of (trace x.columns i) unnamed)

  pub up_blank : row_value (row_of x i) (Up i) ≡ 0
  up_blank = ap (λ o. as_word (up_in o)) (none_of (trace x.columns i) unnamed)

  pub opening_blank : row_value (row_of x i) (Opening i) ≡ 0
  opening_blank = ap {B = ℕ} (λ (r : Bool). if r then slice_index x.labels (opening_mark i) else 0) unnamed

  pub closing_blank : row_value (row_of x i) (Closing i) ≡ 0
  closing_blank = ap {B = ℕ} (λ (r : Bool). if r then slice_index x.labels (closing_mark i) else 0) unnamed

-- ## Changes

pub split_changed : {A E : Type 0} (r : Result A E) (f : ℕ) (lay come : Traces) → OnOk r (come.columns ≡ split_at f lay.columns) → AreLabels come.columns come.labels → OnOk r (TouchedAreListed lay come) → OnOk r (IsChanged f lay come)
split_changed (Ok a) f lay come now labels touched = record { labels = labels; touched = touched; unnamed = subst (UnnamedAsBefore f lay.columns) (sym now) (split_unnamed f lay.columns) }
split_changed (Err a) f lay come now labels touched = now

pub merge_changed : (f : ℕ) (lay come : Traces) → come.columns ≡ merged f lay.columns → AreLabels come.columns come.labels → TouchedAreListed lay come → IsChanged f lay come
merge_changed f lay come now labels touched = record { labels = labels; touched = touched; unnamed = subst (UnnamedAsBefore f lay.columns) (sym now) (merged_unnamed f lay.columns) }

pub fork_changed : (word p left : ℕ) (lay come : Traces) → come.columns ≡ forked word p lay.columns → left ≡ used lay.columns → AreLabels come.columns come.labels → TouchedAreListed lay come → IsChanged left lay come
fork_changed word p left lay come now first labels touched = record {
  labels = labels;
  touched = touched;
  unnamed = subst (λ (f : ℕ). UnnamedAsBefore f lay.columns come.columns) (sym first) (subst (UnnamedAsBefore (used lay.columns) lay.columns) (sym now) (forked_unnamed word p lay.columns));
}
