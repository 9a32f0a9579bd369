-- Lists of columns, and which columns a call touches.
use Rattle.std.proofs.Common.{◌≡◌, ◌≢◌, ℕ, ◌+◌, ◌<◌, ◌≤◌, List, [], ◌∷◌, length, refl, sym, ap, ◌∙◌, subst, arith, Bool, true, false, Option, Some, None, nat_eq, inl, inr, eqb-true}
use Rattle.std.specs.Prelude.{◌⊎◌, ◌/◌, ◌%◌, ◌&&◌, nat_le, is_some, slice_index, if◌then◌else◌}
use Rattle.std.proofs.lemmas.List.{get_or-map, get_or-set_other, get_or_append_left, get_or_default, length-append, length-map}
use Rattle.std.proofs.lemmas.Bool.{ne_eqb, cases_eq, leb-true, and_parts}
use Rattle.cw_tree.specs.Walks.{has}
use Rattle.cw_tree.proofs.NextNodes.Closing.{get_set_other}
use Rattle.cw_tree.proofs.NextNodes.Growing.{get_append}
use Rattle.cw_trace.specs.declared.tier.Trace.{Trace}
use Rattle.cw_trace.specs.declared.tier.Row.{Row}
use Rattle.cw_trace.specs.Columns.{ColumnTable, used, owner, gap, trace, trace_in, head_in, lead_in, up_in, is_trace, around_fork, opening_mark, closing_mark, part_of, split_at, back_to, merged, forked}
use Rattle.cw_trace.specs.Labels.{full_row}
use Rattle.cw_trace.specs.Listing.{Listing, Grows, KeepsLabels}
use Rattle.cw_trace.specs.Tier.{AreSound}
use Rattle.cw_trace.specs.Touched.{TouchedAreListed}
use Rattle.cw_trace.specs.Traces.{Traces}
use Rattle.cw_trace.proofs.Marks.Counts.{SameLengths, half_opening, half_closing}
use Rattle.cw_trace.proofs.Marks.Edits.{length_parts, parts_at}
use Rattle.cw_trace.proofs.Marks.Numbering.{has_contains}
use Rattle.cw_trace.proofs.Sound.Merge.{merge_smaller}

-- ## Lists of columns

-- a number of a list is somewhere in it
pub has_at : (xs : List ℕ) (y : ℕ) → has xs y ≡ true → (k : ℕ) × (k < length xs) × (slice_index xs k ≡ y)
has_at xs y h = let z = has_contains xs y h in (z.0, z.1, get_or_default xs z.0 0 y z.1 ∙ z.2)

pub grows_refl : (a : Listing) → Grows a a
grows_refl a = record { used = refl; room = refl; kept = λ i h. h }

pub grows_more : (a b d : Listing) → Grows a b → Grows b d → Grows a d
grows_more a b d g h = record { used = h.used ∙ g.used; room = h.room ∙ g.room; kept = λ i q. h.kept i (g.kept i q) }

-- one insertion after others
pub keeps_more : (ms ns : List ℕ) (a b : Listing) (l0 l1 l2 renumbered : List ℕ) → ((m : ℕ) → has ms m ≡ true → has ns m ≡ true) → Grows a b
    → KeepsLabels ms a l0 l1
    → ((m : ℕ) → has ns m ≡ true → (has renumbered m ≡ true) ⊎ (slice_index l2 m ≡ slice_index l1 m))
    → ((m : ℕ) → has renumbered m ≡ true → m / 2 < a.used → has b.columns (m / 2) ≡ true)
    → KeepsLabels ms b l0 l2
keeps_more ms ns a b l0 l1 l2 renumbered more g k kept listed m h low = by (k m h in_use) (kept m (more m h)) where
  in_use : m / 2 < a.used
  in_use = omega (arith, g.used, low)

  by : (has a.columns (m / 2) ≡ true) ⊎ (slice_index l1 m ≡ slice_index l0 m) → (has renumbered m ≡ true) ⊎ (slice_index l2 m ≡ slice_index l1 m)
      → (has b.columns (m / 2) ≡ true) ⊎ (slice_index l2 m ≡ slice_index l0 m)
  by (inl q) z = inl (g.kept (m / 2) q)
  by (inr q) (inl z) = inl (listed m z in_use)
  by (inr q) (inr z) = inr (z ∙ q)

-- ## Rows

abbrev row_from : ℕ → ℕ → Option Trace → ℕ → ℕ → Row
row_from o g tr x y = record { owner = o; gap = g; head = head_in tr; lead = lead_in tr; up = up_in tr; opening = if is_some tr then x else 0; closing = if is_some tr then y else 0 }

same_labels : (o g : ℕ) (tr : Option Trace) (x y v w : ℕ) → (is_some tr ≡ true → x ≡ v) → (is_some tr ≡ true → y ≡ w) → row_from o g tr x y ≡ row_from o g tr v w
same_labels o g None x y v w h k = refl
same_labels o g (Some r) x y v w h k = ap (λ n. row_from o g (Some r) n y) (h refl) ∙ ap (λ n. row_from o g (Some r) v n) (k refl)

same_row : (c d : ColumnTable) (old new : List ℕ) (i : ℕ) → owner d i ≡ owner c i → gap d i ≡ gap c i → trace d i ≡ trace c i
    → (is_trace c i ≡ true → slice_index new (opening_mark i) ≡ slice_index old (opening_mark i))
    → (is_trace c i ≡ true → slice_index new (closing_mark i) ≡ slice_index old (closing_mark i)) → full_row d new i ≡ full_row c old i
same_row c d old new i o g t opening closing =
    let x = slice_index new (opening_mark i) in
    let y = slice_index new (closing_mark i) in
    ap (λ n. row_from n (gap d i) (trace d i) x y) o ∙ (ap (λ n. row_from (owner c i) n (trace d i) x y) g ∙ (ap (λ n. row_from (owner c i) (gap c i) n x y) t
    ∙ same_labels (owner c i) (gap c i) (trace c i) x y (slice_index old (opening_mark i)) (slice_index old (closing_mark i)) opening closing))

-- what holds of the columns that a call made holds of the tier
pub touched_as : (s a b : Traces) (d : ColumnTable) → a ≡ s → b.columns ≡ d
    → ((i : ℕ) → i < used d → (has b.touched i ≡ true) ⊎ ((i < used a.columns) × (full_row d b.labels i ≡ full_row a.columns a.labels i))) → TouchedAreListed s b
touched_as s a b d v e h = λ i low.
    subst (λ x. (has b.touched i ≡ true) ⊎ ((i < used x.columns) × (full_row b.columns b.labels i ≡ full_row x.columns x.labels i))) v
    (subst (λ y. (has b.touched i ≡ true) ⊎ ((i < used a.columns) × (full_row y b.labels i ≡ full_row a.columns a.labels i))) (sym e) (h i (subst (λ y. i < used y) e low)))

-- a column is listed, or it is not
pub listed_or : (xs : List ℕ) (i : ℕ) → (has xs i ≡ true) ⊎ (has xs i ≡ false)
listed_or xs i = by (has xs i) refl where
  by : (b : Bool) → has xs i ≡ b → (has xs i ≡ true) ⊎ (has xs i ≡ false)
  by true e = inl e
  by false e = inr e

other_one : (xs : List ℕ) (i j : ℕ) → has xs i ≡ false → has xs j ≡ true → i ≢ j
other_one xs i j h g e = cc (sym (ap (has xs) e) ∙ h, g)

-- ## Forks

pub fork_touches : (c : ColumnTable) (word p : ℕ) (xs old new : List ℕ) → SameLengths c → (lengths : length c.gaps ≡ used c) → new ≡ old → has xs (used c) ≡ true → has xs (used c + 1) ≡ true
    → (i : ℕ) → i < used (forked word p c) → (has xs i ≡ true) ⊎ ((i < used c) × (full_row (forked word p c) new i ≡ full_row c old i))
fork_touches c word p xs old new l lengths labels left right i low = elim (cases_eq i (used c)) [
  | inl e ↦ inl (ap (has xs) e ∙ left)
  | inr n ↦ elim (cases_eq i (used c + 1)) [
    | inl e ↦ inl (ap (has xs) e ∙ right)
    | inr m ↦ inr (
      within n m,
      same_row c (forked word p c) old new i (get_or_append_left c.owners _ 0 i (within n m)) (get_or_append_left c.gaps _ 0 i (omega (arith, within n m, lengths)))
          (ap trace_in (get_append c.traces _ i (omega (arith, within n m, l.traces)))) (λ h. ap (λ ls. slice_index ls (opening_mark i)) labels) (λ h. ap (λ ls. slice_index ls (closing_mark i)) labels),
    )
  ]
] where
  within : i ≢ used c → i ≢ used c + 1 → i < used c
  within n m = omega (arith, n, m, low, length-append c.owners (owner c p ∷ owner c p ∷ []))

-- ## Splits and merges

module _ (c : ColumnTable) (s : AreSound c) (l : SameLengths c) (f : ℕ) (low : f < used c) (left : f % 2 ≡ 1) (t : Listing) (old new : List ℕ) (many : t.used ≡ used c) (kept : KeepsLabels c.brackets t old new) (i : ℕ) (there : i < used c) (out : has t.columns i ≡ false) where
  opening_same : is_trace c i ≡ true → slice_index new (opening_mark i) ≡ slice_index old (opening_mark i)
  opening_same h = elim (kept (opening_mark i) (s.there i h).0 (omega (arith, half_opening i, there, many))) [
    | inl q ↦ absurd (cc (sym (ap (has t.columns) (half_opening i)) ∙ q, out))
    | inr q ↦ q
  ]

  closing_same : is_trace c i ≡ true → slice_index new (closing_mark i) ≡ slice_index old (closing_mark i)
  closing_same h = elim (kept (closing_mark i) (s.there i h).1 (omega (arith, half_closing i, there, many))) [
    | inl q ↦ absurd (cc (sym (ap (has t.columns) (half_closing i)) ∙ q, out))
    | inr q ↦ q
  ]

  split_row : has t.columns (owner c f) ≡ true → has t.columns f ≡ true → has t.columns (f + 1) ≡ true → (f ≤ i → owner c i ≡ owner c f → has t.columns i ≡ true) → full_row (split_at f c) new i ≡ full_row c old i
  split_row on_trace on_left on_right owned = same_row c (split_at f c) old new i owner_same (get_or-set_other c.gaps (f + 1) i (f + 1) 0 not_right) trace_same opening_same closing_same where
    not_trace : i ≢ owner c f
    not_trace = other_one t.columns i (owner c f) out on_trace

    not_left : i ≢ f
    not_left = other_one t.columns i f out on_left

    not_right : i ≢ f + 1
    not_right = other_one t.columns i (f + 1) out on_right

    owner_same : owner (split_at f c) i ≡ owner c i
    owner_same = parts_at (owner c f) f 0 c.owners i there ∙ (ap (λ n. part_of (owner c f) f n (owner c i)) (zero_plus i) ∙ (ap (λ b. if b then f + 1 else if (nat_eq (owner c i) (owner c f) && nat_le f i) then f else owner c i) (ne_eqb i (f + 1) not_right) ∙ by (nat_eq (owner c i) (owner c f) && nat_le f i) refl)) where
      zero_plus : (n : ℕ) → 0 + n ≡ n
      zero_plus n = omega arith

      by : (b : Bool) → (nat_eq (owner c i) (owner c f) && nat_le f i) ≡ b → (if b then f else owner c i) ≡ owner c i
      by false e = refl
      by true e =
          let both = and_parts (nat_eq (owner c i) (owner c f)) (nat_le f i) e in
          absurd (cc (owned (leb-true _ _ both.1) (eqb-true _ _ both.0), out))

    trace_same : trace (split_at f c) i ≡ trace c i
    trace_same = ap trace_in (get_set_other _ (f + 1) i _ not_right ∙ (get_set_other _ f i _ not_left ∙ get_set_other c.traces (owner c f) i _ not_trace))

  merge_row : is_trace c f ≡ true → has t.columns (around_fork c f) ≡ true → has t.columns f ≡ true → has t.columns (f + 1) ≡ true → (f ≤ i → (owner c i ≡ f) ⊎ (owner c i ≡ f + 1) → has t.columns i ≡ true) → full_row (merged f c) new i ≡ full_row c old i
  merge_row split on_trace on_left on_right owned = same_row c (merged f c) old new i owner_same refl trace_same opening_same closing_same where
    apart : (owner c i ≢ f) × (owner c i ≢ f + 1)
    apart = elim (Rattle.std.proofs.lemmas.Bool.cases_lt i f) [
      | inl less ↦ (let small = merge_smaller c s l f low left split i less in ((λ e. absurd (omega (arith, e, small))), λ e. absurd (omega (arith, e, small))))
      | inr le ↦ ((λ e. cc (owned le (inl e), out)), λ e. cc (owned le (inr e), out))
    ]

    owner_same : owner (merged f c) i ≡ owner c i
    owner_same = get_or-map (back_to (around_fork c f) f) c.owners i 0 0 there ∙ rw (ne_eqb (owner c i) f apart.0, ne_eqb (owner c i) (f + 1) apart.1) refl

    trace_same : trace (merged f c) i ≡ trace c i
    trace_same = ap trace_in (get_set_other _ (f + 1) i _ (other_one t.columns i (f + 1) out on_right) ∙ (get_set_other _ f i _ (other_one t.columns i f out on_left) ∙ get_set_other c.traces (around_fork c f) i _ (other_one t.columns i (around_fork c f) out on_trace)))

pub split_touches : (c : ColumnTable) → AreSound c → SameLengths c → (f : ℕ) → f < used c → f % 2 ≡ 1 → (t : Listing) (old new : List ℕ) → t.used ≡ used c → KeepsLabels c.brackets t old new
    → has t.columns (owner c f) ≡ true → has t.columns f ≡ true → has t.columns (f + 1) ≡ true → ((i : ℕ) → f ≤ i → i < used c → owner c i ≡ owner c f → has t.columns i ≡ true)
    → (i : ℕ) → i < used (split_at f c) → (has t.columns i ≡ true) ⊎ ((i < used c) × (full_row (split_at f c) new i ≡ full_row c old i))
split_touches c s l f low left t old new many kept on_trace on_left on_right owned i within =
    let there : i < used c = subst (λ n. i < n) (length_parts (owner c f) f 0 c.owners) within in
    elim (listed_or t.columns i) [
      | inl h ↦ inl h
      | inr out ↦ inr (there, split_row c s l f low left t old new many kept i there out on_trace on_left on_right (λ le e. owned i le there e))
    ]

pub merge_touches : (c : ColumnTable) → AreSound c → SameLengths c → (f : ℕ) → f < used c → f % 2 ≡ 1 → is_trace c f ≡ true → (t : Listing) (old new : List ℕ) → t.used ≡ used c → new ≡ old
    → has t.columns (around_fork c f) ≡ true → has t.columns f ≡ true → has t.columns (f + 1) ≡ true → ((i : ℕ) → f ≤ i → i < used c → (owner c i ≡ f) ⊎ (owner c i ≡ f + 1) → has t.columns i ≡ true)
    → (i : ℕ) → i < used (merged f c) → (has t.columns i ≡ true) ⊎ ((i < used c) × (full_row (merged f c) new i ≡ full_row c old i))
merge_touches c s l f low left split t old new many same on_trace on_left on_right owned i within =
    let there : i < used c = subst (λ n. i < n) (length-map c.owners (back_to (around_fork c f) f)) within in
    elim (listed_or t.columns i) [
      | inl h ↦ inl h
      | inr out ↦ inr (there, merge_row c s l f low left t old new many (λ m h k. inr (ap (λ ls. slice_index ls m) same)) i there out split on_trace on_left on_right (λ le e. owned i le there e))
    ]
