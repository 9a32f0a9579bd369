-- Lists of columns as they are kept: where a column stands, and one column more.
use Rattle.std.proofs.Common.{◌≡◌, ◌≢◌, ℕ, zero, suc, ◌+◌, ◌<◌, ◌≤◌, List, [], ◌∷◌, ◌++◌, length, set, refl, sym, ap, ◌∙◌, subst, arith, true, false, nat_eq, inl, inr, eq-eqb, eqb-true}
use Rattle.std.specs.Prelude.{◌⊎◌, slice_index}
use Rattle.std.specs.List.{IsDistinct, AllByRecursion, list_any}
use Rattle.std.specs.Vec.{vec_capacity}
use Rattle.std.proofs.lemmas.List.{get_or_append_left, get_or-append-add, get_or-set_same, get_or-set_other, length-set, length_push}
use Rattle.std.proofs.lemmas.Bool.{ne_eqb, cases_eq, or_cases}
use Rattle.std.proofs.lemmas.Map.Steps.{length-le_from_distinct_below}
use Rattle.cw_tree.specs.Walks.{has}
use Rattle.cw_trace.specs.declared.touched.Touched.TheInside.{Inside}
use Rattle.cw_trace.specs.Listed.{IsListingInMemory}
use Rattle.cw_trace.proofs.Marks.Marking.{has_append}
use Rattle.cw_trace.proofs.Marks.Numbering.{has_here, has_later, has_cases, lacks_parts}
use Rattle.cw_trace.proofs.Touching.{has_at, listed_or}

pub at_has : (xs : List ℕ) (k y : ℕ) → k < length xs → slice_index xs k ≡ y → has xs y ≡ true
at_has [] k y h e = absurd (omega arith)
at_has (x ∷ xs) zero y h e = has_here x xs y e
at_has (x ∷ xs) (suc k) y h e = has_later x xs y (at_has xs k y (omega arith) e)

all_more : (xs : List ℕ) (x y : ℕ) → AllByRecursion (λ z. nat_eq x z ≡ false) xs → nat_eq x y ≡ false → AllByRecursion (λ z. nat_eq x z ≡ false) (xs ++ y ∷ [])
all_more [] x y a e = (e, tt)
all_more (z ∷ xs) x y a e = (a.0, all_more xs x y a.1 e)

distinct_more : (xs : List ℕ) (y : ℕ) → IsDistinct nat_eq xs → has xs y ≡ false → IsDistinct nat_eq (xs ++ y ∷ [])
unfolding IsDistinct
distinct_more [] y d h = (tt, tt)
distinct_more (x ∷ xs) y d h = let p = lacks_parts x xs y h in (all_more xs x y d.0 (ne_eqb x y p.0), distinct_more xs y d.1 p.1)

any_has : (xs : List ℕ) (q : ℕ) → list_any (nat_eq q) xs ≡ true → has xs q ≡ true
any_has [] q h = absurd (cc h)
any_has (x ∷ xs) q h = elim (or_cases (nat_eq q x) (list_any (nat_eq q) xs) h) [ inl e ↦ has_here x xs q (sym (eqb-true q x e)) | inr e ↦ has_later x xs q (any_has xs q e) ]

pub has_last : (xs : List ℕ) (y : ℕ) → has (xs ++ y ∷ []) y ≡ true
has_last [] y = has_here y [] y refl
has_last (x ∷ xs) y = has_later x (xs ++ y ∷ []) y (has_last xs y)

pub has_front : (xs : List ℕ) (y j : ℕ) → has xs j ≡ true → has (xs ++ y ∷ []) j ≡ true
has_front [] y j h = absurd (cc h)
has_front (x ∷ xs) y j h = elim (has_cases x xs j h) [ inl e ↦ has_here x (xs ++ y ∷ []) j e | inr g ↦ has_later x (xs ++ y ∷ []) j (has_front xs y j g) ]

front_or_last : (xs : List ℕ) (y j : ℕ) → has (xs ++ y ∷ []) j ≡ true → (has xs j ≡ true) ⊎ (y ≡ j)
front_or_last xs y j h = elim (or_cases (has xs j) (has (y ∷ []) j) (sym (has_append xs (y ∷ []) j) ∙ h)) [
  | inl g ↦ inl g
  | inr g ↦ elim (has_cases y [] j g) [ inl e ↦ inr e | inr f ↦ absurd (cc f) ]
]

no_columns : IsDistinct {K = ℕ} nat_eq []
unfolding IsDistinct
no_columns = tt

-- an empty list
pub listed_none : (d : Inside) → d.columns.items ≡ [] → length d.places.items ≤ d.room → d.room ≤ vec_capacity d.columns → d.room ≤ vec_capacity d.places → IsListingInMemory d
listed_none d none fits columns_room places_room = record {
  distinct = subst (IsDistinct nat_eq) (sym none) no_columns;
  low = λ j h. absurd (cc (ap (λ xs. has xs j) none, h));
  back = λ n h. absurd (omega (arith, h, ap length none));
  fits = fits;
  columns_room = columns_room;
  places_room = places_room;
}

-- ## Where a column stands

module _ (a : Inside) (k : IsListingInMemory a) (i place : ℕ) (is : place ≡ slice_index a.places.items i) where
  found : has a.columns.items i ≡ true → (place < length a.columns.items) × (slice_index a.columns.items place ≡ i)
  found h =
      let z = has_at a.columns.items i h in
      let same : place ≡ z.0 = is ∙ (ap (slice_index a.places.items) (sym z.2) ∙ k.back z.0 z.1) in
      (omega (arith, same, z.1), ap (slice_index a.columns.items) same ∙ z.2)

  pub stands_there : place < length a.columns.items → nat_eq (slice_index a.columns.items place) i ≡ has a.columns.items i
  stands_there low = elim (cases_eq (slice_index a.columns.items place) i) [
    | inl q ↦ eq-eqb _ _ q ∙ sym (at_has a.columns.items place i low q)
    | inr n ↦ ne_eqb _ _ n ∙ elim (listed_or a.columns.items i) [ inl h ↦ absurd (n (found h).1) | inr f ↦ sym f ]
  ]

  pub stands_nowhere : length a.columns.items ≤ place → false ≡ has a.columns.items i
  stands_nowhere past = elim (listed_or a.columns.items i) [ inl h ↦ absurd (let low = (found h).0 in omega (arith, past, low)) | inr f ↦ sym f ]

-- ## One column more

module _ (a : Inside) (k : IsListingInMemory a) (i : ℕ) (low : i < length a.places.items) (out : has a.columns.items i ≡ false) where
  abbrev xs : List ℕ
  xs = a.columns.items

  more_distinct : IsDistinct nat_eq (xs ++ i ∷ [])
  more_distinct = distinct_more xs i k.distinct out

  more_low : (j : ℕ) → has (xs ++ i ∷ []) j ≡ true → j < length a.places.items
  more_low j h = elim (front_or_last xs i j h) [ inl g ↦ k.low j g | inr e ↦ omega (arith, e, low) ]

  pub column_few : length xs < a.room
  column_few =
      let few = length-le_from_distinct_below (xs ++ i ∷ []) (length a.places.items) more_distinct (λ q h. more_low q (any_has (xs ++ i ∷ []) q h)) in
      omega (arith, few, length_push xs i, k.fits)

  -- there is room for it
  pub column_fits : length xs < vec_capacity a.columns
  column_fits = omega (arith, column_few, k.columns_room)

  pub listed_more : (d : Inside) → d.columns.items ≡ xs ++ i ∷ [] → d.places.items ≡ set a.places.items i (length xs) → d.room ≡ a.room → vec_capacity a.columns ≤ vec_capacity d.columns → vec_capacity a.places ≤ vec_capacity d.places → IsListingInMemory d
  listed_more d columns places room columns_as places_as = record {
    distinct = subst (IsDistinct nat_eq) (sym columns) more_distinct;
    low = λ j h. (let below = more_low j (ap (λ ys. has ys j) (sym columns) ∙ h) in omega (arith, below, size));
    back = λ n h. ap (slice_index d.places.items) (ap (λ ys. slice_index ys n) columns) ∙ (ap (λ ps. slice_index ps (slice_index (xs ++ i ∷ []) n)) places ∙ there n (omega (arith, h, ap length columns, length_push xs i)));
    fits = omega (arith, size, k.fits, room);
    columns_room = omega (arith, k.columns_room, columns_as, room);
    places_room = omega (arith, k.places_room, places_as, room);
  } where
    size : length d.places.items ≡ length a.places.items
    size = ap length places ∙ length-set a.places.items i (length xs)

    there : (n : ℕ) → n < length xs + 1 → slice_index (set a.places.items i (length xs)) (slice_index (xs ++ i ∷ []) n) ≡ n
    there n h = elim (cases_eq n (length xs)) [
      | inl e ↦
          (let at : slice_index (xs ++ i ∷ []) n ≡ i = ap (slice_index (xs ++ i ∷ [])) (e ∙ plus_zero (length xs)) ∙ get_or-append-add xs (i ∷ []) 0 0 in
          ap (slice_index (set a.places.items i (length xs))) at ∙ (get_or-set_same a.places.items i (length xs) 0 low ∙ sym e))
      | inr ne ↦
          (let less : n < length xs = omega (arith, h, ne) in
          let at : slice_index (xs ++ i ∷ []) n ≡ slice_index xs n = get_or_append_left xs (i ∷ []) 0 n less in
          let other : slice_index xs n ≢ i = λ e. cc (at_has xs n i less e, out) in
          ap (slice_index (set a.places.items i (length xs))) at ∙ (get_or-set_other a.places.items i (slice_index xs n) (length xs) 0 other ∙ k.back n less))
    ] where
      plus_zero : (m : ℕ) → m ≡ m + 0
      plus_zero m = omega arith
