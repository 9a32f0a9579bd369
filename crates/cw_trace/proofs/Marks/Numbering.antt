-- Lists of numbers that have marks, no two the same.
use Rattle.std.proofs.Common.{◌≡◌, ◌≢◌, ℕ, suc, ◌+◌, ◌<◌, List, [], ◌∷◌, map, refl, ap, sym, ◌∙◌, arith, Bool, true, false, cond, Option, Some, None, nat_eq, not, inl, inr, eq-eqb, eqb-true}
use Rattle.std.specs.Prelude.{◌⊎◌, ◌||◌, ◌↔◌, if◌then◌else◌}
use Rattle.std.specs.List.{filter, Contains, IsDistinct, AllByRecursion}
use Rattle.std.proofs.lemmas.Bool.{ne_eqb, cases_eq, or_left, or_right, or_cases}
use Rattle.cw_order.specs.Order.{put_after, placed_after, without, position}
use Rattle.cw_tree.specs.Walks.{has}
use Rattle.cw_trace.specs.Columns.{stands_before, place_after}
use Rattle.cw_trace.specs.Marks.{with_mark}
use Rattle.cw_trace.proofs.Marks.Marking.{before_second}

pub has_here : (x : ℕ) (xs : List ℕ) (y : ℕ) → x ≡ y → has (x ∷ xs) y ≡ true
has_here x xs y e = or_left (nat_eq x y) (has xs y) (eq-eqb x y e)

pub has_later : (x : ℕ) (xs : List ℕ) (y : ℕ) → has xs y ≡ true → has (x ∷ xs) y ≡ true
has_later x xs y h = or_right (nat_eq x y) (has xs y) h

pub has_cases : (x : ℕ) (xs : List ℕ) (y : ℕ) → has (x ∷ xs) y ≡ true → (x ≡ y) ⊎ (has xs y ≡ true)
has_cases x xs y h = elim (or_cases (nat_eq x y) (has xs y) h) [ inl e ↦ inl (eqb-true x y e) | inr e ↦ inr e ]

pub has_contains : (xs : List ℕ) (y : ℕ) → has xs y ≡ true → Contains xs y
has_contains [] y h = absurd (cc h)
has_contains (x ∷ xs) y h = elim (has_cases x xs y h) [
  | inl e ↦ (0, omega arith, e)
  | inr e ↦ (let more = has_contains xs y e in (suc more.0, omega (arith, more.1), more.2))
]

-- a list that has a number of its own first
pub lacks_parts : (x : ℕ) (xs : List ℕ) (y : ℕ) → has (x ∷ xs) y ≡ false → (x ≢ y) × (has xs y ≡ false)
lacks_parts x xs y h = ((λ e. cc (has_here x xs y e, h)), by_case (has xs y) refl) where
  by_case : (b : Bool) → has xs y ≡ b → has xs y ≡ false
  by_case true e = absurd (cc (has_later x xs y e, h))
  by_case false e = e

all_lack : (x : ℕ) (xs : List ℕ) → AllByRecursion (λ y. nat_eq x y ≡ false) xs → has xs x ≡ false
all_lack x [] a = refl
all_lack x (y ∷ xs) a = elim (cases_eq y x) [ inl e ↦ absurd (cc (a.0, eq-eqb x y (sym e))) | inr ne ↦ ap (λ b. b || has xs x) (ne_eqb y x ne) ∙ all_lack x xs a.1 ]

pub distinct_parts : (x : ℕ) (xs : List ℕ) → IsDistinct nat_eq (x ∷ xs) → (has xs x ≡ false) × IsDistinct nat_eq xs
unfolding IsDistinct
distinct_parts x xs d = (all_lack x xs d.0, d.1)

-- ## Members after an insertion and a removal

pub put_after_has : (a e : ℕ) (xs : List ℕ) (y : ℕ) → has (put_after a e xs) y ≡ true → (e ≡ y) ⊎ (has xs y ≡ true)
put_after_has a e [] y h = absurd (cc h)
put_after_has a e (x ∷ xs) y h = by_test (nat_eq x a) h (λ g. put_after_has a e xs y g) where
  by_test : (b : Bool) → has (cond b (x ∷ e ∷ xs) (x ∷ put_after a e xs)) y ≡ true → (has (put_after a e xs) y ≡ true → (e ≡ y) ⊎ (has xs y ≡ true)) → (e ≡ y) ⊎ (has (x ∷ xs) y ≡ true)
  by_test true h more = elim (has_cases x (e ∷ xs) y h) [
    | inl z ↦ inr (has_here x xs y z)
    | inr z ↦ elim (has_cases e xs y z) [ inl v ↦ inl v | inr v ↦ inr (has_later x xs y v) ]
  ]
  by_test false h more = elim (has_cases x (put_after a e xs) y h) [
    | inl z ↦ inr (has_here x xs y z)
    | inr z ↦ elim (more z) [ inl v ↦ inl v | inr v ↦ inr (has_later x xs y v) ]
  ]

pub placed_has : (at : Option ℕ) (e : ℕ) (xs : List ℕ) (y : ℕ) → has (placed_after at e xs) y ≡ true → (e ≡ y) ⊎ (has xs y ≡ true)
placed_has None e xs y h = has_cases e xs y h
placed_has (Some a) e xs y h = put_after_has a e xs y h

pub without_has : (e : ℕ) (xs : List ℕ) (y : ℕ) → has (without e xs) y ≡ true → has xs y ≡ true
without_has e [] y h = h
without_has e (x ∷ xs) y h = by_test (not (nat_eq x e)) h (λ g. without_has e xs y g) where
  by_test : (b : Bool) → has (cond b (x ∷ without e xs) (without e xs)) y ≡ true → (has (without e xs) y ≡ true → has xs y ≡ true) → has (x ∷ xs) y ≡ true
  by_test true h more = elim (has_cases x (without e xs) y h) [ inl z ↦ has_here x xs y z | inr z ↦ has_later x xs y (more z) ]
  by_test false h more = has_later x xs y (more h)

-- ## Marks

module _ (m : ℕ → ℕ) where
  pub map_has : (xs : List ℕ) (x : ℕ) → has xs x ≡ true → has (map m xs) (m x) ≡ true
  map_has [] x h = absurd (cc h)
  map_has (y ∷ xs) x h = elim (has_cases y xs x h) [ inl e ↦ has_here (m y) (map m xs) (m x) (ap m e) | inr e ↦ has_later (m y) (map m xs) (m x) (map_has xs x e) ]

  pub has_map : (xs : List ℕ) (b : ℕ) → has (map m xs) b ≡ true → (x : ℕ) × (has xs x ≡ true) × (m x ≡ b)
  has_map [] b h = absurd (cc h)
  has_map (y ∷ xs) b h = elim (has_cases (m y) (map m xs) b h) [ inl e ↦ (y, has_here y xs y refl, e) | inr e ↦ (let z = has_map xs b e in (z.0, has_later y xs z.0 z.1, z.2)) ]

  -- no two of a list have the same mark
  abbrev pub Differ : List ℕ → Type 0
  Differ xs = (x y : ℕ) → has xs x ≡ true → has xs y ≡ true → m x ≡ m y → x ≡ y

  differ_later : (x : ℕ) (xs : List ℕ) → Differ (x ∷ xs) → Differ xs
  differ_later x xs d = λ y z h g e. d y z (has_later x xs y h) (has_later x xs z g) e

  pub map_put_after : (a e : ℕ) (xs : List ℕ) → Differ xs → has xs a ≡ true → map m (put_after a e xs) ≡ place_after (m a) (m e ∷ []) (map m xs)
  map_put_after a e [] d h = absurd (cc h)
  map_put_after a e (x ∷ xs) d h = elim (cases_eq x a) [
    | inl q ↦ ap (λ b. map m (cond b (x ∷ e ∷ xs) (x ∷ put_after a e xs))) (eq-eqb x a q) ∙ sym (ap (λ b. cond b (m x ∷ m e ∷ map m xs) (m x ∷ place_after (m a) (m e ∷ []) (map m xs))) (eq-eqb (m x) (m a) (ap m q)))
    | inr n ↦
        ap (λ b. map m (cond b (x ∷ e ∷ xs) (x ∷ put_after a e xs))) (ne_eqb x a n)
        ∙ ap (λ ys. m x ∷ ys) (map_put_after a e xs (differ_later x xs d) (elim (has_cases x xs a h) [ inl q ↦ absurd (n q) | inr g ↦ g ]))
        ∙ sym (ap (λ b. cond b (m x ∷ m e ∷ map m xs) (m x ∷ place_after (m a) (m e ∷ []) (map m xs))) (ne_eqb (m x) (m a) (λ q. n (d x a (has_here x xs x refl) h q))))
  ]

  pub map_placed : (at marked : Option ℕ) (e : ℕ) (xs : List ℕ) → Differ xs → ((a : ℕ) → at ≡ Some a → has xs a ≡ true) → marked ≡ Rattle.std.specs.Option.option_map m at → map m (placed_after at e xs) ≡ with_mark marked (m e) (map m xs)
  map_placed None marked e xs d h q = sym (ap (λ o. with_mark o (m e) (map m xs)) q)
  map_placed (Some a) marked e xs d h q = map_put_after a e xs d (h a refl) ∙ sym (ap (λ o. with_mark o (m e) (map m xs)) q)

  pub map_without : (e : ℕ) (xs : List ℕ) → Differ (e ∷ xs) → map m (without e xs) ≡ filter (λ b. not (nat_eq b (m e))) (map m xs)
  map_without e [] d = refl
  map_without e (x ∷ xs) d =
      let more = map_without e xs (λ y z h g q. d y z (skip y h) (skip z g) q) in
      elim (cases_eq x e) [
        | inl q ↦
            ap (λ b. map m (cond (not b) (x ∷ without e xs) (without e xs))) (eq-eqb x e q) ∙ more
            ∙ sym (ap (λ b. cond (not b) (m x ∷ filter (λ b. not (nat_eq b (m e))) (map m xs)) (filter (λ b. not (nat_eq b (m e))) (map m xs))) (eq-eqb (m x) (m e) (ap m q)))
        | inr n ↦
            ap (λ b. map m (cond (not b) (x ∷ without e xs) (without e xs))) (ne_eqb x e n) ∙ ap (λ ys. m x ∷ ys) more
            ∙ sym (ap (λ b. cond (not b) (m x ∷ filter (λ b. not (nat_eq b (m e))) (map m xs)) (filter (λ b. not (nat_eq b (m e))) (map m xs))) (ne_eqb (m x) (m e) (λ q. n (d x e (has_later e (x ∷ xs) x (has_here x xs x refl)) (has_here e (x ∷ xs) e refl) q))))
      ] where
        skip : (y : ℕ) → has (e ∷ xs) y ≡ true → has (e ∷ x ∷ xs) y ≡ true
        skip y h = elim (has_cases e xs y h) [ inl q ↦ has_here e (x ∷ xs) y q | inr g ↦ has_later e (x ∷ xs) y (has_later x xs y g) ]

  -- the first of two numbers has the first of their marks
  pub map_before : (xs : List ℕ) → IsDistinct nat_eq xs → Differ xs → (x y : ℕ) → has xs x ≡ true → has xs y ≡ true → (position xs x < position xs y) ↔ (stands_before (map m xs) (m x) (m y) ≡ true)
  map_before [] distinct d x y h g = absurd (cc h)
  map_before (z ∷ xs) distinct d x y h g =
      let parts = distinct_parts z xs distinct in
      by_first (cases_eq z x) (cases_eq z y) parts.0 (λ hx hy. map_before xs parts.1 (differ_later z xs d) x y hx hy) where
        at : (v : ℕ) → z ≡ v → position (z ∷ xs) v ≡ 0
        at v e = ap (λ b. cond (not b) (1 + position xs v) 0) (eq-eqb z v e)

        past : (v : ℕ) → z ≢ v → position (z ∷ xs) v ≡ 1 + position xs v
        past v n = ap (λ b. cond (not b) (1 + position xs v) 0) (ne_eqb z v n)

        below : (v : ℕ) → z ≢ v → has (z ∷ xs) v ≡ true → has xs v ≡ true
        below v n e = elim (has_cases z xs v e) [ inl q ↦ absurd (n q) | inr q ↦ q ]

        no_later : z ≡ y → has xs z ≡ false → has (map m xs) (m y) ≡ true → ⊥
        no_later q l e =
            let w = has_map xs (m y) e in
            let same : w.0 ≡ y = d w.0 y (has_later z xs w.0 w.1) g w.2 in
            cc (sym (ap (has xs) (same ∙ sym q)) ∙ w.1, l)

        before_here : m z ≡ m x → stands_before (map m (z ∷ xs)) (m x) (m y) ≡ has (map m xs) (m y)
        before_here q = ap (λ b. if b then has (map m xs) (m y) else stands_before (map m xs) (m x) (m y)) (eq-eqb (m z) (m x) q)

        before_past : z ≢ x → stands_before (map m (z ∷ xs)) (m x) (m y) ≡ stands_before (map m xs) (m x) (m y)
        before_past n = ap (λ b. if b then has (map m xs) (m y) else stands_before (map m xs) (m x) (m y)) (ne_eqb (m z) (m x) (λ q. n (d z x (has_here z xs z refl) h q)))

        by_first : (z ≡ x) ⊎ (z ≢ x) → (z ≡ y) ⊎ (z ≢ y) → has xs z ≡ false → (has xs x ≡ true → has xs y ≡ true → (position xs x < position xs y) ↔ (stands_before (map m xs) (m x) (m y) ≡ true))
            → (position (z ∷ xs) x < position (z ∷ xs) y) ↔ (stands_before (map m (z ∷ xs)) (m x) (m y) ≡ true)
        by_first (inl a) (inl b) l more = ((λ p. absurd (omega (arith, p, at y b))), λ e. absurd (no_later b l (sym (before_here (ap m a)) ∙ e)))
        by_first (inl a) (inr b) l more = ((λ p. before_here (ap m a) ∙ map_has xs y (below y b g)), λ e. omega (arith, at x a, past y b))
        by_first (inr a) (inl b) l more = ((λ p. absurd (omega (arith, p, at y b))), λ e. absurd (no_later b l (before_second (map m xs) (m x) (m y) (sym (before_past a) ∙ e))))
        by_first (inr a) (inr b) l more =
            let w = more (below x a h) (below y b g) in
            ((λ p. before_past a ∙ w.0 (omega (arith, p, past x a, past y b))), λ e. (let q = w.1 (sym (before_past a) ∙ e) in omega (arith, q, past x a, past y b)))

-- marks that agree on the list
pub map_alike : (m n : ℕ → ℕ) (xs : List ℕ) → ((x : ℕ) → has xs x ≡ true → m x ≡ n x) → map m xs ≡ map n xs
map_alike m n [] e = refl
map_alike m n (x ∷ xs) e = ap (λ y. y ∷ map m xs) (e x (has_here x xs x refl)) ∙ ap (λ ys. n x ∷ ys) (map_alike m n xs (λ y h. e y (has_later x xs y h)))
