-- Lists of distinct marks, and which of two comes first, after marks were put in or taken out.
use Rattle.std.proofs.Common.{◌≡◌, ◌≢◌, ℕ, List, [], ◌∷◌, ◌++◌, refl, ap, sym, ◌∙◌, Bool, true, false, cond, nat_eq, inl, inr, eq-eqb, eqb-true}
use Rattle.std.specs.Prelude.{◌⊎◌, ◌||◌, if◌then◌else◌}
use Rattle.std.specs.List.{filter}
use Rattle.std.proofs.lemmas.Bool.{ne_eqb, or_parts, or_from, or_left, or_right, or_cases, cases_Bool}
use Rattle.std.proofs.lemmas.List.Folds.{list_any-append}
use Rattle.cw_trace.specs.Columns.{stands_before, place_after}
use Rattle.cw_tree.specs.Walks.{has}
use Rattle.cw_trace.specs.Keeps.{Distinct}

pub has_append : (xs ys : List ℕ) (b : ℕ) → has (xs ++ ys) b ≡ (has xs b || has ys b)
has_append xs ys b = list_any-append (λ m. nat_eq m b) xs ys

has_skip : (ns xs : List ℕ) (b : ℕ) → has ns b ≡ false → has (ns ++ xs) b ≡ has xs b
has_skip ns xs b e = has_append ns xs b ∙ ap (λ z. z || has xs b) e

-- past numbers that are not asked about
before_skip : (ns xs : List ℕ) (a b : ℕ) → has ns a ≡ false → stands_before (ns ++ xs) a b ≡ stands_before xs a b
before_skip [] xs a b e = refl
before_skip (n ∷ ns) xs a b e = let z = or_parts (nat_eq n a) (has ns a) e in ap (λ q. if q then has (ns ++ xs) b else stands_before (ns ++ xs) a b) z.0 ∙ before_skip ns xs a b z.1

-- the first number is among the new ones, the second behind them
before_across : (ns xs : List ℕ) (a b : ℕ) → has ns a ≡ true → has ns b ≡ false → stands_before (ns ++ xs) a b ≡ has xs b
before_across [] xs a b e f = absurd (cc e)
before_across (n ∷ ns) xs a b e f = by_test (nat_eq n a) refl (or_parts (nat_eq n b) (has ns b) f).1 (λ y. before_across ns xs a b y (or_parts (nat_eq n b) (has ns b) f).1) where
  by_test : (q : Bool) → nat_eq n a ≡ q → has ns b ≡ false → (has ns a ≡ true → stands_before (ns ++ xs) a b ≡ has xs b) → (if nat_eq n a then has (ns ++ xs) b else stands_before (ns ++ xs) a b) ≡ has xs b
  by_test true q g more = ap (λ z. if z then has (ns ++ xs) b else stands_before (ns ++ xs) a b) q ∙ has_skip ns xs b g
  by_test false q g more = ap (λ z. if z then has (ns ++ xs) b else stands_before (ns ++ xs) a b) q ∙ more (sym (ap (λ z. z || has ns a) q) ∙ e)

before_among : (ns xs : List ℕ) (a b : ℕ) → has ns a ≡ true → has xs b ≡ false → stands_before (ns ++ xs) a b ≡ stands_before ns a b
before_among [] xs a b e f = absurd (cc e)
before_among (n ∷ ns) xs a b e f = by_test (nat_eq n a) refl (λ y. before_among ns xs a b y f) where
  drop_none : (p q : Bool) → q ≡ false → (p || q) ≡ p
  drop_none true q e = refl
  drop_none false q e = e

  by_test : (q : Bool) → nat_eq n a ≡ q → (has ns a ≡ true → stands_before (ns ++ xs) a b ≡ stands_before ns a b) → (if nat_eq n a then has (ns ++ xs) b else stands_before (ns ++ xs) a b) ≡ (if nat_eq n a then has ns b else stands_before ns a b)
  by_test true q more = ap (λ z. if z then has (ns ++ xs) b else stands_before (ns ++ xs) a b) q ∙ has_append ns xs b ∙ drop_none (has ns b) (has xs b) f ∙ sym (ap (λ z. if z then has ns b else stands_before ns a b) q)
  by_test false q more = ap (λ z. if z then has (ns ++ xs) b else stands_before (ns ++ xs) a b) q ∙ more (sym (ap (λ z. z || has ns a) q) ∙ e) ∙ sym (ap (λ z. if z then has ns b else stands_before ns a b) q)

pub before_first : (xs : List ℕ) (a b : ℕ) → stands_before xs a b ≡ true → has xs a ≡ true
before_first [] a b e = absurd (cc e)
before_first (x ∷ xs) a b e = by_test (nat_eq x a) e (λ y. before_first xs a b y) where
  by_test : (q : Bool) → (if q then has xs b else stands_before xs a b) ≡ true → (stands_before xs a b ≡ true → has xs a ≡ true) → (q || has xs a) ≡ true
  by_test true f more = refl
  by_test false f more = more f

pub before_second : (xs : List ℕ) (a b : ℕ) → stands_before xs a b ≡ true → has xs b ≡ true
before_second [] a b e = absurd (cc e)
before_second (x ∷ xs) a b e = or_right (nat_eq x b) (has xs b) (by_test (nat_eq x a) e (λ y. before_second xs a b y)) where
  by_test : (q : Bool) → (if q then has xs b else stands_before xs a b) ≡ true → (stands_before xs a b ≡ true → has xs b ≡ true) → has xs b ≡ true
  by_test true f more = f
  by_test false f more = more f

-- in a list without repeats no two numbers come before each other
pub not_both : (xs : List ℕ) → Distinct xs → (a b : ℕ) → stands_before xs a b ≡ true → stands_before xs b a ≡ true → ⊥
not_both [] d a b e f = cc e
not_both (x ∷ xs) d a b e f = by_tests (nat_eq x a) (nat_eq x b) refl refl e f (λ y z. not_both xs d.1 a b y z) where
  gone : (y : ℕ) → nat_eq x y ≡ true → has xs y ≡ true → ⊥
  gone y q h = cc (ap (has xs) (eqb-true x y q), d.0, h)

  by_tests : (p q : Bool) → nat_eq x a ≡ p → nat_eq x b ≡ q → (if p then has xs b else stands_before xs a b) ≡ true → (if q then has xs a else stands_before xs b a) ≡ true → (stands_before xs a b ≡ true → stands_before xs b a ≡ true → ⊥) → ⊥
  by_tests true true i j e f more = gone b j e
  by_tests true false i j e f more = gone a i (before_second xs b a f)
  by_tests false true i j e f more = gone b j (before_second xs a b e)
  by_tests false false i j e f more = more e f

module _ (at : ℕ) (ns : List ℕ) where
  pub has_place : (xs : List ℕ) (b : ℕ) → has xs at ≡ true → has (place_after at ns xs) b ≡ (has ns b || has xs b)
  has_place [] b e = absurd (cc e)
  has_place (x ∷ xs) b e = by_test (nat_eq x at) refl (λ y. has_place xs b y) where
    swap : (p q r : Bool) → (p || (q || r)) ≡ (q || (p || r))
    swap true true r = refl
    swap true false r = refl
    swap false true r = refl
    swap false false r = refl

    by_test : (q : Bool) → nat_eq x at ≡ q → (has xs at ≡ true → has (place_after at ns xs) b ≡ (has ns b || has xs b)) → has (if nat_eq x at then x ∷ (ns ++ xs) else x ∷ place_after at ns xs) b ≡ (has ns b || (nat_eq x b || has xs b))
    by_test true q more = ap (λ z. has (if z then x ∷ (ns ++ xs) else x ∷ place_after at ns xs) b) q ∙ ap (λ z. nat_eq x b || z) (has_append ns xs b) ∙ swap (nat_eq x b) (has ns b) (has xs b)
    by_test false q more =
        ap (λ z. has (if z then x ∷ (ns ++ xs) else x ∷ place_after at ns xs) b) q ∙ ap (λ z. nat_eq x b || z) (more (sym (ap (λ z. z || has xs at) q) ∙ e)) ∙ swap (nat_eq x b) (has ns b) (has xs b)

  pub has_place_old : (xs : List ℕ) (b : ℕ) → has ns b ≡ false → has (place_after at ns xs) b ≡ has xs b
  has_place_old [] b e = refl
  has_place_old (x ∷ xs) b e = by_test (nat_eq x at) (has_place_old xs b e) where
    by_test : (q : Bool) → has (place_after at ns xs) b ≡ has xs b → has (if q then x ∷ (ns ++ xs) else x ∷ place_after at ns xs) b ≡ (nat_eq x b || has xs b)
    by_test true more = ap (λ z. nat_eq x b || z) (has_skip ns xs b e)
    by_test false more = ap (λ z. nat_eq x b || z) more

  pub before_old : (xs : List ℕ) (a b : ℕ) → has ns a ≡ false → has ns b ≡ false → stands_before (place_after at ns xs) a b ≡ stands_before xs a b
  before_old [] a b e f = refl
  before_old (x ∷ xs) a b e f = by_test (nat_eq x at) (nat_eq x a) (before_old xs a b e f) where
    by_test : (p q : Bool) → stands_before (place_after at ns xs) a b ≡ stands_before xs a b → stands_before (if p then x ∷ (ns ++ xs) else x ∷ place_after at ns xs) a b ≡ (if nat_eq x a then has xs b else stands_before xs a b)
    by_test true q more = ap (λ z. if nat_eq x a then z else stands_before (ns ++ xs) a b) (has_skip ns xs b f) ∙ ap (λ z. if nat_eq x a then has xs b else z) (before_skip ns xs a b e)
    by_test false q more = ap (λ z. if nat_eq x a then z else stands_before (place_after at ns xs) a b) (has_place_old xs b f) ∙ ap (λ z. if nat_eq x a then has xs b else z) more

  no_more : (xs : List ℕ) (a : ℕ) → has xs a ≡ false → (b : ℕ) → (stands_before xs b a ≡ false) × (stands_before xs a b ≡ false)
  no_more xs a e b = (by_bool (cases_Bool (stands_before xs b a)) (λ q. before_second xs b a q), by_bool (cases_Bool (stands_before xs a b)) (λ q. before_first xs a b q)) where
    by_bool : {p : Bool} → (p ≡ true) ⊎ (p ≡ false) → (p ≡ true → has xs a ≡ true) → p ≡ false
    by_bool (inl q) f = absurd (cc (f q, e))
    by_bool (inr q) f = q

  -- a new number comes after what its neighbour comes after, and after that neighbour
  pub before_new : (xs : List ℕ) → Distinct xs → (a b : ℕ) → has ns a ≡ false → has ns b ≡ true → has xs b ≡ false → has xs at ≡ true → stands_before (place_after at ns xs) a b ≡ (nat_eq at a || stands_before xs a at)
  before_new [] d a b e f g h = absurd (cc h)
  before_new (x ∷ xs) d a b e f g h = by_test (nat_eq x at) refl (λ y. before_new xs d.1 a b e f (or_parts (nat_eq x b) (has xs b) g).1 y) where
    by_same : x ≡ at → (q : Bool) → nat_eq x a ≡ q → (if q then has (ns ++ xs) b else stands_before (ns ++ xs) a b) ≡ (nat_eq at a || (if q then has xs at else stands_before xs a at))
    by_same s true q = has_append ns xs b ∙ ap (λ z. z || has xs b) f ∙ sym (ap (λ z. z || has xs at) (sym (ap (λ y. nat_eq y a) s) ∙ q))
    by_same s false q =
        before_skip ns xs a b e ∙ (no_more xs b (or_parts (nat_eq x b) (has xs b) g).1 a).0
        ∙ sym (or_from (nat_eq at a) (stands_before xs a at) (sym (ap (λ y. nat_eq y a) s) ∙ q) (no_more xs at (sym (ap (has xs) s) ∙ d.0) a).0)

    by_other : x ≢ at → has xs at ≡ true → stands_before (place_after at ns xs) a b ≡ (nat_eq at a || stands_before xs a at) → (q : Bool) → nat_eq x a ≡ q → (if q then has (place_after at ns xs) b else stands_before (place_after at ns xs) a b) ≡ (nat_eq at a || (if q then has xs at else stands_before xs a at))
    by_other s i more true q = has_place xs b i ∙ ap (λ z. z || has xs b) f ∙ sym (or_right (nat_eq at a) (has xs at) i)
    by_other s i more false q = more

    by_test : (q : Bool) → nat_eq x at ≡ q → (has xs at ≡ true → stands_before (place_after at ns xs) a b ≡ (nat_eq at a || stands_before xs a at)) → stands_before (if nat_eq x at then x ∷ (ns ++ xs) else x ∷ place_after at ns xs) a b ≡ (nat_eq at a || (if nat_eq x a then has xs at else stands_before xs a at))
    by_test true q more = ap (λ z. stands_before (if z then x ∷ (ns ++ xs) else x ∷ place_after at ns xs) a b) q ∙ by_same (eqb-true x at q) (nat_eq x a) refl
    by_test false q more =
        let i : has xs at ≡ true = sym (ap (λ z. z || has xs at) q) ∙ h in
        ap (λ z. stands_before (if z then x ∷ (ns ++ xs) else x ∷ place_after at ns xs) a b) q ∙ by_other (λ s. cc (eq-eqb x at s, q)) i (more i) (nat_eq x a) refl

  -- and before what its neighbour comes before
  pub new_before : (xs : List ℕ) (a b : ℕ) → has ns a ≡ true → has xs a ≡ false → has ns b ≡ false → stands_before (place_after at ns xs) a b ≡ stands_before xs at b
  new_before [] a b e f g = refl
  new_before (x ∷ xs) a b e f g = by_test (nat_eq x at) refl (new_before xs a b e (or_parts (nat_eq x a) (has xs a) f).1 g) where
    by_test : (q : Bool) → nat_eq x at ≡ q → stands_before (place_after at ns xs) a b ≡ stands_before xs at b → stands_before (if nat_eq x at then x ∷ (ns ++ xs) else x ∷ place_after at ns xs) a b ≡ (if nat_eq x at then has xs b else stands_before xs at b)
    by_test true q more =
        ap (λ z. stands_before (if z then x ∷ (ns ++ xs) else x ∷ place_after at ns xs) a b) q ∙ ap (λ z. if z then has (ns ++ xs) b else stands_before (ns ++ xs) a b) (or_parts (nat_eq x a) (has xs a) f).0
        ∙ before_across ns xs a b e g ∙ sym (ap (λ z. if z then has xs b else stands_before xs at b) q)
    by_test false q more =
        ap (λ z. stands_before (if z then x ∷ (ns ++ xs) else x ∷ place_after at ns xs) a b) q ∙ ap (λ z. if z then has (place_after at ns xs) b else stands_before (place_after at ns xs) a b) (or_parts (nat_eq x a) (has xs a) f).0
        ∙ more ∙ sym (ap (λ z. if z then has xs b else stands_before xs at b) q)

  pub new_new : (xs : List ℕ) (a b : ℕ) → has ns a ≡ true → has xs a ≡ false → has xs b ≡ false → has xs at ≡ true → stands_before (place_after at ns xs) a b ≡ stands_before ns a b
  new_new [] a b e f g h = absurd (cc h)
  new_new (x ∷ xs) a b e f g h = by_test (nat_eq x at) refl (λ y. new_new xs a b e (or_parts (nat_eq x a) (has xs a) f).1 (or_parts (nat_eq x b) (has xs b) g).1 y) where
    by_test : (q : Bool) → nat_eq x at ≡ q → (has xs at ≡ true → stands_before (place_after at ns xs) a b ≡ stands_before ns a b) → stands_before (if nat_eq x at then x ∷ (ns ++ xs) else x ∷ place_after at ns xs) a b ≡ stands_before ns a b
    by_test true q more =
        ap (λ z. stands_before (if z then x ∷ (ns ++ xs) else x ∷ place_after at ns xs) a b) q ∙ ap (λ z. if z then has (ns ++ xs) b else stands_before (ns ++ xs) a b) (or_parts (nat_eq x a) (has xs a) f).0
        ∙ before_among ns xs a b e (or_parts (nat_eq x b) (has xs b) g).1
    by_test false q more =
        ap (λ z. stands_before (if z then x ∷ (ns ++ xs) else x ∷ place_after at ns xs) a b) q ∙ ap (λ z. if z then has (place_after at ns xs) b else stands_before (place_after at ns xs) a b) (or_parts (nat_eq x a) (has xs a) f).0
        ∙ more (sym (ap (λ z. z || has xs at) q) ∙ h)

  distinct_append : (ns xs : List ℕ) → Distinct ns → Distinct xs → ((b : ℕ) → has ns b ≡ true → has xs b ≡ false) → Distinct (ns ++ xs)
  distinct_append [] xs d e f = e
  distinct_append (n ∷ ns) xs d e f = (has_append ns xs n ∙ or_from (has ns n) (has xs n) d.0 (f n (or_left (nat_eq n n) (has ns n) (eq-eqb n n refl))), distinct_append ns xs d.1 e (λ b h. f b (or_right (nat_eq n b) (has ns b) h)))

  pub distinct_place : (xs : List ℕ) → Distinct ns → Distinct xs → ((b : ℕ) → has xs b ≡ true → has ns b ≡ false) → Distinct (place_after at ns xs)
  distinct_place [] d e f = e
  distinct_place (x ∷ xs) d e f = by_test (nat_eq x at) (distinct_place xs d e.1 (λ b h. f b (or_right (nat_eq x b) (has xs b) h))) where
    x_new : has ns x ≡ false
    x_new = f x (or_left (nat_eq x x) (has xs x) (eq-eqb x x refl))

    flip : (b : ℕ) → has ns b ≡ true → has xs b ≡ false
    flip b h = by_bool (has xs b) refl where
      by_bool : (q : Bool) → has xs b ≡ q → has xs b ≡ false
      by_bool true q = absurd (cc (f b (or_right (nat_eq x b) (has xs b) q), h))
      by_bool false q = q

    by_test : (q : Bool) → Distinct (place_after at ns xs) → Distinct (if q then x ∷ (ns ++ xs) else x ∷ place_after at ns xs)
    by_test true more = (has_skip ns xs x x_new ∙ e.0, distinct_append ns xs d e.1 flip)
    by_test false more = (has_place_old xs x x_new ∙ e.0, more)

module _ (p : ℕ → Bool) where
  pub has_filter : (xs : List ℕ) (b : ℕ) → p b ≡ true → has (filter p xs) b ≡ has xs b
  has_filter [] b e = refl
  has_filter (x ∷ xs) b e = by_test (p x) refl (has_filter xs b e) where
    by_test : (q : Bool) → p x ≡ q → has (filter p xs) b ≡ has xs b → has (cond (p x) (x ∷ filter p xs) (filter p xs)) b ≡ (nat_eq x b || has xs b)
    by_test true q more = ap (λ z. has (cond z (x ∷ filter p xs) (filter p xs)) b) q ∙ ap (λ z. nat_eq x b || z) more
    by_test false q more = ap (λ z. has (cond z (x ∷ filter p xs) (filter p xs)) b) q ∙ more ∙ sym (ap (λ z. z || has xs b) (ne_eqb x b (λ s. cc (ap p s, q, e))))

  pub filter_has : (xs : List ℕ) (b : ℕ) → has (filter p xs) b ≡ true → (p b ≡ true) × (has xs b ≡ true)
  filter_has [] b e = absurd (cc e)
  filter_has (x ∷ xs) b e = by_test (p x) refl e (λ y. filter_has xs b y) where
    by_test : (q : Bool) → p x ≡ q → has (cond q (x ∷ filter p xs) (filter p xs)) b ≡ true → (has (filter p xs) b ≡ true → (p b ≡ true) × (has xs b ≡ true)) → (p b ≡ true) × ((nat_eq x b || has xs b) ≡ true)
    by_test true q f more = elim (or_cases (nat_eq x b) (has (filter p xs) b) f) [ inl y ↦ (sym (ap p (eqb-true x b y)) ∙ q, or_left (nat_eq x b) (has xs b) y) | inr y ↦ (let z = more y in (z.0, or_right (nat_eq x b) (has xs b) z.1)) ]
    by_test false q f more = let z = more f in (z.0, or_right (nat_eq x b) (has xs b) z.1)

  pub before_filter : (xs : List ℕ) (a b : ℕ) → p a ≡ true → p b ≡ true → stands_before (filter p xs) a b ≡ stands_before xs a b
  before_filter [] a b e f = refl
  before_filter (x ∷ xs) a b e f = by_test (p x) refl (before_filter xs a b e f) where
    by_test : (q : Bool) → p x ≡ q → stands_before (filter p xs) a b ≡ stands_before xs a b → stands_before (cond (p x) (x ∷ filter p xs) (filter p xs)) a b ≡ (if nat_eq x a then has xs b else stands_before xs a b)
    by_test true q more = ap (λ z. stands_before (cond z (x ∷ filter p xs) (filter p xs)) a b) q ∙ ap (λ z. if nat_eq x a then z else stands_before (filter p xs) a b) (has_filter xs b f) ∙ ap (λ z. if nat_eq x a then has xs b else z) more
    by_test false q more = ap (λ z. stands_before (cond z (x ∷ filter p xs) (filter p xs)) a b) q ∙ more ∙ sym (ap (λ z. if z then has xs b else stands_before xs a b) (ne_eqb x a (λ s. cc (ap p s, q, e))))

  pub distinct_filter : (xs : List ℕ) → Distinct xs → Distinct (filter p xs)
  distinct_filter [] d = d
  distinct_filter (x ∷ xs) d = by_test (p x) refl (distinct_filter xs d.1) where
    by_test : (q : Bool) → p x ≡ q → Distinct (filter p xs) → Distinct (cond q (x ∷ filter p xs) (filter p xs))
    by_test true q more = (has_filter xs x q ∙ d.0, more)
    by_test false q more = more
