-- Lists in which no two are the same, cut and joined.
use Rattle.std.proofs.Common.{ℕ, zero, suc, ◌<◌, ◌≡◌, ◌≢◌, List, [], ◌∷◌, ◌++◌, length, get_or, nat_eq, false, refl, sym, ap, arith, inl, inr}
use Rattle.std.specs.Prelude.{◌⊎◌}
use Rattle.std.specs.List.{AllByRecursion, Contains, IsDistinct}
use Rattle.std.proofs.lemmas.Bool.{cases_eq, ne_eqb}
use Rattle.cw_order.specs.Links.{Lacks, AreApart}

pub lacks_parts : (xs ys : List ℕ) (y : ℕ) → Lacks (xs ++ ys) y → Lacks xs y × Lacks ys y
lacks_parts [] ys y l = (tt, l)
lacks_parts (x ∷ xs) ys y l = let more = lacks_parts xs ys y l.1 in ((l.0, more.0), more.1)

pub lacks_whole : (xs ys : List ℕ) (y : ℕ) → Lacks xs y → Lacks ys y → Lacks (xs ++ ys) y
lacks_whole [] ys y l m = m
lacks_whole (x ∷ xs) ys y l m = (l.0, lacks_whole xs ys y l.1 m)

pub apart_parts : (xs ys : List ℕ) → AreApart (xs ++ ys) → AreApart xs × AreApart ys
apart_parts [] ys a = (tt, a)
apart_parts (x ∷ xs) ys a = let more = apart_parts xs ys a.1 in (((lacks_parts xs ys x a.0).0, more.0), more.1)

-- the one at the cut is in neither part
pub apart_out : (xs ys : List ℕ) (y : ℕ) → AreApart (xs ++ y ∷ ys) → Lacks (xs ++ ys) y × AreApart (xs ++ ys)
apart_out [] ys y a = a
apart_out (x ∷ xs) ys y a =
    let parts = lacks_parts xs (y ∷ ys) x a.0 in
    let more = apart_out xs ys y a.1 in
    ((λ e. parts.1.0 (sym e), more.0), (lacks_whole xs ys x parts.0 parts.1.1, more.1))

pub apart_in : (xs ys : List ℕ) (y : ℕ) → Lacks (xs ++ ys) y → AreApart (xs ++ ys) → AreApart (xs ++ y ∷ ys)
apart_in [] ys y l a = (l, a)
apart_in (x ∷ xs) ys y l a =
    let parts = lacks_parts xs ys x a.0 in
    (lacks_whole xs (y ∷ ys) x parts.0 (λ e. l.0 (sym e), parts.1), apart_in xs ys y l.1 a.1)

pub lacks-contains : (xs : List ℕ) (y : ℕ) → Lacks xs y → Contains xs y → ⊥
lacks-contains [] y l (k, within, e) = omega arith
lacks-contains (x ∷ xs) y l (zero, within, e) = l.0 e
lacks-contains (x ∷ xs) y l (suc k, within, e) = lacks-contains xs y l.1 (k, omega arith, e)

-- a list has a number or lacks it
pub has_or_lacks : (xs : List ℕ) (y : ℕ) → Contains xs y ⊎ Lacks xs y
has_or_lacks [] y = inr tt
has_or_lacks (x ∷ xs) y = elim (cases_eq x y) [ inl e ↦ inl (0, omega arith, e) | inr ne ↦ later ne (has_or_lacks xs y) ] where
  later : x ≢ y → Contains xs y ⊎ Lacks xs y → Contains (x ∷ xs) y ⊎ Lacks (x ∷ xs) y
  later ne (inl (k, within, e)) = inl (suc k, omega arith, e)
  later ne (inr l) = inr (ne, l)

-- the list cut at a number that it has, where that first comes
pub record CutAt (xs : List ℕ) (y : ℕ) : Type 0 where
  pub front : List ℕ
  pub back : List ℕ
  pub whole : xs ≡ front ++ y ∷ back
  pub first : Lacks front y

pub cut_at : (xs : List ℕ) (y : ℕ) → Contains xs y → CutAt xs y
cut_at [] y (k, within, e) = absurd (omega arith)
cut_at (x ∷ xs) y c = elim (cases_eq x y) [
  | inl e ↦ record { front = []; back = xs; whole = ap (λ z. z ∷ xs) e; first = tt }
  | inr ne ↦ later ne c (λ k within e. cut_at xs y (k, within, e))
] where
  later : x ≢ y → Contains (x ∷ xs) y → ((k : ℕ) → k < length xs → get_or xs k y ≡ y → CutAt xs y) → CutAt (x ∷ xs) y
  later ne (zero, within, e) more = absurd (ne e)
  later ne (suc k, within, e) more =
      let cut = more k (omega arith) e in
      record { front = x ∷ cut.front; back = cut.back; whole = ap (λ zs. x ∷ zs) cut.whole; first = (ne, cut.first) }

pub contains_there : (front back : List ℕ) (y : ℕ) → Contains (front ++ y ∷ back) y
contains_there [] back y = (0, omega arith, refl)
contains_there (x ∷ front) back y = let more = contains_there front back y in (suc more.0, omega (arith, more.1), more.2)

-- no number of the one list is in the other
abbrev pub AreDisjoint : List ℕ → List ℕ → Type 0
AreDisjoint [] ys = Unit {0}
AreDisjoint (x ∷ xs) ys = Lacks ys x × AreDisjoint xs ys

pub apart_across : (xs ys : List ℕ) → AreApart (xs ++ ys) → AreDisjoint xs ys
apart_across [] ys a = tt
apart_across (x ∷ xs) ys a = ((lacks_parts xs ys x a.0).1, apart_across xs ys a.1)

disjoint_more : (ys xs : List ℕ) (x : ℕ) → Lacks ys x → AreDisjoint ys xs → AreDisjoint ys (x ∷ xs)
disjoint_more [] xs x l d = tt
disjoint_more (y ∷ ys) xs x l d = ((λ e. l.0 (sym e), d.0), disjoint_more ys xs x l.1 d.1)

disjoint_none : (ys : List ℕ) → AreDisjoint ys []
disjoint_none [] = tt
disjoint_none (y ∷ ys) = (tt, disjoint_none ys)

pub disjoint_turned : (xs ys : List ℕ) → AreDisjoint xs ys → AreDisjoint ys xs
disjoint_turned [] ys d = disjoint_none ys
disjoint_turned (x ∷ xs) ys d = disjoint_more ys xs x d.0 (disjoint_turned xs ys d.1)

pub disjoint_parts : (xs ys zs : List ℕ) → AreDisjoint xs (ys ++ zs) → AreDisjoint xs ys × AreDisjoint xs zs
disjoint_parts [] ys zs d = (tt, tt)
disjoint_parts (x ∷ xs) ys zs d =
    let here = lacks_parts ys zs x d.0 in
    let more = disjoint_parts xs ys zs d.1 in
    ((here.0, more.0), (here.1, more.1))

lacks-distinct : (xs : List ℕ) (x : ℕ) → Lacks xs x → AllByRecursion (λ y. nat_eq x y ≡ false) xs
lacks-distinct [] x l = tt
lacks-distinct (y ∷ xs) x l = (ne_eqb x y (λ e. l.0 (sym e)), lacks-distinct xs x l.1)

pub distinct_from_apart : (xs : List ℕ) → AreApart xs → IsDistinct nat_eq xs
unfolding IsDistinct
distinct_from_apart [] a = tt
distinct_from_apart (x ∷ xs) a = (lacks-distinct xs x a.0, distinct_from_apart xs a.1)

pub disjoint_there : (front back ys : List ℕ) (x : ℕ) → AreDisjoint (front ++ x ∷ back) ys → Lacks ys x
disjoint_there [] back ys x d = d.0
disjoint_there (z ∷ front) back ys x d = disjoint_there front back ys x d.1
