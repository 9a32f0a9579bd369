-- Which elements a list has after one was placed.
use Rattle.std.proofs.Common.{ℕ, zero, suc, ◌≡◌, ◌≢◌, Option, None, Some, Bool, true, false, List, [], ◌∷◌, ◌++◌, cond, not, nat_eq, eq-eqb, inl, inr, refl, sym, ap, ◌∙◌, subst, arith, append_assoc}
use Rattle.std.specs.List.{All, Contains}
use Rattle.std.specs.Option.{ForSome}
use Rattle.std.proofs.lemmas.List.Elements.{All-weaker, All-push}
use Rattle.std.proofs.lemmas.Bool.{cases_eq, ne_eqb}
use Rattle.cw_order.specs.Order.{put_after, placed_after, without}
use Rattle.cw_order.proofs.Apart.{cut_at, contains_there}
use Rattle.cw_order.proofs.Placing.{put_after-cut}

-- the new element is there
pub placed_new : (at : Option ℕ) (e : ℕ) (xs : List ℕ) → ForSome at (Contains xs) → Contains (placed_after at e xs) e
placed_new None e xs has = (0, omega arith, refl)
placed_new (Some a) e xs has =
    let cut = cut_at xs a (has a refl) in
    let whole : (cut.front ++ a ∷ []) ++ e ∷ cut.back ≡ put_after a e xs = append_assoc cut.front (a ∷ []) (e ∷ cut.back) ∙ sym (ap (put_after a e) cut.whole ∙ put_after-cut cut.front cut.back a e cut.first) in
    subst (λ zs. Contains zs e) whole (contains_there (cut.front ++ a ∷ []) cut.back e)

contains_later : (x : ℕ) (xs : List ℕ) (y : ℕ) → Contains xs y → Contains (x ∷ xs) y
contains_later x xs y (k, within, e) = (suc k, omega (arith, within), e)

put_after_old : (a e : ℕ) (xs : List ℕ) (y : ℕ) → Contains xs y → Contains (put_after a e xs) y
put_after_old a e [] y (k, within, f) = absurd (omega arith)
put_after_old a e (x ∷ xs) y has = by_test (nat_eq x a) has (λ h. put_after_old a e xs y h) where
  by_test : (b : Bool) → Contains (x ∷ xs) y → (Contains xs y → Contains (put_after a e xs) y) → Contains (cond b (x ∷ e ∷ xs) (x ∷ put_after a e xs)) y
  by_test true (zero, within, f) more = (0, omega arith, f)
  by_test true (suc k, within, f) more = contains_later x (e ∷ xs) y (contains_later e xs y (k, omega (arith, within), f))
  by_test false (zero, within, f) more = (0, omega arith, f)
  by_test false (suc k, within, f) more = contains_later x (put_after a e xs) y (more (k, omega (arith, within), f))

-- and so are the old ones
pub placed_old : (at : Option ℕ) (e : ℕ) (xs : List ℕ) (y : ℕ) → Contains xs y → Contains (placed_after at e xs) y
placed_old None e xs y has = contains_later e xs y has
placed_old (Some a) e xs y has = put_after_old a e xs y has

-- numbers that are all elements, and the new element with them
pub all_placed : (at : Option ℕ) (e : ℕ) (xs made : List ℕ) → ForSome at (Contains xs) → All (Contains xs) made → All (Contains (placed_after at e xs)) (made ++ e ∷ [])
all_placed at e xs made has all =
    All-push (Contains (placed_after at e xs)) made e (All-weaker (Contains xs) (Contains (placed_after at e xs)) (placed_old at e xs) made all) (placed_new at e xs has)

-- an element is a place to insert after
pub some_place : (xs : List ℕ) (e : ℕ) → Contains xs e → ForSome (Some e) (Contains xs)
some_place xs e has x same = subst (Contains xs) (let f : e ≡ x = cc in f) has

-- the others are there after one was taken out
pub without_old : (e : ℕ) (xs : List ℕ) (y : ℕ) → y ≢ e → Contains xs y → Contains (without e xs) y
without_old e [] y ne (k, within, f) = absurd (omega arith)
without_old e (x ∷ xs) y ne has = elim (cases_eq x e) [
  | inl same ↦ subst (λ zs. Contains zs y) (sym (ap (λ b. cond (not b) (x ∷ without e xs) (without e xs)) (eq-eqb x e same))) (without_old e xs y ne (behind same has))
  | inr other ↦ subst (λ zs. Contains zs y) (sym (ap (λ b. cond (not b) (x ∷ without e xs) (without e xs)) (ne_eqb x e other))) (beside has (λ h. without_old e xs y ne h))
] where
  behind : x ≡ e → Contains (x ∷ xs) y → Contains xs y
  behind same (zero, within, f) = absurd (ne (sym f ∙ same))
  behind same (suc k, within, f) = (k, omega (arith, within), f)

  beside : Contains (x ∷ xs) y → (Contains xs y → Contains (without e xs) y) → Contains (x ∷ without e xs) y
  beside (zero, within, f) more = (0, omega arith, f)
  beside (suc k, within, f) more = contains_later x (without e xs) y (more (k, omega (arith, within), f))
