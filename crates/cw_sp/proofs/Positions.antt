-- Positions in lists: what stands ahead of what, and what a filter and a map leave of that.
use Rattle.std.proofs.Common.{◌≡◌, ◌≢◌, ℕ, ◌+◌, ◌<◌, ◌≤◌, List, [], ◌∷◌, map, refl, ap, sym, ◌∙◌, arith, Bool, true, false, cond, inl, inr, subst, nat_lt, eq-eqb}
use Rattle.std.specs.Prelude.{◌⊎◌, not}
use Rattle.std.proofs.lemmas.Bool.{ne_eqb, cases_eq, cases_lt, lt-ltb, ltb-true, false_from_ne_true}
use Rattle.cw_order.specs.Order.{position}
use Rattle.std.specs.List.{filter}
use Rattle.cw_tree.proofs.Lists.{In}
use Rattle.cw_tree.proofs.Members.{map_in}
use Rattle.cw_tree.proofs.Ahead.{Apart, Ahead, first_in, second_in}
use Rattle.cw_sp.specs.Orders.{stands_before}

pub position_here : (x u : ℕ) (xs : List ℕ) → x ≡ u → position (x ∷ xs) u ≡ 0
position_here x u xs e = ap (λ b. cond (not b) (1 + position xs u) 0) (eq-eqb x u e)

pub position_later : (x u : ℕ) (xs : List ℕ) → x ≢ u → position (x ∷ xs) u ≡ 1 + position xs u
position_later x u xs ne = ap (λ b. cond (not b) (1 + position xs u) 0) (ne_eqb x u ne)

-- what is ahead has the smaller position
pub ahead_position : (u v : ℕ) (xs : List ℕ) → Apart xs → Ahead u v xs → position xs u < position xs v
ahead_position u v [] a h = absurd h
ahead_position u v (x ∷ xs) a (inl z) =
    let P : ℕ → Type 0 = λ y. In y xs in
    let later : x ≢ v = λ e. a.0 (subst P (sym e) z.1) in
    omega (arith, position_here x u xs (sym z.0), position_later x v xs later)
ahead_position u v (x ∷ xs) a (inr h) =
    let P : ℕ → Type 0 = λ y. In y xs in
    let less : position xs u < position xs v = ahead_position u v xs a.1 h in
    let first : x ≢ u = λ e. a.0 (subst P (sym e) (first_in u v xs h)) in
    let second : x ≢ v = λ e. a.0 (subst P (sym e) (second_in u v xs h)) in
    omega (arith, position_later x u xs first, position_later x v xs second)

-- ## What a map and a filter leave

-- a map that leaves nothing twice leaves positions as they are
pub position_map : (f : ℕ → ℕ) (u : ℕ) (xs : List ℕ) → Apart (map f xs) → In u xs → position (map f xs) (f u) ≡ position xs u
position_map f u [] a i = absurd i
position_map f u (x ∷ xs) a (inl e) = position_here (f x) (f u) (map f xs) (ap f (sym e)) ∙ sym (position_here x u xs (sym e))
position_map f u (x ∷ xs) a (inr i) =
    let P : ℕ → Type 0 = λ y. In y (map f xs) in
    let other : f x ≢ f u = λ e. a.0 (subst P (sym e) (map_in f u xs i)) in
    position_later (f x) (f u) (map f xs) other ∙ ap (λ n. 1 + n) (position_map f u xs a.1 i) ∙ sym (position_later x u xs (λ e. other (ap f e)))

less_with : (a b c d : ℕ) → a ≡ c → b ≡ d → nat_lt a b ≡ nat_lt c d
less_with a b c d e f = ap (λ n. nat_lt n b) e ∙ ap (λ n. nat_lt c n) f

not_less : (a b : ℕ) → b ≤ a → nat_lt a b ≡ false
not_less a b le = false_from_ne_true (nat_lt a b) (λ e. let less : a < b = ltb-true a b e in omega arith)

less_more : (a b : ℕ) → nat_lt (1 + a) (1 + b) ≡ nat_lt a b
less_more a b = elim (cases_lt a b) [
  | inl l ↦ lt-ltb (1 + a) (1 + b) (omega arith) ∙ sym (lt-ltb a b l)
  | inr le ↦ not_less (1 + a) (1 + b) (omega arith) ∙ sym (not_less a b le)
]

-- how two numbers stand in a list, by its first element and the rest
module _ (u v x : ℕ) (xs : List ℕ) where
  both_later : x ≢ u → x ≢ v → stands_before (x ∷ xs) u v ≡ stands_before xs u v
  both_later n m = less_with _ _ (1 + position xs u) (1 + position xs v) (position_later x u xs n) (position_later x v xs m) ∙ less_more (position xs u) (position xs v)

  first_here : x ≡ u → x ≢ v → stands_before (x ∷ xs) u v ≡ true
  first_here q m = lt-ltb (position (x ∷ xs) u) (position (x ∷ xs) v) (omega (arith, position_here x u xs q, position_later x v xs m))

  second_here : x ≡ v → stands_before (x ∷ xs) u v ≡ false
  second_here k = not_less (position (x ∷ xs) u) (position (x ∷ xs) v) (omega (arith, position_here x v xs k))

-- a filter leaves what passes in the same order
pub stands_filter : (p : ℕ → Bool) (u v : ℕ) (xs : List ℕ) → p u ≡ true → p v ≡ true → stands_before (filter p xs) u v ≡ stands_before xs u v
stands_filter p u v [] pu pv = refl
stands_filter p u v (x ∷ xs) pu pv = by (p x) refl (cases_eq x u) (cases_eq x v) (stands_filter p u v xs pu pv) where
  by : (b : Bool) → p x ≡ b → (x ≡ u) ⊎ (x ≡ u → ⊥) → (x ≡ v) ⊎ (x ≡ v → ⊥) → stands_before (filter p xs) u v ≡ stands_before xs u v
      → stands_before (cond b (x ∷ filter p xs) (filter p xs)) u v ≡ stands_before (x ∷ xs) u v
  by false e (inl q) other more = absurd (cc (e, ap p q, pu))
  by false e (inr n) (inl q) more = absurd (cc (e, ap p q, pv))
  by false e (inr n) (inr m) more = more ∙ sym (both_later u v x xs n m)
  by true e first (inl k) more = second_here u v x (filter p xs) k ∙ sym (second_here u v x xs k)
  by true e (inl q) (inr m) more = first_here u v x (filter p xs) q m ∙ sym (first_here u v x xs q m)
  by true e (inr n) (inr m) more = both_later u v x (filter p xs) n m ∙ more ∙ sym (both_later u v x xs n m)
