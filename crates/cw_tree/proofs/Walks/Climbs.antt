-- How the way up from a node goes on, and induction along it.
use Rattle.std.proofs.Common.{◌≡◌, ℕ, zero, suc, ◌<◌, ◌≤◌, List, ◌∷◌, drop, length, refl, ap, sym, ◌∙◌, arith, Bool, true, false, cond, Some, None}
use Rattle.std.specs.List.{find}
use Rattle.cw_tree.specs.declared.node.Node.{Node}
use Rattle.cw_tree.specs.Nodes.{parent_of}
use Rattle.cw_tree.specs.Walks.{IsRooted, climb, path, above}

-- a node's path is the node and what stands above it
pub path_split : (t : List Node) (n : ℕ) → path t n ≡ n ∷ above t n
path_split t zero = refl
path_split t (suc n) = refl

module _ (t : List Node) (r : IsRooted t) where
  -- as many steps as there are numbers below n are enough
  climb_enough : (k j n : ℕ) → n < length t → n ≤ k → n ≤ j → climb t k n ≡ climb t j n
  climb_enough zero zero n b h g = refl
  climb_enough zero (suc j) zero b h g = refl
  climb_enough zero (suc j) (suc n) b h g = absurd (omega arith)
  climb_enough (suc k) zero zero b h g = refl
  climb_enough (suc k) zero (suc n) b h g = absurd (omega arith)
  climb_enough (suc k) (suc j) zero b h g = refl
  climb_enough (suc k) (suc j) (suc n) b h g =
      let low : parent_of t (suc n) < suc n = r (suc n) (omega arith) b in
      ap (λ ns. suc n ∷ ns) (climb_enough k j (parent_of t (suc n)) (omega arith) (omega arith) (omega arith))

  -- the path of a node goes on with that of its parent
  pub path_step : (n : ℕ) → 0 < n → n < length t → path t n ≡ n ∷ path t (parent_of t n)
  path_step zero p h = absurd (omega arith)
  path_step (suc n) p h =
      let low : parent_of t (suc n) < suc n = r (suc n) p h in
      ap (λ ns. suc n ∷ ns) (climb_enough n (parent_of t (suc n)) (parent_of t (suc n)) (omega arith) (omega arith) (omega arith))

  -- the nodes above a node are its parent and those above that
  pub above_step : (n : ℕ) → 0 < n → n < length t → above t n ≡ parent_of t n ∷ above t (parent_of t n)
  above_step n p h = ap (drop 1) (path_step n p h) ∙ path_split t (parent_of t n)

  by_parent_to : (P : ℕ → Type 0) → P 0 → ((n : ℕ) → 0 < n → n < length t → P (parent_of t n) → P n) → (k n : ℕ) → n ≤ k → n < length t → P n
  by_parent_to P z s zero zero le h = z
  by_parent_to P z s zero (suc n) le h = absurd (omega arith)
  by_parent_to P z s (suc k) zero le h = z
  by_parent_to P z s (suc k) (suc n) le h =
      let low : parent_of t (suc n) < suc n = r (suc n) (omega arith) h in
      s (suc n) (omega arith) h (by_parent_to P z s k (parent_of t (suc n)) (omega arith) (omega arith))

  -- what holds of the root, and of each node where it holds of its parent, holds of all
  pub by_parent : (P : ℕ → Type 0) → P 0 → ((n : ℕ) → 0 < n → n < length t → P (parent_of t n) → P n) → (n : ℕ) → n < length t → P n
  by_parent P z s n h = by_parent_to P z s n n (omega arith) h

  -- a search on the way up, where two tests agree on all numbers up to the node's own
  pub find_path_same : (p q : ℕ → Bool) (n : ℕ) → n < length t → ((m : ℕ) → m ≤ n → p m ≡ q m) → find p (path t n) ≡ find q (path t n)
  find_path_same p q =
      by_parent (λ n. ((m : ℕ) → m ≤ n → p m ≡ q m) → find p (path t n) ≡ find q (path t n))
      (λ e. ap (λ b. cond b (Some zero) None) (e 0 (omega arith)))
      (λ n s h more e.
      let low : parent_of t n < n = r n s h in
      ap (find p) (path_step n s h)
      ∙ ap (λ b. cond b (Some n) (find p (path t (parent_of t n)))) (e n (omega arith))
      ∙ ap (cond (q n) (Some n)) (more (λ m l. e m (omega arith)))
      ∙ sym (ap (find q) (path_step n s h)))

  -- a search above a node looks at its parent, and goes on above that
  pub find_above : (p : ℕ → Bool) (n q : ℕ) → q ≡ parent_of t n → 0 < n → n < length t → find p (above t n) ≡ cond (p q) (Some q) (find p (above t q))
  find_above p n q e s h = ap (find p) (above_step n s h) ∙ ap (λ x. cond (p x) (Some x) (find p (above t x))) (sym e)

  pub found_above : (p : ℕ → Bool) (n q : ℕ) → q ≡ parent_of t n → 0 < n → n < length t → true ≡ p q → Some q ≡ find p (above t n)
  found_above p n q e s h passed = ap (λ b. cond b (Some q) (find p (above t q))) passed ∙ sym (find_above p n q e s h)

  pub not_found_above : (p : ℕ → Bool) (n q : ℕ) → q ≡ parent_of t n → 0 < n → n < length t → false ≡ p q → find p (above t q) ≡ find p (above t n)
  not_found_above p n q e s h failed = ap (λ b. cond b (Some q) (find p (above t q))) failed ∙ sym (find_above p n q e s h)
