-- What two passes over the nodes keep: the forks in each node's children so far, from the last node down and from the first one up.
use Rattle.std.proofs.Common.{◌≡◌, ◌≢◌, ℕ, suc, ◌+◌, ◌<◌, ◌≤◌, List, length, ap, sym, ◌∙◌, arith, Bool, true, false, cond, inl, inr, nat_eq, nat_lt, nat_le}
use Rattle.std.specs.Prelude.{◌⊎◌, ◌&&◌, ◌||◌}
use Rattle.std.proofs.lemmas.Bool.{cases_Bool, and_parts, and_from, or_cases, or_left, or_right, eqb-true, eq-eqb, ltb-true, lt-ltb, leb-true, le-leb, false_from_ne_true}
use Rattle.cw_tree.specs.declared.node.Node.{Node}
use Rattle.cw_tree.specs.Nodes.{parent_of, is_fork}
use Rattle.cw_tree.specs.Walks.{IsRooted}
use Rattle.cw_tree.specs.ForkCounts.{one_if, lets_out, forks_after}
use Rattle.cw_tree.proofs.Walks.Ancestors.{ancestor_root, ancestor_le}
use Rattle.cw_tree.proofs.Counting.{count_none, count_le, count_less}
use Rattle.cw_tree.proofs.Names.Forks.{same_truth, comes_to, comes, is_same, child_from, child_to, forks_to, after_is, forks_same, forks_more, forks_stopped, forks_inside}

-- a child of x numbered at least low
record From (t : List Node) (low x d : ℕ) : Type 0 where
  least : low ≤ d
  parent : parent_of t d ≡ x

of_from : (t : List Node) (low x d : ℕ) → child_from t low x d ≡ true → From t low x d
of_from t low x d e = let z = and_parts (nat_le low d) (nat_eq (parent_of t d) x) e in record { least = leb-true low d z.0; parent = eqb-true (parent_of t d) x z.1 }

from_of : (t : List Node) (low x d : ℕ) → low ≤ d → parent_of t d ≡ x → child_from t low x d ≡ true
from_of t low x d l e = and_from (nat_le low d) (nat_eq (parent_of t d) x) (le-leb low d l) (eq-eqb (parent_of t d) x e)

-- a child of x numbered less than high
record To (t : List Node) (high x d : ℕ) : Type 0 where
  some : 0 < d
  less : d < high
  parent : parent_of t d ≡ x

of_to : (t : List Node) (high x d : ℕ) → child_to t high x d ≡ true → To t high x d
of_to t high x d e =
    let z = and_parts (nat_lt 0 d && nat_lt d high) (nat_eq (parent_of t d) x) e in
    let y = and_parts (nat_lt 0 d) (nat_lt d high) z.0 in
    record { some = ltb-true 0 d y.0; less = ltb-true d high y.1; parent = eqb-true (parent_of t d) x z.1 }

to_of : (t : List Node) (high x d : ℕ) → 0 < d → d < high → parent_of t d ≡ x → child_to t high x d ≡ true
to_of t high x d s l e = and_from (nat_lt 0 d && nat_lt d high) (nat_eq (parent_of t d) x) (and_from (nat_lt 0 d) (nat_lt d high) (lt-ltb 0 d s) (lt-ltb d high l)) (eq-eqb (parent_of t d) x e)

at_or_past : (n d : ℕ) → n ≤ d → (n ≡ d) ⊎ (suc n ≤ d)
at_or_past n d h = grind arith

below_or_at : (n d : ℕ) → d < suc n → (d < n) ⊎ (d ≡ n)
below_or_at n d h = grind arith

module _ (t : List Node) (r : IsRooted t) where
  none_come : (w : ℕ → Bool) → ((d : ℕ) → d < length t → w d ≡ true → ⊥) → forks_to t w ≡ 0
  none_come w none =
      count_none (comes_to t w) (length t) (λ g h. false_from_ne_true (comes_to t w g) (λ e.
      let s = (comes t r w g h e).1 in
      let le : s.node ≤ g = ancestor_le t r s.node g h s.over in
      none s.node (omega arith) s.passes))

  pub from_none : (low x : ℕ) → length t ≤ low → forks_to t (child_from t low x) ≡ 0
  from_none low x h = none_come (child_from t low x) (λ d l e. let least = (of_from t low x d e).least in omega arith)

  pub to_none : (x : ℕ) → forks_to t (child_to t 1 x) ≡ 0
  to_none x = none_come (child_to t 1 x) (λ d l e. let z = of_to t 1 x d e in let some = z.some in let less = z.less in omega arith)

  module _ (n : ℕ) (p : 0 < n) where
    pub from_more : (x : ℕ) → x ≡ parent_of t n → forks_to t (child_from t n x) ≡ forks_to t (child_from t (suc n) x) + forks_to t (is_same n)
    from_more x e =
        forks_more t r (child_from t (suc n) x) (child_from t n x) n p
        (λ d l. same_truth (child_from t n x d) (child_from t (suc n) x d || is_same n d)
        (λ f. (let z = of_from t n x d f in elim (at_or_past n d z.least) [ inl q ↦ or_right (child_from t (suc n) x d) (is_same n d) (eq-eqb d n (sym q)) | inr q ↦ or_left (child_from t (suc n) x d) (is_same n d) (from_of t (suc n) x d q z.parent) ]))
        (λ f. elim (or_cases (child_from t (suc n) x d) (is_same n d) f) [
          | inl q ↦ (let z = of_from t (suc n) x d q in let least = z.least in from_of t n x d (omega arith) z.parent)
          | inr q ↦ (let same = eqb-true d n q in from_of t n x d (omega (arith, same)) (ap (parent_of t) same ∙ sym e))
        ]))
        (λ d l f. let z = of_from t (suc n) x d f in let least = z.least in (omega arith, z.parent ∙ e, λ q. omega (arith, q)))

    pub from_same : (x : ℕ) → x ≢ parent_of t n → forks_to t (child_from t n x) ≡ forks_to t (child_from t (suc n) x)
    from_same x ne =
        forks_same t r (child_from t n x) (child_from t (suc n) x) (λ d l. same_truth (child_from t n x d) (child_from t (suc n) x d)
        (λ f. (let z = of_from t n x d f in elim (at_or_past n d z.least) [ inl q ↦ absurd (ne (sym z.parent ∙ ap (parent_of t) (sym q))) | inr q ↦ from_of t (suc n) x d q z.parent ]))
        (λ f. let z = of_from t (suc n) x d f in let least = z.least in from_of t n x d (omega arith) z.parent))

    pub to_more : (x : ℕ) → x ≡ parent_of t n → forks_to t (child_to t (suc n) x) ≡ forks_to t (child_to t n x) + forks_to t (is_same n)
    to_more x e =
        forks_more t r (child_to t n x) (child_to t (suc n) x) n p
        (λ d l. same_truth (child_to t (suc n) x d) (child_to t n x d || is_same n d)
        (λ f. (let z = of_to t (suc n) x d f in elim (below_or_at n d z.less) [ inl q ↦ or_left (child_to t n x d) (is_same n d) (to_of t n x d z.some q z.parent) | inr q ↦ or_right (child_to t n x d) (is_same n d) (eq-eqb d n q) ]))
        (λ f. elim (or_cases (child_to t n x d) (is_same n d) f) [
          | inl q ↦ (let z = of_to t n x d q in let less = z.less in to_of t (suc n) x d z.some (omega arith) z.parent)
          | inr q ↦ (let same = eqb-true d n q in to_of t (suc n) x d (omega (arith, same)) (omega (arith, same)) (ap (parent_of t) same ∙ sym e))
        ]))
        (λ d l f. let z = of_to t n x d f in let less = z.less in (z.some, z.parent ∙ e, λ q. omega (arith, q)))

    pub to_same : (x : ℕ) → x ≢ parent_of t n → forks_to t (child_to t (suc n) x) ≡ forks_to t (child_to t n x)
    to_same x ne =
        forks_same t r (child_to t (suc n) x) (child_to t n x) (λ d l. same_truth (child_to t (suc n) x d) (child_to t n x d)
        (λ f. (let z = of_to t (suc n) x d f in elim (below_or_at n d z.less) [ inl q ↦ to_of t n x d z.some q z.parent | inr q ↦ absurd (ne (sym z.parent ∙ ap (parent_of t) q)) ]))
        (λ f. let z = of_to t n x d f in let less = z.less in to_of t (suc n) x d z.some (omega arith) z.parent))

  -- what follows a node counts the forks in its children, and the node itself where it is a fork
  pub counted : (n k : ℕ) → n < length t → k ≡ forks_to t (child_from t (suc n) n) → cond (lets_out t n) (k + one_if (is_fork t n)) 0 ≡ forks_after t n
  counted n k h e =
      by_case (cases_Bool (lets_out t n)) where
        by_case : (lets_out t n ≡ true) ⊎ (lets_out t n ≡ false) → cond (lets_out t n) (k + one_if (is_fork t n)) 0 ≡ forks_after t n
        by_case (inl o) = ap (λ b. cond b (k + one_if (is_fork t n)) 0) o ∙ ap (λ j. j + one_if (is_fork t n)) e ∙ sym (forks_inside t r n h o) ∙ sym (after_is t n)
        by_case (inr o) = ap (λ b. cond b (k + one_if (is_fork t n)) 0) o ∙ sym (after_is t n ∙ forks_stopped t r n o)

  -- the root is in no child
  pub from_less : (low x : ℕ) → 0 < low → 0 < length t → forks_to t (child_from t low x) < length t
  from_less low x p h =
      count_less (comes_to t (child_from t low x)) (length t) (false_from_ne_true (comes_to t (child_from t low x) 0) (λ e.
      let s = (comes t r (child_from t low x) 0 h e).1 in
      let least = (of_from t low x s.node s.passes).least in
      omega (arith, ancestor_root t s.node s.over))) h

  pub forks_to_le : (w : ℕ → Bool) → forks_to t w ≤ length t
  forks_to_le w = count_le (comes_to t w) (length t)
