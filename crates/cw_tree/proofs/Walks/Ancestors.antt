-- The order that ancestors make, and what a search on the way up finds.
use Rattle.std.proofs.Common.{◌≡◌, ◌≢◌, ℕ, zero, suc, ◌<◌, ◌≤◌, List, length, refl, ap, sym, ◌∙◌, arith, Bool, true, false, cond, Option, Some, None, nat_eq, inl, inr, subst}
use Rattle.std.specs.Prelude.{◌⊎◌, ◌||◌}
use Rattle.std.proofs.lemmas.Bool.{cases_lt, cases_order, eq-eqb, ne_eqb, or_left, or_right, or_cases, true≢false}
use Rattle.std.proofs.lemmas.Bool.Decides.{eqb_tells}
use Rattle.cw_tree.specs.declared.node.Node.{Node}
use Rattle.cw_tree.specs.Nodes.{parent_of}
use Rattle.cw_tree.specs.Walks.{IsRooted, has, is_ancestor, is_above}
use Rattle.cw_tree.proofs.Walks.Climbs.{path_split, path_step, by_parent}

-- an ancestor is the node itself or stands above it
pub ancestor_split : (t : List Node) (a n : ℕ) → is_ancestor t a n ≡ (nat_eq n a || is_above t a n)
ancestor_split t a n = ap (λ ns. has ns a) (path_split t n)

pub ancestor_self : (t : List Node) (n : ℕ) → is_ancestor t n n ≡ true
ancestor_self t n = ancestor_split t n n ∙ or_left (nat_eq n n) (is_above t n n) (eq-eqb n n refl)

pub above_ancestor : (t : List Node) (a n : ℕ) → is_above t a n ≡ true → is_ancestor t a n ≡ true
above_ancestor t a n h = ancestor_split t a n ∙ or_right (nat_eq n a) (is_above t a n) h

pub ancestor_above : (t : List Node) (a n : ℕ) → n ≢ a → is_ancestor t a n ≡ is_above t a n
ancestor_above t a n ne = ancestor_split t a n ∙ ap (λ b. b || is_above t a n) (ne_eqb n a ne)

pub ancestor_root : (t : List Node) (a : ℕ) → is_ancestor t a 0 ≡ true → a ≡ 0
ancestor_root t a e = elim (eqb_tells 0 a) [ inl q ↦ sym q.1 | inr q ↦ absurd (cc (ancestor_above t a 0 (λ z. q.1 z), e)) ]

module _ (t : List Node) (r : IsRooted t) where
  pub above_parent : (a n : ℕ) → 0 < n → n < length t → is_above t a n ≡ is_ancestor t a (parent_of t n)
  above_parent a n p h = ap (λ ns. has (Rattle.std.proofs.Common.drop 1 ns) a) (path_step t r n p h)

  -- the ancestors of a node, except itself, are those of its parent
  pub ancestor_step : (a n : ℕ) → 0 < n → n < length t → n ≢ a → is_ancestor t a n ≡ is_ancestor t a (parent_of t n)
  ancestor_step a n p h ne = ancestor_above t a n ne ∙ above_parent a n p h

  pub ancestor_up : (a n : ℕ) → 0 < n → n < length t → is_ancestor t a (parent_of t n) ≡ true → is_ancestor t a n ≡ true
  ancestor_up a n p h e = above_ancestor t a n (above_parent a n p h ∙ e)

  -- what holds of an ancestor's own, and goes down from parents, holds beneath it
  pub beneath : (a : ℕ) (P : ℕ → Type 0) → P a → ((n : ℕ) → 0 < n → n < length t → is_ancestor t a (parent_of t n) ≡ true → P (parent_of t n) → P n) → (n : ℕ) → n < length t → is_ancestor t a n ≡ true → P n
  beneath a P here down =
      by_parent t r (λ n. is_ancestor t a n ≡ true → P n)
      (λ e. by_case 0 (eqb_tells 0 a) (λ ne. absurd (cc (ancestor_above t a 0 ne, e))))
      (λ n p h more e. by_case n (eqb_tells n a) (λ ne. let up = sym (ancestor_step a n p h ne) ∙ e in down n p h up (more up))) where
        by_case : (n : ℕ) → ((nat_eq n a ≡ true) × (n ≡ a)) ⊎ ((nat_eq n a ≡ false) × (n ≢ a)) → (n ≢ a → P n) → P n
        by_case n (inl q) other = subst P (sym q.1) here
        by_case n (inr q) other = other q.1

  -- an ancestor has no greater number
  pub ancestor_le : (a n : ℕ) → n < length t → is_ancestor t a n ≡ true → a ≤ n
  ancestor_le a = beneath a (λ n. a ≤ n) (omega arith) (λ n p h up more. let low : parent_of t n < n = r n p h in omega arith)

  pub ancestor_past : (a n : ℕ) → n < length t → n < a → is_ancestor t a n ≡ false
  ancestor_past a n h low = Rattle.std.proofs.lemmas.Bool.false_from_ne_true (is_ancestor t a n) (λ e. let le : a ≤ n = ancestor_le a n h e in omega arith)

  pub ancestor_trans : (a b n : ℕ) → n < length t → is_ancestor t a b ≡ true → is_ancestor t b n ≡ true → is_ancestor t a n ≡ true
  ancestor_trans a b n h e = beneath b (λ n. is_ancestor t a n ≡ true) e (λ n p g up more. ancestor_up a n p g more) n h

  pub root_ancestor : (n : ℕ) → n < length t → is_ancestor t 0 n ≡ true
  root_ancestor = by_parent t r (λ n. is_ancestor t 0 n ≡ true) refl (λ n p h more. ancestor_up 0 n p h more)

  -- a node of no greater number is an ancestor where it is the node itself
  pub ancestor_here : (a n : ℕ) → n < length t → n ≤ a → nat_eq n a ≡ is_ancestor t a n
  ancestor_here a n h le =
      elim (eqb_tells n a) [
        | inl q ↦ q.0 ∙ sym (let P : ℕ → Type 0 = λ x. is_ancestor t x n ≡ true in subst P q.1 (ancestor_self t n))
        | inr q ↦ q.0 ∙ sym (ancestor_past a n h (let ne = q.1 in omega arith))
      ]
