-- The strand of a node.
use Rattle.std.proofs.Common.{◌≡◌, ℕ, zero, ◌<◌, ◌≤◌, List, length, refl, ap, sym, ◌∙◌, arith, Bool, true, false, cond, Some, None, inl, inr, subst, suc}
use Rattle.std.specs.Prelude.{◌⊎◌, unwrap_or}
use Rattle.std.specs.List.{find}
use Rattle.std.proofs.lemmas.Bool.{cases_Bool, cases_eq}
use Rattle.cw_tree.specs.declared.node.Node.{Node}
use Rattle.cw_tree.specs.Nodes.{parent_of, is_strand, is_strand_kind}
use Rattle.cw_tree.specs.Walks.{IsRooted, path, is_ancestor}
use Rattle.cw_tree.specs.Series.{strand_of}
use Rattle.cw_tree.proofs.Walks.Climbs.{path_step, by_parent}
use Rattle.cw_tree.proofs.Walks.Ancestors.{ancestor_self, ancestor_root, ancestor_step, ancestor_up, ancestor_le}
use Rattle.cw_tree.proofs.Walks.There.{node_there}

strand_or_root : (b : Bool) → unwrap_or (cond b (Some zero) None) zero ≡ zero
strand_or_root true = refl
strand_or_root false = refl

pub strand_of_root : (t : List Node) → strand_of t 0 ≡ 0
strand_of_root t = strand_or_root (is_strand t 0)

module _ (t : List Node) (r : IsRooted t) where
  step : (n : ℕ) → 0 < n → n < length t → strand_of t n ≡ unwrap_or (cond (is_strand t n) (Some n) (find (is_strand t) (path t (parent_of t n)))) 0
  step n p h = ap (λ ns. unwrap_or (find (is_strand t) ns) 0) (path_step t r n p h)

  -- a strand stands in itself, and any other node in the strand of its parent
  pub strand_of_strand : (n : ℕ) → 0 < n → n < length t → is_strand t n ≡ true → strand_of t n ≡ n
  strand_of_strand n p h e = step n p h ∙ ap (λ b. unwrap_or (cond b (Some n) (find (is_strand t) (path t (parent_of t n)))) 0) e

  pub strand_of_other : (n : ℕ) → 0 < n → n < length t → is_strand t n ≡ false → strand_of t n ≡ strand_of t (parent_of t n)
  strand_of_other n p h e = step n p h ∙ ap (λ b. unwrap_or (cond b (Some n) (find (is_strand t) (path t (parent_of t n)))) 0) e

  pub strand_of_le : (n : ℕ) → n < length t → strand_of t n ≤ n
  strand_of_le =
      by_parent t r (λ n. strand_of t n ≤ n) (omega (arith, strand_of_root t))
      (λ n p h more. by_kind n p h more (cases_Bool (is_strand t n))) where
        by_kind : (n : ℕ) → 0 < n → n < length t → strand_of t (parent_of t n) ≤ parent_of t n → (is_strand t n ≡ true) ⊎ (is_strand t n ≡ false) → strand_of t n ≤ n
        by_kind n p h more (inl e) = omega (arith, strand_of_strand n p h e)
        by_kind n p h more (inr e) = let low : parent_of t n < n = r n p h in omega (arith, strand_of_other n p h e)

  -- a strand that is an ancestor of a node is no deeper than the node's own
  pub strand_innermost : (s : ℕ) → is_strand t s ≡ true → (n : ℕ) → n < length t → is_ancestor t s n ≡ true → s ≤ strand_of t n
  strand_innermost s strand =
      by_parent t r (λ n. is_ancestor t s n ≡ true → s ≤ strand_of t n)
      (λ e. omega (arith, ancestor_root t s e))
      (λ n p h more e. by_kind n p h more e (cases_Bool (is_strand t n))) where
        by_kind : (n : ℕ) → 0 < n → n < length t → (is_ancestor t s (parent_of t n) ≡ true → s ≤ strand_of t (parent_of t n)) → is_ancestor t s n ≡ true → (is_strand t n ≡ true) ⊎ (is_strand t n ≡ false) → s ≤ strand_of t n
        by_kind n p h more e (inl q) = omega (arith, strand_of_strand n p h q, ancestor_le t r s n h e)
        by_kind n p h more e (inr q) =
            let ne : n ≡ s → ⊥ = λ z. (let P : ℕ → Type 0 = λ m. is_strand t m ≡ true in absurd (cc (q, subst P (sym z) strand))) in
            omega (arith, strand_of_other n p h q, more (sym (ancestor_step t r s n p h ne) ∙ e))

  pub strand_over : (n : ℕ) → n < length t → is_ancestor t (strand_of t n) n ≡ true
  strand_over =
      by_parent t r (λ n. is_ancestor t (strand_of t n) n ≡ true)
      (let P : ℕ → Type 0 = λ s. is_ancestor t s 0 ≡ true in subst P (sym (strand_of_root t)) refl)
      (λ n p h more. by_kind n p h more (cases_Bool (is_strand t n))) where
        by_kind : (n : ℕ) → 0 < n → n < length t → is_ancestor t (strand_of t (parent_of t n)) (parent_of t n) ≡ true → (is_strand t n ≡ true) ⊎ (is_strand t n ≡ false) → is_ancestor t (strand_of t n) n ≡ true
        by_kind n p h more (inl e) = let P : ℕ → Type 0 = λ s. is_ancestor t s n ≡ true in subst P (sym (strand_of_strand n p h e)) (ancestor_self t n)
        by_kind n p h more (inr e) = let P : ℕ → Type 0 = λ s. is_ancestor t s n ≡ true in subst P (sym (strand_of_other n p h e)) (ancestor_up t r (strand_of t (parent_of t n)) n p h more)

  -- a node beneath c has the strand of c's parent where no strand stands between, c included
  pub strand_through : (c : ℕ) → 0 < c → (n : ℕ) → n < length t → is_ancestor t c n ≡ true → ((m : ℕ) → is_ancestor t m n ≡ true → c ≤ m → is_strand t m ≡ false) → strand_of t n ≡ strand_of t (parent_of t c)
  strand_through c q =
      by_parent t r (λ n. is_ancestor t c n ≡ true → ((m : ℕ) → is_ancestor t m n ≡ true → c ≤ m → is_strand t m ≡ false) → strand_of t n ≡ strand_of t (parent_of t c))
      (λ e f. let z : c ≡ 0 = ancestor_root t c e in absurd (omega arith))
      (λ n p h more e f.
      let le : c ≤ n = ancestor_le t r c n h e in
      let own : is_strand t n ≡ false = f n (ancestor_self t n) le in
      strand_of_other n p h own
      ∙ elim (cases_eq n c) [
        | inl z ↦ ap (λ m. strand_of t (parent_of t m)) z
        | inr ne ↦ more (sym (ancestor_step t r c n p h ne) ∙ e) (λ m a b. f m (ancestor_up t r m n p h a) b)
      ])

pub strand_itself : (t : List Node) → IsRooted t → (s : ℕ) → is_strand t s ≡ true → strand_of t s ≡ s
strand_itself t r zero e = strand_of_root t
strand_itself t r (suc s) e = strand_of_strand t r (suc s) (omega arith) (node_there (λ y. is_strand_kind y.kind) t (suc s) e) e
