-- What holds of all that is in a node, and how it is put together from what holds of its children.
use Rattle.std.proofs.Common.{◌≡◌, ◌≢◌, ℕ, suc, ◌-◌, ◌<◌, ◌≤◌, List, length, ap, sym, ◌∙◌, subst, arith, true, inl, inr}
use Rattle.std.proofs.lemmas.Bool.{cases_eq}
use Rattle.cw_tree.specs.declared.node.Node.{Node}
use Rattle.cw_tree.specs.Nodes.{parent_of}
use Rattle.cw_tree.specs.Walks.{IsRooted, is_ancestor, is_above}
use Rattle.cw_tree.proofs.Walks.Ancestors.{ancestor_self, ancestor_above, above_ancestor, above_parent, ancestor_le}
use Rattle.cw_tree.proofs.Walks.Kin.{branch}
use Rattle.cw_tree.proofs.NextNodes.Before.{above_less, above_down}

-- v is enough for node n and for all beneath it, if T tells for which nodes it is
abbrev pub AllWithin : List Node → (T : ℕ → ℕ → Type 0) → (n v : ℕ) → Type 0
AllWithin t T n v = (m : ℕ) → m < length t → is_ancestor t n m ≡ true → T m v

abbrev pub AllBeneath : List Node → (T : ℕ → ℕ → Type 0) → (n v : ℕ) → Type 0
AllBeneath t T n v = (m : ℕ) → m < length t → is_above t n m ≡ true → T m v

-- v is enough for the children of node x from number n on, and for all beneath them
abbrev pub AllFrom : List Node → (T : ℕ → ℕ → Type 0) → (n x v : ℕ) → Type 0
AllFrom t T n x v = (c : ℕ) → n ≤ c → 0 < c → c < length t → parent_of t c ≡ x → AllWithin t T c v

pub within_from : (t : List Node) (T : ℕ → ℕ → Type 0) (n v : ℕ) → T n v → AllBeneath t T n v → AllWithin t T n v
within_from t T n v h g m in_tree e =
    let P : ℕ → Type 0 = λ x. T x v in
    elim (cases_eq m n) [
      | inl q ↦ subst P (sym q) h
      | inr ne ↦ g m in_tree (sym (ancestor_above t n m ne) ∙ e)
    ]

pub within_to : (t : List Node) (T : ℕ → ℕ → Type 0) (n v : ℕ) → n < length t → AllWithin t T n v → T n v × AllBeneath t T n v
within_to t T n v there h = (h n there (ancestor_self t n), λ m in_tree e. h m in_tree (above_ancestor t n m e))

module _ (t : List Node) (r : IsRooted t) (T : ℕ → ℕ → Type 0) where
  -- what is in a child of node x is beneath it
  child_over : (x c m : ℕ) → 0 < c → c < length t → m < length t → parent_of t c ≡ x → is_ancestor t c m ≡ true → is_above t x m ≡ true
  child_over x c m some there in_tree up e =
      let here : is_above t x c ≡ true = above_parent t r x c some there ∙ ap (is_ancestor t x) up ∙ ancestor_self t x in
      above_down t r x c m in_tree here e

  -- all children of node x are from number n on
  pub beneath_children : (n x v : ℕ) → n ≤ suc x → AllFrom t T n x v → AllBeneath t T x v
  beneath_children n x v low h m in_tree e =
      let over = above_less t r x m in_tree e in
      let ne : m ≢ x = omega arith in
      let b = branch t r x m in_tree ne (above_ancestor t x m e) in
      let le : b.child ≤ m = ancestor_le t r b.child m in_tree b.over in
      let there : b.child < length t = omega arith in
      let up : parent_of t b.child < b.child = r b.child b.some there in
      let past : n ≤ b.child = omega (arith, b.parent) in
      h b.child past b.some there b.parent m in_tree b.over

  pub children_beneath : (n x v : ℕ) → AllBeneath t T x v → AllFrom t T n x v
  children_beneath n x v h c low some there up m in_tree e = h m in_tree (child_over x c m some there in_tree up e)

  -- ## One child more, node n - 1

  module _ (n : ℕ) (more : 1 < n) (low : n ≤ length t) where
    pub both_from : (q v : ℕ) → AllFrom t T n q v × AllWithin t T (n - 1) v → AllFrom t T (n - 1) q v
    both_from q v h c l s there u =
        elim (cases_eq c (n - 1)) [
          | inl e ↦ (let P : ℕ → Type 0 = λ x. AllWithin t T x v in subst P (sym e) h.1)
          | inr ne ↦ h.0 c (omega arith) s there u
        ]

    pub from_both : (q v : ℕ) → q ≡ parent_of t (n - 1) → AllFrom t T (n - 1) q v → AllFrom t T n q v × AllWithin t T (n - 1) v
    from_both q v up h = ((λ c l s there u. h c (omega arith) s there u), h (n - 1) (omega arith) (omega arith) (omega arith) (sym up))

    -- for other nodes it is none of their children
    pub other_from : (x v : ℕ) → (x ≡ parent_of t (n - 1) → ⊥) → AllFrom t T n x v → AllFrom t T (n - 1) x v
    other_from x v ne h c l s in_tree u =
        elim (cases_eq c (n - 1)) [
          | inl e ↦ absurd (ne (sym u ∙ ap (parent_of t) e))
          | inr past ↦ h c (omega arith) s in_tree u
        ]

    pub from_other : (x v : ℕ) → AllFrom t T (n - 1) x v → AllFrom t T n x v
    from_other x v h c l s in_tree u = h c (omega arith) s in_tree u
