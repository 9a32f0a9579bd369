-- The two strands of a fork.
use Rattle.std.proofs.Common.{◌≡◌, ℕ, ◌<◌, List, [], ◌∷◌, length, refl, sym, ◌∙◌, subst, arith, true, inl, inr}
use Rattle.std.specs.Prelude.{◌⊎◌}
use Rattle.cw_tree.specs.declared.node.Node.{Node}
use Rattle.cw_tree.specs.Nodes.{parent_of, is_strand, is_fork}
use Rattle.cw_tree.specs.Series.{children}
use Rattle.cw_tree.specs.Names.{is_right}
use Rattle.cw_tree.specs.Shape.{IsTree}
use Rattle.cw_tree.proofs.Lists.{In}
use Rattle.cw_tree.proofs.Walks.Kin.{fork_child}
use Rattle.cw_tree.proofs.InOrder.DepthFirst.{child_is, IsChild, child_in}
use Rattle.cw_trace.proofs.Keeps.Sides.{right_of as is_right_of}
pub use Rattle.cw_open.proofs.LeftFirst.Meeting.{strand_open}
use Rattle.cw_sim.specs.Workers.{left_node, right_node}

-- forks are as they were made
abbrev pub AsMade : List Node → Type 0
AsMade t = (f : ℕ) → is_fork t f ≡ true → children t f ≡ left_node f ∷ right_node f ∷ []

module _ (t : List Node) (tree : IsTree t) (made : AsMade t) (f : ℕ) (fork : is_fork t f ≡ true) where
  -- what hangs from a fork is its left or its right strand
  pub which : (y : ℕ) → 0 < y → y < length t → parent_of t y ≡ f → (y ≡ left_node f) ⊎ (y ≡ right_node f)
  which y some there up =
      let P : List ℕ → Type 0 = λ ns. In y ns in
      elim (subst P (made f fork) (child_in t f y (record { some = some; there = there; parent = up }))) [ inl e ↦ inl e | inr z ↦ elim z [ inl e ↦ inr e | inr n ↦ absurd n ] ]

  pub left_child : IsChild t f (left_node f)
  left_child = let P : List ℕ → Type 0 = λ ns. In (left_node f) ns in child_is t f (left_node f) (subst P (sym (made f fork)) (inl refl))

  pub right_child : IsChild t f (right_node f)
  right_child = let P : List ℕ → Type 0 = λ ns. In (right_node f) ns in child_is t f (right_node f) (subst P (sym (made f fork)) (inr (inl refl)))

  under : (y : ℕ) → IsChild t f y → is_strand t y ≡ true
  under y c = let P : ℕ → Type 0 = λ g. is_fork t g ≡ true in fork_child t tree y c.some c.there (subst P (sym c.parent) fork)

  pub left_strand : is_strand t (left_node f) ≡ true
  left_strand = under (left_node f) left_child

  pub right_strand : is_strand t (right_node f) ≡ true
  right_strand = under (right_node f) right_child

  pub right_is : is_right t (right_node f) ≡ true
  right_is = is_right_of t tree (left_node f) (right_node f) left_child.some (omega arith) left_strand (left_child.parent ∙ sym right_child.parent)
