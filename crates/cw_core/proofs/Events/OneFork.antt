-- A strand waits for one fork at most, and for none once it has finished.
use Rattle.std.proofs.Common.{◌≡◌, ◌≢◌, ℕ, ◌<◌, ◌≤◌, List, length, ap, sym, ◌∙◌, subst, arith, true, false, inl, inr}
use Rattle.std.specs.Prelude.{◌&&◌, not}
use Rattle.std.proofs.lemmas.Bool.{and_parts, cases_lt, cases_eq, cases_Bool, false_from_ne_true}
use Rattle.cw_tree.specs.declared.node.Node.{Node}
use Rattle.cw_tree.specs.Nodes.{is_fork_kind, parent_of, is_strand, is_fork}
use Rattle.cw_tree.specs.Walks.{IsRooted, lca, is_ancestor}
use Rattle.cw_tree.specs.Series.{strand_of, parallel}
use Rattle.cw_tree.specs.Shape.{IsTree}
use Rattle.cw_tree.specs.ForkCounts.{one_if}
use Rattle.cw_tree.proofs.Walks.There.{node_there}
use Rattle.cw_tree.proofs.Walks.Kin.{ancestor_linear, branch, fork_child}
use Rattle.cw_tree.proofs.Walks.Ancestors.{ancestor_le, ancestor_trans}
use Rattle.cw_tree.proofs.Walks.Meets.{lca_is_meet}
use Rattle.cw_tree.proofs.Walks.Parting.{series_or_parallel}
use Rattle.cw_tree.proofs.Walks.Strands.{strand_over, strand_innermost, strand_of_le}
use Rattle.cw_open.specs.Machine.{OpenMachine}
use Rattle.cw_open.specs.Open.{is_open, AreNested}
use Rattle.cw_open.proofs.Open.Standing.{open_over, open_last}

-- two nodes of one strand are not parallel
pub not_parallel : (t : List Node) → IsTree t → (f g : ℕ) → f < length t → g < length t → is_ancestor t f g ≡ false → strand_of t f ≡ strand_of t g → parallel t f g ≡ false
not_parallel t tree f g hf hg off same =
    false_from_ne_true (parallel t f g) (λ par.
    let r = tree.rooted in
    let p = strand_of t f in
    let over_f : is_ancestor t p f ≡ true = strand_over t r f hf in
    let P : ℕ → Type 0 = λ q. is_ancestor t q g ≡ true in
    let over_g : is_ancestor t p g ≡ true = subst P (sym same) (strand_over t r g hg) in
    let q = lca t f g in
    let fork : is_fork t q ≡ true = (and_parts (not (is_ancestor t f g) && not (is_ancestor t g f)) (is_fork t q) par).1 in
    let meet = lca_is_meet t r f g hf hg in
    let ne : f ≢ q = λ e. (let Q : ℕ → Type 0 = λ x. is_ancestor t x g ≡ true in cc (subst Q (sym e) meet.right, off)) in
    let z = branch t r q f hf ne meet.left in
    let low : z.child ≤ f = ancestor_le t r z.child f hf z.over in
    let strand : is_strand t z.child ≡ true = fork_child t tree z.child z.some (omega arith) (ap (is_fork t) z.parent ∙ fork) in
    let inner : z.child ≤ p = strand_innermost t r z.child strand f hf z.over in
    let down : is_ancestor t z.child p ≡ true = ancestor_linear t r z.child p f hf z.over over_f inner in
    let both : is_ancestor t z.child g ≡ true = ancestor_trans t r z.child p g hg down over_g in
    let at : is_ancestor t z.child q ≡ true = meet.innermost z.child z.over both in
    let q_le : q ≤ f = ancestor_le t r q f hf meet.left in
    let le : z.child ≤ q = ancestor_le t r z.child q (omega arith) at in
    let up : parent_of t z.child < z.child = r z.child z.some (omega arith) in
    let e = z.parent in
    absurd (omega (arith, le, up, e)))

module _ (m : OpenMachine) (tree : IsTree m.tree) (w : AreNested m.tree (is_open m)) where
  abbrev t : List Node
  t = m.tree

  r : IsRooted t
  r = tree.rooted

  -- if a strand had two open forks, the earlier one would be the later one
  apart : (f g : ℕ) → f < g → g < length t → is_fork t f ≡ true → is_fork t g ≡ true → is_open m f ≡ true → is_open m g ≡ true → strand_of t f ≡ strand_of t g → ⊥
  apart f g less hg ff fg of og same =
      let hf : f < length t = omega arith in
      let p = strand_of t f in
      let p_le : p ≤ f = strand_of_le t r f hf in
      let over_f : is_ancestor t p f ≡ true = strand_over t r f hf in
      let P : ℕ → Type 0 = λ q. is_ancestor t q g ≡ true in
      let over_g : is_ancestor t p g ≡ true = subst P (sym same) (strand_over t r g hg) in
      elim (cases_Bool (is_ancestor t f g)) [
        | inl over ↦
            (let z = branch t r f g hg (omega arith) over in
            let low : z.child ≤ g = ancestor_le t r z.child g hg z.over in
            let strand : is_strand t z.child ≡ true = fork_child t tree z.child z.some (omega arith) (ap (is_fork t) z.parent ∙ ff) in
            let inner : z.child ≤ strand_of t g = strand_innermost t r z.child strand g hg z.over in
            let up : parent_of t z.child < z.child = r z.child z.some (omega arith) in
            let e = z.parent in
            omega (arith, same, p_le, inner, up, e))
        | inr off ↦
            (let back : is_ancestor t g f ≡ false = false_from_ne_true (is_ancestor t g f) (λ e. absurd (let h = ancestor_le t r g f hf e in omega arith)) in
            let sum = series_or_parallel t r f g hf hg off back in
            let one = ap one_if (open_last m tree w f g hf hg of) in
            let two = ap one_if (open_last m tree w g f hg hf og) in
            let par = ap one_if (not_parallel t tree f g hf hg off same) in
            omega (arith, sum, one, two, par))
      ]

  pub one_fork : (f g : ℕ) → is_fork t f ≡ true → is_fork t g ≡ true → is_open m f ≡ true → is_open m g ≡ true → strand_of t f ≡ strand_of t g → f ≡ g
  one_fork f g ff fg of og same =
      let hf = node_there (λ y. is_fork_kind y.kind) t f ff in
      let hg = node_there (λ y. is_fork_kind y.kind) t g fg in
      elim (cases_lt f g) [
        | inl less ↦ absurd (apart f g less hg ff fg of og same)
        | inr le ↦ elim (cases_eq f g) [ inl e ↦ e | inr ne ↦ absurd (apart g f (omega arith) hf fg ff og of (sym same)) ]
      ]

  -- a fork of a strand that is no longer open is not open
  pub none_within : (s g : ℕ) → is_fork t g ≡ true → strand_of t g ≡ s → is_open m s ≡ false → is_open m g ≡ false
  none_within s g fork own shut =
      let hg = node_there (λ y. is_fork_kind y.kind) t g fork in
      false_from_ne_true (is_open m g) (λ e.
      let Q : ℕ → Type 0 = λ x. is_ancestor t x g ≡ true in
      absurd (let a = open_over m tree w s g hg (subst Q own (strand_over t r g hg)) e in cc (a, shut)))
