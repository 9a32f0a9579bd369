-- A strand in which nothing was made: nothing hangs from it, and it stands in no block.
use Rattle.std.proofs.Common.{◌≡◌, ℕ, suc, ◌<◌, List, [], ◌∷◌, length, refl, ap, ◌∙◌, subst, arith, Bool, true, false, inl, nat_eq, nat_lt}
use Rattle.std.specs.Prelude.{◌&&◌, ◌||◌, not}
use Rattle.std.specs.List.{list_any, list_all}
use Rattle.std.proofs.lemmas.Bool.{and_from, or_from, or_left, or_right, eq-eqb, ltb-true, not_from_true, not_from_false, false_from_ne_true}
use Rattle.cw_tree.specs.declared.node.Node.{Node}
use Rattle.cw_tree.specs.Nodes.{parent_of, is_strand, is_fork}
use Rattle.cw_tree.specs.Walks.{is_ancestor}
use Rattle.cw_tree.specs.Series.{children, place}
use Rattle.cw_tree.specs.Shape.{IsTree}
use Rattle.cw_tree.proofs.Walks.Ancestors.{ancestor_self, ancestor_up}
use Rattle.cw_tree.proofs.Lists.{In}
use Rattle.cw_tree.proofs.Walks.Strands.{strand_over}
use Rattle.cw_tree.proofs.InOrder.DepthFirst.{child_is}
use Rattle.cw_open.specs.Machine.{OpenMachine, has_finished, in_block}
use Rattle.cw_open.proofs.Open.Standing.{stands_at}
use Rattle.cw_core.specs.State.{CoreState}
use Rattle.cw_core.specs.Events.{is_unstarted}
use Rattle.cw_sim.specs.Workers.{left_node, right_node}
use Rattle.cw_sim.proofs.Kept.Halves.{AsMade}

module _ (m : OpenMachine) (tree : IsTree m.tree) (r : ℕ) (strand : is_strand m.tree r ≡ true) (fresh : (n : ℕ) → n < length m.tree → is_ancestor m.tree r n ≡ true → n ≡ r) where
  abbrev t : List Node
  t = m.tree

  no_child : (c : ℕ) → In c (children t r) → ⊥
  no_child c i =
      let child = child_is t r c i in
      let low : parent_of t c < c = tree.rooted c child.some child.there in
      let same = fresh c child.there (ancestor_up t tree.rooted r c child.some child.there (ap (is_ancestor t r) child.parent ∙ ancestor_self t r)) in
      let up = child.parent in
      omega arith

  pub no_children : children t r ≡ []
  no_children = by (children t r) no_child where
    by : (cs : List ℕ) → ((c : ℕ) → In c cs → ⊥) → cs ≡ []
    by [] none = refl
    by (c ∷ cs) none = absurd (none c (inl refl))

  pub no_block : in_block m r ≡ false
  no_block =
      let at = stands_at t tree.rooted r strand in
      let P : ℕ → Type 0 = λ s. is_ancestor t s (place t r) ≡ true in
      let here = fresh (place t r) at.there (subst P at.strand (strand_over t tree.rooted (place t r) at.there)) in
      not_from_true (nat_eq (place t r) r) (eq-eqb (place t r) r here)

-- A fork whose right strand made no step, and has not finished, may be split.
module _ (k : CoreState) (f : ℕ) where
  abbrev smaller : ℕ → Bool
  smaller r = nat_lt (left_node f) r || (nat_lt (right_node f) r || false)

  abbrev fresh : ℕ → Bool
  fresh r = nat_eq (length (children k.machine.tree r)) 0 && not (has_finished k.machine r)

  abbrev test : ℕ → Bool
  test r = not (smaller r) || fresh r

  not_less : (n : ℕ) → left_node f < suc n → nat_lt n (left_node f) ≡ false
  not_less n h = false_from_ne_true (nat_lt n (left_node f)) (λ e. let l : n < left_node f = ltb-true n (left_node f) e in absurd (omega arith))

  none_smaller : smaller (left_node f) ≡ false
  none_smaller = or_from (nat_lt (left_node f) (left_node f)) (nat_lt (right_node f) (left_node f) || false) (not_less (left_node f) (omega arith)) (or_from (nat_lt (right_node f) (left_node f)) false (not_less (right_node f) (omega arith)) refl)

  pub unstarted : AsMade k.machine.tree → is_fork k.machine.tree f ≡ true → children k.machine.tree (right_node f) ≡ [] → has_finished k.machine (right_node f) ≡ false → is_unstarted k f ≡ true
  unstarted made fork none going =
      let right_fresh = and_from (nat_eq (length (children k.machine.tree (right_node f))) 0) (not (has_finished k.machine (right_node f))) (ap (λ cs. nat_eq (length cs) 0) none) (not_from_false (has_finished k.machine (right_node f)) going) in
      ap (λ ns. list_all (λ r. not (list_any (λ l. nat_lt l r) ns) || fresh r) ns) (made f fork)
      ∙ and_from (test (left_node f)) (test (right_node f) && true) (or_left (not (smaller (left_node f))) (fresh (left_node f)) (not_from_false (smaller (left_node f)) none_smaller))
      (and_from (test (right_node f)) true (or_right (not (smaller (right_node f))) (fresh (right_node f)) right_fresh) refl)
