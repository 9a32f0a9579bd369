-- Which strands wait for the left one of their fork.
use Rattle.std.proofs.Common.{◌≡◌, ℕ, ◌<◌, List, [], ◌∷◌, refl, ap, ◌∙◌, arith, Bool, true, false, nat_lt}
use Rattle.std.specs.Prelude.{◌&&◌, ◌||◌, not}
use Rattle.std.specs.List.{list_any}
use Rattle.std.proofs.lemmas.Bool.{and_left, and_right, and_from, or_from, or_left, lt-ltb, not_from_true, not_from_false, false_from_ne_true, true_from_ne_false, ltb-true}
use Rattle.cw_tree.specs.declared.node.Node.{Node}
use Rattle.cw_tree.specs.Nodes.{parent_of, is_fork}
use Rattle.cw_tree.specs.Series.{children}
use Rattle.cw_open.specs.Machine.{OpenMachine, has_finished}
use Rattle.cw_core.specs.State.{CoreState, is_split, waits_for_left}
use Rattle.cw_sim.specs.Workers.{left_node, right_node}
use Rattle.cw_sim.proofs.Kept.Halves.{AsMade}

-- none of these is smaller than 0
none_smaller : (p : ℕ → Bool) (ns : List ℕ) → list_any (λ l. nat_lt l 0 && p l) ns ≡ false
none_smaller p [] = refl
none_smaller p (n ∷ ns) = or_from (nat_lt n 0 && p n) (list_any (λ l. nat_lt l 0 && p l) ns) (and_left (nat_lt n 0) (p n) (false_from_ne_true (nat_lt n 0) (λ e. let h : n < 0 = ltb-true n 0 e in absurd (omega arith)))) (none_smaller p ns)

-- main does not
pub main_ready : (k : CoreState) → waits_for_left k 0 ≡ false
main_ready k = and_right (not (is_split k (parent_of k.machine.tree 0))) _ (none_smaller (λ l. not (has_finished k.machine l)) (children k.machine.tree (parent_of k.machine.tree 0)))

module _ (k : CoreState) (made : AsMade k.machine.tree) (y f : ℕ) (up : parent_of k.machine.tree y ≡ f) (fork : is_fork k.machine.tree f ≡ true) where
  abbrev t : List Node
  t = k.machine.tree

  abbrev m : OpenMachine
  m = k.machine

  abbrev test : ℕ → Bool
  test l = nat_lt l y && not (has_finished m l)

  waits_is : waits_for_left k y ≡ (not (is_split k f) && (test (left_node f) || (test (right_node f) || false)))
  waits_is = ap (λ g. not (is_split k g) && list_any test (children t g)) up ∙ ap (λ ns. not (is_split k f) && list_any test ns) (made f fork)

  -- not where the fork is split
  pub split_ready : is_split k f ≡ true → waits_for_left k y ≡ false
  split_ready e = waits_is ∙ and_left (not (is_split k f)) _ (not_from_true (is_split k f) e)

  not_less : (n : ℕ) → (n < y → ⊥) → test n ≡ false
  not_less n off = and_left (nat_lt n y) (not (has_finished m n)) (false_from_ne_true (nat_lt n y) (λ e. off (ltb-true n y e)))

  -- nor the left strand
  pub left_ready : y ≡ left_node f → waits_for_left k y ≡ false
  left_ready e = waits_is ∙ and_right (not (is_split k f)) _ (or_from (test (left_node f)) (test (right_node f) || false) (not_less (left_node f) (λ h. omega (arith, e, h))) (or_from (test (right_node f)) false (not_less (right_node f) (λ h. omega (arith, e, h))) refl))

  -- nor the right one once the left one has finished
  pub right_ready : y ≡ right_node f → has_finished m (left_node f) ≡ true → waits_for_left k y ≡ false
  right_ready e done =
      waits_is
      ∙ and_right (not (is_split k f)) _ (or_from (test (left_node f)) (test (right_node f) || false) (and_right (nat_lt (left_node f) y) (not (has_finished m (left_node f))) (not_from_true (has_finished m (left_node f)) done))
      (or_from (test (right_node f)) false (not_less (right_node f) (λ h. omega (arith, e, h))) refl))

  -- where it is ready and its fork is not split, the left one has finished
  pub left_done : y ≡ right_node f → waits_for_left k y ≡ false → is_split k f ≡ false → has_finished m (left_node f) ≡ true
  left_done e ready off =
      true_from_ne_false (has_finished m (left_node f)) (λ going.
      let less : left_node f < y = omega (arith, e) in
      let waits : waits_for_left k y ≡ true = waits_is ∙ and_from (not (is_split k f)) _ (not_from_false (is_split k f) off)
      (or_left (test (left_node f)) (test (right_node f) || false) (and_from (nat_lt (left_node f) y) (not (has_finished m (left_node f))) (lt-ltb (left_node f) y less) (not_from_false (has_finished m (left_node f)) going))) in
      absurd (cc (waits, ready)))
