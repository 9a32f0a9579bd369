-- The forks around a strand, strand by strand on the way up.
use Rattle.std.proofs.Common.{◌≡◌, ◌≢◌, ℕ, ◌<◌, List, [], ◌∷◌, ◌++◌, length, ap, ◌∙◌, arith, true, false, cond, nat_eq}
use Rattle.std.proofs.lemmas.Bool.{eq-eqb, false_from_ne_true, eqb-true}
use Rattle.cw_tree.specs.declared.node.Node.{Node}
use Rattle.cw_tree.specs.Nodes.{parent_of, is_strand}
use Rattle.cw_tree.specs.Walks.{IsRooted}
use Rattle.cw_tree.specs.Series.{strand_of}
use Rattle.cw_tree.proofs.Names.Naming.{on_strand, strands_of_strand}
use Rattle.cw_core.specs.State.{CoreState, is_split}
use Rattle.cw_sim.specs.Workers.{left_node}
use Rattle.cw_sim.specs.Kept.{lefts, forks_around}

module _ (k : CoreState) (r : IsRooted k.machine.tree) (x : ℕ) (some : 0 < x) (there : x < length k.machine.tree) (strand : is_strand k.machine.tree x ≡ true) where
  abbrev t : List Node
  t = k.machine.tree

  abbrev pub f : ℕ
  f = parent_of t x

  around_step : forks_around k x ≡ cond (is_split k f) [] (cond (nat_eq x (left_node f)) (forks_around k (strand_of t f) ++ f ∷ []) (forks_around k (strand_of t f)))
  around_step = let low : f < x = r x some there in ap (lefts k) (on_strand t r x some there strand ∙ ap (λ ys. x ∷ ys) (strands_of_strand t r f (omega arith)))

  -- none where its fork is split
  pub around_split : is_split k f ≡ true → forks_around k x ≡ []
  around_split e = around_step ∙ ap (λ b. cond b [] (cond (nat_eq x (left_node f)) (forks_around k (strand_of t f) ++ f ∷ []) (forks_around k (strand_of t f)))) e

  whole : is_split k f ≡ false → forks_around k x ≡ cond (nat_eq x (left_node f)) (forks_around k (strand_of t f) ++ f ∷ []) (forks_around k (strand_of t f))
  whole e = around_step ∙ ap (λ b. cond b [] (cond (nat_eq x (left_node f)) (forks_around k (strand_of t f) ++ f ∷ []) (forks_around k (strand_of t f)))) e

  -- for a left strand one more than for the strand that forked
  pub around_left : is_split k f ≡ false → x ≡ left_node f → forks_around k x ≡ forks_around k (strand_of t f) ++ f ∷ []
  around_left e q = whole e ∙ ap (λ b. cond b (forks_around k (strand_of t f) ++ f ∷ []) (forks_around k (strand_of t f))) (eq-eqb x (left_node f) q)

  -- for a right one the same
  pub around_right : is_split k f ≡ false → x ≢ left_node f → forks_around k x ≡ forks_around k (strand_of t f)
  around_right e ne = whole e ∙ ap (λ b. cond b (forks_around k (strand_of t f) ++ f ∷ []) (forks_around k (strand_of t f))) (false_from_ne_true (nat_eq x (left_node f)) (λ z. ne (eqb-true x (left_node f) z)))
