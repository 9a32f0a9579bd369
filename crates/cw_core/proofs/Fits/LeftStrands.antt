-- Whether a strand waits for the left one of its fork, by its row.
use Rattle.std.proofs.Common.{◌≡◌, ℕ, ◌<◌, List, [], ◌∷◌, length, refl, ap, sym, ◌∙◌, subst, arith, Bool, true, false, cond, Some, nat_lt, inl}
use Rattle.std.specs.Prelude.{◌&&◌, ◌||◌, not, filter}
use Rattle.std.specs.List.{list_any}
use Rattle.std.proofs.lemmas.Bool.{ltb-true}
use Rattle.cw_tree.specs.declared.node.Node.{Node}
use Rattle.cw_tree.specs.Nodes.{is_strand_kind, parent_of, is_strand, is_fork}
use Rattle.cw_tree.specs.Series.{children}
use Rattle.cw_tree.specs.Shape.{IsTree}
use Rattle.cw_tree.proofs.Lists.{In}
use Rattle.cw_tree.proofs.Members.{in_filter}
use Rattle.cw_tree.proofs.Walks.There.{node_there}
use Rattle.cw_tree.proofs.InOrder.DepthFirst.{child_is}
use Rattle.cw_open.specs.Machine.{has_finished}
use Rattle.cw_core.specs.declared.row.Made.{Made}
use Rattle.cw_core.specs.State.{CoreState, is_split, waits_for_left}
use Rattle.cw_core.specs.Kept.{IsMade, elder_list}

-- a test of what passes another test
pub any_filter : (p q : ℕ → Bool) (xs : List ℕ) → list_any (λ x. p x && q x) xs ≡ list_any q (filter p xs)
any_filter p q [] = refl
any_filter p q (x ∷ xs) = ap (λ b. (p x && q x) || b) (any_filter p q xs) ∙ by (p x) where
  by : (b : Bool) → ((b && q x) || list_any q (filter p xs)) ≡ list_any q (cond b (x ∷ filter p xs) (filter p xs))
  by true = refl
  by false = refl

module _ (k : CoreState) (tree : IsTree k.machine.tree) (s : ℕ) (strand : is_strand k.machine.tree s ≡ true) (r : Made) (row : IsMade k s r) where
  abbrev t : List Node
  t = k.machine.tree

  abbrev f : ℕ
  f = parent_of t s

  pub waits_tell : waits_for_left k s ≡ (not (is_split k f) && list_any (λ l. not (has_finished k.machine l)) (elder_list r.elder))
  waits_tell = ap (λ b. not (is_split k f) && b) (any_filter (λ l. nat_lt l s) (λ l. not (has_finished k.machine l)) (children t f) ∙ ap (list_any (λ l. not (has_finished k.machine l))) (row.elder strand))

  -- a left strand and the fork are there
  pub elder_there : (l : ℕ) → r.elder ≡ Some l → (l < length t) × (is_fork t f ≡ true) × (s < length t)
  elder_there l e =
      let P : List ℕ → Type 0 = λ ns. In l ns in
      let i : In l (filter (λ l. nat_lt l s) (children t f)) = subst P (sym (row.elder strand ∙ ap elder_list e)) (inl refl) in
      let w = in_filter (λ l. nat_lt l s) l (children t f) i in
      let c = child_is t f l w.0 in
      let less : l < s = ltb-true l s w.1 in
      let h = node_there (λ y. is_strand_kind y.kind) t s strand in
      (c.there, tree.strands s h (omega arith) strand, h)
