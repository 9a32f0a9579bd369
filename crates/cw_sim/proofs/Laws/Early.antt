-- A fork around whose strand no fork waits is not split too early.
use Rattle.std.proofs.Common.{◌≡◌, ℕ, zero, suc, ◌+◌, ◌<◌, ◌≤◌, List, [], ◌∷◌, ◌++◌, length, refl, ap, sym, ◌∙◌, arith, Bool, true, false, cond, Some, None, inl, inr, nat_eq}
use Rattle.std.specs.Prelude.{◌&&◌, ◌%◌, ℤ, slice_index}
use Rattle.std.proofs.lemmas.Bool.{ne_eqb}
use Rattle.cw_tree.specs.declared.node.Node.{Node}
use Rattle.cw_tree.specs.Nodes.{parent_of, is_strand, is_fork}
use Rattle.cw_tree.specs.Walks.{has}
use Rattle.cw_tree.specs.Series.{strand_of}
use Rattle.cw_tree.specs.Names.{is_right}
use Rattle.cw_tree.specs.Shape.{IsTree}
use Rattle.cw_tree.proofs.Walks.Strands.{strand_of_root, strand_of_le, strand_itself}
use Rattle.cw_tree.proofs.Walks.There.{node_there, fork_there}
use Rattle.cw_trace.specs.Columns.{used, before_split, left_column_of as left_column}
use Rattle.cw_trace.specs.Stands.{column, column_in, fork_column}
use Rattle.cw_trace.specs.Segments.{outward}
use Rattle.cw_trace.proofs.Stands.Counting.{fork_column_lt}
use Rattle.cw_trace.proofs.Segments.Lines.{left_of_odd, left_of_next}
use Rattle.cw_trace.proofs.Keeps.Meaning.{odd_column}
use Rattle.cw_trace.proofs.Keeps.Sides.{Side, bare, left, right, side}
use Rattle.cw_open.proofs.Laws.Named.{strand_is}
use Rattle.cw_core.specs.State.{CoreState, has_columns, is_split}
use Rattle.cw_core.specs.Laws.{IsCore}
use Rattle.cw_core.proofs.Events.Going.{well}
use Rattle.cw_core.proofs.Events.Ordering.{columns_used, used_columns, unjoined}
use Rattle.cw_sim.specs.Workers.{right_node}
use Rattle.cw_sim.specs.Kept.{forks_around}
use Rattle.cw_sim.proofs.Kept.Ways.{around_left, around_right}
use Rattle.cw_sim.proofs.Kept.Halves.{AsMade, which, right_is}

-- one step of the walk outward from a column but the first
outward_step : (cuts ps : List ℕ) (n p : ℕ) → 0 < p → outward cuts ps (suc n) p ≡ cond (has cuts (left_column p)) None (cond (nat_eq (p % 2) 1) (Some p) (outward cuts ps n (slice_index ps p)))
outward_step cuts ps n zero some = absurd (omega arith)
outward_step cuts ps n (suc p) some = refl

no_end : (xs : List ℕ) (f : ℕ) → xs ++ f ∷ [] ≡ [] → ⊥
no_end [] f e = absurd (cc e)
no_end (x ∷ xs) f e = absurd (cc e)

even_next : (n : ℕ) → n % 2 ≡ 1 → (n + 1) % 2 ≡ 1 → ⊥
even_next n e q = omega arith

module _ (first : List ℤ) (k : CoreState) (core : IsCore first k) (made : AsMade k.machine.tree) where
  abbrev t : List Node
  t = k.machine.tree

  abbrev size : ℕ
  size = used k.tier

  tree : IsTree t
  tree = (well first k core).sound.tree

  column_main : column t size 0 ≡ 0
  column_main = ap (λ s. column_in t size s s) (strand_of_root t)

  -- the column of a node is that of its strand
  column_strand : (f : ℕ) → column t size f ≡ column t size (strand_of t f)
  column_strand f = ap (λ s. column_in t size s s) (sym (strand_itself t tree.rooted (strand_of t f) (strand_is t tree.root f)))

  -- whether a fork with columns was split
  split_is : (f : ℕ) → is_fork t f ≡ true → fork_column t f + 1 < size → is_split k f ≡ has k.splits (fork_column t f)
  split_is f fork low = ap (λ b. b && has k.splits (fork_column t f)) (used_columns k (well first k core) core.joined core.left_first core.stands f fork low)

  -- where a fork has columns, so has the fork of its strand
  outer_low : (f : ℕ) → is_fork t f ≡ true → fork_column t f + 1 < size → 0 < strand_of t f → fork_column t (parent_of t (strand_of t f)) + 1 < size
  outer_low f fork columns some =
      let s = strand_of t f in
      let hf : f < length t = fork_there t f fork in
      let le : s ≤ f = strand_of_le t tree.rooted f hf in
      let up : parent_of t s < s = tree.rooted s some (omega arith) in
      let over : is_fork t (parent_of t s) ≡ true = tree.strands s (omega arith) some (strand_is t tree.root f) in
      let less = fork_column_lt t (parent_of t s) f (omega arith) over in
      omega arith

  -- where no fork waits around a strand with columns, the walk outward from it finds none
  walk_none : (n y : ℕ) → is_strand t y ≡ true → (0 < y → fork_column t (parent_of t y) + 1 < size) → forks_around k y ≡ [] → outward k.splits k.tier.parents n (column t size y) ≡ None
  walk_none zero y strand low none = refl
  walk_none (suc n) zero strand low none = ap (outward k.splits k.tier.parents (suc n)) column_main
  walk_none (suc n) (suc z) strand low none = by_split (λ q a b c. walk_none n q a b c) (is_split k f) refl (side t tree size y f (omega arith) there refl strand) where
    y : ℕ
    y = suc z

    f : ℕ
    f = parent_of t y

    there : y < length t
    there = node_there (λ x. Rattle.cw_tree.specs.Nodes.is_strand_kind x.kind) t y strand

    fork : is_fork t f ≡ true
    fork = tree.strands y there (omega arith) strand

    columns : fork_column t f + 1 < size
    columns = low (omega arith)

    cut : is_split k f ≡ has k.splits (fork_column t f)
    cut = split_is f fork columns

    odd : fork_column t f % 2 ≡ 1
    odd = odd_column t f

    by_split : ((q : ℕ) → is_strand t q ≡ true → (0 < q → fork_column t (parent_of t q) + 1 < size) → forks_around k q ≡ [] → outward k.splits k.tier.parents n (column t size q) ≡ None) → (b : Bool) → is_split k f ≡ b → Side t tree size y f → outward k.splits k.tier.parents (suc n) (column t size y) ≡ None
    by_split more b e (bare few same) = absurd (omega arith)
    by_split more true e (left c sided at) =
        ap (outward k.splits k.tier.parents (suc n)) at
        ∙ outward_step k.splits k.tier.parents n (fork_column t f) (omega (arith, odd))
        ∙ ap (λ q. cond (has k.splits q) None (cond (nat_eq (fork_column t f % 2) 1) (Some (fork_column t f)) (outward k.splits k.tier.parents n (slice_index k.tier.parents (fork_column t f))))) (left_of_odd (fork_column t f) odd)
        ∙ ap (λ b. cond b None (cond (nat_eq (fork_column t f % 2) 1) (Some (fork_column t f)) (outward k.splits k.tier.parents n (slice_index k.tier.parents (fork_column t f))))) (sym cut ∙ e)
    by_split more true e (right c sided at) =
        ap (outward k.splits k.tier.parents (suc n)) at
        ∙ outward_step k.splits k.tier.parents n (fork_column t f + 1) (omega arith)
        ∙ ap (λ q. cond (has k.splits q) None (cond (nat_eq ((fork_column t f + 1) % 2) 1) (Some (fork_column t f + 1)) (outward k.splits k.tier.parents n (slice_index k.tier.parents (fork_column t f + 1))))) (left_of_next (fork_column t f) odd)
        ∙ ap (λ b. cond b None (cond (nat_eq ((fork_column t f + 1) % 2) 1) (Some (fork_column t f + 1)) (outward k.splits k.tier.parents n (slice_index k.tier.parents (fork_column t f + 1))))) (sym cut ∙ e)
    by_split more false e s = elim (which t tree made f fork y (omega arith) there refl) [
      | inl q ↦ absurd (no_end (forks_around k (strand_of t f)) f (sym (around_left k tree.rooted y (omega arith) there strand e q) ∙ none))
      | inr q ↦ on s q
    ] where
      on : Side t tree size y f → y ≡ right_node f → outward k.splits k.tier.parents (suc n) (column t size y) ≡ None
      on (bare few same) q = absurd (omega arith)
      on (left c sided at) q = absurd (let one = ap (is_right t) q in let two = right_is t tree made f fork in cc)
      on (right c sided at) q =
          let up : slice_index k.tier.parents (fork_column t f + 1) ≡ column t size (strand_of t f) = core.stands.segments.pairs (fork_column t f) odd (omega arith) ∙ core.stands.forked_from f fork columns ∙ column_strand f in
          ap (outward k.splits k.tier.parents (suc n)) at
          ∙ outward_step k.splits k.tier.parents n (fork_column t f + 1) (omega arith)
          ∙ ap (λ q. cond (has k.splits q) None (cond (nat_eq ((fork_column t f + 1) % 2) 1) (Some (fork_column t f + 1)) (outward k.splits k.tier.parents n (slice_index k.tier.parents (fork_column t f + 1))))) (left_of_next (fork_column t f) odd)
          ∙ ap (λ b. cond b None (cond (nat_eq ((fork_column t f + 1) % 2) 1) (Some (fork_column t f + 1)) (outward k.splits k.tier.parents n (slice_index k.tier.parents (fork_column t f + 1))))) (sym cut ∙ e)
          ∙ ap (λ b. cond b (Some (fork_column t f + 1)) (outward k.splits k.tier.parents n (slice_index k.tier.parents (fork_column t f + 1)))) (ne_eqb ((fork_column t f + 1) % 2) 1 (λ z. even_next (fork_column t f) odd z))
          ∙ ap (outward k.splits k.tier.parents n) up
          ∙ more (strand_of t f) (strand_is t tree.root f) (outer_low f fork columns) (sym (around_right k tree.rooted y (omega arith) there strand e (λ z. omega (arith, q, z))) ∙ none)

  -- so the fork of such a strand may be split
  pub not_early : (f : ℕ) → is_fork t f ≡ true → has_columns k f ≡ true → has k.machine.joined f ≡ false → forks_around k (strand_of t f) ≡ [] → before_split k.tier (fork_column t f) ≡ None
  not_early f fork room apart none =
      let w = well first k core in
      let low : fork_column t f + 1 < size = columns_used k w core.joined core.left_first core.stands f fork room in
      let odd = odd_column t f in
      core.stands.outside.next (fork_column t f) (omega arith) odd (unjoined k w core.joined core.left_first core.stands f fork apart)
      ∙ ap (outward k.splits k.tier.parents (fork_column t f)) (core.stands.forked_from f fork low ∙ column_strand f)
      ∙ walk_none (fork_column t f) (strand_of t f) (strand_is t tree.root f) (outer_low f fork low) none
