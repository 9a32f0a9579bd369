-- Forks that are not split, as the tier says it: nothing is made in the right strand before the left one has finished.
use Rattle.std.proofs.Common.{◌≡◌, ◌≢◌, ℕ, ◌+◌, ◌<◌, List, length, refl, ap, sym, ◌∙◌, subst, arith, Bool, true, false, inl, inr}
use Rattle.std.specs.Prelude.{◌&&◌, ℤ}
use Rattle.std.proofs.lemmas.Bool.{cases_lt, cases_eq, true_from_ne_false}
use Rattle.cw_tree.specs.declared.node.Node.{Node}
use Rattle.cw_tree.specs.Nodes.{is_fork, parent_of}
use Rattle.cw_tree.specs.Walks.{has, is_ancestor}
use Rattle.cw_tree.specs.Shape.{IsTree}
use Rattle.cw_tree.proofs.Walks.There.{strand_there}
use Rattle.cw_trace.specs.Columns.{used}
use Rattle.cw_trace.specs.Running.{IsUnsplit}
use Rattle.cw_trace.specs.Stands.{fork_column}
use Rattle.cw_open.specs.Machine.{OpenMachine, has_finished, is_running}
use Rattle.cw_open.specs.Open.{is_open}
use Rattle.cw_open.proofs.Open.Standing.{runs, open_over}
use Rattle.cw_core.specs.State.{CoreState, has_columns, is_split}
use Rattle.cw_core.proofs.Events.Going.{well}
use Rattle.cw_core.proofs.Events.Ordering.{used_columns}
use Rattle.cw_sim.specs.Workers.{left_node, right_node}
use Rattle.cw_sim.specs.Kept.{CoreGoesOn}
use Rattle.cw_sim.proofs.Kept.Around.{Waits}
use Rattle.cw_sim.proofs.Kept.Halves.{left_child, right_child, left_strand, strand_open}

module _ (first : List ℤ) (k : CoreState) (on : CoreGoesOn first k) (f : ℕ) (fork : is_fork k.machine.tree f ≡ true) (off : is_split k f ≡ false) where
  abbrev t : List Node
  t = k.machine.tree

  tree : IsTree t
  tree = (well first k on.core).sound.tree

  unsplit : (g : ℕ) → g ≡ f → IsUnsplit k.tier t k.splits g
  unsplit g e = let P : ℕ → Type 0 = λ g. IsUnsplit k.tier t k.splits g in subst P (sym e) (by_columns (has_columns k f) refl) where
    by_columns : (b : Bool) → has_columns k f ≡ b → IsUnsplit k.tier t k.splits f
    by_columns true q = inr (sym (ap (λ b. b && has k.splits (fork_column t f)) q) ∙ off)
    by_columns false q = inl (elim (cases_lt (used k.tier) (fork_column t f + 2)) [
      | inl less ↦ less
      | inr le ↦ absurd (let c = used_columns k (well first k on.core) on.core.joined on.core.left_first on.core.stands f fork (omega arith) in cc (c, q))
    ])

  -- once something was made in its right strand, the left one is open no more
  pub left_shut : (n : ℕ) → n < length t → is_ancestor t (right_node f) n ≡ true → n ≢ right_node f → is_open k.machine (left_node f) ≡ false
  left_shut n h over ne =
      let lc = left_child t tree on.forks f fork in
      let rc = right_child t tree on.forks f fork in
      let P : ℕ → Type 0 = λ g. is_fork t g ≡ true in
      on.core.left_first (left_node f) (right_node f) n lc.some (omega arith) rc.there (lc.parent ∙ sym rc.parent) (subst P (sym rc.parent) fork) (unsplit (parent_of t (right_node f)) rc.parent) h over ne

  -- and has finished
  pub left_ended : (n : ℕ) → n < length t → is_ancestor t (right_node f) n ≡ true → n ≢ right_node f → has_finished k.machine (left_node f) ≡ true
  left_ended n h over ne = true_from_ne_false (has_finished k.machine (left_node f)) (λ e. absurd (let a = left_shut n h over ne in let b = strand_open k.machine (left_node f) (left_strand t tree on.forks f fork) e in cc (a, b)))

  -- while the left one is open, nothing was made in the right one
  pub none_made : is_open k.machine (left_node f) ≡ true → (n : ℕ) → n < length t → is_ancestor t (right_node f) n ≡ true → n ≡ right_node f
  none_made going n h over = elim (cases_eq n (right_node f)) [ inl e ↦ e | inr ne ↦ absurd (let shut = left_shut n h over ne in cc (going, shut)) ]

-- ## A fork that waits around a running strand

module _ (first : List ℤ) (k : CoreState) (on : CoreGoesOn first k) (y f : ℕ) (fs : List ℕ) (y_runs : is_running k.machine y ≡ true) (here : Waits k y f fs) where
  abbrev m : OpenMachine
  m = k.machine

  -- its left strand is open
  pub left_open : is_open m (left_node f) ≡ true
  left_open =
      let tree = (well first k on.core).sound.tree in
      let nested = (well first k on.core).nested in
      let run = runs m tree nested y y_runs in
      open_over m tree nested (left_node f) y (strand_there m.tree y run.strand) here.over (strand_open m y run.strand run.unfinished)

  -- and nothing was made in its right one
  pub none_beneath : (n : ℕ) → n < length m.tree → is_ancestor m.tree (right_node f) n ≡ true → n ≡ right_node f
  none_beneath = none_made first k on f here.fork here.split left_open
