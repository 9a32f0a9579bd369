-- What waits in the deques: none is early, and what is taken back is there.
use Rattle.std.proofs.Common.{◌≡◌, ℕ, List, [], ◌∷◌, ◌++◌, refl, ap, sym, ◌∙◌, subst, true, false, Option, Some, None, nat_eq}
use Rattle.std.specs.Prelude.{ℤ}
use Rattle.std.proofs.lemmas.Bool.{or_left, eq-eqb}
use Rattle.cw_tree.specs.declared.node.Node.{Node}
use Rattle.cw_tree.specs.Nodes.{is_strand_kind, is_fork}
use Rattle.cw_tree.specs.Walks.{has}
use Rattle.cw_tree.specs.Shape.{IsTree}
use Rattle.cw_tree.proofs.Walks.There.{node_there}
use Rattle.cw_strand.specs.Strands.{Strands}
use Rattle.cw_open.proofs.Open.Standing.{runs, open_over}
use Rattle.cw_open.specs.Machine.{is_running}
use Rattle.cw_open.specs.Open.{is_open}
use Rattle.cw_core.specs.State.{CoreState, is_split}
use Rattle.cw_core.specs.Events.{is_early}
use Rattle.cw_tree.specs.Series.{strand_of}
use Rattle.cw_open.proofs.Open.Kinds.{open_unjoined}
use Rattle.cw_core.proofs.Events.Going.{well}
use Rattle.cw_sim.specs.Workers.{Worker, left_node, tree, worker}
use Rattle.cw_sim.specs.Kept.{Runs, Fits, CoreGoesOn, forks_around}
use Rattle.cw_sim.specs.Laws.{NoneIsEarly, ForksAreThere}
use Rattle.cw_sim.proofs.Kept.Ways.{around_left}
use Rattle.cw_sim.proofs.Kept.Halves.{strand_open, left_child, left_strand}
use Rattle.cw_sim.proofs.Kept.Around.{Waits, waits_around}
use Rattle.cw_sim.proofs.Laws.Early.{not_early}

module _ (first : List ℤ) (k : CoreState) (on : CoreGoesOn first k) where
  abbrev t : List Node
  t = k.machine.tree

  tree_of : IsTree t
  tree_of = (well first k on.core).sound.tree

  -- a fork that waits around a running strand is open
  pub unjoined_around : (x f : ℕ) (fs : List ℕ) → is_running k.machine x ≡ true → Waits k x f fs → has k.machine.joined f ≡ false
  unjoined_around x f fs running w =
      let m = k.machine in
      let nested = (well first k on.core).nested in
      let here = runs m tree_of nested x running in
      let low = node_there (λ n. is_strand_kind n.kind) t x here.strand in
      let child = left_child t tree_of on.forks f w.fork in
      let over : is_open m (left_node f) ≡ true = open_over m tree_of nested (left_node f) x low w.over (strand_open m x here.strand here.unfinished) in
      let P : ℕ → Type 0 = λ g. is_open m g ≡ true in
      open_unjoined m f w.fork (subst P child.parent (nested.outer (left_node f) child.some child.there over))

  -- what is first in a deque waits around the strand of its worker, and nothing further out
  pub oldest : (w : Worker) (r : Option ℕ) → Fits k w r → (f : ℕ) (fs : List ℕ) → w.deque ≡ f ∷ fs → (x : ℕ) × Runs k w x × Waits k x f []
  oldest w None idle f fs e = absurd (let q = idle.deque in cc)
  oldest w (Some x) at f fs e =
      let here = runs k.machine tree_of (well first k on.core).nested x at.running in
      (x, at, waits_around k tree_of on.forks x here.strand [] (fs ++ w.inline) f (sym at.forks ∙ ap (λ ds. ds ++ w.inline) e))

  -- so it may be split
  pub oldest_may : (w : Worker) (r : Option ℕ) → Fits k w r → (f : ℕ) (fs : List ℕ) → w.deque ≡ f ∷ fs → is_early k f ≡ None
  oldest_may w r fits f fs e =
      let z = oldest w r fits f fs e in
      let P : List ℕ → Type 0 = λ ds. has ds f ≡ true in
      let room = z.1.deque f (subst P (sym e) (or_left (nat_eq f f) (has fs f) (eq-eqb f f refl))) in
      not_early first k on.core on.forks f z.2.fork room (unjoined_around z.0 f [] z.1.running z.2) z.2.outer

  -- the fork of a left strand that was not split is the newest of its worker
  pub newest : (w : Worker) (f : ℕ) → is_fork t f ≡ true → Runs k w (left_node f) → is_split k f ≡ false → w.deque ++ w.inline ≡ forks_around k (strand_of t f) ++ f ∷ []
  newest w f fork at off =
      let child = left_child t tree_of on.forks f fork in
      let strand = left_strand t tree_of on.forks f fork in
      let P : ℕ → Type 0 = λ g. is_split k g ≡ false in
      at.forks
      ∙ around_left k tree_of.rooted (left_node f) child.some child.there strand (subst P (sym child.parent) off) (ap left_node (sym child.parent))
      ∙ ap (λ g. forks_around k (strand_of t g) ++ g ∷ []) child.parent

pub none_early : {A : Type 0} (s : Strands A) → NoneIsEarly s
none_early s first m w f fs kept e = oldest_may first m.core kept.core (worker m w) (worker m w).runs (kept.workers.fit w) f fs e

pub are_there : {A : Type 0} (s : Strands A) → ForksAreThere s
are_there s first m w f kept fork runs off =
    let P : Option ℕ → Type 0 = λ r. Fits m.core (worker m w) r in
    (forks_around m.core (strand_of (tree m) f), newest first m.core kept.core (worker m w) f fork (subst P runs (kept.workers.fit w)) off)
