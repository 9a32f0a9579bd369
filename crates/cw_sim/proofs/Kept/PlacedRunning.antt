-- Where a running strand stands, and one that is open no more.
use Rattle.std.proofs.Common.{◌≡◌, ◌≢◌, ℕ, ◌<◌, List, length, subst, true, false, inl, inr, nat_eq}
use Rattle.std.specs.Prelude.{◌&&◌, ◌||◌, not}
use Rattle.std.proofs.lemmas.Bool.{and_parts, eqb-true, not-true, false_from_ne_true}
use Rattle.cw_strand.specs.Strands.{Strands}
use Rattle.cw_tree.specs.declared.node.Node.{Node}
use Rattle.cw_tree.specs.Nodes.{parent_of, is_strand, is_fork, is_block, all_nodes}
use Rattle.cw_tree.specs.Walks.{has, is_ancestor}
use Rattle.cw_tree.specs.Series.{strand_of, place}
use Rattle.cw_tree.specs.Shape.{IsTree}
use Rattle.cw_tree.proofs.Lists.{any_in}
use Rattle.cw_tree.proofs.NextNodes.Trees.{no_fork}
use Rattle.cw_tree.proofs.Walks.Strands.{strand_over}
use Rattle.cw_tree.proofs.Walks.There.{strand_there}
use Rattle.cw_open.specs.Machine.{OpenMachine, has_finished, is_running, waits}
use Rattle.cw_open.specs.Open.{is_open}
use Rattle.cw_open.proofs.Open.Standing.{runs, stands, stands_at, place_open, pending_open, open_over}
use Rattle.cw_open.proofs.Open.Trees.{IsWell, stands_well}
use Rattle.cw_open.proofs.Open.Kinds.{unjoined_open, open_unjoined}
use Rattle.cw_core.proofs.Events.OneFork.{none_within}
use Rattle.cw_sim.specs.Workers.{Simulation, tree}
use Rattle.cw_sim.specs.Kept.{AreStanding}
use Rattle.cw_sim.proofs.Kept.Halves.{strand_open}
use Rattle.cw_sim.proofs.Kept.StatesKept.{AllStates, MayChange}
use Rattle.cw_sim.proofs.Kept.PlacedKept.{current_from}

module _ (m : OpenMachine) (w : IsWell m) where
  abbrev t : List Node
  t = m.tree

  shape : IsTree t
  shape = w.sound.tree

  -- the fork of an open strand was not joined
  pub own_unjoined : (o : ℕ) → is_strand t o ≡ true → is_open m o ≡ true → 0 < o → has m.joined (parent_of t o) ≡ false
  own_unjoined o strand opened some =
      let there = strand_there t o strand in
      open_unjoined m (parent_of t o) (shape.strands o there some strand) (w.nested.outer o some there opened)

  -- a strand that is open no more stands at itself, and waits for none
  module _ (o : ℕ) (strand : is_strand t o ≡ true) (shut : is_open m o ≡ false) where
    pub shut_place : place t o ≡ o
    shut_place =
        let at = stands_at t shape.rooted o strand in
        elim at.kind [
          | inl e ↦ e
          | inr pending ↦ absurd (
              let P : ℕ → Type 0 = λ n. is_ancestor t n (place t o) ≡ true in
              let over : is_ancestor t o (place t o) ≡ true = subst P at.strand (strand_over t shape.rooted (place t o) at.there) in
              let opened = open_over m shape w.nested o (place t o) at.there over (pending_open m shape w.nested (place t o) pending) in
              cc (opened, shut))
        ]

    pub shut_waits : waits m o ≡ false
    shut_waits = false_from_ne_true (waits m o) (λ e.
        let i = any_in (λ f. is_fork t f && nat_eq (strand_of t f) o && not (has m.joined f)) (all_nodes t) e in
        let a = and_parts (is_fork t i.0 && nat_eq (strand_of t i.0) o) (not (has m.joined i.0)) i.2 in
        let b = and_parts (is_fork t i.0) (nat_eq (strand_of t i.0) o) a.0 in
        let opened = unjoined_open m i.0 b.0 (not-true (has m.joined i.0) a.1) in
        absurd (let off = none_within m shape w.nested o i.0 b.0 (eqb-true (strand_of t i.0) o b.1) shut in cc (opened, off)))

  -- ## A running strand

  module _ (o : ℕ) (running : is_running m o ≡ true) where
    pub running_place : place t o < length t
    running_place = (stands m shape w.nested o running).there

    pub running_own : strand_of t (place t o) ≡ o
    running_own = (stands m shape w.nested o running).strand

    pub running_strand : is_strand t o ≡ true
    running_strand = (runs m shape w.nested o running).strand

    pub running_none : (f : ℕ) → is_fork t f ≡ true → has m.joined f ≡ false → strand_of t f ≢ o
    running_none f fork off own = let yes = (runs m shape w.nested o running).waits_for_none f fork own in cc (yes, off)

    pub running_waits : waits m o ≡ false
    running_waits =
        let a = and_parts (is_strand t o && not (has_finished m o) && not (waits m o)) (not (has m.stopped o)) running in
        let b = and_parts (is_strand t o && not (has_finished m o)) (not (waits m o)) a.0 in
        not-true (waits m o) b.1

    pub running_holds : (is_strand t (place t o) || is_block t (place t o)) ≡ true
    running_holds = (stands_well m w o running).holds

    pub running_open : is_open m o ≡ true
    running_open = strand_open m o running_strand (runs m shape w.nested o running).unfinished

    pub running_unjoined : 0 < o → has m.joined (parent_of t o) ≡ false
    running_unjoined = own_unjoined o running_strand running_open

    -- its place may get a child, or its last one be changed
    pub running_may : ((f : ℕ) → has m.joined f ≡ true → is_fork t f ≡ true) → (c : ℕ) → (c < length t → parent_of t c ≡ place t o) → has m.joined c ≡ false → MayChange m (place t o) c
    running_may forks c under apart = record {
      well = w;
      forks = forks;
      opened = place_open m shape w.nested o running;
      no_fork = no_fork t (place t o) running_holds;
      under = under;
      apart = apart;
    }

-- a running strand stands at what was reached in its place
pub running_stands : {A : Type 0} (s : Strands A) (m : Simulation A) (w : IsWell m.core.machine) (x : AllStates A) → AreStanding s m x.before x.after x.reached → (o : ℕ) → is_running m.core.machine o ≡ true → x.reached (place (tree m) o) ≡ m.at o
running_stands s m w x h o running =
    h.strands o (current_from m.core o (running_strand m.core.machine w o running) (running_unjoined m.core.machine w o running)) (running_waits m.core.machine w o running)
