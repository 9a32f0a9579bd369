-- A strand that worker w runs finishes: what is so then, which is what the rule that follows asks.
use Rattle.std.proofs.Common.{◌≡◌, ℕ, ◌<◌, List, length, ap, sym, ◌∙◌, subst, arith, Bool, true, false}
use Rattle.std.specs.Prelude.{◌&&◌, ◌||◌, not, ℤ}
use Rattle.std.proofs.lemmas.Bool.{and_from, ne_eqb, not_from_false, false_from_ne_true}
use Rattle.cw_tree.specs.declared.node.Node.{Node}
use Rattle.cw_tree.specs.Nodes.{parent_of, is_strand, is_fork}
use Rattle.cw_tree.specs.Walks.{has, is_ancestor, is_above}
use Rattle.cw_tree.specs.Series.{strand_of}
use Rattle.cw_tree.specs.Shape.{IsTree}
use Rattle.cw_tree.proofs.Walks.Ancestors.{above_ancestor, above_parent, ancestor_le}
use Rattle.cw_strand.specs.declared.want.Want.TheVariants.{End}
use Rattle.cw_open.specs.Machine.{has_finished, waits, is_running, is_dying, is_free}
use Rattle.cw_open.specs.Runs.{at_once}
use Rattle.cw_open.proofs.Refused.Fell.{any_one}
use Rattle.cw_open.proofs.Refused.Victims.{IsTold, told_states}
use Rattle.cw_core.specs.declared.event.Event.TheVariants as event
use Rattle.cw_core.specs.State.{CoreState, is_split}
use Rattle.cw_core.specs.Events.{fits, after_event}
use Rattle.cw_core.proofs.Events.Going.{well}
use Rattle.cw_sim.specs.Workers.{Worker, left_node, right_node, worker}
use Rattle.cw_sim.specs.Moves.{does, follow_up, finish_strand}
use Rattle.cw_sim.specs.Kept.{Runs, AreWorkers, CoreGoesOn, forks_around}
use Rattle.cw_sim.specs.InMemory.{Seen, law_of, Comes, IsSteady, Wants, MayFinish, MayMeet, IsDead, HasFinished}
use Rattle.cw_sim.specs.WorkersInMemory.{IsLast}
use Rattle.cw_sim.specs.declared.moves.Driver.{Driver}
use Rattle.cw_sim.proofs.Laws.EventsFit.{strand_here, is_free_here, finish_fits_here, fork_here, unjoined_here, right_fits_here}
use Rattle.cw_sim.proofs.Kept.Finishing.{done, waits_here, not_around, none_beneath, takes_right}
use Rattle.cw_sim.proofs.Kept.Halves.{right_child, right_strand}
use Rattle.cw_sim.proofs.Inside.Dying.{dies_by, died_by}
use Rattle.cw_sim.proofs.Laws.MoveFresh.{no_block}
use Rattle.cw_sim.proofs.Kept.Workers.{runs_in}
use Rattle.cw_sim.proofs.InMemory.Finished.{finish_steady}

-- a strand in which nothing was made is not dying
fresh_lives : (first : List ℤ) (k : CoreState) → CoreGoesOn first k → (r : ℕ) → 0 < r → r < length k.machine.tree
    → ((n : ℕ) → n < length k.machine.tree → is_ancestor k.machine.tree r n ≡ true → n ≡ r) → is_dying k.machine r ≡ false
fresh_lives first k on r some there fresh =
    false_from_ne_true (is_dying k.machine r) (λ e. absurd (
    let m = k.machine in
    let t = m.tree in
    let rooted = (well first k on.core).sound.tree.rooted in
    let o = any_one (IsTold t) (dies_by m r) m.conflicts (told_states at_once first m on.core.reached).told e in
    let over = (died_by m r o.one o.passes).1.over in
    let same = fresh o.one.asker o.holds.asker (above_ancestor t r o.one.asker over) in
    let low : parent_of t r < r = rooted r some there in
    let up = sym (above_parent t rooted r r some there) ∙ ap (is_above t r) (sym same) ∙ over in
    let le = ancestor_le t rooted r (parent_of t r) (omega arith) up in
    omega arith))

module _ (c : Driver) (w x : ℕ) (dead : Bool) (z : Seen) (may : MayFinish c w x dead z) where
  abbrev k : CoreState
  k = z.m.core

  abbrev t : List Node
  t = k.machine.tree

  abbrev here : Worker
  here = worker z.m w

  abbrev first : List ℤ
  first = k.machine.first

  on : CoreGoesOn first k
  on = may.may.steady.core

  workers : AreWorkers k z.m.workers
  workers = may.may.workers

  at : Runs k here x
  at = runs_in k z.m.workers w x workers may.runs

  fit : fits k (event.Finish x dead) ≡ true
  fit = finish_fits_here first k on z.m.workers workers w x may.runs dead may.dies may.over

  -- its event fits
  pub finish_fits : fits c.core (event.Finish x dead) ≡ true
  finish_fits = ap (λ j. fits j (event.Finish x dead)) may.may.steady.stands.core ∙ fit

  -- it stands in no block of its own, and so wants no end of one
  no_end : is_dying k.machine x ≡ false → Wants z x End → ⊥
  no_end alive wants =
      let within = may.may.wants.ends x (is_free_here first k on z.m.workers workers w x may.runs alive) wants in
      let over = may.over in
      absurd (cc (within, over))

  -- ## Its fork, where that is not split

  module _ (f : ℕ) (fork : is_fork t f ≡ true) (unjoined : has k.machine.joined f ≡ false) (off : is_split k f ≡ false) (left : x ≡ left_node f) where
    -- it waits last in the worker
    last : IsLast here f
    last = record {
      before = forks_around k (strand_of t f);
      all = waits_here first k on x dead at.running at.ready fit here f fork off left at;
      once = not_around first k on x dead at.running at.ready fit here f fork off left at;
    }

    tree_is : IsTree t
    tree_is = (well first k on.core).sound.tree

    fresh : (n : ℕ) → n < length t → is_ancestor t (right_node f) n ≡ true → n ≡ right_node f
    fresh = none_beneath first k on x dead at.running at.ready fit here f fork off left at

    -- the right strand runs before, too, and is not dying
    right_runs : is_running k.machine (right_node f) ≡ true
    right_runs =
        let r = right_node f in
        let later = (takes_right first k on x dead at.running at.ready fit here f fork off left at).running in
        sym (ap (λ b. is_strand t r && not (b || has_finished k.machine r) && not (waits k.machine r) && not (has k.machine.stopped r)) (ne_eqb x r (λ q. omega (arith, q, left)))) ∙ later

    right_free : is_free k.machine (right_node f) ≡ true
    right_free =
        let child = right_child t tree_is on.forks f fork in
        and_from (is_running k.machine (right_node f)) (not (is_dying k.machine (right_node f))) right_runs
        (not_from_false (is_dying k.machine (right_node f)) (fresh_lives first k on (right_node f) child.some child.there fresh))

    -- it stands in no block, and so wants no end of one
    stays : Wants z (right_node f) End → ⊥
    stays wants =
        let within = may.may.wants.ends (right_node f) right_free wants in
        let none = no_block k.machine tree_is (right_node f) (right_strand t tree_is on.forks f fork) fresh in
        absurd (cc (within, none))

    dead_now : fits k (event.Finish x true) ≡ true → IsDead (record z { m = does (event.Finish x true) z.m }) f
    dead_now fit = record {
      left = ap (has_finished (after_event k (event.Finish x true)).machine) (sym left) ∙ done first k on x true at.running at.ready fit;
      fits = right_fits_here first k on z.m.workers workers w x may.runs fit f fork unjoined off left;
      stays = stays;
    }

    -- so where the left one finished dead, it may, too
    died : dead ≡ true → IsDead (record z { m = does (event.Finish x dead) z.m }) f
    died q =
        let P : Bool → Type 0 = λ b. IsDead (record z { m = does (event.Finish x b) z.m }) f in
        subst P (sym q) (dead_now (ap (λ b. fits k (event.Finish x b)) (sym q) ∙ fit))

  -- ## After it has finished

  module _ (new : CoreState) (is : new ≡ after_event c.core (event.Finish x dead)) where
    abbrev d : Driver
    d = record c { core = new }

    abbrev y : Seen
    y = record z { m = does (event.Finish x dead) z.m }

    steady : IsSteady d y
    steady = finish_steady c z may.may.steady x dead fit no_end new is

    meet : 0 < x → MayMeet d w (parent_of t x) y
    meet some = record {
      steady = steady;
      there = may.may.there;
      fork = fork_here first k on z.m.workers workers w x may.runs dead fit some;
      joined = unjoined_here first k on z.m.workers workers w x may.runs dead fit some;
    }

    -- it has finished
    pub has_finished_now : HasFinished d w x dead y
    has_finished_now = record {
      steady = steady;
      there = may.may.there;
      strand = strand_here first k on z.m.workers workers w x may.runs;
      meet = meet;
      turn = λ some left off.
          (let f = parent_of t x in
          let m = meet some in
          record { meet = m; last = last f m.fork m.joined off left; died = died f m.fork m.joined off left });
    }

    -- what follows is what comes of it
    pub finish_comes : (e : Driver) → (HasFinished d w x dead y → Comes e y (follow_up (law_of z) w x dead y.m)) → Comes e z (finish_strand (law_of z) w x dead z.m)
    finish_comes e comes = comes has_finished_now
