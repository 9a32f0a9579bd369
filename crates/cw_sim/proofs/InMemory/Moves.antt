-- What a move of a worker makes of a simulation in memory: what its rules ask, and which of them it is.
use Rattle.std.proofs.Common.{◌≡◌, ℕ, ◌<◌, length, get_or, ap, sym, ◌∙◌, subst, Bool, true, false, cond, Option, Some, None}
use Rattle.std.specs.Prelude.{IsSome}
use Rattle.std.proofs.lemmas.Bool.{or_from, false_from_ne_true}
use Rattle.cw_code.specs.declared.FaultKind.{FaultKind}
use Rattle.cw_tree.specs.declared.closed.Halt.TheVariants as halt
use Rattle.cw_tree.specs.Nodes.{is_strand}
use Rattle.cw_tree.specs.Series.{place}
use Rattle.cw_tree.specs.Shape.{IsTree}
use Rattle.cw_strand.specs.declared.want.Want.{Want}
use Rattle.cw_strand.specs.declared.want.Want.TheVariants as Wanted
use Rattle.cw_strand.specs.Strands.{is_over, Strands}
use Rattle.cw_open.specs.Machine.{finished_dead, is_running, is_dying, in_block}
use Rattle.cw_open.proofs.Refused.Backed.{dead_finished}
use Rattle.cw_core.specs.declared.event.Event.TheVariants as event
use Rattle.cw_core.specs.State.{CoreState}
use Rattle.cw_core.specs.Events.{fits}
use Rattle.cw_core.proofs.Events.Going.{well}
use Rattle.cw_job.specs.declared.standing.Standing.{Standing}
use Rattle.cw_job.specs.Jobs.{Job}
use Rattle.cw_job.specs.Room.Strands.{StrandState, state_of, strands_of_job}
use Rattle.cw_sim.specs.Workers.{tree, worker, worker_in, with_strand}
use Rattle.cw_sim.specs.Moves.{does, others, steal, finish_strand, die, do_want, move}
use Rattle.cw_sim.specs.Kept.{Runs}
use Rattle.cw_sim.specs.Inside.{HasOneOpenFork as IsThere, goes_back}
use Rattle.cw_sim.specs.InMemory.{Seen, law_of, IsBody, StandsFor, Comes, MayMove, Wants, MayStep, MayDo, MayRoll, MayFork, MayAct, MayDie, MayFinish}
use Rattle.cw_sim.specs.ThingsInMemory.{thing_at}
use Rattle.cw_sim.specs.WorkersInMemory.{worker_of}
use Rattle.cw_sim.specs.declared.worker.WorkerInMemory.{WorkerInMemory}
use Rattle.cw_sim.specs.declared.moves.Driver.{Driver}
use Rattle.cw_sim.proofs.Laws.EventsFit.{strand_here, is_free_here}
use Rattle.cw_sim.proofs.Laws.Fits.{stop_fits}
use Rattle.cw_sim.proofs.InMemory.Working.{worker_low}
use Rattle.cw_sim.proofs.InMemory.Sides.{stands_body}
use Rattle.cw_sim.proofs.InMemory.Still.{stop_inside}
use Rattle.cw_sim.proofs.InMemory.Workers.{worker_there}
use Rattle.cw_sim.proofs.Inside.Waits.{going, running_stands}
use Rattle.cw_sim.proofs.InMemory.PutThings.{some_here, same_thing}
use Rattle.cw_sim.proofs.Kept.Workers.{runs_in}

-- ## Worker w runs a strand

module _ (c : Driver) (w : ℕ) (z : Seen) (may : MayMove c w z) (x : ℕ) (run : (worker z.m w).runs ≡ Some x) where
  abbrev k : CoreState
  k = z.m.core

  at : Runs k (worker z.m w) x
  at = runs_in k z.m.workers w x may.workers run

  -- it may make a step
  may_step : MayStep c x z
  may_step = record { steady = may.steady; wants = may.wants; running = at.running; ready = at.ready }

  is_strand_there : is_strand c.core.machine.tree x ≡ true
  is_strand_there = ap (λ j. is_strand j.machine.tree x) may.steady.stands.core ∙ strand_here k.machine.first k may.steady.core z.m.workers may.workers w x run

  is_running_there : is_running c.core.machine x ≡ true
  is_running_there = ap (λ j. is_running j.machine x) may.steady.stands.core ∙ at.running

  -- it has a body
  tree_is : IsTree k.machine.tree
  tree_is = (well k.machine.first k may.steady.core.core).sound.tree

  stands_there : IsThere k.machine x
  stands_there = running_stands k.machine tree_is (well k.machine.first k may.steady.core.core).nested x at.running

  body_of : (body : Standing) × (thing_at c.bodies x ≡ Some body) × IsBody z x body
  body_of = may.steady.stands.bodies x (stands_body k x stands_there)

  not_back : is_dying k.machine x ≡ false → goes_back k.machine x ≡ false
  not_back alive =
      or_from (is_dying k.machine x) (finished_dead k.machine x) alive
      (false_from_ne_true (finished_dead k.machine x) (λ e. absurd (let done = dead_finished k.machine x e in let off = (going k.machine x at.running).unfinished in cc (done, off))))

  -- at what it wants
  pub wants_so : is_dying k.machine x ≡ false → (body : Standing) → thing_at c.bodies x ≡ Some body → (want : Want) → ((job : Job) → want ≡ (strands_of_job job).want (state_of body)) → Wants z x want
  wants_so alive body there want is =
      let h = body_of in
      sym (is z.job ∙ ap (λ b. (law_of z).want (state_of b)) (same_thing (thing_at c.bodies x) body h.0 there h.1) ∙ ap (law_of z).want (h.2.at (not_back alive)))

-- ## It is dying

module _ (c : Driver) (w x : ℕ) (z : Seen) (may : MayDie c w x z) where
  dying_step : MayStep c x z
  dying_step = may_step c w z may.may x may.runs

  -- it is a strand
  pub dying_strand : is_strand c.core.machine.tree x ≡ true
  dying_strand = is_strand_there c w z may.may x may.runs

  same_block : in_block c.core.machine x ≡ in_block z.m.core.machine x
  same_block = ap (λ j. in_block j.machine x) may.may.steady.stands.core

  -- in a block of its own it rolls back
  pub may_roll : in_block c.core.machine x ≡ true → MayRoll c x z
  may_roll within = record { step = dying_step; dying = may.dying; within = sym same_block ∙ within }

  -- and else it finishes dead
  pub may_finish_dead : in_block c.core.machine x ≡ false → MayFinish c w x true z
  may_finish_dead out = record { may = may.may; runs = may.runs; dies = may.dying; over = sym same_block ∙ out }

  dies_as : (b : Bool) → in_block c.core.machine x ≡ b → (d : Driver)
      → Comes d z (cond b (with_strand x (z.m.saved (place (tree z.m) x)) (does (event.Roll x) z.m)) (finish_strand (law_of z) w x true z.m)) → Comes d z (die (law_of z) w x z.m)
  dies_as b e d comes =
      let P : Bool → Type 0 = λ b. Comes d z (cond b (with_strand x (z.m.saved (place (tree z.m) x)) (does (event.Roll x) z.m)) (finish_strand (law_of z) w x true z.m)) in
      subst P (sym e ∙ same_block) comes

  -- so the rule is the one or the other
  pub died_rolled : in_block c.core.machine x ≡ true → (d : Driver) → (MayRoll c x z → Comes d z (with_strand x (z.m.saved (place (tree z.m) x)) (does (event.Roll x) z.m))) → Comes d z (die (law_of z) w x z.m)
  died_rolled within d comes = dies_as true within d (comes (may_roll within))

  pub died_finished : in_block c.core.machine x ≡ false → (d : Driver) → (MayFinish c w x true z → Comes d z (finish_strand (law_of z) w x true z.m)) → Comes d z (die (law_of z) w x z.m)
  died_finished out d comes = dies_as false out d (comes (may_finish_dead out))

-- ## It does what it wants

module _ (c : Driver) (w x : ℕ) (want : Want) (z : Seen) (may : MayAct c w x want z) (v : Want) (is : want ≡ v) where
  -- it may do it
  pub may_do : MayDo c x v z
  may_do = let P : Want → Type 0 = λ v. Wants z x v in record { step = may_step c w z may.may x may.runs; alive = may.alive; wanted = subst P is may.wanted }

  -- a fork
  pub may_fork : v ≡ Wanted.Fork → MayFork c w x z
  may_fork e = let P : Want → Type 0 = λ v. MayDo c x v z in record { fork = subst P e may_do; there = may.may.there }

  -- and, with no block of its own, come to its end
  pub may_finish : is_over v ≡ true → MayFinish c w x false z
  may_finish over = record {
    may = may.may;
    runs = may.runs;
    dies = may.alive;
    over = may.may.wants.over x (is_free_here z.m.core.machine.first z.m.core may.may.steady.core z.m.workers may.may.workers w x may.runs may.alive) (ap is_over may.wanted ∙ ap is_over is ∙ over);
  }

  -- where it wants one, its fault may stop the run
  pub fault_fits : (kind : FaultKind) → v ≡ Wanted.Fault kind → fits c.core (event.Stop (halt.Fault x kind)) ≡ true
  fault_fits kind e =
      let k = z.m.core in
      let on = may.may.steady.core in
      ap (λ j. fits j (event.Stop (halt.Fault x kind))) may.may.steady.stands.core ∙ stop_fits k (halt.Fault x kind) on.halt (strand_here k.machine.first k on z.m.workers may.may.workers w x may.runs)

  -- and then it does
  pub faulted : (kind : FaultKind) → v ≡ Wanted.Fault kind → (d : Driver) → (StandsFor c z → StandsFor d (record z { m = does (event.Stop (halt.Fault x kind)) z.m })) → Comes d z (do_want (law_of z) w x want z.m)
  faulted kind e d stands =
      let P : Want → Type 0 = λ v. Comes d z (do_want (law_of z) w x v z.m) in
      subst P (sym (is ∙ e)) (z.there, (stands may.may.steady.stands, stop_inside (law_of z) z.m (halt.Fault x kind) z.there may.may.steady.inside))

  -- what comes of that want comes of the rule
  pub acts_so : (d : Driver) → Comes d z (do_want (law_of z) w x v z.m) → Comes d z (do_want (law_of z) w x want z.m)
  acts_so d comes = let P : Want → Type 0 = λ v. Comes d z (do_want (law_of z) w x v z.m) in subst P (sym is) comes

-- ## Which it is

module _ (c : Driver) (w : ℕ) (z : Seen) (may : MayMove c w z) where
  abbrev s : Strands StrandState
  s = law_of z

  -- the worker is there
  pub worker_is_there : w < length c.workers.items
  worker_is_there = worker_low c z may.steady.stands w may.there

  -- the worker in memory runs what it does
  pub runs_so : (body : WorkerInMemory) → body ≡ get_or c.workers.items w body → (worker z.m w).runs ≡ body.runs
  runs_so body read = sym (ap (λ u. u.runs) (ap worker_of read ∙ sym (worker_there c.workers.items w body worker_is_there)) ∙ ap (λ ws. (worker_in ws w).runs) may.steady.stands.workers)

  moves_as : (o : Option ℕ) → (worker z.m w).runs ≡ o → (d : Driver)
      → Comes d z (elim o [ None ↦ steal w (others z.m w) z.m | Some x ↦ cond (is_dying z.m.core.machine x) (die s w x z.m) (do_want s w x (s.want (z.m.at x)) z.m) ]) → Comes d z (move s w z.m)
  moves_as o e d comes =
      let P : Option ℕ → Type 0 = λ o. Comes d z (elim o [ None ↦ steal w (others z.m w) z.m | Some x ↦ cond (is_dying z.m.core.machine x) (die s w x z.m) (do_want s w x (s.want (z.m.at x)) z.m) ]) in
      subst P (sym e) comes

  -- idle: it steals
  pub moves_idle : (worker z.m w).runs ≡ None → (d : Driver) → Comes d z (steal w (others z.m w) z.m) → Comes d z (move s w z.m)
  moves_idle e d comes = moves_as None e d comes

  module _ (x : ℕ) (run : (worker z.m w).runs ≡ Some x) where
    same_dying : is_dying c.core.machine x ≡ is_dying z.m.core.machine x
    same_dying = ap (λ j. is_dying j.machine x) may.steady.stands.core

    -- its strand runs
    pub runs_there : is_running c.core.machine x ≡ true
    runs_there = is_running_there c w z may x run

    -- and has a body
    pub has_body_there : IsSome (thing_at c.bodies x)
    has_body_there = let b = body_of c w z may x run in some_here (thing_at c.bodies x) b.0 b.1

    by_dying : (b : Bool) → is_dying c.core.machine x ≡ b → (d : Driver) → Comes d z (cond b (die s w x z.m) (do_want s w x (s.want (z.m.at x)) z.m)) → Comes d z (move s w z.m)
    by_dying b e d comes =
        let P : Bool → Type 0 = λ b. Comes d z (cond b (die s w x z.m) (do_want s w x (s.want (z.m.at x)) z.m)) in
        moves_as (Some x) run d (subst P (sym e ∙ same_dying) comes)

    -- a dying one dies
    pub may_die : is_dying c.core.machine x ≡ true → MayDie c w x z
    may_die dying = record { may = may; runs = run; dying = sym same_dying ∙ dying }

    pub moves_dying : is_dying c.core.machine x ≡ true → (d : Driver) → (MayDie c w x z → Comes d z (die s w x z.m)) → Comes d z (move s w z.m)
    moves_dying dying d comes = by_dying true dying d (comes (may_die dying))

    module _ (alive : is_dying c.core.machine x ≡ false) (body : Standing) (there : thing_at c.bodies x ≡ Some body) (want : Want) (is : (job : Job) → want ≡ (strands_of_job job).want (state_of body)) where
      wanted : Wants z x want
      wanted = wants_so c w z may x run (sym same_dying ∙ alive) body there want is

      -- another one acts
      pub may_act : MayAct c w x want z
      may_act = record { may = may; runs = run; alive = sym same_dying ∙ alive; wanted = wanted }

      pub moves_acting : (d : Driver) → (MayAct c w x want z → Comes d z (do_want s w x want z.m)) → Comes d z (move s w z.m)
      moves_acting d comes =
          let P : Want → Type 0 = λ v. Comes d z (do_want s w x v z.m) in
          by_dying false alive d (subst P (sym wanted) (comes may_act))
