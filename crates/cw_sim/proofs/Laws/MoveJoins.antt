-- A strand finishes, and the strands of its fork join: the workers.
use Rattle.std.proofs.Common.{◌≡◌, ◌≢◌, ℕ, ◌<◌, List, length, refl, ap, sym, ◌∙◌, Bool, true, false, Some}
use Rattle.std.specs.Prelude.{ℤ, slice_set}
use Rattle.cw_tree.specs.declared.node.Node.{Node}
use Rattle.cw_tree.specs.Nodes.{is_fork}
use Rattle.cw_tree.specs.Walks.{has}
use Rattle.cw_tree.specs.Series.{strand_of}
use Rattle.cw_open.specs.Machine.{OpenMachine}
use Rattle.cw_open.proofs.Open.Standing.{runs}
use Rattle.cw_core.specs.declared.event.Event.TheVariants as event
use Rattle.cw_core.specs.State.{CoreState}
use Rattle.cw_core.specs.Events.{fits, after_event}
use Rattle.cw_core.proofs.Events.Going.{well}
use Rattle.cw_sim.specs.Workers.{Worker, waiting, worker_in}
use Rattle.cw_sim.specs.Kept.{Runs, Fits, AreWorkers, CoreGoesOn, forks_around}
use Rattle.cw_sim.proofs.Kept.Finishing.{goes, others, still_to_come}
use Rattle.cw_sim.proofs.Kept.Joining.{goes as goes_joined, others as others_joined, takes_parent}
use Rattle.cw_sim.proofs.Kept.Workers.{runs_in, workers_after}

module _ (first : List ℤ) (k : CoreState) (on : CoreGoesOn first k) (ws : List Worker) (old : AreWorkers k ws) (w x : ℕ) (run : (worker_in ws w).runs ≡ Some x) (dead : Bool) (fit : fits k (event.Finish x dead) ≡ true) where
  abbrev m : OpenMachine
  m = k.machine

  abbrev t : List Node
  t = m.tree

  abbrev z : CoreState
  z = after_event k (event.Finish x dead)

  abbrev here : Worker
  here = worker_in ws w

  at : Runs k here x
  at = runs_in k ws w x old run

  pub finish_goes : CoreGoesOn first z
  finish_goes = goes first k on x dead at.running at.ready fit

  -- the other workers still fit
  pub finish_others : (v : ℕ) → v ≢ w → Fits z (worker_in ws v) (worker_in ws v).runs
  finish_others v ne = others first k on x dead at.running at.ready fit (worker_in ws v) (worker_in ws v).runs (λ y e q. ne (old.apart v w x (e ∙ ap Some q) run)) (old.fit v)

  module _ (f : ℕ) (fork : is_fork t f ≡ true) (unjoined : has m.joined f ≡ false) (join : fits z (event.Join f) ≡ true) where
    abbrev both : CoreState
    both = after_event z (event.Join f)

    pub join_goes : CoreGoesOn first both
    join_goes = goes_joined first z finish_goes f fork unjoined join

    -- no other worker runs the strand that forked, since that waited
    parent_apart : (v : ℕ) → (worker_in ws v).runs ≡ Some (strand_of t f) → ⊥
    parent_apart v e =
        let it = runs m (well first k on.core).sound.tree (well first k on.core).nested (strand_of t f) (runs_in k ws v (strand_of t f) old e).running in
        let joined = it.waits_for_none f fork refl in
        absurd (cc (joined, unjoined))

    -- this one goes on with it
    pub join_workers : (low : w < length ws) → waiting here ≡ forks_around k (strand_of t f) → AreWorkers both (slice_set ws w (record here { runs = Some (strand_of t f) }))
    join_workers low waits =
        workers_after ws w (record here { runs = Some (strand_of t f) }) low k both old
        (λ v ne. others_joined first z finish_goes f fork unjoined join (worker_in ws v) (worker_in ws v).runs (finish_others v ne))
        (takes_parent first z finish_goes f fork unjoined join here waits at.deque at.inline (still_to_come first k on x dead at.running at.ready fit here x at))
        (λ v y ne e q. parent_apart v (q ∙ sym e))
        (λ v g ne e q. ne (old.once v w g q e))
