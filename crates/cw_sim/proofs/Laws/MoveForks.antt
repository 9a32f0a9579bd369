-- A worker's strand forks, and the worker goes on with the left strand: the core and the workers.
use Rattle.std.proofs.Common.{◌≡◌, ◌≢◌, ℕ, ◌<◌, List, ◌++◌, length, refl, ap, sym, ◌∙◌, arith, true, Option, Some, None, inl, inr}
use Rattle.std.specs.Prelude.{ℤ, slice_set}
use Rattle.cw_tree.specs.Walks.{has}
use Rattle.cw_core.specs.declared.event.Event.TheVariants as event
use Rattle.cw_tree.proofs.Walks.There.{strand_there}
use Rattle.cw_core.specs.State.{CoreState}
use Rattle.cw_core.specs.Events.{fits, after_event, may_fork}
use Rattle.cw_sim.specs.Workers.{Worker, waiting, with_fork, left_node, worker_in}
use Rattle.cw_sim.specs.Kept.{Runs, Fits, AreWorkers, CoreGoesOn}
use Rattle.cw_sim.proofs.Laws.EventsFit.{strand_here}
use Rattle.cw_sim.proofs.Kept.Forking.{goes, others, takes_left, low_waiting, waits_now, one_more}
use Rattle.cw_sim.proofs.Kept.Workers.{runs_in, workers_after}

module _ (first : List ℤ) (k : CoreState) (on : CoreGoesOn first k) (ws : List Worker) (old : AreWorkers k ws) (w x : ℕ) (run : (worker_in ws w).runs ≡ Some x) (fit : fits k (event.Fork x) ≡ true) where
  abbrev n : ℕ
  n = length k.machine.tree

  abbrev here : Worker
  here = worker_in ws w

  abbrev with_left : Worker
  with_left = record (with_fork (may_fork k) n here) { runs = Some (left_node n) }

  at : Runs k here x
  at = runs_in k ws w x old run

  pub forks_goes : CoreGoesOn first (after_event k (event.Fork x))
  forks_goes = goes first k on x at.running at.ready fit

  -- no worker runs the left strand yet
  new_strand : (v y : ℕ) → (worker_in ws v).runs ≡ Some y → y ≡ left_node n → ⊥
  new_strand v y e q = let low = strand_there k.machine.tree y (strand_here first k on ws old v y e) in omega (arith, low, q)

  -- nor does the fork wait in any
  all_low : (v : Worker) (r : Option ℕ) → Fits k v r → (g : ℕ) → has (waiting v) g ≡ true → g < n
  all_low v None idle g q = absurd (let none = ap (λ ds. has (ds ++ v.inline) g) idle.deque ∙ ap (λ ds. has ds g) idle.inline in cc (none, q))
  all_low v (Some y) at_y g q = low_waiting first k on x at.running at.ready fit v y at_y g q

  not_shared : (v g : ℕ) → v ≢ w → has (waiting with_left) g ≡ true → has (waiting (worker_in ws v)) g ≡ true → ⊥
  not_shared v g ne e q =
      elim (one_more first k on x at.running at.ready fit here at (waiting here) g (sym (ap (λ ds. has ds g) (waits_now first k on x at.running at.ready fit here at (may_fork k) refl)) ∙ e)) [
        | inl before ↦ ne (old.once v w g q before)
        | inr same ↦ absurd (let low = all_low (worker_in ws v) (worker_in ws v).runs (old.fit v) g q in omega (arith, low, same))
      ]

  pub forks_workers : w < length ws → AreWorkers (after_event k (event.Fork x)) (slice_set ws w with_left)
  forks_workers low =
      workers_after ws w with_left low k (after_event k (event.Fork x)) old
      (λ v ne. others first k on x at.running at.ready fit (worker_in ws v) (worker_in ws v).runs (λ y e q. ne (old.apart v w x (e ∙ ap Some q) run)) (old.fit v))
      (takes_left first k on x at.running at.ready fit here at)
      (λ v y ne e q. new_strand v y q (let same : left_node n ≡ y = cc e in sym same)) (λ v g ne e q. not_shared v g ne e q)
