-- An idle worker takes the oldest fork of another one, or nothing happens.
use Rattle.std.proofs.Common.{◌≡◌, ◌≢◌, ℕ, ◌<◌, List, [], ◌∷◌, ◌++◌, length, refl, ap, sym, ◌∙◌, subst, arith, true, Option, Some, None, inl, inr}
use Rattle.std.specs.Prelude.{ℤ, slice_set}
use Rattle.std.proofs.lemmas.Bool.{cases_eq, cases_lt, or_right, false_from_ne_true}
use Rattle.std.proofs.lemmas.List.{length-set}
use Rattle.cw_tree.specs.Walks.{has}
use Rattle.cw_core.specs.declared.event.Event.TheVariants as event
use Rattle.cw_core.specs.State.{CoreState}
use Rattle.cw_core.specs.Events.{after_event}
use Rattle.cw_sim.specs.Workers.{Worker, Simulation, waiting, right_node, worker_in, worker}
use Rattle.cw_sim.specs.Moves.{take_fork, steal}
use Rattle.cw_sim.specs.Kept.{IsIdle, Fits, AreWorkers, CoreGoesOn}
use Rattle.cw_sim.proofs.Laws.EventsFit.{IsRobbed, robbed_here, has_here, columns_here, early_here, unfinished_here, split_fits_here}
use Rattle.cw_sim.proofs.Laws.Moving.{GoesTo, goes_on_there, by_event}
use Rattle.cw_sim.proofs.Kept.Thief.{core_goes, not_right, robbed_runs, others, thief_runs}
use Rattle.cw_sim.proofs.Kept.Workers.{worker_here, worker_other, worker_past, has_front, runs_in, idle_in, workers_after}

-- ## The workers: w is idle, and f is the oldest fork in the deque of worker v

module _ (first : List ℤ) (k : CoreState) (on : CoreGoesOn first k) (ws : List Worker) (old : AreWorkers k ws) (w v f : ℕ) (fs : List ℕ) (low : w < length ws) (idles : (worker_in ws w).runs ≡ None) (e : (worker_in ws v).deque ≡ f ∷ fs) where
  abbrev z : CoreState
  z = after_event k (event.Split f)

  abbrev from : Worker
  from = worker_in ws v

  nothing : IsIdle (worker_in ws w)
  nothing = idle_in k ws w old idles

  robbery : IsRobbed first k on ws old v f fs e
  robbery = robbed_here first k on ws old v f fs e

  abbrev y : ℕ
  y = robbery.strand

  -- v is another worker, and there
  apart : w ≢ v
  apart q = absurd (let none = nothing.deque in let same = ap (λ i. (worker_in ws i).deque) q in cc (none, same, e))

  v_low : v < length ws
  v_low = elim (cases_lt v (length ws)) [ inl h ↦ h | inr h ↦ absurd (let none = ap (λ u. u.deque) (worker_past ws v h) in cc (none, e)) ]

  split_goes : CoreGoesOn first z
  split_goes = core_goes first k on f (columns_here first k on ws old v f fs e) (early_here first k on ws old v f fs e) (split_fits_here first k on ws old v f fs e) y robbery.at.running robbery.here

  abbrev robbed : Worker
  robbed = record from { deque = fs }

  abbrev vs : List Worker
  vs = slice_set ws v robbed

  still_waits : (g : ℕ) → has (fs ++ from.inline) g ≡ true → has (waiting from) g ≡ true
  still_waits g q = ap (λ ds. has (ds ++ from.inline) g) e ∙ or_right _ (has (fs ++ from.inline) g) q

  f_waits : has (waiting from) f ≡ true
  f_waits = has_front from.deque from.inline f (has_here first k on ws old v f fs e)

  robbed_workers : AreWorkers z vs
  robbed_workers =
      workers_after ws v robbed v_low k z old
      (λ u ne. others first k on f (columns_here first k on ws old v f fs e) (early_here first k on ws old v f fs e) (split_fits_here first k on ws old v f fs e) y robbery.at.running robbery.here (worker_in ws u) (worker_in ws u).runs
      (false_from_ne_true (has (waiting (worker_in ws u)) f) (λ h. ne (old.once u v f h f_waits))) (old.fit u))
      (let P : Option ℕ → Type 0 = λ r. Fits z robbed r in
      subst P (sym robbery.run) (robbed_runs first k on f (columns_here first k on ws old v f fs e) (early_here first k on ws old v f fs e) (split_fits_here first k on ws old v f fs e) y robbery.at.running robbery.here from fs robbery.at e))
      (λ u x ne p q. ne (old.apart u v x q p)) (λ u g ne p q. ne (old.once u v g q (still_waits g p)))

  -- each runs what it ran
  same_runs : (u : ℕ) → (worker_in vs u).runs ≡ (worker_in ws u).runs
  same_runs u = elim (cases_eq u v) [
    | inl q ↦ ap (λ i. (worker_in vs i).runs) q ∙ ap (λ o. o.runs) (worker_here ws v robbed v_low) ∙ sym (ap (λ i. (worker_in ws i).runs) q)
    | inr ne ↦ ap (λ o. o.runs) (worker_other ws v u robbed ne)
  ]

  not_taken : (u : ℕ) → (worker_in vs u).runs ≡ Some (right_node f) → ⊥
  not_taken u q =
      let at = runs_in k ws u (right_node f) old (sym (same_runs u) ∙ q) in
      not_right first k on f (columns_here first k on ws old v f fs e) (early_here first k on ws old v f fs e) (split_fits_here first k on ws old v f fs e) y robbery.at.running robbery.here (right_node f) at.ready refl

  abbrev thief : Worker
  thief = record (worker_in vs w) { runs = Some (right_node f) }

  was : worker_in vs w ≡ worker_in ws w
  was = worker_other ws v w robbed apart

  none_d : (worker_in vs w).deque ≡ []
  none_d = ap (λ o. o.deque) was ∙ nothing.deque

  none_i : (worker_in vs w).inline ≡ []
  none_i = ap (λ o. o.inline) was ∙ nothing.inline

  thief_workers : AreWorkers z (slice_set vs w thief)
  thief_workers =
      workers_after vs w thief (omega (arith, length-set ws v robbed, low)) z z robbed_workers (λ u ne. robbed_workers.fit u)
      (thief_runs first k on f (columns_here first k on ws old v f fs e) (early_here first k on ws old v f fs e) (split_fits_here first k on ws old v f fs e) y robbery.at.running robbery.here (unfinished_here first k on ws old v f fs e) (worker_in vs w) none_d none_i)
      (λ u x ne p q. not_taken u (q ∙ sym p))
      (λ u g ne p q. absurd (let none = ap (λ ds. has (ds ++ (worker_in vs w).inline) g) none_d ∙ ap (λ ds. has ds g) none_i in cc (none, p)))

-- ## The move

module _ {A : Type 0} (first : List ℤ) (n : Simulation A) (w : ℕ) (low : w < length n.workers) (on : CoreGoesOn first n.core) (old : AreWorkers n.core n.workers) (idles : (worker n w).runs ≡ None) where
  takes_to : (v f : ℕ) (fs : List ℕ) → (worker n v).deque ≡ f ∷ fs → GoesTo first n.core (take_fork w v f fs n)
  takes_to v f fs e =
      by_event first (take_fork w v f fs n) n.core (event.Split f) (split_fits_here first n.core on n.workers old v f fs e)
      (goes_on_there first (take_fork w v f fs n) (split_goes first n.core on n.workers old w v f fs low idles e) (thief_workers first n.core on n.workers old w v f fs low idles e))

  steals_from : (v : ℕ) (us : List ℕ) → GoesTo first n.core (steal w us n) → (d : List ℕ) → (worker n v).deque ≡ d → GoesTo first n.core (elim d [ [] ↦ steal w us n | f ∷ fs ↦ take_fork w v f fs n ])
  steals_from v us rest [] e = rest
  steals_from v us rest (f ∷ fs) e = takes_to v f fs e

  pub steals_to : (us : List ℕ) → GoesTo first n.core (steal w us n)
  steals_to [] = goes_on_there first n on old
  steals_to (v ∷ us) = steals_from v us (steals_to us) (worker n v).deque refl
