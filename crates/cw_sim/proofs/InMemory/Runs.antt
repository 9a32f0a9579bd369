-- The run of a simulation in memory: what stands before each move, and that one move leads to the next.
use Rattle.std.proofs.Common.{◌≡◌, ℕ, suc, ◌+◌, ◌-◌, ◌<◌, List, length, refl, sym, ◌∙◌, ap, subst, arith, Bool, true, false}
use Rattle.std.specs.Prelude.{ℤ}
use Rattle.std.proofs.lemmas.List.{length-replicate}
use Rattle.cw_io.specs.declared.schedule.Schedule.{Schedule}
use Rattle.cw_strand.specs.Names.{first_memory}
use Rattle.cw_strand.specs.Programs.{IsCompiled}
use Rattle.cw_strand.specs.Strands.{Strands}
use Rattle.cw_core.proofs.Events.Going.{state}
use Rattle.cw_job.specs.Jobs.{Job, TakesWords}
use Rattle.cw_job.specs.Room.Strands.{StrandState, strands_of_job}
use Rattle.cw_sim.specs.Workers.{Simulation, idle}
use Rattle.cw_sim.specs.Turns.{worker_at}
use Rattle.cw_sim.specs.Moves.{is_run_over, move, after_moves}
use Rattle.cw_sim.specs.Runs.{simulation_of}
use Rattle.cw_sim.specs.Kept.{CoreGoesOn, IsKept}
use Rattle.cw_sim.specs.Laws.{AreStrands}
use Rattle.cw_sim.specs.HasWants.{HasWants}
use Rattle.cw_sim.specs.Inside.{HasInside}
use Rattle.cw_sim.specs.InMemory.{Seen, StandsFor, Comes, Ends, MayMove, opened}
use Rattle.cw_sim.specs.TurnsInMemory.{AreAt}
use Rattle.cw_sim.specs.declared.turns.Turns.{Turns}
use Rattle.cw_sim.specs.declared.moves.Driver.{Driver}
use Rattle.cw_sim.proofs.Runs.Closing.{moves_fit}
use Rattle.cw_sim.proofs.Inside.Opens.{opens_inside}
use Rattle.cw_sim.proofs.Laws.MoveNumbers.{move_number}
use Rattle.cw_sim.proofs.Laws.Opens.{opens}
use Rattle.cw_sim.proofs.Laws.Wants.{wants_fit}
use Rattle.cw_sim.proofs.Runs.Whole.{stays_over}
use Rattle.cw_sim.proofs.Runs.Strands.{strands_lawful}

module _ (job : Job) (workers : ℕ) (schedule : Schedule) where
  abbrev s : Strands StrandState
  s = strands_of_job job

  abbrev first : List ℤ
  first = first_memory job.program.cells

  abbrev turn : ℕ → ℕ
  turn = worker_at schedule workers

  abbrev limit : ℕ
  limit = job.limits.moves

  -- Before the n-th move memory stands for a simulation of the job, in which all is kept while it goes on, and of which the other moves make
  -- what all moves come to.
  pub record IsAt (c : Driver) (n : ℕ) : Type 0 where
    pub m : Simulation StrandState
    pub there : ℕ → StrandState
    pub stands : StandsFor c (record { job = job; m = m; there = there })
    pub inside : HasInside s m there
    pub many : length m.workers ≡ workers
    pub kept : is_run_over m ≡ false → IsKept s first m
    pub left : after_moves s turn (limit - n) n m ≡ simulation_of job workers schedule

  -- those who take turns stand there, too
  pub record AreAlong (t : Turns) (n : ℕ) : Type 0 where
    pub at : AreAt t n
    pub schedule_same : t.schedule.now ≡ schedule
    pub workers_same : t.workers ≡ workers

  -- the one whose turn it is by them is so by the schedule
  along_worker : (t : Turns) (n w : ℕ) → AreAlong t n → w ≡ worker_at t.schedule.now t.workers n → w ≡ turn n
  along_worker t n w a e = e ∙ ap (λ k. worker_at t.schedule.now k n) a.workers_same ∙ ap (λ l. worker_at l workers n) a.schedule_same

  -- so they do behind it
  pub along_next : (t u : Turns) (n : ℕ) → AreAlong t n → AreAt u (n + 1) → u.schedule.now ≡ t.schedule.now → u.workers ≡ t.workers → AreAlong u (n + 1)
  along_next t u n a next schedules counts = record { at = next; schedule_same = schedules ∙ a.schedule_same; workers_same = counts ∙ a.workers_same }

  -- before the first move it is so
  pub is_opened : (c : Driver) → 0 < job.limits.strands → 0 < workers → StandsFor c (opened job workers) → IsAt c 0
  is_opened c room some stands = record {
    m = (opened job workers).m;
    there = (opened job workers).there;
    stands = stands;
    inside = opens_inside s first job.limits.strands job.limits.aborts workers;
    many = (let n = length-replicate (workers - 1) idle in omega (arith, n, some));
    kept = λ off. opens s first job.limits.strands job.limits.aborts workers room;
    left = ap (λ k. after_moves s turn k 0 (opened job workers).m) (let e : limit - 0 ≡ limit = omega arith in e);
  }

  -- ## At a move

  module _ (c : Driver) (n : ℕ) (is : IsAt c n) where
    -- the simulation that it stands for
    abbrev pub z : Seen
    z = record { job = job; m = is.m; there = is.there }

    module _ (b : Bool) (tells : (y : Seen) → StandsFor c y → b ≡ is_run_over y.m) where
      -- whether it is over
      over_is : (v : Bool) → b ≡ v → is_run_over is.m ≡ v
      over_is v e = sym (tells z is.stands) ∙ e

      -- once it is all moves came to it
      pub ends_over : b ≡ true → Ends c job workers schedule
      ends_over e =
          let P : Simulation StrandState → Type 0 = λ m. StandsFor c (record { job = job; m = m; there = is.there }) in
          (is.there, subst P (sym (stays_over s turn (limit - n) n is.m (over_is true e)) ∙ is.left) is.stands)

      -- ## Where it is not

      module _ (compiled : IsCompiled job.program) (takes : TakesWords job.program (length job.words)) (off : b ≡ false) (t : Turns) (along : AreAlong t n) (w : ℕ)
          (who : w ≡ worker_at t.schedule.now t.workers n) (few : w < t.workers) where
        are : AreStrands s (length first)
        are = strands_lawful job compiled takes

        kept : IsKept s first is.m
        kept = is.kept (over_is false off)

        values : is.m.core.machine.first ≡ first
        values = (state first is.m.core kept.core.core).values

        low : w < length is.m.workers
        low = let same = along.workers_same in let many = is.many in omega (arith, same, many, few)

        -- the worker whose turn it is may move
        pub may_move : MayMove c w z
        may_move =
            let P : List ℤ → Type 0 = λ vs. CoreGoesOn vs is.m.core in
            let Q : List ℤ → Type 0 = λ vs. HasWants s (length vs) is.m in
            record {
              steady = record { stands = is.stands; core = subst P (sym values) kept.core; inside = is.inside };
              there = low;
              workers = kept.workers;
              wants = subst Q (sym values) (wants_fit s first is.m are kept);
            }

        -- the next move of the definitions is made
        one : (k : ℕ) (v : Bool) → v ≡ false → elim v [ true ↦ is.m | false ↦ after_moves s turn k (suc n) (move s (turn n) is.m) ] ≡ after_moves s turn k (suc n) (move s (turn n) is.m)
        one k true e = absurd (cc e)
        one k false e = refl

        -- what its move comes to stands before the next one
        pub comes_next : (d : Driver) → n < limit → Comes d z (move s w is.m) → IsAt d (n + 1)
        comes_next d more comes = record {
          m = move s w is.m;
          there = comes.0;
          stands = comes.1.0;
          inside = comes.1.1;
          many = move_number s w is.m ∙ is.many;
          kept = (moves_fit s first is.m w are low kept (over_is false off)).1;
          left =
              ap (λ v. after_moves s turn (limit - (n + 1)) (n + 1) (move s v is.m)) (along_worker t n w along who)
              ∙ ap (λ i. after_moves s turn (limit - (n + 1)) i (move s (turn n) is.m)) (let e : n + 1 ≡ suc n = omega arith in e)
              ∙ sym (one (limit - (n + 1)) (is_run_over is.m) (over_is false off))
              ∙ ap (λ k. after_moves s turn k n is.m) (let e : suc (limit - (n + 1)) ≡ limit - n = omega (arith, more) in e)
              ∙ is.left;
        }
