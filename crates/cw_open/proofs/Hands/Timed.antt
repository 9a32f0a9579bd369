-- A run goes on by one step in time; no time is above the clock, and a number above it may be used anywhere.
use Rattle.std.proofs.Common.{◌≡◌, ℕ, List, [], ◌∷◌, ◌++◌, refl, ap, sym, ◌∙◌, subst, arith}
use Rattle.cw_open.specs.Machine.{OpenMachine}
use Rattle.cw_open.specs.Steps.{Step, after_open_step, after_all, first_machine}
use Rattle.cw_open.specs.Runs.{Rules, Allowed, IsReachedBy, at_any_time}
use Rattle.cw_open.specs.Times.{times_after, IsTimely, AreTimely}
use Rattle.cw_open.specs.Hands.{times_after_all, RunsAreInTime, RunsBegin, RunsGoOn, TimesAreLow, AheadIsNext}
use Rattle.cw_open.proofs.Runs.States.{by_rules, at_any_step, states}
use Rattle.cw_open.proofs.Runs.More.{run_more, after_more}
use Rattle.cw_open.proofs.Runs.Clock.{next_above, end_above}
use Rattle.cw_open.proofs.Times.Ahead.{AreLow, low_after}

timely_more : (times : ℕ → ℕ) (m : OpenMachine) (es : List Step) (e : Step) → AreTimely times m es → IsTimely (times_after_all times m es) (after_all m es) e → AreTimely times m (es ++ e ∷ [])
timely_more times m [] e h a = (a, tt)
timely_more times m (x ∷ es) e h a = (h.0, timely_more (times_after times m x) (after_open_step m x) es e h.1 a)

times_more : (times : ℕ → ℕ) (m : OpenMachine) (es : List Step) (e : Step) → times_after_all times m (es ++ e ∷ []) ≡ times_after (times_after_all times m es) (after_all m es) e
times_more times m [] e = refl
times_more times m (x ∷ es) e = times_more (times_after times m x) (after_open_step m x) es e

pub runs_begin : (r : Rules) → RunsBegin r
runs_begin r first = record { steps = []; run = tt; there = refl; timely = tt; timed = refl }

pub runs_go_on : (r : Rules) → RunsGoOn r
runs_go_on r first m times e w a b =
    let P : OpenMachine → Type 0 = λ z. Allowed r z e in
    let Q : (ℕ → ℕ) → Type 0 = λ f. IsTimely f (after_all (first_machine first) w.steps) e in
    let R : OpenMachine → Type 0 = λ z. IsTimely times z e in
    record {
      steps = w.steps ++ e ∷ [];
      run = run_more r (first_machine first) w.steps (e ∷ []) w.run (subst P (sym w.there) a, tt);
      there = after_more (first_machine first) w.steps (e ∷ []) ∙ ap (λ z. after_open_step z e) w.there;
      timely = timely_more (λ n. 0) (first_machine first) w.steps e w.timely (subst Q (sym w.timed) (subst R (sym w.there) b));
      timed = times_more (λ n. 0) (first_machine first) w.steps e ∙ ap (λ f. times_after f (after_all (first_machine first) w.steps) e) w.timed ∙ ap (λ z. times_after times z e) w.there;
    }

pub runs_are_in_time : (r : Rules) → RunsAreInTime r
runs_are_in_time r first m = record {
  reached = λ times w. record { steps = w.steps; run = w.run; there = w.there; timely = w.timely };
  any_time = λ times w. by_rules r (at_any_time r.asked) first (at_any_step r) m (record { steps = w.steps; run = w.run; there = w.there });
  timed = λ w. (times_after_all (λ n. 0) (first_machine first) w.steps, record { steps = w.steps; run = w.run; there = w.there; timely = w.timely; timed = refl });
}

-- ## Times and the clock

low_all : (times : ℕ → ℕ) (m : OpenMachine) (es : List Step) → AreLow times m → AreLow (times_after_all times m es) (after_all m es)
low_all times m [] low = low
low_all times m (e ∷ es) low = low_all (times_after times m e) (after_open_step m e) es (low_after times m e low)

pub times_are_low : (r : Rules) → TimesAreLow r
times_are_low r first m times w n =
    omega (arith, low_all (λ n. 0) (first_machine first) w.steps (λ n. omega arith) n, ap (λ f. f n) w.timed, ap (λ z. z.clock) w.there)

pub ahead_is_next : (r : Rules) → AheadIsNext r
ahead_is_next r first m times w p stamp there less =
    let reached : IsReachedBy r first m = record { steps = w.steps; run = w.run; there = w.there } in
    let well = (states r first m reached).well in
    record {
      next = next_above m well stamp less p;
      drawn = λ n h e. omega (arith, times_are_low r first m times w n);
      end = end_above m well stamp less p there;
    }
