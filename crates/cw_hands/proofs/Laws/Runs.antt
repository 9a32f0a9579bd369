-- The laws on runs of both together.
use Rattle.std.proofs.Common.{◌≡◌, ℕ, zero, suc, List, [], ◌∷◌, refl, subst, arith, Bool, false, Option, None, nat_eq}
use Rattle.std.specs.Prelude.{ℤ}
use Rattle.std.proofs.lemmas.Bool.{and_parts, or_parts, ne_eqb}
use Rattle.cw_trace.specs.OrderedRuns.{Moment, GoesOnAt, RunsInOrder}
use Rattle.cw_trace.specs.OrderedRuns as tier
use Rattle.cw_trace.proofs.ManyHands.Running.{each_moment_stands}
use Rattle.cw_trace.proofs.ManyHands.Differ.{hands_differ}
use Rattle.cw_open.specs.Machine.{OpenMachine, has_finished, is_running}
use Rattle.cw_open.specs.Steps.{Step, after_open_step, first_machine}
use Rattle.cw_open.specs.Steps as step
use Rattle.cw_open.specs.Runs.{Rules, IsReachedBy, at_any_time}
use Rattle.cw_open.proofs.Open.Trees.{IsWell}
use Rattle.cw_open.proofs.Hands.Apart.{places_differ}
use Rattle.cw_open.proofs.Runs.More.{reached_more}
use Rattle.cw_open.proofs.Runs.States.{states, at_any_step}
use Rattle.cw_hands.specs.Shared.{SharedMoment, is_open_yet, moment_of, is_ready, place_at, first_shared, SharedStep, makes, splits, merges, RunsTogether, start, more}
use Rattle.cw_hands.specs.Laws.{TogetherAtAnyTime, MachinesRun, TiersRun, TiersStand, ReadyGoOn, ReadyDiffer}
use Rattle.cw_hands.proofs.Shared.Going.{may_go_on}
use Rattle.cw_hands.proofs.Shared.Seen.{everywhere, Seen, unseen, seen, machine_step, split_step, merge_step}

-- ## Any rules

step_at_any_time : (r : Rules) (s u : SharedMoment) → SharedStep r s u → SharedStep (at_any_time r.asked) s u
step_at_any_time r s _ (makes e a ready later) = makes e (at_any_step r s.machine e a) ready later
step_at_any_time r s _ (splits f whole early unstarted) = splits f whole early unstarted
step_at_any_time r s _ (merges f e) = merges f e

pub together_at_any_time : (r : Rules) → TogetherAtAnyTime r
together_at_any_time r first _ (start room words some fits zeros) = start room words some fits zeros
together_at_any_time r first u (more s _ run step) = more s u (together_at_any_time r first s run) (step_at_any_time r s u step)

-- ## The machine's part

step_reached : (r : Rules) (first : List ℤ) (s u : SharedMoment) → IsReachedBy r first s.machine → SharedStep r s u → IsReachedBy r first u.machine
step_reached r first s _ h (makes e a ready later) = reached_more r first s.machine (e ∷ []) h (a, tt)
step_reached r first s _ h (splits f whole early unstarted) = h
step_reached r first s _ h (merges f e) = h

pub machine_reached : (r : Rules) (first : List ℤ) (s : SharedMoment) → RunsTogether r first s → IsReachedBy r first s.machine
machine_reached r first _ (start room words some fits zeros) = record { steps = []; run = tt; there = refl }
machine_reached r first u (more s _ run step) = step_reached r first s u (machine_reached r first s run) step

pub machines_run : MachinesRun
machines_run asked first s run = machine_reached (at_any_time asked) first s run

pub well_at : (r : Rules) (first : List ℤ) (s : SharedMoment) → RunsTogether r first s → IsWell s.machine
well_at r first s run = (states r first s.machine (machine_reached r first s run)).well

-- ## The tier's part

-- main has not finished before
unfinished_before : (m : OpenMachine) (e : Step) → has_finished (after_open_step m e) 0 ≡ false → has_finished m 0 ≡ false
unfinished_before m (step.forks x stamp) h = h
unfinished_before m (step.begins x stamp) h = h
unfinished_before m (step.accesses x c w stamp) h = h
unfinished_before m (step.refuses x c w met) h = h
unfinished_before m (step.outputs x v stamp) h = h
unfinished_before m (step.cancels x stamp) h = h
unfinished_before m (step.commits x stamp) h = h
unfinished_before m (step.undoes x c) h = h
unfinished_before m (step.aborts x stamp) h = h
unfinished_before m (step.finishes x dead) h = (or_parts (nat_eq x 0) (has_finished m 0) h).1
unfinished_before m (step.joins f) h = h
unfinished_before m (step.stops x) h = h

pub unfinished_at : (r : Rules) (s u : SharedMoment) → SharedStep r s u → has_finished u.machine 0 ≡ false → has_finished s.machine 0 ≡ false
unfinished_at r s _ (makes e a ready later) h = unfinished_before s.machine e h
unfinished_at r s _ (splits f whole early unstarted) h = h
unfinished_at r s _ (merges f e) h = h

root_only : (n : ℕ) → nat_eq n 0 ≡ is_open_yet (first_shared [] 1 []) n
root_only zero = refl
root_only (suc n) = ne_eqb (suc n) 0 (λ e. absurd (omega (arith, e)))

first_in_order : (first : List ℤ) (room : ℕ) (words : List ℕ) → RunsInOrder (record { columns = (first_shared first room words).columns; words = words; tree = (first_shared first room words).machine.tree; cuts = []; joins = []; is_open = λ m. nat_eq m 0 }) → RunsInOrder (moment_of (first_shared first room words))
first_in_order first room words r =
    let P : (ℕ → Bool) → Type 0 = λ o. RunsInOrder (record { columns = (first_shared first room words).columns; words = words; tree = (first_shared first room words).machine.tree; cuts = []; joins = []; is_open = o }) in
    let same : (n : ℕ) → nat_eq n 0 ≡ is_open_yet (first_shared first room words) n = root_only in
    subst P (everywhere same) r

seen_run : (s u : SharedMoment) (who : Option ℕ) → RunsInOrder (moment_of s) → Seen s u who → RunsInOrder (moment_of u)
seen_run s u who r (unseen e) = subst RunsInOrder e r
seen_run s u who r (seen step) = tier.more (moment_of s) (moment_of u) who r step

step_run : (r : Rules) (s u : SharedMoment) → IsWell s.machine → RunsInOrder (moment_of s) → SharedStep r s u → has_finished u.machine 0 ≡ false → RunsInOrder (moment_of u)
step_run r s _ w o (makes e a ready later) h = seen_run s _ _ o (machine_step s w (each_moment_stands (moment_of s) o) r e a ready later h)
step_run r s _ w o (splits f whole early unstarted) h = tier.more (moment_of s) _ None o (split_step s w (each_moment_stands (moment_of s) o) f whole early unstarted)
step_run r s _ w o (merges f e) h = tier.more (moment_of s) _ None o (merge_step s w (each_moment_stands (moment_of s) o) f e)

pub tier_run : (r : Rules) (first : List ℤ) (s : SharedMoment) → RunsTogether r first s → has_finished s.machine 0 ≡ false → RunsInOrder (moment_of s)
tier_run r first _ (start room words some fits zeros) h = first_in_order first room words (tier.start room words some fits zeros)
tier_run r first u (more s _ run step) h = step_run r s u (well_at r first s run) (tier_run r first s run (unfinished_at r s u step h)) step h

pub tiers_run : TiersRun
tiers_run asked first s run h = tier_run (at_any_time asked) first s run h

pub tiers_stand : TiersStand
tiers_stand asked first s run h = each_moment_stands (moment_of s) (tiers_run asked first s run h)

-- ## Who may go on

pub ready_go_on : ReadyGoOn
ready_go_on asked first s run h x e =
    let w = well_at (at_any_time asked) first s run in
    let z = and_parts (is_running s.machine x) (is_ready s x) e in
    may_go_on s w.sound.tree w.nested x z.0 z.1

pub ready_differ : ReadyDiffer
ready_differ asked first s run h x y ex ey ne =
    let w = well_at (at_any_time asked) first s run in
    let rx = (and_parts (is_running s.machine x) (is_ready s x) ex).0 in
    let ry = (and_parts (is_running s.machine y) (is_ready s y) ey).0 in
    hands_differ s.columns s.words s.machine.tree s.cuts s.joins (is_open_yet s) (place_at s x) (place_at s y) (tiers_stand asked first s run h) (ready_go_on asked first s run h x ex) (ready_go_on asked first s run h y ey) (places_differ s.machine w x y rx ry ne)
