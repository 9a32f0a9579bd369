-- The small run in which a strand is owed a merge while another begins a block.
use Rattle.std.proofs.Common.{[], ◌∷◌, refl, false, inr, arith}
use Rattle.cw_trace.proofs.Worked.SmallRun.{unstarted}
use Rattle.cw_open.specs.Steps.{begins, finishes, forks, joins}
use Rattle.cw_open.proofs.WorkedTimes.Checks.{next_stamp}
use Rattle.cw_hands.specs.Shared.{SharedMoment, makes, splits, more}
use Rattle.cw_hands.specs.Worked.{alone, after_these}
use Rattle.cw_hands.specs.WorkedBeside.{outer_stolen, inner_forked, inner_stolen, owed_merge, begun_beside, OwedBeside, left_over, right_begun, OpenBeside}
use Rattle.cw_hands.proofs.Worked.Strands.{Run, later, run_alone}

abbrev begun : SharedMoment
begun = after_these alone (begins 0 1 ∷ [])

run_begun : Run begun
run_begun = more alone begun run_alone (makes (begins 0 1) (refl, next_stamp _ _ _ refl refl refl refl) refl (later alone 0 1 refl))

abbrev forked : SharedMoment
forked = after_these alone (begins 0 1 ∷ forks 0 2 ∷ [])

run_forked : Run forked
run_forked = more begun forked run_begun (makes (forks 0 2) (refl, next_stamp _ _ _ refl refl refl refl) refl tt)

run_outer : Run outer_stolen
run_outer = more forked outer_stolen run_forked (splits 2 refl refl (unstarted forked.machine.tree 2 4 refl refl refl refl refl refl))

run_inner : Run inner_forked
run_inner = more outer_stolen inner_forked run_outer (makes (forks 3 3) (refl, next_stamp _ _ _ refl refl refl refl) refl tt)

run_stolen : Run inner_stolen
run_stolen = more inner_forked inner_stolen run_inner (splits 5 refl refl (unstarted inner_forked.machine.tree 5 7 refl refl refl refl refl refl))

abbrev one_finished : SharedMoment
one_finished = after_these inner_stolen (finishes 6 false ∷ [])

run_one : Run one_finished
run_one = more inner_stolen one_finished run_stolen (makes (finishes 6 false) refl refl tt)

abbrev both_finished : SharedMoment
both_finished = after_these inner_stolen (finishes 6 false ∷ finishes 7 false ∷ [])

run_both : Run both_finished
run_both = more one_finished both_finished run_one (makes (finishes 7 false) refl refl tt)

run_owed : Run owed_merge
run_owed = more both_finished owed_merge run_both (makes (joins 5) refl refl tt)

run_beside : Run begun_beside
run_beside = more owed_merge begun_beside run_owed (makes (begins 4 4) (refl, next_stamp _ _ _ refl refl refl refl) refl (later owed_merge 4 4 refl))

pub owed_beside : OwedBeside
owed_beside = record {
  run = run_beside;
  owed = refl;
  runs = refl;
  waits = refl;
  place = refl;
  column_then = refl;
  gap_then = refl;
  words_then = refl;
  column_now = refl;
  gap_now = refl;
  words_now = refl;
  main_waits = refl;
  main_block = refl;
  main_gap = refl;
  fork_columns = (refl, refl);
  gap_whole = refl;
  gap_stolen = refl;
}

-- ## A strand that waits

run_left : Run left_over
run_left = more forked left_over run_forked (makes (finishes 3 false) refl refl tt)

run_right : Run right_begun
run_right = more left_over right_begun run_left (makes (begins 4 3) (refl, next_stamp _ _ _ refl refl refl refl) refl (later left_over 4 3 refl))

pub open_beside : OpenBeside
open_beside = record {
  run = run_right;
  alone = (refl, refl, refl);
  opened = (refl, refl);
  column = (refl, refl);
  gap = (refl, refl);
  words_then = refl;
  words_now = refl;
  shows = inr (0, omega arith, refl);
  around = refl;
}
