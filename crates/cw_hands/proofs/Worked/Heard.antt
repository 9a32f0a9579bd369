-- The small run in which one strand hears of the write of another.
use Rattle.std.proofs.Common.{[], ◌∷◌, refl, arith}
use Rattle.std.specs.Prelude.{pos, Some}
use Rattle.cw_trace.proofs.Worked.SmallRun.{zeros, unstarted}
use Rattle.cw_open.specs.Steps.{begins, accesses, commits, forks}
use Rattle.cw_open.proofs.WorkedTimes.Checks.{next_stamp, end_stamp, comes_last}
use Rattle.cw_hands.specs.Shared.{SharedMoment, first_shared, makes, splits, RunsTogether, start, more}
use Rattle.cw_hands.specs.Worked.{any_rules, no_words, after_these}
use Rattle.cw_hands.specs.WorkedHeard.{fork_made, fork_split, left_written, left_over, HeardRows}
use Rattle.cw_hands.proofs.Worked.Strands.{later}

abbrev RunOfCell : SharedMoment → Type 0
RunOfCell s = RunsTogether any_rules (pos 0 ∷ []) s

abbrev begun : SharedMoment
begun = after_these fork_split (begins 2 2 ∷ [])

run_made : RunOfCell fork_made
run_made = more (first_shared (pos 0 ∷ []) 5 no_words) fork_made (start 5 no_words (omega arith) (omega arith) zeros) (makes (forks 0 1) (refl, next_stamp _ _ _ refl refl refl refl) refl tt)

run_split : RunOfCell fork_split
run_split = more fork_made fork_split run_made (splits 1 refl refl (unstarted fork_made.machine.tree 1 3 refl refl refl refl refl refl))

run_begun : RunOfCell begun
run_begun = more fork_split begun run_split (makes (begins 2 2) (refl, next_stamp _ _ _ refl refl refl refl) refl (later fork_split 2 2 refl))

run_written : RunOfCell left_written
run_written = more begun left_written run_begun (makes (accesses 2 0 (Some (pos 7)) 3) (refl, next_stamp _ _ _ refl refl refl refl, comes_last _ _ _ _ _ refl refl) refl tt)

run_over : RunOfCell left_over
run_over = more left_written left_over run_written (makes (commits 2 4) (refl, end_stamp _ _ _ refl refl refl) refl tt)

pub heard_rows : HeardRows
heard_rows = record {
  run = run_over;
  mark = refl;
  goes = refl;
  outside = refl;
  leads = refl;
  heard = refl;
  heard_then = refl;
  idle = (refl, refl, refl);
  busy = refl;
  whole = (refl, refl);
  parted = (refl, refl);
  cut = refl;
  same_owner = refl;
  same_lead = refl;
  same_up = refl;
}
