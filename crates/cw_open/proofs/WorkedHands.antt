-- The run with two strands that step in turn.
use Rattle.std.proofs.Common.{List, [], ◌∷◌, refl, arith}
use Rattle.std.specs.Prelude.{◌==◌}
use Rattle.std.proofs.lemmas.Bool.{eqb-true}
use Rattle.cw_tree.specs.declared.node.Node.{Node}
use Rattle.cw_tree.specs.Nodes.{is_fork}
use Rattle.cw_tree.specs.Accesses.{HasAccess}
use Rattle.cw_tree.specs.Newest.{newest}
use Rattle.cw_tree.specs.NextNodes.{IsNextStamp}
use Rattle.cw_tree.proofs.Worked.Checks.{each_below, implies, implied, all_one}
use Rattle.cw_tree.proofs.Walks.There.{fork_there}
use Rattle.cw_open.specs.Steps.{begins, first_machine, forks}
use Rattle.cw_open.specs.Runs.{IsRun, IsMet, at_any_time}
use Rattle.cw_open.specs.Refused.{IsNewest, as_told}
use Rattle.cw_open.specs.Hands.{WaitsForAlone}
use Rattle.cw_open.specs.WorkedHands.{one_cell, led_by, times_of, forked, left_wrote, right_showed, left_ended, met_left, right_read, rejoined, TwoHands, AllNextStampsStay, BroughtByOther}
use Rattle.cw_open.proofs.WorkedTimes.Checks.{next_stamp, end_stamp, comes_last, drawn, met_in_time, are_timely}

forked_run : IsRun (at_any_time (λ t us w. newest us)) (first_machine one_cell) forked
forked_run = ((refl, next_stamp _ _ _ refl refl refl refl), ((refl, next_stamp _ _ _ refl refl refl refl), tt))

met_then : IsMet (led_by left_ended).tree 4 0 met_left
met_then = record { last = (refl, refl); parallel = refl; block = (5, refl, refl) }

is_newest : (t : List Node) → HasAccess t 0 5 → IsNewest t 0 met_left
is_newest t access = record { len = (omega arith, omega arith); rises = λ k h. absurd (omega arith); accesses = all_one (HasAccess t 0) 5 access; last = ([], refl) }

run : IsRun (as_told (λ t us w. newest us)) (first_machine one_cell) rejoined
run = (
  (refl, next_stamp _ _ _ refl refl refl refl),
  (
    (refl, next_stamp _ _ _ refl refl refl refl),
    (
      (refl, next_stamp _ _ _ refl refl refl refl),
      (
        (refl, next_stamp _ _ _ refl refl refl refl, comes_last _ _ _ _ _ refl refl),
        (
          (refl, next_stamp _ _ _ refl refl refl refl),
          ((refl, end_stamp _ _ _ refl refl refl), ((refl, (met_then, is_newest _ (6, refl, refl))), ((refl, next_stamp _ _ _ refl refl refl refl, comes_last _ _ _ _ _ refl refl), (refl, (refl, (refl, tt)))))),
        ),
      ),
    ),
  ),
)

alone : WaitsForAlone (led_by right_read) 2
alone = record {
  alone = λ g fork own other. absurd (other (eqb-true g 2 (implied _ _ (each_below (λ g. implies (is_fork (led_by right_read).tree g) (g == 2)) 10 refl g (fork_there (led_by right_read).tree g fork)) fork)));
  unstopped = refl;
}

pub two_hands : TwoHands
two_hands = record {
  left_runs = refl;
  right_runs = refl;
  forker_waits = refl;
  apart = refl;
  left_began = refl;
  right_began = refl;
  forker_began = refl;
  next = next_stamp _ _ _ refl refl refl refl;
  drawn = drawn (led_by forked).tree (times_of forked) 4 3 refl;
  still_next = next_stamp _ _ _ refl refl refl refl;
  still_drawn = drawn (led_by left_wrote).tree (times_of left_wrote) 4 3 refl;
  end = end_stamp _ _ _ refl refl refl;
  still_end = end_stamp _ _ _ refl refl refl;
  conflicts = refl;
  conflicts_no_more = refl;
  refused = record { last = refl; conflicts = refl; block = (5, refl, refl); chain = refl };
  met = record { last = (refl, refl); parallel = refl; block = (5, refl, refl) };
  newest = is_newest (led_by right_showed).tree (6, refl, refl);
  in_time = met_in_time _ _ 4 5 met_left refl;
  ended = refl;
  still_met = met_then;
  still_in_time = met_in_time _ _ 4 5 met_left refl;
  leads = record { steps = rejoined; run = run; there = refl; timely = are_timely (λ n. 0) (first_machine one_cell) rejoined refl; timed = refl };
  closed_at = refl;
  clock = refl;
  come = record { fork = refl; strands = refl; left = refl; right = refl };
  alone = alone;
  again = refl;
  place_again = refl;
  began_again = refl;
  wrote = refl;
  beneath = refl;
  beneath_fork = refl;
  joined = refl;
}

-- ## A number that the step of the other brings

gone : IsNextStamp (led_by (begins 0 1 ∷ forks 0 2 ∷ begins 3 3 ∷ [])).tree 4 3 → ⊥
gone w = (w.fresh 5 (omega arith)).0 refl

not_all : AllNextStampsStay → ⊥
not_all law =
    gone (law (λ t us w. newest us) one_cell (led_by forked) (record { steps = forked; run = forked_run; there = refl }) (begins 3 3) (refl, next_stamp _ _ _ refl refl refl refl) 4 refl refl 3 (next_stamp _ _ _ refl refl refl refl))

pub brought_by_other : BroughtByOther
brought_by_other = record { gone = gone; not_all = not_all }
