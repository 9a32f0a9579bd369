-- The run with two strands in blocks of their own.
use Rattle.std.proofs.Common.{◌≡◌, ℕ, zero, suc, ◌<◌, map, refl, arith, true}
use Rattle.std.specs.Prelude.{◌&&◌, pos, Contains, is_some}
use Rattle.std.specs.List.{list_any}
use Rattle.cw_code.specs.declared.Back.{Back}
use Rattle.cw_tree.specs.Walks.{is_above}
use Rattle.cw_tree.specs.Accesses.{written}
use Rattle.cw_tree.specs.Newest.{newest}
use Rattle.cw_tree.proofs.Worked.Checks.{all_one}
use Rattle.cw_open.specs.Steps.{first_machine}
use Rattle.cw_open.specs.Runs.{IsRun, at_any_time}
use Rattle.cw_open.specs.Looked.{accesses_of, IsFound}
use Rattle.cw_open.specs.WorkedAround.{two_cells, led_to, both_wrote, right_took, TwoBlocks, second_zero, PutBackRows, RightJoins, WaitingRows, StillRows, EntriesRows, TailsRows}
use Rattle.cw_open.proofs.WorkedTimes.Checks.{next_stamp, end_stamp, comes_last}

run : IsRun (at_any_time (λ t us w. newest us)) (first_machine two_cells) right_took
run = (
  (refl, next_stamp _ _ _ refl refl refl refl),
  (
    (refl, next_stamp _ _ _ refl refl refl refl),
    (
      (refl, next_stamp _ _ _ refl refl refl refl),
      (
        (refl, next_stamp _ _ _ refl refl refl refl),
        (
          (refl, next_stamp _ _ _ refl refl refl refl, comes_last _ _ _ _ _ refl refl),
          ((refl, next_stamp _ _ _ refl refl refl refl, comes_last _ _ _ _ _ refl refl), ((refl, end_stamp _ _ _ refl refl refl), ((refl, next_stamp _ _ _ refl refl refl refl, comes_last _ _ _ _ _ refl refl), tt))),
        ),
      ),
    ),
  ),
)

pub two_blocks : TwoBlocks
two_blocks = record {
  run = run;
  stands = refl;
  blocks = refl;
  begins = refl;
  inside = refl;
  victim = refl;
  still_blocks = refl;
  still_begins = refl;
  still_inside = refl;
  still_victim = refl;
  left_blocks = refl;
  left_ended = refl;
  barred = refl;
  apart = refl;
  met = record { last = (refl, refl); parallel = refl; block = (5, refl, refl) };
  nearest = refl;
  within = refl;
  still_within = refl;
  named = refl;
  free = refl;
  still_free = refl;
  beneath = refl;
  last = refl;
  list = refl;
  found = record { there = omega arith; wrote = refl; value = λ e. refl };
  still_found = record { there = omega arith; wrote = refl; value = λ e. refl };
  not_found = record { there = omega arith; wrote = refl; value = λ e. absurd (cc e) };
}

pub put_back_rows : PutBackRows
put_back_rows = record {
  is_found = record {
    rises = (omega arith, tt);
    found = all_one (λ (x : Back). IsFound (led_to both_wrote) 6 x.cell true x.value) (record { cell = 1; value = pos 0 }) (record { there = omega arith; wrote = refl; value = λ e. refl });
    all = cells_found;
  };
  put_back = refl;
  lacks = λ w. (let z = w.all 1 (omega arith) refl in omega (arith, z.1));
  before = refl;
  waits = refl;
  lives = refl;
  goes_free = refl;
  told = refl;
  victim_told = refl;
  dies = refl;
  ended = refl;
} where
  cells_found : (c : ℕ) → c < 2 → list_any (λ u. is_above (led_to both_wrote).tree 6 u && is_some (written (led_to both_wrote).tree u)) (accesses_of (led_to both_wrote) c) ≡ true → Contains (map (λ (x : Back). x.cell) second_zero) c
  cells_found zero l e = absurd (cc e)
  cells_found (suc zero) l e = (0, omega arith, refl)
  cells_found (suc (suc c)) l e = absurd (omega (arith, l))

pub right_joins : RightJoins
right_joins = record {
  come = record { fork = refl; strands = refl; left = refl; right = refl };
  main_waits = refl;
  may = (refl, (refl, tt));
  main_runs = refl;
  main_place = refl;
}

pub waiting_rows : WaitingRows
waiting_rows = record { waits = refl; opened = (refl, refl); blocks = (refl, refl); still_opened = refl; still_blocks = (refl, refl); right_blocks = refl; right_ended = refl }

pub still_rows : StillRows
still_rows = record { refused = refl; before = refl; beside = refl; own = refl }

pub entries_rows : EntriesRows
entries_rows = record {
  entries = (record { stamp = refl; wrote = refl; value = refl; old = refl }, tt);
  still_entries = (record { stamp = refl; wrote = refl; value = refl; old = refl }, tt);
  none_before = tt;
}

pub tails_rows : TailsRows
tails_rows = record { first_try = (refl, refl); rolled_back = refl; second_try = (refl, refl, refl); again = (refl, refl); others = (refl, refl); older = (refl, refl) }
