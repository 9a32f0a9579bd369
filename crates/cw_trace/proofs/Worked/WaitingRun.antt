-- Main waits until the traces of its fork are merged.
use Rattle.std.proofs.Common.{◌≡◌, ℕ, [], ◌∷◌, refl, arith, Bool, true, Some, None, nat_eq}
use Rattle.std.specs.Prelude.{not}
use Rattle.std.proofs.lemmas.Bool.{eq-eqb, not-true}
use Rattle.cw_tree.specs.Nodes.{parent_of}
use Rattle.cw_tree.proofs.Worked.Checks.{all_below, each_below, implies, implied}
use Rattle.cw_trace.specs.Columns.{first_tier}
use Rattle.cw_trace.specs.Running.{IsDone}
use Rattle.cw_trace.specs.OrderedRuns.{Moment, GoesOnAt, shuts, fork_opens, fork, split, finish, merge, RunsInOrder, start, more}
use Rattle.cw_trace.specs.Worked.{no_words, one_fork, forked_once, stolen_once, main_alone, both_finished, put_together, MainWaits}
use Rattle.cw_trace.proofs.Worked.Checks.{innermost, goes}
use Rattle.cw_trace.proofs.Worked.SmallRun.{zeros, unstarted}

abbrev forks_now : ℕ → Bool
forks_now = fork_opens main_alone

abbrev at_fork : Moment
at_fork = record { columns = forked_once; words = no_words; tree = one_fork; cuts = []; joins = []; is_open = fork_opens main_alone }

abbrev at_split : Moment
at_split = record { columns = stolen_once; words = no_words; tree = one_fork; cuts = 1 ∷ []; joins = []; is_open = fork_opens main_alone }

abbrev left_finished : Moment
left_finished = record { columns = stolen_once; words = no_words; tree = one_fork; cuts = 1 ∷ []; joins = []; is_open = shuts 2 (fork_opens main_alone) }

run_alone : RunsInOrder main_alone
run_alone = start 5 no_words (omega arith) (omega arith) zeros

goes_alone : GoesOnAt main_alone 0
goes_alone = goes (first_tier 5) main_alone.tree [] [] main_alone.is_open 0 (innermost (first_tier 5) main_alone.tree [] [] main_alone.is_open 0 refl refl refl refl) refl

run_fork : RunsInOrder at_fork
run_fork = more main_alone at_fork (Some 0) run_alone (fork 0 1 goes_alone (omega arith))

run_split : RunsInOrder at_split
run_split = more at_fork at_split None run_fork (split 1 (omega arith) refl refl refl (unstarted one_fork 1 3 refl refl refl refl refl refl))

goes_left : GoesOnAt at_split 2
goes_left = goes stolen_once one_fork (1 ∷ []) [] forks_now 2 (innermost stolen_once one_fork (1 ∷ []) [] forks_now 2 refl refl refl refl) refl

run_left : RunsInOrder left_finished
run_left = more at_split left_finished (Some 2) run_split (finish 2 goes_left refl (omega arith))

goes_right : GoesOnAt left_finished 3
goes_right = goes stolen_once one_fork (1 ∷ []) [] (shuts 2 forks_now) 3 (innermost stolen_once one_fork (1 ∷ []) [] (shuts 2 forks_now) 3 refl refl refl refl) refl

run_finished : RunsInOrder both_finished
run_finished = more left_finished both_finished (Some 3) run_left (finish 3 goes_right refl (omega arith))

abbrev done_at : IsDone one_fork both_finished.is_open 1
done_at = record {
  fork = 1;
  is = refl;
  at = refl;
  done = λ s p h e. (
      let test : ℕ → Bool = λ s. implies (nat_eq (parent_of one_fork s) 1) (not (both_finished.is_open s)) in
      let all : all_below test 4 ≡ true = refl in
      not-true _ (implied _ _ (each_below test 4 all s h) (eq-eqb (parent_of one_fork s) 1 e)));
}

run_merged : RunsInOrder put_together
run_merged = more both_finished put_together None run_finished (merge 1 (omega arith) refl refl done_at)

pub main_waits : MainWaits
main_waits = record {
  finished = run_finished;
  waits = λ m. m.innermost 1 (omega arith) (omega arith) refl refl;
  merged = run_merged;
  goes_on = goes (put_together.columns) one_fork (1 ∷ []) (1 ∷ []) put_together.is_open 0 (innermost (put_together.columns) one_fork (1 ∷ []) (1 ∷ []) put_together.is_open 0 refl refl refl refl) refl;
}
