-- The small run with two strands.
use Rattle.std.proofs.Common.{◌≡◌, ℕ, [], ◌∷◌, refl, arith, inr, Bool, true, false, length, nat_eq, nat_le}
use Rattle.std.proofs.lemmas.Bool.{leb-true, eq-eqb}
use Rattle.cw_tree.specs.Nodes.{stamp_of}
use Rattle.cw_tree.specs.Newest.{newest}
use Rattle.cw_tree.proofs.Worked.Checks.{all_below, each_below, implies, implied}
use Rattle.cw_trace.specs.Hands.{IsLater, trace_at}
use Rattle.cw_trace.specs.OrderedRuns.{GoesOnAt}
use Rattle.cw_trace.proofs.Worked.SmallRun.{zeros, unstarted}
use Rattle.cw_open.specs.Steps.{begins, cancels, commits, finishes, forks, joins}
use Rattle.cw_open.proofs.WorkedTimes.Checks.{next_stamp, end_stamp}
use Rattle.cw_hands.specs.Shared.{SharedMoment, moment_of, after_shared, first_shared, SharedStep, makes, splits, merges, RunsTogether, start, more}
use Rattle.cw_hands.specs.Worked.{any_rules, no_words, alone, after_these, forked_once, stolen, in_blocks, given_up, joined_once, put_together, TwoStrands, NotReady, rejoined, inline_once, NoneOwed}

abbrev pub Run : SharedMoment → Type 0
Run s = RunsTogether any_rules [] s

abbrev later_test : (s : SharedMoment) (p stamp n : ℕ) → Bool
later_test s p stamp n = implies (nat_eq (trace_at s.columns s.machine.tree n) (trace_at s.columns s.machine.tree p)) (nat_le (stamp_of s.machine.tree n) stamp)

pub later : (s : SharedMoment) (p stamp : ℕ) → all_below (later_test s p stamp) (length s.machine.tree) ≡ true → IsLater s.columns s.machine.tree p stamp
later s p stamp e n h same = leb-true _ _ (implied _ _ (each_below (later_test s p stamp) (length s.machine.tree) e n h) (eq-eqb _ _ same))

pub run_alone : Run alone
run_alone = start 5 no_words (omega arith) (omega arith) zeros

run_forked : Run forked_once
run_forked = more alone forked_once run_alone (makes (forks 0 1) (refl, next_stamp _ _ _ refl refl refl refl) refl tt)

run_stolen : Run stolen
run_stolen = more forked_once stolen run_forked (splits 1 refl refl (unstarted forked_once.machine.tree 1 3 refl refl refl refl refl refl))

abbrev left_begun : SharedMoment
left_begun = after_these stolen (begins 2 2 ∷ [])

run_left : Run left_begun
run_left = more stolen left_begun run_stolen (makes (begins 2 2) (refl, next_stamp _ _ _ refl refl refl refl) refl (later stolen 2 2 refl))

run_blocks : Run in_blocks
run_blocks = more left_begun in_blocks run_left (makes (begins 3 3) (refl, next_stamp _ _ _ refl refl refl refl) refl (later left_begun 3 3 refl))

run_given_up : Run given_up
run_given_up = more in_blocks given_up run_blocks (makes (cancels 2 4) (refl, next_stamp _ _ _ refl refl refl refl) refl tt)

abbrev right_ended : SharedMoment
right_ended = after_these in_blocks (commits 3 4 ∷ [])

run_right : Run right_ended
run_right = more in_blocks right_ended run_blocks (makes (commits 3 4) (refl, end_stamp _ _ _ refl refl refl) refl tt)

abbrev both_ended : SharedMoment
both_ended = after_these in_blocks (commits 3 4 ∷ commits 2 5 ∷ [])

run_both : Run both_ended
run_both = more right_ended both_ended run_right (makes (commits 2 5) (refl, end_stamp _ _ _ refl refl refl) refl tt)

abbrev left_finished : SharedMoment
left_finished = after_these both_ended (finishes 2 false ∷ [])

run_left_finished : Run left_finished
run_left_finished = more both_ended left_finished run_both (makes (finishes 2 false) refl refl tt)

abbrev both_finished : SharedMoment
both_finished = after_these both_ended (finishes 2 false ∷ finishes 3 false ∷ [])

run_both_finished : Run both_finished
run_both_finished = more left_finished both_finished run_left_finished (makes (finishes 3 false) refl refl tt)

run_joined : Run joined_once
run_joined = more both_finished joined_once run_both_finished (makes (joins 1) refl refl tt)

run_merged : Run put_together
run_merged = more joined_once put_together run_joined (merges 1 refl)

run_begun : Run (after_shared put_together (begins 0 6))
run_begun = more put_together (after_shared put_together (begins 0 6)) run_merged (makes (begins 0 6) (refl, next_stamp _ _ _ refl refl refl refl) refl (later put_together 0 6 refl))

-- the fork is open yet
not_yet : GoesOnAt (moment_of joined_once) 0 → ⊥
not_yet g = g.innermost 1 (omega arith) (omega arith) refl refl

pub two_strands : TwoStrands
two_strands = record {
  forked = run_forked;
  left_first = (refl, refl, refl);
  blocks = run_blocks;
  hands = (refl, refl, refl);
  traces = (refl, refl);
  drawn = later stolen 3 3 refl;
  still = later left_begun 3 3 refl;
  words = refl;
  cancelled = run_given_up;
  still_hands = (refl, refl);
  still_words = refl;
  joined = run_joined;
  owed = (refl, refl);
  main_waits = (refl, refl);
  not_yet = not_yet;
  merged = run_merged;
  main_goes_on = refl;
  begun = run_begun;
  main_word = refl;
}

-- the left strand finishes before the fork is split
abbrev left_alone : SharedMoment
left_alone = after_shared forked_once (finishes 2 false)

run_left_alone : Run left_alone
run_left_alone = more forked_once left_alone run_forked (makes (finishes 2 false) refl refl tt)

pub not_ready : NotReady
not_ready = record {
  joined = λ law. not_yet (law (λ t us w. newest us) [] joined_once run_joined refl 0 refl);
  unready = λ law. (let g = law (λ t us w. newest us) [] forked_once run_forked refl 3 refl in absurd (cc (g.left_done 2 (omega arith) (omega arith) refl refl (inr refl))));
  stolen = λ law. cc (law (λ t us w. newest us) [] left_alone run_left_alone refl 1 3 refl refl (unstarted forked_once.machine.tree 1 3 refl refl refl refl refl refl) refl);
}

-- ## Forks that are not stolen

-- finishes and joins of the fork, in order
run_rejoined : (s : SharedMoment) → Run s → SharedStep any_rules s (after_these s (finishes 2 false ∷ [])) → SharedStep any_rules (after_these s (finishes 2 false ∷ [])) (after_these s (finishes 2 false ∷ finishes 3 false ∷ [])) → SharedStep any_rules (after_these s (finishes 2 false ∷ finishes 3 false ∷ [])) (rejoined s) → Run (rejoined s)
run_rejoined s run a b c = more (after_these s (finishes 2 false ∷ finishes 3 false ∷ [])) (rejoined s) (more (after_these s (finishes 2 false ∷ [])) (after_these s (finishes 2 false ∷ finishes 3 false ∷ [])) (more s (after_these s (finishes 2 false ∷ [])) run a) b) c

run_inline : Run inline_once
run_inline = more (first_shared [] 1 no_words) inline_once (start 1 no_words (omega arith) (omega arith) zeros) (makes (forks 0 1) (refl, next_stamp _ _ _ refl refl refl refl) refl tt)

pub none_owed : NoneOwed
none_owed = record {
  whole = run_rejoined forked_once run_forked (makes (finishes 2 false) refl refl tt) (makes (finishes 3 false) refl refl tt) (makes (joins 1) refl refl tt);
  whole_joins = refl;
  whole_goes = refl;
  inline = run_rejoined inline_once run_inline (makes (finishes 2 false) refl refl tt) (makes (finishes 3 false) refl refl tt) (makes (joins 1) refl refl tt);
  inline_columns = refl;
  inline_waits = (refl, refl);
  inline_joins = refl;
  inline_goes = refl;
}
