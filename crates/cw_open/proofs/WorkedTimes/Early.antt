-- The run in which a stamp is drawn early, and its sibling.
use Rattle.std.proofs.Common.{[], refl, arith}
use Rattle.cw_tree.specs.Newest.{newest}
use Rattle.cw_tree.specs.Histories.{IsHistory}
use Rattle.cw_tree.specs.Shape.{AreStamps}
use Rattle.cw_tree.proofs.Worked.Checks.{each_below, is_tree, are_stamps, pending_last, are_refusals, rolls_back}
use Rattle.cw_tree.proofs.Cancels.{no_cancels}
use Rattle.cw_tree.proofs.Worked.KeptParts.{both_at, are_journals, is_entry, ended_between}
use Rattle.cw_tree.proofs.Worked.KeptRuns.{ended_one}
use Rattle.cw_open.specs.Machine.{live}
use Rattle.cw_open.specs.Runs.{IsRun}
use Rattle.cw_open.specs.Times.{AreTimely}
use Rattle.cw_open.specs.Refused.{as_told}
use Rattle.cw_open.specs.Left.{AreEntriesAt, AreKept}
use Rattle.cw_open.specs.WorkedTimes.{one_cell, opening, early_steps, early, early_tree, early_entries, too_early, DrawnEarly}
use Rattle.cw_open.proofs.Runs.LawsHold.{trees}
use Rattle.cw_open.proofs.Runs.Unstopped.{told_any_time}
use Rattle.cw_open.proofs.WorkedTimes.Checks.{next_stamp, end_stamp, comes_last, are_timely, none_undone}

run : IsRun (as_told (λ t us w. newest us)) opening early_steps
run = (
  (refl, next_stamp _ _ _ refl refl refl refl),
  (
    (refl, next_stamp _ _ _ refl refl refl refl, comes_last _ _ _ _ _ refl refl),
    (
      (refl, next_stamp _ _ _ refl refl refl refl),
      (
        (refl, next_stamp _ _ _ refl refl refl refl, comes_last _ _ _ _ _ refl refl),
        ((refl, end_stamp _ _ _ refl refl refl), (refl, (refl, (refl, (refl, tt))))),
      ),
    ),
  ),
)

timely : AreTimely (λ n. 0) opening early_steps
timely = are_timely (λ n. 0) opening early_steps refl

entries : AreKept early early_entries
entries = record {
  len = refl;
  each = both_at (λ c v es. AreEntriesAt early.tree v (live early c) es) one_cell early_entries (
    (record { stamp = refl; wrote = refl; value = refl; old = refl }, (record { stamp = refl; wrote = refl; value = refl; old = refl }, tt)),
    tt,
  );
}

history : IsHistory early_tree one_cell early_entries []
history = record {
  tree = is_tree early_tree (omega arith) refl refl refl refl refl;
  stamps = are_stamps early_tree refl refl refl refl refl refl refl refl refl;
  pending_last = pending_last early_tree refl refl;
  cells = each_below _ 7 refl;
  journals = are_journals early_tree one_cell early_entries ((is_entry early_tree _ 3 _ refl refl refl refl refl, (is_entry early_tree _ 6 _ refl refl refl refl refl, tt)), tt);
  ended = ended_one early_tree (ended_between early_tree 3 6 refl, tt);
  cancels = no_cancels early_tree one_cell refl;
  refusals = are_refusals early_tree [] refl (λ k d l. absurd (omega arith)) refl refl;
  rolls_back = rolls_back early_tree [] refl refl;
}

-- the output stands before the block, and has a greater stamp
stamps : AreStamps too_early.tree → ⊥
stamps w = absurd (let less = (w.series 5 6 (omega arith) (omega arith) refl (omega arith)).0 in omega arith)

pub drawn_early : DrawnEarly
drawn_early = record {
  leads = record { steps = early_steps; run = run; there = refl; timely = timely };
  complete = none_undone early refl;
  entries = entries;
  tree = refl;
  history = history;
  no_run = λ asked w. (let less = (w.1.1.1.0.1.series 5 (omega arith) refl).0 in absurd (omega arith));
  stamps = stamps;
  none = λ asked w. stamps (trees asked one_cell too_early (told_any_time asked one_cell too_early w)).stamps;
}
