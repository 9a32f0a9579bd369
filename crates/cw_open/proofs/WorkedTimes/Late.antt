-- The run in which an access is refused late, and its sibling.
use Rattle.std.proofs.Common.{◌≡◌, ℕ, ◌≤◌, List, [], ◌∷◌, ◌++◌, length, refl, sym, arith, true, inl, inr, pos, subst}
use Rattle.std.specs.Prelude.{◌==◌}
use Rattle.std.proofs.lemmas.Bool.{and_parts, eqb-true}
use Rattle.std.proofs.lemmas.List.Elements.{All-head}
use Rattle.cw_tree.specs.declared.node.Node.{Node}
use Rattle.cw_tree.specs.Nodes.{is_block_kind, is_block, is_pending}
use Rattle.cw_tree.specs.Series.{is_before}
use Rattle.cw_tree.specs.Accesses.{HasAccess}
use Rattle.cw_tree.specs.Newest.{newest}
use Rattle.cw_tree.specs.Histories.{IsHistory}
use Rattle.cw_tree.specs.Refusals.{IsRecorded}
use Rattle.cw_tree.proofs.Walks.There.{node_there}
use Rattle.cw_tree.proofs.Worked.Checks.{all_below, each_below, implies, implied, is_tree, are_stamps, pending_last, are_refusals, rolls_back, all_one}
use Rattle.cw_tree.proofs.Cancels.{no_cancels}
use Rattle.cw_tree.proofs.Worked.KeptParts.{both_at, are_journals, is_entry, ended_between, recorded}
use Rattle.cw_tree.proofs.Worked.KeptRuns.{ended_one}
use Rattle.cw_open.specs.Machine.{OpenMachine, live}
use Rattle.cw_open.specs.Steps.{outputs, after_all}
use Rattle.cw_open.specs.Runs.{IsRun, IsMet}
use Rattle.cw_open.specs.Times.{IsMetInTime, AreTimely}
use Rattle.cw_open.specs.Refused.{as_told, IsNewest}
use Rattle.cw_open.specs.Hands.{times_after_all}
use Rattle.cw_open.specs.Left.{AreEntriesAt, AreKept}
use Rattle.cw_open.specs.WorkedTimes.{one_cell, opening, left_goes_on, late_steps, late, late_tree, late_conflict, late_entries, late_with_output, too_late, RefusedLate}
use Rattle.cw_open.proofs.Refused.Recorded.{conflicts_recorded}
use Rattle.cw_open.proofs.WorkedTimes.Checks.{next_stamp, end_stamp, comes_last, are_timely, none_undone}

-- ## The run

-- what the access met, in each state with the block at 4 and the write at 5
abbrev IsTold : OpenMachine → Type 0
IsTold m = IsMet m.tree 3 0 (record { last = 3; block = 2; chain = 3 ∷ [] }) × IsNewest m.tree 0 (record { last = 3; block = 2; chain = 3 ∷ [] })

told : (m : OpenMachine) → IsMet m.tree 3 0 (record { last = 3; block = 2; chain = 3 ∷ [] }) → HasAccess m.tree 0 3 → IsTold m
told m met access = (met, record { len = (omega arith, omega arith); rises = λ k h. absurd (omega arith); accesses = all_one (HasAccess m.tree 0) 3 access; last = ([], refl) })

run : IsRun (as_told (λ t us w. newest us)) opening late_steps
run = (
  (refl, next_stamp _ _ _ refl refl refl refl),
  (
    (refl, next_stamp _ _ _ refl refl refl refl),
    (
      (refl, next_stamp _ _ _ refl refl refl refl, comes_last _ _ _ _ _ refl refl),
      (
        (refl, end_stamp _ _ _ refl refl refl),
        (
          (refl, next_stamp _ _ _ refl refl refl refl),
          (
            (refl, told (after_all opening left_goes_on) (record { last = (refl, refl); parallel = refl; block = (4, refl, refl) }) (5, refl, refl)),
            ((refl, next_stamp _ _ _ refl refl refl refl, comes_last _ _ _ _ _ refl refl), (refl, (refl, (refl, (refl, tt))))),
          ),
        ),
      ),
    ),
  ),
)

timely : AreTimely (λ n. 0) opening late_steps
timely = are_timely (λ n. 0) opening late_steps refl

-- ## What it leaves

entries : AreKept late late_entries
entries = record {
  len = refl;
  each = both_at (λ c v es. AreEntriesAt late.tree v (live late c) es) one_cell late_entries (
    (record { stamp = refl; wrote = refl; value = refl; old = refl }, (record { stamp = refl; wrote = refl; value = refl; old = refl }, tt)),
    tt,
  );
}

history : IsHistory late_tree one_cell late_entries (late_conflict ∷ [])
history = record {
  tree = is_tree late_tree (omega arith) refl refl refl refl refl;
  stamps = are_stamps late_tree refl refl refl refl refl refl refl refl refl;
  pending_last = pending_last late_tree refl refl;
  cells = each_below _ 9 refl;
  journals = are_journals late_tree one_cell late_entries ((is_entry late_tree _ 4 _ refl refl refl refl refl, (is_entry late_tree _ 8 _ refl refl refl refl refl, tt)), tt);
  ended = ended_one late_tree (ended_between late_tree 4 8 refl, tt);
  cancels = no_cancels late_tree one_cell refl;
  refusals = are_refusals late_tree (late_conflict ∷ []) refl (recorded late_tree late_conflict 4 3 (refl, refl, refl, refl, refl, refl, refl, refl, refl) (refl, refl, refl)) refl refl;
  rolls_back = rolls_back late_tree (late_conflict ∷ []) refl refl;
}

-- ## With an output of the right strand before

abbrev shown : OpenMachine
shown = after_all opening (left_goes_on ++ outputs 3 (pos 2) 6 ∷ [])

run_with_output : IsRun (as_told (λ t us w. newest us)) opening late_with_output
run_with_output = (
  (refl, next_stamp _ _ _ refl refl refl refl),
  (
    (refl, next_stamp _ _ _ refl refl refl refl),
    (
      (refl, next_stamp _ _ _ refl refl refl refl, comes_last _ _ _ _ _ refl refl),
      (
        (refl, end_stamp _ _ _ refl refl refl),
        (
          (refl, next_stamp _ _ _ refl refl refl refl),
          (
            (refl, next_stamp _ _ _ refl refl refl refl),
            (
              (refl, told shown (record { last = (refl, refl); parallel = refl; block = (4, refl, refl) }) (5, refl, refl)),
              ((refl, next_stamp _ _ _ refl refl refl refl, comes_last _ _ _ _ _ refl refl), (refl, (refl, (refl, (refl, tt))))),
            ),
          ),
        ),
      ),
    ),
  ),
)

-- there is one block
module _ (t : List Node) (only : all_below (λ b. implies (is_block t b) (b == 4)) (length t) ≡ true) where
  block_is : (b : ℕ) → is_block t b ≡ true → b ≡ 4
  block_is b e = eqb-true b 4 (implied _ _ (each_below (λ b. implies (is_block t b) (b == 4)) (length t) only b (node_there (λ x. is_block_kind x.kind) t b e)) e)

-- the access would have to meet it while it was pending, but it was closed, and the output came after that
abbrev times : ℕ → ℕ
times = times_after_all (λ n. 0) opening (left_goes_on ++ outputs 3 (pos 2) 6 ∷ [])

not_met : IsMetInTime times shown.tree 3 (record { last = 3; block = 2; chain = 3 ∷ [] }) → ⊥
not_met (b, block, stamp, met) =
    let at : b ≡ 4 = block_is shown.tree refl b block in
    let P : ℕ → Type 0 = λ n. is_pending shown.tree n ≡ true in
    let Q : ℕ → Type 0 = λ n. 6 ≤ times n in
    elim met [ inl pending ↦ absurd (let e = subst P at pending in cc e) | inr later ↦ (let late : 6 ≤ 4 = subst Q at (later.before 7 (omega arith) refl).0 in omega arith) ]

untimely : AreTimely (λ n. 0) opening late_with_output → ⊥
untimely w = not_met w.1.1.1.1.1.1.0

no_moment : IsRecorded too_late.tree (record late_conflict { asker = 8 }) → ⊥
no_moment (u, b, q) =
    let at : b ≡ 4 = block_is too_late.tree refl b (and_parts _ _ (and_parts _ _ q.block.0).0).0 in
    let P : ℕ → Type 0 = λ n. is_before too_late.tree n 6 ≡ true in
    let z = q.before_after_block 7 6 (omega arith) (omega arith) refl (subst P (sym at) refl) (omega arith) in
    absurd (let less = z.0 in omega arith)

pub refused_late : RefusedLate
refused_late = record {
  leads = record { steps = late_steps; run = run; there = refl; timely = timely };
  conflicts = refl;
  complete = none_undone late refl;
  entries = entries;
  tree = refl;
  conflicts_then = refl;
  history = history;
  is_run = run_with_output;
  untimely = untimely;
  conflicts_too_late = refl;
  no_moment = no_moment;
  none = λ asked w. no_moment (All-head (IsRecorded too_late.tree) (record late_conflict { asker = 8 }) [] (conflicts_recorded asked one_cell too_late w));
}
