-- What a fork with columns gives its two strands: two new columns, a gap, and a word that shows no block.
use Rattle.std.specs.Prelude.{◌≡◌, ℕ, ℤ, ◌+◌, ◌==◌, true, false, IsTrue, List, length, slice_index, Option, if◌then◌else◌}
use Rattle.cw_tree.specs.declared.node.Node.{Node}
use Rattle.cw_trace.specs.Columns.{ColumnTable, used}
use Rattle.cw_trace.specs.Stands.{column, fork_column}
use Rattle.cw_trace.specs.Hands.{gap_at}
use Rattle.cw_open.specs.Machine.{has_finished}
use Rattle.cw_open.specs.Steps.{forks}
use Rattle.cw_open.specs.Runs.{Allowed, at_any_time}
use Rattle.cw_hands.specs.Shared.{is_ready, place_at, has_room, after_shared, SharedMoment, RunsTogether}

-- the gap of the strands of a fork that is made at place p: that of the place if its word shows no block, otherwise a new one
abbrev pub new_gap : ColumnTable → List ℕ → List Node → ℕ → ℕ
new_gap c words t p = if slice_index words (gap_at c t p) == 0 then gap_at c t p else used c

-- columns c became d, and tree t became u, as a strand forked at place p; the fork and its strands are the nodes that came
pub record HasNewColumns (c d : ColumnTable) (words : List ℕ) (t u : List Node) (p : ℕ) : Type 0 where
  pub many : used d ≡ used c + 2
  pub fork : fork_column u (length t) ≡ used c
  pub left : column u (used d) (length t + 1) ≡ used c
  pub right : column u (used d) (length t + 2) ≡ used c + 1
  pub left_gap : gap_at d u (length t + 1) ≡ new_gap c words t p
  pub right_gap : gap_at d u (length t + 2) ≡ new_gap c words t p
  pub word : slice_index words (new_gap c words t p) ≡ 0

-- so they do if a ready strand forks while two columns are left
abbrev pub ForksGiveColumns : Type 0
ForksGiveColumns =
    (asked : List Node → List ℕ → Option ℤ → List ℕ) (first : List ℤ) (s : SharedMoment) (x stamp : ℕ) → RunsTogether (at_any_time asked) first s → has_finished s.machine 0 ≡ false
    → Allowed (at_any_time asked) s.machine (forks x stamp) → IsTrue (is_ready s x) → has_room s ≡ true
    → HasNewColumns s.columns (after_shared s (forks x stamp)).columns s.words s.machine.tree (after_shared s (forks x stamp)).machine.tree (place_at s x)
