-- Runs of the open machine and of the tier together, in which several strands step in turn.
-- A fork gets two columns while two are left, and is known by that of its left strand. A fork without columns is inline.
use Rattle.std.specs.Prelude.{◌≡◌, ℕ, ℤ, ◌+◌, ◌<◌, ◌≤◌, ◌==◌, ◌&&◌, Bool, false, not, nat_lt, nat_le, IsTrue, List, [], ◌∷◌, length, slice_index, None, if◌then◌else◌}
use Rattle.std.specs.List.{list_any, list_all}
use Rattle.cw_tree.specs.Nodes.{parent_of, stamp_of, is_fork, all_nodes}
use Rattle.cw_tree.specs.Names.{is_right}
use Rattle.cw_tree.specs.Walks.{has}
use Rattle.cw_tree.specs.Series.{strand_of, children, place}
use Rattle.cw_trace.specs.Columns.{ColumnTable, used, first_tier, forked, split_at, merged, before_split, begun_word, closed_word}
use Rattle.cw_trace.specs.Stands.{column, fork_column}
use Rattle.cw_trace.specs.Running.{IsUnstarted}
use Rattle.cw_trace.specs.Hands.{gap_at, IsLater}
use Rattle.cw_trace.specs.OrderedRuns.{Moment}
use Rattle.cw_open.specs.Machine.{OpenMachine, has_finished, is_running}
use Rattle.cw_open.specs.Steps.{Step, after_open_step, first_machine}
use Rattle.cw_open.specs.Steps as step
use Rattle.cw_open.specs.Open.{is_open}
use Rattle.cw_open.specs.Runs.{Rules, Allowed}
use Rattle.cw_open.specs.LeftFirst.{makers}
use Rattle.cw_open.specs.Hands.{is_step_of}

-- a moment of such a run: the machine, the columns, the gap words, the forks that were split, and those that are joined for the
-- tier (merged, or joined unsplit)
pub record SharedMoment : Type 0 where
  pub machine : OpenMachine
  pub columns : ColumnTable
  pub words : List ℕ
  pub cuts : List ℕ
  pub joins : List ℕ

-- ## Forks

-- fork f has columns
abbrev pub has_columns : SharedMoment → ℕ → Bool
has_columns s f = is_fork s.machine.tree f && nat_lt (fork_column s.machine.tree f + 1) (used s.columns)

-- fork f has columns, and was split; below, it was not split
abbrev pub is_split : SharedMoment → ℕ → Bool
is_split s f = has_columns s f && has s.cuts (fork_column s.machine.tree f)

abbrev pub is_whole : SharedMoment → ℕ → Bool
is_whole s f = has_columns s f && not (has s.cuts (fork_column s.machine.tree f))

-- the machine has joined fork f, and the merge of its traces is owed
abbrev pub is_owed : SharedMoment → ℕ → Bool
is_owed s f = has_columns s f && has s.machine.joined f && not (has s.joins (fork_column s.machine.tree f))

-- a node is open as in the machine, except that a fork with columns is open until it is merged, or joined unsplit
abbrev pub is_open_yet : SharedMoment → ℕ → Bool
is_open_yet s n = if has_columns s n then not (has s.joins (fork_column s.machine.tree n)) else is_open s.machine n

-- what the tier sees of the moment
abbrev pub moment_of : SharedMoment → Moment
moment_of s = record { columns = s.columns; words = s.words; tree = s.machine.tree; cuts = s.cuts; joins = s.joins; is_open = is_open_yet s }

-- ## Who may go on

-- strand x is unready: it is the right strand of an unsplit fork whose left strand has not finished
abbrev pub waits_for_left : SharedMoment → ℕ → Bool
waits_for_left s x =
    not (is_split s (parent_of s.machine.tree x)) && list_any (λ l. nat_lt l x && not (has_finished s.machine l)) (children s.machine.tree (parent_of s.machine.tree x))

-- strand x is owed a merge of a fork that it made
abbrev pub waits_for_merge : SharedMoment → ℕ → Bool
waits_for_merge s x = list_any (λ f. is_owed s f && (strand_of s.machine.tree f == x)) (all_nodes s.machine.tree)

abbrev pub is_ready : SharedMoment → ℕ → Bool
is_ready s x = not (waits_for_left s x) && not (waits_for_merge s x)

abbrev pub goes_on : SharedMoment → ℕ → Bool
goes_on s x = is_running s.machine x && is_ready s x

-- ## Steps

abbrev pub place_at : SharedMoment → ℕ → ℕ
place_at s x = place s.machine.tree x

-- two columns are left
abbrev pub has_room : SharedMoment → Bool
has_room s = nat_le (used s.columns + 2) s.columns.room

-- a fork takes two columns, if two are left
abbrev pub columns_after : SharedMoment → Step → ColumnTable
columns_after s (step.forks x stamp) =
    if has_room s then forked (slice_index s.words (gap_at s.columns s.machine.tree (place_at s x))) (column s.machine.tree (used s.columns) (place_at s x)) s.columns else s.columns
columns_after s _ = s.columns

-- a begin sets the word of its gap if that is 0, and the end of that block clears it
abbrev pub words_after : SharedMoment → Step → List ℕ
words_after s (step.begins x stamp) = begun_word s.words (gap_at s.columns s.machine.tree (place_at s x)) stamp
words_after s (step.commits x stamp) = closed_word s.words (gap_at s.columns s.machine.tree (place_at s x)) (stamp_of s.machine.tree (place_at s x))
words_after s (step.aborts x stamp) = closed_word s.words (gap_at s.columns s.machine.tree (place_at s x)) (stamp_of s.machine.tree (place_at s x))
words_after s _ = s.words

-- an unsplit fork with columns is joined for the tier too; a split one is owed the merge
abbrev pub joins_after : SharedMoment → Step → List ℕ
joins_after s (step.joins f) = if is_whole s f then fork_column s.machine.tree f ∷ s.joins else s.joins
joins_after s _ = s.joins

abbrev pub after_shared : SharedMoment → Step → SharedMoment
after_shared s e = record { machine = after_open_step s.machine e; columns = columns_after s e; words = words_after s e; cuts = s.cuts; joins = joins_after s e }

-- a block begins with a number that no stamp of its trace exceeds
abbrev pub IsLaterStep : SharedMoment → Step → Type 0
IsLaterStep s (step.begins x stamp) = IsLater s.columns s.machine.tree (place_at s x) stamp
IsLaterStep s _ = Unit {0}

-- the moments after the trace of fork f is cut there, and after it is put together again
abbrev pub after_split : SharedMoment → ℕ → SharedMoment
after_split s f = record s { columns = split_at (fork_column s.machine.tree f) s.columns; cuts = fork_column s.machine.tree f ∷ s.cuts }

abbrev pub after_merge : SharedMoment → ℕ → SharedMoment
after_merge s f = record s { columns = merged (fork_column s.machine.tree f) s.columns; joins = fork_column s.machine.tree f ∷ s.joins }

-- a step of the machine, by a ready strand or by none; a split; a merge
pub data SharedStep (r : Rules) (s : SharedMoment) : SharedMoment → Type 0 where
  makes : (e : Step) → Allowed r s.machine e → IsTrue (list_all (is_ready s) (makers e)) → IsLaterStep s e → SharedStep r s (after_shared s e)
  -- the right strand of the fork has not started, and no fork outward of it has to be split first
  splits : (f : ℕ) → IsTrue (is_whole s f) → before_split s.columns (fork_column s.machine.tree f) ≡ None → IsUnstarted s.machine.tree s.joins (fork_column s.machine.tree f) → SharedStep r s (after_split s f)
  -- the fork was split, and the merge of its traces is owed
  merges : (f : ℕ) → IsTrue (is_split s f && is_owed s f) → SharedStep r s (after_merge s f)

-- the step is made by strand x, or is the split by which x, a right strand, is stolen
abbrev pub is_about : (r : Rules) (s u : SharedMoment) → SharedStep r s u → ℕ → Bool
is_about r s _ (makes e allowed ready later) x = is_step_of x e
is_about r s _ (splits f whole early unstarted) x = is_right s.machine.tree x && (parent_of s.machine.tree x == f)
is_about r s _ (merges f owed) x = false

-- ## Runs

abbrev pub first_shared : List ℤ → (room : ℕ) → (words : List ℕ) → SharedMoment
first_shared first room words = record { machine = first_machine first; columns = first_tier room; words = words; cuts = []; joins = [] }

-- the moments that such steps can reach from the root strand alone, over these first values
pub data RunsTogether (r : Rules) (first : List ℤ) : SharedMoment → Type 0 where
  start : (room : ℕ) (words : List ℕ) → 0 < room → room ≤ length words → ((g : ℕ) → slice_index words g ≡ 0) → RunsTogether r first (first_shared first room words)
  more : (s u : SharedMoment) → RunsTogether r first s → SharedStep r s u → RunsTogether r first u
