-- What is true of runs of the open machine and of the tier together. The laws are over runs in which an access may be refused at
-- any time, whatever is asked about it.
use Rattle.std.specs.Prelude.{◌≡◌, ◌≢◌, ◌⊎◌, ℕ, ℤ, ◌<◌, ◌&&◌, true, false, IsTrue, List, length, slice_index, Option}
use Rattle.cw_tree.specs.declared.node.Node.{Node}
use Rattle.cw_tree.specs.Nodes.{parent_of, is_fork}
use Rattle.cw_tree.specs.Walks.{has, is_ancestor}
use Rattle.cw_tree.specs.Series.{strand_of, has_later}
use Rattle.cw_tree.specs.Shape.{IsTree}
use Rattle.cw_trace.specs.Columns.{used}
use Rattle.cw_trace.specs.Stands.{column, fork_column}
use Rattle.cw_trace.specs.Running.{IsUnsplit, IsOrdered}
use Rattle.cw_trace.specs.Hands.{StandsInOrder, trace_at, gap_at, IsLater}
use Rattle.cw_trace.specs.OrderedRuns.{GoesOnAt, RunsInOrder}
use Rattle.cw_open.specs.Machine.{has_finished, is_running}
use Rattle.cw_open.specs.Open.{is_open, AreNested}
use Rattle.cw_open.specs.Runs.{Rules, IsReachedBy, at_any_time}
use Rattle.cw_hands.specs.Shared.{SharedMoment, has_columns, is_split, is_owed, is_open_yet, moment_of, is_ready, goes_on, place_at, after_merge, SharedStep, is_about, RunsTogether}

-- a run by these rules is a run in which accesses may be refused at any time
abbrev pub TogetherAtAnyTime : Rules → Type 0
TogetherAtAnyTime r = (first : List ℤ) (s : SharedMoment) → RunsTogether r first s → RunsTogether (at_any_time r.asked) first s

-- ## One run, seen from both sides

-- the machine's part of it is a run of the machine
abbrev pub MachinesRun : Type 0
MachinesRun = (asked : List Node → List ℕ → Option ℤ → List ℕ) (first : List ℤ) (s : SharedMoment) → RunsTogether (at_any_time asked) first s → IsReachedBy (at_any_time asked) first s.machine

-- P holds at each moment of such a run until main has finished
abbrev pub OfEachMoment : (SharedMoment → Type 0) → Type 0
OfEachMoment P = (asked : List Node → List ℕ → Option ℤ → List ℕ) (first : List ℤ) (s : SharedMoment) → RunsTogether (at_any_time asked) first s → has_finished s.machine 0 ≡ false → P s

-- the tier's part is a run of tier and tree
abbrev pub TiersRun : Type 0
TiersRun = OfEachMoment (λ s. RunsInOrder (moment_of s))

-- so the tier represents the machine's tree, whose open nodes are ordered
abbrev pub TiersStand : Type 0
TiersStand = OfEachMoment (λ s. StandsInOrder s.columns s.words s.machine.tree s.cuts s.joins (is_open_yet s))

-- ## Order

-- what the order of open nodes needs besides what the machine says
pub record OrderYet (s : SharedMoment) : Type 0 where
  -- a fork that was merged, or joined unsplit, was joined in the machine
  pub joined : (f : ℕ) → has_columns s f ≡ true → has s.joins (fork_column s.machine.tree f) ≡ true → has s.machine.joined f ≡ true
  -- a fork whose merge is owed is the last in its place, which is open
  pub owed : (f : ℕ) → is_owed s f ≡ true → (is_open s.machine (parent_of s.machine.tree f) ≡ true) × (has_later s.machine.tree f ≡ false)
  -- if a fork is not split, its left strand finished before anything was done in its right one
  pub left_first : (l r n : ℕ) → 0 < l → l < r → r < length s.machine.tree → parent_of s.machine.tree l ≡ parent_of s.machine.tree r → is_fork s.machine.tree (parent_of s.machine.tree r) ≡ true
      → IsUnsplit s.columns s.machine.tree s.cuts (parent_of s.machine.tree r) → n < length s.machine.tree → is_ancestor s.machine.tree r n ≡ true → n ≢ r → is_open s.machine l ≡ false

-- with these facts, nested open nodes are ordered
abbrev pub OrderFollows : Type 0
OrderFollows =
    (s : SharedMoment) → IsTree s.machine.tree → AreNested s.machine.tree (is_open s.machine) → has_finished s.machine 0 ≡ false → OrderYet s → IsOrdered s.columns s.machine.tree s.cuts s.joins (is_open_yet s)

-- and the facts hold at each moment
abbrev pub OrderIsKept : Type 0
OrderIsKept = OfEachMoment OrderYet

-- ## Who may go on

-- a strand that runs, and is neither unready nor owed a merge, may go on at its place
abbrev pub ReadyGoOn : Type 0
ReadyGoOn = OfEachMoment (λ s. (x : ℕ) → IsTrue (goes_on s x) → GoesOnAt (moment_of s) (place_at s x))

-- no other running strand may go on
abbrev pub OnlyReadyGoOn : Type 0
OnlyReadyGoOn = OfEachMoment (λ s. (x : ℕ) → IsTrue (is_running s.machine x) → GoesOnAt (moment_of s) (place_at s x) → IsTrue (goes_on s x))

-- so two strands that go on are in different traces, and use different gaps
abbrev pub ReadyDiffer : Type 0
ReadyDiffer =
    OfEachMoment (λ s. (x y : ℕ) → IsTrue (goes_on s x) → IsTrue (goes_on s y) → x ≢ y
    → (trace_at s.columns s.machine.tree (place_at s x) ≡ trace_at s.columns s.machine.tree (place_at s y) → ⊥) × (gap_at s.columns s.machine.tree (place_at s x) ≡ gap_at s.columns s.machine.tree (place_at s y) → ⊥))

-- a ready strand stays ready at each step, unless the step joins a fork that it made, whose merge is then owed
abbrev pub ReadyStay : Type 0
ReadyStay =
    (asked : List Node → List ℕ → Option ℤ → List ℕ) (first : List ℤ) (s u : SharedMoment) (e : SharedStep (at_any_time asked) s u) (x : ℕ)
    → RunsTogether (at_any_time asked) first s → has_finished s.machine 0 ≡ false → x < length s.machine.tree → IsTrue (is_ready s x)
    → IsTrue (is_ready u x) ⊎ ((f : ℕ) × IsTrue (is_owed u f) × (strand_of u.machine.tree f ≡ x) × (has s.machine.joined f ≡ false))

-- once its fork is merged, the strand that forked goes on if it runs
abbrev pub MergedGoOn : Type 0
MergedGoOn = OfEachMoment (λ s. (f : ℕ) → IsTrue (is_split s f && is_owed s f) → IsTrue (is_running s.machine (strand_of s.machine.tree f)) → IsTrue (goes_on (after_merge s f) (strand_of s.machine.tree f)))

-- ## What the steps of other strands leave

-- Strand x goes on at moment u where it did at moment s, in the same column, at the same gap with the same word. If no stamp of its
-- trace was above a number, that is still so.
pub record IsLeftReady (s u : SharedMoment) (x : ℕ) : Type 0 where
  pub ready : IsTrue (goes_on u x)
  pub place : place_at u x ≡ place_at s x
  pub column : column u.machine.tree (used u.columns) (place_at u x) ≡ column s.machine.tree (used s.columns) (place_at s x)
  pub gap : gap_at u.columns u.machine.tree (place_at u x) ≡ gap_at s.columns s.machine.tree (place_at s x)
  pub word : slice_index u.words (gap_at u.columns u.machine.tree (place_at u x)) ≡ slice_index s.words (gap_at s.columns s.machine.tree (place_at s x))
  pub later : (number : ℕ) → IsLater s.columns s.machine.tree (place_at s x) number → IsLater u.columns u.machine.tree (place_at u x) number

-- a step that is not about a strand that goes on leaves it so
abbrev pub OthersLeaveReady : Type 0
OthersLeaveReady =
    (asked : List Node → List ℕ → Option ℤ → List ℕ) (first : List ℤ) (s u : SharedMoment) (e : SharedStep (at_any_time asked) s u) (x : ℕ)
    → RunsTogether (at_any_time asked) first s → has_finished u.machine 0 ≡ false → IsTrue (goes_on s x) → is_about (at_any_time asked) s u e x ≡ false → IsLeftReady s u x
