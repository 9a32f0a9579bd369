-- What steps leave of columns, gaps and gap words: of each node, of the places of strands that wait, and of a strand that is owed a
-- merge. The laws are over the steps of runs in which an access may be refused at any time, until main has finished.
use Rattle.std.specs.Prelude.{◌≡◌, ℕ, ℤ, ◌<◌, ◌==◌, ◌&&◌, Bool, false, IsTrue, List, length, slice_index, Option}
use Rattle.cw_tree.specs.declared.node.Node.{Node}
use Rattle.cw_tree.specs.Nodes.{parent_of, stamp_of, is_pending}
use Rattle.cw_tree.specs.Names.{is_right}
use Rattle.cw_tree.specs.Walks.{is_ancestor}
use Rattle.cw_tree.specs.Series.{strand_of}
use Rattle.cw_trace.specs.Columns.{used}
use Rattle.cw_trace.specs.Stands.{column}
use Rattle.cw_trace.specs.Hands.{gap_at}
use Rattle.cw_open.specs.Machine.{has_finished, is_running}
use Rattle.cw_open.specs.Open.{is_open}
use Rattle.cw_open.specs.Runs.{Rules, at_any_time}
use Rattle.cw_open.specs.Times.{times_after, IsTimely}
use Rattle.cw_open.specs.Hands.{RunsTo}
use Rattle.cw_hands.specs.Shared.{SharedMoment, is_split, is_owed, place_at, SharedStep, makes, splits, merges, is_about, RunsTogether}

-- ## Machine, tier and times together

-- the times after a step
abbrev pub times_then : (r : Rules) → (ℕ → ℕ) → (s u : SharedMoment) → SharedStep r s u → ℕ → ℕ
times_then r times s _ (makes e allowed ready later) = times_after times s.machine e
times_then r times s _ (splits f whole early unstarted) = times
times_then r times s _ (merges f owed) = times

-- a step of the machine is in time
abbrev pub IsTimelyStep : (r : Rules) → (ℕ → ℕ) → (s u : SharedMoment) → SharedStep r s u → Type 0
IsTimelyStep r times s _ (makes e allowed ready later) = IsTimely times s.machine e
IsTimelyStep r times s _ (splits f whole early unstarted) = Unit {0}
IsTimelyStep r times s _ (merges f owed) = Unit {0}

-- a run of both, with the times of its nodes, goes on by a step that is in time
abbrev pub TogetherGoOn : Rules → Type 0
TogetherGoOn r =
    (first : List ℤ) (s u : SharedMoment) (times : ℕ → ℕ) (e : SharedStep r s u) → RunsTogether r first s → RunsTo r first s.machine times → IsTimelyStep r times s u e
    → RunsTogether r first u × RunsTo r first u.machine (times_then r times s u e)

-- ## Nodes

-- P holds of each step
abbrev pub OfEachSharedStep : ((asked : List Node → List ℕ → Option ℤ → List ℕ) → (s u : SharedMoment) → SharedStep (at_any_time asked) s u → Type 0) → Type 0
OfEachSharedStep P =
    (asked : List Node → List ℕ → Option ℤ → List ℕ) (first : List ℤ) (s u : SharedMoment) (e : SharedStep (at_any_time asked) s u) → RunsTogether (at_any_time asked) first s
    → has_finished u.machine 0 ≡ false → P asked s u e

-- each step leaves the column of each node
abbrev pub ColumnsStay : Type 0
ColumnsStay = OfEachSharedStep (λ asked s u e. (n : ℕ) → n < length s.machine.tree → column u.machine.tree (used u.columns) n ≡ column s.machine.tree (used s.columns) n)

-- the step is the split of the fork whose right strand is node n
abbrev pub is_stolen_by : (r : Rules) → (s u : SharedMoment) → SharedStep r s u → ℕ → Bool
is_stolen_by r s _ (makes e allowed ready later) n = false
is_stolen_by r s _ (splits f whole early unstarted) n = is_right s.machine.tree n && (parent_of s.machine.tree n == f)
is_stolen_by r s _ (merges f owed) n = false

-- each step leaves the gap of each node, except that a split gives the right strand of its fork another one
abbrev pub GapsStay : Type 0
GapsStay =
    OfEachSharedStep (λ asked s u e. (n : ℕ) → n < length s.machine.tree → is_stolen_by (at_any_time asked) s u e n ≡ false
    → gap_at u.columns u.machine.tree n ≡ gap_at s.columns s.machine.tree n)

-- a word that shows a block stays while the block is pending
abbrev pub ShownWordsStay : Type 0
ShownWordsStay =
    OfEachSharedStep (λ asked s u e. (g b : ℕ) → IsTrue (is_pending s.machine.tree b) → IsTrue (is_pending u.machine.tree b) → slice_index s.words g ≡ stamp_of s.machine.tree b
    → slice_index u.words g ≡ slice_index s.words g)

-- ## Places of strands that wait

-- place q has its column and its gap at moment u as at moment s, and where the word of the gap showed a block around it, that word
pub record IsLeftWaiting (s u : SharedMoment) (q : ℕ) : Type 0 where
  pub column : column u.machine.tree (used u.columns) q ≡ column s.machine.tree (used s.columns) q
  pub gap : gap_at u.columns u.machine.tree q ≡ gap_at s.columns s.machine.tree q
  pub word : (b : ℕ) → IsTrue (is_pending s.machine.tree b && is_ancestor s.machine.tree b q) → slice_index s.words (gap_at s.columns s.machine.tree q) ≡ stamp_of s.machine.tree b
      → slice_index u.words (gap_at u.columns u.machine.tree q) ≡ slice_index s.words (gap_at s.columns s.machine.tree q)

-- each open node stays so at a step that is not about its own strand: places of strands that run and of those that wait, and all above
abbrev pub OpenPlacesStay : Type 0
OpenPlacesStay = OfEachSharedStep (λ asked s u e. (q : ℕ) → IsTrue (is_open s.machine q) → is_about (at_any_time asked) s u e (strand_of s.machine.tree q) ≡ false → IsLeftWaiting s u q)

-- a step that is not about a running strand leaves so its place and each node above that: these are the places of the strands that wait for it
abbrev pub WaitingStay : Type 0
WaitingStay =
    OfEachSharedStep (λ asked s u e. (x q : ℕ) → IsTrue (is_running s.machine x) → is_about (at_any_time asked) s u e x ≡ false → IsTrue (is_ancestor s.machine.tree q (place_at s x)) → IsLeftWaiting s u q)

-- ## A strand that is owed a merge

-- strand x runs at its place, in the same column, at the same gap with the same word
pub record IsLeftThere (s u : SharedMoment) (x : ℕ) : Type 0 where
  pub running : IsTrue (is_running u.machine x)
  pub place : place_at u x ≡ place_at s x
  pub column : column u.machine.tree (used u.columns) (place_at u x) ≡ column s.machine.tree (used s.columns) (place_at s x)
  pub gap : gap_at u.columns u.machine.tree (place_at u x) ≡ gap_at s.columns s.machine.tree (place_at s x)
  pub word : slice_index u.words (gap_at u.columns u.machine.tree (place_at u x)) ≡ slice_index s.words (gap_at s.columns s.machine.tree (place_at s x))

-- a step that is not about a running strand that is owed a merge leaves it so
abbrev pub OwedStay : Type 0
OwedStay =
    OfEachSharedStep (λ asked s u e. (f : ℕ) → IsTrue (is_split s f && is_owed s f) → IsTrue (is_running s.machine (strand_of s.machine.tree f)) → is_about (at_any_time asked) s u e (strand_of s.machine.tree f) ≡ false
    → IsLeftThere s u (strand_of s.machine.tree f))
