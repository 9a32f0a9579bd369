-- Small runs with two strands. A fork is split, both strands step in blocks at the same time, and the fork is joined and merged; or
-- the fork is not stolen. Also claims about strands that are not ready, which are false.
use Rattle.std.specs.Prelude.{◌≡◌, ℕ, ◌&&◌, not, true, false, IsTrue, List, [], ◌∷◌, None}
use Rattle.cw_tree.specs.Newest.{newest}
use Rattle.cw_trace.specs.Columns.{before_split}
use Rattle.cw_trace.specs.Hands.{trace_at, gap_at, IsLater}
use Rattle.cw_trace.specs.OrderedRuns.{GoesOnAt}
use Rattle.cw_trace.specs.Running.{IsUnstarted}
use Rattle.cw_trace.specs.Stands.{fork_column}
use Rattle.cw_open.specs.Machine.{is_running}
use Rattle.cw_open.specs.Steps.{Step, forks, begins, cancels, commits, finishes, joins}
use Rattle.cw_open.specs.Runs.{Rules, at_any_time}
use Rattle.cw_hands.specs.Shared.{SharedMoment, has_columns, is_whole, is_owed, is_open_yet, moment_of, waits_for_left, waits_for_merge, goes_on, place_at, after_shared, after_split, after_merge, first_shared, RunsTogether}
use Rattle.cw_hands.specs.Laws.{OfEachMoment}

-- accesses are asked about the newest one, and may be refused at any time
abbrev pub any_rules : Rules
any_rules = at_any_time (λ t us w. newest us)

abbrev pub no_words : List ℕ
no_words = 0 ∷ 0 ∷ 0 ∷ 0 ∷ 0 ∷ []

abbrev pub alone : SharedMoment
alone = first_shared [] 5 no_words

-- the moment after these steps of the machine, one after another
abbrev pub after_these : SharedMoment → List Step → SharedMoment
after_these s [] = s
after_these s (e ∷ es) = after_these (after_shared s e) es

-- main forks
abbrev pub forked_once : SharedMoment
forked_once = after_shared alone (forks 0 1)

-- the right strand is stolen
abbrev pub stolen : SharedMoment
stolen = after_split forked_once 1

-- each strand begins a block
abbrev pub in_blocks : SharedMoment
in_blocks = after_these stolen (begins 2 2 ∷ begins 3 3 ∷ [])

-- the left strand gives up its block
abbrev pub given_up : SharedMoment
given_up = after_shared in_blocks (cancels 2 4)

-- both end their blocks and finish, and the fork is joined
abbrev pub joined_once : SharedMoment
joined_once = after_these in_blocks (commits 3 4 ∷ commits 2 5 ∷ finishes 2 false ∷ finishes 3 false ∷ joins 1 ∷ [])

-- the traces are merged
abbrev pub put_together : SharedMoment
put_together = after_merge joined_once 1

pub record TwoStrands : Type 0 where
  -- until the fork is split the right strand is unready
  pub forked : RunsTogether any_rules [] forked_once
  pub left_first : (goes_on forked_once 2 ≡ true) × (goes_on forked_once 3 ≡ false) × (is_running forked_once.machine 3 ≡ true)
  -- then both strands go on, in traces of their own and with words of their own
  pub blocks : RunsTogether any_rules [] in_blocks
  pub hands : (goes_on in_blocks 2 ≡ true) × (goes_on in_blocks 3 ≡ true) × (goes_on in_blocks 0 ≡ false)
  pub traces : (trace_at in_blocks.columns in_blocks.machine.tree (place_at in_blocks 2) ≡ 1) × (trace_at in_blocks.columns in_blocks.machine.tree (place_at in_blocks 3) ≡ 2)
  -- the right strand draws 3 for its begin before the left one begins at 2
  pub drawn : IsLater stolen.columns stolen.machine.tree 3 3
  pub still : IsLater (after_shared stolen (begins 2 2)).columns (after_shared stolen (begins 2 2)).machine.tree 3 3
  pub words : in_blocks.words ≡ 2 ∷ 0 ∷ 3 ∷ 0 ∷ 0 ∷ []
  -- if the left strand gives up its block, both go on in their blocks
  pub cancelled : RunsTogether any_rules [] given_up
  pub still_hands : (goes_on given_up 2 ≡ true) × (goes_on given_up 3 ≡ true)
  pub still_words : given_up.words ≡ in_blocks.words
  -- once the fork is joined main runs, but does not go on: the merge is owed, and the fork is still open
  pub joined : RunsTogether any_rules [] joined_once
  pub owed : (is_owed joined_once 1 ≡ true) × (is_open_yet joined_once 1 ≡ true)
  pub main_waits : (is_running joined_once.machine 0 ≡ true) × (goes_on joined_once 0 ≡ false)
  pub not_yet : GoesOnAt (moment_of joined_once) 0 → ⊥
  -- after the merge main goes on, and begins a block
  pub merged : RunsTogether any_rules [] put_together
  pub main_goes_on : goes_on put_together 0 ≡ true
  pub begun : RunsTogether any_rules [] (after_shared put_together (begins 0 6))
  pub main_word : (after_shared put_together (begins 0 6)).words ≡ 6 ∷ 0 ∷ 0 ∷ 0 ∷ 0 ∷ []

-- ## Forks that are not stolen

-- both strands finish, the right one after the left one, and the fork is joined
abbrev pub rejoined : SharedMoment → SharedMoment
rejoined s = after_these s (finishes 2 false ∷ finishes 3 false ∷ joins 1 ∷ [])

-- no columns are left for a fork
abbrev pub inline_once : SharedMoment
inline_once = after_shared (first_shared [] 1 no_words) (forks 0 1)

pub record NoneOwed : Type 0 where
  -- a fork with columns is joined for the tier too, and main goes on at once
  pub whole : RunsTogether any_rules [] (rejoined forked_once)
  pub whole_joins : (rejoined forked_once).joins ≡ 1 ∷ []
  pub whole_goes : goes_on (rejoined forked_once) 0 ≡ true
  -- an inline fork is joined, and main goes on at once, too
  pub inline : RunsTogether any_rules [] (rejoined inline_once)
  pub inline_columns : has_columns inline_once 1 ≡ false
  pub inline_waits : (goes_on inline_once 2 ≡ true) × (goes_on inline_once 3 ≡ false)
  pub inline_joins : (rejoined inline_once).joins ≡ []
  pub inline_goes : goes_on (rejoined inline_once) 0 ≡ true

-- ## What is false

-- a strand goes on as soon as the machine has joined its fork
abbrev pub JoinedGoOn : Type 0
JoinedGoOn = OfEachMoment (λ s. (x : ℕ) → IsTrue (is_running s.machine x && not (waits_for_left s x)) → GoesOnAt (moment_of s) (place_at s x))

-- the right strand of a fork goes on before the fork is split or the left strand finishes
abbrev pub UnreadyGoOn : Type 0
UnreadyGoOn = OfEachMoment (λ s. (x : ℕ) → IsTrue (is_running s.machine x && not (waits_for_merge s x)) → GoesOnAt (moment_of s) (place_at s x))

-- a split leaves each strand that goes on at its gap, even the right strand of the fork, once the left one has finished
abbrev pub SplitsLeaveGaps : Type 0
SplitsLeaveGaps =
    OfEachMoment (λ s. (f x : ℕ) → IsTrue (is_whole s f) → before_split s.columns (fork_column s.machine.tree f) ≡ None → IsUnstarted s.machine.tree s.joins (fork_column s.machine.tree f) → IsTrue (goes_on s x)
    → gap_at (after_split s f).columns s.machine.tree (place_at s x) ≡ gap_at s.columns s.machine.tree (place_at s x))

pub record NotReady : Type 0 where
  pub joined : JoinedGoOn → ⊥
  pub unready : UnreadyGoOn → ⊥
  pub stolen : SplitsLeaveGaps → ⊥
