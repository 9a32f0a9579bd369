-- What is true of a core between events.
use Rattle.std.specs.Prelude.{◌≡◌, ◌≢◌, ◌⊎◌, ℕ, ℤ, ◌<◌, Bool, true, false, not, IsTrue, List, [], ◌∷◌, length, map, filter, if◌then◌else◌}
use Rattle.cw_tree.specs.declared.node.Node.{Node}
use Rattle.cw_tree.specs.declared.conflict.Conflict.{Conflict}
use Rattle.cw_tree.specs.Nodes.{parent_of, stamp_of, is_fork}
use Rattle.cw_tree.specs.Walks.{has, is_ancestor}
use Rattle.cw_tree.specs.Series.{place}
use Rattle.cw_tree.specs.Accesses.{live_accesses, IsChainOf}
use Rattle.cw_trace.specs.Columns.{ColumnTable, used}
use Rattle.cw_trace.specs.Stands.{GoesOn}
use Rattle.cw_trace.specs.Keeps.{Keeps}
use Rattle.cw_trace.specs.Running.{IsUnsplit}
use Rattle.cw_trace.specs.Outward.{IsBarring}
use Rattle.cw_open.specs.Machine.{OpenMachine, live, is_running}
use Rattle.cw_open.specs.Steps.{after_all, first_machine}
use Rattle.cw_open.specs.Open.{is_open}
use Rattle.cw_open.specs.Runs.{IsRun, IsReachedBy, at_once}
use Rattle.cw_open.specs.Laws.{NoneUndone}
use Rattle.cw_core.specs.declared.event.Event.{Event}
use Rattle.cw_core.specs.declared.event.Event.TheVariants as event
use Rattle.cw_core.specs.declared.event.Reply.{Reply}
use Rattle.cw_core.specs.declared.event.Reply.TheVariants as reply
use Rattle.cw_core.specs.State.{CoreState, start, joined_columns, waits_for_left, column_of}
use Rattle.cw_core.specs.Events.{fits, after_event, steps_of, reply_to, all_fit, after_events, steps_of_all}

-- if a fork is not split, nothing is done in its right strand before the left one finished
abbrev pub IsLeftFirst : ColumnTable → List Node → List ℕ → (ℕ → Bool) → Type 0
IsLeftFirst c t splits open_at =
    (l r n : ℕ) → 0 < l → l < r → r < length t → parent_of t l ≡ parent_of t r → IsTrue (is_fork t (parent_of t r)) → IsUnsplit c t splits (parent_of t r) → n < length t → IsTrue (is_ancestor t r n) → n ≢ r → open_at l ≡ false

-- the core represents the open machine over these first values
pub record IsCore (first : List ℤ) (k : CoreState) : Type 0 where
  -- the machine is in a state that a run reaches, with no undo under way
  pub reached : IsReachedBy at_once first k.machine
  pub complete : NoneUndone k.machine
  pub joined : (f : ℕ) → IsTrue (has k.machine.joined f) → IsTrue (is_fork k.machine.tree f)
  pub left_first : IsLeftFirst k.tier k.machine.tree k.splits (is_open k.machine)
  -- the tier represents the machine's tree
  pub stands : Keeps k.tier k.words k.machine.tree k.splits (joined_columns k)

-- ## Events

-- the core does so before the first event, if there is room for at least one strand
abbrev pub StartsAreCores : Type 0
StartsAreCores = (first : List ℤ) (room budget : ℕ) → 0 < room → IsCore first (start first room budget)

-- an event that fits makes a run of exactly the steps that it stands for, and the core represents the state that this leads to
abbrev pub EventsAreRuns : Type 0
EventsAreRuns = (first : List ℤ) (k : CoreState) (e : Event) → IsCore first k → IsTrue (fits k e) → IsRun at_once k.machine (steps_of k e) × IsCore first (after_event k e)

-- so a list of events that fit is a run of their steps, and leads to the state that these lead to
abbrev pub ListsAreRuns : Type 0
ListsAreRuns =
    (first : List ℤ) (room budget : ℕ) (es : List Event) → 0 < room → IsTrue (all_fit (start first room budget) es)
    → IsRun at_once (first_machine first) (steps_of_all (start first room budget) es)
    × ((after_events (start first room budget) es).machine ≡ after_all (first_machine first) (steps_of_all (start first room budget) es))
    × IsCore first (after_events (start first room budget) es)

-- ## What follows

-- the list of each cell has exactly its live accesses, which are a chain
abbrev pub HasChains : CoreState → Type 0
HasChains k = (c : ℕ) → (live k.machine c ≡ map (stamp_of k.machine.tree) (live_accesses k.machine.tree c)) × IsChainOf k.machine.tree c (live k.machine c)

-- each core has such lists
abbrev pub CellsAreChains : Type 0
CellsAreChains = (first : List ℤ) (k : CoreState) → IsCore first k → HasChains k

-- a strand that may step goes on beneath each pending block begun in its trace, as the query requires
abbrev pub StrandsGoOn : Type 0
StrandsGoOn =
    (first : List ℤ) (k : CoreState) (s : ℕ) → IsCore first k → IsTrue (is_running k.machine s) → waits_for_left k s ≡ false
    → GoesOn k.tier k.machine.tree (column_of k s) (place k.machine.tree s)

-- ## Splits

-- fork m is outward of fork f in its trace, and was neither split nor joined
abbrev pub Bars : CoreState → (f m : ℕ) → Type 0
Bars k f m = IsBarring k.tier k.machine.tree k.splits (joined_columns k) f m

-- fork m bars fork f, and each other fork that bars it lies further out
pub record IsNextOut (k : CoreState) (f m : ℕ) : Type 0 where
  pub bars : Bars k f m
  pub next : (n : ℕ) → Bars k f n → IsTrue (is_ancestor k.machine.tree n m)

-- a split is done if no fork bars it; otherwise it is early, and the reply names the next fork outward
abbrev pub SplitsAreAnswered : Type 0
SplitsAreAnswered =
    (first : List ℤ) (k : CoreState) (f : ℕ) → IsCore first k → IsTrue (fits k (event.Split f))
    → ((reply_to k (event.Split f) ≡ reply.Done) × ((m : ℕ) → Bars k f m → ⊥)) ⊎ ((m : ℕ) × (reply_to k (event.Split f) ≡ reply.Early m) × IsNextOut k f m)

-- ## What splits change

-- the conflict without the block that it names
abbrev pub blockless : Conflict → Conflict
blockless c = record c { block = 0 }

abbrev pub without_block : Reply → Reply
without_block (reply.Conflict c) = reply.Conflict (blockless c)
without_block r = r

abbrev pub without_blocks : OpenMachine → OpenMachine
without_blocks m = record m { conflicts = map blockless m.conflicts }

abbrev pub is_split_event : Event → Bool
is_split_event (event.Split f) = true
is_split_event _ = false

-- the cores are the same, except for what splits change
pub record AreAlike (k j : CoreState) : Type 0 where
  pub machine : without_blocks k.machine ≡ without_blocks j.machine
  pub columns : used k.tier ≡ used j.tier
  pub room : k.tier.room ≡ j.tier.room
  pub budget : k.budget ≡ j.budget
  pub halt : k.halt ≡ j.halt

-- a split changes neither the open machine nor the number of columns in use
abbrev pub SplitsChangeNothing : Type 0
SplitsChangeNothing = (k : CoreState) (f : ℕ) → ((after_event k (event.Split f)).machine ≡ k.machine) × AreAlike (after_event k (event.Split f)) k

-- two such cores give the same reply to each event other than a split, except for the block of a conflict
abbrev pub AlikeAnswer : Type 0
AlikeAnswer = (k j : CoreState) (e : Event) → AreAlike k j → is_split_event e ≡ false → without_block (reply_to k e) ≡ without_block (reply_to j e)

-- and they stay alike if any event is made in both
abbrev pub AlikeStay : Type 0
AlikeStay = (k j : CoreState) (e : Event) → AreAlike k j → AreAlike (after_event k e) (after_event j e)

abbrev pub without_splits : List Event → List Event
without_splits es = filter (λ e. not (is_split_event e)) es

-- the replies to all events of a list other than splits, without the blocks that conflicts name
abbrev pub other_answers : CoreState → List Event → List Reply
other_answers k [] = []
other_answers k (e ∷ es) = if is_split_event e then other_answers (after_event k e) es else without_block (reply_to k e) ∷ other_answers (after_event k e) es

-- so two lists of events that differ only in their splits have the same other replies, and lead to cores that are alike
abbrev pub SplitsChangeNoAnswer : Type 0
SplitsChangeNoAnswer =
    (k : CoreState) (es fs : List Event) → without_splits es ≡ without_splits fs → (other_answers k es ≡ other_answers k fs) × AreAlike (after_events k es) (after_events k fs)
