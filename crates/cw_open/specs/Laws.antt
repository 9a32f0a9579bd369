-- What is true of every state that a run leads to. The laws are over runs in which an access may be refused at any
-- time, whatever is said of it. Every run of a machine that asks more of a refusal is such a run.
use Rattle.std.specs.Prelude.{◌≡◌, ℕ, ℤ, ◌<◌, ◌≤◌, ◌⊎◌, ◌&&◌, false, IsTrue, All, List, length, map, Option}
use Rattle.std.specs.List.Sorted.{IsStrictlyIncreasing}
use Rattle.cw_tree.specs.declared.node.Node.{Node}
use Rattle.cw_tree.specs.Nodes.{parent_of, stamp_of, end_of, is_block, is_pending, touches}
use Rattle.cw_tree.specs.Walks.{has, is_above}
use Rattle.cw_tree.specs.Series.{place}
use Rattle.cw_tree.specs.Accesses.{is_live, live_accesses, IsChainOf}
use Rattle.cw_tree.specs.Cancels.{NamesCells}
use Rattle.cw_tree.specs.Journals.{FitsCells, AllEndedBetween}
use Rattle.cw_tree.specs.Cancels.{AreCancels}
use Rattle.cw_tree.specs.AccessStacks.{access_at}
use Rattle.cw_tree.specs.Refusals.{is_victim}
use Rattle.cw_tree.specs.Newest.{newest}
use Rattle.cw_tree.specs.NextNodes.{IsSound, IsPlace}
use Rattle.cw_open.specs.Machine.{OpenMachine, live, is_running, in_block, is_dying, is_free, rolls_back}
use Rattle.cw_open.specs.Steps.{Met, refuses}
use Rattle.cw_open.specs.Runs.{IsMet, Allowed, IsReachedBy, meets, at_once, at_any_time}
use Rattle.cw_open.specs.Open.{is_open, AreNested}

-- what holds of every state to which a run over these first values leads, whichever accesses one may conflict with
abbrev pub OfEachState : (List ℤ → OpenMachine → Type 0) → Type 0
OfEachState P = (asked : List Node → List ℕ → Option ℤ → List ℕ) (first : List ℤ) (m : OpenMachine) → IsReachedBy (at_any_time asked) first m → P first m

-- the same if an access may conflict only with the newest one
abbrev pub OfEachWithNewest : (List ℤ → OpenMachine → Type 0) → Type 0
OfEachWithNewest P = (first : List ℤ) (m : OpenMachine) → IsReachedBy (at_any_time (λ t us w. newest us)) first m → P first m

-- ## The tree

-- the tree is a computation tree, its stamps differ and rise along it, and nothing comes after a pending block
abbrev pub TreesAreSound : Type 0
TreesAreSound = OfEachState (λ first m. IsSound m.tree)

-- its root is its own parent
abbrev pub RootsStay : Type 0
RootsStay = OfEachState (λ first m. parent_of m.tree 0 ≡ 0)

-- open nodes are in open ones, at most one in each, and as its last
abbrev pub OpenAreNested : Type 0
OpenAreNested = OfEachState (λ first m. AreNested m.tree (is_open m))

-- a running strand is at a place, where its next node, or the end of its block, may be made
abbrev pub StrandsStandAtPlaces : Type 0
StrandsStandAtPlaces = OfEachState (λ first m. (s : ℕ) → IsTrue (is_running m s) → IsPlace m.tree (place m.tree s))

-- no stamp is greater than the clock
abbrev pub ClocksAreLatest : Type 0
ClocksAreLatest = OfEachState (λ first m. (n : ℕ) → n < length m.tree → (stamp_of m.tree n ≤ m.clock) × (end_of m.tree n ≤ m.clock))

-- ## The lists

-- there is one list for each cell, and each access is of a cell
abbrev pub CellsFit : Type 0
CellsFit = OfEachState (λ first m. (m.first ≡ first) × (length m.lists ≡ length first) × FitsCells m.tree (length first))

-- each cancel puts back existing cells, rolled back or not
abbrev pub CancelsNameCells : Type 0
CancelsNameCells = OfEachState (λ first m. NamesCells m.tree (length first))

abbrev pub ListsRise : Type 0
ListsRise = OfEachState (λ first m. (c : ℕ) → IsStrictlyIncreasing (live m c))

-- a list contains only live accesses of its cell
abbrev pub ListsAreLive : Type 0
ListsAreLive = OfEachState (λ first m. (c s : ℕ) → IsTrue (has (live m c) s) → (n : ℕ) × IsTrue (touches m.tree c n) × (stamp_of m.tree n ≡ s) × IsTrue (is_live m.tree n))

-- no undo is under way: what is live beneath a pending block is in the list of its cell
abbrev pub NoneUndone : OpenMachine → Type 0
NoneUndone m = (b c n : ℕ) → IsTrue (is_pending m.tree b) → IsTrue (is_above m.tree b n) → IsTrue (touches m.tree c n) → IsTrue (is_live m.tree n) → IsTrue (has (live m c) (stamp_of m.tree n))

-- if no undo is under way, a list has exactly the live accesses of its cell
abbrev pub ListsHaveAll : Type 0
ListsHaveAll = OfEachState (λ first m. NoneUndone m → (c : ℕ) → live m c ≡ map (stamp_of m.tree) (live_accesses m.tree c))

-- each list is a chain
abbrev pub ListsAreChains : Type 0
ListsAreChains = OfEachWithNewest (λ first m. (c : ℕ) → IsChainOf m.tree c (live m c))

-- if a strand is in a block of its own, and the cell has an access beneath that block, the strand's access conflicts with none
abbrev pub OwnAccessesAreFree : Type 0
OwnAccessesAreFree =
    OfEachWithNewest (λ first m. (s c u : ℕ) → IsTrue (is_running m s && in_block m s) → IsTrue (has (live m c) u) → IsTrue (is_above m.tree (place m.tree s) (access_at m.tree u)) → meets m.tree (newest (live m c)) (place m.tree s) ≡ false)

-- each block above an access and not above the next one of its list is committed, and ended before the next one
abbrev pub BlocksHaveEnded : Type 0
BlocksHaveEnded = OfEachWithNewest (λ first m. (c : ℕ) → AllEndedBetween m.tree (map (access_at m.tree) (live m c)))

-- if no undo is under way, the list of each live cancel is right
abbrev pub CancelsAreRight : Type 0
CancelsAreRight = OfEachWithNewest (λ first m. NoneUndone m → AreCancels m.tree first)

-- ## Victims

-- a conflict has no victim, or its victim is a block above its asker
abbrev pub VictimsAreAbove : Type 0
VictimsAreAbove =
    OfEachState (λ first m. All (λ c. (c.victim ≡ 0) ⊎ ((b : ℕ) × IsTrue (is_block m.tree b && is_above m.tree b c.asker) × (stamp_of m.tree b ≡ c.victim))) m.conflicts)

-- a running strand that is dying rolls back the block that it is in, if it is in one
abbrev pub DyingRollBack : Type 0
DyingRollBack = OfEachState (λ first m. (s : ℕ) → IsTrue (is_running m s && in_block m s && is_dying m s) → IsTrue (rolls_back m s))

-- if the strand is not dying, that block is no victim
abbrev pub FreeAreSafe : Type 0
FreeAreSafe = OfEachState (λ first m. (s : ℕ) → IsTrue (is_free m s && in_block m s) → is_victim m.tree m.conflicts (place m.tree s) ≡ false)

-- ## If an access is refused as soon as it conflicts

-- all that is reached with refusals at once is reached with refusals at any time
abbrev pub AtOnceIsAtAnyTime : Type 0
AtOnceIsAtAnyTime = (first : List ℤ) (m : OpenMachine) → IsReachedBy at_once first m → IsReachedBy (at_any_time (λ t us w. newest us)) first m

-- what a refused access met is as a conflict tells it
abbrev pub RefusalsAreTold : Type 0
RefusalsAreTold =
    (first : List ℤ) (m : OpenMachine) (s c : ℕ) (write : Option ℤ) (met : Met) → IsReachedBy at_once first m → Allowed at_once m (refuses s c write met) → IsMet m.tree (place m.tree s) c met
