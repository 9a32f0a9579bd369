-- Machines that refuse an access whenever its conflict can tell what it met, and the laws of refused accesses.
use Rattle.std.specs.Prelude.{◌≡◌, ℕ, ℤ, ◌<◌, ◌≤◌, ◌&&◌, false, IsTrue, All, List, [], ◌∷◌, ◌++◌, length, map, filter, Option}
use Rattle.std.specs.List.{list_any}
use Rattle.std.specs.List.Sorted.{IsStrictlyIncreasing}
use Rattle.cw_tree.specs.declared.node.Node.{Node}
use Rattle.cw_tree.specs.Nodes.{parent_of, is_strand, is_committed, is_aborted, is_tried, all_nodes}
use Rattle.cw_tree.specs.Walks.{path}
use Rattle.cw_tree.specs.Series.{place, has_later}
use Rattle.cw_tree.specs.Accesses.{HasAccess}
use Rattle.cw_tree.specs.Refusals.{IsRecorded, is_victim, RollsBack}
use Rattle.cw_tree.specs.Newest.{newest}
use Rattle.cw_open.specs.Machine.{OpenMachine, has_finished, finished_dead, is_running, is_dying}
use Rattle.cw_open.specs.Steps.{Met, Step, first_machine}
use Rattle.cw_open.specs.Runs.{Rules, IsMet, IsRun, IsReachedBy, at_once, at_any_time}
use Rattle.cw_open.specs.Times.{AreTimely, ReachedInTime, AreAhead}
use Rattle.cw_open.specs.Laws.{OfEachState}

-- the newest accesses of its cell, as a conflict tells them: one to eight stamps, rising, the last of which is that of
-- the access that it met
pub record IsNewest (t : List Node) (c : ℕ) (met : Met) : Type 0 where
  pub len : (1 ≤ length met.chain) × (length met.chain ≤ 8)
  pub rises : IsStrictlyIncreasing met.chain
  pub accesses : All (HasAccess t c) met.chain
  pub last : (us : List ℕ) × (met.chain ≡ us ++ met.last ∷ [])

-- an access may be refused if a conflict can tell what it met
abbrev pub as_told : (List Node → List ℕ → Option ℤ → List ℕ) → Rules
as_told asked = record { asked = asked; MayRefuse = λ m s c w met. IsMet m.tree (place m.tree s) c met × IsNewest m.tree c met }

-- ## Conflicts

-- each refused access has its conflict, in the order in which they were refused
abbrev pub AskersAreTried : Type 0
AskersAreTried = OfEachState (λ first m. map (λ c. c.asker) m.conflicts ≡ filter (is_tried m.tree) (all_nodes m.tree))

-- each conflict tells what was met when it was made, and this stays true
abbrev pub ConflictsAreRecorded : Type 0
ConflictsAreRecorded =
    (asked : List Node → List ℕ → Option ℤ → List ℕ) (first : List ℤ) (m : OpenMachine) → ReachedInTime (as_told asked) first m → All (IsRecorded m.tree) m.conflicts

-- ## Victims

-- an aborted block is a victim, or is beneath one
abbrev pub AbortedAreVictims : Type 0
AbortedAreVictims = OfEachState (λ first m. (b : ℕ) → IsTrue (is_aborted m.tree b) → IsTrue (list_any (is_victim m.tree m.conflicts) (path m.tree b)))

-- a committed block is no victim
abbrev pub CommittedAreSafe : Type 0
CommittedAreSafe = OfEachState (λ first m. (b : ℕ) → IsTrue (is_committed m.tree b) → is_victim m.tree m.conflicts b ≡ false)

-- ## On the way back

-- after a refused access with a victim, and after an aborted block that is no victim, a strand makes nothing more in their place
abbrev pub DyingGoBack : Type 0
DyingGoBack = OfEachState (λ first m. RollsBack m.tree m.conflicts)

-- The fork of strand x, which died, is beneath a victim, and is the last node in its place. That place is no committed
-- block. If it is a strand that has finished, it finished dead. A running strand at that place is dying.
pub record DiedBeneathVictim (m : OpenMachine) (x : ℕ) : Type 0 where
  pub victim : IsTrue (list_any (is_victim m.tree m.conflicts) (path m.tree (parent_of m.tree x)))
  pub last : has_later m.tree (parent_of m.tree x) ≡ false
  pub block : is_committed m.tree (parent_of m.tree (parent_of m.tree x)) ≡ false
  pub strand : IsTrue (is_strand m.tree (parent_of m.tree (parent_of m.tree x)) && has_finished m (parent_of m.tree (parent_of m.tree x))) → IsTrue (finished_dead m (parent_of m.tree (parent_of m.tree x)))
  pub dying : (s : ℕ) → IsTrue (is_running m s) → place m.tree s ≡ parent_of m.tree (parent_of m.tree x) → IsTrue (is_dying m s)

abbrev pub DeadGoBack : Type 0
DeadGoBack = OfEachState (λ first m. (x : ℕ) → 0 < x → IsTrue (finished_dead m x) → DiedBeneathVictim m x)

-- ## Told runs

-- if an access is refused when its conflict can tell what it met, it may be refused at any time
abbrev pub ToldIsAtAnyTime : Type 0
ToldIsAtAnyTime = (asked : List Node → List ℕ → Option ℤ → List ℕ) (first : List ℤ) (m : OpenMachine) → ReachedInTime (as_told asked) first m → IsReachedBy (at_any_time asked) first m

-- ## If an access is refused as soon as it conflicts

-- a conflict can tell what the access met
abbrev pub AtOnceIsTold : Type 0
AtOnceIsTold = (first : List ℤ) (es : List Step) → IsRun at_once (first_machine first) es → IsRun (as_told (λ t us w. newest us)) (first_machine first) es

-- if each stamp is drawn by the step that uses it, all are drawn in time
abbrev pub AheadIsTimely : Type 0
AheadIsTimely = (first : List ℤ) (es : List Step) → IsRun at_once (first_machine first) es → AreAhead (first_machine first) es → AreTimely (λ n. 0) (first_machine first) es

-- ## Strands that stopped

-- the machine, with no strand stopped
abbrev pub unstopped : OpenMachine → OpenMachine
unstopped m = record m { stopped = [] }

-- a run without its stops is a run
abbrev pub StopsAreLeftOut : Type 0
StopsAreLeftOut =
    (asked : List Node → List ℕ → Option ℤ → List ℕ) (first : List ℤ) (m : OpenMachine) → IsReachedBy (at_any_time asked) first m → IsReachedBy (at_any_time asked) first (unstopped m)
