-- Runs in which several strands go on: what the steps of others leave of a strand, and of what it has drawn. The laws
-- are over runs in which an access may be refused at any time, whatever is said of it.
use Rattle.std.specs.Prelude.{◌≡◌, ◌≢◌, ◌⊎◌, ℕ, ℤ, ◌<◌, ◌≤◌, ◌==◌, ◌&&◌, Bool, false, not, IsTrue, List, [], ◌∷◌, length, filter, Option}
use Rattle.cw_tree.specs.declared.node.Node.{Node}
use Rattle.cw_tree.specs.Nodes.{parent_of, is_fork, is_pending, all_nodes}
use Rattle.cw_tree.specs.Walks.{has, is_above}
use Rattle.cw_tree.specs.Series.{strand_of, children, place, parallel}
use Rattle.cw_tree.specs.AccessStacks.{conflict_at}
use Rattle.cw_tree.specs.NextNodes.{IsNextStamp, IsEndStamp}
use Rattle.cw_open.specs.Machine.{OpenMachine, is_running, in_block, is_dying, is_free, rolls_back}
use Rattle.cw_open.specs.Steps.{Met, Step, forks, begins, accesses, refuses, outputs, cancels, commits, undoes, aborts, finishes, joins, stops, after_open_step, after_all, first_machine}
use Rattle.cw_open.specs.Runs.{Rules, IsMet, IsRefused, Allowed, IsRun, IsReachedBy, at_any_time}
use Rattle.cw_open.specs.Laws.{OfEachState}
use Rattle.cw_open.specs.Times.{times_after, IsDrawn, IsMetInTime, IsTimely, AreTimely, ReachedInTime}
use Rattle.cw_open.specs.Refused.{IsNewest}

-- ## Steps of others

-- the step is one of strand s; a stop is its strand's step, and a join is no strand's
abbrev pub is_step_of : ℕ → Step → Bool
is_step_of s (forks u stamp) = u == s
is_step_of s (begins u stamp) = u == s
is_step_of s (accesses u c w stamp) = u == s
is_step_of s (refuses u c w met) = u == s
is_step_of s (outputs u v stamp) = u == s
is_step_of s (cancels u stamp) = u == s
is_step_of s (commits u stamp) = u == s
is_step_of s (undoes u c) = u == s
is_step_of s (aborts u stamp) = u == s
is_step_of s (finishes u dead) = u == s
is_step_of s (joins f) = false
is_step_of s (stops u) = u == s

-- the number that a step brings into the tree, or 0
abbrev pub brought : Step → ℕ
brought (forks u stamp) = stamp
brought (begins u stamp) = stamp
brought (accesses u c w stamp) = stamp
brought (outputs u v stamp) = stamp
brought (cancels u stamp) = stamp
brought (commits u stamp) = stamp
brought (aborts u stamp) = stamp
brought _ = 0

-- what is true of each step that is allowed in a state to which a run leads
abbrev pub OfEachStep : (OpenMachine → Step → Type 0) → Type 0
OfEachStep P =
    (asked : List Node → List ℕ → Option ℤ → List ℕ) (first : List ℤ) (m : OpenMachine) → IsReachedBy (at_any_time asked) first m → (e : Step) → Allowed (at_any_time asked) m e → P m e

-- the same of the steps of others, for a strand that runs
abbrev pub OfEachOther : (OpenMachine → Step → ℕ → Type 0) → Type 0
OfEachOther P = OfEachStep (λ m e. (s : ℕ) → IsTrue (is_running m s) → is_step_of s e ≡ false → P m e s)

-- ## Places

-- the places of two strands that run are in parallel
abbrev pub PlacesPart : Type 0
PlacesPart = OfEachState (λ first m. (s u : ℕ) → IsTrue (is_running m s) → IsTrue (is_running m u) → s ≢ u → IsTrue (parallel m.tree (place m.tree s) (place m.tree u)))

-- the pending blocks that were begun in strand s, oldest first
abbrev pub begun_in : List Node → ℕ → List ℕ
begun_in t s = filter (λ n. is_pending t n && (strand_of t n == s)) (all_nodes t)

-- strand s runs in state k, and is there as in state m
pub record IsLeftAlone (m k : OpenMachine) (s : ℕ) : Type 0 where
  pub running : IsTrue (is_running k s)
  pub place : place k.tree s ≡ place m.tree s
  pub begun : begun_in k.tree s ≡ begun_in m.tree s
  pub free : is_free k s ≡ is_free m s
  pub rolls_back : rolls_back k s ≡ rolls_back m s

-- a step of another strand leaves a strand alone
abbrev pub OthersLeaveAlone : Type 0
OthersLeaveAlone = OfEachOther (λ m e s. IsLeftAlone m (after_open_step m e) s)

-- each node beneath the place of a strand is of that strand, or beneath a fork that the strand made there and that was joined
abbrev pub BeneathIsOwn : Type 0
BeneathIsOwn =
    OfEachState (λ first m. (s n : ℕ) → IsTrue (is_running m s) → n < length m.tree → IsTrue (is_above m.tree (place m.tree s) n)
    → (strand_of m.tree n ≡ s) ⊎ ((f : ℕ) × (strand_of m.tree f ≡ s) × IsTrue (is_fork m.tree f && has m.joined f && is_above m.tree (place m.tree s) f && is_above m.tree f n)))

-- ## Numbers drawn early

-- what may be the next stamp at the place of a strand still may be after a step of another that does not bring it
abbrev pub NextStampsStay : Type 0
NextStampsStay =
    OfEachOther (λ m e s. (stamp : ℕ) → brought e ≢ stamp → IsNextStamp m.tree (place m.tree s) stamp → IsNextStamp (after_open_step m e).tree (place (after_open_step m e).tree s) stamp)

-- what was drawn in time there is still drawn in time
abbrev pub DrawnStay : Type 0
DrawnStay =
    OfEachOther (λ m e s. (times : ℕ → ℕ) (stamp : ℕ) → IsDrawn times m.tree (place m.tree s) stamp
    → IsDrawn (times_after times m e) (after_open_step m e).tree (place (after_open_step m e).tree s) stamp)

-- what may be the end of the block that a strand is in still may be
abbrev pub EndStampsStay : Type 0
EndStampsStay =
    OfEachOther (λ m e s. (stamp : ℕ) → brought e ≢ stamp → IsEndStamp m.tree (place m.tree s) stamp → IsEndStamp (after_open_step m e).tree (place (after_open_step m e).tree s) stamp)

-- ## What an access met

-- no step makes an access at a place conflict with one that it did not conflict with
abbrev pub NoneConflictsMore : Type 0
NoneConflictsMore = OfEachStep (λ m e. (u p : ℕ) → u < length m.tree → p < length m.tree → conflict_at m.tree u p ≡ false → conflict_at (after_open_step m e).tree u p ≡ false)

-- what a strand met stays as a conflict tells it, whatever others do; so do the newest accesses that the conflict tells
abbrev pub MetStays : Type 0
MetStays = OfEachOther (λ m e s. (c : ℕ) (met : Met) → IsMet m.tree (place m.tree s) c met → IsMet (after_open_step m e).tree (place (after_open_step m e).tree s) c met)

abbrev pub NewestStay : Type 0
NewestStay = OfEachOther (λ m e s. (c : ℕ) (met : Met) → IsNewest m.tree c met → IsNewest (after_open_step m e).tree c met)

-- what a strand met stays met in time
abbrev pub MetInTimeStays : Type 0
MetInTimeStays =
    OfEachOther (λ m e s. (times : ℕ → ℕ) (met : Met) → IsMetInTime times m.tree (place m.tree s) met
    → IsMetInTime (times_after times m e) (after_open_step m e).tree (place (after_open_step m e).tree s) met)

-- if the newest access of a cell conflicts, and a pending block stands in the way, a conflict can tell this
abbrev pub ConflictsAreTold : Type 0
ConflictsAreTold = OfEachState (λ first m. (s c : ℕ) (met : Met) → IsTrue (is_running m s) → IsRefused m s c met → IsMet m.tree (place m.tree s) c met × IsNewest m.tree c met)

-- ## A run step by step, with its times

-- the times after steps, one after another
abbrev pub times_after_all : (ℕ → ℕ) → OpenMachine → List Step → ℕ → ℕ
times_after_all times m [] = times
times_after_all times m (e ∷ es) = times_after_all (times_after times m e) (after_open_step m e) es

-- a run whose stamps were drawn in time leads to the state m, and its nodes were made, or closed, at these times
pub record RunsTo (r : Rules) (first : List ℤ) (m : OpenMachine) (times : ℕ → ℕ) : Type 0 where
  pub steps : List Step
  pub run : IsRun r (first_machine first) steps
  pub there : after_all (first_machine first) steps ≡ m
  pub timely : AreTimely (λ n. 0) (first_machine first) steps
  pub timed : times_after_all (λ n. 0) (first_machine first) steps ≡ times

-- what is reached with times is what is reached in time, and is reached if accesses may be refused at any time
pub record IsInTime (r : Rules) (first : List ℤ) (m : OpenMachine) : Type 0 where
  pub reached : (times : ℕ → ℕ) → RunsTo r first m times → ReachedInTime r first m
  pub timed : ReachedInTime r first m → (times : ℕ → ℕ) × RunsTo r first m times
  pub any_time : (times : ℕ → ℕ) → RunsTo r first m times → IsReachedBy (at_any_time r.asked) first m

abbrev pub RunsAreInTime : Rules → Type 0
RunsAreInTime r = (first : List ℤ) (m : OpenMachine) → IsInTime r first m

-- the laws on steps apply to all that a rule allows, whatever it asks of a refusal
abbrev pub AllowedAtAnyTime : Rules → Type 0
AllowedAtAnyTime r = (m : OpenMachine) (e : Step) → Allowed r m e → Allowed (at_any_time r.asked) m e

-- a run begins before the first step, with no time yet
abbrev pub RunsBegin : Rules → Type 0
RunsBegin r = (first : List ℤ) → RunsTo r first (first_machine first) (λ n. 0)

-- a run goes on by a step that is allowed and in time
abbrev pub RunsGoOn : Rules → Type 0
RunsGoOn r =
    (first : List ℤ) (m : OpenMachine) (times : ℕ → ℕ) (e : Step) → RunsTo r first m times → Allowed r m e → IsTimely times m e
    → RunsTo r first (after_open_step m e) (times_after times m e)

-- no time is above the clock
abbrev pub TimesAreLow : Rules → Type 0
TimesAreLow r = (first : List ℤ) (m : OpenMachine) (times : ℕ → ℕ) → RunsTo r first m times → (n : ℕ) → times n ≤ m.clock

-- a number above the clock may be the next stamp at any place, and was drawn in time; and it may be the end of any block
pub record IsNextAt (times : ℕ → ℕ) (t : List Node) (p stamp : ℕ) : Type 0 where
  pub next : IsNextStamp t p stamp
  pub drawn : IsDrawn times t p stamp
  pub end : IsEndStamp t p stamp

abbrev pub AheadIsNext : Rules → Type 0
AheadIsNext r =
    (first : List ℤ) (m : OpenMachine) (times : ℕ → ℕ) → RunsTo r first m times → (p stamp : ℕ) → p < length m.tree → m.clock < stamp → IsNextAt times m.tree p stamp

-- ## Joins

-- strands l and r finish, each dead or not, and their fork f is joined
abbrev pub join_steps : (f l r : ℕ) → (left_dead right_dead : Bool) → List Step
join_steps f l r left_dead right_dead = finishes l left_dead ∷ finishes r right_dead ∷ joins f ∷ []

-- both strands of an open fork run, and are in no block of their own
pub record HaveCome (m : OpenMachine) (f l r : ℕ) : Type 0 where
  pub fork : IsTrue (is_fork m.tree f && not (has m.joined f))
  pub strands : children m.tree f ≡ l ∷ r ∷ []
  pub left : IsTrue (is_running m l && not (in_block m l))
  pub right : IsTrue (is_running m r && not (in_block m r))

-- the strand that made fork f waits only for it, and did not stop
pub record WaitsForAlone (m : OpenMachine) (f : ℕ) : Type 0 where
  pub alone : (g : ℕ) → IsTrue (is_fork m.tree g) → strand_of m.tree g ≡ strand_of m.tree f → g ≢ f → IsTrue (has m.joined g)
  pub unstopped : has m.stopped (strand_of m.tree f) ≡ false

-- The strands may finish, dead if they are dying, and then their fork may be joined. Their fork may also be joined
-- after any other way in which they may finish.
pub record MayFinishAndJoin (r : Rules) (m : OpenMachine) (f left right : ℕ) : Type 0 where
  pub as_dying : IsRun r m (join_steps f left right (is_dying m left) (is_dying m right))
  pub either : (left_dead right_dead : Bool) → Allowed r m (finishes left left_dead) → Allowed r (after_open_step m (finishes left left_dead)) (finishes right right_dead)
      → IsRun r m (join_steps f left right left_dead right_dead)

abbrev pub StrandsMayJoin : Type 0
StrandsMayJoin =
    (asked : List Node → List ℕ → Option ℤ → List ℕ) (first : List ℤ) (m : OpenMachine) → IsReachedBy (at_any_time asked) first m → (f l r : ℕ) → HaveCome m f l r → MayFinishAndJoin (at_any_time asked) m f l r

-- strand s runs in state k, at place p, with the blocks that it had begun in state m
pub record RunsAgain (m k : OpenMachine) (s p : ℕ) : Type 0 where
  pub running : IsTrue (is_running k s)
  pub place : place k.tree s ≡ p
  pub begun : begun_in k.tree s ≡ begun_in m.tree s

-- after the join the strand that forked runs again, where it forked
abbrev pub ForkersRunAgain : Type 0
ForkersRunAgain =
    OfEachState (λ first m. (f l r : ℕ) (left_dead right_dead : Bool) → HaveCome m f l r → WaitsForAlone m f
    → RunsAgain m (after_all m (join_steps f l r left_dead right_dead)) (strand_of m.tree f) (parent_of m.tree f))

-- a join leaves others alone
abbrev pub JoinsLeaveAlone : Type 0
JoinsLeaveAlone =
    OfEachState (λ first m. (f l r s : ℕ) (left_dead right_dead : Bool) → s ≢ l → s ≢ r → IsTrue (is_running m s) → IsLeftAlone m (after_all m (join_steps f l r left_dead right_dead)) s)
