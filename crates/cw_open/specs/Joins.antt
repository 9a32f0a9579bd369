-- Joins of forks whose left strand has finished before: the right one finishes, and the fork is joined.
use Rattle.std.specs.Prelude.{◌≡◌, ◌≢◌, ℕ, ℤ, ◌&&◌, Bool, not, IsTrue, List, [], ◌∷◌, Option}
use Rattle.cw_tree.specs.declared.node.Node.{Node}
use Rattle.cw_tree.specs.Nodes.{parent_of, is_fork}
use Rattle.cw_tree.specs.Walks.{has}
use Rattle.cw_tree.specs.Series.{strand_of, children}
use Rattle.cw_open.specs.Machine.{OpenMachine, has_finished, is_running, in_block, is_dying}
use Rattle.cw_open.specs.Steps.{Step, finishes, joins, after_all}
use Rattle.cw_open.specs.Runs.{Rules, Allowed, IsRun, IsReachedBy, at_any_time}
use Rattle.cw_open.specs.Laws.{OfEachState}
use Rattle.cw_open.specs.Hands.{IsLeftAlone, WaitsForAlone, RunsAgain}

-- strand r finishes, dead or not, and fork f is joined
abbrev pub rest_steps : (f r : ℕ) → (dead : Bool) → List Step
rest_steps f r dead = finishes r dead ∷ joins f ∷ []

-- the left strand of an open fork has finished, and the right one runs and is in no block of its own
pub record RightHasCome (m : OpenMachine) (f l r : ℕ) : Type 0 where
  pub fork : IsTrue (is_fork m.tree f && not (has m.joined f))
  pub strands : children m.tree f ≡ l ∷ r ∷ []
  pub left : IsTrue (has_finished m l)
  pub right : IsTrue (is_running m r && not (in_block m r))

-- the right strand may finish, dead if it is dying, and then the fork may be joined; so it may after any other way in which that
-- strand may finish
pub record MayEndAndJoin (rules : Rules) (m : OpenMachine) (f r : ℕ) : Type 0 where
  pub as_dying : IsRun rules m (rest_steps f r (is_dying m r))
  pub either : (dead : Bool) → Allowed rules m (finishes r dead) → IsRun rules m (rest_steps f r dead)

abbrev pub RightMayJoin : Type 0
RightMayJoin =
    (asked : List Node → List ℕ → Option ℤ → List ℕ) (first : List ℤ) (m : OpenMachine) → IsReachedBy (at_any_time asked) first m → (f l r : ℕ) → RightHasCome m f l r → MayEndAndJoin (at_any_time asked) m f r

-- after the join the strand that forked runs again, where it forked
abbrev pub ForkersGoOn : Type 0
ForkersGoOn =
    OfEachState (λ first m. (f l r : ℕ) (dead : Bool) → RightHasCome m f l r → WaitsForAlone m f → RunsAgain m (after_all m (rest_steps f r dead)) (strand_of m.tree f) (parent_of m.tree f))

-- others are left alone
abbrev pub RestLeavesAlone : Type 0
RestLeavesAlone = OfEachState (λ first m. (f l r s : ℕ) (dead : Bool) → RightHasCome m f l r → s ≢ r → IsTrue (is_running m s) → IsLeftAlone m (after_all m (rest_steps f r dead)) s)
