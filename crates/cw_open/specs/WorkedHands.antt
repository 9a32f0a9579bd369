-- A small run with two strands that step in turn, one of them with a number that it drew early. It is as the laws on
-- several hands ask. If the step of the other strand brings the number, what the laws say of it fails.
use Rattle.std.specs.Prelude.{◌≡◌, ℕ, ℤ, List, [], ◌∷◌, ◌++◌, Some, None, true, false, pos}
use Rattle.cw_tree.specs.Nodes.{is_pending}
use Rattle.cw_tree.specs.Walks.{has, is_above}
use Rattle.cw_tree.specs.Series.{strand_of, place, parallel}
use Rattle.cw_tree.specs.AccessStacks.{conflict_at}
use Rattle.cw_tree.specs.NextNodes.{IsNextStamp, IsEndStamp}
use Rattle.cw_tree.specs.Newest.{newest}
use Rattle.cw_open.specs.Machine.{OpenMachine, is_running, is_free}
use Rattle.cw_open.specs.Steps.{Met, Step, forks, begins, accesses, refuses, outputs, commits, after_open_step, after_all, first_machine}
use Rattle.cw_open.specs.Runs.{IsMet, IsRefused}
use Rattle.cw_open.specs.Times.{IsDrawn, IsMetInTime}
use Rattle.cw_open.specs.Refused.{IsNewest, as_told}
use Rattle.cw_open.specs.Hands.{OfEachOther, begun_in, times_after_all, RunsTo, join_steps, HaveCome, WaitsForAlone}

-- one cell, which has the value 0
abbrev pub one_cell : List ℤ
one_cell = pos 0 ∷ []

-- the state after steps, and its times
abbrev pub led_by : List Step → OpenMachine
led_by es = after_all (first_machine one_cell) es

abbrev pub times_of : List Step → ℕ → ℕ
times_of es = times_after_all (λ n. 0) (first_machine one_cell) es

-- a block forks
abbrev pub forked : List Step
forked = begins 0 1 ∷ forks 0 2 ∷ []

-- the right strand draws 3, and the left one writes in a block
abbrev pub left_wrote : List Step
left_wrote = forked ++ begins 3 4 ∷ accesses 3 0 (Some (pos 1)) 5 ∷ []

-- the left one draws 6, the right one uses its number, and its read meets the block
abbrev pub right_showed : List Step
right_showed = left_wrote ++ outputs 4 (pos 5) 3 ∷ []

-- the left one ends its block
abbrev pub left_ended : List Step
left_ended = right_showed ++ commits 3 6 ∷ []

abbrev pub met_left : Met
met_left = record { last = 5; block = 4; chain = 5 ∷ [] }

-- the read is refused late, and made again
abbrev pub right_read : List Step
right_read = left_ended ++ refuses 4 0 None met_left ∷ accesses 4 0 None 7 ∷ []

-- both finish, and the fork is joined
abbrev pub rejoined : List Step
rejoined = right_read ++ join_steps 2 3 4 false false

pub record TwoHands : Type 0 where
  -- the two run, and their places are in parallel
  pub left_runs : is_running (led_by left_wrote) 3 ≡ true
  pub right_runs : is_running (led_by left_wrote) 4 ≡ true
  pub forker_waits : is_running (led_by left_wrote) 0 ≡ false
  pub apart : parallel (led_by left_wrote).tree (place (led_by left_wrote).tree 3) (place (led_by left_wrote).tree 4) ≡ true
  -- what they began
  pub left_began : begun_in (led_by left_wrote).tree 3 ≡ 5 ∷ []
  pub right_began : begun_in (led_by left_wrote).tree 4 ≡ []
  pub forker_began : begun_in (led_by left_wrote).tree 0 ≡ 1 ∷ []
  -- 3 may be next at the place of the right strand when that draws it, and still after the left one has stepped
  pub next : IsNextStamp (led_by forked).tree 4 3
  pub drawn : IsDrawn (times_of forked) (led_by forked).tree 4 3
  pub still_next : IsNextStamp (led_by left_wrote).tree 4 3
  pub still_drawn : IsDrawn (times_of left_wrote) (led_by left_wrote).tree 4 3
  -- 6 may be the end of the left strand's block
  pub end : IsEndStamp (led_by left_wrote).tree 5 6
  pub still_end : IsEndStamp (led_by right_showed).tree 5 6
  -- The read conflicts, and no longer does after the block has ended. What it met is still as a conflict tells it, and met in time.
  pub conflicts : conflict_at (led_by right_showed).tree 6 4 ≡ true
  pub conflicts_no_more : conflict_at (led_by left_ended).tree 6 4 ≡ false
  pub refused : IsRefused (led_by right_showed) 4 0 met_left
  pub met : IsMet (led_by right_showed).tree 4 0 met_left
  pub newest : IsNewest (led_by right_showed).tree 0 met_left
  pub in_time : IsMetInTime (times_of right_showed) (led_by right_showed).tree 4 met_left
  pub ended : is_pending (led_by left_ended).tree 5 ≡ false
  pub still_met : IsMet (led_by left_ended).tree 4 0 met_left
  pub still_in_time : IsMetInTime (times_of left_ended) (led_by left_ended).tree 4 met_left
  -- the run, with its times; the block was closed when the clock was at 6
  pub leads : RunsTo (as_told (λ t us w. Rattle.cw_tree.specs.Newest.newest us)) one_cell (led_by rejoined) (times_of rejoined)
  pub closed_at : times_of rejoined 5 ≡ 6
  pub clock : (led_by rejoined).clock ≡ 7
  -- the strands come to their join, and the one that forked runs again where it did
  pub come : HaveCome (led_by right_read) 2 3 4
  pub alone : WaitsForAlone (led_by right_read) 2
  pub again : is_free (led_by rejoined) 0 ≡ true
  pub place_again : place (led_by rejoined).tree 0 ≡ 1
  pub began_again : begun_in (led_by rejoined).tree 0 ≡ 1 ∷ []
  -- beneath its place the write of the left strand is beneath the fork
  pub wrote : strand_of (led_by rejoined).tree 6 ≡ 3
  pub beneath : is_above (led_by rejoined).tree 1 6 ≡ true
  pub beneath_fork : is_above (led_by rejoined).tree 2 6 ≡ true
  pub joined : has (led_by rejoined).joined 2 ≡ true

-- ## A number that the step of the other brings

-- what may be the next stamp at the place of a strand still may be after each step of another
abbrev pub AllNextStampsStay : Type 0
AllNextStampsStay = OfEachOther (λ m e s. (stamp : ℕ) → IsNextStamp m.tree (place m.tree s) stamp → IsNextStamp (after_open_step m e).tree (place (after_open_step m e).tree s) stamp)

pub record BroughtByOther : Type 0 where
  -- if the left strand begins its block with 3, that is gone for the right one
  pub gone : IsNextStamp (led_by (forked ++ begins 3 3 ∷ [])).tree 4 3 → ⊥
  pub not_all : AllNextStampsStay → ⊥
