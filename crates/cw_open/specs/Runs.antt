-- What each step of the open machine needs, and its runs.
use Rattle.std.specs.Prelude.{◌≡◌, ℕ, ℤ, ◌<◌, ◌==◌, ◌&&◌, ◌||◌, Bool, not, nat_lt, IsTrue, List, [], ◌∷◌, length, Option, if◌then◌else◌}
use Rattle.std.specs.List.{list_any, list_all}
use Rattle.cw_tree.specs.declared.node.Node.{Node}
use Rattle.cw_tree.specs.Nodes.{parent_of, stamp_of, end_of, touches, is_strand, is_fork, is_block, is_pending}
use Rattle.cw_tree.specs.Walks.{has, is_ancestor, is_above}
use Rattle.cw_tree.specs.Series.{children, place, parallel}
use Rattle.cw_tree.specs.Shape.{is_closed}
use Rattle.cw_tree.specs.AccessStacks.{conflict_at, access_at}
use Rattle.cw_tree.specs.Refusals.{is_victim}
use Rattle.cw_tree.specs.NextNodes.{IsNextStamp, IsEndStamp}
use Rattle.cw_tree.specs.Newest.{newest, last_eight}
use Rattle.cw_open.specs.Machine.{OpenMachine, live, has_finished, finished_dead, is_running, in_block, is_dying, is_free, rolls_back}
use Rattle.cw_open.specs.Steps.{Met, Step, forks, begins, accesses, refuses, outputs, cancels, commits, undoes, aborts, finishes, joins, stops, after_open_step, after_all, first_machine}

-- ## What machines may do differently

pub record Rules : Type 1 where
  -- which of a cell's live accesses a read, or a write of a value, may conflict with
  pub asked : List Node → List ℕ → Option ℤ → List ℕ
  -- what has to be true if an access of a cell by a strand is refused
  pub MayRefuse : OpenMachine → (strand cell : ℕ) → Option ℤ → Met → Type 0

-- an access at place p conflicts with one of those
abbrev pub meets : List Node → List ℕ → ℕ → Bool
meets t us p = list_any (λ s. conflict_at t (access_at t s) p) us

-- What a refused access met is as a conflict tells it: an access of its cell that is parallel to it, and a block above
-- that and not above its place.
pub record IsMet (t : List Node) (p c : ℕ) (met : Met) : Type 0 where
  pub last : IsTrue (touches t c (access_at t met.last)) × (stamp_of t (access_at t met.last) ≡ met.last)
  pub parallel : IsTrue (parallel t (access_at t met.last) p)
  pub block : (b : ℕ) × IsTrue (is_block t b && is_above t b (access_at t met.last) && not (is_ancestor t b p)) × (stamp_of t b ≡ met.block)

-- If an access is refused as soon as it conflicts with the newest one, it met that, and a block of it that is pending.
pub record IsRefused (m : OpenMachine) (s c : ℕ) (met : Met) : Type 0 where
  pub last : newest (live m c) ≡ met.last ∷ []
  pub conflicts : IsTrue (conflict_at m.tree (access_at m.tree met.last) (place m.tree s))
  pub block : (b : ℕ) × IsTrue (is_pending m.tree b && is_above m.tree b (access_at m.tree met.last) && not (is_ancestor m.tree b (place m.tree s))) × (stamp_of m.tree b ≡ met.block)
  pub chain : met.chain ≡ last_eight (live m c)

-- an access is refused exactly if it conflicts with the newest one
abbrev pub at_once : Rules
at_once = record { asked = λ t us w. newest us; MayRefuse = λ m s c w met. IsRefused m s c met }

-- an access may be refused at any time, whatever is said of it
abbrev pub at_any_time : (List Node → List ℕ → Option ℤ → List ℕ) → Rules
at_any_time asked = record { asked = asked; MayRefuse = λ m s c w met. Unit {0} }

-- ## The steps

-- an access comes after the cell's live accesses, and after the end of each block that was above one that it is asked
-- about and is not above it
pub record ComesLast (t : List Node) (live asked : List ℕ) (p stamp : ℕ) : Type 0 where
  pub listed : (u : ℕ) → IsTrue (has live u) → u < stamp
  pub ended : (u b : ℕ) → IsTrue (has asked u) → b < length t → IsTrue (is_closed t b && is_above t b (access_at t u) && not (is_ancestor t b p)) → end_of t b < stamp

-- strand s is a right one that made no step, and its left one finished dead
abbrev pub left_died : OpenMachine → ℕ → Bool
left_died m s = (length (children m.tree s) == 0) && list_any (λ l. nat_lt l s && finished_dead m l) (children m.tree (parent_of m.tree s))

-- no live access of any cell is beneath block b
abbrev pub is_undone : OpenMachine → ℕ → Bool
is_undone m b = list_all (list_all (λ s. not (is_above m.tree b (access_at m.tree s)))) m.lists

-- what a step needs
abbrev pub Allowed : Rules → OpenMachine → Step → Type 0
Allowed r m (forks s stamp) = IsTrue (is_free m s) × IsNextStamp m.tree (place m.tree s) stamp
Allowed r m (begins s stamp) = IsTrue (is_free m s) × IsNextStamp m.tree (place m.tree s) stamp
Allowed r m (accesses s c w stamp) =
    IsTrue (is_free m s && nat_lt c (length m.lists) && not (meets m.tree (r.asked m.tree (live m c) w) (place m.tree s)))
    × IsNextStamp m.tree (place m.tree s) stamp
    × ComesLast m.tree (live m c) (r.asked m.tree (live m c) w) (place m.tree s) stamp
Allowed r m (refuses s c w met) = IsTrue (is_free m s && nat_lt c (length m.lists)) × r.MayRefuse m s c w met
Allowed r m (outputs s v stamp) = IsTrue (is_free m s) × IsNextStamp m.tree (place m.tree s) stamp
Allowed r m (cancels s stamp) = IsTrue (is_free m s && in_block m s) × IsNextStamp m.tree (place m.tree s) stamp
Allowed r m (commits s stamp) = IsTrue (is_free m s && in_block m s && not (is_victim m.tree m.conflicts (place m.tree s))) × IsEndStamp m.tree (place m.tree s) stamp
Allowed r m (undoes s c) = IsTrue (rolls_back m s && nat_lt c (length m.lists))
Allowed r m (aborts s stamp) = IsTrue (rolls_back m s && is_undone m (place m.tree s)) × IsEndStamp m.tree (place m.tree s) stamp
-- A strand finishes dead if it is dying. It may also finish dead if it made no step and its fork's left strand finished dead.
Allowed r m (finishes s dead) = IsTrue (is_running m s && not (in_block m s) && (if is_dying m s then dead else (not dead || left_died m s)))
Allowed r m (joins f) = IsTrue (is_fork m.tree f && not (has m.joined f) && list_all (has_finished m) (children m.tree f))
-- a strand that waits may stop too: its budget was spent beneath it
Allowed r m (stops s) = IsTrue (is_strand m.tree s)

-- ## Runs

-- each step is allowed where it is made
abbrev pub IsRun : Rules → OpenMachine → List Step → Type 0
IsRun r m [] = Unit {0}
IsRun r m (e ∷ es) = Allowed r m e × IsRun r (after_open_step m e) es

-- a run leads to the state m
pub record IsReachedBy (r : Rules) (first : List ℤ) (m : OpenMachine) : Type 0 where
  pub steps : List Step
  pub run : IsRun r (first_machine first) steps
  pub there : after_all (first_machine first) steps ≡ m
