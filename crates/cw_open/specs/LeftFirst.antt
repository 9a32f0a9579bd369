-- Runs in which each fork's left strand finishes before its right one steps. No access is refused in them.
use Rattle.std.specs.Prelude.{◌≡◌, ℕ, ℤ, ◌<◌, ◌&&◌, Bool, true, false, not, nat_lt, IsTrue, List, [], ◌∷◌, length, Option}
use Rattle.std.specs.List.{list_any, list_all}
use Rattle.cw_tree.specs.declared.node.Node.{Node}
use Rattle.cw_tree.specs.Nodes.{parent_of, stamp_of, end_of, is_strand, is_fork, is_pending}
use Rattle.cw_tree.specs.Walks.{is_ancestor}
use Rattle.cw_tree.specs.Series.{children, place}
use Rattle.cw_tree.specs.Names.{strands_on}
use Rattle.cw_tree.specs.Newest.{newest}
use Rattle.cw_open.specs.Machine.{OpenMachine, has_finished}
use Rattle.cw_open.specs.Steps.{Step, forks, begins, accesses, refuses, outputs, cancels, commits, undoes, aborts, finishes, joins, stops, after_open_step, after_all, first_machine}
use Rattle.cw_open.specs.Runs.{Rules, IsRun, at_once, at_any_time}
use Rattle.cw_open.specs.Times.{AreAhead}

-- ## Left strands first

-- the strand that makes a step; a join is made by none, and a strand that stops makes nothing
abbrev pub makers : Step → List ℕ
makers (forks s stamp) = s ∷ []
makers (begins s stamp) = s ∷ []
makers (accesses s c w stamp) = s ∷ []
makers (refuses s c w met) = s ∷ []
makers (outputs s v stamp) = s ∷ []
makers (cancels s stamp) = s ∷ []
makers (commits s stamp) = s ∷ []
makers (undoes s c) = s ∷ []
makers (aborts s stamp) = s ∷ []
makers (finishes s dead) = s ∷ []
makers (joins f) = []
makers (stops s) = []

-- strand r is a left one, or the left strand of its fork has finished: no strand to the left of it is unfinished
abbrev pub left_has_finished : OpenMachine → ℕ → Bool
left_has_finished m r = not (list_any (λ l. nat_lt l r && not (has_finished m l)) (children m.tree (parent_of m.tree r)))

-- the same holds of strand s, and of each strand around it
abbrev pub lefts_have_finished : OpenMachine → ℕ → Bool
lefts_have_finished m s = list_all (left_has_finished m) (strands_on m.tree s)

-- whenever a strand steps that is inside the right strand of a fork, the left strand of that fork has finished
abbrev pub go_left_first : OpenMachine → List Step → Bool
go_left_first m [] = true
go_left_first m (e ∷ es) = list_all (lefts_have_finished m) (makers e) && go_left_first (after_open_step m e) es

-- ## Accesses are refused while a block stands in the way

-- An access may be refused, whatever is said of it, but only while some block is pending that is not around its place.
-- This excludes an access that is refused later, for what it met before: its strand may have tried it ahead of its
-- turn.
abbrev pub while_pending : (List Node → List ℕ → Option ℤ → List ℕ) → Rules
while_pending asked = record { asked = asked; MayRefuse = λ m s c w met. (b : ℕ) × IsTrue (is_pending m.tree b && not (is_ancestor m.tree b (place m.tree s))) }

-- an access that is refused as soon as it conflicts meets such a block
abbrev pub AtOnceIsWhilePending : Type 0
AtOnceIsWhilePending = (first : List ℤ) (es : List Step) → IsRun at_once (first_machine first) es → IsRun (while_pending (λ t us w. newest us)) (first_machine first) es

-- if left strands go first, no access is refused
abbrev pub LeftFirstIsUnrefused : Type 0
LeftFirstIsUnrefused =
    (asked : List Node → List ℕ → Option ℤ → List ℕ) (first : List ℤ) (es : List Step) → IsRun (while_pending asked) (first_machine first) es → IsTrue (go_left_first (first_machine first) es)
    → (after_all (first_machine first) es).conflicts ≡ []

-- ## What is to the left is older

-- node m is in the left strand of a fork, and n in the right one
pub record IsLeftOf (t : List Node) (m n : ℕ) : Type 0 where
  pub fork : ℕ
  pub left : ℕ
  pub right : ℕ
  pub forks : IsTrue (is_fork t fork)
  pub strands : children t fork ≡ left ∷ right ∷ []
  pub in_left : IsTrue (is_ancestor t left m)
  pub in_right : IsTrue (is_ancestor t right n)

-- m was made, and ended, before the stamp of n, and is no longer pending
pub record IsOlder (t : List Node) (m n : ℕ) : Type 0 where
  pub came : stamp_of t m < stamp_of t n
  pub ended : end_of t m < stamp_of t n
  pub shut : is_pending t m ≡ false

-- what is to the left of a stamp is older
abbrev pub LeftsAreOlder : List Node → Type 0
LeftsAreOlder t = (m n : ℕ) → m < length t → n < length t → IsLeftOf t m n → 0 < stamp_of t n → IsOlder t m n

-- this holds if left strands go first and each stamp is drawn by the step that uses it, whenever accesses are refused
abbrev pub LeftFirstAreOlder : Type 0
LeftFirstAreOlder =
    (asked : List Node → List ℕ → Option ℤ → List ℕ) (first : List ℤ) (es : List Step) → IsRun (at_any_time asked) (first_machine first) es → IsTrue (go_left_first (first_machine first) es)
    → AreAhead (first_machine first) es → LeftsAreOlder (after_all (first_machine first) es).tree

-- each strand to the left of a stamp has finished
abbrev pub LeftsHaveFinished : OpenMachine → Type 0
LeftsHaveFinished m = (x n : ℕ) → IsTrue (is_strand m.tree x) → n < length m.tree → IsLeftOf m.tree x n → 0 < stamp_of m.tree n → IsTrue (has_finished m x)

abbrev pub LeftFirstHaveFinished : Type 0
LeftFirstHaveFinished =
    (asked : List Node → List ℕ → Option ℤ → List ℕ) (first : List ℤ) (es : List Step) → IsRun (at_any_time asked) (first_machine first) es → IsTrue (go_left_first (first_machine first) es)
    → LeftsHaveFinished (after_all (first_machine first) es)
