-- A tree of strands, seen at one name, and what it becomes after all forks and joins are made that can be made.
use Rattle.std.specs.Prelude.{◌≡◌, ℕ, Bool, false, List, [], ◌∷◌, Option, Some, None}
use Rattle.cw_tree.specs.declared.picks.Turn.{Turn}
use Rattle.cw_strand.specs.Strands.{Strands, wants_fork}
use Rattle.cw_serial.specs.StrandTree.{StrandTree, stands, waits, side_by, state_at_end, meet, goes_on}

-- the step to the left strand or the right one of a k-th fork
abbrev pub turn_to : ℕ → Bool → Turn
turn_to k b = record { fork = k; right = b }

-- what is at a name: a strand that made this number of forks, at a want; or one that waits for its k-th fork
pub data Spot (A : Type 0) : Type 0 where
  standing : ℕ → A → Spot A
  waiting : ℕ → Spot A

abbrev pub spot : {A : Type 0} → StrandTree A → List Turn → Option (Spot A)
spot (stands k a) [] = Some (standing k a)
spot (stands k a) (x ∷ p) = None
spot (waits k l r) [] = Some (waiting k)
spot (waits k l r) (x ∷ p) = side_by x k (spot l p) (spot r p) None

module _ {A : Type 0} (s : Strands A) where
  -- the tree after all forks and joins are made
  abbrev pub settle : StrandTree A → StrandTree A
  settle (stands k a) = goes_on s k a
  settle (waits k l r) = meet s (goes_on s) k (settle l) (settle r)

  -- two strands of a fork of which at least one has not ended
  abbrev pub Apart : Option A → Option A → Type 0
  Apart (Some x) (Some y) = ⊥
  Apart x y = Unit {0}

  -- No fork and no join can be made.
  abbrev pub IsSettled : StrandTree A → Type 0
  IsSettled (stands k a) = wants_fork (s.want a) ≡ false
  IsSettled (waits k l r) = IsSettled l × IsSettled r × Apart (state_at_end s l) (state_at_end s r)
