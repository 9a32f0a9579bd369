-- What ends do to a deque, and what the deque then holds. Each end has a number.
use Rattle.std.specs.Prelude.{◌≡◌, ℕ, ◌==◌, ◌≤◌, List, [], ◌∷◌, ◌++◌, length, filter, map}
use Rattle.std.specs.List.Sorted.{IsPermutation}
use Rattle.atomic_blocks.specs.Lent.{RowsId}
use mathlib.Core.Option.{some}
use lib.ListN.{get_elem?}
use Rattle.cw_deck.specs.declared.deed.Deed.{Deed}
use Rattle.cw_deck.specs.declared.deed.Deed.TheVariants.{Pushed, Popped, Stolen}

module _ {T : Type 0} where
  -- a push adds a task at the back, a pop removes the last one, a steal the first one
  abbrev pub IsDone : Deed T → (old new : List T) → Type 0
  IsDone (Pushed x) old new = new ≡ old ++ x ∷ []
  IsDone (Popped x) old new = old ≡ new ++ x ∷ []
  IsDone (Stolen x) old new = old ≡ x ∷ new

  -- these deeds, each with the number of its end, lead from the empty deque to one that holds the tasks of the list
  pub data IsHistory : List (ℕ × Deed T) → List T → Type 0 where
    starts : IsHistory [] []
    goes_on : {h : List (ℕ × Deed T)} {old new : List T} (end : ℕ) (d : Deed T) → IsHistory h old → IsDone d old new → IsHistory (h ++ (end, d) ∷ []) new

  -- what one end did
  abbrev pub deeds_of : ℕ → List (ℕ × Deed T) → List (Deed T)
  deeds_of end h = map (λ e. e.1) (filter (λ e. e.0 == end) h)

  -- each end knows exactly its own deeds, and no other end did anything
  pub record AreDeedsOf (h : List (ℕ × Deed T)) (known : List (List (Deed T))) : Type 0 where
    pub each : (end : ℕ) (ds : List (Deed T)) → get_elem? known end ≡ some ds → ds ≡ deeds_of end h
    pub others : (end : ℕ) → length known ≤ end → deeds_of end h ≡ []

  -- the rule of a deque that holds these tasks and whose ends know these deeds: some history has led there
  abbrev pub HasHistory : List T → List (List (Deed T)) → Type 0
  HasHistory tasks known = (h : List (ℕ × Deed T)) × IsHistory h tasks × AreDeedsOf h known

  -- Some history in which an end did just `ds` leaves at most `most` tasks in the deque. That is all: the deeds of one end do not
  -- tell that it looked, since other ends may have done anything. That no call answers `None` without a look is proved over any
  -- rule, in `ruled.rt`.
  abbrev pub MayHold : ℕ → List (Deed T) → Type 0
  MayHold most ds = (h : List (ℕ × Deed T)) × (tasks : List T) × (end : ℕ) × IsHistory h tasks × (ds ≡ deeds_of end h) × (length tasks ≤ most)

  -- ## What was pushed, and what was taken

  abbrev pub pushed_by : Deed T → List T
  pushed_by (Pushed x) = x ∷ []
  pushed_by (Popped x) = []
  pushed_by (Stolen x) = []

  abbrev pub taken_by : Deed T → List T
  taken_by (Pushed x) = []
  taken_by (Popped x) = x ∷ []
  taken_by (Stolen x) = x ∷ []

  -- the tasks of these deeds, one after another
  abbrev pub tasks_of : (Deed T → List T) → List (Deed T) → List T
  tasks_of f [] = []
  tasks_of f (d ∷ ds) = f d ++ tasks_of f ds

  -- counted with repeats, the tasks that were pushed are those popped, those stolen and those left
  abbrev pub IsBalanced : List (Deed T) → List T → Type 0
  IsBalanced ds left = IsPermutation (tasks_of pushed_by ds) (tasks_of taken_by ds ++ left)

  -- the number of pushes among these deeds
  abbrev pub pushes : List (Deed T) → ℕ
  pushes ds = length (tasks_of pushed_by ds)

abbrev pub NoTaskIsLost : (T : Type 0) → Type 0
NoTaskIsLost T = (h : List (ℕ × Deed T)) (tasks : List T) → IsHistory h tasks → IsBalanced (map (λ e. e.1) h) tasks

-- ## What contracts see of an end: which deque it belongs to, and what it did

pub record End (T : Type 0) : Type 0 where
  pub deque : RowsId
  pub deeds : List (Deed T)

-- the end after one more deed
abbrev pub did : {T : Type 0} → End T → Deed T → End T
did e d = record e { deeds = e.deeds ++ d ∷ [] }
