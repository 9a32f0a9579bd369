-- What the strands in memory mean, over any law of strands, and whatever is kept of a strand.
use Rattle.std.specs.Prelude.{◌≡◌, ℕ, zero, suc, ◌<◌, Bool, false, true, List, [], ◌∷◌, ◌++◌, length, slice_get, slice_set, Option, Some, None, ◌⊎◌, ◌-◌, Contains}
use Rattle.cw_strand.specs.declared.want.Want.{Want}
use Rattle.cw_strand.specs.declared.want.Want.TheVariants.{Fork}
use Rattle.cw_strand.specs.declared.want.Given.{Given}
use Rattle.cw_strand.specs.Strands.{Strands, is_over, takes_answer}
use Rattle.cw_tree.specs.declared.picks.Name.{Name}
use Rattle.cw_tree.specs.declared.picks.Turn.{Turn}
use Rattle.cw_serial.specs.declared.table.Place.{Place}
use Rattle.cw_serial.specs.declared.table.Place.TheVariants.{Stands, Waits, Gone}
use Rattle.cw_serial.specs.declared.table.Sides.{Sides}
use Rattle.cw_serial.specs.declared.table.Row.{Row}
use Rattle.cw_serial.specs.declared.table.Table.{Table}
use Rattle.cw_serial.specs.StrandTree.{StrandTree}
use Rattle.cw_serial.specs.Machine.{steps_down}
use Rattle.cw_serial.specs.Spots.{Spot, standing, waiting, spot, settle}

-- ## The strands of a tree

abbrev pub root : Name
root = record { parent = 0; fork = 0; right = false }

abbrev pub left_name : ℕ → ℕ → Name
left_name i k = record { parent = i; fork = k; right = false }

abbrev pub right_name : ℕ → ℕ → Name
right_name i k = record { parent = i; fork = k; right = true }

-- the number of one of the two strands of a fork
abbrev pub number_of : Sides → (right : Bool) → ℕ
number_of x true = x.right
number_of x false = x.left

-- the names that were there stay, and others may follow
abbrev pub IsFront : List Name → List Name → Type 0
IsFront names more = (rest : List Name) × (more ≡ names ++ rest)

abbrev pub side_of : Bool → Option Sides → Option ℕ
side_of right None = None
side_of right (Some x) = Some (number_of x right)

-- a strand with this want has come to its end
abbrev pub over_by : Option Want → Bool
over_by None = false
over_by (Some w) = is_over w

-- a strand with this want takes an answer
abbrev pub answers_by : Option Want → Bool
answers_by None = false
answers_by (Some w) = takes_answer w

module _ {S : Type 0} where
  -- The root is number 0. Each other strand is one of the two of a fork of the strand that its name gives, whose number
  -- is smaller. The strands of each fork are numbered.
  pub record StrandsAreNumbered (names : List Name) (rows : List (Row S)) : Type 0 where
    pub same : length names ≡ length rows
    pub first : slice_get names 0 ≡ Some root
    pub forked : (i f : ℕ) (r : Row S) (x : Sides) → slice_get rows i ≡ Some r → slice_get r.forks.items f ≡ Some x
        → (i < x.left) × (i < x.right) × (slice_get names x.left ≡ Some (left_name i (suc f))) × (slice_get names x.right ≡ Some (right_name i (suc f)))
    pub named : (j : ℕ) (n : Name) → slice_get names (suc j) ≡ Some n
        → (r : Row S) × (f : ℕ) × (x : Sides) × (slice_get rows n.parent ≡ Some r) × (n.fork ≡ suc f) × (slice_get r.forks.items f ≡ Some x) × (number_of x n.right ≡ suc j)

  abbrev pub strand_in : Place S → Option S
  strand_in (Stands x) = Some x
  strand_in place = None

  abbrev pub strand_in_row : Option (Row S) → Option S
  strand_in_row None = None
  strand_in_row (Some r) = strand_in r.place

  -- the strand i, if it is at a want or at its end
  abbrev pub strand_at : List (Row S) → ℕ → Option S
  strand_at rows i = strand_in_row (slice_get rows i)

  abbrev pub awaited_in : Place S → List Sides → Option Sides
  awaited_in Waits forks = slice_get forks (length forks - 1)
  awaited_in place forks = None

  abbrev pub awaited_of : Option (Row S) → Option Sides
  awaited_of None = None
  awaited_of (Some r) = awaited_in r.place r.forks.items

  -- the two strands that strand i waits for
  abbrev pub awaited_at : List (Row S) → ℕ → Option Sides
  awaited_at rows i = awaited_of (slice_get rows i)

  abbrev pub started_of : Option (Row S) → (fork : ℕ) → Bool → Option ℕ
  started_of None fork right = None
  started_of (Some r) zero right = None
  started_of (Some r) (suc f) right = side_of right (slice_get r.forks.items f)

  -- the number of a strand, by the fork that started it
  abbrev pub started_at : List (Row S) → Name → Option ℕ
  started_at rows n = started_of (slice_get rows n.parent) n.fork n.right

  -- ## What is done to a table

  -- a strand was added
  pub record Starts (old : Table S) (name : Name) (strand : S) (new : Table S) : Type 0 where
    pub row : Row S
    pub place : row.place ≡ Stands strand
    pub forks : row.forks.items ≡ []
    pub names : new.names.items ≡ old.names.items ++ name ∷ []
    pub rows : new.rows.items ≡ old.rows.items ++ row ∷ []

  -- a strand was put at another place
  pub record Puts (old : Table S) (i : ℕ) (place former : Place S) (new : Table S) : Type 0 where
    pub row : Row S
    pub here : slice_get old.rows.items i ≡ Some row
    pub was : row.place ≡ former
    pub names : new.names ≡ old.names
    pub rows : new.rows.items ≡ slice_set old.rows.items i (record row { place = place })

  -- a strand made one more fork, with the number `fork`
  pub record Notes (old : Table S) (i : ℕ) (sides : Sides) (fork : ℕ) (new : Table S) : Type 0 where
    pub row : Row S
    pub here : slice_get old.rows.items i ≡ Some row
    pub more : Row S
    pub place : more.place ≡ row.place
    pub forks : more.forks.items ≡ row.forks.items ++ sides ∷ []
    pub number : fork ≡ suc (length row.forks.items)
    pub names : new.names ≡ old.names
    pub rows : new.rows.items ≡ slice_set old.rows.items i more

module _ {S A : Type 0} (state : S → A) where
  -- A strand with this number of forks is at this spot of the tree.
  abbrev pub IsSpotAt : Place S → ℕ → Option (Spot A) → Type 0
  IsSpotAt (Stands x) forks (Some (standing k a)) = (forks ≡ k) × (state x ≡ a)
  IsSpotAt Waits forks (Some (waiting k)) = (forks ≡ k) × (0 < k)
  IsSpotAt Gone forks None = Unit {0}
  IsSpotAt place forks at_name = ⊥

  -- The strands in memory are those of the tree, by their names.
  pub record Holds (table : Table S) (t : StrandTree A) : Type 0 where
    pub numbered : StrandsAreNumbered table.names.items table.rows.items
    pub places : (i : ℕ) (p : List Turn) (r : Row S) → steps_down table.names.items i ≡ Some p → slice_get table.rows.items i ≡ Some r
        → IsSpotAt r.place (length r.forks.items) (spot t p)

-- ## What strands in memory want, and what becomes of them

module _ {S A : Type 0} (s : Strands A) (state : S → A) where
  abbrev pub want_of : Option S → Option Want
  want_of None = None
  want_of (Some x) = Some (s.want (state x))

  -- what strand i wants
  abbrev pub want_at : List (Row S) → ℕ → Option Want
  want_at rows i = want_of (strand_at rows i)

  -- strand i has come to its end
  abbrev pub over_at : List (Row S) → ℕ → Bool
  over_at rows i = over_by (want_at rows i)

  -- a strand was answered
  pub record AnswersStrand (old : Table S) (i : ℕ) (given : Given) (new : Table S) : Type 0 where
    pub strand : S
    pub answered : S
    pub former : Place S
    pub one : Table S
    pub gone : Puts old i Gone (Stands strand) one
    pub back : Puts one i (Stands answered) former new
    pub goes_on : state answered ≡ s.answer (state strand) given

  -- a fork is made: its strands have the next two numbers
  pub record Forks (old : Table S) (i : ℕ) (new : Table S) (sides : Sides) : Type 0 where
    pub strand : S
    pub left : S
    pub right : S
    pub fork : ℕ
    pub one : Table S
    pub two : Table S
    pub three : Table S
    pub wants : s.want (state strand) ≡ Fork
    pub left_number : sides.left ≡ length old.names.items
    pub right_number : sides.right ≡ suc (length old.names.items)
    pub waits : Puts old i Waits (Stands strand) one
    pub notes : Notes one i sides fork two
    pub starts_left : Starts two (left_name i fork) left three
    pub starts_right : Starts three (right_name i fork) right new
    pub goes_left : state left ≡ s.left (state strand)
    pub goes_right : state right ≡ s.right (state strand)

  -- the two strands that strand i waits for are joined
  pub record Joins (old : Table S) (i : ℕ) (new : Table S) : Type 0 where
    pub sides : Sides
    pub left : S
    pub right : S
    pub joined : S
    pub one : Table S
    pub two : Table S
    pub awaited : awaited_at old.rows.items i ≡ Some sides
    pub left_over : is_over (s.want (state left)) ≡ true
    pub right_over : is_over (s.want (state right)) ≡ true
    pub left_gone : Puts old sides.left Gone (Stands left) one
    pub right_gone : Puts one sides.right Gone (Stands right) two
    pub goes_on : Puts two i (Stands joined) Waits new
    pub becomes : state joined ≡ s.joined (state right) (state left)

  -- strand i can make no fork, and no join with the other strand of its fork
  pub record Rests (old : Table S) (i : ℕ) : Type 0 where
    pub fork : want_at old.rows.items i ≡ Some Fork → ⊥
    pub join : (n : Name) (sides : Sides) → slice_get old.names.items i ≡ Some n → awaited_at old.rows.items n.parent ≡ Some sides
        → over_at old.rows.items i ≡ true → over_at old.rows.items sides.left ≡ true → over_at old.rows.items sides.right ≡ true → ⊥

  -- a strand is looked at, and what can be done is done; the numbers in `more` are to be looked at then
  pub data Moves (old : Table S) (i : ℕ) (todo : List ℕ) (new : Table S) (more : List ℕ) : Type 0 where
    forks : (sides : Sides) → Forks old i new sides → more ≡ todo ++ sides.left ∷ sides.right ∷ [] → Moves old i todo new more
    joins : (name : Name) → slice_get old.names.items i ≡ Some name → over_at old.rows.items i ≡ true → Joins old name.parent new → more ≡ todo ++ name.parent ∷ [] → Moves old i todo new more
    rests : Rests old i → new ≡ old → more ≡ todo → Moves old i todo new more

  -- if a fork or a join can be made, the number of a strand that makes it is to be looked at
  pub record Quiet (rows : List (Row S)) (todo : List ℕ) : Type 0 where
    pub fork : (i : ℕ) → want_at rows i ≡ Some Fork → Contains todo i
    pub join : (i : ℕ) (x : Sides) → awaited_at rows i ≡ Some x → over_at rows x.left ≡ true → over_at rows x.right ≡ true → Contains todo x.left ⊎ Contains todo x.right

  -- The strands in memory are those of a tree that becomes t when these numbers are looked at.
  pub record SettlesTo (table : Table S) (todo : List ℕ) (t : StrandTree A) : Type 0 where
    pub tree : StrandTree A
    pub holds : Holds state table tree
    pub comes : settle s tree ≡ t
    pub quiet : Quiet table.rows.items todo
