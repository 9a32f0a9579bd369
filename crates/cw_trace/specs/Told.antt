-- What a query reads of a tier and gap words, and the answers that it gets.
use Rattle.std.specs.Prelude.{◌≡◌, ℕ, Bool, List, slice_index, Option}
use Rattle.cw_trace.specs.Columns.{ColumnTable, owner, lead, up, inside}

pub data Read : Type 0 where
  -- the trace of a strand
  Owner : (strand : ℕ) → Read
  -- the gap that leads to a trace's outermost pending block
  Lead : (trace : ℕ) → Read
  -- the nearest trace around a trace that has a pending block
  Up : (trace : ℕ) → Read
  -- the word of a gap
  Word : (gap : ℕ) → Read
  -- whether a trace lies inside another
  Inside : (trace outer : ℕ) → Read

pub data Answer : Type 0 where
  Number : ℕ → Answer
  Maybe : Option ℕ → Answer
  Test : Bool → Answer

-- each answer from before is still an answer later
abbrev pub Stays : (Read → Answer → Type 0) → (Read → Answer → Type 0) → Type 0
Stays told later = (r : Read) (a : Answer) → told r a → later r a

-- the answer that a tier and gap words hold for a read; a number that names nothing reads as 0, None or false
abbrev pub held : ColumnTable → List ℕ → Read → Answer
held c words (Owner i) = Number (owner c i)
held c words (Lead t) = Maybe (lead c t)
held c words (Up t) = Maybe (up c t)
held c words (Word g) = Number (slice_index words g)
held c words (Inside t o) = Test (inside c t o)

abbrev pub HoldsRead : ColumnTable → List ℕ → Read → Answer → Type 0
HoldsRead c words r a = held c words r ≡ a
