-- The law of strands: all that a machine, a record or a replay knows of one. It is given twice: from the syntax tree in
-- `Meaning`, and from compiled code in `Coded`.
use Rattle.std.specs.Prelude.{◌≡◌, ℕ, ℤ, zero, suc, ◌<◌, ◌≤◌, Bool, true, false, List, [], ◌∷◌, Option, Some, None}
use Rattle.cw_strand.specs.declared.want.Want.{Want}
use Rattle.cw_strand.specs.declared.want.Want.TheVariants.{Load, Store, Out, Begin, End, Cancel, Fork, Sync, Done, Fault}
use Rattle.cw_strand.specs.declared.want.Given.{Given}
use Rattle.cw_strand.specs.declared.want.Given.TheVariants.{Nothing, Value, Back as Wrote}
use Rattle.cw_code.specs.declared.Back.{Back}

pub record Strands (A : Type 0) : Type 0 where
  -- how many elements the cells have
  pub elements : ℕ
  -- the strand of main, at its first want
  pub start : A
  -- what a strand needs done before it goes on
  pub want : A → Want
  -- what the strand becomes after its want is answered, at its next want
  pub answer : A → Given → A
  -- the two strands of a fork, each at its first want, from the strand that wants it
  pub left : A → A
  pub right : A → A
  -- what the right strand at its end and the left one at its end become: the strand that forked, at its next want
  pub joined : (right left : A) → A
  -- a bound on how many forks and answers follow each other from here
  pub depth : A → ℕ

-- ## Wants

-- a strand with this want has ended: the right one of a fork at a sync, any other when it is done
abbrev pub is_over : Want → Bool
is_over Sync = true
is_over Done = true
is_over w = false

abbrev pub wants_fork : Want → Bool
wants_fork Fork = true
wants_fork w = false

-- a strand with this want goes on after an answer
abbrev pub takes_answer : Want → Bool
takes_answer Fork = false
takes_answer Sync = false
takes_answer Done = false
takes_answer (Fault k) = false
takes_answer w = true

-- what is to be written back names elements below n, the number of elements of all cells
abbrev pub AreElements : ℕ → List Back → Type 0
AreElements n [] = Unit {0}
AreElements n (b ∷ bs) = (b.cell < n) × AreElements n bs

-- The answer fits the want, if the cells have n elements. A load gets a value, a cancel what is to be written back. A
-- store, an output, and the begin and the end of a block get nothing.
abbrev pub IsAnswer : (elements : ℕ) → Want → Given → Type 0
IsAnswer n (Load c) (Value v) = Unit {0}
IsAnswer n (Store c v) Nothing = Unit {0}
IsAnswer n (Out v) Nothing = Unit {0}
IsAnswer n Begin Nothing = Unit {0}
IsAnswer n End Nothing = Unit {0}
IsAnswer n Cancel (Wrote bs) = AreElements n bs
IsAnswer n w given = ⊥

-- what an access of a cell gives to the strand: a read gets the cell's value, a write nothing
abbrev pub given_for : (write : Option ℤ) → (value : ℤ) → Given
given_for None v = Value v
given_for (Some written) v = Nothing

-- ## Blocks
--
-- The numbers in a list say how many blocks are begun and not ended: first in the strand itself; then, if it is the
-- right one of a fork, in the strand that forked; and so on, up to a left one or that of main.

-- the numbers after a want is answered
abbrev pub own_after : Want → List ℕ → List ℕ
own_after Begin (b ∷ bs) = suc b ∷ bs
own_after End (suc b ∷ bs) = b ∷ bs
own_after w bs = bs

-- What a strand with these numbers of blocks may want: an end or a cancel if it began a block itself; without such a
-- block a sync if it is a right strand, and to be done if it is any other; all else at any time.
abbrev pub MayWant : Want → List ℕ → Type 0
MayWant End (suc b ∷ bs) = Unit {0}
MayWant End bs = ⊥
MayWant Cancel (suc b ∷ bs) = Unit {0}
MayWant Cancel bs = ⊥
MayWant Sync (zero ∷ b ∷ bs) = Unit {0}
MayWant Sync bs = ⊥
MayWant Done (zero ∷ []) = Unit {0}
MayWant Done bs = ⊥
MayWant w bs = Unit {0}

-- ## Runs of strands

module _ {A : Type 0} (s : Strands A) where
  -- From one want of a strand to a later one of the same strand. Each want gets an answer that it takes. If the strand
  -- forks, both strands of the fork come to their ends and are joined.
  pub data GoesTo : List ℕ → A → List ℕ → A → Type 0 where
    stays : {own : List ℕ} {a : A} → GoesTo own a own a
    answered : {from own : List ℕ} {a b : A} → GoesTo from a own b → (given : Given) → IsAnswer s.elements (s.want b) given → GoesTo from a (own_after (s.want b) own) (s.answer b given)
    joins : {from own beside : List ℕ} {n : ℕ} {a b left right : A} → GoesTo from a own b → s.want b ≡ Fork
        → GoesTo (0 ∷ []) (s.left b) beside left → is_over (s.want left) ≡ true
        → GoesTo (0 ∷ own) (s.right b) (n ∷ own) right → is_over (s.want right) ≡ true
        → GoesTo from a own (s.joined right left)

  -- What the strands of a run may become: that of main, and the two of each fork.
  pub data Reached : List ℕ → A → Type 0 where
    of_main : {own : List ℕ} {a : A} → GoesTo (0 ∷ []) s.start own a → Reached own a
    of_left : {above own : List ℕ} {f a : A} → Reached above f → s.want f ≡ Fork → GoesTo (0 ∷ []) (s.left f) own a → Reached own a
    of_right : {above own : List ℕ} {f a : A} → Reached above f → s.want f ≡ Fork → GoesTo (0 ∷ above) (s.right f) own a → Reached own a

  -- The depth falls at each fork, on both sides, and at each answer. It does not rise at a join.
  pub record IsDeep : Type 0 where
    pub left : (a : A) → s.want a ≡ Fork → s.depth (s.left a) < s.depth a
    pub right : (a : A) → s.want a ≡ Fork → s.depth (s.right a) < s.depth a
    pub answer : (a : A) (given : Given) → takes_answer (s.want a) ≡ true → s.depth (s.answer a given) < s.depth a
    pub joined : (right left : A) → s.depth (s.joined right left) ≤ s.depth right

  -- A block ends in the strand that began it, and a strand ends only after its own blocks.
  abbrev pub Closes : Type 0
  Closes = (own : List ℕ) (a : A) → Reached own a → MayWant (s.want a) own

  -- The law: what holds of the strands of every program that may be run.
  pub record IsLawful : Type 0 where
    pub deep : IsDeep
    pub closes : Closes
