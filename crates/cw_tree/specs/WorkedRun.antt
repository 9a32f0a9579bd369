-- A small run: two strands, each with a block that writes one cell. The second strand's inner block is refused, its
-- outer block is rolled back, and both are done again. Each part of what is kept holds of it, and fails if one thing is
-- changed.
use Rattle.std.specs.Prelude.{ℕ, ℤ, List, [], ◌∷◌, true, false, pos}
use Rattle.cw_code.specs.declared.Back.{Back}
use Rattle.cw_tree.specs.declared.node.Node.{Node}
use Rattle.cw_tree.specs.declared.node.Kind.TheVariants.{Strand, Fork, Write, Read, Tried, Cancel}
use Rattle.cw_tree.specs.declared.access.Entry.{Entry}
use Rattle.cw_tree.specs.declared.conflict.Conflict.{Conflict}
use Rattle.cw_tree.specs.Shape.{IsTree, AreStamps, NonePending}
use Rattle.cw_tree.specs.Journals.{IsJournal, FitsCells, EndedBetween}
use Rattle.cw_tree.specs.Cancels.{AreCancels}
use Rattle.cw_tree.specs.Refusals.{IsRefusal, AreRefusals, Spent}
use Rattle.cw_tree.specs.Histories.{IsHistory}
use Rattle.cw_tree.specs.Worked.{plain, committed, aborted, apart}

abbrev pub two_blocks : List Node
two_blocks =
    plain 0 Strand 0 ∷ plain 0 Fork 1 ∷ plain 1 Strand 0 ∷ committed 2 2 6 ∷ plain 3 (Write 0 (pos 1)) 3 ∷ plain 1 Strand 0 ∷ aborted 5 4 8 ∷ aborted 6 5 7
    ∷ plain 7 (Tried 0) 0 ∷ committed 5 9 13 ∷ committed 9 10 12 ∷ plain 10 (Write 0 (pos 2)) 11 ∷ []

abbrev pub refused_write : Conflict
refused_write = record { cell = 0; last = 3; asker = 8; block = 2; victim = 4; attempt = 1; chain = 3 ∷ [] }

abbrev pub entry : ℕ → ℕ → ℤ → ℤ → Entry
entry column stamp value old = record { mark = record { strand = column; stamp = stamp }; wrote = true; value = value; old = old }

abbrev pub two_writes : List Entry
two_writes = entry 1 3 (pos 1) (pos 0) ∷ entry 2 11 (pos 2) (pos 1) ∷ []

-- the run that finished
pub record AllHold : Type 0 where
  pub history : IsHistory two_blocks (pos 0 ∷ []) (two_writes ∷ []) (refused_write ∷ [])
  pub none_pending : NonePending two_blocks

-- the run that stops at that conflict, with a budget of 1, in the second strand
pub record Stops : Type 0 where
  pub history : IsHistory apart (pos 0 ∷ []) ((entry 1 3 (pos 1) (pos 0) ∷ []) ∷ []) (refused_write ∷ [])
  pub spent : Spent apart (refused_write ∷ []) 1 5

-- a fork with one strand, and a block that ends before what is in it
abbrev pub one_strand : List Node
one_strand = plain 0 Strand 0 ∷ plain 0 Fork 1 ∷ plain 1 Strand 0 ∷ []

abbrev pub early_end : List Node
early_end = plain 0 Strand 0 ∷ committed 0 1 2 ∷ plain 1 (Write 0 (pos 1)) 3 ∷ []

-- a read of a value that was not there
abbrev pub wrong_read : List Node
wrong_read = plain 0 Strand 0 ∷ plain 0 (Read 0 (pos 9)) 1 ∷ []

pub record Breaks : Type 0 where
  pub shape : IsTree one_strand → ⊥
  pub stamps : AreStamps early_end → ⊥
  pub read : IsJournal wrong_read 0 (pos 0) (record { mark = record { strand = 0; stamp = 1 }; wrote = false; value = pos 9; old = pos 0 } ∷ []) → ⊥
  pub value : IsJournal two_blocks 0 (pos 0) (entry 1 3 (pos 1) (pos 0) ∷ entry 2 11 (pos 2) (pos 0) ∷ []) → ⊥
  pub lost : IsJournal two_blocks 0 (pos 0) (entry 1 3 (pos 1) (pos 0) ∷ []) → ⊥
  pub unended : EndedBetween apart 4 8 → ⊥
  pub attempt : IsRefusal two_blocks (record refused_write { attempt = 2 }) 4 3 → ⊥
  pub inner_victim : IsRefusal two_blocks (record refused_write { victim = 5 }) 4 3 → ⊥
  pub own_block : IsRefusal two_blocks (record refused_write { block = 4 }) 4 6 → ⊥
  pub no_conflict : AreRefusals two_blocks [] → ⊥
  pub twice : AreRefusals two_blocks (refused_write ∷ refused_write ∷ []) → ⊥
  pub other_strand : Spent apart (refused_write ∷ []) 1 2 → ⊥
  pub other_budget : Spent apart (refused_write ∷ []) 2 5 → ⊥
  pub other_cell : FitsCells two_blocks 0 → ⊥

-- ## A block that is given up

-- cell n had value v
abbrev pub had : ℕ → ℤ → Back
had n v = record { cell = n; value = v }

-- Cell 1 is written before the block, read in it and written again. A strand in the block writes cell 0 in a block of
-- its own. Another strand writes cell 2 in a block that is rolled back. When it does that block again, it writes cell
-- 0, which was refused at first, and reads cell 3. The outer block is given up, with the list `back`, and then writes
-- cells 0, 1 and 3.
abbrev pub given_up : List Back → List Node
given_up back =
    plain 0 Strand 0 ∷ plain 0 (Write 1 (pos 5)) 1 ∷ committed 0 2 20 ∷ plain 2 (Read 1 (pos 5)) 3 ∷ plain 2 Fork 4 ∷ plain 4 Strand 0
    ∷ plain 4 Strand 0 ∷ committed 5 5 9 ∷ plain 7 (Write 0 (pos 6)) 6 ∷ aborted 6 7 10 ∷ plain 9 (Write 2 (pos 7)) 8 ∷ plain 9 (Tried 0) 0
    ∷ committed 6 11 14 ∷ plain 12 (Write 0 (pos 8)) 12 ∷ plain 12 (Read 3 (pos 4)) 13 ∷ plain 2 (Write 1 (pos 9)) 15 ∷ plain 2 (Cancel back) 16
    ∷ plain 2 (Write 0 (pos 1)) 17 ∷ plain 2 (Write 1 (pos 5)) 18 ∷ plain 2 (Write 3 (pos 0)) 19 ∷ []

abbrev pub one_to_four : List ℤ
one_to_four = pos 1 ∷ pos 2 ∷ pos 3 ∷ pos 4 ∷ []

-- a cancel directly in a strand, and one in a block that is rolled back
abbrev pub no_block : List Node
no_block = plain 0 Strand 0 ∷ plain 0 (Cancel []) 1 ∷ []

abbrev pub rolled_back : List Node
rolled_back = plain 0 Strand 0 ∷ aborted 0 1 3 ∷ plain 1 (Cancel (had 2 (pos 5) ∷ [])) 2 ∷ []

-- The block puts back what its strands wrote, and not what was only read, was rolled back or comes after the cancel.
-- Each value is from before the block's first access, a read or a write.
pub record GivenUp : Type 0 where
  pub right : AreCancels (given_up (had 0 (pos 1) ∷ had 1 (pos 5) ∷ [])) one_to_four
  pub first_value : AreCancels (given_up (had 0 (pos 1) ∷ had 1 (pos 2) ∷ [])) one_to_four → ⊥
  pub present_value : AreCancels (given_up (had 0 (pos 1) ∷ had 1 (pos 9) ∷ [])) one_to_four → ⊥
  pub written_between : AreCancels (given_up (had 0 (pos 6) ∷ had 1 (pos 5) ∷ [])) one_to_four → ⊥
  pub own_alone : AreCancels (given_up (had 1 (pos 5) ∷ [])) one_to_four → ⊥
  pub others_alone : AreCancels (given_up (had 0 (pos 1) ∷ [])) one_to_four → ⊥
  pub none : AreCancels (given_up []) one_to_four → ⊥
  pub rolled_back_too : AreCancels (given_up (had 0 (pos 1) ∷ had 1 (pos 5) ∷ had 2 (pos 3) ∷ [])) one_to_four → ⊥
  pub read_too : AreCancels (given_up (had 0 (pos 1) ∷ had 1 (pos 5) ∷ had 3 (pos 4) ∷ [])) one_to_four → ⊥
  pub exchanged : AreCancels (given_up (had 1 (pos 5) ∷ had 0 (pos 1) ∷ [])) one_to_four → ⊥
  pub outside : AreCancels no_block one_to_four → ⊥
  -- nothing is asked of a cancel that was rolled back
  pub dead : AreCancels rolled_back one_to_four
