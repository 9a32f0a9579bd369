-- Small sheets that are sound, and the first part that breaks if one thing in them is changed.
use Rattle.std.specs.Prelude.{ℕ, ℤ, pos, negsuc, List, [], ◌∷◌, codes, take}
use Rattle.cw_text.specs.declared.ast.Op.TheVariants.{Add, Div, Sub}
use Rattle.cw_text.specs.Grammar.{word_at}
use Rattle.cw_text.specs.Syntax.{Block, empty, first, Declaration, cell, func, Statement, assign, atomic, cancel, declare, out, spawn, Term, binary, name, number}
use Rattle.cw_code.specs.declared.FaultKind.{FaultKind}
use Rattle.cw_code.specs.declared.FaultKind.TheVariants.{Zero, Overflow}
use Rattle.cw_code.specs.Ranges.{default_limits}
use Rattle.cw_tree.specs.declared.conflict.Conflict.{Conflict}
use Rattle.cw_tree.specs.declared.node.Node.{Node}
use Rattle.cw_tree.specs.declared.node.Kind.TheVariants.{Strand, Fork, Read, Write, Out, Tried, Cancel}
use Rattle.cw_tree.specs.Worked.{plain, pending, committed, aborted, apart}
use Rattle.cw_tree.specs.WorkedRun.{refused_write, had}
use Rattle.cw_record.specs.declared.record_end.RecordEnd.{RecordEnd}
use Rattle.cw_record.specs.declared.record_end.RecordEnd.TheVariants.{Finished, Fault, Budget, Moves}
use Rattle.cw_record.specs.WorkedEnds.{divided, refused_in_block}
use Rattle.cw_sheet.specs.Contents.{Contents}
use Rattle.cw_sheet.specs.Worked.{one_strand_run, one_strand_tree}
use Rattle.cw_audit.specs.declared.findings.Audit.TheVariants.{Sound, Broken}
use Rattle.cw_audit.specs.Audits.{IsAudit}

-- ## Sources, all on line 1

abbrev pub block : List Statement → Block
block [] = empty
block (s ∷ ss) = first s (block ss)

abbrev pub main_with : List Statement → Declaration
main_with ss = func (codes "main") 1 [] (block ss)

-- a cell with its first value, what the cell holds, and an assignment
abbrev pub cell_with : List ℕ → ℤ → Declaration
cell_with x v = cell x 1 0 v

abbrev pub held_by : List ℕ → Term
held_by x = name (word_at x 1)

abbrev pub sets : List ℕ → Term → Statement
sets x e = assign (word_at x 1) e

-- ## Two writers
--
-- cell c; fn main() { spawn { atomic { c = 1; } } atomic { atomic { c = 2; } } }
--
-- The right strand is refused in its inner block, its outer block is rolled back, and both are done again.

abbrev pub writers_source : List Declaration
writers_source =
    cell_with (codes "c") (pos 0)
    ∷ main_with (
    spawn (block (atomic (block (sets (codes "c") (number (pos 1)) ∷ [])) ∷ []))
    ∷ atomic (block (atomic (block (sets (codes "c") (number (pos 2)) ∷ [])) ∷ []))
    ∷ [])
    ∷ []

-- the tree with this stamp of the fork, this block of the left strand, this inner block at the first attempt, and this last write
abbrev pub writers_tree : (fork : ℕ) (left inner last : Node) → List Node
writers_tree fork left inner last =
    plain 0 Strand 0 ∷ plain 0 Fork fork ∷ plain 1 Strand 0 ∷ left ∷ plain 3 (Write 0 (pos 1)) 3 ∷ plain 1 Strand 0 ∷ aborted 5 4 8 ∷ inner
    ∷ plain 7 (Tried 0) 0 ∷ committed 5 9 13 ∷ committed 9 10 12 ∷ last ∷ []

abbrev pub last_write : (element : ℕ) → ℤ → Node
last_write c v = plain 10 (Write c v) 11

abbrev pub writers : List Node → List Conflict → RecordEnd → Contents
writers t cs e = record { source = record { language = 1; items = writers_source }; words = []; limits = default_limits; tree = t; conflicts = cs; end = e }

abbrev pub in_writers : List Node → Contents
in_writers t = writers t (refused_write ∷ []) (Finished (pos 2 ∷ []) [])

abbrev pub writers_run : List Node
writers_run = writers_tree 1 (committed 2 2 6) (aborted 6 5 7) (last_write 0 (pos 2))

abbrev pub two_writers : Contents
two_writers = in_writers writers_run

-- the same run with this end
abbrev pub ended_with : (memory outputs : List ℤ) → Contents
ended_with memory outputs = writers writers_run (refused_write ∷ []) (Finished memory outputs)

-- the same run, stopped at the refusal by a budget of 1 in the right strand
abbrev pub stopped_by : (budget strand : ℕ) → Contents
stopped_by budget strand = record (writers apart (refused_write ∷ []) (Budget strand)) { limits = record default_limits { aborts = budget } }

-- ## One strand
--
-- cell c; fn main() { c = c + 1; out c; }

-- its tree with another value written
abbrev pub writes_other : List Node
writes_other = plain 0 Strand 0 ∷ plain 0 (Read 0 (pos 0)) 1 ∷ plain 0 (Write 0 (pos 7)) 2 ∷ plain 0 (Read 0 (pos 1)) 3 ∷ plain 0 (Out (pos 1)) 4 ∷ []

abbrev pub one_strand : List Node → RecordEnd → Contents
one_strand t e = record one_strand_run { tree = t; end = e }

-- ## A block that gives up
--
-- language 2; cell c = 5; fn main() { atomic { c = 9; out c; cancel; out 1; } out c; }

abbrev pub giver_source : List Declaration
giver_source =
    cell_with (codes "c") (pos 5)
    ∷ main_with (
    atomic (block (sets (codes "c") (number (pos 9)) ∷ out (held_by (codes "c")) ∷ cancel 1 ∷ out (number (pos 1)) ∷ []))
    ∷ out (held_by (codes "c"))
    ∷ [])
    ∷ []

-- the block puts back a value as its list says, writes one, and the strand then sees one
abbrev pub giver_tree : (listed wrote seen : ℤ) → List Node
giver_tree listed wrote seen =
    plain 0 Strand 0 ∷ committed 0 1 7 ∷ plain 1 (Write 0 (pos 9)) 2 ∷ plain 1 (Read 0 (pos 9)) 3 ∷ plain 1 (Out (pos 9)) 4
    ∷ plain 1 (Cancel (had 0 listed ∷ [])) 5 ∷ plain 1 (Write 0 wrote) 6 ∷ plain 0 (Read 0 seen) 8 ∷ plain 0 (Out seen) 9 ∷ []

abbrev pub giver : (listed wrote seen : ℤ) → Contents
giver listed wrote seen = record {
  source = record { language = 2; items = giver_source };
  words = [];
  limits = default_limits;
  tree = giver_tree listed wrote seen;
  conflicts = [];
  end = Finished (seen ∷ []) (pos 9 ∷ seen ∷ []);
}

-- ## A block with two strands that gives up
--
-- language 2; cell a = 1; cell b = 2; fn main() { atomic { spawn { a = 7; } atomic { b = 8; } cancel; } }

abbrev pub givers_source : List Declaration
givers_source =
    cell_with (codes "a") (pos 1)
    ∷ cell_with (codes "b") (pos 2)
    ∷ main_with (
    atomic (block (
    spawn (block (sets (codes "a") (number (pos 7)) ∷ []))
    ∷ atomic (block (sets (codes "b") (number (pos 8)) ∷ []))
    ∷ cancel 1
    ∷ []))
    ∷ [])
    ∷ []

abbrev pub givers_tree : List Node
givers_tree =
    plain 0 Strand 0 ∷ committed 0 1 10 ∷ plain 1 Fork 2 ∷ plain 2 Strand 0 ∷ plain 3 (Write 0 (pos 7)) 3 ∷ plain 2 Strand 0 ∷ committed 5 4 6
    ∷ plain 6 (Write 1 (pos 8)) 5 ∷ plain 1 (Cancel (had 0 (pos 1) ∷ had 1 (pos 2) ∷ [])) 7 ∷ plain 1 (Write 0 (pos 1)) 8
    ∷ plain 1 (Write 1 (pos 2)) 9 ∷ []

abbrev pub two_givers : Contents
two_givers = record {
  source = record { language = 2; items = givers_source };
  words = [];
  limits = default_limits;
  tree = givers_tree;
  conflicts = [];
  end = Finished (pos 1 ∷ pos 2 ∷ []) [];
}

-- ## An attempt that is rolled back after it gave up
--
-- language 2; cell c; cell d; fn main() { spawn { atomic { c = 1; } } atomic { d = d + 1; cancel; } }
--
-- In the first attempt of the right strand d was read as 100, and a list was given that names an element that is not there. Both are
-- free in an attempt that is rolled back: the strand only has to do what follows from them.

abbrev pub undone_source : List Declaration
undone_source =
    cell_with (codes "c") (pos 0)
    ∷ cell_with (codes "d") (pos 0)
    ∷ main_with (
    spawn (block (atomic (block (sets (codes "c") (number (pos 1)) ∷ [])) ∷ []))
    ∷ atomic (block (sets (codes "d") (binary Add (held_by (codes "d")) (number (pos 1))) ∷ cancel 1 ∷ []))
    ∷ [])
    ∷ []

-- the first attempt writes this value
abbrev pub undone_tree : (wrote : ℤ) → List Node
undone_tree wrote =
    plain 0 Strand 0 ∷ plain 0 Fork 1 ∷ plain 1 Strand 0 ∷ committed 2 2 8 ∷ plain 3 (Write 0 (pos 1)) 3 ∷ plain 1 Strand 0
    ∷ aborted 5 4 9 ∷ plain 6 (Read 1 (pos 100)) 5 ∷ plain 6 (Write 1 wrote) 6 ∷ plain 6 (Cancel (had 0 (pos 5) ∷ had 7 (pos 5) ∷ [])) 7 ∷ plain 6 (Tried 0) 0
    ∷ committed 5 10 15 ∷ plain 11 (Read 1 (pos 0)) 11 ∷ plain 11 (Write 1 (pos 1)) 12 ∷ plain 11 (Cancel (had 1 (pos 0) ∷ [])) 13 ∷ plain 11 (Write 1 (pos 0)) 14 ∷ []

abbrev pub refused_store : Conflict
refused_store = record { cell = 0; last = 3; asker = 10; block = 2; victim = 4; attempt = 1; chain = 3 ∷ [] }

abbrev pub undone : (wrote : ℤ) → Contents
undone wrote = record {
  source = record { language = 2; items = undone_source };
  words = [];
  limits = default_limits;
  tree = undone_tree wrote;
  conflicts = refused_store ∷ [];
  end = Finished (pos 1 ∷ pos 0 ∷ []) [];
}

-- ## A fault in a block that another strand was about to have rolled back
--
-- cell c; cell d; fn main() { spawn { atomic { c = 1; c = 2; } } atomic { spawn { c = 3; } d = 1 / d; } }

abbrev pub divider_source : List Declaration
divider_source =
    cell_with (codes "c") (pos 0)
    ∷ cell_with (codes "d") (pos 0)
    ∷ main_with (
    spawn (block (atomic (block (sets (codes "c") (number (pos 1)) ∷ sets (codes "c") (number (pos 2)) ∷ [])) ∷ []))
    ∷ atomic (block (
    spawn (block (sets (codes "c") (number (pos 3)) ∷ []))
    ∷ sets (codes "d") (binary Div (number (pos 1)) (held_by (codes "d")))
    ∷ []))
    ∷ [])
    ∷ []

-- the block of the right strand, and the fault at which the strand in it stopped
abbrev pub divider : Node → FaultKind → Contents
divider b kind = record {
  source = record { language = 1; items = divider_source };
  words = [];
  limits = default_limits;
  tree = divided b (pos 0);
  conflicts = refused_in_block ∷ [];
  end = Fault 10 kind;
}

-- ## An attempt that is rolled back at its own end
--
-- cell c; cell d;
-- fn main() {
--     spawn { atomic { c = 1; } }
--     atomic { spawn { atomic { spawn { d = 1; } c = 2; } } atomic { d = 3; } }
-- }
--
-- No run leaves this tree: the strand of the victim has come to the end of its block. An audit does not ask how a tree came about.

abbrev pub nested_source : List Declaration
nested_source =
    cell_with (codes "c") (pos 0)
    ∷ cell_with (codes "d") (pos 0)
    ∷ main_with (
    spawn (block (atomic (block (sets (codes "c") (number (pos 1)) ∷ [])) ∷ []))
    ∷ atomic (block (
    spawn (block (atomic (block (spawn (block (sets (codes "d") (number (pos 1)) ∷ [])) ∷ sets (codes "c") (number (pos 2)) ∷ [])) ∷ []))
    ∷ atomic (block (sets (codes "d") (number (pos 3)) ∷ []))
    ∷ []))
    ∷ [])
    ∷ []

abbrev pub nested_tree : List Node
nested_tree =
    plain 0 Strand 0 ∷ plain 0 Fork 1 ∷ plain 1 Strand 0 ∷ committed 2 2 10 ∷ plain 3 (Write 0 (pos 1)) 3 ∷ plain 1 Strand 0
    ∷ aborted 5 4 31 ∷ plain 6 Fork 5 ∷ plain 7 Strand 0
    ∷ aborted 8 6 19 ∷ plain 9 Fork 7 ∷ plain 10 Strand 0 ∷ plain 11 (Tried 1) 0 ∷ plain 10 Strand 0 ∷ plain 13 (Tried 0) 0
    ∷ committed 8 20 26 ∷ plain 15 Fork 21 ∷ plain 16 Strand 0 ∷ plain 17 (Write 1 (pos 1)) 22 ∷ plain 16 Strand 0 ∷ plain 19 (Write 0 (pos 2)) 23
    ∷ plain 7 Strand 0 ∷ committed 21 8 30 ∷ plain 22 (Write 1 (pos 3)) 9
    ∷ pending 5 32 ∷ []

abbrev pub of_inner : Conflict
of_inner = record { cell = 1; last = 9; asker = 12; block = 8; victim = 6; attempt = 1; chain = 9 ∷ [] }

abbrev pub of_outer : Conflict
of_outer = record { cell = 0; last = 3; asker = 14; block = 2; victim = 4; attempt = 1; chain = 3 ∷ [] }

abbrev pub nested : Contents
nested = record {
  source = record { language = 1; items = nested_source };
  words = [];
  limits = default_limits;
  tree = nested_tree;
  conflicts = of_inner ∷ of_outer ∷ [];
  end = Moves;
}

-- ## A history of another runtime, stamped in two ways: each begin, access and end as it came, or all of a block at its commit
--
-- cell c; fn main() { spawn { atomic { let x = c; } } atomic { let x = c; } }

abbrev pub readers_source : List Declaration
readers_source =
    let reads : Statement = atomic (block (declare (word_at (codes "x") 1) (held_by (codes "c")) ∷ [])) in
    cell_with (codes "c") (pos 0) ∷ main_with (spawn (block (reads ∷ [])) ∷ reads ∷ []) ∷ []

-- the blocks of the left strand and the right one, each with the stamp of its read
abbrev pub readers : (left : Node) (left_read : ℕ) (right : Node) (right_read : ℕ) → Contents
readers left a right b = record {
  source = record { language = 1; items = readers_source };
  words = [];
  limits = default_limits;
  tree =
      plain 0 Strand 0 ∷ plain 0 Fork 1 ∷ plain 1 Strand 0 ∷ left ∷ plain 3 (Read 0 (pos 0)) a ∷ plain 1 Strand 0 ∷ right ∷ plain 6 (Read 0 (pos 0)) b ∷ [];
  conflicts = [];
  end = Finished (pos 0 ∷ []) [];
}

-- cell c; fn main() { spawn { atomic { c = c + 1; } } atomic { c = c + 1; } }

abbrev pub adders_source : List Declaration
adders_source =
    let adds : Statement = atomic (block (sets (codes "c") (binary Add (held_by (codes "c")) (number (pos 1))) ∷ [])) in
    cell_with (codes "c") (pos 0) ∷ main_with (spawn (block (adds ∷ [])) ∷ adds ∷ []) ∷ []

-- Both read 0 and write 1, at these stamps.
abbrev pub adders : (left : Node) (left_read left_write : ℕ) (right : Node) (right_read right_write : ℕ) → Contents
adders left a b right c d = record {
  source = record { language = 1; items = adders_source };
  words = [];
  limits = default_limits;
  tree =
      plain 0 Strand 0 ∷ plain 0 Fork 1 ∷ plain 1 Strand 0 ∷ left ∷ plain 3 (Read 0 (pos 0)) a ∷ plain 3 (Write 0 (pos 1)) b
      ∷ plain 1 Strand 0 ∷ right ∷ plain 7 (Read 0 (pos 0)) c ∷ plain 7 (Write 0 (pos 1)) d ∷ [];
  conflicts = [];
  end = Finished (pos 1 ∷ []) [];
}

-- ## A block without statements
--
-- fn main() { atomic { } }

abbrev pub blank : Node → Contents
blank b = record {
  source = record { language = 1; items = main_with (atomic empty ∷ []) ∷ [] };
  words = [];
  limits = default_limits;
  tree = plain 0 Strand 0 ∷ b ∷ [];
  conflicts = [];
  end = Finished [] [];
}

-- ## Words
--
-- fn main(a, b) { out a - b; }

abbrev pub subtracts : List ℤ → Contents
subtracts words = record {
  source = record {
    language = 1;
    items = func (codes "main") 1 (word_at (codes "a") 1 ∷ word_at (codes "b") 1 ∷ []) (block (out (binary Sub (held_by (codes "a")) (held_by (codes "b"))) ∷ [])) ∷ [];
  };
  words = words;
  limits = default_limits;
  tree = plain 0 Strand 0 ∷ plain 0 (Out (pos 12)) 1 ∷ [];
  conflicts = [];
  end = Finished [] (pos 12 ∷ []);
}

-- ## What is sound

pub record SoundSheets : Type 0 where
  pub finished : IsAudit two_writers Sound
  -- a fork's stamp may exceed those in its strands
  pub late_fork : IsAudit (in_writers (writers_tree 14 (committed 2 2 6) (aborted 6 5 7) (last_write 0 (pos 2)))) Sound
  pub stopped : IsAudit (stopped_by 1 5) Sound
  pub counted : IsAudit one_strand_run Sound
  -- the moves were used up before the output
  pub cut_off : IsAudit (one_strand (take 4 one_strand_tree) Moves) Sound
  pub given_up : IsAudit (giver (pos 5) (pos 5) (pos 5)) Sound
  pub both_given_up : IsAudit two_givers Sound
  pub rolled_back : IsAudit (undone (pos 101)) Sound
  pub faulted : IsAudit (divider (pending 5 4) Zero) Sound
  pub own_end : IsAudit nested Sound
  -- two readers that overlapped, stamped at their commits
  pub readers_by_commits : IsAudit (readers (committed 2 2 4) 3 (committed 5 5 7) 6) Sound
  pub words : IsAudit (subtracts (pos 7 ∷ negsuc 4 ∷ [])) Sound

-- ## What breaks

pub record BrokenSheets : Type 0 where
  -- a block ends at the stamp of its write; a pending block has an end
  pub same_stamp : IsAudit (in_writers (writers_tree 1 (committed 2 2 3) (aborted 6 5 7) (last_write 0 (pos 2)))) (Broken 1)
  pub pending_end : IsAudit (in_writers (writers_tree 1 (record (pending 2 2) { end = 6 }) (aborted 6 5 7) (last_write 0 (pos 2)))) (Broken 1)
  -- a write of a cell that is not there; a read of what was not written
  pub no_cell : IsAudit (in_writers (writers_tree 1 (committed 2 2 6) (aborted 6 5 7) (last_write 1 (pos 2)))) (Broken 2)
  pub other_read : IsAudit (one_strand writes_other (Finished (pos 1 ∷ []) (pos 1 ∷ []))) (Broken 2)
  pub written_back : IsAudit (giver (pos 6) (pos 6) (pos 5)) (Broken 2)
  -- the left strand's block ends after the right strand wrote the cell
  pub late_end : IsAudit (in_writers (writers_tree 1 (committed 2 2 14) (aborted 6 5 7) (last_write 0 (pos 2)))) (Broken 3)
  -- the same two readers, stamped as they came: a read keeps other blocks away, too
  pub readers_by_clock : IsAudit (readers (committed 2 2 6) 4 (committed 5 3 7) 5) (Broken 3)
  -- a lost update, stamped at the commits and as it came
  pub lost_by_commits : IsAudit (adders (committed 2 2 5) 3 4 (committed 6 6 9) 7 8) (Broken 2)
  pub lost_by_clock : IsAudit (adders (committed 2 2 8) 4 6 (committed 6 3 9) 5 7) (Broken 3)
  -- a refused access without a conflict; a conflict without a chain; a budget that was not spent, or not by this strand
  pub no_conflict : IsAudit (writers writers_run [] (Finished (pos 2 ∷ []) [])) (Broken 4)
  pub no_chain : IsAudit (writers writers_run (record refused_write { chain = [] } ∷ []) (Finished (pos 2 ∷ []) [])) (Broken 4)
  pub unspent : IsAudit (stopped_by 2 5) (Broken 4)
  pub other_strand : IsAudit (stopped_by 1 2) (Broken 4)
  -- the conflict tells of another asker, of the inner block as the victim, or of another attempt
  pub other_asker : IsAudit (writers writers_run (record refused_write { asker = 7 } ∷ []) (Finished (pos 2 ∷ []) [])) (Broken 4)
  pub inner_victim : IsAudit (writers writers_run (record refused_write { victim = 5 } ∷ []) (Finished (pos 2 ∷ []) [])) (Broken 4)
  pub other_attempt : IsAudit (writers writers_run (record refused_write { attempt = 2 } ∷ []) (Finished (pos 2 ∷ []) [])) (Broken 4)
  -- a word too many; a limit out of range; an end at what is no strand
  pub word : IsAudit (record two_writers { words = pos 7 ∷ [] }) (Broken 5)
  pub no_fuel : IsAudit (record two_writers { limits = record default_limits { fuel = 0 } }) (Broken 5)
  pub many_strands : IsAudit (record two_writers { limits = record default_limits { strands = 1000001 } }) (Broken 5)
  pub much_fuel : IsAudit (record two_writers { limits = record default_limits { fuel = 1000000001 } }) (Broken 5)
  pub large_size : IsAudit (record two_writers { limits = record default_limits { size = 10000001 } }) (Broken 5)
  pub many_aborts : IsAudit (record two_writers { limits = record default_limits { aborts = 1000000001 } }) (Broken 5)
  pub many_moves : IsAudit (record two_writers { limits = record default_limits { moves = 1000000001 } }) (Broken 5)
  pub no_strand : IsAudit (stopped_by 1 3) (Broken 5)
  -- a block is pending inside one that was rolled back
  pub pending_inside : IsAudit (writers (writers_tree 1 (committed 2 2 6) (pending 6 5) (last_write 0 (pos 2))) (refused_write ∷ []) Moves) (Broken 5)
  -- what was written, or written back, is not what the strand wants to write, in an attempt that is rolled back too
  pub other_write : IsAudit (in_writers (writers_tree 1 (committed 2 2 6) (aborted 6 5 7) (last_write 0 (pos 3)))) (Broken 5)
  pub other_list : IsAudit (giver (pos 6) (pos 5) (pos 5)) (Broken 5)
  pub undone_write : IsAudit (undone (pos 9)) (Broken 5)
  -- words in another order, with which another output is wanted
  pub other_words : IsAudit (subtracts (negsuc 4 ∷ pos 7 ∷ [])) (Broken 5)
  -- the strand is at another fault; it is at its fault, but the block around it was rolled back
  pub other_fault : IsAudit (divider (pending 5 4) Overflow) (Broken 5)
  pub undone_fault : IsAudit (divider (aborted 5 4 7) Zero) (Broken 6)
  -- a run that finished with a pending block, and with a strand that has not ended
  pub open_block : IsAudit (blank (pending 0 1)) (Broken 6)
  pub not_ended : IsAudit (one_strand (take 4 one_strand_tree) (Finished (pos 1 ∷ []) [])) (Broken 6)
  -- another memory, and one cell too many
  pub other_memory : IsAudit (ended_with (pos 3 ∷ []) []) (Broken 6)
  pub more_memory : IsAudit (ended_with (pos 2 ∷ pos 0 ∷ []) []) (Broken 6)
  -- the list of a cancel is followed, but is not what the block has to put back
  pub wrong_list : IsAudit (giver (pos 6) (pos 6) (pos 6)) (Broken 7)
  -- outputs that were not made, and one that is left out
  pub more_outputs : IsAudit (ended_with (pos 2 ∷ []) (pos 1 ∷ [])) (Broken 8)
  pub fewer_outputs : IsAudit (one_strand one_strand_tree (Finished (pos 1 ∷ []) [])) (Broken 8)
