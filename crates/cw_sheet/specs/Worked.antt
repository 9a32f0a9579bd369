-- Examples: the texts of small sheets.
use Rattle.std.specs.Prelude.{◌≡◌, ℕ, ◌-◌, ℤ, pos, negsuc, List, [], ◌∷◌, ◌++◌, codes, drop, take, None, Result, Ok, Err}
use Rattle.std.specs.List.{flat_map}
use Rattle.cw_text.specs.declared.ast.Op.TheVariants.{Add}
use Rattle.cw_text.specs.Grammar.{word_at}
use Rattle.cw_text.specs.Lexemes.{keywords, lexemes}
use Rattle.cw_text.specs.Text.{language_of, source_in}
use Rattle.cw_text.specs.Syntax.{Declaration, Term, name, number, binary, assign, out, empty, first, cell, func}
use Rattle.cw_code.specs.declared.Back.{Back}
use Rattle.cw_code.specs.declared.FaultKind.TheVariants.{Fuel}
use Rattle.cw_code.specs.declared.Limits.{Limits}
use Rattle.cw_tree.specs.declared.node.Node.{Node}
use Rattle.cw_tree.specs.declared.node.BlockState.TheVariants.{Pending}
use Rattle.cw_tree.specs.declared.node.Kind.TheVariants.{Strand, Block, Read, Write, Out, Cancel}
use Rattle.cw_tree.specs.Worked.{plain}
use Rattle.cw_tree.specs.WorkedRun.{refused_write, two_blocks}
use Rattle.cw_record.specs.declared.record_end.RecordEnd.TheVariants.{Finished, Fault, Budget, Moves}
use Rattle.cw_sheet.specs.declared.sheet.SheetKind.{SheetKind}
use Rattle.cw_sheet.specs.declared.sheet.SheetKind.TheVariants.{Unexpected, BadNumber, BadTree, BadSource}
use Rattle.cw_sheet.specs.declared.sheet.SheetFault.{SheetFault}
use Rattle.cw_sheet.specs.Contents.{Contents}
use Rattle.cw_sheet.specs.Items.{Place, Taken, took, refused}
use Rattle.cw_sheet.specs.Reading.{behind_source, cancel_node, canonical, conflicts, heading, judged_sheet, misplaced, node, nodes, run_end, source, values}
use Rattle.cw_sheet.specs.SheetText.{conflicts_part, end_part, line, node_line, nodes_part, sheet_text, words_line}

abbrev pub lines : List (List ℕ) → List ℕ
lines texts = flat_map (λ text. text ++ 10 ∷ []) texts

abbrev pub defaults : Limits
defaults = record { fuel = 1000000; size = 1000000; aborts = 100000; strands = 262144; moves = 10000000 }

-- ## One strand that adds 1 to a cell and outputs it

-- the cell's value, named on a line
abbrev pub c_on : (line : ℕ) → Term
c_on l = name (word_at (codes "c") l)

abbrev pub one_strand_source : List Declaration
one_strand_source =
    cell (codes "c") 1 0 (pos 0)
    ∷ func (codes "main") 2 [] (first (assign (word_at (codes "c") 3) (binary Add (c_on 3) (number (pos 1)))) (first (out (c_on 4)) empty))
    ∷ []

abbrev pub one_strand_tree : List Node
one_strand_tree = plain 0 Strand 0 ∷ plain 0 (Read 0 (pos 0)) 1 ∷ plain 0 (Write 0 (pos 1)) 2 ∷ plain 0 (Read 0 (pos 1)) 3 ∷ plain 0 (Out (pos 1)) 4 ∷ []

abbrev pub one_strand_run : Contents
one_strand_run = record {
  source = record { language = 1; items = one_strand_source };
  words = [];
  limits = defaults;
  tree = one_strand_tree;
  conflicts = [];
  end = Finished (pos 1 ∷ []) (pos 1 ∷ []);
}

abbrev pub one_strand_lines : List (List ℕ)
one_strand_lines =
    codes "cwstm record 1" ∷ codes "source 45" ∷ codes "cell c ;" ∷ codes "fn main ( ) {" ∷ codes "c = c + 1 ;" ∷ codes "out c ;" ∷ codes "}"
    ∷ codes "words" ∷ codes "limits 1000000 1000000 100000 262144 10000000"
    ∷ codes "nodes 5" ∷ codes "strand 0" ∷ codes "read 0 1 0 0" ∷ codes "write 0 2 0 1" ∷ codes "read 0 3 0 1" ∷ codes "out 0 4 1"
    ∷ codes "conflicts 0" ∷ codes "finished" ∷ codes "memory 1" ∷ codes "outputs 1" ∷ codes "end record" ∷ []

abbrev pub one_strand_text : List ℕ
one_strand_text = lines one_strand_lines

-- ## Two strands, of which one is refused, and a cancelled block

abbrev pub two_blocks_lines : List ℕ
two_blocks_lines = lines
    (codes "nodes 12" ∷ codes "strand 0" ∷ codes "fork 0 1" ∷ codes "strand 1" ∷ codes "block 2 2 committed 6" ∷ codes "write 3 3 0 1"
    ∷ codes "strand 1" ∷ codes "block 5 4 aborted 8" ∷ codes "block 6 5 aborted 7" ∷ codes "tried 7 0"
    ∷ codes "block 5 9 committed 13" ∷ codes "block 9 10 committed 12" ∷ codes "write 10 11 0 2" ∷ [])

abbrev pub back_of : ℕ → ℤ → Back
back_of k v = record { cell = k; value = v }

-- ## What is computed

pub record Texts : Type 0 where
  pub whole : sheet_text one_strand_run ≡ one_strand_text
  pub nodes : nodes_part two_blocks ≡ two_blocks_lines
  pub conflicts : conflicts_part (refused_write ∷ []) ≡ lines (codes "conflicts 1" ∷ codes "0 3 8 2 4 1 3" ∷ [])
  pub cancel : node_line (plain 1 (Cancel (back_of 0 (pos 5) ∷ [])) 5) ≡ line (codes "cancel 1 5 1 0 5") []
  pub cancels : node_line (plain 1 (Cancel (back_of 0 (pos 1) ∷ back_of 1 (negsuc 1) ∷ [])) 7) ≡ line (codes "cancel 1 7 2 0 1 1 -2") []
  pub no_cancels : node_line (plain 1 (Cancel []) 7) ≡ line (codes "cancel 1 7 0") []
  pub words : words_line (pos 7 ∷ negsuc 4 ∷ []) ≡ line (codes "words 7 -5") []
  pub finished : end_part (Finished [] []) ≡ lines (codes "finished" ∷ codes "memory" ∷ codes "outputs" ∷ [])
  pub fault : end_part (Fault 0 Fuel) ≡ line (codes "fault 0 Fuel") []
  pub budget : end_part (Budget 5) ≡ line (codes "budget 5") []
  pub moves : end_part Moves ≡ line (codes "moves") []

-- ## What is read of single parts

abbrev pub at_line : ℕ → List ℕ → Place
at_line l text = record { line = l; text = text }

abbrev pub refused_on : {A : Type 0} → SheetKind → ℕ → Taken A
refused_on kind l = refused (record { kind = kind; line = l })

-- what the line `source BYTES` and the bytes behind it are refused for
abbrev pub IsNoSource : SheetKind → (line : ℕ) → List ℕ → Type 0
IsNoSource kind l text = source (at_line 2 text) ≡ refused_on kind l

-- the text reads as a source, but not as the canonical text of one without naming faults
abbrev pub IsNotCanonical : List ℕ → Type 0
IsNotCanonical text = canonical 2 text (source_in (language_of 2 (lexemes keywords text)) text) (at_line 8 []) ≡ refused_on BadSource 2

pub record SourceFaults : Type 0 where
  pub other_version : heading (at_line 1 (lines (codes "cwstm record 2" ∷ []))) ≡ refused_on Unexpected 1
  pub empty : heading (at_line 1 []) ≡ refused_on Unexpected 1
  pub past_end : IsNoSource Unexpected 4 (lines (codes "source 999" ∷ codes "cell c ;" ∷ []))
  pub leading_zero : IsNoSource BadNumber 2 (lines (codes "source 045" ∷ []))
  pub minus_zero : IsNoSource BadNumber 2 (lines (codes "source -0" ∷ []))
  pub over : IsNoSource BadNumber 2 (lines (codes "source 100000001" ∷ []))
  pub comment : IsNotCanonical (lines (codes "// x" ∷ codes "fn main ( ) {" ∷ codes "}" ∷ []))
  pub language : IsNotCanonical (lines (codes "language 1 ;" ∷ codes "fn main ( ) {" ∷ codes "}" ∷ []))
  pub carriage_return : IsNotCanonical (lines ((13 ∷ []) ∷ codes "fn main ( ) {" ∷ codes "}" ∷ []))
  pub no_newline : IsNotCanonical (lines (codes "fn main ( ) {" ∷ []) ++ codes "}")
  pub naming : IsNotCanonical (lines (codes "fn main ( ) {" ∷ codes "out c ;" ∷ codes "}" ∷ []))

-- the leaf of a cancel, from its parent on
abbrev pub read_cancel : List ℕ → Taken Node
read_cancel text = cancel_node (at_line 22 (text ++ 10 ∷ []))

abbrev pub IsNoCancel : SheetKind → List ℕ → Type 0
IsNoCancel kind text = read_cancel text ≡ refused_on kind 22

pub record Cancels : Type 0 where
  pub one : read_cancel (codes " 1 5 1 0 5") ≡ took (plain 1 (Cancel (back_of 0 (pos 5) ∷ [])) 5) (at_line 23 [])
  pub one_of_two : IsNoCancel Unexpected (codes " 1 5 2 0 5")
  pub one_of_none : IsNoCancel Unexpected (codes " 1 5 0 0 5")
  pub half : IsNoCancel Unexpected (codes " 1 5 1 0")
  pub spelling : IsNoCancel BadNumber (codes " 1 5 1 01 5")
  pub spelling_first : IsNoCancel BadNumber (codes " 1 5 2 01 5")

-- ## What is read behind the source of the first run, from line 8 on

abbrev pub lines_behind : List (List ℕ)
lines_behind = drop 7 one_strand_lines

-- what a text says behind that source, or its first fault
abbrev pub read_behind : List ℕ → Result Contents SheetFault
read_behind text = judged_sheet (behind_source one_strand_run.source (at_line 8 text))

-- the lines with this text as line n
abbrev pub with_line : (n : ℕ) → List ℕ → List (List ℕ)
with_line n text = take (n - 8) lines_behind ++ text ∷ drop (n - 7) lines_behind

-- these lines have this fault as their first one
abbrev pub IsRefused : SheetKind → (line : ℕ) → List (List ℕ) → Type 0
IsRefused kind l texts = read_behind (lines texts) ≡ Err (record { kind = kind; line = l })

pub record EndFaults : Type 0 where
  pub whole : read_behind (lines lines_behind) ≡ Ok one_strand_run
  pub no_last_line : IsRefused Unexpected 20 (take 12 lines_behind)
  pub no_last_newline : read_behind (lines (take 12 lines_behind) ++ codes "end record") ≡ Err (record { kind = Unexpected; line = 20 })
  pub behind_end : IsRefused Unexpected 21 (lines_behind ++ codes "x" ∷ [])

pub record NumberFaults : Type 0 where
  pub word_minus_zero : IsRefused BadNumber 8 (with_line 8 (codes "words -0"))
  pub word_over : IsRefused BadNumber 8 (with_line 8 (codes "words 9223372036854775808"))
  pub blank_behind : IsRefused Unexpected 8 (with_line 8 (codes "words "))
  pub plus : IsRefused Unexpected 8 (with_line 8 (codes "words +1"))
  pub four_limits : IsRefused Unexpected 9 (with_line 9 (codes "limits 1000000 1000000 100000 262144"))
  pub large_size : IsRefused BadNumber 9 (with_line 9 (codes "limits 1000000 4294967296 100000 262144 10000000"))
  pub large_conflicts : IsRefused BadNumber 16 (with_line 16 (codes "conflicts 100000001"))

pub record TreeFaults : Type 0 where
  pub no_nodes : IsRefused BadTree 10 (take 2 lines_behind ++ codes "nodes 0" ∷ drop 8 lines_behind)
  pub one_more : IsRefused Unexpected 16 (with_line 10 (codes "nodes 6"))
  pub many_more : IsRefused Unexpected 16 (with_line 10 (codes "nodes 100000000"))
  pub too_many : IsRefused BadNumber 10 (with_line 10 (codes "nodes 100000001"))
  pub own_parent : IsRefused BadTree 12 (with_line 12 (codes "read 1 1 0 0"))
  pub number_first : IsRefused BadNumber 18 (take 4 lines_behind ++ codes "read 1 1 0 0" ∷ take 5 (drop 5 lines_behind) ++ codes "memory 01" ∷ drop 11 lines_behind)
  pub beneath_leaf : IsRefused BadTree 13 (with_line 13 (codes "write 1 2 0 1"))
  pub strand_five : IsRefused Unexpected 11 (with_line 11 (codes "strand 5"))
  pub root_no_strand : IsRefused BadTree 11 (with_line 11 (codes "fork 0 1"))
  pub childless_fork : IsRefused BadTree 15 (with_line 15 (codes "fork 0 4"))

-- ## What is read of other runs

-- what this line reads as, from line 8 on
abbrev pub IsRead : {A : Type 0} → (Place → Taken A) → List ℕ → A → Type 0
IsRead reader text x = reader (at_line 8 (line text [])) ≡ took x (at_line 9 [])

pub record OtherRuns : Type 0 where
  pub forked : nodes (at_line 10 two_blocks_lines) ≡ took two_blocks (at_line 23 [])
  pub placed : misplaced two_blocks ≡ None
  pub begun : IsRead (node 3) (codes "block 0 4 pending 0") (record { parent = 0; kind = Block; state = Pending; stamp = 4; end = 0 })
  pub no_state : node 3 (at_line 8 (line (codes "block 0 4 open 0") [])) ≡ refused_on Unexpected 8
  pub conflict : conflicts (at_line 23 (lines (codes "conflicts 1" ∷ codes "0 3 8 2 4 1 3" ∷ []))) ≡ took (refused_write ∷ []) (at_line 25 [])
  pub fault : IsRead run_end (codes "fault 0 Fuel") (Fault 0 Fuel)
  pub budget : IsRead run_end (codes "budget 5") (Budget 5)
  pub moves : IsRead run_end (codes "moves") Moves
  pub no_fault : run_end (at_line 8 (line (codes "fault 0 fuel") [])) ≡ refused_on Unexpected 8
  pub words : IsRead (values (codes "words")) (codes "words 7 -5") (pos 7 ∷ negsuc 4 ∷ [])
  pub least : IsRead (values (codes "words")) (codes "words -9223372036854775808") (negsuc 9223372036854775807 ∷ [])
  pub below_least : values (codes "words") (at_line 8 (line (codes "words -9223372036854775809") [])) ≡ refused_on BadNumber 8
