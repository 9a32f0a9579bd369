-- The text of a sheet, line by line:
--
--     cwstm record 1
--     source BYTES             the number of bytes of the source, which follows at once
--     words N N ..             the words of the run
--     limits F N B M C         fuel, size, aborts, strands, moves
--     nodes COUNT              then one line for each node, by its number
--     strand P                 P is the number of the parent; node 0 has parent 0
--     fork P S                 S is the stamp
--     block P S STATE E        STATE is pending, committed or aborted; E is the stamp of the end, or 0
--     read P S CELL V          write P S CELL V
--     out P S V                tried P CELL
--     cancel P S K             then K times CELL V on the same line
--     conflicts COUNT          then one line for each: CELL LAST ASKER BLOCK VICTIM ATTEMPT, then the stamps of its chain
--     finished                 then the lines `memory V ..` and `outputs V ..`
--     fault STRAND KIND        or this line, or `budget STRAND`, or `moves`
--     end record
use Rattle.std.specs.Prelude.{ℕ, ℤ, List, [], ◌∷◌, ◌++◌, codes, length, map}
use Rattle.std.specs.Fmt.{decimal, signed_decimal}
use Rattle.std.specs.List.{flat_map}
use Rattle.cw_text.specs.PrintedText.{printed_text}
use Rattle.cw_code.specs.declared.Back.{Back}
use Rattle.cw_code.specs.declared.FaultKind.{FaultKind}
use Rattle.cw_code.specs.declared.Limits.{Limits}
use Rattle.cw_code.specs.FaultNames.{fault_name}
use Rattle.cw_tree.specs.declared.conflict.Conflict.{Conflict}
use Rattle.cw_tree.specs.declared.node.Node.{Node}
use Rattle.cw_tree.specs.declared.node.Kind.{Kind}
use Rattle.cw_tree.specs.declared.node.Kind.TheVariants.{Strand, Fork, Block, Read, Write, Out, Tried, Cancel}
use Rattle.cw_tree.specs.declared.node.BlockState.{BlockState}
use Rattle.cw_tree.specs.declared.node.BlockState.TheVariants.{Pending, Committed, Aborted}
use Rattle.cw_record.specs.declared.record_end.RecordEnd.{RecordEnd}
use Rattle.cw_record.specs.declared.record_end.RecordEnd.TheVariants.{Finished, Fault, Budget, Moves}
use Rattle.cw_sheet.specs.Contents.{Contents}

-- ## Lines

-- items, each behind a space
abbrev pub spaced : List (List ℕ) → List ℕ
spaced items = flat_map (λ item. 32 ∷ item) items

-- a line: its items, with one space between them, and a newline
abbrev pub line : (first : List ℕ) (others : List (List ℕ)) → List ℕ
line first others = first ++ spaced others ++ 10 ∷ []

abbrev pub decimals : List ℕ → List (List ℕ)
decimals ns = map decimal ns

abbrev pub signed_decimals : List ℤ → List (List ℕ)
signed_decimals zs = map signed_decimal zs

-- ## Program, words and limits

abbrev pub first_line : List ℕ
first_line = line (codes "cwstm") (codes "record" ∷ codes "1" ∷ [])

-- the lines before a source of this length
abbrev pub before_source : (count : ℕ) → List ℕ
before_source n = first_line ++ line (codes "source") (decimals (n ∷ []))

abbrev pub words_line : List ℤ → List ℕ
words_line words = line (codes "words") (signed_decimals words)

abbrev pub limits_line : Limits → List ℕ
limits_line l = line (codes "limits") (decimals (l.fuel ∷ l.size ∷ l.aborts ∷ l.strands ∷ l.moves ∷ []))

-- ## Nodes

abbrev pub state_word : BlockState → List ℕ
state_word Pending = codes "pending"
state_word Committed = codes "committed"
state_word Aborted = codes "aborted"

-- the cells of a cancel, each with its value
abbrev pub back_items : List Back → List (List ℕ)
back_items back = flat_map (λ b. decimal b.cell ∷ signed_decimal b.value ∷ []) back

abbrev pub strand_line : (parent : ℕ) → List ℕ
strand_line p = line (codes "strand") (decimal p ∷ [])

abbrev pub fork_line : (parent stamp : ℕ) → List ℕ
fork_line p s = line (codes "fork") (decimal p ∷ decimal s ∷ [])

abbrev pub block_line : (parent stamp : ℕ) → BlockState → (end : ℕ) → List ℕ
block_line p s state e = line (codes "block") (decimal p ∷ decimal s ∷ state_word state ∷ decimal e ∷ [])

abbrev pub access_line : (word : List ℕ) → (parent stamp cell : ℕ) → ℤ → List ℕ
access_line word p s cell v = line word (decimal p ∷ decimal s ∷ decimal cell ∷ signed_decimal v ∷ [])

abbrev pub out_line : (parent stamp : ℕ) → ℤ → List ℕ
out_line p s v = line (codes "out") (decimal p ∷ decimal s ∷ signed_decimal v ∷ [])

abbrev pub tried_line : (parent cell : ℕ) → List ℕ
tried_line p cell = line (codes "tried") (decimal p ∷ decimal cell ∷ [])

abbrev pub cancel_line : (parent stamp : ℕ) → List Back → List ℕ
cancel_line p s back = line (codes "cancel") (decimal p ∷ decimal s ∷ decimal (length back) ∷ back_items back)

-- the line of a node, by its kind, parent, stamp, state and end
abbrev pub kind_line : Kind → (parent stamp : ℕ) → BlockState → (end : ℕ) → List ℕ
kind_line Strand p s state e = strand_line p
kind_line Fork p s state e = fork_line p s
kind_line Block p s state e = block_line p s state e
kind_line (Read cell v) p s state e = access_line (codes "read") p s cell v
kind_line (Write cell v) p s state e = access_line (codes "write") p s cell v
kind_line (Out v) p s state e = out_line p s v
kind_line (Tried cell) p s state e = tried_line p cell
kind_line (Cancel back) p s state e = cancel_line p s back

abbrev pub node_line : Node → List ℕ
node_line x = kind_line x.kind x.parent x.stamp x.state x.end

abbrev pub nodes_part : List Node → List ℕ
nodes_part t = line (codes "nodes") (decimals (length t ∷ [])) ++ flat_map node_line t

-- ## Conflicts

abbrev pub conflict_line : Conflict → List ℕ
conflict_line k = line (decimal k.cell) (decimals (k.last ∷ k.asker ∷ k.block ∷ k.victim ∷ k.attempt ∷ k.chain))

abbrev pub conflicts_part : List Conflict → List ℕ
conflicts_part ks = line (codes "conflicts") (decimals (length ks ∷ [])) ++ flat_map conflict_line ks

-- ## The end

abbrev pub finished_part : (memory outputs : List ℤ) → List ℕ
finished_part memory outputs = line (codes "finished") [] ++ line (codes "memory") (signed_decimals memory) ++ line (codes "outputs") (signed_decimals outputs)

abbrev pub fault_line : (strand : ℕ) → FaultKind → List ℕ
fault_line strand kind = line (codes "fault") (decimal strand ∷ fault_name kind ∷ [])

abbrev pub budget_line : (strand : ℕ) → List ℕ
budget_line strand = line (codes "budget") (decimal strand ∷ [])

abbrev pub moves_line : List ℕ
moves_line = line (codes "moves") []

abbrev pub end_part : RecordEnd → List ℕ
end_part (Finished memory outputs) = finished_part memory outputs
end_part (Fault strand kind) = fault_line strand kind
end_part (Budget strand) = budget_line strand
end_part Moves = moves_line

-- ## The whole

abbrev pub last_line : List ℕ
last_line = line (codes "end") (codes "record" ∷ [])

abbrev pub after_source : Contents → List ℕ
after_source c = words_line c.words ++ limits_line c.limits ++ nodes_part c.tree ++ conflicts_part c.conflicts ++ end_part c.end ++ last_line

abbrev pub sheet_text : Contents → List ℕ
sheet_text c = before_source (length (printed_text c.source)) ++ printed_text c.source ++ after_source c
