-- The reading of a sheet: what its text says, otherwise the first fault.
--
-- A text of more than 67,108,864 bytes is TooLong, on line 0. Otherwise a byte that belongs to no whole UTF-8 character is NotUtf8,
-- wherever it is. Only then are the items read, one by one, up to the first fault. Once all of the text has been read, the tree is
-- judged.
use Rattle.std.specs.Prelude.{ℕ, zero, suc, ◌+◌, Bool, true, false, not, ◌&&◌, ◌||◌, List, [], ◌∷◌, codes, count_by, drop, length, take, nat_lt, ◌==◌, if◌then◌else◌, ℤ, Option, Some, None, is_none, find, Result, Ok, Err, ⊤}
use Rattle.std.specs.Str.{bytes_eq}
use Rattle.std.specs.Str.Lossy.{utf8_valid_len}
use Rattle.cw_text.specs.declared.fault.TextFault.{TextFault}
use Rattle.cw_text.specs.PrintedText.{printed_text}
use Rattle.cw_text.specs.Syntax.{Source}
use Rattle.cw_text.specs.Text.{line_of, reading}
use Rattle.cw_code.specs.declared.Back.{Back}
use Rattle.cw_code.specs.declared.FaultKind.{FaultKind}
use Rattle.cw_code.specs.declared.FaultKind.TheVariants as fault
use Rattle.cw_code.specs.declared.Limits.{Limits}
use Rattle.cw_code.specs.FaultNames.{fault_name}
use Rattle.cw_strand.specs.Names.{naming_fault}
use Rattle.cw_tree.specs.declared.conflict.Conflict.{Conflict}
use Rattle.cw_tree.specs.declared.node.Node.{Node}
use Rattle.cw_tree.specs.declared.node.Kind.{Kind}
use Rattle.cw_tree.specs.declared.node.Kind.TheVariants.{Strand, Fork, Block, Read, Write, Out, Tried, Cancel}
use Rattle.cw_tree.specs.declared.node.BlockState.{BlockState}
use Rattle.cw_tree.specs.declared.node.BlockState.TheVariants.{Pending, Committed, Aborted}
use Rattle.cw_tree.specs.Nodes.{all_nodes, is_block, is_fork, is_strand, parent_of}
use Rattle.cw_tree.specs.Series.{children}
use Rattle.cw_record.specs.declared.record_end.RecordEnd.{RecordEnd}
use Rattle.cw_record.specs.declared.record_end.RecordEnd.TheVariants.{Finished, Fault, Budget, Moves}
use Rattle.cw_sheet.specs.declared.sheet.SheetKind.TheVariants.{NotUtf8, TooLong, Unexpected, BadTree, BadSource}
use Rattle.cw_sheet.specs.declared.sheet.SheetFault.{SheetFault}
use Rattle.cw_sheet.specs.Contents.{Contents}
use Rattle.cw_sheet.specs.SheetText.{state_word}
use Rattle.cw_sheet.specs.Items.{Place, Taken, took, refused, ◌into◌, refuse, is_newline, item, newline, word, line_done, first_number32, next_item, next_word, number32, number64, value, count, all_behind, exactly}

-- ## Program, words and limits

-- `cwstm record 1`
abbrev pub heading : Place → Taken ⊤
heading p = word (codes "cwstm") p into λ _ p. next_word (codes "record") p into λ _ p. next_word (codes "1") p into λ _ p. newline p

-- the source that the text is the canonical text of, without a naming fault
abbrev pub is_canonical : List ℕ → Source → Bool
is_canonical text s = is_none (naming_fault s.items) && bytes_eq (printed_text s) text

abbrev pub canonical : (line : ℕ) → List ℕ → Result Source TextFault → Place → Taken Source
canonical l text (Err f) p = refused (record { kind = BadSource; line = l })
canonical l text (Ok s) p = if is_canonical text s then took s p else refused (record { kind = BadSource; line = l })

abbrev pub newlines : List ℕ → ℕ
newlines text = count_by is_newline text

-- the place behind the next n bytes, in which each newline counts
abbrev pub behind_lines : ℕ → Place → Place
behind_lines n p = record { line = newlines (take n p.text) + p.line; text = drop n p.text }

-- the most bytes of a source
abbrev pub longest_source : ℕ
longest_source = 67108864

-- The source has n bytes. A fault of the source is on the line before it. If the text is shorter, its end is Unexpected.
abbrev pub source_of_length : ℕ → (line : ℕ) → Place → Taken Source
source_of_length n l p =
    if nat_lt (length p.text) n then refuse Unexpected (behind_lines (length p.text) p)
    else canonical l (take n p.text) (reading 2 longest_source (take n p.text)) (behind_lines n p)

-- `source BYTES`, then the source
abbrev pub source : Place → Taken Source
source p = word (codes "source") p into λ _ q. count q into λ n q. line_done n q into λ n q. source_of_length n p.line q

-- a word, and values behind it
abbrev pub values : List ℕ → Place → Taken (List ℤ)
values w p = word w p into λ _ p. all_behind value p into λ zs p. line_done zs p

-- `limits F N B M C`
abbrev pub limits : Place → Taken Limits
limits p =
    word (codes "limits") p into λ _ p.
    number64 p into λ fuel p. number32 p into λ size p. number32 p into λ aborts p. number32 p into λ strands p. number64 p into λ moves p.
    line_done (record { fuel = fuel; size = size; aborts = aborts; strands = strands; moves = moves }) p

-- ## Nodes

abbrev pub other_node : (parent : ℕ) → Kind → (stamp : ℕ) → Node
other_node parent kind stamp = record { parent = parent; kind = kind; state = Committed; stamp = stamp; end = 0 }

-- `strand P`, where node 0 has the parent 0
abbrev pub strand_node : (n : ℕ) → Place → Taken Node
strand_node n p = number32 p into λ parent p. if n == 0 && not (parent == 0) then refuse Unexpected p else line_done (other_node parent Strand 0) p

abbrev pub fork_node : Place → Taken Node
fork_node p = number32 p into λ parent p. number64 p into λ stamp p. line_done (other_node parent Fork stamp) p

abbrev pub state : Place → Taken BlockState
state p =
    next_item p into λ i q.
    if bytes_eq i (state_word Pending) then took Pending q
    else (if bytes_eq i (state_word Committed) then took Committed q
    else (if bytes_eq i (state_word Aborted) then took Aborted q else refuse Unexpected q))

abbrev pub block_node : Place → Taken Node
block_node p =
    number32 p into λ parent p. number64 p into λ stamp p. state p into λ state p. number64 p into λ end p.
    line_done (record { parent = parent; kind = Block; state = state; stamp = stamp; end = end }) p

abbrev pub access_node : (ℕ → ℤ → Kind) → Place → Taken Node
access_node kind p = number32 p into λ parent p. number64 p into λ stamp p. number32 p into λ cell p. value p into λ v p. line_done (other_node parent (kind cell v) stamp) p

abbrev pub out_node : Place → Taken Node
out_node p = number32 p into λ parent p. number64 p into λ stamp p. value p into λ v p. line_done (other_node parent (Out v) stamp) p

abbrev pub tried_node : Place → Taken Node
tried_node p = number32 p into λ parent p. number32 p into λ cell p. line_done (other_node parent (Tried cell) 0) p

abbrev pub back : Place → Taken Back
back p = number32 p into λ cell p. value p into λ v p. took (record { cell = cell; value = v }) p

-- All pairs of the line are read, then they are counted.
abbrev pub cancel_node : Place → Taken Node
cancel_node p =
    number32 p into λ parent p. number64 p into λ stamp p. count p into λ k p. all_behind back p into λ backs p.
    if length backs == k then line_done (other_node parent (Cancel backs) stamp) p else refuse Unexpected p

-- node n by the first word of its line
abbrev pub node_named : (word : List ℕ) → (n : ℕ) → Place → Taken Node
node_named w n p =
    if bytes_eq w (codes "strand") then strand_node n p
    else (if bytes_eq w (codes "fork") then fork_node p
    else (if bytes_eq w (codes "block") then block_node p
    else (if bytes_eq w (codes "read") then access_node (λ c v. Read c v) p
    else (if bytes_eq w (codes "write") then access_node (λ c v. Write c v) p
    else (if bytes_eq w (codes "out") then out_node p
    else (if bytes_eq w (codes "tried") then tried_node p
    else (if bytes_eq w (codes "cancel") then cancel_node p
    else refuse Unexpected p)))))))

abbrev pub node : (n : ℕ) → Place → Taken Node
node n p = item p into λ w p. node_named w n p

-- `nodes COUNT`, then the nodes
abbrev pub nodes : Place → Taken (List Node)
nodes p = word (codes "nodes") p into λ _ p. count p into λ n p. line_done n p into λ n p. exactly n 0 node p

-- ## Conflicts

-- `CELL LAST ASKER BLOCK VICTIM ATTEMPT`, then the chain
abbrev pub conflict_row : Place → Taken Conflict
conflict_row p =
    first_number32 p into λ cell p. number64 p into λ last p. number32 p into λ asker p. number64 p into λ block p. number64 p into λ victim p.
    number32 p into λ attempt p. all_behind number64 p into λ chain p.
    line_done (record { cell = cell; last = last; asker = asker; block = block; victim = victim; attempt = attempt; chain = chain }) p

-- `conflicts COUNT`, then the conflicts
abbrev pub conflicts : Place → Taken (List Conflict)
conflicts p = word (codes "conflicts") p into λ _ p. count p into λ n p. line_done n p into λ n p. exactly n 0 (λ k q. conflict_row q) p

-- ## The end

abbrev pub finished : Place → Taken RecordEnd
finished p = values (codes "memory") p into λ memory p. values (codes "outputs") p into λ outputs p. took (Finished memory outputs) p

-- the fault kind that a word names
abbrev pub fault_named : List ℕ → List FaultKind → Option FaultKind
fault_named w [] = None
fault_named w (k ∷ ks) = if bytes_eq w (fault_name k) then Some k else fault_named w ks

abbrev pub fault_kinds : List FaultKind
fault_kinds = fault.Zero ∷ fault.Overflow ∷ fault.Range ∷ fault.Depth ∷ fault.Fuel ∷ fault.Size ∷ []

abbrev pub named_fault : Option FaultKind → (strand : ℕ) → Place → Taken RecordEnd
named_fault None s p = refuse Unexpected p
named_fault (Some kind) s p = line_done (Fault s kind) p

-- the end of the run by the first word of its line
abbrev pub end_named : (word : List ℕ) → Place → Taken RecordEnd
end_named w p =
    if bytes_eq w (codes "finished") then (newline p into λ _ p. finished p)
    else (if bytes_eq w (codes "fault") then (number32 p into λ s p. next_item p into λ i p. named_fault (fault_named i fault_kinds) s p)
    else (if bytes_eq w (codes "budget") then (number32 p into λ s p. line_done (Budget s) p)
    else (if bytes_eq w (codes "moves") then line_done Moves p
    else refuse Unexpected p)))

abbrev pub run_end : Place → Taken RecordEnd
run_end p = item p into λ w p. end_named w p

-- `end record`, and nothing behind it
abbrev pub last : Place → Taken ⊤
last p = word (codes "end") p into λ _ p. next_word (codes "record") p into λ _ p. newline p into λ _ p. if length p.text == 0 then took tt p else refuse Unexpected p

-- ## The tree

abbrev pub are_two_strands : List Node → List ℕ → Bool
are_two_strands t (l ∷ r ∷ []) = is_strand t l && is_strand t r
are_two_strands t ns = false

-- strands, forks and blocks have children, and a strand hangs from a fork
abbrev pub hangs_well : List Node → ℕ → Bool
hangs_well t zero = is_strand t 0
hangs_well t (suc n) =
    nat_lt (parent_of t (suc n)) (suc n)
    && (is_strand t (parent_of t (suc n)) || is_fork t (parent_of t (suc n)) || is_block t (parent_of t (suc n)))
    && (is_fork t (parent_of t (suc n)) || not (is_strand t (suc n)))

-- and a fork has two strands
abbrev pub is_misplaced : List Node → ℕ → Bool
is_misplaced t n = not (hangs_well t n && (are_two_strands t (children t n) || not (is_fork t n)))

-- the number of the first node that is misplaced, counted from 1; 0 for a tree without nodes
abbrev pub misplaced : List Node → Option ℕ
misplaced [] = Some 0
misplaced t = first (find (is_misplaced t) (all_nodes t)) where
  first : Option ℕ → Option ℕ
  first None = None
  first (Some n) = Some (suc n)

-- Each node is on a line of its own, behind the line `nodes COUNT`.
abbrev pub with_tree : (nodes_line : ℕ) → Option ℕ → Contents → Result Contents SheetFault
with_tree l None c = Ok c
with_tree l (Some k) c = Err (record { kind = BadTree; line = k + l })

-- ## The whole

-- what comes behind this source, with the line `nodes COUNT`
abbrev pub behind_source : Source → Place → Taken (Contents × ℕ)
behind_source source p =
    values (codes "words") p into λ words p. limits p into λ limits p.
    nodes p into λ tree q. conflicts q into λ conflicts q. run_end q into λ end q. last q into λ _ q.
    took (record { source = source; words = words; limits = limits; tree = tree; conflicts = conflicts; end = end }, p.line) q

abbrev pub contents_from : Place → Taken (Contents × ℕ)
contents_from p = heading p into λ _ p. source p into λ source p. behind_source source p

-- what was read, if its tree is a tree
abbrev pub judged_sheet : Taken (Contents × ℕ) → Result Contents SheetFault
judged_sheet (took c p) = with_tree c.1 (misplaced c.0.tree) c.0
judged_sheet (refused e) = Err e

-- what a text says as a sheet, or its first fault
abbrev pub sheet_reading : List ℕ → Result Contents SheetFault
sheet_reading text =
    if nat_lt 67108864 (length text) then Err (record { kind = TooLong; line = 0 })
    else (if nat_lt (utf8_valid_len text) (length text) then Err (record { kind = NotUtf8; line = line_of (utf8_valid_len text) text })
    else judged_sheet (contents_from (record { line = 1; text = text })))
