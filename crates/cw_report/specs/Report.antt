-- The report on a run, in its two versions: the numbers of strands and blocks in its tree, and each refused access. Report 2 also
-- says how many of the committed blocks were cancelled. Every line ends with a newline.
use Rattle.std.specs.Prelude.{◌≡◌, ◌⊎◌, ℕ, zero, suc, ◌==◌, ◌&&◌, ◌||◌, Bool, true, false, not, nat_lt, List, [], ◌∷◌, ◌++◌, count_by, length, map, codes, slice_get, Option, Some, None, unwrap_or, if◌then◌else◌}
use Rattle.std.specs.List.{flat_map, list_any, range_with_len}
use Rattle.std.specs.Fmt.{decimal}
use Rattle.cw_code.specs.declared.CellInfo.{CellInfo}
use Rattle.cw_tree.specs.declared.conflict.Conflict.{Conflict}
use Rattle.cw_tree.specs.declared.node.Kind.{Kind}
use Rattle.cw_tree.specs.declared.node.Kind.TheVariants.{Cancel}
use Rattle.cw_tree.specs.declared.node.Node.{Node}
use Rattle.cw_tree.specs.Nodes.{all_nodes, is_aborted, is_committed, is_node, is_strand, with_stamp}
use Rattle.cw_tree.specs.Accesses.{is_live}
use Rattle.cw_tree.specs.Series.{children, strand_of}
use Rattle.cw_record.specs.declared.record.Record.{Record}
use Rattle.cw_report.specs.Results.{line, strand_text}

-- ## What is counted

-- the number of nodes of a tree that pass the test `p`
abbrev pub count_nodes : (List Node → ℕ → Bool) → List Node → ℕ
count_nodes p t = count_by (p t) (all_nodes t)

-- a committed block with no aborted block above it
abbrev pub stands_committed : List Node → ℕ → Bool
stands_committed t n = is_committed t n && is_live t n

-- any other closed block
abbrev pub is_undone : List Node → ℕ → Bool
is_undone t n = is_aborted t n || (is_committed t n && not (is_live t n))

abbrev pub is_cancel_kind : Kind → Bool
is_cancel_kind (Cancel back) = true
is_cancel_kind _ = false

abbrev pub is_cancel_leaf : List Node → ℕ → Bool
is_cancel_leaf = is_node (λ x. is_cancel_kind x.kind)

-- a child of node n is a cancel; one in a block within n is not a child of n
abbrev pub has_own_cancel : List Node → ℕ → Bool
has_own_cancel t n = list_any (is_cancel_leaf t) (children t n)

-- a committed block with no aborted block above it, and with a cancel of its own
abbrev pub stands_cancelled : List Node → ℕ → Bool
stands_cancelled t n = stands_committed t n && has_own_cancel t n

-- ## What is named

-- what is written for something that does not exist
abbrev pub unknown : List ℕ
unknown = codes "?"

-- `NAME[I]` for an element of an array
abbrev pub element_name : CellInfo → ℕ → List ℕ
element_name c i = c.name ++ codes "[" ++ decimal i ++ codes "]"

-- the names of a cell's elements; a plain cell has its own name
abbrev pub element_names_by : ℕ → CellInfo → List (List ℕ)
element_names_by zero c = c.name ∷ []
element_names_by (suc n) c = map (element_name c) (range_with_len 0 (suc n))

abbrev pub element_names : CellInfo → List (List ℕ)
element_names c = element_names_by c.len c

-- the name of element `k` among those of all cells, in the order of declaration
abbrev pub cell_text : List CellInfo → ℕ → List ℕ
cell_text cells k = unwrap_or (slice_get (flat_map element_names cells) k) unknown

-- the name of a node's strand: the innermost strand at or above the node
abbrev pub maker_text : List Node → Option ℕ → List ℕ
maker_text t None = unknown
maker_text t (Some n) = strand_text t (strand_of t n)

-- the node `n`, if it exists
abbrev pub node_there : List Node → ℕ → Option ℕ
node_there t n = if nat_lt n (length t) then Some n else None

-- a block by the stamp of its begin; 0 stands for none
abbrev pub victim_text : ℕ → List ℕ
victim_text zero = codes "none"
victim_text (suc k) = decimal (suc k)

-- the stamps, each after a comma
abbrev pub more_text : List ℕ → List ℕ
more_text ks = flat_map (λ k. codes "," ++ decimal k) ks

abbrev pub stamps_text : List ℕ → List ℕ
stamps_text [] = []
stamps_text (k ∷ ks) = decimal k ++ more_text ks

-- ## The report

-- the last access of the cell, by the strand of the first node with its stamp; and the refused access, by its own strand
abbrev pub accesses_text : List CellInfo → List Node → Conflict → List ℕ
accesses_text cells t k = cell_text cells k.cell ++ codes " last " ++ maker_text t (with_stamp t k.last) ++ codes "@" ++ decimal k.last ++ codes " asker " ++ maker_text t (node_there t k.asker)

-- the block in the way, the victim, the attempt, and the newest accesses of the cell
abbrev pub blocks_text : Conflict → List ℕ
blocks_text k = codes " block " ++ decimal k.block ++ codes " victim " ++ victim_text k.victim ++ codes " attempt " ++ decimal k.attempt ++ codes " chain " ++ stamps_text k.chain

abbrev pub conflict_line : List CellInfo → List Node → Conflict → List ℕ
conflict_line cells t k = line (codes "conflict " ++ accesses_text cells t k ++ blocks_text k)

-- what report 2 adds to the line of the blocks
abbrev pub cancelled_text : (version cancelled : ℕ) → List ℕ
cancelled_text version cancelled = if version == 2 then codes " cancelled " ++ decimal cancelled else []

-- the lines before the conflicts, with these numbers
abbrev pub counted_text : (version strands committed undone cancelled conflicts : ℕ) → List ℕ
counted_text version strands committed undone cancelled conflicts =
    line (codes "report " ++ decimal version)
    ++ line (codes "strands " ++ decimal strands)
    ++ line (codes "blocks " ++ decimal committed ++ codes " " ++ decimal undone ++ cancelled_text version cancelled)
    ++ line (codes "conflicts " ++ decimal conflicts)

abbrev pub counts_text : (version : ℕ) → List Node → (conflicts : ℕ) → List ℕ
counts_text version t conflicts =
    counted_text version (count_nodes is_strand t) (count_nodes stands_committed t) (count_nodes is_undone t) (count_nodes stands_cancelled t) conflicts

-- a version of the report
abbrev pub IsVersion : ℕ → Type 0
IsVersion version = (version ≡ 1) ⊎ (version ≡ 2)

-- the report on a run
abbrev pub report_text : Record → (version : ℕ) → List ℕ
report_text r version =
    counts_text version r.tree (length r.conflicts) ++ flat_map (conflict_line r.program.cells r.tree) r.conflicts ++ line (codes "end report")
