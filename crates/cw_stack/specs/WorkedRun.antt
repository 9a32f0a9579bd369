-- A small run, with tree and cell side by side. An outer block forks two strands. The left one writes in a block of its own and
-- commits it. The right one reads and writes in a block of its own, which is rolled back. The cell's first value is 7.
use Rattle.std.specs.Prelude.{◌≡◌, ℕ, ℤ, List, [], ◌∷◌, ◌++◌, map, filter, nat_lt, Some, None, true, false, pos}
use Rattle.cw_tree.specs.declared.node.Node.{Node}
use Rattle.cw_tree.specs.declared.node.Kind.TheVariants.{Strand, Fork, Block, Read, Write}
use Rattle.cw_tree.specs.declared.node.BlockState.TheVariants.{Committed, Aborted}
use Rattle.cw_tree.specs.declared.access.Mark.{Mark}
use Rattle.cw_tree.specs.declared.access.Entry.{Entry}
use Rattle.cw_tree.specs.Nodes.{fresh_node, closed}
use Rattle.cw_tree.specs.Accesses.{written, cell_value, live_accesses, IsChain}
use Rattle.cw_tree.specs.Journals.{IsJournal}
use Rattle.cw_tree.specs.AccessStacks.{newest_conflicts, written_by, stamps}
use Rattle.cw_tree.specs.Newest.{last_eight}
use Rattle.cw_stack.specs.Cells.{entry_of}

-- ## The tree after each event

-- the outer block is node 1, the left strand 3, the right one 4, and they have begun blocks 5 and 6
abbrev pub begun : List Node
begun =
    fresh_node 0 Strand 0 ∷ fresh_node 0 Block 1 ∷ fresh_node 1 Fork 2 ∷ fresh_node 2 Strand 0 ∷ fresh_node 2 Strand 0 ∷ fresh_node 3 Block 3
    ∷ fresh_node 4 Block 4 ∷ []

abbrev pub wrote_left : List Node
wrote_left = begun ++ fresh_node 5 (Write 0 (pos 8)) 5 ∷ []

abbrev pub committed_left : List Node
committed_left = closed wrote_left 5 Committed 6

abbrev pub read_right : List Node
read_right = committed_left ++ fresh_node 6 (Read 0 (pos 8)) 7 ∷ []

abbrev pub wrote_right : List Node
wrote_right = read_right ++ fresh_node 6 (Write 0 (pos 9)) 8 ∷ []

abbrev pub rolled_back : List Node
rolled_back = closed wrote_right 6 Aborted 9

-- ## The entries of the cell, by the clauses of its calls

abbrev pub mark : ℕ → ℕ → Mark
mark strand stamp = record { strand = strand; stamp = stamp }

abbrev pub left_of : List Entry → ℤ
left_of es = cell_value (pos 7) (map written_by es)

abbrev pub one_entry : List Entry
one_entry = [] ++ entry_of (mark 1 5) (Some (pos 8)) (left_of []) ∷ []

abbrev pub two_entries : List Entry
two_entries = one_entry ++ entry_of (mark 2 7) None (left_of one_entry) ∷ []

abbrev pub three_entries : List Entry
three_entries = two_entries ++ entry_of (mark 2 8) (Some (pos 9)) (left_of two_entries) ∷ []

abbrev pub restored : List Entry
restored = filter (λ e. nat_lt e.mark.stamp 7) three_entries

-- ## Side by side

-- the cell's accesses in tree t are us, which is a chain; their journal is es, and both leave value v
pub record Agree (t : List Node) (us : List ℕ) (es : List Entry) (v : ℤ) : Type 0 where
  pub live : live_accesses t 0 ≡ us
  pub chain : IsChain t us
  pub journal : IsJournal t 0 (pos 7) es
  pub tree_value : cell_value (pos 7) (map (written t) us) ≡ v
  pub value : left_of es ≡ v

pub record AllAgree : Type 0 where
  pub start : Agree begun [] [] (pos 7)
  pub write : Agree wrote_left (7 ∷ []) one_entry (pos 8)
  pub commit : Agree committed_left (7 ∷ []) one_entry (pos 8)
  pub read : Agree read_right (7 ∷ 8 ∷ []) two_entries (pos 8)
  pub write_again : Agree wrote_right (7 ∷ 8 ∷ 9 ∷ []) three_entries (pos 9)
  pub roll : Agree rolled_back (7 ∷ []) restored (pos 8)

-- Until the left block is committed, an access by the right strand conflicts with its write. If it were made before, there would be
-- no chain.
pub record Waits : Type 0 where
  pub before : newest_conflicts wrote_left (7 ∷ []) 6 ≡ true
  pub after : newest_conflicts committed_left (7 ∷ []) 6 ≡ false
  pub early : IsChain (wrote_left ++ fresh_node 6 (Read 0 (pos 8)) 7 ∷ []) (7 ∷ 8 ∷ []) → ⊥
  pub chain : last_eight (stamps three_entries) ≡ 5 ∷ 7 ∷ 8 ∷ []
