-- Examples: reports on small runs.
use Rattle.std.specs.Prelude.{◌≡◌, ℕ, pos, List, [], ◌∷◌, ◌++◌, codes}
use Rattle.cw_code.specs.declared.CellInfo.{CellInfo}
use Rattle.cw_tree.specs.declared.conflict.Conflict.{Conflict}
use Rattle.cw_tree.specs.declared.node.Node.{Node}
use Rattle.cw_tree.specs.declared.node.Kind.TheVariants.{Strand, Fork, Block, Write, Tried, Cancel}
use Rattle.cw_tree.specs.declared.node.BlockState.{BlockState}
use Rattle.cw_tree.specs.declared.node.BlockState.TheVariants.{Pending, Committed, Aborted}
use Rattle.cw_tree.specs.Nodes.{is_strand}
use Rattle.cw_report.specs.Results.{line}
use Rattle.cw_report.specs.Report.{cell_text, conflict_line, count_nodes, counts_text, is_undone, stands_cancelled, stands_committed}

-- a closed or pending block; below, a leaf
abbrev pub block : (parent : ℕ) → BlockState → (stamp end : ℕ) → Node
block parent state stamp end = record { parent = parent; kind = Block; state = state; stamp = stamp; end = end }

abbrev pub strand : ℕ → Node
strand parent = record { parent = parent; kind = Strand; state = Committed; stamp = 0; end = 0 }

abbrev pub writes : (parent cell stamp : ℕ) → Node
writes parent cell stamp = record { parent = parent; kind = Write cell (pos 1); state = Committed; stamp = stamp; end = 0 }

abbrev pub tries : (parent cell : ℕ) → Node
tries parent cell = record { parent = parent; kind = Tried cell; state = Committed; stamp = 0; end = 0 }

abbrev pub gives_up : (parent stamp : ℕ) → Node
gives_up parent stamp = record { parent = parent; kind = Cancel []; state = Committed; stamp = stamp; end = 0 }

-- Main forks. The left strand writes element 1 in a block. The right strand begins a block, in which another one was committed;
-- there an access of that element was refused, and the outer block was rolled back. Then the right strand did the same again, and
-- was not refused.
abbrev pub forked : List Node
forked =
    strand 0 ∷ record { parent = 0; kind = Fork; state = Committed; stamp = 1; end = 0 }
    ∷ strand 1 ∷ block 2 Committed 4 6 ∷ writes 3 1 5
    ∷ strand 1 ∷ block 5 Aborted 2 7 ∷ block 6 Committed 3 8 ∷ tries 6 1
    ∷ block 5 Pending 9 0 ∷ block 9 Committed 10 12 ∷ writes 10 1 11 ∷ []

abbrev pub refused : Conflict
refused = record { cell = 1; last = 5; asker = 8; block = 4; victim = 2; attempt = 1; chain = 5 ∷ [] }

abbrev pub cell : List ℕ → (len base : ℕ) → CellInfo
cell name len base = record { name = name; len = len; base = base; init = pos 0 }

abbrev pub one_array : List CellInfo
one_array = cell (codes "a") 2 0 ∷ []

abbrev pub two_plain : List CellInfo
two_plain = cell (codes "b") 0 0 ∷ cell (codes "c") 0 1 ∷ []

-- A block with a cancel of its own, in a block without one. Then a rolled-back attempt, in which a block with a cancel was
-- committed. Then a pending block with a cancel.
abbrev pub given_up : List Node
given_up =
    strand 0 ∷ block 0 Committed 1 5 ∷ block 1 Committed 2 4 ∷ gives_up 2 3
    ∷ block 0 Aborted 6 10 ∷ block 4 Committed 7 9 ∷ gives_up 5 8
    ∷ block 0 Pending 11 0 ∷ gives_up 7 12 ∷ []

-- A committed block under an aborted one is undone, and a pending one is neither.
pub record Counts : Type 0 where
  pub strands : count_nodes is_strand forked ≡ 3
  pub committed : count_nodes stands_committed forked ≡ 2
  pub undone : count_nodes is_undone forked ≡ 2
  pub text : counts_text 1 forked 1 ≡ line (codes "report 1") ++ line (codes "strands 3") ++ line (codes "blocks 2 2") ++ line (codes "conflicts 1")

-- The cancel of a block does not count at the block around it. Neither does one in a rolled-back attempt, nor in a pending block.
pub record Cancelled : Type 0 where
  pub committed : count_nodes stands_committed given_up ≡ 2
  pub undone : count_nodes is_undone given_up ≡ 2
  pub cancelled : count_nodes stands_cancelled given_up ≡ 1
  pub first : counts_text 1 given_up 0 ≡ line (codes "report 1") ++ line (codes "strands 1") ++ line (codes "blocks 2 2") ++ line (codes "conflicts 0")
  pub second : counts_text 2 given_up 0 ≡ line (codes "report 2") ++ line (codes "strands 1") ++ line (codes "blocks 2 2 cancelled 1") ++ line (codes "conflicts 0")

pub record Lines : Type 0 where
  pub array : conflict_line one_array forked refused ≡ line (codes "conflict a[1] last 0.1l@5 asker 0.1r block 4 victim 2 attempt 1 chain 5")
  pub plain : conflict_line two_plain forked refused ≡ line (codes "conflict c last 0.1l@5 asker 0.1r block 4 victim 2 attempt 1 chain 5")
  -- without a victim, and after several accesses
  pub no_victim : conflict_line two_plain forked (record refused { victim = 0; chain = 3 ∷ 5 ∷ [] }) ≡ line (codes "conflict c last 0.1l@5 asker 0.1r block 4 victim none attempt 1 chain 3,5")
  -- the stamp of an end is not the stamp of a node
  pub end : conflict_line two_plain forked (record refused { last = 6 }) ≡ line (codes "conflict c last ?@6 asker 0.1r block 4 victim 2 attempt 1 chain 5")
  pub no_cell : cell_text two_plain 2 ≡ codes "?"
