-- Small trees, and what the definitions say of them.
use Rattle.std.specs.Prelude.{◌≡◌, ℕ, ◌-◌, ◌/◌, List, [], ◌∷◌, Some, None, true, false, pos, codes}
use Rattle.cw_tree.specs.declared.node.Node.{Node}
use Rattle.cw_tree.specs.declared.node.Kind.{Kind}
use Rattle.cw_tree.specs.declared.picks.Turn.{Turn}
use Rattle.cw_tree.specs.declared.node.Kind.TheVariants.{Strand, Fork, Block, Read, Write, Out, Tried}
use Rattle.cw_tree.specs.declared.node.BlockState.TheVariants.{Pending, Committed, Aborted}
use Rattle.cw_tree.specs.Nodes.{with_stamp, block_with_stamp, closed}
use Rattle.cw_tree.specs.Walks.{path, above, lca, xparent, nua, conflict, victim}
use Rattle.cw_tree.specs.Series.{strand_of, place, last_of, children, has_later, parallel, is_before, depth_first}
use Rattle.cw_tree.specs.Attempts.{block_attempt, access_attempt}
use Rattle.cw_tree.specs.Accesses.{IsChainOf, is_live, by_key, live_accesses, written, read, cell_value, IsChain}
use Rattle.cw_tree.specs.Names.{fork_number, is_right, name_of, name_text}

-- a node that is no block, with its parent, what it is, and its stamp
abbrev pub plain : ℕ → Kind → ℕ → Node
plain p k s = record { parent = p; kind = k; state = Committed; stamp = s; end = 0 }

-- a block, with its parent and its begin and end stamps
abbrev pub pending : ℕ → ℕ → Node
pending p s = record { parent = p; kind = Block; state = Pending; stamp = s; end = 0 }

abbrev pub committed : ℕ → ℕ → ℕ → Node
committed p s e = record { parent = p; kind = Block; state = Committed; stamp = s; end = e }

abbrev pub aborted : ℕ → ℕ → ℕ → Node
aborted p s e = record { parent = p; kind = Block; state = Aborted; stamp = s; end = e }

-- a fork in a block; a block of the left strand writes, and the right strand is refused
abbrev pub inside : List Node
inside =
    plain 0 Strand 0 ∷ pending 0 1 ∷ plain 1 Fork 2 ∷ plain 2 Strand 0 ∷ pending 3 3 ∷ plain 4 (Write 0 (pos 1)) 4 ∷ plain 2 Strand 0
    ∷ plain 6 (Tried 0) 0 ∷ []

-- a block of the left strand writes; the right strand is refused in the inner of two blocks
abbrev pub apart : List Node
apart =
    plain 0 Strand 0 ∷ plain 0 Fork 1 ∷ plain 1 Strand 0 ∷ pending 2 2 ∷ plain 3 (Write 0 (pos 1)) 3 ∷ plain 1 Strand 0 ∷ pending 5 4 ∷ pending 6 5
    ∷ plain 7 (Tried 0) 0 ∷ []

-- the same after the writing block was committed
abbrev pub after_commit : List Node
after_commit =
    plain 0 Strand 0 ∷ plain 0 Fork 1 ∷ plain 1 Strand 0 ∷ committed 2 2 6 ∷ plain 3 (Write 0 (pos 1)) 3 ∷ plain 1 Strand 0 ∷ pending 5 4 ∷ pending 6 5
    ∷ plain 7 (Tried 0) 0 ∷ []

-- an access is refused twice, and then one of another cell; then a block is rolled back twice
abbrev pub tried_often : List Node
tried_often =
    plain 0 Strand 0 ∷ plain 0 Fork 1 ∷ plain 1 Strand 0 ∷ plain 2 (Write 0 (pos 1)) 2 ∷ plain 1 Strand 0 ∷ plain 4 (Tried 0) 0 ∷ plain 4 (Tried 0) 0
    ∷ plain 4 (Tried 1) 0 ∷ plain 4 (Read 0 (pos 1)) 3 ∷ aborted 4 4 6 ∷ plain 9 (Write 0 (pos 5)) 5 ∷ aborted 4 7 8 ∷ pending 4 9
    ∷ plain 12 (Write 0 (pos 2)) 10 ∷ plain 12 (Read 0 (pos 2)) 11 ∷ plain 12 (Tried 0) 0 ∷ []

abbrev pub left : ℕ → Turn
left k = record { fork = k; right = false }

abbrev pub right : ℕ → Turn
right k = record { fork = k; right = true }

-- which nodes are above which
abbrev pub Ancestors : Type 0
Ancestors =
    (path inside 5 ≡ 5 ∷ 4 ∷ 3 ∷ 2 ∷ 1 ∷ 0 ∷ [])
    × (above inside 5 ≡ 4 ∷ 3 ∷ 2 ∷ 1 ∷ 0 ∷ [])
    × (above inside 0 ≡ [])
    × (lca inside 5 7 ≡ 2)
    × (lca inside 4 5 ≡ 4)
    × (lca inside 7 7 ≡ 7)
    × (xparent inside 5 ≡ Some 4)
    × (xparent inside 4 ≡ Some 1)
    × (xparent apart 4 ≡ Some 3)
    × (xparent apart 2 ≡ None)
    × (xparent after_commit 4 ≡ Some 3)

-- nearest pending blocks, conflicts and victims
abbrev pub Conflicts : Type 0
Conflicts =
    (nua inside 5 ≡ Some 4)
    × (nua inside 4 ≡ Some 1)
    × (nua inside 7 ≡ Some 1)
    × (conflict inside 5 7 ≡ true)
    × (conflict inside 7 5 ≡ false)
    × (victim inside 5 7 ≡ None)
    × (nua apart 4 ≡ Some 3)
    × (conflict apart 4 8 ≡ true)
    × (victim apart 4 8 ≡ Some 6)
    × (victim apart 8 4 ≡ Some 3)
    × (victim apart 6 8 ≡ Some 6)
    × (nua after_commit 4 ≡ None)
    × (conflict after_commit 4 8 ≡ false)

-- a block with a fork was rolled back; its next attempt forks and is committed, and the strand forks again
abbrev pub tried_again : List Node
tried_again =
    plain 0 Strand 0 ∷ aborted 0 1 3 ∷ plain 1 Fork 2 ∷ plain 2 Strand 0 ∷ plain 2 Strand 0 ∷ committed 0 4 6 ∷ plain 5 Fork 5 ∷ plain 6 Strand 0
    ∷ plain 6 Strand 0 ∷ plain 0 Fork 7 ∷ plain 9 Strand 0 ∷ plain 9 Strand 0 ∷ plain 11 Fork 8 ∷ plain 12 Strand 0 ∷ plain 12 Strand 0 ∷ []

-- a strand in a strand and two in a block, which no run makes
abbrev pub crooked : List Node
crooked = plain 0 Strand 0 ∷ plain 0 Fork 1 ∷ pending 0 2 ∷ plain 2 Strand 0 ∷ plain 2 Strand 0 ∷ plain 4 Strand 0 ∷ []

-- the nodes of the two strands in the order in which they were made
abbrev pub interleaved : List Node
interleaved =
    plain 0 Strand 0 ∷ plain 0 Fork 1 ∷ plain 1 Strand 0 ∷ plain 1 Strand 0 ∷ plain 3 (Out (pos 7)) 2 ∷ committed 2 3 5 ∷ plain 3 (Out (pos 8)) 4
    ∷ plain 5 (Out (pos 9)) 4 ∷ plain 2 (Out (pos 6)) 6 ∷ plain 0 (Out (pos 5)) 7 ∷ []

-- strands, and nodes in series and in parallel
abbrev pub Orders : Type 0
Orders =
    (strand_of inside 5 ≡ 3)
    × (strand_of inside 3 ≡ 3)
    × (strand_of inside 2 ≡ 0)
    × (children inside 2 ≡ 3 ∷ 6 ∷ [])
    × (children inside 0 ≡ 1 ∷ [])
    × (children inside 7 ≡ [])
    × (parallel inside 5 7 ≡ true)
    × (parallel inside 1 7 ≡ false)
    × (parallel inside 7 7 ≡ false)
    × (is_before inside 5 7 ≡ false)
    × (parallel interleaved 4 7 ≡ true)
    × (parallel interleaved 4 6 ≡ false)
    × (is_before interleaved 4 6 ≡ true)
    × (is_before interleaved 6 4 ≡ false)
    × (is_before interleaved 7 8 ≡ true)
    × (is_before interleaved 4 9 ≡ true)
    × (is_before interleaved 5 7 ≡ false)
    × (is_before interleaved 7 7 ≡ false)
    × (depth_first interleaved ≡ 0 ∷ 1 ∷ 2 ∷ 5 ∷ 7 ∷ 8 ∷ 3 ∷ 4 ∷ 6 ∷ 9 ∷ [])

-- numbers of forks, and names of strands
abbrev pub Names : Type 0
Names =
    (fork_number tried_again 2 ≡ 1)
    × (fork_number tried_again 6 ≡ 1)
    × (fork_number tried_again 9 ≡ 2)
    × (fork_number tried_again 12 ≡ 1)
    × (is_right tried_again 10 ≡ false)
    × (is_right tried_again 11 ≡ true)
    × (name_of tried_again 0 ≡ [])
    × (name_of tried_again 3 ≡ left 1 ∷ [])
    × (name_of tried_again 8 ≡ right 1 ∷ [])
    × (name_of tried_again 13 ≡ right 2 ∷ left 1 ∷ [])
    × (name_of inside 6 ≡ right 1 ∷ [])
    × (name_of crooked 3 ≡ left 2 ∷ [])
    × (name_of crooked 5 ≡ right 2 ∷ left 1 ∷ [])

abbrev pub Texts : Type 0
Texts = (name_text [] ≡ codes "0") × (name_text (left 1 ∷ right 12 ∷ []) ≡ codes "0.1l.12r")

-- attempts of a block, and of an access
abbrev pub Attempts : Type 0
Attempts =
    (access_attempt tried_often 5 ≡ 1)
    × (access_attempt tried_often 6 ≡ 2)
    × (access_attempt tried_often 7 ≡ 1)
    × (access_attempt tried_often 15 ≡ 1)
    × (block_attempt tried_often 9 ≡ 1)
    × (block_attempt tried_often 11 ≡ 2)
    × (block_attempt tried_often 12 ≡ 3)
    × (block_attempt tried_again 5 ≡ 2)
    × (block_attempt tried_again 1 ≡ 1)

-- the places of strands, and which nodes have a stamp
abbrev pub Places : Type 0
Places =
    (place tried_often 4 ≡ 12)
    × (place tried_often 2 ≡ 2)
    × (place inside 3 ≡ 4)
    × (place inside 6 ≡ 6)
    × (last_of tried_often 4 ≡ 15)
    × (last_of tried_often 2 ≡ 3)
    × (last_of inside 6 ≡ 7)
    × (last_of tried_again 3 ≡ 3)
    × (has_later tried_often 12 ≡ false)
    × (has_later tried_often 9 ≡ true)
    × (with_stamp apart 3 ≡ Some 4)
    × (with_stamp apart 9 ≡ None)
    × (block_with_stamp apart 4 ≡ Some 6)
    × (block_with_stamp apart 3 ≡ None)
    × (closed apart 3 Committed 6 ≡ after_commit)
    × (closed apart 20 Committed 6 ≡ apart)

-- live accesses, the chain that they make, and a cell's value
abbrev pub Values : Type 0
Values =
    (is_live tried_often 10 ≡ false)
    × (is_live tried_often 9 ≡ true)
    × (is_live tried_often 13 ≡ true)
    × (live_accesses tried_often 0 ≡ 3 ∷ 8 ∷ 13 ∷ 14 ∷ [])
    × (live_accesses tried_often 1 ≡ [])
    × (by_key (λ n. 9 - n) (2 ∷ 5 ∷ 3 ∷ []) ≡ 5 ∷ 3 ∷ 2 ∷ [])
    × (by_key (λ n. n / 2) (5 ∷ 4 ∷ 3 ∷ 2 ∷ []) ≡ 3 ∷ 2 ∷ 5 ∷ 4 ∷ [])
    × (written tried_often 13 ≡ Some (pos 2))
    × (written tried_often 8 ≡ None)
    × (read tried_often 8 ≡ Some (pos 1))
    × (cell_value (pos 7) [] ≡ pos 7)
    × (cell_value (pos 0) (Some (pos 1) ∷ None ∷ Some (pos 2) ∷ None ∷ []) ≡ pos 2)
    × IsChain tried_often (3 ∷ 8 ∷ 13 ∷ 14 ∷ [])
    × (IsChain tried_often (14 ∷ 3 ∷ []) → ⊥)
    × (IsChain inside (5 ∷ 7 ∷ []) → ⊥)
    × IsChain inside (7 ∷ 5 ∷ [])

-- the same by stamps; it fails for a stamp that no access has, or that an access of another cell has
pub record Chains : Type 0 where
  pub holds : IsChainOf tried_often 0 (2 ∷ 3 ∷ 10 ∷ 11 ∷ [])
  pub unknown : IsChainOf tried_often 0 (2 ∷ 99 ∷ []) → ⊥
  pub other_cell : IsChainOf tried_often 1 (2 ∷ []) → ⊥
