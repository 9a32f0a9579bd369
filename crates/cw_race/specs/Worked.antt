-- A few accesses, and what is kept of them; small trees, and which of their accesses race.
use Rattle.std.specs.Prelude.{◌≡◌, ℕ, ◌==◌, Bool, List, [], ◌∷◌, true, false, not, Some, None, pos, slice_index}
use Rattle.std.specs.List.{list_any}
use Rattle.cw_tree.specs.declared.node.Node.{Node}
use Rattle.cw_tree.specs.declared.node.Kind.TheVariants.{Strand, Fork, Read, Write, Cancel}
use Rattle.cw_tree.specs.Nodes.{all_nodes}
use Rattle.cw_tree.specs.Worked.{plain, committed, aborted, pending}
use Rattle.cw_race.specs.Kept.{races, is_free_of_races, kept_reader, last_writer, rival}
use Rattle.cw_race.specs.Races.{IsFirstRace, are_racing, number_of_accesses}

-- ## What is kept

-- positions of three accesses: the first two are in parallel, and so are the first and the last
abbrev pub forked : ℕ → ℕ
forked = slice_index (9 ∷ 4 ∷ 5 ∷ [])

-- the first two are in series, and the last is parallel to the second alone
abbrev pub in_series : ℕ → ℕ
in_series = slice_index (3 ∷ 8 ∷ 5 ∷ [])

-- only the last one writes
abbrev pub last_writes : ℕ → Bool
last_writes n = n == 2

-- all but the second write
abbrev pub others_write : ℕ → Bool
others_write n = not (n == 1)

abbrev pub Keeping : Type 0
Keeping =
    (races forked last_writes 0 2 ≡ true)
    × (races forked last_writes 1 2 ≡ false)
    × (races forked last_writes 0 1 ≡ false)
    × (is_free_of_races forked last_writes (0 ∷ 1 ∷ []) ≡ true)
    × (is_free_of_races forked last_writes (0 ∷ 1 ∷ 2 ∷ []) ≡ false)
    -- the first read is kept, so a write that is parallel to it alone is found
    × (kept_reader forked last_writes None (0 ∷ 1 ∷ []) ≡ Some 0)
    × (rival forked last_writes (0 ∷ 1 ∷ []) 2 ≡ Some 0)
    -- the second read comes after the first one, and is kept
    × (kept_reader in_series last_writes None (0 ∷ 1 ∷ []) ≡ Some 1)
    × (rival in_series last_writes (0 ∷ 1 ∷ []) 2 ≡ Some 1)
    -- a read races with a writer, but not with a reader
    × (rival in_series (λ n. n == 1) (0 ∷ 1 ∷ []) 2 ≡ Some 1)
    × (rival in_series (λ n. n == 0) (0 ∷ 1 ∷ []) 2 ≡ None)
    × (last_writer forked others_write None (0 ∷ 1 ∷ 2 ∷ []) ≡ Some 2)
    × (last_writer forked last_writes None (0 ∷ 1 ∷ []) ≡ None)

-- ## Trees

-- both strands of a fork in a block read and write cell 0
abbrev pub lost_update : List Node
lost_update =
    plain 0 Strand 0 ∷ committed 0 1 7 ∷ plain 1 Fork 2 ∷ plain 2 Strand 0 ∷ plain 3 (Read 0 (pos 0)) 3 ∷ plain 3 (Write 0 (pos 1)) 4
    ∷ plain 2 Strand 0 ∷ plain 6 (Read 0 (pos 1)) 5 ∷ plain 6 (Write 0 (pos 2)) 6 ∷ []

-- the same, where each strand does so in a block of its own
abbrev pub kept_apart : List Node
kept_apart =
    plain 0 Strand 0 ∷ committed 0 1 11 ∷ plain 1 Fork 2 ∷ plain 2 Strand 0 ∷ committed 3 3 6 ∷ plain 4 (Read 0 (pos 0)) 4
    ∷ plain 4 (Write 0 (pos 1)) 5 ∷ plain 2 Strand 0 ∷ committed 7 7 10 ∷ plain 8 (Read 0 (pos 1)) 8 ∷ plain 8 (Write 0 (pos 2)) 9 ∷ []

-- the left strand writes; the right one writes in a block of its own, and then outside it
abbrev pub half_apart : List Node
half_apart =
    plain 0 Strand 0 ∷ committed 0 1 8 ∷ plain 1 Fork 2 ∷ plain 2 Strand 0 ∷ plain 3 (Write 0 (pos 1)) 3 ∷ plain 2 Strand 0 ∷ committed 5 4 6
    ∷ plain 6 (Write 0 (pos 2)) 5 ∷ plain 5 (Write 0 (pos 3)) 7 ∷ []

-- a write in each strand of a fork outside all blocks
abbrev pub outside : List Node
outside = plain 0 Strand 0 ∷ plain 0 Fork 1 ∷ plain 1 Strand 0 ∷ plain 2 (Write 0 (pos 1)) 2 ∷ plain 1 Strand 0 ∷ plain 4 (Write 0 (pos 2)) 3 ∷ []

-- a write in the left strand, and one after both strands have ended
abbrev pub joined : List Node
joined = plain 0 Strand 0 ∷ plain 0 Fork 1 ∷ plain 1 Strand 0 ∷ plain 2 (Write 0 (pos 1)) 2 ∷ plain 1 Strand 0 ∷ plain 0 (Write 0 (pos 2)) 3 ∷ []

-- a write in each strand of a fork in a block that is given up
abbrev pub given_up : List Node
given_up =
    plain 0 Strand 0 ∷ committed 0 1 6 ∷ plain 1 Fork 2 ∷ plain 2 Strand 0 ∷ plain 3 (Write 0 (pos 1)) 3 ∷ plain 2 Strand 0
    ∷ plain 5 (Write 0 (pos 2)) 4 ∷ plain 1 (Cancel []) 5 ∷ []

-- the same in a block that was rolled back
abbrev pub rolled_back : List Node
rolled_back =
    plain 0 Strand 0 ∷ aborted 0 1 5 ∷ plain 1 Fork 2 ∷ plain 2 Strand 0 ∷ plain 3 (Write 0 (pos 1)) 3 ∷ plain 2 Strand 0
    ∷ plain 5 (Write 0 (pos 2)) 4 ∷ []

-- the same, where the rolled-back block is around the block of the writes
abbrev pub rolled_back_around : List Node
rolled_back_around =
    plain 0 Strand 0 ∷ aborted 0 1 7 ∷ committed 1 2 6 ∷ plain 2 Fork 3 ∷ plain 3 Strand 0 ∷ plain 4 (Write 0 (pos 1)) 4 ∷ plain 3 Strand 0
    ∷ plain 6 (Write 0 (pos 2)) 5 ∷ []

-- a write in each strand of a fork in a pending block
abbrev pub still_pending : List Node
still_pending =
    plain 0 Strand 0 ∷ pending 0 1 ∷ plain 1 Fork 2 ∷ plain 2 Strand 0 ∷ plain 3 (Write 0 (pos 1)) 3 ∷ plain 2 Strand 0 ∷ plain 5 (Write 0 (pos 2)) 4 ∷ []

-- the left strand writes in a block of its own, the right one outside it
abbrev pub left_apart : List Node
left_apart =
    plain 0 Strand 0 ∷ committed 0 1 7 ∷ plain 1 Fork 2 ∷ plain 2 Strand 0 ∷ committed 3 3 5 ∷ plain 4 (Write 0 (pos 1)) 4 ∷ plain 2 Strand 0
    ∷ plain 6 (Write 0 (pos 2)) 6 ∷ []

-- a tree that is not numbered depth first: the write of the left strand is node 5, that of the right one node 4
abbrev pub late_left : List Node
late_left = plain 0 Strand 0 ∷ plain 0 Fork 1 ∷ plain 1 Strand 0 ∷ plain 1 Strand 0 ∷ plain 3 (Write 0 (pos 1)) 2 ∷ plain 2 (Write 0 (pos 2)) 3 ∷ []

abbrev pub Racing : Type 0
Racing =
    (are_racing lost_update 0 5 7 ≡ true)
    × (are_racing lost_update 0 4 8 ≡ true)
    × (are_racing lost_update 0 4 7 ≡ false)
    × (are_racing lost_update 0 7 5 ≡ false)
    × (are_racing lost_update 1 5 7 ≡ false)
    × (are_racing half_apart 0 4 7 ≡ false)
    × (are_racing half_apart 0 4 8 ≡ true)
    × (are_racing outside 0 3 5 ≡ true)
    × (are_racing given_up 0 4 6 ≡ true)
    × (are_racing still_pending 0 4 6 ≡ true)
    × (are_racing late_left 0 5 4 ≡ true)
    × (are_racing late_left 0 4 5 ≡ false)
    × (number_of_accesses lost_update ≡ 4)
    × (number_of_accesses given_up ≡ 2)

-- two accesses of cell c race
abbrev pub has_race : List Node → ℕ → Bool
has_race t c = list_any (λ v. list_any (λ u. are_racing t c u v) (all_nodes t)) (all_nodes t)

abbrev pub Quiet : Type 0
Quiet =
    (has_race lost_update 0 ≡ true)
    × (has_race lost_update 1 ≡ false)
    × (has_race kept_apart 0 ≡ false)
    × (has_race joined 0 ≡ false)
    × (has_race rolled_back 0 ≡ false)
    × (has_race rolled_back_around 0 ≡ false)
    × (has_race left_apart 0 ≡ false)

-- The write of the right strand races with what the left one did, but its read is the first that does.
abbrev pub Later : Type 0
Later = IsFirstRace lost_update (record { cell = 0; first = 4; second = 8 }) → ⊥
