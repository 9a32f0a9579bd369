-- Small trees in both orders.
use Rattle.std.specs.Prelude.{◌≡◌, List, [], ◌∷◌, true, false, pos}
use Rattle.cw_tree.specs.declared.node.Node.{Node}
use Rattle.cw_tree.specs.declared.node.Kind.TheVariants.{Strand, Fork, Out, Cancel}
use Rattle.cw_tree.specs.Series.{parallel, is_before}
use Rattle.cw_tree.specs.Worked.{plain, committed, inside, interleaved}
use Rattle.cw_sp.specs.Orders.{english, hebrew, stands_before, orders_differ, is_leaf}

-- the left strand of a fork forks in a block, and each of the three strands then has an output; main gives up its own block
abbrev pub nested : List Node
nested =
    plain 0 Strand 0 ∷ committed 0 1 10 ∷ plain 1 Fork 2 ∷ plain 2 Strand 0 ∷ committed 3 3 7 ∷ plain 4 Fork 4 ∷ plain 5 Strand 0 ∷ plain 6 (Out (pos 1)) 5
    ∷ plain 5 Strand 0 ∷ plain 8 (Out (pos 2)) 6 ∷ plain 2 Strand 0 ∷ plain 10 (Out (pos 3)) 8 ∷ plain 1 (Cancel []) 9 ∷ []

abbrev pub Leaves : Type 0
Leaves =
    (is_leaf nested 0 ≡ false)
    × (is_leaf nested 1 ≡ false)
    × (is_leaf nested 2 ≡ false)
    × (is_leaf nested 7 ≡ true)
    × (is_leaf nested 12 ≡ true)
    × (is_leaf nested 13 ≡ false)
    × (is_leaf inside 5 ≡ true)
    × (is_leaf inside 7 ≡ true)

abbrev pub Orders : Type 0
Orders =
    (english interleaved ≡ 0 ∷ 1 ∷ 2 ∷ 5 ∷ 7 ∷ 8 ∷ 3 ∷ 4 ∷ 6 ∷ 9 ∷ [])
    × (hebrew interleaved ≡ 0 ∷ 1 ∷ 3 ∷ 4 ∷ 6 ∷ 2 ∷ 5 ∷ 7 ∷ 8 ∷ 9 ∷ [])
    × (english nested ≡ 0 ∷ 1 ∷ 2 ∷ 3 ∷ 4 ∷ 5 ∷ 6 ∷ 7 ∷ 8 ∷ 9 ∷ 10 ∷ 11 ∷ 12 ∷ [])
    × (hebrew nested ≡ 0 ∷ 1 ∷ 2 ∷ 10 ∷ 11 ∷ 3 ∷ 4 ∷ 5 ∷ 8 ∷ 9 ∷ 6 ∷ 7 ∷ 12 ∷ [])

-- which leaves are parallel, and the two orders say the same
abbrev pub Pairs : Type 0
Pairs =
    (parallel nested 7 9 ≡ true)
    × (orders_differ nested 7 9 ≡ true)
    × (orders_differ nested 9 7 ≡ true)
    × (orders_differ nested 7 11 ≡ true)
    × (parallel nested 7 12 ≡ false)
    × (orders_differ nested 7 12 ≡ false)
    × (is_before nested 7 12 ≡ true)
    × (stands_before (hebrew nested) 7 12 ≡ true)
    × (stands_before (hebrew nested) 7 9 ≡ false)
    × (orders_differ nested 12 12 ≡ false)
    × (orders_differ interleaved 4 7 ≡ true)
    × (orders_differ interleaved 4 6 ≡ false)
    × (orders_differ interleaved 7 8 ≡ false)
    × (orders_differ interleaved 8 9 ≡ false)
