-- What follows from the definitions.
use Rattle.std.specs.Prelude.{◌≡◌, ℕ, ◌+◌, ◌<◌, false, List, length}
use Rattle.cw_tree.specs.declared.node.Node.{Node}
use Rattle.cw_tree.specs.Walks.{IsRooted, is_ancestor}
use Rattle.cw_tree.specs.Series.{parallel, is_before}
use Rattle.cw_tree.specs.ForkCounts.{one_if}

-- if neither of two nodes is an ancestor of the other, exactly one of these holds: they are parallel, a is before b, or b is before a
abbrev pub SeriesOrParallel : Type 0
SeriesOrParallel =
    (t : List Node) → IsRooted t → (a b : ℕ) → a < length t → b < length t → is_ancestor t a b ≡ false → is_ancestor t b a ≡ false
    → one_if (parallel t a b) + one_if (is_before t a b) + one_if (is_before t b a) ≡ 1
