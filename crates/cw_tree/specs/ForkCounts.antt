-- How many forks in a node count at what follows it in its strand. One pass over the tree adds them up.
use Rattle.std.specs.Prelude.{ℕ, ◌&&◌, Bool, not, List, take_while, count_by, if◌then◌else◌}
use Rattle.cw_tree.specs.declared.node.Node.{Node}
use Rattle.cw_tree.specs.Nodes.{is_strand, is_fork, is_aborted, all_nodes}
use Rattle.cw_tree.specs.Walks.{path, has}

abbrev pub one_if : Bool → ℕ
one_if b = if b then 1 else 0

-- n is no strand, and was not rolled back: what follows it in its strand counts the forks in it
abbrev pub lets_out : List Node → ℕ → Bool
lets_out t n = not (is_strand t n) && not (is_aborted t n)

-- the way up from n, up to a strand or a block that was rolled back
abbrev pub way_out : List Node → ℕ → List ℕ
way_out t n = take_while (lets_out t) (path t n)

-- fork g counts at what follows node c in its strand
abbrev pub counts_after : List Node → ℕ → ℕ → Bool
counts_after t c g = is_fork t g && has (way_out t g) c

-- how many forks count at what follows node c in its strand
abbrev pub forks_after : List Node → ℕ → ℕ
forks_after t c = count_by (counts_after t c) (all_nodes t)
