-- Names of strands. A strand's k-th fork gives .kl and .kr after its name. What comes after an attempt that was rolled
-- back does not count its forks.
use Rattle.std.specs.Prelude.{ℕ, ◌+◌, ◌==◌, ◌&&◌, ◌||◌, Bool, not, nat_lt, List, ◌++◌, filter, map, reverse, count_by, codes, if◌then◌else◌}
use Rattle.std.specs.List.{list_any, list_all, flat_map}
use Rattle.std.specs.Fmt.{decimal}
use Rattle.cw_tree.specs.declared.node.Node.{Node}
use Rattle.cw_tree.specs.declared.picks.Turn.{Turn}
use Rattle.cw_tree.specs.Nodes.{parent_of, is_strand, is_fork, is_aborted, below, all_nodes}
use Rattle.cw_tree.specs.Walks.{path, above, is_above}
use Rattle.cw_tree.specs.Series.{strand_of, is_before}

-- fork g counts at n: it is before n in the same strand, and each block above it that was rolled back is above n too
abbrev pub fork_counts_at : List Node → ℕ → ℕ → Bool
fork_counts_at t n g = is_fork t g && (strand_of t g == strand_of t n) && is_before t g n && list_all (λ a. not (is_aborted t a) || is_above t a n) (above t g)

-- which fork of its strand f is, counted from 1
abbrev pub fork_number : List Node → ℕ → ℕ
fork_number t f = count_by (fork_counts_at t f) (all_nodes t) + 1

-- strand s is a right one: an earlier strand has the same parent
abbrev pub is_right : List Node → ℕ → Bool
is_right t s = list_any (λ m. nat_lt 0 m && is_strand t m && (parent_of t m == parent_of t s)) (below s)

-- the step down to strand s
abbrev pub turn : List Node → ℕ → Turn
turn t s = record { fork = fork_number t (parent_of t s); right = is_right t s }

-- the strands on the way up from n except the root, innermost first
abbrev pub strands_on : List Node → ℕ → List ℕ
strands_on t n = filter (λ m. nat_lt 0 m && is_strand t m) (path t n)

-- the name of strand s: the steps down to it from the root
abbrev pub name_of : List Node → ℕ → List Turn
name_of t s = reverse (map (turn t) (strands_on t s))

abbrev pub turn_text : Turn → List ℕ
turn_text x = codes "." ++ decimal x.fork ++ (if x.right then codes "r" else codes "l")

abbrev pub name_text : List Turn → List ℕ
name_text xs = codes "0" ++ flat_map turn_text xs
