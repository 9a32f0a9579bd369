-- What is computed once for all lines of a report.
use Rattle.std.specs.Prelude.{◌≡◌, ℕ, List, Bool, map, find, ◌==◌, Option}
use Rattle.std.specs.BTreeMap.{get}
use Rattle.std.specs.Ordering.{nat_cmp}
use Rattle.cw_tree.specs.declared.node.Node.{Node}
use Rattle.cw_tree.specs.Nodes.{all_nodes, below, stamp_of, with_stamp}
use Rattle.cw_tree.specs.Names.{fork_number, is_right}
use Rattle.cw_tree.specs.Series.{strand_of}
use Rattle.cw_report.specs.declared.found.Found.{Found}

-- the first of the first `k` nodes that has this stamp
abbrev pub first_with_stamp : List Node → (k stamp : ℕ) → Option ℕ
first_with_stamp t k stamp = find (λ n. stamp_of t n == stamp) (below k)

-- What names the strands of a tree. For each node: the number that a fork in its place has, whether it is a right strand, and its strand.
pub record AreStrands (t : List Node) (numbers : List ℕ) (rights : List Bool) (strands : List ℕ) : Type 0 where
  pub forks : numbers ≡ map (fork_number t) (all_nodes t)
  pub sides : rights ≡ map (is_right t) (all_nodes t)
  pub owners : strands ≡ map (strand_of t) (all_nodes t)

-- What names the strands, and for each stamp its first node.
pub record AreFound (t : List Node) (f : Found) : Type 0 where
  pub strands : AreStrands t f.strands.forks.items f.strands.sides.items f.strands.owners.items
  pub first : (stamp : ℕ) → get nat_cmp f.first stamp ≡ with_stamp t stamp
