-- Plain trees: the names of their strands differ, and one pass over the nodes gives them.
use Rattle.std.specs.Prelude.{◌≡◌, ℕ, ◌+◌, ◌-◌, ◌<◌, ◌≤◌, ◌==◌, ◌&&◌, false, nat_lt, IsTrue, List, length, map, filter, count_by, slice_index, if◌then◌else◌}
use Rattle.cw_tree.specs.declared.node.Node.{Node}
use Rattle.cw_tree.specs.declared.picks.Name.{Name}
use Rattle.cw_tree.specs.Nodes.{parent_of, is_strand, is_fork, is_aborted, below}
use Rattle.cw_tree.specs.Walks.{is_ancestor}
use Rattle.cw_tree.specs.Series.{strand_of}

-- A tree is plain at node n if n hangs from the node before it, or from one above that one; strands, and nothing else, are directly
-- beneath forks; a strand is the first of its fork, or the one after the first; and no fork was rolled back.
pub record IsPlainAt (t : List Node) (n : ℕ) : Type 0 where
  pub hangs : IsTrue (is_ancestor t (parent_of t n) (n - 1))
  pub strand : is_strand t n ≡ is_fork t (parent_of t n)
  pub side : IsTrue (is_strand t n) → parent_of t n + 1 < n → IsTrue (is_ancestor t (parent_of t n + 1) (n - 1))
  pub kept : IsTrue (is_fork t n) → (a : ℕ) → IsTrue (is_ancestor t a n) → is_aborted t a ≡ false

-- no rolled-back attempt around node n has a number below u
abbrev pub UndoneAt : List Node → (n u : ℕ) → Type 0
UndoneAt t n u = (a : ℕ) → IsTrue (is_ancestor t a n) → IsTrue (is_aborted t a) → u ≤ a

-- the number of strands before node s, which is the number of s if that is a strand
abbrev pub strands_before : List Node → ℕ → ℕ
strands_before t s = count_by (is_strand t) (below s)

-- the number of forks that strand s made before node n
abbrev pub forks_before : List Node → (s n : ℕ) → ℕ
forks_before t s n = count_by (λ g. is_fork t g && (strand_of t g == s)) (below n)

-- the number of the strand of node n
abbrev pub number_at : List Node → ℕ → ℕ
number_at t n = strands_before t (strand_of t n)

-- the name of strand s, which has the number of the strand that forked it
abbrev pub plain_name : List Node → ℕ → Name
plain_name t s =
    if s == 0 then record { parent = 0; fork = 0; right = false }
    else record { parent = number_at t (parent_of t s); fork = forks_before t (strand_of t (parent_of t s)) s; right = nat_lt (parent_of t s + 1) s }

-- what a pass over the nodes before n of a plain tree has found: names, the number of forks that each strand has made, and numbers
pub record IsPassed (t : List Node) (n : ℕ) (names : List Name) (forks numbers : List ℕ) : Type 0 where
  pub some : 0 < n
  pub plain : (m : ℕ) → 0 < m → m < n → IsPlainAt t m
  pub named : names ≡ map (plain_name t) (filter (is_strand t) (below n))
  pub forks_len : length forks ≡ strands_before t n
  pub forked : (s : ℕ) → s < n → IsTrue (is_strand t s) → slice_index forks (strands_before t s) ≡ forks_before t s n
  pub numbered : numbers ≡ map (number_at t) (below n)
