-- All listed nodes are nodes of the tree.
use Rattle.std.proofs.Common.{ℕ, ◌<◌, List, [], ◌∷◌, length, arith}
use Rattle.std.specs.Prelude.{All}
use Rattle.std.specs.List.{filter}
use Rattle.std.proofs.lemmas.List.Elements.{All-nil, All-cons, All-same, All-append, All-filter}
use Rattle.cw_tree.specs.declared.node.Node.{Node}
use Rattle.cw_tree.specs.Nodes.{parent_of, is_pending, below, all_nodes}
use Rattle.cw_tree.specs.Walks.{IsRooted, path}
use Rattle.cw_tree.proofs.Walks.Climbs.{path_step, by_parent}
use Rattle.cw_tree.proofs.Members.{in_below}
use Rattle.cw_tree.proofs.ChainLaws.Chains.{there_from}
use Rattle.cw_tree.proofs.Sorts.{all_by_key}
use Rattle.cw_record.specs.Items.{key}
use Rattle.cw_record.specs.Levels.{is_member, sorted_members, listed}

pub all_below : (k : ℕ) → All (λ n. n < k) (below k)
all_below k = there_from k (below k) (λ n i. in_below n k i)

module _ (t : List Node) (r : IsRooted t) where
  abbrev is_there : ℕ → Type 0
  is_there n = n < length t

  all_path : (n : ℕ) → n < length t → All is_there (path t n)
  all_path n h =
      by_parent t r (λ n. n < length t → All is_there (path t n)) (λ l. All-cons is_there 0 [] l (All-nil is_there))
      (λ m s l more g. All-same is_there (path t m) (m ∷ path t (parent_of t m)) (path_step t r m s l) (All-cons is_there m (path t (parent_of t m)) l (more (let low : parent_of t m < m = r m s l in omega arith)))) n h h

  pub listed_there : (p : ℕ) → p < length t → All is_there (listed t p)
  listed_there p h =
      All-append is_there (sorted_members t) (filter (is_pending t) (path t p)) (all_by_key (key t) is_there (filter (is_member t) (all_nodes t)) (All-filter (is_member t) is_there (all_nodes t) (all_below (length t))))
      (All-filter (is_pending t) is_there (path t p) (all_path p h))
