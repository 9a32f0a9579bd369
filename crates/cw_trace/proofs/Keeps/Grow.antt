-- Columns stay as the tree grows.
use Rattle.std.proofs.Common.{◌≡◌, ℕ, zero, suc, ◌+◌, ◌*◌, ◌<◌, ◌≤◌, List, ◌++◌, length, refl, ap, ◌∙◌, arith, nat_lt}
use Rattle.std.specs.Prelude.{if◌then◌else◌}
use Rattle.cw_tree.specs.declared.node.Node.{Node}
use Rattle.cw_tree.specs.Nodes.{parent_of, is_fork, is_fork_kind, below}
use Rattle.cw_tree.specs.Walks.{IsRooted}
use Rattle.cw_tree.specs.Series.{strand_of}
use Rattle.cw_tree.specs.Names.{is_right}
use Rattle.cw_tree.proofs.NextNodes.Growing.{node_grown, number_grown, strand_of_grown}
use Rattle.cw_tree.proofs.Members.{in_below, filter_same}
use Rattle.cw_tree.proofs.Walks.Agreeing.{agree_grown}
use Rattle.cw_tree.proofs.Names.KeptNames.{right_same}
use Rattle.cw_tree.proofs.Walks.Strands.{strand_of_le}
use Rattle.cw_trace.specs.Stands.{column, column_in, fork_column}

module _ (t s : List Node) (r : IsRooted t) (size : ℕ) where
  pub fork_column_append : (f : ℕ) → f ≤ length t → fork_column (t ++ s) f ≡ fork_column t f
  fork_column_append f h = ap (λ xs. 2 * length xs + 1) (filter_same (is_fork (t ++ s)) (is_fork t) (below f) (λ m i. node_grown t s (λ x. is_fork_kind x.kind) m (let low : m < f = in_below m f i in omega arith)))

  in_append : (k x : ℕ) → x < length t → column_in (t ++ s) size k x ≡ column_in t size k x
  in_append zero x h = refl
  in_append (suc k) zero h = refl
  in_append (suc k) (suc x) h =
      let f : ℕ = parent_of t (suc x) in
      let low : f < suc x = r (suc x) (omega arith) h in
      let le : strand_of t f ≤ f = strand_of_le t r f (omega arith) in
      let same : parent_of (t ++ s) (suc x) ≡ f = number_grown t s (λ y. y.parent) (suc x) h in
      ap (λ g. if nat_lt (fork_column (t ++ s) g + 1) size then (if is_right (t ++ s) (suc x) then fork_column (t ++ s) g + 1 else fork_column (t ++ s) g) else column_in (t ++ s) size k (strand_of (t ++ s) g)) same
      ∙ ap (λ g. if nat_lt (g + 1) size then (if is_right (t ++ s) (suc x) then g + 1 else g) else column_in (t ++ s) size k (strand_of (t ++ s) f)) (fork_column_append f (omega arith))
      ∙ ap (λ b. if nat_lt (fork_column t f + 1) size then (if b then fork_column t f + 1 else fork_column t f) else column_in (t ++ s) size k (strand_of (t ++ s) f)) (right_same t (t ++ s) (length t) (agree_grown t s r) (suc x) h)
      ∙ ap (λ z. if nat_lt (fork_column t f + 1) size then (if is_right t (suc x) then fork_column t f + 1 else fork_column t f) else z)
      (ap (column_in (t ++ s) size k) (strand_of_grown t s r f (omega arith)) ∙ in_append k (strand_of t f) (omega arith))

  -- the column of a node stays
  pub column_append : (n : ℕ) → n < length t → column (t ++ s) size n ≡ column t size n
  column_append n h =
      let le : strand_of t n ≤ n = strand_of_le t r n h in
      ap (λ z. column_in (t ++ s) size z z) (strand_of_grown t s r n h) ∙ in_append (strand_of t n) (strand_of t n) (omega arith)
