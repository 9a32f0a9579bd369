-- A core that goes on after a block was closed.
use Rattle.std.proofs.Common.{◌≡◌, ℕ, ◌+◌, ◌*◌, ◌<◌, List, length, refl, ap, sym, ◌∙◌, arith, true, nat_eq}
use Rattle.std.specs.Prelude.{◌&&◌, not, nat_lt, filter}
use Rattle.std.specs.List.{list_any}
use Rattle.cw_tree.specs.declared.node.Node.{Node}
use Rattle.cw_tree.specs.declared.node.BlockState.{BlockState}
use Rattle.cw_tree.specs.Nodes.{is_strand_kind, is_fork_kind, parent_of, is_strand, is_fork, all_nodes, below, closed}
use Rattle.cw_tree.specs.Walks.{has}
use Rattle.cw_tree.specs.Series.{children, strand_of}
use Rattle.cw_tree.specs.Shape.{IsTree}
use Rattle.cw_tree.proofs.NextNodes.Closing.{length_closed, node_closed, number_closed, strand_of_closed}
use Rattle.cw_tree.proofs.Members.{any_same, filter_same, in_below}
use Rattle.cw_trace.specs.Stands.{fork_column}
use Rattle.cw_open.specs.Machine.{has_finished, is_running, waits}
use Rattle.cw_core.specs.State.{CoreState, has_columns}
use Rattle.cw_sim.proofs.Kept.Same.{SameWays, split_same, columns_same}

-- core z is core k with block b closed
pub record IsShut (k z : CoreState) (b : ℕ) (state : BlockState) (end : ℕ) : Type 0 where
  pub tree : z.machine.tree ≡ closed k.machine.tree b state end
  pub room : z.tier.room ≡ k.tier.room
  pub splits : z.splits ≡ k.splits
  pub joined : z.machine.joined ≡ k.machine.joined
  pub finished : z.machine.finished ≡ k.machine.finished
  pub stopped : z.machine.stopped ≡ k.machine.stopped

module _ (k z : CoreState) (tree : IsTree k.machine.tree) (b : ℕ) (state : BlockState) (end : ℕ) (is : IsShut k z b state end) where
  abbrev t : List Node
  t = k.machine.tree

  len : length z.machine.tree ≡ length t
  len = ap length is.tree ∙ length_closed t b state end

  fork_same : (f : ℕ) → is_fork z.machine.tree f ≡ is_fork t f
  fork_same f = ap (λ x. is_fork x f) is.tree ∙ node_closed t b state end (λ y. is_fork_kind y.kind) (λ x. refl) f

  parent_same : (n : ℕ) → parent_of z.machine.tree n ≡ parent_of t n
  parent_same n = ap (λ x. parent_of x n) is.tree ∙ number_closed t b state end (λ y. y.parent) (λ x. refl) n

  strand_same : (n : ℕ) → is_strand z.machine.tree n ≡ is_strand t n
  strand_same n = ap (λ x. is_strand x n) is.tree ∙ node_closed t b state end (λ y. is_strand_kind y.kind) (λ x. refl) n

  all_same : all_nodes z.machine.tree ≡ all_nodes t
  all_same = ap below len

  column_same : (f : ℕ) → fork_column z.machine.tree f ≡ fork_column t f
  column_same f = ap (λ ns. 2 * length ns + 1) (filter_same (is_fork z.machine.tree) (is_fork t) (below f) (λ n i. fork_same n))

  pub shut_ways : SameWays k z
  shut_ways = record {
    longer = omega (arith, len);
    parents = λ n h. parent_same n;
    strands = λ n h. strand_same n;
    splits = λ f h. split_same k z f (column_same f) is.room is.splits;
  }

  pub shut_columns : (f : ℕ) → f < length t → has_columns z f ≡ has_columns k f
  shut_columns f h = columns_same k z f (column_same f) is.room

  pub shut_forks : (f : ℕ) → is_fork z.machine.tree f ≡ true → (is_fork t f ≡ true) × (children z.machine.tree f ≡ children t f)
  shut_forks f e = (
    sym (fork_same f) ∙ e,
    ap (filter (λ m. nat_lt 0 m && nat_eq (parent_of z.machine.tree m) f)) all_same
        ∙ filter_same (λ m. nat_lt 0 m && nat_eq (parent_of z.machine.tree m) f) (λ m. nat_lt 0 m && nat_eq (parent_of t m) f) (all_nodes t) (λ m i. ap (λ q. nat_lt 0 m && nat_eq q f) (parent_same m)),
  )

  -- strands wait and run as they did
  pub shut_waits : (s : ℕ) → waits z.machine s ≡ waits k.machine s
  shut_waits s =
      ap (list_any (λ f. is_fork z.machine.tree f && nat_eq (strand_of z.machine.tree f) s && not (has z.machine.joined f))) all_same
      ∙ any_same (λ f. is_fork z.machine.tree f && nat_eq (strand_of z.machine.tree f) s && not (has z.machine.joined f)) (λ f. is_fork t f && nat_eq (strand_of t f) s && not (has k.machine.joined f)) (all_nodes t)
      (λ f i.
      ap (λ a. a && nat_eq (strand_of z.machine.tree f) s && not (has z.machine.joined f)) (fork_same f)
      ∙ ap (λ q. is_fork t f && nat_eq q s && not (has z.machine.joined f)) (ap (λ x. strand_of x f) is.tree ∙ strand_of_closed t b state end tree.rooted f (in_below f (length t) i))
      ∙ ap (λ js. is_fork t f && nat_eq (strand_of t f) s && not (has js f)) is.joined)

  pub shut_runs : (s : ℕ) → is_running z.machine s ≡ is_running k.machine s
  shut_runs s =
      ap (λ a. a && not (has_finished z.machine s) && not (waits z.machine s) && not (has z.machine.stopped s)) (strand_same s)
      ∙ ap (λ fs. is_strand t s && not (list_any (λ f. nat_eq f.0 s) fs) && not (waits z.machine s) && not (has z.machine.stopped s)) is.finished
      ∙ ap (λ a. is_strand t s && not (has_finished k.machine s) && not a && not (has z.machine.stopped s)) (shut_waits s)
      ∙ ap (λ ss. is_strand t s && not (has_finished k.machine s) && not (waits k.machine s) && not (has ss s)) is.stopped
