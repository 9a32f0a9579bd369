-- Cores whose trees have the same strands and forks.
use Rattle.std.proofs.Common.{◌≡◌, ℕ, ◌+◌, ◌<◌, ◌≤◌, List, [], ◌∷◌, ◌++◌, length, refl, ap, sym, ◌∙◌, arith, true, false, cond, inl, inr, nat_eq}
use Rattle.std.specs.Prelude.{◌⊎◌, ◌&&◌, nat_le}
use Rattle.std.proofs.lemmas.Bool.{cases_Bool}
use Rattle.cw_tree.specs.declared.node.Node.{Node}
use Rattle.cw_tree.specs.Nodes.{parent_of, is_strand}
use Rattle.cw_tree.specs.Walks.{IsRooted, has}
use Rattle.cw_tree.specs.Series.{strand_of}
use Rattle.cw_tree.proofs.Walks.Climbs.{by_parent}
use Rattle.cw_tree.proofs.Walks.Strands.{strand_of_root, strand_of_strand, strand_of_other}
use Rattle.cw_tree.proofs.Names.Naming.{on_strand, on_other}
use Rattle.cw_trace.specs.Stands.{fork_column}
use Rattle.cw_core.specs.State.{CoreState, has_columns, is_split}
use Rattle.cw_sim.specs.Workers.{left_node}
use Rattle.cw_sim.specs.Kept.{lefts, forks_around}

-- the nodes of core k are in core z, with their strands, and as many of their forks are split
pub record SameWays (k z : CoreState) : Type 0 where
  pub longer : length k.machine.tree ≤ length z.machine.tree
  pub parents : (n : ℕ) → n < length k.machine.tree → parent_of z.machine.tree n ≡ parent_of k.machine.tree n
  pub strands : (n : ℕ) → n < length k.machine.tree → is_strand z.machine.tree n ≡ is_strand k.machine.tree n
  pub splits : (f : ℕ) → f < length k.machine.tree → is_split z f ≡ is_split k f

-- a fork has columns, and is split, where it was
pub columns_same : (k z : CoreState) (f : ℕ) → fork_column z.machine.tree f ≡ fork_column k.machine.tree f → z.tier.room ≡ k.tier.room → has_columns z f ≡ has_columns k f
columns_same k z f at room = ap (λ c. nat_le (c + 2) z.tier.room) at ∙ ap (λ r. nat_le (fork_column k.machine.tree f + 2) r) room

pub split_same : (k z : CoreState) (f : ℕ) → fork_column z.machine.tree f ≡ fork_column k.machine.tree f → z.tier.room ≡ k.tier.room → z.splits ≡ k.splits → is_split z f ≡ is_split k f
split_same k z f at room splits =
    ap (λ b. b && has z.splits (fork_column z.machine.tree f)) (columns_same k z f at room)
    ∙ ap (λ c. has_columns k f && has z.splits c) at
    ∙ ap (λ cs. has_columns k f && has cs (fork_column k.machine.tree f)) splits

module _ (k z : CoreState) (rt : IsRooted k.machine.tree) (ru : IsRooted z.machine.tree) (same : SameWays k z) where
  abbrev t : List Node
  t = k.machine.tree

  abbrev u : List Node
  u = z.machine.tree

  -- a node stands in the same strand
  pub same_strand : (n : ℕ) → n < length t → strand_of u n ≡ strand_of t n
  same_strand =
      by_parent t rt (λ n. strand_of u n ≡ strand_of t n) (strand_of_root u ∙ sym (strand_of_root t))
      (λ n p h more. by_kind n p h more (cases_Bool (is_strand t n))) where
        by_kind : (n : ℕ) → 0 < n → n < length t → strand_of u (parent_of t n) ≡ strand_of t (parent_of t n) → (is_strand t n ≡ true) ⊎ (is_strand t n ≡ false) → strand_of u n ≡ strand_of t n
        by_kind n p h more (inl e) = let l = same.longer in strand_of_strand u ru n p (omega arith) (same.strands n h ∙ e) ∙ sym (strand_of_strand t rt n p h e)
        by_kind n p h more (inr e) = let l = same.longer in strand_of_other u ru n p (omega arith) (same.strands n h ∙ e) ∙ ap (strand_of u) (same.parents n h) ∙ more ∙ sym (strand_of_other t rt n p h e)

  -- and the same forks wait around it
  pub same_around : (n : ℕ) → n < length t → forks_around z n ≡ forks_around k n
  same_around =
      by_parent t rt (λ n. forks_around z n ≡ forks_around k n) refl
      (λ n p h more. by_kind n p h more (cases_Bool (is_strand t n))) where
        by_kind : (n : ℕ) → 0 < n → n < length t → forks_around z (parent_of t n) ≡ forks_around k (parent_of t n) → (is_strand t n ≡ true) ⊎ (is_strand t n ≡ false) → forks_around z n ≡ forks_around k n
        by_kind n p h more (inr e) = let l = same.longer in ap (lefts z) (on_other u ru n p (omega arith) (same.strands n h ∙ e)) ∙ ap (forks_around z) (same.parents n h) ∙ more ∙ sym (ap (lefts k) (on_other t rt n p h e))
        by_kind n p h more (inl e) =
            let l = same.longer in
            let f = parent_of t n in
            let low : f < n = rt n p h in
            ap (lefts z) (on_strand u ru n p (omega arith) (same.strands n h ∙ e))
            ∙ ap (λ g. cond (is_split z g) [] (cond (nat_eq n (left_node g)) (forks_around z g ++ g ∷ []) (forks_around z g))) (same.parents n h)
            ∙ ap (λ b. cond b [] (cond (nat_eq n (left_node f)) (forks_around z f ++ f ∷ []) (forks_around z f))) (same.splits f (omega arith))
            ∙ ap (λ gs. cond (is_split k f) [] (cond (nat_eq n (left_node f)) (gs ++ f ∷ []) gs)) more
            ∙ sym (ap (lefts k) (on_strand t rt n p h e))
