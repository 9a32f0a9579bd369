-- A core that goes on after a node came that is neither a strand nor a fork.
use Rattle.std.proofs.Common.{◌≡◌, ℕ, ◌<◌, List, [], ◌∷◌, ◌++◌, length, refl, ap, sym, ◌∙◌, subst, arith, true, false, inl, inr, nat_eq}
use Rattle.std.specs.Prelude.{◌&&◌, not}
use Rattle.std.proofs.lemmas.Bool.{cases_eq}
use Rattle.cw_tree.specs.declared.node.Node.{Node}
use Rattle.cw_tree.specs.Nodes.{is_strand_kind, is_fork_kind, parent_of, is_strand, is_fork}
use Rattle.cw_tree.specs.Walks.{has}
use Rattle.cw_tree.specs.Series.{children, strand_of}
use Rattle.cw_tree.specs.Shape.{IsTree}
use Rattle.cw_tree.proofs.NextNodes.Growing.{length_more, node_grown, number_grown, node_new}
use Rattle.cw_tree.proofs.Walks.There.{fork_there}
use Rattle.cw_trace.proofs.Keeps.Grow.{fork_column_append}
use Rattle.cw_trace.specs.Columns.{used}
use Rattle.cw_open.specs.Machine.{has_finished, is_running, waits}
use Rattle.cw_core.specs.State.{CoreState, has_columns}
use Rattle.cw_core.proofs.Events.Places.{waits_grown}
use Rattle.cw_core.proofs.Kept.Tails.{children_other}
use Rattle.cw_sim.proofs.Kept.Same.{SameWays, split_same, columns_same}

-- core z is core k with one node more
pub record IsMore (k z : CoreState) (x : Node) : Type 0 where
  pub tree : z.machine.tree ≡ k.machine.tree ++ x ∷ []
  pub there : x.parent < length k.machine.tree
  pub under : is_fork k.machine.tree x.parent ≡ false
  pub strand : is_strand_kind x.kind ≡ false
  pub fork : is_fork_kind x.kind ≡ false
  pub room : z.tier.room ≡ k.tier.room
  pub splits : z.splits ≡ k.splits
  pub joined : z.machine.joined ≡ k.machine.joined
  pub finished : z.machine.finished ≡ k.machine.finished
  pub stopped : z.machine.stopped ≡ k.machine.stopped

module _ (k z : CoreState) (tree : IsTree k.machine.tree) (x : Node) (is : IsMore k z x) where
  abbrev t : List Node
  t = k.machine.tree

  abbrev u : List Node
  u = t ++ x ∷ []

  column_more : (f : ℕ) → f < length t → Rattle.cw_trace.specs.Stands.fork_column z.machine.tree f ≡ Rattle.cw_trace.specs.Stands.fork_column t f
  column_more f h = ap (λ v. Rattle.cw_trace.specs.Stands.fork_column v f) is.tree ∙ fork_column_append t (x ∷ []) tree.rooted (used k.tier) f (omega arith)

  pub more_ways : SameWays k z
  more_ways = record {
    longer = omega (arith, ap length is.tree, length_more t x);
    parents = λ n h. ap (λ v. parent_of v n) is.tree ∙ number_grown t (x ∷ []) (λ y. y.parent) n h;
    strands = λ n h. ap (λ v. is_strand v n) is.tree ∙ node_grown t (x ∷ []) (λ y. is_strand_kind y.kind) n h;
    splits = λ f h. split_same k z f (column_more f h) is.room is.splits;
  }

  pub more_columns : (f : ℕ) → f < length t → has_columns z f ≡ has_columns k f
  more_columns f h = columns_same k z f (column_more f h) is.room

  old_fork : (f : ℕ) → is_fork u f ≡ true → is_fork t f ≡ true
  old_fork f e =
      let low = fork_there u f e in
      elim (cases_eq f (length t)) [
        | inl q ↦ absurd (cc (e, ap (is_fork u) q, node_new t x (λ y. is_fork_kind y.kind), is.fork))
        | inr ne ↦ (let len = length_more t x in sym (node_grown t (x ∷ []) (λ y. is_fork_kind y.kind) f (omega (arith, ne))) ∙ e)
      ]

  pub more_forks : (f : ℕ) → is_fork z.machine.tree f ≡ true → (is_fork t f ≡ true) × (children z.machine.tree f ≡ children t f)
  more_forks f e =
      let fork = old_fork f (sym (ap (λ v. is_fork v f) is.tree) ∙ e) in
      (fork, ap (λ v. children v f) is.tree ∙ children_other t x f tree.some (λ q. absurd (let P : ℕ → Type 0 = λ n. is_fork t n ≡ false in let o = subst P q is.under in cc (fork, o))))

  -- strands wait and run as they did
  pub more_waits : (s : ℕ) → waits z.machine s ≡ waits k.machine s
  more_waits s =
      waits_grown t (x ∷ []) tree.rooted k.machine z.machine refl is.tree is.joined s
      (λ f le low.
      let len = length_more t x in
      let q : f ≡ length t = omega arith in
      ap (λ b. b && nat_eq (strand_of u f) s) (ap (is_fork u) q ∙ node_new t x (λ y. is_fork_kind y.kind) ∙ is.fork))

  pub more_runs : (s : ℕ) → s < length t → is_running z.machine s ≡ is_running k.machine s
  more_runs s h =
      ap (λ v. is_strand v s && not (has_finished z.machine s) && not (waits z.machine s) && not (has z.machine.stopped s)) is.tree
      ∙ ap (λ b. b && not (has_finished z.machine s) && not (waits z.machine s) && not (has z.machine.stopped s)) (node_grown t (x ∷ []) (λ y. is_strand_kind y.kind) s h)
      ∙ ap (λ fs. is_strand t s && not (Rattle.std.specs.List.list_any (λ f. nat_eq f.0 s) fs) && not (waits z.machine s) && not (has z.machine.stopped s)) is.finished
      ∙ ap (λ b. is_strand t s && not (has_finished k.machine s) && not b && not (has z.machine.stopped s)) (more_waits s)
      ∙ ap (λ ss. is_strand t s && not (has_finished k.machine s) && not (waits k.machine s) && not (has ss s)) is.stopped
