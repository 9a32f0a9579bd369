-- What a node is: a strand, a fork, an access, output or cancel that was made, a refused access, or a block of one of three states.
use Rattle.std.proofs.Common.{◌≡◌, ℕ, ◌<◌, List, length, refl, ap, sym, ◌∙◌, Bool, true, false, Some, inl, inr, subst}
use Rattle.std.specs.Prelude.{◌⊎◌, slice_get, ◌&&◌}
use Rattle.cw_tree.specs.declared.node.Node.{Node}
use Rattle.cw_tree.specs.declared.node.Kind.{Kind}
use Rattle.cw_tree.specs.declared.node.Kind.TheVariants.{Strand, Fork, Block, Read, Write, Out, Cancel, Tried}
use Rattle.cw_tree.specs.declared.node.BlockState.{BlockState}
use Rattle.cw_tree.specs.declared.node.BlockState.TheVariants.{Pending, Committed, Aborted}
use Rattle.cw_tree.specs.Nodes.{passes, is_node, is_strand, is_fork, is_block, is_tried, is_pending, is_committed, is_aborted, is_strand_kind, is_fork_kind, is_block_kind, is_tried_kind, is_pending_state, is_committed_state, is_aborted_state}
use Rattle.cw_tree.proofs.Walks.There.{node_there}
use Rattle.cw_serial.proofs.Numbers.{get_some}
use Rattle.cw_record.specs.Items.{is_act, is_act_kind}

pub data Sort : Type 0 where
  strand : Sort
  fork : Sort
  act : Sort
  tried : Sort
  pending : Sort
  committed : Sort
  aborted : Sort

abbrev pub of_strand : Sort → Bool
of_strand strand = true
of_strand _ = false

abbrev pub of_fork : Sort → Bool
of_fork fork = true
of_fork _ = false

abbrev pub of_act : Sort → Bool
of_act act = true
of_act _ = false

abbrev pub of_tried : Sort → Bool
of_tried tried = true
of_tried _ = false

abbrev pub of_pending : Sort → Bool
of_pending pending = true
of_pending _ = false

abbrev pub of_committed : Sort → Bool
of_committed committed = true
of_committed _ = false

abbrev pub of_aborted : Sort → Bool
of_aborted aborted = true
of_aborted _ = false

abbrev pub of_block : Sort → Bool
of_block pending = true
of_block committed = true
of_block aborted = true
of_block _ = false

abbrev pub block_sort : BlockState → Sort
block_sort Pending = pending
block_sort Committed = committed
block_sort Aborted = aborted

abbrev pub sort_of : Kind → BlockState → Sort
sort_of Strand b = strand
sort_of Fork b = fork
sort_of Block b = block_sort b
sort_of (Read c v) b = act
sort_of (Write c v) b = act
sort_of (Out v) b = act
sort_of (Cancel back) b = act
sort_of (Tried c) b = tried

-- node n is of this sort, and of no other
pub record IsSort (t : List Node) (n : ℕ) (z : Sort) : Type 0 where
  pub strand : is_strand t n ≡ of_strand z
  pub fork : is_fork t n ≡ of_fork z
  pub block : is_block t n ≡ of_block z
  pub act : is_act t n ≡ of_act z
  pub tried : is_tried t n ≡ of_tried z
  pub pending : is_pending t n ≡ of_pending z
  pub committed : is_committed t n ≡ of_committed z
  pub aborted : is_aborted t n ≡ of_aborted z

abbrev Same : Kind → BlockState → Sort → Type 0
Same k b z =
    (is_strand_kind k ≡ of_strand z) × (is_fork_kind k ≡ of_fork z) × (is_block_kind k ≡ of_block z) × (is_act_kind k ≡ of_act z) × (is_tried_kind k ≡ of_tried z)
    × ((is_block_kind k && is_pending_state b) ≡ of_pending z) × ((is_block_kind k && is_committed_state b) ≡ of_committed z) × ((is_block_kind k && is_aborted_state b) ≡ of_aborted z)

same : (k : Kind) (b : BlockState) → Same k b (sort_of k b)
same Block Pending = (refl, refl, refl, refl, refl, refl, refl, refl)
same Block Committed = (refl, refl, refl, refl, refl, refl, refl, refl)
same Block Aborted = (refl, refl, refl, refl, refl, refl, refl, refl)
same _ b = (refl, refl, refl, refl, refl, refl, refl, refl)

pub sort_at : (t : List Node) (n : ℕ) (x : Node) → slice_get t n ≡ Some x → IsSort t n (sort_of x.kind x.state)
sort_at t n x e = record {
  strand = ap (passes (λ x. is_strand_kind x.kind)) e ∙ (same x.kind x.state).0;
  fork = ap (passes (λ x. is_fork_kind x.kind)) e ∙ (same x.kind x.state).1;
  block = ap (passes (λ x. is_block_kind x.kind)) e ∙ (same x.kind x.state).2;
  act = ap (passes (λ x. is_act_kind x.kind)) e ∙ (same x.kind x.state).3;
  tried = ap (passes (λ x. is_tried_kind x.kind)) e ∙ (same x.kind x.state).4;
  pending = ap (passes (λ x. is_block_kind x.kind && is_pending_state x.state)) e ∙ (same x.kind x.state).5;
  committed = ap (passes (λ x. is_block_kind x.kind && is_committed_state x.state)) e ∙ (same x.kind x.state).6;
  aborted = ap (passes (λ x. is_block_kind x.kind && is_aborted_state x.state)) e ∙ (same x.kind x.state).7;
}

pub sort : (t : List Node) (n : ℕ) → n < length t → (z : Sort) × IsSort t n z
sort t n h = let x = get_some t n h in (sort_of x.0.kind x.0.state, sort_at t n x.0 x.1)

-- ## By one test all others are known

module _ (t : List Node) (n : ℕ) where
  only : (test : Node → Bool) (of : Sort → Bool) (z : Sort) → ((x : Sort) → of x ≡ true → x ≡ z) → ((x : Sort) → IsSort t n x → is_node test t n ≡ of x) → is_node test t n ≡ true → IsSort t n z
  only test of z one is e =
      let s = sort t n (node_there test t n e) in
      let P : Sort → Type 0 = λ x. IsSort t n x in
      subst P (one s.0 (sym (is s.0 s.1) ∙ e)) s.1

  pub strand_sort : is_strand t n ≡ true → IsSort t n strand
  strand_sort = only (λ x. is_strand_kind x.kind) of_strand strand one (λ x s. s.strand) where
    one : (x : Sort) → of_strand x ≡ true → x ≡ strand
    one strand e = refl
    one _ e = absurd (cc e)

  pub act_sort : is_act t n ≡ true → IsSort t n act
  act_sort = only (λ x. is_act_kind x.kind) of_act act one (λ x s. s.act) where
    one : (x : Sort) → of_act x ≡ true → x ≡ act
    one act e = refl
    one _ e = absurd (cc e)

  pub tried_sort : is_tried t n ≡ true → IsSort t n tried
  tried_sort = only (λ x. is_tried_kind x.kind) of_tried tried one (λ x s. s.tried) where
    one : (x : Sort) → of_tried x ≡ true → x ≡ tried
    one tried e = refl
    one _ e = absurd (cc e)

  pub pending_sort : is_pending t n ≡ true → IsSort t n pending
  pending_sort = only (λ x. is_block_kind x.kind && is_pending_state x.state) of_pending pending one (λ x s. s.pending) where
    one : (x : Sort) → of_pending x ≡ true → x ≡ pending
    one pending e = refl
    one _ e = absurd (cc e)

  pub committed_sort : is_committed t n ≡ true → IsSort t n committed
  committed_sort = only (λ x. is_block_kind x.kind && is_committed_state x.state) of_committed committed one (λ x s. s.committed) where
    one : (x : Sort) → of_committed x ≡ true → x ≡ committed
    one committed e = refl
    one _ e = absurd (cc e)

  pub aborted_sort : is_aborted t n ≡ true → IsSort t n aborted
  aborted_sort = only (λ x. is_block_kind x.kind && is_aborted_state x.state) of_aborted aborted one (λ x s. s.aborted) where
    one : (x : Sort) → of_aborted x ≡ true → x ≡ aborted
    one aborted e = refl
    one _ e = absurd (cc e)

  -- a block that was not rolled back is committed or pending
  pub kept_block : is_block t n ≡ true → is_aborted t n ≡ false → (is_committed t n ≡ true) ⊎ (is_pending t n ≡ true)
  kept_block e f = let s = sort t n (node_there (λ x. is_block_kind x.kind) t n e) in by s.0 s.1 where
    by : (z : Sort) → IsSort t n z → (is_committed t n ≡ true) ⊎ (is_pending t n ≡ true)
    by committed s = inl s.committed
    by pending s = inr s.pending
    by aborted s = absurd (cc (f, s.aborted))
    by _ s = absurd (cc (e, s.block))
