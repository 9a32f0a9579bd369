-- In a tree that one worker builds nothing is rolled back.
use Rattle.std.proofs.Common.{◌≡◌, ℕ, List, refl, Bool, true, false, inl, inr, Option, Some, None}
use Rattle.std.specs.Prelude.{◌⊎◌, ◌&&◌, slice_get}
use Rattle.std.proofs.lemmas.Bool.{cases_Bool, false_from_ne_true}
use Rattle.cw_tree.specs.declared.node.Node.{Node}
use Rattle.cw_tree.specs.declared.node.BlockState.{BlockState}
use Rattle.cw_tree.specs.declared.node.BlockState.TheVariants.{Pending, Committed, Aborted}
use Rattle.cw_tree.specs.Nodes.{is_block, is_pending, is_committed, is_aborted, is_block_kind, is_pending_state, is_committed_state, is_aborted_state, passes}
use Rattle.cw_tree.specs.Walks.{is_ancestor}
use Rattle.cw_tree.proofs.NodeKinds.{aborted_block}
use Rattle.cw_record.specs.Records.{BlocksAround}
use Rattle.cw_record.proofs.OneWorker.Building.{IsBuilt}

one_state : (b : Bool) (s : BlockState) → ((b && is_pending_state s) ≡ true) ⊎ ((b && is_committed_state s) ≡ true) → (b && is_aborted_state s) ≡ false
one_state true Pending h = refl
one_state true Committed h = refl
one_state true Aborted h = elim h [ inl e ↦ absurd (cc e) | inr e ↦ absurd (cc e) ]
one_state false s h = refl

-- a block that is pending or committed was not rolled back
pub not_aborted_from : (t : List Node) (n : ℕ) → (is_pending t n ≡ true) ⊎ (is_committed t n ≡ true) → is_aborted t n ≡ false
not_aborted_from t n =
    by_node (slice_get t n) where
      by_node : (o : Option Node) → (passes (λ x. is_block_kind x.kind && is_pending_state x.state) o ≡ true) ⊎ (passes (λ x. is_block_kind x.kind && is_committed_state x.state) o ≡ true) → passes (λ x. is_block_kind x.kind && is_aborted_state x.state) o ≡ false
      by_node None h = refl
      by_node (Some x) h = one_state (is_block_kind x.kind) x.state h

-- nothing was rolled back where each block is pending or committed
pub none_aborted : (t : List Node) (q : ℕ) → BlocksAround t q → (n : ℕ) → is_aborted t n ≡ false
none_aborted t q b n =
    false_from_ne_true (is_aborted t n) (λ e.
    let block : is_block t n ≡ true = aborted_block t n e in
    let state : (is_pending t n ≡ true) ⊎ (is_committed t n ≡ true) =
    elim (cases_Bool (is_ancestor t n q)) [ inl over ↦ inl (b.pending n block over) | inr none ↦ inr (b.committed n block (λ over. absurd (cc (none, over)))) ] in
    absurd (cc (e, not_aborted_from t n state)))

pub not_aborted : (t : List Node) (p clock : ℕ) → IsBuilt t p clock → (n : ℕ) → is_aborted t n ≡ false
not_aborted t p clock b = none_aborted t p (record { pending = b.pending; committed = b.committed })
