-- What is a member: accesses, outputs and cancels are, and no open block is.
use Rattle.std.proofs.Common.{◌≡◌, ℕ, List, refl, true, false, Option, Some, None}
use Rattle.std.specs.Prelude.{◌&&◌, ◌||◌, slice_get}
use Rattle.cw_tree.specs.declared.node.Node.{Node}
use Rattle.cw_tree.specs.declared.node.Kind.{Kind}
use Rattle.cw_tree.specs.declared.node.Kind.TheVariants.{Block}
use Rattle.cw_tree.specs.declared.node.BlockState.{BlockState}
use Rattle.cw_tree.specs.declared.node.BlockState.TheVariants.{Pending}
use Rattle.cw_tree.specs.Nodes.{passes, is_pending, is_committed, is_block_kind, is_pending_state, is_committed_state, first_state}
use Rattle.cw_record.specs.Items.{is_act, is_act_kind}

open_kind : (k : Kind) (s : BlockState) → (is_block_kind k && is_pending_state s) ≡ true → (is_act_kind k || (is_block_kind k && is_committed_state s)) ≡ false
open_kind Block Pending e = refl
open_kind Block _ e = absurd (cc e)
open_kind _ s e = absurd (cc e)

-- a pending block is no member
pub pending_no_member : (t : List Node) (n : ℕ) → is_pending t n ≡ true → (is_act t n || is_committed t n) ≡ false
pending_no_member t n =
    by (slice_get t n) where
      by : (o : Option Node) → passes (λ x. is_block_kind x.kind && is_pending_state x.state) o ≡ true
          → (passes (λ x. is_act_kind x.kind) o || passes (λ x. is_block_kind x.kind && is_committed_state x.state) o) ≡ false
      by None e = absurd (cc e)
      by (Some x) e = open_kind x.kind x.state e

-- an access, output or cancel is no block
pub act_no_block : (k : Kind) → is_act_kind k ≡ true → is_block_kind k ≡ false
act_no_block Block e = absurd (cc e)
act_no_block _ e = refl

-- the new nodes that are members are accesses, outputs and cancels
pub new_member : (k : Kind) → (is_act_kind k || (is_block_kind k && is_committed_state (first_state k))) ≡ is_act_kind k
new_member Block = refl
new_member _ = refl
