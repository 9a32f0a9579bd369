-- A node that passes a test is there, and what is known of a node that is.
use Rattle.std.proofs.Common.{◌≡◌, ℕ, ◌<◌, List, length, ap, Bool, true, Some, inl, inr}
use Rattle.std.specs.Prelude.{◌&&◌, slice_get}
use Rattle.std.proofs.lemmas.Bool.{cases_lt}
use Rattle.std.proofs.lemmas.Option.{slice_get_past}
use Rattle.cw_tree.specs.declared.node.Node.{Node}
use Rattle.cw_tree.specs.Nodes.{passes, is_node, number_in, is_strand_kind, is_fork_kind, is_block_kind, is_pending_state, is_strand, is_fork, is_pending, stamp_of}

pub node_there : (p : Node → Bool) (t : List Node) (n : ℕ) → is_node p t n ≡ true → n < length t
node_there p t n e = elim (cases_lt n (length t)) [ inl l ↦ l | inr past ↦ absurd (cc (e, ap (passes p) (slice_get_past t n past))) ]

pub stamp_is : (t : List Node) (n : ℕ) (x : Node) → slice_get t n ≡ Some x → stamp_of t n ≡ x.stamp
stamp_is t n x at = ap (number_in (λ y. y.stamp)) at

pub pending_there : (t : List Node) (n : ℕ) → is_pending t n ≡ true → n < length t
pending_there t n e = node_there (λ y. is_block_kind y.kind && is_pending_state y.state) t n e

pub fork_there : (t : List Node) (n : ℕ) → is_fork t n ≡ true → n < length t
fork_there t n e = node_there (λ y. is_fork_kind y.kind) t n e

pub strand_there : (t : List Node) (n : ℕ) → is_strand t n ≡ true → n < length t
strand_there t n e = node_there (λ y. is_strand_kind y.kind) t n e
