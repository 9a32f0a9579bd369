-- What a node is excludes what else it might be.
use Rattle.std.proofs.Common.{◌≡◌, ℕ, zero, suc, ◌<◌, List, length, refl, ap, ◌∙◌, arith, Bool, true, false, Option, Some, None}
use Rattle.std.specs.Prelude.{◌&&◌, ◌||◌, not, slice_get}
use Rattle.std.proofs.lemmas.Bool.{and_parts, ltb-true, false_from_ne_true}
use Rattle.cw_tree.specs.declared.node.Node.{Node}
use Rattle.cw_tree.specs.declared.node.Kind.{Kind}
use Rattle.cw_tree.specs.declared.node.Kind.TheVariants.{Strand, Fork, Block, Read, Write, Out, Tried, Cancel}
use Rattle.cw_tree.specs.Nodes.{passes, is_node, is_strand_kind, is_fork_kind, is_block_kind, is_tried_kind, is_pending_state, is_committed_state, is_aborted_state, touches_kind, first_state, is_strand, is_fork, is_block, is_tried, is_pending, is_committed, is_aborted, touches, stamp_of}
use Rattle.cw_tree.specs.Shape.{AreStamps}
use Rattle.cw_tree.proofs.Walks.There.{node_there}

-- what one test tells of another on each node, it tells of node n
pub node_tells : (v : Bool) (t : List Node) (p q : Node → Bool) → ((x : Node) → p x ≡ true → q x ≡ v) → (n : ℕ) → is_node p t n ≡ true → is_node q t n ≡ v
node_tells v t p q tells n = by (slice_get t n) where
  by : (o : Option Node) → passes p o ≡ true → passes q o ≡ v
  by None e = absurd (cc e)
  by (Some x) e = tells x e

-- ## Strands, forks and blocks

strand_no_block_kind : (k : Kind) → is_strand_kind k ≡ true → is_block_kind k ≡ false
strand_no_block_kind Block e = absurd (cc e)
strand_no_block_kind _ e = refl

fork_no_strand_kind : (k : Kind) → is_fork_kind k ≡ true → is_strand_kind k ≡ false
fork_no_strand_kind Strand e = absurd (cc e)
fork_no_strand_kind _ e = refl

fork_no_block_kind : (k : Kind) → is_fork_kind k ≡ true → is_block_kind k ≡ false
fork_no_block_kind Block e = absurd (cc e)
fork_no_block_kind _ e = refl

pub strand_no_block : (t : List Node) (n : ℕ) → is_strand t n ≡ true → is_block t n ≡ false
strand_no_block t = node_tells false t (λ x. is_strand_kind x.kind) (λ x. is_block_kind x.kind) (λ x. strand_no_block_kind x.kind)

pub fork_no_strand : (t : List Node) (n : ℕ) → is_fork t n ≡ true → is_strand t n ≡ false
fork_no_strand t = node_tells false t (λ x. is_fork_kind x.kind) (λ x. is_strand_kind x.kind) (λ x. fork_no_strand_kind x.kind)

pub fork_no_block : (t : List Node) (n : ℕ) → is_fork t n ≡ true → is_block t n ≡ false
fork_no_block t = node_tells false t (λ x. is_fork_kind x.kind) (λ x. is_block_kind x.kind) (λ x. fork_no_block_kind x.kind)

pub strand_no_fork : (t : List Node) (n : ℕ) → is_strand t n ≡ true → is_fork t n ≡ false
strand_no_fork t n e = false_from_ne_true (is_fork t n) (λ f. absurd (let no = fork_no_strand t n f in cc))

pub block_no_strand : (t : List Node) (n : ℕ) → is_block t n ≡ true → is_strand t n ≡ false
block_no_strand t n e = false_from_ne_true (is_strand t n) (λ s. absurd (let no = strand_no_block t n s in cc))

-- what is no strand is not the root, where that is one
pub other_some : (t : List Node) → is_strand t 0 ≡ true → (n : ℕ) → is_strand t n ≡ false → 0 < n
other_some t root zero e = absurd (cc (e, root))
other_some t root (suc n) e = omega arith

pub block_some : (t : List Node) → is_strand t 0 ≡ true → (n : ℕ) → is_block t n ≡ true → 0 < n
block_some t root n e = other_some t root n (block_no_strand t n e)

pub fork_some : (t : List Node) → is_strand t 0 ≡ true → (n : ℕ) → is_fork t n ≡ true → 0 < n
fork_some t root n e = other_some t root n (fork_no_strand t n e)

-- ## States of blocks

-- what has a state is a block
pub pending_block : (t : List Node) (n : ℕ) → is_pending t n ≡ true → is_block t n ≡ true
pending_block t = node_tells true t (λ x. is_block_kind x.kind && is_pending_state x.state) (λ x. is_block_kind x.kind) (λ x e. (and_parts (is_block_kind x.kind) (is_pending_state x.state) e).0)

pub committed_block : (t : List Node) (n : ℕ) → is_committed t n ≡ true → is_block t n ≡ true
committed_block t = node_tells true t (λ x. is_block_kind x.kind && is_committed_state x.state) (λ x. is_block_kind x.kind) (λ x e. (and_parts (is_block_kind x.kind) (is_committed_state x.state) e).0)

pub aborted_block : (t : List Node) (n : ℕ) → is_aborted t n ≡ true → is_block t n ≡ true
aborted_block t = node_tells true t (λ x. is_block_kind x.kind && is_aborted_state x.state) (λ x. is_block_kind x.kind) (λ x e. (and_parts (is_block_kind x.kind) (is_aborted_state x.state) e).0)

-- a new block is pending
pub new_open : (k : Kind) → (is_block_kind k && is_pending_state (first_state k)) ≡ is_block_kind k
new_open Block = refl
new_open _ = refl

-- so it was not rolled back
pub new_stands : (k : Kind) → (is_block_kind k && is_aborted_state (first_state k)) ≡ false
new_stands Block = refl
new_stands _ = refl

-- ## Stamps

-- a node that is neither a strand nor a refused access has a stamp
pub stamped : (t : List Node) (n : ℕ) → AreStamps t → n < length t → is_strand t n ≡ false → is_tried t n ≡ false → 0 < stamp_of t n
stamped t n s h strand tried = ltb-true 0 (stamp_of t n) (s.there n h ∙ ap not (ap (λ b. b || is_tried t n) strand ∙ tried))

access_alone : (c : ℕ) (k : Kind) → touches_kind c k ≡ true → (is_block_kind k ≡ false) × (is_strand_kind k ≡ false) × (is_tried_kind k ≡ false)
access_alone c (Read d v) e = (refl, refl, refl)
access_alone c (Write d v) e = (refl, refl, refl)
access_alone c Strand e = absurd (cc e)
access_alone c Fork e = absurd (cc e)
access_alone c Block e = absurd (cc e)
access_alone c (Out v) e = absurd (cc e)
access_alone c (Tried d) e = absurd (cc e)
access_alone c (Cancel back) e = absurd (cc e)

pub access_no_block : (t : List Node) (c n : ℕ) → touches t c n ≡ true → is_block t n ≡ false
access_no_block t c = node_tells false t (λ x. touches_kind c x.kind) (λ x. is_block_kind x.kind) (λ x e. (access_alone c x.kind e).0)

pub access_stamped : (t : List Node) → AreStamps t → (c n : ℕ) → touches t c n ≡ true → 0 < stamp_of t n
access_stamped t s c n e =
    stamped t n s (node_there (λ x. touches_kind c x.kind) t n e)
    (node_tells false t (λ x. touches_kind c x.kind) (λ x. is_strand_kind x.kind) (λ x h. (access_alone c x.kind h).1) n e)
    (node_tells false t (λ x. touches_kind c x.kind) (λ x. is_tried_kind x.kind) (λ x h. (access_alone c x.kind h).2) n e)

-- a block has one too
block_no_tried : (k : Kind) → is_block_kind k ≡ true → is_tried_kind k ≡ false
block_no_tried (Tried c) e = absurd (cc e)
block_no_tried _ e = refl

pub block_stamped : (t : List Node) → AreStamps t → (n : ℕ) → is_block t n ≡ true → 0 < stamp_of t n
block_stamped t s n e =
    stamped t n s (node_there (λ x. is_block_kind x.kind) t n e) (block_no_strand t n e) (node_tells false t (λ x. is_block_kind x.kind) (λ x. is_tried_kind x.kind) (λ x. block_no_tried x.kind) n e)
