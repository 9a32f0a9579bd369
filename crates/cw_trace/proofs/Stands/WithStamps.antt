-- What a query is about has a stamp.
use Rattle.std.proofs.Common.{◌≡◌, ℕ, ◌<◌, List, length, Bool, true, false}
use borrow.Author.Tests.{ltb-true}
use Rattle.cw_tree.specs.declared.node.Node.{Node}
use Rattle.cw_tree.specs.Nodes.{is_block, is_pending, touches, stamp_of, touches_kind}
use Rattle.cw_tree.specs.Shape.{AreStamps}
use Rattle.cw_tree.proofs.Walks.There.{node_there, pending_there}
use Rattle.cw_tree.proofs.NodeKinds.{pending_block, block_stamped, access_no_block, access_stamped}

-- a pending block and an access, as far as a query is about them
pub record IsMarked (t : List Node) (n : ℕ) (block : Bool) : Type 0 where
  pub there : n < length t
  pub kind : is_block t n ≡ block
  pub some : 0 < stamp_of t n

pub pending_marked : (t : List Node) (n : ℕ) → AreStamps t → is_pending t n ≡ true → IsMarked t n true
pending_marked t n s e = record { there = pending_there t n e; kind = pending_block t n e; some = block_stamped t s n (pending_block t n e) }

pub access_marked : (t : List Node) (cell n : ℕ) → AreStamps t → touches t cell n ≡ true → IsMarked t n false
access_marked t cell n s e = record { there = node_there (λ x. touches_kind cell x.kind) t n e; kind = access_no_block t cell n e; some = access_stamped t s cell n e }
