-- What strands did, for a tree in depth-first order.
use Rattle.std.specs.Prelude.{◌≡◌, ℕ, ◌<◌, List, length}
use Rattle.cw_strand.specs.Strands.{Strands}
use Rattle.cw_tree.specs.declared.node.Node.{Node}
use Rattle.cw_tree.specs.Walks.{IsNumbered}
use Rattle.cw_tree.specs.InOrder.{renamed, in_order}
use Rattle.cw_record.specs.Coherent.{Follows, StrandEnded, HasNoOpenFork}

-- In depth-first order the nodes have the same states, and the tree is still what strands did. A strand that has ended has ended
-- there, too. A node without an open fork has none there, either.
pub record MovedStates {A : Type 0} (s : Strands A) (t : List Node) (before after reached : ℕ → A) : Type 0 where
  pub new_before : ℕ → A
  pub new_after : ℕ → A
  pub new_reached : ℕ → A
  pub same : (n : ℕ) → n < length t → (new_before (renamed t n) ≡ before n) × (new_after (renamed t n) ≡ after n) × (new_reached (renamed t n) ≡ reached n)
  pub follows : Follows s (in_order t) new_before new_after new_reached
  pub ended : (x : ℕ) → x < length t → StrandEnded s t before after reached x → StrandEnded s (in_order t) new_before new_after new_reached (renamed t x)
  pub shut : (p : ℕ) → p < length t → HasNoOpenFork s t before after reached p → HasNoOpenFork s (in_order t) new_before new_after new_reached (renamed t p)

abbrev pub StrandsStay : Type 0 → Type 0
StrandsStay A = (s : Strands A) (t : List Node) (before after reached : ℕ → A) → IsNumbered t → Follows s t before after reached → MovedStates s t before after reached
