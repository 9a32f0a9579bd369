-- How the nodes in a place end: how many rolled-back blocks come last, or refused accesses of a cell. What a new node makes of it, and a
-- block that is closed.
use Rattle.std.specs.Prelude.{◌≡◌, ◌≢◌, ℕ, ◌+◌, ◌<◌, ◌&&◌, false, IsTrue, List, [], ◌∷◌, ◌++◌, length, Some}
use Rattle.std.specs.List.{suffix_len}
use Rattle.cw_tree.specs.declared.node.Node.{Node}
use Rattle.cw_tree.specs.declared.node.Kind.TheVariants.{Tried}
use Rattle.cw_tree.specs.declared.node.BlockState.TheVariants.{Committed, Aborted}
use Rattle.cw_tree.specs.Nodes.{is_block_kind, is_aborted_state, parent_of, is_block, is_aborted, closed}
use Rattle.cw_tree.specs.Walks.{IsRooted}
use Rattle.cw_tree.specs.Series.{children, has_later}
use Rattle.cw_tree.specs.Attempts.{tried_cell_in, tried_cell, same_cell, block_attempt, access_attempt}

-- how many rolled-back blocks come last in a place
abbrev pub aborted_last : List Node → ℕ → ℕ
aborted_last t p = suffix_len (is_aborted t) (children t p)

-- how many refused accesses of a cell come last there
abbrev pub tried_last : List Node → (p c : ℕ) → ℕ
tried_last t p c = suffix_len (λ m. same_cell (tried_cell t m) (Some c)) (children t p)

-- node x came in its place, behind all that were there
pub record HasGrownTail (t : List Node) (x : Node) : Type 0 where
  pub behind : children (t ++ x ∷ []) x.parent ≡ children t x.parent ++ length t ∷ []
  pub empty : children (t ++ x ∷ []) (length t) ≡ []
  pub aborted : (is_block_kind x.kind && is_aborted_state x.state) ≡ false → aborted_last (t ++ x ∷ []) x.parent ≡ 0
  pub again : (c : ℕ) → x.kind ≡ Tried c → tried_last (t ++ x ∷ []) x.parent c ≡ tried_last t x.parent c + 1
  pub anew : (c : ℕ) → same_cell (tried_cell_in x.kind) (Some c) ≡ false → tried_last (t ++ x ∷ []) x.parent c ≡ 0
  pub attempt : block_attempt (t ++ x ∷ []) (length t) ≡ aborted_last t x.parent + 1
  pub tries : (c : ℕ) → x.kind ≡ Tried c → access_attempt (t ++ x ∷ []) (length t) ≡ tried_last t x.parent c + 1
  -- other places, and the attempts of older nodes, stay
  pub others : (p : ℕ) → p ≢ x.parent → children (t ++ x ∷ []) p ≡ children t p
  pub older : (b : ℕ) → b < length t → block_attempt (t ++ x ∷ []) b ≡ block_attempt t b
  pub older_tries : (v : ℕ) → v < length t → access_attempt (t ++ x ∷ []) v ≡ access_attempt t v

abbrev pub TailsGrow : Type 0
TailsGrow = (t : List Node) (x : Node) → IsRooted t → x.parent < length t → HasGrownTail t x

-- block b, the last in its place, was closed
pub record HasClosedTail (t : List Node) (b end : ℕ) : Type 0 where
  pub aborted : aborted_last (closed t b Aborted end) (parent_of t b) ≡ block_attempt t b
  pub committed : aborted_last (closed t b Committed end) (parent_of t b) ≡ 0

abbrev pub TailsClose : Type 0
TailsClose = (t : List Node) (b end : ℕ) → IsTrue (is_block t b) → 0 < b → has_later t b ≡ false → HasClosedTail t b end
