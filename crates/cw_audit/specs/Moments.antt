-- The moment of a conflict: after all that came before the asker, and before all that came after the asker or after the block.
use Rattle.std.specs.Prelude.{◌≡◌, ◌↔◌, ℕ, ◌<◌, ◌&&◌, false, IsTrue, IfSome, List, length, Option, None, slice_index, slice_index_or}
use Rattle.cw_tree.specs.declared.node.Node.{Node}
use Rattle.cw_tree.specs.declared.conflict.Conflict.{Conflict}
use Rattle.cw_tree.specs.Nodes.{parent_of, stamp_of, end_of, is_block, is_fork}
use Rattle.cw_tree.specs.Walks.{is_ancestor, is_above}
use Rattle.cw_tree.specs.Series.{is_before}
use Rattle.cw_audit.specs.Latest.{IsLeast, TopsBefore}

-- the last three of what `IsRefusal` asks
pub record HasMoment (t : List Node) (c : Conflict) (b : ℕ) : Type 0 where
  pub before_after_block : (n m : ℕ) → n < length t → m < length t → IsTrue (is_before t n c.asker) → IsTrue (is_before t b m) → 0 < stamp_of t m → (stamp_of t n < stamp_of t m) × (end_of t n < stamp_of t m)
  pub begun_after_block : (n m : ℕ) → n < length t → m < length t → IsTrue (is_block t n && is_above t n c.asker) → IsTrue (is_before t b m) → 0 < stamp_of t m → stamp_of t n < stamp_of t m
  pub last_after_asker : (m : ℕ) → m < length t → IsTrue (is_before t c.asker m) → 0 < stamp_of t m → c.last < stamp_of t m

-- ## What came before

-- for each node the least number that tops what is before it
pub record AreFloors (t : List Node) (floors : List ℕ) : Type 0 where
  pub len : length floors ≡ length t
  pub each : (n : ℕ) → n < length t → IsLeast (TopsBefore t n) (slice_index floors n)

-- ## What came after

-- v is less than a number, if there is one
abbrev pub IsUnder : ℕ → Option ℕ → Type 0
IsUnder v limit = IfSome limit (λ k. v < k)

-- D holds of the numbers under a limit, and of no others
abbrev pub HoldsUnder : (ℕ → Type 0) → Option ℕ → Type 0
HoldsUnder D limit = (v : ℕ) → D v ↔ IsUnder v limit

-- v is less than the stamp of node m, if it has one
abbrev pub Predates : List Node → ℕ → ℕ → Type 0
Predates t m v = 0 < stamp_of t m → v < stamp_of t m

-- it is less than those of node n and of what is beneath it
abbrev pub PredatesWithin : List Node → ℕ → ℕ → Type 0
PredatesWithin t n v = (m : ℕ) → m < length t → IsTrue (is_ancestor t n m) → Predates t m v

-- than those of what is beneath node n
abbrev pub PredatesBeneath : List Node → ℕ → ℕ → Type 0
PredatesBeneath t n v = (m : ℕ) → m < length t → IsTrue (is_above t n m) → Predates t m v

-- than those in the children of node p that come after n
abbrev pub PredatesPast : List Node → (n p v : ℕ) → Type 0
PredatesPast t n p v = (c : ℕ) → n < c → c < length t → parent_of t c ≡ p → PredatesWithin t c v

-- than those in the later children of the parent of node n, if its children are in series
abbrev pub PredatesBeside : List Node → ℕ → ℕ → Type 0
PredatesBeside t n v = is_fork t (parent_of t n) ≡ false → PredatesPast t n (parent_of t n) v

-- than those of what is after node n in series
abbrev pub PredatesAfter : List Node → ℕ → ℕ → Type 0
PredatesAfter t n v = (m : ℕ) → m < length t → IsTrue (is_before t n m) → Predates t m v

-- for each node but the root the least stamp in the later children of its parent, if there is one
pub record AreBesides (t : List Node) (firsts : List (Option ℕ)) : Type 0 where
  pub len : length firsts ≡ length t
  pub root : slice_index_or firsts 0 None ≡ None
  pub each : (n : ℕ) → 0 < n → n < length t → HoldsUnder (PredatesBeside t n) (slice_index_or firsts n None)

-- for each node the least stamp after it in series, if there is one
pub record AreFirstStamps (t : List Node) (firsts : List (Option ℕ)) : Type 0 where
  pub len : length firsts ≡ length t
  pub each : (n : ℕ) → n < length t → HoldsUnder (PredatesAfter t n) (slice_index_or firsts n None)
