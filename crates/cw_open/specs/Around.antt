-- What is around the place of a strand: the nodes from there up, what each of them holds, and which of them are pending blocks. The
-- steps of other strands leave it, whether the strand runs or waits.
use Rattle.std.specs.Prelude.{◌≡◌, ℕ, ◌<◌, false, IsTrue, List, length, map, filter, slice_get}
use Rattle.cw_tree.specs.declared.node.Node.{Node}
use Rattle.cw_tree.specs.Nodes.{stamp_of, is_pending}
use Rattle.cw_tree.specs.Walks.{has, path, is_ancestor}
use Rattle.cw_tree.specs.Series.{strand_of, children, place}
use Rattle.cw_tree.specs.Attempts.{block_attempt}
use Rattle.cw_tree.specs.VictimsAt.{victim_at}
use Rattle.cw_open.specs.Steps.{after_open_step}
use Rattle.cw_open.specs.Open.{is_open}
use Rattle.cw_open.specs.Hands.{OfEachStep, OfEachOther, is_step_of}

-- the pending blocks above a place, or at it, innermost first
abbrev pub blocks_at : List Node → ℕ → List ℕ
blocks_at t p = filter (is_pending t) (path t p)

-- their stamps
abbrev pub begins_at : List Node → ℕ → List ℕ
begins_at t p = map (stamp_of t) (blocks_at t p)

-- In tree u node q is as it was in tree t, with the same nodes in it. It has the same pending blocks around it, each begun at the same
-- stamp and at the same attempt. The same of them is the victim of an access in tree t.
pub record IsKeptAt (t u : List Node) (q : ℕ) : Type 0 where
  pub node : slice_get u q ≡ slice_get t q
  pub way : path u q ≡ path t q
  pub blocks : blocks_at u q ≡ blocks_at t q
  pub begins : begins_at u q ≡ begins_at t q
  pub attempts : map (block_attempt u) (blocks_at u q) ≡ map (block_attempt t) (blocks_at t q)
  pub inside : children u q ≡ children t q
  pub each : (n : ℕ) → IsTrue (has (children t q) n) → slice_get u n ≡ slice_get t n
  pub victim : (n : ℕ) → n < length t → victim_at u n q ≡ victim_at t n q

-- a step leaves each open node whose own strand does not make it: the places of strands that run and of those that wait, and all above these
abbrev pub OpenStay : Type 0
OpenStay = OfEachStep (λ m e. (q : ℕ) → IsTrue (is_open m q) → is_step_of (strand_of m.tree q) e ≡ false → IsKeptAt m.tree (after_open_step m e).tree q)

-- so a step of another leaves the place of a running strand, and each node above it
abbrev pub AroundStays : Type 0
AroundStays = OfEachOther (λ m e s. (q : ℕ) → IsTrue (is_ancestor m.tree q (place m.tree s)) → IsKeptAt m.tree (after_open_step m e).tree q)
