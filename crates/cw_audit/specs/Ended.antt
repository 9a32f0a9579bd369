-- Which blocks above an access have ended by a time, and the shortest ways to those that have not.
use Rattle.std.specs.Prelude.{◌≡◌, ℕ, ◌<◌, ◌&&◌, false, nat_lt, Bool, IsTrue, List, length, Option, Some, None, slice_index_or}
use Rattle.cw_tree.specs.declared.node.Node.{Node}
use Rattle.cw_tree.specs.Nodes.{end_of, is_block, is_committed}
use Rattle.cw_tree.specs.Walks.{is_ancestor, is_above}

-- block b was committed before this time
abbrev pub has_ended_by : List Node → (time b : ℕ) → Bool
has_ended_by t time b = is_committed t b && nat_lt (end_of t b) time

-- Every block above node n that is not on the way up from block b has ended. If there is no block b, all have.
abbrev pub EndedUpTo : List Node → (time n : ℕ) → Option ℕ → Type 0
EndedUpTo t time n None = (a : ℕ) → IsTrue (is_block t a) → IsTrue (is_above t a n) → IsTrue (has_ended_by t time a)
EndedUpTo t time n (Some b) =
    IsTrue (is_block t b) × IsTrue (is_above t b n)
    × ((a : ℕ) → IsTrue (is_block t a) → IsTrue (is_above t a n) → is_ancestor t a b ≡ false → IsTrue (has_ended_by t time a))

-- for each node a block above it, or none, so that all blocks on the way there have ended
pub record AreShortcuts (t : List Node) (time : ℕ) (ways : List (Option ℕ)) : Type 0 where
  pub len : length ways ≡ length t
  pub each : (n : ℕ) → n < length t → EndedUpTo t time n (slice_index_or ways n None)
