-- Strands that have not finished: which forks they wait for, that they are live, and when they are free.
use Rattle.std.specs.Prelude.{◌≡◌, ℕ, ◌&&◌, false, not, IsTrue, All}
use Rattle.cw_tree.specs.Nodes.{is_strand, is_fork, is_pending}
use Rattle.cw_tree.specs.Walks.{has, is_above}
use Rattle.cw_tree.specs.Series.{strand_of, place}
use Rattle.cw_tree.specs.Accesses.{is_live}
use Rattle.cw_open.specs.Machine.{has_finished, is_running, in_block, is_free}
use Rattle.cw_open.specs.Laws.{OfEachState}
use Rattle.cw_open.specs.Around.{begins_at}

-- a strand that waits, waits for one fork
abbrev pub OneForkIsAwaited : Type 0
OneForkIsAwaited =
    OfEachState (λ first m. (f g : ℕ) → IsTrue (is_fork m.tree f && not (has m.joined f)) → IsTrue (is_fork m.tree g && not (has m.joined g)) → strand_of m.tree f ≡ strand_of m.tree g → f ≡ g)

-- no block above a strand that has not finished was rolled back
abbrev pub UnfinishedAreLive : Type 0
UnfinishedAreLive = OfEachState (λ first m. (s : ℕ) → IsTrue (is_strand m.tree s) → has_finished m s ≡ false → IsTrue (is_live m.tree s))

-- if main runs and is in no block of its own, no block is pending
abbrev pub RootsLeaveNone : Type 0
RootsLeaveNone = OfEachState (λ first m. (b : ℕ) → IsTrue (is_running m 0 && not (in_block m 0)) → is_pending m.tree b ≡ false)

-- if no access that was refused beneath a running strand has a block around its place for its victim, the strand is free
abbrev pub UntoldAreFree : Type 0
UntoldAreFree =
    OfEachState (λ first m. (s : ℕ) → IsTrue (is_running m s) → All (λ c. IsTrue (is_above m.tree s c.asker) → has (begins_at m.tree (place m.tree s)) c.victim ≡ false) m.conflicts → IsTrue (is_free m s))
