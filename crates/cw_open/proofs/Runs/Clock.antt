-- A number above the clock may be the next stamp anywhere, and the end of any block.
use Rattle.std.proofs.Common.{ℕ, ◌<◌, length, arith}
use Rattle.cw_tree.specs.Nodes.{stamp_of, end_of}
use Rattle.cw_tree.specs.NextNodes.{IsFresh, IsNextStamp, IsEndStamp}
use Rattle.cw_open.specs.Machine.{OpenMachine}
use Rattle.cw_open.proofs.Open.Trees.{IsWell}

module _ (m : OpenMachine) (well : IsWell m) (stamp : ℕ) (above : m.clock < stamp) where
  lower : (n : ℕ) → n < length m.tree → (stamp_of m.tree n < stamp) × (end_of m.tree n < stamp)
  lower n h = let z = well.clock n h in (omega (arith, z.0), omega (arith, z.1))

  fresh : IsFresh m.tree stamp
  fresh n h = let z = lower n h in (λ e. omega (arith, z.0, e), λ e. omega (arith, z.1, e))

  pub next_above : (p : ℕ) → IsNextStamp m.tree p stamp
  next_above p = record { some = omega arith; fresh = fresh; series = λ n h e. lower n h; begun = λ b h e. (lower b h).0 }

  pub end_above : (b : ℕ) → b < length m.tree → IsEndStamp m.tree b stamp
  end_above b here = record { fresh = fresh; begun = (lower b here).0; beneath = λ n h e. lower n h }
