-- The stamps and ends of a tree that one worker builds, where the block at the place is closed.
use Rattle.std.proofs.Common.{◌≡◌, ℕ, ◌<◌, List, refl, arith, true}
use Rattle.cw_tree.specs.declared.node.Node.{Node}
use Rattle.cw_tree.specs.declared.node.BlockState.TheVariants.{Committed}
use Rattle.cw_tree.specs.Nodes.{stamp_of, end_of, is_block, closed}
use Rattle.cw_tree.specs.Shape.{AreStamps}
use Rattle.cw_tree.proofs.NextNodes.ClosedStamps.{stamps_closed}
use Rattle.cw_record.proofs.OneWorker.Building.{IsBuilt}
use Rattle.cw_record.proofs.OneWorker.Stamped.{end_of_built}

module _ (t : List Node) (p clock : ℕ) (b : IsBuilt t p clock) (s : AreStamps t) (stamp : ℕ) (later : clock < stamp) (block : is_block t p ≡ true) where
  low : (n : ℕ) → (stamp_of t n < stamp) × (end_of t n < stamp)
  low n = let a = b.stamps n in let e = b.ends n in (omega arith, omega arith)

  pub stamped_closed : AreStamps (closed t p Committed stamp)
  stamped_closed =
      stamps_closed t b.rooted s p (end_of_built t p clock b) Committed stamp block refl (record {
        fresh = λ n h. (let z = low n in (omega (arith, z.0), omega (arith, z.1)));
        begun = (low p).0;
        beneath = λ n h over. low n;
      })
