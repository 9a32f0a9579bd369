-- Small records, one for each way in which a run may end. They replay because they are coherent: by the law, without computing.
use Rattle.std.specs.Prelude.{◌≡◌, ℕ, ℤ, pos, List, [], ◌∷◌}
use Rattle.cw_code.specs.declared.FaultKind.TheVariants.{Zero}
use Rattle.cw_strand.specs.Strands.{Strands}
use Rattle.cw_tree.specs.declared.node.Node.{Node}
use Rattle.cw_tree.specs.declared.conflict.Conflict.{Conflict}
use Rattle.cw_tree.specs.Worked.{pending}
use Rattle.cw_tree.specs.WorkedRun.{two_blocks, refused_write}
use Rattle.cw_serial.specs.declared.ends.SerialEnd.TheVariants as last
use Rattle.cw_serial.specs.Machine.{serial_end}
use Rattle.cw_record.specs.declared.record_end.RecordEnd.{RecordEnd}
use Rattle.cw_record.specs.declared.record_end.RecordEnd.TheVariants.{Finished, Fault, Budget, Moves}
use Rattle.cw_record.specs.Order.{order_of}
use Rattle.cw_record.specs.Replay.{Replays}
use Rattle.cw_record.specs.Scripts.{scripted}
use Rattle.cw_record.specs.WorkedRecord.{writers}
use Rattle.cw_record.specs.WorkedEnds.{divides, divided, refused_in_block, spawns, spawned, writes, written, refused_alone, counts, counted}

-- a record of these strands replays in its order
abbrev pub ReplaysInOrder : {A : Type 0} → Strands A → (first : List ℤ) → (budget : ℕ) → List Node → List Conflict → RecordEnd → Type 0
ReplaysInOrder s first budget t cs e = Replays s first budget t cs (order_of t cs budget e) e

pub record WorkedReplays : Type 0 where
  -- two blocks that write one cell; the second was refused once
  pub finished : ReplaysInOrder writers (pos 0 ∷ []) 2 two_blocks (refused_write ∷ []) (Finished (pos 2 ∷ []) [])
  -- a fault in a block that a sibling strand was about to roll back
  pub fault : ReplaysInOrder (scripted divides) (pos 0 ∷ pos 0 ∷ []) 2 (divided (pending 5 4) (pos 0)) (refused_in_block ∷ []) (Fault 10 Zero)
  -- a budget that was spent in a strand that waits for its fork, and one that was spent by an access inside a pending block
  pub victim : ReplaysInOrder (scripted spawns) (pos 0 ∷ []) 1 spawned (refused_in_block ∷ []) (Budget 5)
  pub access : ReplaysInOrder (scripted writes) (pos 0 ∷ []) 1 written (refused_alone ∷ []) (Budget 6)
  -- moves that were used up before main had ended
  pub moves : ReplaysInOrder (scripted counts) (pos 0 ∷ []) 1 (counted (pos 1)) [] Moves
  -- everything that main wants was done by then: the machine has finished
  pub done : serial_end (scripted counts) (pos 0 ∷ []) (order_of (counted (pos 1)) [] 1 Moves) ≡ last.Finished (pos 1 ∷ []) (pos 1 ∷ [])
