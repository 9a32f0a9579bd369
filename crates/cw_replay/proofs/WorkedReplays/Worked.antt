-- The worked records of each end replay, by the law.
use Rattle.std.proofs.Common.{ℕ, ℤ, List, [], ◌∷◌, refl}
use Rattle.std.specs.Prelude.{pos}
use Rattle.cw_tree.specs.declared.node.Node.{Node}
use Rattle.cw_tree.specs.declared.access.Entry.{Entry}
use Rattle.cw_tree.specs.declared.conflict.Conflict.{Conflict}
use Rattle.cw_tree.specs.WorkedRun.{two_blocks, refused_write, two_writes}
use Rattle.cw_record.specs.declared.record_end.RecordEnd.{RecordEnd}
use Rattle.cw_record.specs.declared.record_end.RecordEnd.TheVariants.{Finished}
use Rattle.cw_record.specs.Coherent.{IsCoherent, HasOutputs}
use Rattle.cw_record.specs.Scripts.{Script, scripted}
use Rattle.cw_record.specs.WorkedRecord.{writers}
use Rattle.cw_record.proofs.WorkedEnds.Ends.{ends}
use Rattle.cw_record.proofs.WorkedRecord.Record.{coherent}
use Rattle.cw_replay.specs.WorkedReplays.{ReplaysInOrder, WorkedReplays}
use Rattle.cw_replay.proofs.RecordsReplay.Ends.Theorem.{replays}

-- a coherent record of a script's strands replays
by_law : (main : Script) (first : List ℤ) (budget : ℕ) (t : List Node) (kept : List (List Entry)) (cs : List Conflict) (e : RecordEnd) → IsCoherent (scripted main) first budget t kept cs e → HasOutputs t cs budget e → ReplaysInOrder (scripted main) first budget t cs e
by_law main = replays (scripted main) (ends.deep main)

pub worked_replays : WorkedReplays
worked_replays = record {
  finished = replays writers coherent.lawful.deep (pos 0 ∷ []) 2 two_blocks (two_writes ∷ []) (refused_write ∷ []) (Finished (pos 2 ∷ []) []) coherent.holds coherent.outputs;
  fault = by_law _ _ _ _ _ _ _ ends.fault.holds tt;
  victim = by_law _ _ _ _ _ _ _ ends.victim.holds tt;
  access = by_law _ _ _ _ _ _ _ ends.access.holds tt;
  moves = by_law _ _ _ _ _ _ _ ends.moves.holds tt;
  done = refl;
}
