-- A coherent record with its program replays.
use Rattle.std.proofs.Common.{sym, subst}
use Rattle.cw_strand.specs.Names.{first_memory}
use Rattle.cw_tree.specs.declared.picks.Picks.{Picks}
use Rattle.cw_job.specs.Room.Strands.{strands_of_job}
use Rattle.cw_job.proofs.Room.Lawful.{deep_of}
use Rattle.cw_record.specs.Records.{job_of_record}
use Rattle.cw_record.specs.Replay.{Replays}
use Rattle.cw_replay.specs.RecordsReplay.{KeptRecordsReplay}
use Rattle.cw_replay.proofs.RecordsReplay.Ends.Theorem.{replays}

pub kept_records_replay : KeptRecordsReplay
kept_records_replay r co outputs order =
    let P : Picks → Type 0 = λ picks. Replays (strands_of_job (job_of_record r)) (first_memory r.program.cells) r.limits.aborts r.tree r.conflicts picks r.end in
    subst P (sym order) (replays (strands_of_job (job_of_record r)) (deep_of (job_of_record r)) (first_memory r.program.cells) r.limits.aborts r.tree r.journals r.conflicts r.end co.coherent outputs)
