use Rattle.cw_open.proofs.Laws.Reading.{reads_met}
use Rattle.cw_open.proofs.reads_of_runs.Goals as goal

pub returns : goal.returns
returns c = record { reads = reads_met }
