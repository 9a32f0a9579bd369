use Rattle.cw_open.proofs.Hands.Judged.{accesses_stay, free_stay, within_stay}
use Rattle.cw_open.proofs.verdicts_stay.Goals as goal

pub returns : goal.returns
returns c = record { accesses = accesses_stay; free = free_stay; within = within_stay }
