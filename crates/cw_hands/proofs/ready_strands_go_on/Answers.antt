use Rattle.cw_hands.proofs.Laws.Merged.{merged_go_on}
use Rattle.cw_hands.proofs.Laws.Only.{only_ready_go_on}
use Rattle.cw_hands.proofs.Laws.Runs.{ready_go_on, ready_differ}
use Rattle.cw_hands.proofs.Laws.Staying.{ready_stay}
use Rattle.cw_hands.proofs.ready_strands_go_on.Goals as goal

pub returns : goal.returns
returns c = record { go_on = ready_go_on; only = only_ready_go_on; stay = ready_stay; merged = merged_go_on; differ = ready_differ }
