-- Just the strands that are ready may go on.
use Rattle.std.proofs.lemmas.Bool.{and_from}
use Rattle.cw_open.specs.Machine.{is_running}
use Rattle.cw_open.specs.Runs.{at_any_time}
use Rattle.cw_hands.specs.Shared.{is_ready}
use Rattle.cw_hands.specs.Laws.{OnlyReadyGoOn}
use Rattle.cw_hands.proofs.Laws.Ready.{ready}
use Rattle.cw_hands.proofs.Laws.Runs.{well_at, tiers_stand}

pub only_ready_go_on : OnlyReadyGoOn
only_ready_go_on asked first s run h x running g =
    and_from (is_running s.machine x) (is_ready s x) running (ready s (well_at (at_any_time asked) first s run) (tiers_stand asked first s run h) x running g)
