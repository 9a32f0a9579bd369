use Rattle.cw_deck.proofs.Deeds.Tasks as tasks
use Rattle.cw_deck.proofs.laws.no_task_is_lost.Goals as goal

pub returns : goal.returns
returns g c = tasks.no_task_is_lost
