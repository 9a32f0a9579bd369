use Rattle.cw_steps.proofs.Leaving.Journals.{looks_not}
use Rattle.cw_steps.proofs.table.Shared.collect.Goals as goal

pub returns-in_err-together-clause-looked : goal.returns-in_err-together-clause-looked
returns-in_err-together-clause-looked c = looks_not c.args.token.now.seat.me
