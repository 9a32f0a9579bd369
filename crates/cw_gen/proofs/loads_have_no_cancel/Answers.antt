use Rattle.cw_gen.proofs.Cancels.{load_has_none}
use Rattle.cw_gen.proofs.loads_have_no_cancel.Goals as goal

pub returns : goal.returns
returns c = λ n. load_has_none n
