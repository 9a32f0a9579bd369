use Rattle.cw_gen.proofs.Mains.{takes_no_words}
use Rattle.cw_gen.proofs.main_of_loads.Goals as goal

pub returns : goal.returns
returns c = λ n. takes_no_words n
