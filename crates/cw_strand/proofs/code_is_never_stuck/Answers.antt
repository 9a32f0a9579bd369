use Rattle.cw_strand.proofs.Standing.{never_stuck, step_stands, visited_stands}
use Rattle.cw_strand.proofs.code_is_never_stuck.Goals as goal

pub returns-clause-lacks : goal.returns-clause-lacks
returns-clause-lacks c = λ code main words limits sound takes. never_stuck code sound main words limits takes

pub returns-clause-on : goal.returns-clause-on
returns-clause-on c = λ code s sound. step_stands code sound s

pub returns-clause-visited : goal.returns-clause-visited
returns-clause-visited c = λ code main words limits sound takes. visited_stands code sound main words limits takes
