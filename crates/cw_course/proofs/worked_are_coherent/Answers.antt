use Rattle.cw_course.proofs.Closings.Coherent.{worked_are_coherent}
use Rattle.cw_course.proofs.worked_are_coherent.Goals as goal

pub returns : goal.returns
returns g c = λ s first budget all stop closed w k memory. worked_are_coherent s first budget all stop closed w k memory
