use Rattle.cw_course.proofs.Closings.States.{courses_follow}
use Rattle.cw_course.proofs.courses_follow.Goals as goal

pub returns : goal.returns
returns g c = λ s cs st apart n. courses_follow s cs st apart n
