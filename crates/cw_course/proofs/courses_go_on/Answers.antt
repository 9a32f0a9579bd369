use Rattle.cw_course.proofs.Courses.Reaching.{courses_go_on}
use Rattle.cw_course.proofs.courses_go_on.Goals as goal

pub returns : goal.returns
returns g c = λ s cs n ns a b w. courses_go_on s cs n ns a b w
