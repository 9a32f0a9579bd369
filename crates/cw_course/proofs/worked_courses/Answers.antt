use Rattle.cw_course.proofs.Worked.Courses.{courses}
use Rattle.cw_course.proofs.worked_courses.Goals as goal

pub returns : goal.returns
returns c = courses
