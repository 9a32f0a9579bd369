-- Where a strand of a job's program goes on to.
use Rattle.std.proofs.Common.{◌≡◌, sym, subst}
use Rattle.cw_code.specs.declared.program.Program.{Program}
use Rattle.cw_strand.specs.declared.want.Want.{Want}
use Rattle.cw_strand.specs.declared.want.Given.{Given}
use Rattle.cw_strand.specs.Coded.{State, runs, with_value}
use Rattle.cw_strand.specs.Running.{stand}
use Rattle.cw_strand.specs.Standing.{NextFrom}
use Rattle.cw_job.specs.Jobs.{Job}

-- the want to which it comes, in a job of the program
pub next_in : (job : Job) (program : Program) (s : State) (given : Given) (w : Want) (t : State) → job.program ≡ program → NextFrom program.code s given w t
    → record { want = w; state = t } ≡ stand (runs job.program.code job.program.main job.words job.limits) (with_value given s)
next_in job program s given w t same next =
    subst (λ (p : Program). NextFrom p.code s given w t) (sym same) next job.program.main job.words job.limits
