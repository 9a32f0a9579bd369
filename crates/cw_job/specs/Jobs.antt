-- What is run.
use Rattle.std.specs.Prelude.{ℕ, ℤ, List, []}
use Rattle.cw_code.specs.declared.Limits.{Limits}
use Rattle.cw_code.specs.declared.program.Program.{Program}
use Rattle.cw_strand.specs.Coded.{MainTakes}
use Rattle.cw_job.specs.declared.task.Task.{Task}

-- a program, with the words of its command and its limits
pub record Job : Type 0 where
  pub program : Program
  pub words : List ℤ
  pub limits : Limits

-- the job of a task in memory
abbrev pub job_of_task : Task → Job
job_of_task t = record { program = t.program.now; words = t.words.now; limits = t.limits }

-- the program's main has n parameters
abbrev pub TakesWords : Program → ℕ → Type 0
TakesWords program n = MainTakes program.code program.main n

-- The program as a job without words, and with limits of 0. What a strand of a program wants, and what becomes of it,
-- is the same in each job of that program.
abbrev pub bare_job : Program → Job
bare_job program = record { program = program; words = []; limits = record { fuel = 0; size = 0; aborts = 0; strands = 0; moves = 0 } }
