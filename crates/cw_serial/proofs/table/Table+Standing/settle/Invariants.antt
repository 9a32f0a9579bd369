use Rattle.std.proofs.Common.{◌≡◌}
use Rattle.cw_job.specs.Jobs.{Job, bare_job}
use Rattle.cw_job.specs.Room.Strands.{state_of, strands_of_job}
use Rattle.cw_serial.specs.AreOf.{AreOf}
use Rattle.cw_serial.proofs.Weights.{load}
use Rattle.cw_serial.proofs.AllMoved.{Settling}
use Rattle.cw_serial.proofs.table.Table+Standing.settle.Given as goal

abbrev pub invariant-loop-number : goal.invariant-loop-number
invariant-loop-number l = ((job : Job) → job.program ≡ l.program → Settling (strands_of_job job) state_of l.fn.self l.fn.number l.self l.todo.items) × AreOf l.program l.self.rows.items

abbrev pub decreases-loop-number : goal.decreases-loop-number
decreases-loop-number l = load (strands_of_job (bare_job l.program)) state_of l.self.rows.items l.todo.items
