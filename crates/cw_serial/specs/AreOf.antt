-- Strands in memory that are those of one program.
use Rattle.std.specs.Prelude.{◌≡◌, ℕ, List, Some}
use Rattle.cw_code.specs.declared.program.Program.{Program}
use Rattle.cw_job.specs.declared.standing.Standing.{Standing}
use Rattle.cw_serial.specs.declared.table.Row.{Row}
use Rattle.cw_serial.specs.TableInMemory.{strand_at}
use Rattle.cw_job.specs.Room.Strands.{IsOf}

-- each strand that is at a want or at its end is one of the program
abbrev pub AreOf : Program → List (Row Standing) → Type 0
AreOf program rows = (i : ℕ) (x : Standing) → strand_at rows i ≡ Some x → IsOf program x
