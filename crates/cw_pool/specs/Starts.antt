-- A default job, for type parameters that nobody chose.
use Rattle.std.proofs.Common.{refl, arith}
use Rattle.std.specs.Prelude.{[], ◌∷◌, pos}
use Rattle.cw_code.specs.declared.program.Program.{Program}
use Rattle.cw_code.specs.Mnemonics.{push, ret}
use Rattle.cw_code.specs.Worked.{code}
use Rattle.cw_job.specs.Jobs.{Job, bare_job}

-- a program whose main does nothing
abbrev pub idle : Program
idle = record {
  code = code (push (pos 0) ∷ ret ∷ []);
  cells = [];
  main = 0;
  sound = refl;
  whole = ∣ record { main_there = omega arith; numbered = refl } ∣₁;
}

-- any job; each run picks its own
abbrev pub no_job : Job
no_job = bare_job idle
