-- What the verifier returns.
use Rattle.std.specs.Prelude.{◌≡◌, [], Result, Ok, Err}
use Rattle.cw_code.specs.declared.instruction.Code.{Code}
use Rattle.cw_code.specs.declared.verified.CodeRefusal.{CodeRefusal}
use Rattle.cw_code.specs.declared.verified.CodeRefusal.TheVariants as refusal
use Rattle.cw_code.specs.Rules.{faults, IsFirst}

-- the code itself if no rule is broken, otherwise the first fault
abbrev pub Answers : Code → Result Code CodeRefusal → Type 0
Answers c (Ok v) = (v ≡ c) × (faults c ≡ [])
Answers c (Err (refusal.Code f)) = IsFirst c f
Answers c (Err refusal.OutOfMemory) = Unit {0}
