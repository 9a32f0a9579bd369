-- Code of which it is expected what stands at each place of a function, and what its instructions must be then.
use Rattle.std.proofs.Common.{◌≡◌, ℕ, ◌+◌, ◌<◌, ◌≤◌, Bool, true, false, [], Option, Some, None}
use Rattle.std.specs.Prelude.{slice_get, if◌then◌else◌}
use Rattle.cw_code.specs.declared.instruction.Instr.{Instr}
use Rattle.cw_code.specs.declared.instruction.Func.{Func}
use Rattle.cw_code.specs.declared.instruction.Code.{Code}
use Rattle.cw_code.specs.Table.{Effect}
use Rattle.cw_code.specs.Rules.{Situation, effect_of, pops, operand_faults, at_start, passed, onwards, never_passed, inside, if_inside, next_of, target_of, is_border, is_torn}

module _ (c : Code) (f : Func) where
  -- the one way behind a place
  pub next_behind : (p : ℕ) (e : Option Effect) (q : ℕ) → next_of f p e ≡ Some q → q ≡ p + 1
  next_behind p e q is = passed_by (never_passed e) is
    where
      found : (b : Bool) → (if b then Some (p + 1) else None) ≡ Some q → q ≡ p + 1
      found true h = cc
      found false h = cc

      passed_by : (b : Bool) → (if b then None else if_inside f (Some (p + 1))) ≡ Some q → q ≡ p + 1
      passed_by true h = cc
      passed_by false h = found (inside f (p + 1)) h

  module _ (expected : ℕ → Situation) where
    -- An instruction that stands at a place fits what is expected there: what it leaves is expected where it leads.
    pub record Fits (p : ℕ) (i : Instr) (e : Option Effect) : Type 0 where
      pub operands : operand_faults c f p i e ≡ []
      pub room : pops c i e ≤ (expected p).height
      pub border : is_border e ≡ true → (expected p).height ≡ 0
      pub whole : is_torn e (expected p) ≡ false
      pub last : never_passed e ≡ false → p + 1 < f.end
      pub next : (q : ℕ) → next_of f p e ≡ Some q → expected q ≡ onwards c i e (expected p)
      pub target : (q : ℕ) → target_of f i e ≡ Some q → expected q ≡ passed c i e (expected p)

    -- an instruction that fits stands at the place
    pub record FitsAt (p : ℕ) : Type 0 where
      pub instr : Instr
      pub stands : slice_get c.instrs p ≡ Some instr
      pub fits : Fits p instr (effect_of instr)

    -- Each instruction of the function fits what is expected at its place.
    pub record AllFit : Type 0 where
      pub starts : expected f.start ≡ at_start
      pub some : f.start < f.end
      pub each : (p : ℕ) → f.start ≤ p → p < f.end → FitsAt p
