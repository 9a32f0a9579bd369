use Rattle.std.proofs.Common.{◌≡◌, ◌<◌, ◌∙◌, ℕ, ℤ, List, [], ◌∷◌, length, sym, ap, subst, arith}
use Rattle.cw_code.specs.declared.instruction.Code.{Code}
use Rattle.cw_code.specs.declared.instruction.Instr.{Instr}
use Rattle.cw_code.specs.declared.effects.Effect.TheVariants.{Ret as ret}
use Rattle.cw_strand.specs.declared.led.Led.{Led}
use Rattle.cw_strand.specs.declared.want.Want.TheVariants.{Done}
use Rattle.cw_strand.specs.Running.{wants}
use Rattle.cw_strand.specs.Coded.{Frame, State, act, ended, returned}
use Rattle.cw_strand.specs.Acting.{TakesEffect, led_to}
use Rattle.cw_strand.proofs.strand.Strand.ret.Goals as goal

-- a strand in which no function waits is done at a return
last_ends : (s : State) (fs : List Frame) (l : Led) (t : State) → 0 < length s.current.operands → s.callers ≡ [] → fs ≡ [] → wants Done (ended s.scopes (record s { callers = fs })) ≡ led_to l t → (code : Code) (i : Instr) (p : ℕ) → TakesEffect code ret i p s l t
last_ends s fs l t some none left is code i p = at s.current.operands some
  where
    here : wants Done (ended s.scopes s) ≡ led_to l t
    here = subst (λ gs. wants Done (ended s.scopes (record s { callers = gs })) ≡ led_to l t) (left ∙ sym none) is

    at : (vs : List ℤ) → 0 < length vs → act code ret i p vs s ≡ led_to l t
    at [] few = absurd (omega arith)
    at (v ∷ vs) few = subst (λ gs. returned gs v s ≡ led_to l t) (sym none) here

pub returns-in_default : goal.returns-in_default
returns-in_default c = λ code i p.
    let none = c.in_default.ensures in
    let same = c.self.view_is in
    let fs = c.pop.new.self in
    let done : wants Done (ended c.args.self.now.scopes (record c.args.self.now { callers = fs })) ≡ led_to c.finish.result c.finish.new.self =
    subst (λ (s : State). wants Done (ended s.scopes (record s { callers = fs })) ≡ led_to c.finish.result c.finish.new.self) same (c.finish.ensures code i p) in
    last_ends c.args.self.now fs c.finish.result c.finish.new.self c.requires (ap (λ (s : State). s.callers) (sym same) ∙ none.0) none.1 done code i p
