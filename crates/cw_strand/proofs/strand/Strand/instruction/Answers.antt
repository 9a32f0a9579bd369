use Rattle.std.proofs.Common.{◌≡◌, ◌<◌, ◌^◌, Some, ap, subst, sym, ◌∙◌, arith}
use Rattle.std.specs.Prelude.{slice_get}
use Rattle.cw_strand.specs.Coded.{State}
use Rattle.cw_strand.proofs.Needing.{within, has_one, needed}
use Rattle.cw_strand.proofs.strand.Strand.instruction.Goals as goal

pub prove-unreachable-requires-2 : goal.prove-unreachable-requires-2
prove-unreachable-requires-2 c =
    let here = within c.args.code.now c.requires.sound c.args.self.now c.requires.stands in
    omega (arith, here, ap (λ (s : State). s.current.place) c.self.view_is)

pub unreachable-requires : goal.unreachable-requires
unreachable-requires c =
    let here = subst (λ (s : State). slice_get c.args.code.now.instrs s.current.place ≡ Some c.at-instr.result.now) c.self.view_is c.at-instr.ensures in
    has_one c.args.code.now c.requires.sound c.args.self.now c.requires.stands c.at-instr.result.now here (sym c.effect_at.ensures ∙ c.in_default.is)

pub act-requires : goal.act-requires
act-requires c =
    let here = subst (λ (s : State). slice_get c.args.code.now.instrs s.current.place ≡ Some c.at-instr.result.now) c.self.view_is c.at-instr.ensures in
    let cells : c.args.code.now.cells < 2 ^ 32 = omega arith in
    needed c.args.code.now c.requires.sound c.args.self.now c.requires.stands c.at-instr.result.now here cells c.in-Some.effect (sym c.effect_at.ensures ∙ c.in-Some.is)
