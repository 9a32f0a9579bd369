use Rattle.std.proofs.Common.{◌≡◌, [], Some, subst, arith}
use Rattle.std.proofs.lemmas.Grind.{common_steps}
use Rattle.std.specs.Prelude.{slice_get}
use Rattle.cw_code.specs.declared.instruction.Code.{Code}
use Rattle.cw_code.specs.Rules.{faults}
use Rattle.cw_code.proofs.Sound.{contained, laid}
use Rattle.cw_strand.proofs.Standing.{stands_first}
use Rattle.cw_strand.proofs.strand.Strand.main.Goals as goal

pub take_locals-requires-clause-fits : goal.take_locals-requires-clause-fits
take_locals-requires-clause-fits c =
    let code = c.code.result.now in
    let here : slice_get code.funcs c.args.program.now.main ≡ Some c.in-Some.func = cc in
    (laid code c.code.ensures.sound c.in-Some.func (contained code.funcs c.args.program.now.main c.in-Some.func here)).locals

pub returns-clause-stands : goal.returns-clause-stands
returns-clause-stands c =
    let sound : faults c.args.program.now.code ≡ [] = subst (λ (d : Code). faults d ≡ []) c.code.ensures.code c.code.ensures.sound in
    stands_first c.args.program.now.code sound c.args.program.now.main c.args.words.now c.args.limits c.requires _ (grind (arith, common_steps))
