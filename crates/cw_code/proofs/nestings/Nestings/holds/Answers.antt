use Rattle.std.proofs.Common.{not, refl, sym, ap, ◌∙◌, arith}
use Rattle.std.specs.Prelude.{◌==◌}
use Rattle.cw_code.specs.Rules.{parts_in}
use Rattle.cw_code.proofs.Parts.{parts_in_first, parts_in_behind}
use Rattle.cw_code.proofs.nestings.Nestings.holds.Goals as goal

pub returns-then-is_part : goal.returns-then-is_part
returns-then-is_part c =
    let r = c.in-Some.ensures.some c.in-Some.row refl in
    let none = parts_in_first c.args.part c.in-Some.row.part _ (sym c.is_part.ensures ∙ c.if-is_part.true) in
    sym (ap (λ n. not (n == 0)) (sym c.loop-row.invariant.same ∙ ap (parts_in c.args.part) r.0) ∙ ap not none)

pub loop-row-smaller : goal.loop-row-smaller
loop-row-smaller c = (c.in-Some.ensures.some c.in-Some.row refl).1

pub loop-row-preserved : goal.loop-row-preserved
loop-row-preserved c =
    let r = c.in-Some.ensures.some c.in-Some.row refl in
    record {
      below = omega (arith, r.1, c.loop-row.invariant.below);
      same = sym (ap (parts_in c.args.part) r.0 ∙ parts_in_behind c.args.part c.in-Some.row.part _ (sym c.is_part.ensures ∙ c.if-is_part.false)) ∙ c.loop-row.invariant.same;
    }
