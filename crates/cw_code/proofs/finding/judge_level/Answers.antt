use Rattle.std.proofs.Common.{sym, ◌∙◌, arith}
use Rattle.cw_code.proofs.Fold.{next_inside, target_inside}
use Rattle.cw_code.proofs.Rows.{grown_twice}
use Rattle.cw_code.proofs.Seen.{Leaves, below_grown, level_judged}
use Rattle.cw_code.proofs.finding.judge_level.Goals as goal

pub judge_here-best-requires : goal.judge_here-best-requires
judge_here-best-requires c = (c.requires.inside.0, omega (arith, c.requires.level, c.ahead.ensures.grown.longer, c.after.ensures.grown.longer))

pub judge_way-best-requires-clause-inside : goal.judge_way-best-requires-clause-inside
judge_way-best-requires-clause-inside c = (c.requires.inside.1, λ q is. next_inside c.args.func.now c.args.place _ q (sym c.next-behind.ensures ∙ is))

pub judge_way-best-requires-clause-places : goal.judge_way-best-requires-clause-places
judge_way-best-requires-clause-places c =
    below_grown c.args.nestings.now c.after.new.nestings c.args.places.now (grown_twice _ _ _ c.ahead.ensures.grown c.after.ensures.grown) c.requires.places

pub judge_way-best-requires-clause-level : goal.judge_way-best-requires-clause-level
judge_way-best-requires-clause-level c = omega (arith, c.in_ok-ahead.ensures.made, c.after.ensures.grown.longer)

pub judge_way-requires-clause-inside : goal.judge_way-requires-clause-inside
judge_way-requires-clause-inside c = (c.requires.inside.1, λ q is. target_inside c.args.func.now c.args.instr c.args.effect q (sym c.target-target.ensures ∙ is))

pub judge_way-requires-clause-places : goal.judge_way-requires-clause-places
judge_way-requires-clause-places c =
    below_grown c.args.nestings.now c.after.new.nestings c.args.places.now (grown_twice _ _ _ c.ahead.ensures.grown c.after.ensures.grown) c.requires.places

pub judge_way-requires-clause-level : goal.judge_way-requires-clause-level
judge_way-requires-clause-level c = c.in_ok-away.ensures.made

pub returns-clause-grown : goal.returns-clause-grown
returns-clause-grown c = grown_twice c.args.nestings.now c.ahead.new.nestings c.after.new.nestings c.ahead.ensures.grown c.after.ensures.grown

pub returns-clause-first : goal.returns-clause-first
returns-clause-first c =
    let f = c.args.func.now in
    let code = c.args.code.now in
    let ns = c.args.nestings.now in
    let ms = c.ahead.new.nestings in
    let ls = c.after.new.nestings in
    let w : Leaves code f c.args.place ns ms ls c.args.places.now c.ahead.ensures.grown c.after.ensures.grown c.requires.places c.args.instr c.args.effect c.args.level.now c.in_ok-ahead.ahead c.in_ok-away.away =
    record { low = c.requires.level; made = c.in_ok-ahead.ensures.made; on = c.in_ok-ahead.ensures.leaves; off = c.in_ok-away.ensures.leaves }
    in
    level_judged code f c.args.place ns ms ls c.args.places.now c.ahead.ensures.grown c.after.ensures.grown c.requires.places c.args.instr c.args.effect c.args.level.now c.in_ok-ahead.ahead c.in_ok-away.away w c.args.best
    c.judge_here-best.result c.judge_way-best.result c.judge_way.result c.next-behind.result c.target-target.result
    c.judge_here-best.ensures c.next-behind.ensures c.judge_way-best.ensures c.target-target.ensures c.judge_way.ensures
