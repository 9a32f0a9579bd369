use Rattle.std.proofs.Common.{arith, sym, ◌∙◌, ap, ◌+◌}
use Rattle.cw_audit.proofs.Elders.{attempt_few, attempt_first, attempt_anew, attempt_again, elder_before}
use Rattle.cw_audit.proofs.attempts.attempt.Goals as goal

pub returns-in_default : goal.returns-in_default
returns-in_default c = sym (attempt_first c.args.tree.now c.args.n (omega (arith, c.requires.there)) (sym c.requires.last ∙ c.in_default.is))

pub returns-then-repeats : goal.returns-then-repeats
returns-then-repeats c =
    let t = c.args.tree.now in
    let is = sym c.requires.last ∙ c.in-Some.is in
    ap (λ k. k + 1) (c.requires.before c.in-Some.other (elder_before t c.args.n c.in-Some.other is))
    ∙ sym (attempt_again t c.args.n c.in-Some.other (omega (arith, c.requires.there)) is (sym c.repeats.ensures ∙ c.if-repeats.true))

pub returns-else-repeats : goal.returns-else-repeats
returns-else-repeats c =
    let t = c.args.tree.now in
    let is = sym c.requires.last ∙ c.in-Some.is in
    sym (attempt_anew t c.args.n c.in-Some.other (omega (arith, c.requires.there)) is (sym c.repeats.ensures ∙ c.if-repeats.false))

pub repeats-requires : goal.repeats-requires
repeats-requires c =
    let low = elder_before c.args.tree.now c.args.n c.in-Some.other (sym c.requires.last ∙ c.in-Some.is) in
    record { before = omega (arith, c.requires.there, low); there = c.requires.there }

pub bounds-before-other : goal.bounds-before-other
bounds-before-other c =
    let low = elder_before c.args.tree.now c.args.n c.in-Some.other (sym c.requires.last ∙ c.in-Some.is) in
    omega (arith, c.requires.len, low)

pub overflow_add-result : goal.overflow_add-result
overflow_add-result c =
    let t = c.args.tree.now in
    let m = c.in-Some.other in
    let low = elder_before t c.args.n m (sym c.requires.last ∙ c.in-Some.is) in
    let there = c.requires.there in
    omega (arith, low, c.requires.before m low, attempt_few t m (omega arith), c.ranges.n)
