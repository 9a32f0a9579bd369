use Rattle.std.proofs.Common.{◌≡◌, ◌++◌, ◌∷◌, [], IfOk, IsOkAnd, rules, subst, sym, w64, ℤ}
use mir.Val.{SFits}
use Rattle.std.proofs.lemmas.Int.{to_z-of_z}
use Rattle.cw_words.proofs.Integers.{loop_read}
use Rattle.cw_words.proofs.asked.integers_in.Goals as goal

pub loop-word-preserved : goal.loop-word-preserved
loop-word-preserved c =
    let fits : SFits w64 c.in_ok-integer_of.field-0 = search rules in
    let more = subst (λ (z : ℤ). IfOk c.with_one-kept.result (λ ns. IsOkAnd c.loop-word.kept (λ ms. ns ≡ ms ++ z ∷ []))) (to_z-of_z w64 c.in_ok-integer_of.field-0 fits) c.with_one-kept.ensures in
    loop_read _ c.loop-word.kept c.args.words.now c.loop-word.word-index _ c.loop-word-test.true c.loop-word.invariant c.with_one-kept.result c.in_ok-integer_of.field-0 (sym c.in_ok-integer_of.ensures) more
