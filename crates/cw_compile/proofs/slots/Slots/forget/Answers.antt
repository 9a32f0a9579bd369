use Rattle.std.proofs.Common.{arith}
use Rattle.std.proofs.lemmas.List.{length-drop}
use Rattle.std.proofs.lemmas.Result.{on_ok_weaker}
use Rattle.cw_compile.proofs.Numbers.{numbered-drop, names_left}
use Rattle.cw_compile.proofs.slots.Slots.forget.Goals as goal

pub invariant_of-self : goal.invariant_of-self
invariant_of-self c =
    let gone = c.forget.ensures.fewer.0 in
    rw c.forget.ensures.fewer.1 (numbered-drop gone c.self.inside.numbers c.self.invariant.0, omega (arith, length-drop gone c.self.inside.numbers, c.self.invariant.1))

pub returns : goal.returns
returns c = rw (← c.self.view_is) (on_ok_weaker c.forget.result (names_left c.self.inside.numbers c.forget.new.self c.args.count) c.forget.ensures.ok)
