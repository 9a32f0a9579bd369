use Rattle.std.proofs.Common.{ℕ, sym, subst}
use Rattle.cw_log.specs.Tokens.{GoesFree}
use Rattle.cw_steps.specs.Stands.{token_of}
use Rattle.tests_board.proofs.Led.{here, there, led_is}
use Rattle.tests_board.proofs.tests.led.Scene.cancel.Goals as goal

pub cancel-requires-clause-of : goal.cancel-requires-clause-of
cancel-requires-clause-of g c = let (name, columns, budget, cells) = c.self.invariant in here c.self.inside.board _ _ c.led.inside.token name columns c.led.invariant.0

pub cancel-requires-clause-goes : goal.cancel-requires-clause-goes
cancel-requires-clause-goes g c = let (name, columns, budget, cells) = c.self.invariant in subst (λ (n : ℕ). GoesFree n (token_of c.led.inside.token)) (sym budget) (c.goes.ensures c.if-not-goes.false)

pub strand_of-requires-clause-at : goal.strand_of-requires-clause-at
strand_of-requires-clause-at g c κs within = let (name, columns, budget, cells) = c.self.invariant in there c.self.inside.board _ _ c.cancel.new.token name columns c.cancel.ensures.of

pub strand_of-requires-clause-led : goal.strand_of-requires-clause-led
strand_of-requires-clause-led g c κs within = led_is _ _ _ _ _ _ _ _ c.in-Ok.ensures.ok.token c.led.invariant.1
