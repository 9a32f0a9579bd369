use Rattle.std.proofs.Common.{ℕ, sym, subst}
use Rattle.cw_log.specs.Tokens.{GoesFree}
use Rattle.cw_steps.specs.Stands.{token_of}
use Rattle.tests_board.proofs.Led.{here, there, led_after}
use Rattle.tests_board.proofs.tests.led.Scene.access.Goals as goal

pub access-requires-clause-of : goal.access-requires-clause-of
access-requires-clause-of g c = let (name, columns, budget, cells) = c.self.invariant in here c.self.inside.board _ _ c.led.inside.token name columns c.led.invariant.0

pub access-requires-clause-goes : goal.access-requires-clause-goes
access-requires-clause-goes g c = let (name, columns, budget, cells) = c.self.invariant in subst (λ (n : ℕ). GoesFree n (token_of c.led.inside.token)) (sym budget) (c.goes.ensures c.if-not-goes.false)

pub strand_of-requires-clause-at : goal.strand_of-requires-clause-at
strand_of-requires-clause-at g c κs within = let (name, columns, budget, cells) = c.self.invariant in there c.self.inside.board _ _ c.access.new.token name columns c.access.ensures.of

pub strand_of-requires-clause-led : goal.strand_of-requires-clause-led
strand_of-requires-clause-led g c κs within = led_after _ _ _ _ _ _ _ _ _ _ _ c.in-Ok.ensures.ok c.led.invariant.1
