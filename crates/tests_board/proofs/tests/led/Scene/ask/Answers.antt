use Rattle.tests_board.proofs.Led.{here, there, led_is}
use Rattle.tests_board.proofs.tests.led.Scene.ask.Goals as goal

pub asks-answer-requires : goal.asks-answer-requires
asks-answer-requires g c = let (name, columns, budget, cells) = c.self.invariant in record { of = here c.self.inside.board _ _ c.led.inside.token name columns c.led.invariant.0 }

pub strand_of-requires-clause-at : goal.strand_of-requires-clause-at
strand_of-requires-clause-at g c κs within = let (name, columns, budget, cells) = c.self.invariant in there c.self.inside.board _ _ c.asks-answer.new.token name columns c.asks-answer.ensures.of

pub strand_of-requires-clause-led : goal.strand_of-requires-clause-led
strand_of-requires-clause-led g c κs within = led_is _ _ _ _ _ _ _ _ c.asks-answer.ensures.token c.led.invariant.1
