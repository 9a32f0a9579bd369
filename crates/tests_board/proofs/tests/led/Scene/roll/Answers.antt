use Rattle.tests_board.proofs.Led.{here, there, led_is}
use Rattle.tests_board.proofs.tests.led.Scene.roll.Goals as goal

pub roll-requires-clause-of : goal.roll-requires-clause-of
roll-requires-clause-of g c = let (name, columns, budget, cells) = c.self.invariant in here c.self.inside.board _ _ c.led.inside.token name columns c.led.invariant.0

pub strand_of-requires-clause-at : goal.strand_of-requires-clause-at
strand_of-requires-clause-at g c κs within = let (name, columns, budget, cells) = c.self.invariant in there c.self.inside.board _ _ c.roll.new.token name columns c.roll.ensures.of

pub strand_of-requires-clause-led : goal.strand_of-requires-clause-led
strand_of-requires-clause-led g c κs within = let (stamp, is) = c.roll.ensures.token in led_is _ _ _ _ _ _ _ _ is c.led.invariant.1
