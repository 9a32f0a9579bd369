use Rattle.tests_board.proofs.Led.{there}
use Rattle.tests_board.proofs.tests.led.Scene.new.Goals as goal

pub strand_of-requires-clause-at : goal.strand_of-requires-clause-at
strand_of-requires-clause-at g c κs within = there c.args.board _ _ c.args.token c.requires.name.0 c.requires.name.1 c.requires.of
