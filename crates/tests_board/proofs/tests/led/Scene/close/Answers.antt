use Rattle.tests_board.proofs.Led.{here}
use Rattle.tests_board.proofs.tests.led.Scene.close.Goals as goal

pub close-requires : goal.close-requires
close-requires g c = let (name, columns, budget, cells) = c.self.invariant in record { of = here c.self.inside.board _ _ c.root.inside.token name columns c.root.invariant.0 }
