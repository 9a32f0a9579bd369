use Rattle.cw_steps.specs.Stands.{token_of}
use Rattle.tests_board.proofs.Led.{joins_fork, joins_led, there}
use Rattle.tests_board.proofs.tests.led.Scene.join.Goals as goal

pub strand_of-requires-clause-at : goal.strand_of-requires-clause-at
strand_of-requires-clause-at g c κs within = let (name, columns, budget, cells) = c.self.invariant in there c.self.inside.board _ _ c.join-token.result name columns c.join-token.ensures.of

pub join-token-requires-clause-fork : goal.join-token-requires-clause-fork
join-token-requires-clause-fork g c =
    let e = c.in-Ok.ensures in
    joins_fork (token_of c.left.inside.token) (token_of c.right.inside.token) _ _ _ _ _ _ _ _ _ _ _ _ _ _ _ c.left.invariant.1 c.right.invariant.1 e.fork.0 e.fork.1 e.strand

pub strand_of-requires-clause-led : goal.strand_of-requires-clause-led
strand_of-requires-clause-led g c κs within =
    let e = c.in-Ok.ensures in
    joins_led (token_of c.left.inside.token) (token_of c.right.inside.token) _ _ _ _ _ _ _ _ _ _ _ _ _ _ _ c.left.invariant.1 c.right.invariant.1 e.fork.0 e.fork.1 e.strand _ _ _ _ c.join-token.ensures.token e.kept.0 e.kept.1 e.phase
