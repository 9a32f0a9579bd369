-- The right strand is a node, and what follows is as in the definition.
use Rattle.std.proofs.Common.{arith}
use Rattle.std.proofs.lemmas.Result.{on_ok_weaker}
use Rattle.cw_sim.proofs.InMemory.Meets.{nodes_there}
use Rattle.cw_sim.proofs.InMemory.Turned.{turned, both_join, turned_dead}
use Rattle.cw_sim.proofs.moves.Driver.go_to_right.Goals as goal

pub overflow_add-strand : goal.overflow_add-strand
overflow_add-strand c = let low = nodes_there c.args.self.now c.args.w c.args.fork c.requires.0 c.requires.1.meet in omega (arith, low, c.hint.ensures)

pub join_strands-requires : goal.join_strands-requires
join_strands-requires c =
    let s = c.args.self.now in
    (_, both_join s c.args.w c.args.fork c.args.dead c.requires.0 c.requires.1 (record s { workers = c.take_newest.new.workers }) c.take_newest.ensures c.if-dead.true c.step.new.self c.in_ok-step.ensures.ok)

pub returns-then-dead : goal.returns-then-dead
returns-then-dead c =
    let s = c.args.self.now in
    on_ok_weaker c.join_strands.result
    (λ comes z may. turned_dead s c.args.w c.args.fork c.args.dead z may (record s { workers = c.take_newest.new.workers }) c.take_newest.ensures c.if-dead.true c.step.new.self c.in_ok-step.ensures.ok c.join_strands.new.self (comes _))
    c.join_strands.ensures

pub returns : goal.returns
returns c z may =
    let s = c.args.self.now in
    turned s c.args.w c.args.fork c.args.dead z may (record s { workers = c.take_newest.new.workers }) c.take_newest.ensures c.if-dead.false (record s { workers = c.with_run.new.workers }) c.with_run.ensures
