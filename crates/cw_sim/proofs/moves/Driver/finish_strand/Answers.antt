-- The strand finishes, and what follows asks no more than that.
use Rattle.std.proofs.lemmas.Result.{on_ok_weaker}
use Rattle.cw_sim.proofs.InMemory.Finishes.{finish_fits, has_finished_now, finish_comes}
use Rattle.cw_sim.proofs.moves.Driver.finish_strand.Goals as goal

pub step-requires : goal.step-requires
step-requires c = finish_fits c.args.self.now c.args.w c.args.strand c.args.dead c.requires.0 c.requires.1

pub follow_up-requires : goal.follow_up-requires
follow_up-requires c =
    (_, has_finished_now c.args.self.now c.args.w c.args.strand c.args.dead c.requires.0 c.requires.1 c.step.new.self c.in_ok-step.ensures.ok)

pub returns : goal.returns
returns c =
    on_ok_weaker c.follow_up.result
    (λ comes z may. finish_comes c.args.self.now c.args.w c.args.strand c.args.dead z may c.step.new.self c.in_ok-step.ensures.ok c.follow_up.new.self (comes _))
    c.follow_up.ensures
