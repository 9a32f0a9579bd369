-- The body goes on as its strand does.
use Rattle.std.proofs.lemmas.Result.{on_ok_weaker}
use Rattle.cw_sim.proofs.InMemory.Answers.{answered_stands}
use Rattle.cw_sim.proofs.moves.Driver.answer_want.Goals as goal

pub returns-clause-stands : goal.returns-clause-stands
returns-clause-stands c =
    on_ok_weaker c.put.result
    (λ put z may. answered_stands c.args.self.now c.args.strand c.args.given z c.take-body.new.self c.put.new.self c.take-body.result c.answer.new.self may c.take-body.ensures.thing c.take-body.ensures.takes put
    c.in_ok-answer.ensures.stands c.in_ok-answer.ensures.answer)
    c.put.ensures
