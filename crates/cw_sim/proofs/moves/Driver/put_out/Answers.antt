-- The core makes the output, and the strand is answered.
use Rattle.std.proofs.Common.{ap, ◌∙◌, w64, SFits, rules}
use Rattle.std.proofs.lemmas.Int.{to_z-of_z}
use Rattle.std.proofs.lemmas.Result.{on_ok_weaker}
use Rattle.cw_core.specs.declared.event.Event.TheVariants as event
use Rattle.cw_core.specs.Events.{after_event}
use Rattle.cw_sim.specs.Moves.{does}
use Rattle.cw_sim.proofs.InMemory.Acts.{out_may, out_comes}
use Rattle.cw_sim.proofs.moves.Driver.put_out.Goals as goal

pub answer_want-requires : goal.answer_want-requires
answer_want-requires c =
    let z = c.requires.0 in
    let signed : SFits w64 c.args.value = search rules in (
      record z { m = does (event.Out c.args.strand c.args.value) z.m },
      out_may c.args.self.now c.args.strand c.args.value z c.requires.1 c.step.new.self (c.in_ok-step.ensures.ok ∙ ap (λ v. after_event c.args.self.now.core (event.Out c.args.strand v)) (to_z-of_z w64 c.args.value signed)) c.in_ok-step.ensures.stands,
    )

pub returns : goal.returns
returns c =
    let signed : SFits w64 c.args.value = search rules in
    on_ok_weaker c.answer_want.result
    (λ stands z may. out_comes c.args.self.now c.args.strand c.args.value z may c.answer_want.new.self
    (stands (record z { m = does (event.Out c.args.strand c.args.value) z.m }) (out_may c.args.self.now c.args.strand c.args.value z may c.step.new.self (c.in_ok-step.ensures.ok ∙ ap (λ v. after_event c.args.self.now.core (event.Out c.args.strand v)) (to_z-of_z w64 c.args.value signed)) c.in_ok-step.ensures.stands)))
    c.answer_want.ensures.stands
