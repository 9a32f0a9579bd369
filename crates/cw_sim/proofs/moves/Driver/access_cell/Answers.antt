-- The core makes the access, and the strand is answered, or the run may stop.
use Rattle.std.proofs.Common.{ap, ◌∙◌, w64, SFits, rules}
use Rattle.std.proofs.lemmas.Int.{to_z-of_z}
use Rattle.std.proofs.lemmas.Result.{on_ok_weaker}
use Rattle.cw_core.specs.declared.event.Event.TheVariants as event
use Rattle.cw_sim.specs.Moves.{does}
use Rattle.cw_strand.specs.Strands.{given_for}
use Rattle.cw_sim.proofs.InMemory.Accesses.{access_fits_there, access_may, access_comes, refused_stands, refused_comes}
use Rattle.cw_sim.proofs.moves.Driver.access_cell.Goals as goal
use Rattle.cw_sim.proofs.moves.Driver.access_cell.Goals.{in-Value, in_default}

pub step-requires : goal.step-requires
step-requires c = let (z, may) = c.requires in access_fits_there c.args.self.now c.args.strand c.args.cell c.args.write z may

pub answer_want-requires : goal.answer_want-requires
answer_want-requires c =
    let (z, may) = c.requires in (
      record z { m = does (event.Access c.args.strand c.args.cell c.args.write) z.m },
      access_may c.args.self.now c.args.strand c.args.cell c.args.write z may c.in-Value.value c.in_ok-value.field-0 c.in-Value.is c.in_ok-value.ensures.reply
          c.step.new.self c.in_ok-value.ensures.ok c.in_ok-value.ensures.stands,
    )

pub returns : goal.returns
returns c =
    let s = c.args.self.now in
    let x = c.args.strand in
    let cell = c.args.cell in
    let write = c.args.write in
    elim c.match-branch-2.branch [
      | in-Value w ↦
          (let signed : SFits w64 w.in-Value.value = search rules in
          let given = w.of_access.ensures ∙ ap (given_for write) (to_z-of_z w64 w.in-Value.value signed) in
          rw (w.result-is, w.self-is)
          (on_ok_weaker w.answer_want.result
          (λ stands z may.
          let r = c.in_ok-value.field-0 in
          access_comes s x cell write z may w.in-Value.value r w.in-Value.is c.in_ok-value.ensures.reply w.of_access.result given w.answer_want.new.self
          (stands (record z { m = does (event.Access x cell write) z.m })
          (access_may s x cell write z may w.in-Value.value r w.in-Value.is c.in_ok-value.ensures.reply c.step.new.self c.in_ok-value.ensures.ok c.in_ok-value.ensures.stands)))
          w.answer_want.ensures.stands))
      | in_default w ↦
          rw (w.result-is, w.self-is)
          (on_ok_weaker w.stop_if_spent.result
          (λ stands z may.
          let r = c.in_ok-value.field-0 in
          refused_comes s x cell write z may r w.in_default.not-Value c.in_ok-value.ensures.reply w.stop_if_spent.new.self
          (stands (record z { m = does (event.Access x cell write) z.m })
          (refused_stands s x cell write z may r w.in_default.not-Value c.in_ok-value.ensures.reply c.step.new.self c.in_ok-value.ensures.ok c.in_ok-value.ensures.stands)))
          w.stop_if_spent.ensures)
    ]
