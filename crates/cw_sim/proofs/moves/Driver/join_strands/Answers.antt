-- Both strands have bodies, which become that of the strand that forked.
use Rattle.std.proofs.Common.{refl, sym, ◌∙◌, subst, arith}
use Rattle.cw_job.specs.declared.standing.Standing.{Standing}
use Rattle.cw_sim.specs.declared.moves.Driver.{Driver}
use Rattle.cw_sim.proofs.InMemory.Joins.{IsParent, nodes_there, left_has, right_has, fits_here, parent_running, parent_dying, right_stands, given_up, lives_on, joins_come}
use Rattle.cw_sim.proofs.moves.Driver.join_strands.Goals as goal
use Rattle.cw_sim.proofs.moves.Driver.join_strands.Goals.{then-not-is_dying+in-Ok-join, else-not-is_dying}

pub take-left-requires : goal.take-left-requires
take-left-requires c = left_has c.args.self.now c.args.w c.args.fork c.requires.0 c.requires.1

pub overflow_add-fork-2 : goal.overflow_add-fork-2
overflow_add-fork-2 c = let low = nodes_there c.args.self.now c.args.w c.args.fork c.requires.0 c.requires.1 in omega (arith, low, c.hint.ensures)

pub take-right-requires : goal.take-right-requires
take-right-requires c = right_has c.args.self.now c.args.w c.args.fork c.requires.0 c.requires.1 c.take-left.new.self c.take-left.ensures.takes

pub step-requires : goal.step-requires
step-requires c = fits_here c.args.self.now c.args.w c.args.fork c.requires.0 c.requires.1

pub is_dying-requires : goal.is_dying-requires
is_dying-requires c = parent_running c.args.self.now c.args.w c.args.fork c.requires.0 c.requires.1 c.step.new.self c.in-Ok.ensures.ok c.strand_of-parent.result c.strand_of-parent.ensures

pub join-requires : goal.join-requires
join-requires c =
    right_stands c.args.self.now c.args.w c.args.fork c.requires.0 c.requires.1
    c.take-left.result c.take-right.result c.take-left.new.self c.take-left.ensures.thing c.take-left.ensures.takes c.take-right.ensures.thing

-- whether it is dying or not, the body is that of the strand that forked
pub returns : goal.returns
returns c = λ z may.
    let s = c.args.self.now in
    let P : Standing → Type 0 = λ x. IsParent s c.args.w c.args.fork z may x in
    let dying = parent_dying s c.args.w c.args.fork z may c.step.new.self c.in-Ok.ensures.ok c.strand_of-parent.result c.strand_of-parent.ensures in
    let body : P c.if-not-is_dying.right = elim c.if-not-is_dying.branch [
      | then-not-is_dying+in-Ok-join w ↦
          subst P (sym w.right-is)
          (lives_on s c.args.w c.args.fork z may c.take-left.result c.take-right.result c.take-left.new.self c.take-left.ensures.thing c.take-left.ensures.takes c.take-right.ensures.thing
          w.join.new.self (sym dying ∙ sym w.if-not-is_dying.ensures) w.in-Ok-join.ensures.joined w.in-Ok-join.ensures.stands)
      | else-not-is_dying w ↦
          subst P (sym w.right-is)
          (given_up s c.args.w c.args.fork z may c.take-left.result c.take-right.result c.take-left.new.self c.take-left.ensures.thing c.take-left.ensures.takes c.take-right.ensures.thing
          (sym dying ∙ sym w.if-not-is_dying.ensures))
    ] in
    let new : Driver = record s { core = c.step.new.self; bodies = c.put.new.self; workers = c.with_run.new.workers } in
    joins_come s c.args.w c.args.fork z may new c.if-not-is_dying.right body refl c.in-Ok.ensures.ok refl c.strand_of-parent.result c.strand_of-parent.ensures
    c.take-left.new.self c.take-right.new.self c.take-left.ensures.takes c.take-right.ensures.takes c.in_ok-put.ensures c.with_run.ensures
