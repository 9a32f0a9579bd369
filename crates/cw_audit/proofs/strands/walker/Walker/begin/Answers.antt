use Rattle.std.proofs.Common.{sym, subst}
use Rattle.cw_audit.specs.declared.strands.walker.Walker.{Walker}
use Rattle.cw_audit.specs.Walkers.{HasStrandsOf}
use Rattle.cw_audit.proofs.strands.walker.Walker.begin.Goals as goal
use Rattle.cw_audit.proofs.strands.walker.Walker.begin.Goals.{then-ne+then-has_later+in_ok-keep, else-ne}

pub answer-requires : goal.answer-requires
answer-requires c =
    let program = c.args.told.now.task.program.now in
    let P : Walker → Type 0 = HasStrandsOf program in
    elim c.if-ne.branch [
      | then-ne+then-has_later+in_ok-keep w ↦ subst P (sym w.self-is) (w.in_ok-keep.ensures.stands program c.requires.stands)
      | else-ne w ↦ subst P (sym w.self-is) c.requires.stands
    ]
