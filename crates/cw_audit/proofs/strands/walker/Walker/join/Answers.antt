use Rattle.std.proofs.Common.{◌∙◌, ap, sym, subst, Option}
use Rattle.cw_job.specs.declared.standing.Standing.{Standing}
use Rattle.cw_job.specs.Jobs.{job_of_task}
use Rattle.cw_audit.specs.Walkers.{IsOfIfThere, law_of_told, state_there}
use Rattle.cw_audit.proofs.Slots.{HasEnded, back_stand, both_ended, not_both_ended, both_ok, joins_at}
use Rattle.cw_audit.proofs.strands.walker.Walker.join.Goals as goal
use Rattle.cw_audit.proofs.strands.walker.Walker.join.Goals.{else-is_over-via-then-is_over+else-is_over-2, else-is_over-via-else-is_over}

pub returns-then-is_over-2-clause-spot : goal.returns-then-is_over-2-clause-spot
returns-then-is_over-2-clause-spot c =
    let told = c.args.told.now in
    let s = law_of_told told in
    let t = told.tree.now in
    let job = job_of_task told.task in
    let right = c.take-left.new.self.strand in
    let left = c.take-left.result in
    let l = (c.is_over.ensures job).0 c.if-is_over.true in
    let r = (c.is_over-then-is_over.ensures job).0 c.if-is_over-2.true in
    both_ok c.join_with.result (λ strand kept.
    joins_at s t c.args.self.now.strand c.args.self.now.kept right left c.join_with.new.self.strand c.join_with.new.self.kept
    c.take-left.ensures.strand c.take-left.ensures.taken (kept ∙ c.take-left.ensures.kept) (strand ∙ both_ended s t (state_there right) (state_there left) l r))
    c.join_with.ensures.strand c.join_with.ensures.kept

pub returns-clause-spot : goal.returns-clause-spot
returns-clause-spot c =
    let told = c.args.told.now in
    let s = law_of_told told in
    let t = told.tree.now in
    let job = job_of_task told.task in
    let right = c.take-left.new.self.strand in
    let left = c.take-left.result in
    let opened : HasEnded s t (state_there left) → HasEnded s t (state_there right) → ⊥ =
    λ l r. (elim c.else-is_over.branch [
      | else-is_over-via-then-is_over+else-is_over-2 w ↦ cc ((w.is_over-then-is_over.ensures job).1 r, w.if-is_over-2.false)
      | else-is_over-via-else-is_over w ↦ cc ((c.is_over.ensures job).1 l, w.if-is_over.false)
    ]) in
    joins_at s t c.args.self.now.strand c.args.self.now.kept right left c.replace.new.dest c.take-left.new.self.kept
    c.take-left.ensures.strand c.take-left.ensures.taken c.take-left.ensures.kept (ap state_there c.replace.ensures.after ∙ not_both_ended s t (state_there right) (state_there left) opened)

pub returns-clause-stands : goal.returns-clause-stands
returns-clause-stands c =
    let program = c.args.told.now.task.program.now in
    let P : Option Standing → Type 0 = IsOfIfThere program in
    let both = back_stand program c.args.self.now.kept c.requires.kept c.take-left.result c.take-left.new.self.kept c.take-left.ensures.taken c.take-left.ensures.kept in
    record { strand = subst P (sym c.replace.ensures.after) tt; kept = both.1 }
