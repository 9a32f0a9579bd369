use Rattle.std.proofs.Common.{◌∙◌, sym, subst, Option}
use Rattle.std.proofs.lemmas.Result.{on_ok_weaker}
use Rattle.cw_job.specs.declared.standing.Standing.{Standing}
use Rattle.cw_audit.specs.Walkers.{IsOfIfThere}
use Rattle.cw_audit.proofs.Slots.{back_stand, put_stand}
use Rattle.cw_audit.proofs.strands.walker.Walker.turn.Goals as goal

pub returns-clause-stands : goal.returns-clause-stands
returns-clause-stands c = on_ok_weaker c.push.result (λ put program h.
    let os = c.args.self.now.kept in
    let both = back_stand program os h.kept c.replace-left.new.dest c.take-right.new.self.kept (c.replace-left.ensures.after ∙ c.take-right.ensures.taken) c.take-right.ensures.kept in
    let P : Option Standing → Type 0 = IsOfIfThere program in
    let left = subst P (sym (c.replace-left.ensures.value ∙ c.take-right.ensures.strand)) h.strand in
    record { strand = both.0; kept = put_stand program c.replace-left.result c.take-right.new.self.kept c.push.new.self left both.1 put }) c.push.ensures.ok
