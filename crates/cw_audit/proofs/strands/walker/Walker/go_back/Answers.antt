use Rattle.std.proofs.Common.{◌∙◌}
use Rattle.cw_audit.proofs.Slots.{back_stand}
use Rattle.cw_audit.proofs.strands.walker.Walker.go_back.Goals as goal

pub returns-clause-stands : goal.returns-clause-stands
returns-clause-stands c = λ program h.
    let both = back_stand program c.args.self.now.kept h.kept c.replace.new.dest c.take-before.new.self.kept (c.replace.ensures.after ∙ c.take-before.ensures.taken) c.take-before.ensures.kept in
    record { strand = both.0; kept = both.1 }
