use Rattle.std.proofs.lemmas.Result.{on_ok_weaker}
use Rattle.cw_audit.proofs.Slots.{put_stand}
use Rattle.cw_audit.proofs.strands.walker.Walker.keep.Goals as goal

pub returns-clause-stands : goal.returns-clause-stands
returns-clause-stands c = on_ok_weaker c.push.result (λ put program h.
    record { strand = h.strand; kept = put_stand program c.in_ok-copy.copy c.args.self.now.kept c.push.new.self (c.in_ok-copy.ensures.stands program h.strand) h.kept put }) c.push.ensures.ok
