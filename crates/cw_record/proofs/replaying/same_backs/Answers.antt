use Rattle.std.proofs.Common.{◌≡◌, sym, subst}
use Rattle.std.specs.Bool.{Decides}
use Rattle.cw_record.proofs.Replay.SameBacks.{backs_decide}
use Rattle.cw_record.proofs.replaying.same_backs.Goals as goal

pub returns : goal.returns
returns c = subst (λ b. Decides b (c.args.a.now ≡ c.args.b.now)) (sym c.eq.ensures) (backs_decide c.args.a.now c.args.b.now)
