use Rattle.std.proofs.Common.{◌≡◌, sym, subst}
use Rattle.std.specs.Bool.{Decides}
use Rattle.std.specs.Cmp.Rules.{signed_items}
use Rattle.cw_record.proofs.checking.same_values.Goals as goal

pub returns : goal.returns
returns c = subst (λ b. Decides b (c.args.a.now ≡ c.args.b.now)) (sym c.eq.ensures) (signed_items c.args.a.now c.args.b.now)
