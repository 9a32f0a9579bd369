use Rattle.std.proofs.Common.{◌≡◌}
use Rattle.std.specs.Prelude.{Result, Ok, Err, OnOk}
use Rattle.cw_core.specs.Events.{after_event}
use Rattle.cw_core.specs.declared.event.Event.TheVariants as event
use Rattle.cw_core.proofs.cores.Core.try_access.Goals as goal

-- what is true of each is true of one
any_ok : {A E W : Type 0} (r : Result A E) (P : W → Type 0) (x : W) → OnOk r ((w : W) → P w) → OnOk r (P x)
any_ok (Ok a) P x h = h x
any_ok (Err e) P x h = tt

pub returns-clause-ok : goal.returns-clause-ok
returns-clause-ok g c =
    any_ok c.refuse_access.result (λ write. c.refuse_access.new.self ≡ after_event c.args.self.now (event.Access c.args.strand c.args.cell write)) c.args.write c.refuse_access.ensures.ok
