use Rattle.std.specs.Prelude.{List, IfOk}
use Rattle.std.proofs.Common.{◌≡◌, ℤ, subst}
use Rattle.std.proofs.lemmas.Result.{IfOk-weaker}
use Rattle.cw_code.specs.declared.Back.{Back}
use Rattle.cw_job.specs.Jobs.{Job}
use Rattle.cw_job.specs.Room.Strands.{StrandState}
use Rattle.cw_serial.specs.Machine.{Machine}
use Rattle.cw_serial.specs.Wants.{Since, given_up}
use Rattle.cw_serial.specs.InMemory.{IsMachine, AreSince}
use Rattle.cw_serial.proofs.machine.Machine.given_up.Goals as goal

pub returns : goal.returns
returns c =
    let code = c.args.self.now in
    let P : List ℤ → Type 0 = λ memory. IfOk c.given_up.result (λ (list : List Back). (since : List Since) → AreSince code.undo memory since → list ≡ given_up since) in
    IfOk-weaker c.given_up.result (λ (list : List Back). (since : List Since) → AreSince code.undo code.memory.items since → list ≡ given_up since)
    (λ (list : List Back). (job : Job) (m : Machine StrandState) → IsMachine job code m → list ≡ given_up m.since) (λ list e job m is. e m.since is.since) (subst P c.deref.ensures.value c.given_up.ensures)
