use Rattle.std.specs.Prelude.{List}
use Rattle.std.proofs.lemmas.Result.{IfOk-weaker}
use Rattle.cw_code.specs.declared.Back.{Back}
use Rattle.cw_tree.specs.declared.picks.Name.{Name}
use Rattle.cw_job.specs.Jobs.{Job}
use Rattle.cw_job.specs.Room.Strands.{StrandState}
use Rattle.cw_serial.specs.Machine.{Machine}
use Rattle.cw_serial.specs.Wants.{given_up}
use Rattle.cw_serial.specs.InMemory.{IsMachine}
use Rattle.cw_serial.specs.Orders.{IsPlay}
use Rattle.std.proofs.Common.{◌≡◌}
use Rattle.cw_serial.proofs.play.Play.given_up.Goals as goal

pub returns : goal.returns
returns c =
    IfOk-weaker c.given_up.result (λ (list : List Back). (job : Job) (m : Machine StrandState) → IsMachine job c.args.self.now.machine m → list ≡ given_up m.since)
    (λ (list : List Back). (job : Job) (names : List Name) (m : Machine StrandState) → IsPlay job names c.args.self.now m → list ≡ given_up m.since) (λ list e job names m is. e job m is.machine) c.given_up.ensures
