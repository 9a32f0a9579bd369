use Rattle.std.specs.Prelude.{List, Some}
use Rattle.std.proofs.Common.{◌≡◌, sym}
use Rattle.std.proofs.lemmas.Result.{IfOk-weaker}
use Rattle.cw_code.specs.declared.Back.{Back}
use Rattle.cw_strand.specs.declared.want.Want.TheVariants.{Cancel}
use Rattle.cw_tree.specs.declared.picks.Name.{Name}
use Rattle.cw_job.specs.Jobs.{Job}
use Rattle.cw_job.specs.Room.Strands.{StrandState}
use Rattle.cw_serial.specs.Machine.{Machine}
use Rattle.cw_serial.specs.Orders.{IsPlay}
use Rattle.cw_serial.specs.Wants.{given_up}
use Rattle.cw_record.proofs.replaying.put_back.Goals as goal

pub returns-in-Some-Cancel : goal.returns-in-Some-Cancel
returns-in-Some-Cancel c =
    IfOk-weaker c.given_up.result (λ (list : List Back). (job : Job) (names : List Name) (m : Machine StrandState) → IsPlay job names c.args.play.now m → list ≡ given_up m.since)
    (λ (list : List Back). (job : Job) (names : List Name) (m : Machine StrandState) → IsPlay job names c.args.play.now m → c.args.want ≡ Some Cancel → given_up m.since ≡ list) (λ list e job names m is wants. sym (e job names m is)) c.given_up.ensures
