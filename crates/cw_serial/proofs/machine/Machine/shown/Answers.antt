use Rattle.std.proofs.Common.{◌≡◌, ◌∙◌, sym, ap, false}
use Rattle.std.proofs.lemmas.Bool.{cond-false}
use Rattle.cw_serial.specs.Machine.{has_ended}
use Rattle.cw_job.specs.Room.Strands.{strands_of_job}
use Rattle.cw_serial.specs.Orders.{end_from}
use Rattle.cw_serial.proofs.Shown.{end_named}
use Rattle.cw_serial.proofs.machine.Machine.shown.Goals as goal

pub returns : goal.returns
returns c = λ job m o is named.
    let over : has_ended (strands_of_job job) m ≡ false = sym (c.ended.ensures job m is) ∙ c.if-ended.false in
    c.end_from.ensures ∙ (ap (λ w. end_from w c.args.name c.args.place) (c.want_of.ensures job m o is named) ∙ (sym (end_named job m c.args.name c.args.place o) ∙ sym (cond-false (has_ended (strands_of_job job) m) _ _ over)))
