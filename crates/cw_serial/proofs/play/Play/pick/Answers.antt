use Rattle.std.proofs.Common.{refl}
use Rattle.cw_serial.proofs.Played.{both_if_ok, looked, nowhere_plays, started_plays}
use Rattle.cw_serial.proofs.play.Play.pick.Goals as goal

pub returns-in_default-clause-picks : goal.returns-in_default-clause-picks
returns-in_default-clause-picks c = λ job names m same is.
    let l = looked job names m c.args.name c.args.self.now c.number.new.self c.in_ok-strand.field-0 is c.in_ok-strand.ensures.order c.in_ok-strand.ensures.found in
    nowhere_plays job names m c.args.name c.args.self.now _ is refl (rw c.in_default.is at l)

pub returns-clause-picks : goal.returns-clause-picks
returns-clause-picks c = both_if_ok c.pick.result _ _ _ (λ moved picks front job names m same is.
    let l = looked job names m c.args.name c.args.self.now c.number.new.self c.in_ok-strand.field-0 is c.in_ok-strand.ensures.order c.in_ok-strand.ensures.found in
    started_plays job names m c.args.name c.args.self.now _ c.in-Some.strand moved (rw c.in-Some.is at l) (λ q up. picks job m q same is.machine up) front) c.pick.ensures.picks c.pick.ensures.names
