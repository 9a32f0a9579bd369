use Rattle.cw_serial.specs.Machine.{steps_down}
use Rattle.cw_serial.proofs.Played.{finds_named, looked}
use Rattle.cw_serial.proofs.play.Play.end.Goals as goal

pub returns : goal.returns
returns c = λ job names m is.
    let l = looked job names m c.args.last c.args.self c.number.new.self c.in_ok-strand.strand is c.in_ok-strand.ensures.order c.in_ok-strand.ensures.found in
    c.shown.ensures job m (steps_down names c.args.last) is.machine (finds_named job names m c.args.last c.args.self.machine c.in_ok-strand.strand is.machine l.finds)
