use Rattle.cw_serial.specs.Machine.{steps_down}
use Rattle.cw_serial.proofs.Played.{finds_named, looked}
use Rattle.cw_serial.proofs.play.Play.at.Goals as goal

pub returns-clause-want : goal.returns-clause-want
returns-clause-want c = λ job names m is.
    let l = looked job names m c.args.name c.args.self.now c.number.new.self c.in_ok-strand.strand is c.in_ok-strand.ensures.order c.in_ok-strand.ensures.found in
    c.want_of.ensures job m (steps_down names c.args.name) is.machine (finds_named job names m c.args.name c.args.self.now.machine c.in_ok-strand.strand is.machine l.finds)
