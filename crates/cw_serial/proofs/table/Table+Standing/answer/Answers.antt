use Rattle.std.proofs.Common.{refl}
use Rattle.cw_serial.specs.declared.table.Place.TheVariants.{Stands, Gone}
use Rattle.cw_serial.proofs.AreOf.{stood_is_of, put_are_of, nobody_is_of, stands_is_of}
use Rattle.cw_serial.proofs.table.Table+Standing.answer.Goals as goal

pub answer-requires : goal.answer-requires
answer-requires c = stood_is_of c.args.program.now c.args.self.now c.put.new.self c.args.number Gone c.in-Stands.strand c.requires.stands (rw c.in-Stands.is at c.put.ensures)

pub returns-clause-answers : goal.returns-clause-answers
returns-clause-answers c = λ job same.
    let gone = rw c.in-Stands.is at c.put.ensures in
    record {
      strand = c.in-Stands.strand;
      answered = c.answer.new.self;
      former = c.put-2.result;
      one = c.put.new.self;
      gone = gone;
      back = c.put-2.ensures;
      goes_on = c.in_ok-answer.ensures.answer job same;
    }

pub returns-clause-stands : goal.returns-clause-stands
returns-clause-stands c =
    let gone = put_are_of c.args.program.now c.args.self.now c.put.new.self c.args.number Gone _ c.requires.stands c.put.ensures (nobody_is_of c.args.program.now Gone refl) in
    put_are_of c.args.program.now c.put.new.self c.put-2.new.self c.args.number (Stands c.answer.new.self) _ gone c.put-2.ensures (stands_is_of c.args.program.now c.answer.new.self c.in_ok-answer.ensures.stands)
