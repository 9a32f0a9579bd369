use Rattle.std.proofs.Common.{◌∙◌, ◌++◌, ◌∷◌, [], refl, sym, ap, arith, append_assoc}
use Rattle.cw_serial.specs.declared.table.Place.TheVariants.{Waits}
use Rattle.std.proofs.lemmas.Option.{same_Some}
use Rattle.cw_strand.specs.declared.want.Want.TheVariants.{Fork}
use Rattle.cw_job.specs.Jobs.{bare_job}
use Rattle.cw_job.specs.Room.Strands.{state_of, strands_of_job}
use Rattle.cw_serial.specs.TableInMemory.{forks}
use Rattle.cw_serial.proofs.SameWants.{same_want_at}
use Rattle.cw_serial.proofs.AreOf.{stood_is_of, put_are_of, nobody_is_of, noted_are_of, started_are_of}
use Rattle.cw_serial.proofs.Waiting.{want_here}
use Rattle.cw_serial.proofs.table.Table+Standing.fork.Goals as goal

pub fork-requires-clause-stands : goal.fork-requires-clause-stands
fork-requires-clause-stands c = stood_is_of c.args.program.now c.args.self.now c.put.new.self c.args.number Waits c.in-Stands.strand c.requires.stands (rw c.in-Stands.is at c.put.ensures)

pub fork-requires-clause-fork : goal.fork-requires-clause-fork
fork-requires-clause-fork c =
    let waits = rw c.in-Stands.is at c.put.ensures in
    same_Some ((strands_of_job (bare_job c.args.program.now)).want (state_of c.in-Stands.strand)) Fork (sym (want_here (strands_of_job (bare_job c.args.program.now)) state_of c.args.self.now.rows.items c.args.number waits.row c.in-Stands.strand waits.here waits.was) ∙ c.requires.wants)

pub returns-clause-stands : goal.returns-clause-stands
returns-clause-stands c =
    let p = c.args.program.now in
    let waits = put_are_of p c.args.self.now c.put.new.self c.args.number Waits _ c.requires.stands c.put.ensures (nobody_is_of p Waits refl) in
    let noted = noted_are_of p c.put.new.self c.note.new.self c.args.number c.in_ok-fork.fork c.in_ok-sides.sides waits c.in_ok-fork.ensures in
    let left = started_are_of p c.note.new.self c.start.new.self _ c.in_ok-left.left noted c.in_ok-start.ensures c.in_ok-left.ensures.left_stands in
    started_are_of p c.start.new.self c.start-2.new.self _ c.fork.new.self left c.in_ok-start-2.ensures c.in_ok-left.ensures.right_stands

pub returns-clause-moves : goal.returns-clause-moves
returns-clause-moves c = λ job same.
    let sides = c.in_ok-sides.sides in
    let waits = rw c.in-Stands.is at c.put.ensures in
    forks sides (record {
      strand = c.in-Stands.strand;
      left = c.in_ok-left.left;
      right = c.fork.new.self;
      fork = c.in_ok-fork.fork;
      one = c.put.new.self;
      two = c.note.new.self;
      three = c.start.new.self;
      wants = same_Some ((strands_of_job job).want (state_of c.in-Stands.strand)) Fork (sym (want_here (strands_of_job job) state_of c.args.self.now.rows.items c.args.number waits.row c.in-Stands.strand waits.here waits.was) ∙ (same_want_at job (bare_job c.args.program.now) c.args.self.now.rows.items c.args.number ∙ c.requires.wants));
      left_number = c.in_ok-sides.ensures;
      right_number = (let next = sides.next in omega (arith, c.in_ok-sides.ensures));
      waits = waits;
      notes = c.in_ok-fork.ensures;
      starts_left = c.in_ok-start.ensures;
      starts_right = c.in_ok-start-2.ensures;
      goes_left = c.in_ok-left.ensures.left job same;
      goes_right = c.in_ok-left.ensures.right job same;
    }) (c.in_ok-push-2.ensures.items ∙ (ap (λ xs. xs ++ sides.right ∷ []) c.in_ok-push.ensures.items ∙ append_assoc c.args.todo.now.items (sides.left ∷ []) (sides.right ∷ [])))
