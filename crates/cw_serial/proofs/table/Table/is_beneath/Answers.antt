use Rattle.std.proofs.Common.{◌≡◌, ◌∙◌, None, sym}
use Rattle.std.specs.List.{slice_get}
use Rattle.cw_serial.proofs.Beneath.{climb_up, climb_end, climb_named, climb_falls}
use Rattle.cw_serial.proofs.table.Table.is_beneath.Goals as goal

pub returns-in_default : goal.returns-in_default
returns-in_default g c = λ ok q z up uz.
    let none : slice_get c.args.self.now.names.items c.loop-at.at ≡ None = sym c.name.ensures ∙ c.in_default.is in
    absurd (climb_named c.args.self.now.names.items c.args.self.now.rows.items ok c.args.above c.args.number c.loop-at.at q z up uz c.loop-at.invariant none)

pub returns-then-name-at : goal.returns-then-name-at
returns-then-name-at g c = λ ok q z up uz.
    absurd (climb_falls c.args.self.now.names.items c.args.self.now.rows.items ok c.args.above c.args.number c.loop-at.at q z up uz c.loop-at.invariant c.in-Some.name c.loop-at-test.true (sym c.name.ensures ∙ c.in-Some.is) c.if-name-at.true)

pub loop-at-preserved : goal.loop-at-preserved
loop-at-preserved g c = climb_up c.args.self.now.names.items c.args.self.now.rows.items c.args.above c.args.number c.loop-at.at c.in-Some.name c.loop-at-test.true (sym c.name.ensures ∙ c.in-Some.is) c.loop-at.invariant

pub returns : goal.returns
returns g c = λ ok q z up uz. climb_end c.args.self.now.names.items c.args.self.now.rows.items ok c.args.above c.args.number c.loop-at.at q z up uz c.loop-at.invariant c.loop-at-test.false
