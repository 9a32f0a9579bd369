use Rattle.std.proofs.Common.{◌≡◌, ◌<◌, length, subst}
use Rattle.std.specs.Prelude.{◌==◌}
use Rattle.cw_code.specs.Rules.{same_parts}
use Rattle.cw_code.specs.Nested.{Nested, parts_at}
use Rattle.cw_code.proofs.Rows.{same_numbers}
use Rattle.cw_code.proofs.nestings.Nestings.are_same.Goals as goal

pub returns : goal.returns
returns c =
    let P : Nested → Type 0 = λ ns. c.args.one < length ns → c.args.other < length ns → (c.args.one == c.args.other) ≡ same_parts (parts_at ns c.args.one) (parts_at ns c.args.other) in
    subst P c.self.view_is (same_numbers c.self.inside.rows.items c.self.invariant c.args.one c.args.other) c.requires.0 c.requires.1
