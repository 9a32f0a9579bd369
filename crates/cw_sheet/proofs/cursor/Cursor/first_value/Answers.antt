use Rattle.std.proofs.Common.{◌≡◌, ap, sym, ◌∙◌, arith, rules, to_z, of_z, to_z-of_z, w64}
use Rattle.std.proofs.lemmas.Int.{ints}
use Rattle.cw_sheet.specs.Items.{took, refused}
use Rattle.cw_sheet.specs.Taking.{place_of}
use Rattle.cw_sheet.proofs.Numerals.{first_value_is}
use Rattle.cw_sheet.proofs.cursor.Cursor.first_value.Goals as goal

pub returns-in-Ok-clause-taken : goal.returns-in-Ok-clause-taken
returns-in-Ok-clause-taken c =
    let at = place_of c.item-item.new.self in
    let same : c.in-Ok.value ≡ to_z w64 (of_z w64 c.in-Ok.value) = first_of (search rules, grind (arith, ints, to_z-of_z)) in
    first_value_is (place_of c.args.self.now) c.item-item.result.now at (took c.in-Ok.value at) c.item-item.ensures.taken (c.in-Ok.ensures at) ∙ ap (λ z. took z at) same

pub returns-in-Err-clause-taken : goal.returns-in-Err-clause-taken
returns-in-Err-clause-taken c =
    let at = place_of c.item-item.new.self in
    first_value_is (place_of c.args.self.now) c.item-item.result.now at (refused c.fault.result) c.item-item.ensures.taken (c.in-Err.ensures at ∙ ap refused (sym c.fault.ensures))
