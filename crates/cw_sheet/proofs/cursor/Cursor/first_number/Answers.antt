use Rattle.std.proofs.Common.{◌+◌, ap, sym, ◌∙◌}
use Rattle.cw_sheet.specs.Items.{took, refused}
use Rattle.cw_sheet.specs.Taking.{place_of}
use Rattle.cw_sheet.proofs.Numerals.{first_number_is}
use Rattle.cw_sheet.proofs.cursor.Cursor.first_number.Goals as goal

pub returns-in-Ok-clause-taken : goal.returns-in-Ok-clause-taken
returns-in-Ok-clause-taken c =
    let at = place_of c.item-item.new.self in
    first_number_is (c.args.most + 1) (place_of c.args.self.now) c.item-item.result.now at (took c.in-Ok.number at) c.item-item.ensures.taken (c.in-Ok.ensures.read at)

pub returns-in-Err-clause-taken : goal.returns-in-Err-clause-taken
returns-in-Err-clause-taken c =
    let at = place_of c.item-item.new.self in
    first_number_is (c.args.most + 1) (place_of c.args.self.now) c.item-item.result.now at (refused c.fault.result) c.item-item.ensures.taken (c.in-Err.ensures.read at ∙ ap refused (sym c.fault.ensures))
