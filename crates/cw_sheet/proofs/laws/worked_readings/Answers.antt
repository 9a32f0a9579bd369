use Rattle.cw_sheet.proofs.SheetText.Worked.{whole_texts}
use Rattle.cw_sheet.proofs.laws.worked_readings.Goals as goal

pub returns : goal.returns
returns c = whole_texts
