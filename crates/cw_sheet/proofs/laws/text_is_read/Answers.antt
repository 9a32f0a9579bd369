use Rattle.cw_sheet.proofs.SheetText.Read.Whole.{text_is_read}
use Rattle.cw_sheet.proofs.laws.text_is_read.Goals as goal

pub returns : goal.returns
returns c = text_is_read
