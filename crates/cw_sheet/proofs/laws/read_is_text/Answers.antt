use Rattle.cw_sheet.proofs.SheetText.Told.Whole.{read_is_text}
use Rattle.cw_sheet.proofs.laws.read_is_text.Goals as goal

pub returns : goal.returns
returns c = read_is_text
