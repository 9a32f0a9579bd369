-- The examples of whole texts.
use Rattle.std.proofs.Common.{◌≡◌, Ok, ap, lit≤, refl}
use Rattle.std.proofs.lemmas.Str.{IsUtf8-from_ascii}
use Rattle.std.specs.Fmt.{digits}
use Rattle.std.specs.Str.{chars, is_utf8}
use Rattle.std.specs.Str.Lossy.{utf8_valid_len}
use lib.Utf8.{encode}
use Rattle.cw_text.proofs.Readings.{reading_is as source_is}
use Rattle.cw_text.specs.PrintedText.{printed_text}
use Rattle.cw_text.specs.Text.{reading}
use Rattle.cw_sheet.specs.Items.{◌into◌}
use Rattle.cw_sheet.specs.Reading.{behind_source, canonical, contents_from, judged_sheet, longest_source}
use Rattle.cw_sheet.specs.Worked.{lines, lines_behind, one_strand_run, one_strand_text}
use Rattle.cw_sheet.specs.WorkedReading.{WholeTexts}
use Rattle.cw_sheet.proofs.SheetText.Read.Plain.{letters}
use Rattle.cw_sheet.proofs.SheetText.Read.Taking.{on_line}
use Rattle.cw_sheet.proofs.SheetText.Read.Whole.{reading_is}

source_read : reading 2 longest_source (printed_text one_strand_run.source) ≡ Ok one_strand_run.source
unfolding digits
source_read =
    let text = printed_text one_strand_run.source in
    source_is 2 longest_source text (lit≤ tt) (IsUtf8-from_ascii text (letters text refl))

judged : judged_sheet (contents_from (on_line 1 one_strand_text)) ≡ Ok one_strand_run
unfolding digits
judged =
    ap (λ r. judged_sheet (canonical 2 (printed_text one_strand_run.source) r (on_line 8 (lines lines_behind)) into λ s p. behind_source s p)) source_read

pub whole_texts : WholeTexts
unfolding utf8_valid_len is_utf8 chars encode
whole_texts = record {
  read = reading_is one_strand_text one_strand_run (lit≤ tt) (IsUtf8-from_ascii one_strand_text (letters one_strand_text refl)) judged;
  no_character = refl;
}
