-- Examples: whole texts, and what they are read as.
use Rattle.std.specs.Prelude.{◌≡◌, [], ◌∷◌, Ok, Err}
use Rattle.cw_sheet.specs.declared.sheet.SheetKind.TheVariants.{NotUtf8}
use Rattle.cw_sheet.specs.Reading.{sheet_reading}
use Rattle.cw_sheet.specs.Worked.{one_strand_run, one_strand_text}

pub record WholeTexts : Type 0 where
  pub read : sheet_reading one_strand_text ≡ Ok one_strand_run
  -- the empty line before the bad byte is not looked at
  pub no_character : sheet_reading (10 ∷ 255 ∷ []) ≡ Err (record { kind = NotUtf8; line = 2 })
