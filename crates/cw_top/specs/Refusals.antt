-- Why a source is refused: a program for its text's first fault, otherwise for its first naming fault; a sheet for its text's first fault.
-- And what a program that is not refused says, and the number of words that it asks for.
use Rattle.std.specs.Prelude.{◌≡◌, ℕ, ℤ, List, length, Option, Some, None, Result, Ok, Err}
use Rattle.cw_text.specs.declared.fault.TextFault.{TextFault}
use Rattle.cw_text.specs.Syntax.{Source}
use Rattle.cw_text.specs.Text.{program}
use Rattle.cw_strand.specs.Meaning.{MainTakes}
use Rattle.cw_strand.specs.Names.{naming_fault, Fault}
use Rattle.cw_code.specs.declared.program.Program.{Program}
use Rattle.cw_strand.specs.Programs.{IsProgramOf}
use Rattle.cw_sheet.specs.declared.sheet.SheetFault.{SheetFault}
use Rattle.cw_sheet.specs.Contents.{Contents}
use Rattle.cw_sheet.specs.Reading.{sheet_reading}
use Rattle.cw_words.specs.declared.command.Command.{Command}
use Rattle.cw_top.specs.declared.outcome.Note.{Note}
use Rattle.cw_top.specs.declared.outcome.Note.TheVariants.{Text, Name, Sheet}

-- the newest language in which a command reads its source
abbrev pub newest_language : Command → ℕ
newest_language command = 2

abbrev pub note_of_fault : Fault → Option Note
note_of_fault None = None
note_of_fault (Some f) = Some (Name f)

abbrev pub of_reading : Result Source TextFault → Option Note
of_reading (Ok source) = note_of_fault (naming_fault source.items)
of_reading (Err f) = Some (Text f)

-- why these bytes are refused, if they are, and if no language after this one is read
abbrev pub refusal : (language : ℕ) → List ℕ → Option Note
refusal language bytes = of_reading (program language bytes)

abbrev pub of_sheet_reading : Result Contents SheetFault → Option Note
of_sheet_reading (Ok c) = None
of_sheet_reading (Err f) = Some (Sheet f)

-- why these bytes are refused as a sheet, if they are
abbrev pub sheet_refusal : List ℕ → Option Note
sheet_refusal bytes = of_sheet_reading (sheet_reading bytes)

-- The program is the compilation of the tree that these bytes spell.
abbrev pub Spells : (language : ℕ) → List ℕ → Program → Type 0
Spells language bytes p = (source : Source) × ((program language bytes ≡ Ok source) × IsProgramOf source.items p)

-- Main of the program that these bytes spell has `n` parameters; `n` is 0 if there is no main.
abbrev pub AsksFor : (language : ℕ) → List ℕ → ℕ → Type 0
AsksFor language bytes n = (source : Source) × ((program language bytes ≡ Ok source) × MainTakes source.items n)

-- The bytes are not refused, and their main has another number of parameters than there are words.
abbrev pub IsMisfit : (language : ℕ) → List ℤ → List ℕ → Type 0
IsMisfit language words bytes = (refusal language bytes ≡ None) × (AsksFor language bytes (length words) → ⊥)
