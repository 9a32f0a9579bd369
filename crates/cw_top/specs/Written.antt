-- What was written: the text that a command owes for its run. There is none if the run disagrees with its replay.
use Rattle.std.specs.Prelude.{◌≡◌, ◌≢◌, ◌==◌, ℕ, ℤ, pos, ◌+ℤ◌, List, [], ◌∷◌, ◌++◌, codes, length, Option, Some, None, IfSome, IsSomeAnd, if◌then◌else◌}
use Rattle.std.specs.Fmt.{decimal, signed_decimal}
use Rattle.cw_io.specs.Outside.{Appends, AppendsFront, KeepsTelling, TellsOn}
use Rattle.cw_text.specs.Syntax.{Source}
use Rattle.cw_code.specs.declared.CellInfo.{CellInfo}
use Rattle.cw_strand.specs.Programs.{IsProgramOf}
use Rattle.cw_tree.specs.declared.node.Node.{Node}
use Rattle.cw_serial.specs.declared.ends.SerialEnd.{SerialEnd}
use Rattle.cw_serial.specs.declared.ends.SerialEnd.TheVariants as last
use Rattle.cw_serial.specs.MachineOf.{end_under}
use Rattle.cw_record.specs.declared.record.Record.{Record}
use Rattle.cw_record.specs.declared.record_end.RecordEnd.{RecordEnd}
use Rattle.cw_record.specs.declared.record_end.RecordEnd.TheVariants.{Finished}
use Rattle.cw_record.specs.Records.{job_of_record}
use Rattle.cw_report.specs.Results.{end_text, line, run_text}
use Rattle.cw_report.specs.Report.{report_text}
use Rattle.cw_sheet.specs.Contents.{Contents}
use Rattle.cw_sheet.specs.SheetText.{sheet_text}
use Rattle.cw_words.specs.declared.command.Command.{Command}
use Rattle.cw_words.specs.declared.command.Command.TheVariants.{Run, Sim, Load, Keep, Races, Check}
use Rattle.cw_words.specs.declared.command.ReportVersion.{ReportVersion}
use Rattle.cw_words.specs.declared.command.ReportVersion.TheVariants.{First, Second}
use Rattle.cw_top.specs.declared.telling.Telling.{Telling}
use Rattle.cw_top.specs.declared.telling.Telling.TheVariants.{Results, Summary, Sheet, Races as RacesIn}
use Rattle.cw_top.specs.declared.outcome.Note.{Note}
use Rattle.cw_top.specs.declared.outcome.Note.TheVariants as note
use Rattle.cw_top.specs.Runs.{IsItsSource}
use Rattle.cw_top.specs.RacesTold.{IsRacesText}

-- the number of a version
abbrev pub version_number : ReportVersion → ℕ
version_number First = 1
version_number Second = 2

-- the report on a run, if one is asked for
abbrev pub report_if : Option ReportVersion → Record → List ℕ
report_if None r = []
report_if (Some version) r = report_text r (version_number version)

-- the text of a run: its result, followed by the report
abbrev pub text_by : (report : Option ReportVersion) → Record → List ℕ
text_by report r = run_text r ++ report_if report r

-- the sum of integers, of any size
abbrev pub sum_of_values : List ℤ → ℤ
sum_of_values [] = pos 0
sum_of_values (v ∷ vs) = v +ℤ sum_of_values vs

-- the number of transfers that were made, and the sum of all cells
abbrev pub summary_text : (transfers : ℕ) → (memory : List ℤ) → List ℕ
summary_text n memory = line (codes "transfers " ++ decimal n) ++ line (codes "sum " ++ signed_decimal (sum_of_values memory)) ++ line (codes "end")

-- what is written for a load: its summary, or the one line of its end if it did not finish
abbrev pub load_text_of : (transfers : ℕ) → List CellInfo → List Node → RecordEnd → List ℕ
load_text_of n cells t (Finished memory outputs) = summary_text n memory
load_text_of n cells t e = end_text cells t e

abbrev pub load_text : (transfers : ℕ) → Record → List ℕ
load_text n r = load_text_of n r.program.cells r.tree r.end

-- the sheet of a run: its syntax tree, its words and limits, and what it left
abbrev pub sheet_of_run : Source → Record → Contents
sheet_of_run source r = record { source = source; words = r.words; limits = r.limits; tree = r.tree; conflicts = r.conflicts; end = r.end }

-- what a command writes of its run; a check has none, and what stands here for it is never written
abbrev pub telling_of : Command → Telling
telling_of (Run words limits workers report) = Results report
telling_of (Sim words limits workers schedule report) = Results report
telling_of (Load transfers workers) = Summary transfers
telling_of (Keep words limits workers) = Sheet
telling_of (Races words limits) = RacesIn
telling_of Check = Results None

-- the text of a run of this syntax tree
abbrev pub IsTextIn : Telling → Source → Record → List ℕ → Type 0
IsTextIn (Results report) source r text = text ≡ text_by report r
IsTextIn (Summary n) source r text = text ≡ load_text n r
IsTextIn Sheet source r text = text ≡ sheet_text (sheet_of_run source r)
IsTextIn RacesIn source r text = IsRacesText r.program.cells r.tree r.end text

-- The text that a command writes for its run. The run is one of the command's syntax tree.
pub record IsTextBy (c : Command) (left : Option (List ℕ)) (r : Record) (text : List ℕ) : Type 0 where
  pub source : Source
  pub its : IsItsSource c left source
  pub compiled : IsProgramOf source.items r.program
  pub told : IsTextIn (telling_of c) source r text

abbrev pub IsTextOfCommand : Option Command → (left : Option (List ℕ)) → Record → List ℕ → Type 0
IsTextOfCommand command left r text = IsSomeAnd command (λ c. IsTextBy c left r text)

-- The text is owed for the run that is kept. None is owed without a run, and none with status 8.
abbrev pub text_owed : Option Record → (status : ℕ) → (text : List ℕ) → Option (List ℕ)
text_owed None status text = None
text_owed (Some r) status text = if status == 8 then None else Some text

-- The owed text was written, or a front of it if the write failed. If no text is owed, nothing was written.
abbrev pub Writes : (owed : Option (List ℕ)) → Note → (old new : Option (List ℕ)) → Type 0
Writes None n old new = Appends old new []
Writes (Some text) note.Write old new = AppendsFront old new text
Writes (Some text) n old new = Appends old new text

-- A sink that tells what it got, and goes on telling for some number of bytes, took the text. If that number is at least the text's
-- length, it still tells, and goes on for the rest of that number. If no text is owed, all is as before.
abbrev pub StillTells : (owed : Option (List ℕ)) → (before after : ℕ → Type 0) → (old new : Option (List ℕ)) → Type 0
StillTells None before after old new = TellsOn old new × ((n : ℕ) → before n → after n)
StillTells (Some text) before after old new = KeepsTelling before after old new (length text)

-- What was written, if this is what makes a text that of a run: the owed text. Unless a write failed, a sink goes on telling.
pub record Tells (IsText : Record → List ℕ → Type 0) (kept : Option Record) (status : ℕ) (n : Note) (old new : Option (List ℕ)) (before after : ℕ → Type 0) : Type 0 where
  pub text : List ℕ
  pub is_text : status ≢ 8 → IfSome kept (λ r. IsText r text)
  pub written : Writes (text_owed kept status text) n old new
  pub tells : status ≢ 4 → StillTells (text_owed kept status text) before after old new

-- how one memory ends in the order that is kept
abbrev pub end_of_one_memory : Record → SerialEnd
end_of_one_memory r = end_under (job_of_record r) r.order

-- One memory, in the order that is kept, finishes with this memory and these outputs. What was written is the command's text of the
-- run with that end.
pub record WritesEndOfOneMemory (command : Option Command) (left : Option (List ℕ)) (r : Record) (old new : Option (List ℕ)) : Type 0 where
  pub memory : List ℤ
  pub outputs : List ℤ
  pub finishes : end_of_one_memory r ≡ last.Finished memory outputs
  pub text : List ℕ
  pub is_text : IsTextOfCommand command left (record r { end = Finished memory outputs }) text
  pub written : Appends old new text
