-- What a run that finished has written, said with one memory alone. What this file cites is the grammar, the naming rules, the meaning over
-- the syntax, the machine with one memory and the texts: no record, no order of one, no instructions. A tree of a run is only part of a text.
use Rattle.std.specs.Prelude.{◌≡◌, ℕ, ℤ, List, [], ◌++◌, length, Option, Some, None, Ok, IfSome}
use Rattle.cw_io.specs.Outside.{Appends}
use Rattle.cw_text.specs.Syntax.{Declaration, Source}
use Rattle.cw_text.specs.Text.{program}
use Rattle.cw_code.specs.declared.Limits.{Limits}
use Rattle.cw_strand.specs.Names.{naming_fault, cells_of, first_memory}
use Rattle.cw_strand.specs.Meaning.{MainTakes, strands_of_syntax}
use Rattle.cw_tree.specs.declared.picks.Picks.{Picks}
use Rattle.cw_serial.specs.declared.ends.SerialEnd.TheVariants.{Finished}
use Rattle.cw_serial.specs.Machine.{serial_end}
use Rattle.cw_record.specs.declared.record_end.RecordEnd.TheVariants.{Finished as AFinish}
use Rattle.cw_report.specs.Results.{finished_text}
use Rattle.cw_sheet.specs.Contents.{Contents}
use Rattle.cw_sheet.specs.SheetText.{sheet_text}
use Rattle.cw_gen.specs.Load.{load_tree}
use Rattle.cw_words.specs.declared.command.Command.{Command}
use Rattle.cw_words.specs.declared.command.Command.TheVariants.{Run, Sim, Load, Keep, Races, Check}
use Rattle.cw_words.specs.declared.command.ReportVersion.{ReportVersion}
use Rattle.cw_words.specs.Words.{words_of, limits_of}
use Rattle.cw_code.specs.Ranges.{default_limits}
use Rattle.cw_top.specs.Refusals.{newest_language}
use Rattle.cw_top.specs.Written.{summary_text}

-- There are picks under which one memory, running the strands of these declarations, ends finished with this memory and these outputs.
pub record Finishes (words : List ℤ) (limits : Limits) (source : List Declaration) (memory outputs : List ℤ) : Type 0 where
  pub picks : Picks
  pub ends : serial_end (strands_of_syntax source words limits) (first_memory (cells_of source)) picks ≡ Finished memory outputs

-- The result, and behind it, if a report is asked for, some more: what the report says is not part of this claim.
abbrev pub IsResultText : (report : Option ReportVersion) → (result text : List ℕ) → Type 0
IsResultText None result text = text ≡ result
IsResultText (Some version) result text = (behind : List ℕ) × (text ≡ result ++ behind)

-- The text of a sheet of these declarations, words and limits that ends finished, with this memory and these outputs. What the sheet says
-- besides is not part of this claim.
pub record IsSheetText (ws : List ℤ) (ls : Limits) (ds : List Declaration) (memory outputs : List ℤ) (text : List ℕ) : Type 0 where
  pub sheet : Contents
  pub source : sheet.source.items ≡ ds
  pub words : sheet.words ≡ ws
  pub limits : sheet.limits ≡ ls
  pub end : sheet.end ≡ AFinish memory outputs
  pub is_text : text ≡ sheet_text sheet

-- The text that a command writes if its run finishes: the outputs and the cells, for a load its summary, or a sheet. Races and
-- checks tell nothing of the end.
abbrev pub IsTextOfEnd : Command → List Declaration → (memory outputs : List ℤ) (text : List ℕ) → Type 0
IsTextOfEnd (Run words limits workers report) source memory outputs text = IsResultText report (finished_text (cells_of source) memory outputs) text
IsTextOfEnd (Sim words limits workers schedule report) source memory outputs text = IsResultText report (finished_text (cells_of source) memory outputs) text
IsTextOfEnd (Load transfers workers) source memory outputs text = text ≡ summary_text transfers memory
IsTextOfEnd (Keep words limits workers) source memory outputs text = IsSheetText words limits source memory outputs text
IsTextOfEnd (Races words limits) source memory outputs text = Unit {0}
IsTextOfEnd Check source memory outputs text = Unit {0}

-- One memory, running these declarations, can finish so that the text of its outputs and cells is what was written.
pub record WritesWhatOneMemoryGives (command : Command) (words : List ℤ) (limits : Limits) (source : List Declaration) (old new : Option (List ℕ)) : Type 0 where
  -- no name in them is at fault, and their main takes these words
  pub named : naming_fault source ≡ None
  pub takes : MainTakes source (length words)
  pub memory : List ℤ
  pub outputs : List ℤ
  pub finishes : Finishes words limits source memory outputs
  pub text : List ℕ
  pub is_text : IsTextOfEnd command source memory outputs text
  pub written : Appends old new text

-- The same of what a command runs: the syntax tree that the bytes of the source spell, if the source tells its bytes; for a load the tree of
-- its own program. Words that are no command write nothing, and a check runs nothing.
abbrev pub IsOneMemory : Option Command → (left old new : Option (List ℕ)) → Type 0
IsOneMemory None left old new = ⊥
IsOneMemory (Some (Load transfers workers)) left old new = WritesWhatOneMemoryGives (Load transfers workers) [] default_limits (load_tree transfers) old new
IsOneMemory (Some Check) left old new = Unit {0}
IsOneMemory (Some c) left old new = IfSome left (λ bytes.
    (source : Source) × (program (newest_language c) bytes ≡ Ok source) × WritesWhatOneMemoryGives c (words_of c) (limits_of c) source.items old new)
