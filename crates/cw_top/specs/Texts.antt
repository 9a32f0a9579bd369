-- The text of a note. Every line ends with a newline.
use Rattle.std.specs.Prelude.{ℕ, List, [], ◌++◌, codes}
use Rattle.std.specs.Fmt.{decimal}
use Rattle.cw_text.specs.declared.fault.TextKind.{TextKind}
use Rattle.cw_text.specs.declared.fault.TextKind.TheVariants as text
use Rattle.cw_strand.specs.declared.naming.NameKind.{NameKind}
use Rattle.cw_strand.specs.declared.naming.NameKind.TheVariants as naming
use Rattle.cw_sheet.specs.declared.sheet.SheetKind.{SheetKind}
use Rattle.cw_sheet.specs.declared.sheet.SheetKind.TheVariants as sheet
use Rattle.cw_report.specs.Results.{line}
use Rattle.cw_top.specs.declared.outcome.Note.{Note}
use Rattle.cw_top.specs.declared.outcome.Note.TheVariants as note

abbrev pub text_fault_name : TextKind → List ℕ
text_fault_name text.NotUtf8 = codes "NotUtf8"
text_fault_name text.BadChar = codes "BadChar"
text_fault_name text.BadNumber = codes "BadNumber"
text_fault_name text.Unexpected = codes "Unexpected"
text_fault_name text.TooLong = codes "TooLong"
text_fault_name text.TooDeep = codes "TooDeep"

abbrev pub name_fault_name : NameKind → List ℕ
name_fault_name naming.Unknown = codes "Unknown"
name_fault_name naming.Twice = codes "Twice"
name_fault_name naming.WrongCount = codes "WrongCount"
name_fault_name naming.NoMain = codes "NoMain"
name_fault_name naming.ReturnInside = codes "ReturnInside"
name_fault_name naming.TooManyCells = codes "TooManyCells"
name_fault_name naming.NotACell = codes "NotACell"
name_fault_name naming.NotALocal = codes "NotALocal"
name_fault_name naming.CancelOutside = codes "CancelOutside"

abbrev pub sheet_fault_name : SheetKind → List ℕ
sheet_fault_name sheet.NotUtf8 = codes "NotUtf8"
sheet_fault_name sheet.TooLong = codes "TooLong"
sheet_fault_name sheet.Unexpected = codes "Unexpected"
sheet_fault_name sheet.BadNumber = codes "BadNumber"
sheet_fault_name sheet.BadTree = codes "BadTree"
sheet_fault_name sheet.BadSource = codes "BadSource"

abbrev pub at_line : ℕ → List ℕ → List ℕ
at_line l kind = line (codes "cwstm: line " ++ decimal l ++ codes ": " ++ kind)

-- the text of a note
abbrev pub note_text : Note → List ℕ
note_text note.Nothing = []
note_text note.Usage = line (codes "cwstm: usage")
note_text note.Memory = line (codes "cwstm: want of memory")
note_text note.Read = line (codes "cwstm: read fault")
note_text note.Write = line (codes "cwstm: write fault")
note_text (note.Text f) = at_line f.line (text_fault_name f.kind)
note_text (note.Name f) = at_line f.line (name_fault_name f.kind)
note_text (note.Sheet f) = at_line f.line (sheet_fault_name f.kind)
