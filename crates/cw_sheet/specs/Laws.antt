-- Laws of sheets: a text is the text of what it is read as, and the text of a sheet is read as that sheet.
use Rattle.std.specs.Prelude.{◌≡◌, ℕ, ◌^◌, ◌<◌, ◌≤◌, All, IsTrue, List, length, ℤ, Result, Ok, ⊤}
use Rattle.cw_text.specs.PrintedText.{printed_text}
use Rattle.cw_text.specs.Syntax.{Source}
use Rattle.cw_text.specs.Text.{reading}
use Rattle.cw_text.specs.WithoutLines.{tree_without_lines}
use Rattle.cw_code.specs.declared.Back.{Back}
use Rattle.cw_code.specs.declared.Limits.{Limits}
use Rattle.cw_tree.specs.declared.conflict.Conflict.{Conflict}
use Rattle.cw_tree.specs.declared.node.Node.{Node}
use Rattle.cw_tree.specs.declared.node.Kind.{Kind}
use Rattle.cw_tree.specs.declared.node.Kind.TheVariants.{Read, Write, Out, Tried, Cancel}
use Rattle.cw_record.specs.declared.record_end.RecordEnd.{RecordEnd}
use Rattle.cw_record.specs.declared.record_end.RecordEnd.TheVariants.{Finished, Fault, Budget, Moves}
use Rattle.cw_sheet.specs.declared.sheet.SheetFault.{SheetFault}
use Rattle.cw_sheet.specs.Contents.{Contents, HasText}
use Rattle.cw_sheet.specs.Items.{is_i64}
use Rattle.cw_sheet.specs.Reading.{longest_source, sheet_reading}
use Rattle.cw_sheet.specs.SheetText.{sheet_text}

-- ## Numbers that fit

abbrev pub Fits32 : ℕ → Type 0
Fits32 n = n < 2 ^ 32

abbrev pub Fits64 : ℕ → Type 0
Fits64 n = n < 2 ^ 64

-- a number from -2^63 up to 2^63 - 1
abbrev pub IsValue : ℤ → Type 0
IsValue z = IsTrue (is_i64 z)

-- a list that is short enough to be counted
abbrev pub IsCountable : {A : Type 0} → List A → Type 0
IsCountable xs = length xs ≤ 100000000

pub record LimitsFit (l : Limits) : Type 0 where
  pub fuel : Fits64 l.fuel
  pub size : Fits32 l.size
  pub aborts : Fits32 l.aborts
  pub strands : Fits32 l.strands
  pub moves : Fits64 l.moves

pub record BackFits (b : Back) : Type 0 where
  pub cell : Fits32 b.cell
  pub value : IsValue b.value

abbrev pub KindFits : Kind → Type 0
KindFits (Read cell v) = Fits32 cell × IsValue v
KindFits (Write cell v) = Fits32 cell × IsValue v
KindFits (Out v) = IsValue v
KindFits (Tried cell) = Fits32 cell
KindFits (Cancel back) = IsCountable back × All BackFits back
KindFits kind = ⊤

pub record NodeFits (x : Node) : Type 0 where
  pub parent : Fits32 x.parent
  pub stamp : Fits64 x.stamp
  pub end : Fits64 x.end
  pub kind : KindFits x.kind

pub record ConflictFits (k : Conflict) : Type 0 where
  pub cell : Fits32 k.cell
  pub last : Fits64 k.last
  pub asker : Fits32 k.asker
  pub block : Fits64 k.block
  pub victim : Fits64 k.victim
  pub attempt : Fits32 k.attempt
  pub chain : All Fits64 k.chain

abbrev pub EndFits : RecordEnd → Type 0
EndFits (Finished memory outputs) = All IsValue memory × All IsValue outputs
EndFits (Fault strand kind) = Fits32 strand
EndFits (Budget strand) = Fits32 strand
EndFits Moves = ⊤

-- Each number is in the range in which it is read, and the source is no longer than one that is read.
pub record IsInRange (c : Contents) : Type 0 where
  pub source : length (printed_text c.source) ≤ longest_source
  pub words : All IsValue c.words
  pub limits : LimitsFit c.limits
  pub nodes : IsCountable c.tree × All NodeFits c.tree
  pub conflicts : IsCountable c.conflicts × All ConflictFits c.conflicts
  pub end : EndFits c.end

-- ## The two laws

-- The contents have a text that can be read, and it is this one.
pub record IsTextOf (text : List ℕ) (c : Contents) : Type 0 where
  pub has_text : HasText c
  pub range : IsInRange c
  pub spelled : sheet_text c ≡ text
  pub short : length text ≤ 67108864

-- The source has the lines of its own text.
abbrev pub HasOwnLines : Source → Type 0
HasOwnLines s = reading 2 longest_source (printed_text s) ≡ Ok s

-- A text is the text of what it is read as.
abbrev pub ReadIsText : Type 0
ReadIsText = (text : List ℕ) (c : Contents) → sheet_reading text ≡ Ok c → IsTextOf text c × HasOwnLines c.source

-- These contents were read, except for the lines in their source.
abbrev pub IsSheetReadAs : Result Contents SheetFault → Contents → Type 0
IsSheetReadAs read c =
    (s : Source) × (read ≡ Ok (record c { source = s }))
    × (s.language ≡ c.source.language) × (tree_without_lines s.items ≡ tree_without_lines c.source.items)

-- The text of a sheet is read as that sheet, except for the lines in its source.
abbrev pub TextIsRead : Type 0
TextIsRead = (text : List ℕ) (c : Contents) → IsTextOf text c → IsSheetReadAs (sheet_reading text) c
