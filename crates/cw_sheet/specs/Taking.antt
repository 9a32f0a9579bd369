-- What the calls that read promise, in the words of `Items` and `Reading`.
use Rattle.std.specs.Prelude.{◌≡◌, ℕ, List, None, Result, Ok, Err}
use Rattle.cw_text.specs.Syntax.{Source}
use Rattle.cw_record.specs.declared.record_end.RecordEnd.{RecordEnd}
use Rattle.cw_tree.specs.declared.conflict.Conflict.{Conflict}
use Rattle.cw_tree.specs.declared.node.Node.{Node}
use Rattle.cw_sheet.specs.declared.cursor.Cursor.{Cursor}
use Rattle.cw_sheet.specs.declared.ends_in.Numbers.{Numbers}
use Rattle.cw_sheet.specs.declared.reading.Rest.{Rest}
use Rattle.cw_sheet.specs.declared.sheet.Sheet.{Sheet}
use Rattle.cw_sheet.specs.declared.sheet.SheetKind.{SheetKind}
use Rattle.cw_sheet.specs.declared.sheet.SheetFault.{SheetFault}
use Rattle.cw_sheet.specs.declared.sheet.SheetRefusal.{SheetRefusal}
use Rattle.cw_sheet.specs.declared.sheet.SheetRefusal.TheVariants as refusal
use Rattle.cw_sheet.specs.Contents.{Contents, contents_of}
use Rattle.cw_sheet.specs.Items.{Place, Taken, took, refused, ◌into◌, refuse, word, line_done, next_item, number32, number64, count, all_behind}
use Rattle.cw_sheet.specs.Reading.{fault_kinds, fault_named, misplaced, named_fault, with_tree}

abbrev pub place_of : Cursor → Place
place_of c = record { line = c.line; text = c.rest.now }

-- ## Of what takes no memory

-- what was taken with the place behind it, or the first fault, as a result says it
abbrev pub outcome : {A : Type 0} → Result A SheetFault → Place → Taken A
outcome (Ok x) p = took x p
outcome (Err f) p = refused f

-- the same of an item, which was taken already
abbrev pub judgement : {A : Type 0} → Result A SheetKind → Place → Taken A
judgement (Ok x) p = took x p
judgement (Err kind) p = refuse kind p

-- The reading goes on as `rest` says of the result, or ends with its fault.
abbrev pub LeadsTo : {T A : Type 0} → Result T SheetFault → Taken A → (T → Taken A) → Type 0
LeadsTo (Ok x) reading rest = reading ≡ rest x
LeadsTo (Err f) reading rest = reading ≡ refused f

-- ## Of what takes memory

-- The reading ends with this refusal. If memory ran out, nothing is said.
abbrev pub EndsWith : {A : Type 0} → SheetRefusal → Taken A → Type 0
EndsWith (refusal.Sheet f) reading = reading ≡ refused f
EndsWith refusal.OutOfMemory reading = Unit {0}

-- What the result holds was taken, and p is behind it. Otherwise the reading ends with its refusal.
abbrev pub Takes : {T A : Type 0} → Result T SheetRefusal → (T → A) → Taken A → Place → Type 0
Takes (Ok x) f reading p = reading ≡ took (f x) p
Takes (Err e) f reading p = EndsWith e reading

-- ## Of the whole

abbrev pub FailsWith : SheetRefusal → Result Contents SheetFault → Type 0
FailsWith (refusal.Sheet f) reading = reading ≡ Err f
FailsWith refusal.OutOfMemory reading = Unit {0}

-- The result is the tree of these nodes. Otherwise any sheet with these nodes is refused for it.
abbrev pub IsTreeOf : Result (List Node) SheetRefusal → (nodes_line : ℕ) → List Node → Type 0
IsTreeOf (Ok t) l nodes = (misplaced nodes ≡ None) × (t ≡ nodes)
IsTreeOf (Err e) l nodes = (c : Contents) → FailsWith e (with_tree l (misplaced nodes) c)

-- The result is what this reading gives behind the source s, unless memory ran out.
abbrev pub IsRest : Result Rest SheetRefusal → Source → Result Contents SheetFault → Type 0
IsRest (Ok r) s reading = reading ≡ Ok (record { source = s; words = r.words; limits = r.limits; tree = r.tree; conflicts = r.conflicts; end = r.end })
IsRest (Err e) s reading = FailsWith e reading

-- A result is this reading, unless memory ran out.
abbrev pub ReadsSheet : Result Sheet SheetRefusal → Result Contents SheetFault → Type 0
ReadsSheet (Ok s) reading = reading ≡ Ok (contents_of s)
ReadsSheet (Err e) reading = FailsWith e reading

-- ## Parts of lines

-- `WORD COUNT`: how many of a kind follow
abbrev pub count_line : List ℕ → Place → Taken ℕ
count_line w p = word w p into λ _ q. count q into λ n r. line_done n r

-- the chain of a conflict, behind its other numbers
abbrev pub conflict_of : Numbers → Place → Taken Conflict
conflict_of n p =
    all_behind number64 p into λ chain q.
    line_done (record { cell = n.cell; last = n.last; asker = n.asker; block = n.block; victim = n.victim; attempt = n.attempt; chain = chain }) q

-- the strand and the kind of a fault
abbrev pub fault_end : Place → Taken RecordEnd
fault_end p = number32 p into λ s q. next_item q into λ i r. named_fault (fault_named i fault_kinds) s r
