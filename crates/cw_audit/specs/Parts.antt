-- What an audit asks of a sheet, dealt out in eight parts. Parts 1 to 7 are what makes a run coherent, with its words and limits.
-- Part 8 is that one memory does the same.
--
-- That the tree has its shape (`IsTree`) is no part: it holds of every sheet that has a text.
use Rattle.std.specs.Prelude.{ℕ, ℤ, ◌≤◌, IsTrue, List, length}
use Rattle.cw_code.specs.declared.Limits.{Limits}
use Rattle.cw_code.specs.Ranges.{NumberOption, fuel_option, size_option, aborts_option, strands_option, moves_option}
use Rattle.cw_strand.specs.Names.{cells_of, first_memory}
use Rattle.cw_strand.specs.Strands.{Strands}
use Rattle.cw_strand.specs.Coded.{MainTakes}
use Rattle.cw_strand.specs.Compilation.{code_of, main_function}
use Rattle.cw_strand.specs.Laws.{compiled}
use Rattle.cw_tree.specs.declared.node.Node.{Node}
use Rattle.cw_tree.specs.declared.conflict.Conflict.{Conflict}
use Rattle.cw_tree.specs.Nodes.{is_strand}
use Rattle.cw_tree.specs.Shape.{PendingLast}
use Rattle.cw_tree.specs.Journals.{FitsCells}
use Rattle.cw_tree.specs.Refusals.{AreRefusals, RollsBack, MayFault, MaySpend}
use Rattle.cw_job.specs.Room.Strands.{StrandState}
use Rattle.cw_record.specs.declared.record_end.RecordEnd.{RecordEnd}
use Rattle.cw_record.specs.declared.record_end.RecordEnd.TheVariants.{Finished, Moves}
use Rattle.cw_record.specs.Order.{ending_strand}
use Rattle.cw_record.specs.Coherent.{Follows, EndStands, HasMemory, halt_of}
use Rattle.cw_sheet.specs.Contents.{Contents}
use Rattle.cw_audit.specs.Journals.{ReadsAreRight}

-- ## What a sheet is a run of

-- the first values of the elements of its program's cells
abbrev pub first_values : Contents → List ℤ
first_values c = first_memory (cells_of c.source.items)

-- the strands of its program's code
abbrev pub strands_of_sheet : Contents → Strands StrandState
strands_of_sheet c = compiled c.source.items c.words c.limits

-- it has as many words as main has parameters
abbrev pub TakesItsWords : Contents → Type 0
TakesItsWords c = MainTakes (code_of c.source.items) (main_function c.source.items) (length c.words)

-- the option may have this value
abbrev pub IsWithin : NumberOption → ℕ → Type 0
IsWithin option n = (option.least ≤ n) × (n ≤ option.most)

-- each limit is a value that its option may have
pub record AreInRange (limits : Limits) : Type 0 where
  pub fuel : IsWithin fuel_option limits.fuel
  pub size : IsWithin size_option limits.size
  pub aborts : IsWithin aborts_option limits.aborts
  pub strands : IsWithin strands_option limits.strands
  pub moves : IsWithin moves_option limits.moves

-- ## What strands did

-- These strands can have done what the tree tells, rolled-back attempts included, and are then where the end says.
abbrev pub CanHaveDone : {A : Type 0} → Strands A → List Node → RecordEnd → Type 0
CanHaveDone {A} s t e = (before after reached : ℕ → A) × Follows s t before after reached × EndStands s t before after reached e

-- the end, if what a run that finished says of itself is left out
abbrev pub unfinished : RecordEnd → RecordEnd
unfinished (Finished memory outputs) = Moves
unfinished e = e

-- ## The parts that have several facts

-- Part 2, of cells with these first values: each access is of a cell that is there, and live reads are right.
pub record AccessesHold (t : List Node) (first : List ℤ) : Type 0 where
  pub cells : FitsCells t (length first)
  pub reads : ReadsAreRight t first

-- Part 4: refused accesses, conflicts and rolled-back blocks fit together. If a budget was spent and its strand is one of the tree,
-- a conflict tells that this strand spent it. If it is none, that breaks part 5.
pub record RefusalsHold (t : List Node) (cs : List Conflict) (budget : ℕ) (e : RecordEnd) : Type 0 where
  pub refused : AreRefusals t cs
  pub spent : IsTrue (is_strand t (ending_strand e)) → MaySpend t cs budget (halt_of e)

-- Part 5: words and limits are as they may be, and the strands of the program can have done what the tree tells.
pub record StrandsHold (c : Contents) : Type 0 where
  pub words : TakesItsWords c
  pub limits : AreInRange c.limits
  -- the strand that the end names is one of the tree
  pub named : IsTrue (is_strand c.tree (ending_strand c.end))
  -- A block that is pending inside a closed one, or with something after it, breaks this part: the strand's next end is its own.
  pub pending_last : PendingLast c.tree
  pub rolls_back : RollsBack c.tree c.conflicts
  -- the strand of a fault is at that fault
  pub done : CanHaveDone (strands_of_sheet c) c.tree (unfinished c.end)

-- Part 6: the strand of a fault was not rolled back. A run that finished has no pending block, its live strands have ended, and it
-- leaves its memory.
pub record EndHolds {A : Type 0} (s : Strands A) (t : List Node) (first : List ℤ) (e : RecordEnd) : Type 0 where
  pub faulted : MayFault t (halt_of e)
  pub memory : HasMemory t first e
  -- part 5 says this already, unless the run finished
  pub done : CanHaveDone s t e
