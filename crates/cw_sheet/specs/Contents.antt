-- What a sheet says, and which sheets have a text.
use Rattle.std.specs.Prelude.{◌≡◌, ℕ, ℤ, ◌||◌, false, List, length, All, None, IsTrue}
use Rattle.cw_text.specs.declared.ast.Ast.{Ast}
use Rattle.cw_text.specs.PrintedText.{printed_text}
use Rattle.cw_text.specs.Syntax.{Source, source_of}
use Rattle.cw_text.specs.Text.{reading}
use Rattle.cw_text.specs.WithoutLines.{IsSourceReadAs}
use Rattle.cw_code.specs.declared.Limits.{Limits}
use Rattle.cw_strand.specs.Names.{naming_fault}
use Rattle.cw_tree.specs.declared.conflict.Conflict.{Conflict}
use Rattle.cw_tree.specs.declared.node.Node.{Node}
use Rattle.cw_tree.specs.declared.node.BlockState.TheVariants.{Committed}
use Rattle.cw_tree.specs.Nodes.{is_block_kind, is_strand_kind, is_tried_kind, parent_of}
use Rattle.cw_tree.specs.Shape.{IsTree}
use Rattle.cw_record.specs.declared.record_end.RecordEnd.{RecordEnd}
use Rattle.cw_sheet.specs.declared.sheet.Sheet.{Sheet}

-- what a sheet says: the source without its place in memory, the words and limits, and what the run left
pub record Contents : Type 0 where
  pub source : Source
  pub words : List ℤ
  pub limits : Limits
  pub tree : List Node
  pub conflicts : List Conflict
  pub end : RecordEnd

abbrev pub contents_of : Sheet → Contents
contents_of s = record { source = source_of s.ast; words = s.words; limits = s.limits; tree = s.tree; conflicts = s.conflicts; end = s.end }

-- ## Which sheets have a text

-- The printed text of a source, whatever its length, reads as that source except for its lines, and its names are in order.
pub record HasSourceText (s : Source) : Type 0 where
  pub read : IsSourceReadAs (reading 2 (length (printed_text s)) (printed_text s)) s
  pub named : naming_fault s.items ≡ None

-- A node has nothing that its line has no place for: a strand and a refused access have no stamp, and what is no block is
-- committed and has no end.
pub record HasLine (x : Node) : Type 0 where
  pub stamp : IsTrue (is_strand_kind x.kind || is_tried_kind x.kind) → x.stamp ≡ 0
  pub state : is_block_kind x.kind ≡ false → x.state ≡ Committed
  pub end : is_block_kind x.kind ≡ false → x.end ≡ 0

pub record HasText (c : Contents) : Type 0 where
  pub source : HasSourceText c.source
  pub tree : IsTree c.tree
  pub root : parent_of c.tree 0 ≡ 0
  pub lines : All HasLine c.tree
