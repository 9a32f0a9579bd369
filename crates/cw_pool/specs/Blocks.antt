-- Which block a node is.
use Rattle.std.specs.Prelude.{ℕ, List, Option, Some, None, slice_get}
use Rattle.cw_tree.specs.declared.node.Node.{Node}
use Rattle.cw_tree.specs.declared.node.Kind.{Kind}
use Rattle.cw_tree.specs.declared.node.Kind.TheVariants.{Block}

-- the begin stamp of the node with this number, if it is a block
abbrev pub begin_at : List Node → (place : ℕ) → Option ℕ
begin_at ns place = begin_of (slice_get ns place) where
  stamp_of : Kind → ℕ → Option ℕ
  stamp_of Block stamp = Some stamp
  stamp_of kind stamp = None

  begin_of : Option Node → Option ℕ
  begin_of None = None
  begin_of (Some x) = stamp_of x.kind x.stamp
