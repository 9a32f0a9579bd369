-- What is asked of one cancel, cell by cell.
use Rattle.std.specs.Prelude.{◌≡◌, ℕ, ℤ, List, map, slice_get, Option, Some, None, if◌then◌else◌}
use Rattle.cw_code.specs.declared.Back.{Back}
use Rattle.cw_tree.specs.declared.node.Node.{Node}
use Rattle.cw_tree.specs.declared.node.Kind.{Kind}
use Rattle.cw_tree.specs.declared.node.Kind.TheVariants.{Cancel}
use Rattle.cw_tree.specs.Accesses.{written, cell_value}
use Rattle.cw_tree.specs.Cancels.{IsCancel, before_block, wrote_in}

abbrev pub list_in : Kind → Option (List Back)
list_in (Cancel back) = Some back
list_in _ = None

abbrev pub list_at : Option Node → Option (List Back)
list_at None = None
list_at (Some x) = list_in x.kind

-- what node n tells that its block puts back, if it is a cancel
abbrev pub list_told : List Node → ℕ → Option (List Back)
list_told t n = list_at (slice_get t n)

-- The value that block b puts back into a cell if it is given up at a stamp: none if it did not write the cell. The cell had value v
-- at first, and has these accesses.
abbrev pub value_back : List Node → (b stamp : ℕ) → ℤ → List ℕ → Option ℤ
value_back t b stamp v us = if wrote_in t b stamp us then Some (cell_value v (map (written t) (before_block t b us))) else None

-- Node n, if it is a cancel, is directly in a block and tells what the block puts back.
abbrev pub CancelHolds : List Node → List ℤ → ℕ → Type 0
CancelHolds t first n = (x : Node) (back : List Back) → slice_get t n ≡ Some x → x.kind ≡ Cancel back → IsCancel t first x back
