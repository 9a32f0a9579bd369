-- The live accesses of all cells in one list, and what is told of them by one pass over it.
use Rattle.std.specs.Prelude.{ℕ, ◌&&◌, Bool, true, false, List, Option, Some, None, slice_get}
use Rattle.std.specs.List.{filter}
use Rattle.cw_tree.specs.declared.node.Node.{Node}
use Rattle.cw_tree.specs.declared.node.Kind.{Kind}
use Rattle.cw_tree.specs.declared.node.Kind.TheVariants.{Read, Write}
use Rattle.cw_tree.specs.Nodes.{is_node, stamp_of, all_nodes}
use Rattle.cw_tree.specs.Accesses.{is_live, by_key}
use Rattle.cw_audit.specs.declared.accesses.Dated.{Dated}

abbrev pub is_access_kind : Kind → Bool
is_access_kind (Read c v) = true
is_access_kind (Write c v) = true
is_access_kind _ = false

abbrev pub is_access : List Node → ℕ → Bool
is_access = is_node (λ x. is_access_kind x.kind)

abbrev pub is_live_access : List Node → ℕ → Bool
is_live_access t n = is_access t n && is_live t n

-- oldest first
abbrev pub all_live_accesses : List Node → List ℕ
all_live_accesses t = by_key (stamp_of t) (filter (is_live_access t) (all_nodes t))

abbrev pub cell_in : Kind → Option ℕ
cell_in (Read c v) = Some c
cell_in (Write c v) = Some c
cell_in _ = None

abbrev pub cell_at : Option Node → Option ℕ
cell_at None = None
cell_at (Some x) = cell_in x.kind

-- the cell that node n reads or writes
abbrev pub cell_accessed : List Node → ℕ → Option ℕ
cell_accessed t n = cell_at (slice_get t n)

-- an access with its stamp
abbrev pub dated : List Node → ℕ → Dated
dated t n = record { node = n; stamp = stamp_of t n }
