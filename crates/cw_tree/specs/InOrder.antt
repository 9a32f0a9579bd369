-- The tree of a run in depth-first order: its nodes are numbered in the order of a depth-first walk, and all that names nodes is renamed.
use Rattle.std.specs.Prelude.{ℕ, ◌==◌, List, map, slice_index_or, Option, Some}
use Rattle.std.specs.List.{position_or_len}
use Rattle.cw_tree.specs.declared.node.Node.{Node}
use Rattle.cw_tree.specs.declared.node.Kind.TheVariants.{Strand}
use Rattle.cw_tree.specs.declared.conflict.Conflict.{Conflict}
use Rattle.cw_tree.specs.declared.closed.Halt.{Halt}
use Rattle.cw_tree.specs.declared.closed.Halt.TheVariants.{Fault, Budget}
use Rattle.cw_tree.specs.Nodes.{fresh_node}
use Rattle.cw_tree.specs.Series.{depth_first}
use Rattle.cw_tree.specs.Accesses.{by_key}

-- the new number of node n: its position in depth-first order
abbrev pub renamed : List Node → ℕ → ℕ
renamed t n = position_or_len (λ m. m == n) (depth_first t)

-- a node with its parent renamed
abbrev pub with_parent_renamed : List Node → Node → Node
with_parent_renamed t node = record node { parent = renamed t node.parent }

-- node n as it is in the new tree
abbrev pub node_in_order : List Node → ℕ → Node
node_in_order t n = with_parent_renamed t (slice_index_or t n (fresh_node 0 Strand 0))

-- the nodes in depth-first order
abbrev pub in_order : List Node → List Node
in_order t = map (node_in_order t) (depth_first t)

-- a conflict with its asker renamed
abbrev pub conflict_in_order : List Node → Conflict → Conflict
conflict_in_order t c = record c { asker = renamed t c.asker }

abbrev pub asker_of : Conflict → ℕ
asker_of c = c.asker

-- conflicts by rising askers; those with an equal asker stay in their order
abbrev pub by_asker : List Conflict → List Conflict
by_asker = by_key asker_of

-- the conflicts as the new tree lists their askers
abbrev pub conflicts_in_order : List Node → List Conflict → List Conflict
conflicts_in_order t cs = by_asker (map (conflict_in_order t) cs)

-- why the run stopped, with the strand renamed
abbrev pub halt_in_order : List Node → Option Halt → Option Halt
halt_in_order t (Some (Fault s kind)) = Some (Fault (renamed t s) kind)
halt_in_order t (Some (Budget s)) = Some (Budget (renamed t s))
halt_in_order t halt = halt
