-- The items in the order of a record, one after another.
--
-- At the root and in each block its members are listed: the accesses, outputs and cancels directly in it by their stamps, the
-- committed blocks directly in it by the stamps of their ends. A block is listed as its begin, its members and its end. What was
-- rolled back is left out. If the run did not finish, the pending blocks above the place of its end are listed too: each is the
-- last at its level, and has no end.
use Rattle.std.specs.Prelude.{ℕ, zero, suc, ◌==◌, ◌&&◌, ◌||◌, Bool, true, false, List, [], ◌∷◌, ◌++◌, length, filter, find, Option, Some, None, is_some, if◌then◌else◌}
use Rattle.std.specs.List.{flat_map}
use Rattle.std.specs.Option.{option_map_or}
use Rattle.cw_tree.specs.declared.node.Node.{Node}
use Rattle.cw_tree.specs.declared.node.Kind.{Kind}
use Rattle.cw_tree.specs.declared.node.Kind.TheVariants.{Read, Write, Out, Cancel}
use Rattle.cw_tree.specs.declared.conflict.Conflict.{Conflict}
use Rattle.cw_tree.specs.Nodes.{parent_of, stamp_of, end_of, is_node, is_block, is_pending, is_committed, all_nodes}
use Rattle.cw_tree.specs.Walks.{path, xparent}
use Rattle.cw_tree.specs.Series.{place}
use Rattle.cw_tree.specs.Accesses.{by_key}
use Rattle.cw_tree.specs.Refusals.{victim_of, telling, refused_node}
use Rattle.cw_record.specs.declared.record_end.RecordEnd.{RecordEnd}
use Rattle.cw_record.specs.declared.record_end.RecordEnd.TheVariants.{Finished, Fault, Budget, Moves}
use Rattle.cw_record.specs.declared.items.OrderItem.{OrderItem}
use Rattle.cw_record.specs.declared.items.OrderItem.TheVariants.{Begins, Does, Ends}

abbrev pub is_act_kind : Kind → Bool
is_act_kind (Read c v) = true
is_act_kind (Write c v) = true
is_act_kind (Out v) = true
is_act_kind (Cancel back) = true
is_act_kind _ = false

-- node n is an access that was made, an output or a cancel
abbrev pub is_act : List Node → ℕ → Bool
is_act = is_node (λ x. is_act_kind x.kind)

abbrev pub same_block : Option ℕ → Option ℕ → Bool
same_block None None = true
same_block (Some a) (Some b) = a == b
same_block _ _ = false

-- node n is directly in block b, or at the root if b is None
abbrev pub is_right_in : List Node → Option ℕ → ℕ → Bool
is_right_in t b n = same_block (xparent t n) b

-- what orders a member: for a block the stamp of its end, for an access, output or cancel its own stamp
abbrev pub key : List Node → ℕ → ℕ
key t n = if is_block t n then end_of t n else stamp_of t n

-- the accesses, outputs, cancels and committed blocks directly in a block, or at the root
abbrev pub members : List Node → Option ℕ → List ℕ
members t b = filter (λ n. (is_act t n || is_committed t n) && is_right_in t b n) (all_nodes t)

-- the pending block directly in a block, or at the root, on the way to place p
abbrev pub open_member : List Node → ℕ → Option ℕ → Option ℕ
open_member t p b = find (λ n. is_pending t n && is_right_in t b n) (path t p)

-- a member, if these are the items in it
abbrev pub as_items : Bool → ℕ → List OrderItem → List OrderItem
as_items true n inner = Begins n ∷ inner ++ Ends n ∷ []
as_items false n inner = Does n ∷ []

-- a pending block that comes last, if there is one
abbrev pub last_open : Option ℕ → List OrderItem → List OrderItem
last_open None inner = []
last_open (Some n) inner = Begins n ∷ inner

-- the items in a block, or at the root, down to k levels
abbrev pub items_in : List Node → ℕ → ℕ → Option ℕ → List OrderItem
items_in t p zero b = []
items_in t p (suc k) b =
    flat_map (λ n. as_items (is_block t n) n (items_in t p k (Some n))) (by_key (key t) (members t b))
    ++ last_open (open_member t p b) (items_in t p k (open_member t p b))

-- the place of what a conflict refused: the access itself, or the parent of the block
abbrev pub place_of_refused : List Node → Conflict → ℕ
place_of_refused t c = if is_some (victim_of c) then parent_of t (refused_node t c) else c.asker

-- The place where a run ended. The order contains the pending blocks above this place, and the place itself if it is a pending
-- block.
abbrev pub place_of_end : List Node → List Conflict → ℕ → RecordEnd → ℕ
place_of_end t cs budget (Finished memory outputs) = 0
place_of_end t cs budget (Fault s kind) = place t s
place_of_end t cs budget (Budget s) = option_map_or (place_of_refused t) (telling t cs budget s) 0
place_of_end t cs budget Moves = 0

-- the items of a run
abbrev pub items : List Node → List Conflict → ℕ → RecordEnd → List OrderItem
items t cs budget e = items_in t (place_of_end t cs budget e) (length t) None
