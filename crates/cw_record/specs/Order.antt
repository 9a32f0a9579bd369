-- The order of a record: what one memory has to do, one thing after another, to end as the run did.
use Rattle.std.specs.Prelude.{ℕ, List, map}
use Rattle.cw_tree.specs.declared.node.Node.{Node}
use Rattle.cw_tree.specs.declared.conflict.Conflict.{Conflict}
use Rattle.cw_tree.specs.declared.picks.Picks.{Picks}
use Rattle.cw_tree.specs.Series.{strand_of}
use Rattle.cw_record.specs.declared.record_end.RecordEnd.{RecordEnd}
use Rattle.cw_record.specs.declared.record_end.RecordEnd.TheVariants.{Fault, Budget}
use Rattle.cw_record.specs.declared.items.OrderItem.{OrderItem}
use Rattle.cw_record.specs.declared.items.OrderItem.TheVariants.{Begins, Does, Ends}
use Rattle.cw_record.specs.Items.{items}
use Rattle.cw_record.specs.Listed.{listed_names, strand_number}

abbrev pub node_of : OrderItem → ℕ
node_of (Begins n) = n
node_of (Does n) = n
node_of (Ends n) = n

-- the strand that an end names, or the root
abbrev pub ending_strand : RecordEnd → ℕ
ending_strand (Fault s kind) = s
ending_strand (Budget s) = s
ending_strand _ = 0

-- the pick of an item: the number of the strand that did it
abbrev pub pick_of : List Node → OrderItem → ℕ
pick_of t i = strand_number t (strand_of t (node_of i))

-- the order of a run with these items
abbrev pub order_through : List Node → List OrderItem → RecordEnd → Picks
order_through t is e = record { names = listed_names t; list = map (pick_of t) is; last = strand_number t (ending_strand e) }

abbrev pub order_of : List Node → List Conflict → ℕ → RecordEnd → Picks
order_of t cs budget e = order_through t (items t cs budget e) e
