-- What one worker draws of its run, and how each step changes the drawing.
use Rattle.std.specs.Prelude.{ℕ, ℤ, ◌+◌, Bool, true, false, List, [], ◌∷◌, ◌++◌, length, replicate, slice_get, slice_set, Option, Some, None}
use Rattle.cw_tree.specs.declared.node.Node.{Node}
use Rattle.cw_tree.specs.declared.node.Kind.{Kind}
use Rattle.cw_tree.specs.declared.node.Kind.TheVariants.{Strand, Fork, Block, Read, Write, Out, Cancel}
use Rattle.cw_tree.specs.declared.node.BlockState.TheVariants.{Committed}
use Rattle.cw_tree.specs.declared.access.Entry.{Entry}
use Rattle.cw_tree.specs.Nodes.{parent_of, closed, fresh_node}
use Rattle.cw_strand.specs.declared.want.Want.{Want}
use Rattle.cw_strand.specs.declared.want.Want.TheVariants as want
use Rattle.cw_job.specs.Memory.{value_at}
use Rattle.cw_serial.specs.Wants.{Since, given_up}
use Rattle.cw_record.specs.declared.drawing.Drawing.{Drawing}

-- a run as it is drawn: its tree, the place of the next node, the last stamp, and the journal of each element
pub record Drawn : Type 0 where
  pub tree : List Node
  pub place : ℕ
  pub clock : ℕ
  pub journals : List (List Entry)

-- what a drawing shows
abbrev pub drawn : Drawing → Drawn
drawn d = record { tree = d.tree; place = d.place; clock = d.clock; journals = d.journals.items }

-- the root strand alone, with an empty journal for each of `elements` elements
abbrev pub blank : (elements : ℕ) → Drawn
blank elements = record { tree = fresh_node 0 Strand 0 ∷ []; place = 0; clock = 0; journals = replicate elements [] }

-- ## Nodes and entries

-- the tree with one more node, at place p
abbrev pub added : List Node → ℕ → Kind → ℕ → List Node
added t p kind stamp = t ++ fresh_node p kind stamp ∷ []

-- the tree with one more fork, and its left strand
abbrev pub added_fork : List Node → ℕ → ℕ → List Node
added_fork t p stamp = added (added t p Fork stamp) (length t) Strand 0

abbrev pub with_entry : List (List Entry) → ℕ → Entry → Option (List Entry) → List (List Entry)
with_entry kept c e None = kept
with_entry kept c e (Some es) = slice_set kept c (es ++ e ∷ [])

-- the journals with one more entry for cell c, if c has a journal
abbrev pub noted : List (List Entry) → ℕ → Entry → List (List Entry)
noted kept c e = with_entry kept c e (slice_get kept c)

-- the entry of an access; only its stamp identifies it, since one worker has one column
abbrev pub entry : (stamp : ℕ) (wrote : Bool) (value old : ℤ) → Entry
entry stamp wrote value old = record { mark = record { strand = 0; stamp = stamp }; wrote = wrote; value = value; old = old }

-- ## What a strand does

-- the drawing with one more node at the place, with the next stamp
abbrev pub after_node : Kind → Drawn → Drawn
after_node kind d = record d { tree = added d.tree d.place kind (d.clock + 1); clock = d.clock + 1 }

-- the drawing with one more entry for a cell, with the last stamp
abbrev pub after_entry : (cell : ℕ) (wrote : Bool) (value old : ℤ) → Drawn → Drawn
after_entry cell wrote value old d = record d { journals = noted d.journals cell (entry d.clock wrote value old) }

abbrev pub after_read : (cell : ℕ) (value : ℤ) → Drawn → Drawn
after_read cell value d = after_entry cell false value value (after_node (Read cell value) d)

abbrev pub after_write : (cell : ℕ) (value old : ℤ) → Drawn → Drawn
after_write cell value old d = after_entry cell true value old (after_node (Write cell value) d)

-- The next node goes into the block.
abbrev pub after_begin : Drawn → Drawn
after_begin d = record (after_node Block d) { place = length d.tree }

-- The block at the place is committed, and the next node goes after it.
abbrev pub after_end : Drawn → Drawn
after_end d = record d { tree = closed d.tree d.place Committed (d.clock + 1); place = parent_of d.tree d.place; clock = d.clock + 1 }

-- the drawing after a want is done, if memory was this, and if this is what the begun blocks may put back
abbrev pub drawn_after : Want → (memory : List ℤ) → List Since → Drawn → Drawn
drawn_after (want.Load c) memory since d = after_read c (value_at memory c) d
drawn_after (want.Store c v) memory since d = after_write c v (value_at memory c) d
drawn_after (want.Out v) memory since d = after_node (Out v) d
drawn_after want.Cancel memory since d = after_node (Cancel (given_up since)) d
drawn_after want.Begin memory since d = after_begin d
drawn_after want.End memory since d = after_end d
drawn_after w memory since d = d

-- ## From strand to strand

-- a fork with its left strand, which the next node goes into
abbrev pub after_fork : Drawn → Drawn
after_fork d = record d { tree = added_fork d.tree d.place (d.clock + 1); place = length d.tree + 1; clock = d.clock + 1 }

-- a strand of a fork, which the next node goes into
abbrev pub after_start : (fork : ℕ) → Drawn → Drawn
after_start fork d = record d { tree = added d.tree fork Strand 0; place = length d.tree }

-- The next node goes after the fork.
abbrev pub after_join : (fork : ℕ) → Drawn → Drawn
after_join fork d = record d { place = parent_of d.tree fork }
