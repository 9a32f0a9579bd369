use Rattle.std.proofs.Common.{◌≡◌, map, take}
use Rattle.cw_tree.specs.Nodes.{below}
use Rattle.cw_tree.specs.Series.{strand_of}
use Rattle.cw_tree.specs.Names.{name_of}
use Rattle.cw_record.specs.Listed.{strand_number, names, listed_name}
use Rattle.cw_record.proofs.listed.Listed.of_any_tree.Given as goal

-- the nodes below this one have their numbers
abbrev pub invariant-loop-first : goal.invariant-loop-first
invariant-loop-first l = l.numbers.items ≡ map (λ n. strand_number l.tree (strand_of l.tree n)) (below l.first-index)

-- the strands so far have their names
abbrev pub invariant-loop-strand : goal.invariant-loop-strand
invariant-loop-strand l = l.names.items ≡ map (λ s. listed_name (names l.tree) (name_of l.tree s)) (take l.strand-index l.strand-items)
