use Rattle.cw_record.proofs.Orders.Listing.{Listing}
use Rattle.cw_record.proofs.listed.Firsts.of_tree.Given as goal

abbrev pub invariant-loop-strand : goal.invariant-loop-strand
invariant-loop-strand l = Listing l.tree l.strand-items l.strand-index l.found.items l.places.items
