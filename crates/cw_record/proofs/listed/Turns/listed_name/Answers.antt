use Rattle.std.proofs.Common.{arith}
use Rattle.cw_record.proofs.Orders.Listing.{numbers_length, listed_root, listed_strand}
use Rattle.cw_record.proofs.listed.Turns.listed_name.Goals as goal

pub returns-then-strand-eq0 : goal.returns-then-strand-eq0
returns-then-strand-eq0 c = listed_root c.args.tree.now c.args.numbers.now c.requires.numbers c.args.strand c.if-strand-eq0.true c.requires.there

pub bounds-numbers-parent : goal.bounds-numbers-parent
bounds-numbers-parent c = omega (arith, c.parent.ensures.low, numbers_length c.args.tree.now c.args.numbers.now c.requires.numbers)

pub returns : goal.returns
returns c =
    listed_strand c.args.tree.now c.args.numbers.now c.requires.numbers c.parent.ensures.numbered.rooted c.args.strand c.parent.result c.at-turn.result (omega arith) c.requires.there c.requires.strand c.parent.ensures.parent c.at-turn.ensures
