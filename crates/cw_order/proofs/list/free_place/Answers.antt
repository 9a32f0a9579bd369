use Rattle.std.proofs.Common.{ap, ◌∙◌, arith, get_or}
use Rattle.cw_order.proofs.Growing.{elements_grown, get_or-more, places_grown}
use Rattle.cw_order.proofs.list.free_place.Goals as goal

pub returns-clause-kept : goal.returns-clause-kept
returns-clause-kept c =
    let grown = c.grow-place.ensures in
    places_grown c.args.ring.now c.grow-place.new.self grown.next grown.previous grown.labels c.args.made c.args.count c.args.free c.grow-place.result c.requires.kept c.if-count-made.false (omega (arith, c.requires.few, c.if-count-made.false)) grown.place grown.room

pub returns-clause-elements : goal.returns-clause-elements
returns-clause-elements c =
    let grown = c.grow-place.ensures in
    elements_grown c.args.ring.now c.grow-place.new.self grown.next grown.previous grown.labels c.args.count

pub returns-clause-labels : goal.returns-clause-labels
returns-clause-labels c = λ x. ap (λ ls. get_or ls x 0) c.grow-place.ensures.labels ∙ get_or-more c.args.ring.now.labels.items x
