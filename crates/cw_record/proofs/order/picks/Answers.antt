use Rattle.std.proofs.Common.{◌≡◌, ◌<◌, [], ◌∷◌, ◌++◌, length, map, take, get_or, ap, sym, ◌∙◌, arith}
use Rattle.std.proofs.lemmas.List.{map_more}
use Rattle.cw_tree.specs.Series.{strand_of}
use Rattle.cw_tree.proofs.Lists.{get_map_below}
use Rattle.cw_record.specs.declared.items.OrderItem.TheVariants.{Begins}
use Rattle.cw_record.specs.Listed.{strand_number}
use Rattle.cw_record.specs.Order.{pick_of}
use Rattle.cw_record.proofs.Orders.Listing.{numbers_length}
use Rattle.cw_record.proofs.order.picks.Goals as goal

pub index-requires : goal.index-requires
index-requires c =
    let numbers = c.args.listed.now.numbers.items in
    let there = c.requires.there c.loop-item.item-index (Begins 0) c.loop-item-test.true in
    omega (arith, numbers_length c.args.tree.now numbers c.requires.numbers, c.node.ensures, there)

pub loop-item-preserved : goal.loop-item-preserved
loop-item-preserved c =
    let t = c.args.tree.now in
    let items = c.args.items.now in
    let i = c.loop-item.item-index in
    let value = c.index.result.now in
    let there = c.requires.there i (Begins 0) c.loop-item-test.true in
    let here : c.node.result < length t = omega (arith, c.node.ensures, there) in
    let picked : value ≡ pick_of t (get_or items i (Begins 0)) =
    c.index.ensures
    ∙ ap (λ xs. get_or xs c.node.result value) c.requires.numbers
    ∙ get_map_below (λ n. strand_number t (strand_of t n)) (length t) c.node.result value here
    ∙ ap (λ n. strand_number t (strand_of t n)) c.node.ensures
    in
    c.in_ok-push.ensures.items
    ∙ ap (λ xs. xs ++ value ∷ []) c.loop-item.invariant
    ∙ ap (λ p. map (pick_of t) (take i items) ++ p ∷ []) picked
    ∙ sym (map_more (pick_of t) items i (Begins 0) c.loop-item-test.true)
