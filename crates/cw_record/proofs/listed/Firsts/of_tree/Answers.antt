use Rattle.std.proofs.Common.{arith, ap, ◌∙◌, ◌<◌, refl, length, get_or, rules}
use Rattle.cw_record.proofs.Orders.Listing.{listing_start, listing_known, listing_new, order_strand, first_met, same_at, same_length}
use Rattle.cw_record.proofs.listed.Firsts.of_tree.Goals as goal
use Rattle.cw_tree.proofs.Walks.There.{strand_there}
use Rattle.cw_record.proofs.listed.Firsts.of_tree.Goals.{then-is_none+in_ok-push, else-is_none}

pub loop-strand-init : goal.loop-strand-init
loop-strand-init c =
    listing_start c.args.tree.now c.deref-strand-items.result.now (length c.nodes.result.now) c.new-found.result.items c.in_ok-places.places.items c.new-found.ensures.items (ap length c.nodes.ensures.nodes) (c.in_ok-places.ensures.items_if_clones_equal (λ y e. search rules))

pub bounds-same-strand : goal.bounds-same-strand
bounds-same-strand c =
    let is = order_strand c.args.tree.now c.deref-strand-items.result.now (c.deref-strand-items.ensures.value ∙ c.in_ok-order.ensures) c.loop-strand.strand-index c.loop-strand-test.true in
    omega (arith, strand_there c.args.tree.now _ is, same_length c.args.tree.now c.args.same.now c.requires)

pub index-requires : goal.index-requires
index-requires c =
    let len = c.loop-strand.invariant.len in
    omega (arith, first_met c.args.tree.now c.args.same.now c.deref-strand-items.result.now c.requires (c.deref-strand-items.ensures.value ∙ c.in_ok-order.ensures) c.loop-strand.strand-index c.loop-strand-test.true)

pub index_mut-requires : goal.index_mut-requires
index_mut-requires c =
    let len = c.loop-strand.invariant.len in
    omega (arith, first_met c.args.tree.now c.args.same.now c.deref-strand-items.result.now c.requires (c.deref-strand-items.ensures.value ∙ c.in_ok-order.ensures) c.loop-strand.strand-index c.loop-strand-test.true)

pub loop-strand-preserved : goal.loop-strand-preserved
loop-strand-preserved c =
    let t = c.args.tree.now in
    let order = c.deref-strand-items.result.now in
    let i = c.loop-strand.strand-index in
    let s = get_or order i 0 in
    let is = order_strand t order (c.deref-strand-items.ensures.value ∙ c.in_ok-order.ensures) i c.loop-strand-test.true in
    let there : s < length t = strand_there t s is in
    let first = same_at t c.args.same.now c.requires s there in
    elim c.if-is_none.branch [
      | then-is_none+in_ok-push w ↦
          listing_new t order i c.loop-strand.found.items c.loop-strand.places.items c.loop-strand.invariant s c.loop-strand-test.true refl there
          (get_or c.args.same.now s 0) first c.index.result.now c.index.ensures w.if-is_none.ensures
          c.if-is_none.found.items c.if-is_none.places.items w.len.result (ap (λ v. v.items) w.found-is ∙ w.in_ok-push.ensures.items) (omega (arith, w.len.ensures, c.loop-strand.found.ok.0)) (ap (λ v. v.items) w.places-is) is
      | else-is_none w ↦
          listing_known t order i c.loop-strand.found.items c.loop-strand.places.items c.loop-strand.invariant s c.loop-strand-test.true refl there
          (get_or c.args.same.now s 0) first c.index.result.now c.index.ensures
          c.if-is_none.found.items c.if-is_none.places.items w.if-is_none.ensures (ap (λ v. v.items) w.found-is) (ap (λ v. v.items) w.places-is)
    ]
