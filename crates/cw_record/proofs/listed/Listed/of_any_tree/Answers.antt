use Rattle.std.proofs.Common.{arith, ◌∙◌, ◌<◌, length, get_or}
use Rattle.cw_tree.specs.Series.{strand_of}
use Rattle.cw_record.specs.Listed.{strand_number}
use Rattle.cw_record.proofs.Walked.Found.{first_le}
use Rattle.cw_record.proofs.Orders.Listing.{same_at, same_length, number_read, met_there, names_read, numbers_read, below_push}
use Rattle.cw_record.proofs.listed.Listed.of_any_tree.Goals as goal

pub number-requires : goal.number-requires
number-requires c =
    let t = c.args.tree.now in
    let same = c.deref-first-items.result.now in
    let e = c.deref-first-items.ensures.value ∙ c.in_ok-same.ensures in
    let there : c.loop-first.first-index < length t = omega (arith, same_length t same e) in
    let len = c.in_ok-firsts.ensures.len in
    omega (arith, same_at t same e c.loop-first.first-index there, first_le t c.loop-first.first-index there)

pub loop-first-preserved : goal.loop-first-preserved
loop-first-preserved c =
    let t = c.args.tree.now in
    let i = c.loop-first.first-index in
    let same = c.deref-first-items.result.now in
    let e = c.deref-first-items.ensures.value ∙ c.in_ok-same.ensures in
    let there : i < length t = omega (arith, same_length t same e) in
    c.in_ok-push.ensures.items
    ∙ below_push (λ n. strand_number t (strand_of t n)) i c.loop-first.numbers.items c.number.result c.loop-first.invariant
    (c.number.ensures
    ∙ number_read t c.nodes.ensures.numbered.rooted c.in_ok-firsts.firsts.strands.items c.in_ok-firsts.firsts.places.items c.in_ok-firsts.ensures i (get_or same i 0) there (same_at t same e i there))

pub listed_name-requires-clause-there : goal.listed_name-requires-clause-there
listed_name-requires-clause-there c =
    met_there c.args.tree.now c.in_ok-firsts.firsts.strands.items c.in_ok-firsts.firsts.places.items c.in_ok-firsts.ensures c.deref-strand-items.result.now c.deref-strand-items.ensures.value
    c.loop-strand.strand-index c.loop-strand-test.true

pub listed_name-requires-clause-numbers : goal.listed_name-requires-clause-numbers
listed_name-requires-clause-numbers c =
    c.deref-in-loop-strand.ensures.value
    ∙ numbers_read c.args.tree.now c.deref-first-items.result.now (c.deref-first-items.ensures.value ∙ c.in_ok-same.ensures) c.loop-first.first-index c.loop-first.numbers.items (omega arith) (omega arith) c.loop-first.invariant

pub returns-clause-names : goal.returns-clause-names
returns-clause-names c =
    names_read c.args.tree.now c.in_ok-firsts.firsts.strands.items c.in_ok-firsts.firsts.places.items c.in_ok-firsts.ensures c.deref-strand-items.result.now c.deref-strand-items.ensures.value
    c.loop-strand.strand-index c.loop-strand.names.items (omega arith) c.loop-strand.invariant

pub returns-clause-numbers : goal.returns-clause-numbers
returns-clause-numbers c =
    numbers_read c.args.tree.now c.deref-first-items.result.now (c.deref-first-items.ensures.value ∙ c.in_ok-same.ensures) c.loop-first.first-index c.loop-first.numbers.items (omega arith) (omega arith) c.loop-first.invariant
