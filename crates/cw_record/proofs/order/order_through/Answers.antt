use Rattle.std.proofs.Common.{◌≡◌, ℕ, ◌<◌, List, length, get_or, map, ap, sym, ◌∙◌, arith}
use Rattle.cw_tree.specs.declared.picks.Name.{Name}
use Rattle.cw_tree.specs.declared.picks.Picks.{Picks}
use Rattle.cw_tree.specs.Nodes.{is_strand_kind}
use Rattle.cw_tree.specs.Series.{strand_of}
use Rattle.cw_tree.proofs.Lists.{get_map_below}
use Rattle.cw_record.specs.Listed.{listed_names, strand_number}
use Rattle.cw_record.specs.Order.{ending_strand, pick_of}
use Rattle.cw_tree.proofs.Walks.There.{node_there}
use Rattle.cw_record.proofs.Orders.Listing.{numbers_length, number_is}
use Rattle.cw_record.proofs.order.order_through.Goals as goal

pub index-last-requires : goal.index-last-requires
index-last-requires c =
    let t = c.args.tree.now in
    let there : ending_strand c.args.end.now < length t = node_there (λ x. is_strand_kind x.kind) t (ending_strand c.args.end.now) c.requires.strand in
    omega (arith, numbers_length t c.in_ok-listed.listed.numbers.items c.in_ok-listed.ensures.numbers, c.ending_strand.ensures)

pub returns : goal.returns
returns c =
    let t = c.args.tree.now in
    let s = c.ending_strand.result in
    let value = c.index-last.result.now in
    let last_there : ending_strand c.args.end.now < length t = node_there (λ x. is_strand_kind x.kind) t (ending_strand c.args.end.now) c.requires.strand in
    let there : s < length t = omega (arith, c.ending_strand.ensures) in
    let last : value ≡ strand_number t (ending_strand c.args.end.now) =
    c.index-last.ensures
    ∙ ap (λ xs. get_or xs s value) c.in_ok-listed.ensures.numbers
    ∙ get_map_below (λ n. strand_number t (strand_of t n)) (length t) s value there
    ∙ sym (number_is t c.nodes.ensures.numbered.rooted s there)
    ∙ ap (strand_number t) c.ending_strand.ensures
    in
    let names = c.from_vec.ensures ∙ c.in_ok-listed.ensures.names in
    ap (λ (x : List Name). let p : Picks = record { names = x; list = c.in_ok-list.list; last = value } in p) names
    ∙ ap (λ (x : List ℕ). let p : Picks = record { names = listed_names t; list = x; last = value } in p) c.in_ok-list.ensures
    ∙ ap (λ (x : ℕ). let p : Picks = record { names = listed_names t; list = map (pick_of t) c.args.items.now; last = x } in p) last
