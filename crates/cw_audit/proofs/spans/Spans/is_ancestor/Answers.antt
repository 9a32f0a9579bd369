use Rattle.std.proofs.Common.{ap, sym, ◌∙◌, arith, length, get_or, nat_le}
use Rattle.std.specs.Prelude.{◌&&◌}
use Rattle.std.proofs.lemmas.Grind.{get_or_default_zero}
use Rattle.std.proofs.lemmas.Bool.{le-leb, lt-leb}
use Rattle.cw_tree.specs.InOrder.{renamed}
use Rattle.cw_tree.proofs.Lists.{length_map_below}
use Rattle.cw_audit.proofs.Spanning.Between.{by_places}
use Rattle.cw_audit.proofs.spans.Spans.is_ancestor.Goals as goal

pub index-place-requires : goal.index-place-requires
index-place-requires c = omega (arith, ap length c.requires.spans.numbers, length_map_below (renamed c.args.tree.now) (length c.args.tree.now), c.args.self.now.first.ok.0)

pub index-requires : goal.index-requires
index-requires c = omega (arith, ap length c.requires.spans.numbers, length_map_below (renamed c.args.tree.now) (length c.args.tree.now), c.args.self.now.first.ok.0)

pub returns-then-index-place : goal.returns-then-index-place
returns-then-index-place c =
    let t = c.args.tree.now in
    let p = by_places t c.nodes.ensures.numbered c.args.self.now.first.items c.args.self.now.last.items c.requires.spans c.args.a c.args.n c.requires.a c.requires.n c.index.result.now c.index-place.result.now c.index-then-index-place.result.now c.index.ensures c.index-place.ensures c.index-then-index-place.ensures in
    sym (ap (λ b. b && nat_le c.index-place.result.now c.index-then-index-place.result.now) (le-leb c.index.result.now c.index-place.result.now c.if-index-place.true)) ∙ p

pub returns-else-index-place : goal.returns-else-index-place
returns-else-index-place c =
    let t = c.args.tree.now in
    let last = get_or c.args.self.now.last.items c.args.a 0 in
    let p = by_places t c.nodes.ensures.numbered c.args.self.now.first.items c.args.self.now.last.items c.requires.spans c.args.a c.args.n c.requires.a c.requires.n c.index.result.now c.index-place.result.now last c.index.ensures c.index-place.ensures (sym (get_or_default_zero c.args.self.now.last.items c.args.a last (omega (arith, c.requires.spans.greatest.len)))) in
    let no = lt-leb c.index.result.now c.index-place.result.now c.if-index-place.false in
    no ∙ sym (ap (λ b. b && nat_le c.index-place.result.now last) no) ∙ p
