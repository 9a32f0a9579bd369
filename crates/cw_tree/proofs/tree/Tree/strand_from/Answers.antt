use Rattle.std.proofs.Common.{◌≡◌, ◌∙◌, false, ap, sym, arith, get_or, length, rules}
use Rattle.cw_tree.specs.Nodes.{is_strand}
use Rattle.cw_tree.specs.Series.{strand_of}
use Rattle.cw_tree.proofs.Lists.{length_map_below, get_map_below}
use Rattle.cw_tree.proofs.Walks.Strands.{strand_of_other}
use Rattle.cw_tree.proofs.tree.Tree.strand_from.Goals as goal

pub bounds-before-parent : goal.bounds-before-parent
bounds-before-parent c = omega (arith, ap length c.requires.before, length_map_below (strand_of c.args.self.now) c.args.n, c.parent.ensures.low (omega arith))

pub returns : goal.returns
returns c =
    let t = c.args.self.now in
    let q = c.parent.result in
    let no_strand : is_strand t c.args.n ≡ false = search rules in
    ap (λ xs. get_or xs q 0) c.requires.before
    ∙ get_map_below (strand_of t) c.args.n q 0 (c.parent.ensures.low (omega arith))
    ∙ ap (strand_of t) c.parent.ensures.parent
    ∙ sym (strand_of_other t c.parent.ensures.numbered.rooted c.args.n (omega arith) c.requires.there no_strand)
