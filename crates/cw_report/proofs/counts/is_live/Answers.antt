use Rattle.std.proofs.Common.{◌≡◌, ◌∙◌, true, false, ap, sym, arith, get_or, length, rules}
use Rattle.std.specs.Prelude.{◌&&◌, not}
use Rattle.cw_tree.specs.Accesses.{is_live}
use Rattle.cw_tree.specs.Nodes.{is_aborted}
use Rattle.cw_tree.proofs.Lists.{length_map_below, get_map_below}
use Rattle.cw_report.proofs.Counted.{live_step}
use Rattle.cw_report.proofs.counts.is_live.Goals as goal

pub bounds-before-parent : goal.bounds-before-parent
bounds-before-parent c = omega (arith, ap length c.requires.before, length_map_below (is_live c.args.tree.now) c.args.n, c.parent-parent.ensures.low (omega arith))

pub returns-then-not-is_aborted : goal.returns-then-not-is_aborted
returns-then-not-is_aborted c =
    let t = c.args.tree.now in
    let q = c.parent-parent.result in
    let stays : is_aborted t q ≡ false = search rules in
    ap (λ xs. get_or xs q false) c.requires.before
    ∙ get_map_below (is_live t) c.args.n q false (c.parent-parent.ensures.low (omega arith))
    ∙ sym (live_step t c.parent-parent.ensures.numbered.rooted c.args.n q (omega arith) c.requires.there c.parent-parent.ensures.parent ∙ ap (λ b. not b && is_live t q) stays)

pub returns-else-not-is_aborted : goal.returns-else-not-is_aborted
returns-else-not-is_aborted c =
    let t = c.args.tree.now in
    let q = c.parent-parent.result in
    let fell : is_aborted t q ≡ true = search rules in
    let none : is_live t c.args.n ≡ false = live_step t c.parent-parent.ensures.numbered.rooted c.args.n q (omega arith) c.requires.there c.parent-parent.ensures.parent ∙ ap (λ b. not b && is_live t q) fell in
    ap not (c.is_aborted.ensures ∙ fell) ∙ sym none
