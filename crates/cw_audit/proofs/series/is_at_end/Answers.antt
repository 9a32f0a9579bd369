use Rattle.std.proofs.Common.{ap, sym, ◌∙◌, arith, length, get_or, false}
use Rattle.std.specs.Prelude.{◌&&◌}
use Rattle.cw_tree.proofs.Lists.{length_map_below, get_map_below}
use Rattle.cw_audit.specs.Later.{is_at_end}
use Rattle.cw_audit.proofs.Coming.{end_step}
use Rattle.cw_audit.proofs.series.is_at_end.Goals as goal

pub bounds-before-parent : goal.bounds-before-parent
bounds-before-parent c = omega (arith, ap length c.requires.before, length_map_below (is_at_end c.args.tree.now) c.args.n, c.parent.ensures.low (omega arith))

pub returns : goal.returns
returns c =
    let t = c.args.tree.now in
    let q = c.parent.result in
    ap (λ xs. get_or xs q false) c.requires.before
    ∙ get_map_below (is_at_end t) c.args.n q false (c.parent.ensures.low (omega arith))
    ∙ sym (ap (λ b. b && is_at_end t q) (sym c.is_last.ensures ∙ c.if-not-is_last.false))
    ∙ sym (end_step t c.parent.ensures.numbered.rooted c.args.n q c.parent.ensures.parent (omega arith) c.requires.there)
