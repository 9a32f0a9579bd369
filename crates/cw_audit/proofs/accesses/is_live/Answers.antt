use Rattle.std.proofs.Common.{ap, sym, ◌∙◌, arith, length}
use Rattle.std.specs.Prelude.{◌&&◌, not}
use Rattle.cw_tree.specs.Accesses.{is_live}
use Rattle.cw_tree.proofs.Lists.{length_map_below}
use Rattle.cw_audit.proofs.Living.{live_step, live_read}
use Rattle.cw_audit.proofs.accesses.is_live.Goals as goal

pub bounds-before-parent : goal.bounds-before-parent
bounds-before-parent c = omega (arith, ap length c.requires.before, length_map_below (is_live c.args.tree.now) c.args.n, c.parent-parent.ensures.low (omega arith))

pub returns-then-not-is_aborted : goal.returns-then-not-is_aborted
returns-then-not-is_aborted c =
    let t = c.args.tree.now in
    let q = c.parent-parent.result in
    live_read t c.args.before.now c.args.n q c.requires.before (c.parent-parent.ensures.low (omega arith))
    ∙ sym (ap (λ b. not b && is_live t q) (sym c.is_aborted.ensures ∙ c.if-not-is_aborted.true))
    ∙ sym (live_step t c.parent-parent.ensures.numbered.rooted c.args.n q c.parent-parent.ensures.parent (omega arith) c.requires.there)

pub returns-else-not-is_aborted : goal.returns-else-not-is_aborted
returns-else-not-is_aborted c =
    let t = c.args.tree.now in
    let q = c.parent-parent.result in
    ap not c.if-not-is_aborted.false
    ∙ sym (ap (λ b. not b && is_live t q) (sym c.is_aborted.ensures ∙ c.if-not-is_aborted.false))
    ∙ sym (live_step t c.parent-parent.ensures.numbered.rooted c.args.n q c.parent-parent.ensures.parent (omega arith) c.requires.there)
