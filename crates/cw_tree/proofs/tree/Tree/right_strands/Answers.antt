use Rattle.std.proofs.Common.{arith, ap, sym, ◌+◌, ◌<◌, Bool, length, set, subst}
use Rattle.std.specs.Prelude.{◌||◌}
use Rattle.cw_tree.proofs.Names.Sides.{Told, told_step, told_end}
use Rattle.cw_tree.proofs.tree.Tree.right_strands.Goals as goal

pub loop-n-preserved : goal.loop-n-preserved
loop-n-preserved c =
    let there : c.loop-n.n < length c.args.self.now = omega (arith, ap length c.nodes-count.ensures.nodes) in
    let P : Bool → Type 0 = λ b. Told c.args.self.now (c.loop-n.n + 1) (set c.loop-n.sides.items c.loop-n.n c.index.result.now) (set c.loop-n.forked.items c.parent-parent.result (c.index_mut-in-loop-n.result.now || b)) in
    subst P (sym c.is_strand.ensures) (
    told_step c.args.self.now c.loop-n.n c.loop-n.sides.items c.loop-n.forked.items c.loop-n.invariant there c.parent-parent.result (c.parent-parent.ensures.low c.loop-n.invariant.some) c.parent-parent.ensures.parent
    c.index.result.now c.index.ensures c.index_mut-in-loop-n.result.now c.index_mut-in-loop-n.ensures.value
    )

pub returns : goal.returns
returns c = told_end c.args.self.now c.loop-n.n c.loop-n.sides.items c.loop-n.forked.items c.loop-n.invariant (omega (arith, ap length c.nodes-count.ensures.nodes))
