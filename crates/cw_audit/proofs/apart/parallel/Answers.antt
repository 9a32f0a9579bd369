use Rattle.std.proofs.Common.{arith, ap, sym, ◌∙◌}
use Rattle.cw_tree.specs.Nodes.{is_fork}
use Rattle.cw_audit.proofs.Outermost.{lca_there, over_not_parallel, under_not_parallel, parallel_by_fork}
use Rattle.cw_audit.proofs.apart.parallel.Goals.{then-is_ancestor-via-then-is_ancestor, then-is_ancestor-via-else-is_ancestor+then-is_ancestor-2}
use Rattle.cw_audit.proofs.apart.parallel.Goals as goal

pub is_fork-requires : goal.is_fork-requires
is_fork-requires c =
    let t = c.args.tree.now in
    let there = lca_there t c.nodes.ensures.numbered.rooted c.args.a c.args.b c.requires.a c.requires.b in
    omega (arith, there, c.lca.ensures)

pub returns-then-is_ancestor : goal.returns-then-is_ancestor
returns-then-is_ancestor c =
    let t = c.args.tree.now in
    elim c.then-is_ancestor.branch [
      | then-is_ancestor-via-then-is_ancestor w ↦ sym (over_not_parallel t c.args.a c.args.b (sym c.is_ancestor.ensures ∙ w.if-is_ancestor.true))
      | then-is_ancestor-via-else-is_ancestor+then-is_ancestor-2 w ↦ sym (under_not_parallel t c.args.a c.args.b (sym w.is_ancestor-else-is_ancestor.ensures ∙ w.if-is_ancestor-2.true))
    ]

pub returns : goal.returns
returns c =
    let t = c.args.tree.now in
    c.is_fork.ensures
    ∙ ap (is_fork t) c.lca.ensures
    ∙ sym (parallel_by_fork t c.args.a c.args.b (sym c.is_ancestor.ensures ∙ c.if-is_ancestor.false) (sym c.is_ancestor-else-is_ancestor.ensures ∙ c.if-is_ancestor-2.false))
