use Rattle.std.proofs.Common.{sym, ◌∙◌, ap}
use Rattle.cw_tree.specs.Nodes.{is_fork}
use Rattle.cw_audit.proofs.Rising.Before.{behind_fork, behind_other}
use Rattle.cw_audit.proofs.latest.floor_behind.Goals as goal

pub returns-then-is_fork : goal.returns-then-is_fork
returns-then-is_fork c =
    let t = c.args.tree.now in
    behind_fork t c.parent.ensures.numbered.rooted c.args.n c.requires.child c.requires.there c.args.floor c.requires.floor (ap (is_fork t) (sym c.parent.ensures.parent) ∙ sym c.is_fork.ensures ∙ c.if-is_fork.true)

pub returns-else-is_fork : goal.returns-else-is_fork
returns-else-is_fork c =
    let t = c.args.tree.now in
    behind_other t c.parent.ensures.numbered.rooted c.args.n c.requires.child c.requires.there c.args.floor c.args.within c.max.result c.requires.floor c.requires.within c.max.ensures
    (ap (is_fork t) (sym c.parent.ensures.parent) ∙ sym c.is_fork.ensures ∙ c.if-is_fork.false)
