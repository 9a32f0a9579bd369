use Rattle.std.proofs.Common.{ap, sym, ◌∙◌}
use Rattle.cw_tree.specs.Nodes.{number_in}
use Rattle.cw_audit.proofs.Rising.Parts.{ends_is}
use Rattle.cw_audit.proofs.latest.ends_last.Goals as goal

pub returns-else-not-is_closed : goal.returns-else-not-is_closed
returns-else-not-is_closed c =
    ends_is c.args.tree.now c.args.b c.args.latest c.node.result.now.end (sym c.is_closed.ensures ∙ c.if-not-is_closed.false) c.requires.latest (ap (number_in (λ y. y.end)) c.node.ensures)
