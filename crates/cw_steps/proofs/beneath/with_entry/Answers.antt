use Rattle.std.proofs.Common.{◌≡◌, ap, sym, ◌∙◌, false, arith}
use Rattle.cw_tree.specs.AccessStacks.{stamps}
use Rattle.cw_tree.specs.Walks.{has}
use Rattle.cw_steps.specs.Beneath.{least_with}
use Rattle.cw_steps.proofs.Walked.{reaches_none}
use Rattle.cw_steps.proofs.beneath.with_entry.Goals as goal

pub returns-then-not-has_stamp : goal.returns-then-not-has_stamp
returns-then-not-has_stamp c =
    let none : has (stamps c.args.entries.now) c.args.node.now.stamp ≡ false = grind (arith, c.has_stamp.ensures, c.if-not-has_stamp.true) in
    ap (least_with c.args.least) (sym (reaches_none c.args.writes (has (stamps c.args.entries.now)) c.args.number c.args.node.now none))
