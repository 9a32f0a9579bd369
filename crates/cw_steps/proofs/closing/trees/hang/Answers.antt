use Rattle.cw_steps.proofs.Leaving.Trees.{hung_block, hung_plain}
use Rattle.std.proofs.Common.{rules, sym, ◌∙◌}
use Rattle.cw_steps.proofs.closing.trees.hang.Goals as goal

pub returns-then-is_block : goal.returns-then-is_block
returns-then-is_block c =
    hung_block c.args.tree.now c.add.new.self c.close.new.self c.in_ok-number.number c.args.parent c.in_ok-try_clone.field-0 c.args.node.now
    c.in_ok-number.ensures.number c.in_ok-try_clone.ensures c.in_ok-number.ensures.ok c.close.ensures

pub returns-then-is_plain : goal.returns-then-is_plain
returns-then-is_plain c =
    hung_plain c.args.tree.now c.add.new.self c.in_ok-number.number c.args.parent c.in_ok-try_clone.field-0 c.args.node.now
    c.in_ok-number.ensures.number c.in_ok-try_clone.ensures c.in_ok-number.ensures.ok
    (sym c.is_block.ensures ∙ c.if-is_block.false) (search rules)
