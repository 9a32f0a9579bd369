use Rattle.std.proofs.lemmas.Result.{err_from_is_err_and}
use Rattle.cw_sheet.specs.Reading.{node}
use Rattle.cw_sheet.specs.Taking.{place_of}
use Rattle.cw_sheet.proofs.Taking.{taken_of_fails, taken_of_step}
use Rattle.cw_sheet.proofs.nodes_in.nodes_of.Goals as goal

pub returns-in_err-node : goal.returns-in_err-node
returns-in_err-node c =
    let p = err_from_is_err_and c.from_residual.result c.from_residual.ensures.1 in
    rw (p.1, p.2) (taken_of_fails c.args.count node (place_of c.args.cursor.now) c.loop-number.nodes.items c.loop-number.number (place_of c.loop-number.cursor) c.loop-number.invariant c.in_err-node.field-0.0 c.loop-number-test.true c.in_err-node.ensures)

pub loop-number-preserved : goal.loop-number-preserved
loop-number-preserved c =
    rw c.in_ok-push.ensures.items (taken_of_step c.args.count node (place_of c.args.cursor.now) c.loop-number.nodes.items c.loop-number.number (place_of c.loop-number.cursor) c.loop-number.invariant c.in_ok-node.field-0 (place_of c.node.new.cursor) c.loop-number-test.true c.in_ok-node.ensures)
