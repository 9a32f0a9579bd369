use Rattle.std.proofs.Common.{arith, ap, length, ◌≡◌}
use Rattle.cw_tree.proofs.InOrder.Renumbered.{some_node}
use Rattle.cw_record.proofs.Plain.Ended.{passed_end}
use Rattle.cw_record.proofs.passing.listed_plain.Goals as goal

pub returns-clause-names : goal.returns-clause-names
returns-clause-names c =
    let t = c.args.tree.now in
    let w = c.nodes-count.ensures.numbered in
    let all : c.loop-n.n ≡ length t = omega (arith, ap length c.nodes-count.ensures.nodes, some_node t w, c.loop-n-test.false) in
    (passed_end t w c.loop-n.n c.loop-n.pass.names.items c.loop-n.pass.forks.items c.loop-n.pass.numbers.items c.loop-n.invariant.passed all).0

pub returns-clause-numbers : goal.returns-clause-numbers
returns-clause-numbers c =
    let t = c.args.tree.now in
    let w = c.nodes-count.ensures.numbered in
    let all : c.loop-n.n ≡ length t = omega (arith, ap length c.nodes-count.ensures.nodes, some_node t w, c.loop-n-test.false) in
    (passed_end t w c.loop-n.n c.loop-n.pass.names.items c.loop-n.pass.forks.items c.loop-n.pass.numbers.items c.loop-n.invariant.passed all).1
