use Rattle.cw_tree.proofs.Names.PassUp.{CountedUp}
use Rattle.cw_tree.proofs.tree.Tree.fork_numbers.Given as goal

abbrev pub invariant-loop-n : goal.invariant-loop-n
invariant-loop-n l = CountedUp l.self l.n l.numbers.items l.passed.items
