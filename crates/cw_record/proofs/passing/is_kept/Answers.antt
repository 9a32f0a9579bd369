use Rattle.std.proofs.Common.{arith}
use Rattle.cw_record.proofs.Plain.Passing.{fork_kept}
use Rattle.cw_record.proofs.passing.is_kept.Goals as goal

pub returns-then-n-undone-clause-kept : goal.returns-then-n-undone-clause-kept
returns-then-n-undone-clause-kept c less fork a over = fork_kept c.args.tree.now c.nodes.ensures.numbered c.args.n c.requires.there c.args.undone c.requires.undone (omega arith) a over
