use Rattle.std.proofs.Common.{arith}
use Rattle.cw_text.proofs.Forgotten.{same_but_lines}
use Rattle.cw_text.proofs.PrintedTexts.{printed_again, source_undone, text_undone}
use Rattle.cw_text.proofs.reading_undoes_printing.Goals as goal

pub returns-clause-tokens : goal.returns-clause-tokens
returns-clause-tokens c = same_but_lines

pub returns-clause-trees : goal.returns-clause-trees
returns-clause-trees c = source_undone

pub returns-clause-texts : goal.returns-clause-texts
returns-clause-texts c = λ newest text s. text_undone newest 1048576 text s

pub returns-clause-long : goal.returns-clause-long
returns-clause-long c = λ text s. text_undone 2 67108864 text s (omega arith) (omega arith)

pub returns-clause-again : goal.returns-clause-again
returns-clause-again c = printed_again
