use Rattle.std.proofs.Common.{◌≡◌, ◌+◌, drop}
use Rattle.cw_text.specs.Syntax.{block_of}
use Rattle.cw_strand.specs.Compilation.{block_length}
use Rattle.cw_compile.proofs.lengths.+walk.Given as goal

abbrev pub invariant-of_block-loop-statement : goal.invariant-of_block-loop-statement
invariant-of_block-loop-statement l = l.length + block_length (block_of (drop l.statement-index l.body)) ≡ block_length (block_of l.body)
