use Rattle.std.proofs.Common.{drop}
use Rattle.cw_text.specs.Syntax.{block_of}
use Rattle.cw_compile.specs.Emitted.{IsLeft}
use Rattle.cw_compile.proofs.emitter.Emitter.+walk.Given as goal

abbrev pub invariant-block-loop-statement : goal.invariant-block-loop-statement
invariant-block-loop-statement l = IsLeft l.ending (block_of l.body) l.initial.self (block_of (drop l.statement-index l.body)) l.self
