use Rattle.std.proofs.Common.{◌≡◌, take, reverse}
use Rattle.cw_strand.proofs.strand.Strand.main.Given as goal

abbrev pub invariant-loop-word : goal.invariant-loop-word
invariant-loop-word l = l.arguments ≡ reverse (take l.word-index l.words)
