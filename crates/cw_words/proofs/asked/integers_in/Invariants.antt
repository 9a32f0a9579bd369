use Rattle.std.proofs.Common.{drop, map}
use Rattle.cw_words.specs.Options.{integers_of}
use Rattle.cw_words.proofs.Integers.{AreRead}
use Rattle.cw_words.proofs.asked.integers_in.Given as goal

abbrev pub invariant-loop-word : goal.invariant-loop-word
invariant-loop-word l = AreRead (integers_of (map (λ w. w.now) l.words)) l.kept (map (λ w. w.now) (drop l.word-index l.words))
