use Rattle.std.proofs.Common.{◌≡◌, drop}
use Rattle.cw_strand.specs.Compilation.{slots_with_params}
use Rattle.cw_compile.proofs.emitter.Emitter.params.Given as goal

abbrev pub invariant-loop-word : goal.invariant-loop-word
invariant-loop-word l = record l.self { slots = slots_with_params (drop l.word-index l.params) l.self.slots } ≡ record l.initial.self { slots = slots_with_params l.params l.initial.self.slots }
