use Rattle.std.proofs.Common.{◌≡◌, map, take, false}
use Rattle.clap.specs.Words.{app_of}
use Rattle.clap.specs.declared.builder.command.Command.TheViews.{out-Command as fields_of}
use Rattle.cw_words.specs.Shapes.{leaf_app}
use Rattle.cw_words.proofs.line.command_with.Given as goal

abbrev pub invariant-loop-known : goal.invariant-loop-known
invariant-loop-known l = record { app : app_of l.command ≡ leaf_app l.fn.name (map (λ n. n.now) (take l.known-index l.fn.options)); local : (fields_of l.command).has_globals ≡ false }
