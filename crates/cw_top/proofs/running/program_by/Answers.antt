use Rattle.std.proofs.Common.{Some, subst, sym}
use Rattle.cw_words.specs.declared.command.Command.{Command}
use Rattle.cw_top.specs.Taken.{HasRead}
use Rattle.cw_top.proofs.Pieces.{TakesNothing-same}
use Rattle.cw_top.proofs.running.program_by.Goals as goal

-- nothing is read for a load
pub returns-in_ok-compiled_load-in-Load-clause-whole : goal.returns-in_ok-compiled_load-in-Load-clause-whole
returns-in_ok-compiled_load-in-Load-clause-whole g c =
    let left = g.S.Source.left c.args.source.now in
    subst (λ (co : Command). HasRead (Some co) left left) (sym c.in-Load.is) (TakesNothing-same left)
