use Rattle.std.proofs.Common.{None, Option, subst, sym}
use Rattle.cw_words.specs.declared.command.Command.{Command}
use Rattle.cw_top.specs.Audited.{TellsBy}
use Rattle.cw_top.specs.declared.outcome.Note.TheVariants as note
use Rattle.cw_top.specs.Written.{IsTextOfCommand}
use Rattle.cw_top.proofs.Told.{nothing_told}
use Rattle.cw_top.proofs.top.answer.Goals as goal

pub returns-in-None-clause-written : goal.returns-in-None-clause-written
returns-in-None-clause-written g c =
    let left = g.S.Source.left c.args.source.now in
    let old = g.K.Sink.written c.args.sink.now in
    let tells = g.K.Sink.tells_for c.args.sink.now in
    subst (λ (o : Option Command). TellsBy o left None 2 note.Usage old old tells tells) (sym c.in-None.is) (nothing_told (IsTextOfCommand None left) 2 note.Usage old tells)
