use Rattle.std.proofs.Common.{refl, sym, subst}
use Rattle.cw_trace.specs.Query.{Gives}
use Rattle.cw_board.specs.Asked.{ReadsFor, ToldFor}
use Rattle.cw_board.proofs.Reading.{reads_not}
use Rattle.cw_board.proofs.asking.ask_with.Goals as goal

pub ask_by-requires : goal.ask_by-requires
ask_by-requires g c =
    let s = c.args.reader.now in
    subst (λ o. ReadsFor o s.board.now s.token) (sym c.requires.question)
    (record { name = refl; read = reads_not s.token.now; table = c.requires.table; cells = refl; columns = refl })

pub returns-clause-same_reference : goal.returns-clause-same_reference
returns-clause-same_reference g c =
    let s = c.ask_by.new.columns in
    (subst (λ o. ReadsFor o s.board.now s.token) c.requires.question c.ask_by.ensures.ready).name

pub returns-clause-read : goal.returns-clause-read
returns-clause-read g c =
    let s = c.ask_by.new.columns in
    (subst (λ o. ReadsFor o s.board.now s.token) c.requires.question c.ask_by.ensures.ready).read

pub returns-clause-given : goal.returns-clause-given
returns-clause-given g c = subst (λ o. Gives (ToldFor o c.ask_by.new.columns.token.now) c.args.last c.args.asker c.ask_by.result) c.requires.question c.ask_by.ensures.given
