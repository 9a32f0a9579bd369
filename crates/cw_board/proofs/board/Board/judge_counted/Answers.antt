use Rattle.std.proofs.Common.{subst}
use Rattle.std.proofs.lemmas.Result.{err_from_is_err_and}
use Rattle.cw_trace.specs.declared.verdict.Verdict.{Verdict}
use Rattle.cw_steps.specs.Tracks.{track_of}
use Rattle.cw_steps.specs.Views.{view_of}
use Rattle.cw_steps.specs.Passes.{IsAnswered}
use Rattle.cw_board.specs.Boards.{cells_in, columns_of}
use Rattle.cw_board.proofs.Passes.{moved_asking, moved_searching}
use Rattle.cw_board.proofs.Reading.{reads_then}
use Rattle.cw_board.proofs.board.Board.judge_counted.Goals as goal

pub returns-in_err-victim-in-Against-clause-read : goal.returns-in_err-victim-in-Against-clause-read
returns-in_err-victim-in-Against-clause-read g c = reads_then c.args.token.now c.ask_once.new.token c.find_victim.new.token c.ask_once.ensures.read c.find_victim.ensures.read

pub returns-in-Against-clause-read : goal.returns-in-Against-clause-read
returns-in-Against-clause-read g c = reads_then c.args.token.now c.ask_once.new.token c.find_victim.new.token c.ask_once.ensures.read c.find_victim.ensures.read

pub returns-in_err-block-clause-moved : goal.returns-in_err-block-clause-moved
returns-in_err-block-clause-moved g c =
    let t = c.args.token.now in
    let p = err_from_is_err_and c.from_residual.result c.from_residual.ensures.1 in
    rw (p.1, p.2) (moved_asking c.args.self.now c.args.last t c.ask_once.new.token c.in_err-block.field-0.0 c.in_err-block.ensures.moved)

pub returns-in_err-victim-in-Against-clause-moved : goal.returns-in_err-victim-in-Against-clause-moved
returns-in_err-victim-in-Against-clause-moved g c =
    let u = c.ask_once.new.token in
    let p = err_from_is_err_and c.from_residual-in_err-victim-in-Against.result c.from_residual-in_err-victim-in-Against.ensures.1 in
    let b = c.args.self.now in
    let t = c.args.token.now in
    let against = subst (λ (v : Verdict). IsAnswered (cells_in b) (columns_of b) c.args.last (track_of t.track).column (view_of t).notes (view_of u).notes v) c.in-Against.is c.in_ok-block.ensures.answered in
    rw (p.1, p.2) (moved_searching b c.args.last t u c.find_victim.new.token c.in-Against.block c.in_err-victim-in-Against.field-0.0 against c.in_err-victim-in-Against.ensures.moved)
