use Rattle.std.proofs.Common.{◌∙◌, subst}
use Rattle.std.specs.Prelude.{IfOk, Option, Result}
use Rattle.cw_steps.specs.Views.{view_of}
use Rattle.cw_board.specs.Victims.{IsJudged}
use Rattle.cw_board.specs.declared.asking.Moved.{Moved}
use Rattle.cw_board.specs.declared.victims.Barrier.{Barrier}
use Rattle.cw_board.proofs.Passes.{judged_since, moved_again}
use Rattle.cw_board.proofs.Reading.{reads_then}
use Rattle.cw_board.proofs.board.Board.barrier.Goals as goal

pub returns-in-Ok-clause-read : goal.returns-in-Ok-clause-read
returns-in-Ok-clause-read g c = reads_then c.args.token.now c.loop.token c.judge.new.token c.loop.invariant.1 c.judge.ensures.read

pub returns-in-Ok-clause-judged : goal.returns-in-Ok-clause-judged
returns-in-Ok-clause-judged g c =
    let b = c.args.self.now in
    let t = c.args.token.now in
    let u = c.loop.token in
    let v = c.judge.new.token in
    judged_since b c.args.last t u v c.in-Ok.found c.loop.invariant.1 c.loop.invariant.2
    (subst (λ (r : Result (Option Barrier) Moved). IfOk r (IsJudged b c.args.last u (view_of u).notes (view_of v).notes)) c.in-Ok.is c.judge.ensures.judged)

pub loop-preserved : goal.loop-preserved
loop-preserved g c =
    let t = c.args.token.now in
    let u = c.loop.token in
    let v = c.judge.new.token in (
      c.judge.ensures.read.table ∙ c.loop.invariant.0,
      reads_then t u v c.loop.invariant.1 c.judge.ensures.read,
      moved_again c.args.self.now c.args.last t u v c.in_default.field-0 c.loop.invariant.1 c.loop.invariant.2 c.in_default.ensures.moved,
    )
