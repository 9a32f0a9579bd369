use Rattle.std.proofs.Common.{refl, subst}
use Rattle.cw_log.specs.declared.board.Forked.{Forked}
use Rattle.cw_log.specs.declared.board.Forked.TheVariants.{Inline, Two}
use Rattle.cw_log.specs.Answers.{Forks}
use Rattle.cw_pool.proofs.Tasks.Going.{with_below}
use Rattle.cw_pool.proofs.Tasks.Forking.{forks_not, inline_so}
use Rattle.cw_pool.proofs.forks.fork_token.Goals as goal

pub invariant_of-now : goal.invariant_of-now
invariant_of-now g c = forks_not _ _ _ _ _ _ _ _ _ _ c.requires.forking.task c.in-Err.ensures.err c.halt.ensures

pub invariant_of-now-in-Inline : goal.invariant_of-now-in-Inline
invariant_of-now-in-Inline g c =
    let f = c.requires.forking in
    let answer : Forks g.B.SharedBoard.of (g.B.SharedBoard.of c.args.token) (Inline c.in-Inline.token) =
    subst (λ (f : Forked g.row.B-Token.Denot). Forks g.B.SharedBoard.of (g.B.SharedBoard.of c.args.token) f) c.in-Inline.is c.in-Ok.ensures.ok in
    let (stamp, branched_now) = answer in
    with_below _ _ _ _ _ _ _ _ c.push_reserved.ensures.items (inline_so _ _ _ _ _ _ _ _ _ _ stamp refl f.task f.wants f.left f.right branched_now)

pub set_apart-requires-clause-forked : goal.set_apart-requires-clause-forked
set_apart-requires-clause-forked g c κs within =
    let answer : Forks g.B.SharedBoard.of (g.B.SharedBoard.of c.args.token) (Two c.in-Two.fork c.in-Two.token c.in-Two.other) =
    subst (λ (f : Forked g.row.B-Token.Denot). Forks g.B.SharedBoard.of (g.B.SharedBoard.of c.args.token) f) c.in-Two.is c.in-Ok.ensures.ok in
    let (some, left_now, right_now) = answer in
    (g.B.SharedBoard.of c.args.token, c.requires.forking, left_now, right_now)
