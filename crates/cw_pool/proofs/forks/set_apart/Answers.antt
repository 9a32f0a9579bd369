use Rattle.std.proofs.Common.{ap, ◌∙◌, refl}
use Rattle.cw_pool.proofs.Tasks.Going.{with_below}
use Rattle.cw_pool.proofs.Tasks.Forking.{left_so, right_so}
use Rattle.cw_pool.proofs.forks.set_apart.Goals as goal

pub invariant_of-now : goal.invariant_of-now
invariant_of-now g c =
    let (x, f, (stamp, left_now), (column, right_now)) = c.requires.forked in
    with_below _ _ _ _ _ _ _ _ c.push_reserved.ensures.items
    (left_so _ _ _ _ _ _ _ _ _ c.pair-half.result.0 _ stamp c.args.fork column refl f.task f.wants f.left left_now (ap (λ h. h.of) c.pair-half.ensures.halves.0) refl
    (ap g.B.SharedBoard.of c.of.ensures ∙ right_now))

pub invariant_of-waiting : goal.invariant_of-waiting
invariant_of-waiting g c =
    let (x, f, (stamp, left_now), (column, right_now)) = c.requires.forked in
    with_below _ _ _ _ _ _ _ _ c.new.ensures.items
    (right_so _ _ _ _ _ _ _ _ _ _ _ c.args.fork column refl f.task f.wants f.right right_now (ap (λ h. h.of) c.pair-half.ensures.halves.1) refl
    (ap g.B.SharedBoard.of c.of.ensures ∙ right_now))
