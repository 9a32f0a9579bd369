use Rattle.std.proofs.Common.{sym, refl, subst, ◌∙◌}
use Rattle.cw_body.specs.Bodies.{InBlocks}
use Rattle.cw_pool.specs.Forks.{IsForking}
use Rattle.cw_pool.proofs.Tasks.Acting.{going}
use Rattle.cw_pool.proofs.Tasks.Going.{with_below}
use Rattle.cw_pool.proofs.Tasks.Forking.{forks_not}
use Rattle.cw_pool.proofs.forks.fork.Goals as goal

pub invariant_of-now-in_default-fork : goal.invariant_of-now-in_default-fork
invariant_of-now-in_default-fork g c =
    with_below _ _ _ _ _ _ _ _ c.reserve.ensures.items (forks_not _ _ _ _ _ _ _ _ _ _ c.now.invariant refl c.halt.ensures)

pub fork_token-requires-clause-forking : goal.fork_token-requires-clause-forking
fork_token-requires-clause-forking g c κs within =
    let job = g.J.RunName.job in
    let of = g.B.SharedBoard.of in
    subst (λ (w : InBlocks). IsForking {T = g.row.B-Token.Denot} {J = g.row.J.Denot} job of (of c.now.inside.token) w c.in-Ok-fork.left c.fork.new.self c.reserve.new.self.items c.now.inside.base) (sym c.of-before.ensures) (record {
      task = with_below _ _ _ _ _ _ _ _ c.reserve.ensures.items (going _ _ c.in-Goes.is c.now.invariant);
      wants = sym (c.in-Some-Fork.ensures job) ∙ c.in-Some-Fork.field-0-is;
      left = c.in-Ok-fork.ensures.left job (sym c.args.scene.now.program_of);
      right = c.in-Ok-fork.ensures.right job (sym c.args.scene.now.program_of);
    })
