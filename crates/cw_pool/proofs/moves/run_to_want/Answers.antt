use Rattle.std.proofs.Common.{◌≡◌, List, sym, subst}
use Rattle.cw_job.specs.Jobs.{Job}
use Rattle.cw_log.specs.declared.token.Token.{Token}
use Rattle.cw_body.specs.Bodies.{InBlocks}
use Rattle.cw_pool.specs.declared.task.Mode.{Mode}
use Rattle.cw_pool.specs.declared.task.Below.{Below}
use Rattle.cw_pool.specs.declared.task.Base.{Base}
use Rattle.cw_pool.specs.Tasks.{IsRunning}
use Rattle.cw_pool.proofs.Tasks.Stopping.{wants_memory}
use Rattle.cw_pool.proofs.moves.run_to_want.Goals as goal

with_body : {T J : Type 0} (job : Job) (of : T → Token) (x : Token) (body next : InBlocks) (how : Mode) (bs : List (Below T J)) (b : Base T J) → next ≡ body → IsRunning job of x body how bs b → IsRunning job of x next how bs b
with_body job of x body next how bs b e r = subst (λ (w : InBlocks). IsRunning job of x w how bs b) (sym e) r

pub invariant_of-now : goal.invariant_of-now
invariant_of-now g c = with_body _ _ _ _ _ _ _ _ c.in-Ok.ensures.ok c.now.invariant

pub invariant_of-now-in-Err : goal.invariant_of-now-in-Err
invariant_of-now-in-Err g c = wants_memory _ _ _ _ _ _ _ _ _ c.now.invariant c.halt.ensures
