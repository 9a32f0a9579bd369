-- The core, main and the workers are those of the start.
use Rattle.std.proofs.Common.{refl, ap, ◌∙◌}
use Rattle.cw_strand.specs.Names.{first_memory}
use Rattle.cw_core.specs.State.{start}
use Rattle.cw_sim.proofs.InMemory.Opens.{opens_stands}
use Rattle.cw_sim.proofs.moves.Driver.opening.Goals as goal

pub returns : goal.returns
returns c =
    let l = c.args.task.limits in
    opens_stands c.args.task c.args.workers _ c.in_ok-main.main c.new-bodies.result c.put.new.self c.requires.strands refl
    (c.in_ok-core.ensures ∙ ap (λ first. start first l.strands l.aborts) (c.as_slice-2.ensures.value ∙ c.in_ok-memory.ensures ∙ ap first_memory c.as_slice.ensures))
    c.in_ok-workers.ensures c.in_ok-main.ensures.start c.in_ok-main.ensures.stands c.in_ok-put.ensures refl
