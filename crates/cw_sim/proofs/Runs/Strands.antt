-- The strands of a compiled job keep the law, and name only cells that are there.
use Rattle.std.proofs.Common.{◌≡◌, ◌<◌, ℕ, List, length, arith, sym}
use Rattle.cw_code.specs.declared.instruction.Code.{Code}
use Rattle.cw_strand.specs.declared.want.Want.{Want}
use Rattle.cw_strand.specs.declared.want.Want.TheVariants.{Load, Store}
use Rattle.cw_strand.specs.Laws.{NamesElement}
use Rattle.cw_strand.specs.Names.{first_memory}
use Rattle.cw_strand.specs.Programs.{IsCompiled}
use Rattle.cw_strand.specs.Strands.{Reached}
use Rattle.cw_strand.proofs.Elements as named
use Rattle.cw_job.specs.Jobs.{Job, TakesWords}
use Rattle.cw_job.specs.Room.Strands.{StrandState, strands_of_job}
use Rattle.cw_job.proofs.Room.Elements.{code_elements, elements_of}
use Rattle.cw_job.proofs.Room.Lawful.{deep_of, closes_of}
use Rattle.cw_sim.specs.Laws.{NamesCell, AreStrands}

names_cell : (code : Code) (k : ℕ) (w : Want) → code.cells ≡ k → NamesElement code w → NamesCell k w
names_cell code k (Load c) is h = omega (arith, is, h)
names_cell code k (Store c v) is h = omega (arith, is, h)
names_cell code k w is h = tt

names_cells : (job : Job) → IsCompiled job.program → (own : List ℕ) (x : StrandState) → Reached (strands_of_job job) own x → NamesCell (length (first_memory job.program.cells)) ((strands_of_job job).want x)
unfolding strands_of_job
names_cells job compiled own x reached =
    let p = job.program in
    names_cell p.code (length (first_memory p.cells)) x.want (code_elements job compiled) (named.names_elements p.code p.sound p.main job.words job.limits own x reached)

pub strands_lawful : (job : Job) → IsCompiled job.program → TakesWords job.program (length job.words) → AreStrands (strands_of_job job) (length (first_memory job.program.cells))
strands_lawful job compiled takes = record {
  lawful = record { deep = deep_of job; closes = closes_of job compiled takes };
  there = omega (arith, elements_of job compiled);
  named = names_cells job compiled;
}
