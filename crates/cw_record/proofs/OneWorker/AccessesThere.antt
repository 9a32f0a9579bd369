-- The strands of a job load and store only elements that are there.
use Rattle.std.proofs.Common.{◌≡◌, ◌<◌, ℕ, List, length, arith}
use Rattle.cw_code.specs.declared.instruction.Code.{Code}
use Rattle.cw_strand.specs.declared.want.Want.{Want}
use Rattle.cw_strand.specs.declared.want.Want.TheVariants.{Load, Store}
use Rattle.cw_strand.specs.Strands.{Reached}
use Rattle.cw_strand.specs.Names.{first_memory}
use Rattle.cw_strand.specs.Programs.{IsCompiled}
use Rattle.cw_strand.specs.Laws.{NamesElement}
use Rattle.cw_strand.proofs.Elements.{names_elements}
use Rattle.cw_job.specs.Jobs.{Job}
use Rattle.cw_job.specs.Room.Strands.{StrandState, strands_of_job}
use Rattle.cw_job.proofs.Room.Elements.{code_elements}

-- a load or a store is of one of the first k elements
abbrev pub AccessThere : ℕ → Want → Type 0
AccessThere k (Load c) = c < k
AccessThere k (Store c v) = c < k
AccessThere k w = Unit {0}

-- the strands of a job's runs want no others
abbrev pub AccessesThere : Job → Type 0
AccessesThere job = (own : List ℕ) (x : StrandState) → Reached (strands_of_job job) own x
    → AccessThere (length (first_memory job.program.cells)) ((strands_of_job job).want x)

access_there : (code : Code) (k : ℕ) (w : Want) → code.cells ≡ k → NamesElement code w → AccessThere k w
access_there code k (Load c) is h = omega (arith, is, h)
access_there code k (Store c v) is h = omega (arith, is, h)
access_there code k w is h = tt

pub accesses_there : (job : Job) → IsCompiled job.program → AccessesThere job
unfolding strands_of_job
accesses_there job compiled own x reached =
    let p = job.program in
    access_there p.code (length (first_memory p.cells)) x.want (code_elements job compiled)
    (names_elements p.code p.sound p.main job.words job.limits own x reached)
