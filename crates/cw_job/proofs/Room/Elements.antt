-- The strands of a job load and store only elements that are there, and where its code has no cancel they give up no block.
use Rattle.std.proofs.Common.{◌≡◌, ◌<◌, ◌+◌, ℕ, List, [], ◌∷◌, length, false, refl, ap, sym, ◌∙◌, arith}
use Rattle.cw_code.specs.Programs.{cancels}
use Rattle.cw_code.specs.declared.instruction.Code.{Code}
use Rattle.cw_code.specs.declared.program.Program.{Program}
use Rattle.cw_strand.specs.declared.want.Want.{Want}
use Rattle.cw_strand.specs.declared.want.Want.TheVariants.{Load, Store, Cancel}
use Rattle.cw_strand.specs.Strands.{Reached}
use Rattle.cw_strand.specs.Names.{first_memory}
use Rattle.cw_strand.specs.Programs.{IsCompiled}
use Rattle.cw_strand.specs.Laws.{NamesElement, GivesUpNothing}
use Rattle.cw_strand.proofs.ElementCount.{element_count}
use Rattle.cw_strand.proofs.Elements as named
use Rattle.cw_strand.proofs.Cancelling.{gives_up_nothing}
use Rattle.cw_job.specs.Jobs.{Job}
use Rattle.cw_job.specs.Room.Strands.{StrandState, strands_of_job}

-- the program is compiled, and its code has no cancel
pub record IsUncancelled (p : Program) : Type 0 where
  pub compiled : IsCompiled p
  pub cancels : cancels p.code ≡ false

-- the memory has at first as many elements as the cells
pub code_elements : (job : Job) → IsCompiled job.program → job.program.code.cells ≡ length (first_memory job.program.cells)
code_elements job (ds, is) = ap (λ (c : Code). c.cells) is.code ∙ (sym (element_count ds) ∙ ap (λ cs. length (first_memory cs)) (sym is.cells))

pub elements_of : (job : Job) → IsCompiled job.program → (strands_of_job job).elements ≡ length (first_memory job.program.cells)
unfolding strands_of_job
elements_of job compiled = code_elements job compiled

-- a load or a store is of one of the first k elements, and no block is given up
abbrev pub NamesThere : ℕ → Want → Type 0
NamesThere k (Load c) = c < k
NamesThere k (Store c v) = c < k
NamesThere k Cancel = ⊥
NamesThere k w = Unit {0}

-- the strands of a job's runs want no others
abbrev pub WantsThere : Job → Type 0
WantsThere job = (own : List ℕ) (x : StrandState) → Reached (strands_of_job job) own x → NamesThere (length (first_memory job.program.cells)) ((strands_of_job job).want x)

names_there : (code : Code) (k : ℕ) (w : Want) → code.cells ≡ k → NamesElement code w → GivesUpNothing w → NamesThere k w
names_there code k (Load c) is h keeps = omega (arith, is, h)
names_there code k (Store c v) is h keeps = omega (arith, is, h)
names_there code k Cancel is h keeps = keeps
names_there code k w is h keeps = tt

pub wants_there : (job : Job) → IsCompiled job.program → cancels job.program.code ≡ false → WantsThere job
unfolding strands_of_job
wants_there job compiled without own x reached =
    let p = job.program in
    names_there p.code (length (first_memory p.cells)) x.want (code_elements job compiled)
    (named.names_elements p.code p.sound p.main job.words job.limits own x reached)
    (gives_up_nothing p.code without p.sound p.main job.words job.limits own x reached)
