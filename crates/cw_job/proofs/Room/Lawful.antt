-- The strands of a job keep the law.
use Rattle.std.proofs.Common.{◌≡◌, ℕ, Some, List, length, sym, ◌∙◌, ap, subst}
use Rattle.std.specs.Prelude.{slice_get}
use Rattle.std.proofs.lemmas.Option.{same_Some}
use Rattle.cw_text.specs.Syntax.{Declaration}
use Rattle.cw_code.specs.declared.instruction.Code.{Code}
use Rattle.cw_code.specs.declared.instruction.Func.{Func}
use Rattle.cw_code.specs.declared.program.Program.{Program}
use Rattle.cw_strand.specs.Strands.{IsDeep, Closes}
use Rattle.cw_strand.specs.Meaning as meaning
use Rattle.cw_strand.specs.Coded as coded
use Rattle.cw_strand.specs.Compilation.{code_of, main_function}
use Rattle.cw_strand.specs.Programs.{IsProgramOf, IsCompiled}
use Rattle.cw_strand.specs.Laws.{IsFaultless}
use Rattle.cw_strand.proofs.Settling.{deep}
use Rattle.cw_strand.proofs.Bounding.{bounded}
use Rattle.cw_strand.proofs.MainCode.{main_code}
use Rattle.cw_strand.proofs.CodeLaws.{code_is_lawful}
use Rattle.cw_job.specs.Jobs.{Job, TakesWords}
use Rattle.cw_job.specs.Room.Strands.{strands_of_job}

pub deep_of : (job : Job) → IsDeep (strands_of_job job)
unfolding strands_of_job
deep_of job = let p = job.program in deep (coded.runs p.code p.main job.words job.limits) (bounded p.code p.main job.words job.limits p.sound)

-- main has as many parameters in the source as in the code
pub source_takes : (ds : List Declaration) (p : Program) → IsProgramOf ds p → (n : ℕ) → TakesWords p n → meaning.MainTakes ds n
source_takes ds p is n (f, there, params) =
    let m = main_code ds is.named in
    let at : slice_get (code_of ds).funcs (main_function ds) ≡ Some f = sym (ap (λ (c : Code). slice_get c.funcs p.main) is.code ∙ ap (slice_get (code_of ds).funcs) is.main) ∙ there in
    let same : m.func ≡ f = same_Some m.func f (sym m.numbered ∙ at) in
    ap meaning.params_in m.found ∙ (sym m.params ∙ (ap (λ (g : Func). g.params) same ∙ params))

-- where the program is the compilation of a tree without a naming fault
pub closes_of : (job : Job) → IsCompiled job.program → TakesWords job.program (length job.words) → Closes (strands_of_job job)
unfolding strands_of_job
closes_of job (ds, is) takes =
    let p = job.program in
    let faultless : IsFaultless ds job.words = record { named = is.named; takes = source_takes ds p is (length job.words) takes } in
    let closes = (code_is_lawful ds job.words job.limits faultless).closes in
    subst (λ (c : Code). Closes (coded.strands_of_code c p.main job.words job.limits)) (sym is.code)
    (subst (λ (m : ℕ). Closes (coded.strands_of_code (code_of ds) m job.words job.limits)) (sym is.main) closes)
