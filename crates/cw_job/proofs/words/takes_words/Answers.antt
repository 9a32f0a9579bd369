use Rattle.std.proofs.Common.{◌≡◌, ◌∙◌, Some, None, true, false, sym, ap}
use Rattle.std.specs.Prelude.{slice_get}
use Rattle.std.proofs.lemmas.Bool.{eqb-true, eq-eqb}
use Rattle.std.proofs.lemmas.Option.{same_Some}
use Rattle.cw_code.specs.declared.instruction.Code.{Code}
use Rattle.cw_code.specs.declared.instruction.Func.{Func}
use Rattle.cw_job.proofs.words.takes_words.Goals as goal

pub returns-in-Some : goal.returns-in-Some
returns-in-Some c =
    let p = c.args.program.now in
    let there : slice_get p.code.funcs p.main ≡ Some c.in-Some.func = sym (c.func.ensures ∙ ap (λ (code : Code). slice_get code.funcs p.main) c.code.ensures.code) ∙ c.in-Some.is in (
      λ yes. (c.in-Some.func, there, eqb-true c.in-Some.func.params c.args.words yes),
      λ (f, here, count). let same : f ≡ c.in-Some.func = same_Some f c.in-Some.func (sym here ∙ there) in eq-eqb c.in-Some.func.params c.args.words (sym (ap (λ (g : Func). g.params) same) ∙ count),
    )

pub returns-in-None : goal.returns-in-None
returns-in-None c =
    let p = c.args.program.now in
    let none : slice_get p.code.funcs p.main ≡ None = sym (c.func.ensures ∙ ap (λ (code : Code). slice_get code.funcs p.main) c.code.ensures.code) ∙ c.in-None.is in (
      λ no. absurd (let e : false ≡ true = no in cc),
      λ (f, here, count). absurd (let e : Some f ≡ None = sym here ∙ none in cc),
    )
