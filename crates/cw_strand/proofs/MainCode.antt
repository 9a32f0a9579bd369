-- Where main begins, over the syntax and over its code.
use Rattle.std.proofs.Common.{◌≡◌, ◌∙◌, ◌≤◌, List, [], ◌∷◌, length, reverse, refl, sym, ap, subst, arith, Option, Some, None, ℤ}
use Rattle.std.specs.Prelude.{slice_get, codes}
use Rattle.std.proofs.lemmas.List.{length-reverse}
use Rattle.cw_text.specs.Syntax.{Declaration}
use Rattle.cw_code.specs.declared.instruction.Func.{Func}
use Rattle.cw_code.specs.declared.Limits.{Limits}
use Rattle.cw_strand.specs.Names.{globals, in_functions, naming_fault}
use Rattle.cw_strand.specs.Meaning as m
use Rattle.cw_strand.specs.Meaning.{Function, function_of, params_in, finish_main}
use Rattle.cw_strand.specs.Coded as c
use Rattle.cw_strand.specs.Compilation.{code_of, main_function, slots_with_params}
use Rattle.cw_strand.specs.Laws.{IsFaultless}
use Rattle.cw_strand.proofs.StandingNames.{no_fault, main_there}
use Rattle.cw_strand.proofs.Doing.{ends_main}
use Rattle.cw_strand.proofs.FunctionCode.{FunctionCode, function_code_there, arguments_agree, function_does}
use Rattle.cw_strand.proofs.Sharing.{Alike}

-- main of the tree, and of the code
pub record MainCode (ds : List Declaration) : Type 0 where
  pub function : Function
  pub func : Func
  pub found : function_of ds (codes "main") ≡ Some function
  pub numbered : slice_get (code_of ds).funcs (main_function ds) ≡ Some func
  pub params : func.params ≡ length function.params

pub functions_named : (ds : List Declaration) → naming_fault ds ≡ None → in_functions (globals ds) ds ≡ None
functions_named ds named = (no_fault _ _ (no_fault _ _ named).1).0

pub main_code : (ds : List Declaration) → naming_fault ds ≡ None → MainCode ds
main_code ds named = by (function_of ds (codes "main")) refl
  where
    by : (o : Option Function) → function_of ds (codes "main") ≡ o → MainCode ds
    by None is = absurd (main_there 0 ds (no_fault _ _ (no_fault _ _ named).1).1 is)
    by (Some f) is =
        let code = function_code_there ds (codes "main") f (functions_named ds named) is in
        record { function = f; func = code.func; found = is; numbered = code.numbered; params = code.params }

module _ (ds : List Declaration) (words : List ℤ) (limits : Limits) (faultless : IsFaultless ds words) where
  main : MainCode ds
  main = main_code ds faultless.named

  code : FunctionCode ds ds 0 (codes "main") main.function
  code = function_code_there ds (codes "main") main.function (functions_named ds faultless.named) main.found

  count : length main.function.params ≡ length words
  count = ap params_in (sym main.found) ∙ faultless.takes

  begins : Alike ds words limits (m.at_main (Some main.function) words) (c.starts_at (code_of ds) (Some code.func) (reverse words) limits)
  begins =
      let f = main.function in
      let vs = reverse words in
      let enough : length f.params ≤ length vs = omega (arith, count, length-reverse words) in
      record {
        slots = slots_with_params f.params [];
        height = 0;
        does = function_does ds (codes "main") f code vs enough (finish_main ∷ []) [] ends_main;
        agree = arguments_agree ds (codes "main") f code vs enough;
        operands = refl;
        high = refl;
        frames = refl;
        scopes = refl;
        fuel = refl;
        size = refl;
        back = refl;
        within = refl;
      }

  -- the two stand at the same at first
  pub starts : Alike ds words limits (m.at_main (function_of ds (codes "main")) words) (c.starts_at (code_of ds) (slice_get (code_of ds).funcs (main_function ds)) (reverse words) limits)
  starts =
      subst (λ o. Alike ds words limits (m.at_main o words) (c.starts_at (code_of ds) (slice_get (code_of ds).funcs (main_function ds)) (reverse words) limits)) (sym main.found)
      (subst (λ o. Alike ds words limits (m.at_main (Some main.function) words) (c.starts_at (code_of ds) o (reverse words) limits)) (sym code.numbered) begins)
