-- The code of a program without a naming fault breaks no rule.
use Rattle.std.proofs.Common.{◌≡◌, ◌∙◌, ℕ, ◌+◌, ◌≤◌, true, not, List, [], ◌∷◌, ◌++◌, length, refl, sym, ap, subst, arith, None, pos, length-append, add-zero}
use Rattle.std.specs.Prelude.{if◌then◌else◌}
use Rattle.std.proofs.lemmas.Bool.{eq-eqb, le-leb, le-ltb, lt-leb}
use Rattle.cw_text.specs.declared.ast.Word.{Word}
use Rattle.cw_text.specs.Syntax.{Block, Declaration, cell, func}
use Rattle.cw_code.specs.declared.CellInfo.{CellInfo}
use Rattle.cw_code.specs.declared.instruction.Instr.{Instr}
use Rattle.cw_code.specs.declared.instruction.Func.{Func}
use Rattle.cw_code.specs.declared.instruction.Code.{Code}
use Rattle.cw_code.specs.Rules.{places, size_of, place_faults, is_laid, faults_from}
use Rattle.cw_code.proofs.Expected.{AllFit}
use Rattle.cw_code.proofs.Passes.{no_fault, none_of_two, none_at_places}
use Rattle.cw_code.proofs.Walk.{at, expected, at_first, Walks, further}
use Rattle.cw_strand.specs.declared.naming.Around.TheVariants as around
use Rattle.cw_strand.specs.Names.{◌then◌, globals, in_params, in_block, in_functions, in_items, without_main, main_of, cells_of}
use Rattle.cw_strand.specs.Names as names
use Rattle.cw_strand.specs.Compilation.{Slots, code_of, function_names, instrs_from, funcs_from, function_code, block_code, slots_with_params, most}
use Rattle.cw_strand.specs.Compilation as instr
use Rattle.cw_strand.specs.Laws.{BreaksNoRule}
use Rattle.cw_strand.proofs.Numbering.{most_from, scope_of, scope_of_params, count_of_params}
use Rattle.cw_strand.proofs.StandingNames as standing
use Rattle.cw_strand.proofs.Doing.{HasAt, front, behind, stands_behind}
use Rattle.cw_strand.proofs.Unbroken.Terms.{push_fits}
use Rattle.cw_strand.proofs.Unbroken.Statements.{wait_fits, ret_fits, block_fits}

module _ (ds : List Declaration) (all_named : in_functions (globals ds) ds ≡ None) where
  abbrev code : Code
  code = code_of ds

  abbrev cells : List CellInfo
  cells = cells_of ds

  abbrev function_list : List (List ℕ)
  function_list = function_names ds

  -- ## A function

  module _ (p : ℕ) (ps : List Word) (body : Block) (named : in_block (scope_of ds (slots_with_params ps [])) around.Neither body ≡ None) (has : HasAt code.instrs p (function_code cells function_list p ps body)) where
    abbrev here : List Instr
    here = function_code cells function_list p ps body

    abbrev f : Func
    f = record { params = length ps; locals = most (length ps) body; start = p; end = p + length here }

    abbrev g : Slots
    g = slots_with_params ps []

    abbrev is : List Instr
    is = block_code cells function_list g p 0 body

    -- the function gives 0 at its end
    abbrev ending : List Instr
    ending = instr.wait ∷ instr.push (pos 0) ∷ instr.ret ∷ []

    long : length here ≡ length is + 3
    long = length-append is ending

    walks : Walks code f p (p + length here) (at 0 [])
    walks =
        let count : length g ≡ length ps = count_of_params ps [] ∙ add-zero (length ps) in
        let least = most_from (length ps) body in
        let visible : length g ≤ f.locals = omega arith in
        let room : most (length g) body ≤ f.locals = subst (λ n. most n body ≤ f.locals) (sym count) (omega arith) in
        let q = p + length is in
        let rest = behind code.instrs p is ending has in
        let ends : q + 1 + 1 + 1 ≡ p + length here = omega (arith, long) in
        subst (λ r. Walks code f p r (at 0 [])) ends
        (further code f p q (q + 1 + 1 + 1) (at 0 []) (at 0 []) ((block_fits ds f all_named around.Neither body g p 0 [] refl named visible room (omega arith) (front code.instrs p is ending has) (omega (arith, long)) (at_first code f)).fits tt) (λ w.
        further code f q (q + 1) (q + 1 + 1 + 1) (at 0 []) (at 0 []) (wait_fits ds f all_named 0 q [] (omega arith) (omega (arith, long)) rest.0 w) (λ v.
        further code f (q + 1) (q + 1 + 1) (q + 1 + 1 + 1) (at 1 []) (at 0 []) (push_fits ds f all_named g visible (q + 1) 0 [] (omega arith) (omega (arith, long)) (pos 0) rest.1.0 v) (λ u.
        ret_fits ds f all_named (q + 1 + 1) (omega arith) rest.1.1.0 u))))

    all_fit : AllFit code f (expected code f)
    all_fit = record { starts = at_first code f; some = omega (arith, long); each = walks.fits }

    -- a function breaks no rule, where those behind it break none
    func_breaks_none : (fs : List Func) → p + length here ≤ length code.instrs → faults_from code true f.end fs ≡ [] → faults_from code true p (f ∷ fs) ≡ []
    func_breaks_none fs le rest =
        let laid : is_laid code p f ≡ true = rw (eq-eqb p p refl, le-leb p (p + length here) (omega arith), le-leb (p + length here) (length code.instrs) le) refl in
        none_of_two _ _
        (none_of_two _ _ (no_fault _ _ p (le-ltb f.locals f.params (most_from (length ps) body)))
        (none_of_two _ _ (no_fault _ _ p (ap not laid)) (no_fault _ _ p (lt-leb f.end p (omega (arith, long))))))
        (subst (λ b. (if b then place_faults code f (places code f) (size_of f) else []) ++ faults_from code b f.end fs ≡ []) (sym laid)
        (none_of_two _ _ (none_at_places code f (expected code f) all_fit (size_of f) (omega arith)) rest))

  -- ## The functions

  functions_break_none : (rest : List Declaration) (p : ℕ) → HasAt code.instrs p (instrs_from cells function_list p rest) → p + length (instrs_from cells function_list p rest) ≡ length code.instrs → in_functions (globals ds) rest ≡ None → faults_from code true p (funcs_from cells function_list p rest) ≡ []
  functions_break_none [] p has ends named = no_fault _ _ p (le-ltb p (length code.instrs) (omega arith))
  functions_break_none (cell x l len i ∷ rest) p has ends named = functions_break_none rest p has ends named
  functions_break_none (func x l ps b ∷ rest) p has ends named =
      let here = function_code cells function_list p ps b in
      let later = instrs_from cells function_list (p + length here) rest in
      let in_body = in_block (names.scope_with_params (globals ds) ps) around.Neither b in
      let in_rest = in_functions (globals ds) rest in
      let parts = standing.no_fault in_body in_rest (standing.no_fault (in_params (globals ds) ps) (in_body then in_rest) named).1 in
      let fine : in_block (scope_of ds (slots_with_params ps [])) around.Neither b ≡ None = subst (λ g. in_block g around.Neither b ≡ None) (scope_of_params ds ps []) parts.0 in
      let long = length-append here later in
      func_breaks_none p ps b fine (front code.instrs p here later has) (funcs_from cells function_list (p + length here) rest) (omega (arith, long))
      (functions_break_none rest (p + length here) (behind code.instrs p here later has) (omega (arith, long)) parts.1)

pub breaks_no_rule : BreaksNoRule
breaks_no_rule ds named =
    let functions = in_functions (globals ds) ds in
    let last = without_main (main_of ds) in
    let later = (standing.no_fault (in_items [] 0 ds) (functions then last) named).1 in
    let all_named = (standing.no_fault functions last later).0 in
    functions_break_none ds all_named ds 0 (stands_behind [] (code_of ds).instrs) (omega arith) all_named
