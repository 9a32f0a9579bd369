-- The code of a function that is found by its name.
use Rattle.std.proofs.Common.{◌≡◌, ◌∙◌, ℕ, suc, ◌+◌, ◌-◌, ◌≤◌, Bool, true, false, List, [], ◌∷◌, ◌++◌, length, take, reverse, replicate, refl, sym, ap, subst, arith, Some, None, ℤ, pos, length-append, add-zero}
use Rattle.std.specs.Prelude.{slice_get, if◌then◌else◌}
use Rattle.std.specs.Str.{bytes_eq}
use Rattle.std.proofs.lemmas.List.{length-reverse, length-replicate, length-take-le}
use Rattle.std.proofs.lemmas.Option.{same_Some}
use Rattle.cw_text.specs.Syntax.{Declaration, cell, func, number}
use Rattle.cw_code.specs.declared.CellInfo.{CellInfo}
use Rattle.cw_code.specs.declared.instruction.Instr.{Instr}
use Rattle.cw_code.specs.declared.instruction.Func.{Func}
use Rattle.cw_strand.specs.declared.naming.Around.TheVariants as around
use Rattle.cw_strand.specs.Names.{globals, in_block, in_functions, cells_of}
use Rattle.cw_strand.specs.Meaning.{Function, Task, function_of, bound_to, perform, wait, value}
use Rattle.cw_strand.specs.Coded.{Frame, locals_for}
use Rattle.cw_strand.specs.Compilation.{code_of, function_names, number_from, instrs_from, funcs_from, function_code, block_code, slots_with_params, most, push}
use Rattle.cw_strand.specs.Compilation as instr
use Rattle.cw_strand.proofs.StandingNames.{no_fault}
use Rattle.cw_strand.proofs.Numbering.{most_from, Agree, scope_of, scope_of_params, count_of_params, agree_arguments}
use Rattle.cw_strand.proofs.Doing.{HasAt, front, behind, stands_behind, Does, Ending, does_perform, does_wait, does_value, does_end}

module _ (ds : List Declaration) where
  abbrev cells : List CellInfo
  cells = cells_of ds

  abbrev function_list : List (List ℕ)
  function_list = function_names ds

  abbrev instrs : List Instr
  instrs = (code_of ds).instrs

  -- the code of the function of this name, which is numbered from k on
  pub record FunctionCode (rest : List Declaration) (k : ℕ) (n : List ℕ) (f : Function) : Type 0 where
    pub func : Func
    pub numbered : slice_get (code_of ds).funcs (number_from k n (function_names rest)) ≡ Some func
    pub params : func.params ≡ length f.params
    pub locals : func.locals ≡ most (length f.params) f.body
    pub named : in_block (scope_of ds (slots_with_params f.params [])) around.Neither f.body ≡ None
    pub stands : HasAt instrs func.start (function_code cells function_list func.start f.params f.body)

  code_in : (rest : List Declaration) (p k : ℕ) (n : List ℕ) (f : Function) → HasAt instrs p (instrs_from cells function_list p rest) → ((j : ℕ) → slice_get (funcs_from cells function_list p rest) j ≡ slice_get (code_of ds).funcs (k + j))
      → in_functions (globals ds) rest ≡ None → function_of rest n ≡ Some f → FunctionCode rest k n f
  code_in [] p k n f has same named is = absurd cc
  code_in (cell x l len v ∷ rest) p k n f has same named is =
      let q = code_in rest p k n f has same named is in
      record { func = q.func; numbered = q.numbered; params = q.params; locals = q.locals; named = q.named; stands = q.stands }
  code_in (func x l ps b ∷ rest) p k n f has same named is = by (bytes_eq x n) refl is (λ z. code_in rest (p + length here) (k + 1) n f (behind instrs p here later has) shifted ((no_fault _ _ (no_fault _ _ named).1).1) z)
    where
      here : List Instr
      here = function_code cells function_list p ps b

      later : List Instr
      later = instrs_from cells function_list (p + length here) rest

      shifted : (j : ℕ) → slice_get (funcs_from cells function_list (p + length here) rest) j ≡ slice_get (code_of ds).funcs (k + 1 + j)
      shifted j = let e : k + suc j ≡ k + 1 + j = omega arith in same (suc j) ∙ ap (slice_get (code_of ds).funcs) e

      by : (y : Bool) → bytes_eq x n ≡ y → (if y then Some (record { params = ps; body = b }) else function_of rest n) ≡ Some f → (function_of rest n ≡ Some f → FunctionCode rest (k + 1) n f) → FunctionCode (func x l ps b ∷ rest) k n f
      by true e z g =
          let at : k + 0 ≡ k = omega arith in
          subst (λ (h : Function). FunctionCode (func x l ps b ∷ rest) k n h) (same_Some _ f z) (record {
            func = record { params = length ps; locals = most (length ps) b; start = p; end = p + length here };
            numbered = ap (λ y. slice_get (code_of ds).funcs (if y then k else number_from (k + 1) n (function_names rest))) e ∙ ap (slice_get (code_of ds).funcs) (sym at) ∙ sym (same 0);
            params = refl;
            locals = refl;
            named = subst (λ g. in_block g around.Neither b ≡ None) (scope_of_params ds ps []) ((no_fault _ _ (no_fault _ _ named).1).0);
            stands = front instrs p here later has;
          })
      by false e z g =
          let q = g z in
          record {
            func = q.func;
            numbered = ap (λ y. slice_get (code_of ds).funcs (if y then k else number_from (k + 1) n (function_names rest))) e ∙ q.numbered;
            params = q.params;
            locals = q.locals;
            named = q.named;
            stands = q.stands;
          }

  pub function_code_there : (n : List ℕ) (f : Function) → in_functions (globals ds) ds ≡ None → function_of ds n ≡ Some f → FunctionCode ds 0 n f
  function_code_there n f named is =
      let there : (j : ℕ) → slice_get (code_of ds).funcs j ≡ slice_get (code_of ds).funcs (0 + j) = λ j. let e : j ≡ 0 + j = omega arith in ap (slice_get (code_of ds).funcs) e in
      code_in ds 0 0 n f (stands_behind [] instrs) there named is

  -- ## A function that begins

  module _ (n : List ℕ) (f : Function) (c : FunctionCode ds 0 n f) (vs : List ℤ) (enough : length f.params ≤ length vs) where
    -- its locals are the arguments
    pub arguments_agree : Agree (bound_to (reverse f.params) vs) (slots_with_params f.params []) (locals_for c.func vs)
    arguments_agree =
        let zeros = replicate (c.func.locals - c.func.params) (pos 0) in
        subst (λ z. Agree (bound_to (reverse f.params) vs) (slots_with_params f.params []) (reverse (take z vs) ++ zeros)) (sym c.params) (agree_arguments f.params vs zeros enough)

    -- and its code does its body, gives 0 at its end, and does what comes behind that
    pub function_does : (todo : List Task) (fs : List Frame) → Ending ds instrs todo fs
        → Does ds instrs (length (locals_for c.func vs)) (slots_with_params f.params []) 0 (perform f.body ∷ wait ∷ value (number (pos 0)) ∷ todo) c.func.start fs
    function_does todo fs ending =
        let g = slots_with_params f.params [] in
        let numbers = locals_for c.func vs in
        let body = block_code cells function_list g c.func.start 0 f.body in
        let last = instr.wait ∷ push (pos 0) ∷ instr.ret ∷ [] in
        let tail = behind instrs c.func.start body last c.stands in
        let fewer : c.func.params ≤ c.func.locals = omega (arith, c.params, c.locals, most_from (length f.params) f.body) in
        let taken : c.func.params ≤ length vs = omega (arith, enough, c.params) in
        let long : length numbers ≡ c.func.locals = simp (length-append, length-reverse, length-replicate, length-take-le c.func.params vs taken) (omega arith) in
        let visible : length g ≡ length f.params = count_of_params f.params [] ∙ add-zero (length f.params) in
        let room : most (length g) f.body ≤ length numbers = subst (λ z. most z f.body ≤ length numbers) (sym visible) (omega (arith, long, c.locals)) in
        does_perform around.Neither 0 c.named room (front instrs c.func.start body last c.stands) (λ more never. cc) (does_wait tail.0 (does_value refl (tail.1.0, tt) (does_end tail.1.1.0 ending)))
