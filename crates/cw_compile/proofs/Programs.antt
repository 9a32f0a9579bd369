-- A compilation is a program: its main is one of its functions, and its cells are numbered.
use Rattle.std.proofs.Common.{◌≡◌, ◌<◌, ℕ, zero, suc, ◌+◌, List, [], ◌∷◌, length, cond, Bool, true, false, Some, None, refl, subst, arith}
use Rattle.std.specs.Prelude.{codes, Contains}
use Rattle.std.specs.Str.{bytes_eq}
use Rattle.cw_text.specs.Syntax.{Declaration, cell, func}
use Rattle.cw_code.specs.declared.CellInfo.{CellInfo}
use Rattle.cw_code.specs.declared.instruction.CodeFault.{CodeFault}
use Rattle.cw_code.specs.Programs.{AreNumbered, IsProgramCode}
use Rattle.cw_strand.proofs.StandingNames.{no_fault}
use Rattle.cw_strand.specs.Names.{◌then◌, main_from, without_main, cells_from, naming_fault, in_items, in_functions, globals, main_of, cells_of}
use Rattle.cw_strand.specs.Compilation.{function_names, number_from, function_code, funcs_from, elements_in, code_of, main_function}

-- where there is a main, its number is one of those of the functions
main_there : (cells : List CellInfo) (functions : List (List ℕ)) (n k p : ℕ) (ds : List Declaration) → without_main (main_from n ds) ≡ None → number_from k (codes "main") (function_names ds) < k + length (funcs_from cells functions p ds)
main_there cells functions n k p [] none = absurd cc
main_there cells functions n k p (cell x l len i ∷ ds) none = main_there cells functions (suc n) k p ds none
main_there cells functions n k p (func x l ps b ∷ ds) none = by_name (bytes_eq x (codes "main")) none (main_there cells functions (suc n) (k + 1) (p + length (function_code cells functions p ps b)) ds)
  where
    by_name : (is : Bool) → without_main (cond is (Some n) (main_from (suc n) ds)) ≡ None
        → (without_main (main_from (suc n) ds) ≡ None → number_from (k + 1) (codes "main") (function_names ds) < k + 1 + length (funcs_from cells functions (p + length (function_code cells functions p ps b)) ds))
        → cond is k (number_from (k + 1) (codes "main") (function_names ds)) < k + length (funcs_from cells functions p (func x l ps b ∷ ds))
    by_name true none later = omega arith
    by_name false none later = omega (arith, later none)

numbered : (n : ℕ) (ds : List Declaration) → AreNumbered n (cells_from n ds) (n + elements_in ds)
numbered n [] = omega arith
numbered n (cell x l zero i ∷ ds) =
    let past : n + (1 + elements_in ds) ≡ n + 1 + elements_in ds = omega arith in
    (refl, rw past (numbered (n + 1) ds))
numbered n (cell x l (suc len) i ∷ ds) =
    let past : n + (suc len + elements_in ds) ≡ n + suc len + elements_in ds = omega arith in
    (refl, rw past (numbered (n + suc len) ds))
numbered n (func x l ps b ∷ ds) = numbered n ds

pub is_program : (ds : List Declaration) → naming_fault ds ≡ None → IsProgramCode (code_of ds) (cells_of ds) (main_function ds)
is_program ds none =
    let later = (no_fault (in_items [] 0 ds) (in_functions (globals ds) ds then without_main (main_of ds)) none).1 in
    let all : 0 + elements_in ds ≡ elements_in ds = omega arith in
    record {
      main_there = omega (arith, main_there (cells_of ds) (function_names ds) 0 0 0 ds (no_fault (in_functions (globals ds) ds) (without_main (main_of ds)) later).1);
      numbered = subst (AreNumbered 0 (cells_of ds)) all (numbered 0 ds);
    }

-- no list without elements has one
pub none_in : (fs : List CodeFault) (f : CodeFault) → fs ≡ [] → Contains fs f → ⊥
none_in [] f none there = absurd (omega (arith, there.1))
none_in (g ∷ fs) f none there = absurd cc
