-- Programs that were compiled.
use Rattle.std.specs.Prelude.{◌≡◌, List, None}
use Rattle.cw_text.specs.Syntax.{Declaration}
use Rattle.cw_code.specs.declared.program.Program.{Program}
use Rattle.cw_strand.specs.Names.{naming_fault, cells_of}
use Rattle.cw_strand.specs.Compilation.{code_of, main_function}

-- The program is the compilation of the tree ds, which has no naming fault.
pub record IsProgramOf (ds : List Declaration) (p : Program) : Type 0 where
  pub named : naming_fault ds ≡ None
  pub code : p.code ≡ code_of ds
  pub cells : p.cells ≡ cells_of ds
  pub main : p.main ≡ main_function ds

-- The program is the compilation of a tree without a naming fault.
abbrev pub IsCompiled : Program → Type 0
IsCompiled p = (ds : List Declaration) × IsProgramOf ds p
