-- What the items declare that were checked so far.
use Rattle.std.specs.Prelude.{◌≡◌, ◌+◌, Bool, false, codes, List, ◌∷◌, ◌++◌, Result, Ok, Err, Some}
use Rattle.std.specs.Str.{bytes_eq}
use Rattle.cw_text.specs.Syntax.{Declaration, cell, func}
use Rattle.cw_strand.specs.Names.{in_items, globals, cells_from, cells_of}
use Rattle.cw_strand.specs.Compilation.{elements_in}
use Rattle.cw_compile.specs.declared.refusal.NameRefusal.{NameRefusal}
use Rattle.cw_compile.specs.declared.refusal.NameRefusal.TheVariants as refusal
use Rattle.cw_compile.specs.declared.naming.items.Declared.{Declared}
use Rattle.cw_compile.specs.NamingRules.Scopes.{IsSame}

-- The items ds after what `old` declares say the same as the items es after what `new` declares.
pub record IsSameWith (ds : List Declaration) (old : Declared) (es : List Declaration) (new : Declared) : Type 0 where
  pub faults : in_items old.names old.elements ds ≡ in_items new.names new.elements es
  pub names : IsSame (new.names ++ globals es) (old.names ++ globals ds)
  pub cells : new.cells.items ++ cells_from new.elements es ≡ old.cells.items ++ cells_from old.elements ds
  pub elements : new.elements + elements_in es ≡ old.elements + elements_in ds

-- A result adds the item to what is declared, or is its fault, whatever items follow, unless memory ran out.
abbrev pub Declares : {A : Type 0} → Declaration → Declared → Declared → Result A NameRefusal → Type 0
Declares d old new (Ok a) = (ds : List Declaration) → IsSameWith (d ∷ ds) old ds new
Declares d old new (Err (refusal.Name f)) = (ds : List Declaration) → in_items old.names old.elements (d ∷ ds) ≡ Some f
Declares d old new (Err refusal.OutOfMemory) = Unit {0}

-- what all items declare
pub record IsAllOf (ds : List Declaration) (d : Declared) : Type 0 where
  pub names : IsSame d.names (globals ds)
  pub cells : d.cells.items ≡ cells_of ds
  pub elements : d.elements ≡ elements_in ds

-- the item is the function main
abbrev pub is_main : Declaration → Bool
is_main (cell x l len i) = false
is_main (func x l ps b) = bytes_eq x (codes "main")
