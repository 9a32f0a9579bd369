-- The first fault of a whole check, from those of its parts in their order.
use Rattle.std.proofs.Common.{◌≡◌, List, [], Some, None, refl}
use Rattle.cw_text.specs.Syntax.{Declaration}
use Rattle.cw_strand.specs.declared.naming.NameFault.{NameFault}
use Rattle.cw_strand.specs.Names.{Scope, Fault, in_items, in_functions, globals, main_of, without_main, naming_fault}
use Rattle.cw_compile.specs.declared.refusal.NameRefusal.{NameRefusal}
use Rattle.cw_compile.specs.declared.refusal.NameRefusal.TheVariants.{Name, OutOfMemory}
use Rattle.cw_compile.specs.NamingRules.Scopes.{IsSame, Refuses}
use Rattle.cw_compile.proofs.NamingRules.SameNames.{in_functions_same}

-- what a part refuses, the whole refuses, if the part's fault is the first one
pub refuses : (e : NameRefusal) (f g : Fault) → Refuses e f → ((x : NameFault) → f ≡ Some x → g ≡ Some x) → Refuses e g
refuses (Name x) f g found first = first x found
refuses OutOfMemory f g found first = tt

-- Where the items have no fault, and g has their names, the functions' fault is the first; then comes the want of a main.
module _ (ds : List Declaration) (g : Scope) (same : IsSame g (globals ds)) (items : in_items [] 0 ds ≡ None) where
  pub in_functions_first : (x : NameFault) → in_functions g ds ≡ Some x → naming_fault ds ≡ Some x
  in_functions_first x is = rw (items, ← in_functions_same same ds, is) refl

  pub main_last : in_functions g ds ≡ None → naming_fault ds ≡ without_main (main_of ds)
  main_last functions = rw (items, ← in_functions_same same ds, functions) refl
