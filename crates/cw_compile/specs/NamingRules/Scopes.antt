-- Names and what they mean, as the naming rules see them, and what a result says of a naming fault.
use Rattle.std.specs.Prelude.{◌≡◌, ℕ, List, map, String, string_bytes, Some, None, Result, Ok, Err}
use Rattle.cw_strand.specs.Names.{Scope, find, Fault}
use Rattle.cw_strand.specs.Names as names
use Rattle.cw_compile.specs.declared.refusal.NameRefusal.{NameRefusal}
use Rattle.cw_compile.specs.declared.refusal.NameRefusal.TheVariants as refusal
use Rattle.cw_compile.specs.declared.naming.scope.Thing.{Thing}
use Rattle.cw_compile.specs.declared.naming.scope.Thing.TheVariants as thing

-- what a name means, in the words of the naming rules
abbrev pub thing_of : Thing → names.Thing
thing_of thing.Local = names.a_local
thing_of thing.Cell = names.a_cell
thing_of thing.Array = names.an_array
thing_of (thing.Function n) = names.a_function n

-- the scope of names, each with what it means
abbrev pub scope_of : {Y : Type 0} → List (String Y × Thing) → Scope
scope_of entries = map (λ e. (string_bytes e.0, thing_of e.1)) entries

-- Each name means the same in both.
pub record IsSame (g h : Scope) : Type 0 where
  pub finds : (n : List ℕ) → find n g ≡ find n h

-- The refusal is for the fault f, unless memory ran out.
abbrev pub Refuses : NameRefusal → Fault → Type 0
Refuses (refusal.Name x) f = f ≡ Some x
Refuses refusal.OutOfMemory f = Unit {0}

-- The result is the fault f, or there is none, unless memory ran out.
abbrev pub Finds : {A : Type 0} → Result A NameRefusal → Fault → Type 0
Finds (Ok a) f = f ≡ None
Finds (Err e) f = Refuses e f
