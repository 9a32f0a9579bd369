-- Each name that the naming rules let a program use stands for a local, a cell or a function, whatever locals there are.
use Rattle.std.proofs.Common.{◌≡◌, ◌≢◌, ◌≤◌, ◌∙◌, ℕ, zero, suc, ◌+◌, ◌-◌, List, [], ◌∷◌, ◌++◌, length, drop, map, reverse, Bool, true, false, cond, Option, Some, None, ℤ, refl, sym, ap, subst, arith}
use Rattle.std.specs.Prelude.{◌==◌, if◌then◌else◌, codes}
use Rattle.std.specs.Bool.{Decides}
use Rattle.std.proofs.lemmas.Bool.{eqb-true}
use Rattle.std.proofs.lemmas.List.{length-map, drop-map, map-append, reverse-append}
use Rattle.std.proofs.lemmas.Option.{same_Some}
use Rattle.std.proofs.lemmas.Slice.Eq.{bytes_eq-Decides}
use Rattle.std.specs.Str.{bytes_eq}
use Rattle.cw_text.specs.declared.ast.Word.{Word}
use Rattle.cw_text.specs.Syntax.{Declaration, cell, func}
use Rattle.cw_code.specs.declared.CellInfo.{CellInfo}
use Rattle.cw_strand.specs.Names.{Thing, a_local, a_function, cell_thing, Scope, ◌then◌, find, used, indexed, fault_of_call, elements, globals, scope_with_params, in_block, in_functions, main_from, without_main, cells_from, cells_of}
use Rattle.cw_strand.specs.Names as names
use Rattle.cw_strand.specs.declared.naming.NameKind.TheVariants.{WrongCount}
use Rattle.cw_strand.specs.declared.naming.Around.TheVariants as around
use Rattle.cw_strand.specs.Meaning.{Locals, Function, function_of, local_of, with_local, bound_to, element_of, cell_of}

-- where neither of two has a fault, none has one
pub no_fault : (f g : names.Fault) → f then g ≡ None → (f ≡ None) × (g ≡ None)
no_fault None g h = (refl, h)
no_fault (Some f) g h = absurd cc

-- a local or a cell is found
abbrev pub IsFound : Option ℤ → Option ℕ → Type 0
IsFound None None = ⊥
IsFound v c = Unit {0}

-- ## The names of the program

cell_found : (b : Bool) (thing : Thing) (base : ℕ) (t : Option Thing) (c : Option ℕ) (line : ℕ) → (used t line ≡ None → IsFound None c) → used (cond b (Some thing) t) line ≡ None → IsFound None (cond b (Some base) c)
cell_found true thing base t c line later h = tt
cell_found false thing base t c line later h = later h

function_found : (b : Bool) (k : ℕ) (t : Option Thing) (c : Option ℕ) (line : ℕ) → (used t line ≡ None → IsFound None c) → used (cond b (Some (a_function k)) t) line ≡ None → IsFound None c
function_found true k t c line later h = absurd cc
function_found false k t c line later h = later h

globals_found : (k : ℕ) (ds : List Declaration) (n : List ℕ) (line : ℕ) → used (find n (globals ds)) line ≡ None → IsFound None (element_of (cells_from k ds) n)
globals_found k [] n line h = absurd cc
globals_found k (cell x l len i ∷ ds) n line h = cell_found (bytes_eq n x) (cell_thing len) k _ _ line (globals_found (k + elements len) ds n line) h
globals_found k (func x l ps b ∷ ds) n line h = function_found (bytes_eq n x) (length ps) _ _ line (globals_found k ds n line) h

-- an array is found
abbrev pub IsCell : Option CellInfo → Type 0
IsCell None = ⊥
IsCell (Some c) = Unit {0}

array_found : (b : Bool) (thing : Thing) (i : CellInfo) (t : Option Thing) (o : Option CellInfo) (line : ℕ) → (indexed t line ≡ None → IsCell o) → indexed (cond b (Some thing) t) line ≡ None → IsCell (cond b (Some i) o)
array_found true thing i t o line later h = tt
array_found false thing i t o line later h = later h

no_array_found : (b : Bool) (thing : Thing) (t : Option Thing) (o : Option CellInfo) (line : ℕ) → indexed (Some thing) line ≢ None → (indexed t line ≡ None → IsCell o) → indexed (cond b (Some thing) t) line ≡ None → IsCell o
no_array_found true thing t o line never later h = absurd (never h)
no_array_found false thing t o line never later h = later h

globals_indexed : (k : ℕ) (ds : List Declaration) (n : List ℕ) (line : ℕ) → indexed (find n (globals ds)) line ≡ None → IsCell (cell_of (cells_from k ds) n)
globals_indexed k [] n line h = absurd cc
globals_indexed k (cell x l len i ∷ ds) n line h = array_found (bytes_eq n x) (cell_thing len) _ _ _ line (globals_indexed (k + elements len) ds n line) h
globals_indexed k (func x l ps b ∷ ds) n line h = no_array_found (bytes_eq n x) (a_function (length ps)) _ _ line (λ e. cc) (globals_indexed k ds n line) h

-- ## The names of locals

-- those of the locals, the newest first
abbrev pub names_of : Locals → List (List ℕ)
names_of ls = map (λ (x : List ℕ × ℤ). x.0) ls

-- what is visible where the locals have these names
abbrev pub with_names : List (List ℕ) → Scope → Scope
with_names [] g = g
with_names (n ∷ ns) g = (n, a_local) ∷ with_names ns g

local_found : (b : Bool) (v : ℤ) (t : Option Thing) (o : Option ℤ) (c : Option ℕ) (line : ℕ) → (used t line ≡ None → IsFound o c) → used (cond b (Some a_local) t) line ≡ None → IsFound (cond b (Some v) o) c
local_found true v t o c line later h = tt
local_found false v t o c line later h = later h

pub name_found : (ds : List Declaration) (ls : Locals) (n : List ℕ) (line : ℕ) → used (find n (with_names (names_of ls) (globals ds))) line ≡ None → IsFound (local_of ls n) (element_of (cells_of ds) n)
name_found ds [] n line h = globals_found 0 ds n line h
name_found ds (x ∷ ls) n line h = local_found (bytes_eq n x.0) x.1 _ _ _ line (name_found ds ls n line) h

first_kept : (b : Bool) (x : List ℕ × ℤ) (v : ℤ) (ls ks : Locals) → names_of ks ≡ names_of ls → names_of (cond b ((x.0, v) ∷ ls) (x ∷ ks)) ≡ x.0 ∷ names_of ls
first_kept true x v ls ks h = refl
first_kept false x v ls ks h = ap (λ (ns : List (List ℕ)). x.0 ∷ ns) h

-- a local that is set keeps its name
pub names_kept : (ls : Locals) (n : List ℕ) (v : ℤ) → names_of (with_local ls n v) ≡ names_of ls
names_kept [] n v = refl
names_kept (x ∷ ls) n v = first_kept (bytes_eq n x.0) x v ls (with_local ls n v) (names_kept ls n v)

pub names_dropped : (ls : Locals) (n : ℕ) → drop (length (names_of ls) - n) (names_of ls) ≡ names_of (drop (length ls - n) ls)
names_dropped ls n = rw (length-map ls) (drop-map _ (length ls - n) ls)

-- an array that may be indexed, whatever locals there are
pub name_indexed : (ds : List Declaration) (names : List (List ℕ)) (n : List ℕ) (line : ℕ) → indexed (find n (with_names names (globals ds))) line ≡ None → IsCell (cell_of (cells_of ds) n)
name_indexed ds [] n line h = globals_indexed 0 ds n line h
name_indexed ds (x ∷ names) n line h = no_array_found (bytes_eq n x) a_local _ _ line (λ e. cc) (name_indexed ds names n line) h

-- ## Functions

pub eq_turned : (a b : List ℕ) → bytes_eq a b ≡ bytes_eq b a
eq_turned a b = by (bytes_eq a b) (bytes_eq b a) (bytes_eq-Decides a b) (bytes_eq-Decides b a)
  where
    by : (x y : Bool) → Decides x (a ≡ b) → Decides y (b ≡ a) → x ≡ y
    by true true d e = refl
    by false false d e = refl
    by true false d e = let no : false ≡ true = e.1 (sym (d.0 refl)) in cc
    by false true d e = let no : false ≡ true = d.1 (sym (e.0 refl)) in cc

-- there is a function with the name n and `takes` parameters
pub record IsFunction (ds : List Declaration) (n : List ℕ) (takes : ℕ) : Type 0 where
  pub function : Function
  pub found : function_of ds n ≡ Some function
  pub count : length function.params ≡ takes

no_cell_called : (len c line : ℕ) → fault_of_call (Some (cell_thing len)) c line ≡ None → ⊥
no_cell_called zero c line h = cc
no_cell_called (suc n) c line h = cc

count_right : (k c line : ℕ) (b : Bool) → (k == c) ≡ b → (if b then None else names.fault WrongCount line) ≡ None → k ≡ c
count_right k c line true e h = eqb-true k c e
count_right k c line false e h = absurd cc

globals_called : (ds : List Declaration) (n : List ℕ) (c line : ℕ) → fault_of_call (find n (globals ds)) c line ≡ None → IsFunction ds n c
globals_called [] n c line h = absurd cc
globals_called (cell x l len i ∷ ds) n c line h = by (bytes_eq n x) h (globals_called ds n c line)
  where
    by : (b : Bool) → fault_of_call (if b then Some (cell_thing len) else find n (globals ds)) c line ≡ None → (fault_of_call (find n (globals ds)) c line ≡ None → IsFunction ds n c) → IsFunction (cell x l len i ∷ ds) n c
    by true e later = absurd (no_cell_called len c line e)
    by false e later = let q = later e in record { function = q.function; found = q.found; count = q.count }
globals_called (func x l ps b ∷ ds) n c line h = by (bytes_eq n x) refl h (globals_called ds n c line)
  where
    f : Function
    f = record { params = ps; body = b }

    by : (z : Bool) → bytes_eq n x ≡ z → fault_of_call (if z then Some (a_function (length ps)) else find n (globals ds)) c line ≡ None → (fault_of_call (find n (globals ds)) c line ≡ None → IsFunction ds n c) → IsFunction (func x l ps b ∷ ds) n c
    by true e z later = record { function = f; found = ap (λ y. if y then Some f else function_of ds n) (eq_turned x n ∙ e); count = count_right (length ps) c line (length ps == c) refl z }
    by false e z later =
        let q = later z in
        record { function = q.function; found = ap (λ y. if y then Some f else function_of ds n) (eq_turned x n ∙ e) ∙ q.found; count = q.count }

-- a function that may be called, whatever locals there are
pub name_called : (ds : List Declaration) (names : List (List ℕ)) (n : List ℕ) (c line : ℕ) → fault_of_call (find n (with_names names (globals ds))) c line ≡ None → IsFunction ds n c
name_called ds [] n c line h = globals_called ds n c line h
name_called ds (x ∷ names) n c line h = by (bytes_eq n x) h (name_called ds names n c line)
  where
    by : (b : Bool) → fault_of_call (if b then Some a_local else find n (with_names names (globals ds))) c line ≡ None → (fault_of_call (find n (with_names names (globals ds))) c line ≡ None → IsFunction ds n c) → IsFunction ds n c
    by true e later = absurd cc
    by false e later = later e

found_or_later : (b : Bool) (n : ℕ) (o : Option ℕ) (f : Function) (p : Option Function)
    → without_main (cond b (Some n) o) ≡ None → cond b (Some f) p ≡ None → (without_main o ≡ None → p ≡ None → ⊥) → ⊥
found_or_later true n o f p named is later = absurd cc
found_or_later false n o f p named is later = later named is

-- a function of this name is there where main is found
pub main_there : (k : ℕ) (ds : List Declaration) → without_main (main_from k ds) ≡ None → function_of ds (codes "main") ≡ None → ⊥
main_there k [] named is = absurd cc
main_there k (cell x l len i ∷ ds) named is = main_there (suc k) ds named is
main_there k (func x l ps b ∷ ds) named is =
    found_or_later (bytes_eq x (codes "main")) k (main_from (suc k) ds) (record { params = ps; body = b }) (function_of ds (codes "main")) named is (main_there (suc k) ds)

-- ## What a function begins with

abbrev pub name_of : Word → List ℕ
name_of w = w.name

with_names_behind : (xs : List (List ℕ)) (n : List ℕ) (g : Scope) → with_names (xs ++ n ∷ []) g ≡ with_names xs ((n, a_local) ∷ g)
with_names_behind [] n g = refl
with_names_behind (x ∷ xs) n g = ap (λ (h : Scope). (x, a_local) ∷ h) (with_names_behind xs n g)

-- its locals have its parameters' names
bound_names : (ws : List Word) (vs : List ℤ) → length ws ≤ length vs → names_of (bound_to ws vs) ≡ map name_of ws
bound_names [] vs is = refl
bound_names (w ∷ ws) [] is = absurd (omega (arith, is))
bound_names (w ∷ ws) (v ∷ vs) is = ap (λ (ns : List (List ℕ)). w.name ∷ ns) (bound_names ws vs (omega (arith, is)))

params_named : (ws : List Word) (g : Scope) → scope_with_params g ws ≡ with_names (map name_of (reverse ws)) g
params_named [] g = refl
params_named (w ∷ ws) g =
    let turned : map name_of (reverse ws) ++ w.name ∷ [] ≡ map name_of (reverse (w ∷ ws)) =
    sym (map-append name_of (reverse ws) (w ∷ [])) ∙ ap (λ (l : List Word). map name_of l) (sym (reverse-append (w ∷ []) ws)) in
    params_named ws ((w.name, a_local) ∷ g)
    ∙ (sym (with_names_behind (map name_of (reverse ws)) w.name g) ∙ ap (λ (ns : List (List ℕ)). with_names ns g) turned)

abbrev HasNoFault : Scope → Function → Type 0
HasNoFault g f = in_block (scope_with_params g f.params) around.Neither f.body ≡ None

first_or_later : (g : Scope) (b : Bool) (f h : Function) (p : Option Function) → cond b (Some f) p ≡ Some h → HasNoFault g f → (p ≡ Some h → HasNoFault g h) → HasNoFault g h
first_or_later g true f h p is fine later = subst (λ (e : Function). HasNoFault g e) (same_Some f h is) fine
first_or_later g false f h p is fine later = later is

no_block_fault : (g : Scope) (ds : List Declaration) (n : List ℕ) (f : Function) → in_functions g ds ≡ None → function_of ds n ≡ Some f → HasNoFault g f
no_block_fault g [] n f named is = absurd cc
no_block_fault g (cell x l len i ∷ ds) n f named is = no_block_fault g ds n f named is
no_block_fault g (func x l ps b ∷ ds) n f named is =
    let (here, later) = no_fault _ _ (no_fault _ _ named).1 in
    first_or_later g (bytes_eq x n) (record { params = ps; body = b }) f (function_of ds n) is here (no_block_fault g ds n f later)

-- the body has no naming fault where the locals are its arguments
pub body_named : (ds : List Declaration) (n : List ℕ) (f : Function) (vs : List ℤ) → in_functions (globals ds) ds ≡ None → function_of ds n ≡ Some f → length (reverse f.params) ≤ length vs
    → in_block (with_names (names_of (bound_to (reverse f.params) vs)) (globals ds)) around.Neither f.body ≡ None
body_named ds n f vs named is enough =
    let fine = no_block_fault (globals ds) ds n f named is in
    let same = bound_names (reverse f.params) vs enough in
    let scope = params_named f.params (globals ds) ∙ ap (λ (ns : List (List ℕ)). with_names ns (globals ds)) (sym same) in
    subst (λ (g : Scope). in_block g around.Neither f.body ≡ None) scope fine
