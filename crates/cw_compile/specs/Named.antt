-- What names mean: in a map, and in a list of declarations.
use Rattle.std.specs.Prelude.{◌≡◌, ℕ, List, [], ◌∷◌, Option, Some, None, IsSome, if◌then◌else◌}
use Rattle.std.specs.Cmp.Lexicographic.{slice_cmp}
use Rattle.std.specs.Ordering.{nat_cmp}
use Rattle.std.specs.BTreeMap.{get_by}
use Rattle.std.specs.Str.{bytes_eq}
use Rattle.cw_compile.specs.declared.names.Names.{Names}
use Rattle.cw_compile.specs.declared.locals.Hidden.{Hidden}

-- what a name means in a map
abbrev pub value_named : {V : Type 0} → Names V → List ℕ → Option V
value_named names n = get_by (λ k. slice_cmp nat_cmp n k.now) names.map

-- what a name means in a list, the newest first
abbrev pub named : {V : Type 0} → List (List ℕ × V) → List ℕ → Option V
named [] n = None
named (x ∷ xs) n = if bytes_eq n x.0 then Some x.1 else named xs n

-- what each name meant before `h.name` was declared
abbrev pub before_declared : {V : Type 0} → Hidden V → (List ℕ → Option V) → List ℕ → Option V
before_declared h f n = if bytes_eq n h.name.now then h.value else f n

-- the list with the name n too, if it means something
abbrev pub with_name : {V : Type 0} → List ℕ → Option V → List (List ℕ × V) → List (List ℕ × V)
with_name n None xs = xs
with_name n (Some v) xs = (n, v) ∷ xs

-- the list of what was declared, given what each name means now
abbrev pub list_of : {V : Type 0} → List (Hidden V) → (List ℕ → Option V) → List (List ℕ × V)
list_of [] f = []
list_of (h ∷ hs) f = with_name h.name.now (f h.name.now) (list_of hs (before_declared h f))

-- Each name that was declared means something, and no other does.
abbrev pub Fits : {V : Type 0} → List (Hidden V) → (List ℕ → Option V) → Type 0
Fits [] f = (n : List ℕ) → f n ≡ None
Fits (h ∷ hs) f = IsSome (f h.name.now) × Fits hs (before_declared h f)
