-- Numbers, what they stand for, and which seat knows it.
use Rattle.std.specs.Prelude.{◌≡◌, ◌⊎◌, ℕ, suc, ◌+◌, ◌<◌, ◌≤◌, ◌^◌, List, [], ◌∷◌, ◌++◌, min, Option, None}
use mathlib.Core.Option.{some}
use lib.ListN.{get_elem?}
use Rattle.atomic_table.specs.Table.{Me, Step}
use Rattle.atomic_table.specs.Seated.{TableId}
use Rattle.cw_pair.specs.declared.view.Binding.{Binding}
use Rattle.cw_pair.specs.declared.view.Known.{Known}

-- What contracts see of a source: the numbers that it may still give, from `next` up to, but not including, `end`.
pub record Numbers : Type 0 where
  pub next : ℕ
  pub end : ℕ

-- any table, for type parameters that nobody chose; each run picks its own
abbrev pub no_table : TableId
no_table = record { words = 0; slots = 0; views_name = 0; atom = 0; block = 0; offset = 0; slot_names = [] }

module _ {T : Type 0} where
  -- ## Views

  abbrev pub binding : ℕ → Option T → Binding T
  binding n x = record { number = n; of = x }

  -- the view before any number was given
  abbrev pub whole : Known T
  whole = record { first = 0; last = 2 ^ 63; bindings = [] }

  -- the view that knows nothing and may give nothing
  abbrev pub none : Known T
  none = record { first = 0; last = 0; bindings = [] }

  -- where a source is cut in two when it is shared: it keeps at most the next 2 ^ 40 numbers
  abbrev pub middle : Known T → ℕ
  middle v = min v.last (v.first + 2 ^ 40)

  abbrev pub lower : Known T → Known T
  lower v = record v { last = middle v }

  abbrev pub upper : Known T → Known T
  upper v = record v { first = middle v; bindings = [] }

  -- the view after its first number was given
  abbrev pub gone : Known T → Known T
  gone v = record v { first = suc v.first }

  abbrev pub given : ℕ → Option T → Known T
  given n x = record { first = 0; last = 0; bindings = binding n x ∷ [] }

  abbrev pub both : Known T → Known T → Known T
  both v w = record { first = 0; last = 0; bindings = v.bindings ++ w.bindings }

  -- what the first binding says
  abbrev pub meant_in : List (Binding T) → Option T
  meant_in [] = None
  meant_in (x ∷ xs) = x.of

  abbrev pub meant : Known T → Option T
  meant v = meant_in v.bindings

  abbrev pub Has : List (Binding T) → Binding T → Type 0
  Has [] y = ⊥
  Has (x ∷ xs) y = (x ≡ y) ⊎ Has xs y

  -- ## The rule

  -- a seat with view `v` may still give the number `n`
  pub record MayGive (v : Known T) (n : ℕ) : Type 0 where
    pub first : v.first ≤ n
    pub last : n < v.last

  -- Bindings of one number agree. A number that may still be given is in no binding, and only one seat may give it.
  pub record IsKept (views : List (Known T)) : Type 0 where
    pub agree : (i j : ℕ) (u v : Known T) (x y : Binding T) → get_elem? views i ≡ some u → get_elem? views j ≡ some v → Has u.bindings x → Has v.bindings y → x.number ≡ y.number → x.of ≡ y.of
    pub fresh : (i j : ℕ) (u v : Known T) (y : Binding T) → get_elem? views i ≡ some u → get_elem? views j ≡ some v → Has v.bindings y → MayGive u y.number → ⊥
    pub apart : (i j n : ℕ) (u v : Known T) → (i ≡ j → ⊥) → get_elem? views i ≡ some u → get_elem? views j ≡ some v → MayGive u n → MayGive v n → ⊥

  -- a look changes nothing and shows that the bindings in the seat's own view agree
  abbrev pub looked : {S : Type 0} → Step S → Me S (Known T) → ℕ → Me S (Known T) → Type 0
  looked s me n me' = (me' ≡ me) × ((x y : Binding T) → Has me.0.bindings x → Has me.0.bindings y → x.number ≡ y.number → x.of ≡ y.of)
