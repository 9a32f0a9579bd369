-- How the verifier keeps situations: each nesting of open parts is in a table once, and is named by its number there.
use Rattle.std.specs.Prelude.{◌≡◌, ℕ, zero, suc, ◌<◌, ◌≤◌, List, [], ◌∷◌, ◌++◌, ◌-◌, length, map, replicate, Option, Some, None, nat_le, slice_get, slice_set, slice_index_or, if◌then◌else◌}
use Rattle.cw_code.specs.declared.instruction.Func.{Func}
use Rattle.cw_code.specs.declared.situation.Part.{Part}
use Rattle.cw_code.specs.declared.situation.Part.TheVariants.{Block as block, Fork as forked}
use Rattle.cw_code.specs.declared.situation.Level.{Level}
use Rattle.cw_code.specs.declared.situation.Arrival.{Arrival}
use Rattle.cw_code.specs.declared.nestings.Nesting.{Nesting}
use Rattle.cw_code.specs.Rules.{Situation, Known, Places}

-- ## Numbers

-- the nestings of a table, by their numbers
abbrev pub Nested : Type 0
Nested = List (List Part)

abbrev pub parts_at : Nested → ℕ → List Part
parts_at ns n = slice_index_or ns n []

-- the table ms still has all nestings of ns, under the same numbers
pub record IsGrown (ns ms : Nested) : Type 0 where
  pub longer : length ns ≤ length ms
  pub same : (n : ℕ) → n < length ns → parts_at ms n ≡ parts_at ns n

abbrev pub situation_at : Nested → Level → Situation
situation_at ns l = record { height = l.height; parts = parts_at ns l.nesting }

abbrev pub level_at : Nested → Option Level → Option Situation
level_at ns None = None
level_at ns (Some l) = Some (situation_at ns l)

abbrev pub known_by : Nested → Option Arrival → Option Known
known_by ns None = None
known_by ns (Some a) = Some (record { from = a.from; situation = situation_at ns a.level })

-- what is kept of the places of a function, seen through a table
abbrev pub seen : Nested → List (Option Arrival) → Places
seen ns ts = map (known_by ns) ts

abbrev pub level_on_arrival : Option Arrival → Option Level
level_on_arrival None = None
level_on_arrival (Some a) = Some a.level

-- the number of a level's nesting is below `count`
abbrev pub IsBelow : ℕ → Option Level → Type 0
IsBelow count None = Unit {0}
IsBelow count (Some l) = l.nesting < count

abbrev pub AreBelow : ℕ → List (Option Arrival) → Type 0
AreBelow count ts = (k : ℕ) → IsBelow count (level_on_arrival (slice_index_or ts k None))

-- what a place keeps once l was offered to it from p, unless a smaller place gave what it has
abbrev pub offered_level : ℕ → Level → Option Arrival → Option Arrival
offered_level p l None = Some (record { from = p; level = l })
offered_level p l (Some a) = if nat_le p a.from then Some (record { from = p; level = l }) else Some a

abbrev pub give_level : Func → Option ℕ → ℕ → Level → List (Option Arrival) → List (Option Arrival)
give_level f None p l ts = ts
give_level f (Some q) p l ts =
    if nat_le q f.start then ts else slice_set ts (q - f.start) (offered_level p l (slice_index_or ts (q - f.start) None))

-- before the first pass only the start of a function has a level
abbrev pub none_yet : Func → ℕ → List (Option Arrival)
none_yet f zero = []
none_yet f (suc n) = Some (record { from = f.start; level = record { height = 0; nesting = 0 } }) ∷ replicate n None

-- ## The table in memory

-- the nestings of a table, and behind them those of rows
abbrev pub with_nestings : Nested → List Nesting → Nested
with_nestings ns [] = ns
with_nestings ns (r ∷ rs) = with_nestings (ns ++ (r.part ∷ parts_at ns r.outer) ∷ []) rs

-- in the nesting of the first row no part is open
abbrev pub lists : List Nesting → Nested
lists [] = []
lists (r ∷ rs) = with_nestings ([] ∷ []) rs

-- the number of the nesting with a part of this kind within the row r, or 0
abbrev pub child : Part → Nesting → ℕ
child block r = r.block
child forked r = r.fork

abbrev pub with_child : Part → ℕ → Nesting → Nesting
with_child block n r = record r { block = n }
with_child forked n r = record r { fork = n }

-- The nesting around a row comes before it and leads to it. What a row leads to is a nesting within it.
pub record IsTable (rows : List Nesting) : Type 0 where
  pub some : 0 < length rows
  pub before : (k : ℕ) (r : Nesting) → slice_get rows (suc k) ≡ Some r → r.outer < suc k
  pub led_to : (k : ℕ) (r o : Nesting) → slice_get rows (suc k) ≡ Some r → slice_get rows r.outer ≡ Some o → child r.part o ≡ suc k
  pub leads : (k n : ℕ) (r : Nesting) (p : Part) → slice_get rows k ≡ Some r → child p r ≡ suc n → (q : Nesting) × (slice_get rows (suc n) ≡ Some q) × (q.part ≡ p) × (q.outer ≡ k)
