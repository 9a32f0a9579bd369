-- The cells that were accessed beneath a block, and what is put back in them if the block is given up.
use Rattle.std.specs.Prelude.{◌≡◌, ℕ, ℤ, pos, ◌≤◌, ◌||◌, min, Bool, true, List, map, filter, Contains, is_some, slice_get, Option, Some, None, if◌then◌else◌}
use Rattle.std.specs.Option.{option_map_or}
use Rattle.std.specs.BTreeMap.{BTreeMap, get}
use Rattle.std.specs.Ordering.{nat_cmp}
use Rattle.cw_code.specs.declared.Back.{Back}
use Rattle.cw_tree.specs.declared.node.Node.{Node}
use Rattle.cw_tree.specs.Nodes.{stamp_of, touches}
use Rattle.cw_tree.specs.Walks.{is_above}
use Rattle.cw_tree.specs.Accesses.{is_live, written, cell_value}
use Rattle.cw_tree.specs.AccessStacks.{written_by, stamps}
use Rattle.cw_stack.specs.Cells.{CellParts}
use Rattle.cw_core.specs.declared.beneath.Touched.{Touched}
use Rattle.cw_core.specs.Undone.{before_stamp}

-- ## What is noted of accesses

-- what is noted of a cell after one more access
abbrev pub with_access : (stamp : ℕ) → (wrote : Bool) → Option Touched → Touched
with_access stamp wrote None = record { first = stamp; wrote = wrote }
with_access stamp wrote (Some x) = record { first = min x.first stamp; wrote = x.wrote || wrote }

-- node n is noted, if it is an access
abbrev pub IsNoted : List Node → ℕ → (old new : BTreeMap ℕ Touched) → Type 0
IsNoted t n old new = (c : ℕ) → get nat_cmp new c
    ≡ (if touches t c n then Some (with_access (stamp_of t n) (is_some (written t n)) (get nat_cmp old c)) else get nat_cmp old c)

-- node n is a live access of cell c, beneath block b
pub record IsAccessBeneath (t : List Node) (b c n : ℕ) : Type 0 where
  pub touches : touches t c n ≡ true
  pub live : is_live t n ≡ true
  pub over : is_above t b n ≡ true

-- what is noted of cell c is true of such accesses
pub record IsTouched (t : List Node) (b c : ℕ) (x : Touched) : Type 0 where
  pub first : (n : ℕ) × IsAccessBeneath t b c n × (stamp_of t n ≡ x.first)
  pub wrote : x.wrote ≡ true → (n : ℕ) × IsAccessBeneath t b c n × (is_some (written t n) ≡ true)

-- access n of cell c was noted
pub record WasNoted (t : List Node) (c n : ℕ) (touched : BTreeMap ℕ Touched) : Type 0 where
  pub now : Touched
  pub there : get nat_cmp touched c ≡ Some now
  pub first : now.first ≤ stamp_of t n
  pub wrote : is_some (written t n) ≡ true → now.wrote ≡ true

-- exactly the live accesses beneath block b were noted
pub record AreTouched (t : List Node) (b : ℕ) (touched : BTreeMap ℕ Touched) : Type 0 where
  pub each : (c : ℕ) (x : Touched) → get nat_cmp touched c ≡ Some x → IsTouched t b c x
  pub all : (c n : ℕ) → IsAccessBeneath t b c n → WasNoted t c n touched

-- ## What is put back

-- each noted cell has the entry of the first access that was noted of it
abbrev pub HaveEntries : BTreeMap ℕ Touched → List CellParts → Type 0
HaveEntries touched cells =
    (c : ℕ) (x : Touched) → get nat_cmp touched c ≡ Some x → (cell : CellParts) × (slice_get cells c ≡ Some cell) × (cell.cleaned ≡ 0)
    × Contains (stamps cell.entries) x.first

-- the value that the entries before a stamp left
abbrev pub value_before : ℕ → CellParts → ℤ
value_before stamp cell = cell_value cell.first (map written_by (before_stamp stamp cell.entries))

-- the noted cells that were written, each with its value from before the first access that was noted
abbrev pub backs_of : List CellParts → List (ℕ × Touched) → List Back
backs_of cells es = map (λ e. record { cell = e.0; value = option_map_or (value_before e.1.first) (slice_get cells e.0) (pos 0) }) (filter (λ e. e.1.wrote) es)
