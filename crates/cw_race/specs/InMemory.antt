-- How a search for races keeps what it knows of the accesses that it has come to. It goes by groups: those accesses of one cell that have
-- the same innermost block, or none.
use Rattle.std.specs.Prelude.{◌≡◌, ℕ, ◌&&◌, ◌||◌, Bool, false, IsTrue, List, Option, Some, None, IfSome, unwrap_or, if◌then◌else◌}
use Rattle.std.specs.declared.cmp.Ordering.{Ordering}
use Rattle.std.specs.Ordering.{nat_cmp, ordering_then}
use Rattle.std.specs.Option.{option_cmp}
use Rattle.std.specs.BTreeMap.{BTreeMap, get, Updates}
use Rattle.cw_tree.specs.declared.node.Node.{Node}
use Rattle.cw_tree.specs.Series.{parallel}
use Rattle.cw_sp.specs.Orders.{is_leaf}
use Rattle.cw_race.specs.declared.race.Race.{Race}
use Rattle.cw_race.specs.declared.kept.Kept.{Kept}
use Rattle.cw_race.specs.declared.search.Search.{Search}
use Rattle.cw_race.specs.Races.{IsFirstRace, are_racing}

-- a cell, and a block or none
abbrev pub Group : Type 0
Group = ℕ × Option ℕ

abbrev pub group_cmp : Group → Group → Ordering
group_cmp a b = ordering_then (nat_cmp a.0 b.0) (option_cmp nat_cmp a.1 b.1)

-- ## What is kept of one group

abbrev pub nothing_kept : Kept
nothing_kept = record { writer = None; reader = None }

-- what is kept of a group
abbrev pub kept_at : BTreeMap Group Kept → Group → Kept
kept_at kept g = unwrap_or (get group_cmp kept g) nothing_kept

-- what is kept are leaves of the tree
abbrev pub AreLeaves : List Node → Kept → Type 0
AreLeaves t k = IfSome k.writer (λ u. IsTrue (is_leaf t u)) × IfSome k.reader (λ u. IsTrue (is_leaf t u))

-- node v is parallel to a kept access, if there is one
abbrev pub is_beside : List Node → Option ℕ → ℕ → Bool
is_beside t None v = false
is_beside t (Some u) v = parallel t u v

-- the kept access that the next one, v, races with, if there is one
abbrev pub rival_of : List Node → Kept → (v : ℕ) → (writes : Bool) → Option ℕ
rival_of t k v writes =
    if is_beside t k.writer v then k.writer else (if writes && is_beside t k.reader v then k.reader else None)

-- what is kept after v, if it races with nothing that was kept
abbrev pub kept_after : List Node → Kept → (v : ℕ) → (writes : Bool) → Kept
kept_after t k v writes = record {
  writer = if writes then Some v else k.writer;
  reader = if writes || is_beside t k.reader v then k.reader else Some v;
}

-- ## A search

-- what the next access v of a group makes of a search
pub data IsNoted (t : List Node) (g : Group) (v : ℕ) (writes : Bool) (old new : Search) : Type 0 where
  -- a race of the cell was found before, so nothing more is asked of the cell
  known : (r : Race) → get nat_cmp old.found g.0 ≡ Some r → new ≡ old → IsNoted t g v writes old new
  -- v is the first to race with a kept access
  finds : (u : ℕ) → get nat_cmp old.found g.0 ≡ None → rival_of t (kept_at old.kept g) v writes ≡ Some u → new.kept ≡ old.kept
      → Updates nat_cmp old.found new.found g.0 (Some (record { cell = g.0; first = u; second = v })) → IsNoted t g v writes old new
  -- it races with none, and is kept
  keeps : get nat_cmp old.found g.0 ≡ None → rival_of t (kept_at old.kept g) v writes ≡ None
      → Updates group_cmp old.kept new.kept g (Some (kept_after t (kept_at old.kept g) v writes)) → new.found ≡ old.found
      → IsNoted t g v writes old new

-- what was found are the first races of all cells that have races
pub record AreFound (t : List Node) (found : ℕ → Option Race) : Type 0 where
  pub cell : (c : ℕ) (r : Race) → found c ≡ Some r → r.cell ≡ c
  pub first : (c : ℕ) (r : Race) → found c ≡ Some r → IsFirstRace t r
  pub all : (c u v : ℕ) → IsTrue (are_racing t c u v) → found c ≡ None → ⊥
