-- Races inside blocks: two accesses of one cell that are parallel, while no inner block keeps them apart.
use Rattle.std.specs.Prelude.{◌≡◌, ℕ, ◌&&◌, ◌||◌, Bool, false, IsTrue, is_some, List, map, count_by, slice_get, Option, Some, None, All, Contains}
use Rattle.std.specs.List.Sorted.{IsStrictlySortedBy}
use Rattle.std.specs.Ordering.{nat_cmp}
use Rattle.cw_tree.specs.declared.node.Node.{Node}
use Rattle.cw_tree.specs.declared.node.Kind.{Kind}
use Rattle.cw_tree.specs.declared.node.Kind.TheVariants.{Read, Write}
use Rattle.cw_tree.specs.Nodes.{touches, all_nodes}
use Rattle.cw_tree.specs.Walks.{xparent}
use Rattle.cw_tree.specs.Shape.{IsTree}
use Rattle.cw_tree.specs.Series.{parallel}
use Rattle.cw_tree.specs.Accesses.{is_live, written}
use Rattle.cw_sp.specs.Orders.{english, stands_before}
use Rattle.cw_record.specs.Items.{same_block}
use Rattle.cw_race.specs.declared.race.Race.{Race}

-- node u reads or writes cell c, and no block above it was rolled back
abbrev pub is_access : List Node → (c u : ℕ) → Bool
is_access t c u = touches t c u && is_live t u

abbrev pub writes : List Node → ℕ → Bool
writes t u = is_some (written t u)

-- Accesses u and v of cell c race: u comes first in the English order, one of them writes, they are parallel, and they have the same
-- innermost block, or both none.
abbrev pub are_racing : List Node → (c u v : ℕ) → Bool
are_racing t c u v =
    is_access t c u && is_access t c v && stands_before (english t) u v && (writes t u || writes t v) && parallel t u v
    && same_block (xparent t u) (xparent t v)

-- The two accesses race, and the second one is the first in the English order that races with an earlier one.
pub record IsFirstRace (t : List Node) (r : Race) : Type 0 where
  pub racing : IsTrue (are_racing t r.cell r.first r.second)
  pub soonest : (u v : ℕ) → IsTrue (are_racing t r.cell u v) → stands_before (english t) v r.second ≡ false

-- by rising number, one entry for each cell in which two accesses race, and none for any other
pub record AreRaces (t : List Node) (rs : List Race) : Type 0 where
  pub rising : IsStrictlySortedBy nat_cmp (map (λ r. r.cell) rs)
  pub first : All (IsFirstRace t) rs
  pub all : (c u v : ℕ) → IsTrue (are_racing t c u v) → Contains (map (λ r. r.cell) rs) c

-- the cell and the second access of a race
abbrev pub later_of : Race → ℕ × ℕ
later_of r = (r.cell, r.second)

-- any two such lists of a tree name the same cells, with the same second accesses
abbrev pub RacesAgree : Type 0
RacesAgree = (t : List Node) → IsTree t → (rs ss : List Race) → AreRaces t rs → AreRaces t ss → map later_of rs ≡ map later_of ss

-- ## How many accesses there are

abbrev pub cell_of_kind : Kind → Option ℕ
cell_of_kind (Read c v) = Some c
cell_of_kind (Write c v) = Some c
cell_of_kind _ = None

abbrev pub cell_of_node : Option Node → Option ℕ
cell_of_node None = None
cell_of_node (Some x) = cell_of_kind x.kind

-- the cell that node n reads or writes, if it does
abbrev pub cell_of : List Node → ℕ → Option ℕ
cell_of t n = cell_of_node (slice_get t n)

-- how many nodes of a tree are reads or writes
abbrev pub number_of_accesses : List Node → ℕ
number_of_accesses t = count_by (λ n. is_some (cell_of t n)) (all_nodes t)
