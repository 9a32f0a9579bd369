-- The live accesses of a cell beneath one block are together in its journal. So neighbours tell whether the cell was written beneath
-- the block, and nobody need go through the accesses of each block.
use Rattle.std.specs.Prelude.{◌≡◌, ℕ, ◌+◌, ◌&&◌, Bool, true, false, IsTrue, is_some, List, [], ◌∷◌, ◌++◌, filter, length}
use Rattle.std.specs.List.{list_any, list_all}
use Rattle.cw_tree.specs.declared.node.Node.{Node}
use Rattle.cw_tree.specs.Nodes.{is_block}
use Rattle.cw_tree.specs.Walks.{is_above}
use Rattle.cw_tree.specs.Shape.{AreStamps}
use Rattle.cw_tree.specs.Accesses.{live_accesses, written}
use Rattle.cw_tree.specs.Journals.{AllEndedBetween}
use Rattle.cw_tree.specs.ForkCounts.{one_if}

-- what passes a test is together in a list
pub record AreTogether (p : ℕ → Bool) (ns : List ℕ) : Type 0 where
  pub front : List ℕ
  pub middle : List ℕ
  pub back : List ℕ
  pub parts : ns ≡ front ++ (middle ++ back)
  pub before : list_any p front ≡ false
  pub inside : list_all p middle ≡ true
  pub behind : list_any p back ≡ false

-- how many neighbours both pass
abbrev pub pairs : (ℕ → Bool) → List ℕ → ℕ
pairs p [] = 0
pairs p (u ∷ []) = 0
pairs p (u ∷ v ∷ us) = one_if (p u && p v) + pairs p (v ∷ us)

-- the live writes of cell c, oldest first
abbrev pub live_writes : List Node → ℕ → List ℕ
live_writes t c = filter (λ u. is_some (written t u)) (live_accesses t c)

-- If parts 1 and 3 hold, the live accesses of a cell beneath a block are together.
abbrev pub AccessesAreTogether : Type 0
AccessesAreTogether =
    (t : List Node) (c b : ℕ) → AreStamps t → AllEndedBetween t (live_accesses t c) → IsTrue (is_block t b)
    → AreTogether (is_above t b) (live_accesses t c)

-- Then it has one more live write beneath the block than neighbouring live writes that both are, or it was not written there.
abbrev pub WrittenByPairs : Type 0
WrittenByPairs =
    (t : List Node) (c b : ℕ) → AreStamps t → AllEndedBetween t (live_accesses t c) → IsTrue (is_block t b)
    → let p = is_above t b in
    let ws = live_writes t c in
    length (filter p ws) ≡ pairs p ws + one_if (list_any p ws)
