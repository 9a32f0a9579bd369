-- Journals: for each cell its live accesses, oldest first, each with the cell's value after it and before it. Nothing
-- is said here of the column in an entry's mark.
use Rattle.std.specs.Prelude.{◌≡◌, ℕ, ℤ, ◌<◌, ◌&&◌, Bool, true, not, nat_lt, IsTrue, is_some, List, [], ◌∷◌, length, slice_get, Some, unwrap_or}
use Rattle.cw_tree.specs.declared.node.Node.{Node}
use Rattle.cw_tree.specs.declared.node.Kind.{Kind}
use Rattle.cw_tree.specs.declared.node.Kind.TheVariants.{Read, Write}
use Rattle.cw_tree.specs.declared.access.Entry.{Entry}
use Rattle.cw_tree.specs.Nodes.{is_node, stamp_of, end_of, is_block, is_committed}
use Rattle.cw_tree.specs.Walks.{is_above}
use Rattle.cw_tree.specs.Accesses.{live_accesses, written, read}

-- e is the entry of access u, which met value v
pub record IsEntry (t : List Node) (v : ℤ) (u : ℕ) (e : Entry) : Type 0 where
  pub stamp : e.mark.stamp ≡ stamp_of t u
  pub wrote : e.wrote ≡ is_some (written t u)
  pub value : e.value ≡ unwrap_or (written t u) v
  pub old : e.old ≡ v
  pub read : (w : ℤ) → read t u ≡ Some w → w ≡ v

-- the entries of accesses, one after another, the first of which met value v
abbrev pub AreEntries : List Node → ℤ → List ℕ → List Entry → Type 0
AreEntries t v [] [] = Unit {0}
AreEntries t v [] (e ∷ es) = ⊥
AreEntries t v (u ∷ us) [] = ⊥
AreEntries t v (u ∷ us) (e ∷ es) = IsEntry t v u e × AreEntries t (unwrap_or (written t u) v) us es

-- the journal of cell c, whose first value is v
abbrev pub IsJournal : List Node → ℕ → ℤ → List Entry → Type 0
IsJournal t c v es = AreEntries t v (live_accesses t c) es

-- the journals of all cells, with the first values `first`
pub record AreJournals (t : List Node) (first : List ℤ) (kept : List (List Entry)) : Type 0 where
  pub len : length kept ≡ length first
  pub each : (c : ℕ) (v : ℤ) (es : List Entry) → slice_get first c ≡ Some v → slice_get kept c ≡ Some es → IsJournal t c v es

abbrev pub fits_cells : ℕ → Kind → Bool
fits_cells k (Read c v) = nat_lt c k
fits_cells k (Write c v) = nat_lt c k
fits_cells k _ = true

-- every access is of one of the cells below k
abbrev pub FitsCells : List Node → ℕ → Type 0
FitsCells t k = (n : ℕ) → n < length t → IsTrue (is_node (λ x. fits_cells k x.kind) t n)

-- every block above access u and not above the next one, v, is committed, and ended before v
abbrev pub EndedBetween : List Node → ℕ → ℕ → Type 0
EndedBetween t u v = (b : ℕ) → b < length t → IsTrue (is_block t b && is_above t b u && not (is_above t b v)) → IsTrue (is_committed t b) × (end_of t b < stamp_of t v)

-- the same for each of some accesses and the next
abbrev pub AllEndedBetween : List Node → List ℕ → Type 0
AllEndedBetween t [] = Unit {0}
AllEndedBetween t (u ∷ []) = Unit {0}
AllEndedBetween t (u ∷ v ∷ us) = EndedBetween t u v × AllEndedBetween t (v ∷ us)

-- the same for the journals of the cells below k
abbrev pub JournalsEnded : List Node → ℕ → Type 0
JournalsEnded t k = (c : ℕ) → c < k → AllEndedBetween t (live_accesses t c)
