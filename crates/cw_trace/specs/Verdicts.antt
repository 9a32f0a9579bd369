-- What a verdict says of the tree, for the last access u and an asker at place p.
use Rattle.std.specs.Prelude.{◌≡◌, ℕ, ◌<◌, ◌&&◌, ◌↔◌, Bool, true, false, not, IsTrue, Some, None, List, length}
use Rattle.cw_tree.specs.declared.node.Node.{Node}
use Rattle.cw_tree.specs.declared.access.Mark.{Mark}
use Rattle.cw_tree.specs.Nodes.{is_pending, touches, stamp_of}
use Rattle.cw_tree.specs.Walks.{is_ancestor, is_above, nua, path, outermost}
use Rattle.cw_tree.specs.Shape.{IsTree, AreStamps}
use Rattle.cw_tree.specs.AccessStacks.{conflict_at}
use Rattle.cw_tree.specs.VictimsAt.{victim_at}
use Rattle.cw_trace.specs.declared.verdict.Verdict.{Verdict}
use Rattle.cw_trace.specs.declared.verdict.Verdict.TheVariants.{Free, Within, Against}
use Rattle.cw_trace.specs.Columns.{ColumnTable, used}
use Rattle.cw_trace.specs.Stands.{Stands, GoesOn, column}
use Rattle.cw_trace.specs.Keeps.{Keeps}
use Rattle.cw_trace.specs.Running.{IsOrdered, MayGoOn}
use Rattle.cw_trace.specs.Runs.{ReachedTier, Place}
use Rattle.cw_trace.specs.Query.{verdict, covers}

abbrev pub is_free : Verdict → Bool
is_free Free = true
is_free _ = false

abbrev pub is_within : Verdict → Bool
is_within Within = true
is_within _ = false

abbrev pub is_against : Verdict → Bool
is_against (Against w) = true
is_against _ = false

pub record Tells (t : List Node) (u p : ℕ) (v : Verdict) : Type 0 where
  -- the access has no pending block above it
  pub free : IsTrue (is_free v) ↔ (nua t u ≡ None)
  -- the nearest one above it is an ancestor of what the asker would do
  pub within : IsTrue (is_within v) ↔ ((b : ℕ) × (nua t u ≡ Some b) × IsTrue (is_ancestor t b p))
  -- there is one above it that is not
  pub against : is_against v ≡ conflict_at t u p
  -- and then the named stamp is the begin of a pending block that is above the access and not above the asker
  pub begun : (w : ℕ) → v ≡ Against w → (b : ℕ) × IsTrue (is_pending t b && is_above t b u && not (is_ancestor t b p)) × (stamp_of t b ≡ w)

-- the column and stamp of node n
abbrev pub mark_of : ColumnTable → List Node → ℕ → Mark
mark_of c t n = record { strand = column t (used c) n; stamp = stamp_of t n }

-- ## What verdict v says, for each tree that the tier represents

-- for each access of the cell with the mark `last`, and each strand that may go on in the column `asker`
abbrev pub TellsOfTree : ColumnTable → List ℕ → Mark → ℕ → Verdict → Type 0
TellsOfTree c words last asker v =
    (t : List Node) (cuts joins : List ℕ) (is_open : ℕ → Bool) (cell u p : ℕ) → Keeps c words t cuts joins → IsTree t → AreStamps t → IsOrdered c t cuts joins is_open → MayGoOn c t cuts is_open p
    → IsTrue (touches t cell u) → last ≡ mark_of c t u → asker ≡ column t (used c) p → Tells t u p v

-- the same from the reading `Stands` alone, if the asker goes on beneath each pending block that was begun in its trace
abbrev pub TellsByReading : ColumnTable → List ℕ → Mark → ℕ → Verdict → Type 0
TellsByReading c words last asker v =
    (t : List Node) (cuts joins : List ℕ) (cell u p : ℕ) → Stands c words t cuts joins → IsTree t → AreStamps t → p < length t → GoesOn c t (column t (used c) p) p
    → IsTrue (touches t cell u) → last ≡ mark_of c t u → asker ≡ column t (used c) p → Tells t u p v

-- whether the pending block with the mark `block` is above the access with the mark `last`
abbrev pub TellsOfBlock : ColumnTable → List ℕ → Mark → Mark → Bool → Type 0
TellsOfBlock c words block last x =
    (t : List Node) (cuts joins : List ℕ) (cell u b : ℕ) → Stands c words t cuts joins → IsTree t → AreStamps t
    → IsTrue (touches t cell u) → last ≡ mark_of c t u → IsTrue (is_pending t b) → block ≡ mark_of c t b → x ≡ is_above t b u

-- ## Laws

-- one stamp and at most two gap words decide the verdict
abbrev pub Decides : Type 0
Decides = (c : ColumnTable) (words : List ℕ) (last : Mark) (asker : ℕ) → TellsOfTree c words last asker (verdict c words last asker)

abbrev pub DecidesByReading : Type 0
DecidesByReading = (c : ColumnTable) (words : List ℕ) (last : Mark) (asker : ℕ) → TellsByReading c words last asker (verdict c words last asker)

-- after every run, for each access and each strand that may go on
abbrev pub DecidesInRuns : Type 0
DecidesInRuns =
    (c : ColumnTable) (words : List ℕ) (t : List Node) (cuts joins : List ℕ) (cell u p : ℕ) → ReachedTier c words t cuts joins → AreStamps t → Place c t cuts joins p → IsTrue (touches t cell u)
    → Tells t u p (verdict c words (mark_of c t u) (column t (used c) p))

-- the columns tell which pending blocks are above an access
abbrev pub CoversBlocks : Type 0
CoversBlocks = (c : ColumnTable) (words : List ℕ) (block last : Mark) → TellsOfBlock c words block last (covers c block last)

-- so the victim is the outermost pending block above the asker's place that, by the columns, is not above the access
abbrev pub FindsVictims : Type 0
FindsVictims =
    (c : ColumnTable) (words : List ℕ) (t : List Node) (cuts joins : List ℕ) (cell u p : ℕ) → Stands c words t cuts joins → IsTree t → AreStamps t → IsTrue (touches t cell u)
    → outermost (λ b. is_pending t b && not (covers c (mark_of c t b) (mark_of c t u))) (path t p) ≡ victim_at t u p
