-- Laws on tiers while several strands go on: to whom a trace and a gap word belong, what a query tells if others step between its
-- two loads, and what stays true of a number that was drawn early.
use Rattle.std.specs.Prelude.{◌≡◌, ◌+◌, ◌<◌, ◌≤◌, ◌%◌, ◌&&◌, ℕ, Bool, true, false, not, IsTrue, Option, Some, None, List, ◌∷◌, [], ◌++◌, length, slice_index, if◌then◌else◌}
use Rattle.cw_tree.specs.declared.node.Node.{Node}
use Rattle.cw_tree.specs.declared.access.Mark.{Mark}
use Rattle.cw_tree.specs.declared.node.BlockState.{BlockState}
use Rattle.cw_tree.specs.NextNodes.{fork_nodes}
use Rattle.cw_tree.specs.Nodes.{parent_of, stamp_of, is_fork, is_strand_kind, is_fork_kind, touches, closed}
use Rattle.cw_tree.specs.Shape.{IsTree, AreStamps}
use Rattle.cw_trace.specs.declared.verdict.Verdict.{Verdict}
use Rattle.cw_trace.specs.declared.verdict.Verdict.TheVariants.{Against}
use Rattle.cw_trace.specs.Columns.{ColumnTable, used, owner, gap, lead, up, is_trace, before_split, forked, split_at, merged, begun_word, closed_word}
use Rattle.cw_trace.specs.Stands.{column, word_of}
use Rattle.cw_trace.specs.Keeps.{Keeps}
use Rattle.cw_trace.specs.Running.{IsOrdered, MayGoOn, IsUnstarted, IsDone}
use Rattle.cw_trace.specs.Told.{Read, Answer, HoldsRead}
use Rattle.cw_trace.specs.Query.{Gives, came_before, stands_in, verdict_of, verdict_around}
use Rattle.cw_trace.specs.Verdicts.{Tells, TellsOfTree}

-- the tier and the gap words represent a tree, whose open nodes are ordered
pub record StandsInOrder (c : ColumnTable) (words : List ℕ) (t : List Node) (cuts joins : List ℕ) (is_open : ℕ → Bool) : Type 0 where
  pub tree : IsTree t
  pub keeps : Keeps c words t cuts joins
  pub ordered : IsOrdered c t cuts joins is_open

-- the trace and the gap of the strand that node n belongs to
abbrev pub trace_at : ColumnTable → List Node → ℕ → ℕ
trace_at c t n = owner c (column t (used c) n)

abbrev pub gap_at : ColumnTable → List Node → ℕ → ℕ
gap_at c t n = gap c (column t (used c) n)

-- ## Hands differ

-- strands that may go on at two different places are in different traces, and use different gaps
abbrev pub HandsDiffer : Type 0
HandsDiffer =
    (c : ColumnTable) (words : List ℕ) (t : List Node) (cuts joins : List ℕ) (is_open : ℕ → Bool) (p q : ℕ) → StandsInOrder c words t cuts joins is_open → MayGoOn c t cuts is_open p → MayGoOn c t cuts is_open q → (p ≡ q → ⊥)
    → (trace_at c t p ≡ trace_at c t q → ⊥) × (gap_at c t p ≡ gap_at c t q → ⊥)

-- so the word of the gap at p stays as it is while the strand at q begins a block, or closes one
abbrev pub WordsStay : Type 0
WordsStay =
    (c : ColumnTable) (words : List ℕ) (t : List Node) (cuts joins : List ℕ) (is_open : ℕ → Bool) (p q stamp : ℕ) → StandsInOrder c words t cuts joins is_open → MayGoOn c t cuts is_open p → MayGoOn c t cuts is_open q → (p ≡ q → ⊥)
    → (slice_index (begun_word words (gap_at c t q) stamp) (gap_at c t p) ≡ slice_index words (gap_at c t p)) × (slice_index (closed_word words (gap_at c t q) stamp) (gap_at c t p) ≡ slice_index words (gap_at c t p))

-- and a node that is made at place q is in another trace than place p
abbrev pub NodesApart : Type 0
NodesApart =
    (c : ColumnTable) (words : List ℕ) (t : List Node) (cuts joins : List ℕ) (is_open : ℕ → Bool) (p q : ℕ) (x : Node) → StandsInOrder c words t cuts joins is_open → MayGoOn c t cuts is_open p → MayGoOn c t cuts is_open q → (p ≡ q → ⊥)
    → x.parent ≡ q → is_strand_kind x.kind ≡ false → is_fork_kind x.kind ≡ false → trace_at c (t ++ x ∷ []) (length t) ≡ trace_at c (t ++ x ∷ []) p → ⊥

-- a place at which a strand may go on, except that it may be the right strand of an unsplit fork whose left strand has not finished
pub record IsInnermost (t : List Node) (is_open : ℕ → Bool) (p : ℕ) : Type 0 where
  pub there : p < length t
  pub opened : is_open p ≡ true
  pub no_fork : is_fork t p ≡ false
  pub innermost : (n : ℕ) → 0 < n → n < length t → parent_of t n ≡ p → is_open n ≡ true → ⊥

-- the same claim for such places; it is false
abbrev pub InnermostDiffer : Type 0
InnermostDiffer =
    (c : ColumnTable) (words : List ℕ) (t : List Node) (cuts joins : List ℕ) (is_open : ℕ → Bool) (p q : ℕ) → StandsInOrder c words t cuts joins is_open → IsInnermost t is_open p → IsInnermost t is_open q → (p ≡ q → ⊥)
    → (trace_at c t p ≡ trace_at c t q → ⊥) × (gap_at c t p ≡ gap_at c t q → ⊥)

-- ## A query whose two words are loaded at different moments

-- Let y be the nearest trace around the accessor's that has a pending block, and let the asker be neither in y nor inside it. The
-- word of y's lead tells that the access conflicts, whatever the accessor's own trace has begun since.
abbrev pub OneWordDecides : Type 0
OneWordDecides =
    (c : ColumnTable) (words : List ℕ) (t : List Node) (cuts joins : List ℕ) (is_open : ℕ → Bool) (cell u p y : ℕ) → StandsInOrder c words t cuts joins is_open → AreStamps t → MayGoOn c t cuts is_open p → IsTrue (touches t cell u)
    → up c (trace_at c t u) ≡ Some y → stands_in c (column t (used c) p) y ≡ false → Tells t u p (Against (word_of words (lead c y)))

-- the verdict if the word of the last accessor's lead is loaded from the first words, and that of the trace around from the second
abbrev pub verdict_between : ColumnTable → List ℕ → List ℕ → Mark → ℕ → Verdict
verdict_between c first second last asker =
    let u = owner c last.strand in
    let w = word_of first (lead c u) in
    if came_before w last.stamp then verdict_of (stands_in c asker u) w else verdict_around c second asker (up c u)

-- whether there is a trace around that has a pending block, and the asker is outside it
abbrev pub is_outside : ColumnTable → ℕ → Option ℕ → Bool
is_outside c asker None = false
is_outside c asker (Some y) = not (stands_in c asker y)

-- whether the second word is loaded: no block of the accessor's own trace was begun before the access, and the asker is outside the
-- trace around
abbrev pub loads_second : ColumnTable → List ℕ → Mark → ℕ → Bool
loads_second c first last asker = let u = owner c last.strand in not (came_before (word_of first (lead c u)) last.stamp) && is_outside c asker (up c u)

-- such a verdict is right of the tree at its last load
abbrev pub LastLoadDecides : Type 0
LastLoadDecides =
    (c : ColumnTable) (first second : List ℕ) (last : Mark) (asker : ℕ) → TellsOfTree c (if loads_second c first last asker then second else first) last asker (verdict_between c first second last asker)

-- if the accessor's trace has no lead, and the second word is not loaded, the verdict is right at every moment while the columns do
-- not change
abbrev pub NoLoadDecides : Type 0
NoLoadDecides =
    (c : ColumnTable) (first second words : List ℕ) (last : Mark) (asker : ℕ) → lead c (owner c last.strand) ≡ None → loads_second c first last asker ≡ false → TellsOfTree c words last asker (verdict_between c first second last asker)

-- each answer is what the columns, and the gap words of some moment, hold
abbrev pub IsToldOf : ColumnTable → (words : ℕ → List ℕ) → (told : Read → Answer → Type 0) → Type 0
IsToldOf c words told = (r : Read) (a : Answer) → told r a → (n : ℕ) × HoldsRead c (words n) r a

-- the verdict is right of the tree at some moment
abbrev pub IsRightOnce : ColumnTable → (words : ℕ → List ℕ) → Mark → ℕ → Verdict → Type 0
IsRightOnce c words last asker v = (n : ℕ) × TellsOfTree c (words n) last asker v

-- ## A number that was drawn early

-- no stamp of the trace at place p is above the number; this is what a block needs that begins with it
abbrev pub IsLater : ColumnTable → List Node → ℕ → ℕ → Type 0
IsLater c t p number = (m : ℕ) → m < length t → trace_at c t m ≡ trace_at c t p → stamp_of t m ≤ number

-- it stays so if another strand makes a node at place q that is neither strand nor fork
abbrev pub LaterWithNode : Type 0
LaterWithNode =
    (c : ColumnTable) (words : List ℕ) (t : List Node) (cuts joins : List ℕ) (is_open : ℕ → Bool) (p q number : ℕ) (x : Node) → StandsInOrder c words t cuts joins is_open → MayGoOn c t cuts is_open p → MayGoOn c t cuts is_open q → (p ≡ q → ⊥)
    → x.parent ≡ q → is_strand_kind x.kind ≡ false → is_fork_kind x.kind ≡ false → IsLater c t p number → IsLater c (t ++ x ∷ []) p number

-- it stays so if another strand forks while columns are left
abbrev pub LaterWithFork : Type 0
LaterWithFork =
    (c : ColumnTable) (words : List ℕ) (t : List Node) (cuts joins : List ℕ) (is_open : ℕ → Bool) (p q word stamp number : ℕ) → StandsInOrder c words t cuts joins is_open → MayGoOn c t cuts is_open p → MayGoOn c t cuts is_open q → (p ≡ q → ⊥)
    → used c + 2 ≤ c.room → IsLater c t p number → IsLater (forked word (column t (used c) q) c) (t ++ fork_nodes (length t) q stamp) p number

-- it stays so if another strand forks while none are left
abbrev pub LaterWithInline : Type 0
LaterWithInline =
    (c : ColumnTable) (words : List ℕ) (t : List Node) (cuts joins : List ℕ) (is_open : ℕ → Bool) (p q stamp number : ℕ) → StandsInOrder c words t cuts joins is_open → MayGoOn c t cuts is_open p → MayGoOn c t cuts is_open q → (p ≡ q → ⊥)
    → c.room < used c + 2 → IsLater c t p number → IsLater c (t ++ fork_nodes (length t) q stamp) p number

-- it stays so if any block is closed
abbrev pub LaterClosed : Type 0
LaterClosed = (c : ColumnTable) (t : List Node) (p q end number : ℕ) (state : BlockState) → IsTree t → p < length t → IsLater c t p number → IsLater c (closed t q state end) p number

-- it stays so if any fork is split that may be
abbrev pub LaterSplit : Type 0
LaterSplit =
    (c : ColumnTable) (words : List ℕ) (t : List Node) (cuts joins : List ℕ) (f p number : ℕ) → Keeps c words t cuts joins → IsTree t → f < used c → f % 2 ≡ 1 → is_trace c f ≡ false → before_split c f ≡ None → IsUnstarted t joins f → p < length t → IsLater c t p number
    → IsLater (split_at f c) t p number

-- it stays so if the traces of any fork are merged: then traces become one, but the strand of p is in none of them
abbrev pub LaterMerged : Type 0
LaterMerged =
    (c : ColumnTable) (words : List ℕ) (t : List Node) (cuts joins : List ℕ) (is_open : ℕ → Bool) (f p number : ℕ) → StandsInOrder c words t cuts joins is_open → MayGoOn c t cuts is_open p → f < used c → f % 2 ≡ 1 → is_trace c f ≡ true → IsDone t is_open f → IsLater c t p number
    → IsLater (merged f c) t p number
