-- What columns, and gap words as they are loaded, tell a strand that goes on of an access; and that what they told stays right as others
-- step.
use Rattle.std.specs.Prelude.{◌≡◌, ℕ, ◌<◌, ◌%◌, true, false, IsTrue, IfSome, List, slice_index, Option, Some, None, if◌then◌else◌}
use Rattle.cw_tree.specs.declared.access.Mark.{Mark}
use Rattle.cw_tree.specs.declared.node.Node.{Node}
use Rattle.cw_tree.specs.Nodes.{stamp_of, touches}
use Rattle.cw_tree.specs.Walks.{has, nua, is_ancestor}
use Rattle.cw_tree.specs.Series.{place}
use Rattle.cw_tree.specs.AccessStacks.{access_at}
use Rattle.cw_trace.specs.declared.verdict.Verdict.{Verdict}
use Rattle.cw_trace.specs.declared.verdict.Verdict.TheVariants.{Free, Within, Against}
use Rattle.cw_trace.specs.Columns.{ColumnTable, used, owner, lead, up, is_trace, opening_mark, closing_mark, forked}
use Rattle.cw_trace.specs.Stands.{column}
use Rattle.cw_trace.specs.Keeps.{Distinct}
use Rattle.cw_trace.specs.Query.{came_before, stands_in, verdict_of}
use Rattle.cw_trace.specs.Verdicts.{mark_of, Tells}
use Rattle.cw_open.specs.Machine.{is_running}
use Rattle.cw_open.specs.Runs.{IsMet, at_any_time}
use Rattle.cw_open.specs.Times.{IsMetInTime}
use Rattle.cw_open.specs.Laws.{OfEachState}
use Rattle.cw_open.specs.Judged.{met_of}
use Rattle.cw_hands.specs.Shared.{goes_on, place_at, is_about}
use Rattle.cw_hands.specs.Laws.{OfEachMoment}
use Rattle.cw_hands.specs.Beside.{times_then, OfEachSharedStep}

-- ## Columns

-- what is named in columns is in use, and a trace around with a pending block has a lead
pub record AreClosed (c : ColumnTable) : Type 0 where
  pub owners : (i : ℕ) → i < used c → owner c i < used c
  pub ups : (t y : ℕ) → up c t ≡ Some y → y < used c
  pub leads : (t g : ℕ) → lead c t ≡ Some g → g < used c
  pub led : (t y : ℕ) → t < used c → up c (owner c t) ≡ Some y → lead c y ≡ None → ⊥

-- the marks of each column are there just where it names a trace
pub record AreMarked (c : ColumnTable) : Type 0 where
  pub opens : (t : ℕ) → t < used c → has c.brackets (opening_mark t) ≡ is_trace c t
  pub closes : (t : ℕ) → t < used c → has c.brackets (closing_mark t) ≡ is_trace c t

-- so they are at each moment
abbrev pub ColumnsAreSound : Type 0
ColumnsAreSound = OfEachMoment (λ s. AreClosed s.columns × AreMarked s.columns)

-- what a question about this access reads of columns
pub record ReadsSame (c d : ColumnTable) (last : Mark) (asker : ℕ) : Type 0 where
  pub own : owner d last.strand ≡ owner c last.strand
  pub lead_own : lead d (owner c last.strand) ≡ lead c (owner c last.strand)
  pub up_own : up d (owner c last.strand) ≡ up c (owner c last.strand)
  pub stands_own : stands_in d asker (owner c last.strand) ≡ stands_in c asker (owner c last.strand)
  pub lead_around : (y : ℕ) → up c (owner c last.strand) ≡ Some y → lead d y ≡ lead c y
  pub stands_around : (y : ℕ) → up c (owner c last.strand) ≡ Some y → stands_in d asker y ≡ stands_in c asker y

-- a fork leaves that of columns in use
abbrev pub ForksLeaveReads : Type 0
ForksLeaveReads = OfEachMoment (λ s. (word parent asker : ℕ) (last : Mark) → last.strand < used s.columns → asker < used s.columns → ReadsSame s.columns (forked word parent s.columns) last asker)

-- each fork is split once at most, and joined for the tier once at most; it is named by its left column, which is in use
abbrev pub CutsAreOnce : Type 0
CutsAreOnce =
    OfEachMoment (λ s. Distinct s.cuts × Distinct s.joins × ((f : ℕ) → has s.cuts f ≡ true → (f % 2 ≡ 1) × (f < used s.columns)) × ((f : ℕ) → has s.joins f ≡ true → (f % 2 ≡ 1) × (f < used s.columns)))

-- ## One word

-- the verdict that the word of the lead of the last accessor's trace decides alone, if it decides one
abbrev pub by_trace_around : ColumnTable → (asker : ℕ) → Option ℕ → Option Verdict
by_trace_around c asker None = Some Free
by_trace_around c asker (Some y) = if stands_in c asker y then Some Within else None

abbrev pub by_own_word : ColumnTable → Mark → (asker w : ℕ) → Option Verdict
by_own_word c last asker w =
    let u = owner c last.strand in if came_before w last.stamp then Some (verdict_of (stands_in c asker u) w) else by_trace_around c asker (up c u)

-- word w of gap g decides nothing by these columns, or a verdict of which P is true
pub record TellsByWord (P : Verdict → Type 0) (c : ColumnTable) (last : Mark) (asker g w : ℕ) : Type 0 where
  pub own : lead c (owner c last.strand) ≡ Some g → IfSome (by_own_word c last asker w) P
  pub around : (y : ℕ) → up c (owner c last.strand) ≡ Some y → stands_in c asker y ≡ false → lead c y ≡ Some g → P (Against w)

-- each gap word, as it is loaded, tells a strand that goes on rightly of each access
abbrev pub WordsTell : Type 0
WordsTell =
    OfEachMoment (λ s. (x c n g : ℕ) → IsTrue (goes_on s x) → IsTrue (touches s.machine.tree c n)
    → TellsByWord (Tells s.machine.tree n (place_at s x)) s.columns (mark_of s.columns s.machine.tree n) (column s.machine.tree (used s.columns) (place_at s x)) g (slice_index s.words g))

-- and so do the columns alone if the trace of the access has no lead
abbrev pub ColumnsTell : Type 0
ColumnsTell =
    OfEachMoment (λ s. (x c n : ℕ) → IsTrue (goes_on s x) → IsTrue (touches s.machine.tree c n) → lead s.columns (owner s.columns (column s.machine.tree (used s.columns) n)) ≡ None
    → IfSome (by_trace_around s.columns (column s.machine.tree (used s.columns) (place_at s x)) (up s.columns (owner s.columns (column s.machine.tree (used s.columns) n)))) (Tells s.machine.tree n (place_at s x)))

-- ## Verdicts that stay right

-- A verdict on the access with the stamp `last`, at place p: if it is free of pending blocks, or within one, that is so. If a block stood in
-- the way, a conflict can tell that, in time.
abbrev pub StaysRight : (ℕ → ℕ) → List Node → (p cell last : ℕ) → Verdict → Type 0
StaysRight times t p c last Free = nua t (access_at t last) ≡ None
StaysRight times t p c last Within = (b : ℕ) × (nua t (access_at t last) ≡ Some b) × IsTrue (is_ancestor t b p)
StaysRight times t p c last (Against b) = IsMet t p c (met_of last b) × IsMetInTime times t p (met_of last b)

-- a verdict that is right of the tree at the place of a running strand is such a one
abbrev pub RightStays : Type 0
RightStays =
    OfEachState (λ first m. (times : ℕ → ℕ) (s c n : ℕ) (v : Verdict) → IsTrue (is_running m s) → IsTrue (touches m.tree c n) → Tells m.tree n (place m.tree s) v
    → StaysRight times m.tree (place m.tree s) c (stamp_of m.tree n) v)

-- and stays one as others step
abbrev pub VerdictsStay : Type 0
VerdictsStay =
    OfEachSharedStep (λ asked s u e. (times : ℕ → ℕ) (x c n : ℕ) (v : Verdict) → IsTrue (is_running s.machine x) → is_about (at_any_time asked) s u e x ≡ false → IsTrue (touches s.machine.tree c n)
    → StaysRight times s.machine.tree (place_at s x) c (stamp_of s.machine.tree n) v → StaysRight (times_then (at_any_time asked) times s u e) u.machine.tree (place_at u x) c (stamp_of s.machine.tree n) v)
