-- How the gaps of a tier divide the strands of each trace.
-- A trace's strands lie on one line down the tree. A segment of it starts at the trace's head, and anew beneath each fork of the
-- trace that has columns and was not joined.
-- Segments with no pending block between them share one gap.
use Rattle.std.specs.Prelude.{◌≡◌, ℕ, zero, suc, ◌+◌, ◌<◌, ◌≤◌, ◌%◌, ◌==◌, Bool, true, false, ◌⊎◌, List, length, slice_index, Option, Some, None, if◌then◌else◌}
use Rattle.cw_trace.specs.Columns.{ColumnTable, used, owner, gap, lead, up, head, left_column_of, is_trace, outer, before_split}
use Rattle.cw_tree.specs.Walks.{has}
use Rattle.cw_trace.specs.Stands.{around, is_apart, names_trace}

-- s is a fork of trace t, named by its left column, that was not joined
pub record IsOpen (c : ColumnTable) (joins : List ℕ) (t s : ℕ) : Type 0 where
  pub low : s < used c
  pub left : s % 2 ≡ 1
  pub unjoined : has joins s ≡ false
  pub outside : around c s ≡ t

-- a segment of trace t starts at s
abbrev pub SegmentStart : ColumnTable → List ℕ → ℕ → ℕ → Type 0
SegmentStart c joins t s = (s ≡ t) ⊎ IsOpen c joins t s

-- trace t was cut at fork g
pub record IsCut (c : ColumnTable) (cuts joins : List ℕ) (t g : ℕ) : Type 0 where
  pub fork : IsOpen c joins t g
  pub cut : has cuts g ≡ true

pub record IsTrace (c : ColumnTable) (cuts joins : List ℕ) (t : ℕ) : Type 0 where
  pub low : t < used c
  pub named : names_trace cuts joins t ≡ true

-- the gap of the segment was not lent to the trace that was cut off
abbrev pub IsLive : ColumnTable → List ℕ → List ℕ → ℕ → ℕ → Type 0
IsLive c cuts joins t s = (g : ℕ) → IsCut c cuts joins t g → gap c s ≡ gap c g → ⊥

-- b is a pending block of trace t that was begun in column low or a later one
pub record Within (c : ColumnTable) (pend : ℕ → Bool) (col : ℕ → ℕ) (t low b : ℕ) : Type 0 where
  pub pending : pend b ≡ true
  pub owned : owner c (col b) ≡ t
  pub after : low ≤ col b

pub record Segments (c : ColumnTable) (cuts joins : List ℕ) (pend : ℕ → Bool) (col : ℕ → ℕ) : Type 0 where
  -- columns
  pub odd : used c % 2 ≡ 1
  pub lengths : (length c.gaps ≡ used c) × (length c.parents ≡ used c) × (length c.traces ≡ used c)
  pub rooted : (i : ℕ) → 0 < i → i < used c → slice_index c.parents i < i
  pub pairs : (s : ℕ) → s % 2 ≡ 1 → s < used c → slice_index c.parents (s + 1) ≡ slice_index c.parents s
  pub cut_left : (g : ℕ) → has cuts g ≡ true → (g % 2 ≡ 1) × (g < used c)
  pub join_left : (g : ℕ) → has joins g ≡ true → (g % 2 ≡ 1) × (g < used c)
  -- a fork that was not joined does not lie beneath a fork that was
  pub unjoined_above : (s : ℕ) → s < used c → s % 2 ≡ 1 → has joins s ≡ false → 0 < slice_index c.parents s → has joins (left_column_of (slice_index c.parents s)) ≡ false
  -- owners
  pub root : owner c 0 ≡ 0
  pub together : (i : ℕ) → 0 < i → i < used c → is_apart cuts joins i ≡ false → owner c i ≡ around c i
  pub apart : (i : ℕ) → 0 < i → i < used c → is_apart cuts joins i ≡ true → owner c i ≡ i
  -- gaps: a column has the gap of the column that it was forked from, or one that was new at that fork
  pub gap_root : gap c 0 ≡ 0
  pub gap_step : (i : ℕ) → 0 < i → i < used c → (gap c i ≡ gap c (slice_index c.parents i)) ⊎ ((left_column_of i ≤ gap c i) × (gap c i ≤ i))
  pub right_gap : (s : ℕ) → s % 2 ≡ 1 → s < used c → has cuts s ≡ false → gap c (s + 1) ≡ gap c s
  pub right_new : (s i : ℕ) → s % 2 ≡ 1 → s < used c → i < used c → has cuts s ≡ false → gap c i ≡ s + 1 → ⊥
  -- heads and leads
  pub heads : (t : ℕ) → IsTrace c cuts joins t → head c t ≡ gap c t
  pub lead_live : (t : ℕ) → IsTrace c cuts joins t → IsLive c cuts joins t t → lead c t ≡ Some (gap c t)
  pub lead_lent : (t g : ℕ) → IsTrace c cuts joins t → IsCut c cuts joins t g → gap c t ≡ gap c g → lead c t ≡ None
  -- the strands of a trace lie on one line
  pub nested : (t s i : ℕ) → IsTrace c cuts joins t → SegmentStart c joins t s → i < used c → s + 1 < i → around c i ≡ t → s ≤ slice_index c.parents i
  pub one_cut : (t f g : ℕ) → IsCut c cuts joins t f → IsCut c cuts joins t g → f ≡ g
  pub cut_last : (t g i : ℕ) → IsCut c cuts joins t g → i < used c → owner c i ≡ t → i < g
  -- if a trace was cut, the right strand of each other fork of it that is not joined has forked
  pub taken_back : (t g s : ℕ) → IsCut c cuts joins t g → IsOpen c joins t s → (s ≡ g → ⊥) → (i : ℕ) × (0 < i) × (i < used c) × (slice_index c.parents i ≡ s + 1)
  -- pending blocks and gaps
  pub there : (b : ℕ) → pend b ≡ true → col b < used c
  pub gap_owned : (t s b : ℕ) → IsTrace c cuts joins t → SegmentStart c joins t s → IsLive c cuts joins t s → pend b ≡ true → gap c (col b) ≡ gap c s → (owner c (col b) ≡ t) × (s ≤ col b)
  pub gap_first : (t s b : ℕ) → IsTrace c cuts joins t → SegmentStart c joins t s → IsLive c cuts joins t s → Within c pend col t s b → (a : ℕ) × (a ≤ b) × (pend a ≡ true) × (gap c (col a) ≡ gap c s)
  pub shared : (t s r b : ℕ) → IsTrace c cuts joins t → SegmentStart c joins t s → SegmentStart c joins t r → s < r → gap c s ≡ gap c r → Within c pend col t s b → col b < r → ⊥
  pub parted : (t s r : ℕ) → IsTrace c cuts joins t → SegmentStart c joins t s → SegmentStart c joins t r → s < r → (gap c s ≡ gap c r → ⊥) → (b : ℕ) × (col b < r) × Within c pend col t s b
  pub one_trace : (t u s r : ℕ) → IsTrace c cuts joins t → IsTrace c cuts joins u → SegmentStart c joins t s → SegmentStart c joins u r → IsLive c cuts joins t s → IsLive c cuts joins u r → gap c s ≡ gap c r → t ≡ u

-- fork f may be split, if no fork outward of it bars that: it has columns, was neither split nor joined, and its right strand made
-- no step
pub record MaySplit (c : ColumnTable) (cuts joins : List ℕ) (pend : ℕ → Bool) (col : ℕ → ℕ) (f : ℕ) : Type 0 where
  pub low : f < used c
  pub left : f % 2 ≡ 1
  pub unjoined : has joins f ≡ false
  pub uncut : has cuts f ≡ false
  pub no_block : (b : ℕ) → pend b ≡ true → col b ≡ f + 1 → ⊥
  pub no_fork : (i : ℕ) → 0 < i → i < used c → slice_index c.parents i ≡ f + 1 → ⊥

-- the traces of split fork f may be merged: nothing is pending in them, and their forks were joined
pub record MayMerge (c : ColumnTable) (cuts joins : List ℕ) (pend : ℕ → Bool) (col : ℕ → ℕ) (f : ℕ) : Type 0 where
  pub low : f < used c
  pub left : f % 2 ≡ 1
  pub unjoined : has joins f ≡ false
  pub cut : has cuts f ≡ true
  pub no_block : (b : ℕ) → pend b ≡ true → (owner c (col b) ≡ f → ⊥) × (owner c (col b) ≡ f + 1 → ⊥)
  pub no_fork : (s : ℕ) → (IsOpen c joins f s → ⊥) × (IsOpen c joins (f + 1) s → ⊥)

-- the trace of column i, in which a strand may go on: it is not cut, and i shares the gap of its last segment
pub record Active (c : ColumnTable) (cuts joins : List ℕ) (i : ℕ) : Type 0 where
  pub low : i < used c
  pub uncut : (g : ℕ) → IsCut c cuts joins (owner c i) g → ⊥
  pub unjoined : 0 < i → has joins (left_column_of i) ≡ false
  pub start : ℕ
  pub starts : SegmentStart c joins (owner c i) start
  pub before : start ≤ i
  pub same : gap c i ≡ gap c start
  pub last : (s : ℕ) → SegmentStart c joins (owner c i) s → s ≤ start

-- `up` names the nearest trace around each trace that has a pending block
pub record Ups (c : ColumnTable) (cuts joins : List ℕ) (pend : ℕ → Bool) (col : ℕ → ℕ) : Type 0 where
  pub no_up : up c 0 ≡ None
  pub up_some : (x b : ℕ) → 0 < x → IsTrace c cuts joins x → pend b ≡ true → owner c (col b) ≡ around c x → up c x ≡ Some (around c x)
  pub up_none : (x : ℕ) → 0 < x → IsTrace c cuts joins x → ((b : ℕ) → pend b ≡ true → owner c (col b) ≡ around c x → ⊥) → up c x ≡ up c (around c x)

-- the first fork outward of column p in its trace; there is none beyond a fork of cuts
abbrev pub outward : List ℕ → List ℕ → ℕ → ℕ → Option ℕ
outward cuts parents zero p = None
outward cuts parents (suc k) zero = None
outward cuts parents (suc k) (suc n) = if has cuts (left_column_of (suc n)) then None else if suc n % 2 == 1 then Some (suc n) else outward cuts parents k (slice_index parents (suc n))

-- the fork that has to be split before fork f, found by a walk outward from the column that f was forked from
abbrev pub next_outward : ColumnTable → List ℕ → ℕ → Option ℕ
next_outward c cuts f = outward cuts c.parents f (slice_index c.parents f)

-- what the columns tell of split forks, and of the forks outward of a fork
pub record Forks (c : ColumnTable) (cuts joins : List ℕ) : Type 0 where
  pub same_length : length c.outers ≡ used c
  pub named : (i : ℕ) → i < used c → is_trace c i ≡ names_trace cuts joins i
  pub left : (s o : ℕ) → s < used c → outer c s ≡ Some o → o % 2 ≡ 1
  -- the fork outward of s is the fork whose left strand made s; or, if a right strand made s, the fork outward of that strand's
  -- fork
  pub step : (s o : ℕ) → s < used c → s % 2 ≡ 1 → outer c s ≡ Some o → (slice_index c.parents s ≡ o) ⊎ ((q : ℕ) × (q % 2 ≡ 1) × (slice_index c.parents s ≡ q + 1) × (outer c q ≡ Some o))
  pub next : (s : ℕ) → s < used c → s % 2 ≡ 1 → has joins s ≡ false → before_split c s ≡ next_outward c cuts s
