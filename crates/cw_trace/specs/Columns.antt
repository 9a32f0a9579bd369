-- The columns of a tier, and what a fork, a split and a merge make of them.
-- Each strand has a column. A trace is named by the column of its head strand, and a fork by the column of its left strand, which
-- is odd. The right strand has the next column.
-- Columns 0, 1, 2 .. are in use: column 0 from the start, every other column since the fork that made it.
use Rattle.std.specs.Prelude.{ℕ, zero, suc, ◌+◌, ◌-◌, ◌*◌, ◌%◌, ◌==◌, ◌&&◌, ◌||◌, Bool, false, not, nat_le, List, [], ◌∷◌, ◌++◌, map, length, filter, slice_get, slice_set, slice_index, Option, Some, None, is_some, if◌then◌else◌}
use Rattle.cw_tree.specs.Walks.{has}
use Rattle.cw_trace.specs.declared.tier.Trace.{Trace}

pub record ColumnTable : Type 0 where
  -- how many columns there can be
  pub room : ℕ
  -- for each column in use: its trace, its gap and the column that it was forked from
  pub owners : List ℕ
  pub gaps : List ℕ
  pub parents : List ℕ
  -- for each column in use: the row of the trace that it names, if it names one
  pub traces : List (Option Trace)
  -- the marks of all traces in order: where each opens and where it closes
  pub brackets : List ℕ
  -- for each column in use: the fork outward of its fork, as it was when the fork was made
  pub outers : List (Option ℕ)

abbrev pub used : ColumnTable → ℕ
used c = length c.owners

abbrev pub owner : ColumnTable → ℕ → ℕ
owner c i = slice_index c.owners i

abbrev pub gap : ColumnTable → ℕ → ℕ
gap c i = slice_index c.gaps i

abbrev pub trace_in : Option (Option Trace) → Option Trace
trace_in None = None
trace_in (Some x) = x

abbrev pub lead_in : Option Trace → Option ℕ
lead_in None = None
lead_in (Some x) = x.lead

abbrev pub up_in : Option Trace → Option ℕ
up_in None = None
up_in (Some x) = x.up

abbrev pub head_in : Option Trace → ℕ
head_in None = 0
head_in (Some x) = x.head

abbrev pub trace : ColumnTable → ℕ → Option Trace
trace c t = trace_in (slice_get c.traces t)

-- column t names a trace
abbrev pub is_trace : ColumnTable → ℕ → Bool
is_trace c t = is_some (trace c t)

abbrev pub lead : ColumnTable → ℕ → Option ℕ
lead c t = lead_in (trace c t)

abbrev pub up : ColumnTable → ℕ → Option ℕ
up c t = up_in (trace c t)

abbrev pub head : ColumnTable → ℕ → ℕ
head c t = head_in (trace c t)

-- the marks of trace t in the list of brackets: where it opens and where it closes
abbrev pub opening_mark : ℕ → ℕ
opening_mark t = 2 * t

abbrev pub closing_mark : ℕ → ℕ
closing_mark t = 2 * t + 1

-- mark b comes after mark a
abbrev pub stands_before : List ℕ → ℕ → ℕ → Bool
stands_before [] a b = false
stands_before (x ∷ xs) a b = if x == a then has xs b else stands_before xs a b

-- trace t lies inside trace outer, and is not outer
abbrev pub inside : ColumnTable → ℕ → ℕ → Bool
inside c t outer = stands_before c.brackets (opening_mark outer) (opening_mark t) && stands_before c.brackets (opening_mark t) (closing_mark outer)

-- a tier with the root alone
abbrev pub first_tier : ℕ → ColumnTable
first_tier room = record {
  room = room;
  owners = 0 ∷ [];
  gaps = 0 ∷ [];
  parents = 0 ∷ [];
  traces = Some (record { head = 0; lead = Some 0; up = None }) ∷ [];
  brackets = 0 ∷ 1 ∷ [];
  outers = None ∷ [];
}

-- ## Forks outward of a fork
-- Fork m is outward of fork n if n lies inside the left strand of m.

abbrev pub fork_in : Option (Option ℕ) → Option ℕ
fork_in None = None
fork_in (Some x) = x

abbrev pub outer : ColumnTable → ℕ → Option ℕ
outer c i = fork_in (slice_get c.outers i)

-- the fork outward of a fork that the strand of column i makes: for a left strand its own fork, for a right strand the fork
-- outward of its own fork; there is none if its own fork is split
abbrev pub outer_at : ColumnTable → ℕ → Option ℕ
outer_at c zero = None
outer_at c (suc n) = if is_trace c (suc n) then None else if suc n % 2 == 1 then Some (suc n) else outer c n

abbrev pub unless_split : ColumnTable → Option ℕ → Option ℕ
unless_split c None = None
unless_split c (Some s) = if is_trace c s then None else Some s

-- the fork that has to be split before fork f: the fork outward of it, if that has not been split since
abbrev pub before_split : ColumnTable → ℕ → Option ℕ
before_split c f = unless_split c (outer c f)

-- ## Forks

-- the columns after the strand of column p forked, with two more; word is the word of its gap
abbrev pub forked : ℕ → ℕ → ColumnTable → ColumnTable
forked word p c =
    let g = if word == 0 then gap c p else used c in
    record c {
      owners = c.owners ++ owner c p ∷ owner c p ∷ [];
      gaps = c.gaps ++ g ∷ g ∷ [];
      parents = c.parents ++ p ∷ p ∷ [];
      traces = c.traces ++ None ∷ None ∷ [];
      outers = c.outers ++ outer_at c p ∷ outer_at c p ∷ [];
    }

-- the left strand of the fork of column p
abbrev pub left_column_of : ℕ → ℕ
left_column_of p = p - 1 + p % 2

-- ## Splits and merges

-- the owner of column i after trace t was cut at fork f, if it was o before
abbrev pub part_of : ℕ → ℕ → ℕ → ℕ → ℕ
part_of t f i o = if i == f + 1 then f + 1 else if (o == t) && nat_le f i then f else o

abbrev pub parts : ℕ → ℕ → ℕ → List ℕ → List ℕ
parts t f i [] = []
parts t f i (o ∷ os) = part_of t f i o ∷ parts t f (suc i) os

-- the owner of a column after the traces of fork f went back to trace t, if it was o before
abbrev pub back_to : ℕ → ℕ → ℕ → ℕ
back_to t f o = if (o == f) || (o == f + 1) then t else o

-- the list with ns inserted right after `at`
abbrev pub place_after : ℕ → List ℕ → List ℕ → List ℕ
place_after at ns [] = []
place_after at ns (b ∷ bs) = if b == at then b ∷ (ns ++ bs) else b ∷ place_after at ns bs

-- the marks of the two traces of a split fork
abbrev pub marks : ℕ → List ℕ
marks f = opening_mark f ∷ closing_mark f ∷ opening_mark (f + 1) ∷ closing_mark (f + 1) ∷ []

abbrev pub is_mark_of : ℕ → ℕ → Bool
is_mark_of x b = (b == opening_mark x) || (b == closing_mark x)

abbrev pub is_lead : Option ℕ → ℕ → Bool
is_lead None g = false
is_lead (Some l) g = l == g

abbrev pub or_else : Option ℕ → ℕ → Option ℕ → Option ℕ
or_else None t u = u
or_else (Some l) t u = Some t

-- what is left of lead l if gap g goes to a part that is cut off
abbrev pub kept_lead : Option ℕ → ℕ → Option ℕ
kept_lead l g = if is_lead l g then None else l

-- the row of a trace, or a row of 0 and None
abbrev pub row_in : Option (Option Trace) → Trace
row_in o = record { head = head_in (trace_in o); lead = lead_in (trace_in o); up = up_in (trace_in o) }

-- the columns after the trace of fork f was cut there; the brackets are as before
abbrev pub split_columns : ℕ → ColumnTable → ColumnTable
split_columns f c =
    let t = owner c f in
    let l = kept_lead (lead c t) (gap c f) in
    let above = or_else l t (up c t) in
    record c {
      owners = parts t f 0 c.owners;
      gaps = slice_set c.gaps (f + 1) (f + 1);
      traces =
          slice_set (slice_set (slice_set c.traces t (Some (record { head = head c t; lead = l; up = up c t })))
          f (Some (record { head = gap c f; lead = Some (gap c f); up = above })))
          (f + 1) (Some (record { head = f + 1; lead = Some (f + 1); up = above }));
    }

-- the tier after the trace of fork f was cut there
abbrev pub split_at : ℕ → ColumnTable → ColumnTable
split_at f c = record (split_columns f c) { brackets = place_after (opening_mark (owner c f)) (marks f) c.brackets }

-- the trace around a fork
abbrev pub around_fork : ColumnTable → ℕ → ℕ
around_fork c f = owner c (slice_index c.parents f)

-- the columns after both traces of the split fork f went back to the trace that they were cut from; the brackets are as before
abbrev pub merge_columns : ℕ → ColumnTable → ColumnTable
merge_columns f c =
    let t = around_fork c f in
    record c {
      owners = map (back_to t f) c.owners;
      traces = slice_set (slice_set (slice_set c.traces t (Some (record { head = head c t; lead = Some (head c t); up = up c t }))) f None) (f + 1) None;
    }

-- the tier after both traces of the split fork f went back to the trace that they were cut from
abbrev pub merged : ℕ → ColumnTable → ColumnTable
merged f c = record (merge_columns f c) { brackets = filter (λ b. not (is_mark_of f b || is_mark_of (f + 1) b)) c.brackets }

-- the words after a block began in gap g: a new outermost block takes the word
abbrev pub begun_word : List ℕ → ℕ → ℕ → List ℕ
begun_word ws g stamp = if slice_index ws g == 0 then slice_set ws g stamp else ws

-- the words after the block with this begin stamp closed: the word that it took is 0 again
abbrev pub closed_word : List ℕ → ℕ → ℕ → List ℕ
closed_word ws g stamp = if slice_index ws g == stamp then slice_set ws g 0 else ws
