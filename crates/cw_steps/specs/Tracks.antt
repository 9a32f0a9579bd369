-- A token's log and where its strand stands in it, and what each step makes of that.
use Rattle.std.specs.Prelude.{ℕ, ℤ, ◌+◌, ◌-◌, ◌<◌, ◌≤◌, ◌^◌, ◌==◌, ◌&&◌, nat_le, min, Bool, true, false, List, [], ◌∷◌, ◌++◌, drop, length, map, reverse, vec_len, vec_capacity, Option, Some, None, IsTrue, is_some, find, if◌then◌else◌}
use Rattle.cw_tree.specs.declared.node.Node.{Node}
use Rattle.cw_tree.specs.declared.node.Kind.{Kind}
use Rattle.cw_tree.specs.declared.node.Kind.TheVariants.{Strand, Fork, Block, Read, Write, Tried}
use Rattle.cw_tree.specs.declared.node.Kind.TheVariants as kind
use Rattle.cw_tree.specs.declared.node.BlockState.{BlockState}
use Rattle.cw_tree.specs.declared.node.BlockState.TheVariants.{Pending, Committed, Aborted}
use Rattle.cw_tree.specs.declared.conflict.Conflict.{Conflict}
use Rattle.cw_tree.specs.Nodes.{parent_of, fresh_node, closed}
use Rattle.cw_log.specs.declared.log.Above.{Above}
use Rattle.cw_log.specs.declared.log.Log.{Log}
use Rattle.cw_log.specs.declared.token.Side.{Side}
use Rattle.cw_log.specs.declared.token.Side.TheVariants.{Beside, First, Second}
use Rattle.cw_steps.specs.declared.track.Track.{Track}
use Rattle.cw_steps.specs.declared.track.Stood.{Stood}
use Rattle.cw_steps.specs.declared.track.Ahead.{Ahead}
use Rattle.cw_steps.specs.declared.track.Spare.{Spare}
use Rattle.cw_steps.specs.declared.track.Tail.{Tail}
use Rattle.cw_log.specs.declared.token.Stop.{Stop}
use Rattle.cw_tree.specs.declared.closed.Halt.{Halt}
use Rattle.cw_steps.specs.declared.view.Coming.{Coming}
use Rattle.cw_steps.specs.declared.view.Whereabouts.{Whereabouts}
use Rattle.cw_steps.specs.declared.draw.Draw.{Draw}
use Rattle.cw_steps.specs.declared.draw.Draw.TheVariants as draw
use Rattle.cw_steps.specs.declared.draw.Home.{Home}
use Rattle.cw_steps.specs.declared.draw.Home.TheVariants as home

-- What contracts see of a track. The strands that wait and the pending blocks are listed innermost first.
pub record TrackParts : Type 0 where
  pub own : Log
  pub joined : List Log
  pub strand : ℕ
  pub place : ℕ
  pub column : ℕ
  pub gap : ℕ
  pub word : ℕ
  pub outer : List Stood
  pub pending : List Above
  pub tail : Tail
  pub ahead : Option Ahead
  pub behind : ℕ
  pub second : Bool

abbrev pub track_of : Track → TrackParts
track_of c = record {
  own = record { column = c.first; from = c.from; fork = c.fork; nodes = c.nodes.items; conflicts = c.conflicts.items };
  joined = c.joined;
  strand = c.strand;
  place = c.place;
  column = c.column;
  gap = c.gap;
  word = c.word;
  outer = reverse c.outer.items;
  pending = reverse c.pending.items;
  tail = c.tail;
  ahead = c.ahead;
  behind = c.behind;
  second = c.second;
}

-- it has room for `n` more nodes, conflicts, forks and pending blocks
pub record IsReady (c : Track) (n : ℕ) : Type 0 where
  pub few : length c.nodes.items + n < 2 ^ 32
  pub nodes : vec_len c.nodes + n ≤ vec_capacity c.nodes
  pub conflicts : vec_len c.conflicts + n ≤ vec_capacity c.conflicts
  pub forks : vec_len c.outer + n ≤ vec_capacity c.outer
  pub blocks : vec_len c.pending + n ≤ vec_capacity c.pending

-- what is spare has room for `n` pending blocks
abbrev pub HasSpare : (n : ℕ) → Option Spare → Type 0
HasSpare n None = ⊥
HasSpare n (Some s) = n ≤ vec_capacity s.pending

-- it has room for what a right strand begins with
abbrev pub CanPart : Track → Type 0
CanPart c = HasSpare (length c.pending.items) c.spare

-- it may be taken into another token's list
abbrev pub HasRoom : Track → Type 0
HasRoom c = IsTrue (is_some c.room)

abbrev pub fresh_log : (column from fork : ℕ) → Log
fresh_log column from fork = record { column = column; from = from; fork = fork; nodes = fresh_node 0 Strand 0 ∷ []; conflicts = [] }

-- no rolled-back blocks and no refused accesses at the end
abbrev pub plain_tail : Tail
plain_tail = record { aborted = 0; tried = 0; cell = 0 }

-- a track on which nothing was done yet
abbrev pub fresh_track : (column from fork gap : ℕ) → TrackParts
fresh_track column from fork gap = record {
  own = fresh_log column from fork;
  joined = [];
  strand = 0;
  place = 0;
  column = column;
  gap = gap;
  word = 0;
  outer = [];
  pending = [];
  tail = plain_tail;
  ahead = None;
  behind = 0;
  second = false;
}

-- ## Pending blocks, and attempts

abbrev pub begins : List Above → List ℕ
begins blocks = map (λ (a : Above). a.begin) blocks

-- the `n` blocks that were begun first, in a list with the innermost first
abbrev pub first_begun : (n : ℕ) → List Above → List Above
first_begun n blocks = drop (length blocks - n) blocks

-- one more attempt, counted up to the largest 32-bit number
abbrev pub one_more : ℕ → ℕ
one_more n = min (n + 1) (2 ^ 32 - 1)

-- a block that was rolled back counts as one attempt
abbrev pub tail_behind : BlockState → Option Above → Tail
tail_behind Aborted (Some a) = record plain_tail { aborted = a.attempt }
tail_behind Aborted None = plain_tail
tail_behind Committed a = plain_tail
tail_behind Pending a = plain_tail

-- the number of refused accesses of this cell at the end
abbrev pub tries_of : Tail → (cell : ℕ) → ℕ
tries_of t c = if t.cell == c then t.tried else 0

abbrev pub tail_tried : (cell : ℕ) → Tail → Tail
tail_tried c t = record { aborted = 0; tried = one_more (tries_of t c); cell = c }

abbrev pub innermost_of : List Above → Option Above
innermost_of [] = None
innermost_of (a ∷ blocks) = Some a

-- ## What each draw makes of it

abbrev pub kind_of_access : (cell : ℕ) → Bool → ℤ → Kind
kind_of_access c true v = Write c v
kind_of_access c false v = Read c v

abbrev pub state_of_end : Bool → BlockState
state_of_end true = Aborted
state_of_end false = Committed

abbrev pub track_with_nodes : TrackParts → List Node → TrackParts
track_with_nodes c ns = record c { own = record c.own { nodes = ns } }

-- before a draw, the track is done with all forks behind which it went
abbrev pub settled : TrackParts → TrackParts
settled c = record c { behind = 0; second = false }

-- one more node in its place
abbrev pub made_at : TrackParts → Kind → (stamp : ℕ) → TrackParts
made_at c k stamp = record (track_with_nodes c (c.own.nodes ++ fresh_node c.place k stamp ∷ [])) { tail = plain_tail }

-- one more block in its place; it goes on inside
abbrev pub track_in_block : TrackParts → (stamp : ℕ) → TrackParts
track_in_block c stamp = record (made_at c Block stamp) {
  place = length c.own.nodes;
  pending = record { begin = stamp; column = c.column; attempt = one_more c.tail.aborted } ∷ c.pending;
}

-- the block in its place is closed, and it goes on behind that block
abbrev pub closed_at : TrackParts → BlockState → (end : ℕ) → TrackParts
closed_at c state end = record (track_with_nodes c (closed c.own.nodes c.place state end)) {
  place = parent_of c.own.nodes c.place;
  pending = drop 1 c.pending;
  tail = tail_behind state (innermost_of c.pending);
}

-- where its strand stands while it waits on this side of a fork
abbrev pub stood_in : Side → TrackParts → Stood
stood_in side c = record { side = side; strand = c.strand; place = c.place; column = c.column; gap = c.gap; word = c.word; pending = length c.pending }

module _ (shared : Bool) where
  -- the strands of fork node `n` that get a node in this log: both, if they share a column
  abbrev pub strands_in : ℕ → List Node
  strands_in n = if shared then fresh_node n Strand 0 ∷ fresh_node n Strand 0 ∷ [] else fresh_node n Strand 0 ∷ []

  abbrev pub side_in : (n left : ℕ) → Side
  side_in n left = if shared then First (n + 2) else Beside left

  abbrev pub word_in : ℕ → ℕ
  word_in word = if shared then word else 0

  abbrev pub ahead_in : (n left right gap : ℕ) → Option Ahead → Option Ahead
  ahead_in n left right gap old = if shared then old else Some (record { fork = left; node = n; column = right; gap = gap })

  -- One more fork with its left strand, in which it goes on; with its right strand too, if both share a column. The gap word of a
  -- new column is 0.
  abbrev pub forked_in : TrackParts → (left right gap stamp : ℕ) → TrackParts
  forked_in c left right gap stamp =
      let n = length c.own.nodes in
      record (track_with_nodes c (c.own.nodes ++ fresh_node c.place Fork stamp ∷ strands_in n)) {
        strand = n + 1;
        place = n + 1;
        column = left;
        gap = gap;
        word = word_in c.word;
        outer = stood_in (side_in n left) c ∷ c.outer;
        tail = plain_tail;
        ahead = ahead_in n left right gap c.ahead;
      }

abbrev pub forked_at : TrackParts → (left right gap stamp : ℕ) → TrackParts
forked_at c left right gap stamp = forked_in (left == right) c left right gap stamp

-- the most nodes that a draw adds
abbrev pub added : Draw → ℕ
added (draw.Access c wrote v) = 1
added (draw.Fork left right gap) = 3
added (draw.Out v) = 1
added (draw.Cancel back) = 1
added draw.Begin = 1
added (draw.End aborted) = 0

abbrev pub drawn : Draw → (stamp : ℕ) → TrackParts → TrackParts
drawn (draw.Access c wrote v) stamp x = made_at (settled x) (kind_of_access c wrote v) stamp
drawn (draw.Fork left right gap) stamp x = forked_at (settled x) left right gap stamp
drawn (draw.Out v) stamp x = made_at (settled x) (kind.Out v) stamp
drawn (draw.Cancel back) stamp x = made_at (settled x) (kind.Cancel back) stamp
drawn draw.Begin stamp x = track_in_block (settled x) stamp
drawn (draw.End aborted) stamp x = closed_at (settled x) (state_of_end aborted) stamp

-- the word of its gap was written
abbrev pub with_word : (word : ℕ) → TrackParts → TrackParts
with_word x c = record c { word = x }

-- ## What comes with a turn that is given back

-- one more refused access, with its conflict
abbrev pub refused_at : TrackParts → Conflict → TrackParts
refused_at c x = record c {
  own = record c.own {
    nodes = c.own.nodes ++ fresh_node c.place (Tried x.cell) 0 ∷ [];
    conflicts = c.own.conflicts ++ record x { asker = length c.own.nodes } ∷ [];
  };
  tail = tail_tried x.cell c.tail;
}

abbrev pub brought : Home → TrackParts → TrackParts
brought (home.Refused x) c = refused_at c x
brought (home.Split fork used) c = record c { gap = c.column }
brought home.Plain c = c
brought (home.Merge fork used) c = c
brought (home.Inline used) c = c
brought (home.Early before used) c = c

abbrev pub added_home : Home → ℕ
added_home (home.Refused x) = 1
added_home (home.Split fork used) = 0
added_home home.Plain = 0
added_home (home.Merge fork used) = 0
added_home (home.Inline used) = 0
added_home (home.Early before used) = 0

-- ## What its seat's view knows of it

abbrev pub coming_of : Option Ahead → Option Coming
coming_of None = None
coming_of (Some a) = Some (record { fork = a.fork; column = a.column; gap = a.gap })

abbrev pub halt_of : Option Stop → Option Halt
halt_of None = None
halt_of (Some x) = Some x.halt

abbrev pub put_first : Side → Stood → List Whereabouts → List Whereabouts
put_first (Beside fork) o ws = record { column = o.column; gap = o.gap; word = o.word } ∷ ws
put_first (First right) o ws = ws
put_first Second o ws = ws

-- the strands that wait for forks with two tokens
abbrev pub outer_of : List Stood → List Whereabouts
outer_of [] = []
outer_of (o ∷ os) = put_first o.side o (outer_of os)

-- the begin stamps of the blocks around its place, and of those around the places of the strands that wait
abbrev pub arounds_of : List Above → List Stood → List (List ℕ)
arounds_of blocks [] = begins blocks ∷ []
arounds_of blocks (o ∷ os) = begins blocks ∷ arounds_of (first_begun o.pending blocks) os

-- each block around a strand that waits is also around those further in
abbrev pub are_within : (n : ℕ) → List Stood → Bool
are_within n [] = true
are_within n (o ∷ os) = nat_le o.pending n && are_within o.pending os

-- ## From one strand of a fork to the next

-- from the left strand of an inline fork to the right one, and from there to the strand that forked
abbrev pub turned_on : TrackParts → Stood → List Stood → Side → TrackParts
turned_on c o os (Beside fork) = c
turned_on c o os (First right) = record c { strand = right; place = right; outer = record o { side = Second } ∷ os; pending = first_begun o.pending c.pending; tail = plain_tail; second = true }
turned_on c o os Second = record c { strand = o.strand; place = o.place; outer = os; pending = first_begun o.pending c.pending; tail = plain_tail; behind = c.behind + 1; second = false }

abbrev pub turned_track_by : TrackParts → List Stood → TrackParts
turned_track_by c [] = c
turned_track_by c (o ∷ os) = turned_on c o os o.side

abbrev pub turned_track : TrackParts → TrackParts
turned_track c = turned_track_by c c.outer

abbrev pub column_or : Option Stood → ℕ
column_or None = 0
column_or (Some o) = o.column

-- the column of a strand in which it stands: its own, that of one that waits, or 0
abbrev pub column_of_strand : TrackParts → (strand : ℕ) → ℕ
column_of_strand c n = if n == c.strand then c.column else column_or (find (λ (o : Stood). o.strand == n) c.outer)

-- ## Tokens split off and taken in

-- after the token of the right strand was split off
abbrev pub parted : TrackParts → TrackParts
parted c = record (settled c) { ahead = None }

-- The right strand, before it has done anything. Its log hangs from the log with column `from`, and the blocks `around` are around
-- it.
abbrev pub right_track : (from : ℕ) → (around : List Above) → Option Ahead → TrackParts
right_track from around None = record (fresh_track 0 from 0 0) { pending = around }
right_track from around (Some a) = record (fresh_track a.column from a.node a.gap) { pending = around }

-- the track of a token that only carries a note
abbrev pub note_track : (column gap : ℕ) → TrackParts
note_track column gap = record (fresh_track column 0 0 gap) { own = record (fresh_log column 0 0) { nodes = [] } }

-- it stands where the innermost waiting strand stood
abbrev pub stood_by : TrackParts → List Stood → TrackParts
stood_by c [] = c
stood_by c (o ∷ os) = record c {
  strand = o.strand;
  place = o.place;
  column = o.column;
  gap = o.gap;
  word = o.word;
  outer = os;
  pending = first_begun o.pending c.pending;
  tail = plain_tail;
}

-- on this side of a fork, the right strand has a token of its own
abbrev pub IsBeside : Side → Type 0
IsBeside (Beside fork) = Unit {0}
IsBeside (First right) = ⊥
IsBeside Second = ⊥

abbrev pub WaitsBeside : List Stood → Type 0
WaitsBeside [] = ⊥
WaitsBeside (o ∷ os) = IsBeside o.side

-- the strand that forked, with the logs of both strands
abbrev pub joined_track : (left right : TrackParts) → TrackParts
joined_track c d = record (stood_by (settled c) c.outer) { joined = c.joined ++ d.own ∷ d.joined }
