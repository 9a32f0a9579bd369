-- A walk over a tree, depth first: where its strands are, and what becomes of them at each node that it enters or leaves.
use Rattle.std.specs.Prelude.{◌≡◌, ℕ, ◌&&◌, Bool, nat_lt, List, [], ◌∷◌, drop, Option, Some, None, option_map, if◌then◌else◌}
use Rattle.cw_strand.specs.declared.want.Given.{Given}
use Rattle.cw_strand.specs.declared.want.Given.TheVariants.{Nothing, Value, Back as Wrote}
use Rattle.cw_strand.specs.declared.want.Want.TheVariants as want
use Rattle.cw_strand.specs.Strands.{Strands}
use Rattle.cw_tree.specs.declared.node.Node.{Node}
use Rattle.cw_tree.specs.declared.node.Kind.{Kind}
use Rattle.cw_tree.specs.declared.node.Kind.TheVariants.{Strand, Fork, Block, Read, Tried, Cancel}
use Rattle.cw_tree.specs.declared.node.BlockState.{BlockState}
use Rattle.cw_tree.specs.declared.node.BlockState.TheVariants.{Committed}
use Rattle.cw_tree.specs.Series.{has_later, place}
use Rattle.cw_record.specs.declared.record_end.RecordEnd.{RecordEnd}
use Rattle.cw_record.specs.declared.record_end.RecordEnd.TheVariants.{Fault}
use Rattle.cw_audit.specs.Settled.{IsWantedAs, IsSome, MayLeave, joins}

-- something comes after node n. Nothing comes after the root.
abbrev pub comes_later : List Node → ℕ → Bool
comes_later t n = nat_lt 0 n && has_later t n

-- the answer that a node of this kind gives to its strand
abbrev pub answer_told : Kind → Given
answer_told (Read c v) = Value v
answer_told (Cancel back) = Wrote back
answer_told k = Nothing

-- the place in which the strand of a fault stopped; of any other end nothing is said
abbrev pub IsPlaceOf : List Node → RecordEnd → ℕ → Type 0
IsPlaceOf t (Fault x kind) p = p ≡ place t x
IsPlaceOf t e p = Unit {0}

-- ## Where the strands are

pub record WalkSpot (A : Type 0) : Type 0 where
  -- the strand that the walk is in, or none where nothing may follow
  pub now : Option A
  -- What is kept, the newest first: the right strand of a fork while the walk is in the left one, what was reached in the left one while
  -- it is in the right one, and the strand before a block that is tried again.
  pub kept : List (Option A)

abbrev pub kept_last : {A : Type 0} → List (Option A) → Option A
kept_last [] = None
kept_last (o ∷ os) = o

-- keeps the strand
abbrev pub keeping : {A : Type 0} → WalkSpot A → WalkSpot A
keeping p = record { now = p.now; kept = p.now ∷ p.kept }

-- goes back to what was kept last
abbrev pub gone_back : {A : Type 0} → WalkSpot A → WalkSpot A
gone_back p = record { now = kept_last p.kept; kept = drop 1 p.kept }

-- changes places with what was kept last
abbrev pub turned : {A : Type 0} → WalkSpot A → WalkSpot A
turned p = record { now = kept_last p.kept; kept = p.now ∷ drop 1 p.kept }

module _ {A : Type 0} (s : Strands A) where
  -- the walk before the root
  abbrev pub beginning : WalkSpot A
  beginning = record { now = Some s.start; kept = [] }

  -- the strand is answered
  abbrev pub answered : Given → WalkSpot A → WalkSpot A
  answered given p = record { now = option_map (λ a. s.answer a given) p.now; kept = p.kept }

  -- the strand forks: the walk is in the left one, and keeps the right one
  abbrev pub forked_from : Option A → List (Option A) → WalkSpot A
  forked_from None os = record { now = None; kept = os }
  forked_from (Some a) os = record { now = Some (s.left a); kept = Some (s.right a) ∷ os }

  abbrev pub forked : WalkSpot A → WalkSpot A
  forked p = forked_from p.now p.kept

  -- what two strands join to; the right one stays if there is no left one
  abbrev pub joined_strand : (right left : Option A) → Option A
  joined_strand (Some r) (Some l) = Some (s.joined r l)
  joined_strand o p = o

  -- the walk may enter a node of this kind
  abbrev pub MayEnterKind : Kind → WalkSpot A → Type 0
  MayEnterKind k p = IsSome (λ a. IsWantedAs k (s.want a)) p.now

-- ## At a node

module _ {A : Type 0} (s : Strands A) (t : List Node) where
  -- both strands of a fork are left
  abbrev pub joined_from : WalkSpot A → WalkSpot A
  joined_from p = record { now = joins s t p.now (kept_last p.kept); kept = drop 1 p.kept }

  -- inside a node, once the walk has entered it
  abbrev pub entered_kind : ℕ → Kind → BlockState → WalkSpot A → WalkSpot A
  entered_kind n Strand state p = p
  entered_kind n Fork state p = forked s p
  entered_kind n Block Committed p = answered s Nothing p
  entered_kind n Block state p = answered s Nothing (if comes_later t n then keeping p else p)
  entered_kind n (Tried c) state p = p
  entered_kind n k state p = answered s (answer_told k) p

  -- behind a node, once the walk has left it
  abbrev pub left_kind : ℕ → Kind → BlockState → WalkSpot A → WalkSpot A
  left_kind n Strand state p = if comes_later t n then turned p else p
  left_kind n Fork state p = joined_from p
  left_kind n Block Committed p = answered s Nothing p
  left_kind n Block state p = if comes_later t n then gone_back p else record { now = None; kept = p.kept }
  left_kind n k state p = p

  -- the walk may leave the node
  abbrev pub MayLeaveKind : RecordEnd → ℕ → Kind → BlockState → WalkSpot A → Type 0
  MayLeaveKind e n Strand state p = MayLeave s t e n p.now
  MayLeaveKind e n Block Committed p = IsSome (λ a. s.want a ≡ want.End) p.now
  MayLeaveKind e n Block state p = MayLeave s t e n p.now
  MayLeaveKind e n k state p = Unit {0}
