-- The steps of a walk over a tree: at each node one that enters it and one that leaves it.
use Rattle.std.specs.Prelude.{ℕ, ◌<◌, List, [], ◌∷◌, length, map, reverse, slice_get, Option, Some, None}
use Rattle.cw_strand.specs.Strands.{Strands}
use Rattle.cw_tree.specs.declared.node.Node.{Node}
use Rattle.cw_tree.specs.Series.{children}
use Rattle.cw_record.specs.declared.record_end.RecordEnd.{RecordEnd}
use Rattle.cw_audit.specs.declared.strands.walk.Visit.{Visit}
use Rattle.cw_audit.specs.declared.strands.walk.Visit.TheVariants.{Enter, Leave}
use Rattle.cw_audit.specs.Visits.{WalkSpot, MayEnterKind, MayLeaveKind, entered_kind, left_kind}

-- the node is there
abbrev pub IsThere : List Node → Visit → Type 0
IsThere t (Enter n) = n < length t
IsThere t (Leave n) = n < length t

-- What comes next once the walk has taken a step, the first of it last: in a node that it has entered its children, and then to leave it.
abbrev pub steps_after : List Node → Visit → List Visit
steps_after t (Enter n) = Leave n ∷ map Enter (reverse (children t n))
steps_after t (Leave n) = []

module _ {A : Type 0} (s : Strands A) (t : List Node) where
  abbrev pub MayEnter : Option Node → WalkSpot A → Type 0
  MayEnter None p = ⊥
  MayEnter (Some x) p = MayEnterKind s x.kind p

  abbrev pub entered_node : ℕ → Option Node → WalkSpot A → WalkSpot A
  entered_node n None p = p
  entered_node n (Some x) p = entered_kind s t n x.kind x.state p

  abbrev pub MayLeaveNode : RecordEnd → ℕ → Option Node → WalkSpot A → Type 0
  MayLeaveNode e n None p = ⊥
  MayLeaveNode e n (Some x) p = MayLeaveKind s t e n x.kind x.state p

  abbrev pub left_node : ℕ → Option Node → WalkSpot A → WalkSpot A
  left_node n None p = p
  left_node n (Some x) p = left_kind s t n x.kind x.state p

  -- the walk may take this step from here
  abbrev pub MayVisit : RecordEnd → Visit → WalkSpot A → Type 0
  MayVisit e (Enter n) p = MayEnter (slice_get t n) p
  MayVisit e (Leave n) p = MayLeaveNode e n (slice_get t n) p

  -- where it is then
  abbrev pub visited : Visit → WalkSpot A → WalkSpot A
  visited (Enter n) p = entered_node n (slice_get t n) p
  visited (Leave n) p = left_node n (slice_get t n) p
