-- The tree alone settles where a strand is behind each node, wherever something may follow, and whether it can have done all that is
-- in the node. Both are given from the node down, to k levels: as many levels as the tree has nodes are enough.
use Rattle.std.specs.Prelude.{◌≡◌, ◌↔◌, ℕ, zero, suc, ◌&&◌, IsTrue, List, [], ◌∷◌, length, slice_get, Option, Some, None, option_map, option_and_then, if◌then◌else◌}
use Rattle.cw_strand.specs.declared.want.Want.{Want}
use Rattle.cw_strand.specs.declared.want.Want.TheVariants as want
use Rattle.cw_strand.specs.declared.want.Given.TheVariants.{Nothing, Value, Back as Wrote}
use Rattle.cw_strand.specs.Strands.{Strands, is_over}
use Rattle.cw_tree.specs.declared.node.Node.{Node}
use Rattle.cw_tree.specs.declared.node.Kind.{Kind}
use Rattle.cw_tree.specs.declared.node.Kind.TheVariants.{Strand, Fork, Block, Read, Write, Out, Tried, Cancel}
use Rattle.cw_tree.specs.declared.node.BlockState.{BlockState}
use Rattle.cw_tree.specs.declared.node.BlockState.TheVariants.{Committed}
use Rattle.cw_tree.specs.Nodes.{is_strand}
use Rattle.cw_tree.specs.Series.{children, has_later, place}
use Rattle.cw_tree.specs.Shape.{IsTree, NonePending}
use Rattle.cw_tree.specs.Accesses.{is_live}
use Rattle.cw_record.specs.declared.record_end.RecordEnd.{RecordEnd}
use Rattle.cw_record.specs.declared.record_end.RecordEnd.TheVariants.{Finished, Fault, Budget, Moves}
use Rattle.cw_record.specs.Order.{ending_strand}
use Rattle.cw_record.specs.Replay.{IsAccessOf}
use Rattle.cw_audit.specs.Parts.{CanHaveDone}

-- a strand that does what a node of this kind tells has this want
abbrev pub IsWantedAs : Kind → Want → Type 0
IsWantedAs Strand w = Unit {0}
IsWantedAs Fork w = w ≡ want.Fork
IsWantedAs Block w = w ≡ want.Begin
IsWantedAs (Read c v) w = w ≡ want.Load c
IsWantedAs (Write c v) w = w ≡ want.Store c v
IsWantedAs (Out v) w = w ≡ want.Out v
IsWantedAs (Cancel back) w = w ≡ want.Cancel
IsWantedAs (Tried c) w = IsAccessOf c w

-- it is there, and `Is` holds of it
abbrev pub IsSome : {X : Type 0} → (X → Type 0) → Option X → Type 0
IsSome Is None = ⊥
IsSome Is (Some x) = Is x

-- a run that finished has no pending block
abbrev pub ClosesBlocks : List Node → RecordEnd → Type 0
ClosesBlocks t (Finished memory outputs) = NonePending t
ClosesBlocks t e = Unit {0}

module _ {A : Type 0} (s : Strands A) (t : List Node) where
  -- ## Behind a node

  -- behind these nodes, one after another
  abbrev pub behind_all : (behind : ℕ → A → Option A) → List ℕ → A → Option A
  behind_all behind [] a = Some a
  behind_all behind (c ∷ cs) a = option_and_then (behind_all behind cs) (behind c a)

  -- behind a fork: if both strands have ended, what they join to
  abbrev pub joins : (right left : Option A) → Option A
  joins (Some r) (Some l) = if is_over (s.want r) && is_over (s.want l) then Some (s.joined r l) else None
  joins o p = None

  abbrev pub behind_both : (behind : ℕ → A → Option A) → List ℕ → A → Option A
  behind_both behind (l ∷ r ∷ []) a = joins (behind r (s.right a)) (behind l (s.left a))
  behind_both behind cs a = None

  -- Behind a node, if the strand is in state a before it, and `behind` tells the same of the nodes in it. Nothing is behind an open
  -- fork, nor behind a block that was not committed and has nothing after it. Behind a strand is what was reached in it.
  abbrev pub behind_kind : (behind : ℕ → A → Option A) → ℕ → Kind → BlockState → A → Option A
  behind_kind behind n Strand state a = behind_all behind (children t n) a
  behind_kind behind n Fork state a = behind_both behind (children t n) a
  behind_kind behind n Block Committed a = option_map (λ b. s.answer b Nothing) (behind_all behind (children t n) (s.answer a Nothing))
  behind_kind behind n Block state a = if has_later t n then Some a else None
  behind_kind behind n (Read c v) state a = Some (s.answer a (Value v))
  behind_kind behind n (Write c v) state a = Some (s.answer a Nothing)
  behind_kind behind n (Out v) state a = Some (s.answer a Nothing)
  behind_kind behind n (Cancel back) state a = Some (s.answer a (Wrote back))
  behind_kind behind n (Tried c) state a = Some a

  abbrev pub behind_node : (behind : ℕ → A → Option A) → ℕ → Option Node → A → Option A
  behind_node behind n None a = None
  behind_node behind n (Some x) a = behind_kind behind n x.kind x.state a

  -- behind node n, if the strand is in state a before it
  abbrev pub state_behind : (levels : ℕ) → ℕ → A → Option A
  state_behind zero n a = None
  state_behind (suc k) n a = behind_node (state_behind k) n (slice_get t n) a

  -- ## What fits

  -- Node n may be left by a strand that is here, so far as the end tells: a live strand of a finished run has ended, and the strand of a
  -- fault is at the fault.
  abbrev pub MayLeave : RecordEnd → ℕ → Option A → Type 0
  MayLeave (Finished memory outputs) n o = IsTrue (is_strand t n && is_live t n) → IsSome (λ a. IsTrue (is_over (s.want a))) o
  MayLeave (Fault x kind) n o = n ≡ place t x → IsSome (λ a. s.want a ≡ want.Fault kind) o
  MayLeave (Budget x) n o = Unit {0}
  MayLeave Moves n o = Unit {0}

  module _ (e : RecordEnd) where
    -- These nodes fit, one after another. Nothing fits where nothing may follow.
    abbrev pub AllFit : (behind : ℕ → A → Option A) → (Fits : ℕ → A → Type 0) → List ℕ → Option A → Type 0
    AllFit behind Fits [] o = Unit {0}
    AllFit behind Fits (c ∷ cs) None = ⊥
    AllFit behind Fits (c ∷ cs) (Some a) = Fits c a × AllFit behind Fits cs (behind c a)

    abbrev pub BothFit : (Fits : ℕ → A → Type 0) → List ℕ → A → Type 0
    BothFit Fits (l ∷ r ∷ []) a = Fits l (s.left a) × Fits r (s.right a)
    BothFit Fits cs a = ⊥

    -- What is in a node fits, and it is left as it may be.
    abbrev pub FitsInside : (behind : ℕ → A → Option A) → (Fits : ℕ → A → Type 0) → ℕ → Kind → BlockState → A → Type 0
    FitsInside behind Fits n Strand state a = AllFit behind Fits (children t n) (Some a) × MayLeave e n (behind_all behind (children t n) a)
    FitsInside behind Fits n Fork state a = BothFit Fits (children t n) a
    FitsInside behind Fits n Block Committed a =
        AllFit behind Fits (children t n) (Some (s.answer a Nothing)) × IsSome (λ b. s.want b ≡ want.End) (behind_all behind (children t n) (s.answer a Nothing))
    FitsInside behind Fits n Block state a =
        AllFit behind Fits (children t n) (Some (s.answer a Nothing)) × MayLeave e n (behind_all behind (children t n) (s.answer a Nothing))
    FitsInside behind Fits n k state a = Unit {0}

    abbrev pub FitsNode : (behind : ℕ → A → Option A) → (Fits : ℕ → A → Type 0) → ℕ → Option Node → A → Type 0
    FitsNode behind Fits n None a = ⊥
    FitsNode behind Fits n (Some x) a = IsWantedAs x.kind (s.want a) × FitsInside behind Fits n x.kind x.state a

    -- A strand in state a can have done what node n tells, and what is in it, and has then left it as the end tells.
    abbrev pub CanDo : (levels : ℕ) → ℕ → A → Type 0
    CanDo zero n a = ⊥
    CanDo (suc k) n a = FitsNode (state_behind k) (CanDo k) n (slice_get t n) a

-- ## The law

-- Strands can have done what a tree tells exactly if the strand of main fits it.
abbrev pub StatesAreSettled : {A : Type 0} → Strands A → Type 0
StatesAreSettled s =
    (t : List Node) (e : RecordEnd) → IsTree t → IsTrue (is_strand t (ending_strand e))
    → CanHaveDone s t e ↔ (ClosesBlocks t e × CanDo s t e (length t) 0 s.start)
