-- What a coherent record is: what the record of any run has to be, also if strands ran at the same time, were refused and rolled
-- back.
--
-- Tree, stamps, journals and refusals are as they have to be, and the tree is what the strands of the program did. For that, each
-- node has the state of its strand before it and the one after it. A strand or block also has the state that was reached in it.
use Rattle.std.specs.Prelude.{◌≡◌, ℕ, ℤ, ◌<◌, ◌&&◌, ◌||◌, not, IsTrue, List, [], ◌∷◌, map, length, slice_get, Option, Some, None, if◌then◌else◌}
use Rattle.std.specs.List.{flat_map}
use Rattle.cw_strand.specs.declared.want.Want.TheVariants as want
use Rattle.cw_strand.specs.declared.want.Given.TheVariants.{Nothing, Value, Back as Wrote}
use Rattle.cw_strand.specs.Strands.{Strands, is_over}
use Rattle.cw_tree.specs.declared.node.Node.{Node}
use Rattle.cw_tree.specs.declared.node.Kind.{Kind}
use Rattle.cw_tree.specs.declared.node.Kind.TheVariants.{Strand, Fork, Block, Read, Write, Out, Tried, Cancel}
use Rattle.cw_tree.specs.declared.node.BlockState.{BlockState}
use Rattle.cw_tree.specs.declared.node.BlockState.TheVariants.{Committed}
use Rattle.cw_tree.specs.declared.access.Entry.{Entry}
use Rattle.cw_tree.specs.declared.conflict.Conflict.{Conflict}
use Rattle.cw_tree.specs.declared.closed.Halt.{Halt}
use Rattle.cw_tree.specs.declared.closed.Halt.TheVariants as halt
use Rattle.cw_tree.specs.Nodes.{parent_of, is_strand, is_fork, is_block, is_committed}
use Rattle.cw_tree.specs.Series.{children, has_later, place}
use Rattle.cw_tree.specs.Shape.{NonePending}
use Rattle.cw_tree.specs.Accesses.{is_live, live_accesses, written, cell_value}
use Rattle.cw_tree.specs.Refusals.{MayFault, MaySpend}
use Rattle.cw_tree.specs.Histories.{IsHistory}
use Rattle.cw_tree.specs.Links.{last_child}
use Rattle.cw_record.specs.declared.record_end.RecordEnd.{RecordEnd}
use Rattle.cw_record.specs.declared.record_end.RecordEnd.TheVariants.{Finished, Fault, Budget, Moves}
use Rattle.cw_record.specs.declared.items.OrderItem.{OrderItem}
use Rattle.cw_record.specs.Items.{items}
use Rattle.cw_record.specs.Order.{node_of}
use Rattle.cw_record.specs.Replay.{IsAccessOf}

-- ## The strands

-- these nodes, one after another, lead from state a to state b
abbrev pub InSeries : {A : Type 0} → (before after : ℕ → A) → A → List ℕ → A → Type 0
InSeries before after a [] b = a ≡ b
InSeries before after a (c ∷ cs) b = (before c ≡ a) × InSeries before after (after c) cs b

module _ {A : Type 0} (s : Strands A) (t : List Node) (before after reached : ℕ → A) where
  -- the state at the start of a strand, or in a block that was just begun
  abbrev pub entered : ℕ → A
  entered n = if is_block t n then s.answer (before n) Nothing else before n

  -- the two strands of fork f start as what its strand splits into
  abbrev pub IsForkOf : ℕ → List ℕ → Type 0
  IsForkOf f (l ∷ r ∷ []) = (before l ≡ s.left (before f)) × (before r ≡ s.right (before f))
  IsForkOf f cs = ⊥

  -- A committed block ended; any other block leaves its strand in the state before it.
  abbrev pub IsClosed : ℕ → BlockState → Type 0
  IsClosed b Committed = (s.want (reached b) ≡ want.End) × (after b ≡ s.answer (reached b) Nothing)
  IsClosed b state = after b ≡ before b

  -- A node is what its strand wants before it, and after it that is answered. A refused access leaves its strand in the state
  -- before it.
  abbrev pub IsWanted : ℕ → Kind → BlockState → Type 0
  IsWanted n Strand state = Unit {0}
  IsWanted n Fork state = (s.want (before n) ≡ want.Fork) × IsForkOf n (children t n)
  IsWanted n Block state = (s.want (before n) ≡ want.Begin) × IsClosed n state
  IsWanted n (Read c v) state = (s.want (before n) ≡ want.Load c) × (after n ≡ s.answer (before n) (Value v))
  IsWanted n (Write c v) state = (s.want (before n) ≡ want.Store c v) × (after n ≡ s.answer (before n) Nothing)
  IsWanted n (Out v) state = (s.want (before n) ≡ want.Out v) × (after n ≡ s.answer (before n) Nothing)
  IsWanted n (Cancel back) state = (s.want (before n) ≡ want.Cancel) × (after n ≡ s.answer (before n) (Wrote back))
  IsWanted n (Tried c) state = IsAccessOf c (s.want (before n)) × (after n ≡ before n)

  -- Strand x has ended: it is over, and if a fork is the last in it, both strands of the fork have ended, and after the fork comes
  -- what they join to.
  pub data StrandEnded : ℕ → Type 0 where
    alone : {x : ℕ} → IsTrue (is_over (s.want (reached x))) → ((f : ℕ) → last_child t x ≡ Some f → IsTrue (not (is_fork t f))) → StrandEnded x
    joined : {x f l r : ℕ} → IsTrue (is_over (s.want (reached x))) → last_child t x ≡ Some f → IsTrue (is_fork t f) → children t f ≡ l ∷ r ∷ []
        → StrandEnded l → StrandEnded r → after f ≡ s.joined (reached r) (reached l) → StrandEnded x

  -- Both strands of fork f have ended, and after it comes what they join to. While one of them runs, nothing is said of the state
  -- after the fork.
  pub record IsJoined (f : ℕ) : Type 0 where
    pub left : ℕ
    pub right : ℕ
    pub strands : children t f ≡ left ∷ right ∷ []
    pub left_ended : StrandEnded left
    pub right_ended : StrandEnded right
    pub behind : after f ≡ s.joined (reached right) (reached left)

  -- if the last node directly in n is a fork, that fork is joined, so the strand can go on
  abbrev pub HasNoOpenFork : ℕ → Type 0
  HasNoOpenFork n = (f : ℕ) → last_child t n ≡ Some f → IsTrue (is_fork t f) → IsJoined f

  -- All nodes, aborted attempts included, are what the strands of a program did.
  pub record Follows : Type 0 where
    pub start : before 0 ≡ s.start
    pub series : (n : ℕ) → n < length t → IsTrue (is_strand t n || is_block t n) → InSeries before after (entered n) (children t n) (reached n)
    pub fits : (n : ℕ) (x : Node) → slice_get t n ≡ Some x → IsWanted n x.kind x.state
    -- after a fork its strand goes on, or ends its block, only once the fork is joined
    pub joined : (f : ℕ) → f < length t → IsTrue (is_fork t f && (has_later t f || is_committed t (parent_of t f))) → IsJoined f

  -- The strand of a fault is at that fault. A finished run has no live strand that has not ended. If a budget is spent, its strand
  -- is at what was refused, because that node fits. If the moves are spent, strands may be anywhere.
  abbrev pub EndStands : RecordEnd → Type 0
  EndStands (Finished memory outputs) = NonePending t × ((x : ℕ) → x < length t → IsTrue (is_strand t x && is_live t x) → StrandEnded x)
  EndStands (Fault x kind) = (s.want (reached (place t x)) ≡ want.Fault kind) × HasNoOpenFork (place t x)
  EndStands (Budget x) = Unit {0}
  EndStands Moves = Unit {0}

-- ## What a finished run leaves

-- what each cell holds after its live accesses
pub record IsMemory (t : List Node) (first memory : List ℤ) : Type 0 where
  pub len : length memory ≡ length first
  pub each : (c : ℕ) (v : ℤ) → slice_get first c ≡ Some v → slice_get memory c ≡ Some (cell_value v (map (written t) (live_accesses t c)))

abbrev pub shown_kind : Kind → List ℤ
shown_kind (Out v) = v ∷ []
shown_kind k = []

abbrev pub shown_node : Option Node → List ℤ
shown_node None = []
shown_node (Some x) = shown_kind x.kind

-- the outputs among these items; the begin and the end of a block are none
abbrev pub outputs_shown : List Node → List OrderItem → List ℤ
outputs_shown t = flat_map (λ i. shown_node (slice_get t (node_of i)))

-- A run that finished leaves this memory.
abbrev pub HasMemory : List Node → (first : List ℤ) → RecordEnd → Type 0
HasMemory t first (Finished memory outputs) = IsMemory t first memory
HasMemory t first e = Unit {0}

-- The outputs of a run that finished are those of its output nodes, in its order. Coherence does not include this.
abbrev pub HasOutputs : List Node → List Conflict → ℕ → RecordEnd → Type 0
HasOutputs t cs budget (Finished memory outputs) = outputs ≡ outputs_shown t (items t cs budget (Finished memory outputs))
HasOutputs t cs budget e = Unit {0}

-- ## Records

abbrev pub halt_of : RecordEnd → Option Halt
halt_of (Finished memory outputs) = None
halt_of (Fault x kind) = Some (halt.Fault x kind)
halt_of (Budget x) = Some (halt.Budget x)
halt_of Moves = None

-- a coherent record of a run of these strands, over a memory with these first values, in which a strand may have `budget` attempts
pub record IsCoherent {A : Type 0} (s : Strands A) (first : List ℤ) (budget : ℕ) (t : List Node) (kept : List (List Entry)) (cs : List Conflict) (e : RecordEnd) : Type 0 where
  pub history : IsHistory t first kept cs
  -- the strand of a fault, or of a spent budget, is one that may have stopped that way
  pub faulted : MayFault t (halt_of e)
  pub spent : MaySpend t cs budget (halt_of e)
  pub memory : HasMemory t first e
  pub strands : (before after reached : ℕ → A) × Follows s t before after reached × EndStands s t before after reached e
