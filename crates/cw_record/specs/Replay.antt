-- When a record replays: in its order, the machine with one memory does what the tree has there, and ends as the record ends.
use Rattle.std.specs.Prelude.{◌≡◌, ℕ, ℤ, ◌≤◌, IsTrue, List, [], ◌∷◌, length, slice_get, Option, Some, None}
use Rattle.cw_strand.specs.declared.want.Want.{Want}
use Rattle.cw_strand.specs.declared.want.Want.TheVariants as want
use Rattle.cw_strand.specs.Strands.{Strands}
use Rattle.cw_tree.specs.declared.node.Node.{Node}
use Rattle.cw_tree.specs.declared.node.Kind.{Kind}
use Rattle.cw_tree.specs.declared.node.Kind.TheVariants.{Read, Write, Out, Cancel}
use Rattle.cw_tree.specs.declared.picks.Turn.{Turn}
use Rattle.cw_tree.specs.declared.picks.Picks.{Picks}
use Rattle.cw_tree.specs.declared.conflict.Conflict.{Conflict}
use Rattle.cw_tree.specs.Nodes.{is_strand}
use Rattle.cw_tree.specs.Names.{name_of}
use Rattle.cw_tree.specs.Series.{strand_of}
use Rattle.cw_tree.specs.Refusals.{victim_of, telling}
use Rattle.cw_serial.specs.declared.ends.SerialEnd.{SerialEnd}
use Rattle.cw_serial.specs.declared.ends.SerialEnd.TheVariants as last
use Rattle.cw_serial.specs.StrandTree.{at}
use Rattle.cw_serial.specs.Machine.{Machine, pick, machine_shows, initial}
use Rattle.cw_serial.specs.Wants.{Since, given_up}
use Rattle.cw_job.specs.Memory.{value_at}
use Rattle.cw_record.specs.declared.record_end.RecordEnd.{RecordEnd}
use Rattle.cw_record.specs.declared.record_end.RecordEnd.TheVariants.{Finished, Fault, Budget, Moves}
use Rattle.cw_record.specs.declared.items.OrderItem.{OrderItem}
use Rattle.cw_record.specs.declared.items.OrderItem.TheVariants.{Begins, Does, Ends}
use Rattle.cw_record.specs.Items.{items}
use Rattle.cw_record.specs.Order.{order_of, node_of, ending_strand}

-- the name of the strand that did an item
abbrev pub doer : List Node → OrderItem → List Turn
doer t i = name_of t (strand_of t (node_of i))

-- the want, answered from this memory, if this is what the begun blocks may put back, is this node of the tree: the same cell,
-- value, kind and list
abbrev pub IsAct : List ℤ → List Since → Want → Kind → Type 0
IsAct memory since w (Read c v) = (w ≡ want.Load c) × (value_at memory c ≡ v)
IsAct memory since w (Write c v) = w ≡ want.Store c v
IsAct memory since w (Out v) = w ≡ want.Out v
IsAct memory since w (Cancel back) = (w ≡ want.Cancel) × (given_up since ≡ back)
IsAct memory since w k = ⊥

abbrev pub IsActOf : List ℤ → List Since → Want → Option Node → Type 0
IsActOf memory since w None = ⊥
IsActOf memory since w (Some x) = IsAct memory since w x.kind

-- the want, which machine m answers, is what the tree has at the item
abbrev pub IsItemDone : {A : Type 0} → List Node → Machine A → Want → OrderItem → Type 0
IsItemDone t m w (Begins b) = w ≡ want.Begin
IsItemDone t m w (Does n) = IsActOf m.memory m.since w (slice_get t n)
IsItemDone t m w (Ends b) = w ≡ want.End

-- the want is a load or a store of cell c
abbrev pub IsAccessOf : ℕ → Want → Type 0
IsAccessOf c (want.Load d) = d ≡ c
IsAccessOf c (want.Store d v) = d ≡ c
IsAccessOf c w = ⊥

abbrev pub IsRefusedBy : (cell : ℕ) → (victim : Option ℕ) → Want → Type 0
IsRefusedBy cell None w = IsAccessOf cell w
IsRefusedBy cell (Some v) w = w ≡ want.Begin

-- the want is again what the conflict refused: the victim's begin, or the access itself if there is no victim
abbrev pub WantsAgain : Conflict → Want → Type 0
WantsAgain c = IsRefusedBy c.cell (victim_of c)

-- A run's end and the machine's end under the run's order are the same.
abbrev pub SameEnd : RecordEnd → Picks → SerialEnd → Type 0
SameEnd (Finished memory outputs) picks e = e ≡ last.Finished memory outputs
SameEnd (Fault strand kind) picks e = e ≡ last.Fault picks.last kind
SameEnd (Budget strand) picks e = e ≡ last.At picks.last
-- no pick was stuck
SameEnd Moves picks e = (place : ℕ) → e ≡ last.Stuck place → length picks.list ≤ place

module _ {A : Type 0} (s : Strands A) where
  -- From machine m to machine n: item by item the machine does what the tree has there.
  abbrev pub DoesAll : List Node → Machine A → List OrderItem → Machine A → Type 0
  DoesAll t m [] n = m ≡ n
  DoesAll t m (i ∷ is) n = (a : A) × (o : Machine A) × (at s m.strands (doer t i) ≡ Some a) × IsItemDone t m (s.want a) i × (pick s m (doer t i) ≡ Some o) × DoesAll t o is n

  -- the strand with that name is at what the conflict refused
  abbrev pub StandsRefused : Option Conflict → Machine A → List Turn → Type 0
  StandsRefused None m p = ⊥
  StandsRefused (Some c) m p = (a : A) × (at s m.strands p ≡ Some a) × WantsAgain c (s.want a)

  -- a strand that spent its budget is at what was refused by the conflict that tells so
  abbrev pub IsSpent : List Node → List Conflict → ℕ → RecordEnd → Machine A → Type 0
  IsSpent t cs budget (Budget x) m = StandsRefused (telling t cs budget x) m (name_of t x)
  IsSpent t cs budget e m = Unit {0}

  -- What one memory with these first values does in the order of a run, if the budget is that many attempts: one run of the machine
  -- does all that the order has, and ends where the run ended.
  pub record Replays (first : List ℤ) (budget : ℕ) (t : List Node) (cs : List Conflict) (picks : Picks) (e : RecordEnd) : Type 0 where
    -- the strand that the end names is one of the tree
    pub strand : IsTrue (is_strand t (ending_strand e))
    -- the order is that of the tree, the conflicts and the end
    pub order : picks ≡ order_of t cs budget e
    -- the machine after the last pick
    pub machine : Machine A
    pub acts : DoesAll t (initial s first) (items t cs budget e) machine
    pub end : SameEnd e picks (machine_shows s machine picks.names picks.last (length picks.list))
    pub spent : IsSpent t cs budget e machine
