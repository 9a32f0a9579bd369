-- Two laws of strands that want the same: what the machine with one memory does over one of them, it does over the other.
use Rattle.std.specs.Prelude.{◌≡◌, ◌↔◌, ◌≤◌, ℕ, ℤ, List, [], ◌∷◌, length, Option, Some, None, option_map, option_and_then}
use Rattle.cw_strand.specs.declared.want.Want.{Want}
use Rattle.cw_strand.specs.Strands.{Strands}
use Rattle.cw_tree.specs.declared.node.Node.{Node}
use Rattle.cw_tree.specs.declared.picks.Turn.{Turn}
use Rattle.cw_tree.specs.declared.picks.Picks.{Picks}
use Rattle.cw_tree.specs.declared.conflict.Conflict.{Conflict}
use Rattle.cw_serial.specs.StrandTree.{at}
use Rattle.cw_serial.specs.Machine.{Machine, pick, initial, has_ended, serial_end}
use Rattle.cw_record.specs.declared.record_end.RecordEnd.{RecordEnd}
use Rattle.cw_record.specs.Replay.{Replays}

-- both are there and `Is` holds of them, or neither is there
abbrev pub BothOrNeither : {X Y : Type 0} → (X → Y → Type 0) → Option X → Option Y → Type 0
BothOrNeither Is None None = Unit {0}
BothOrNeither Is (Some x) (Some y) = Is x y
BothOrNeither Is o u = ⊥

module _ {A : Type 0} (s : Strands A) where
  -- what the strand with that name wants, if there is one
  abbrev pub wanted : Machine A → List Turn → Option Want
  wanted m p = option_map s.want (at s m.strands p)

  -- the machine after picks of these names in turn, or None if one of them cannot be picked
  abbrev pub after_picks : Machine A → List (List Turn) → Option (Machine A)
  after_picks m [] = Some m
  after_picks m (p ∷ ps) = option_and_then (λ n. after_picks n ps) (pick s m p)

module _ {A B : Type 0} (s : Strands A) (t : Strands B) where
  -- The machines are the same, except for what their strands are made of.
  pub record AreTheSame (m : Machine A) (n : Machine B) : Type 0 where
    pub memory : m.memory ≡ n.memory
    pub outputs : m.outputs ≡ n.outputs
    pub begun : m.begun ≡ n.begun
    pub since : m.since ≡ n.since
    -- either both have a strand with that name, which wants the same, or neither has
    pub wants : (p : List Turn) → wanted s m p ≡ wanted t n p
    pub ended : has_ended s m ≡ has_ended t n

  -- From the same first memory, of no more elements than the cells have, the same picks can be made in both machines, and lead to
  -- machines that are the same.
  abbrev pub SameMachines : Type 0
  SameMachines = (first : List ℤ) (ps : List (List Turn)) → length first ≤ s.elements → BothOrNeither AreTheSame (after_picks s (initial s first) ps) (after_picks t (initial t first) ps)

  -- Under the same picks, both machines reach the same end.
  abbrev pub SameEnds : Type 0
  SameEnds = (first : List ℤ) (picks : Picks) → length first ≤ s.elements → serial_end s first picks ≡ serial_end t first picks

  -- A record replays over one of them exactly if it replays over the other.
  abbrev pub SameReplays : Type 0
  SameReplays =
      (first : List ℤ) (budget : ℕ) (nodes : List Node) (cs : List Conflict) (picks : Picks) (e : RecordEnd) → length first ≤ s.elements
      → Replays s first budget nodes cs picks e ↔ Replays t first budget nodes cs picks e
