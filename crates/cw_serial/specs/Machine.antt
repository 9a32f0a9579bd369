-- The machine with one memory, driven by picks. It does one want of a strand at each pick. While a block is begun, only
-- strands inside the innermost begun one may be picked, and only the strand that began it ends it or gives it up. So
-- each block is done without a break.
use Rattle.std.specs.Prelude.{ℕ, ℤ, zero, suc, ◌==◌, ◌&&◌, Bool, true, false, not, List, [], ◌∷◌, ◌++◌, slice_get, nat_lt, Option, Some, None, option_map, is_some, unwrap_or, if◌then◌else◌}
use Rattle.cw_strand.specs.declared.want.Want.{Want}
use Rattle.cw_strand.specs.declared.want.Want.TheVariants.{Sync, Done, Fault}
use Rattle.cw_strand.specs.Strands.{Strands}
use Rattle.cw_tree.specs.declared.picks.Name.{Name}
use Rattle.cw_tree.specs.declared.picks.Turn.{Turn}
use Rattle.cw_tree.specs.declared.picks.Picks.{Picks}
use Rattle.cw_serial.specs.declared.ends.SerialEnd.{SerialEnd}
use Rattle.cw_serial.specs.declared.ends.SerialEnd.TheVariants as last
use Rattle.cw_serial.specs.StrandTree.{StrandTree, at, put, goes_on, state_at_end}
use Rattle.cw_serial.specs.Wants.{Since, answer_to, memory_after, outputs_after, blocks_after, since_after}

-- a begun block, by the name of the strand that began it
pub record Begun : Type 0 where
  pub strand : List Turn

pub record Machine (A : Type 0) : Type 0 where
  pub memory : List ℤ
  pub outputs : List ℤ
  pub strands : StrandTree A
  -- the begun blocks, the innermost first
  pub begun : List Begun
  -- what was before each of them, and was written since, the innermost first
  pub since : List Since

abbrev pub same_side : Bool → Bool → Bool
same_side true b = b
same_side false b = not b

abbrev pub same_turn : Turn → Turn → Bool
same_turn x y = (x.fork == y.fork) && same_side x.right y.right

abbrev pub same_name : List Turn → List Turn → Bool
same_name [] [] = true
same_name (x ∷ p) (y ∷ q) = same_turn x y && same_name p q
same_name _ _ = false

-- the strand of the second name is that of the first, or was started beneath it
abbrev pub is_beneath : List Turn → List Turn → Bool
is_beneath [] p = true
is_beneath (x ∷ q) [] = false
is_beneath (x ∷ q) (y ∷ p) = same_turn x y && is_beneath q p

abbrev pub may_pick : (begun : List Begun) → List Turn → Bool
may_pick [] p = true
may_pick (b ∷ bs) p = is_beneath b.strand p

-- ## Picks

module _ {A : Type 0} (s : Strands A) where
  -- the strand a, which has the name p, does what it wants; it cannot be picked if that cannot be done
  abbrev pub does : Machine A → List Turn → A → Option (Machine A)
  does m p a =
      option_map (λ blocks. record {
        memory = memory_after (s.want a) m.memory;
        outputs = outputs_after (s.want a) m.outputs;
        strands = put s m.strands p (s.answer a (answer_to (s.want a) m.memory m.since));
        begun = blocks;
        since = since_after (s.want a) m.memory m.since;
      }) (blocks_after (record { strand = p }) (λ b. same_name b.strand p) (s.want a) m.begun)

  abbrev pub pick_at : Machine A → List Turn → Option A → Option (Machine A)
  pick_at m p None = None
  pick_at m p (Some a) = if may_pick m.begun p then does m p a else None

  abbrev pub pick : Machine A → List Turn → Option (Machine A)
  pick m p = pick_at m p (at s m.strands p)

  -- before the first pick
  abbrev pub initial : List ℤ → Machine A
  initial memory = record { memory = memory; outputs = []; strands = goes_on s 0 s.start; begun = []; since = [] }

  abbrev pub has_ended : Machine A → Bool
  has_ended m = is_some (state_at_end s m.strands)

-- ## Names

abbrev pub parent_in : Option Name → ℕ
parent_in None = 0
parent_in (Some x) = x.parent

abbrev pub is_root : Name → Bool
is_root n = (n.parent == 0) && ((n.fork == 0) && not n.right)

abbrev pub root_turns : Option Name → Option (List Turn)
root_turns None = None
root_turns (Some n) = if is_root n then Some [] else None

-- the name of a strand that was started by the strand p, whose number has to be smaller
abbrev pub with_turn : ℕ → Option Name → Option (List Turn) → Option (List Turn)
with_turn n None p = None
with_turn n (Some x) None = None
with_turn n (Some x) (Some p) = if nat_lt x.parent n then Some (p ++ record { fork = x.fork; right = x.right } ∷ []) else None

-- the name that number n means, if the root is reached within k steps; the root is number 0, and is the root there
abbrev pub turns_in : List Name → ℕ → ℕ → Option (List Turn)
turns_in names k zero = root_turns (slice_get names 0)
turns_in names zero (suc n) = None
turns_in names (suc k) (suc n) = with_turn (suc n) (slice_get names (suc n)) (turns_in names k (parent_in (slice_get names (suc n))))

-- the name that a number means, if it means one
abbrev pub steps_down : List Name → ℕ → Option (List Turn)
steps_down names n = turns_in names n n

-- ## The end

module _ {A : Type 0} (s : Strands A) where
  abbrev pub pick_named : Machine A → Option (List Turn) → Option (Machine A)
  pick_named m None = None
  pick_named m (Some p) = pick s m p

  abbrev pub stands_at : ℕ → Want → Option SerialEnd
  stands_at name (Fault k) = Some (last.Fault name k)
  stands_at name Sync = None
  stands_at name Done = None
  stands_at name w = Some (last.At name)

  -- the end at the want of the strand with this name, if there is such a strand
  abbrev pub end_of_strand : ℕ → Option A → Option SerialEnd
  end_of_strand name None = None
  end_of_strand name (Some a) = stands_at name (s.want a)

  abbrev pub end_of_named : Machine A → ℕ → Option (List Turn) → Option SerialEnd
  end_of_named m name None = None
  end_of_named m name (Some p) = end_of_strand name (at s m.strands p)

  -- What the machine shows of itself after `place` picks, if the last of these names is number `name`.
  abbrev pub machine_shows : Machine A → List Name → (name place : ℕ) → SerialEnd
  machine_shows m names name place = if has_ended s m then last.Finished m.memory m.outputs else unwrap_or (end_of_named m name (steps_down names name)) (last.Stuck place)

  -- the end under the picks from position `place` on
  abbrev pub play : Machine A → List Name → List ℕ → (name place : ℕ) → SerialEnd
  play m names [] name place = machine_shows m names name place
  play m names (n ∷ ns) name place = then_play (pick_named m (steps_down names n)) (λ t. play t names ns name (suc place)) where
    then_play : Option (Machine A) → (Machine A → SerialEnd) → SerialEnd
    then_play None go = last.Stuck place
    then_play (Some t) go = go t

  -- the end of the machine under picks
  abbrev pub serial_end : List ℤ → Picks → SerialEnd
  serial_end memory picks = play (initial s memory) picks.names picks.list picks.last 0
