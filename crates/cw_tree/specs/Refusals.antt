-- Refused accesses: what a conflict tells, and how the conflicts of a run and its rolled-back blocks fit together.
use Rattle.std.specs.Prelude.{◌≡◌, ℕ, ◌<◌, ◌≤◌, ◌==◌, ◌&&◌, ◌||◌, Bool, false, not, IsTrue, List, [], ◌∷◌, ◌++◌, map, length, filter, find, Option, Some, None, option_map, is_some, unwrap_or, All, if◌then◌else◌}
use Rattle.std.specs.List.{list_any}
use Rattle.std.specs.Option.{option_map_or}
use Rattle.std.specs.List.Sorted.{IsStrictlyIncreasing}
use Rattle.cw_tree.specs.declared.node.Node.{Node}
use Rattle.cw_tree.specs.declared.conflict.Conflict.{Conflict}
use Rattle.cw_tree.specs.declared.closed.Halt.{Halt}
use Rattle.cw_tree.specs.declared.closed.Halt.TheVariants.{Fault, Budget}
use Rattle.cw_tree.specs.Nodes.{stamp_of, end_of, is_strand, is_block, is_pending, is_committed, is_aborted, is_tried, touches, tries, block_with_stamp}
use Rattle.cw_tree.specs.Walks.{path, above, is_above, outermost}
use Rattle.cw_tree.specs.Series.{strand_of, last_of, has_later, parallel, is_before, depth_first}
use Rattle.cw_tree.specs.Attempts.{attempt_of}
use Rattle.cw_tree.specs.Accesses.{is_live, HasAccess}

-- ## One conflict

-- the outermost block above v that is not above u; every block above the place of an access is pending when the access is refused
abbrev pub outermost_apart : List Node → ℕ → ℕ → Option ℕ
outermost_apart t u v = outermost (λ m. is_block t m && not (is_above t m u)) (above t v)

-- the begin stamp of the block that has to roll back for a conflict, if one has to; in the conflict the number 0 means none
abbrev pub victim_of : Conflict → Option ℕ
victim_of c = if c.victim == 0 then None else Some c.victim

-- what conflict c tells of access u, the last of the cell, and block b, which stood in the way
pub record IsRefusal (t : List Node) (c : Conflict) (u b : ℕ) : Type 0 where
  pub last : IsTrue (touches t c.cell u) × (stamp_of t u ≡ c.last)
  pub asker : IsTrue (tries t c.cell c.asker)
  pub parallel : IsTrue (parallel t u c.asker)
  pub block : IsTrue (is_block t b && is_above t b u && not (is_above t b c.asker)) × (stamp_of t b ≡ c.block)
  pub victim : victim_of c ≡ option_map (stamp_of t) (outermost_apart t u c.asker)
  pub attempt : c.attempt ≡ attempt_of t c.asker (outermost_apart t u c.asker)
  pub chain_len : (1 ≤ length c.chain) × (length c.chain ≤ 8)
  pub chain_rises : IsStrictlyIncreasing c.chain
  pub chain_accesses : All (HasAccess t c.cell) c.chain
  pub chain_last : (xs : List ℕ) × (c.chain ≡ xs ++ c.last ∷ [])
  -- There was a moment for it. What is before the asker came before what is after the block, and the last access before
  -- what is after the asker.
  pub before_after_block : (n m : ℕ) → n < length t → m < length t → IsTrue (is_before t n c.asker) → IsTrue (is_before t b m) → 0 < stamp_of t m → (stamp_of t n < stamp_of t m) × (end_of t n < stamp_of t m)
  pub begun_after_block : (n m : ℕ) → n < length t → m < length t → IsTrue (is_block t n && is_above t n c.asker) → IsTrue (is_before t b m) → 0 < stamp_of t m → stamp_of t n < stamp_of t m
  pub last_after_asker : (m : ℕ) → m < length t → IsTrue (is_before t c.asker m) → 0 < stamp_of t m → c.last < stamp_of t m

abbrev pub IsRecorded : List Node → Conflict → Type 0
IsRecorded t c = (u b : ℕ) × IsRefusal t c u b

-- ## The conflicts of a run

-- block b is the victim of a conflict
abbrev pub is_victim : List Node → List Conflict → ℕ → Bool
is_victim t cs b = is_block t b && list_any (λ c. option_map_or (λ v. v == stamp_of t b) (victim_of c) false) cs

-- the refused accesses, their conflicts and the blocks that were rolled back for them
pub record AreRefusals (t : List Node) (cs : List Conflict) : Type 0 where
  -- each refused access has one conflict, in the tree's depth-first order
  pub each : map (λ c. c.asker) cs ≡ filter (is_tried t) (depth_first t)
  pub recorded : All (IsRecorded t) cs
  pub aborted : (b : ℕ) → b < length t → IsTrue (is_aborted t b) → IsTrue (list_any (is_victim t cs) (path t b))
  pub committed : (b : ℕ) → b < length t → IsTrue (is_committed t b) → is_victim t cs b ≡ false

-- n is a refused access whose conflict has a victim
abbrev pub names_victim : List Conflict → ℕ → Bool
names_victim cs n = list_any (λ c. (c.asker == n) && is_some (victim_of c)) cs

-- a strand that rolls back does nothing else until it is at the victim's place
pub record RollsBack (t : List Node) (cs : List Conflict) : Type 0 where
  pub tried : (n : ℕ) → n < length t → IsTrue (names_victim cs n) → has_later t n ≡ false
  pub aborted : (n : ℕ) → n < length t → IsTrue (is_aborted t n && not (is_victim t cs n)) → has_later t n ≡ false

-- ## Where a run stopped

-- what was refused is in strand s: the victim was begun in s, or there is none and the asker is the last node of s
abbrev pub is_refused_in : List Node → (s asker : ℕ) → (victim : Option ℕ) → Bool
is_refused_in t s asker None = last_of t s == asker
is_refused_in t s asker (Some v) = option_map_or (λ b. strand_of t b == s) (block_with_stamp t v) false

-- the conflict tells that strand s has spent its budget
abbrev pub tells : List Node → ℕ → ℕ → Conflict → Bool
tells t budget s c = (c.attempt == budget) && is_refused_in t s c.asker (victim_of c)

-- the first conflict that tells this
abbrev pub telling : List Node → List Conflict → ℕ → ℕ → Option Conflict
telling t cs budget s = find (tells t budget s) cs

-- the block or the access that a conflict refused
abbrev pub refused_node : List Node → Conflict → ℕ
refused_node t c = option_map_or (λ v. unwrap_or (block_with_stamp t v) 0) (victim_of c) c.asker

-- what a conflict refused may be the end of a run: the block is pending, or the access is the last, and no block above was rolled back
abbrev pub may_be_last : List Node → Conflict → Bool
may_be_last t c = is_live t (refused_node t c) && (is_tried t (refused_node t c) || is_pending t (refused_node t c))

-- A strand of the tree has spent its budget, as a conflict tells.
pub record Spent (t : List Node) (cs : List Conflict) (budget s : ℕ) : Type 0 where
  pub strand : IsTrue (is_strand t s)
  pub told : IsTrue (option_map_or (may_be_last t) (telling t cs budget s) false)

-- if the run stopped at a fault, this is the fault of a strand, and no block above the strand was rolled back
abbrev pub MayFault : List Node → Option Halt → Type 0
MayFault t (Some (Fault s kind)) = IsTrue (is_strand t s && is_live t s)
MayFault t halt = Unit {0}

-- if the run stopped because a strand spent its budget, that strand has spent it
abbrev pub MaySpend : List Node → List Conflict → ℕ → Option Halt → Type 0
MaySpend t cs budget (Some (Budget s)) = Spent t cs budget s
MaySpend t cs budget halt = Unit {0}
