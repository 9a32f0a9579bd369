-- What a conflict tells: who met, what has to roll back, and the newest accesses of the cell. When it came is in `Moments`.
use Rattle.std.specs.Prelude.{◌≡◌, ℕ, ◌≤◌, ◌++◌, [], ◌∷◌, ◌&&◌, not, All, IsTrue, List, length, option_map}
use Rattle.std.specs.List.Sorted.{IsStrictlyIncreasing}
use Rattle.cw_tree.specs.declared.node.Node.{Node}
use Rattle.cw_tree.specs.declared.conflict.Conflict.{Conflict}
use Rattle.cw_tree.specs.Nodes.{is_block, stamp_of, touches, tries}
use Rattle.cw_tree.specs.Walks.{is_above}
use Rattle.cw_tree.specs.Series.{parallel}
use Rattle.cw_tree.specs.Attempts.{attempt_of}
use Rattle.cw_tree.specs.Accesses.{HasAccess}
use Rattle.cw_tree.specs.Refusals.{outermost_apart, victim_of}
use Rattle.cw_audit.specs.declared.told.Tables.{Tables}
use Rattle.cw_audit.specs.Spans.{AreSpans}
use Rattle.cw_audit.specs.Stamped.{AreByStamp}
use Rattle.cw_audit.specs.Repeats.{AreAttempts}

-- access u is the last one of the cell that conflict c tells
abbrev pub IsLastTold : List Node → Conflict → ℕ → Type 0
IsLastTold t c u = IsTrue (touches t c.cell u) × (stamp_of t u ≡ c.last)

-- b is the block that conflict c tells, and is around access u and not around the one that was refused
abbrev pub IsBlockTold : List Node → Conflict → (u b : ℕ) → Type 0
IsBlockTold t c u b = IsTrue (is_block t b && is_above t b u && not (is_above t b c.asker)) × (stamp_of t b ≡ c.block)

-- who met: the last access u, the one that was refused, and block b between them
pub record AreMet (t : List Node) (c : Conflict) (u b : ℕ) : Type 0 where
  pub last : IsLastTold t c u
  pub asker : IsTrue (tries t c.cell c.asker)
  pub parallel : IsTrue (parallel t u c.asker)
  pub block : IsBlockTold t c u b

-- what has to roll back, and which attempt that was
pub record IsVictimTold (t : List Node) (c : Conflict) (u : ℕ) : Type 0 where
  pub victim : victim_of c ≡ option_map (stamp_of t) (outermost_apart t u c.asker)
  pub attempt : c.attempt ≡ attempt_of t c.asker (outermost_apart t u c.asker)

-- the newest accesses of the cell
pub record IsChainTold (t : List Node) (c : Conflict) : Type 0 where
  pub len : (1 ≤ length c.chain) × (length c.chain ≤ 8)
  pub rises : IsStrictlyIncreasing c.chain
  pub accesses : All (HasAccess t c.cell) c.chain
  pub last : (xs : List ℕ) × (c.chain ≡ xs ++ c.last ∷ [])

-- all of it, of access u and block b
pub record TellsRightly (t : List Node) (c : Conflict) (u b : ℕ) : Type 0 where
  pub met : AreMet t c u b
  pub victim : IsVictimTold t c u
  pub chain : IsChainTold t c

-- what is looked up for each conflict
pub record AreTables (t : List Node) (tables : Tables) : Type 0 where
  pub spans : AreSpans t tables.spans.first.items tables.spans.last.items
  pub stamped : AreByStamp t tables.stamped.items
  pub attempts : AreAttempts t tables.attempts.items
