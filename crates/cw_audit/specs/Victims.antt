-- What is asked of a strand that rolls back, one conflict and one block at a time.
use Rattle.std.specs.Prelude.{◌≡◌, ℕ, ◌<◌, ◌==◌, ◌&&◌, ◌||◌, Bool, false, not, IsTrue, List, length, map, filter, is_some}
use Rattle.std.specs.List.{list_any}
use Rattle.cw_tree.specs.declared.node.Node.{Node}
use Rattle.cw_tree.specs.declared.conflict.Conflict.{Conflict}
use Rattle.cw_tree.specs.Nodes.{is_aborted, is_committed, is_tried}
use Rattle.cw_tree.specs.Walks.{path}
use Rattle.cw_tree.specs.Series.{has_later, depth_first}
use Rattle.cw_tree.specs.Refusals.{victim_of, is_victim}

-- what a conflict with a victim refused is the last node of its strand there
abbrev pub asker_is_last : List Node → Conflict → Bool
asker_is_last t c = not (is_some (victim_of c) && has_later t c.asker)

-- the begin stamps of the victims, and 0 for each conflict without one
abbrev pub victim_stamps : List Conflict → List ℕ
victim_stamps cs = map (λ c. c.victim) cs

abbrev pub is_among : ℕ → List ℕ → Bool
is_among s ns = list_any (λ v. v == s) ns

-- a block that was rolled back is a victim, or nothing comes after it in its place
abbrev pub rolls_on : List Node → List Conflict → ℕ → Bool
rolls_on t cs n = not (is_aborted t n && not (is_victim t cs n)) || not (has_later t n)

-- node n or a block above it is a victim
abbrev pub is_in_victim : List Node → List Conflict → ℕ → Bool
is_in_victim t cs n = list_any (is_victim t cs) (path t n)

-- Node n, if it was rolled back, is in a victim, and if it was committed, it is none.
pub record VictimFits (t : List Node) (cs : List Conflict) (n : ℕ) : Type 0 where
  pub aborted : IsTrue (is_aborted t n) → IsTrue (is_in_victim t cs n)
  pub committed : IsTrue (is_committed t n) → is_victim t cs n ≡ false

-- what a run's conflicts tell of its blocks, and which accesses they were
abbrev pub VictimsFit : List Node → List Conflict → Type 0
VictimsFit t cs = (n : ℕ) → n < length t → VictimFits t cs n

abbrev pub AskersAreRefused : List Node → List Conflict → Type 0
AskersAreRefused t cs = map (λ c. c.asker) cs ≡ filter (is_tried t) (depth_first t)
