-- Attempts that are recorded one by one: those of a block in its place, and those of an access.
use Rattle.std.specs.Prelude.{◌≡◌, ℕ, ℤ, ◌<◌, ◌≤◌, IsTrue, List, Contains, Some, None}
use Rattle.cw_tree.specs.declared.node.Node.{Node}
use Rattle.cw_tree.specs.declared.access.Entry.{Entry}
use Rattle.cw_tree.specs.declared.conflict.Conflict.{Conflict}
use Rattle.cw_tree.specs.Nodes.{parent_of, stamp_of, is_pending, is_aborted, is_fork, is_tried}
use Rattle.cw_tree.specs.Series.{strand_of, last_of}
use Rattle.cw_tree.specs.Attempts.{tried_cell, same_cell, block_attempt, access_attempt}
use Rattle.cw_tree.specs.Refusals.{Spent, refused_node, telling, victim_of}
use Rattle.cw_tree.specs.Histories.{IsHistory}

-- m is block b or an earlier attempt at it: from m on, every node before b in its place was rolled back
pub record IsAttemptOf (t : List Node) (b m : ℕ) : Type 0 where
  pub some : 0 < m
  pub place : parent_of t m ≡ parent_of t b
  pub upto : m ≤ b
  pub rolled_back : (n : ℕ) → parent_of t n ≡ parent_of t b → m ≤ n → n < b → IsTrue (is_aborted t n)

-- m is refused access v or an earlier refusal of it: from m on, every node before v in its place is a refusal of the same cell
pub record IsRefusalOf (t : List Node) (v m : ℕ) : Type 0 where
  pub some : 0 < m
  pub place : parent_of t m ≡ parent_of t v
  pub upto : m ≤ v
  pub refused : (n : ℕ) → parent_of t n ≡ parent_of t v → m ≤ n → n < v → IsTrue (same_cell (tried_cell t n) (tried_cell t v))

-- for each number from 1 to `attempts`, some conflict has that attempt number, and `Is` holds of it
abbrev pub HasAttempts : (attempts : ℕ) → List Conflict → (Conflict → Type 0) → Type 0
HasAttempts attempts cs Is = (k : ℕ) → 1 ≤ k → k ≤ attempts → (c : Conflict) × Contains cs c × (c.attempt ≡ k) × Is c

-- If a conflict tells that strand s spent its budget, all attempts at what it refused are recorded: those of a pending block of s,
-- or those of the access that is the last node of s. That block or access is the last of the attempts.
pub data AreRecorded (t : List Node) (cs : List Conflict) (budget s : ℕ) (told : Conflict) : Type 0 where
  of_block : (b : ℕ) → refused_node t told ≡ b → IsTrue (is_pending t b) → strand_of t b ≡ s → block_attempt t b ≡ budget
      → HasAttempts budget cs (λ c. (m : ℕ) × IsAttemptOf t b m × (victim_of c ≡ Some (stamp_of t m))) → AreRecorded t cs budget s told
  of_access : (v : ℕ) → refused_node t told ≡ v → IsTrue (is_tried t v) → last_of t s ≡ v → access_attempt t v ≡ budget
      → HasAttempts budget cs (λ c. (victim_of c ≡ None) × IsRefusalOf t v c.asker) → AreRecorded t cs budget s told

abbrev pub RecordsAttempts : List Node → List Conflict → (budget s : ℕ) → Type 0
RecordsAttempts t cs budget s = (told : Conflict) × (telling t cs budget s ≡ Some told) × AreRecorded t cs budget s told

-- Laws of every history: only strands that run at the same time have conflicts, and a budget is spent only on recorded attempts.
abbrev pub ConflictsNeedForks : Type 0
ConflictsNeedForks = (t : List Node) (first : List ℤ) (kept : List (List Entry)) (cs : List Conflict) → IsHistory t first kept cs
    → (c : Conflict) → Contains cs c → (f : ℕ) × IsTrue (is_fork t f)

abbrev pub AttemptsAreRecorded : Type 0
AttemptsAreRecorded = (t : List Node) (first : List ℤ) (kept : List (List Entry)) (cs : List Conflict) → IsHistory t first kept cs
    → (budget s : ℕ) → Spent t cs budget s → RecordsAttempts t cs budget s
