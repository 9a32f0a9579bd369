-- Two trees that are one except for the numbers of their nodes, as when one is made in the order of time and the other log by log.
use Rattle.std.specs.Prelude.{◌≡◌, ℕ, ◌<◌, ◌==◌, List, [], ◌∷◌, length, map, filter, slice_get, slice_index, option_map, All, pos}
use Rattle.cw_tree.specs.declared.node.Node.{Node}
use Rattle.cw_tree.specs.declared.node.Kind.TheVariants.{Strand, Fork, Out}
use Rattle.cw_tree.specs.declared.conflict.Conflict.{Conflict}
use Rattle.cw_tree.specs.Nodes.{parent_of}
use Rattle.cw_tree.specs.Walks.{IsNumbered}
use Rattle.cw_tree.specs.InOrder.{renamed, in_order, conflicts_in_order}
use Rattle.cw_tree.specs.Worked.{plain, committed, interleaved}

-- a node and a conflict after each node n is called `number n`
abbrev pub node_by : (number : ℕ → ℕ) → Node → Node
node_by number node = record node { parent = number node.parent }

abbrev pub conflict_by : (number : ℕ → ℕ) → Conflict → Conflict
conflict_by number c = record c { asker = number c.asker }

-- the other tree has the nodes of t, where node n is called `number n`, and siblings are in the same order
pub record AreOne (number : ℕ → ℕ) (t other : List Node) : Type 0 where
  pub as_many : length other ≡ length t
  pub root : number 0 ≡ 0
  pub root_up : parent_of t 0 ≡ 0
  pub differ : (n m : ℕ) → n < length t → m < length t → number n ≡ number m → n ≡ m
  pub nodes : (n : ℕ) → n < length t → slice_get other (number n) ≡ option_map (node_by number) (slice_get t n)
  pub siblings : (n m : ℕ) → 0 < n → n < m → m < length t → parent_of t n ≡ parent_of t m → number n < number m

-- each asker has its conflicts there, in the same order
pub record GoAlong (number : ℕ → ℕ) (t : List Node) (cs others : List Conflict) : Type 0 where
  pub there : All (λ c. c.asker < length t) cs
  pub others_there : All (λ c. c.asker < length t) others
  pub each : (n : ℕ) → n < length t → filter (λ c. c.asker == number n) others ≡ map (conflict_by number) (filter (λ c. c.asker == n) cs)

-- ## Laws

-- in depth-first order both are one tree
abbrev pub OneTree : Type 0
OneTree = (number : ℕ → ℕ) (t other : List Node) → IsNumbered t → IsNumbered other → AreOne number t other → in_order other ≡ in_order t

-- each node has the same number in both, in depth-first order
abbrev pub OneNumber : Type 0
OneNumber = (number : ℕ → ℕ) (t other : List Node) → IsNumbered t → IsNumbered other → AreOne number t other → (n : ℕ) → n < length t → renamed other (number n) ≡ renamed t n

-- the conflicts of both are one list, in depth-first order
abbrev pub OneList : Type 0
OneList =
    (number : ℕ → ℕ) (t other : List Node) (cs others : List Conflict) → IsNumbered t → IsNumbered other → AreOne number t other → GoAlong number t cs others → conflicts_in_order other others ≡ conflicts_in_order t cs

-- ## Rows

-- the tree of two strands log by log; the left strand is in the log of main
abbrev pub log_by_log : List Node
log_by_log =
    plain 0 Strand 0 ∷ plain 0 Fork 1 ∷ plain 1 Strand 0 ∷ committed 2 3 5 ∷ plain 3 (Out (pos 9)) 4 ∷ plain 2 (Out (pos 6)) 6 ∷ plain 0 (Out (pos 5)) 7 ∷ plain 1 Strand 0
    ∷ plain 7 (Out (pos 7)) 2 ∷ plain 7 (Out (pos 8)) 4 ∷ []

-- what the nodes that were made in the order of time are called there
abbrev pub number_in_logs : ℕ → ℕ
number_in_logs = slice_index (0 ∷ 1 ∷ 2 ∷ 7 ∷ 8 ∷ 3 ∷ 9 ∷ 4 ∷ 5 ∷ 6 ∷ [])

-- the same with the outputs of the right strand exchanged
abbrev pub turned_round : List Node
turned_round =
    plain 0 Strand 0 ∷ plain 0 Fork 1 ∷ plain 1 Strand 0 ∷ committed 2 3 5 ∷ plain 3 (Out (pos 9)) 4 ∷ plain 2 (Out (pos 6)) 6 ∷ plain 0 (Out (pos 5)) 7 ∷ plain 1 Strand 0
    ∷ plain 7 (Out (pos 8)) 4 ∷ plain 7 (Out (pos 7)) 2 ∷ []

abbrev pub conflict_of_asker : ℕ → Conflict
conflict_of_asker asker = record { cell = 0; last = 1; asker = asker; block = 0; victim = 0; attempt = 1; chain = 1 ∷ [] }

pub record OneTreeRows : Type 0 where
  pub numbered : IsNumbered interleaved
  pub other_numbered : IsNumbered log_by_log
  pub one : AreOne number_in_logs interleaved log_by_log
  -- an asker of the right strand comes first in time, and last in the logs
  pub along : GoAlong number_in_logs interleaved (conflict_of_asker 6 ∷ conflict_of_asker 7 ∷ []) (conflict_of_asker 4 ∷ conflict_of_asker 9 ∷ [])
  pub round : in_order turned_round ≡ in_order interleaved → ⊥
