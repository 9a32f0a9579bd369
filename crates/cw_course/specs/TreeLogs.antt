-- Logs that have the nodes of one tree make that tree together, except for the numbers of its nodes. The tree may number its nodes
-- in the order of time. Nothing here speaks of a board.
use Rattle.std.specs.Prelude.{◌≡◌, ℕ, zero, suc, ◌+◌, ◌<◌, ◌≤◌, ◌==◌, IsTrue, All, Contains, count_by, filter, flat_map, List, [], ◌∷◌, ◌++◌, map, length, slice_get, slice_index, Option, Some, None, option_map, if◌then◌else◌}
use Rattle.std.specs.List.{position_or_len}
use Rattle.std.specs.List.Sorted.{IsStrictlyIncreasing}
use Rattle.cw_tree.specs.declared.node.Node.{Node}
use Rattle.cw_tree.specs.declared.node.Kind.{Kind}
use Rattle.cw_tree.specs.declared.conflict.Conflict.{Conflict}
use Rattle.cw_tree.specs.declared.closed.Closed.{Closed}
use Rattle.cw_tree.specs.declared.closed.Halt.{Halt}
use Rattle.cw_tree.specs.declared.closed.Halt.TheVariants.{Fault, Budget, Memory}
use Rattle.cw_tree.specs.Nodes.{parent_of, is_tried, all_nodes}
use Rattle.cw_tree.specs.Walks.{IsNumbered}
use Rattle.cw_tree.specs.Names.{is_right}
use Rattle.cw_tree.specs.Shape.{IsTree}
use Rattle.cw_tree.specs.NextNodes.{IsSound}
use Rattle.cw_tree.specs.InOrder.{asker_of, in_order, conflicts_in_order, halt_in_order}
use Rattle.cw_tree.specs.OneTree.{AreOne, GoAlong}
use Rattle.cw_log.specs.declared.log.Log.{Log}
use Rattle.cw_log.specs.declared.token.Stop.{Stop}
use Rattle.cw_course.specs.Closings.{base_of, tree_of, conflicts_of, last_conflict, spender, AreApart, IsPutTogether}

-- ## Numbers
-- Each log comes with a list of numbers: those that its nodes have in the tree.

-- the numbers of all nodes, log after log
abbrev pub in_a_row : List (List ℕ) → List ℕ
in_a_row = flat_map (λ ns. ns)

-- the number that node n of the tree has if the logs are laid one after another
abbrev pub number_in_row : (numbers : List (List ℕ)) → ℕ → ℕ
number_in_row nss n = position_or_len (λ m. m == n) (in_a_row nss)

-- the number that node i of the log with this column has in the tree
abbrev pub number_in_tree : List Log → (numbers : List (List ℕ)) → (column i : ℕ) → Option ℕ
number_in_tree [] nss c i = None
number_in_tree (l ∷ ls) [] c i = None
number_in_tree (l ∷ ls) (ns ∷ nss) c i = if l.column == c then slice_get ns i else number_in_tree ls nss c i

-- ## One log

-- Node i of a log is node `ns[i]` of tree t. Both have the same kind, state and stamps. A cancel's list is part of its kind, and
-- names no node, so it is the same too. The parent is renumbered by `ns`. The parent of the log's first node is in another log.
abbrev pub IsNodeOf : (t : List Node) → (ns : List ℕ) → (i : ℕ) → Node → Type 0
IsNodeOf t ns zero x = slice_get t (slice_index ns 0) ≡ Some (record x { parent = parent_of t (slice_index ns 0) })
IsNodeOf t ns (suc i) x = (x.parent < suc i) × (slice_get t (slice_index ns (suc i)) ≡ Some (record x { parent = slice_index ns x.parent }))

-- The nodes of a log are nodes of tree t with the numbers `ns`, and its conflicts are among `cs`.
pub record IsLogOf (t : List Node) (cs : List Conflict) (l : Log) (ns : List ℕ) : Type 0 where
  pub many : length ns ≡ length l.nodes
  pub some : 0 < length ns
  pub nodes : (i : ℕ) (x : Node) → slice_get l.nodes i ≡ Some x → IsNodeOf t ns i x
  pub rise : IsStrictlyIncreasing ns
  -- each conflict is one of `cs` with its asker renumbered; no node has two, and each refused access has one
  pub conflicts : All (λ (c : Conflict). Contains cs (record c { asker = slice_index ns c.asker })) l.conflicts
  pub there : All (λ (c : Conflict). c.asker < length l.nodes) l.conflicts
  pub askers : IsStrictlyIncreasing (map asker_of l.conflicts)
  pub tried : (i : ℕ) → IsTrue (is_tried l.nodes i) → Contains (map asker_of l.conflicts) i

abbrev pub EachIsLogOf : (t : List Node) → (cs : List Conflict) → List Log → (numbers : List (List ℕ)) → Type 0
EachIsLogOf t cs [] [] = Unit {0}
EachIsLogOf t cs [] (ns ∷ nss) = ⊥
EachIsLogOf t cs (l ∷ ls) [] = ⊥
EachIsLogOf t cs (l ∷ ls) (ns ∷ nss) = IsLogOf t cs l ns × EachIsLogOf t cs ls nss

-- ## Where logs hang

-- The first node of a log is the right strand of a fork. The log hangs from this fork, which is in one of the logs `before`.
pub record IsHung (t : List Node) (before : List Log) (numbers : List (List ℕ)) (l : Log) (ns : List ℕ) : Type 0 where
  pub right : IsTrue (is_right t (slice_index ns 0))
  pub from : number_in_tree before numbers l.from l.fork ≡ Some (parent_of t (slice_index ns 0))

-- each log of a list hangs from one before it; `before` are those before the list, with their numbers
abbrev pub AreHung : (t : List Node) → (before : List Log) → (numbers : List (List ℕ)) → List Log → (more : List (List ℕ)) → Type 0
AreHung t before nss [] mss = Unit {0}
AreHung t before nss (l ∷ ls) [] = ⊥
AreHung t before nss (l ∷ ls) (ns ∷ mss) = IsHung t before nss l ns × AreHung t (before ++ l ∷ []) (nss ++ ns ∷ []) ls mss

-- The first node of a log is the root, which is its own parent. The log hangs from this node.
pub record IsRootLog (t : List Node) (l : Log) (ns : List ℕ) : Type 0 where
  pub number : slice_index ns 0 ≡ 0
  pub parent : parent_of t 0 ≡ 0
  pub from : (l.from ≡ l.column) × (l.fork ≡ 0)

-- the first log begins at the root, and each other one hangs from one before it
abbrev pub HangFromRoot : (t : List Node) → List Log → (numbers : List (List ℕ)) → Type 0
HangFromRoot t [] nss = ⊥
HangFromRoot t (l ∷ ls) [] = ⊥
HangFromRoot t (l ∷ ls) (ns ∷ nss) = IsRootLog t l ns × AreHung t (l ∷ []) (ns ∷ []) ls nss

-- The same without the order: the log hangs from one among `all`. Log by log of a list; then of all logs but the first, which begins at
-- the root.
abbrev pub HangAmong : (t : List Node) → (all : List Log) → (numbers : List (List ℕ)) → List Log → (more : List (List ℕ)) → Type 0
HangAmong t all nss [] mss = Unit {0}
HangAmong t all nss (l ∷ ls) [] = ⊥
HangAmong t all nss (l ∷ ls) (ns ∷ mss) = IsHung t all nss l ns × HangAmong t all nss ls mss

abbrev pub HangTogether : (t : List Node) → List Log → (numbers : List (List ℕ)) → Type 0
HangTogether t [] nss = ⊥
HangTogether t (l ∷ ls) [] = ⊥
HangTogether t (l ∷ ls) (ns ∷ nss) = IsRootLog t l ns × HangAmong t (l ∷ ls) (ns ∷ nss) ls nss

-- ## All logs

-- Together the logs have all nodes of tree t, each once. `cs` are the conflicts of t: each refused access has one, and they are in
-- the order of their askers' numbers.
pub record AreLogsOf (t : List Node) (cs : List Conflict) (all : List Log) (numbers : List (List ℕ)) : Type 0 where
  pub each : EachIsLogOf t cs all numbers
  pub hung : HangFromRoot t all numbers
  pub apart : AreApart all
  pub once : (n : ℕ) → count_by (λ m. m == n) (in_a_row numbers) ≤ 1
  pub whole : (n : ℕ) → n < length t → Contains (in_a_row numbers) n
  pub askers : map asker_of cs ≡ filter (is_tried t) (all_nodes t)

-- ## What they make together

-- the kind of node n
abbrev pub kind_at : List Node → ℕ → Option Kind
kind_at t n = option_map (λ (x : Node). x.kind) (slice_get t n)

-- The tree of the logs is tree t except for the numbers of its nodes, and their conflicts are those of t.
pub record MakeOneTree (t : List Node) (cs : List Conflict) (all : List Log) (numbers : List (List ℕ)) : Type 0 where
  pub numbered : IsNumbered (tree_of all)
  pub tree : AreOne (number_in_row numbers) t (tree_of all)
  -- kinds stay, so a cancel keeps its list
  pub kinds : (n : ℕ) → n < length t → kind_at (tree_of all) (number_in_row numbers n) ≡ kind_at t n
  pub conflicts : GoAlong (number_in_row numbers) t cs (conflicts_of all all)
  -- The strand of a halt is named by its log's column and its number there. In the tree of the logs it is the strand that it is in t.
  pub strands : (column i n : ℕ) → number_in_tree all numbers column i ≡ Some n → base_of all column + i ≡ number_in_row numbers n

-- The halt of strand n of tree t. If its budget is spent, it is the halt of the strand that began the victim of `last`, the last
-- conflict of the log.
abbrev pub halt_in_tree : List Node → (last : Option Conflict) → (n : ℕ) → Halt → Halt
halt_in_tree t last n (Fault x kind) = Fault n kind
halt_in_tree t last n (Budget x) = Budget (spender t last n)
halt_in_tree t last n Memory = Memory

-- What a board gives when it is closed with these logs is tree t in depth-first order, with its conflicts. The halt is that of the
-- strand that stopped.
pub record GivesOneTree (t : List Node) (cs : List Conflict) (all : List Log) (numbers : List (List ℕ)) (stop : Option Stop) (c : Closed) : Type 0 where
  pub tree : c.tree ≡ in_order t
  pub conflicts : c.conflicts ≡ conflicts_in_order t cs
  pub whole : stop ≡ None → c.halt ≡ None
  pub halt : (x : Stop) (n : ℕ) → stop ≡ Some x → number_in_tree all numbers x.column x.strand ≡ Some n
      → c.halt ≡ halt_in_order t (Some (halt_in_tree t (last_conflict all x.column) n x.halt))

-- ## Laws

abbrev pub LogsMakeOneTree : Type 0
LogsMakeOneTree = (t : List Node) (cs : List Conflict) (all : List Log) (numbers : List (List ℕ)) → IsNumbered t → IsTree t → AreLogsOf t cs all numbers → MakeOneTree t cs all numbers

abbrev pub ClosingsGiveOneTree : Type 0
ClosingsGiveOneTree =
    (t : List Node) (cs : List Conflict) (all : List Log) (numbers : List (List ℕ)) (stop : Option Stop) (c : Closed) → IsNumbered t → IsSound t → AreLogsOf t cs all numbers
    → IsPutTogether all stop c → GivesOneTree t cs all numbers stop c

-- if the tree of such logs is numbered, as it is when a board is closed with them, each log hangs from an earlier one
abbrev pub EarlierFollows : Type 0
EarlierFollows =
    (t : List Node) (cs : List Conflict) (all : List Log) (numbers : List (List ℕ)) → EachIsLogOf t cs all numbers → AreApart all → IsNumbered (tree_of all) → HangTogether t all numbers
    → HangFromRoot t all numbers

-- logs of which each hangs from an earlier one hang together
abbrev pub EarlierAreTogether : Type 0
EarlierAreTogether = (t : List Node) (all : List Log) (numbers : List (List ℕ)) → HangFromRoot t all numbers → HangTogether t all numbers
