-- A computed example: a small run of a tier in which two strands go on, and what the definitions say of its states.
use Rattle.std.specs.Prelude.{◌≡◌, ℕ, ◌==◌, ◌||◌, Bool, true, false, nat_lt, IsTrue, List, [], ◌∷◌, ◌++◌, Some, pos}
use Rattle.cw_tree.specs.declared.node.Node.{Node}
use Rattle.cw_tree.specs.declared.node.Kind.TheVariants.{Strand, Fork, Write}
use Rattle.cw_tree.specs.Nodes.{touches}
use Rattle.cw_tree.specs.Shape.{AreStamps}
use Rattle.cw_tree.specs.Worked.{plain, pending}
use Rattle.cw_trace.specs.declared.verdict.Verdict.TheVariants.{Against}
use Rattle.cw_trace.specs.Columns.{ColumnTable, first_tier, forked, split_at, merged, up}
use Rattle.cw_trace.specs.Query.{stands_in}
use Rattle.cw_trace.specs.Running.{MayGoOn, IsDone}
use Rattle.cw_trace.specs.Verdicts.{mark_of}
use Rattle.cw_trace.specs.OrderedRuns.{Moment, GoesOnAt, shuts, fork_opens, RunsInOrder}
use Rattle.cw_trace.specs.Hands.{StandsInOrder, trace_at, gap_at, IsInnermost, InnermostDiffer, IsLater, loads_second, verdict_between}

-- the open nodes are those numbered below n
abbrev pub open_below : ℕ → ℕ → Bool
open_below n m = nat_lt m n

abbrev pub no_words : List ℕ
no_words = 0 ∷ 0 ∷ 0 ∷ 0 ∷ 0 ∷ []

-- ## Main forks

abbrev pub one_fork : List Node
one_fork = plain 0 Strand 0 ∷ plain 0 Fork 1 ∷ plain 1 Strand 0 ∷ plain 1 Strand 0 ∷ []

abbrev pub forked_once : ColumnTable
forked_once = forked 0 0 (first_tier 5)

-- The fork is not split. Its right strand is innermost too, but in the trace and at the gap of the left one.
pub record Unready : Type 0 where
  pub stands : StandsInOrder forked_once no_words one_fork [] [] (open_below 4)
  pub left : MayGoOn forked_once one_fork [] (open_below 4) 2
  pub right : IsInnermost one_fork (open_below 4) 3
  pub one_trace : trace_at forked_once one_fork 2 ≡ trace_at forked_once one_fork 3
  pub one_gap : gap_at forked_once one_fork 2 ≡ gap_at forked_once one_fork 3
  pub differ : InnermostDiffer → ⊥

-- ## The right strand is stolen

abbrev pub stolen_once : ColumnTable
stolen_once = split_at 1 forked_once

-- both strands may go on
pub record TwoHands : Type 0 where
  pub stands : StandsInOrder stolen_once no_words one_fork (1 ∷ []) [] (open_below 4)
  pub left : MayGoOn stolen_once one_fork (1 ∷ []) (open_below 4) 2
  pub right : MayGoOn stolen_once one_fork (1 ∷ []) (open_below 4) 3
  pub traces : (trace_at stolen_once one_fork 2 ≡ 1) × (trace_at stolen_once one_fork 3 ≡ 2)
  pub gaps : (gap_at stolen_once one_fork 2 ≡ 0) × (gap_at stolen_once one_fork 3 ≡ 2)

-- ## Both strands finish then, and the traces are merged

abbrev pub main_alone : Moment
main_alone = record { columns = first_tier 5; words = no_words; tree = plain 0 Strand 0 ∷ []; cuts = []; joins = []; is_open = λ m. m == 0 }

abbrev pub both_finished : Moment
both_finished = record { columns = stolen_once; words = no_words; tree = one_fork; cuts = 1 ∷ []; joins = []; is_open = shuts 3 (shuts 2 (fork_opens main_alone)) }

abbrev pub put_together : Moment
put_together = record { columns = merged 1 stolen_once; words = no_words; tree = one_fork; cuts = 1 ∷ []; joins = 1 ∷ []; is_open = shuts 1 (shuts 3 (shuts 2 (fork_opens main_alone))) }

-- main may go on only after the merge
pub record MainWaits : Type 0 where
  pub finished : RunsInOrder both_finished
  pub waits : GoesOnAt both_finished 0 → ⊥
  pub merged : RunsInOrder put_together
  pub goes_on : GoesOnAt put_together 0

-- ## The left strand forks in a block; of that fork the right strand is stolen, the left one accesses a cell and begins a block

abbrev pub in_block : List Node
in_block = one_fork ++ pending 2 2 ∷ []

abbrev pub two_forks : List Node
two_forks = in_block ++ plain 4 Fork 3 ∷ plain 5 Strand 0 ∷ plain 5 Strand 0 ∷ []

abbrev pub accessed : List Node
accessed = two_forks ++ plain 6 (Write 0 (pos 1)) 4 ∷ []

abbrev pub begun_since : List Node
begun_since = accessed ++ pending 6 6 ∷ []

abbrev pub stolen_twice : ColumnTable
stolen_twice = split_at 3 (forked 2 1 stolen_once)

-- the gap words at the access, and after the begin
abbrev pub at_access : List ℕ
at_access = 2 ∷ 0 ∷ 0 ∷ 0 ∷ 0 ∷ []

abbrev pub since_then : List ℕ
since_then = 2 ∷ 0 ∷ 0 ∷ 6 ∷ 0 ∷ []

abbrev pub open_since : ℕ → Bool
open_since m = open_below 8 m || (m == 9)

-- The strand that was stolen first asks about that access. It loads its first word at the access, and the second after the begin.
pub record TwoLoads : Type 0 where
  pub first : StandsInOrder stolen_twice at_access accessed (3 ∷ 1 ∷ []) [] (open_below 8)
  pub second : StandsInOrder stolen_twice since_then begun_since (3 ∷ 1 ∷ []) [] open_since
  pub stamps : AreStamps begun_since
  pub asker : MayGoOn stolen_twice begun_since (3 ∷ 1 ∷ []) open_since 3
  pub access : IsTrue (touches begun_since 0 8)
  pub around : up stolen_twice (trace_at stolen_twice begun_since 8) ≡ Some 1
  pub outside : stands_in stolen_twice 2 1 ≡ false
  pub loads : loads_second stolen_twice at_access (mark_of stolen_twice begun_since 8) 2 ≡ true
  pub verdict : verdict_between stolen_twice at_access since_then (mark_of stolen_twice begun_since 8) 2 ≡ Against 2

-- that strand draws 5 for the begin of a block, and the accessing strand begins its block at 6
pub record DrawnEarly : Type 0 where
  pub drawn : IsLater stolen_twice accessed 3 5
  pub still : IsLater stolen_twice begun_since 3 5
  -- but 5 is not later than all stamps of the accessing strand's trace
  pub not_there : IsLater stolen_twice begun_since 6 5 → ⊥
  -- otherwise both strands of the second fork finish, and its traces are merged
  pub finished : StandsInOrder stolen_twice at_access accessed (3 ∷ 1 ∷ []) [] (open_below 6)
  pub goes_on : MayGoOn stolen_twice accessed (3 ∷ 1 ∷ []) (open_below 6) 3
  pub done : IsDone accessed (open_below 6) 3
  pub merged : IsLater (merged 3 stolen_twice) accessed 3 5
