-- A small tree and its logs. They are not its logs once one thing is changed.
use Rattle.std.specs.Prelude.{◌≡◌, ℕ, pos, List, [], ◌∷◌, Some}
use Rattle.cw_tree.specs.declared.node.Node.{Node}
use Rattle.cw_tree.specs.declared.node.Kind.TheVariants.{Strand, Fork, Write, Out, Tried, Cancel}
use Rattle.cw_tree.specs.declared.closed.Halt.TheVariants.{Budget}
use Rattle.cw_tree.specs.declared.conflict.Conflict.{Conflict}
use Rattle.cw_tree.specs.Worked.{plain, pending}
use Rattle.cw_tree.specs.Walks.{IsNumbered}
use Rattle.cw_tree.specs.NextNodes.{IsSound}
use Rattle.cw_tree.specs.InOrder.{in_order}
use Rattle.cw_log.specs.declared.log.Log.{Log}
use Rattle.cw_log.specs.declared.token.Stop.{Stop}
use Rattle.cw_course.specs.Closings.{tree_of, conflicts_of, last_conflict, halt_in}
use Rattle.cw_course.specs.TreeLogs.{number_in_tree, halt_in_tree, HangTogether, AreLogsOf}

-- language 2; cell c; fn main() { spawn { spawn { atomic { c = 1; cancel; } } out 7; } atomic { c = 2; } }

-- The nodes in the order of time. Main's left strand forks as well, and its left strand writes and cancels. Main's right strand is refused.
abbrev pub made_in_time : List Node
made_in_time =
    plain 0 Strand 0 ∷ plain 0 Fork 1 ∷ plain 1 Strand 0 ∷ plain 1 Strand 0 ∷ plain 2 Fork 2 ∷ plain 4 Strand 0 ∷ plain 4 Strand 0 ∷ pending 3 3 ∷ pending 5 4
    ∷ plain 8 (Write 0 (pos 1)) 5 ∷ plain 7 (Tried 0) 0 ∷ plain 8 (Cancel (record { cell = 0; value = pos 0 } ∷ [])) 6 ∷ plain 6 (Out (pos 7)) 7 ∷ []

abbrev pub refused_as : (asker : ℕ) → Conflict
refused_as asker = record { cell = 0; last = 5; asker = asker; block = 4; victim = 3; attempt = 1; chain = 5 ∷ [] }

-- the log of main, in which the cancel put back this value
abbrev pub log_of_main : (value : ℕ) → Log
log_of_main value = record {
  column = 0;
  from = 0;
  fork = 0;
  nodes = plain 0 Strand 0 ∷ plain 0 Fork 1 ∷ plain 1 Strand 0 ∷ plain 2 Fork 2 ∷ plain 3 Strand 0 ∷ pending 4 4 ∷ plain 5 (Write 0 (pos 1)) 5
      ∷ plain 5 (Cancel (record { cell = 0; value = pos value } ∷ [])) 6 ∷ [];
  conflicts = [];
}

-- the log of the left strand's right one
abbrev pub log_inside : Log
log_inside = record { column = 2; from = 0; fork = 3; nodes = plain 0 Strand 0 ∷ plain 0 (Out (pos 7)) 7 ∷ []; conflicts = [] }

-- the log of main's right strand, which hangs from this node of main's log
abbrev pub log_at_right : (fork : ℕ) → List Conflict → Log
log_at_right fork cs = record { column = 1; from = 0; fork = fork; nodes = plain 0 Strand 0 ∷ pending 0 3 ∷ plain 1 (Tried 0) 0 ∷ []; conflicts = cs }

-- all logs, in the order in which the forks are joined
abbrev pub logs_with : (value fork : ℕ) → List Conflict → List Log
logs_with value fork cs = log_of_main value ∷ log_inside ∷ log_at_right fork cs ∷ []

-- the numbers of their nodes in time
abbrev pub numbers_of_main : List ℕ
numbers_of_main = 0 ∷ 1 ∷ 2 ∷ 4 ∷ 5 ∷ 8 ∷ 9 ∷ 11 ∷ []

abbrev pub numbers_in_time : List (List ℕ)
numbers_in_time = numbers_of_main ∷ (6 ∷ 12 ∷ []) ∷ (3 ∷ 7 ∷ 10 ∷ []) ∷ []

-- main's right strand spent its budget of one attempt
abbrev pub spent_at_right : Stop
spent_at_right = record { halt = Budget 0; column = 1; strand = 0 }

pub record WorkedTreeLogs : Type 0 where
  pub numbered : IsNumbered made_in_time
  pub sound : IsSound made_in_time
  pub logs : AreLogsOf made_in_time (refused_as 10 ∷ []) (logs_with 0 1 (refused_as 2 ∷ [])) numbers_in_time
  pub together : HangTogether made_in_time (logs_with 0 1 (refused_as 2 ∷ [])) numbers_in_time
  -- if a log hangs from a later one, the tree is not numbered
  pub later : IsNumbered (tree_of (log_of_main 0 ∷ record log_inside { from = 1; fork = 1 } ∷ log_at_right 1 [] ∷ [])) → ⊥
  -- what they make together
  pub tree : tree_of (logs_with 0 1 (refused_as 2 ∷ []))
      ≡ plain 0 Strand 0 ∷ plain 0 Fork 1 ∷ plain 1 Strand 0 ∷ plain 2 Fork 2 ∷ plain 3 Strand 0 ∷ pending 4 4 ∷ plain 5 (Write 0 (pos 1)) 5
      ∷ plain 5 (Cancel (record { cell = 0; value = pos 0 } ∷ [])) 6 ∷ plain 3 Strand 0 ∷ plain 8 (Out (pos 7)) 7 ∷ plain 1 Strand 0 ∷ pending 10 3 ∷ plain 11 (Tried 0) 0 ∷ []
  pub one : in_order (tree_of (logs_with 0 1 (refused_as 2 ∷ []))) ≡ in_order made_in_time
  pub conflicts : conflicts_of (logs_with 0 1 (refused_as 2 ∷ [])) (logs_with 0 1 (refused_as 2 ∷ [])) ≡ refused_as 12 ∷ []
  -- the strand that spent its budget has number 3 in time, and number 10 in the tree of the logs
  pub strand : number_in_tree (logs_with 0 1 (refused_as 2 ∷ [])) numbers_in_time 1 0 ≡ Some 3
  pub halt : halt_in_tree made_in_time (last_conflict (logs_with 0 1 (refused_as 2 ∷ [])) 1) 3 (Budget 0) ≡ Budget 3
  pub halt_in_logs : halt_in (logs_with 0 1 (refused_as 2 ∷ [])) (Some spent_at_right) ≡ Some (Budget 10)
  -- they are not its logs if the cancel put back another value,
  pub value : AreLogsOf made_in_time (refused_as 10 ∷ []) (logs_with 1 1 (refused_as 2 ∷ [])) numbers_in_time → ⊥
  -- if main's right strand hangs from the other fork,
  pub fork : AreLogsOf made_in_time (refused_as 10 ∷ []) (logs_with 0 3 (refused_as 2 ∷ [])) numbers_in_time → ⊥
  -- if the conflict is missing,
  pub silent : AreLogsOf made_in_time (refused_as 10 ∷ []) (logs_with 0 1 []) numbers_in_time → ⊥
  -- if one log is missing,
  pub fewer : AreLogsOf made_in_time (refused_as 10 ∷ []) (log_of_main 0 ∷ log_at_right 1 (refused_as 2 ∷ []) ∷ []) (numbers_of_main ∷ (3 ∷ 7 ∷ 10 ∷ []) ∷ []) → ⊥
  -- or if one is there twice
  pub twice : AreLogsOf made_in_time (refused_as 10 ∷ []) (log_of_main 0 ∷ log_inside ∷ log_at_right 1 (refused_as 2 ∷ []) ∷ record log_inside { column = 4 } ∷ [])
      (numbers_of_main ∷ (6 ∷ 12 ∷ []) ∷ (3 ∷ 7 ∷ 10 ∷ []) ∷ (6 ∷ 12 ∷ []) ∷ []) → ⊥
