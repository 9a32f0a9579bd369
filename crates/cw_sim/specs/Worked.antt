-- Small sources, run by given workers, and what the definitions compute for their runs.
use Rattle.std.specs.Prelude.{◌≡◌, ℕ, ℤ, pos, Bool, true, false, List, [], ◌∷◌, map, length, replicate, codes, Option, Some, None}
use Rattle.cw_code.specs.declared.Limits.{Limits}
use Rattle.cw_code.specs.declared.FaultKind.TheVariants.{Zero}
use Rattle.cw_tree.specs.declared.closed.Halt.{Halt}
use Rattle.cw_tree.specs.declared.closed.Halt.TheVariants.{Fault, Budget}
use Rattle.cw_tree.specs.declared.conflict.Conflict.{Conflict}
use Rattle.cw_tree.specs.declared.node.Kind.TheVariants.{Strand, Fork, Read, Write, Tried}
use Rattle.cw_tree.specs.Nodes.{below}
use Rattle.cw_tree.specs.Worked.{plain, committed, aborted}
use Rattle.cw_strand.specs.Names.{cells_of, first_memory}
use Rattle.cw_strand.specs.Running.{Standing}
use Rattle.cw_strand.specs.Coded as coded
use Rattle.cw_strand.specs.Laws.{compiled}
use Rattle.cw_strand.specs.Worked as sources
use Rattle.cw_open.specs.Machine.{live_value, has_finished, waits}
use Rattle.cw_io.specs.declared.schedule.Schedule.TheVariants.{List as Listed, Seeded}
use Rattle.cw_record.specs.declared.record_end.RecordEnd.TheVariants as ends
use Rattle.cw_record.specs.declared.items.OrderItem.TheVariants.{Begins}
use Rattle.cw_record.specs.Items.{items}
use Rattle.cw_record.specs.Coherent.{outputs_shown}
use Rattle.cw_sim.specs.Workers.{Simulation, tree, first_simulation}
use Rattle.cw_sim.specs.Turns.{worker_at}
use Rattle.cw_sim.specs.Moves.{is_run_over, after_moves}

-- ## Runs of sources

abbrev pub limits : (aborts strands moves : ℕ) → Limits
limits aborts strands moves = record { fuel = 1000; size = 1000; aborts = aborts; strands = strands; moves = moves }

-- enough attempts, columns and moves that none of these limits is met
abbrev pub wide : Limits
wide = limits 1000 100 1000

-- limits by which a block or an access may be refused `aborts` times
abbrev pub up_to : ℕ → Limits
up_to aborts = limits aborts 100 1000

-- the run of a source by `workers` workers, which move in the order of this list
abbrev pub ran : List ℕ → (workers : ℕ) → List ℕ → Limits → Simulation (Standing coded.State)
ran text workers list most =
    let ds = sources.tree text in
    let s = compiled ds [] most in
    after_moves s (worker_at (Listed list) workers) most.moves 0 (first_simulation (first_memory (cells_of ds)) most.strands most.aborts workers s.start)

-- what is looked at in a run
pub record SeenRow : Type 0 where
  pub halt : Option Halt
  pub finished : Bool
  pub memory : List ℤ
  pub outputs : List ℤ
  pub clock : ℕ
  pub conflicts : List Conflict

abbrev pub seen : {A : Type 0} → Simulation A → SeenRow
seen m = record {
  halt = m.core.halt;
  finished = has_finished m.core.machine 0;
  memory = map (live_value m.core.machine) (below (length m.core.machine.first));
  outputs = outputs_shown (tree m) (items (tree m) m.core.machine.conflicts m.core.budget (ends.Finished [] []));
  clock = m.core.machine.clock;
  conflicts = m.core.machine.conflicts;
}

-- a run in which main has ended
abbrev pub ended : (memory outputs : List ℤ) → (clock : ℕ) → List Conflict → SeenRow
ended memory outputs clock conflicts = record { halt = None; finished = true; memory = memory; outputs = outputs; clock = clock; conflicts = conflicts }

-- a run that stopped before
abbrev pub halted : Halt → (memory : List ℤ) → (clock : ℕ) → List Conflict → SeenRow
halted h memory clock conflicts = record { halt = Some h; finished = false; memory = memory; outputs = []; clock = clock; conflicts = conflicts }

-- ## Two strands of a block add one to a cell, and one of the sums is lost

abbrev pub sums : Simulation (Standing coded.State)
sums = ran (codes "cell c; fn main() { atomic { spawn { c = c + 1; } c = c + 1; } }") 2 (0 ∷ 0 ∷ 1 ∷ 0 ∷ 1 ∷ 0 ∷ 1 ∷ []) wide

pub record Sums : Type 0 where
  pub comes_to : seen sums ≡ ended (pos 1 ∷ []) [] 7 []
  pub nodes : tree sums
      ≡ plain 0 Strand 0 ∷ committed 0 1 7 ∷ plain 1 Fork 2 ∷ plain 2 Strand 0 ∷ plain 2 Strand 0
      ∷ plain 3 (Read 0 (pos 0)) 3 ∷ plain 4 (Read 0 (pos 0)) 4 ∷ plain 3 (Write 0 (pos 1)) 5 ∷ plain 4 (Write 0 (pos 1)) 6 ∷ []

-- ## The outer one of two blocks is a victim: both are rolled back, one in each move, and done again

abbrev pub blocks : Limits → Simulation (Standing coded.State)
blocks most = ran (codes "cell c; fn main() { spawn { atomic { c = 1; } } atomic { atomic { c = 2; } } }") 2 (0 ∷ 1 ∷ 0 ∷ 0 ∷ 1 ∷ 1 ∷ 1 ∷ []) most

abbrev pub refused_block : Conflict
refused_block = record { cell = 0; last = 3; asker = 8; block = 2; victim = 4; attempt = 1; chain = 3 ∷ [] }

pub record Blocks : Type 0 where
  pub comes_to : seen (blocks wide) ≡ ended (pos 2 ∷ []) [] 13 (refused_block ∷ [])
  pub nodes : tree (blocks wide)
      ≡ plain 0 Strand 0 ∷ plain 0 Fork 1 ∷ plain 1 Strand 0 ∷ plain 1 Strand 0 ∷ committed 2 2 6 ∷ plain 4 (Write 0 (pos 1)) 3
      ∷ aborted 3 4 8 ∷ aborted 6 5 7 ∷ plain 7 (Tried 0) 0 ∷ committed 3 9 13 ∷ committed 9 10 12 ∷ plain 10 (Write 0 (pos 2)) 11 ∷ []
  -- with one attempt the run stops in the right strand of the fork, and has no item; with two it ends as with many
  pub once : seen (blocks (up_to 1)) ≡ halted (Budget 3) (pos 1 ∷ []) 5 (refused_block ∷ [])
  pub order : items (tree (blocks (up_to 1))) (refused_block ∷ []) 1 (ends.Budget 3) ≡ []
  pub twice : seen (blocks (up_to 2)) ≡ ended (pos 2 ∷ []) [] 13 (refused_block ∷ [])
  -- the number of moves that it takes, idle ones included
  pub one_less : is_run_over (blocks (limits 1000 100 24)) ≡ false
  pub enough : is_run_over (blocks (limits 1000 100 25)) ≡ true

-- ## A write in a stolen strand that was joined before a block began, and inside a block

abbrev pub before : Simulation (Standing coded.State)
before = ran (codes "cell c; cell d; fn main() { spawn { spawn { d = 5; } c = 1; sync; atomic { d = 1; d = 2; } } c = 2; }") 3 (0 ∷ 1 ∷ 0 ∷ 2 ∷ 2 ∷ 0 ∷ 2 ∷ 0 ∷ 0 ∷ 0 ∷ 1 ∷ []) wide

abbrev pub within : Limits → Simulation (Standing coded.State)
within most = ran (codes "cell c; cell d; fn main() { spawn { atomic { spawn { d = 5; } c = 1; sync; d = 1; } } c = 2; }") 3 (0 ∷ 1 ∷ 0 ∷ 0 ∷ 2 ∷ 2 ∷ 0 ∷ 2 ∷ 0 ∷ 1 ∷ []) most

-- no block has to be rolled back: the access is tried again
abbrev pub refused_access : (asker attempt : ℕ) → Conflict
refused_access asker attempt = record { cell = 0; last = 4; asker = asker; block = 2; victim = 0; attempt = attempt; chain = 4 ∷ [] }

pub record Joined : Type 0 where
  pub comes_before : seen before ≡ ended (pos 2 ∷ pos 2 ∷ []) [] 9 []
  pub comes_within : seen (within wide) ≡ ended (pos 2 ∷ pos 1 ∷ []) [] 8 (refused_access 10 1 ∷ refused_access 12 2 ∷ [])
  pub twice : seen (within (up_to 2)) ≡ halted (Budget 3) (pos 1 ∷ pos 1 ∷ []) 6 (refused_access 10 1 ∷ refused_access 12 2 ∷ [])
  pub three_times : seen (within (up_to 3)) ≡ ended (pos 2 ∷ pos 1 ∷ []) [] 8 (refused_access 10 1 ∷ refused_access 12 2 ∷ [])

-- ## An access is refused inside a block that is around both strands

abbrev pub common : Limits → Simulation (Standing coded.State)
common most = ran (codes "cell c; fn main() { atomic { spawn { atomic { c = 1; } } c = 2; } }") 2 (0 ∷ 0 ∷ 1 ∷ 0 ∷ 0 ∷ 1 ∷ []) most

abbrev pub refused_alone : Conflict
refused_alone = record { cell = 0; last = 4; asker = 7; block = 3; victim = 0; attempt = 1; chain = 4 ∷ [] }

pub record Common : Type 0 where
  pub comes_to : seen (common wide) ≡ ended (pos 2 ∷ []) [] 7 (refused_alone ∷ [])
  pub once : seen (common (up_to 1)) ≡ halted (Budget 4) (pos 1 ∷ []) 4 (refused_alone ∷ [])
  pub order : items (tree (common (up_to 1))) (refused_alone ∷ []) 1 (ends.Budget 4) ≡ Begins 1 ∷ []

-- ## A budget is spent in a strand that waits for its fork

abbrev pub waiting : Simulation (Standing coded.State)
waiting = ran (codes "cell c; fn main() { spawn { atomic { c = 1; } } atomic { spawn { c = 2; } } }") 2 (0 ∷ 1 ∷ 0 ∷ 0 ∷ 1 ∷ 1 ∷ 1 ∷ []) (up_to 1)

pub record Waiting : Type 0 where
  pub comes_to : seen waiting ≡ halted (Budget 3) (pos 1 ∷ []) 5 (record { cell = 0; last = 3; asker = 10; block = 2; victim = 4; attempt = 1; chain = 3 ∷ [] } ∷ [])
  pub waits : waits waiting.core.machine 3 ≡ true

-- ## What an inner block wrote is undone with the outer one

abbrev pub inner : Simulation (Standing coded.State)
inner =
    ran (codes "cell a = 7; cell b = 8; cell c; fn main() { spawn { atomic { c = 1; } } atomic { atomic { a = a + 1; } b = b + 1; c = 2; } }") 2
    (0 ∷ 1 ∷ 0 ∷ 0 ∷ 1 ∷ 1 ∷ 1 ∷ 1 ∷ 1 ∷ 1 ∷ 1 ∷ 1 ∷ 1 ∷ []) wide

abbrev pub Inner : Type 0
Inner = seen inner ≡ ended (pos 8 ∷ pos 9 ∷ pos 2 ∷ []) [] 21 (record { cell = 2; last = 3; asker = 12; block = 2; victim = 4; attempt = 1; chain = 3 ∷ [] } ∷ [])

-- ## A fault in a block that was about to be rolled back

abbrev pub faulty : Simulation (Standing coded.State)
faulty =
    ran (codes "cell c; cell d; fn main() { spawn { atomic { c = 1; c = 2; } } atomic { spawn { c = 3; } d = 1 / d; } }") 3
    (0 ∷ 1 ∷ 0 ∷ 0 ∷ 1 ∷ 1 ∷ 2 ∷ 1 ∷ 2 ∷ 2 ∷ []) wide

abbrev pub Faulty : Type 0
Faulty = seen faulty ≡ halted (Fault 9 Zero) (pos 1 ∷ pos 0 ∷ []) 6 (record { cell = 0; last = 3; asker = 10; block = 2; victim = 4; attempt = 1; chain = 3 ∷ [] } ∷ [])

-- ## A block's output comes at the end of the block

abbrev pub shows : Simulation (Standing coded.State)
shows = ran (codes "cell c; fn main() { spawn { atomic { out 1; c = 1; } } out 2; }") 2 (0 ∷ 1 ∷ 0 ∷ 0 ∷ 1 ∷ []) wide

abbrev pub Shows : Type 0
Shows = seen shows ≡ ended (pos 1 ∷ []) (pos 2 ∷ pos 1 ∷ []) 6 []

-- ## A thief takes the oldest fork

abbrev pub nested : Simulation (Standing coded.State)
nested = ran (codes "fn main() { spawn { spawn { out 1; } out 2; } out 3; }") 2 (0 ∷ 0 ∷ 1 ∷ 1 ∷ []) wide

abbrev pub Nested : Type 0
Nested = seen nested ≡ ended [] (pos 3 ∷ pos 1 ∷ pos 2 ∷ []) 5 []

-- ## Moves are spent

abbrev pub counts : ℕ → Simulation (Standing coded.State)
counts moves = ran (codes "cell c; fn main() { c = c + 1; out c; }") 1 [] (limits 1 100 moves)

abbrev pub spawns : Simulation (Standing coded.State)
spawns = ran (codes "fn f() { spawn { f(); } f(); } fn main() { f(); }") 4 [] (limits 1 100 10)

pub record Spent : Type 0 where
  pub two : is_run_over (counts 2) ≡ false
  pub four : is_run_over (counts 4) ≡ false
  pub five : seen (counts 5) ≡ ended (pos 1 ∷ []) (pos 1 ∷ []) 4 []
  pub goes_on : is_run_over spawns ≡ false
  pub clock : spawns.core.machine.clock ≡ 5

-- ## Few columns: forks wait inline

abbrev pub three : (columns : ℕ) → SeenRow
three columns = seen (ran (codes "cell c; fn main() { spawn { atomic { c = c + 1; } } spawn { atomic { c = c + 1; } } spawn { atomic { c = c + 1; } } }") 4 [] (limits 1000 columns 1000))

pub record Inline : Type 0 where
  pub one_column : three 1 ≡ ended (pos 3 ∷ []) [] 15 []
  pub two_columns : three 2 ≡ ended (pos 3 ∷ []) [] 15 []
  pub three_columns : three 3 ≡ ended (pos 3 ∷ []) [] 17 (record { cell = 0; last = 6; asker = 11; block = 2; victim = 5; attempt = 1; chain = 4 ∷ 6 ∷ [] } ∷ [])

-- ## Who moves

pub record Turns : Type 0 where
  -- the round begins with worker 0, wherever the list ended
  pub round : map (worker_at (Listed (2 ∷ 1 ∷ [])) 3) (below 7) ≡ 2 ∷ 1 ∷ 0 ∷ 1 ∷ 2 ∷ 0 ∷ 1 ∷ []
  pub no_list : map (worker_at (Listed []) 2) (below 3) ≡ 0 ∷ 1 ∷ 0 ∷ []
  pub of_zero : worker_at (Seeded 0) 1000 0 ≡ 614
  pub of_one : worker_at (Seeded 1) 1000 0 ≡ 548
  pub drawn : map (worker_at (Seeded 1) 4) (100000 ∷ 100001 ∷ 100005 ∷ []) ≡ 0 ∷ 1 ∷ 1 ∷ []
  pub long_list : seen (ran (codes "fn main() {}") 4 (replicate 20000 0) wide) ≡ ended [] [] 0 []

pub record Rows : Type 0 where
  pub sums : Sums
  pub blocks : Blocks
  pub joined : Joined
  pub common : Common
  pub waiting : Waiting
  pub inner : Inner
  pub faulty : Faulty
  pub shows : Shows
  pub nested : Nested
  pub spent : Spent
  pub inline : Inline
  pub turns : Turns
