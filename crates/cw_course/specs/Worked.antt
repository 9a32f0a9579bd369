-- Examples: small programs, and what their strands did, as courses. Each is a course of its program, and is none once one thing is
-- changed.
use Rattle.std.specs.Prelude.{◌≡◌, ℕ, ℤ, pos, List, [], ◌∷◌, Some, None}
use Rattle.cw_code.specs.declared.Back.{Back}
use Rattle.cw_strand.specs.declared.want.Want.{Want}
use Rattle.cw_strand.specs.declared.want.Want.TheVariants.{Load, Store, Out as Shows, Begin, End, Cancel as GivesUp, Done}
use Rattle.cw_strand.specs.declared.want.Given.{Given}
use Rattle.cw_strand.specs.declared.want.Given.TheVariants.{Value, Back as Wrote}
use Rattle.cw_strand.specs.Strands.{Strands}
use Rattle.cw_tree.specs.declared.node.Node.{Node}
use Rattle.cw_tree.specs.declared.node.Kind.TheVariants.{Strand, Fork, Read, Write, Out, Tried, Cancel}
use Rattle.cw_tree.specs.declared.node.BlockState.TheVariants.{Pending, Committed, Aborted}
use Rattle.cw_tree.specs.declared.closed.Closed.{Closed}
use Rattle.cw_tree.specs.declared.closed.Halt.TheVariants.{Budget}
use Rattle.cw_tree.specs.declared.conflict.Conflict.{Conflict}
use Rattle.cw_tree.specs.Worked.{plain, pending, committed, aborted}
use Rattle.cw_tree.specs.WorkedRun.{two_blocks, two_writes, refused_write}
use Rattle.cw_log.specs.declared.log.Log.{Log}
use Rattle.cw_log.specs.declared.token.Stop.{Stop}
use Rattle.cw_record.specs.WorkedEnds as ends
use Rattle.cw_record.specs.Scripts as script
use Rattle.cw_record.specs.Scripts.{Script, scripted}
use Rattle.cw_course.specs.Courses.{Course, Goes, Stops, nothing, act, block, fork, logs_of}
use Rattle.cw_course.specs.Closings.{tree_of, HasStates, AreWorked, IsClosing}

-- a log without conflicts
abbrev pub log : (column from at : ℕ) → List Node → Log
log column from at nodes = record { column = column; from = from; fork = at; nodes = nodes; conflicts = [] }

-- ## A value that is read
--
-- cell c; fn main() { out c; }

pub data Reader : Type 0 where
  reads : Reader
  shows : ℤ → Reader
  over : Reader

abbrev pub reader_wants : Reader → Want
reader_wants reads = Load 0
reader_wants (shows v) = Shows v
reader_wants over = Done

abbrev pub reader_next : Reader → Given → Reader
reader_next reads (Value v) = shows v
reader_next x given = over

abbrev pub reader : Strands Reader
reader = record { elements = 1; start = reads; want = reader_wants; answer = reader_next; left = λ x. x; right = λ x. x; joined = λ r l. r; depth = λ x. 0 }

-- the value `read` was read, and 5 was output
abbrev pub showed : (read : ℕ) → Course
showed v = act (act nothing (Read 0 (pos v)) 1) (Out (pos 5)) 2

pub record Reads : Type 0 where
  pub goes : Goes reader reads (showed 5) over
  -- it is no course if another value was read
  pub other : Stops reader reads (showed 4) → ⊥

-- ## Two strands, and what is behind them
--
-- fn main() { spawn { out 1; } out 2; sync; out 3; }

abbrev pub spawns : Script
spawns = script.fork (script.act (Shows (pos 1)) script.done) (script.act (Shows (pos 2)) (script.sync (script.act (Shows (pos 3)) script.done)))

abbrev pub shown : (value stamp : ℕ) → Course
shown value stamp = act nothing (Out (pos value)) stamp

-- a fork whose right strand did this
abbrev pub spawned : (right : Course) → Course
spawned right = fork nothing (Some 1) 1 (shown 1 2) right

pub record Forks : Type 0 where
  pub goes : Goes (scripted spawns) spawns (act (spawned (shown 2 3)) (Out (pos 3)) 4) script.done
  -- it is no course if the right strand did what the left one does
  pub sides : Stops (scripted spawns) spawns (spawned (shown 1 3)) → ⊥
  -- it may stop before the right strand ended, but goes on behind the fork only after that
  pub stops : Stops (scripted spawns) spawns (spawned nothing)
  pub behind : Stops (scripted spawns) spawns (act (spawned nothing) (Out (pos 3)) 4) → ⊥

-- ## A block
--
-- fn main() { atomic { out 1; } }

abbrev pub shows_in_block : Script
shows_in_block = script.act Begin (script.act (Shows (pos 1)) (script.act End script.done))

pub record Blocks : Type 0 where
  pub goes : Goes (scripted shows_in_block) shows_in_block (block nothing Committed 1 3 (shown 1 2)) script.done
  -- it may be pending as the strand stops, or be rolled back and begun again
  pub pending : Stops (scripted shows_in_block) shows_in_block (block nothing Pending 1 0 nothing)
  pub again : Goes (scripted shows_in_block) shows_in_block (block (block nothing Aborted 1 2 nothing) Committed 3 5 (shown 1 4)) script.done
  -- it is not committed if it broke off
  pub broken : Stops (scripted shows_in_block) shows_in_block (block nothing Committed 1 2 nothing) → ⊥

-- ## A block that is cancelled
--
-- cell c; fn main() { atomic { c = 1; cancel; } }

pub data Quitter : Type 0 where
  begins : Quitter
  writes : Quitter
  gives_up : Quitter
  -- these elements are still to be written back
  puts_back : List Back → Quitter
  ended : Quitter

abbrev pub quitter_wants : Quitter → Want
quitter_wants begins = Begin
quitter_wants writes = Store 0 (pos 1)
quitter_wants gives_up = GivesUp
quitter_wants (puts_back []) = End
quitter_wants (puts_back (b ∷ bs)) = Store b.cell b.value
quitter_wants ended = Done

abbrev pub quitter_next : Quitter → Given → Quitter
quitter_next begins given = writes
quitter_next writes given = gives_up
quitter_next gives_up (Wrote bs) = puts_back bs
quitter_next (puts_back (b ∷ bs)) given = puts_back bs
quitter_next x given = ended

abbrev pub quitter : Strands Quitter
quitter = record { elements = 1; start = begins; want = quitter_wants; answer = quitter_next; left = λ x. x; right = λ x. x; joined = λ r l. r; depth = λ x. 0 }

-- it was answered this cell with the value 0, and wrote `written` back
abbrev pub quit : (cell written : ℕ) → Course
quit c v =
    block nothing Committed 1 5
    (act (act (act nothing (Write 0 (pos 1)) 2) (Cancel (record { cell = c; value = pos 0 } ∷ [])) 3) (Write 0 (pos v)) 4)

pub record Cancels : Type 0 where
  pub goes : Goes quitter begins (quit 0 0) ended
  -- it is no course if another value was written back
  pub other : Stops quitter begins (quit 0 4) → ⊥
  -- nor if it was answered a cell that does not exist
  pub there : Stops quitter begins (quit 1 0) → ⊥

-- ## One of two sums is lost
--
-- cell c; fn main() { atomic { spawn { c = c + 1; } c = c + 1; } }

abbrev pub adds : Script → Script
adds x = script.act (Load 0) (script.act (Store 0 (pos 1)) x)

abbrev pub sums : Script
sums = script.act Begin (script.fork (adds script.done) (adds (script.sync (script.act End script.done))))

abbrev pub added : (read write : ℕ) → Course
added read write = act (act nothing (Read 0 (pos 0)) read) (Write 0 (pos 1)) write

abbrev pub summed : Course
summed = block nothing Committed 1 7 (fork nothing (Some 1) 2 (added 3 5) (added 4 6))

pub record Sums : Type 0 where
  pub goes : Goes (scripted sums) sums summed script.done
  pub tree : tree_of (logs_of summed 0 0 0)
      ≡ plain 0 Strand 0 ∷ committed 0 1 7 ∷ plain 1 Fork 2 ∷ plain 2 Strand 0 ∷ plain 3 (Read 0 (pos 0)) 3 ∷ plain 3 (Write 0 (pos 1)) 5
      ∷ plain 2 Strand 0 ∷ plain 6 (Read 0 (pos 0)) 4 ∷ plain 6 (Write 0 (pos 1)) 6 ∷ []

-- ## The outer one of two blocks is a victim
--
-- cell c; fn main() { spawn { atomic { c = 1; } } atomic { atomic { c = 2; } } }

abbrev pub nests : Script
nests =
    script.fork (script.act Begin (script.act (Store 0 (pos 1)) (script.act End script.done)))
    (script.act Begin (script.act Begin (script.act (Store 0 (pos 2)) (script.act End (script.act End (script.sync script.done))))))

-- both blocks of the right strand were rolled back, and done again
abbrev pub nested : Course
nested =
    fork nothing (Some 2) 1 (block nothing Committed 2 6 (act nothing (Write 0 (pos 1)) 3))
    (block (block nothing Aborted 4 8 (block nothing Aborted 5 7 (act nothing (Tried 0) 0))) Committed 9 13 (block nothing Committed 10 12 (act nothing (Write 0 (pos 2)) 11)))

pub record Nests : Type 0 where
  pub goes : Goes (scripted nests) nests nested script.done
  pub tree : tree_of (logs_of nested 0 0 0)
      ≡ plain 0 Strand 0 ∷ plain 0 Fork 1 ∷ plain 1 Strand 0 ∷ committed 2 2 6 ∷ plain 3 (Write 0 (pos 1)) 3
      ∷ plain 1 Strand 0 ∷ aborted 5 4 8 ∷ aborted 6 5 7 ∷ plain 7 (Tried 0) 0 ∷ committed 5 9 13 ∷ committed 9 10 12 ∷ plain 10 (Write 0 (pos 2)) 11 ∷ []

-- the logs, with the conflict that the board told for the refused access
abbrev pub nested_logs : List Log
nested_logs =
    log 0 0 0 (plain 0 Strand 0 ∷ plain 0 Fork 1 ∷ plain 1 Strand 0 ∷ committed 2 2 6 ∷ plain 3 (Write 0 (pos 1)) 3 ∷ [])
    ∷ record (log 2 0 1
    (plain 0 Strand 0 ∷ aborted 0 4 8 ∷ aborted 1 5 7 ∷ plain 2 (Tried 0) 0 ∷ committed 0 9 13 ∷ committed 4 10 12 ∷ plain 5 (Write 0 (pos 2)) 11 ∷ []))
    { conflicts = record refused_write { asker = 3 } ∷ [] }
    ∷ []

-- what a board with these conflicts gives when it is closed with the logs
abbrev pub finished_with : List Conflict → Closed
finished_with cs = record { tree = two_blocks; journals = two_writes ∷ []; conflicts = cs; halt = None }

pub record Finishes : Type 0 where
  pub worked : AreWorked (scripted nests) nested_logs None
  pub closing : IsClosing (pos 0 ∷ []) 2 nested_logs None (finished_with (refused_write ∷ []))
  -- it is no closing if the conflict is left out
  pub silent : IsClosing (pos 0 ∷ []) 2 nested_logs None (finished_with []) → ⊥

-- ## A block that was rolled back, a fork in it whose right strand has a log of its own, and an inline fork behind it
--
-- cell c; fn main() { atomic { spawn { c = 1; } c = 2; } spawn { out 1; } out 2; }

abbrev pub mixes : Script
mixes =
    script.act Begin
    (script.fork (script.act (Store 0 (pos 1)) script.done)
    (script.act (Store 0 (pos 2)) (script.sync (script.act End (script.fork (script.act (Shows (pos 1)) script.done) (script.act (Shows (pos 2)) (script.sync script.done)))))))

abbrev pub written : (value stamp : ℕ) → Course
written value stamp = act nothing (Write 0 (pos value)) stamp

-- What its strands did. Only strands are meant here: no conflict says why the block was rolled back.
abbrev pub mixed : Course
mixed = fork (block (block nothing Aborted 1 3 (fork nothing (Some 1) 2 nothing nothing)) Committed 4 8 (fork nothing (Some 2) 5 (written 1 6) (written 2 7))) None 9 (shown 1 10) (shown 2 11)

-- the logs, if the log of the second right strand hangs from the node `at`
abbrev pub logs_at : (at : ℕ) → List Log
logs_at at =
    log 0 0 0
    (plain 0 Strand 0 ∷ aborted 0 1 3 ∷ plain 1 Fork 2 ∷ plain 2 Strand 0 ∷ committed 0 4 8 ∷ plain 4 Fork 5 ∷ plain 5 Strand 0 ∷ plain 6 (Write 0 (pos 1)) 6
    ∷ plain 0 Fork 9 ∷ plain 8 Strand 0 ∷ plain 8 Strand 0 ∷ plain 9 (Out (pos 1)) 10 ∷ plain 10 (Out (pos 2)) 11 ∷ [])
    ∷ log 1 0 2 (plain 0 Strand 0 ∷ []) ∷ log 2 0 at (plain 0 Strand 0 ∷ plain 0 (Write 0 (pos 2)) 7 ∷ []) ∷ []

pub record Mixes : Type 0 where
  pub goes : Goes (scripted mixes) mixes mixed script.done
  pub logs : logs_of mixed 0 0 0 ≡ logs_at 5
  pub tree : tree_of (logs_at 5)
      ≡ plain 0 Strand 0 ∷ aborted 0 1 3 ∷ plain 1 Fork 2 ∷ plain 2 Strand 0 ∷ committed 0 4 8 ∷ plain 4 Fork 5 ∷ plain 5 Strand 0 ∷ plain 6 (Write 0 (pos 1)) 6
      ∷ plain 0 Fork 9 ∷ plain 8 Strand 0 ∷ plain 8 Strand 0 ∷ plain 9 (Out (pos 1)) 10 ∷ plain 10 (Out (pos 2)) 11
      ∷ plain 2 Strand 0 ∷ plain 5 Strand 0 ∷ plain 14 (Write 0 (pos 2)) 7 ∷ []
  pub states : HasStates (scripted mixes) mixed (logs_at 5)
  pub worked : AreWorked (scripted mixes) (logs_at 5) None
  -- they are no logs of it if one hangs from another fork
  pub hung : AreWorked (scripted mixes) (logs_at 2) None → ⊥

-- ## Logs of a run that stopped, and a board that is closed with them
--
-- cell c; fn main() { spawn { atomic { c = 1; } } atomic { spawn { c = 2; } } }

-- The strand that the right one spawned was refused. It stands in a block of the right one, which has no attempt left.
abbrev pub spent : Course
spent =
    fork nothing (Some 1) 1 (block nothing Pending 2 0 (written 1 3))
    (block nothing Pending 4 0 (fork nothing (Some 2) 5 (act nothing (Tried 0) 0) nothing))

abbrev pub spent_logs : List Log
spent_logs =
    log 0 0 0 (plain 0 Strand 0 ∷ plain 0 Fork 1 ∷ plain 1 Strand 0 ∷ pending 2 2 ∷ plain 3 (Write 0 (pos 1)) 3 ∷ [])
    ∷ record (log 1 0 1 (plain 0 Strand 0 ∷ pending 0 4 ∷ plain 1 Fork 5 ∷ plain 2 Strand 0 ∷ plain 3 (Tried 0) 0 ∷ [])) { conflicts = record ends.refused_in_block { asker = 4 } ∷ [] }
    ∷ log 2 1 2 (plain 0 Strand 0 ∷ []) ∷ []

-- it stopped where it was refused
abbrev pub stopped : Stop
stopped = record { halt = Budget 0; column = 1; strand = 3 }

-- what a board gives that names `strand` as the one that spent its budget
abbrev pub closed_by : (strand : ℕ) → Closed
closed_by x = record { tree = ends.spawned; journals = (ends.entry 3 (pos 1) (pos 0) ∷ []) ∷ []; conflicts = ends.refused_in_block ∷ []; halt = Some (Budget x) }

pub record Closes : Type 0 where
  pub worked : AreWorked (scripted ends.spawns) spent_logs (Some stopped)
  -- that is the strand that began the victim, and not the one that was refused
  pub closing : IsClosing (pos 0 ∷ []) 1 spent_logs (Some stopped) (closed_by 5)
  pub refused : IsClosing (pos 0 ∷ []) 1 spent_logs (Some stopped) (closed_by 8) → ⊥

pub record WorkedCourses : Type 0 where
  pub reads : Reads
  pub forks : Forks
  pub blocks : Blocks
  pub cancels : Cancels
  pub sums : Sums
  pub nests : Nests
  pub finishes : Finishes
  pub mixes : Mixes
  pub closes : Closes
