-- Small closed runs in which a step came late: an access was refused because of a block that had ended by then, and a block began
-- with a stamp that was drawn before others. Each is a closed run of strands that did what they want. Each has a sibling, with one
-- more output, that is a closed run of no strands.
use Rattle.std.specs.Prelude.{ℕ, List, pos, Bool, true, false, Option, None}
use Rattle.cw_strand.specs.declared.want.Want.TheVariants.{Load, Store, Out as Shows, Begin, End}
use Rattle.cw_strand.specs.Strands.{Strands}
use Rattle.cw_tree.specs.declared.access.Entry.{Entry}
use Rattle.cw_tree.specs.declared.closed.Halt.{Halt}
use Rattle.cw_open.specs.Machine.{OpenMachine}
use Rattle.cw_open.specs.WorkedTimes.{one_cell, late, late_entries, too_late, early, early_entries, too_early}
use Rattle.cw_record.specs.ClosedRun.{IsClosedRun}
use Rattle.cw_record.specs.Scripts.{Script, done, sync, act, fork, scripted}

-- strands with these scripts, each with two attempts, left this state, and nothing stopped them; `spent` says whether the moves
-- were spent
abbrev pub IsClosedBy : Script → OpenMachine → (kept : List (List Entry)) → (spent : Bool) → Type 0
IsClosedBy main m kept spent = IsClosedRun (scripted main) one_cell 2 m kept None spent

-- no strands left this state, however it was closed
abbrev pub IsNeverClosed : OpenMachine → Type 0
IsNeverClosed m = (s : Strands Script) (budget : ℕ) (kept : List (List Entry)) (h : Option Halt) (spent : Bool) → IsClosedRun s one_cell budget m kept h spent → ⊥

-- ## An access was refused late
--
-- cell c; fn main() { spawn { atomic { c = 1; } out 1; } c; }

abbrev pub reads_behind : (shown : ℕ) → Script
reads_behind shown = fork (act Begin (act (Store 0 (pos 1)) (act End (act (Shows (pos shown)) done)))) (act (Load 0) (sync done))

pub record ClosedLate : Type 0 where
  pub holds : IsClosedBy (reads_behind 1) late late_entries false
  -- not if its moves were spent, since main finished; nor for strands that output something else
  pub spent : IsClosedBy (reads_behind 1) late late_entries true → ⊥
  pub other : IsClosedBy (reads_behind 2) late late_entries false → ⊥
  -- with an output of the right strand before it, the access met no pending block at any moment
  pub none : IsNeverClosed too_late

-- ## A stamp was drawn early
--
-- cell c; fn main() { spawn { c = 1; } atomic { c; } }

abbrev pub reads_in_block : (written : ℕ) → Script
reads_in_block written = fork (act (Store 0 (pos written)) done) (act Begin (act (Load 0) (act End (sync done))))

pub record ClosedEarly : Type 0 where
  pub holds : IsClosedBy (reads_in_block 1) early early_entries false
  pub spent : IsClosedBy (reads_in_block 1) early early_entries true → ⊥
  -- not for strands that write something else
  pub other : IsClosedBy (reads_in_block 2) early early_entries false → ⊥
  -- with an output of the right strand before its block, the block could not have begun
  pub none : IsNeverClosed too_early
