-- Small runs in time, whose conflicts tell what was met, though a step comes late: an access is refused for a block that
-- has ended by then, and a block begins with a stamp that was drawn before others. Each is a history. Each has a
-- sibling, with one output more, to which no such run leads.
use Rattle.std.specs.Prelude.{◌≡◌, ℕ, ℤ, List, [], ◌∷◌, ◌++◌, Option, Some, None, true, false, pos}
use Rattle.cw_tree.specs.declared.node.Node.{Node}
use Rattle.cw_tree.specs.declared.node.Kind.TheVariants.{Strand, Fork, Read, Write, Out, Tried}
use Rattle.cw_tree.specs.declared.access.Entry.{Entry}
use Rattle.cw_tree.specs.declared.conflict.Conflict.{Conflict}
use Rattle.cw_tree.specs.Shape.{AreStamps}
use Rattle.cw_tree.specs.Refusals.{IsRecorded}
use Rattle.cw_tree.specs.Newest.{newest}
use Rattle.cw_tree.specs.Histories.{IsHistory}
use Rattle.cw_tree.specs.InOrder.{in_order, conflicts_in_order}
use Rattle.cw_tree.specs.Worked.{plain, committed}
use Rattle.cw_open.specs.Machine.{OpenMachine}
use Rattle.cw_open.specs.Steps.{Step, forks, begins, accesses, refuses, outputs, commits, finishes, joins, after_all, first_machine}
use Rattle.cw_open.specs.Runs.{IsRun, at_any_time}
use Rattle.cw_open.specs.Laws.{NoneUndone}
use Rattle.cw_open.specs.Times.{AreTimely, ReachedInTime}
use Rattle.cw_open.specs.Refused.{as_told}
use Rattle.cw_open.specs.Left.{AreKept}

-- one cell, which has the value 0
abbrev pub one_cell : List ℤ
one_cell = pos 0 ∷ []

abbrev pub opening : OpenMachine
opening = first_machine one_cell

-- a run as told and in time leads to the state, if an access may conflict only with the newest one
abbrev pub IsLeft : OpenMachine → Type 0
IsLeft = ReachedInTime (as_told (λ t us w. newest us)) one_cell

-- no run as told and in time leads there, whichever accesses one may conflict with
abbrev pub IsNever : OpenMachine → Type 0
IsNever m = (asked : List Node → List ℕ → Option ℤ → List ℕ) → ReachedInTime (as_told asked) one_cell m → ⊥

-- the strands of fork 1, and main, finish
abbrev pub both_finish : List Step
both_finish = finishes 2 false ∷ finishes 3 false ∷ joins 1 ∷ finishes 0 false ∷ []

-- the entries of a write of 1 to the cell and of a read of it
abbrev pub wrote_one : ℕ → Entry
wrote_one stamp = record { mark = record { strand = 0; stamp = stamp }; wrote = true; value = pos 1; old = pos 0 }

abbrev pub read_one : ℕ → Entry
read_one stamp = record { mark = record { strand = 0; stamp = stamp }; wrote = false; value = pos 1; old = pos 1 }

-- ## An access is refused late

-- the left strand writes in a block, ends that, and goes on; an access of the right strand had met the block
abbrev pub left_goes_on : List Step
left_goes_on = forks 0 1 ∷ begins 2 2 ∷ accesses 2 0 (Some (pos 1)) 3 ∷ commits 2 4 ∷ outputs 2 (pos 1) 5 ∷ []

-- now the access is refused for the block, and made again
abbrev pub told_late : List Step
told_late = refuses 3 0 None (record { last = 3; block = 2; chain = 3 ∷ [] }) ∷ accesses 3 0 None 7 ∷ both_finish

abbrev pub late_steps : List Step
late_steps = left_goes_on ++ told_late

abbrev pub late : OpenMachine
late = after_all opening late_steps

-- in depth-first order
abbrev pub late_tree : List Node
late_tree =
    plain 0 Strand 0 ∷ plain 0 Fork 1 ∷ plain 1 Strand 0 ∷ committed 2 2 4 ∷ plain 3 (Write 0 (pos 1)) 3 ∷ plain 2 (Out (pos 1)) 5
    ∷ plain 1 Strand 0 ∷ plain 6 (Tried 0) 0 ∷ plain 6 (Read 0 (pos 1)) 7 ∷ []

abbrev pub late_conflict : Conflict
late_conflict = record { cell = 0; last = 3; asker = 7; block = 2; victim = 0; attempt = 1; chain = 3 ∷ [] }

abbrev pub late_entries : List (List Entry)
late_entries = (wrote_one 3 ∷ read_one 7 ∷ []) ∷ []

-- the same, but the right strand made an output before, after the block had ended
abbrev pub late_with_output : List Step
late_with_output = left_goes_on ++ outputs 3 (pos 2) 6 ∷ told_late

abbrev pub too_late : OpenMachine
too_late = after_all opening late_with_output

pub record RefusedLate : Type 0 where
  pub leads : IsLeft late
  pub conflicts : late.conflicts ≡ late_conflict ∷ []
  pub complete : NoneUndone late
  pub entries : AreKept late late_entries
  pub tree : in_order late.tree ≡ late_tree
  pub conflicts_then : conflicts_in_order late.tree late.conflicts ≡ late_conflict ∷ []
  pub history : IsHistory late_tree one_cell late_entries (late_conflict ∷ [])
  -- with the output each step is allowed, but there was no moment at which the access met a pending block
  pub is_run : IsRun (as_told (λ t us w. newest us)) opening late_with_output
  pub untimely : AreTimely (λ n. 0) opening late_with_output → ⊥
  pub conflicts_too_late : too_late.conflicts ≡ record late_conflict { asker = 8 } ∷ []
  pub no_moment : IsRecorded too_late.tree (record late_conflict { asker = 8 }) → ⊥
  pub none : IsNever too_late

-- ## A stamp is drawn early

-- the right strand's block has a stamp that was drawn before the left strand's write, and reads what that wrote
abbrev pub early_steps : List Step
early_steps = forks 0 1 ∷ accesses 2 0 (Some (pos 1)) 3 ∷ begins 3 2 ∷ accesses 3 0 None 5 ∷ commits 3 6 ∷ both_finish

abbrev pub early : OpenMachine
early = after_all opening early_steps

abbrev pub early_tree : List Node
early_tree =
    plain 0 Strand 0 ∷ plain 0 Fork 1 ∷ plain 1 Strand 0 ∷ plain 2 (Write 0 (pos 1)) 3 ∷ plain 1 Strand 0 ∷ committed 4 2 6 ∷ plain 5 (Read 0 (pos 1)) 5 ∷ []

abbrev pub early_entries : List (List Entry)
early_entries = (wrote_one 3 ∷ read_one 5 ∷ []) ∷ []

-- the same, but the right strand made an output before its block
abbrev pub early_with_output : List Step
early_with_output = forks 0 1 ∷ accesses 2 0 (Some (pos 1)) 3 ∷ outputs 3 (pos 2) 4 ∷ begins 3 2 ∷ accesses 3 0 None 5 ∷ commits 3 6 ∷ both_finish

abbrev pub too_early : OpenMachine
too_early = after_all opening early_with_output

pub record DrawnEarly : Type 0 where
  pub leads : IsLeft early
  pub complete : NoneUndone early
  pub entries : AreKept early early_entries
  pub tree : in_order early.tree ≡ early_tree
  pub history : IsHistory early_tree one_cell early_entries []
  -- with the output the block cannot begin: its stamp is less than that of what is before it
  pub no_run : (asked : List Node → List ℕ → Option ℤ → List ℕ) → IsRun (at_any_time asked) opening early_with_output → ⊥
  pub stamps : AreStamps too_early.tree → ⊥
  pub none : IsNever too_early
