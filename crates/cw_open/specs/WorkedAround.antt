-- A small run with two strands in blocks of their own. One of them writes, and ends its block. What is around the other stays, and so
-- does what that one learned of the write, and what it found beneath its own block.
use Rattle.std.specs.Prelude.{◌≡◌, ℤ, ◌&&◌, not, List, [], ◌∷◌, ◌++◌, map, Some, None, true, false, pos}
use Rattle.cw_code.specs.declared.Back.{Back}
use Rattle.cw_tree.specs.Nodes.{is_fork, is_pending}
use Rattle.cw_tree.specs.Walks.{has, nua}
use Rattle.cw_tree.specs.Series.{strand_of, place, children, parallel}
use Rattle.cw_tree.specs.declared.access.Entry.{Entry}
use Rattle.cw_tree.specs.Accesses.{is_live}
use Rattle.cw_tree.specs.Attempts.{block_attempt, access_attempt}
use Rattle.cw_tree.specs.AccessStacks.{access_at}
use Rattle.cw_tree.specs.Refusals.{refused_node}
use Rattle.cw_tree.specs.VictimsAt.{victim_at}
use Rattle.cw_tree.specs.Newest.{newest}
use Rattle.cw_open.specs.Machine.{OpenMachine, live, is_running, is_free}
use Rattle.cw_open.specs.Steps.{Step, forks, begins, accesses, refuses, commits, undoes, aborts, finishes, live_beside, puts_back, after_all, first_machine}
use Rattle.cw_open.specs.Runs.{IsRun, IsMet, at_any_time}
use Rattle.cw_open.specs.Open.{is_open}
use Rattle.cw_open.specs.Around.{blocks_at, begins_at}
use Rattle.cw_open.specs.Judged.{IsBarredBy, met_of}
use Rattle.cw_open.specs.Joins.{rest_steps, RightHasCome}
use Rattle.cw_open.specs.Left.{AreEntriesAt}
use Rattle.cw_open.specs.Looked.{IsBeneath, IsFound, IsListFound}
use Rattle.cw_open.specs.Tails.{aborted_last, tried_last}

-- two cells, which have the value 0
abbrev pub two_cells : List ℤ
two_cells = pos 0 ∷ pos 0 ∷ []

abbrev pub led_to : List Step → OpenMachine
led_to es = after_all (first_machine two_cells) es

-- a block forks, and each strand begins a block; the left one writes the first cell, the right one the second
abbrev pub both_wrote : List Step
both_wrote = begins 0 1 ∷ forks 0 2 ∷ begins 3 3 ∷ begins 4 4 ∷ accesses 3 0 (Some (pos 7)) 5 ∷ accesses 4 1 (Some (pos 8)) 6 ∷ []

-- the left one ends its block
abbrev pub left_closed : List Step
left_closed = both_wrote ++ commits 3 7 ∷ []

-- the right one reads what it wrote
abbrev pub right_took : List Step
right_took = left_closed ++ accesses 4 0 None 8 ∷ []

pub record TwoBlocks : Type 0 where
  pub run : IsRun (at_any_time (λ t us w. newest us)) (first_machine two_cells) right_took
  -- around the place of the right strand, before and after the other one ends its block
  pub stands : place (led_to both_wrote).tree 4 ≡ 6
  pub blocks : blocks_at (led_to both_wrote).tree 6 ≡ 6 ∷ 1 ∷ []
  pub begins : begins_at (led_to both_wrote).tree 6 ≡ 4 ∷ 1 ∷ []
  pub inside : children (led_to both_wrote).tree 6 ≡ 8 ∷ []
  pub victim : victim_at (led_to both_wrote).tree 7 6 ≡ Some 6
  pub still_blocks : blocks_at (led_to left_closed).tree 6 ≡ 6 ∷ 1 ∷ []
  pub still_begins : begins_at (led_to left_closed).tree 6 ≡ 4 ∷ 1 ∷ []
  pub still_inside : children (led_to left_closed).tree 6 ≡ 8 ∷ []
  pub still_victim : victim_at (led_to left_closed).tree 7 6 ≡ Some 6
  -- around that of the left one it is different
  pub left_blocks : blocks_at (led_to both_wrote).tree 5 ≡ 5 ∷ 1 ∷ []
  pub left_ended : blocks_at (led_to left_closed).tree 5 ≡ 1 ∷ []
  -- the block of the left strand bars its write from the right one
  pub barred : IsBarredBy (led_to both_wrote).tree 7 5 6
  pub apart : parallel (led_to both_wrote).tree 7 6 ≡ true
  pub met : IsMet (led_to both_wrote).tree 6 0 (met_of 5 3)
  -- When the block has ended, the nearest one is around the right strand too. That one's own step leaves this.
  pub nearest : nua (led_to both_wrote).tree 7 ≡ Some 5
  pub within : nua (led_to left_closed).tree 7 ≡ Some 1
  pub still_within : nua (led_to right_took).tree 7 ≡ Some 1
  pub named : access_at (led_to right_took).tree 5 ≡ 7
  -- the block of main has none above it
  pub free : nua (led_to both_wrote).tree 1 ≡ None
  pub still_free : nua (led_to right_took).tree 1 ≡ None
  -- the write of the right strand is the newest of its cell, before and after
  pub beneath : IsBeneath (led_to both_wrote) 4 1 6
  pub last : newest (live (led_to both_wrote) 1) ≡ 6 ∷ []
  pub list : live (led_to left_closed) 1 ≡ 6 ∷ []
  -- it finds that it wrote the second cell, and what that had before; and that it did not write the first one
  pub found : IsFound (led_to both_wrote) 6 1 true (pos 0)
  pub still_found : IsFound (led_to left_closed) 6 1 true (pos 0)
  pub not_found : IsFound (led_to both_wrote) 6 0 false (pos 0)

-- ## What is put back, and who is free

-- the right strand tries to read the first cell, which the block of the left one bars from it; its own block has to fall
abbrev pub right_refused : List Step
right_refused = both_wrote ++ refuses 4 0 None (met_of 5 3) ∷ []

abbrev pub second_zero : List Back
second_zero = record { cell = 1; value = pos 0 } ∷ []

pub record PutBackRows : Type 0 where
  -- what was found of the second cell is what the right strand puts back; without it the list would lack something
  pub is_found : IsListFound (led_to both_wrote) 6 second_zero
  pub put_back : puts_back (led_to both_wrote) 4 7 ≡ second_zero
  pub lacks : IsListFound (led_to both_wrote) 6 [] → ⊥
  pub before : live_beside (led_to both_wrote) 6 1 ≡ []
  -- main waits for the fork alone, and the strands of that are live
  pub waits : (is_fork (led_to both_wrote).tree 2 && not (has (led_to both_wrote).joined 2)) ≡ true
  pub lives : is_live (led_to both_wrote).tree 4 ≡ true
  -- the right strand is free, until its block is the victim of its own access
  pub goes_free : is_free (led_to both_wrote) 4 ≡ true
  pub told : has (begins_at (led_to right_refused).tree 6) 4 ≡ true
  pub victim_told : map (λ c. c.victim) (led_to right_refused).conflicts ≡ 4 ∷ []
  pub dies : is_free (led_to right_refused) 4 ≡ false
  -- when main has ended its block, none is pending
  pub ended : is_pending (led_to (begins 0 1 ∷ commits 0 2 ∷ [])).tree 1 ≡ false

-- ## A fork whose left strand has finished

-- the left strand finishes, and the right one ends its block
abbrev pub right_alone : List Step
right_alone = left_closed ++ finishes 3 false ∷ commits 4 8 ∷ []

pub record RightJoins : Type 0 where
  pub come : RightHasCome (led_to right_alone) 2 3 4
  pub main_waits : is_running (led_to right_alone) 0 ≡ false
  -- the right one finishes, the fork is joined, and main runs again in its block
  pub may : IsRun (at_any_time (λ t us w. newest us)) (led_to right_alone) (rest_steps 2 4 false)
  pub main_runs : is_free (led_to (right_alone ++ rest_steps 2 4 false)) 0 ≡ true
  pub main_place : place (led_to (right_alone ++ rest_steps 2 4 false)).tree 0 ≡ 1

-- ## A strand that waits

-- the left strand has finished, so the right one is the only one that runs
abbrev pub left_finished : List Step
left_finished = left_closed ++ finishes 3 false ∷ []

pub record WaitingRows : Type 0 where
  -- main waits in its block, which stays as it was when the right strand ends its own
  pub waits : is_running (led_to left_finished) 0 ≡ false
  pub opened : (is_open (led_to left_finished) 1 ≡ true) × (strand_of (led_to left_finished).tree 1 ≡ 0)
  pub blocks : (blocks_at (led_to left_finished).tree 1 ≡ 1 ∷ []) × (children (led_to left_finished).tree 1 ≡ 2 ∷ [])
  pub still_opened : is_open (led_to right_alone) 1 ≡ true
  pub still_blocks : (blocks_at (led_to right_alone).tree 1 ≡ 1 ∷ []) × (children (led_to right_alone).tree 1 ≡ 2 ∷ [])
  -- the place of the right strand does not
  pub right_blocks : blocks_at (led_to left_finished).tree 6 ≡ 6 ∷ 1 ∷ []
  pub right_ended : blocks_at (led_to right_alone).tree 6 ≡ 1 ∷ []

-- ## What was refused

pub record StillRows : Type 0 where
  -- the block that was refused is the right strand's, and is pending until that strand rolls it back
  pub refused : map (refused_node (led_to right_refused).tree) (led_to right_refused).conflicts ≡ 6 ∷ []
  pub before : is_pending (led_to right_refused).tree 6 ≡ true
  pub beside : is_pending (led_to (right_refused ++ commits 3 7 ∷ [])).tree 6 ≡ true
  pub own : is_pending (led_to (right_refused ++ undoes 4 1 ∷ aborts 4 7 ∷ [])).tree 6 ≡ false

-- ## Entries

-- the entry of the right strand's write
abbrev pub second_entry : Entry
second_entry = record { mark = record { strand = 0; stamp = 6 }; wrote = true; value = pos 8; old = pos 0 }

pub record EntriesRows : Type 0 where
  pub entries : AreEntriesAt (led_to both_wrote).tree (pos 0) (live (led_to both_wrote) 1) (second_entry ∷ [])
  pub still_entries : AreEntriesAt (led_to left_closed).tree (pos 0) (live (led_to both_wrote) 1) (second_entry ∷ [])
  pub none_before : AreEntriesAt (led_to both_wrote).tree (pos 0) (live_beside (led_to both_wrote) 6 1) []

-- ## How a place ends

-- the right strand rolls its block back, begins it again, and is refused in it
abbrev pub tried_again : List Step
tried_again = right_refused ++ undoes 4 1 ∷ aborts 4 7 ∷ begins 4 8 ∷ refuses 4 0 None (met_of 5 3) ∷ []

-- a strand that is in no block is refused twice
abbrev pub refused_twice : List Step
refused_twice = forks 0 1 ∷ begins 2 2 ∷ accesses 2 0 (Some (pos 7)) 3 ∷ refuses 3 0 None (met_of 3 2) ∷ refuses 3 0 None (met_of 3 2) ∷ []

pub record TailsRows : Type 0 where
  pub first_try : (block_attempt (led_to right_refused).tree 6 ≡ 1) × (tried_last (led_to right_refused).tree 6 0 ≡ 1)
  pub rolled_back : aborted_last (led_to (right_refused ++ undoes 4 1 ∷ aborts 4 7 ∷ [])).tree 4 ≡ 1
  pub second_try : (block_attempt (led_to tried_again).tree 10 ≡ 2) × (aborted_last (led_to tried_again).tree 4 ≡ 0) × (tried_last (led_to tried_again).tree 10 0 ≡ 1)
  pub again : (access_attempt (led_to refused_twice).tree 6 ≡ 1) × (access_attempt (led_to refused_twice).tree 7 ≡ 2)
  -- the other places, and the first attempts
  pub others : (children (led_to tried_again).tree 6 ≡ 8 ∷ 9 ∷ []) × (children (led_to tried_again).tree 5 ≡ 7 ∷ [])
  pub older : (block_attempt (led_to tried_again).tree 6 ≡ 1) × (access_attempt (led_to tried_again).tree 9 ≡ 1)
