-- Small runs, and what the definitions say of the states that they lead to.
use Rattle.std.specs.Prelude.{◌≡◌, ◌&&◌, List, [], ◌∷◌, ◌++◌, length, drop, Some, None, true, false, pos}
use Rattle.std.specs.List.{list_any}
use Rattle.cw_tree.specs.declared.node.Kind.TheVariants.{Strand, Fork, Read, Write, Tried, Cancel}
use Rattle.cw_tree.specs.Nodes.{is_pending, all_nodes}
use Rattle.cw_tree.specs.Series.{place}
use Rattle.cw_tree.specs.Newest.{newest}
use Rattle.cw_tree.specs.Worked.{plain, committed, aborted}
use Rattle.cw_tree.specs.WorkedRun.{had}
use Rattle.cw_open.specs.Machine.{OpenMachine, live, live_value, waits, is_running, in_block, is_dying, is_free, rolls_back}
use Rattle.cw_open.specs.Steps.{Met, Step, forks, begins, accesses, refuses, outputs, cancels, commits, undoes, aborts, finishes, joins, stops, puts_back, after_all, first_machine}
use Rattle.cw_open.specs.Runs.{IsMet, meets, left_died, is_undone}
use Rattle.cw_open.specs.LeftFirst.{go_left_first, IsLeftOf, IsOlder}

-- ## A block forks; a block of the left strand writes, and the right strand is refused

abbrev pub refused_inside : OpenMachine
refused_inside = after_all (first_machine (pos 0 ∷ [])) (begins 0 1 ∷ forks 0 2 ∷ begins 3 3 ∷ accesses 3 0 (Some (pos 1)) 4 ∷ refuses 4 0 None (record { last = 4; block = 3; chain = 4 ∷ [] }) ∷ [])

-- the inner block is committed, and the right strand goes on
abbrev pub went_on_inside : OpenMachine
went_on_inside = after_all refused_inside (commits 3 5 ∷ finishes 3 false ∷ accesses 4 0 (Some (pos 2)) 6 ∷ finishes 4 false ∷ joins 2 ∷ commits 0 7 ∷ finishes 0 false ∷ [])

pub record Inside : Type 0 where
  pub conflicts : refused_inside.conflicts ≡ record { cell = 0; last = 4; asker = 7; block = 3; victim = 0; attempt = 1; chain = 4 ∷ [] } ∷ []
  pub listed : live refused_inside 0 ≡ 4 ∷ []
  pub clock : refused_inside.clock ≡ 4
  pub waits : waits refused_inside 0 ≡ true
  pub goes_on : is_free refused_inside 4 ≡ true
  pub value : live_value went_on_inside 0 ≡ pos 2
  pub listed_then : live went_on_inside 0 ≡ 4 ∷ 6 ∷ []

-- ## A block of the left strand writes, and the right strand is refused in the inner of two blocks

abbrev pub refused_outer : OpenMachine
refused_outer = after_all (first_machine (pos 0 ∷ [])) (forks 0 1 ∷ begins 2 2 ∷ accesses 2 0 (Some (pos 1)) 3 ∷ begins 3 4 ∷ begins 3 5 ∷ refuses 3 0 (Some (pos 2)) (record { last = 3; block = 2; chain = 3 ∷ [] }) ∷ [])

-- the first block is committed; the other two are rolled back, and done again
abbrev pub rolled_back : OpenMachine
rolled_back = after_all refused_outer (commits 2 6 ∷ finishes 2 false ∷ undoes 3 0 ∷ aborts 3 7 ∷ aborts 3 8 ∷ [])

abbrev pub done_again : OpenMachine
done_again = after_all rolled_back (begins 3 9 ∷ begins 3 10 ∷ accesses 3 0 (Some (pos 2)) 11 ∷ commits 3 12 ∷ commits 3 13 ∷ finishes 3 false ∷ joins 1 ∷ [])

pub record Outer : Type 0 where
  pub conflicts : refused_outer.conflicts ≡ record { cell = 0; last = 3; asker = 8; block = 2; victim = 4; attempt = 1; chain = 3 ∷ [] } ∷ []
  pub dying : is_dying refused_outer 3 ≡ true
  pub falls : rolls_back refused_outer 3 ≡ true
  pub stands : place refused_outer.tree 3 ≡ 7
  pub left_lives : is_free refused_outer 2 ≡ true
  pub alive : is_dying rolled_back 3 ≡ false
  pub back : place rolled_back.tree 3 ≡ 3
  pub clock : rolled_back.clock ≡ 8
  pub listed : live done_again 0 ≡ 3 ∷ 11 ∷ []
  pub value : live_value done_again 0 ≡ pos 2

-- ## An abort after the commit of an inner block: what that wrote goes too

abbrev pub inner_committed : OpenMachine
inner_committed =
    after_all (first_machine (pos 7 ∷ pos 8 ∷ pos 0 ∷ []))
    (forks 0 1 ∷ begins 2 2 ∷ accesses 2 2 (Some (pos 1)) 3 ∷ begins 3 4 ∷ begins 3 5 ∷ accesses 3 0 None 6 ∷ accesses 3 0 (Some (pos 8)) 7 ∷ commits 3 8 ∷ accesses 3 1 None 9 ∷ accesses 3 1 (Some (pos 9)) 10
    ∷ refuses 3 2 (Some (pos 2)) (record { last = 3; block = 2; chain = 3 ∷ [] }) ∷ [])

abbrev pub all_undone : OpenMachine
all_undone = after_all inner_committed (undoes 3 1 ∷ undoes 3 0 ∷ aborts 3 11 ∷ [])

pub record InnerCommitted : Type 0 where
  pub conflicts : inner_committed.conflicts ≡ record { cell = 2; last = 3; asker = 12; block = 2; victim = 4; attempt = 1; chain = 3 ∷ [] } ∷ []
  pub first_before : live_value inner_committed 0 ≡ pos 8
  pub second_before : live_value inner_committed 1 ≡ pos 9
  pub not_yet : is_undone inner_committed 6 ≡ false
  pub first : live_value all_undone 0 ≡ pos 7
  pub second : live_value all_undone 1 ≡ pos 8
  pub third : live_value all_undone 2 ≡ pos 1
  pub goes_on : is_free all_undone 3 ≡ true

-- ## A strand is refused beneath a block that has to fall

abbrev pub refused_beneath : OpenMachine
refused_beneath =
    after_all (first_machine (pos 0 ∷ []))
    (forks 0 1 ∷ begins 2 2 ∷ accesses 2 0 (Some (pos 1)) 3 ∷ begins 3 4 ∷ forks 3 5 ∷ refuses 8 0 (Some (pos 2)) (record { last = 3; block = 2; chain = 3 ∷ [] }) ∷ [])

-- the left strand finishes dead, the right one finishes dead without a step, and the strand that forked rolls back
abbrev pub left_dead : OpenMachine
left_dead = after_all refused_beneath (finishes 8 true ∷ [])

abbrev pub both_dead : OpenMachine
both_dead = after_all left_dead (finishes 9 true ∷ joins 7 ∷ [])

abbrev pub parent_back : OpenMachine
parent_back = after_all both_dead (aborts 3 6 ∷ [])

pub record Beneath : Type 0 where
  pub conflicts : refused_beneath.conflicts ≡ record { cell = 0; last = 3; asker = 10; block = 2; victim = 4; attempt = 1; chain = 3 ∷ [] } ∷ []
  pub dying : is_dying refused_beneath 8 ≡ true
  pub other_lives : is_dying refused_beneath 9 ≡ false
  pub may_not_die : left_died refused_beneath 9 ≡ false
  pub may_die : left_died left_dead 9 ≡ true
  pub waits : is_running left_dead 3 ≡ false
  pub parent_dies : is_dying both_dead 3 ≡ true
  pub rolls : rolls_back both_dead 3 ≡ true
  pub alive : is_free parent_back 3 ≡ true
  pub clock : parent_back.clock ≡ 6

-- ## Attempts: a strand is refused twice at one access and a block twice; outputs; a strand that waits stops

abbrev pub refused_twice : OpenMachine
refused_twice =
    after_all (first_machine (pos 0 ∷ pos 0 ∷ []))
    (forks 0 1 ∷ begins 2 2 ∷ accesses 2 0 (Some (pos 1)) 3 ∷ refuses 3 0 None (record { last = 3; block = 2; chain = 3 ∷ [] }) ∷ accesses 2 0 None 4 ∷ refuses 3 0 None (record { last = 4; block = 2; chain = 3 ∷ 4 ∷ [] }) ∷ begins 3 5
    ∷ refuses 3 0 None (record { last = 4; block = 2; chain = 3 ∷ 4 ∷ [] }) ∷ aborts 3 6 ∷ begins 3 7 ∷ outputs 3 (pos 5) 8 ∷ refuses 3 0 None (record { last = 4; block = 2; chain = 3 ∷ 4 ∷ [] }) ∷ stops 0 ∷ [])

pub record Twice : Type 0 where
  pub conflicts : refused_twice.conflicts
      ≡ record { cell = 0; last = 3; asker = 6; block = 2; victim = 0; attempt = 1; chain = 3 ∷ [] }
      ∷ record { cell = 0; last = 4; asker = 8; block = 2; victim = 0; attempt = 2; chain = 3 ∷ 4 ∷ [] }
      ∷ record { cell = 0; last = 4; asker = 10; block = 2; victim = 5; attempt = 1; chain = 3 ∷ 4 ∷ [] }
      ∷ record { cell = 0; last = 4; asker = 13; block = 2; victim = 7; attempt = 2; chain = 3 ∷ 4 ∷ [] }
      ∷ []
  pub listed : live refused_twice 0 ≡ 3 ∷ 4 ∷ []
  pub stopped : refused_twice.stopped ≡ 0 ∷ []

-- ## A block is given up

-- Cell 1 is written before the block, read in it and written again. A strand in the block writes cell 0 in a block of
-- its own. Another strand writes cell 2 in a block that is rolled back. When it does that block again, it writes cell
-- 0, which was refused at first, and reads cell 3.
abbrev pub to_give_up : OpenMachine
to_give_up =
    after_all (first_machine (pos 1 ∷ pos 2 ∷ pos 3 ∷ pos 4 ∷ []))
    (accesses 0 1 (Some (pos 5)) 1 ∷ begins 0 2 ∷ accesses 0 1 None 3 ∷ forks 0 4 ∷ begins 5 5 ∷ accesses 5 0 (Some (pos 6)) 6 ∷ begins 6 7
    ∷ accesses 6 2 (Some (pos 7)) 8 ∷ refuses 6 0 (Some (pos 8)) (record { last = 6; block = 5; chain = 6 ∷ [] }) ∷ commits 5 9 ∷ finishes 5 false
    ∷ undoes 6 2 ∷ aborts 6 10 ∷ begins 6 11 ∷ accesses 6 0 (Some (pos 8)) 12 ∷ accesses 6 3 None 13 ∷ commits 6 14 ∷ finishes 6 false ∷ joins 4
    ∷ accesses 0 1 (Some (pos 9)) 15 ∷ [])

abbrev pub given_up_now : OpenMachine
given_up_now = after_all to_give_up (cancels 0 16 ∷ [])

-- its strand puts back what the list has, and goes on after it
abbrev pub put_back_all : OpenMachine
put_back_all = after_all given_up_now (accesses 0 0 (Some (pos 1)) 17 ∷ accesses 0 1 (Some (pos 5)) 18 ∷ commits 0 19 ∷ finishes 0 false ∷ [])

pub record GivenUp : Type 0 where
  pub stands : place to_give_up.tree 0 ≡ 2
  pub free : is_free to_give_up 0 && in_block to_give_up 0 ≡ true
  pub list : puts_back to_give_up 0 16 ≡ had 0 (pos 1) ∷ had 1 (pos 5) ∷ []
  pub leaf : drop 16 given_up_now.tree ≡ plain 2 (Cancel (had 0 (pos 1) ∷ had 1 (pos 5) ∷ [])) 16 ∷ []
  -- the cells are as they were, and the block is still pending
  pub lists : given_up_now.lists ≡ to_give_up.lists
  pub pending : is_pending given_up_now.tree 2 ≡ true
  pub clock : given_up_now.clock ≡ 16
  -- no write that puts back is refused
  pub first_put : meets given_up_now.tree (newest (live given_up_now 0)) 2 ≡ false
  pub second_put : meets given_up_now.tree (newest (live given_up_now 1)) 2 ≡ false
  -- the cells have their values from before the block
  pub first : live_value put_back_all 0 ≡ pos 1
  pub second : live_value put_back_all 1 ≡ pos 5
  pub third : live_value put_back_all 2 ≡ pos 3
  pub tree : put_back_all.tree
      ≡ plain 0 Strand 0 ∷ plain 0 (Write 1 (pos 5)) 1 ∷ committed 0 2 19 ∷ plain 2 (Read 1 (pos 5)) 3 ∷ plain 2 Fork 4 ∷ plain 4 Strand 0
      ∷ plain 4 Strand 0 ∷ committed 5 5 9 ∷ plain 7 (Write 0 (pos 6)) 6 ∷ aborted 6 7 10 ∷ plain 9 (Write 2 (pos 7)) 8 ∷ plain 9 (Tried 0) 0
      ∷ committed 6 11 14 ∷ plain 12 (Write 0 (pos 8)) 12 ∷ plain 12 (Read 3 (pos 4)) 13 ∷ plain 2 (Write 1 (pos 9)) 15
      ∷ plain 2 (Cancel (had 0 (pos 1) ∷ had 1 (pos 5) ∷ [])) 16 ∷ plain 2 (Write 0 (pos 1)) 17 ∷ plain 2 (Write 1 (pos 5)) 18 ∷ []

-- ## A block of the left strand writes, and the right strand reads

abbrev pub left_wrote : List Step
left_wrote = forks 0 1 ∷ begins 2 2 ∷ accesses 2 0 (Some (pos 1)) 3 ∷ []

abbrev pub left_ended : List Step
left_ended = commits 2 4 ∷ finishes 2 false ∷ []

-- what the left strand wrote, in a block with stamp 2
abbrev pub written_left : Met
written_left = record { last = 3; block = 2; chain = 3 ∷ [] }

-- the right strand reads after the left one has finished, or tries it before
abbrev pub read_after : List Step
read_after = left_wrote ++ left_ended ++ accesses 3 0 None 5 ∷ finishes 3 false ∷ joins 1 ∷ finishes 0 false ∷ []

abbrev pub read_before : List Step
read_before = left_wrote ++ refuses 3 0 None written_left ∷ left_ended ++ accesses 3 0 None 5 ∷ []

-- the read is refused after the left strand has finished
abbrev pub told_after : List Step
told_after = left_wrote ++ left_ended ++ refuses 3 0 None written_left ∷ []

-- the left strand has finished, but the right one begins a block with a stamp from before the write
abbrev pub begun_early : List Step
begun_early = forks 0 1 ∷ accesses 2 0 (Some (pos 1)) 3 ∷ finishes 2 false ∷ begins 3 2 ∷ []

abbrev pub one_cell : OpenMachine
one_cell = first_machine (pos 0 ∷ [])

pub record LeftStrands : Type 0 where
  pub after : go_left_first one_cell read_after ≡ true
  pub unrefused : (after_all one_cell read_after).conflicts ≡ []
  pub before : go_left_first one_cell read_before ≡ false
  pub refused : length (after_all one_cell read_before).conflicts ≡ 1
  -- what it met can still be told then, but nothing is pending any more
  pub late : go_left_first one_cell told_after ≡ true
  pub met : IsMet (after_all one_cell (left_wrote ++ left_ended)).tree 3 0 written_left
  pub ended : list_any (is_pending (after_all one_cell (left_wrote ++ left_ended)).tree) (all_nodes (after_all one_cell (left_wrote ++ left_ended)).tree) ≡ false
  pub refused_late : length (after_all one_cell told_after).conflicts ≡ 1
  -- the block of the left strand is to the left of the read, and is older
  pub beside : IsLeftOf (after_all one_cell read_after).tree 4 6
  pub older : IsOlder (after_all one_cell read_after).tree 4 6
  -- this fails if a stamp was drawn before it was used, though left strands went first
  pub early : go_left_first one_cell begun_early ≡ true
  pub beside_early : IsLeftOf (after_all one_cell begun_early).tree 4 5
  pub not_older : IsOlder (after_all one_cell begun_early).tree 4 5 → ⊥
