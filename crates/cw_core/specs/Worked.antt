-- Lists of events, and what the definitions compute for them.
use Rattle.std.specs.Prelude.{◌≡◌, List, [], ◌∷◌, Some, None, true, false, pos, map}
use Rattle.cw_code.specs.declared.Back.{Back}
use Rattle.cw_tree.specs.declared.closed.Halt.TheVariants.{Budget, Memory}
use Rattle.cw_open.specs.Machine.{live_value}
use Rattle.cw_core.specs.declared.event.Event.{Event}
use Rattle.cw_core.specs.declared.event.Event.TheVariants as event
use Rattle.cw_core.specs.declared.event.Reply.TheVariants as reply
use Rattle.cw_core.specs.State.{CoreState, start}
use Rattle.cw_core.specs.Events.{fits, all_fit, after_event, after_events, replies}

-- ## Splits: the fork outward comes first; a fork without columns is not split

abbrev pub out_of_order : List Event
out_of_order = event.Fork 0 ∷ event.Fork 2 ∷ event.Split 4 ∷ event.Split 1 ∷ event.Split 4 ∷ event.Fork 5 ∷ []

abbrev pub five_columns : CoreState
five_columns = start (pos 0 ∷ []) 5 100000

pub record Splits : Type 0 where
  pub fit : all_fit five_columns out_of_order ≡ true
  pub answers : replies five_columns out_of_order ≡ reply.Forked 2 3 1 ∷ reply.Forked 5 6 4 ∷ reply.Early 1 ∷ reply.Done ∷ reply.Done ∷ reply.Inline 8 9 ∷ []
  -- the inline fork is not split, and its right strand waits for the left one
  pub inline : fits (after_events five_columns out_of_order) (event.Split 7) ≡ false
  pub waits : fits (after_events five_columns out_of_order) (event.Begin 9) ≡ false
  pub goes_on : fits (after_events five_columns out_of_order) (event.Begin 8) ≡ true

-- ## A block is rolled back after an inner one was committed in it, and so is what the inner one wrote

abbrev pub inner_commit : List Event
inner_commit =
    event.Fork 0 ∷ event.Split 1 ∷ event.Begin 2 ∷ event.Access 2 2 (Some (pos 1)) ∷ event.Begin 3 ∷ event.Begin 3 ∷ event.Access 3 0 None ∷ event.Access 3 0 (Some (pos 8)) ∷ event.Commit 3 ∷ event.Access 3 1 None ∷ event.Access 3 1 (Some (pos 9))
    ∷ event.Access 3 2 (Some (pos 2)) ∷ event.Roll 3 ∷ []

abbrev pub three_cells : CoreState
three_cells = start (pos 7 ∷ pos 8 ∷ pos 0 ∷ []) 100 100000

abbrev pub rolled : CoreState
rolled = after_events three_cells inner_commit

pub record Rolls : Type 0 where
  pub fit : all_fit three_cells inner_commit ≡ true
  pub conflicts : rolled.machine.conflicts ≡ record { cell = 2; last = 3; asker = 12; block = 2; victim = 4; attempt = 1; chain = 3 ∷ [] } ∷ []
  pub values : map (live_value rolled.machine) (0 ∷ 1 ∷ 2 ∷ []) ≡ pos 7 ∷ pos 8 ∷ pos 1 ∷ []
  pub clock : rolled.machine.clock ≡ 11
  pub goes_on : fits rolled (event.Begin 3) ≡ true

-- ## A write in a split fork that is joined within a block, and one in a fork that is joined before a block

abbrev pub two_cells : CoreState
two_cells = start (pos 0 ∷ pos 0 ∷ []) 100 100000

abbrev pub joined_within : List Event
joined_within =
    event.Fork 0 ∷ event.Split 1 ∷ event.Begin 2 ∷ event.Fork 2 ∷ event.Split 5 ∷ event.Access 7 0 (Some (pos 1)) ∷ event.Access 6 1 (Some (pos 5)) ∷ event.Finish 7 false ∷ event.Finish 6 false ∷ event.Join 5 ∷ event.Access 3 0 (Some (pos 2))
    ∷ event.Access 2 1 (Some (pos 1)) ∷ event.Access 3 0 (Some (pos 2)) ∷ event.Commit 2 ∷ event.Access 3 0 (Some (pos 2)) ∷ []

abbrev pub joined_before : List Event
joined_before =
    event.Fork 0 ∷ event.Split 1 ∷ event.Fork 2 ∷ event.Split 4 ∷ event.Access 6 0 (Some (pos 1)) ∷ event.Access 5 1 (Some (pos 5)) ∷ event.Finish 6 false ∷ event.Finish 5 false ∷ event.Join 4 ∷ event.Begin 2 ∷ event.Access 3 0 (Some (pos 2)) ∷ []

pub record Joins : Type 0 where
  pub fit : all_fit two_cells joined_within ≡ true
  pub within : replies two_cells joined_within
      ≡ reply.Forked 2 3 1 ∷ reply.Done ∷ reply.Done ∷ reply.Forked 6 7 5 ∷ reply.Done ∷ reply.Value (pos 1) ∷ reply.Value (pos 5) ∷ reply.Done ∷ reply.Done ∷ reply.Done
      ∷ reply.Conflict (record { cell = 0; last = 4; asker = 10; block = 2; victim = 0; attempt = 1; chain = 4 ∷ [] })
      ∷ reply.Value (pos 1)
      ∷ reply.Conflict (record { cell = 0; last = 4; asker = 12; block = 2; victim = 0; attempt = 2; chain = 4 ∷ [] })
      ∷ reply.Done ∷ reply.Value (pos 2) ∷ []
  pub before_fit : all_fit two_cells joined_before ≡ true
  pub before : replies two_cells joined_before
      ≡ reply.Forked 2 3 1 ∷ reply.Done ∷ reply.Forked 5 6 4 ∷ reply.Done ∷ reply.Value (pos 1) ∷ reply.Value (pos 5) ∷ reply.Done ∷ reply.Done ∷ reply.Done ∷ reply.Done ∷ reply.Value (pos 2) ∷ []

-- ## Blocks that are given up: what a joined strand wrote is put back, too, and again while the block is pending

abbrev pub wrote_beneath : List Event
wrote_beneath =
    event.Begin 0 ∷ event.Fork 0 ∷ event.Split 2 ∷ event.Begin 4 ∷ event.Access 4 1
    (Some (pos 8)) ∷ event.Commit 4 ∷ event.Finish 4 false ∷ event.Access 3 0
    (Some (pos 7)) ∷ event.Finish 3 false ∷ event.Join 2 ∷ event.Cancel 0 ∷ event.Cancel 0
    ∷ event.Access 0 0 (Some (pos 1)) ∷ event.Cancel 0 ∷ []

abbrev pub one_and_two : CoreState
one_and_two = start (pos 1 ∷ pos 2 ∷ []) 5 9

-- What was rolled back is not put back, nor what was only read. The first access beneath a block may be a read.

abbrev pub rolled_beneath : List Event
rolled_beneath =
    event.Access 0 1 (Some (pos 6)) ∷ event.Fork 0 ∷ event.Split 2 ∷ event.Begin 3 ∷ event.Access 3 0
    (Some (pos 9)) ∷ event.Begin 4 ∷ event.Begin 4 ∷ event.Access 4 1 None ∷ event.Access 4 1
    (Some (pos 5)) ∷ event.Cancel 4 ∷ event.Access 4 1 (Some (pos 6)) ∷ event.Commit 4
    ∷ event.Access 4 0 (Some (pos 1)) ∷ event.Roll 4 ∷ event.Begin 4 ∷ event.Access 4 1 None ∷ event.Cancel 4 ∷ []

abbrev pub back_one : Back
back_one = record { cell = 0; value = pos 1 }

abbrev pub back_two : Back
back_two = record { cell = 1; value = pos 2 }

pub record Cancels : Type 0 where
  pub fit : all_fit one_and_two wrote_beneath ≡ true
  pub answers : replies one_and_two wrote_beneath
      ≡ reply.Done ∷ reply.Forked 3 4 2 ∷ reply.Done ∷ reply.Done ∷ reply.Value (pos 8) ∷ reply.Done ∷ reply.Done ∷ reply.Value
      (pos 7) ∷ reply.Done ∷ reply.Done
      ∷ reply.Back (back_one ∷ back_two ∷ []) ∷ reply.Back (back_one ∷ back_two ∷ []) ∷ reply.Value (pos 1) ∷ reply.Back (back_one ∷ back_two ∷ []) ∷ []
  pub clock : (after_events one_and_two wrote_beneath).machine.clock ≡ 10
  pub rolled_fit : all_fit one_and_two rolled_beneath ≡ true
  pub rolled : replies one_and_two rolled_beneath
      ≡ reply.Value (pos 6) ∷ reply.Forked 3 4 2 ∷ reply.Done ∷ reply.Done ∷ reply.Value (pos 9) ∷ reply.Done ∷ reply.Done ∷ reply.Value
      (pos 6) ∷ reply.Value (pos 5)
      ∷ reply.Back (record { cell = 1; value = pos 6 } ∷ []) ∷ reply.Value (pos 6) ∷ reply.Done
      ∷ reply.Conflict (record { cell = 0; last = 4; asker = 13; block = 3; victim = 5; attempt = 1; chain = 4 ∷ [] })
      ∷ reply.Done ∷ reply.Done ∷ reply.Value (pos 6) ∷ reply.Back [] ∷ []
  -- no cancel fits before a begin, in a strand within its parent's block, or in a strand that waits
  pub no_block : fits one_and_two (event.Cancel 0) ≡ false
  pub not_its : fits (after_events one_and_two (event.Begin 0 ∷ event.Fork 0 ∷ [])) (event.Cancel 3) ≡ false
  pub waits : fits (after_events one_and_two (event.Begin 0 ∷ event.Fork 0 ∷ [])) (event.Cancel 0) ≡ false

-- ## A budget is spent beneath a strand that waits. With another attempt left, the strands die and their parent rolls back

abbrev pub refused_beneath : List Event
refused_beneath = event.Fork 0 ∷ event.Split 1 ∷ event.Begin 2 ∷ event.Access 2 0 (Some (pos 1)) ∷ event.Begin 3 ∷ event.Fork 3 ∷ event.Access 8 0 (Some (pos 2)) ∷ []

abbrev pub one_attempt : CoreState
one_attempt = after_events (start (pos 0 ∷ []) 100 1) refused_beneath

abbrev pub two_attempts : CoreState
two_attempts = after_events (start (pos 0 ∷ []) 100 2) refused_beneath

abbrev pub all_die : List Event
all_die = event.Finish 8 true ∷ event.Finish 9 true ∷ event.Join 7 ∷ event.Roll 3 ∷ event.Begin 3 ∷ []

pub record Budgets : Type 0 where
  pub fit : all_fit (start (pos 0 ∷ []) 100 1) refused_beneath ≡ true
  pub conflicts : one_attempt.machine.conflicts ≡ record { cell = 0; last = 3; asker = 10; block = 2; victim = 4; attempt = 1; chain = 3 ∷ [] } ∷ []
  pub stops : fits one_attempt (event.Stop (Budget 3)) ≡ true
  pub not_its : fits one_attempt (event.Stop (Budget 8)) ≡ false
  pub not_dead : fits one_attempt (event.Finish 8 true) ≡ false
  pub not_other : fits one_attempt (event.Commit 2) ≡ false
  pub nothing_then : fits (after_event one_attempt (event.Stop (Budget 3))) (event.Stop Memory) ≡ false
  pub die : all_fit two_attempts all_die ≡ true
  pub no_budget : fits two_attempts (event.Stop (Budget 3)) ≡ false
  pub dying : fits (after_events two_attempts (event.Finish 8 true ∷ event.Finish 9 true ∷ event.Join 7 ∷ [])) (event.Commit 3) ≡ false
  pub clock : (after_events two_attempts all_die).machine.clock ≡ 7
