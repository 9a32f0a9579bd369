-- A small run in which one strand waits for two, and one of these is owed a merge while the other begins a block.
use Rattle.std.specs.Prelude.{◌≡◌, ◌&&◌, true, false, [], ◌∷◌}
use Rattle.cw_tree.specs.Nodes.{is_pending}
use Rattle.cw_tree.specs.Walks.{is_ancestor}
use Rattle.cw_tree.specs.Series.{strand_of}
use Rattle.cw_trace.specs.Columns.{used}
use Rattle.cw_trace.specs.Stands.{column}
use Rattle.cw_trace.specs.Hands.{gap_at}
use Rattle.cw_open.specs.Machine.{is_running}
use Rattle.cw_open.specs.Steps.{begins, finishes, forks, joins}
use Rattle.cw_open.specs.Around.{begins_at}
use Rattle.cw_open.specs.Open.{is_open}
use Rattle.cw_hands.specs.Shared.{SharedMoment, is_split, is_owed, goes_on, place_at, after_split, RunsTogether}
use Rattle.cw_hands.specs.WordsAround.{ShowsAround}
use Rattle.cw_hands.specs.Worked.{any_rules, alone, after_these}

-- main begins a block and forks, and the right strand is stolen
abbrev pub outer_stolen : SharedMoment
outer_stolen = after_split (after_these alone (begins 0 1 ∷ forks 0 2 ∷ [])) 2

-- the left strand forks, and that right strand is stolen too
abbrev pub inner_forked : SharedMoment
inner_forked = after_these outer_stolen (forks 3 3 ∷ [])

abbrev pub inner_stolen : SharedMoment
inner_stolen = after_split inner_forked 5

-- its strands finish and are joined, so the left strand is owed the merge
abbrev pub owed_merge : SharedMoment
owed_merge = after_these inner_stolen (finishes 6 false ∷ finishes 7 false ∷ joins 5 ∷ [])

-- the right strand of main begins a block
abbrev pub begun_beside : SharedMoment
begun_beside = after_these owed_merge (begins 4 4 ∷ [])

pub record OwedBeside : Type 0 where
  pub run : RunsTogether any_rules [] begun_beside
  -- the left strand runs, and does not go on
  pub owed : (is_split owed_merge 5 && is_owed owed_merge 5) ≡ true
  pub runs : is_running owed_merge.machine 3 ≡ true
  pub waits : goes_on owed_merge 3 ≡ false
  -- its column, its gap and the word of that, before and after the other begins a block
  pub place : place_at owed_merge 3 ≡ 3
  pub column_then : column owed_merge.machine.tree (used owed_merge.columns) 3 ≡ 1
  pub gap_then : gap_at owed_merge.columns owed_merge.machine.tree 3 ≡ 1
  pub words_then : owed_merge.words ≡ 1 ∷ 0 ∷ 0 ∷ 0 ∷ 0 ∷ []
  pub column_now : column begun_beside.machine.tree (used begun_beside.columns) 3 ≡ 1
  pub gap_now : gap_at begun_beside.columns begun_beside.machine.tree 3 ≡ 1
  pub words_now : begun_beside.words ≡ 1 ∷ 0 ∷ 4 ∷ 0 ∷ 0 ∷ []
  -- main waits in its block, which the word of its gap shows
  pub main_waits : is_running owed_merge.machine 0 ≡ false
  pub main_block : (is_pending owed_merge.machine.tree 1 && is_ancestor owed_merge.machine.tree 1 3) ≡ true
  pub main_gap : gap_at begun_beside.columns begun_beside.machine.tree 1 ≡ 0
  -- the inner fork took two columns, and its strands the gap of the left strand, whose word shows no block
  pub fork_columns : (column inner_forked.machine.tree (used inner_forked.columns) 6 ≡ 3) × (column inner_forked.machine.tree (used inner_forked.columns) 7 ≡ 4)
  -- the right strand got another gap when it was stolen
  pub gap_whole : gap_at inner_forked.columns inner_forked.machine.tree 7 ≡ 1
  pub gap_stolen : gap_at inner_stolen.columns inner_stolen.machine.tree 7 ≡ 4

-- ## A strand that waits while its right strand goes on

-- main forks in a block, and the left strand finishes
abbrev pub left_over : SharedMoment
left_over = after_these alone (begins 0 1 ∷ forks 0 2 ∷ finishes 3 false ∷ [])

-- the right strand, which is the only one that runs, begins a block
abbrev pub right_begun : SharedMoment
right_begun = after_these left_over (begins 4 3 ∷ [])

pub record OpenBeside : Type 0 where
  pub run : RunsTogether any_rules [] right_begun
  pub alone : (is_running left_over.machine 0 ≡ false) × (is_running left_over.machine 3 ≡ false) × (goes_on left_over 4 ≡ true)
  -- main waits in its block, which is left in its column, at its gap with the same word
  pub opened : (is_open left_over.machine 1 ≡ true) × (strand_of left_over.machine.tree 1 ≡ 0)
  pub column : (column left_over.machine.tree (used left_over.columns) 1 ≡ 0) × (column right_begun.machine.tree (used right_begun.columns) 1 ≡ 0)
  pub gap : (gap_at left_over.columns left_over.machine.tree 1 ≡ 0) × (gap_at right_begun.columns right_begun.machine.tree 1 ≡ 0)
  pub words_then : left_over.words ≡ 1 ∷ 0 ∷ 0 ∷ 0 ∷ 0 ∷ []
  pub words_now : right_begun.words ≡ 1 ∷ 3 ∷ 0 ∷ 0 ∷ 0 ∷ []
  -- the word of the right strand's gap shows its own block; the block of main is around it too
  pub shows : ShowsAround right_begun 4
  pub around : begins_at right_begun.machine.tree (place_at right_begun 4) ≡ 3 ∷ 1 ∷ []
