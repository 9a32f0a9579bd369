-- A small run in which the left strand of a fork writes in a block, and ends that. What the right strand hears of the write, by the
-- word of its trace's lead, before and after.
use Rattle.std.specs.Prelude.{◌≡◌, pos, true, false, [], ◌∷◌, slice_index, Some, None}
use Rattle.cw_tree.specs.declared.access.Mark.{Mark}
use Rattle.cw_tree.specs.Walks.{has}
use Rattle.cw_trace.specs.declared.verdict.Verdict.TheVariants.{Free, Against}
use Rattle.cw_trace.specs.Columns.{owner, lead, up, is_trace, opening_mark, forked}
use Rattle.cw_trace.specs.Hands.{gap_at}
use Rattle.cw_trace.specs.Query.{stands_in}
use Rattle.cw_trace.specs.Verdicts.{mark_of}
use Rattle.cw_open.specs.Steps.{begins, accesses, commits, forks}
use Rattle.cw_hands.specs.Shared.{SharedMoment, goes_on, after_shared, after_split, first_shared, RunsTogether}
use Rattle.cw_hands.specs.Worked.{any_rules, no_words, after_these}
use Rattle.cw_hands.specs.Heard.{by_own_word}

-- main forks, and the right strand is stolen
abbrev pub fork_made : SharedMoment
fork_made = after_shared (first_shared (pos 0 ∷ []) 5 no_words) (forks 0 1)

abbrev pub fork_split : SharedMoment
fork_split = after_split fork_made 1

-- the left strand writes in a block
abbrev pub left_written : SharedMoment
left_written = after_these fork_split (begins 2 2 ∷ accesses 2 0 (Some (pos 7)) 3 ∷ [])

-- and ends that
abbrev pub left_over : SharedMoment
left_over = after_these left_written (commits 2 4 ∷ [])

abbrev pub written_mark : Mark
written_mark = mark_of left_written.columns left_written.machine.tree 5

pub record HeardRows : Type 0 where
  pub run : RunsTogether any_rules (pos 0 ∷ []) left_over
  pub mark : written_mark ≡ record { strand = 1; stamp = 3 }
  -- the right strand goes on, in a trace of its own
  pub goes : goes_on left_written 3 ≡ true
  pub outside : stands_in left_written.columns 2 1 ≡ false
  -- the word of the lead tells of the block; once that has ended, the access is free
  pub leads : lead left_written.columns 1 ≡ Some 0
  pub heard : by_own_word left_written.columns written_mark 2 (slice_index left_written.words 0) ≡ Some (Against 2)
  pub heard_then : by_own_word left_over.columns written_mark 2 (slice_index left_over.words 0) ≡ Some Free
  -- the word of the left strand's gap shows no block until that strand begins one, and neither does that of the right one
  pub idle : (goes_on fork_made 2 ≡ true) × (slice_index fork_made.words (gap_at fork_made.columns fork_made.machine.tree 2) ≡ 0) × (slice_index fork_made.words (gap_at fork_made.columns fork_made.machine.tree 3) ≡ 0)
  pub busy : slice_index left_written.words (gap_at left_written.columns left_written.machine.tree 2) ≡ 2
  -- columns 1 and 2 name traces, and have their marks, since the split
  pub whole : (is_trace fork_made.columns 1 ≡ false) × (has fork_made.columns.brackets (opening_mark 1) ≡ false)
  pub parted : (is_trace fork_split.columns 1 ≡ true) × (has fork_split.columns.brackets (opening_mark 1) ≡ true)
  pub cut : fork_split.cuts ≡ 1 ∷ []
  -- if a strand forks, what is read of these columns is the same
  pub same_owner : owner (forked 2 1 left_written.columns) 1 ≡ 1
  pub same_lead : lead (forked 2 1 left_written.columns) 1 ≡ Some 0
  pub same_up : up (forked 2 1 left_written.columns) 1 ≡ None
