use Rattle.std.proofs.Common.{refl}
use Rattle.std.specs.Fmt.{digits}
use Rattle.cw_sheet.proofs.worked_sheets.Goals as goal

pub returns-clause-texts : goal.returns-clause-texts
unfolding digits
returns-clause-texts c = record { whole = refl; nodes = refl; conflicts = refl; cancel = refl; cancels = refl; no_cancels = refl; words = refl; finished = refl; fault = refl; budget = refl; moves = refl }

pub returns-clause-sources : goal.returns-clause-sources
unfolding digits
returns-clause-sources c = record { other_version = refl; empty = refl; past_end = refl; leading_zero = refl; minus_zero = refl; over = refl; comment = refl; language = refl; carriage_return = refl; no_newline = refl; naming = refl }

pub returns-clause-cancels : goal.returns-clause-cancels
unfolding digits
returns-clause-cancels c = record { one = refl; one_of_two = refl; one_of_none = refl; half = refl; spelling = refl; spelling_first = refl }

pub returns-clause-ends : goal.returns-clause-ends
unfolding digits
returns-clause-ends c = record { whole = refl; no_last_line = refl; no_last_newline = refl; behind_end = refl }

pub returns-clause-numbers : goal.returns-clause-numbers
unfolding digits
returns-clause-numbers c = record { word_minus_zero = refl; word_over = refl; blank_behind = refl; plus = refl; four_limits = refl; large_size = refl; large_conflicts = refl }

pub returns-clause-trees : goal.returns-clause-trees
unfolding digits
returns-clause-trees c = record { no_nodes = refl; one_more = refl; many_more = refl; too_many = refl; own_parent = refl; number_first = refl; beneath_leaf = refl; strand_five = refl; root_no_strand = refl; childless_fork = refl }

pub returns-clause-others : goal.returns-clause-others
unfolding digits
returns-clause-others c = record { forked = refl; placed = refl; begun = refl; no_state = refl; conflict = refl; fault = refl; budget = refl; moves = refl; no_fault = refl; words = refl; least = refl; below_least = refl }
