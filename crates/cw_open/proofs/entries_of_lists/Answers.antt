use Rattle.cw_open.proofs.Hands.EntriesAt.{entries_begin, entries_more, entries_stay}
use Rattle.cw_open.proofs.entries_of_lists.Goals as goal

pub returns : goal.returns
returns c = record { begin = entries_begin; more = entries_more; stay = entries_stay }
