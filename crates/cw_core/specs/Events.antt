-- Which events fit, the steps of the open machine that each stands for, what it makes of the tier and the gap words, and the reply.
use Rattle.std.specs.Prelude.{ℕ, ◌+◌, ◌==◌, ◌&&◌, ◌||◌, Bool, true, false, not, nat_lt, nat_le, List, [], ◌∷◌, ◌++◌, map, length, filter, find, slice_index, Option, Some, is_none, unwrap_or, if◌then◌else◌}
use Rattle.std.specs.List.{list_any, list_all}
use Rattle.std.specs.Option.{option_map_or}
use Rattle.cw_tree.specs.declared.closed.Halt.{Halt}
use Rattle.cw_tree.specs.declared.closed.Halt.TheVariants as halt
use Rattle.cw_tree.specs.Nodes.{stamp_of, is_fork, is_strand, all_nodes, below}
use Rattle.cw_tree.specs.Walks.{has, is_above}
use Rattle.cw_tree.specs.Series.{children, place}
use Rattle.cw_tree.specs.AccessStacks.{access_at}
use Rattle.cw_tree.specs.Refusals.{is_victim}
use Rattle.cw_tree.specs.Newest.{newest, last_eight}
use Rattle.cw_trace.specs.declared.verdict.Verdict.{Verdict}
use Rattle.cw_trace.specs.declared.verdict.Verdict.TheVariants.{Against}
use Rattle.cw_trace.specs.Columns.{ColumnTable, used, forked, split_at, merged, before_split, begun_word, closed_word}
use Rattle.cw_trace.specs.Stands.{fork_column}
use Rattle.cw_trace.specs.Query.{verdict}
use Rattle.cw_open.specs.Machine.{live, live_value, has_finished, is_running, in_block, is_dying, is_free, rolls_back}
use Rattle.cw_open.specs.Steps.{Met, Step, forks, begins, accesses, refuses, outputs, cancels, commits, undoes, aborts, finishes, joins, stops, refusal, puts_back, after_all}
use Rattle.cw_open.specs.Runs.{meets, left_died}
use Rattle.cw_core.specs.declared.event.Event.{Event}
use Rattle.cw_core.specs.declared.event.Event.TheVariants as event
use Rattle.cw_core.specs.declared.event.Reply.{Reply}
use Rattle.cw_core.specs.declared.event.Reply.TheVariants as reply
use Rattle.cw_core.specs.State.{CoreState, column_of, gap_of, has_columns, is_split, waits_for_left, spent}

-- ## Which events fit

-- a strand may stop at a fault of its own, one that has spent its budget may stop for that, and a stop for memory is always allowed
abbrev pub may_stop : CoreState → Halt → Bool
may_stop k (halt.Fault s kind) = is_strand k.machine.tree s
may_stop k (halt.Budget s) = option_map_or (λ x. x == s) (spent k) false
may_stop k halt.Memory = true

-- the right strand of fork f has made no step
abbrev pub is_unstarted : CoreState → ℕ → Bool
is_unstarted k f = list_all (λ r. not (list_any (λ l. nat_lt l r) (children k.machine.tree f)) || ((length (children k.machine.tree r) == 0) && not (has_finished k.machine r))) (children k.machine.tree f)

-- what an event needs, given that nothing has stopped and no budget is spent
abbrev pub fits_now : CoreState → Event → Bool
fits_now k (event.Fork s) = is_free k.machine s && not (waits_for_left k s)
fits_now k (event.Begin s) = is_free k.machine s && not (waits_for_left k s)
fits_now k (event.Access s c w) = is_free k.machine s && not (waits_for_left k s) && nat_lt c (length k.machine.lists)
fits_now k (event.Out s v) = is_free k.machine s && not (waits_for_left k s)
fits_now k (event.Cancel s) = is_free k.machine s && not (waits_for_left k s) && in_block k.machine s
fits_now k (event.Commit s) = is_free k.machine s && not (waits_for_left k s) && in_block k.machine s && not (is_victim k.machine.tree k.machine.conflicts (place k.machine.tree s))
fits_now k (event.Roll s) = rolls_back k.machine s && not (waits_for_left k s)
fits_now k (event.Finish s dead) = is_running k.machine s && not (waits_for_left k s) && not (in_block k.machine s) && (if is_dying k.machine s then dead else (not dead || left_died k.machine s))
fits_now k (event.Split f) = is_fork k.machine.tree f && has_columns k f && not (is_split k f) && not (has k.machine.joined f) && is_unstarted k f
fits_now k (event.Join f) = is_fork k.machine.tree f && not (has k.machine.joined f) && list_all (has_finished k.machine) (children k.machine.tree f)
fits_now k (event.Stop h) = may_stop k h

abbrev pub is_stop : Event → Bool
is_stop (event.Stop h) = true
is_stop _ = false

-- a commit, a roll and a stop do not allocate
abbrev pub takes_none : Event → Bool
takes_none (event.Commit s) = true
takes_none (event.Roll s) = true
takes_none (event.Stop h) = true
takes_none _ = false

-- nothing fits after a stop, and only a stop fits once a budget is spent
abbrev pub fits : CoreState → Event → Bool
fits k e = is_none k.halt && (is_none (spent k) || is_stop e) && fits_now k e

-- ## The steps

-- the next stamp
abbrev pub next : CoreState → ℕ
next k = k.machine.clock + 1

abbrev pub against : Verdict → ℕ
against (Against b) = b
against _ = 0

-- what a refused access of cell c by strand s meets: the newest access of the cell, and the block that the columns name
abbrev pub met_by : CoreState → ℕ → ℕ → Met
met_by k s c =
    let last = unwrap_or (find (λ u. true) (newest (live k.machine c))) 0 in
    record {
      last = last;
      block = against (verdict k.tier k.words (record { strand = column_of k (access_at k.machine.tree last); stamp = last }) (column_of k s));
      chain = last_eight (live k.machine c);
    }

-- an access of cell c by strand s conflicts with the newest one
abbrev pub is_met : CoreState → ℕ → ℕ → Bool
is_met k s c = meets k.machine.tree (newest (live k.machine c)) (place k.machine.tree s)

-- the cells with a live access beneath the place of strand s
abbrev pub touched : CoreState → ℕ → List ℕ
touched k s = filter (λ c. list_any (λ u. is_above k.machine.tree (place k.machine.tree s) (access_at k.machine.tree u)) (live k.machine c)) (below (length k.machine.lists))

abbrev pub stop_steps : Halt → List Step
stop_steps (halt.Fault s kind) = stops s ∷ []
stop_steps (halt.Budget s) = stops s ∷ []
stop_steps halt.Memory = []

-- the steps that an event stands for; a step that draws a stamp draws the next one, and a refused access draws none
abbrev pub steps_of : CoreState → Event → List Step
steps_of k (event.Fork s) = forks s (next k) ∷ []
steps_of k (event.Begin s) = begins s (next k) ∷ []
steps_of k (event.Access s c w) = (if is_met k s c then refuses s c w (met_by k s c) else accesses s c w (next k)) ∷ []
steps_of k (event.Out s v) = outputs s v (next k) ∷ []
steps_of k (event.Cancel s) = cancels s (next k) ∷ []
steps_of k (event.Commit s) = commits s (next k) ∷ []
steps_of k (event.Roll s) = map (undoes s) (touched k s) ++ aborts s (next k) ∷ []
steps_of k (event.Finish s dead) = finishes s dead ∷ []
steps_of k (event.Split f) = []
steps_of k (event.Join f) = joins f ∷ []
steps_of k (event.Stop h) = stop_steps h

-- ## The tier

-- the left column of the fork that has to be split before fork f, if there is one
abbrev pub is_early : CoreState → ℕ → Option ℕ
is_early k f = before_split k.tier (fork_column k.machine.tree f)

abbrev pub may_fork : CoreState → Bool
may_fork k = nat_le (used k.tier + 2) k.tier.room

abbrev pub tier_after : CoreState → Event → ColumnTable
tier_after k (event.Fork s) = if may_fork k then forked (slice_index k.words (gap_of k s)) (column_of k s) k.tier else k.tier
tier_after k (event.Split f) = if is_none (is_early k f) then split_at (fork_column k.machine.tree f) k.tier else k.tier
tier_after k (event.Join f) = if is_split k f then merged (fork_column k.machine.tree f) k.tier else k.tier
tier_after k _ = k.tier

abbrev pub words_after : CoreState → Event → List ℕ
words_after k (event.Begin s) = begun_word k.words (gap_of k s) (next k)
words_after k (event.Commit s) = closed_word k.words (gap_of k s) (stamp_of k.machine.tree (place k.machine.tree s))
words_after k (event.Roll s) = closed_word k.words (gap_of k s) (stamp_of k.machine.tree (place k.machine.tree s))
words_after k _ = k.words

abbrev pub splits_after : CoreState → Event → List ℕ
splits_after k (event.Split f) = if is_none (is_early k f) then fork_column k.machine.tree f ∷ k.splits else k.splits
splits_after k _ = k.splits

abbrev pub halt_after : CoreState → Event → Option Halt
halt_after k (event.Stop h) = Some h
halt_after k _ = k.halt

-- ## After an event, and the reply

abbrev pub after_event : CoreState → Event → CoreState
after_event k e = record { machine = after_all k.machine (steps_of k e); tier = tier_after k e; words = words_after k e; splits = splits_after k e; budget = k.budget; halt = halt_after k e }

-- the fork with this left column
abbrev pub fork_at : CoreState → ℕ → ℕ
fork_at k c = unwrap_or (find (λ n. is_fork k.machine.tree n && (fork_column k.machine.tree n == c)) (all_nodes k.machine.tree)) 0

abbrev pub reply_to : CoreState → Event → Reply
reply_to k (event.Fork s) = let n = length k.machine.tree in if may_fork k then reply.Forked (n + 1) (n + 2) n else reply.Inline (n + 1) (n + 2)
reply_to k (event.Access s c w) = if is_met k s c then reply.Conflict (refusal k.machine (place k.machine.tree s) c (met_by k s c)) else reply.Value (unwrap_or w (live_value k.machine c))
reply_to k (event.Cancel s) = reply.Back (puts_back k.machine s (next k))
reply_to k (event.Split f) = option_map_or (λ c. reply.Early (fork_at k c)) (is_early k f) reply.Done
reply_to k _ = reply.Done

-- ## Lists of events

abbrev pub after_events : CoreState → List Event → CoreState
after_events k [] = k
after_events k (e ∷ es) = after_events (after_event k e) es

-- each event fits where it comes
abbrev pub all_fit : CoreState → List Event → Bool
all_fit k [] = true
all_fit k (e ∷ es) = fits k e && all_fit (after_event k e) es

abbrev pub replies : CoreState → List Event → List Reply
replies k [] = []
replies k (e ∷ es) = reply_to k e ∷ replies (after_event k e) es

abbrev pub steps_of_all : CoreState → List Event → List Step
steps_of_all k [] = []
steps_of_all k (e ∷ es) = steps_of k e ++ steps_of_all (after_event k e) es
