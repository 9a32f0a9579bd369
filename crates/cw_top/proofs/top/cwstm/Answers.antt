use Rattle.cw_top.specs.Runs.{IsReady}
use Rattle.std.proofs.Common.{None, Option, map, rules, string_bytes, subst, sym}
use Rattle.cw_record.specs.declared.record.Record.{Record}
use Rattle.cw_words.specs.Words.{command_in}
use Rattle.cw_top.specs.declared.outcome.Note.{Note}
use Rattle.cw_top.specs.Audited.{TellsBy}
use Rattle.std.specs.Prelude.{IfSome}
use Rattle.cw_top.proofs.Budgets.{spends}
use Rattle.cw_top.proofs.Checks as checks
use Rattle.cw_top.proofs.OneMemory.{one_memory}
use Rattle.cw_top.proofs.OverSource.{of_source}
use Rattle.cw_top.proofs.Pieces as pieces
use Rattle.cw_top.proofs.Ready.{ready}
use Rattle.cw_top.proofs.Spawned.{spawned}
use Rattle.cw_top.proofs.SpentMoves.{moves}
use Rattle.cw_top.proofs.Statuses as statuses
use Rattle.cw_top.proofs.Told.{nothing_told_by}
use Rattle.cw_top.proofs.top.cwstm.Goals as goal

pub answer-requires-clause-ready : goal.answer-requires-clause-ready
answer-requires-clause-ready g c =
    let is_ready : IfSome c.in-Ok.command IsReady = subst (λ command. IfSome command IsReady) (sym c.in-Ok.ensures.exact) (ready (map string_bytes c.args.words.now)) in
    search (rules, is_ready)

pub returns-clause-usage : goal.returns-clause-usage
returns-clause-usage g c =
    let status = rw c.in-Ok.ensures.exact at c.answer.ensures.status in
    let cause = rw c.in-Ok.ensures.exact at c.answer.ensures.cause in statuses.usage _ _ _ _ _ _ _ status cause

pub returns-clause-misused : goal.returns-clause-misused
returns-clause-misused g c =
    let status = rw c.in-Ok.ensures.exact at c.answer.ensures.status in
    let cause = rw c.in-Ok.ensures.exact at c.answer.ensures.cause in
    let run = rw c.in-Ok.ensures.exact at c.answer.ensures.run in
    λ misfit no_read. statuses.misused _ _ _ _ _ _ _ status cause run misfit no_read

pub returns-clause-refuses : goal.returns-clause-refuses
returns-clause-refuses g c =
    let status = rw c.in-Ok.ensures.exact at c.answer.ensures.status in
    let cause = rw c.in-Ok.ensures.exact at c.answer.ensures.cause in
    let run = rw c.in-Ok.ensures.exact at c.answer.ensures.run in
    let written = rw c.in-Ok.ensures.exact at c.answer.ensures.written in
    λ fault refused no_read. statuses.refuses _ _ _ _ _ _ _ _ _ _ _ status cause run written fault refused no_read

pub returns-clause-read_fault : goal.returns-clause-read_fault
returns-clause-read_fault g c =
    let status = rw c.in-Ok.ensures.exact at c.answer.ensures.status in
    let cause = rw c.in-Ok.ensures.exact at c.answer.ensures.cause in
    statuses.read_fault _ _ _ _ _ _ _ status cause

pub returns-clause-write_fault : goal.returns-clause-write_fault
returns-clause-write_fault g c =
    let status = rw c.in-Ok.ensures.exact at c.answer.ensures.status in
    let cause = rw c.in-Ok.ensures.exact at c.answer.ensures.cause in
    statuses.write_fault _ _ _ _ _ _ _ status cause

pub returns-clause-refused : goal.returns-clause-refused
returns-clause-refused g c =
    let status = rw c.in-Ok.ensures.exact at c.answer.ensures.status in
    let cause = rw c.in-Ok.ensures.exact at c.answer.ensures.cause in statuses.refused _ _ _ _ _ _ _ status cause

pub returns-clause-unreadable : goal.returns-clause-unreadable
returns-clause-unreadable g c =
    let status = rw c.in-Ok.ensures.exact at c.answer.ensures.status in
    let cause = rw c.in-Ok.ensures.exact at c.answer.ensures.cause in
    statuses.unreadable _ _ _ _ _ _ _ status cause

pub returns-clause-complete : goal.returns-clause-complete
returns-clause-complete g c =
    let status = rw c.in-Ok.ensures.exact at c.answer.ensures.status in
    let cause = rw c.in-Ok.ensures.exact at c.answer.ensures.cause in
    let done = rw c.in-Ok.ensures.exact at c.answer.ensures.done in
    statuses.complete _ _ _ _ _ _ _ status cause (ready (map string_bytes c.args.words.now)) done

pub returns-clause-replays : goal.returns-clause-replays
returns-clause-replays g c =
    let status = rw c.in-Ok.ensures.exact at c.answer.ensures.status in
    checks.replays _ _ _ _ status

pub returns-clause-source : goal.returns-clause-source
returns-clause-source g c =
    let status = rw c.in-Ok.ensures.exact at c.answer.ensures.status in
    let run = rw c.in-Ok.ensures.exact at c.answer.ensures.run in
    λ other. of_source _ _ _ run (checks.replays _ _ _ _ status other)

pub returns-clause-disagrees : goal.returns-clause-disagrees
returns-clause-disagrees g c =
    let status = rw c.in-Ok.ensures.exact at c.answer.ensures.status in
    checks.disagrees _ _ _ _ status

pub returns-clause-silent : goal.returns-clause-silent
returns-clause-silent g c =
    let status = rw c.in-Ok.ensures.exact at c.answer.ensures.status in
    let written = rw c.in-Ok.ensures.exact at c.answer.ensures.written in
    checks.silent _ _ _ _ _ _ _ _ _ status written

pub returns-clause-threads : goal.returns-clause-threads
returns-clause-threads g c =
    let status = rw c.in-Ok.ensures.exact at c.answer.ensures.status in
    let done = rw c.in-Ok.ensures.exact at c.answer.ensures.done in
    checks.threads _ _ _ _ status (ready (map string_bytes c.args.words.now)) done

pub returns-clause-finished : goal.returns-clause-finished
returns-clause-finished g c =
    let status = rw c.in-Ok.ensures.exact at c.answer.ensures.status in
    let run = rw c.in-Ok.ensures.exact at c.answer.ensures.run in
    let written = rw c.in-Ok.ensures.exact at c.answer.ensures.written in
    statuses.finished _ _ _ _ _ _ _ _ _ status run written

pub returns-clause-broken : goal.returns-clause-broken
returns-clause-broken g c =
    let status = rw c.in-Ok.ensures.exact at c.answer.ensures.status in
    let written = rw c.in-Ok.ensures.exact at c.answer.ensures.written in
    statuses.broken _ _ _ _ _ _ _ _ _ status written

pub returns-clause-one_memory : goal.returns-clause-one_memory
returns-clause-one_memory g c =
    let status = rw c.in-Ok.ensures.exact at c.answer.ensures.status in
    let run = rw c.in-Ok.ensures.exact at c.answer.ensures.run in
    let written = rw c.in-Ok.ensures.exact at c.answer.ensures.written in
    one_memory _ _ _ _ _ _ _ _ _ status run written

pub returns-clause-spent : goal.returns-clause-spent
returns-clause-spent g c =
    let status = rw c.in-Ok.ensures.exact at c.answer.ensures.status in
    let run = rw c.in-Ok.ensures.exact at c.answer.ensures.run in
    let done = rw c.in-Ok.ensures.exact at c.answer.ensures.done in
    spends _ _ _ _ _ status run done

pub returns-clause-several : goal.returns-clause-several
returns-clause-several g c =
    let status = rw c.in-Ok.ensures.exact at c.answer.ensures.status in
    let done = rw c.in-Ok.ensures.exact at c.answer.ensures.done in
    statuses.several _ _ _ _ status (ready (map string_bytes c.args.words.now)) done

pub returns-clause-spawns : goal.returns-clause-spawns
returns-clause-spawns g c =
    let status = rw c.in-Ok.ensures.exact at c.answer.ensures.status in
    let run = rw c.in-Ok.ensures.exact at c.answer.ensures.run in
    let done = rw c.in-Ok.ensures.exact at c.answer.ensures.done in
    spawned _ _ _ _ _ status run done

pub returns-clause-moves : goal.returns-clause-moves
returns-clause-moves g c =
    let status = rw c.in-Ok.ensures.exact at c.answer.ensures.status in
    let done = rw c.in-Ok.ensures.exact at c.answer.ensures.done in
    moves _ _ _ _ status done

pub returns-clause-unread : goal.returns-clause-unread
returns-clause-unread g c = let taken = rw c.in-Ok.ensures.exact at c.answer.ensures.taken in pieces.TakesAtMost-none _ _ _ taken

pub returns-in_default-clause-written : goal.returns-in_default-clause-written
returns-in_default-clause-written g c =
    let command = command_in c.args.words.now in
    let left = g.S.Source.left c.args.source.now in
    let old = g.K.Sink.written c.args.sink.now in
    let tells = g.K.Sink.tells_for c.args.sink.now in
    let status = c.without_run.result.status in
    subst (λ (k : Option Record). TellsBy command left k status c.without_run.result.note old old tells tells) (sym c.without_run.ensures.none)
    (subst (λ (n : Note). TellsBy command left None status n old old tells tells) (sym c.without_run.ensures.note) (nothing_told_by left old status tells command))
