use Rattle.std.proofs.Common.{rules, ◌≡◌, IsTrue, None}
use Rattle.cw_strand.specs.Names.{first_memory}
use Rattle.cw_record.specs.Built.{HasRecord}
use Rattle.cw_pool.proofs.Recorded.{built_is, ends_so}
use Rattle.cw_pool.proofs.recording.record_of.Goals as goal

pub returns-clause-board : goal.returns-clause-board
returns-clause-board c =
    let e = c.build.ensures in
    let has : HasRecord c.args.closed.tree c.args.closed.halt = search rules in
    let whole : c.args.closed.halt ≡ None → IsTrue c.args.is_whole = search rules in
    built_is c.args.program c.args.words c.args.limits c.args.closed c.args.is_whole c.build.result has whole e.program e.words e.limits e.tree e.journals e.conflicts e.order e.end e.numbered

pub returns-clause-moves : goal.returns-clause-moves
returns-clause-moves c =
    let has : HasRecord c.args.closed.tree c.args.closed.halt = search rules in
    ends_so c.args.closed (first_memory c.args.program.cells) c.args.limits.aborts c.build.result has c.build.ensures.end
