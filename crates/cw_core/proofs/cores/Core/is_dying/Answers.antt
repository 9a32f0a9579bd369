use Rattle.std.proofs.Common.{sym, ◌∙◌}
use Rattle.cw_core.proofs.Fits.Dying.{dying_is}
use Rattle.cw_core.proofs.InMemory.Out.{strand_runs}
use Rattle.cw_core.proofs.cores.Core.is_dying.Goals as goal

pub returns : goal.returns
returns c =
    let k = c.args.self.now in
    let s = c.args.strand in
    let told = dying_is k.machine.first k c.hint.ensures s c.requires c.row.result.now.victim (c.row.ensures.row.now.victim (strand_runs k.machine s c.requires)) in
    c.is_some.ensures ∙ sym told
