use Rattle.std.proofs.Common.{ap, sym, ◌∙◌}
use Rattle.std.specs.Prelude.{◌&&◌}
use Rattle.cw_open.specs.Machine.{in_block}
use Rattle.cw_core.proofs.Fits.Fits.{commit_tells}
use Rattle.cw_core.proofs.cores.Core.may_commit.Goals as goal

pub returns-then-goes_on : goal.returns-then-goes_on
returns-then-goes_on c =
    let k = c.args.self.now in
    let s = c.args.strand in
    c.in_block.ensures ∙ sym (commit_tells k c.hint.ensures s ∙ ap (λ b. b && in_block k.machine s) (sym c.goes_on.ensures ∙ c.if-goes_on.true))
