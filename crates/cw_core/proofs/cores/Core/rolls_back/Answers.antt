use Rattle.std.proofs.Common.{ap, sym, ◌∙◌}
use Rattle.std.specs.Prelude.{◌&&◌}
use Rattle.cw_open.specs.Machine.{is_dying, in_block}
use Rattle.cw_core.proofs.Fits.Fits.{rolls_tell}
use Rattle.cw_core.proofs.cores.Core.rolls_back.Goals as goal

pub returns-then-not-is_running : goal.returns-then-not-is_running
returns-then-not-is_running c =
    let k = c.args.self.now in
    let s = c.args.strand in
    sym (rolls_tell k c.hint.ensures s ∙ ap (λ b. b && in_block k.machine s && is_dying k.machine s) (sym c.is_running.ensures ∙ c.if-not-is_running.true))

pub returns-then-in_block : goal.returns-then-in_block
returns-then-in_block c =
    let k = c.args.self.now in
    let s = c.args.strand in
    c.is_dying.ensures
    ∙ sym (rolls_tell k c.hint.ensures s
    ∙ ap (λ b. b && in_block k.machine s && is_dying k.machine s) (sym c.is_running.ensures ∙ c.if-not-is_running.false)
    ∙ ap (λ b. b && is_dying k.machine s) (sym c.in_block.ensures ∙ c.if-in_block.true))

pub returns-else-in_block : goal.returns-else-in_block
returns-else-in_block c =
    let k = c.args.self.now in
    let s = c.args.strand in
    c.if-in_block.false
    ∙ sym (rolls_tell k c.hint.ensures s
    ∙ ap (λ b. b && in_block k.machine s && is_dying k.machine s) (sym c.is_running.ensures ∙ c.if-not-is_running.false)
    ∙ ap (λ b. b && is_dying k.machine s) (sym c.in_block.ensures ∙ c.if-in_block.false))
