use Rattle.std.proofs.Common.{ap, sym, ◌∙◌}
use Rattle.std.specs.Prelude.{◌&&◌}
use Rattle.cw_core.proofs.Fits.Fits.{right_there, fresh, split_tells}
use Rattle.cw_core.proofs.cores.Core.may_split.Goals as goal

pub is_unstarted-requires : goal.is_unstarted-requires
is_unstarted-requires c = right_there c.args.self.now c.args.fork c.row-row.result c.row-row.ensures.row (sym c.is_fork.ensures ∙ c.if-not-is_fork.false)

pub returns-then-is_whole : goal.returns-then-is_whole
returns-then-is_whole c =
    let k = c.args.self.now in
    let r = c.row-row.result in
    let fork = sym c.is_fork.ensures ∙ c.if-not-is_fork.false in
    c.is_unstarted.ensures ∙ sym (split_tells k c.args.fork r c.row-row.ensures.row fork ∙ ap (λ b. b && fresh k c.args.fork r c.row-row.ensures.row fork r.made.right) (sym c.is_whole.ensures ∙ c.if-is_whole.true))
