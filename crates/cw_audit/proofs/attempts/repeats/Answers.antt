use Rattle.std.proofs.Common.{sym, ◌∙◌, ap, nat_eq, Some}
use Rattle.std.specs.Option.{option_eq}
use Rattle.cw_audit.proofs.Elders.{repeats_cell, repeats_block}
use Rattle.cw_audit.proofs.attempts.repeats.Goals as goal

pub returns-in-Some : goal.returns-in-Some
returns-in-Some c =
    c.eq.ensures
    ∙ ap (λ o. option_eq nat_eq o (Some c.in-Some.cell)) c.tried_cell-in-Some.ensures
    ∙ repeats_cell c.args.tree.now c.args.m c.args.n c.in-Some.cell (sym c.tried_cell.ensures ∙ c.in-Some.is)

pub returns-in-None : goal.returns-in-None
returns-in-None c = c.is_aborted.ensures ∙ repeats_block c.args.tree.now c.args.m c.args.n (sym c.tried_cell.ensures ∙ c.in-None.is)
