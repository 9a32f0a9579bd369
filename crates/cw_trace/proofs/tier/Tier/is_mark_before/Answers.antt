use Rattle.std.proofs.Common.{sym, ◌∙◌, inl, inr}
use Rattle.cw_trace.proofs.Query.BeyondColumns.{not_before}
use Rattle.cw_trace.proofs.tier.Tier.is_mark_before.Goals as goal
use Rattle.cw_trace.proofs.tier.Tier.is_mark_before.Goals.{else-is_mark-via-then-is_mark+else-is_mark-2, else-is_mark-via-else-is_mark}

pub returns-else-is_mark-clause-order : goal.returns-else-is_mark-clause-order
returns-else-is_mark-clause-order g c =
    elim c.else-is_mark.branch [
      | else-is_mark-via-then-is_mark+else-is_mark-2 w ↦ sym (not_before c.args.self.now.columns.brackets c.args.a c.args.b (inr (sym w.is_mark-then-is_mark.ensures ∙ w.if-is_mark-2.false)))
      | else-is_mark-via-else-is_mark w ↦ sym (not_before c.args.self.now.columns.brackets c.args.a c.args.b (inl (sym c.is_mark.ensures ∙ w.if-is_mark.false)))
    ]
