use Rattle.std.proofs.Common.{ap, sym, ◌∙◌, arith}
use Rattle.std.specs.Prelude.{◌/◌}
use Rattle.std.proofs.lemmas.Bool.{le-ltb}
use Rattle.cw_tree.specs.Walks.{has}
use Rattle.cw_trace.specs.Columns.{is_trace}
use Rattle.cw_trace.specs.Tier.{traces_of}
use Rattle.cw_trace.proofs.Query.BeyondColumns.{no_trace, marked}
use Rattle.cw_trace.proofs.tier.Tier.is_mark.Goals as goal

pub returns-then-trace-len : goal.returns-then-trace-len
returns-then-trace-len c =
    let a = (traces_of c.self.inside).columns in
    let v = ap (λ t. t.columns) (sym c.self.view_is) in
    c.is_trace.ensures ∙ ap (λ d. is_trace d (c.args.mark / 2)) v ∙ sym (ap (λ d. has d.brackets c.args.mark) v ∙ marked a c.self.invariant.sound c.args.mark)

pub returns-else-trace-len : goal.returns-else-trace-len
returns-else-trace-len c =
    let a = (traces_of c.self.inside).columns in
    let v = ap (λ t. t.columns) (sym c.self.view_is) in
    let none = no_trace a (c.args.mark / 2) (omega (arith, c.if-trace-len.false, c.len.ensures)) in
    le-ltb (c.args.mark / 2) c.len.result (omega (arith, c.if-trace-len.false)) ∙ sym (ap (λ d. has d.brackets c.args.mark) v ∙ marked a c.self.invariant.sound c.args.mark ∙ none)
