use Rattle.std.proofs.Common.{◌<◌, length, ap, sym, ◌∙◌, arith, get_or}
use Rattle.cw_trace.proofs.Marks.Bracketing.{mark_low, marked, label_is}
use Rattle.cw_trace.proofs.Marks.Numbering.{has_contains}
use Rattle.cw_trace.proofs.brackets.Brackets.label.Goals as goal

pub index-requires : goal.index-requires
index-requires c =
    let a = c.self.inside in
    let low : c.args.mark < length a.elements.items = mark_low a c.args.self.now c.self.invariant c.self.view_is c.args.mark c.requires in
    omega (arith, a.elements.ok.0, low)

pub label-requires : goal.label-requires
label-requires c = has_contains _ _ (marked c.self.inside c.args.self.now c.self.invariant c.self.view_is c.args.mark c.index.result.now c.requires c.index.ensures).there

pub returns : goal.returns
returns c =
    let a = c.self.inside in
    let w = marked a c.args.self.now c.self.invariant c.self.view_is c.args.mark c.index.result.now c.requires c.index.ensures in
    c.label.ensures ∙ (sym (label_is a c.self.invariant c.args.mark c.index.result.now w) ∙ ap (λ s. get_or s.labels c.args.mark 0) c.self.view_is)
