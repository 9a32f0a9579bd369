use Rattle.std.proofs.Common.{◌<◌, length, nat_eq, not, refl, ap, ◌∙◌, arith}
use Rattle.std.specs.List.{filter}
use Rattle.cw_trace.proofs.Marks.Bracketing.{mark_low, marked, HasRemoved, removed, in_order}
use Rattle.cw_trace.proofs.Marks.Numbering.{has_contains}
use Rattle.cw_trace.proofs.brackets.Brackets.remove.Goals as goal

pub index-requires : goal.index-requires
index-requires c =
    let a = c.self.inside in
    let low : c.args.mark < length a.elements.items = mark_low a c.args.self.now c.self.invariant c.self.view_is c.args.mark c.requires in
    omega (arith, a.elements.ok.0, low)

pub remove-requires : goal.remove-requires
remove-requires c = has_contains _ _ (marked c.self.inside c.args.self.now c.self.invariant c.self.view_is c.args.mark c.index.result.now c.requires c.index.ensures).there

is_removed : (c : goal.After-remove) → HasRemoved c.self.inside (record { order = c.remove.new.self; elements = c.self.inside.elements; marks = c.self.inside.marks }) c.args.mark
is_removed c =
    let a = c.self.inside in
    removed a (record { order = c.remove.new.self; elements = a.elements; marks = a.marks }) c.index.result.now c.args.mark c.self.invariant c.remove.ensures.labels
    (marked a c.args.self.now c.self.invariant c.self.view_is c.args.mark c.index.result.now c.requires c.index.ensures) c.remove.ensures.removed c.remove.ensures.distinct c.remove.ensures.room refl refl refl refl

pub invariant_of-self : goal.invariant_of-self
invariant_of-self c = (is_removed c).kept

pub returns-clause-marks : goal.returns-clause-marks
returns-clause-marks c = (is_removed c).marks ∙ ap (λ s. filter (λ m. not (nat_eq m c.args.mark)) s.marks) c.self.view_is

pub returns-clause-labels : goal.returns-clause-labels
returns-clause-labels c = in_order _ (is_removed c).kept
