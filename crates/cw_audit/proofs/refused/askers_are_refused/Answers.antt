use Rattle.std.proofs.Common.{sym, ◌∙◌, ap}
use Rattle.std.specs.Prelude.{filter}
use Rattle.std.proofs.lemmas.Slice.Eq.{slice_eq-Decides}
use Rattle.std.proofs.lemmas.Bool.Decides.{Decides-eqb}
use Rattle.cw_tree.specs.Nodes.{is_tried}
use Rattle.cw_audit.proofs.refused.askers_are_refused.Goals as goal

pub returns : goal.returns
returns c =
    let t = c.args.tree.now in
    let d = slice_eq-Decides Decides-eqb _ _ _ c.eq.ensures in
    let left = c.as_slice-2.ensures.value ∙ c.in_ok-askers.ensures in
    let right = c.as_slice-3.ensures.value ∙ c.in_ok-refused.ensures ∙ ap (filter (is_tried t)) (c.as_slice.ensures.value ∙ c.in_ok-order.ensures) in
    (λ e. sym left ∙ d.0 e ∙ right, λ w. d.1 (left ∙ w ∙ sym right))
