use Rattle.std.proofs.Common.{◌≡◌, ◌∙◌, ap, sym, length, slice_index, arith}
use Rattle.std.specs.Prelude.{◌/◌}
use Rattle.cw_tree.specs.Walks.{has}
use Rattle.cw_trace.specs.Brackets.{bracket_of}
use Rattle.cw_trace.proofs.Marks.Numbering.{has_map}
use Rattle.cw_trace.proofs.Touching.{has_at}
use Rattle.cw_trace.proofs.brackets.Brackets.list_renumbered.Goals as goal

pub returns-clause-there : goal.returns-clause-there
returns-clause-there c = λ m h low.
    (let a = c.self.inside in
    let x = has_map (bracket_of a) a.order.renumbered m (ap (λ s. has s.renumbered m) c.self.view_is ∙ h) in
    let k = has_at a.order.renumbered x.0 x.1 in
    let renumbered = c.renumbered.ensures in
    let marks = c.as_slice.ensures.value in
    let at : slice_index c.as_slice.result.now (slice_index c.renumbered.result.now k.0) ≡ m =
    ap (λ xs. slice_index xs (slice_index c.renumbered.result.now k.0)) marks ∙ (ap (λ ys. bracket_of a (slice_index ys k.0)) renumbered ∙ (ap (bracket_of a) k.2 ∙ x.2)) in
    let listed = c.list_marks.ensures.there k.0 (omega (arith, k.1, ap length renumbered)) (omega (arith, at, low)) in
    ap (λ n. has c.list_marks.new.touched.columns (n / 2)) (sym at) ∙ listed)
