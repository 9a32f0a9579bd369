use Rattle.std.proofs.Common.{get_or, pos, ap, sym, ◌∙◌, Some, refl, rules, w64, SFits}
use Rattle.std.proofs.lemmas.Int.{to_z-of_z}
use Rattle.cw_audit.proofs.Backs.{entry, written_some, written_none, matched_skip, matched_more, matched_wrong}
use Rattle.cw_audit.proofs.cancels.is_put_back.Goals as goal

pub loop-cell-preserved-in_default : goal.loop-cell-preserved-in_default
loop-cell-preserved-in_default c =
    let t = c.args.tree.now in
    let first = c.args.first.now in
    let b = c.args.block in
    let s = c.args.stamp in
    let cell = c.loop-cell.cell in
    matched_skip t first b s c.args.back.now cell c.loop-cell.place c.loop-cell.invariant (written_none t first b s cell (get_or first cell (pos 0)) (sym c.value_back.ensures ∙ search rules))

pub returns-then-not-has_at : goal.returns-then-not-has_at
returns-then-not-has_at c =
    let t = c.args.tree.now in
    let first = c.args.first.now in
    let b = c.args.block in
    let s = c.args.stamp in
    let cell = c.loop-cell.cell in
    let z = written_some t first b s cell (get_or first cell (pos 0)) c.in-Some.value refl (sym c.value_back.ensures ∙ c.in-Some.is) in
    let had : SFits w64 c.in-Some.value = search rules in
    let same = to_z-of_z w64 c.in-Some.value had in (
      λ e. absurd (cc e),
      λ is. absurd (cc (c.if-not-has_at.true, c.has_at.ensures.1 (matched_wrong t first b s c.args.back.now cell c.loop-cell.place c.loop-cell.invariant c.loop-cell-test.true z.0 is ∙ ap Some z.1 ∙ ap (λ v. Some (entry cell v)) (sym same)))),
    )

pub loop-cell-preserved : goal.loop-cell-preserved
loop-cell-preserved c =
    let t = c.args.tree.now in
    let first = c.args.first.now in
    let b = c.args.block in
    let s = c.args.stamp in
    let cell = c.loop-cell.cell in
    let z = written_some t first b s cell (get_or first cell (pos 0)) c.in-Some.value refl (sym c.value_back.ensures ∙ c.in-Some.is) in
    let had : SFits w64 c.in-Some.value = search rules in
    let same = to_z-of_z w64 c.in-Some.value had in
    matched_more t first b s c.args.back.now cell c.loop-cell.place c.loop-cell.invariant z.0 (c.has_at.ensures.0 c.if-not-has_at.false ∙ ap (λ v. Some (entry cell v)) same ∙ ap Some (sym z.1))
