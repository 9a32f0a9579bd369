use Rattle.std.proofs.Common.{◌≡◌, true, false, sym, ◌∙◌, rules, SFits, w64}
use Rattle.std.proofs.lemmas.Int.{to_z-of_z}
use Rattle.std.proofs.lemmas.Result.{err_from_is_err_and}
use Rattle.cw_text.specs.Lexemes.{begins_by}
use Rattle.cw_sheet.specs.Items.{is_space, value}
use Rattle.cw_sheet.specs.Taking.{place_of}
use Rattle.cw_sheet.proofs.Cursors.{space_begins}
use Rattle.cw_sheet.proofs.Taking.{taken_end, taken_fails, taken_step}
use Rattle.cw_sheet.proofs.lines.values_behind.Goals as goal

pub returns-in_err-value : goal.returns-in_err-value
returns-in_err-value c =
    let p = err_from_is_err_and c.from_residual.result c.from_residual.ensures.1 in
    let at = place_of c.loop-values.cursor in
    let space : begins_by is_space at.text ≡ true = sym c.is_at_space.ensures ∙ c.loop-values-test.true in
    rw (p.1, p.2) (taken_fails value (place_of c.args.cursor.now) c.loop-values.values.items at c.loop-values.invariant c.in_err-value.field-0.0 space (space_begins at.text space) c.in_err-value.ensures.taken)

pub loop-values-preserved : goal.loop-values-preserved
loop-values-preserved c =
    let at = place_of c.loop-values.cursor in
    let space : begins_by is_space at.text ≡ true = sym c.is_at_space.ensures ∙ c.loop-values-test.true in
    let fits : SFits w64 c.in_ok-value.field-0 = search rules in
    rw (c.in_ok-push.ensures.items, to_z-of_z w64 c.in_ok-value.field-0 fits) (taken_step value (place_of c.args.cursor.now) c.loop-values.values.items at c.loop-values.invariant c.in_ok-value.field-0 (place_of c.value.new.self) space c.in_ok-value.ensures.taken c.in_ok-value.ensures.shorter)

pub returns : goal.returns
returns c =
    let at = place_of c.loop-values.cursor in
    let space : begins_by is_space at.text ≡ false = sym c.is_at_space.ensures ∙ c.loop-values-test.false in
    taken_end value (place_of c.args.cursor.now) c.loop-values.values.items at c.loop-values.invariant space
