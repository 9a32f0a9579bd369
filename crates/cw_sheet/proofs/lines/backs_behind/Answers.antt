use Rattle.std.proofs.Common.{◌≡◌, true, false, sym, ◌∙◌}
use Rattle.std.proofs.lemmas.Result.{err_from_is_err_and}
use Rattle.cw_text.specs.Lexemes.{begins_by}
use Rattle.cw_sheet.specs.Items.{is_space}
use Rattle.cw_sheet.specs.Reading.{back}
use Rattle.cw_sheet.specs.Taking.{place_of}
use Rattle.cw_sheet.proofs.Cursors.{space_begins}
use Rattle.cw_sheet.proofs.Taking.{taken_end, taken_fails, taken_step}
use Rattle.cw_sheet.proofs.lines.backs_behind.Goals as goal

pub returns-in_err-back : goal.returns-in_err-back
returns-in_err-back c =
    let p = err_from_is_err_and c.from_residual.result c.from_residual.ensures.1 in
    let at = place_of c.loop-backs.cursor in
    let space : begins_by is_space at.text ≡ true = sym c.is_at_space.ensures ∙ c.loop-backs-test.true in
    rw (p.1, p.2) (taken_fails back (place_of c.args.cursor.now) c.loop-backs.backs.items at c.loop-backs.invariant c.in_err-back.field-0.0 space (space_begins at.text space) c.in_err-back.ensures.taken)

pub loop-backs-preserved : goal.loop-backs-preserved
loop-backs-preserved c =
    let at = place_of c.loop-backs.cursor in
    let space : begins_by is_space at.text ≡ true = sym c.is_at_space.ensures ∙ c.loop-backs-test.true in
    rw c.in_ok-push.ensures.items (taken_step back (place_of c.args.cursor.now) c.loop-backs.backs.items at c.loop-backs.invariant c.in_ok-back.field-0 (place_of c.back.new.self) space c.in_ok-back.ensures.taken c.in_ok-back.ensures.shorter)

pub returns : goal.returns
returns c =
    let at = place_of c.loop-backs.cursor in
    let space : begins_by is_space at.text ≡ false = sym c.is_at_space.ensures ∙ c.loop-backs-test.false in
    taken_end back (place_of c.args.cursor.now) c.loop-backs.backs.items at c.loop-backs.invariant space
