use Rattle.std.proofs.Common.{◌≡◌, true, false, sym, ◌∙◌}
use Rattle.std.proofs.lemmas.Result.{err_from_is_err_and}
use Rattle.cw_text.specs.Lexemes.{begins_by}
use Rattle.cw_sheet.specs.Items.{is_space, number64}
use Rattle.cw_sheet.specs.Taking.{place_of}
use Rattle.cw_sheet.proofs.Cursors.{space_begins}
use Rattle.cw_sheet.proofs.Taking.{taken_end, taken_fails, taken_step}
use Rattle.cw_sheet.proofs.lines.numbers_behind.Goals as goal

pub returns-in_err-number64 : goal.returns-in_err-number64
returns-in_err-number64 c =
    let p = err_from_is_err_and c.from_residual.result c.from_residual.ensures.1 in
    let at = place_of c.loop-numbers.cursor in
    let space : begins_by is_space at.text ≡ true = sym c.is_at_space.ensures ∙ c.loop-numbers-test.true in
    rw (p.1, p.2) (taken_fails number64 (place_of c.args.cursor.now) c.loop-numbers.numbers.items at c.loop-numbers.invariant c.in_err-number64.field-0.0 space (space_begins at.text space) c.in_err-number64.ensures.taken)

pub loop-numbers-preserved : goal.loop-numbers-preserved
loop-numbers-preserved c =
    let at = place_of c.loop-numbers.cursor in
    let space : begins_by is_space at.text ≡ true = sym c.is_at_space.ensures ∙ c.loop-numbers-test.true in
    rw c.in_ok-push.ensures.items (taken_step number64 (place_of c.args.cursor.now) c.loop-numbers.numbers.items at c.loop-numbers.invariant c.in_ok-number64.field-0 (place_of c.number64.new.self) space c.in_ok-number64.ensures.taken c.in_ok-number64.ensures.shorter)

pub returns : goal.returns
returns c =
    let at = place_of c.loop-numbers.cursor in
    let space : begins_by is_space at.text ≡ false = sym c.is_at_space.ensures ∙ c.loop-numbers-test.false in
    taken_end number64 (place_of c.args.cursor.now) c.loop-numbers.numbers.items at c.loop-numbers.invariant space
