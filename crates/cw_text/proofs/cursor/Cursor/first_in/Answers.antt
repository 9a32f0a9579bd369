use Rattle.std.proofs.Common.{ℕ, ◌<◌, length, length-drop, ap, sym, ◌∙◌, arith, rules}
use Rattle.cw_text.specs.Lexemes.{keywords_of, front, gap}
use Rattle.cw_text.specs.Cursor.{before}
use Rattle.cw_text.proofs.Fronts.{front_width}
use Rattle.cw_text.proofs.Passing.{found_gone}
use Rattle.cw_text.proofs.cursor.Cursor.first_in.Goals as goal

-- a gap takes some bytes
pub loop-words-smaller : goal.loop-words-smaller
loop-words-smaller c =
    let some : 0 < length c.loop-words.rest.now = search rules in
    let wide : 0 < c.in-Gap.len = (front_width (keywords_of c.args.language) c.loop-words.rest.now (gap c.in-Gap.len) (c.in-Gap.ensures ∙ ap (λ ws. front ws c.loop-words.rest.now) c.keywords_of-words.ensures) some).0 in
    omega (arith, ap length c.pass.ensures.rest, length-drop {A = ℕ})

-- a token that was found is the first of what was left, and the others are left behind it
pub returns-in-Found : goal.returns-in-Found
returns-in-Found c =
    let token = c.in-Found.token in
    let line = c.loop-words.rest_line in
    let some : 0 < length c.loop-words.rest.now = search rules in
    ap (λ xs. before token line xs) (sym (c.pass-rest_line.ensures.line (keywords_of c.args.language)))
    ∙ found_gone (keywords_of c.args.language) c.loop-words.rest.now token c.in-Found.len line (c.in-Found.ensures ∙ ap (λ ws. front ws c.loop-words.rest.now) c.keywords_of-words.ensures) some
    ∙ c.loop-words.invariant.same
