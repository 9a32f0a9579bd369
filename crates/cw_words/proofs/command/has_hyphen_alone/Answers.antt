use Rattle.std.proofs.Common.{◌≡◌, ◌∙◌, ◌∷◌, ◌+◌, ◌||◌, ◌&&◌, [], ap, drop, false, map, not, string_bytes, sym}
use Rattle.std.specs.List.{list_any}
use Rattle.std.specs.Str.{bytes_eq}
use Rattle.cw_words.specs.Asked.{is_dash}
use Rattle.cw_words.specs.Shapes.{has_no_odd, is_odd}
use Rattle.cw_words.proofs.Integers.{drop_next}
use Rattle.cw_words.proofs.Odd.{text_even}
use Rattle.cw_words.proofs.command.has_hyphen_alone.Goals as goal

pub loop-word-preserved : goal.loop-word-preserved
loop-word-preserved c =
    let item = c.word-item.result in
    let rest = drop (c.loop-word.word-index + 1) c.args.words.now in
    let step = ap (map string_bytes) (drop_next c.args.words.now c.loop-word.word-index item c.loop-word-test.true ∙ ap (λ x. x ∷ rest) (sym c.word-item.is)) in
    let other : bytes_eq c.as_str.result.now (45 ∷ []) ≡ false = sym c.eq.ensures ∙ c.if-eq.false in
    record {
      dash = c.loop-word.invariant.dash ∙ ap (list_any is_dash) step ∙ ap (λ t. t || list_any is_dash (map string_bytes rest)) (ap is_dash (sym c.as_str.ensures.value) ∙ other);
      even = c.loop-word.invariant.even ∙ ap has_no_odd step ∙ ap (λ t. not t && has_no_odd (map string_bytes rest)) (ap is_odd (sym c.as_str.ensures.value) ∙ text_even c.as_str.result.now c.as_str.utf8 other);
    }
