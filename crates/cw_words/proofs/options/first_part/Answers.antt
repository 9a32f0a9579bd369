use Rattle.std.proofs.Common.{◌∷◌, ◌∙◌, arith, ap, sym}
use Rattle.std.specs.List.{after_first}
use Rattle.cw_words.specs.Options.{is_comma, parts_of}
use Rattle.cw_words.proofs.Parts.{cut, whole}
use Rattle.cw_words.proofs.options.first_part.Goals as goal

pub returns-in-Some : goal.returns-in-Some
returns-in-Some c =
    let b = c.in-Some.ensures.byte (omega arith) (λ _ _ f. f) in
    cut c.args.text.now b.2 ∙ ap (λ p. p ∷ parts_of (after_first is_comma c.args.text.now)) (sym b.0) ∙ ap (λ d. c.in-Some.part.now ∷ parts_of d) (sym b.1)

pub returns-in-None : goal.returns-in-None
returns-in-None c = whole c.args.text.now (c.in-None.ensures.byte (omega arith) (λ _ _ f. f))
