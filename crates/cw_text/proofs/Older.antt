-- What was a program before texts could name their language is one of language 1.
use Rattle.std.proofs.Common.{◌≡◌, ◌∙◌, ℕ, List, Bool, false, cond, Ok, refl, ap}
use Rattle.cw_text.specs.Grammar.{program_of}
use Rattle.cw_text.specs.Lexemes.{Lexemes, comes, name as a_name, keywords, lexemes, rest_of}
use Rattle.cw_text.specs.Syntax.{Declaration}
use Rattle.cw_text.specs.Text.{is_headed, language_of, numbered, source_in, with_language}

-- a program does not begin with a name
not_headed : (xs : Lexemes) (ds : List Declaration) → program_of xs ≡ Ok ds → is_headed xs ≡ false
not_headed (comes (a_name n) l xs) ds is = cc
not_headed xs ds is = refl

pub stays_as_it_was : (newest : ℕ) (text : List ℕ) (ds : List Declaration) → program_of (lexemes keywords text) ≡ Ok ds
    → source_in (language_of newest (lexemes keywords text)) text ≡ Ok (record { language = 1; items = ds })
stays_as_it_was newest text ds is =
    let xs = lexemes keywords text in
    let plain = not_headed xs ds is in
    ap (λ b. source_in (cond b (numbered newest (rest_of xs)) (Ok 1)) text) plain
    ∙ (ap (λ b. with_language 1 (program_of (cond b (rest_of (rest_of (rest_of xs))) xs))) plain
    ∙ ap (with_language 1) is)
