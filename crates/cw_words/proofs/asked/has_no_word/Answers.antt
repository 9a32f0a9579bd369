use Rattle.std.proofs.Common.{◌∙◌, None, Some, ap, map, sym}
use Rattle.std.specs.Prelude.{List, ◌==◌, length, ℕ}
use Rattle.std.proofs.lemmas.List.{length-map}
use Rattle.clap.specs.Words.{found_of}
use Rattle.cw_words.proofs.Matches.{words_given}
use Rattle.cw_words.proofs.asked.has_no_word.Goals as goal

pub returns-in-Some : goal.returns-in-Some
returns-in-Some c =
    let words = words_given (found_of c.args.found.now) (Some (map (λ v. v.now) c.in-Some.words.now)) c.in-Some.ensures in
    c.is_empty.ensures ∙ sym (ap (λ (ws : List (List ℕ)). length ws == 0) words ∙ ap (λ n. n == 0) (length-map c.in-Some.words.now (λ v. v.now)))

pub returns-in-None : goal.returns-in-None
returns-in-None c = sym (ap (λ (ws : List (List ℕ)). length ws == 0) (words_given (found_of c.args.found.now) None c.in-None.ensures))
