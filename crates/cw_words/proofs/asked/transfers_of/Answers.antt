use Rattle.std.proofs.Common.{◌≡◌, ◌∙◌, None, Some, ap, map, rules, sym}
use Rattle.std.specs.Prelude.{option_and_then}
use Rattle.clap.specs.Words.{found_of}
use Rattle.cw_words.specs.Asked.{transfers_at, words_in}
use Rattle.cw_words.specs.Options.{number_within}
use Rattle.cw_words.specs.Words.{most_transfers}
use Rattle.cw_words.proofs.Matches.{words_given}
use Rattle.cw_words.proofs.asked.transfers_of.Goals as goal

pub returns-in_err-words : goal.returns-in_err-words
returns-in_err-words c =
    let by : transfers_at (words_in (found_of c.args.found.now)) ≡ None = ap transfers_at (words_given (found_of c.args.found.now) None c.in_err-words.ensures) in
    search (rules, by)

pub returns-in_err-word : goal.returns-in_err-word
returns-in_err-word c =
    let words = words_given (found_of c.args.found.now) (Some (map (λ v. v.now) c.in_ok-words.words.now)) c.in_ok-words.ensures in
    let by : transfers_at (words_in (found_of c.args.found.now)) ≡ None = ap transfers_at words ∙ ap (option_and_then (number_within 1 most_transfers)) (sym c.in_err-word.ensures) in
    search (rules, by)

pub returns-in_err-number_within : goal.returns-in_err-number_within
returns-in_err-number_within c =
    let words = words_given (found_of c.args.found.now) (Some (map (λ v. v.now) c.in_ok-words.words.now)) c.in_ok-words.ensures in
    let by : transfers_at (words_in (found_of c.args.found.now)) ≡ number_within 1 most_transfers c.in_ok-word.word.now = ap transfers_at words ∙ ap (option_and_then (number_within 1 most_transfers)) (sym c.in_ok-word.ensures) in
    search (rules, by)

pub returns : goal.returns
returns c =
    let words = words_given (found_of c.args.found.now) (Some (map (λ v. v.now) c.in_ok-words.words.now)) c.in_ok-words.ensures in
    let by : transfers_at (words_in (found_of c.args.found.now)) ≡ number_within 1 most_transfers c.in_ok-word.word.now = ap transfers_at words ∙ ap (option_and_then (number_within 1 most_transfers)) (sym c.in_ok-word.ensures) in
    search (rules, by)
