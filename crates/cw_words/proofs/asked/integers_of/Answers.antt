use Rattle.std.proofs.Common.{List, None, Ok, Some, map, subst, sym, ℕ}
use Rattle.clap.specs.Words.{found_of}
use Rattle.cw_words.specs.Options.{integers_of}
use Rattle.cw_words.specs.Reading.{Reads}
use Rattle.cw_words.proofs.Matches.{words_given}
use Rattle.cw_words.proofs.asked.integers_of.Goals as goal

pub returns-in-Some : goal.returns-in-Some
returns-in-Some c = subst (λ (ws : List (List ℕ)). Reads (integers_of ws) c.integers_in.result) (sym (words_given (found_of c.args.found.now) (Some (map (λ v. v.now) c.in-Some.words.now)) c.in-Some.ensures)) c.integers_in.ensures

pub returns-in-None : goal.returns-in-None
returns-in-None c = subst (λ (ws : List (List ℕ)). Reads (integers_of ws) (Some (Ok c.new.result))) (sym (words_given (found_of c.args.found.now) None c.in-None.ensures)) c.new.ensures
