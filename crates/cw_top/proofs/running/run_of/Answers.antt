use Rattle.std.proofs.Common.{◌≡◌, Bool, true, false, rules, subst, sym}
use Rattle.cw_text.specs.Syntax.{source_of}
use Rattle.cw_job.specs.Jobs.{TakesWords}
use Rattle.cw_top.proofs.CommandRuns.{is_run, its_program}
use Rattle.cw_top.proofs.Parameters.{of_no_use}
use Rattle.cw_top.proofs.running.run_of.Goals as goal

both : (b : Bool) → b ≡ true → b ≡ false → ⊥
both b e h = cc

pub returns-then-not-takes_words-clause-why : goal.returns-then-not-takes_words-clause-why
returns-then-not-takes_words-clause-why g c =
    let is_false : c.takes_words.result ≡ false = search rules in
    let program = c.in_ok-compiled.compiled.program in
    let its = its_program c.args.command _ (source_of c.in_ok-compiled.compiled.ast) program c.in_ok-compiled.ensures.source c.in_ok-compiled.ensures.its in
    of_no_use c.args.command _ program _ ⊥ its (λ t. both c.takes_words.result (c.takes_words.ensures.1 (subst (λ n. TakesWords program n) (sym c.word_count.ensures) t)) is_false) c.requires.runs

pub returns-clause-run : goal.returns-clause-run
returns-clause-run g c =
    let is_true : c.takes_words.result ≡ true = search rules in
    let program = c.in_ok-compiled.compiled.program in
    let its = its_program c.args.command _ (source_of c.in_ok-compiled.compiled.ast) program c.in_ok-compiled.ensures.source c.in_ok-compiled.ensures.its in
    let takes = subst (λ n. TakesWords program n) c.word_count.ensures (c.takes_words.ensures.0 is_true) in
    let done = c.in_ok-run.ensures in
    is_run c.args.command _ program its c.in_ok-compiled.ensures.compiled takes _ done.program done.words done.limits done.outputs done.tree done.numbered
