use Rattle.std.proofs.Common.{◌∙◌, ap, ap₂, true}
use Rattle.std.proofs.lemmas.Result.{IfOk-weaker}
use Rattle.clap.specs.Words.{App, Shape, with_subcommand}
use Rattle.clap.specs.Simple.{app_of_fields, on_top}
use Rattle.cw_words.proofs.line.command_line.Goals as goal

pub returns : goal.returns
returns c =
    let run = c.in_ok-run.ensures.app in
    let sim = c.in_ok-sim.ensures.app in
    let load = c.in_ok-load.ensures.app in
    let keep = c.in_ok-keep.ensures.app in
    let races = c.in_ok-races.ensures.app in
    let check = c.in_ok-check.ensures.app in
    let one = ap app_of_fields c.no_binary_name.ensures ∙ ap (on_top (λ (s : Shape). record s { no_binary_name = true })) c.new.ensures.app in
    let two = ap app_of_fields c.disable_help_flag.ensures ∙ ap (on_top (λ (s : Shape). record s { disable_help_flag = true })) one in
    let three = ap app_of_fields c.disable_help_subcommand.ensures ∙ ap (on_top (λ (s : Shape). record s { disable_help_subcommand = true })) two in
    let with_run = c.in_ok-subcommand.ensures.shape c.in_ok-run.ensures.local ∙ ap₂ with_subcommand three (ap (λ (a : App). a.top) run) in
    let with_sim = c.in_ok-subcommand-2.ensures.shape c.in_ok-sim.ensures.local ∙ ap₂ with_subcommand with_run (ap (λ (a : App). a.top) sim) in
    let with_load = c.in_ok-subcommand-3.ensures.shape c.in_ok-load.ensures.local ∙ ap₂ with_subcommand with_sim (ap (λ (a : App). a.top) load) in
    let with_keep = c.in_ok-subcommand-4.ensures.shape c.in_ok-keep.ensures.local ∙ ap₂ with_subcommand with_load (ap (λ (a : App). a.top) keep) in
    let with_races = c.in_ok-subcommand-5.ensures.shape c.in_ok-races.ensures.local ∙ ap₂ with_subcommand with_keep (ap (λ (a : App). a.top) races) in
    IfOk-weaker c.subcommand-6.result _ _ (λ r h. h.shape c.in_ok-check.ensures.local ∙ ap₂ with_subcommand with_races (ap (λ (a : App). a.top) check)) c.subcommand-6.ensures
