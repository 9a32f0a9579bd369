use Rattle.std.proofs.Common.{◌∙◌, ◌||◌, ap, ap₂, sym}
use Rattle.clap.specs.Words.{with_rule}
use Rattle.cw_words.specs.Shapes.{leaf_app}
use Rattle.cw_words.proofs.Fits.{leaf_more, take_next}
use Rattle.cw_words.proofs.line.command_with.Goals as goal

pub loop-known-init : goal.loop-known-init
loop-known-init c = record {
  app = c.in_ok-command.ensures.shape c.plain_words.ensures.global ∙ ap₂ with_rule c.new.ensures.app c.plain_words.ensures.rule;
  local = c.in_ok-command.ensures.globals ∙ ap₂ (λ a b. a || b) c.new.ensures.local c.plain_words.ensures.global;
}

pub loop-known-preserved : goal.loop-known-preserved
loop-known-preserved c = record {
  app = c.in_ok-command-2.ensures.shape c.option.ensures.global ∙ (ap₂ with_rule c.loop-known.invariant.app c.option.ensures.rule ∙ leaf_more _ _ _
      ∙ ap (leaf_app c.args.name.now) (sym (take_next c.args.options.now c.loop-known.known-index _ c.loop-known-test.true)));
  local = c.in_ok-command-2.ensures.globals ∙ ap₂ (λ a b. a || b) c.loop-known.invariant.local c.option.ensures.global;
}
