use Rattle.std.proofs.Common.{sym, ◌∙◌}
use Rattle.cw_compile.specs.NamingRules.Visible.{visible_in}
use Rattle.cw_compile.proofs.NamingRules.NameSteps.{in_params_next, with_params_next}
use Rattle.cw_compile.proofs.naming.checking.in_params.Goals as goal

pub loop-word-preserved : goal.loop-word-preserved
loop-word-preserved c =
    let before = c.loop-word.invariant in
    let names = visible_in c.loop-word.visible in
    let ws = c.args.params.now in
    let w = c.word-item.result in
    let lt = c.loop-word-test.true in
    rw c.in_ok-add_local.ensures (record {
      faults = before.faults ∙ in_params_next names ws _ w lt c.word-item.is (rw (← c.find.ensures) (sym c.in_ok-declared_new.ensures));
      visible = with_params_next names ws _ w lt c.word-item.is ∙ before.visible;
    })
