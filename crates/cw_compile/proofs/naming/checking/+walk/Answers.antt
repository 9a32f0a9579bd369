use Rattle.std.proofs.Common.{[], ◌∷◌, ◌∙◌, refl}
use Rattle.std.proofs.lemmas.Result.{err_from_is_err_and}
use Rattle.cw_compile.specs.declared.naming.scope.Thing.TheVariants.{Local}
use Rattle.cw_compile.specs.NamingRules.Visible.{visible_in}
use Rattle.cw_text.proofs.Blocks.{inner_is_block}
use Rattle.cw_compile.proofs.NamingRules.FirstFault.{refuses}
use Rattle.cw_compile.proofs.NamingRules.NameSteps.{in_block_next, keeps_more}
use Rattle.cw_compile.proofs.naming.checking.+walk.Goals as goal

pub in_block-loop-statement-preserved : goal.in_block-loop-statement-preserved
in_block-loop-statement-preserved t c =
    let before = c.loop-statement.invariant in
    let ok = c.in_ok-in_statement.ensures in
    record {
      faults = rw ok.visible (before.faults ∙ in_block_next (visible_in c.loop-statement.visible) c.args.around c.args.body.now c.loop-statement.statement-index c.statement-item.result c.loop-statement-test.true c.statement-item.is ok.exact);
      keeps = keeps_more c.args.visible.now c.loop-statement.visible c.in_statement.new.visible before.keeps ok.outer;
    }

pub in_statement-returns-in_ok-add_local-in-Let-clause-outer : goal.in_statement-returns-in_ok-add_local-in-Let-clause-outer
in_statement-returns-in_ok-add_local-in-Let-clause-outer t c = ((c.in-Let.name.name, Local) ∷ [], c.in_ok-add_local-in-Let.ensures)

pub in_statement-returns-in_err-in_block-in-If-clause-exact : goal.in_statement-returns-in_err-in_block-in-If-clause-exact
in_statement-returns-in_err-in_block-in-If-clause-exact t c =
    let p = err_from_is_err_and c.from_residual-in_err-in_block-in-If.result c.from_residual-in_err-in_block-in-If.ensures.1 in
    rw (p.1, p.2, c.in-If.is, inner_is_block c.in-If.then, ← c.as_slice-in-If.ensures.value, ← c.in_ok-in_term-in-If.ensures)
    (refuses _ _ _ c.in_err-in_block-in-If.ensures.exact (λ x is. rw is refl))

pub in_statement-returns-in_err-in_block-in-If-2-clause-exact : goal.in_statement-returns-in_err-in_block-in-If-2-clause-exact
in_statement-returns-in_err-in_block-in-If-2-clause-exact t c =
    let p = err_from_is_err_and c.from_residual-in_err-in_block-in-If-2.result c.from_residual-in_err-in_block-in-If-2.ensures.1 in
    rw (p.1, p.2, c.in-If.is, inner_is_block c.in-If.then, inner_is_block c.in-If.other, ← c.as_slice-in-If.ensures.value, ← c.as_slice-in-If-2.ensures.value, ← c.in_ok-in_term-in-If.ensures, c.in_ok-in_block-in-If.ensures.exact, ← c.in_ok-in_block-in-If.ensures.outer)
    c.in_err-in_block-in-If-2.ensures.exact

pub in_statement-returns-in_ok-in_block-in-If-2-clause-exact : goal.in_statement-returns-in_ok-in_block-in-If-2-clause-exact
in_statement-returns-in_ok-in_block-in-If-2-clause-exact t c =
    rw (c.in-If.is, inner_is_block c.in-If.then, inner_is_block c.in-If.other, ← c.as_slice-in-If.ensures.value, ← c.as_slice-in-If-2.ensures.value, ← c.in_ok-in_term-in-If.ensures, c.in_ok-in_block-in-If.ensures.exact, ← c.in_ok-in_block-in-If.ensures.outer)
    c.in_ok-in_block-in-If-2.ensures.exact

pub in_statement-returns-in_err-in_block-in-While-clause-exact : goal.in_statement-returns-in_err-in_block-in-While-clause-exact
in_statement-returns-in_err-in_block-in-While-clause-exact t c =
    let p = err_from_is_err_and c.from_residual-in_err-in_block-in-While.result c.from_residual-in_err-in_block-in-While.ensures.1 in
    rw (p.1, p.2, c.in-While.is, inner_is_block c.in-While.body, ← c.as_slice-in-While.ensures.value, ← c.in_ok-in_term-in-While.ensures) c.in_err-in_block-in-While.ensures.exact

pub in_statement-returns-in_ok-in_block-in-While-clause-exact : goal.in_statement-returns-in_ok-in_block-in-While-clause-exact
in_statement-returns-in_ok-in_block-in-While-clause-exact t c =
    rw (c.in-While.is, inner_is_block c.in-While.body, ← c.as_slice-in-While.ensures.value, ← c.in_ok-in_term-in-While.ensures) c.in_ok-in_block-in-While.ensures.exact

pub in_statement-returns-in_err-in_block-in-Atomic-clause-exact : goal.in_statement-returns-in_err-in_block-in-Atomic-clause-exact
in_statement-returns-in_err-in_block-in-Atomic-clause-exact t c =
    let p = err_from_is_err_and c.from_residual-in_err-in_block-in-Atomic.result c.from_residual-in_err-in_block-in-Atomic.ensures.1 in
    rw (p.1, p.2, c.in-Atomic.is, inner_is_block c.in-Atomic.body, ← c.as_slice-in-Atomic.ensures.value) c.in_err-in_block-in-Atomic.ensures.exact

pub in_statement-returns-in_ok-in_block-in-Atomic-clause-exact : goal.in_statement-returns-in_ok-in_block-in-Atomic-clause-exact
in_statement-returns-in_ok-in_block-in-Atomic-clause-exact t c = rw (c.in-Atomic.is, inner_is_block c.in-Atomic.body, ← c.as_slice-in-Atomic.ensures.value) c.in_ok-in_block-in-Atomic.ensures.exact

pub in_statement-returns-in_err-in_block-in-Spawn-clause-exact : goal.in_statement-returns-in_err-in_block-in-Spawn-clause-exact
in_statement-returns-in_err-in_block-in-Spawn-clause-exact t c =
    let p = err_from_is_err_and c.from_residual-in_err-in_block-in-Spawn.result c.from_residual-in_err-in_block-in-Spawn.ensures.1 in
    rw (p.1, p.2, c.in-Spawn.is, inner_is_block c.in-Spawn.body, ← c.as_slice-in-Spawn.ensures.value) c.in_err-in_block-in-Spawn.ensures.exact

pub in_statement-returns-in_ok-in_block-in-Spawn-clause-exact : goal.in_statement-returns-in_ok-in_block-in-Spawn-clause-exact
in_statement-returns-in_ok-in_block-in-Spawn-clause-exact t c = rw (c.in-Spawn.is, inner_is_block c.in-Spawn.body, ← c.as_slice-in-Spawn.ensures.value) c.in_ok-in_block-in-Spawn.ensures.exact
