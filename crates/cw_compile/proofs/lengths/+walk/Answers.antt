use Rattle.cw_text.proofs.Blocks.{inner_is_block}
use Rattle.cw_compile.proofs.lengths.+walk.Goals as goal

pub of_statement-returns-in_ok-sum-in-If : goal.of_statement-returns-in_ok-sum-in-If
of_statement-returns-in_ok-sum-in-If t c =
    rw (c.in-If.is, inner_is_block c.in-If.then, inner_is_block c.in-If.other, ← c.as_slice-in-If.ensures.value, ← c.as_slice-in-If-2.ensures.value, ← c.in_ok-of_block-in-If.ensures, ← c.in_ok-of_term-in-If.ensures, ← c.in_ok-chosen-in-If.ensures, ← c.in_ok-of_block-in-If-2.ensures, ← c.in_ok-sum-in-If.ensures)
    c.sum-in-If-3.ensures

pub of_statement-returns-in_ok-sum-in-While : goal.of_statement-returns-in_ok-sum-in-While
of_statement-returns-in_ok-sum-in-While t c =
    rw (c.in-While.is, inner_is_block c.in-While.body, ← c.as_slice-in-While.ensures.value, ← c.in_ok-of_block-in-While.ensures, ← c.in_ok-of_term-in-While.ensures, ← c.in_ok-sum-in-While.ensures) c.sum-in-While-2.ensures

pub of_statement-returns-in_ok-of_block-in-Atomic : goal.of_statement-returns-in_ok-of_block-in-Atomic
of_statement-returns-in_ok-of_block-in-Atomic t c = rw (c.in-Atomic.is, inner_is_block c.in-Atomic.body, ← c.as_slice-in-Atomic.ensures.value, ← c.in_ok-of_block-in-Atomic.ensures) c.sum-in-Atomic.ensures

pub of_statement-returns-in_ok-of_block-in-Spawn : goal.of_statement-returns-in_ok-of_block-in-Spawn
of_statement-returns-in_ok-of_block-in-Spawn t c = rw (c.in-Spawn.is, inner_is_block c.in-Spawn.body, ← c.as_slice-in-Spawn.ensures.value, ← c.in_ok-of_block-in-Spawn.ensures) c.sum-in-Spawn.ensures
