use Rattle.cw_text.specs.Syntax.{term_of}
use Rattle.cw_text.proofs.Blocks.{inner_is_block}
use Rattle.std.proofs.lemmas.Result.{on_ok_weaker}
use Rattle.cw_text.proofs.Printing.{first_left}
use Rattle.cw_compile.proofs.Emitting.{choice_emitted, loop_emitted, atomic_emitted, spawn_emitted, emit_next}
use Rattle.cw_compile.proofs.emitter.Emitter.+walk.Goals as goal

pub statement-returns-in_ok-block-in-If-2 : goal.statement-returns-in_ok-block-in-If-2
statement-returns-in_ok-block-in-If-2 t c =
    rw (c.in-If.is, inner_is_block c.in-If.then, inner_is_block c.in-If.other, ← c.as_slice-in-If.ensures.value, ← c.as_slice-in-If-2.ensures.value, c.put.ensures, c.jump.ensures, c.place.ensures)
    (choice_emitted _ _ _ (term_of c.in-If.test) _ _ (rw c.plain.ensures at c.in_ok-emit.ensures) c.in_ok-skip-in-If.ensures.code c.in_ok-skip-in-If.ensures.last _ _ _ _ _ _ c.in_ok-block-in-If.ensures c.in_ok-pass-in-If.ensures.code c.in_ok-pass-in-If.ensures.last c.in_ok-block-in-If-2.ensures)

pub statement-returns-in_ok-emit-in-While : goal.statement-returns-in_ok-emit-in-While
statement-returns-in_ok-emit-in-While t c =
    rw (c.in-While.is, inner_is_block c.in-While.body, ← c.as_slice-in-While.ensures.value, c.put-in-While.ensures, c.jump_zero.ensures, c.place-in-While.ensures)
    (loop_emitted _ _ _ (term_of c.in-While.test) _ _ (rw c.plain.ensures at c.in_ok-emit.ensures) c.in_ok-skip-in-While.ensures.code c.in_ok-skip-in-While.ensures.last _ _ _ _ c.in_ok-block-in-While.ensures (rw c.jump-in-While.ensures at c.in_ok-emit-in-While.ensures) c.place-start.ensures)

pub statement-returns-in_ok-emit-in-Atomic-2 : goal.statement-returns-in_ok-emit-in-Atomic-2
statement-returns-in_ok-emit-in-Atomic-2 t c =
    rw (c.in-Atomic.is, inner_is_block c.in-Atomic.body, ← c.as_slice-body.ensures.value)
    (on_ok_weaker c.emit-in-Atomic-3.result (atomic_emitted _ _ _ _ _ _ _ c.args.ending _ (rw c.plain.ensures at c.in_ok-emit.ensures) (rw c.plain-in-Atomic.ensures at c.in_ok-emit-in-Atomic.ensures) (rw c.place-in-Atomic.ensures at c.in_ok-last-in-Atomic.ensures) c.in_ok-block-in-Atomic.ensures (rw c.plain-in-Atomic-2.ensures at c.in_ok-emit-in-Atomic-2.ensures)) (rw c.plain-in-Atomic-3.ensures at c.emit-in-Atomic-3.ensures))

pub statement-returns-in_ok-emit-in-Spawn-3 : goal.statement-returns-in_ok-emit-in-Spawn-3
statement-returns-in_ok-emit-in-Spawn-3 t c =
    rw (c.in-Spawn.is, inner_is_block c.in-Spawn.body, ← c.as_slice-in-Spawn.ensures.value, c.put-in-Spawn.ensures, c.fork-in-Spawn.ensures, c.place-in-Spawn.ensures)
    (spawn_emitted _ _ _ _ _ _ _ _ _ (rw c.plain.ensures at c.in_ok-emit.ensures) c.place-place.ensures (rw c.fork.ensures at c.in_ok-emit-in-Spawn.ensures) c.in_ok-block-in-Spawn.ensures (rw c.plain-in-Spawn.ensures at c.in_ok-emit-in-Spawn-2.ensures) (rw c.plain-in-Spawn-2.ensures at c.in_ok-emit-in-Spawn-3.ensures))

pub block-loop-statement-preserved : goal.block-loop-statement-preserved
block-loop-statement-preserved t c =
    rw c.in_ok-statement.ensures (emit_next _ _ _ _ _ _ (rw (first_left c.args.body.now c.loop-statement.statement-index c.statement-item.result c.loop-statement-test.true c.statement-item.is) at c.loop-statement.invariant))
