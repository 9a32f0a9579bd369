-- The strands of the fork are nodes, and whether they have finished is as in the definition.
use Rattle.std.proofs.Common.{◌+◌, sym, arith}
use Rattle.std.proofs.lemmas.Bool.{and_left, and_right}
use Rattle.std.proofs.lemmas.Result.{on_ok_weaker}
use Rattle.cw_open.specs.Machine.{has_finished}
use Rattle.cw_sim.proofs.InMemory.Meets.{nodes_there, may_join, met_joins, met_alone}
use Rattle.cw_sim.proofs.moves.Driver.join_or_idle.Goals as goal
use Rattle.cw_sim.proofs.moves.Driver.join_or_idle.Goals.{else-has_finished-via-then-has_finished+else-has_finished-2, else-has_finished-via-else-has_finished}

pub has_finished-requires : goal.has_finished-requires
has_finished-requires c = let low = nodes_there c.args.self.now c.args.w c.args.fork c.requires.0 c.requires.1 in omega (arith, low)

pub overflow_add-fork-then-has_finished : goal.overflow_add-fork-then-has_finished
overflow_add-fork-then-has_finished c = let low = nodes_there c.args.self.now c.args.w c.args.fork c.requires.0 c.requires.1 in omega (arith, low, c.hint.ensures)

pub has_finished-requires-then-has_finished : goal.has_finished-requires-then-has_finished
has_finished-requires-then-has_finished c = nodes_there c.args.self.now c.args.w c.args.fork c.requires.0 c.requires.1

pub join_strands-requires : goal.join_strands-requires
join_strands-requires c = (c.requires.0, may_join c.args.self.now c.args.w c.args.fork c.requires.0 c.requires.1 (sym c.if-has_finished.ensures) (sym c.if-has_finished-2.ensures))

pub returns-then-has_finished-2 : goal.returns-then-has_finished-2
returns-then-has_finished-2 c =
    on_ok_weaker c.join_strands.result
    (λ comes z may. met_joins c.args.self.now c.args.w c.args.fork z may (sym c.if-has_finished.ensures) (sym c.if-has_finished-2.ensures) c.join_strands.new.self (comes z))
    c.join_strands.ensures

pub returns : goal.returns
returns c z may =
    let k = c.args.self.now.core.machine in
    let f = c.args.fork in
    let left = has_finished k (f + 1) in
    let right = has_finished k (f + 2) in
    met_alone c.args.self.now c.args.w f z may
    (elim c.else-has_finished.branch [
      | else-has_finished-via-then-has_finished+else-has_finished-2 w ↦ and_right left right (sym w.if-has_finished-2.ensures)
      | else-has_finished-via-else-has_finished w ↦ and_left left right (sym w.if-has_finished.ensures)
    ])
    (record c.args.self.now { workers = c.with_run.new.workers }) c.with_run.ensures
