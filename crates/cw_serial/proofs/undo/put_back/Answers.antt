use Rattle.std.proofs.Common.{◌≡◌, ◌∙◌, ◌++◌, ◌∷◌, map, rules, ap}
use Rattle.std.specs.BTreeMap.{IsOrdered}
use Rattle.std.specs.Ordering.{nat_cmp}
use Rattle.cw_serial.proofs.HeldBefore.{back_of, puts_next, puts_back}
use Rattle.cw_serial.proofs.undo.put_back.Goals as goal

pub loop-cell-init : goal.loop-cell-init
loop-cell-init c =
    let ordered : IsOrdered nat_cmp c.in_ok-held.held = search (rules, c.into_iter-cell-iterator.ensures.into_iter_gives) in
    let all : c.into_iter-cell-iterator.result ≡ c.in_ok-held.held.entries = search (rules, c.into_iter-cell-iterator.ensures.into_iter_gives) in
    ap (λ xs. xs ++ map back_of c.into_iter-cell-iterator.result) c.new-list.ensures ∙ (ap (map back_of) all ∙ puts_back c.args.writes.now c.args.memory.now c.in_ok-held.held ordered c.in_ok-held.ensures)

pub loop-cell-preserved : goal.loop-cell-preserved
loop-cell-preserved c =
    puts_next c.loop-cell.list c.push.new.self _ _ c.loop-cell.cell-iterator c.next.new.self c.in_ok-push.ensures.ok
    (c.in-Some.ensures.steps ∙ ap (λ v. (c.in-Some.cell.now, v) ∷ c.next.new.self) (search rules)) c.loop-cell.invariant
