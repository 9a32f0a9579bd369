use Rattle.std.proofs.Common.{rules, SFits, w64}
use Rattle.std.proofs.lemmas.Int.{to_z-of_z}
use Rattle.cw_serial.proofs.HeldBefore.{past_more, next_more}
use Rattle.cw_serial.proofs.undo.held_before.Goals as goal

pub loop-write-preserved-in_ok-insert : goal.loop-write-preserved-in_ok-insert
loop-write-preserved-in_ok-insert c =
    let fits : SFits w64 c.in-Some.write.now.replaced = search rules in
    next_more c.args.elements c.args.writes.now _ c.next.new.self.iter.rest.now c.in-Some.write.now _ c.loop-write.invariant c.in-Some.ensures.steps c.insert.new.self _ c.if-write-elements.true (to_z-of_z w64 _ fits) c.in_ok-insert.ensures.updates

pub loop-write-preserved : goal.loop-write-preserved
loop-write-preserved c = past_more c.args.elements c.args.writes.now _ c.next.new.self.iter.rest.now c.in-Some.write.now _ c.loop-write.invariant c.in-Some.ensures.steps c.if-write-elements.false
