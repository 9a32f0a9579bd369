use Rattle.std.proofs.Common.{pos, false, arith}
use Rattle.cw_tree.specs.declared.access.Entry.{Entry}
use Rattle.cw_stack.proofs.Rolling.{smaller_front, stopped_at, goes_down}
use Rattle.cw_board.proofs.cancelling.place_of.Goals as goal

no_entry : Entry
no_entry = record { mark = record { strand = 0; stamp = 0 }; wrote = false; value = pos 0; old = pos 0 }

pub loop-place-preserved : goal.loop-place-preserved
unfolding no_entry
loop-place-preserved c =
    let there = c.loop-place.invariant.0 in
    (omega arith, goes_down c.args.entries.now c.args.stamp c.loop-place.place no_entry there c.loop-place-test.true c.loop-place.invariant.1)

pub returns-clause-entries : goal.returns-clause-entries
unfolding no_entry
returns-clause-entries c =
    smaller_front c.args.entries.now c.loop-place.place c.args.stamp c.requires.rising c.loop-place.invariant.0
    (stopped_at c.args.entries.now c.args.stamp c.loop-place.place no_entry c.requires.rising c.requires.there c.loop-place.invariant.0 c.loop-place-test.false c.loop-place.invariant.1)
