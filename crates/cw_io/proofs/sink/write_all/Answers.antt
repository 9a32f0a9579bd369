use Rattle.std.proofs.Common.{arith, rules, length}
use Rattle.std.proofs.lemmas.Slice.{between_to_end}
use Rattle.cw_io.proofs.Told.{Appends-take, KeepsTelling-add}
use Rattle.cw_io.proofs.sink.write_all.Goals as goal

pub loop-done-preserved : goal.loop-done-preserved
loop-done-preserved g c =
    let rest_is = between_to_end c.args.text.now c.loop-done.done (length c.args.text.now) (omega arith) in
    record {
      within = search rules;
      appended = Appends-take _ _ _ c.args.text.now c.loop-done.done _ c.loop-done.invariant.appended (rw rest_is at c.in_ok-done.ensures.taken);
      told = KeepsTelling-add g.K.Sink.tells_for g.K.Sink.written _ _ _ c.loop-done.done _ c.loop-done.invariant.told c.in_ok-done.ensures.told;
      later = search rules;
    }
