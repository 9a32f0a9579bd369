use Rattle.std.specs.BTreeMap.{get}
use Rattle.cw_record.specs.Walked.{step_cmp}
use Rattle.cw_record.proofs.Walked.SameNames.{Named}
use Rattle.cw_record.proofs.listed.Turns.same_names.Given as goal

abbrev pub invariant-loop-n : goal.invariant-loop-n
invariant-loop-n l = Named l.tree l.n l.same.items (get step_cmp l.strands)
