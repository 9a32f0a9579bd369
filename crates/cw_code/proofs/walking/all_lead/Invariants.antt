use Rattle.cw_code.specs.Walked.{AllLead}
use Rattle.cw_code.proofs.walking.all_lead.Given as goal

abbrev pub invariant-loop-n : goal.invariant-loop-n
invariant-loop-n l = AllLead l.code l.func l.levels l.n
