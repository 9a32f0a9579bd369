use Rattle.cw_replay.proofs.SameMachines.SameMachines.{same_ends, same_machines}
use Rattle.cw_replay.proofs.same_wants_same_machine.Goals as goal

pub returns-clause-machines : goal.returns-clause-machines
returns-clause-machines g c = λ s t deep other_deep same. same_machines s t same deep other_deep

pub returns-clause-ends : goal.returns-clause-ends
returns-clause-ends g c = λ s t deep other_deep same. same_ends s t same deep other_deep
