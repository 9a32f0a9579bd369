use Rattle.std.proofs.Common.{refl}
use Rattle.cw_race.proofs.worked_races.Goals as goal

pub returns-clause-later : goal.returns-clause-later
returns-clause-later c = λ first. (let none = first.soonest 5 7 refl in absurd (cc none))
