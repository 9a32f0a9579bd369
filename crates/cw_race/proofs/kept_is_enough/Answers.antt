use Rattle.cw_race.proofs.Readers.{kept_is_enough, rivals_race}
use Rattle.cw_race.proofs.kept_is_enough.Goals as goal

pub returns-clause-enough : goal.returns-clause-enough
returns-clause-enough c = kept_is_enough

pub returns-clause-rivals : goal.returns-clause-rivals
returns-clause-rivals c = rivals_race
