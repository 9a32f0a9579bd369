use Rattle.std.proofs.Common.{refl}
use Rattle.cw_text.proofs.worked_texts.Goals as goal

pub returns-clause-arrays : goal.returns-clause-arrays
returns-clause-arrays c = (refl, refl, refl, refl, refl, refl, refl, refl, refl)

pub returns-clause-choices : goal.returns-clause-choices
returns-clause-choices c = (refl, refl, refl, refl, refl, refl, refl, refl, refl, refl)

pub returns-clause-functions : goal.returns-clause-functions
returns-clause-functions c = (refl, refl, refl, refl, refl, refl, refl, refl, refl, refl, refl, refl, refl, refl, refl)

pub returns-clause-heights : goal.returns-clause-heights
returns-clause-heights c = (refl, refl, refl, refl, refl, refl)

pub returns-clause-brackets : goal.returns-clause-brackets
returns-clause-brackets c = (refl, refl, refl, refl)

pub returns-clause-indexes : goal.returns-clause-indexes
returns-clause-indexes c = (refl, refl)

pub returns-clause-branches : goal.returns-clause-branches
returns-clause-branches c = (refl, refl, refl)

pub returns-clause-calls : goal.returns-clause-calls
returns-clause-calls c = (refl, refl, refl, refl)

pub returns-clause-languages : goal.returns-clause-languages
returns-clause-languages c = (refl, refl, refl, refl, refl, refl, refl, refl, refl, refl, refl, refl, refl, refl, refl, refl, refl, refl, refl, refl, refl, refl, refl, refl, refl, refl, refl)
