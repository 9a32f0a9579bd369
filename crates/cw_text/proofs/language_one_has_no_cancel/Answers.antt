use Rattle.cw_text.proofs.Cancels.{language_one_has_none, newest_one_has_none}
use Rattle.cw_text.proofs.language_one_has_no_cancel.Goals as goal

pub returns-clause-language : goal.returns-clause-language
returns-clause-language c = language_one_has_none

pub returns-clause-newest : goal.returns-clause-newest
returns-clause-newest c = newest_one_has_none
