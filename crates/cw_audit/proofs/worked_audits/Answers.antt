use Rattle.cw_audit.proofs.Worked.Rows.{sound_sheets, broken_sheets}
use Rattle.cw_audit.proofs.worked_audits.Goals as goal

pub returns-clause-sound : goal.returns-clause-sound
returns-clause-sound c = sound_sheets

pub returns-clause-broken : goal.returns-clause-broken
returns-clause-broken c = broken_sheets
