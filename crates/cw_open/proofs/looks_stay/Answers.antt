use Rattle.cw_open.proofs.Hands.Looked.{newest_are_beneath, one_block_has, beneath_stays, looks_stay}
use Rattle.cw_open.proofs.looks_stay.Goals as goal

pub returns : goal.returns
returns c = record { newest = newest_are_beneath; one = one_block_has; list = beneath_stays; looks = looks_stay }
