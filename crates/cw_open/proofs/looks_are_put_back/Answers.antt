use Rattle.cw_open.proofs.Hands.PutBack.{beneath_is_last, found_are_put_back}
use Rattle.cw_open.proofs.looks_are_put_back.Goals as goal

pub returns : goal.returns
returns c = record { last = beneath_is_last; found = found_are_put_back }
