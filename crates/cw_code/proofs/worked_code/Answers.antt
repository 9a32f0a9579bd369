use Rattle.std.proofs.Common.{refl}
use Rattle.cw_code.proofs.worked_code.Goals as goal

pub returns-clause-verdicts : goal.returns-clause-verdicts
returns-clause-verdicts c = record {
  table = refl;
  no_operands = refl;
  sound = refl;
  no_target = refl;
  no_end = refl;
  two_heights = refl;
  to_itself = refl;
  to_a_tick = refl;
  no_index = refl;
  from_behind = refl;
  growing = refl;
  to_the_next = refl;
  outside = refl;
  given_up = refl;
  operand_left = refl;
  in_fork = refl;
  block_in_fork = refl;
  from_under = refl;
  nothing_behind = refl;
  other_order = refl;
  no_function = refl;
  unknown = refl;
}
