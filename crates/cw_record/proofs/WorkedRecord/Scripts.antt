-- The depth of scripts.
use Rattle.std.proofs.Common.{◌≡◌, ◌<◌, ◌≤◌, arith, true}
use Rattle.cw_strand.specs.declared.want.Want.TheVariants.{Fork}
use Rattle.cw_strand.specs.declared.want.Given.{Given}
use Rattle.cw_strand.specs.Strands.{takes_answer, IsDeep}
use Rattle.cw_record.specs.Scripts.{Script, done, sync, act, fork, wants_of, after_answer, left_of, right_of, behind_sync, script_size, scripted}

left_less : (x : Script) → wants_of x ≡ Fork → script_size (left_of x) < script_size x
left_less done e = absurd (cc e)
left_less (sync x) e = absurd (cc e)
left_less (act w x) e = omega arith
left_less (fork l r) e = omega arith

right_less : (x : Script) → wants_of x ≡ Fork → script_size (right_of x) < script_size x
right_less done e = absurd (cc e)
right_less (sync x) e = absurd (cc e)
right_less (act w x) e = omega arith
right_less (fork l r) e = omega arith

answer_less : (x : Script) (given : Given) → takes_answer (wants_of x) ≡ true → script_size (after_answer x) < script_size x
answer_less done given e = absurd (cc e)
answer_less (sync x) given e = absurd (cc e)
answer_less (act w x) given e = omega arith
answer_less (fork l r) given e = absurd (cc e)

joined_low : (r : Script) → script_size (behind_sync r) ≤ script_size r
joined_low done = omega arith
joined_low (sync x) = omega arith
joined_low (act w x) = omega arith
joined_low (fork l r) = omega arith

pub deep : (main : Script) → IsDeep (scripted main)
deep main = record { left = left_less; right = right_less; answer = answer_less; joined = λ r l. joined_low r }
