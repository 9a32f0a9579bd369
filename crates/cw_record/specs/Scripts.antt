-- Strands for small records: each does what its script says, whatever the answers are.
use Rattle.std.specs.Prelude.{ℕ, ◌+◌}
use Rattle.cw_strand.specs.declared.want.Want.{Want}
use Rattle.cw_strand.specs.declared.want.Want.TheVariants.{Fork, Sync, Done}
use Rattle.cw_strand.specs.Strands.{Strands}

pub data Script : Type 0 where
  -- nothing is left
  done : Script
  -- a right strand at its end, and what is done after the fork
  sync : Script → Script
  -- a want, and what is done after it
  act : Want → Script → Script
  -- the two strands of a fork; what is done after the fork follows in the right one
  fork : (left right : Script) → Script

abbrev pub wants_of : Script → Want
wants_of done = Done
wants_of (sync x) = Sync
wants_of (act w x) = w
wants_of (fork l r) = Fork

abbrev pub after_answer : Script → Script
after_answer (act w x) = x
after_answer x = x

abbrev pub left_of : Script → Script
left_of (fork l r) = l
left_of x = done

abbrev pub right_of : Script → Script
right_of (fork l r) = r
right_of x = done

abbrev pub behind_sync : (right : Script) → Script
behind_sync (sync x) = x
behind_sync x = x

-- the number of wants and forks in a script
abbrev pub script_size : Script → ℕ
script_size done = 0
script_size (sync x) = script_size x
script_size (act w x) = 1 + script_size x
script_size (fork l r) = 1 + script_size l + script_size r

-- the strands of a main with this script
abbrev pub scripted : Script → Strands Script
scripted main = record {
  elements = 0;
  start = main;
  want = wants_of;
  answer = λ x given. after_answer x;
  left = left_of;
  right = right_of;
  joined = λ r l. behind_sync r;
  depth = script_size;
}
