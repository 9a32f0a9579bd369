-- The linear congruential generator with the constants of Knuth's MMIX.
use Rattle.std.specs.Prelude.{◌≡◌, ℕ, ◌+◌, ◌*◌, ◌/◌, ◌%◌, ◌^◌}

-- the state after s
abbrev pub next_state : ℕ → ℕ
next_state s = (s * 6364136223846793005 + 1442695040888963407) % 2 ^ 64

-- the number that is drawn when s is the new state: its top 32 bits
abbrev pub drawn : ℕ → ℕ
drawn s = s / 2 ^ 32

-- What generators that begin with state 0 and state 1 draw first.
pub record FirstDraws : Type 0 where
  pub of_zero : drawn (next_state 0) ≡ 335903614
  pub of_one : drawn (next_state 1) ≡ 1817669548
