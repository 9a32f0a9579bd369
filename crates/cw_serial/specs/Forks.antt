-- How all forks and joins are made that can be made: a fork at once, and a join after both its strands have come to their ends.
use Rattle.std.specs.Prelude.{◌≡◌, ℕ, suc, false}
use Rattle.cw_strand.specs.declared.want.Want.TheVariants.{Fork}
use Rattle.cw_strand.specs.Strands.{Strands, wants_fork}
use Rattle.cw_serial.specs.StrandTree.{stands, meet, goes_on}

-- A strand that wants no fork stays at its want. One that wants a fork waits for its two strands, which go on in the
-- same way, until they meet.
abbrev pub ForksAreMade : {A : Type 0} → Strands A → Type 0
ForksAreMade {A = A} s = (k : ℕ) (a : A)
    → (wants_fork (s.want a) ≡ false → goes_on s k a ≡ stands k a)
    × (s.want a ≡ Fork → goes_on s k a ≡ meet s (goes_on s) (suc k) (goes_on s 0 (s.left a)) (goes_on s 0 (s.right a)))
