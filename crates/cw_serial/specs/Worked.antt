-- Worked runs of the machine over strands of no program.
use Rattle.std.specs.Prelude.{ℕ, zero, suc, ◌-◌, ◌≡◌, List, [], ◌∷◌}
use Rattle.cw_strand.specs.declared.want.Want.{Want}
use Rattle.cw_strand.specs.declared.want.Want.TheVariants.{Begin, End, Cancel, Fork, Done}
use Rattle.cw_strand.specs.Strands.{Strands}
use Rattle.cw_serial.specs.declared.ends.SerialEnd.{SerialEnd}
use Rattle.cw_serial.specs.declared.ends.SerialEnd.TheVariants as last
use Rattle.cw_serial.specs.Machine.{serial_end}
use Rattle.cw_serial.specs.TableInMemory.{root, left_name, right_name}

-- the root begins a block and forks, and the left strand has the want w
abbrev pub crossing : Want → Strands ℕ
crossing w = record { elements = 0; start = 0; want = λ a. wants a; answer = λ a given. suc a; left = λ a. 2; right = λ a. 3; joined = λ r l. 3; depth = λ a. 9 - a } where
  wants : ℕ → Want
  wants zero = Begin
  wants (suc zero) = Fork
  wants (suc (suc zero)) = w
  wants (suc (suc (suc a))) = Done

abbrev pub crossed : Want → List ℕ → SerialEnd
crossed w list = serial_end (crossing w) [] (record { names = root ∷ left_name 0 1 ∷ right_name 0 1 ∷ []; list = list; last = 1 })

-- the left strand is inside the block, but can neither end it nor give it up, since the block is not its own
abbrev pub CrossingEnds : Type 0
CrossingEnds =
    (crossed End (0 ∷ []) ≡ last.At 1)
    × (crossed End (0 ∷ 1 ∷ []) ≡ last.Stuck 1)
    × (crossed Cancel (0 ∷ []) ≡ last.At 1)
    × (crossed Cancel (0 ∷ 1 ∷ []) ≡ last.Stuck 1)
