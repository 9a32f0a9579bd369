use Rattle.std.proofs.Common.{◌≡◌, ℕ, Some}
use Rattle.std.specs.List.{slice_get}
use Rattle.cw_serial.proofs.orders.Known.new.Given as goal

abbrev pub invariant-loop-name : goal.invariant-loop-name
invariant-loop-name l = (n i : ℕ) → slice_get l.numbers.items n ≡ Some (Some i) → ⊥
