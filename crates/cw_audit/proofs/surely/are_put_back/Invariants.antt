use Rattle.std.proofs.Common.{◌≡◌, ℕ, ◌<◌, Some}
use Rattle.std.specs.Prelude.{slice_get}
use Rattle.cw_code.specs.declared.Back.{Back}
use Rattle.cw_audit.specs.Naming.{IsPutBack}
use Rattle.cw_audit.proofs.surely.are_put_back.Given as goal

abbrev pub invariant-loop-i : goal.invariant-loop-i
invariant-loop-i l = (j : ℕ) (e : Back) → j < l.i → slice_get l.back j ≡ Some e → IsPutBack l.tree l.first l.block l.stamp e
