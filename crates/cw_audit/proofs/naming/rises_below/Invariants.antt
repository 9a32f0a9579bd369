use Rattle.std.proofs.Common.{◌≡◌, ℕ, ◌<◌, Some}
use Rattle.std.specs.Prelude.{slice_get}
use Rattle.cw_code.specs.declared.Back.{Back}
use Rattle.cw_audit.specs.Naming.{ComesNext}
use Rattle.cw_audit.proofs.naming.rises_below.Given as goal

abbrev pub invariant-loop-i : goal.invariant-loop-i
invariant-loop-i l = (j : ℕ) (e : Back) → j < l.i → slice_get l.back j ≡ Some e → ComesNext l.cells l.back j e
