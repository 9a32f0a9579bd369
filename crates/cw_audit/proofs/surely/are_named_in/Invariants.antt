use Rattle.std.proofs.Common.{◌≡◌, ℕ, ◌<◌, Some}
use Rattle.std.specs.Prelude.{slice_get}
use Rattle.cw_code.specs.declared.Back.{Back}
use Rattle.cw_audit.specs.Naming.{NamesIn}
use Rattle.cw_audit.proofs.surely.are_named_in.Given as goal

abbrev pub invariant-loop-i : goal.invariant-loop-i
invariant-loop-i l = (j : ℕ) (e : Back) → j < l.i → slice_get l.back j ≡ Some e → NamesIn l.tree l.cancels l.block e.cell
