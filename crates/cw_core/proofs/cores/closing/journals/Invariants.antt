use Rattle.std.proofs.Common.{◌≡◌, ℕ, ◌<◌, map, take, Some}
use Rattle.std.specs.Prelude.{slice_get}
use Rattle.cw_stack.specs.Cells.{CellParts, AreSteps}
use Rattle.cw_core.proofs.cores.closing.journals.Given as goal

abbrev pub invariant-loop-cell : goal.invariant-loop-cell
invariant-loop-cell l =
    record {
      entries : l.journals.items ≡ map (λ c. c.entries) (take l.cell-index l.cells);
      steps : (i : ℕ) (c : CellParts) → slice_get l.cells i ≡ Some c → i < l.cell-index → AreSteps c.first c.entries;
    }
