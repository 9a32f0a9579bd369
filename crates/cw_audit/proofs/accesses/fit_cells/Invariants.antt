use Rattle.std.proofs.Common.{ℕ, ◌<◌}
use Rattle.std.specs.Prelude.{IsTrue}
use Rattle.cw_tree.specs.Journals.{fits_cells}
use Rattle.cw_tree.specs.Nodes.{is_node}
use Rattle.cw_audit.proofs.accesses.fit_cells.Given as goal

abbrev pub invariant-loop-n : goal.invariant-loop-n
invariant-loop-n l = (n : ℕ) → n < l.n → IsTrue (is_node (λ x. fits_cells l.count x.kind) l.tree n)
