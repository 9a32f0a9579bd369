use Rattle.std.proofs.Common.{◌≡◌, ℕ, List, map, Some, ap, ◌∙◌, subst}
use Rattle.std.specs.Prelude.{slice_get}
use Rattle.cw_stack.specs.Cells.{CellParts, AreSteps}
use Rattle.cw_tree.specs.InOrder.{halt_in_order}
use Rattle.cw_core.specs.Closing.{journals_of}
use Rattle.cw_core.proofs.Events.Journals.{closed_journals}
use Rattle.cw_core.proofs.cores.Core.close.Goals as goal

pub returns-in-Ok-in_order-clause-journals : goal.returns-in-Ok-in_order-clause-journals
returns-in-Ok-in_order-clause-journals c =
    let P : List CellParts → Type 0 = λ cells. (i : ℕ) (x : CellParts) → slice_get cells i ≡ Some x → AreSteps x.first x.entries in
    let steps = subst P c.as_slice.ensures.value c.in-Ok.ensures.steps in
    c.in-Ok-in_order.ensures.journals
    ∙ c.in-Ok.ensures.entries
    ∙ ap (map (λ x. x.entries)) c.as_slice.ensures.value
    ∙ closed_journals c.self.inside c.self.invariant steps
    ∙ ap journals_of c.self.view_is

pub returns-in-Ok-in_order-clause-halt : goal.returns-in-Ok-in_order-clause-halt
returns-in-Ok-in_order-clause-halt c =
    c.in-Ok-in_order.ensures.halt
    ∙ ap (λ t. halt_in_order t c.self.inside.halt) c.into_parts-tree.ensures.tree
    ∙ ap (λ k. halt_in_order k.machine.tree k.halt) c.self.view_is
