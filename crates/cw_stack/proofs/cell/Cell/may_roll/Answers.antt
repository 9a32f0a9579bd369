use Rattle.std.proofs.Common.{List, drop, ap, sym, ◌∙◌, subst, ◌↔◌, IsTrue}
use Rattle.std.specs.Prelude.{Contains}
use Rattle.std.specs.List.Sorted.{IsStrictlyIncreasing}
use Rattle.std.proofs.lemmas.List.{take_rest}
use Rattle.cw_tree.specs.declared.access.Entry.{Entry}
use Rattle.cw_tree.specs.AccessStacks.{stamps}
use Rattle.cw_stack.specs.Cells.{CellParts}
use Rattle.cw_stack.proofs.Rising.{rising_rest}
use Rattle.cw_stack.proofs.cell.Cell.may_roll.Goals as goal

pub has_stamp-requires : goal.has_stamp-requires
has_stamp-requires c =
    let now = c.deref.result.now in
    let rises = subst (λ es. IsStrictlyIncreasing (stamps es)) (sym c.deref.ensures.value) c.self.invariant.rising in
    subst (λ es. IsStrictlyIncreasing (stamps es)) (sym (take_rest now c.self.inside.cleaned)) (rising_rest c.self.inside.cleaned now rises)

pub returns : goal.returns
returns c =
    let now = c.deref.result.now in
    let P : List Entry → Type 0 = λ es. IsTrue c.has_stamp.result ↔ Contains (stamps es) c.args.first in
    let Q : CellParts → Type 0 = λ p. P (drop p.cleaned p.entries) in
    subst Q c.self.view_is (subst P (take_rest now c.self.inside.cleaned ∙ ap (drop c.self.inside.cleaned) c.deref.ensures.value) c.has_stamp.ensures)
