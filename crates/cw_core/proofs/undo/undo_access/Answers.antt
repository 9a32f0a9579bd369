use Rattle.std.proofs.Common.{◌≡◌, ℕ, true, ap, sym, ◌∙◌, subst, arith, refl}
use Rattle.std.proofs.lemmas.Bool.{eq-eqb}
use Rattle.std.proofs.lemmas.Option.{slice_get_within, get_or_from_slice_get}
use Rattle.cw_tree.specs.Nodes.{stamp_of, touches}
use Rattle.cw_stack.specs.Cells.{CellParts}
use Rattle.cw_core.specs.Undone.{HasIfLater, IsLeftWith, before_stamp}
use Rattle.cw_core.proofs.Undone.Undoing.{touches_is, cut_one}
use Rattle.cw_core.proofs.undo.undo_access.Goals as goal
use Rattle.cw_tree.proofs.Walks.There.{stamp_is}

pub index_mut-requires : goal.index_mut-requires
index_mut-requires c =
    let here : touches c.args.tree.now c.in-Some.cell c.args.node ≡ true = touches_is c.args.tree.now c.args.node c.node-access.result.now
    c.in-Some.cell c.node-access.ensures (sym c.in-Some.is ∙ c.cell_of.ensures) c.in-Some.cell ∙ eq-eqb c.in-Some.cell c.in-Some.cell refl in
    let x = c.requires.cells c.in-Some.cell here in
    omega (arith, slice_get_within c.args.cells.now.items c.in-Some.cell x.0 x.1)

pub cut-requires-clause-whole : goal.cut-requires-clause-whole
cut-requires-clause-whole c =
    let here : touches c.args.tree.now c.in-Some.cell c.args.node ≡ true = touches_is c.args.tree.now c.args.node c.node-access.result.now
    c.in-Some.cell c.node-access.ensures (sym c.in-Some.is ∙ c.cell_of.ensures) c.in-Some.cell ∙ eq-eqb c.in-Some.cell c.in-Some.cell refl in
    let x = c.requires.cells c.in-Some.cell here in
    let is : c.index_mut.result.now ≡ x.0 = c.index_mut.ensures.value ∙ get_or_from_slice_get c.args.cells.now.items c.in-Some.cell x.0
    c.index_mut.result.now x.1 in
    ap (λ y. y.cleaned) is ∙ x.2

pub cut-requires-clause-there : goal.cut-requires-clause-there
cut-requires-clause-there c =
    let here : touches c.args.tree.now c.in-Some.cell c.args.node ≡ true = touches_is c.args.tree.now c.args.node c.node-access.result.now
    c.in-Some.cell c.node-access.ensures (sym c.in-Some.is ∙ c.cell_of.ensures) c.in-Some.cell ∙ eq-eqb c.in-Some.cell c.in-Some.cell refl in
    let x = c.requires.cells c.in-Some.cell here in
    let is : c.index_mut.result.now ≡ x.0 = c.index_mut.ensures.value ∙ get_or_from_slice_get c.args.cells.now.items c.in-Some.cell x.0
    c.index_mut.result.now x.1 in
    let P : CellParts → Type 0 = λ y. HasIfLater c.node-access.result.now.stamp y.entries in
    let Q : ℕ → Type 0 = λ s. HasIfLater s x.0.entries in
    subst P (sym is) (subst Q (stamp_is c.args.tree.now c.args.node c.node-access.result.now c.node-access.ensures) x.3)

pub returns-in-Some : goal.returns-in-Some
returns-in-Some c =
    let touched = touches_is c.args.tree.now c.args.node c.node-access.result.now c.in-Some.cell c.node-access.ensures (sym c.in-Some.is
    ∙ c.cell_of.ensures) in
    let x = c.requires.cells c.in-Some.cell (touched c.in-Some.cell ∙ eq-eqb c.in-Some.cell c.in-Some.cell refl) in
    let is : c.index_mut.result.now ≡ x.0 = c.index_mut.ensures.value ∙ get_or_from_slice_get c.args.cells.now.items c.in-Some.cell x.0
    c.index_mut.result.now x.1 in
    let stamp = stamp_is c.args.tree.now c.args.node c.node-access.result.now c.node-access.ensures in
    let left : IsLeftWith x.0 c.cut.new.cell (before_stamp (stamp_of c.args.tree.now c.args.node) x.0.entries) = record {
      first = c.cut.ensures.first ∙ ap (λ y. y.first) is;
      cleaned = c.cut.ensures.cleaned ∙ ap (λ y. y.cleaned) is;
      entries = c.cut.ensures.entries ∙ ap (λ y. before_stamp c.node-access.result.now.stamp y.entries) is ∙ ap (λ s. before_stamp s x.0.entries) (sym stamp);
    } in
    cut_one c.args.tree.now c.args.node c.in-Some.cell c.args.cells.now.items x.0 c.cut.new.cell touched x.1 left
