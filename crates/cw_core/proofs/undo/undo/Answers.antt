use Rattle.std.proofs.Common.{◌≡◌, ◌≢◌, ℕ, Bool, false, List, ap, sym, subst}
use Rattle.cw_stack.specs.Cells.{CellParts}
use Rattle.cw_core.proofs.Undone.Walking.{IsStep, step_of}
use Rattle.cw_core.proofs.Undone.UndoWalk.{Undoing, starts, may_cut, after_cut, after_none, all_undone}
use Rattle.cw_core.proofs.undo.undo.Goals.{then-down, else-down+then-node-block, then-down-2, else-down-2}
use Rattle.cw_core.proofs.undo.undo.Goals as goal

pub walk-init : goal.walk-init
walk-init c = starts c.args.tree.now c.parent.ensures.numbered.rooted c.args.block c.requires.block c.args.cells.now.items c.requires.cells

pub undo_access-requires-clause-cells : goal.undo_access-requires-clause-cells
undo_access-requires-clause-cells c = may_cut c.args.tree.now c.parent.ensures.numbered.rooted c.args.block c.requires.block c.args.cells.now.items c.requires.cells c.walk.node c.walk.down c.walk.cells.items c.walk.invariant

pub walk-smaller : goal.walk-smaller
walk-smaller c =
    let t = c.args.tree.now in
    let r = c.parent.ensures.numbered.rooted in
    let b = c.args.block in
    let ne : c.walk.down ≡ false → c.walk.node ≢ b = elim c.if-down.branch [ then-down w ↦ λ off. absurd (let on = w.if-down.true in cc (on, off)) | else-down+then-node-block w ↦ λ off. w.if-node-block.true ] in
    let P : ℕ × Bool → Type 0 = λ z. IsStep t r b c.walk.node c.walk.down z.0 z.1 in
    let step = subst P (sym c.next_in_walk.ensures) (step_of t r b c.walk.node c.walk.down c.walk.invariant.there c.walk.invariant.within ne) in
    step.smaller

pub walk-preserved : goal.walk-preserved
walk-preserved c =
    let t = c.args.tree.now in
    let r = c.parent.ensures.numbered.rooted in
    let b = c.args.block in
    let ne : c.walk.down ≡ false → c.walk.node ≢ b = elim c.if-down.branch [ then-down w ↦ λ off. absurd (let on = w.if-down.true in cc (on, off)) | else-down+then-node-block w ↦ λ off. w.if-node-block.true ] in
    let P : ℕ × Bool → Type 0 = λ z. IsStep t r b c.walk.node c.walk.down z.0 z.1 in
    let step = subst P (sym c.next_in_walk.ensures) (step_of t r b c.walk.node c.walk.down c.walk.invariant.there c.walk.invariant.within ne) in
    let old = c.args.cells.now.items in
    let m = c.next_in_walk.result.0 in
    let e = c.next_in_walk.result.1 in
    let Q : List CellParts → Type 0 = λ cells. Undoing t b old cells m e in
    elim c.if-down-2.branch [
      | then-down-2 w ↦ subst Q (sym (ap (λ v. v.items) w.cells-is)) (after_cut t r b c.requires.block old c.requires.cells c.walk.node c.walk.down c.walk.cells.items w.undo_access.new.cells.items m e c.walk.invariant step w.undo_access.ensures)
      | else-down-2 w ↦ subst Q (sym (ap (λ v. v.items) w.cells-is)) (after_none t r b c.requires.block old c.requires.cells c.walk.node c.walk.down c.walk.cells.items m e c.walk.invariant step w.if-down-2.false)
    ]

pub returns : goal.returns
returns c =
    let t = c.args.tree.now in
    let here : c.walk.node ≡ c.args.block = c.if-node-block.false in
    let off : c.walk.down ≡ false = c.if-down.false in
    let P : ℕ → Type 0 = λ n. Undoing t c.args.block c.args.cells.now.items c.walk.cells.items n c.walk.down in
    let Q : Bool → Type 0 = λ d. Undoing t c.args.block c.args.cells.now.items c.walk.cells.items c.args.block d in
    all_undone t c.parent.ensures.numbered.rooted c.args.block c.requires.block c.args.cells.now.items c.requires.cells c.walk.cells.items (subst Q off (subst P here c.walk.invariant))
