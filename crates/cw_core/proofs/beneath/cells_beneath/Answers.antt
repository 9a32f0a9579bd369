use Rattle.std.proofs.Common.{◌≡◌, ◌≢◌, ℕ, Bool, false, ap, sym, subst}
use Rattle.std.specs.Map.{lookup}
use Rattle.std.specs.BTreeMap.{BTreeMap, is_at}
use Rattle.std.specs.Ordering.{nat_cmp}
use Rattle.cw_core.specs.declared.beneath.Touched.{Touched}
use Rattle.cw_core.proofs.Undone.Walking.{IsStep, step_of}
use Rattle.cw_core.proofs.Touched.Noting.{Noting, starts, after_noted, after_none, all_noted}
use Rattle.cw_core.proofs.beneath.cells_beneath.Goals.{then-down, else-down+then-node-block, then-down-2+in_ok-note_node, else-down-2}
use Rattle.cw_core.proofs.beneath.cells_beneath.Goals as goal

pub walk-init : goal.walk-init
walk-init c =
    starts c.args.tree.now c.parent.ensures.numbered.rooted c.args.block c.requires.there c.requires.block c.requires.live c.new-touched.result
    (λ n. ap (lookup (is_at (nat_cmp n))) c.new-touched.ensures.empty)

pub note_node-requires : goal.note_node-requires
note_node-requires c = c.walk.invariant.there

pub next_in_walk-requires : goal.next_in_walk-requires
next_in_walk-requires c = c.walk.invariant.there

pub walk-smaller : goal.walk-smaller
walk-smaller c =
    let t = c.args.tree.now in
    let r = c.parent.ensures.numbered.rooted in
    let b = c.args.block in
    let ne : c.walk.down ≡ false → c.walk.node ≢ b = elim c.if-down.branch [
      | then-down w ↦ λ off. absurd (let on = w.if-down.true in cc
          (on, off))
      | else-down+then-node-block w ↦ λ off. w.if-node-block.true
    ] in
    let P : ℕ × Bool → Type 0 = λ z. IsStep t r b c.walk.node c.walk.down z.0 z.1 in
    let step = subst P (sym c.next_in_walk.ensures) (step_of t r b c.walk.node c.walk.down c.walk.invariant.there c.walk.invariant.within ne) in
    step.smaller

pub walk-preserved : goal.walk-preserved
walk-preserved c =
    let t = c.args.tree.now in
    let r = c.parent.ensures.numbered.rooted in
    let b = c.args.block in
    let ne : c.walk.down ≡ false → c.walk.node ≢ b = elim c.if-down.branch [
      | then-down w ↦ λ off. absurd (let on = w.if-down.true in cc
          (on, off))
      | else-down+then-node-block w ↦ λ off. w.if-node-block.true
    ] in
    let P : ℕ × Bool → Type 0 = λ z. IsStep t r b c.walk.node c.walk.down z.0 z.1 in
    let step = subst P (sym c.next_in_walk.ensures) (step_of t r b c.walk.node c.walk.down c.walk.invariant.there c.walk.invariant.within ne) in
    let m = c.next_in_walk.result.0 in
    let e = c.next_in_walk.result.1 in
    let Q : BTreeMap ℕ Touched → Type 0 = λ touched. Noting t b touched m e in
    elim c.if-down-2.branch [
      | then-down-2+in_ok-note_node w ↦ subst Q (sym w.touched-is) (after_noted t r b c.requires.there c.requires.block c.walk.node c.walk.down
          c.walk.touched w.note_node.new.touched m e c.walk.invariant step w.in_ok-note_node.ensures)
      | else-down-2 w ↦ subst Q (sym w.touched-is) (after_none t r b c.requires.there c.requires.block c.walk.node c.walk.down c.walk.touched m e
          c.walk.invariant step w.if-down-2.false)
    ]

pub returns : goal.returns
returns c =
    let t = c.args.tree.now in
    let here : c.walk.node ≡ c.args.block = c.if-node-block.false in
    let off : c.walk.down ≡ false = c.if-down.false in
    let P : ℕ → Type 0 = λ n. Noting t c.args.block c.walk.touched n c.walk.down in
    let Q : Bool → Type 0 = λ d. Noting t c.args.block c.walk.touched c.args.block d in
    all_noted t c.parent.ensures.numbered.rooted c.args.block c.requires.there c.requires.block c.walk.touched (subst Q off (subst P here c.walk.invariant))
