use Rattle.std.proofs.Common.{◌<◌, ◌∙◌, ap, sym, arith, length, subst, ℕ, List, nat_eq}
use Rattle.std.specs.Prelude.{All}
use Rattle.std.specs.List.{IsDistinct}
use Rattle.cw_sp.proofs.Lines.{leaves_there, leaves_once, leaves_few, no_elements}
use Rattle.cw_sp.proofs.line.Line.of_walk.Goals as goal

pub insert_leaves-requires-clause-there : goal.insert_leaves-requires-clause-there
insert_leaves-requires-clause-there c =
    let low : ℕ → Type 0 = λ n. n < length c.in_ok-elements.elements.items in
    let P : List ℕ → Type 0 = All low in
    subst P (sym (c.as_slice.ensures.value ∙ c.in_ok-leaves.ensures)) (
    leaves_there c.args.tree.now c.args.order.now c.requires low (λ v h. omega (arith, h, c.in_ok-elements.ensures.len, ap length c.nodes-count.ensures.nodes))
    )

pub insert_leaves-requires-clause-once : goal.insert_leaves-requires-clause-once
insert_leaves-requires-clause-once c =
    let P : List ℕ → Type 0 = IsDistinct nat_eq in
    subst P (sym (c.as_slice.ensures.value ∙ c.in_ok-leaves.ensures)) (leaves_once c.args.tree.now c.args.order.now c.requires)

pub insert_leaves-requires-clause-distinct : goal.insert_leaves-requires-clause-distinct
insert_leaves-requires-clause-distinct c = let P : List ℕ → Type 0 = IsDistinct nat_eq in subst P (sym c.in_ok-list.ensures.empty) no_elements

pub insert_leaves-requires-clause-room : goal.insert_leaves-requires-clause-room
insert_leaves-requires-clause-room c =
    omega (arith, ap length c.in_ok-list.ensures.empty, c.in_ok-list.ensures.room, ap length c.nodes-count.ensures.nodes, leaves_few c.args.tree.now c.args.order.now c.requires, ap length (c.as_slice.ensures.value ∙ c.in_ok-leaves.ensures))
