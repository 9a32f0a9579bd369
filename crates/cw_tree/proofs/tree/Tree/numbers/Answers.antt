use Rattle.std.proofs.Common.{arith, ap, ◌+◌, ◌<◌, ℕ, List, length, get_or, set, subst, sym}
use Rattle.cw_tree.proofs.InOrder.Visits.{as_many}
use Rattle.cw_tree.proofs.InOrder.Renumbered.{Placed, some_node, visited_there, placed_step, placed_end}
use Rattle.cw_tree.proofs.tree.Tree.numbers.Goals as goal

pub overflow_cast-place : goal.overflow_cast-place
overflow_cast-place c =
    let w = c.nodes-count.ensures.numbered in
    omega (arith, ap length c.requires, as_many c.args.self.now w.rooted (some_node c.args.self.now w), w.few)

pub index_mut-requires : goal.index_mut-requires
index_mut-requires c =
    let t = c.args.self.now in
    let w = c.nodes-count.ensures.numbered in
    let P : List ℕ → Type 0 = λ xs. get_or xs c.loop-place.place 0 < length t in
    let low : get_or c.args.order.now c.loop-place.place 0 < length t = subst P (sym c.requires) (visited_there t w c.loop-place.place (omega (arith, ap length c.requires, as_many t w.rooted (some_node t w)))) in
    omega (arith, c.loop-place.invariant.len)

pub loop-place-preserved : goal.loop-place-preserved
loop-place-preserved c =
    let t = c.args.self.now in
    let w = c.nodes-count.ensures.numbered in
    let i = c.loop-place.place in
    let P : List ℕ → Type 0 = λ xs. Placed t (i + 1) (set c.loop-place.numbers.items (get_or xs i 0) i) in
    subst P (sym c.requires) (placed_step t w i c.loop-place.numbers.items c.loop-place.invariant (omega (arith, ap length c.requires, as_many t w.rooted (some_node t w))))

pub returns : goal.returns
returns c =
    let t = c.args.self.now in
    let w = c.nodes-count.ensures.numbered in
    placed_end t w c.loop-place.place c.loop-place.numbers.items c.loop-place.invariant (omega (arith, ap length c.requires, as_many t w.rooted (some_node t w)))
