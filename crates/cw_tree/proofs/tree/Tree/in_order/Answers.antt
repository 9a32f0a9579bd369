use Rattle.std.proofs.Common.{arith, ap, ◌≡◌, ◌<◌, ◌++◌, ◌∷◌, [], ◌∙◌, sym, subst, ℕ, List, length, get_or, map, take}
use Rattle.std.proofs.lemmas.List.{take_all}
use Rattle.cw_tree.specs.Walks.{IsNumbered}
use Rattle.cw_tree.specs.Series.{depth_first}
use Rattle.cw_tree.specs.InOrder.{node_in_order, in_order}
use Rattle.cw_tree.proofs.InOrder.Visits.{as_many}
use Rattle.cw_tree.proofs.InOrder.Renumbered.{some_node, visited_there, map_take_more, in_order_numbered}
use Rattle.cw_tree.proofs.tree.Tree.in_order.Goals as goal

pub renamed_node-requires-clause-there : goal.renamed_node-requires-clause-there
renamed_node-requires-clause-there c =
    let t = c.args.self.now in
    let w = c.nodes.ensures.numbered in
    let i = c.loop-n.n-index in
    let e : c.as_slice-n-items.result.now ≡ depth_first t = c.as_slice-n-items.ensures.value ∙ c.in_ok-order.ensures in
    let P : List ℕ → Type 0 = λ xs. get_or xs i 0 < length t in
    subst P (sym e) (visited_there t w i (omega (arith, ap length e, as_many t w.rooted (some_node t w))))

pub loop-n-preserved : goal.loop-n-preserved
loop-n-preserved c =
    let t = c.args.self.now in
    let xs = c.as_slice-n-items.result.now in
    let i = c.loop-n.n-index in
    c.in_ok-push.ensures.items
    ∙ ap (λ ns. ns ++ c.in_ok-renamed_node.field-0 ∷ []) c.loop-n.invariant
    ∙ ap (λ n. map (node_in_order t) (take i xs) ++ n ∷ []) c.in_ok-renamed_node.ensures
    ∙ sym (map_take_more (node_in_order t) xs i 0 (omega arith))

pub invariant_of-result : goal.invariant_of-result
invariant_of-result c =
    let t = c.args.self.now in
    let xs = c.as_slice-n-items.result.now in
    let all : c.loop-n.nodes.items ≡ in_order t =
    c.loop-n.invariant ∙ ap (map (node_in_order t)) (take_all c.loop-n.n-index xs (omega arith) ∙ c.as_slice-n-items.ensures.value ∙ c.in_ok-order.ensures)
    in
    subst IsNumbered (sym all) (in_order_numbered t c.nodes.ensures.numbered)
