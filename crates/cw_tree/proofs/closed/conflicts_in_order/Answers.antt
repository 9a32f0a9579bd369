use Rattle.std.proofs.Common.{[], arith, ap, ◌∙◌, ◌≡◌, map, refl, rules}
use Rattle.std.specs.List.Sorted.{IsNonDecreasingBy, IsStableByKey}
use Rattle.std.specs.Ordering.{nat_cmp}
use Rattle.std.proofs.lemmas.List.{take_all}
use Rattle.std.proofs.lemmas.List.Sorted.{IsNonDecreasingBy-from_sort_by_key, answers_always}
use Rattle.cw_tree.specs.InOrder.{conflict_in_order, asker_of, by_asker}
use Rattle.cw_tree.proofs.Sorts.{stable_is}
use Rattle.cw_tree.proofs.closed.conflicts_in_order.Goals as goal

pub returns : goal.returns
returns c =
    let t = c.args.tree.now in
    let cs = c.loop-conflict.sorted.items in
    let ds = c.sort_by_key.new.self.items in
    let up : IsNonDecreasingBy asker_of ds = IsNonDecreasingBy-from_sort_by_key asker_of _ c.in_ok-sort_by_key.ensures.sorted (λ a r q k. search rules) in
    let stays : IsStableByKey asker_of nat_cmp cs ds = c.sort_by_key.ensures.stable asker_of (answers_always _ _ _ (λ f a r g h. search rules)) in
    let all : cs ≡ map (conflict_in_order t) c.args.conflicts.now =
    c.loop-conflict.invariant ∙ ap (map (conflict_in_order t)) (take_all c.loop-conflict.conflict-index c.args.conflicts.now (omega arith))
    in
    c.from_vec.ensures ∙ stable_is asker_of (λ k. record { cell = 0; last = 0; asker = k; block = 0; victim = 0; attempt = 0; chain = [] }) (λ k. refl) cs ds up stays ∙ ap by_asker all
