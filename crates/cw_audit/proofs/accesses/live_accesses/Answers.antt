use Rattle.std.proofs.Common.{ap, ◌∙◌, ◌≡◌, map, rules, refl}
use Rattle.std.specs.List.{filter}
use Rattle.std.specs.List.Sorted.{IsNonDecreasingBy, IsStableByKey}
use Rattle.std.specs.Ordering.{nat_cmp}
use Rattle.std.proofs.lemmas.List.{take_all}
use Rattle.std.proofs.lemmas.List.Sorted.{IsNonDecreasingBy-from_sort_by_key, answers_always}
use Rattle.cw_tree.specs.Nodes.{all_nodes}
use Rattle.cw_tree.specs.Accesses.{by_key}
use Rattle.cw_tree.proofs.Sorts.{stable_is, by_key_map}
use Rattle.cw_record.proofs.Lists.{map_back}
use Rattle.cw_audit.specs.declared.accesses.Dated.{Dated}
use Rattle.cw_audit.specs.LiveAccesses.{dated, is_live_access, all_live_accesses}
use Rattle.cw_audit.proofs.accesses.live_accesses.Goals as goal

pub returns : goal.returns
returns c =
    let t = c.args.tree.now in
    let xs = c.sort_by_key.new.self.items in
    let up : IsNonDecreasingBy (λ (a : Dated). a.stamp) xs = IsNonDecreasingBy-from_sort_by_key (λ a. a.stamp) _ c.in_ok-sort_by_key.ensures.sorted (λ a r q k. search rules) in
    let stays : IsStableByKey (λ (a : Dated). a.stamp) nat_cmp c.in_ok-dated.dated.items xs = c.sort_by_key.ensures.stable (λ a. a.stamp) (answers_always _ _ _ (λ f a r g h. search rules)) in
    let sorted : xs ≡ map (dated t) (all_live_accesses t) =
    stable_is (λ (a : Dated). a.stamp) (λ k. record { node = 0; stamp = k }) (λ k. refl) c.in_ok-dated.dated.items xs up stays
    ∙ ap (by_key (λ (a : Dated). a.stamp)) c.in_ok-dated.ensures
    ∙ by_key_map (λ (a : Dated). a.stamp) (dated t) (filter (is_live_access t) (all_nodes t))
    in
    c.loop-access.invariant
    ∙ ap (map (λ (a : Dated). a.node)) (take_all c.loop-access.access-index c.deref-access-items.result.now c.loop-access-test.false ∙ c.deref-access-items.ensures.value ∙ sorted)
    ∙ map_back (dated t) (λ (a : Dated). a.node) (λ n. refl) (all_live_accesses t)
