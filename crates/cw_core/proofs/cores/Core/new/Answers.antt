use Rattle.std.proofs.Common.{◌∙◌, ap, ◌++◌, ◌∷◌, []}
use Rattle.cw_core.proofs.InMemory.Start.{start_state, start_kept}
use Rattle.cw_core.proofs.cores.Core.new.Goals as goal

pub invariant_of-result : goal.invariant_of-result
invariant_of-result c = start_kept c.args.init.now c.args.limits.strands c.args.limits.aborts c.requires c.in_ok-cells.cells.items c.in_ok-cells.ensures c.in_ok-tree.tree c.in_ok-tree.ensures c.new-3.result.items c.new-3.ensures.items c.new-4.result c.new-4.ensures c.new-5.result c.new-6.result c.new-5.ensures c.new-6.ensures c.in_ok-tier.tier.columns c.in_ok-tier.ensures.first c.in_ok-gaps.gaps.words.items c.in_ok-gaps.ensures c.push_reserved.new.self.items (c.push_reserved.ensures.items ∙ ap (λ xs. xs ++ c.leaf_row.result ∷ []) c.in_ok-rows.ensures.items ∙ ap (λ r. r ∷ []) c.leaf_row.ensures) c.new-2.result.items c.new-2.ensures.items

pub returns : goal.returns
returns c = start_state c.args.init.now c.args.limits.strands c.args.limits.aborts c.requires c.in_ok-cells.cells.items c.in_ok-cells.ensures c.in_ok-tree.tree c.in_ok-tree.ensures c.new-3.result.items c.new-3.ensures.items c.new-4.result c.new-4.ensures c.new-5.result c.new-6.result c.new-5.ensures c.new-6.ensures c.in_ok-tier.tier.columns c.in_ok-tier.ensures.first c.in_ok-gaps.gaps.words.items c.in_ok-gaps.ensures
