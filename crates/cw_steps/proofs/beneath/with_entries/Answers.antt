use Rattle.std.proofs.Common.{◌≡◌, ◌+◌, List, [], ◌∷◌, ◌++◌, drop, take, ap, sym, ◌∙◌}
use Rattle.std.specs.Prelude.{filter}
use Rattle.std.proofs.lemmas.List.{take_more}
use Rattle.cw_tree.specs.declared.node.Node.{Node}
use Rattle.cw_tree.specs.AccessStacks.{stamps}
use Rattle.cw_tree.specs.Walks.{has}
use Rattle.cw_steps.specs.Beneath.{least_with, reaches_in}
use Rattle.cw_steps.proofs.Walked.{found_more, reaches_more}
use Rattle.cw_steps.proofs.beneath.with_entries.Goals as goal

pub loop-node-preserved : goal.loop-node-preserved
loop-node-preserved c =
    let nodes = c.args.nodes.now in
    let i = c.loop-node.node-index in
    let x = c.node-item.result in
    let p = has (stamps c.args.entries.now) in
    let F : List Node → List _ = λ ns. filter p (reaches_in c.args.writes c.args.number ns) in
    let more : take (i + 1) nodes ≡ take i nodes ++ x ∷ [] = take_more nodes i x c.loop-node-test.true ∙ ap (λ y. take i nodes ++ y ∷ []) (sym c.node-item.is) in
    c.with_entry-least.ensures ∙ found_more F (reaches_more c.args.writes p c.args.number) c.args.found c.loop-node.least (take i nodes) (x ∷ []) c.loop-node.invariant
    ∙ ap (λ ns. least_with c.args.found (F ns)) (sym more)
