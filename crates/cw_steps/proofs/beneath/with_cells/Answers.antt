use Rattle.std.proofs.Common.{◌≡◌, ◌+◌, List, [], ◌∷◌, ◌++◌, take, ap, sym, ◌∙◌}
use Rattle.std.specs.Prelude.{filter, nat_le}
use Rattle.std.proofs.lemmas.List.{take_more}
use Rattle.cw_tree.specs.declared.node.Node.{Node}
use Rattle.cw_steps.specs.Beneath.{cells_reached, least_with}
use Rattle.cw_steps.proofs.Walked.{cells_more, found_more}
use Rattle.cw_steps.proofs.beneath.with_cells.Goals as goal

pub loop-node-preserved : goal.loop-node-preserved
loop-node-preserved c =
    let nodes = c.args.nodes.now in
    let i = c.loop-node.node-index in
    let x = c.node-item.result in
    let p = nat_le c.args.from in
    let F : List Node → List _ = λ ns. filter p (cells_reached c.args.writes ns) in
    let more : take (i + 1) nodes ≡ take i nodes ++ x ∷ [] = take_more nodes i x c.loop-node-test.true ∙ ap (λ y. take i nodes ++ y ∷ []) (sym c.node-item.is) in
    c.with_cell-least.ensures ∙ found_more F (cells_more c.args.writes p) c.args.found c.loop-node.least (take i nodes) (x ∷ []) c.loop-node.invariant
    ∙ ap (λ ns. least_with c.args.found (F ns)) (sym more)
