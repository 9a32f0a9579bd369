use Rattle.std.proofs.Common.{◌≡◌, true, false, [], ◌∷◌, ◌++◌, ap, ◌∙◌, rules}
use Rattle.cw_tree.specs.Nodes.{closed, fresh_node, is_block}
use Rattle.cw_sheet.proofs.Placed.{block_added, block_there, made_len, row_added}
use Rattle.cw_sheet.proofs.judging.add_node.Goals as goal

pub returns-then-not-is_block : goal.returns-then-not-is_block
returns-then-not-is_block c =
    let t = c.args.nodes.now in
    let made = c.args.tree.now in
    let x = c.node_at-node.result.now in
    let h : is_block t c.args.n ≡ false = search rules in
    c.in_ok-number.ensures.ok ∙ ap (λ k. made ++ fresh_node x.parent k x.stamp ∷ []) c.in_ok-kind.ensures
    ∙ row_added t made c.args.n x c.requires.before c.requires.there c.node_at-node.ensures h c.requires.lines

pub close-requires : goal.close-requires
close-requires c =
    let t = c.args.nodes.now in
    let made = c.args.tree.now in
    let x = c.node_at-node.result.now in
    let h : is_block t c.args.n ≡ true = search rules in
    ap (λ u. is_block u c.in_ok-number.number) (c.in_ok-number.ensures.ok ∙ ap (λ k. made ++ fresh_node x.parent k x.stamp ∷ []) c.in_ok-kind.ensures)
    ∙ ap (λ m. is_block (made ++ fresh_node x.parent x.kind x.stamp ∷ []) m) (c.in_ok-number.ensures.number ∙ made_len t made c.args.n x c.requires.before c.requires.there c.node_at-node.ensures)
    ∙ block_there t made c.args.n x c.requires.before c.requires.there c.node_at-node.ensures h

pub returns : goal.returns
returns c =
    let t = c.args.nodes.now in
    let made = c.args.tree.now in
    let x = c.node_at-node.result.now in
    c.close.ensures
    ∙ ap (λ u. closed u c.in_ok-number.number x.state x.end) (c.in_ok-number.ensures.ok ∙ ap (λ k. made ++ fresh_node x.parent k x.stamp ∷ []) c.in_ok-kind.ensures)
    ∙ ap (λ m. closed (made ++ fresh_node x.parent x.kind x.stamp ∷ []) m x.state x.end) (c.in_ok-number.ensures.number ∙ made_len t made c.args.n x c.requires.before c.requires.there c.node_at-node.ensures)
    ∙ block_added t made c.args.n x c.requires.before c.requires.there c.node_at-node.ensures
