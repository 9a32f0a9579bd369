use Rattle.std.proofs.Common.{◌≡◌, sym, ◌∙◌, rules, Some}
use Rattle.cw_tree.proofs.Walks.There.{stamp_is}
use Rattle.cw_audit.specs.Backs.{list_told}
use Rattle.cw_audit.specs.Naming.{one_for}
use Rattle.cw_audit.proofs.FurtherOut.{list_fits}
use Rattle.cw_audit.proofs.surely.block_fits.Goals as goal

pub returns : goal.returns
returns c e =
    let t = c.args.tree.now in
    let b = c.args.block in
    let m = c.in-Some.cancel in
    let back = c.in-Some-list_told.back.now in
    let own : one_for c.args.cancels.now b ≡ Some m = c.in-Some.is in
    let told : list_told t m ≡ Some back = sym c.list_told.ensures ∙ search rules in
    list_fits t c.args.first.now c.args.cancels.now c.args.around.now b m c.node.result.now.stamp back own told (stamp_is t m c.node.result.now c.node.ensures) (record {
      rises = c.rises_below.ensures c.if-not-rises_below.false;
      right = c.are_put_back.ensures c.if-not-are_put_back.false;
      named = c.are_named_in.ensures e;
    })
