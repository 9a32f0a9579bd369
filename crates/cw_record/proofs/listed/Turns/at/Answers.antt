use Rattle.std.proofs.Common.{arith, ap, length}
use Rattle.cw_tree.specs.Names.{fork_number, is_right}
use Rattle.cw_tree.proofs.Lists.{length_map_below}
use Rattle.cw_tree.proofs.Names.Turns.{turn_at}
use Rattle.cw_record.proofs.listed.Turns.at.Goals as goal

pub index-requires : goal.index-requires
index-requires c =
    let low = c.parent.ensures.low c.requires.child in
    omega (arith, ap length c.requires.forks, length_map_below (fork_number c.args.tree.now) (length c.args.tree.now))

pub index-requires-2 : goal.index-requires-2
index-requires-2 c = omega (arith, ap length c.requires.sides, length_map_below (is_right c.args.tree.now) (length c.args.tree.now))

pub returns : goal.returns
returns c =
    let low = c.parent.ensures.low c.requires.child in
    turn_at c.args.tree.now c.args.self.now.forks.items c.args.self.now.sides.items c.requires.forks c.requires.sides c.args.strand c.parent.result c.index.result.now c.index-2.result.now c.requires.there (omega arith)
    c.parent.ensures.parent c.index.ensures c.index-2.ensures
