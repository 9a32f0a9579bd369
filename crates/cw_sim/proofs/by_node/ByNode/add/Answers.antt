-- The node has a key that no other one has, and the thing under it.
use Rattle.std.proofs.Common.{◌<◌, List, length, set, refl, ap, subst, arith, Option, Some}
use Rattle.cw_sim.specs.ThingsInMemory.{Puts, things_of}
use Rattle.cw_sim.proofs.InMemory.Things.{put_keys, put_puts, things_length}
use Rattle.cw_sim.proofs.by_node.ByNode.add.Goals as goal

pub invariant_of-self-2 : goal.invariant_of-self-2
invariant_of-self-2 g c =
    let old = c.self.inside in
    let low : c.args.node < length old.keys.items = omega (arith, c.requires.there, things_length old.slab old.keys.items, ap length c.self.view_is) in
    put_keys old.slab c.insert.new.self c.in_ok-key.key (Some c.args.thing) c.in_ok-key.ensures.updates old.keys.items c.self.invariant c.args.node c.args.thing refl c.in_ok-key.ensures.was_vacant low

pub returns : goal.returns
returns g c m =
    let old = c.self.inside in
    let low : c.args.node < length old.keys.items = omega (arith, c.requires.there, things_length old.slab old.keys.items, ap length c.self.view_is) in
    let P : List (Option g.row.T.Denot) → Type 0 = λ v. Puts v c.args.node (Some c.args.thing) (things_of c.insert.new.self (set old.keys.items c.args.node (Some c.in_ok-key.key))) in
    subst P c.self.view_is (put_puts old.slab c.insert.new.self c.in_ok-key.key (Some c.args.thing) c.in_ok-key.ensures.updates old.keys.items c.self.invariant c.in_ok-key.ensures.was_vacant c.args.node low) m
