-- The key of the node is given up, and what was under it.
use Rattle.std.proofs.Common.{List, refl, sym, subst, Option, None, set}
use Rattle.std.specs.Prelude.{IsSome}
use Rattle.cw_sim.specs.ThingsInMemory.{thing_at, Puts, things_of}
use Rattle.cw_sim.proofs.InMemory.Things.{take_keys, take_puts, key_was, key_low}
use Rattle.cw_sim.proofs.by_node.ByNode.take.Goals as goal

pub invariant_of-self : goal.invariant_of-self
invariant_of-self g c =
    let old = c.self.inside in
    let Q : List (Option g.row.T.Denot) → Type 0 = λ v. IsSome (thing_at v c.args.node) in
    let low = key_low old.slab old.keys.items c.args.node (subst Q (sym c.self.view_is) c.requires) in
    let had = key_was old.keys.items c.args.node c.index.result.now c.in-Some.key low c.index.ensures c.in-Some.is in
    take_keys old.slab c.remove.new.self c.in-Some.key None c.remove.ensures.updates old.keys.items c.self.invariant c.args.node had

pub returns-clause-takes : goal.returns-clause-takes
returns-clause-takes g c m =
    let old = c.self.inside in
    let Q : List (Option g.row.T.Denot) → Type 0 = λ v. IsSome (thing_at v c.args.node) in
    let low = key_low old.slab old.keys.items c.args.node (subst Q (sym c.self.view_is) c.requires) in
    let had = key_was old.keys.items c.args.node c.index.result.now c.in-Some.key low c.index.ensures c.in-Some.is in
    let P : List (Option g.row.T.Denot) → Type 0 = λ v. Puts v c.args.node None (things_of c.remove.new.self (set old.keys.items c.args.node None)) in
    subst P c.self.view_is (take_puts old.slab c.remove.new.self c.in-Some.key None c.remove.ensures.updates old.keys.items c.self.invariant c.args.node had refl) m
