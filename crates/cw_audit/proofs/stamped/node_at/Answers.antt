use Rattle.std.proofs.Common.{rules}
use Rattle.std.proofs.lemmas.List.Sorted.{answers_always}
use Rattle.cw_audit.specs.declared.stamped.Stamped.{Stamped}
use Rattle.cw_audit.proofs.Finding.{found, absent}
use Rattle.cw_audit.proofs.stamped.node_at.Goals as goal

pub returns-in-Ok : goal.returns-in-Ok
returns-in-Ok c =
    let facts = c.in-Ok.ensures in
    found c.args.tree.now c.args.nodes.now c.requires c.args.stamp c.in-Ok.place facts.bound (facts.position (λ (x : Stamped). x.stamp) (answers_always _ _ _ (λ f a r g called. search rules))) _

pub returns-in-Err : goal.returns-in-Err
returns-in-Err c =
    let facts = c.in-Err.ensures in
    absent c.args.tree.now c.args.nodes.now c.requires c.args.stamp c.in-Err.field-0 facts.bound (facts.position (λ (x : Stamped). x.stamp) (answers_always _ _ _ (λ f a r g called. search rules)))
