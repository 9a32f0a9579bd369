use Rattle.std.proofs.Common.{sym, ◌≡◌, Option, Some, None, ℕ}
use Rattle.std.specs.Prelude.{IfSome, IsTrue, not, List}
use Rattle.std.proofs.lemmas.Bool.{and_parts}
use Rattle.cw_tree.specs.declared.node.Node.{Node}
use Rattle.cw_tree.specs.Nodes.{is_block}
use Rattle.cw_tree.specs.Walks.{above, is_above}
use Rattle.cw_tree.specs.Refusals.{outermost_apart}
use Rattle.cw_audit.specs.Apart.{is_apart}
use Rattle.cw_audit.proofs.Outermost.{outermost_passes}
use Rattle.cw_audit.proofs.told.is_victim_told.Goals as goal

-- what was found is a block
is_some_block : (t : List Node) (u v : ℕ) (o : Option ℕ) → o ≡ outermost_apart t u v → IfSome o (λ b. IsTrue (is_block t b))
is_some_block t u v None e = tt
is_some_block t u v (Some b) e = (and_parts (is_block t b) (not (is_above t b u)) (outermost_passes (is_apart t u) (above t v) b (sym e))).0

pub has_victim-requires-clause-block : goal.has_victim-requires-clause-block
has_victim-requires-clause-block c = is_some_block c.args.tree.now c.args.access c.args.conflict.now.asker c.outermost_apart-victim.result c.outermost_apart-victim.ensures

pub attempt_of-requires-clause-block : goal.attempt_of-requires-clause-block
attempt_of-requires-clause-block c = is_some_block c.args.tree.now c.args.access c.args.conflict.now.asker c.outermost_apart-victim.result c.outermost_apart-victim.ensures
