use Rattle.std.proofs.Common.{arith, ap, sym, ◌∙◌, ◌++◌, length, map}
use Rattle.cw_tree.specs.Names.{fork_number, is_right, strands_on, turn}
use Rattle.cw_tree.proofs.Lists.{length_map_below}
use Rattle.cw_tree.proofs.Names.Turns.{turn_at, turns_strand, turns_other}
use Rattle.cw_tree.proofs.tree.Tree.turns.Goals as goal

pub index-requires : goal.index-requires
index-requires c = omega (arith, ap length c.in_ok-forks.ensures, length_map_below (fork_number c.args.self.now) (length c.args.self.now))

pub index-requires-then-is_strand : goal.index-requires-then-is_strand
index-requires-then-is_strand c = omega (arith, ap length c.in_ok-sides.ensures, length_map_below (is_right c.args.self.now) (length c.args.self.now))

pub loop-at-preserved-in_ok-push : goal.loop-at-preserved-in_ok-push
loop-at-preserved-in_ok-push c =
    let t = c.args.self.now in
    let low = c.parent-parent.ensures.low c.loop-at-test.true in
    let at = c.loop-at.invariant in
    record {
      there = omega (arith, at.there);
      passed = ap (λ xs. xs ++ map (turn t) (strands_on t c.parent-parent.result)) c.in_ok-push.ensures.items
          ∙ turns_strand t c.parent-parent.ensures.numbered.rooted c.loop-at.at c.loop-at-test.true at.there c.parent-parent.result (record { fork = c.index.result.now; right = c.index-then-is_strand.result.now }) c.loop-at.turns.items
          c.parent-parent.ensures.parent (sym c.if-is_strand.ensures)
          (turn_at t c.in_ok-forks.forks.items c.in_ok-sides.sides.items c.in_ok-forks.ensures c.in_ok-sides.ensures c.loop-at.at c.parent-parent.result c.index.result.now c.index-then-is_strand.result.now at.there (omega (arith, at.there))
          c.parent-parent.ensures.parent c.index.ensures c.index-then-is_strand.ensures)
          ∙ at.passed;
    }

pub loop-at-preserved : goal.loop-at-preserved
loop-at-preserved c = record {
  there = omega arith;
  passed = turns_other c.args.self.now c.parent-parent.ensures.numbered.rooted c.loop-at.at (omega arith) c.loop-at.invariant.there c.parent-parent.result c.loop-at.turns.items c.parent-parent.ensures.parent (sym c.if-is_strand.ensures)
      ∙ c.loop-at.invariant.passed;
}
