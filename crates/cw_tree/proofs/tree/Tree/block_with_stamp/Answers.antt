use Rattle.std.proofs.Common.{arith, ap, sym, ◌∙◌, ◌≡◌, false, nat_eq, length}
use Rattle.std.specs.Prelude.{◌&&◌}
use Rattle.std.proofs.lemmas.Bool.{eq-eqb, ne_eqb, and_from, and_left, and_right}
use Rattle.cw_tree.specs.Nodes.{is_block, stamp_of}
use Rattle.cw_tree.proofs.tree.Tree.block_with_stamp.Goals as goal
use Rattle.cw_tree.proofs.Walks.There.{stamp_is}
use Rattle.cw_tree.proofs.FirstBelow.{first_below, none_below_more}
use Rattle.cw_tree.proofs.tree.Tree.block_with_stamp.Goals.{else-is_block-via-then-is_block+else-node-stamp, else-is_block-via-else-is_block}

pub returns-then-node-stamp-clause-result : goal.returns-then-node-stamp-clause-result
returns-then-node-stamp-clause-result c =
    let t = c.args.self.now in
    let n = c.loop-n.n in
    sym (first_below (λ m. is_block t m && nat_eq (stamp_of t m) c.args.stamp) n (length t) c.loop-n.invariant
    (and_from (is_block t n) (nat_eq (stamp_of t n) c.args.stamp) (sym c.if-is_block.ensures) (eq-eqb (stamp_of t n) c.args.stamp (stamp_is t n c.node.result.now c.node.ensures ∙ c.if-node-stamp.true)))
    (omega (arith, ap length c.nodes.ensures.nodes)))

pub loop-n-preserved : goal.loop-n-preserved
loop-n-preserved c =
    let t = c.args.self.now in
    let n = c.loop-n.n in
    let other : (is_block t n && nat_eq (stamp_of t n) c.args.stamp) ≡ false =
    elim c.else-is_block.branch [
      | else-is_block-via-then-is_block+else-node-stamp w ↦
          and_right (is_block t n) (nat_eq (stamp_of t n) c.args.stamp) (ne_eqb (stamp_of t n) c.args.stamp (λ e. w.if-node-stamp.false (sym (stamp_is t n w.node.result.now w.node.ensures) ∙ e)))
      | else-is_block-via-else-is_block w ↦ and_left (is_block t n) (nat_eq (stamp_of t n) c.args.stamp) (sym c.is_block.ensures ∙ w.if-is_block.false)
    ]
    in
    none_below_more (λ m. is_block t m && nat_eq (stamp_of t m) c.args.stamp) n c.loop-n.invariant other
