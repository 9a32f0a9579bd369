use Rattle.std.proofs.Common.{arith, ap, sym, ◌∙◌, ◌<◌, length, Some, rules}
use Rattle.std.specs.BTreeMap.{get}
use Rattle.cw_record.specs.Walked.{step_cmp}
use Rattle.cw_record.proofs.Walked.SameNames.{named_start, named_end, named_other, named_strand, step_is, above_is}
use Rattle.cw_record.proofs.listed.Turns.same_names.Goals as goal
use Rattle.cw_record.proofs.listed.Turns.same_names.Goals.{then-is_strand+in_ok-first, else-is_strand}

pub loop-n-init : goal.loop-n-init
loop-n-init c =
    named_start c.args.tree.now (length c.nodes-count.result.now) c.in_ok-same.same.items (get step_cmp c.new-strands.result) (ap length c.nodes-count.ensures.nodes) (c.in_ok-same.ensures.items_if_clones_equal (λ y e. e))
    (λ s. search rules)

pub loop-n-preserved : goal.loop-n-preserved
loop-n-preserved c =
    let t = c.args.tree.now in
    let n = c.loop-n.n in
    let root = c.nodes-count.ensures.numbered.rooted in
    let there : n < length t = omega (arith, ap length c.nodes-count.ensures.nodes) in
    let own = c.if-is_strand.first in
    let g = get step_cmp c.if-is_strand.strands in
    let above = above_is t root n c.loop-n.same.items (get step_cmp c.loop-n.strands) c.loop-n.invariant there c.parent.result c.index-first.result.now c.parent.ensures.parent c.index-first.ensures in
    elim c.if-is_strand.branch [
      | then-is_strand+in_ok-first w ↦
          named_strand t root n c.loop-n.same.items (get step_cmp c.loop-n.strands) c.loop-n.invariant there (sym c.is_strand.ensures ∙ w.if-is_strand.true)
          (c.index-first.result.now, w.at-turn.result.fork, w.at-turn.result.right) own g (step_is t n c.index-first.result.now w.at-turn.result above w.at-turn.ensures)
          (ap Some w.first-is ∙ w.in_ok-first.ensures.found) (λ s. ap (λ m. get step_cmp m s) w.strands-is ∙ w.in_ok-first.ensures.kept s)
      | else-is_strand w ↦
          named_other t root n c.loop-n.same.items (get step_cmp c.loop-n.strands) c.loop-n.invariant there own g (w.first-is ∙ above) (sym c.is_strand.ensures ∙ w.if-is_strand.false) (λ s. ap (λ m. get step_cmp m s) w.strands-is)
    ]

pub returns : goal.returns
returns c = named_end c.args.tree.now c.loop-n.n c.loop-n.same.items (get step_cmp c.loop-n.strands) c.loop-n.invariant (omega (arith, ap length c.nodes-count.ensures.nodes))
