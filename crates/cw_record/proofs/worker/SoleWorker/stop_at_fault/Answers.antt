use Rattle.std.proofs.Common.{arith, ◌∙◌, sym, ap, length, ◌∷◌}
use Rattle.cw_tree.proofs.NextNodes.Growing.{length_more}
use Rattle.cw_tree.specs.Nodes.{fresh_node}
use Rattle.cw_tree.specs.declared.node.Kind.TheVariants.{Strand}
use Rattle.cw_record.specs.OneWorker.{unstarted}
use Rattle.cw_record.proofs.OneWorker.Unstarted.{with_strands}
use Rattle.cw_record.proofs.OneWorker.Waiting.{first_there, rest_there, more_there, one_unstarted}
use Rattle.cw_record.proofs.worker.SoleWorker.stop_at_fault.Goals as goal

pub start_strand-requires : goal.start_strand-requires
start_strand-requires c = first_there (length c.loop-branch.drawing.tree) c.loop-branch.branches c.pop.new.self c.in-Some.branch c.in-Some.ensures c.loop-branch.invariant.2 c.in-Left.fork c.in-Left.right c.in-Left.is

pub loop-branch-preserved-in-Continue-1 : goal.loop-branch-preserved-in-Continue-1
loop-branch-preserved-in-Continue-1 c =
    let there = c.loop-branch.invariant.2 in
    let rest = rest_there (length c.loop-branch.drawing.tree) c.loop-branch.branches c.pop.new.self c.in-Some.branch c.in-Some.ensures there in
    let is = ap (λ d. d.tree) c.in_ok-start_strand-in-Left.ensures in (
      ap (λ t. with_strands t (unstarted c.pop.new.self)) is
          ∙ (one_unstarted c.loop-branch.drawing.tree c.in-Left.fork (unstarted c.pop.new.self)
          ∙ (ap (λ bs. with_strands c.loop-branch.drawing.tree (unstarted bs)) (sym (c.in-Some.ensures ∙ ap (λ b. b ∷ c.pop.new.self) c.in-Left.is)) ∙ c.loop-branch.invariant.0)),
      ap (λ d. d.journals) c.in_ok-start_strand-in-Left.ensures ∙ c.loop-branch.invariant.1,
      more_there (length c.loop-branch.drawing.tree) (length c.start_strand.new.self.tree) c.pop.new.self (omega (arith, ap length is, length_more c.loop-branch.drawing.tree (fresh_node c.in-Left.fork Strand 0))) rest,
    )

pub loop-branch-preserved : goal.loop-branch-preserved
loop-branch-preserved c =
    let there = c.loop-branch.invariant.2 in
    let rest = rest_there (length c.loop-branch.drawing.tree) c.loop-branch.branches c.pop.new.self c.in-Some.branch c.in-Some.ensures there in (
      ap (λ bs. with_strands c.loop-branch.drawing.tree (unstarted bs)) (sym (c.in-Some.ensures ∙ ap (λ b. b ∷ c.pop.new.self) c.in-Right.is)) ∙ c.loop-branch.invariant.0,
      c.loop-branch.invariant.1,
      rest,
    )
