use Rattle.std.proofs.Common.{◌∙◌, ap, arith, get_or, length, rules}
use Rattle.cw_tree.specs.Accesses.{is_live}
use Rattle.cw_tree.specs.Nodes.{is_strand}
use Rattle.cw_tree.proofs.Lists.{length_map_below, get_map_below}
use Rattle.cw_report.specs.Report.{has_own_cancel, is_undone, stands_cancelled, stands_committed}
use Rattle.cw_report.proofs.Counted.{counted, one_more}
use Rattle.cw_report.proofs.counts.Counts.of_tree.Goals as goal

pub index-lives-requires : goal.index-lives-requires
index-lives-requires c = omega (arith, ap length c.in_ok-live.ensures, ap length c.nodes.ensures.nodes, length_map_below (is_live c.args.tree.now) (length c.args.tree.now))

pub overflow_add-counts : goal.overflow_add-counts
overflow_add-counts c =
    let t = c.args.tree.now in
    omega (arith, one_more (is_strand t) c.loop-n.n c.loop-n.counts.strands c.one_if.result c.loop-n.invariant.strands (c.one_if.ensures ∙ search rules), ap length c.nodes.ensures.nodes, c.nodes.ensures.numbered.few)

pub stands_committed-requires-clause-lives : goal.stands_committed-requires-clause-lives
stands_committed-requires-clause-lives c =
    let t = c.args.tree.now in
    c.index-lives.ensures ∙ ap (λ xs. get_or xs c.loop-n.n c.index-lives.result.now) c.in_ok-live.ensures ∙ get_map_below (is_live t) (length t) c.loop-n.n c.index-lives.result.now (omega (arith, ap length c.nodes.ensures.nodes))

pub overflow_add-counts-in-loop-n : goal.overflow_add-counts-in-loop-n
overflow_add-counts-in-loop-n c =
    let t = c.args.tree.now in
    omega (arith, one_more (stands_committed t) c.loop-n.n c.loop-n.counts.committed c.one_if-in-loop-n.result c.loop-n.invariant.committed (c.one_if-in-loop-n.ensures ∙ search rules), ap length c.nodes.ensures.nodes, c.nodes.ensures.numbered.few)

pub is_undone-requires-clause-lives : goal.is_undone-requires-clause-lives
is_undone-requires-clause-lives c =
    let t = c.args.tree.now in
    c.index-lives.ensures ∙ ap (λ xs. get_or xs c.loop-n.n c.index-lives.result.now) c.in_ok-live.ensures ∙ get_map_below (is_live t) (length t) c.loop-n.n c.index-lives.result.now (omega (arith, ap length c.nodes.ensures.nodes))

pub overflow_add-counts-in-loop-n-2 : goal.overflow_add-counts-in-loop-n-2
overflow_add-counts-in-loop-n-2 c =
    let t = c.args.tree.now in
    omega (arith, one_more (is_undone t) c.loop-n.n c.loop-n.counts.undone c.one_if-in-loop-n-2.result c.loop-n.invariant.undone (c.one_if-in-loop-n-2.ensures ∙ search rules), ap length c.nodes.ensures.nodes, c.nodes.ensures.numbered.few)

pub index-given_up-requires : goal.index-given_up-requires
index-given_up-requires c = omega (arith, ap length c.in_ok-cancels.ensures, ap length c.nodes.ensures.nodes, length_map_below (has_own_cancel c.args.tree.now) (length c.args.tree.now))

pub stands_cancelled-requires-clause-lives : goal.stands_cancelled-requires-clause-lives
stands_cancelled-requires-clause-lives c =
    let t = c.args.tree.now in
    c.index-lives.ensures ∙ ap (λ xs. get_or xs c.loop-n.n c.index-lives.result.now) c.in_ok-live.ensures ∙ get_map_below (is_live t) (length t) c.loop-n.n c.index-lives.result.now (omega (arith, ap length c.nodes.ensures.nodes))

pub stands_cancelled-requires-clause-given_up : goal.stands_cancelled-requires-clause-given_up
stands_cancelled-requires-clause-given_up c =
    let t = c.args.tree.now in
    let b = c.index-given_up.result.now in
    c.index-given_up.ensures ∙ ap (λ xs. get_or xs c.loop-n.n b) c.in_ok-cancels.ensures ∙ get_map_below (has_own_cancel t) (length t) c.loop-n.n b (omega (arith, ap length c.nodes.ensures.nodes))

pub overflow_add-counts-in-loop-n-3 : goal.overflow_add-counts-in-loop-n-3
overflow_add-counts-in-loop-n-3 c =
    let t = c.args.tree.now in
    omega (arith, one_more (stands_cancelled t) c.loop-n.n c.loop-n.counts.cancelled c.one_if-in-loop-n-3.result c.loop-n.invariant.cancelled (c.one_if-in-loop-n-3.ensures ∙ search rules), ap length c.nodes.ensures.nodes, c.nodes.ensures.numbered.few)

pub loop-n-preserved : goal.loop-n-preserved
loop-n-preserved c =
    let t = c.args.tree.now in
    let was = c.loop-n.invariant in
    record {
      strands = counted (is_strand t) c.loop-n.n c.loop-n.counts.strands c.one_if.result was.strands (c.one_if.ensures ∙ search rules);
      committed = counted (stands_committed t) c.loop-n.n c.loop-n.counts.committed c.one_if-in-loop-n.result was.committed (c.one_if-in-loop-n.ensures ∙ search rules);
      undone = counted (is_undone t) c.loop-n.n c.loop-n.counts.undone c.one_if-in-loop-n-2.result was.undone (c.one_if-in-loop-n-2.ensures ∙ search rules);
      cancelled = counted (stands_cancelled t) c.loop-n.n c.loop-n.counts.cancelled c.one_if-in-loop-n-3.result was.cancelled (c.one_if-in-loop-n-3.ensures ∙ search rules);
    }
