use Rattle.std.proofs.Common.{arith, ap, sym, ◌∙◌, ◌≡◌}
use Rattle.std.specs.Option.{option_or}
use Rattle.cw_tree.specs.Walks.{above, outermost}
use Rattle.cw_tree.specs.Refusals.{outermost_apart}
use Rattle.cw_audit.specs.Apart.{is_apart}
use Rattle.cw_audit.proofs.Outermost.{or_none, own_block, no_block, walk_takes, walk_passes, walk_ends}
use Rattle.cw_audit.proofs.apart.outermost_apart.Goals as goal

pub loop-at-init : goal.loop-at-init
loop-at-init c = record { there = c.requires.v; same = or_none (outermost_apart c.args.tree.now c.args.u c.args.v) }

pub returns-then-is_above : goal.returns-then-is_above
returns-then-is_above c =
    let t = c.args.tree.now in
    let w = c.loop-at.invariant in
    walk_ends t c.parent-at.ensures.numbered.rooted c.args.u c.loop-at.at c.parent-at.result c.loop-at.found c.requires.u c.parent-at.ensures.parent c.loop-at-test.true w.there (sym c.is_above.ensures ∙ c.if-is_above.true) ∙ w.same

pub loop-at-preserved-then-is_block : goal.loop-at-preserved-then-is_block
loop-at-preserved-then-is_block c =
    let t = c.args.tree.now in
    let w = c.loop-at.invariant in
    let there = w.there in
    let low = c.parent-at.ensures.low c.loop-at-test.true in
    let own = own_block t c.args.u c.parent-at.result (sym c.is_block.ensures ∙ c.if-is_block.true) (sym c.is_above.ensures ∙ c.if-is_above.false) in
    record {
      there = omega arith;
      same = walk_takes t c.parent-at.ensures.numbered.rooted (is_apart t c.args.u) c.loop-at.at c.parent-at.result c.loop-at.found c.parent-at.ensures.parent c.loop-at-test.true there own ∙ w.same;
    }

pub loop-at-preserved : goal.loop-at-preserved
loop-at-preserved c =
    let t = c.args.tree.now in
    let w = c.loop-at.invariant in
    let there = w.there in
    let low = c.parent-at.ensures.low c.loop-at-test.true in
    let other = no_block t c.args.u c.parent-at.result (sym c.is_block.ensures ∙ c.if-is_block.false) in
    record {
      there = omega arith;
      same = walk_passes t c.parent-at.ensures.numbered.rooted (is_apart t c.args.u) c.loop-at.at c.parent-at.result c.loop-at.found c.parent-at.ensures.parent c.loop-at-test.true there other ∙ w.same;
    }

pub returns : goal.returns
returns c =
    let t = c.args.tree.now in
    let zero : c.loop-at.at ≡ 0 = omega arith in
    sym (ap (λ n. option_or (outermost (is_apart t c.args.u) (above t n)) c.loop-at.found) zero) ∙ c.loop-at.invariant.same
