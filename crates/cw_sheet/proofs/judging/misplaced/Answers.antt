use Rattle.std.proofs.Common.{◌≡◌, suc, ◌+◌, Some, length, get_or, ap, sym, ◌∙◌, arith}
use Rattle.cw_tree.proofs.FirstBelow.{none_below_more}
use Rattle.cw_tree.proofs.Lists.{get_map_below, length_map_below}
use Rattle.cw_sheet.specs.Beneath.{beneath_of}
use Rattle.cw_sheet.specs.Reading.{is_misplaced}
use Rattle.cw_sheet.proofs.Placed.{misplaced_at}
use Rattle.cw_sheet.proofs.judging.misplaced.Goals as goal

pub index-requires : goal.index-requires
index-requires c =
    let t = c.args.nodes.now in
    omega (arith, c.loop-n-test.true, ap length c.in_ok-beneath.ensures, length_map_below (beneath_of t (length t)) (length t), c.in_ok-beneath.beneath.ok.0)

pub is_misplaced-requires-clause-beneath : goal.is_misplaced-requires-clause-beneath
is_misplaced-requires-clause-beneath c =
    let t = c.args.nodes.now in
    let b = c.index.result.now in
    c.index.ensures ∙ ap (λ xs. get_or xs c.loop-n.n b) c.in_ok-beneath.ensures ∙ get_map_below (beneath_of t (length t)) (length t) c.loop-n.n b c.loop-n-test.true

pub returns-then-is_misplaced-clause-exact : goal.returns-then-is_misplaced-clause-exact
returns-then-is_misplaced-clause-exact c =
    ap Some (let e : c.loop-n.n + 1 ≡ suc c.loop-n.n = omega arith in e)
    ∙ sym (misplaced_at c.args.nodes.now c.loop-n.n c.loop-n-test.true c.loop-n.invariant (sym c.is_misplaced.ensures ∙ c.if-is_misplaced.true))

pub loop-n-preserved : goal.loop-n-preserved
loop-n-preserved c = none_below_more (is_misplaced c.args.nodes.now) c.loop-n.n c.loop-n.invariant (sym c.is_misplaced.ensures ∙ c.if-is_misplaced.false)
