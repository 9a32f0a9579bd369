use Rattle.std.proofs.Common.{arith, sym, ◌∙◌, ap, subst, ◌<◌, ◌≡◌, length, rules, None, get_or, List, ℕ}
use Rattle.std.proofs.lemmas.List.{get_or_read}
use Rattle.cw_audit.specs.Repeats.{attempt}
use Rattle.cw_audit.proofs.Elders.{counted_start, counted_step, counted_end, last_is_before}
use Rattle.cw_audit.proofs.attempts.attempts.Goals as goal

pub loop-n-init : goal.loop-n-init
loop-n-init c =
    counted_start c.args.tree.now (length c.nodes-count.result.now) c.in_ok-attempts.attempts.items c.in_ok-last.last.items (ap length c.nodes-count.ensures.nodes)
    (c.in_ok-attempts.ensures.items_if_clones_equal (λ y e. search rules)) (c.in_ok-last.ensures.items_if_clones_equal (λ y e. search rules))

pub attempt-requires : goal.attempt-requires
attempt-requires c =
    let t = c.args.tree.now in
    let w = c.loop-n.invariant in
    let n = c.loop-n.n in
    let q = c.parent-parent.result in
    let some = w.some in
    let there : n < length t = omega (arith, ap length c.nodes-count.ensures.nodes) in
    let low = c.parent-parent.ensures.low some in
    let P : List ℕ → Type 0 = λ xs. (m : ℕ) → m < n → get_or xs m 0 ≡ attempt t m in
    record {
      there = there;
      child = some;
      last = get_or_read c.loop-n.last.items q c.index.result.now (omega (arith, w.count)) c.index.ensures None ∙ last_is_before t n c.loop-n.attempts.items c.loop-n.last.items w there q low c.parent-parent.ensures.parent;
      len = omega (arith, ap length c.as_slice.ensures.value, w.len);
      before = subst P (sym c.as_slice.ensures.value) (λ m h. w.each m h (omega arith));
    }

pub loop-n-preserved : goal.loop-n-preserved
loop-n-preserved c =
    let t = c.args.tree.now in
    let w = c.loop-n.invariant in
    let n = c.loop-n.n in
    let some = w.some in
    let there : n < length t = omega (arith, ap length c.nodes-count.ensures.nodes) in
    counted_step t n c.loop-n.attempts.items c.loop-n.last.items w there c.parent-parent.result (c.parent-parent.ensures.low some) c.parent-parent.ensures.parent c.attempt.result c.attempt.ensures

pub returns : goal.returns
returns c = counted_end c.args.tree.now c.loop-n.n c.loop-n.attempts.items c.loop-n.last.items c.loop-n.invariant (omega (arith, ap length c.nodes-count.ensures.nodes))
