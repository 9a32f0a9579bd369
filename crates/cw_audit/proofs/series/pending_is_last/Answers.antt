use Rattle.std.proofs.Common.{ℕ, ◌<◌, length, ap, sym, ◌∙◌, arith, subst, get_or, inl, inr, refl}
use Rattle.std.proofs.lemmas.Bool.{cases_eq}
use Rattle.cw_tree.specs.Walks.{xparent}
use Rattle.cw_tree.proofs.Lists.{length_map_below, get_map_below}
use Rattle.cw_audit.specs.Later.{is_at_end, IsPendingLast}
use Rattle.cw_audit.proofs.Coming.{pending_from, pending_to}
use Rattle.cw_audit.proofs.series.pending_is_last.Goals as goal

pub returns-then-not-is_pending_last : goal.returns-then-not-is_pending_last
returns-then-not-is_pending_last c =
    let t = c.args.tree.now in
    let there : c.loop-n.n < length t = omega (arith, ap length c.nodes.ensures.nodes) in
    (λ e. absurd (cc e), λ w. absurd (cc (c.if-not-is_pending_last.true, c.is_pending_last.ensures.1 (pending_to t c.nodes.ensures.numbered.rooted w c.loop-n.n there))))

pub loop-n-preserved : goal.loop-n-preserved
loop-n-preserved c = λ n h. elim (cases_eq n c.loop-n.n) [
  | inl e ↦ (let P : ℕ → Type 0 = λ x. IsPendingLast c.args.tree.now x in subst P (sym e) (c.is_pending_last.ensures.0 c.if-not-is_pending_last.false))
  | inr ne ↦ c.loop-n.invariant n (omega arith)
]

pub returns : goal.returns
returns c =
    let t = c.args.tree.now in
    (λ e. pending_from t c.nodes.ensures.numbered.rooted (λ n h. c.loop-n.invariant n (omega (arith, ap length c.nodes.ensures.nodes))), λ w. refl)

pub index-requires : goal.index-requires
index-requires c =
    let ok = c.in_ok-ends.ends.ok in
    omega (arith, ap length c.in_ok-ends.ensures, length_map_below (is_at_end c.args.tree.now) (length c.args.tree.now), ap length c.nodes.ensures.nodes, ok.0)

pub index-requires-in-loop-n : goal.index-requires-in-loop-n
index-requires-in-loop-n c =
    let ok = c.in_ok-blocks.blocks.ok in
    omega (arith, ap length c.in_ok-blocks.ensures, length_map_below (xparent c.args.tree.now) (length c.args.tree.now), ap length c.nodes.ensures.nodes, ok.0)

pub is_pending_last-requires-clause-end : goal.is_pending_last-requires-clause-end
is_pending_last-requires-clause-end c =
    let t = c.args.tree.now in
    let n = c.loop-n.n in
    let there : n < length t = omega (arith, ap length c.nodes.ensures.nodes) in
    c.index.ensures ∙ ap (λ xs. get_or xs n c.index.result.now) c.in_ok-ends.ensures ∙ get_map_below (is_at_end t) (length t) n c.index.result.now there

pub is_pending_last-requires-clause-block : goal.is_pending_last-requires-clause-block
is_pending_last-requires-clause-block c =
    let t = c.args.tree.now in
    let n = c.loop-n.n in
    let there : n < length t = omega (arith, ap length c.nodes.ensures.nodes) in
    c.index-in-loop-n.ensures ∙ ap (λ xs. get_or xs n c.index-in-loop-n.result.now) c.in_ok-blocks.ensures ∙ get_map_below (xparent t) (length t) n c.index-in-loop-n.result.now there
