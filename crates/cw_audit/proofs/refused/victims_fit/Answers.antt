use Rattle.std.proofs.Common.{ℕ, ◌<◌, length, ap, sym, ◌∙◌, arith, subst, get_or, inl, inr, refl}
use Rattle.std.proofs.lemmas.Bool.{cases_eq}
use Rattle.cw_tree.proofs.Lists.{length_map_below, get_map_below}
use Rattle.cw_audit.specs.Victims.{is_in_victim, VictimFits}
use Rattle.cw_audit.proofs.refused.victims_fit.Goals as goal

pub index-requires : goal.index-requires
index-requires c =
    let ok = c.in_ok-inside.inside.ok in
    omega (arith, ap length c.in_ok-inside.ensures, length_map_below (is_in_victim c.args.tree.now c.args.conflicts.now) (length c.args.tree.now), ap length c.nodes.ensures.nodes, ok.0)

pub victim_fits-requires-clause-inside : goal.victim_fits-requires-clause-inside
victim_fits-requires-clause-inside c =
    let t = c.args.tree.now in
    let n = c.loop-n.n in
    let there : n < length t = omega (arith, ap length c.nodes.ensures.nodes) in
    c.index.ensures ∙ ap (λ xs. get_or xs n c.index.result.now) c.in_ok-inside.ensures ∙ get_map_below (is_in_victim t c.args.conflicts.now) (length t) n c.index.result.now there

pub returns-then-not-victim_fits : goal.returns-then-not-victim_fits
returns-then-not-victim_fits c =
    let t = c.args.tree.now in
    let there : c.loop-n.n < length t = omega (arith, ap length c.nodes.ensures.nodes) in
    (λ e. absurd (cc e), λ w. absurd (cc (c.if-not-victim_fits.true, c.victim_fits.ensures.1 (w c.loop-n.n there))))

pub loop-n-preserved : goal.loop-n-preserved
loop-n-preserved c = λ n h. elim (cases_eq n c.loop-n.n) [
  | inl e ↦ (let P : ℕ → Type 0 = λ x. VictimFits c.args.tree.now c.args.conflicts.now x in subst P (sym e) (c.victim_fits.ensures.0 c.if-not-victim_fits.false))
  | inr ne ↦ c.loop-n.invariant n (omega arith)
]

pub returns : goal.returns
returns c = (λ e n h. c.loop-n.invariant n (omega (arith, ap length c.nodes.ensures.nodes)), λ w. refl)
