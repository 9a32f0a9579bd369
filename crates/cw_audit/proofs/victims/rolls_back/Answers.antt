use Rattle.std.proofs.Common.{◌<◌, length, ap, sym, ◌∙◌, arith, inl, inr, refl}
use Rattle.std.proofs.lemmas.Bool.{cases_eq}
use Rattle.cw_tree.specs.Nodes.{is_tried_kind}
use Rattle.cw_tree.proofs.Walks.There.{node_there}
use Rattle.cw_audit.specs.Victims.{rolls_on}
use Rattle.cw_audit.proofs.Rolling.{rolls_from, askers_to, on_to}
use Rattle.cw_audit.proofs.victims.rolls_back.Goals as goal

pub returns-then-not-askers_are_last : goal.returns-then-not-askers_are_last
returns-then-not-askers_are_last c =
    let t = c.args.tree.now in
    (λ e. absurd (cc e), λ w. absurd (cc (c.if-not-askers_are_last.true, c.askers_are_last.ensures, askers_to t c.args.conflicts.now c.requires.askers (λ n e. node_there (λ x. is_tried_kind x.kind) t n e) w)))

pub returns-then-not-rolls_on : goal.returns-then-not-rolls_on
returns-then-not-rolls_on c =
    let t = c.args.tree.now in
    let there : c.loop-n.n < length t = omega (arith, ap length c.nodes.ensures.nodes) in
    (λ e. absurd (cc e), λ w. absurd (cc (c.if-not-rolls_on.true, c.rolls_on.ensures, on_to t c.args.conflicts.now w c.loop-n.n there)))

pub loop-n-preserved : goal.loop-n-preserved
loop-n-preserved c = λ n h. elim (cases_eq n c.loop-n.n) [
  | inl e ↦ ap (rolls_on c.args.tree.now c.args.conflicts.now) e ∙ sym c.rolls_on.ensures ∙ c.if-not-rolls_on.false
  | inr ne ↦ c.loop-n.invariant n (omega arith)
]

pub returns : goal.returns
returns c =
    let t = c.args.tree.now in
    (λ e. rolls_from t c.args.conflicts.now (sym c.askers_are_last.ensures ∙ c.if-not-askers_are_last.false) (λ n h. c.loop-n.invariant n (omega (arith, ap length c.nodes.ensures.nodes))), λ w. refl)
