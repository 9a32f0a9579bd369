use Rattle.std.proofs.Common.{ℕ, ◌<◌, ◌≡◌, length, ap, arith, subst, sym, inl, inr, refl, true}
use Rattle.std.proofs.lemmas.Bool.{cases_eq}
use Rattle.std.proofs.lemmas.Option.{slice_get_within}
use Rattle.cw_tree.specs.Accesses.{is_live}
use Rattle.cw_audit.specs.Backs.{CancelHolds}
use Rattle.cw_audit.proofs.cancels.all_hold.Goals as goal

pub returns-then-not-live_cancel_holds : goal.returns-then-not-live_cancel_holds
returns-then-not-live_cancel_holds c = (
  λ e. absurd (cc e),
  λ w. absurd (cc (c.if-not-live_cancel_holds.true, c.live_cancel_holds.ensures.1 (λ live x back at k. w c.loop-n.n x back at k live))),
)

pub loop-n-preserved : goal.loop-n-preserved
loop-n-preserved c = λ n h. elim (cases_eq n c.loop-n.n) [
  | inl e ↦
      (let t = c.args.tree.now in
      let P : ℕ → Type 0 = λ x. is_live t x ≡ true → CancelHolds t c.args.first.now x in
      subst P (sym e) (c.live_cancel_holds.ensures.0 c.if-not-live_cancel_holds.false))
  | inr ne ↦ c.loop-n.invariant n (omega arith)
]

pub returns : goal.returns
returns c = (
  λ e n x back at k live. (let there : n < length c.args.tree.now = slice_get_within c.args.tree.now n x at in c.loop-n.invariant n (omega (arith, ap length c.nodes.ensures.nodes)) live x back at k),
  λ w. refl,
)
