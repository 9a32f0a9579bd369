use Rattle.std.proofs.Common.{ℕ, get_or, sym, ◌∙◌, subst, arith, inl, inr, refl}
use Rattle.std.proofs.lemmas.Bool.{cases_eq}
use Rattle.std.proofs.lemmas.List.{get_or_default}
use Rattle.cw_tree.specs.declared.conflict.Conflict.{Conflict}
use Rattle.cw_tree.specs.Refusals.{IsRecorded}
use Rattle.cw_audit.proofs.recorded.are_recorded.Goals as goal

pub returns-then-not-is_recorded : goal.returns-then-not-is_recorded
returns-then-not-is_recorded c =
    let x = c.index-conflicts-i.result in
    let P : Conflict → Type 0 = λ y. IsRecorded c.args.tree.now y in
    (λ e. absurd (cc e), λ all. absurd (cc (c.if-not-is_recorded.true, c.is_recorded.ensures.1 (subst P (sym c.index-conflicts-i.is) (all c.loop-i.i x c.loop-i-test.true)))))

pub loop-i-preserved : goal.loop-i-preserved
loop-i-preserved c = λ k d h. elim (cases_eq k c.loop-i.i) [
  | inl e ↦ (
      let xs = c.args.conflicts.now in
      let i = c.loop-i.i in
      let x = c.index-conflicts-i.result in
      let P : Conflict → Type 0 = λ y. IsRecorded c.args.tree.now y in
      let Q : ℕ → Type 0 = λ m. IsRecorded c.args.tree.now (get_or xs m d) in
      subst Q (sym e) (subst P (c.index-conflicts-i.is ∙ get_or_default xs i x d c.loop-i-test.true) (c.is_recorded.ensures.0 c.if-not-is_recorded.false)))
  | inr ne ↦ c.loop-i.invariant k d (omega arith)
]

pub returns : goal.returns
returns c = (λ e k d h. c.loop-i.invariant k d (omega arith), λ all. refl)
