use Rattle.std.proofs.Common.{ℕ, get_or, arith, sym, subst, inl, inr, refl}
use Rattle.std.proofs.lemmas.Bool.{cases_eq}
use Rattle.std.proofs.lemmas.List.{get_or_default}
use Rattle.cw_tree.specs.Accesses.{HasAccess}
use Rattle.cw_audit.proofs.told.are_accesses.Goals as goal

pub returns-then-not-is_access : goal.returns-then-not-is_access
returns-then-not-is_access c = (λ e. absurd (cc e), λ all. absurd (cc (c.if-not-is_access.true, c.is_access.ensures.1 (all c.loop-i.i 0 c.loop-i-test.true))))

pub loop-i-preserved : goal.loop-i-preserved
loop-i-preserved c = λ k h. elim (cases_eq k c.loop-i.i) [
  | inl e ↦ (let P : ℕ → Type 0 = λ m. HasAccess c.args.tree.now c.args.cell (get_or c.args.chain.now m 0) in subst P (sym e) (c.is_access.ensures.0 c.if-not-is_access.false))
  | inr ne ↦ c.loop-i.invariant k (omega arith)
]

pub returns : goal.returns
returns c =
    let xs = c.args.chain.now in
    let P : ℕ → Type 0 = λ s. HasAccess c.args.tree.now c.args.cell s in
    (λ e k d h. subst P (sym (get_or_default xs k d 0 h)) (c.loop-i.invariant k (omega arith)), λ all. refl)
