use Rattle.std.proofs.Common.{inl, inr, rules, subst, ◌≡◌, ℕ, [], ◌∷◌, zero, refl, sym, arith}
use Rattle.std.specs.Prelude.{Contains, MatchOption, Option, Some, None}
use Rattle.std.specs.Option.{unwrap_or}
use Rattle.cw_log.specs.Answers.{IsAround}
use Rattle.tests_log.proofs.Victims.{still_in}
use Rattle.tests_log.proofs.fickle.Fickle.victim.Goals as goal

pub loop-init : goal.loop-init
loop-init c = λ b h. subst (λ bs. Contains bs b) (search rules) h

pub loop-preserved : goal.loop-preserved
loop-preserved c = λ b h. c.loop.invariant b (still_in c.loop.around c.pop.new.self c.pop.result c.pop.ensures b h)

pub returns : goal.returns
returns c = subst (IsAround c.args.token.now) (sym c.unwrap_or.ensures) (by c.pop-2.result c.pop-2.ensures) where
  by : (r : Option ℕ) → MatchOption r ((c.loop.around ≡ []) × (c.pop-2.new.self ≡ [])) (λ x. c.loop.around ≡ x ∷ c.pop-2.new.self) → IsAround c.args.token.now (unwrap_or r 0)
  by None e = inl refl
  by (Some x) e = inr (c.loop.invariant x (subst (λ bs. Contains bs x) (sym e) (zero, omega arith, refl)))
