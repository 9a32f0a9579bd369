use Rattle.std.proofs.Common.{rules, subst, sym, refl, inl, inr, ◌≡◌, ◌∷◌, [], ℕ, Some, ◌<◌, length}
use Rattle.std.specs.Prelude.{◌⊎◌, Contains, slice_index_or}
use Rattle.cw_tree.specs.declared.conflict.Conflict.{Conflict}
use Rattle.cw_log.specs.Tokens.{conflicts_in, logs}
use Rattle.tests_log.specs.Kept.{HasNoVictim}
use Rattle.tests_log.proofs.Victims.{still_in, rest_or, none_in}
use Rattle.tests_log.proofs.token.StrandToken.dies.Goals as goal

pub loop-init : goal.loop-init
loop-init c =
    let e : c.in_ok-around.around ≡ c.args.self.now.around = search rules in
    (λ b h. subst (λ bs. Contains bs b) e h, λ b h. inl (subst (λ bs. Contains bs b) (sym e) h))

pub returns-in_default : goal.returns-in_default
returns-in_default c =
    let (sub, rest) = c.loop.invariant in
    λ k d r h. by k d r (rest (slice_index_or (conflicts_in (logs c.args.self.now)) k d).victim h)
  where
    e : c.loop.around ≡ []
    e = search rules

    by : (k : ℕ) (d : Conflict) → k < length (conflicts_in (logs c.args.self.now)) → Contains c.loop.around (slice_index_or (conflicts_in (logs c.args.self.now)) k d).victim ⊎ HasNoVictim (conflicts_in (logs c.args.self.now)) (slice_index_or (conflicts_in (logs c.args.self.now)) k d).victim → ⊥
    by k d r (inl i) = none_in (slice_index_or (conflicts_in (logs c.args.self.now)) k d).victim (subst (λ bs. Contains bs (slice_index_or (conflicts_in (logs c.args.self.now)) k d).victim) e i)
    by k d r (inr n) = n k d r refl

pub loop-preserved : goal.loop-preserved
loop-preserved c =
    let (sub, rest) = c.loop.invariant in
    let e : c.loop.around ≡ c.in-Some.begin ∷ c.pop.new.self = search rules in
    let spared : HasNoVictim (conflicts_in (logs c.args.self.now)) c.in-Some.begin = search rules in (
      λ b h. sub b (still_in c.loop.around c.pop.new.self (Some c.in-Some.begin) e b h),
      λ b h. rest_or (HasNoVictim (conflicts_in (logs c.args.self.now))) c.in-Some.begin c.loop.around c.pop.new.self e spared b (rest b h),
    )
