-- Where strands come to by what they do by themselves, and why no more forks and answers follow each other than their depth says.
use Rattle.std.proofs.Common.{◌≡◌, ◌<◌, ◌≤◌, ℕ, zero, suc, true, refl, ap, sym, ◌∙◌, subst, arith}
use Rattle.std.specs.Prelude.{max}
use Rattle.cw_strand.specs.declared.want.Want.{Want}
use Rattle.cw_strand.specs.declared.want.Want.TheVariants.{Fork, Sync, Done, Fault}
use Rattle.cw_strand.specs.Strands.{IsDeep, takes_answer}
use Rattle.cw_strand.specs.Running.{LocalStep, on, wants, stuck, Standing, Running, stand_by, stand_within, stand, depth_of, strands, ComesTo, here, lacks, goes_on, Settles, IsBounded}

module _ {S : Type 0} (r : Running S) (falls : (s t : S) → r.step s ≡ on t → r.bound t < r.bound s) where
  module _ (P : S → Type 0) (Q : Standing S → Type 0)
      (goes : (s t : S) → P s → r.step s ≡ on t → P t)
      (comes : (s t : S) (w : Want) → P s → r.step s ≡ wants w t → Q (record { want = w; state = t }))
      (lacking : (s : S) → P s → r.step s ≡ stuck → Q (record { want = Done; state = s })) where
    holds_by : (s : S) (x : LocalStep S) (go : S → Standing S) → P s → r.step s ≡ x → ((t : S) → r.step s ≡ on t → P t → Q (go t)) → Q (stand_by r s x go)
    holds_by s (on t) go h is later = later t is (goes s t h is)
    holds_by s (wants w t) go h is later = comes s t w h is
    holds_by s stuck go h is later = lacking s h is

    holds_within : (n : ℕ) (s : S) → r.bound s ≤ n → P s → Q (stand_within r n s)
    holds_within zero s low h = holds_by s _ _ h refl (λ t is later. absurd (omega (arith, falls s t is)))
    holds_within (suc n) s low h = holds_by s _ _ h refl (λ t is later. holds_within n t (omega (arith, falls s t is)) later)

    -- what holds of each state on the way, and so of the want to which it leads, holds where the state comes to stand
    pub stand_holds : (s : S) → P s → Q (stand r s)
    stand_holds s h = holds_within (r.bound s) s (omega arith) h

  pub settles : Settles r
  settles s =
      stand_holds (λ t. (x : Standing S) → ComesTo r t x → ComesTo r s x) (λ x. ComesTo r s x)
      (λ t u h is x later. h x (goes_on is later))
      (λ t u w h is. h _ (here is))
      (λ t h is. h _ (lacks is))
      s (λ x h. h)

  one_place : (s : S) (x y : Standing S) → ComesTo r s x → ComesTo r s y → x ≡ y
  one_place s x y (here is) (here is') = ap (λ z. stand_by r s z (λ t. x)) (sym is ∙ is')
  one_place s x y (lacks is) (lacks is') = refl
  one_place s x y (goes_on {t = t} is h) (goes_on {t = u} is' h') = let same : u ≡ t = cc in one_place t x y h (subst (λ v. ComesTo r v y) same h')
  one_place s x y (here is) (lacks is') = absurd cc
  one_place s x y (here is) (goes_on is' h) = absurd cc
  one_place s x y (lacks is) (here is') = absurd cc
  one_place s x y (lacks is) (goes_on is' h) = absurd cc
  one_place s x y (goes_on is h) (here is') = absurd cc
  one_place s x y (goes_on is h) (lacks is') = absurd cc

  -- a step by itself leads to where all of them lead
  pub stand_on : (s t : S) → r.step s ≡ on t → stand r s ≡ stand r t
  stand_on s t is = one_place s _ _ (settles s) (goes_on is (settles t))

  pub stand_want : (s t : S) (w : Want) → r.step s ≡ wants w t → stand r s ≡ record { want = w; state = t }
  stand_want s t w is = one_place s _ _ (settles s) (here is)

-- ## Depth

module _ {S : Type 0} (r : Running S) where
  fork_depth : (w : Want) (s : S) → w ≡ Fork → depth_of r w s ≡ suc (max (r.bound s) (r.bound (r.left s)))
  fork_depth w s is = ap (λ v. depth_of r v s) is

  answer_depth : (w : Want) (s : S) → takes_answer w ≡ true → depth_of r w s ≡ suc (r.bound s)
  answer_depth Fork s is = absurd cc
  answer_depth Sync s is = absurd cc
  answer_depth Done s is = absurd cc
  answer_depth (Fault k) s is = absurd cc
  answer_depth w s is = refl

  least_depth : (w : Want) (s : S) → r.bound s ≤ depth_of r w s
  least_depth Fork s = omega arith
  least_depth w s = omega arith

  module _ (b : IsBounded r) where
    stand_depth : (s : S) → depth_of r (stand r s).want (stand r s).state ≤ r.bound s
    stand_depth s =
        stand_holds r b.on (λ t. r.bound t ≤ r.bound s) (λ x. depth_of r x.want x.state ≤ r.bound s)
        (λ t u h is. omega (arith, b.on t u is))
        (λ t u w h is. omega (arith, b.want t u w is))
        (λ t h is. h)
        s (omega arith)

    pub deep : IsDeep (strands r)
    deep = record {
      left = λ x is. omega (arith, fork_depth x.want x.state is, stand_depth (r.left x.state));
      right = λ x is. omega (arith, fork_depth x.want x.state is, stand_depth x.state);
      answer = λ x given is. omega (arith, answer_depth x.want x.state is, stand_depth (r.answered given x.state), b.answered given x.state);
      joined = λ right left. omega (arith, least_depth right.want right.state, stand_depth (r.joined right.state left.state), b.joined right.state left.state);
    }
