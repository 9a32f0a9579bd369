-- A strand that is inside the blocks around it is so once its want is answered.
use Rattle.std.proofs.Common.{◌≡◌, ◌≢◌, ℕ, zero, suc, ◌-◌, List, [], ◌∷◌, refl, ap, sym, ◌∙◌, subst, arith}
use Rattle.cw_strand.specs.declared.want.Want.{Want}
use Rattle.cw_strand.specs.declared.want.Want.TheVariants.{Begin, End}
use Rattle.cw_strand.specs.declared.want.Given.{Given}
use Rattle.cw_strand.specs.declared.want.Given.TheVariants.{Nothing}
use Rattle.cw_strand.specs.Strands.{Strands, IsAnswer}
use Rattle.cw_strand.specs.Saving.{Inside, answered, StaysIn, inner_after}
use Rattle.cw_job.specs.Room.Strands.{StrandState}
use Rattle.cw_body.specs.declared.begin.Begin.{Begin as Kept}
use Rattle.cw_body.specs.Bodies.{AnswersAct}
use Rattle.cw_body.specs.InMemory.{begin_of, IsInside, IsInsideEach}

-- what is no end stays inside
pub stays_other : (w : Want) (n : ℕ) → w ≢ End → StaysIn w n
stays_other End zero off = off refl
stays_other End (suc n) off = tt
stays_other w n off = tt

module _ (elements : ℕ) where
  act_no_end : (w : Want) (given : Given) → AnswersAct elements w given → w ≢ End
  act_no_end w given h e = let P : Want → Type 0 = λ v. AnswersAct elements v given in subst P e h

  act_answer : (w : Want) (given : Given) → AnswersAct elements w given → IsAnswer elements w given
  act_answer Begin given h = absurd h
  act_answer End given h = absurd h
  act_answer w given h = h

  -- an access, an output or a cancel begins and ends no block
  act_inner : (w : Want) (given : Given) (n : ℕ) → AnswersAct elements w given → inner_after w n ≡ n
  act_inner Begin given n h = absurd h
  act_inner End given n h = absurd h
  act_inner w given n h = refl

  -- the begin and the end of a block are answered with nothing
  takes_nothing : (v w : Want) → IsAnswer elements v Nothing → w ≡ v → IsAnswer elements w Nothing
  takes_nothing v w h e = let P : Want → Type 0 = λ u. IsAnswer elements u Nothing in subst P (sym e) h

end_stays : (w : Want) (n : ℕ) → w ≡ End → StaysIn w (suc n)
end_stays w n e = let P : Want → Type 0 = λ v. StaysIn v (suc n) in subst P (sym e) tt

end_inner : (w : Want) (n : ℕ) → w ≡ End → inner_after w (suc n) ≡ n
end_inner w n e = ap (λ v. inner_after v (suc n)) e ∙ (omega arith)

module _ (s : Strands StrandState) (level : ℕ) (a : StrandState) where
  -- by another number of blocks, the answered strand is inside
  to : (given : Given) (n m : ℕ) (b : Kept) → inner_after (s.want a) n ≡ m → IsInside s level a n b → IsAnswer s.elements (s.want a) given → StaysIn (s.want a) n → IsInside s level (s.answer a given) m b
  to given n m b e h is stays = record {
    since = h.since;
    inside = (let P : ℕ → Type 0 = λ k. Inside s (begin_of b) (level - b.level) k (s.answer a given) in subst P e (answered h.inside given is stays));
  }

  pub act_each : (given : Given) → AnswersAct s.elements (s.want a) given → (n : ℕ) (bs : List Kept) → IsInsideEach s level a n bs → IsInsideEach s level (s.answer a given) n bs
  act_each given act n [] h = tt
  act_each given act n (b ∷ bs) h =
      (to given n n b (act_inner s.elements (s.want a) given n act) h.0 (act_answer s.elements (s.want a) given act) (stays_other (s.want a) n (act_no_end s.elements (s.want a) given act)), act_each given act (suc n) bs h.1)

  -- a block more is begun inside
  pub begin_each : s.want a ≡ Begin → (n : ℕ) (bs : List Kept) → IsInsideEach s level a n bs → IsInsideEach s level (s.answer a Nothing) (suc n) bs
  begin_each w n [] h = tt
  begin_each w n (b ∷ bs) h =
      (to Nothing n (suc n) b (ap (λ v. inner_after v n) w) h.0 (takes_nothing s.elements Begin (s.want a) tt w) (stays_other (s.want a) n (λ e. cc (w, e))), begin_each w (suc n) bs h.1)

  -- one of those begun inside is ended
  pub end_each : s.want a ≡ End → (n : ℕ) (bs : List Kept) → IsInsideEach s level a (suc n) bs → IsInsideEach s level (s.answer a Nothing) n bs
  end_each w n [] h = tt
  end_each w n (b ∷ bs) h =
      (to Nothing (suc n) n b (end_inner (s.want a) n w) h.0 (takes_nothing s.elements End (s.want a) tt w) (end_stays (s.want a) n w), end_each w (suc n) bs h.1)
