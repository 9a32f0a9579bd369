-- Strands inside a block of which the begin is inside another block.
use Rattle.std.proofs.Common.{◌≡◌, ℕ, zero, suc, ◌+◌, ◌<◌, refl, ap, sym, subst, arith}
use Rattle.cw_strand.specs.declared.want.Want.{Want}
use Rattle.cw_strand.specs.declared.want.Want.TheVariants.{Begin, End}
use Rattle.cw_strand.specs.declared.want.Given.{Given}
use Rattle.cw_strand.specs.declared.want.Given.TheVariants.{Nothing}
use Rattle.cw_strand.specs.Strands.{Strands, IsAnswer}
use Rattle.cw_strand.specs.Saving.{Inside, begun, answered, goes_right, joins, StaysIn, inner_after}

-- what is no end stays inside
pub stays_other : (w : Want) (n : ℕ) → (w ≡ End → ⊥) → StaysIn w n
stays_other End zero off = off refl
stays_other End (suc n) off = tt
stays_other w n off = tt

stays_some : (n : ℕ) → 0 < n → StaysIn End n
stays_some zero h = absurd (omega arith)
stays_some (suc n) h = tt

-- with one block more around, none ends it
stays_within : (w : Want) (n i : ℕ) → StaysIn w n → StaysIn w (n + suc i)
stays_within End n i h = stays_some (n + suc i) (omega arith)
stays_within w n i h = tt

-- and afterwards as many more are begun and not ended
inner_within : (w : Want) (n i : ℕ) → StaysIn w n → inner_after w (n + suc i) ≡ inner_after w n + suc i
inner_within End zero i h = absurd h
inner_within End (suc n) i h = omega arith
inner_within Begin n i h = omega arith
inner_within w n i h = refl

module _ {A : Type 0} (s : Strands A) where
  -- an answer to an access, an output or a begin leaves a strand inside
  pub goes_on : (begin : A) (forks inner : ℕ) (a : A) (given : Given) → Inside s begin forks inner a → IsAnswer s.elements (s.want a) given → (s.want a ≡ End → ⊥) → (inner : ℕ) × Inside s begin forks inner (s.answer a given)
  goes_on begin forks inner a given h is off = (inner_after (s.want a) inner, answered h given is (stays_other (s.want a) inner off))

  -- the begin of a block is inside, and so is what it goes on to
  pub goes_in : (outer begin : A) (forks inner : ℕ) → Inside s outer forks inner begin → s.want begin ≡ Begin → Inside s outer forks (suc inner) (s.answer begin Nothing)
  goes_in outer begin forks inner h w =
      let P : Want → Type 0 = λ v. IsAnswer s.elements v Nothing in
      let Q : ℕ → Type 0 = λ k. Inside s outer forks k (s.answer begin Nothing) in
      subst Q (ap (λ v. inner_after v inner) w) (answered h Nothing (subst P (sym w) tt) (stays_other (s.want begin) inner (λ e. cc (w, e))))

  -- a strand inside a block whose begin is inside another one is inside that too
  module _ (outer begin : A) (f i : ℕ) (o : Inside s outer f i begin) (w : s.want begin ≡ Begin) where
    pub within : {g j : ℕ} {a : A} → Inside s begin g j a → Inside s outer (g + f) (j + suc i) a
    within begun =
        let P : ℕ → ℕ → Type 0 = λ k l. Inside s outer k l (s.answer begin Nothing) in
        let at : f ≡ 0 + f = omega arith in
        let to : suc i ≡ 0 + suc i = omega arith in
        subst (λ k. P k (0 + suc i)) at (subst (P f) to (goes_in outer begin f i o w))
    within (answered {forks = g} {inner = j} {a = a} h given is stays) =
        let P : ℕ → Type 0 = λ k. Inside s outer (g + f) k (s.answer a given) in
        subst P (inner_within (s.want a) j i stays) (answered (within h) given is (stays_within (s.want a) j i stays))
    within (goes_right {forks = g} {inner = j} {a = a} h fork) =
        let P : ℕ → Type 0 = λ k. Inside s outer k (j + suc i) (s.right a) in
        let at : suc (g + f) ≡ suc g + f = omega arith in
        subst P at (goes_right (within h) fork)
    within (joins {forks = g} {inner = j} {right = right} h stays left) =
        let P : ℕ → Type 0 = λ k. Inside s outer (g + f) k (s.joined right left) in
        let Q : ℕ → Type 0 = λ k. Inside s outer k (j + suc i) right in
        let at : suc g + f ≡ suc (g + f) = omega arith in
        subst P (inner_within (s.want right) j i stays) (joins (subst Q at (within h)) (stays_within (s.want right) j i stays) left)

    -- it may end the inner one
    pub goes_out : (j : ℕ) (a : A) (given : Given) → Inside s begin 0 j a → IsAnswer s.elements (s.want a) given → s.want a ≡ End → (inner : ℕ) × Inside s outer f inner (s.answer a given)
    goes_out j a given h is end =
        let P : Want → Type 0 = λ v. StaysIn v (j + suc i) in
        let Q : ℕ → Type 0 = λ k. Inside s outer k (inner_after (s.want a) (j + suc i)) (s.answer a given) in
        let at : 0 + f ≡ f = omega arith in
        (inner_after (s.want a) (j + suc i), subst Q at (answered (within h) given is (subst P (sym end) (stays_some (j + suc i) (omega arith)))))
