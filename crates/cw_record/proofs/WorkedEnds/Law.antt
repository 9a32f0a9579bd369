-- The strands of the worked record keep the law.
use Rattle.std.proofs.Common.{◌≡◌, ℕ, zero, suc, ◌<◌, List, [], ◌∷◌, refl, sym, ◌∙◌, subst, ap, arith}
use Rattle.cw_strand.specs.declared.want.Want.TheVariants.{Fork}
use Rattle.cw_strand.specs.declared.want.Given.{Given}
use Rattle.cw_strand.specs.Strands.{takes_answer, IsAnswer, own_after, MayWant, GoesTo, stays, answered, joins, Reached, of_main, of_left, of_right, IsDeep, IsLawful}
use Rattle.cw_record.specs.WorkedRecord.{Writer, whole, left, right, both, wants, next, left_over, writers}
use Rattle.std.proofs.Common.{true}

-- how many blocks are begun
abbrev pub in_left : ℕ → ℕ
in_left zero = 0
in_left (suc zero) = 1
in_left (suc (suc zero)) = 1
in_left n = 0

abbrev pub in_right : ℕ → ℕ
in_right zero = 0
in_right (suc zero) = 1
in_right (suc (suc zero)) = 2
in_right (suc (suc (suc zero))) = 2
in_right (suc (suc (suc (suc zero)))) = 1
in_right n = 0

abbrev pub blocks_of : Writer → List ℕ
blocks_of whole = 0 ∷ []
blocks_of (left n) = in_left n ∷ []
blocks_of (right n) = in_right n ∷ 0 ∷ []
blocks_of both = 0 ∷ []

-- an answer changes them as it should
answer_keeps : (w : Writer) (given : Given) → IsAnswer 1 (wants w) given → own_after (wants w) (blocks_of w) ≡ blocks_of (next w)
answer_keeps whole given is = absurd is
answer_keeps both given is = absurd is
answer_keeps (left zero) given is = refl
answer_keeps (left (suc zero)) given is = refl
answer_keeps (left (suc (suc zero))) given is = refl
answer_keeps (left (suc (suc (suc n)))) given is = absurd is
answer_keeps (right zero) given is = refl
answer_keeps (right (suc zero)) given is = refl
answer_keeps (right (suc (suc zero))) given is = refl
answer_keeps (right (suc (suc (suc zero)))) given is = refl
answer_keeps (right (suc (suc (suc (suc zero))))) given is = refl
answer_keeps (right (suc (suc (suc (suc (suc n)))))) given is = absurd is

-- only the whole forks
forks_whole : (w : Writer) → wants w ≡ Fork → w ≡ whole
forks_whole whole e = refl
forks_whole both e = absurd (cc e)
forks_whole (left zero) e = absurd (cc e)
forks_whole (left (suc zero)) e = absurd (cc e)
forks_whole (left (suc (suc zero))) e = absurd (cc e)
forks_whole (left (suc (suc (suc n)))) e = absurd (cc e)
forks_whole (right zero) e = absurd (cc e)
forks_whole (right (suc zero)) e = absurd (cc e)
forks_whole (right (suc (suc zero))) e = absurd (cc e)
forks_whole (right (suc (suc (suc zero)))) e = absurd (cc e)
forks_whole (right (suc (suc (suc (suc zero))))) e = absurd (cc e)
forks_whole (right (suc (suc (suc (suc (suc n)))))) e = absurd (cc e)

goes_to : {from own : List ℕ} {a b : Writer} → GoesTo writers from a own b → from ≡ blocks_of a → own ≡ blocks_of b
goes_to stays h = h
goes_to (answered {b = b} goes given is) h = ap (own_after (wants b)) (goes_to goes h) ∙ answer_keeps b given is
goes_to (joins {b = b} goes fork l lo r ro) h = goes_to goes h ∙ ap blocks_of (forks_whole b fork)

reached : {own : List ℕ} {a : Writer} → Reached writers own a → own ≡ blocks_of a
reached (of_main goes) = goes_to goes refl
reached (of_left r fork goes) = goes_to goes refl
reached (of_right {f = f} r fork goes) = goes_to goes (ap (λ own. 0 ∷ own) (reached r ∙ ap blocks_of (forks_whole f fork)))

may : (w : Writer) → MayWant (wants w) (blocks_of w)
may whole = tt
may both = tt
may (left zero) = tt
may (left (suc zero)) = tt
may (left (suc (suc zero))) = tt
may (left (suc (suc (suc n)))) = tt
may (right zero) = tt
may (right (suc zero)) = tt
may (right (suc (suc zero))) = tt
may (right (suc (suc (suc zero)))) = tt
may (right (suc (suc (suc (suc zero))))) = tt
may (right (suc (suc (suc (suc (suc n)))))) = tt

answer_lowers : (w : Writer) (given : Given) → takes_answer (wants w) ≡ true → left_over (next w) < left_over w
answer_lowers whole given e = absurd (cc e)
answer_lowers both given e = absurd (cc e)
answer_lowers (left zero) given e = omega arith
answer_lowers (left (suc zero)) given e = omega arith
answer_lowers (left (suc (suc zero))) given e = omega arith
answer_lowers (left (suc (suc (suc n)))) given e = absurd (cc e)
answer_lowers (right zero) given e = omega arith
answer_lowers (right (suc zero)) given e = omega arith
answer_lowers (right (suc (suc zero))) given e = omega arith
answer_lowers (right (suc (suc (suc zero)))) given e = omega arith
answer_lowers (right (suc (suc (suc (suc zero))))) given e = omega arith
answer_lowers (right (suc (suc (suc (suc (suc n)))))) given e = absurd (cc e)

deep : IsDeep writers
deep = record {
  left = λ w e. (let nine : left_over w ≡ 9 = ap left_over (forks_whole w e) in omega arith);
  right = λ w e. (let nine : left_over w ≡ 9 = ap left_over (forks_whole w e) in omega arith);
  answer = answer_lowers;
  joined = λ r l. omega arith;
}

pub lawful : IsLawful writers
lawful = record { deep = deep; closes = λ own w r. subst (MayWant (wants w)) (sym (reached r)) (may w) }
