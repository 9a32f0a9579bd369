-- A binary search by stamps finds an entry with a stamp exactly where there is one.
use Rattle.std.proofs.Common.{◌≡◌, ℕ, ◌<◌, ◌≤◌, List, length, get_or, refl, Result, Ok, Err, sym, ap, ◌∙◌, arith, inl, inr, ◌↔◌, IsTrue}
use Rattle.std.specs.Prelude.{Contains, is_ok}
use Rattle.std.specs.List.Sorted.{IsSearchInRange, IsBinarySearchResult, IsNonDecreasingBy, IsStrictlyIncreasing}
use Rattle.std.specs.Ordering.{nat_cmp, ordering_index}
use Rattle.std.proofs.lemmas.Cmp.{ranked}
use Rattle.std.proofs.lemmas.Bool.{cases_lt}
use Rattle.std.proofs.lemmas.Bool.Decides.{nat_tests}
use Rattle.std.proofs.lemmas.List.{length-map, get_or_default}
use Rattle.std.proofs.lemmas.List.Sorted.{IsNonDecreasingBy-from_default}
use Rattle.cw_tree.specs.declared.access.Entry.{Entry}
use Rattle.cw_tree.specs.AccessStacks.{stamps}
use Rattle.cw_stack.proofs.Rising.{earlier_less, stamp_at}

module _ (es : List Entry) (rising : IsStrictlyIncreasing (stamps es)) (s : ℕ) (d : Entry) where
  stamps_rise : (i j : ℕ) → i ≤ j → j < length es → (get_or es i d).mark.stamp ≤ (get_or es j d).mark.stamp
  stamps_rise i j le low =
      let len : length (stamps es) ≡ length es = length-map es (λ e. e.mark.stamp) in
      let one = stamp_at es i d (omega arith) in
      let two = stamp_at es j d low in
      elim (cases_lt i j) [
        | inl less ↦ (let l : get_or (stamps es) i 0 < get_or (stamps es) j 0 = earlier_less (stamps es) rising i j less (omega arith) in omega arith)
        | inr ge ↦ (let same : get_or (stamps es) i 0 ≡ get_or (stamps es) j 0 = ap (λ k. get_or (stamps es) k 0) (let e : i ≡ j = omega arith in e) in omega arith)
      ]

  comparisons_rise : IsNonDecreasingBy (λ (e : Entry). ordering_index (nat_cmp e.mark.stamp s)) es
  comparisons_rise = IsNonDecreasingBy-from_default (λ (e : Entry). ordering_index (nat_cmp e.mark.stamp s)) es d (λ i j le low.
      let rise = stamps_rise i j le low in grind (arith, nat_tests))

  pub found : (r : Result ℕ ℕ) → IsSearchInRange r (length es) → IsBinarySearchResult (λ (e : Entry). nat_cmp e.mark.stamp s) es r → IsTrue (is_ok r) ↔ Contains (stamps es) s
  found (Ok at) low equal =
      let len : length (stamps es) ≡ length es = length-map es (λ e. e.mark.stamp) in
      let there : at < length (stamps es) = omega arith in
      let same : (get_or es at d).mark.stamp ≡ s = ranked _ s _ (sym (equal d)) in
      (λ _. (at, there, sym (get_or_default (stamps es) at 0 s there) ∙ stamp_at es at d low ∙ same), λ _. refl)
  found (Err at) within parted =
      let len : length (stamps es) ≡ length es = length-map es (λ e. e.mark.stamp) in
      let two = parted comparisons_rise in (
        λ e. absurd (cc e),
        λ c.
            let there : c.0 < length es = (let low = c.1 in omega arith) in
            let here : (get_or es c.0 d).mark.stamp ≡ s = sym (stamp_at es c.0 d there) ∙ get_or_default (stamps es) c.0 0 s c.1 ∙ c.2 in
            elim (cases_lt c.0 at) [
              | inl less ↦ (let l = ranked _ s _ (sym (two.0 c.0 d (omega arith) less)) in absurd (omega (arith, here)))
              | inr ge ↦ (let l = ranked _ s _ (sym (two.1 c.0 d ge there)) in absurd (omega (arith, here)))
            ],
      )
