-- In a plain tree no two strands have the same name.
use Rattle.std.proofs.Common.{◌≡◌, ℕ, zero, suc, ◌+◌, ◌<◌, ◌≤◌, List, length, refl, ap, sym, ◌∙◌, arith, true, inl, inr, subst, nat_lt, nat_eq}
use Rattle.std.proofs.lemmas.Bool.{cases_lt, eq-eqb, and_from, lt-ltb, ltb-true}
use Rattle.cw_tree.specs.declared.node.Node.{Node}
use Rattle.cw_tree.specs.declared.picks.Turn.{Turn}
use Rattle.cw_tree.specs.Nodes.{parent_of, is_strand, is_fork}
use Rattle.cw_tree.specs.Walks.{IsNumbered}
use Rattle.cw_tree.specs.Series.{strand_of}
use Rattle.cw_tree.specs.Names.{fork_number, name_of, turn}
use Rattle.cw_tree.proofs.Walks.Strands.{strand_of_le}
use Rattle.cw_record.specs.Plain.{IsPlainAt, forks_before}
use Rattle.cw_record.proofs.StrandIs.{strand_is}
use Rattle.cw_record.proofs.Orders.Names.{name_of_strand, parents_same, some_name}
use Rattle.cw_record.proofs.Plain.Counted.{count_apart}
use Rattle.cw_record.proofs.Plain.Passing.{made_by}
use Rattle.cw_record.proofs.Plain.Turns.{forks_counted, right_is, no_third}

module _ (t : List Node) (w : IsNumbered t) (plain : (m : ℕ) → 0 < m → m < length t → IsPlainAt t m) where
  low : (s : ℕ) → 0 < s → s < length t → parent_of t s < s
  low = w.rooted

  -- what is true of strand s
  record IsStrand (s : ℕ) : Type 0 where
    some : 0 < s
    there : s < length t
    is : is_strand t s ≡ true

  made_at : (s : ℕ) → IsStrand s → made_by t (strand_of t (parent_of t s)) (parent_of t s) ≡ true
  made_at s x =
      and_from (is_fork t (parent_of t s)) (nat_eq (strand_of t (parent_of t s)) (strand_of t (parent_of t s)))
      (sym (plain s x.some x.there).strand ∙ x.is) (eq-eqb (strand_of t (parent_of t s)) (strand_of t (parent_of t s)) refl)

  -- strands on the same side of one fork are one
  same_side : (s m : ℕ) → IsStrand s → IsStrand m → parent_of t s ≡ parent_of t m → nat_lt (parent_of t s + 1) s ≡ nat_lt (parent_of t m + 1) m → s ≡ m
  same_side s m x y e side =
      let l = low s x.some x.there in
      let k = low m y.some y.there in
      elim (cases_lt (parent_of t s + 1) s) [
        | inl h ↦
            (let g : parent_of t m + 1 < m = ltb-true (parent_of t m + 1) m (sym side ∙ lt-ltb (parent_of t s + 1) s h) in
            elim (cases_lt s m) [
              | inl less ↦ absurd (no_third t w plain m y.some y.there y.is s (omega arith) less e)
              | inr more ↦ elim (cases_lt m s) [ inl less ↦ absurd (no_third t w plain s x.some x.there x.is m (omega arith) less (sym e)) | inr same ↦ omega arith ]
            ])
        | inr h ↦ elim (cases_lt (parent_of t m + 1) m) [
          | inl g ↦ absurd (let up : parent_of t s + 1 < s = ltb-true (parent_of t s + 1) s (side ∙ lt-ltb (parent_of t m + 1) m g) in omega arith)
          | inr g ↦ omega arith
        ]
      ]

  -- forks of one strand with the same number are one
  same_fork : (s m : ℕ) → IsStrand s → IsStrand m → strand_of t (parent_of t s) ≡ strand_of t (parent_of t m) → fork_number t (parent_of t s) ≡ fork_number t (parent_of t m) → parent_of t s ≡ parent_of t m
  same_fork s m x y own e =
      let l = low s x.some x.there in
      let k = low m y.some y.there in
      let p = parent_of t s in
      let q = parent_of t m in
      let P : ℕ → Type 0 = λ r. made_by t r q ≡ true in
      let moved : forks_before t (strand_of t q) q ≡ forks_before t (strand_of t p) q = ap (λ r. forks_before t r q) (sym own) in
      count_apart (made_by t (strand_of t p)) p q (made_at s x) (subst P (sym own) (made_at m y)) (omega (arith, e, moved, forks_counted t w plain p (omega arith), forks_counted t w plain q (omega arith)))

  -- strands with the same turn, of one strand, are one
  same_turn : (s m : ℕ) → IsStrand s → IsStrand m → strand_of t (parent_of t s) ≡ strand_of t (parent_of t m) → turn t s ≡ turn t m → s ≡ m
  same_turn s m x y own e =
      same_side s m x y (same_fork s m x y own (ap (λ (z : Turn). z.fork) e))
      (sym (right_is t w plain s x.some x.there x.is) ∙ ap (λ (z : Turn). z.right) e ∙ right_is t w plain m y.some y.there y.is)

  -- up to strand k
  apart_to : (k s m : ℕ) → s < k → m < k → s < length t → m < length t → is_strand t s ≡ true → is_strand t m ≡ true → name_of t s ≡ name_of t m → s ≡ m
  apart_to zero s m h g l j x y e = absurd (omega arith)
  apart_to (suc k) zero zero h g l j x y e = refl
  apart_to (suc k) zero (suc m) h g l j x y e = absurd (some_name t w.rooted (suc m) (omega arith) j y (sym e))
  apart_to (suc k) (suc s) zero h g l j x y e = absurd (some_name t w.rooted (suc s) (omega arith) l x e)
  apart_to (suc k) (suc s) (suc m) h g l j x y e =
      let a : IsStrand (suc s) = record { some = omega arith; there = l; is = x } in
      let b : IsStrand (suc m) = record { some = omega arith; there = j; is = y } in
      let p = parent_of t (suc s) in
      let q = parent_of t (suc m) in
      let lp : p < suc s = low (suc s) (omega arith) l in
      let lq : q < suc m = low (suc m) (omega arith) j in
      let both = parents_same t w.rooted (suc s) (suc m) (omega arith) (omega arith) l j x y e in
      let up : strand_of t p ≤ p = strand_of_le t w.rooted p (omega arith) in
      let vp : strand_of t q ≤ q = strand_of_le t w.rooted q (omega arith) in
      same_turn (suc s) (suc m) a b
      (apart_to k (strand_of t p) (strand_of t q) (omega arith) (omega arith) (omega arith) (omega arith) (strand_is t w.rooted w.root p (omega arith)) (strand_is t w.rooted w.root q (omega arith))
      (name_of_strand t w.rooted p (omega arith) ∙ both.0 ∙ sym (name_of_strand t w.rooted q (omega arith))))
      both.1

  pub names_apart : (s m : ℕ) → s < length t → m < length t → is_strand t s ≡ true → is_strand t m ≡ true → name_of t s ≡ name_of t m → s ≡ m
  names_apart s m l j x y e = apart_to (length t) s m l j l j x y e
