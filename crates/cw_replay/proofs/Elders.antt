-- The nodes right before one in its place, and how many of them pass a test.
use Rattle.std.proofs.Common.{append-nil, ◌≡◌, ℕ, zero, suc, ◌+◌, ◌<◌, ◌≤◌, Bool, true, false, List, [], ◌∷◌, ◌++◌, refl, ap, sym, ◌∙◌, subst, arith, cond, filter, inl, inr}
use Rattle.std.specs.List.{suffix_len, prefix_len}
use Rattle.std.proofs.lemmas.List.{reverse-append}
use Rattle.std.proofs.lemmas.List.Elements.{filter-append}
use Rattle.cw_tree.specs.Nodes.{below}
use Rattle.cw_tree.proofs.Lists.{at_or_before}

-- the members below n
abbrev pub members : (ℕ → Bool) → ℕ → List ℕ
members is_there n = filter is_there (below n)

module _ (is_there passes : ℕ → Bool) where
  abbrev pub run_before : ℕ → ℕ
  run_before n = suffix_len passes (members is_there n)

  run_next : (n : ℕ) (b c : Bool) → is_there n ≡ b → passes n ≡ c → run_before (suc n) ≡ cond b (cond c (1 + run_before n) 0) (run_before n)
  run_next n b c e f =
      ap (suffix_len passes) (filter-append is_there (below n) (n ∷ []) ∙ ap (λ x. members is_there n ++ cond x (n ∷ []) []) e) ∙ by_member b c f
    where
      by_member : (b c : Bool) → passes n ≡ c → suffix_len passes (members is_there n ++ cond b (n ∷ []) []) ≡ cond b (cond c (1 + run_before n) 0) (run_before n)
      by_member true c f = ap (prefix_len passes) (reverse-append (members is_there n) (n ∷ [])) ∙ ap (λ x. cond x (1 + run_before n) 0) f
      by_member false c f = ap (suffix_len passes) (append-nil (members is_there n))

  -- one of the members right before n that pass; k more that pass come right before it
  pub record Elder (n k : ℕ) : Type 0 where
    pub node : ℕ
    pub lower : node < n
    pub there : is_there node ≡ true
    pub number : run_before node ≡ k
    pub all : (m : ℕ) → is_there m ≡ true → node ≤ m → m < n → passes m ≡ true

  one_more : (n k : ℕ) → Elder n k → (is_there n ≡ true → passes n ≡ true) → Elder (suc n) k
  one_more n k e next = record {
    node = e.node;
    lower = omega (arith, e.lower);
    there = e.there;
    number = e.number;
    all = λ m h low high. elim (at_or_before m n high) [ inl l ↦ e.all m h low l | inr q ↦ (let P : ℕ → Type 0 = λ x. is_there x ≡ true → passes x ≡ true in subst P q next h) ];
  }

  -- given those before n - 1, where that is no member or passes
  elder_next : (n k : ℕ) → k < run_before (suc n) → (k < run_before n → Elder n k) → Elder (suc n) k
  elder_next n k l before = by_tests (is_there n) (passes n) refl refl where
    by_tests : (b c : Bool) → is_there n ≡ b → passes n ≡ c → Elder (suc n) k
    by_tests false c e f = one_more n k (before (omega (arith, l, run_next n false c e f))) (λ h. absurd (cc (h, e)))
    by_tests true false e f = absurd (omega (arith, l, run_next n true false e f))
    by_tests true true e f = elim (at_or_before k (run_before n) (omega (arith, l, run_next n true true e f))) [
      | inl less ↦ one_more n k (before less) (λ h. f)
      | inr same ↦ record {
        node = n;
        lower = omega arith;
        there = e;
        number = same;
        all = λ m h low high. (let q : m ≡ n = omega (arith, low, high) in let P : ℕ → Type 0 = λ x. passes x ≡ true in subst P (sym q) f);
      }
    ]

  pub elder : (n k : ℕ) → k < run_before n → Elder n k
  elder zero k l = absurd (omega (arith, l))
  elder (suc n) k l = elder_next n k l (λ less. elder n k less)
