-- What every call keeps of the columns, kept by a fork.
use Rattle.std.proofs.Common.{◌≡◌, ℕ, zero, suc, ◌+◌, ◌<◌, ◌≤◌, List, [], ◌∷◌, ◌++◌, length, refl, ap, sym, ◌∙◌, arith, Bool, true, false, Option, Some, None, nat_eq, inl, inr, length-append}
use Rattle.std.specs.Prelude.{◌⊎◌, ◌*◌, ◌/◌, ◌%◌, is_some, slice_index, if◌then◌else◌}
use Rattle.std.specs.List.{slice_get}
use Rattle.std.proofs.lemmas.List.{get_or_append_left}
use Rattle.std.proofs.lemmas.Option.{slice_get_past}
use Rattle.cw_tree.proofs.NextNodes.Growing.{get_append}
use Rattle.cw_trace.specs.declared.tier.Trace.{Trace}
use Rattle.cw_trace.specs.Columns.{ColumnTable, used, owner, trace_in, is_trace, outer, outer_at, fork_in, forked}
use Rattle.cw_trace.specs.Tier.{AreSound}
use Rattle.cw_trace.proofs.Segments.Lines.{le_or_lt}
use Rattle.cw_trace.proofs.Marks.Counts.{SameLengths, count_none, named_at, named_low}

module _ (c : ColumnTable) (s : AreSound c) (l : SameLengths c) where
  module _ (word p : ℕ) (there : p < used c) where
    abbrev k : ColumnTable
    k = forked word p c

    forked_used : used k ≡ used c + 2
    forked_used = length-append c.owners (owner c p ∷ owner c p ∷ [])

    abbrev two : List (Option ℕ)
    two = outer_at c p ∷ outer_at c p ∷ []

    named_old : (x : ℕ) → is_trace c x ≡ true → is_trace k x ≡ true
    named_old x h = ap (λ o. is_some (trace_in o)) (get_append c.traces (None ∷ None ∷ []) x (named_low c.traces x h)) ∙ h

    named_back : (x : ℕ) → is_trace k x ≡ is_trace c x
    named_back x = elim (le_or_lt (length c.traces) x) [
      | inr h ↦ ap (λ o. is_some (trace_in o)) (get_append c.traces (None ∷ None ∷ []) x h)
      | inl h ↦ past c.traces x h ∙ sym (ap (λ o. is_some (trace_in o)) (slice_get_past c.traces x h))
    ] where
      past : (ts : List (Option Trace)) (x : ℕ) → length ts ≤ x → named_at (ts ++ None ∷ None ∷ []) x ≡ false
      past [] zero h = refl
      past [] (suc zero) h = refl
      past [] (suc (suc x)) h = refl
      past (y ∷ ts) zero h = absurd (omega arith)
      past (y ∷ ts) (suc x) h = past ts x (omega arith)

    -- a new column, or an old one
    new_owner : (i : ℕ) → i < used k → ((i < used c) × (owner k i ≡ owner c i)) ⊎ ((used c ≤ i) × (owner k i ≡ owner c p))
    new_owner i h = elim (le_or_lt (used c) i) [
      | inr z ↦ inl (z, get_or_append_left c.owners (owner c p ∷ owner c p ∷ []) 0 i z)
      | inl z ↦ inr (z, at_end c.owners (owner c p) i z (omega (arith, forked_used)))
    ] where
      at_end : (xs : List ℕ) (y i : ℕ) → length xs ≤ i → i < length xs + 2 → slice_index (xs ++ y ∷ y ∷ []) i ≡ y
      at_end [] y zero h g = refl
      at_end [] y (suc zero) h g = refl
      at_end [] y (suc (suc i)) h g = absurd (omega arith)
      at_end (x ∷ xs) y zero h g = absurd (omega arith)
      at_end (x ∷ xs) y (suc i) h g = at_end xs y i (omega arith) (omega arith)

    new_parent : (i : ℕ) → i < used k → ((i < used c) × (slice_index k.parents i ≡ slice_index c.parents i)) ⊎ ((used c ≤ i) × (slice_index k.parents i ≡ p))
    new_parent i h = elim (le_or_lt (used c) i) [
      | inr z ↦ inl (z, get_or_append_left c.parents (p ∷ p ∷ []) 0 i (omega (arith, l.parents)))
      | inl z ↦ inr (z, at_end c.parents p i (omega (arith, l.parents)) (omega (arith, forked_used, l.parents)))
    ] where
      at_end : (xs : List ℕ) (y i : ℕ) → length xs ≤ i → i < length xs + 2 → slice_index (xs ++ y ∷ y ∷ []) i ≡ y
      at_end [] y zero h g = refl
      at_end [] y (suc zero) h g = refl
      at_end [] y (suc (suc i)) h g = absurd (omega arith)
      at_end (x ∷ xs) y zero h g = absurd (omega arith)
      at_end (x ∷ xs) y (suc i) h g = at_end xs y i (omega arith) (omega arith)

    outer_at_low : (q o : ℕ) → q < used c → outer_at c q ≡ Some o → o < used c
    outer_at_low zero o h e = absurd (cc e)
    outer_at_low (suc n) o h e = by_tests (is_trace c (suc n)) (nat_eq (suc n % 2) 1) e where
      by_tests : (a b : Bool) → (if a then None else if b then Some (suc n) else outer c n) ≡ Some o → o < used c
      by_tests true b q = absurd (cc q)
      by_tests false true q = let z : suc n ≡ o = cc q in omega (arith, z)
      by_tests false false q = s.outer_low n o q

    pub sound_fork : AreSound k
    sound_fork = record {
      odd = ap (λ n. n % 2) forked_used ∙ two_on (used c) s.odd;
      rooted = λ i q h. elim (new_parent i h) [ inl z ↦ (let w = s.rooted i q z.0 in omega (arith, z.1)) | inr z ↦ omega (arith, z.0, z.1, there) ];
      owner_low = λ i h. elim (new_owner i h) [ inl z ↦ (let w = s.owner_low i z.0 in omega (arith, z.1)) | inr z ↦ (let w = s.owner_low p there in omega (arith, z.0, z.1, there)) ];
      owned = λ i h. elim (new_owner i h) [ inl z ↦ ap (is_trace k) z.1 ∙ named_old (owner c i) (s.owned i z.0) | inr z ↦ ap (is_trace k) z.1 ∙ named_old (owner c p) (s.owned p there) ];
      pairs = λ x o h. elim (le_or_lt (used c) x) [
        | inr z ↦ named_back (x + 1) ∙ s.pairs x o z ∙ sym (named_back x)
        | inl z ↦ named_back (x + 1) ∙ none (x + 1) (omega arith) ∙ sym (named_back x ∙ none x z)
      ];
      outer_low = λ i o e. outer_new i o e (le_or_lt (length c.outers) i);
      distinct = s.distinct;
      count = s.count ∙ ap (λ n. 2 * n) (sym (count_none c.traces));
      there = λ x h. s.there x (sym (named_back x) ∙ h);
      only = λ b h. named_old (b / 2) (s.only b h);
    } where
      two_on : (n : ℕ) → n % 2 ≡ 1 → (n + 2) % 2 ≡ 1
      two_on n e = omega arith

      none : (x : ℕ) → used c ≤ x → is_trace c x ≡ false
      none x h = ap (λ o. is_some (trace_in o)) (slice_get_past c.traces x (omega (arith, l.traces)))

      at_end : (xs : List (Option ℕ)) (y : Option ℕ) (i o : ℕ) → length xs ≤ i → fork_in (slice_get (xs ++ y ∷ y ∷ []) i) ≡ Some o → y ≡ Some o
      at_end [] y zero o h e = e
      at_end [] y (suc zero) o h e = e
      at_end [] y (suc (suc i)) o h e = absurd (cc e)
      at_end (x ∷ xs) y zero o h e = absurd (omega arith)
      at_end (x ∷ xs) y (suc i) o h e = at_end xs y i o (omega arith) e

      outer_new : (i o : ℕ) → outer k i ≡ Some o → (length c.outers ≤ i) ⊎ (i < length c.outers) → o < used k
      outer_new i o e (inr h) = let w = s.outer_low i o (sym (ap fork_in (get_append c.outers two i h)) ∙ e) in omega (arith, forked_used)
      outer_new i o e (inl h) = let w = outer_at_low p o there (at_end c.outers (outer_at c p) i o h e) in omega (arith, forked_used)
