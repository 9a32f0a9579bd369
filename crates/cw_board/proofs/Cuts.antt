-- Serves `cut` and `value_before`: what lies before the first entry that is an access beneath a place, by stamps.
use Rattle.std.proofs.Common.{◌≡◌, ℕ, zero, suc, ◌<◌, ◌≤◌, List, [], ◌∷◌, length, take, drop, get_or, refl, ap, sym, ◌∙◌, subst, arith, Bool, true, false, cond, inl, inr, nat_lt, pos, Some, None}
use Rattle.std.specs.Prelude.{not, filter, All, IfSome, Contains, ◌==◌, ◌||◌}
use Rattle.std.specs.List.{prefix_len, take_while}
use Rattle.std.specs.List.Sorted.{IsStrictlyIncreasing}
use Rattle.std.proofs.lemmas.Bool.{cases_lt, eqb-true}
use Rattle.std.proofs.lemmas.List.{length-map, get_or_default, take_all}
use Rattle.std.proofs.lemmas.List.Elements.{All-contains, All-contains_itself, All-filter, All-nil}
use Rattle.std.proofs.lemmas.List.Sums.{prefix_len_passes, prefix_len_stops}
use Rattle.cw_tree.specs.declared.access.Entry.{Entry}
use Rattle.cw_tree.specs.AccessStacks.{stamps}
use Rattle.cw_tree.specs.Walks.{has}
use Rattle.cw_steps.specs.Beneath.{least_with}
use Rattle.cw_steps.proofs.Walked.{all_pass, contains_had, had_at, is_had, kept_had, least_kept, least_low, least_none}
use Rattle.cw_stack.proofs.Rising.{earlier_less, stamp_at}
use Rattle.cw_stack.proofs.Rolling.{smaller_front}

not_false : (b : Bool) → not b ≡ false → b ≡ true
not_false true e = refl
not_false false e = absurd (cc e)

all_at : (P : ℕ → Type 0) (p : ℕ → Bool) (ns : List ℕ) (n : ℕ) → All P (filter p ns) → has ns n ≡ true → p n ≡ true → P n
all_at P p ns n all h q = All-contains P (filter p ns) n all (contains_had (filter p ns) n (kept_had p n q ns h))

no_entry : Entry
no_entry = record { mark = record { strand = 0; stamp = 0 }; wrote = false; value = pos 0; old = pos 0 }

-- the entry is none of the accesses with these stamps
abbrev pub is_other : List ℕ → Entry → Bool
is_other ts e = not (has ts e.mark.stamp)

module _ (es : List Entry) (rise : IsStrictlyIncreasing (stamps es)) (ts : List ℕ) where
  here : (j : ℕ) → j < length es → has (stamps es) (get_or (stamps es) j 0) ≡ true
  here j low = let len : length (stamps es) ≡ length es = length-map es (λ e. e.mark.stamp) in had_at (stamps es) j (get_or (stamps es) j 0) 0 (omega arith) refl

  -- where the front of other entries ends, an access stands
  taken : prefix_len (is_other ts) es < length es → has ts (get_or (stamps es) (prefix_len (is_other ts) es) 0) ≡ true
  taken low =
      ap (has ts) (stamp_at es (prefix_len (is_other ts) es) no_entry low)
      ∙ not_false (has ts (get_or es (prefix_len (is_other ts) es) no_entry).mark.stamp) (prefix_len_stops (is_other ts) es no_entry low)

  -- if no entry is such an access, all come before the first one
  pub none_cut : filter (has (stamps es)) ts ≡ [] → es ≡ take_while (is_other ts) es
  none_cut none = sym (take_all (prefix_len (is_other ts) es) es (elim (cases_lt (prefix_len (is_other ts) es) (length es)) [
    | inl low ↦ absurd (all_at (λ n. ⊥) (has (stamps es)) ts (get_or (stamps es) (prefix_len (is_other ts) es) 0) (subst (All (λ n. ⊥)) (sym none) (All-nil (λ n. ⊥))) (taken low) (here (prefix_len (is_other ts) es) low))
    | inr le ↦ le
  ]))

  -- the entries before the least such stamp
  pub cut_before : (m : ℕ) → Contains (stamps es) m → has ts m ≡ true → All (λ n. m ≤ n) (filter (has (stamps es)) ts) → filter (λ e. nat_lt e.mark.stamp m) es ≡ take_while (is_other ts) es
  cut_before m there one least =
      let len : length (stamps es) ≡ length es = length-map es (λ e. e.mark.stamp) in
      let low = there.1 in
      let at : get_or (stamps es) there.0 0 ≡ m = get_or_default (stamps es) there.0 0 m low ∙ there.2 in
      smaller_front es there.0 m rise (omega arith) at ∙ ap (λ i. take i es) (same there.0 (omega arith) at) where
        same : (k : ℕ) → k < length es → get_or (stamps es) k 0 ≡ m → k ≡ prefix_len (is_other ts) es
        same k low at =
            let j = prefix_len (is_other ts) es in
            let len : length (stamps es) ≡ length es = length-map es (λ e. e.mark.stamp) in
            elim (cases_lt j k) [
              | inl before ↦ (
                  let less : get_or (stamps es) j 0 < get_or (stamps es) k 0 = earlier_less (stamps es) rise j k before (omega arith) in
                  let le : m ≤ get_or (stamps es) j 0 = all_at (λ n. m ≤ n) (has (stamps es)) ts (get_or (stamps es) j 0) least (taken (omega arith)) (here j (omega arith)) in
                  absurd (omega arith))
              | inr not_before ↦ elim (cases_lt k j) [
                | inl behind ↦ absurd (cc (sym (prefix_len_passes (is_other ts) es k no_entry behind) ∙ ap (λ s. not (has ts s)) (sym (stamp_at es k no_entry low) ∙ at) ∙ ap not one))
                | inr not_behind ↦ (let e : k ≡ j = omega arith in e)
              ]
            ]

-- ## What was found least

module _ (es : List Entry) (ts : List ℕ) (m : ℕ) (found : Some m ≡ least_with None (filter (has (stamps es)) ts)) where
  pub found_there : Contains (stamps es) m
  found_there = contains_had (stamps es) m (subst (λ r. IfSome r (λ n. has (stamps es) n ≡ true)) (sym found) (least_kept (λ n. has (stamps es) n ≡ true) (filter (has (stamps es)) ts) None (all_pass (has (stamps es)) ts) tt))

  found_touched : has ts m ≡ true
  found_touched = is_had ts m (subst (λ r. IfSome r (Contains ts)) (sym found) (least_kept (Contains ts) (filter (has (stamps es)) ts) None (All-filter (has (stamps es)) (Contains ts) ts (All-contains_itself ts)) tt))

  pub found_cut : IsStrictlyIncreasing (stamps es) → filter (λ e. nat_lt e.mark.stamp m) es ≡ take_while (is_other ts) es
  found_cut rise = cut_before es rise ts m found_there found_touched (least_low (filter (has (stamps es)) ts) None m (sym found)).0

pub nothing_cut : (es : List Entry) (ts : List ℕ) → None ≡ least_with None (filter (has (stamps es)) ts) → IsStrictlyIncreasing (stamps es) → es ≡ take_while (is_other ts) es
nothing_cut es ts found rise = none_cut es rise ts (least_none (filter (has (stamps es)) ts) (sym found))
