-- A map of numbers, as the list of its entries by rising number.
use Rattle.std.proofs.Common.{◌≡◌, ◌<◌, ℕ, map, Bool, true, false, cond, Some, None, refl, ap, sym, ◌∙◌, arith}
use Rattle.std.specs.Prelude.{filter, nat_lt, ◌&&◌}
use Rattle.std.specs.BTreeMap.{BTreeMap, get, keys, IsOrdered}
use Rattle.std.specs.Ordering.{nat_cmp}
use Rattle.std.specs.Cmp.{nat_cmp_total}
use Rattle.std.proofs.lemmas.Bool.{and_parts, and_from, ltb-true, lt-ltb}
use Rattle.std.proofs.lemmas.Simd.{map-map}
use Rattle.std.proofs.lemmas.Map.Views.{All-found}
use Rattle.std.proofs.lemmas.List.Elements.{All-weaker}
use Rattle.cw_tree.specs.Nodes.{below}
use Rattle.cw_tree.proofs.Lists.{In}
use Rattle.cw_tree.proofs.Members.{in_below, below_in, in_filter, filter_in, in_map, all_at, map_same}
use Rattle.cw_tree.proofs.Rising.{below_rises, rises_filter, rises_same}
use Rattle.cw_tree.proofs.Maps.{in_keys, rises_sorted}

module _ {X : Type 0} where
  module _ (value : ℕ → X) (p : ℕ → Bool) (n : ℕ) (m : BTreeMap ℕ X) (ordered : IsOrdered nat_cmp m) (has : (c : ℕ) → get nat_cmp m c ≡ cond (nat_lt c n && p c) (Some (value c)) None) where
    -- an entry is at a number below the bound that passes, with its value
    entry_is : (e : ℕ × X) → get nat_cmp m e.0 ≡ Some e.1 → (e.0 < n) × (p e.0 ≡ true) × (value e.0 ≡ e.1)
    entry_is e h = by (nat_lt e.0 n && p e.0) refl (sym (has e.0) ∙ h) where
      by : (b : Bool) → (nat_lt e.0 n && p e.0) ≡ b → cond b (Some (value e.0)) None ≡ Some e.1 → (e.0 < n) × (p e.0 ≡ true) × (value e.0 ≡ e.1)
      by true f g = let (low, passes) = and_parts (nat_lt e.0 n) (p e.0) f in (ltb-true e.0 n low, passes, cc)
      by false f g = absurd (cc g)

    entries_are : (e : ℕ × X) → In e m.entries → (e.0 < n) × (p e.0 ≡ true) × (value e.0 ≡ e.1)
    entries_are = all_at (λ (e : ℕ × X). (e.0 < n) × (p e.0 ≡ true) × (value e.0 ≡ e.1)) m.entries (All-weaker _ _ entry_is m.entries (All-found nat_cmp_total m ordered))

    key_passes : (c : ℕ) → In c (keys m) → In c (filter p (below n))
    key_passes c i =
        let (e, there, same) = in_map (λ (e : ℕ × X). e.0) c m.entries i in
        let (low, passes, is) = entries_are e there in
        filter_in p c (below n) (below_in c n (omega (arith, low, same))) (ap p same ∙ passes)

    passing_key : (c : ℕ) → In c (filter p (below n)) → In c (keys m)
    passing_key c i =
        let (there, passes) = in_filter p c (below n) i in
        in_keys c (value c) m.entries (has c ∙ ap (λ b. cond b (Some (value c)) None) (and_from (nat_lt c n) (p c) (lt-ltb c n (in_below c n there)) passes))

    keys_are : keys m ≡ filter p (below n)
    keys_are = rises_same (keys m) (filter p (below n)) (rises_sorted (keys m) ordered) (rises_filter p (below n) (below_rises n)) key_passes passing_key

    -- A map that has values at just the numbers below a bound that pass a test has them by rising number.
    pub entries_in_order : {Y : Type 0} (f : ℕ → X → Y) → map (λ e. f e.0 e.1) m.entries ≡ map (λ c. f c (value c)) (filter p (below n))
    entries_in_order f =
        map_same (λ (e : ℕ × X). f e.0 e.1) (λ e. f e.0 (value e.0)) m.entries (λ e there. ap (f e.0) (sym (entries_are e there).2))
        ∙ (sym (map-map (λ c. f c (value c)) (λ (e : ℕ × X). e.0) m.entries) ∙ ap (map (λ c. f c (value c))) keys_are)
