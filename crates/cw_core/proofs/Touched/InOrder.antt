-- A map of numbers by rising number: some of its entries are those at the numbers below a bound that pass a test.
use Rattle.std.proofs.Common.{◌≡◌, ◌<◌, ℕ, List, [], ◌∷◌, map, Bool, true, false, cond, Some, refl, ap, ◌∙◌, arith, inl, inr}
use Rattle.std.specs.Prelude.{filter}
use Rattle.std.specs.Map.{keys_of}
use Rattle.std.specs.BTreeMap.{BTreeMap, get, keys, IsOrdered}
use Rattle.std.specs.Ordering.{nat_cmp}
use Rattle.std.specs.Cmp.{nat_cmp_total}
use Rattle.std.proofs.lemmas.Map.Views.{All-found}
use Rattle.cw_tree.specs.Nodes.{below}
use Rattle.cw_tree.proofs.Lists.{In}
use Rattle.cw_tree.proofs.Members.{below_in, in_filter, filter_in, in_map, all_at}
use Rattle.cw_tree.proofs.Rising.{below_rises, rises_filter, rises_same}
use Rattle.cw_tree.proofs.Maps.{in_keys, rises_sorted}

module _ {X : Type 0} where
  -- each entry is found
  pub found_at : (m : BTreeMap ℕ X) → IsOrdered nat_cmp m → (e : ℕ × X) → In e m.entries → get nat_cmp m e.0 ≡ Some e.1
  found_at m ordered = all_at (λ (e : ℕ × X). get nat_cmp m e.0 ≡ Some e.1) m.entries (All-found nat_cmp_total m ordered)

  module _ {Y : Type 0} (p : ℕ → Bool) (q : X → Bool) (f : ℕ × X → Y) (g : ℕ → Y) where
    same_parts : (es : List (ℕ × X)) → ((e : ℕ × X) → In e es → (q e.1 ≡ p e.0) × (q e.1 ≡ true → f e ≡ g e.0)) → map f (filter (λ e. q e.1) es)
        ≡ map g (filter p (keys_of es))
    same_parts [] h = refl
    same_parts (e ∷ es) h =
        one (q e.1) (p e.0) (h e (inl refl)).0 (h e (inl refl)).1 (same_parts es (λ x i. h x (inr i))) where
          one : (x y : Bool) → x ≡ y → (x ≡ true → f e ≡ g e.0) → map f (filter (λ e. q e.1) es) ≡ map g (filter p (keys_of es))
              → map f (cond x (e ∷ filter (λ e. q e.1) es) (filter (λ e. q e.1) es)) ≡ map g (cond y (e.0 ∷ filter p (keys_of es)) (filter p (keys_of es)))
          one true true is same more = ap (λ z. z ∷ map f (filter (λ e. q e.1) es)) (same refl) ∙ ap (λ zs. g e.0 ∷ zs) more
          one false false is same more = more
          one true false is same more = absurd (cc is)
          one false true is same more = absurd (cc is)

    module _ (n : ℕ) (m : BTreeMap ℕ X) (ordered : IsOrdered nat_cmp m) (each : (c : ℕ) (x : X) → get nat_cmp m c ≡ Some x
        → (c < n) × (q x ≡ p c)) (has : (c : ℕ) → p c ≡ true → (x : X) × (get nat_cmp m c ≡ Some x)) where
      key_passes : (c : ℕ) → In c (filter p (keys m)) → In c (filter p (below n))
      key_passes c i =
          let (there, passes) = in_filter p c (keys m) i in
          let (e, among, same) = in_map (λ (e : ℕ × X). e.0) c m.entries there in
          let (low, is) = each e.0 e.1 (found_at m ordered e among) in
          filter_in p c (below n) (below_in c n (omega (arith, low, same))) passes

      passing_key : (c : ℕ) → In c (filter p (below n)) → In c (filter p (keys m))
      passing_key c i =
          let (there, passes) = in_filter p c (below n) i in
          let (x, at) = has c passes in
          filter_in p c (keys m) (in_keys c x m.entries at) passes

      pub entries_in_order : ((c : ℕ) (x : X) → get nat_cmp m c ≡ Some x → q x ≡ true → f (c, x) ≡ g c) → map f (filter (λ e. q e.1) m.entries)
          ≡ map g (filter p (below n))
      entries_in_order same =
          same_parts m.entries (λ e i. (let at = found_at m ordered e i in ((each e.0 e.1 at).1, same e.0 e.1 at)))
          ∙ ap (map g) (rises_same (filter p (keys m)) (filter p (below n)) (rises_filter p (keys m) (rises_sorted (keys m) ordered))
          (rises_filter p (below n) (below_rises n)) key_passes passing_key)
