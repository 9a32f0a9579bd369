-- The keys of a map of numbers.
use Rattle.std.proofs.Common.{◌≡◌, ℕ, List, [], ◌∷◌, Bool, true, false, cond, Some, refl, arith, inl, inr}
use Rattle.std.specs.Prelude.{◌⊎◌}
use Rattle.std.specs.Map.{lookup, keys_of}
use Rattle.std.specs.BTreeMap.{is_at}
use Rattle.std.specs.Ordering.{nat_cmp}
use Rattle.std.specs.declared.cmp.Ordering.TheVariants.{Less}
use Rattle.std.specs.List.Sorted.{IsStrictlySortedBy}
use Rattle.std.proofs.lemmas.Bool.Decides.{nat_tests}
use Rattle.std.proofs.lemmas.Map.Keys.{sorted_head, sorted_tail}
use Rattle.std.proofs.lemmas.List.Elements.{All-from_recursion}
use Rattle.cw_tree.proofs.Lists.{In}
use Rattle.cw_tree.proofs.Members.{all_at}
use Rattle.cw_tree.proofs.Rising.{Rises}

-- numbers that tie are the same
at_same : (q c : ℕ) → is_at (nat_cmp q) c ≡ true → q ≡ c
at_same q c h = grind (arith, nat_tests)

-- the keys of a map rise
pub rises_sorted : (ks : List ℕ) → IsStrictlySortedBy nat_cmp ks → Rises ks
rises_sorted [] h = tt
rises_sorted (k ∷ ks) h = (
  (λ y i. let less : nat_cmp k y ≡ Less = all_at (λ z. nat_cmp k z ≡ Less) ks
      (All-from_recursion _ ks (sorted_head nat_cmp k ks h)) y i in grind (arith, nat_tests)),
  rises_sorted ks (sorted_tail nat_cmp k ks h),
)

-- what is found is among the keys
pub in_keys : {X : Type 0} (q : ℕ) (v : X) (es : List (ℕ × X)) → lookup (is_at (nat_cmp q)) es ≡ Some v → In q (keys_of es)
in_keys q v [] h = absurd (cc h)
in_keys q v (e ∷ es) h = by (is_at (nat_cmp q) e.0) (at_same q e.0) (in_keys q v es) h where
  by : (b : Bool) → (b ≡ true → q ≡ e.0) → (lookup (is_at (nat_cmp q)) es ≡ Some v → In q (keys_of es))
      → cond b (Some e.1) (lookup (is_at (nat_cmp q)) es) ≡ Some v → (q ≡ e.0) ⊎ In q (keys_of es)
  by true same later f = inl (same refl)
  by false same later f = inr (later f)
