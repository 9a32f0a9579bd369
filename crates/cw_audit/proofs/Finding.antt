-- What a search among nodes by their stamps finds.
use Rattle.std.proofs.Common.{◌≡◌, ℕ, suc, ◌<◌, ◌≤◌, List, [], ◌∷◌, length, map, get_or, refl, ap, sym, ◌∙◌, subst, arith, Bool, nat_eq, Ok, Err, inl, inr}
use Rattle.std.specs.Prelude.{All}
use Rattle.std.specs.List.{filter}
use Rattle.std.specs.List.Sorted.{IsNonDecreasingBy, IsBinarySearchResult, IsSearchInRange}
use Rattle.std.specs.Ordering.{nat_cmp, ordering_index}
use Rattle.std.proofs.lemmas.Bool.{cases_lt, eq-eqb, eqb-true, ltb-true, lt-ltb}
use Rattle.std.proofs.lemmas.Bool.Decides.{nat_tests}
use Rattle.std.proofs.lemmas.Cmp.{ranked}
use Rattle.std.proofs.lemmas.List.Sorted.{All-permutation, list_any-IsPermutation}
use Rattle.cw_tree.specs.declared.node.Node.{Node}
use Rattle.cw_tree.specs.Nodes.{stamp_of, all_nodes}
use Rattle.cw_tree.proofs.Lists.{In, any_in, any_from}
use Rattle.cw_tree.proofs.Members.{all_of, in_map, map_in, in_filter, filter_in, in_below, below_in}
use Rattle.cw_audit.specs.declared.stamped.Stamped.{Stamped}
use Rattle.cw_audit.specs.Stamped.{AreByStamp, HasStamp, is_stamped, stamped_node}

-- what an entry says
record IsRight (t : List Node) (x : Stamped) : Type 0 where
  there : x.node < length t
  some : 0 < stamp_of t x.node
  same : x.stamp ≡ stamp_of t x.node

-- its place in a list
in_place : (v : Stamped) (xs : List Stamped) → In v xs → (i : ℕ) × (i < length xs) × ((d : Stamped) → get_or xs i d ≡ v)
in_place v [] i = absurd i
in_place v (x ∷ xs) (inl e) = (0, omega arith, λ d. sym e)
in_place v (x ∷ xs) (inr i) = let z = in_place v xs i in (suc z.0, omega (arith, z.1), λ d. z.2 d)

module _ (t : List Node) (xs : List Stamped) (w : AreByStamp t xs) where
  all_right : All (IsRight t) xs
  all_right =
      All-permutation (IsRight t) (map (stamped_node t) (filter (is_stamped t) (all_nodes t))) xs w.same
      (all_of (IsRight t) (map (stamped_node t) (filter (is_stamped t) (all_nodes t))) (λ v i.
      let z = in_map (stamped_node t) v (filter (is_stamped t) (all_nodes t)) i in
      let y = in_filter (is_stamped t) z.0 (all_nodes t) z.1 in
      let P : Stamped → Type 0 = λ x. IsRight t x in
      subst P (sym z.2) (record { there = in_below z.0 (length t) y.0; some = ltb-true 0 (stamp_of t z.0) y.1; same = refl })))

  -- a node with a stamp is in the list
  listed : (s n : ℕ) → HasStamp t s n → (i : ℕ) × (i < length xs) × ((d : Stamped) → (get_or xs i d).stamp ≡ s)
  listed s n h =
      let test : Stamped → Bool = λ x. nat_eq x.stamp s in
      let ns = filter (is_stamped t) (all_nodes t) in
      let inside : In (stamped_node t n) (map (stamped_node t) ns) = map_in (stamped_node t) n ns (filter_in (is_stamped t) n (all_nodes t) (below_in n (length t) h.there) (lt-ltb 0 (stamp_of t n) h.some)) in
      let some = sym (list_any-IsPermutation test (map (stamped_node t) ns) xs w.same) ∙ any_from test (stamped_node t n) (map (stamped_node t) ns) inside (eq-eqb (stamp_of t n) s h.same) in
      let z = any_in test xs some in
      let y = in_place z.0 xs z.1 in
      (y.0, y.1, λ d. ap (λ x. x.stamp) (y.2 d) ∙ eqb-true z.0.stamp s z.2)

  pub found : (s i : ℕ) → IsSearchInRange (Ok i) (length xs) → IsBinarySearchResult (λ y. nat_cmp y.stamp s) xs (Ok i) → (d : Stamped) → HasStamp t s (get_or xs i d).node
  found s i h equal d =
      let x = all_right i d h in
      let same : (get_or xs i d).stamp ≡ s = ranked _ s _ (sym (equal d)) in
      record { there = x.there; some = x.some; same = sym x.same ∙ same }

  -- comparisons with s rise along the list
  comparisons : (s : ℕ) → IsNonDecreasingBy (λ y. ordering_index (nat_cmp y.stamp s)) xs
  comparisons s = λ i j d le l. let up : (get_or xs i d).stamp ≤ (get_or xs j d).stamp = w.rise i j d le l in grind (arith, nat_tests)

  pub absent : (s i : ℕ) → IsSearchInRange (Err i) (length xs) → IsBinarySearchResult (λ y. nat_cmp y.stamp s) xs (Err i) → (n : ℕ) → HasStamp t s n → ⊥
  absent s i h parts n has =
      let z = listed s n has in
      let d : Stamped = record { node = 0; stamp = 0 } in
      let same : (get_or xs z.0 d).stamp ≡ s = z.2 d in
      elim (cases_lt z.0 i) [
        | inl low ↦ (let less : (get_or xs z.0 d).stamp < s = ranked _ s _ (sym ((parts (comparisons s)).0 z.0 d (omega arith) low)) in omega (arith, same))
        | inr high ↦ (let more : s < (get_or xs z.0 d).stamp = ranked _ s _ (sym ((parts (comparisons s)).1 z.0 d high z.1)) in omega (arith, same))
      ]
