-- A tree without a misplaced node is a tree, and the other way round.
use Rattle.std.proofs.Common.{◌≡◌, ℕ, zero, suc, ◌<◌, ◌&&◌, ◌||◌, Bool, true, false, not, cond, nat_lt, List, [], ◌∷◌, length, Option, Some, None, refl, ap, ◌∙◌, arith, inl, inr, ◌⊎◌, IsTrue, find}
use Rattle.std.proofs.lemmas.Bool.{and_parts, both_ways, false≢true, ltb-true, not-false, not-true, or_cases}
use Rattle.cw_tree.specs.declared.node.Node.{Node}
use Rattle.cw_tree.specs.Nodes.{all_nodes, is_block, is_fork, is_strand, parent_of}
use Rattle.cw_tree.specs.Series.{children}
use Rattle.cw_tree.specs.Shape.{IsTree}
use Rattle.cw_tree.proofs.Lists.{In}
use Rattle.cw_tree.proofs.Members.{below_in}
use Rattle.cw_sheet.specs.Reading.{are_two_strands, hangs_well, is_misplaced, misplaced}

-- ## Finding none

none_found : {X : Type 0} (p : X → Bool) (xs : List X) → find p xs ≡ None → (v : X) → In v xs → p v ≡ false
none_found p [] e v i = absurd i
none_found p (x ∷ xs) e v i =
    by (p x) refl (λ h j. none_found p xs h v j) e i where
      by : (b : Bool) → p x ≡ b → (find p xs ≡ None → In v xs → p v ≡ false) → cond b (Some x) (find p xs) ≡ None → (v ≡ x) ⊎ In v xs → p v ≡ false
      by true f more h j = cc
      by false f more h (inl same) = ap p same ∙ f
      by false f more h (inr j) = more h j

pub find_none : {X : Type 0} (p : X → Bool) (xs : List X) → ((v : X) → In v xs → p v ≡ false) → find p xs ≡ None
find_none p [] h = refl
find_none p (x ∷ xs) h = ap (λ b. cond b (Some x) (find p xs)) (h x (inl refl)) ∙ find_none p xs (λ v i. h v (inr i))

-- ## From the tests

two_strands : (t : List Node) (ns : List ℕ) → are_two_strands t ns ≡ true → (l r : ℕ) × (ns ≡ l ∷ r ∷ []) × IsTrue (is_strand t l && is_strand t r)
two_strands t (l ∷ r ∷ []) e = (l, r, refl, e)
two_strands t ns e = absurd (false≢true e)

module _ (t : List Node) (well : (n : ℕ) → n < length t → is_misplaced t n ≡ false) where
  placed : (n : ℕ) → n < length t → (hangs_well t n ≡ true) × ((are_two_strands t (children t n) || not (is_fork t n)) ≡ true)
  placed n there = and_parts (hangs_well t n) (are_two_strands t (children t n) || not (is_fork t n)) (not-false _ (well n there))

  hanging : (m : ℕ) → suc m < length t →
      (nat_lt (parent_of t (suc m)) (suc m) ≡ true)
      × ((is_strand t (parent_of t (suc m)) || is_fork t (parent_of t (suc m)) || is_block t (parent_of t (suc m))) ≡ true)
      × ((is_fork t (parent_of t (suc m)) || not (is_strand t (suc m))) ≡ true)
  hanging m there =
      let p = parent_of t (suc m) in
      let low = nat_lt p (suc m) in
      let inner = is_strand t p || is_fork t p || is_block t p in
      let hung = is_fork t p || not (is_strand t (suc m)) in
      let all = and_parts (low && inner) hung (placed (suc m) there).0 in
      let two = and_parts low inner all.0 in
      (two.0, two.1, all.1)

  rooted : (n : ℕ) → 0 < n → n < length t → parent_of t n < n
  rooted zero some there = absurd (omega arith)
  rooted (suc m) some there = ltb-true (parent_of t (suc m)) (suc m) (hanging m there).0

  strands : (n : ℕ) → n < length t → 0 < n → IsTrue (is_strand t n) → IsTrue (is_fork t (parent_of t n))
  strands zero there some strand = absurd (omega arith)
  strands (suc m) there some strand =
      elim (or_cases (is_fork t (parent_of t (suc m))) (not (is_strand t (suc m))) (hanging m there).2) [
        | inl fork ↦ fork
        | inr none ↦ absurd (both_ways (is_strand t (suc m)) (not-true (is_strand t (suc m)) none) strand)
      ]

  parents : (n : ℕ) → n < length t → 0 < n → IsTrue (is_strand t (parent_of t n) || is_fork t (parent_of t n) || is_block t (parent_of t n))
  parents zero there some = absurd (omega arith)
  parents (suc m) there some = (hanging m there).1

  forks : (f : ℕ) → f < length t → IsTrue (is_fork t f) → (l r : ℕ) × (children t f ≡ l ∷ r ∷ []) × IsTrue (is_strand t l && is_strand t r)
  forks f there fork =
      elim (or_cases (are_two_strands t (children t f)) (not (is_fork t f)) (placed f there).1) [
        | inl two ↦ two_strands t (children t f) two
        | inr none ↦ absurd (both_ways (is_fork t f) (not-true (is_fork t f) none) fork)
      ]

  well_placed : 0 < length t → IsTree t
  well_placed some = record { some = some; rooted = rooted; root = (placed 0 some).0; forks = forks; strands = strands; parents = parents }

-- the search for a misplaced node found none
none_misplaced : (x : Node) (xs : List Node) → misplaced (x ∷ xs) ≡ None → find (is_misplaced (x ∷ xs)) (all_nodes (x ∷ xs)) ≡ None
none_misplaced x xs e =
    by (find (is_misplaced (x ∷ xs)) (all_nodes (x ∷ xs))) refl where
      by : (o : Option ℕ) → find (is_misplaced (x ∷ xs)) (all_nodes (x ∷ xs)) ≡ o → o ≡ None
      by None f = refl
      by (Some n) f = let h = rw f at e in cc

pub tree_told : (t : List Node) → misplaced t ≡ None → IsTree t
tree_told [] e = cc
tree_told (x ∷ xs) e =
    let t = x ∷ xs in
    well_placed t (λ n there. none_found (is_misplaced t) (all_nodes t) (none_misplaced x xs e) n (below_in n (length t) there)) (omega arith)
