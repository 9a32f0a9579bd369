-- A depth-first walk comes to each node once, and to a parent before its children. What is beneath one child comes before all that is beneath
-- a child that is visited later.
use Rattle.std.proofs.Common.{◌≡◌, ℕ, zero, suc, ◌+◌, ◌<◌, ◌≤◌, List, [], ◌∷◌, ◌++◌, length, get_or, refl, ap, sym, ◌∙◌, arith, true, inl, inr, subst, nat_eq}
use Rattle.std.specs.Prelude.{◌⊎◌}
use Rattle.std.specs.List.{flat_map}
use Rattle.std.proofs.lemmas.Bool.{cases_eq, eq-eqb, eqb-true}
use Rattle.std.proofs.lemmas.Map.Steps.{length-le_from_distinct_below, le-length_from_below}
use Rattle.cw_tree.specs.declared.node.Node.{Node}
use Rattle.cw_tree.specs.Nodes.{parent_of}
use Rattle.cw_tree.specs.Walks.{IsRooted, is_ancestor}
use Rattle.cw_tree.specs.Series.{children, walk_by, walk, depth_first}
use Rattle.cw_tree.specs.InOrder.{renamed}
use Rattle.cw_tree.proofs.Lists.{In, any_in, any_from}
use Rattle.cw_tree.proofs.Members.{in_flat, flat_in}
use Rattle.cw_tree.proofs.Walks.Climbs.{by_parent}
use Rattle.cw_tree.proofs.Walks.Ancestors.{ancestor_self, ancestor_up, ancestor_trans, ancestor_le}
use Rattle.cw_tree.proofs.Walks.Kin.{children_apart, branch}
use Rattle.cw_tree.proofs.InOrder.DepthFirst.{IsChild, OrdersChildren, by_number, child_of, child_is, whole, walk_step, child_in}
use Rattle.cw_tree.proofs.Ahead.{Apart, apart_flat, Ahead, ahead_pieces, ahead_piece, distinct, place_is}

-- ## Parents come first

-- the parent of each node of a list was seen or comes before it
abbrev pub Follows : List Node → List ℕ → List ℕ → Type 0
Follows t seen [] = Unit {0}
Follows t seen (x ∷ xs) = In (parent_of t x) seen × Follows t (x ∷ seen) xs

module _ (t : List Node) where
  follows_more : (seen more xs : List ℕ) → ((v : ℕ) → In v seen → In v more) → Follows t seen xs → Follows t more xs
  follows_more seen more [] f h = tt
  follows_more seen more (x ∷ xs) f h = (f (parent_of t x) h.0, follows_more (x ∷ seen) (x ∷ more) xs (λ v i. elim i [ inl e ↦ inl e | inr j ↦ inr (f v j) ]) h.1)

  follows_append : (seen xs ys : List ℕ) → Follows t seen xs → Follows t seen ys → Follows t seen (xs ++ ys)
  follows_append seen [] ys h g = g
  follows_append seen (x ∷ xs) ys h g = (h.0, follows_append (x ∷ seen) xs ys h.1 (follows_more seen (x ∷ seen) ys (λ v i. inr i) g))

  follows_flat : (f : ℕ → List ℕ) (seen xs : List ℕ) → ((x : ℕ) → In x xs → Follows t seen (f x)) → Follows t seen (flat_map f xs)
  follows_flat f seen [] each = tt
  follows_flat f seen (x ∷ xs) each = follows_append seen (f x) (flat_map f xs) (each x (inl refl)) (follows_flat f seen xs (λ y i. each y (inr i)))

  walk_follows : (k n : ℕ) (seen : List ℕ) → In (parent_of t n) seen → Follows t seen (walk t k n)
  walk_follows zero n seen h = (h, tt)
  walk_follows (suc k) n seen h = (h, follows_flat (walk t k) (n ∷ seen) (children t n) (λ x i. walk_follows k x (n ∷ seen) (inl (child_is t n x i).parent)))

  earlier : (seen xs : List ℕ) (j : ℕ) → Follows t seen xs → j < length xs → In (parent_of t (get_or xs j 0)) seen ⊎ ((i : ℕ) × (i < j) × (get_or xs i 0 ≡ parent_of t (get_or xs j 0)))
  earlier seen [] j h l = absurd (omega arith)
  earlier seen (x ∷ xs) zero h l = inl h.0
  earlier seen (x ∷ xs) (suc j) h l =
      elim (earlier (x ∷ seen) xs j h.1 (omega arith)) [
        | inl i ↦ elim i [ inl e ↦ inr (0, omega arith, sym e) | inr s ↦ inl s ]
        | inr z ↦ inr (suc z.0, omega (arith, z.1), z.2)
      ]

-- ## By any order of the children

module _ (t : List Node) (r : IsRooted t) where
  pub child_over : (n m : ℕ) → IsChild t n m → is_ancestor t n m ≡ true
  child_over n m c =
      let P : ℕ → Type 0 = λ x. is_ancestor t n x ≡ true in
      ancestor_up t r n m c.some c.there (subst P (sym c.parent) (ancestor_self t n))

module _ (t : List Node) (r : IsRooted t) (order : ℕ → List ℕ) (o : OrdersChildren t order) where
  itself : (n v : ℕ) → n < length t → v ≡ n → (v < length t) × (is_ancestor t n v ≡ true)
  itself n v h e = let P : ℕ → Type 0 = λ x. is_ancestor t n x ≡ true in (omega arith, subst P (sym e) (ancestor_self t n))

  pub beneath : (k n v : ℕ) → n < length t → In v (walk_by order k n) → (v < length t) × (is_ancestor t n v ≡ true)
  beneath zero n v h (inl e) = itself n v h e
  beneath zero n v h (inr z) = absurd z
  beneath (suc k) n v h (inl e) = itself n v h e
  beneath (suc k) n v h (inr j) =
      let z = in_flat (walk_by order k) v (order n) j in
      let c = child_of t r order o n z.0 z.1 in
      let y = beneath k z.0 v c.there z.2 in
      (y.0, ancestor_trans t r n z.0 v y.0 (child_over t r n z.0 c) y.1)

  pub walk_once : (k n : ℕ) → n < length t → Apart (walk_by order k n)
  walk_once zero n h = ((λ i. i), tt)
  walk_once (suc k) n h = (
    (λ j.
        let z = in_flat (walk_by order k) n (order n) j in
        let c = child_of t r order o n z.0 z.1 in
        let y = beneath k z.0 n c.there z.2 in
        let le : z.0 ≤ n = ancestor_le t r z.0 n h y.1 in
        let low : parent_of t z.0 < z.0 = r z.0 c.some c.there in
        omega (arith, c.parent)),
    apart_flat (walk_by order k) (order n) (o.once n) (λ x i. walk_once k x (child_of t r order o n x i).there)
        (λ x y v i j a b.
        let c = child_of t r order o n x i in
        let d = child_of t r order o n y j in
        let e = beneath k x v c.there a in
        let f = beneath k y v d.there b in
        children_apart t r x y v e.0 c.some d.some (c.parent ∙ sym d.parent) e.1 f.1),
  )

  child_visited : (n c v : ℕ) → v < length t → 0 < c → parent_of t c ≡ n → is_ancestor t c v ≡ true → In c (order n)
  child_visited n c v h some parent over =
      let le : c ≤ v = ancestor_le t r c v h over in
      o.all n c (child_in t n c (record { some = some; there = omega arith; parent = parent }))

  -- the walk comes to all that is beneath n, if it goes down far enough
  pub walk_all : (k n v : ℕ) → length t ≤ n + k → v < length t → is_ancestor t n v ≡ true → In v (walk_by order k n)
  walk_all zero n v e h a = let le : n ≤ v = ancestor_le t r n v h a in absurd (omega arith)
  walk_all (suc k) n v e h a =
      elim (cases_eq n v) [
        | inl q ↦ inl (sym q)
        | inr ne ↦
            (let b = branch t r n v h (λ q. ne (sym q)) a in
            let le : b.child ≤ v = ancestor_le t r b.child v h b.over in
            let low : parent_of t b.child < b.child = r b.child b.some (omega arith) in
            inr (flat_in (walk_by order k) v b.child (order n) (child_visited n b.child v h b.some b.parent b.over) (walk_all k b.child v (omega (arith, b.parent)) h b.over)))
      ]

  -- what is ahead in a walk from m is ahead in a walk from a node above it
  module _ (u v m : ℕ) (hm : m < length t) (here : (k : ℕ) → length t ≤ m + k → Ahead u v (walk_by order k m)) where
    from_above : (k n : ℕ) → length t ≤ n + k → is_ancestor t n m ≡ true → Ahead u v (walk_by order k n)
    from_above zero n e a = let le : n ≤ m = ancestor_le t r n m hm a in absurd (omega arith)
    from_above (suc k) n e a =
        elim (cases_eq n m) [
          | inl q ↦ (let P : ℕ → Type 0 = λ x. Ahead u v (walk_by order (suc k) x) in subst P (sym q) (here (suc k) (omega arith)))
          | inr ne ↦
              (let b = branch t r n m hm (λ q. ne (sym q)) a in
              let le : b.child ≤ m = ancestor_le t r b.child m hm b.over in
              let low : parent_of t b.child < b.child = r b.child b.some (omega arith) in
              inr (ahead_piece (walk_by order k) u v b.child (order n) (child_visited n b.child m hm b.some b.parent b.over) (from_above k b.child (omega (arith, b.parent)) b.over)))
        ]

  -- two nodes beneath two children of m, the one beneath the child that is visited first
  pub walk_ahead : (m c d u v : ℕ) → u < length t → v < length t → parent_of t c ≡ m → parent_of t d ≡ m → 0 < c → 0 < d → Ahead c d (order m) → is_ancestor t c u ≡ true → is_ancestor t d v ≡ true → is_ancestor t 0 m ≡ true
      → Ahead u v (walk_by order (length t) 0)
  walk_ahead m c d u v hu hv pc pd sc sd first ou ov top =
      let lc : c ≤ u = ancestor_le t r c u hu ou in
      let mc : parent_of t c < c = r c sc (omega arith) in
      from_above u v m (omega (arith, pc)) here (length t) 0 (omega arith) top where
        here : (k : ℕ) → length t ≤ m + k → Ahead u v (walk_by order k m)
        here zero e = absurd (let lc : c ≤ u = ancestor_le t r c u hu ou in let mc : parent_of t c < c = r c sc (omega arith) in omega (arith, pc))
        here (suc k) e =
            let lc : c ≤ u = ancestor_le t r c u hu ou in
            let ld : d ≤ v = ancestor_le t r d v hv ov in
            let mc : parent_of t c < c = r c sc (omega arith) in
            let md : parent_of t d < d = r d sd (omega arith) in
            inr (ahead_pieces (walk_by order k) u v c d (order m) first (walk_all k c u (omega (arith, pc)) hu ou) (walk_all k d v (omega (arith, pd)) hv ov))

-- ## Each node once

module _ (t : List Node) (r : IsRooted t) where
  pub walk_self : (k n : ℕ) → In n (walk t k n)
  walk_self zero n = inl refl
  walk_self (suc k) n = inl refl

  pub walk_child : (k n v m : ℕ) → length t ≤ n + k → In v (walk t k n) → IsChild t v m → In m (walk t k n)
  walk_child zero n v m h (inl e) c = let low : parent_of t m < m = r m c.some c.there in absurd (let there = c.there in let same = c.parent in omega arith)
  walk_child zero n v m h (inr z) c = absurd z
  walk_child (suc k) n v m h (inl e) c =
      let P : ℕ → Type 0 = λ x. IsChild t x m in
      inr (flat_in (walk t k) m m (children t n) (child_in t n m (subst P e c)) (walk_self k m))
  walk_child (suc k) n v m h (inr j) c =
      let z = in_flat (walk t k) v (children t n) j in
      let d = child_is t n z.0 z.1 in
      let low : parent_of t z.0 < z.0 = r z.0 d.some d.there in
      let same : parent_of t z.0 ≡ n = d.parent in
      inr (flat_in (walk t k) m z.0 (children t n) z.1 (walk_child k z.0 v m (omega arith) z.2 c))

  pub all_come : (v : ℕ) → v < length t → In v (depth_first t)
  all_come = by_parent t r (λ v. In v (depth_first t)) (walk_self (length t) 0) (λ v p h more. walk_child (length t) 0 (parent_of t v) v (omega arith) more (record { some = p; there = h; parent = refl }))

  module _ (some : 0 < length t) where
    pub once : Apart (depth_first t)
    once = walk_once t r (children t) (by_number t) (length t) 0 some

    pub come_there : (v : ℕ) → In v (depth_first t) → v < length t
    come_there v i = (beneath t r (children t) (by_number t) (length t) 0 v some i).0

    pub as_many : length (depth_first t) ≡ length t
    as_many =
        let high : length (depth_first t) ≤ length t = length-le_from_distinct_below (depth_first t) (length t) (distinct (depth_first t) once) (λ q h. let z = any_in (nat_eq q) (depth_first t) h in let low : z.0 < length t = come_there z.0 z.1 in let e : q ≡ z.0 = eqb-true q z.0 z.2 in omega arith) in
        let low : length t ≤ length (depth_first t) = le-length_from_below (depth_first t) (length t) (λ q h. any_from (nat_eq q) q (depth_first t) (all_come q h) (eq-eqb q q refl)) in
        omega arith

    pub renamed_is : (i : ℕ) → i < length t → renamed t (get_or (depth_first t) i 0) ≡ i
    renamed_is i h = place_is (depth_first t) i once (omega (arith, as_many))

    pub first_is : get_or (depth_first t) 0 0 ≡ 0
    first_is = ap (λ xs. get_or xs 0 0) (walk_step t r 0)

    pub parent_earlier : (k : ℕ) → 0 < k → k < length t → (i : ℕ) × (i < k) × (get_or (depth_first t) i 0 ≡ parent_of t (get_or (depth_first t) k 0))
    parent_earlier zero p h = absurd (omega arith)
    parent_earlier (suc k) p h =
        let rest : List ℕ = flat_map (whole t) (children t 0) in
        let is : depth_first t ≡ 0 ∷ rest = walk_step t r 0 in
        let long : k < length rest = omega (arith, as_many, ap length is) in
        let P : List ℕ → Type 0 = λ xs. (i : ℕ) × (i < suc k) × (get_or xs i 0 ≡ parent_of t (get_or xs (suc k) 0)) in
        subst P (sym is) (
        elim (earlier t (0 ∷ []) rest k (follows_flat t (whole t) (0 ∷ []) (children t 0) (λ x i. walk_follows t (length t) x (0 ∷ []) (inl (child_is t 0 x i).parent))) long) [
          | inl i ↦ elim i [ inl e ↦ (0, omega arith, sym e) | inr z ↦ absurd z ]
          | inr z ↦ (suc z.0, omega (arith, z.1), z.2)
        ]
        )
