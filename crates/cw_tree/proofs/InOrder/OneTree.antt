-- Two trees that differ in the numbers of their nodes alone are one in depth-first order, and so are their conflicts.
use Rattle.std.proofs.Common.{◌≡◌, ℕ, zero, suc, ◌<◌, ◌≤◌, List, [], ◌∷◌, length, map, get_or, refl, ap, sym, ◌∙◌, arith, Bool, true, false, cond, Some, inl, inr, subst, nat_eq, eq-eqb, eqb-true}
use Rattle.std.specs.Prelude.{slice_get, option_map}
use Rattle.std.specs.List.{filter, flat_map, list_any}
use Rattle.std.proofs.lemmas.Bool.{cases_eq, cases_lt, cases_Bool, ne_eqb}
use Rattle.std.proofs.lemmas.List.{get_or-map}
use Rattle.std.proofs.lemmas.Option.{get_or_from_slice_get}
use Rattle.std.proofs.lemmas.Map.Steps.{length-le_from_distinct_below}
use Rattle.cw_tree.specs.declared.node.Node.{Node}
use Rattle.cw_tree.specs.declared.node.Kind.TheVariants.{Strand}
use Rattle.cw_tree.specs.declared.conflict.Conflict.{Conflict}
use Rattle.cw_tree.specs.Nodes.{parent_of, passes, number_in, below, fresh_node}
use Rattle.cw_tree.specs.Walks.{IsNumbered}
use Rattle.cw_tree.specs.Series.{children, walk, depth_first}
use Rattle.cw_tree.specs.InOrder.{renamed, node_in_order, in_order, conflict_in_order, conflicts_in_order, asker_of}
use Rattle.cw_tree.specs.OneTree.{node_by, conflict_by, AreOne, GoAlong, OneTree, OneNumber, OneList}
use Rattle.cw_tree.proofs.Lists.{In, any_in, any_from, length_map_below}
use Rattle.cw_tree.proofs.Members.{in_below, map_in, in_map, in_filter, filter_same, all_at}
use Rattle.cw_tree.proofs.Ahead.{Apart, apart_map, apart_below, distinct}
use Rattle.cw_tree.proofs.Rising.{rises_map, rises_same}
use Rattle.cw_tree.proofs.Sorts.{keyed, sorted_same, sorted_by_key, keyed_by_key}
use Rattle.cw_tree.proofs.Names.Forks.{same_truth}
use Rattle.cw_tree.proofs.Walks.There.{node_there}
use Rattle.cw_tree.proofs.Walks.Siblings.{flat_of_map}
use Rattle.cw_tree.proofs.InOrder.DepthFirst.{child_is, child_in, children_rise}
use Rattle.cw_tree.proofs.InOrder.Visits.{as_many, come_there, renamed_is}
use Rattle.cw_tree.proofs.InOrder.Renumbered.{visited, some_node, visited_there, old_at}
use Rattle.cw_tree.proofs.InOrder.Renaming.{number_of, renamed_apart}

-- two functions one after the other, as one that agrees with them at each member
map_one : {X Y Z : Type 0} (g : Y → Z) (f : X → Y) (h : X → Z) (xs : List X) → ((x : X) → In x xs → g (f x) ≡ h x) → map g (map f xs) ≡ map h xs
map_one g f h [] e = refl
map_one g f h (x ∷ xs) e = ap (λ y. y ∷ map g (map f xs)) (e x (inl refl)) ∙ ap (λ ys. h x ∷ ys) (map_one g f h xs (λ y i. e y (inr i)))

-- what passes of what is made
filter_made : {X Y : Type 0} (p : Y → Bool) (g : X → Y) (xs : List X) → filter p (map g xs) ≡ map g (filter (λ x. p (g x)) xs)
filter_made p g [] = refl
filter_made p g (x ∷ xs) = by (p (g x)) (filter_made p g xs) where
  by : (b : Bool) → filter p (map g xs) ≡ map g (filter (λ x. p (g x)) xs) → cond b (g x ∷ filter p (map g xs)) (filter p (map g xs)) ≡ map g (cond b (x ∷ filter (λ x. p (g x)) xs) (filter (λ x. p (g x)) xs))
  by true e = ap (λ ys. g x ∷ ys) e
  by false e = e

none_pass : {X : Type 0} (p : X → Bool) (xs : List X) → ((x : X) → In x xs → p x ≡ false) → filter p xs ≡ []
none_pass p [] e = refl
none_pass p (x ∷ xs) e = ap (λ b. cond b (x ∷ filter p xs) (filter p xs)) (e x (inl refl)) ∙ none_pass p xs (λ y i. e y (inr i))

module _ (f : ℕ → ℕ) (t s : List Node) (w : IsNumbered t) (v : IsNumbered s) (o : AreOne f t s) where
  some : 0 < length t
  some = some_node t w

  node_at : (n : ℕ) → n < length t → slice_get s (f n) ≡ Some (node_by f (get_or t n (fresh_node 0 Strand 0)))
  node_at n h = o.nodes n h ∙ ap (option_map (node_by f)) (old_at t w n h)

  low : (n : ℕ) → n < length t → f n < length s
  low n h = node_there (λ x. true) s (f n) (ap (passes (λ x. true)) (node_at n h))

  parent_at : (n : ℕ) → n < length t → parent_of t n ≡ (get_or t n (fresh_node 0 Strand 0)).parent
  parent_at n h = ap (number_in (λ x. x.parent)) (old_at t w n h)

  parent_is : (n : ℕ) → n < length t → parent_of s (f n) ≡ f (parent_of t n)
  parent_is n h = ap (number_in (λ x. x.parent)) (node_at n h) ∙ sym (ap f (parent_at n h))

  parent_low : (n : ℕ) → n < length t → parent_of t n < length t
  parent_low n h = elim (cases_eq n 0) [
    | inl e ↦ (let up : parent_of t n ≡ 0 = ap (parent_of t) e ∙ o.root_up in let any = some in omega arith)
    | inr ne ↦ (let less : parent_of t n < n = w.rooted n (omega (arith, ne)) h in omega arith)
  ]

  -- each number of the other tree is that of a node
  abbrev numbers : List ℕ
  numbers = map f (below (length t))

  numbers_apart : Apart numbers
  numbers_apart = apart_map f (below (length t)) (λ x y i j e. o.differ x y (in_below x (length t) i) (in_below y (length t) j) e) (apart_below (length t))

  number_low : (k : ℕ) → In k numbers → k < length s
  number_low k i = let z = in_map f k (below (length t)) i in let l : f z.0 < length s = low z.0 (in_below z.0 (length t) z.1) in omega (arith, z.2)

  node_of : (k : ℕ) → k < length s → (n : ℕ) × (n < length t) × (f n ≡ k)
  node_of k h = elim (cases_Bool (list_any (nat_eq k) numbers)) [
    | inl e ↦ (
        let x = any_in (nat_eq k) numbers e in
        let z = in_map f x.0 (below (length t)) x.1 in
        (z.0, in_below z.0 (length t) z.1, sym (eqb-true k x.0 x.2 ∙ z.2)))
    | inr none ↦ absurd (
        let out : In k numbers → ⊥ = λ i. cc (any_from (nat_eq k) k numbers i (eq-eqb k k refl), none) in
        let few : length (k ∷ numbers) ≤ length s =
        length-le_from_distinct_below (k ∷ numbers) (length s) (distinct (k ∷ numbers) (out, numbers_apart))
        (λ q e. let x = any_in (nat_eq q) (k ∷ numbers) e in let same : q ≡ x.0 = eqb-true q x.0 x.2 in elim x.1 [ inl y ↦ omega arith | inr i ↦ (let l : x.0 < length s = number_low x.0 i in omega arith) ])
        in
        omega (arith, length_map_below f (length t), o.as_many))
  ]

  some_number : (n : ℕ) → 0 < n → n < length t → 0 < f n
  some_number n p h = elim (cases_eq (f n) 0) [
    | inl e ↦ (let same : n ≡ 0 = o.differ n 0 h some (e ∙ sym o.root) in omega arith)
    | inr ne ↦ omega (arith, ne)
  ]

  -- children

  child_there : (n k : ℕ) → In k (map f (children t n)) → In k (children s (f n))
  child_there n k i =
      let z = in_map f k (children t n) i in
      let c = child_is t n z.0 z.1 in
      let P : ℕ → Type 0 = λ x. In x (children s (f n)) in
      subst P (sym z.2) (child_in s (f n) (f z.0) (record { some = some_number z.0 c.some c.there; there = low z.0 c.there; parent = parent_is z.0 c.there ∙ ap f c.parent }))

  child_was : (n k : ℕ) → n < length t → In k (children s (f n)) → In k (map f (children t n))
  child_was n k h i =
      let c = child_is s (f n) k i in
      let z = node_of k c.there in
      let pos : 0 < z.0 = elim (cases_eq z.0 0) [ inl e ↦ (let zero_is : f z.0 ≡ 0 = ap f e ∙ o.root in omega (arith, c.some, z.2)) | inr ne ↦ omega (arith, ne) ] in
      let up : f (parent_of t z.0) ≡ f n = sym (parent_is z.0 z.1) ∙ ap (parent_of s) z.2 ∙ c.parent in
      let parent : parent_of t z.0 ≡ n = o.differ (parent_of t z.0) n (parent_low z.0 z.1) h up in
      let P : ℕ → Type 0 = λ x. In x (map f (children t n)) in
      subst P z.2 (map_in f z.0 (children t n) (child_in t n z.0 (record { some = pos; there = z.1; parent = parent })))

  children_one : (n : ℕ) → n < length t → children s (f n) ≡ map f (children t n)
  children_one n h =
      rises_same (children s (f n)) (map f (children t n)) (children_rise s (f n))
      (rises_map f (children t n) (children_rise t n) (λ a b i j l. let c = child_is t n a i in let d = child_is t n b j in o.siblings a b c.some l d.there (c.parent ∙ sym d.parent)))
      (λ k. child_was n k h) (child_there n)

  walk_one : (k n : ℕ) → n < length t → walk s k (f n) ≡ map f (walk t k n)
  walk_one zero n h = refl
  walk_one (suc k) n h =
      ap (λ ns. f n ∷ flat_map (walk s k) ns) (children_one n h) ∙ ap (λ ns. f n ∷ ns) (flat_of_map (walk s k) (walk t k) f (children t n) (λ x i. walk_one k x (child_is t n x i).there))

  walks_one : depth_first s ≡ map f (depth_first t)
  walks_one = ap (λ k. walk s k 0) o.as_many ∙ ap (walk s (length t)) (sym o.root) ∙ walk_one (length t) 0 some

  visited_one : (k : ℕ) → k < length t → visited s k ≡ f (visited t k)
  visited_one k h = ap (λ xs. get_or xs k 0) walks_one ∙ get_or-map f (depth_first t) k 0 0 (omega (arith, as_many t w.rooted some))

  pub number_one : (n : ℕ) → n < length t → renamed s (f n) ≡ renamed t n
  number_one n h =
      let z = number_of t w n h in
      ap (renamed s) (sym (visited_one (renamed t n) z.low ∙ ap f z.node)) ∙ renamed_is s v.rooted (some_node s v) (renamed t n) (omega (arith, z.low, o.as_many))

  node_one : (n : ℕ) → n < length t → node_in_order s (f n) ≡ node_in_order t n
  node_one n h =
      let x : Node = get_or t n (fresh_node 0 Strand 0) in
      let there : x.parent < length t = (let l = parent_low n h in omega (arith, parent_at n h)) in
      ap (λ (y : Node). record y { parent = renamed s y.parent }) (get_or_from_slice_get s (f n) (node_by f x) (fresh_node 0 Strand 0) (node_at n h))
      ∙ ap (λ p. record x { parent = p }) (number_one x.parent there)

  pub tree_one : in_order s ≡ in_order t
  tree_one = ap (map (node_in_order s)) walks_one ∙ map_one (node_in_order s) f (node_in_order t) (depth_first t) (λ n i. node_one n (come_there t w.rooted some n i))

  -- conflicts
  module _ (cs ds : List Conflict) (g : GoAlong f t cs ds) where
    asker_low : (c : Conflict) → In c cs → c.asker < length t
    asker_low = all_at (λ c. c.asker < length t) cs g.there

    other_low : (d : Conflict) → In d ds → d.asker < length s
    other_low d i = let l = all_at (λ c. c.asker < length t) ds g.others_there d i in omega (arith, o.as_many)

    abbrev asks : ℕ → Conflict → Bool
    asks n c = nat_eq c.asker n

    -- the conflicts of the asker that has number k in depth-first order
    asked : (n : ℕ) → n < length t → filter (λ c. nat_eq (renamed t c.asker) (renamed t n)) cs ≡ filter (asks n) cs
    asked n h =
        filter_same (λ c. nat_eq (renamed t c.asker) (renamed t n)) (asks n) cs (λ c i.
        same_truth (nat_eq (renamed t c.asker) (renamed t n)) (asks n c)
        (λ e. eq-eqb c.asker n (renamed_apart t w c.asker n (asker_low c i) h (eqb-true (renamed t c.asker) (renamed t n) e)))
        (λ e. eq-eqb (renamed t c.asker) (renamed t n) (ap (renamed t) (eqb-true c.asker n e))))

    other_asked : (n : ℕ) → n < length t → filter (λ d. nat_eq (renamed s d.asker) (renamed t n)) ds ≡ filter (asks (f n)) ds
    other_asked n h =
        filter_same (λ d. nat_eq (renamed s d.asker) (renamed t n)) (asks (f n)) ds (λ d i.
        same_truth (nat_eq (renamed s d.asker) (renamed t n)) (asks (f n) d)
        (λ e. eq-eqb d.asker (f n) (renamed_apart s v d.asker (f n) (other_low d i) (low n h) (eqb-true (renamed s d.asker) (renamed t n) e ∙ sym (number_one n h))))
        (λ e. eq-eqb (renamed s d.asker) (renamed t n) (ap (renamed s) (eqb-true d.asker (f n) e) ∙ number_one n h)))

    conflict_one : (c : Conflict) → c.asker < length t → conflict_in_order s (conflict_by f c) ≡ conflict_in_order t c
    conflict_one c h = ap (λ a. record c { asker = a }) (number_one c.asker h)

    by_node : (n : ℕ) → n < length t → filter (keyed asker_of (renamed t n)) (map (conflict_in_order s) ds) ≡ filter (keyed asker_of (renamed t n)) (map (conflict_in_order t) cs)
    by_node n h =
        filter_made (keyed asker_of (renamed t n)) (conflict_in_order s) ds
        ∙ ap (map (conflict_in_order s)) (other_asked n h ∙ g.each n h)
        ∙ map_one (conflict_in_order s) (conflict_by f) (conflict_in_order t) (filter (asks n) cs) (λ c i. conflict_one c (asker_low c (in_filter (asks n) c cs i).0))
        ∙ sym (filter_made (keyed asker_of (renamed t n)) (conflict_in_order t) cs ∙ ap (map (conflict_in_order t)) (asked n h))

    -- no conflict has a number past all nodes
    past : (u : List Node) (x : IsNumbered u) (es : List Conflict) (k : ℕ) → length u ≤ k → ((e : Conflict) → In e es → e.asker < length u) → filter (keyed asker_of k) (map (conflict_in_order u) es) ≡ []
    past u x es k h there =
        filter_made (keyed asker_of k) (conflict_in_order u) es
        ∙ ap (map (conflict_in_order u)) (none_pass (λ e. nat_eq (renamed u e.asker) k) es (λ e i. ne_eqb (renamed u e.asker) k (λ q. (let z = (number_of u x e.asker (there e i)).low in omega arith))))

    at_key : (k : ℕ) → filter (keyed asker_of k) (map (conflict_in_order s) ds) ≡ filter (keyed asker_of k) (map (conflict_in_order t) cs)
    at_key k = elim (cases_lt k (length t)) [
      | inl l ↦ (
          let P : ℕ → Type 0 = λ j. filter (keyed asker_of j) (map (conflict_in_order s) ds) ≡ filter (keyed asker_of j) (map (conflict_in_order t) cs) in
          subst P (renamed_is t w.rooted some k l) (by_node (visited t k) (visited_there t w k l)))
      | inr h ↦ past s v ds k (omega (arith, h, o.as_many)) other_low ∙ sym (past t w cs k h asker_low)
    ]

    pub list_one : conflicts_in_order s ds ≡ conflicts_in_order t cs
    list_one =
        sorted_same asker_of (conflicts_in_order s ds) (conflicts_in_order t cs) (sorted_by_key asker_of (map (conflict_in_order s) ds)) (sorted_by_key asker_of (map (conflict_in_order t) cs))
        (λ k. keyed_by_key asker_of k (map (conflict_in_order s) ds) ∙ at_key k ∙ sym (keyed_by_key asker_of k (map (conflict_in_order t) cs)))

pub one_tree : OneTree
one_tree f t s w v o = tree_one f t s w v o

pub one_number : OneNumber
one_number f t s w v o = number_one f t s w v o

pub one_list : OneList
one_list f t s cs ds w v o g = list_one f t s w v o cs ds g
