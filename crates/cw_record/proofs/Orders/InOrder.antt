-- A tree whose nodes are numbered depth first: each hangs from the one before it, or from a node above that one.
use Rattle.std.proofs.Common.{◌≡◌, ℕ, zero, suc, ◌+◌, ◌-◌, ◌<◌, ◌≤◌, List, [], ◌∷◌, ◌++◌, length, refl, ap, sym, ◌∙◌, subst, arith, Bool, true, inl, inr, nat_le, nat_lt, append_assoc, append-nil}
use Rattle.std.specs.Prelude.{◌⊎◌, ◌&&◌}
use Rattle.std.specs.List.{filter, flat_map}
use Rattle.std.proofs.lemmas.Bool.{and_parts, and_from, ltb-true, lt-ltb, leb-true, le-leb, cases_eq, cases_lt}
use Rattle.std.proofs.lemmas.Grind.{flat_map-append}
use Rattle.cw_tree.specs.declared.node.Node.{Node}
use Rattle.cw_tree.specs.Nodes.{parent_of, below, all_nodes}
use Rattle.cw_tree.specs.Walks.{IsRooted, is_ancestor}
use Rattle.cw_tree.specs.Series.{children, depth_first}
use Rattle.cw_tree.proofs.Lists.{In}
use Rattle.cw_tree.proofs.Members.{in_append, in_left, in_right, in_filter, filter_in, in_below, below_in}
use Rattle.cw_tree.proofs.Rising.{Rises, rises_filter, below_rises, rises_same}
use Rattle.cw_tree.proofs.Walks.Ancestors.{ancestor_self, ancestor_step, ancestor_up, ancestor_trans, ancestor_le}
use Rattle.cw_tree.proofs.InOrder.Visits.{child_over}
use Rattle.cw_tree.proofs.InOrder.DepthFirst.{IsChild, child_is, child_in, children_rise, whole, walk_step}

-- each node hangs from the one before it, or from a node above that one
abbrev pub HangsFrom : List Node → ℕ → Type 0
HangsFrom t k = (n : ℕ) → suc n < k → is_ancestor t (parent_of t (suc n)) n ≡ true

rises_append : (xs ys : List ℕ) → Rises xs → Rises ys → ((x y : ℕ) → In x xs → In y ys → x < y) → Rises (xs ++ ys)
rises_append [] ys r s h = s
rises_append (x ∷ xs) ys r s h = (
  (λ y i. elim (in_append y xs ys i) [ inl j ↦ r.0 y j | inr j ↦ h x y (inl refl) j ]),
  rises_append xs ys r.1 s (λ a b i j. h a b (inr i) j),
)

-- the parent of what is n, or above it, stands above it too
pub above_too : (t : List Node) → IsRooted t → (a n q : ℕ) → 0 < a → n < length t → a < length t → q ≡ parent_of t a → is_ancestor t a n ≡ true → is_ancestor t q n ≡ true
above_too t r a n q s l h e over =
    ap (λ k. is_ancestor t k n) e ∙ ancestor_trans t r (parent_of t a) a n l (ancestor_up t r (parent_of t a) a s h (ancestor_self t (parent_of t a))) over

module _ (t : List Node) (r : IsRooted t) (hangs : HangsFrom t (length t)) where
  -- what lies between a node and one beneath it is beneath it
  pub between : (i k m n : ℕ) → n ≡ m + k → i ≤ m → n < length t → is_ancestor t i n ≡ true → is_ancestor t i m ≡ true
  between i zero m n e le l a =
      let P : ℕ → Type 0 = λ x. is_ancestor t i x ≡ true in
      let same : n ≡ m = omega arith in
      subst P same a
  between i (suc k) m zero e le l a = absurd (omega arith)
  between i (suc k) m (suc p) e le l a =
      let low : parent_of t (suc p) < suc p = r (suc p) (omega arith) l in
      let up : is_ancestor t i (parent_of t (suc p)) ≡ true = sym (ancestor_step t r i (suc p) (omega arith) l (λ q. omega arith)) ∙ a in
      between i k m p (omega arith) le (omega arith) (ancestor_trans t r i (parent_of t (suc p)) p (omega arith) up (hangs p l))

  -- a child comes before what is no child and was waiting
  child_first : (i c m : ℕ) → IsChild t i c → i < m → m < length t → parent_of t m < i → c < m
  child_first i c m w h l e =
      by_case (cases_lt c m) where
        by_case : (c < m) ⊎ (m ≤ c) → c < m
        by_case (inl less) = less
        by_case (inr ge) =
            let there = w.there in
            let in_it : is_ancestor t i m ≡ true = between i (c - m) m c (omega arith) (omega arith) there (child_over t r i c w) in
            let up : is_ancestor t i (parent_of t m) ≡ true = sym (ancestor_step t r i m (omega arith) l (λ q. omega arith)) ∙ in_it in
            absurd (omega (arith, ancestor_le t r i (parent_of t m) (omega arith) up))

  -- m comes at place a or later, and its parent before place b
  abbrev waits_test : ℕ → ℕ → ℕ → Bool
  waits_test a b m = nat_le a m && nat_lt (parent_of t m) b

  abbrev waiting : ℕ → ℕ → List ℕ
  waiting a b = filter (waits_test a b) (all_nodes t)

  record Waits (a b m : ℕ) : Type 0 where
    late : a ≤ m
    there : m < length t
    hung : parent_of t m < b

  waits_is : (a b m : ℕ) → In m (waiting a b) → Waits a b m
  waits_is a b m i =
      let z = in_filter (waits_test a b) m (all_nodes t) i in
      let y = and_parts (nat_le a m) (nat_lt (parent_of t m) b) z.1 in
      record { late = leb-true a m y.0; there = in_below m (length t) z.0; hung = ltb-true (parent_of t m) b y.1 }

  is_waiting : (a b m : ℕ) → a ≤ m → m < length t → parent_of t m < b → In m (waiting a b)
  is_waiting a b m h l e = filter_in (waits_test a b) m (all_nodes t) (below_in m (length t) l) (and_from (nat_le a m) (nat_lt (parent_of t m) b) (le-leb a m h) (lt-ltb (parent_of t m) b e))

  waiting_rises : (a b : ℕ) → Rises (waiting a b)
  waiting_rises a b = rises_filter (waits_test a b) (all_nodes t) (below_rises (length t))

  first_waits : (i : ℕ) → 0 < i → i < length t → waiting i i ≡ i ∷ waiting (suc i) i
  first_waits i s l =
      rises_same (waiting i i) (i ∷ waiting (suc i) i) (waiting_rises i i) ((λ y j. let w = waits_is (suc i) i y j in let late = w.late in omega arith), waiting_rises (suc i) i)
      (λ v j. let w = waits_is i i v j in by_case v w (cases_eq v i))
      (λ v j. elim j [
        | inl e ↦ (let low : parent_of t i < i = r i s l in let up = ap (parent_of t) e in is_waiting i i v (omega arith) (omega arith) (omega arith))
        | inr k ↦ (let w = waits_is (suc i) i v k in let late = w.late in is_waiting i i v (omega arith) w.there w.hung)
      ]) where
        by_case : (v : ℕ) → Waits i i v → (v ≡ i) ⊎ (v ≡ i → ⊥) → In v (i ∷ waiting (suc i) i)
        by_case v w (inl e) = inl e
        by_case v w (inr ne) = inr (let late = w.late in is_waiting (suc i) i v (omega arith) w.there w.hung)

  next_wait : (i : ℕ) → 0 < i → i < length t → children t i ++ waiting (suc i) i ≡ waiting (suc i) (suc i)
  next_wait i s l =
      rises_same (children t i ++ waiting (suc i) i) (waiting (suc i) (suc i))
      (rises_append (children t i) (waiting (suc i) i) (children_rise t i) (waiting_rises (suc i) i) (λ x y j k. let w = waits_is (suc i) i y k in let late = w.late in child_first i x y (child_is t i x j) (omega arith) w.there w.hung))
      (waiting_rises (suc i) (suc i))
      (λ v j. elim (in_append v (children t i) (waiting (suc i) i) j) [
        | inl k ↦ (let c = child_is t i v k in let up = c.parent in let low : parent_of t v < v = r v c.some c.there in is_waiting (suc i) (suc i) v (omega arith) c.there (omega arith))
        | inr k ↦ (let w = waits_is (suc i) i v k in let hung = w.hung in is_waiting (suc i) (suc i) v w.late w.there (omega arith))
      ])
      (λ v j. let w = waits_is (suc i) (suc i) v j in by_case v w (cases_eq (parent_of t v) i)) where
        by_case : (v : ℕ) → Waits (suc i) (suc i) v → (parent_of t v ≡ i) ⊎ (parent_of t v ≡ i → ⊥) → In v (children t i ++ waiting (suc i) i)
        by_case v w (inl e) = in_left v (children t i) (waiting (suc i) i) (child_in t i v (let late = w.late in record { some = omega arith; there = w.there; parent = e }))
        by_case v w (inr ne) = in_right v (children t i) (waiting (suc i) i) (let hung = w.hung in is_waiting (suc i) i v w.late w.there (omega arith))

  root_first : waiting 1 1 ≡ children t 0
  root_first =
      rises_same (waiting 1 1) (children t 0) (waiting_rises 1 1) (children_rise t 0)
      (λ v j. let w = waits_is 1 1 v j in let late = w.late in let hung = w.hung in child_in t 0 v (record { some = omega arith; there = w.there; parent = omega arith }))
      (λ v j. let c = child_is t 0 v j in let some = c.some in let up = c.parent in is_waiting 1 1 v (omega arith) c.there (omega arith))

  one_further : (i : ℕ) → 0 < i → i < length t → below i ++ flat_map (whole t) (waiting i i) ≡ depth_first t → below (suc i) ++ flat_map (whole t) (waiting (suc i) (suc i)) ≡ depth_first t
  one_further i s l more =
      append_assoc (below i) (i ∷ []) (flat_map (whole t) (waiting (suc i) (suc i)))
      ∙ ap (λ ns. below i ++ (i ∷ flat_map (whole t) ns)) (sym (next_wait i s l))
      ∙ ap (λ ns. below i ++ (i ∷ ns)) (flat_map-append (whole t) (children t i) (waiting (suc i) i))
      ∙ ap (λ ns. below i ++ (ns ++ flat_map (whole t) (waiting (suc i) i))) (sym (walk_step t r i))
      ∙ ap (λ ns. below i ++ flat_map (whole t) ns) (sym (first_waits i s l))
      ∙ more

  met_all : (i : ℕ) → suc i ≤ length t → below (suc i) ++ flat_map (whole t) (waiting (suc i) (suc i)) ≡ depth_first t
  met_all zero h = ap (λ ns. 0 ∷ flat_map (whole t) ns) root_first ∙ sym (walk_step t r 0)
  met_all (suc i) h = one_further (suc i) (omega arith) (omega arith) (met_all i (omega arith))

  none_wait : (k : ℕ) → length t ≡ k → waiting k k ≡ []
  none_wait k e = rises_same (waiting k k) [] (waiting_rises k k) tt (λ v j. let w = waits_is k k v j in let late = w.late in let there = w.there in absurd (omega arith)) (λ v j. absurd j)

  -- then the walk comes to nodes by their numbers
  pub in_order_is : (k : ℕ) → length t ≡ suc k → depth_first t ≡ all_nodes t
  in_order_is k e =
      sym (met_all k (omega arith))
      ∙ ap (λ ns. below (suc k) ++ flat_map (whole t) ns) (none_wait (suc k) e)
      ∙ append-nil (below (suc k))
      ∙ ap below (sym e)
