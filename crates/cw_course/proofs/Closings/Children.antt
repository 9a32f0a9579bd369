-- Children of nodes: the last one, and those in a part of a tree.
use Rattle.std.proofs.Common.{◌≡◌, ℕ, zero, suc, ◌+◌, ◌<◌, ◌≤◌, List, [], ◌∷◌, ◌++◌, length, refl, ap, sym, ◌∙◌, subst, arith, Bool, true, false, cond, Some, None, inl, inr, nat_lt, nat_eq}
use Rattle.std.specs.Prelude.{slice_get}
use Rattle.std.specs.List.{list_any}
use Rattle.std.proofs.lemmas.Bool.{and_parts, and_from, lt-ltb, ltb-true, eq-eqb, eqb-true, ne_eqb, false_from_ne_true}
use Rattle.cw_tree.specs.declared.node.Node.{Node}
use Rattle.cw_tree.specs.Nodes.{passes, number_in, parent_of}
use Rattle.cw_tree.specs.Series.{children, has_later}
use Rattle.cw_tree.specs.Links.{is_child, last_child}
use Rattle.cw_tree.proofs.Lists.{In, any_in}
use Rattle.cw_tree.proofs.Members.{in_right}
use Rattle.cw_tree.proofs.Rising.{Rises, rises_same}
use Rattle.cw_tree.proofs.LastBelow.{last_none, last_some}
use Rattle.cw_tree.proofs.Walks.There.{node_there}
use Rattle.cw_tree.proofs.InOrder.DepthFirst.{IsChild, child_is, child_in, children_rise}

pub is_there : (t : List Node) (n : ℕ) (x : Node) → slice_get t n ≡ Some x → n < length t
is_there t n x e = node_there (λ y. true) t n (ap (passes (λ y. true)) e)

-- ## The last child

rises_to : (xs : List ℕ) (n m : ℕ) → Rises (xs ++ n ∷ []) → In m (xs ++ n ∷ []) → m ≤ n
rises_to [] n m r (inl e) = omega arith
rises_to [] n m r (inr i) = absurd i
rises_to (x ∷ xs) n m r (inl e) = let low = r.0 n (in_right n xs (n ∷ []) (inl refl)) in omega arith
rises_to (x ∷ xs) n m r (inr i) = rises_to xs n m r.1 i

module _ (t : List Node) (p : ℕ) where
  passes_child : (m : ℕ) → IsChild t p m → is_child t p m ≡ true
  passes_child m c = and_from (nat_lt 0 m) (nat_eq (parent_of t m) p) (lt-ltb 0 m c.some) (eq-eqb (parent_of t m) p c.parent)

  child_from : (m : ℕ) → m < length t → is_child t p m ≡ true → IsChild t p m
  child_from m h e =
      let y = and_parts (nat_lt 0 m) (nat_eq (parent_of t m) p) e in
      record { some = ltb-true 0 m y.0; there = h; parent = eqb-true (parent_of t m) p y.1 }

  pub none_is_last : children t p ≡ [] → last_child t p ≡ None
  none_is_last e =
      let P : ℕ → List ℕ → Type 0 = In in
      last_none (is_child t p) (length t) (λ m h. false_from_ne_true (is_child t p m) (λ f. absurd (subst (P m) e (child_in t p m (child_from m h f)))))

  -- the last of the children is the last
  module _ (xs : List ℕ) (n : ℕ) (e : children t p ≡ xs ++ n ∷ []) where
    none_behind : (m : ℕ) → n < m → In m (children t p) → ⊥
    none_behind m l i =
        let P : List ℕ → Type 0 = In m in
        let R : List ℕ → Type 0 = Rises in
        let low : m ≤ n = rises_to xs n m (subst R e (children_rise t p)) (subst P e i) in
        omega arith

    pub last_is_child : IsChild t p n
    last_is_child = let P : List ℕ → Type 0 = In n in child_is t p n (subst P (sym e) (in_right n xs (n ∷ []) (inl refl)))

    pub last_is : last_child t p ≡ Some n
    last_is = last_some (is_child t p) (length t) n (record {
      low = last_is_child.there;
      passes = passes_child n last_is_child;
      none = λ m l h. false_from_ne_true (is_child t p m) (λ f. none_behind m l (child_in t p m (child_from m h f)));
    })

    pub none_later : has_later t n ≡ false
    none_later =
        let P : ℕ → Type 0 = λ q. list_any (λ m. nat_lt n m) (children t q) ≡ false in
        subst P (sym last_is_child.parent)
        (false_from_ne_true (list_any (λ m. nat_lt n m) (children t p)) (λ f.
        let (m, i, l) = any_in (λ m. nat_lt n m) (children t p) f in
        none_behind m (ltb-true n m l) i))

-- ## The children of a node in a part of a tree

-- the numbers of those nodes whose parent is n, where the first one has the number `from`
abbrev pub offspring : List Node → (from n : ℕ) → List ℕ
offspring [] from n = []
offspring (x ∷ xs) from n = cond (nat_eq x.parent n) (from ∷ offspring xs (suc from) n) (offspring xs (suc from) n)

pub offspring_append : (xs ys : List Node) (from to n : ℕ) → from + length xs ≡ to → offspring (xs ++ ys) from n ≡ offspring xs from n ++ offspring ys to n
offspring_append [] ys from to n e = let same : from ≡ to = omega arith in ap (λ k. offspring ys k n) same
offspring_append (x ∷ xs) ys from to n e = joined_up (nat_eq x.parent n) (offspring_append xs ys (suc from) to n (omega arith)) where
  joined_up : (b : Bool) → offspring (xs ++ ys) (suc from) n ≡ offspring xs (suc from) n ++ offspring ys to n
      → cond b (from ∷ offspring (xs ++ ys) (suc from) n) (offspring (xs ++ ys) (suc from) n) ≡ cond b (from ∷ offspring xs (suc from) n) (offspring xs (suc from) n) ++ offspring ys to n
  joined_up true h = ap (λ ks. from ∷ ks) h
  joined_up false h = h

pub offspring_own : (x : Node) (xs : List Node) (from to n : ℕ) → from + 1 ≡ to → x.parent ≡ n → offspring (x ∷ xs) from n ≡ from ∷ offspring xs to n
offspring_own x xs from to n e same =
    let next : suc from ≡ to = omega arith in
    ap (λ b. cond b (from ∷ offspring xs (suc from) n) (offspring xs (suc from) n)) (eq-eqb x.parent n same) ∙ ap (λ k. from ∷ offspring xs k n) next

pub offspring_other : (x : Node) (xs : List Node) (from to n : ℕ) → from + 1 ≡ to → (x.parent ≡ n → ⊥) → offspring (x ∷ xs) from n ≡ offspring xs to n
offspring_other x xs from to n e other =
    let next : suc from ≡ to = omega arith in
    ap (λ b. cond b (from ∷ offspring xs (suc from) n) (offspring xs (suc from) n)) (ne_eqb x.parent n other) ∙ ap (λ k. offspring xs k n) next

record Offspring (xs : List Node) (from n m : ℕ) : Type 0 where
  index : ℕ
  node : Node
  at : slice_get xs index ≡ Some node
  number : m ≡ from + index
  parent : node.parent ≡ n

in_offspring : (xs : List Node) (from n m : ℕ) → In m (offspring xs from n) → Offspring xs from n m
in_offspring [] from n m i = absurd i
in_offspring (x ∷ xs) from n m i = by (nat_eq x.parent n) refl (in_offspring xs (suc from) n m) i where
  later : Offspring xs (suc from) n m → Offspring (x ∷ xs) from n m
  later w = record { index = suc w.index; node = w.node; at = w.at; number = (let e = w.number in omega arith); parent = w.parent }

  by : (b : Bool) → nat_eq x.parent n ≡ b → (In m (offspring xs (suc from) n) → Offspring xs (suc from) n m) → In m (cond b (from ∷ offspring xs (suc from) n) (offspring xs (suc from) n)) → Offspring (x ∷ xs) from n m
  by true e more (inl same) = record { index = 0; node = x; at = refl; number = omega arith; parent = eqb-true x.parent n e }
  by true e more (inr j) = later (more j)
  by false e more j = later (more j)

offspring_in : (xs : List Node) (from n k : ℕ) (x : Node) → slice_get xs k ≡ Some x → x.parent ≡ n → In (from + k) (offspring xs from n)
offspring_in [] from n k x e p = absurd (cc e)
offspring_in (y ∷ xs) from n zero x e p =
    let same : y ≡ x = cc e in
    let here : nat_eq y.parent n ≡ true = eq-eqb y.parent n (ap (λ z. z.parent) same ∙ p) in
    let P : Bool → Type 0 = λ b. In (from + 0) (cond b (from ∷ offspring xs (suc from) n) (offspring xs (suc from) n)) in
    let first : from + 0 ≡ from = omega arith in
    subst P (sym here) (inl first)
offspring_in (y ∷ xs) from n (suc k) x e p =
    let next : suc from + k ≡ from + suc k = omega arith in
    let P : ℕ → Type 0 = λ m. In m (offspring xs (suc from) n) in
    by (nat_eq y.parent n) (subst P next (offspring_in xs (suc from) n k x e p)) where
      by : (b : Bool) → In (from + suc k) (offspring xs (suc from) n) → In (from + suc k) (cond b (from ∷ offspring xs (suc from) n) (offspring xs (suc from) n))
      by true i = inr i
      by false i = i

offspring_rises : (xs : List Node) (from n : ℕ) → Rises (offspring xs from n)
offspring_rises [] from n = tt
offspring_rises (x ∷ xs) from n = by (nat_eq x.parent n) (offspring_rises xs (suc from) n) where
  by : (b : Bool) → Rises (offspring xs (suc from) n) → Rises (cond b (from ∷ offspring xs (suc from) n) (offspring xs (suc from) n))
  by true r = ((λ y i. let e = (in_offspring xs (suc from) n y i).number in omega arith), r)
  by false r = r

node_at : (t : List Node) (m : ℕ) → m < length t → (x : Node) × (slice_get t m ≡ Some x)
node_at [] m h = absurd (omega arith)
node_at (x ∷ t) zero h = (x, refl)
node_at (x ∷ t) (suc m) h = node_at t m (omega arith)

-- all children of a node stand behind the root
pub children_are : (root : Node) (xs : List Node) (n : ℕ) → children (root ∷ xs) n ≡ offspring xs 1 n
children_are root xs n = rises_same (children (root ∷ xs) n) (offspring xs 1 n) (children_rise (root ∷ xs) n) (offspring_rises xs 1 n) (λ m i. to m (child_is (root ∷ xs) n m i)) from where
  to : (m : ℕ) → IsChild (root ∷ xs) n m → In m (offspring xs 1 n)
  to zero c = absurd (let some = c.some in omega arith)
  to (suc m) c =
      let low = c.there in
      let (x, e) = node_at xs m (omega arith) in
      let P : ℕ → Type 0 = λ k. In k (offspring xs 1 n) in
      let number : 1 + m ≡ suc m = omega arith in
      subst P number (offspring_in xs 1 n m x e (sym (ap (number_in (λ y. y.parent)) e) ∙ c.parent))

  from : (m : ℕ) → In m (offspring xs 1 n) → In m (children (root ∷ xs) n)
  from m i =
      let w = in_offspring xs 1 n m i in
      let number : suc w.index ≡ m = let e = w.number in omega arith in
      let P : ℕ → Type 0 = λ k. In k (children (root ∷ xs) n) in
      let low = is_there xs w.index w.node w.at in
      subst P number (child_in (root ∷ xs) n (suc w.index) (record { some = omega arith; there = omega arith; parent = ap (number_in (λ y. y.parent)) w.at ∙ w.parent }))
