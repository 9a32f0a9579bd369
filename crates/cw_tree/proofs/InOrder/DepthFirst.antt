-- The walk down from a node, with the children of each node in some order: how many levels are enough, and how it goes on over a stack of
-- nodes that are still to be visited, the next one last.
use Rattle.std.proofs.Common.{◌≡◌, ℕ, zero, suc, ◌+◌, ◌<◌, ◌≤◌, List, [], ◌∷◌, ◌++◌, length, reverse, refl, ap, sym, ◌∙◌, arith, subst, nat_lt, nat_eq, inl, inr, append_assoc, append-nil}
use Rattle.std.specs.List.{flat_map}
use Rattle.std.proofs.lemmas.Bool.{and_parts, ltb-true, eqb-true, and_from, lt-ltb, eq-eqb}
use Rattle.std.proofs.lemmas.List.{reverse-append, reverse-reverse}
use Rattle.std.proofs.lemmas.Grind.{flat_map-append}
use Rattle.cw_tree.specs.declared.node.Node.{Node}
use Rattle.cw_tree.specs.Nodes.{parent_of, below}
use Rattle.cw_tree.specs.Walks.{IsRooted}
use Rattle.cw_tree.specs.Series.{children, walk_by, walk}
use Rattle.cw_tree.specs.Links.{is_child}
use Rattle.cw_tree.proofs.Lists.{In}
use Rattle.cw_tree.proofs.Members.{in_append, append_in, in_reverse, in_filter, in_below, filter_in, below_in}
use Rattle.cw_tree.proofs.Rising.{Rises, rises_filter, rises_apart, below_rises}
use Rattle.cw_tree.proofs.Ahead.{Apart}

-- m is a child of n
pub record IsChild (t : List Node) (n m : ℕ) : Type 0 where
  pub some : 0 < m
  pub there : m < length t
  pub parent : parent_of t m ≡ n

pub child_is : (t : List Node) (n m : ℕ) → In m (children t n) → IsChild t n m
child_is t n m i =
    let z = in_filter (is_child t n) m (below (length t)) i in
    let y = and_parts (nat_lt 0 m) (nat_eq (parent_of t m) n) z.1 in
    record { some = ltb-true 0 m y.0; there = in_below m (length t) z.0; parent = eqb-true (parent_of t m) n y.1 }

pub child_in : (t : List Node) (n m : ℕ) → IsChild t n m → In m (children t n)
child_in t n m c = filter_in (is_child t n) m (below (length t)) (below_in m (length t) c.there) (and_from _ _ (lt-ltb 0 m c.some) (eq-eqb (parent_of t m) n c.parent))

pub children_rise : (t : List Node) (n : ℕ) → Rises (children t n)
children_rise t n = rises_filter (is_child t n) (below (length t)) (below_rises (length t))

-- the children of each node, each once, in some order
pub record OrdersChildren (t : List Node) (order : ℕ → List ℕ) : Type 0 where
  pub all : (n m : ℕ) → In m (children t n) → In m (order n)
  pub only : (n m : ℕ) → In m (order n) → In m (children t n)
  pub once : (n : ℕ) → Apart (order n)

-- by their numbers
pub by_number : (t : List Node) → OrdersChildren t (children t)
by_number t = record { all = λ n m i. i; only = λ n m i. i; once = λ n. rises_apart (children t n) (children_rise t n) }

-- two functions that agree at each member of a list
flat_same : (f g : ℕ → List ℕ) (xs : List ℕ) → ((x : ℕ) → In x xs → f x ≡ g x) → flat_map f xs ≡ flat_map g xs
flat_same f g [] e = refl
flat_same f g (x ∷ xs) e = ap (λ ys. ys ++ flat_map f xs) (e x (inl refl)) ∙ ap (λ ys. g x ++ ys) (flat_same f g xs (λ y i. e y (inr i)))

none_in : (xs : List ℕ) → ((x : ℕ) → In x xs → ⊥) → xs ≡ []
none_in [] h = refl
none_in (x ∷ xs) h = absurd (h x (inl refl))

-- ## By any order

module _ (t : List Node) (order : ℕ → List ℕ) where
  -- the nodes from n down, to all levels
  abbrev pub whole_by : ℕ → List ℕ
  whole_by = walk_by order (length t)

  -- what is still to be visited, from the nodes of a stack
  abbrev pub to_come : List ℕ → List ℕ
  to_come stack = flat_map whole_by (reverse stack)

  pub record Walking (done stack : List ℕ) : Type 0 where
    pub all : done ++ to_come stack ≡ whole_by 0
    pub there : (n : ℕ) → In n stack → n < length t

module _ (t : List Node) (r : IsRooted t) (order : ℕ → List ℕ) (o : OrdersChildren t order) where
  pub child_of : (n m : ℕ) → In m (order n) → IsChild t n m
  child_of n m i = child_is t n m (o.only n m i)

  child_after : (n m : ℕ) → In m (order n) → n < m
  child_after n m i = let c = child_of n m i in let low : parent_of t m < m = r m c.some c.there in omega (arith, c.parent)

  none_ordered : (n : ℕ) → length t ≤ n → order n ≡ []
  none_ordered n h = none_in (order n) (λ m i. let c = child_of n m i in let after : n < m = child_after n m i in omega (arith, c.there))

  -- as many levels as there are numbers from n on are enough
  walk_enough : (k j n : ℕ) → length t ≤ n + k → length t ≤ n + j → walk_by order k n ≡ walk_by order j n
  walk_enough zero zero n h g = refl
  walk_enough zero (suc j) n h g = sym (ap (λ ns. n ∷ flat_map (walk_by order j) ns) (none_ordered n (omega arith)))
  walk_enough (suc k) zero n h g = ap (λ ns. n ∷ flat_map (walk_by order k) ns) (none_ordered n (omega arith))
  walk_enough (suc k) (suc j) n h g =
      ap (λ ns. n ∷ ns) (flat_same (walk_by order k) (walk_by order j) (order n) (λ m i. let after : n < m = child_after n m i in walk_enough k j m (omega arith) (omega arith)))

  whole_from : (k : ℕ) → length t ≡ k → (n : ℕ) → walk_by order k n ≡ n ∷ flat_map (walk_by order k) (order n)
  whole_from zero e n = sym (ap (λ ns. n ∷ flat_map (walk_by order zero) ns) (none_ordered n (omega arith)))
  whole_from (suc k) e n =
      ap (λ ns. n ∷ ns) (flat_same (walk_by order k) (walk_by order (suc k)) (order n) (λ m i. let after : n < m = child_after n m i in walk_enough k (suc k) m (omega arith) (omega arith)))

  -- a walk is the node, and the walks from its children
  pub walk_by_step : (n : ℕ) → whole_by t order n ≡ n ∷ flat_map (whole_by t order) (order n)
  walk_by_step n = whole_from (length t) refl n

  to_come_step : (rest : List ℕ) (n : ℕ) → to_come t order (rest ++ n ∷ []) ≡ n ∷ to_come t order (rest ++ reverse (order n))
  to_come_step rest n =
      ap (flat_map (whole_by t order)) (reverse-append rest (n ∷ []))
      ∙ ap (λ ns. ns ++ to_come t order rest) (walk_by_step n)
      ∙ ap (λ ns. n ∷ ns) (sym (flat_map-append (whole_by t order) (order n) (reverse rest)))
      ∙ ap (λ ns. n ∷ flat_map (whole_by t order) (ns ++ reverse rest)) (sym (reverse-reverse (order n)))
      ∙ ap (λ ns. n ∷ flat_map (whole_by t order) ns) (sym (reverse-append rest (reverse (order n))))

  pub walk_begins : (some : 0 < length t) (stack : List ℕ) → stack ≡ 0 ∷ [] → Walking t order [] stack
  walk_begins some stack e = record {
    all = ap (to_come t order) e ∙ append-nil (whole_by t order 0);
    there = λ n i. (let P : List ℕ → Type 0 = λ ns. In n ns in elim (subst P e i) [ inl q ↦ omega arith | inr z ↦ absurd z ]);
  }

  -- node n is taken from a stack, and its children are put there
  module _ (done stack rest : List ℕ) (n : ℕ) (w : Walking t order done stack) (taken : stack ≡ rest ++ n ∷ []) where
    was_there : (m : ℕ) → In m (rest ++ n ∷ []) → m < length t
    was_there m i = let P : List ℕ → Type 0 = λ ns. In m ns in w.there m (subst P (sym taken) i)

    pub taken_there : n < length t
    taken_there = was_there n (append_in n rest (n ∷ []) (inr (inl refl)))

    module _ (next : List ℕ) (put : next ≡ rest ++ reverse (order n)) where
      here : to_come t order stack ≡ n ∷ to_come t order next
      here = ap (to_come t order) taken ∙ to_come_step rest n ∙ ap (λ ns. n ∷ to_come t order ns) (sym put)

      there_next : (m : ℕ) → In m next → m < length t
      there_next m i =
          let P : List ℕ → Type 0 = λ ns. In m ns in
          elim (in_append m rest (reverse (order n)) (subst P put i)) [
            | inl j ↦ was_there m (append_in m rest (n ∷ []) (inl j))
            | inr j ↦ (child_of n m (in_reverse m (order n) j)).there
          ]

      pub walk_goes_on : (more : List ℕ) → more ≡ done ++ n ∷ [] → Walking t order more next
      walk_goes_on more grown = record {
        all = ap (λ ns. ns ++ to_come t order next) grown
            ∙ append_assoc done (n ∷ []) (to_come t order next)
            ∙ ap (λ ns. done ++ ns) (sym here)
            ∙ w.all;
        there = there_next;
      }

      pub walk_smaller : length (to_come t order next) < length (to_come t order stack)
      walk_smaller = omega (arith, ap length here)

-- ## By numbers

module _ (t : List Node) where
  abbrev pub whole : ℕ → List ℕ
  whole = walk t (length t)

module _ (t : List Node) (r : IsRooted t) where
  pub no_children : (n : ℕ) → length t ≤ n → children t n ≡ []
  no_children = none_ordered t r (children t) (by_number t)

  pub walk_step : (n : ℕ) → whole t n ≡ n ∷ flat_map (whole t) (children t n)
  walk_step = walk_by_step t r (children t) (by_number t)
