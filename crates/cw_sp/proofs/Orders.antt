-- Both walks visit the children of the node at which two nodes part in the same order, or, at a fork, in opposite orders.
use Rattle.std.proofs.Common.{◌≡◌, ℕ, ◌<◌, ◌≤◌, List, [], ◌∷◌, length, reverse, refl, ap, sym, ◌∙◌, arith, Bool, true, false, inl, inr, subst, cond, nat_lt, Option, Some, None}
use Rattle.std.specs.Prelude.{◌⊎◌, ◌&&◌, ◌||◌, not, slice_get}
use Rattle.std.proofs.lemmas.Bool.{and_from, and_right, lt-ltb, ltb-true, not_from_false, not-true, false_from_ne_true, cases_lt, cases_eq}
use Rattle.cw_order.specs.Order.{position}
use Rattle.cw_tree.specs.declared.node.Node.{Node}
use Rattle.cw_tree.specs.Nodes.{passes, is_fork, is_strand, is_block, is_strand_kind, is_fork_kind, is_block_kind}
use Rattle.cw_tree.specs.Walks.{IsRooted, is_ancestor, lca}
use Rattle.cw_tree.specs.Series.{children, walk_by, parallel, is_before}
use Rattle.cw_tree.specs.Shape.{IsTree}
use Rattle.cw_tree.proofs.Lists.{In}
use Rattle.cw_tree.proofs.Ahead.{Apart, Ahead}
use Rattle.cw_tree.proofs.Rising.{rises_ahead}
use Rattle.cw_tree.proofs.Walks.Ancestors.{ancestor_self, ancestor_le, root_ancestor}
use Rattle.cw_tree.proofs.Walks.Kin.{Branch, branch}
use Rattle.cw_tree.proofs.Walks.Meets.{IsMeet}
use Rattle.cw_tree.proofs.Walks.Parting.{meet, left, right, branches_differ, first_comes, by_branches, fork_apart}
use Rattle.cw_tree.proofs.Walks.There.{node_there, fork_there}
use Rattle.cw_tree.proofs.InOrder.DepthFirst.{OrdersChildren, by_number, child_in, children_rise}
use Rattle.cw_tree.proofs.InOrder.Visits.{walk_once, walk_ahead}
use Rattle.cw_sp.specs.Orders.{mirrored, english, hebrew, stands_before, orders_differ, is_leaf}
use Rattle.cw_sp.specs.Laws.{TwoOrders, LeavesAreApart, LeavesByOrders, EnglishIsDepthFirst}
use Rattle.cw_sp.proofs.Positions.{ahead_position}

pub english_is_depth_first : EnglishIsDepthFirst
english_is_depth_first t = refl

-- ## Two children, mirrored

swap_in : (v l r : ℕ) → In v (l ∷ r ∷ []) → In v (r ∷ l ∷ [])
swap_in v l r (inl e) = inr (inl e)
swap_in v l r (inr (inl e)) = inl e
swap_in v l r (inr (inr z)) = absurd z

swap_apart : (l r : ℕ) → Apart (l ∷ r ∷ []) → Apart (r ∷ l ∷ [])
swap_apart l r o = ((λ i. elim i [ inl e ↦ o.0 (inl (sym e)) | inr z ↦ z ]), ((λ z. z), tt))

swap_ahead : (c d l r : ℕ) → Ahead c d (l ∷ r ∷ []) → Ahead d c (r ∷ l ∷ [])
swap_ahead c d l r (inl (e, inl f)) = inl (f, inl e)
swap_ahead c d l r (inl (e, inr z)) = absurd z
swap_ahead c d l r (inr (inl (e, z))) = absurd z
swap_ahead c d l r (inr (inr z)) = absurd z

module _ (t : List Node) (w : IsTree t) where
  -- the Hebrew walk visits the children of n as the English one does, or, at a fork, the other way round
  data Visit (n : ℕ) : Type 0 where
    as_they_are : is_fork t n ≡ false → mirrored t n ≡ children t n → Visit n
    two : (l r : ℕ) → is_fork t n ≡ true → children t n ≡ l ∷ r ∷ [] → mirrored t n ≡ r ∷ l ∷ [] → Visit n

  visit : (n : ℕ) → Visit n
  visit n =
      by (is_fork t n) refl where
        by : (b : Bool) → is_fork t n ≡ b → Visit n
        by false e = as_they_are e (ap (λ b. cond b (reverse (children t n)) (children t n)) e)
        by true e =
            let z = w.forks n (fork_there t n e) e in
            two z.0 z.1 e z.2 (ap (λ b. cond b (reverse (children t n)) (children t n)) e ∙ ap reverse z.2)

  mirrored_all : (n m : ℕ) → Visit n → In m (children t n) → In m (mirrored t n)
  mirrored_all n m (as_they_are f e) i = let P : List ℕ → Type 0 = λ xs. In m xs in subst P (sym e) i
  mirrored_all n m (two l r f c e) i = let P : List ℕ → Type 0 = λ xs. In m xs in subst P (sym e) (swap_in m l r (subst P c i))

  mirrored_only : (n m : ℕ) → Visit n → In m (mirrored t n) → In m (children t n)
  mirrored_only n m (as_they_are f e) i = let P : List ℕ → Type 0 = λ xs. In m xs in subst P e i
  mirrored_only n m (two l r f c e) i = let P : List ℕ → Type 0 = λ xs. In m xs in subst P (sym c) (swap_in m r l (subst P e i))

  mirrored_once : (n : ℕ) → Visit n → Apart (mirrored t n)
  mirrored_once n (as_they_are f e) = let P : List ℕ → Type 0 = Apart in subst P (sym e) ((by_number t).once n)
  mirrored_once n (two l r f c e) = let P : List ℕ → Type 0 = Apart in subst P (sym e) (swap_apart l r (subst P c ((by_number t).once n)))

  pub by_mirror : OrdersChildren t (mirrored t)
  by_mirror = record { all = λ n m. mirrored_all n m (visit n); only = λ n m. mirrored_only n m (visit n); once = λ n. mirrored_once n (visit n) }

  module _ (u v : ℕ) (hu : u < length t) (hv : v < length t) (uv : is_ancestor t u v ≡ false) (vu : is_ancestor t v u ≡ false) where
    abbrev rooted : IsRooted t
    rooted = w.rooted

    abbrev m : ℕ
    m = lca t u v

    abbrev a : Branch t rooted m u
    a = left t rooted u v hu hv uv vu

    abbrev b : Branch t rooted m v
    b = right t rooted u v hu hv uv vu

    over : IsMeet t rooted u v m
    over = meet t rooted u v hu hv uv vu

    top : is_ancestor t 0 m ≡ true
    top = let le = ancestor_le t rooted m u hu over.left in root_ancestor t rooted m (omega arith)

    a_in : In a.child (children t m)
    a_in = let le = ancestor_le t rooted a.child u hu a.over in child_in t m a.child (record { some = a.some; there = omega arith; parent = a.parent })

    b_in : In b.child (children t m)
    b_in = let le = ancestor_le t rooted b.child v hv b.over in child_in t m b.child (record { some = b.some; there = omega arith; parent = b.parent })

    a_first : a.child < b.child → Ahead a.child b.child (children t m)
    a_first less = rises_ahead a.child b.child (children t m) (children_rise t m) a_in b_in less

    b_first : b.child < a.child → Ahead b.child a.child (children t m)
    b_first less = rises_ahead b.child a.child (children t m) (children_rise t m) b_in a_in less

    abbrev in_order : (ℕ → List ℕ) → Bool
    in_order order = stands_before (walk_by order (length t) 0) u v

    -- a walk that visits the child over u first has u before v
    forth : (order : ℕ → List ℕ) → OrdersChildren t order → Ahead a.child b.child (order m) → in_order order ≡ true
    forth order o c =
        lt-ltb _ _ (
        ahead_position u v (walk_by order (length t) 0) (walk_once t rooted order o (length t) 0 (omega arith))
        (walk_ahead t rooted order o m a.child b.child u v hu hv a.parent b.parent a.some b.some c a.over b.over top)
        )

    back : (order : ℕ → List ℕ) → OrdersChildren t order → Ahead b.child a.child (order m) → in_order order ≡ false
    back order o c =
        let less = ahead_position v u (walk_by order (length t) 0) (walk_once t rooted order o (length t) 0 (omega arith))
        (walk_ahead t rooted order o m b.child a.child v u hv hu b.parent a.parent b.some a.some c b.over a.over top) in
        false_from_ne_true (in_order order) (λ e. let more = ltb-true _ _ e in omega arith)

    same_way : mirrored t m ≡ children t m → (c d : ℕ) → Ahead c d (children t m) → Ahead c d (mirrored t m)
    same_way e c d h = let P : List ℕ → Type 0 = λ xs. Ahead c d xs in subst P (sym e) h

    other_way : (l r : ℕ) → children t m ≡ l ∷ r ∷ [] → mirrored t m ≡ r ∷ l ∷ [] → (c d : ℕ) → Ahead c d (children t m) → Ahead d c (mirrored t m)
    other_way l r e f c d h =
        let P : List ℕ → Type 0 = λ xs. Ahead c d xs in
        let Q : List ℕ → Type 0 = λ xs. Ahead d c xs in
        subst Q (sym f) (swap_ahead c d l r (subst P e h))

    no_parallel : is_fork t m ≡ false → parallel t u v ≡ false
    no_parallel f = and_right (not (is_ancestor t u v) && not (is_ancestor t v u)) (is_fork t m) f

    at_fork : is_fork t m ≡ true → parallel t u v ≡ true
    at_fork f = and_from (not (is_ancestor t u v) && not (is_ancestor t v u)) (is_fork t m) (and_from (not (is_ancestor t u v)) (not (is_ancestor t v u)) (not_from_false (is_ancestor t u v) uv) (not_from_false (is_ancestor t v u) vu)) f

    abbrev Told : Type 0
    Told = (is_before t u v ≡ (in_order (children t) && in_order (mirrored t))) × (parallel t u v ≡ orders_differ t u v)

    tell : (e h : Bool) → in_order (children t) ≡ e → in_order (mirrored t) ≡ h → is_before t u v ≡ (e && h) → parallel t u v ≡ cond e (not h) h → Told
    tell e h first second before apart = (
      before ∙ sym (ap (λ b. b && in_order (mirrored t)) first ∙ ap (λ b. e && b) second),
      apart ∙ sym (ap (λ b. cond b (not (in_order (mirrored t))) (in_order (mirrored t))) first ∙ ap (λ b. cond e (not b) b) second),
    )

    told : Visit m → (a.child < b.child) ⊎ (b.child ≤ a.child) → Told
    told (as_they_are f e) (inl less) =
        let c = a_first less in
        tell true true (forth (children t) (by_number t) c) (forth (mirrored t) by_mirror (same_way e a.child b.child c)) (first_comes t rooted u v hu hv uv vu f less) (no_parallel f)
    told (as_they_are f e) (inr le) =
        let ne = branches_differ t rooted u v hu hv uv vu in
        let c = b_first (omega arith) in
        tell false false (back (children t) (by_number t) c) (back (mirrored t) by_mirror (same_way e b.child a.child c))
        (false_from_ne_true (is_before t u v) (λ h. let l : a.child < b.child = by_branches t rooted u v hu hv uv vu h in omega arith)) (no_parallel f)
    told (two l r f k e) (inl less) =
        let c = a_first less in
        tell true false (forth (children t) (by_number t) c) (back (mirrored t) by_mirror (other_way l r k e a.child b.child c)) (fork_apart t rooted u v hu hv uv vu f) (at_fork f)
    told (two l r f k e) (inr le) =
        let ne = branches_differ t rooted u v hu hv uv vu in
        let c = b_first (omega arith) in
        tell false true (back (children t) (by_number t) c) (forth (mirrored t) by_mirror (other_way l r k e b.child a.child c)) (fork_apart t rooted u v hu hv uv vu f) (at_fork f)

pub two_orders : TwoOrders
two_orders t w u v hu hv uv vu =
    told t w u v hu hv uv vu (visit t w (lca t u v)) (cases_lt (left t w.rooted u v hu hv uv vu).child (right t w.rooted u v hu hv uv vu).child)

-- ## Leaves

leaf_kind : (t : List Node) (u : ℕ) → is_leaf t u ≡ true → (is_strand t u || is_fork t u || is_block t u) ≡ false
leaf_kind t u e = by (slice_get t u) e where
  by : (o : Option Node) → passes (λ x. not (is_strand_kind x.kind || is_fork_kind x.kind || is_block_kind x.kind)) o ≡ true
      → (passes (λ x. is_strand_kind x.kind) o || passes (λ x. is_fork_kind x.kind) o || passes (λ x. is_block_kind x.kind) o) ≡ false
  by None e = absurd (cc e)
  by (Some x) e = not-true (is_strand_kind x.kind || is_fork_kind x.kind || is_block_kind x.kind) e

pub leaf_there : (t : List Node) (u : ℕ) → is_leaf t u ≡ true → u < length t
leaf_there t u e = node_there (λ x. not (is_strand_kind x.kind || is_fork_kind x.kind || is_block_kind x.kind)) t u e

pub leaves_are_apart : LeavesAreApart
leaves_are_apart t w u v leaf hv ne =
    false_from_ne_true (is_ancestor t u v) (λ e.
    let b = branch t w.rooted u v hv (λ q. ne (sym q)) e in
    let le : b.child ≤ v = ancestor_le t w.rooted b.child v hv b.over in
    let inner = w.parents b.child (omega arith) b.some in
    let P : ℕ → Type 0 = λ n. (is_strand t n || is_fork t n || is_block t n) ≡ true in
    absurd (cc (subst P b.parent inner, leaf_kind t u leaf)))

no_less : (n : ℕ) → nat_lt n n ≡ false
no_less n = false_from_ne_true (nat_lt n n) (λ e. let less : n < n = ltb-true n n e in omega arith)

with_itself : (t : List Node) (u : ℕ) → parallel t u u ≡ orders_differ t u u
with_itself t u =
    ap (λ b. not b && not b && is_fork t (lca t u u)) (ancestor_self t u)
    ∙ sym (ap (λ b. cond b (not (stands_before (hebrew t) u u)) (stands_before (hebrew t) u u)) (no_less (position (english t) u)) ∙ no_less (position (hebrew t) u))

pub leaves_by_orders : LeavesByOrders
leaves_by_orders t w u v leaf other =
    elim (cases_eq u v) [
      | inl e ↦ (let P : ℕ → Type 0 = λ x. parallel t u x ≡ orders_differ t u x in subst P e (with_itself t u))
      | inr ne ↦
          (let hu = leaf_there t u leaf in
          let hv = leaf_there t v other in
          (two_orders t w u v hu hv (leaves_are_apart t w u v leaf hv ne) (leaves_are_apart t w v u other hu (λ q. ne (sym q)))).1)
    ]
