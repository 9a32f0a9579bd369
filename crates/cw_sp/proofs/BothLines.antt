-- Both walks come to each node once, and their lines tell which leaves are parallel.
use mathlib.Core.Bool.{beq}
use Rattle.std.proofs.Common.{◌≡◌, refl, ℕ, ◌<◌, ◌≤◌, List, length, ap, sym, ◌∙◌, arith, Bool, true, false, cond, inl, inr, nat_eq, nat_lt, eqb-true}
use Rattle.std.specs.Prelude.{not, slice_index, ◌↔◌, IsTrue, Contains}
use Rattle.std.proofs.lemmas.Bool.{lt-ltb, ltb-true, cases_Bool, false_from_ne_true}
use Rattle.std.proofs.lemmas.Map.Steps.{length-le_from_distinct_below}
use Rattle.cw_order.specs.Order.{position}
use Rattle.cw_tree.specs.declared.node.Node.{Node}
use Rattle.cw_tree.specs.Walks.{IsRooted}
use Rattle.cw_tree.specs.Series.{children, walk_by, parallel}
use Rattle.cw_tree.specs.Shape.{IsTree}
use Rattle.cw_tree.proofs.Lists.{In, any_in}
use Rattle.cw_tree.proofs.Members.{all_of}
use Rattle.cw_tree.proofs.Ahead.{distinct}
use Rattle.cw_tree.proofs.Walks.Ancestors.{root_ancestor}
use Rattle.cw_tree.proofs.InOrder.DepthFirst.{OrdersChildren, by_number}
use Rattle.cw_tree.proofs.InOrder.Visits.{beneath, walk_once, walk_all}
use Rattle.cw_sp.specs.Orders.{mirrored, english, hebrew, stands_before, is_leaf}
use Rattle.cw_sp.specs.Lines.{IsWalk, KeepsLeaves}
use Rattle.cw_sp.specs.InMemory.{ArePairs}
use Rattle.cw_sp.specs.declared.pairs.Pairs.TheInside.{Inside}
use Rattle.cw_sp.proofs.Lines.{element_there, elements_stand}
use Rattle.cw_sp.proofs.Orders.{by_mirror, leaf_there, leaves_by_orders}

module _ (t : List Node) (r : IsRooted t) (some : 0 < length t) (order : ℕ → List ℕ) (o : OrdersChildren t order) where
  abbrev visited : List ℕ
  visited = walk_by order (length t) 0

  there : (v : ℕ) → In v visited → v < length t
  there v i = (beneath t r order o (length t) 0 v some i).0

  few : length visited ≤ length t
  few =
      length-le_from_distinct_below visited (length t) (distinct visited (walk_once t r order o (length t) 0 some))
      (λ q h. let z = any_in (nat_eq q) visited h in let low : z.0 < length t = there z.0 z.1 in let e : q ≡ z.0 = eqb-true q z.0 z.2 in omega arith)

  pub is_walk : IsWalk t visited
  is_walk = record { there = all_of (λ n. n < length t) visited there; once = distinct visited (walk_once t r order o (length t) 0 some); few = few }

  pub all_visited : (v : ℕ) → v < length t → In v visited
  all_visited v h = walk_all t r order o (length t) 0 v (omega arith) h (root_ancestor t r v h)

pub english_walk : (t : List Node) → IsTree t → IsWalk t (english t)
english_walk t w = is_walk t w.rooted w.some (children t) (by_number t)

pub hebrew_walk : (t : List Node) → IsTree t → IsWalk t (hebrew t)
hebrew_walk t w = is_walk t w.rooted w.some (mirrored t) (by_mirror t w)

unequal : (a b : Bool) → not (beq a b) ≡ cond a (not b) b
unequal true true = refl
unequal true false = refl
unequal false true = refl
unequal false false = refl

as_told : (a : Bool) (m n : ℕ) → (a ≡ true → m < n) → (m < n → a ≡ true) → a ≡ nat_lt m n
as_told a m n to back = elim (cases_Bool a) [
  | inl e ↦ e ∙ sym (lt-ltb m n (to e))
  | inr e ↦ e ∙ sym (false_from_ne_true (nat_lt m n) (λ f. cc (e, back (ltb-true m n f))))
]

module _ (t : List Node) (w : IsTree t) (u v : ℕ) (leaf : is_leaf t u ≡ true) (other : is_leaf t v ≡ true) where
  -- a line tells which leaf stands first
  module _ (order : ℕ → List ℕ) (o : OrdersChildren t order) (list elements : List ℕ) (k : KeepsLeaves t (walk_by order (length t) 0) list elements) where
    abbrev in_walk : ℕ → Type 0
    in_walk n = In n (walk_by order (length t) 0)

    u_in : in_walk u
    u_in = all_visited t w.rooted w.some order o u (leaf_there t u leaf)

    v_in : in_walk v
    v_in = all_visited t w.rooted w.some order o v (leaf_there t v other)

    first_low : u < length elements
    first_low = let low = leaf_there t u leaf in omega (arith, k.nodes)

    second_low : v < length elements
    second_low = let low = leaf_there t v other in omega (arith, k.nodes)

    first_there : Contains list (slice_index elements u)
    first_there = element_there t (walk_by order (length t) 0) list elements k u u_in leaf

    second_there : Contains list (slice_index elements v)
    second_there = element_there t (walk_by order (length t) 0) list elements k v v_in other

    line_tells : (a : Bool) → (IsTrue a ↔ (position list (slice_index elements u) < position list (slice_index elements v))) → a ≡ stands_before (walk_by order (length t) 0) u v
    line_tells a h =
        as_told a (position list (slice_index elements u)) (position list (slice_index elements v)) h.0 h.1
        ∙ elements_stand t (walk_by order (length t) 0) list elements k u v u_in v_in leaf other

  -- the leaves are parallel if the lines differ
  lines_tell : (a b : Bool) → a ≡ stands_before (english t) u v → b ≡ stands_before (hebrew t) u v → not (beq a b) ≡ parallel t u v
  lines_tell a b e h =
      unequal a b
      ∙ ap (λ c. cond c (not b) b) e
      ∙ ap (λ c. cond (stands_before (english t) u v) (not c) c) h
      ∙ sym (leaves_by_orders t w u v leaf other)

-- ## Two leaves of pairs

-- what a line has of leaves u and v
pub record HasLeaves (t : List Node) (u v : ℕ) (order : ℕ → List ℕ) (list elements : List ℕ) : Type 0 where
  pub first_low : u < length elements
  pub second_low : v < length elements
  pub first_there : Contains list (slice_index elements u)
  pub second_there : Contains list (slice_index elements v)
  pub tells : (a : Bool) → (IsTrue a ↔ (position list (slice_index elements u) < position list (slice_index elements v))) → a ≡ stands_before (walk_by order (length t) 0) u v

-- what both lines have of them
pub record HaveLeaves (p : Inside) (u v : ℕ) : Type 0 where
  pub in_english : HasLeaves p.tree.now u v (children p.tree.now) p.english.list.elements p.english.elements.items
  pub in_hebrew : HasLeaves p.tree.now u v (mirrored p.tree.now) p.hebrew.list.elements p.hebrew.elements.items
  pub tell : (a b : Bool) → a ≡ stands_before (english p.tree.now) u v → b ≡ stands_before (hebrew p.tree.now) u v → not (beq a b) ≡ parallel p.tree.now u v

pub have_leaves : (p : Inside) → ArePairs p → (t : List Node) → p.tree.now ≡ t → (u v : ℕ) → is_leaf t u ≡ true → is_leaf t v ≡ true → HaveLeaves p u v
have_leaves p w t same u v leaf other =
    let s = p.tree.now in
    let first : is_leaf s u ≡ true = ap (λ (x : List Node). is_leaf x u) same ∙ leaf in
    let second : is_leaf s v ≡ true = ap (λ (x : List Node). is_leaf x v) same ∙ other in
    let has : (order : ℕ → List ℕ) → OrdersChildren s order → (list elements : List ℕ) → KeepsLeaves s (walk_by order (length s) 0) list elements → HasLeaves s u v order list elements =
    λ order o list elements k. record {
      first_low = first_low s w.tree u v first second order o list elements k;
      second_low = second_low s w.tree u v first second order o list elements k;
      first_there = first_there s w.tree u v first second order o list elements k;
      second_there = second_there s w.tree u v first second order o list elements k;
      tells = line_tells s w.tree u v first second order o list elements k;
    } in
    record {
      in_english = has (children s) (by_number s) p.english.list.elements p.english.elements.items w.english;
      in_hebrew = has (mirrored s) (by_mirror s w.tree) p.hebrew.list.elements p.hebrew.elements.items w.hebrew;
      tell = lines_tell s w.tree u v first second;
    }
