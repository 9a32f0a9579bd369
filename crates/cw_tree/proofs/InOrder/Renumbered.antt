-- The nodes in depth-first order are those of a tree again.
use Rattle.std.proofs.Common.{◌≡◌, ℕ, ◌+◌, ◌<◌, ◌≤◌, List, [], ◌∷◌, ◌++◌, length, map, get_or, set, take, refl, ap, sym, ◌∙◌, arith, Bool, inl, inr, nat_eq, Some}
use Rattle.std.specs.Prelude.{◌⊎◌, slice_get, option_map}
use Rattle.std.proofs.lemmas.Bool.{ne_eqb, cases_eq}
use Rattle.std.proofs.lemmas.Option.{slice_get-map, slice_get-get_or, get_or_from_slice_get}
use Rattle.std.proofs.lemmas.List.{length-map, length-set, get_or-set_same, get_or-set_other, get_or_default, map-append, take_more}
use Rattle.std.proofs.lemmas.List.Sums.{position_or_len_is}
use Rattle.cw_tree.specs.declared.node.Node.{Node}
use Rattle.cw_tree.specs.declared.node.Kind.{Kind}
use Rattle.cw_tree.specs.declared.node.Kind.TheVariants.{Strand}
use Rattle.cw_tree.specs.Nodes.{parent_of, is_strand, passes, number_in, is_strand_kind, all_nodes, fresh_node}
use Rattle.cw_tree.specs.Walks.{IsNumbered, IsRooted}
use Rattle.cw_tree.specs.Series.{depth_first}
use Rattle.cw_tree.specs.InOrder.{renamed, node_in_order, in_order, with_parent_renamed}
use Rattle.cw_tree.proofs.Lists.{length_map_below, get_map_below, map_below}
use Rattle.cw_tree.proofs.Walks.There.{node_there}
use Rattle.cw_tree.proofs.InOrder.Visits.{once, as_many, come_there, all_come, renamed_is, first_is, parent_earlier}
use Rattle.cw_tree.proofs.Members.{at_in, in_at}
use Rattle.cw_tree.proofs.Ahead.{apart_at}

-- a node of t by the code's steps
pub node_is : (t : List Node) (n : ℕ) (node : Node) (kind : Kind) (parent : ℕ) → slice_get t n ≡ Some node → kind ≡ node.kind → parent ≡ renamed t node.parent
    → record { parent = parent; kind = kind; state = node.state; stamp = node.stamp; end = node.end } ≡ node_in_order t n
node_is t n node kind parent e same up =
    let f : Kind → ℕ → Node = λ k p. record { parent = p; kind = k; state = node.state; stamp = node.stamp; end = node.end } in
    ap (λ k. f k parent) same ∙ ap (f node.kind) up ∙ sym (ap (with_parent_renamed t) (get_or_from_slice_get t n node (fresh_node 0 Strand 0) e))

-- one element more of a list that is made of another
pub map_take_more : {X Y : Type 0} (f : X → Y) (xs : List X) (i : ℕ) (d : X) → i < length xs → map f (take (i + 1) xs) ≡ map f (take i xs) ++ f (get_or xs i d) ∷ []
map_take_more f xs i d h = ap (map f) (take_more xs i d h) ∙ map-append f (take i xs) (get_or xs i d ∷ [])

-- the node that has number k in depth-first order
abbrev pub visited : List Node → ℕ → ℕ
visited t k = get_or (depth_first t) k 0

-- the first places were written
pub record Placed (t : List Node) (place : ℕ) (numbers : List ℕ) : Type 0 where
  pub len : length numbers ≡ length t
  pub done : (i : ℕ) → i < place → get_or numbers (visited t i) 0 ≡ i

module _ (t : List Node) (w : IsNumbered t) where
  pub some_node : 0 < length t
  some_node = node_there (λ x. is_strand_kind x.kind) t 0 w.root

  pub past_all : (n : ℕ) → length t ≤ n → renamed t n ≡ length t
  past_all n h =
      position_or_len_is (λ m. nat_eq m n) (depth_first t) (length (depth_first t)) 0 (omega arith)
      (λ k l. ne_eqb (visited t k) n (λ e. let low : visited t k < length t = come_there t w.rooted some_node (visited t k) (at_in (depth_first t) k l) in omega arith)) (λ l. absurd (omega arith))
      ∙ as_many t w.rooted some_node

  -- the new number of a node, by those of all nodes
  module _ (numbers : List ℕ) (n : ℕ) (e : numbers ≡ map (renamed t) (all_nodes t)) where
    pub as_many_numbers : length numbers ≡ length t
    as_many_numbers = ap length e ∙ length_map_below (renamed t) (length t)

    pub number_is : n < length numbers → get_or numbers n 0 ≡ renamed t n
    number_is h = ap (λ xs. get_or xs n 0) e ∙ get_map_below (renamed t) (length t) n 0 (omega (arith, as_many_numbers))

    pub past_is : length numbers ≤ n → length numbers ≡ renamed t n
    past_is h = as_many_numbers ∙ sym (past_all n (omega (arith, as_many_numbers)))

  pub visited_there : (k : ℕ) → k < length t → visited t k < length t
  visited_there k h = come_there t w.rooted some_node (visited t k) (at_in (depth_first t) k (omega (arith, as_many t w.rooted some_node)))

  pub new_length : length (in_order t) ≡ length t
  new_length = length-map (depth_first t) (node_in_order t) ∙ as_many t w.rooted some_node

  -- node k of the new tree
  pub new_at : (k : ℕ) → k < length t → slice_get (in_order t) k ≡ Some (node_in_order t (visited t k))
  new_at k h = slice_get-map (node_in_order t) (depth_first t) k ∙ ap (option_map (node_in_order t)) (slice_get-get_or (depth_first t) k 0 (omega (arith, as_many t w.rooted some_node)))

  pub old_at : (n : ℕ) → n < length t → slice_get t n ≡ Some (get_or t n (fresh_node 0 Strand 0))
  old_at n h = slice_get-get_or t n (fresh_node 0 Strand 0) h

  pub new_parent : (k : ℕ) → k < length t → parent_of (in_order t) k ≡ renamed t (parent_of t (visited t k))
  new_parent k h = ap (number_in (λ x. x.parent)) (new_at k h) ∙ sym (ap (λ o. renamed t (number_in (λ x. x.parent) o)) (old_at (visited t k) (visited_there k h)))

  -- what is said of a node, but of its parent, is said of it still
  pub new_node : (p : Node → Bool) → ((x : Node) → p (with_parent_renamed t x) ≡ p x) → (k : ℕ) → k < length t → passes p (slice_get (in_order t) k) ≡ passes p (slice_get t (visited t k))
  new_node p same k h = ap (passes p) (new_at k h) ∙ same (get_or t (visited t k) (fresh_node 0 Strand 0)) ∙ sym (ap (passes p) (old_at (visited t k) (visited_there k h)))

  pub new_rooted : IsRooted (in_order t)
  new_rooted k p h =
      let l : k < length t = omega (arith, new_length) in
      let z = parent_earlier t w.rooted some_node k p l in
      let e : parent_of (in_order t) k ≡ z.0 = new_parent k l ∙ sym (ap (renamed t) z.2) ∙ renamed_is t w.rooted some_node z.0 (omega (arith, z.1)) in
      omega (arith, z.1)

  pub in_order_numbered : IsNumbered (in_order t)
  in_order_numbered = record {
    root = new_node (λ x. is_strand_kind x.kind) (λ x. refl) 0 some_node ∙ ap (is_strand t) (first_is t w.rooted some_node) ∙ w.root;
    rooted = new_rooted;
    few = omega (arith, new_length, w.few);
  }

  pub placed_step : (place : ℕ) (numbers : List ℕ) → Placed t place numbers → place < length t → Placed t (place + 1) (set numbers (visited t place) place)
  placed_step place numbers p h = record {
    len = length-set numbers (visited t place) place ∙ p.len;
    done = λ i l. at i l (cases_eq i place);
  } where
    at : (i : ℕ) → i < place + 1 → (i ≡ place) ⊎ (i ≡ place → ⊥) → get_or (set numbers (visited t place) place) (visited t i) 0 ≡ i
    at i l (inl e) =
        ap (λ j. get_or (set numbers (visited t place) place) (visited t j) 0) e
        ∙ get_or-set_same numbers (visited t place) place 0 (omega (arith, p.len, visited_there place h)) ∙ sym e
    at i l (inr ne) =
        get_or-set_other numbers (visited t place) (visited t i) place 0 (λ e. apart_at (depth_first t) i place (once t w.rooted some_node) (omega arith) (omega (arith, as_many t w.rooted some_node)) e)
        ∙ p.done i (omega arith)

  pub placed_end : (place : ℕ) (numbers : List ℕ) → Placed t place numbers → length t ≤ place → numbers ≡ map (renamed t) (all_nodes t)
  placed_end place numbers p h =
      map_below (renamed t) numbers (length t) p.len (λ n d l.
      let z = in_at n (depth_first t) (all_come t w.rooted n l) in
      let low : z.0 < length t = omega (arith, z.1, as_many t w.rooted some_node) in
      get_or_default numbers n d 0 (omega (arith, p.len)) ∙ ap (λ m. get_or numbers m 0) (sym z.2) ∙ p.done z.0 (omega arith) ∙ sym (renamed_is t w.rooted some_node z.0 low) ∙ ap (renamed t) z.2)
