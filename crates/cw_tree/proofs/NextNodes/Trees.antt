-- A tree stays a computation tree as nodes are made at places and blocks are closed.
use Rattle.std.proofs.Common.{◌≡◌, ℕ, suc, ◌<◌, ◌≤◌, List, [], ◌∷◌, ◌++◌, length, refl, ap, sym, ◌∙◌, arith, Bool, true, false, cond, Option, Some, None, inl, inr, subst, nat_eq, nat_lt, append_assoc, append-nil}
use Rattle.std.specs.Prelude.{◌&&◌, ◌||◌, IsTrue, filter, slice_get}
use Rattle.std.proofs.lemmas.Bool.{and_parts, and_from, or_cases, or_left, or_right, ltb-true, eqb-true, eq-eqb, ne_eqb, lt-ltb, false_from_ne_true}
use Rattle.std.proofs.lemmas.List.Elements.{filter-append}
use Rattle.cw_tree.specs.declared.node.Node.{Node}
use Rattle.cw_tree.specs.declared.node.Kind.{Kind}
use Rattle.cw_tree.specs.declared.node.Kind.TheVariants.{Strand, Fork, Block, Read, Write, Out, Tried}
use Rattle.cw_tree.specs.declared.node.BlockState.{BlockState}
use Rattle.cw_tree.specs.Nodes.{passes, is_node, is_strand_kind, is_fork_kind, is_block_kind, parent_of, is_strand, is_fork, is_block, all_nodes, fresh_node, closed}
use Rattle.cw_tree.specs.Walks.{IsRooted}
use Rattle.cw_tree.specs.Series.{children}
use Rattle.cw_tree.specs.Shape.{IsTree}
use Rattle.cw_tree.specs.NextNodes.{fork_nodes}
use Rattle.cw_tree.proofs.Lists.{at_or_before}
use Rattle.cw_tree.proofs.Members.{in_below, filter_same, below_none}
use Rattle.cw_tree.proofs.Walks.There.{node_there}
use Rattle.cw_tree.proofs.NextNodes.Growing.{get_append, length_more, node_new, number_new, node_grown, number_grown, rooted_more, all_nodes_more}
use Rattle.cw_tree.proofs.NextNodes.Closing.{length_closed, node_closed, number_closed, same_closed, rooted_closed, all_nodes_closed}

-- what holds of each member of a list, and of what comes behind, by their places
pub each_more : {X : Type 0} (xs : List X) (x : X) (P : ℕ → Type 0) → ((n : ℕ) → n < length xs → P n) → P (length xs) → (n : ℕ) → n < length (xs ++ x ∷ []) → P n
each_more xs x P old new n h = elim (at_or_before n (length xs) (omega (arith, length_more xs x))) [ inl l ↦ old n l | inr e ↦ subst P e new ]

-- ## Children

abbrev pub is_child : List Node → ℕ → ℕ → Bool
is_child t q m = nat_lt 0 m && nat_eq (parent_of t m) q

pub children_more : (t : List Node) (x : Node) (q : ℕ) → 0 < length t → children (t ++ x ∷ []) q ≡ children t q ++ cond (nat_eq x.parent q) (length t ∷ []) []
children_more t x q some =
    let u = t ++ x ∷ [] in
    let new : is_child u q (length t) ≡ nat_eq x.parent q = ap (λ k. nat_lt 0 (length t) && nat_eq k q) (number_new t x (λ y. y.parent)) ∙ ap (λ b. b && nat_eq x.parent q) (lt-ltb 0 (length t) some) in
    ap (filter (is_child u q)) (all_nodes_more t x)
    ∙ filter-append (is_child u q) (all_nodes t) (length t ∷ [])
    ∙ ap (λ ns. ns ++ filter (is_child u q) (length t ∷ [])) (filter_same (is_child u q) (is_child t q) (all_nodes t) (λ m i. ap (λ k. nat_lt 0 m && nat_eq k q) (number_grown t (x ∷ []) (λ y. y.parent) m (in_below m (length t) i))))
    ∙ ap (λ b. children t q ++ cond b (length t ∷ []) []) new

-- a node that is not there yet has no children
pub children_none : (t : List Node) → IsRooted t → (q : ℕ) → length t ≤ q → children t q ≡ []
children_none t r q h =
    below_none (is_child t q) 0 (length t) (omega arith) (λ m a l.
    false_from_ne_true (is_child t q m) (λ e.
    let z = and_parts (nat_lt 0 m) (nat_eq (parent_of t m) q) e in
    let low : parent_of t m < m = r m (ltb-true 0 m z.0) l in
    omega (arith, eqb-true (parent_of t m) q z.1)))

-- ## Kinds exclude each other

pub only_fork : (t : List Node) (n : ℕ) → is_fork t n ≡ true → (is_strand t n || is_block t n) ≡ false
only_fork t n e = by (slice_get t n) e where
  kinds : (k : Kind) → is_fork_kind k ≡ true → (is_strand_kind k || is_block_kind k) ≡ false
  kinds Fork f = refl
  kinds Strand f = absurd (cc f)
  kinds Block f = absurd (cc f)
  kinds (Read c v) f = absurd (cc f)
  kinds (Write c v) f = absurd (cc f)
  kinds (Out v) f = absurd (cc f)
  kinds (Tried c) f = absurd (cc f)
  kinds _ f = absurd (cc f)

  by : (o : Option Node) → passes (λ x. is_fork_kind x.kind) o ≡ true → (passes (λ x. is_strand_kind x.kind) o || passes (λ x. is_block_kind x.kind) o) ≡ false
  by None f = absurd (cc f)
  by (Some x) f = kinds x.kind f

pub no_fork : (t : List Node) (n : ℕ) → (is_strand t n || is_block t n) ≡ true → is_fork t n ≡ false
no_fork t n e = false_from_ne_true (is_fork t n) (λ f. absurd (cc (e, only_fork t n f)))

-- a node that may have children
abbrev pub may_hold : List Node → ℕ → Bool
may_hold t n = is_strand t n || is_fork t n || is_block t n

pub holds_here : (t : List Node) (p : ℕ) → (is_strand t p || is_block t p) ≡ true → may_hold t p ≡ true
holds_here t p e =
    elim (or_cases (is_strand t p) (is_block t p) e) [
      | inl f ↦ or_left (is_strand t p || is_fork t p) (is_block t p) (or_left (is_strand t p) (is_fork t p) f)
      | inr f ↦ or_right (is_strand t p || is_fork t p) (is_block t p) f
    ]

-- all that makes a computation tree, but that each fork has two strands
pub record IsHung (t : List Node) : Type 0 where
  pub some : 0 < length t
  pub rooted : IsRooted t
  pub root : IsTrue (is_strand t 0)
  pub strands : (s : ℕ) → s < length t → 0 < s → IsTrue (is_strand t s) → IsTrue (is_fork t (parent_of t s))
  pub parents : (n : ℕ) → n < length t → 0 < n → IsTrue (may_hold t (parent_of t n))

pub hung : (t : List Node) → IsTree t → IsHung t
hung t s = record { some = s.some; rooted = s.rooted; root = s.root; strands = s.strands; parents = s.parents }

-- ## One node more

module _ (t : List Node) (x : Node) where
  abbrev u : List Node
  u = t ++ x ∷ []

  kept : (g : Kind → Bool) (n : ℕ) → n < length t → is_node (λ y. g y.kind) u n ≡ is_node (λ y. g y.kind) t n
  kept g = node_grown t (x ∷ []) (λ y. g y.kind)

  new_is : (g : Kind → Bool) → is_node (λ y. g y.kind) u (length t) ≡ g x.kind
  new_is g = node_new t x (λ y. g y.kind)

  up : (n : ℕ) → n < length t → parent_of u n ≡ parent_of t n
  up = number_grown t (x ∷ []) (λ y. y.parent)

  up_new : parent_of u (length t) ≡ x.parent
  up_new = number_new t x (λ y. y.parent)

  holds_kept : (n : ℕ) → n < length t → may_hold u n ≡ may_hold t n
  holds_kept n h = ap (λ o. passes (λ y. is_strand_kind y.kind) o || passes (λ y. is_fork_kind y.kind) o || passes (λ y. is_block_kind y.kind) o) (get_append t (x ∷ []) n h)

  pub hung_more : IsHung t → x.parent < length t → may_hold t x.parent ≡ true → (is_strand_kind x.kind ≡ true → is_fork t x.parent ≡ true) → IsHung u
  hung_more s there holds strand = record {
    some = omega (arith, length_more t x);
    rooted = rooted_more t x s.rooted there;
    root = kept is_strand_kind 0 s.some ∙ s.root;
    strands =
        each_more t x (λ n. 0 < n → is_strand u n ≡ true → is_fork u (parent_of u n) ≡ true)
        (λ n h g e. let low : parent_of t n < n = s.rooted n g h in ap (is_fork u) (up n h) ∙ kept is_fork_kind (parent_of t n) (omega arith) ∙ s.strands n h g (sym (kept is_strand_kind n h) ∙ e))
        (λ g e. ap (is_fork u) up_new ∙ kept is_fork_kind x.parent there ∙ strand (sym (new_is is_strand_kind) ∙ e));
    parents =
        each_more t x (λ n. 0 < n → may_hold u (parent_of u n) ≡ true)
        (λ n h g. let low : parent_of t n < n = s.rooted n g h in ap (may_hold u) (up n h) ∙ holds_kept (parent_of t n) (omega arith) ∙ s.parents n h g)
        (λ g. ap (may_hold u) up_new ∙ holds_kept x.parent there ∙ holds);
  }

-- a node that is neither a strand nor a fork
pub tree_more : (t : List Node) (p : ℕ) (kind : Kind) (stamp : ℕ) → IsTree t → p < length t → (is_strand t p || is_block t p) ≡ true → is_strand_kind kind ≡ false → is_fork_kind kind ≡ false → IsTree (t ++ fresh_node p kind stamp ∷ [])
tree_more t p kind stamp s there place no_strand other =
    let x = fresh_node p kind stamp in
    let v = t ++ x ∷ [] in
    let w = hung_more t x (hung t s) there (holds_here t p place) (λ e. absurd (cc (e, no_strand))) in
    record {
      some = w.some;
      rooted = w.rooted;
      root = w.root;
      forks =
          each_more t x (λ f. is_fork v f ≡ true → (l r : ℕ) × (children v f ≡ l ∷ r ∷ []) × IsTrue (is_strand v l && is_strand v r))
          (λ f h e.
          let fork : is_fork t f ≡ true = sym (kept t x is_fork_kind f h) ∙ e in
          let (l, r, these, strands) = s.forks f h fork in
          let apart : nat_eq p f ≡ false = ne_eqb p f (λ q. absurd (cc (no_fork t p place, fork, ap (is_fork t) q))) in
          let both = and_parts (is_strand t l) (is_strand t r) strands in (
            l,
            r,
            children_more t x f s.some ∙ ap (λ b. children t f ++ cond b (length t ∷ []) []) apart ∙ ap (λ ns. ns ++ []) these,
            and_from (is_strand v l) (is_strand v r) (kept t x is_strand_kind l (node_there (λ y. is_strand_kind y.kind) t l both.0) ∙ both.0) (kept t x is_strand_kind r (node_there (λ y. is_strand_kind y.kind) t r both.1) ∙ both.1),
          ))
          (λ e. absurd (cc (e, new_is t x is_fork_kind, other)));
      strands = w.strands;
      parents = w.parents;
    }

-- ## A fork with its strands

module _ (t : List Node) (p stamp : ℕ) (s : IsTree t) (there : p < length t) (place : (is_strand t p || is_block t p) ≡ true) where
  abbrev n : ℕ
  n = length t

  abbrev one : List Node
  one = t ++ fresh_node p Fork stamp ∷ []

  abbrev two : List Node
  two = one ++ fresh_node n Strand 0 ∷ []

  abbrev three : List Node
  three = two ++ fresh_node n Strand 0 ∷ []

  pub in_turn : t ++ fork_nodes n p stamp ≡ three
  in_turn = sym (append_assoc one (fresh_node n Strand 0 ∷ []) (fresh_node n Strand 0 ∷ []) ∙ append_assoc t (fresh_node p Fork stamp ∷ []) (fresh_node n Strand 0 ∷ fresh_node n Strand 0 ∷ []))

  len_one : length one ≡ suc n
  len_one = length_more t (fresh_node p Fork stamp)

  len_two : length two ≡ suc (suc n)
  len_two = length_more one (fresh_node n Strand 0) ∙ ap suc len_one

  fork_one : is_fork one n ≡ true
  fork_one = new_is t (fresh_node p Fork stamp) is_fork_kind

  fork_two : is_fork two n ≡ true
  fork_two = kept one (fresh_node n Strand 0) is_fork_kind n (omega (arith, len_one)) ∙ fork_one

  may_fork : (v : List Node) → is_fork v n ≡ true → may_hold v n ≡ true
  may_fork v e = or_left (is_strand v n || is_fork v n) (is_block v n) (or_right (is_strand v n) (is_fork v n) e)

  pub hung_one : IsHung one
  hung_one = hung_more t (fresh_node p Fork stamp) (hung t s) there (holds_here t p place) (λ e. absurd (cc e))

  pub hung_two : IsHung two
  hung_two = hung_more one (fresh_node n Strand 0) hung_one (omega (arith, len_one)) (may_fork one fork_one) (λ e. fork_one)

  hung_three : IsHung three
  hung_three = hung_more two (fresh_node n Strand 0) hung_two (omega (arith, len_two)) (may_fork two fork_two) (λ e. fork_two)

  -- the children of the nodes that were there, but p
  same_children : (f : ℕ) → nat_eq p f ≡ false → nat_eq n f ≡ false → children three f ≡ children t f
  same_children f off new =
      children_more two (fresh_node n Strand 0) f (omega (arith, len_two))
      ∙ ap (λ b. children two f ++ cond b (length two ∷ []) []) new
      ∙ append-nil (children two f)
      ∙ children_more one (fresh_node n Strand 0) f (omega (arith, len_one))
      ∙ ap (λ b. children one f ++ cond b (length one ∷ []) []) new
      ∙ append-nil (children one f)
      ∙ children_more t (fresh_node p Fork stamp) f s.some
      ∙ ap (λ b. children t f ++ cond b (n ∷ []) []) off
      ∙ append-nil (children t f)

  new_children : children three n ≡ suc n ∷ suc (suc n) ∷ []
  new_children =
      children_more two (fresh_node n Strand 0) n (omega (arith, len_two))
      ∙ ap (λ b. children two n ++ cond b (length two ∷ []) []) (eq-eqb n n refl)
      ∙ ap (λ ns. ns ++ length two ∷ [])
      (children_more one (fresh_node n Strand 0) n (omega (arith, len_one))
      ∙ ap (λ b. children one n ++ cond b (length one ∷ []) []) (eq-eqb n n refl)
      ∙ ap (λ ns. ns ++ length one ∷ []) (children_more t (fresh_node p Fork stamp) n s.some ∙ ap (λ b. children t n ++ cond b (n ∷ []) []) (ne_eqb p n (λ q. omega arith)) ∙ ap (λ ns. ns ++ []) (children_none t s.rooted n (omega arith))))
      ∙ ap (λ k. k ∷ length two ∷ []) len_one
      ∙ ap (λ k. suc n ∷ k ∷ []) len_two

  strand_one : is_strand three (suc n) ≡ true
  strand_one =
      kept two (fresh_node n Strand 0) is_strand_kind (suc n) (omega (arith, len_two))
      ∙ ap (is_strand two) (sym len_one)
      ∙ new_is one (fresh_node n Strand 0) is_strand_kind

  strand_two : is_strand three (suc (suc n)) ≡ true
  strand_two = ap (is_strand three) (sym len_two) ∙ new_is two (fresh_node n Strand 0) is_strand_kind

  strand_kept : (m : ℕ) → is_strand t m ≡ true → is_strand three m ≡ true
  strand_kept m e =
      let h = node_there (λ y. is_strand_kind y.kind) t m e in
      kept two (fresh_node n Strand 0) is_strand_kind m (omega (arith, len_two)) ∙ kept one (fresh_node n Strand 0) is_strand_kind m (omega (arith, len_one)) ∙ kept t (fresh_node p Fork stamp) is_strand_kind m h ∙ e

  fork_old : (f : ℕ) → f < n → is_fork three f ≡ true → is_fork t f ≡ true
  fork_old f h e =
      sym (kept t (fresh_node p Fork stamp) is_fork_kind f h) ∙ sym (kept one (fresh_node n Strand 0) is_fork_kind f (omega (arith, len_one))) ∙ sym (kept two (fresh_node n Strand 0) is_fork_kind f (omega (arith, len_two))) ∙ e

  abbrev HasTwo : ℕ → Type 0
  HasTwo f = is_fork three f ≡ true → (l r : ℕ) × (children three f ≡ l ∷ r ∷ []) × IsTrue (is_strand three l && is_strand three r)

  two_old : (f : ℕ) → f < n → HasTwo f
  two_old f h e =
      let fork = fork_old f h e in
      let (l, r, these, strands) = s.forks f h fork in
      let both = and_parts (is_strand t l) (is_strand t r) strands in (
        l,
        r,
        same_children f (ne_eqb p f (λ q. absurd (cc (no_fork t p place, fork, ap (is_fork t) q)))) (ne_eqb n f (λ q. omega arith)) ∙ these,
        and_from (is_strand three l) (is_strand three r) (strand_kept l both.0) (strand_kept r both.1),
      )

  pub forked_tree : IsTree three
  forked_tree =
      let w = hung_three in
      record {
        some = w.some;
        rooted = w.rooted;
        root = w.root;
        forks = λ f h e. each_more two (fresh_node n Strand 0) HasTwo
            (λ f h. each_more one (fresh_node n Strand 0) HasTwo (λ f h. each_more t (fresh_node p Fork stamp) HasTwo two_old (λ e. (suc n, suc (suc n), new_children, and_from (is_strand three (suc n)) (is_strand three (suc (suc n))) strand_one strand_two)) f h)
            (λ e. absurd (cc (e, ap (is_fork three) len_one, kept two (fresh_node n Strand 0) is_fork_kind (suc n) (omega (arith, len_two)), ap (is_fork two) (sym len_one), new_is one (fresh_node n Strand 0) is_fork_kind))) f h)
            (λ e. absurd (cc (e, new_is two (fresh_node n Strand 0) is_fork_kind))) f h e;
        strands = w.strands;
        parents = w.parents;
      }

-- ## A closed block

pub tree_closed : (t : List Node) → IsTree t → (b : ℕ) (state : BlockState) (end : ℕ) → IsTree (closed t b state end)
tree_closed t s b state end =
    let v = closed t b state end in
    let len : length v ≡ length t = length_closed t b state end in
    let kinds = λ (g : Kind → Bool) (n : ℕ). node_closed t b state end (λ y. g y.kind) (λ y. refl) n in
    let up = number_closed t b state end (λ y. y.parent) (λ y. refl) in
    let holds = λ (n : ℕ). same_closed t b state end (λ o. passes (λ y. is_strand_kind y.kind) o || passes (λ y. is_fork_kind y.kind) o || passes (λ y. is_block_kind y.kind) o) (λ y. refl) n in
    record {
      some = (let some = s.some in omega arith);
      rooted = rooted_closed t b state end s.rooted;
      root = kinds is_strand_kind 0 ∙ s.root;
      forks = λ f h e.
          (let (l, r, these, strands) = s.forks f (omega arith) (sym (kinds is_fork_kind f) ∙ e) in
          let both = and_parts (is_strand t l) (is_strand t r) strands in (
            l,
            r,
            ap (filter (is_child v f)) (all_nodes_closed t b state end) ∙ filter_same (is_child v f) (is_child t f) (all_nodes t) (λ m i. ap (λ q. nat_lt 0 m && nat_eq q f) (up m)) ∙ these,
            and_from (is_strand v l) (is_strand v r) (kinds is_strand_kind l ∙ both.0) (kinds is_strand_kind r ∙ both.1),
          ));
      strands = λ n h p e. ap (is_fork v) (up n) ∙ kinds is_fork_kind (parent_of t n) ∙ s.strands n (omega arith) p (sym (kinds is_strand_kind n) ∙ e);
      parents = λ n h p. ap (may_hold v) (up n) ∙ holds (parent_of t n) ∙ s.parents n (omega arith) p;
    }
