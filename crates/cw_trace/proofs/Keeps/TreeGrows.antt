-- A tree with one node more that is no strand and no fork, and a tree with one fork more, is a tree.
use Rattle.std.proofs.Common.{◌≡◌, ℕ, zero, suc, ◌+◌, ◌-◌, ◌<◌, ◌≤◌, List, [], ◌∷◌, ◌++◌, length, refl, ap, sym, ◌∙◌, arith, Bool, true, false, Some, nat_eq, nat_lt, inl, inr, subst, length-append}
use Rattle.std.specs.Prelude.{◌⊎◌, ◌&&◌, ◌||◌, IsTrue}
use Rattle.std.specs.List.{slice_get}
use Rattle.std.proofs.lemmas.Bool.{ne_eqb, eq-eqb, lt-ltb, and_right, and_parts, and_from, or_left, or_right, cases_eq}
use Rattle.cw_tree.specs.declared.node.Node.{Node}
use Rattle.cw_tree.specs.declared.node.Kind.TheVariants.{Strand, Fork}
use Rattle.cw_tree.specs.Nodes.{parent_of, is_fork, is_strand, is_block, is_strand_kind, is_fork_kind, is_block_kind, number_in, passes, fresh_node, below}
use Rattle.cw_tree.specs.Walks.{IsRooted}
use Rattle.cw_tree.specs.Series.{children}
use Rattle.cw_tree.specs.Shape.{IsTree}
use Rattle.cw_tree.proofs.NextNodes.Growing.{node_grown, number_grown}
use Rattle.cw_tree.proofs.Members.{in_below, filter_same, below_none, below_last}
use Rattle.cw_trace.specs.Columns.{ColumnTable}
use Rattle.cw_trace.specs.Running.{IsOrdered, MayGoOn}
use Rattle.cw_tree.specs.NextNodes.{fork_nodes}
use Rattle.cw_tree.proofs.Walks.There.{fork_there, strand_there}
use Rattle.cw_tree.proofs.NodeKinds.{pending_block}
use Rattle.cw_trace.proofs.Keeps.Forking.{get_right}
use Rattle.cw_trace.proofs.Segments.Lines.{le_or_lt}

-- a node that may have children in series
abbrev pub MayHaveChildren : List Node → ℕ → Type 0
MayHaveChildren t p = (is_fork t p ≡ false) × ((is_strand t p || is_block t p) ≡ true)

-- where a strand may go on is a strand or a block
pub may_have : (c : ColumnTable) (t : List Node) (cuts joins : List ℕ) (is_open : ℕ → Bool) → IsOrdered c t cuts joins is_open → (p : ℕ) → MayGoOn c t cuts is_open p → MayHaveChildren t p
may_have c t cuts joins is_open o p m = (
  m.no_fork,
  elim (o.kinds p m.there m.opened) [
    | inl e ↦ or_left (is_strand t p) (is_block t p) e
    | inr w ↦ elim w [ inl e ↦ absurd (cc (e, m.no_fork)) | inr e ↦ or_right (is_strand t p) (is_block t p) (pending_block t p e) ]
  ],
)

module _ (t s : List Node) (tr : IsTree t) where
  abbrev grown : List Node
  grown = t ++ s

  -- the new nodes are children of p or of new nodes
  abbrev pub NewParents : ℕ → Type 0
  NewParents p = (m : ℕ) → length t ≤ m → m < length grown → (parent_of grown m ≡ p) ⊎ ((length t ≤ parent_of grown m) × (parent_of grown m < m))

  longer : length t ≤ length grown
  longer = omega (arith, length-append t s)

  module _ (p : ℕ) (hp : p < length t) (no_fork : is_fork t p ≡ false) (new : NewParents p) where
    pub rooted_grown : IsRooted grown
    rooted_grown m q h = elim (le_or_lt (length t) m) [
      | inr l ↦ (let low : parent_of t m < m = tr.rooted m q l in omega (arith, number_grown t s (λ x. x.parent) m l))
      | inl l ↦ elim (new m l h) [ inl e ↦ omega (arith, e) | inr z ↦ z.1 ]
    ]

    -- an old fork keeps its children
    pub children_grown : (f : ℕ) → f < length t → is_fork t f ≡ true → children grown f ≡ children t f
    children_grown f h e =
        below_none (λ m. nat_lt 0 m && nat_eq (parent_of grown m) f) (length t) (length grown) longer (λ m l k. and_right (nat_lt 0 m) (nat_eq (parent_of grown m) f) (ne_eqb (parent_of grown m) f (λ q. other m l k q (new m l k))))
        ∙ filter_same (λ m. nat_lt 0 m && nat_eq (parent_of grown m) f) (λ m. nat_lt 0 m && nat_eq (parent_of t m) f) (below (length t)) (λ m i.
        ap (λ x. nat_lt 0 m && nat_eq x f) (number_grown t s (λ x. x.parent) m (in_below m (length t) i))) where
          other : (m : ℕ) → length t ≤ m → m < length grown → parent_of grown m ≡ f → (parent_of grown m ≡ p) ⊎ ((length t ≤ parent_of grown m) × (parent_of grown m < m)) → ⊥
          other m l k q (inl z) = cc (ap (is_fork t) (sym q ∙ z), e, no_fork)
          other m l k q (inr z) = omega (arith, q, z.0)

    pub fork_grown : (f : ℕ) → f < length t → is_fork t f ≡ true → (l r : ℕ) × (children grown f ≡ l ∷ r ∷ []) × IsTrue (is_strand grown l && is_strand grown r)
    fork_grown f h e =
        let w = tr.forks f h e in
        let both = and_parts (is_strand t w.0) (is_strand t w.1) w.3 in
        (w.0, w.1, children_grown f h e ∙ w.2, and_from (is_strand grown w.0) (is_strand grown w.1) (stays w.0 both.0) (stays w.1 both.1)) where
          stays : (x : ℕ) → is_strand t x ≡ true → is_strand grown x ≡ true
          stays x q = node_grown t s (λ y. is_strand_kind y.kind) x (strand_there t x q) ∙ q

    -- an old node goes on to be a node that may have children
    pub parents_grown : (x : ℕ) → x < length t → (is_strand t x || is_fork t x || is_block t x) ≡ true → (is_strand grown x || is_fork grown x || is_block grown x) ≡ true
    parents_grown x h e =
        ap (λ b. b || is_fork grown x || is_block grown x) (node_grown t s (λ y. is_strand_kind y.kind) x h)
        ∙ ap (λ b. is_strand t x || b || is_block grown x) (node_grown t s (λ y. is_fork_kind y.kind) x h)
        ∙ ap (λ b. is_strand t x || is_fork t x || b) (node_grown t s (λ y. is_block_kind y.kind) x h)
        ∙ e

    pub strand_grown : (x : ℕ) → x < length t → 0 < x → is_strand grown x ≡ true → is_fork grown (parent_of grown x) ≡ true
    strand_grown x h q e =
        let up = tr.strands x h q (sym (node_grown t s (λ y. is_strand_kind y.kind) x h) ∙ e) in
        ap (is_fork grown) (number_grown t s (λ y. y.parent) x h) ∙ node_grown t s (λ y. is_fork_kind y.kind) (parent_of t x) (fork_there t (parent_of t x) up) ∙ up

    pub parent_grown : (x : ℕ) → x < length t → 0 < x → (is_strand grown (parent_of grown x) || is_fork grown (parent_of grown x) || is_block grown (parent_of grown x)) ≡ true
    parent_grown x h q =
        let low : parent_of t x < x = tr.rooted x q h in
        ap (λ y. is_strand grown y || is_fork grown y || is_block grown y) (number_grown t s (λ y. y.parent) x h) ∙ parents_grown (parent_of t x) (omega arith) (tr.parents x h q)

no_fork_or : (a b d : Bool) → (a || d) ≡ true → (a || b || d) ≡ true
no_fork_or true b d e = refl
no_fork_or false true d e = refl
no_fork_or false false d e = e

module _ (t : List Node) (tr : IsTree t) (p : ℕ) (hp : p < length t) (may : MayHaveChildren t p) where
  -- one node more
  pub tree_one_more : (x : Node) → x.parent ≡ p → is_strand_kind x.kind ≡ false → is_fork_kind x.kind ≡ false → IsTree (t ++ x ∷ [])
  tree_one_more x under ns nf = record {
    some = omega (arith, new_length);
    rooted = rooted_grown t (x ∷ []) tr p hp may.0 new;
    root = node_grown t (x ∷ []) (λ y. is_strand_kind y.kind) 0 tr.some ∙ tr.root;
    forks = λ f h e. elim (which f h) [
      | inl l ↦ fork_grown t (x ∷ []) tr p hp may.0 new f l (sym (node_grown t (x ∷ []) (λ y. is_fork_kind y.kind) f l) ∙ e)
      | inr q ↦ absurd (cc (sym (ap (is_fork (t ++ x ∷ [])) q) ∙ e, ap (passes (λ y. is_fork_kind y.kind)) here ∙ nf))
    ];
    strands = λ z h q e. elim (which z h) [
      | inl l ↦ strand_grown t (x ∷ []) tr p hp may.0 new z l q e
      | inr w ↦ absurd (cc (sym (ap (is_strand (t ++ x ∷ [])) w) ∙ e, ap (passes (λ y. is_strand_kind y.kind)) here ∙ ns))
    ];
    parents = λ z h q. elim (which z h) [
      | inl l ↦ parent_grown t (x ∷ []) tr p hp may.0 new z l q
      | inr w ↦
          ap (λ y. is_strand (t ++ x ∷ []) y || is_fork (t ++ x ∷ []) y || is_block (t ++ x ∷ []) y) (ap (parent_of (t ++ x ∷ [])) w ∙ parent_here)
          ∙ parents_grown t (x ∷ []) tr p hp may.0 new p hp (no_fork_or (is_strand t p) (is_fork t p) (is_block t p) may.1)
    ];
  } where
    plus_zero : (n : ℕ) → n ≡ n + 0
    plus_zero n = omega arith

    new_length : length (t ++ x ∷ []) ≡ length t + 1
    new_length = length-append t (x ∷ [])

    here : slice_get (t ++ x ∷ []) (length t) ≡ Some x
    here = ap (slice_get (t ++ x ∷ [])) (plus_zero (length t)) ∙ get_right t (x ∷ []) 0

    parent_here : parent_of (t ++ x ∷ []) (length t) ≡ p
    parent_here = ap (number_in (λ y. y.parent)) here ∙ under

    which : (m : ℕ) → m < length (t ++ x ∷ []) → (m < length t) ⊎ (m ≡ length t)
    which m h = elim (le_or_lt (length t) m) [ inr l ↦ inl l | inl l ↦ inr (omega (arith, new_length)) ]

    new : NewParents t (x ∷ []) tr p
    new m l h = elim (which m h) [ inl s ↦ absurd (omega arith) | inr q ↦ inl (ap (parent_of (t ++ x ∷ [])) q ∙ parent_here) ]

  module _ (stamp : ℕ) where
    abbrev more : List Node
    more = fork_nodes (length t) p stamp

    abbrev u : List Node
    u = t ++ fork_nodes (length t) p stamp

    new_length : length u ≡ length t + 3
    new_length = length-append t more

    plus_zero : (n : ℕ) → n ≡ n + 0
    plus_zero n = omega arith

    here : slice_get u (length t) ≡ Some (fresh_node p Fork stamp)
    here = ap (slice_get u) (plus_zero (length t)) ∙ get_right t more 0

    strand_at : (j : ℕ) → 0 < j → j < 3 → slice_get u (length t + j) ≡ Some (fresh_node (length t) Strand 0)
    strand_at zero a b = absurd (omega arith)
    strand_at (suc zero) a b = get_right t more 1
    strand_at (suc (suc zero)) a b = get_right t more 2
    strand_at (suc (suc (suc j))) a b = absurd (omega arith)

    parent_here : parent_of u (length t) ≡ p
    parent_here = ap (number_in (λ y. y.parent)) here

    parent_strand : (j : ℕ) → 0 < j → j < 3 → parent_of u (length t + j) ≡ length t
    parent_strand j a b = ap (number_in (λ y. y.parent)) (strand_at j a b)

    which : (m : ℕ) → m < length u → (m < length t) ⊎ ((m ≡ length t) ⊎ ((j : ℕ) × (0 < j) × (j < 3) × (m ≡ length t + j)))
    which m h = elim (le_or_lt (length t) m) [
      | inr l ↦ inl l
      | inl l ↦ elim (cases_eq m (length t)) [ inl e ↦ inr (inl e) | inr n ↦ inr (inr (m - length t, omega (arith, n), omega (arith, new_length), omega arith)) ]
    ]

    new : NewParents t more tr p
    new m l h = elim (which m h) [
      | inl s ↦ absurd (omega arith)
      | inr w ↦ elim w [
        | inl q ↦ inl (ap (parent_of u) q ∙ parent_here)
        | inr z ↦ (let e = ap (parent_of u) z.3 ∙ parent_strand z.0 z.1 z.2 in let some : 0 < z.0 = z.1 in let at : m ≡ length t + z.0 = z.3 in inr (omega (arith, e), omega (arith, e)))
      ]
    ]

    fork_counts : (a b d : Bool) → d ≡ true → (a || d || b) ≡ true
    fork_counts true b d e = refl
    fork_counts false b true e = refl
    fork_counts false b false e = absurd (cc e)

    abbrev is_child : ℕ → Bool
    is_child m = nat_lt 0 m && nat_eq (parent_of u m) (length t)

    child_at : (j : ℕ) → 0 < j → j < 3 → is_child (length t + j) ≡ true
    child_at j a b = and_from (nat_lt 0 (length t + j)) (nat_eq (parent_of u (length t + j)) (length t)) (lt-ltb 0 (length t + j) (omega arith)) (eq-eqb (parent_of u (length t + j)) (length t) (parent_strand j a b))

    rooted_u : IsRooted u
    rooted_u = rooted_grown t more tr p hp may.0 new

    no_child : (m : ℕ) → 0 ≤ m → m < length t + 1 → is_child m ≡ false
    no_child zero a h = refl
    no_child (suc m) a h =
        and_right (nat_lt 0 (suc m)) (nat_eq (parent_of u (suc m)) (length t))
        (ne_eqb (parent_of u (suc m)) (length t) (λ e. let low : parent_of u (suc m) < suc m = rooted_u (suc m) (omega arith) (omega (arith, new_length)) in omega arith))

    children_here : children u (length t) ≡ (length t + 1) ∷ (length t + 2) ∷ []
    children_here =
        below_last is_child (length t + 2) (length u) (omega (arith, new_length)) (child_at 2 (omega arith) (omega arith)) (λ m a b. absurd (omega (arith, new_length)))
        ∙ ap (λ xs. xs ++ (length t + 2) ∷ []) (below_last is_child (length t + 1) (length t + 2) (omega arith) (child_at 1 (omega arith) (omega arith)) (λ m a b. absurd (omega arith)) ∙ ap (λ xs. xs ++ (length t + 1) ∷ []) (below_none is_child 0 (length t + 1) (omega arith) no_child))

    here_fork : (l r : ℕ) × (children u (length t) ≡ l ∷ r ∷ []) × IsTrue (is_strand u l && is_strand u r)
    here_fork = (
      length t + 1,
      length t + 2,
      children_here,
      and_from (is_strand u (length t + 1)) (is_strand u (length t + 2)) (ap (passes (λ y. is_strand_kind y.kind)) (strand_at 1 (omega arith) (omega arith))) (ap (passes (λ y. is_strand_kind y.kind)) (strand_at 2 (omega arith) (omega arith))),
    )

    -- one fork more
    pub tree_forked : IsTree u
    tree_forked = record {
      some = omega (arith, new_length);
      rooted = rooted_grown t more tr p hp may.0 new;
      root = node_grown t more (λ y. is_strand_kind y.kind) 0 tr.some ∙ tr.root;
      forks = λ f h e. elim (which f h) [
        | inl l ↦ fork_grown t more tr p hp may.0 new f l (sym (node_grown t more (λ y. is_fork_kind y.kind) f l) ∙ e)
        | inr q ↦ elim q [
          | inl z ↦ (let P : ℕ → Type 0 = λ f. (l r : ℕ) × (children u f ≡ l ∷ r ∷ []) × IsTrue (is_strand u l && is_strand u r) in subst P (sym z) here_fork)
          | inr z ↦ absurd (cc (sym (ap (is_fork u) z.3) ∙ e, ap (passes (λ y. is_fork_kind y.kind)) (strand_at z.0 z.1 z.2)))
        ]
      ];
      strands = λ x h q e. elim (which x h) [
        | inl l ↦ strand_grown t more tr p hp may.0 new x l q e
        | inr w ↦ elim w [
          | inl z ↦ absurd (cc (sym (ap (is_strand u) z) ∙ e, ap (passes (λ y. is_strand_kind y.kind)) here))
          | inr z ↦ ap (is_fork u) (ap (parent_of u) z.3 ∙ ap (number_in (λ y. y.parent)) (strand_at z.0 z.1 z.2)) ∙ ap (passes (λ y. is_fork_kind y.kind)) here
        ]
      ];
      parents = λ x h q. elim (which x h) [
        | inl l ↦ parent_grown t more tr p hp may.0 new x l q
        | inr w ↦ elim w [
          | inl z ↦
              ap (λ y. is_strand u y || is_fork u y || is_block u y) (ap (parent_of u) z ∙ parent_here)
              ∙ parents_grown t more tr p hp may.0 new p hp (no_fork_or (is_strand t p) (is_fork t p) (is_block t p) may.1)
          | inr z ↦
              ap (λ y. is_strand u y || is_fork u y || is_block u y) (ap (parent_of u) z.3 ∙ ap (number_in (λ y. y.parent)) (strand_at z.0 z.1 z.2))
              ∙ fork_counts (is_strand u (length t)) (is_block u (length t)) (is_fork u (length t)) (ap (passes (λ y. is_fork_kind y.kind)) here)
        ]
      ];
    }
