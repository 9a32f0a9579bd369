-- What each step of a run opens and shuts.
use Rattle.std.proofs.Common.{◌≡◌, ℕ, ◌+◌, ◌<◌, ◌≤◌, List, [], ◌∷◌, ◌++◌, length, refl, ap, sym, ◌∙◌, arith, Bool, true, false, Some, inl, inr, nat_lt, nat_eq, eq-eqb, length-append}
use Rattle.std.specs.Prelude.{◌⊎◌, ◌&&◌, ◌%◌, slice_get}
use Rattle.std.proofs.lemmas.Bool.{lt-ltb, cases_eq, ne_eqb, or_parts, or_from, false_from_ne_true}
use Rattle.cw_tree.specs.declared.node.Node.{Node}
use Rattle.cw_tree.specs.declared.node.BlockState.{BlockState}
use Rattle.cw_tree.specs.declared.node.Kind.TheVariants.{Strand, Fork}
use Rattle.cw_tree.specs.Nodes.{parent_of, is_strand, is_fork, is_pending, is_strand_kind, is_fork_kind, is_block_kind, is_pending_state, passes, number_in, fresh_node, closed}
use Rattle.cw_tree.specs.NextNodes.{fork_nodes}
use Rattle.cw_tree.specs.Walks.{is_ancestor, has}
use Rattle.cw_tree.specs.Shape.{IsTree}
use Rattle.cw_tree.proofs.NextNodes.Growing.{node_new, number_new}
use Rattle.cw_tree.proofs.NextNodes.Pending.{pending_stays, pending_closed}
use Rattle.cw_tree.proofs.Walks.Ancestors.{ancestor_le}
use Rattle.cw_tree.proofs.Walks.Upward.{ancestor_cases}
use Rattle.cw_tree.proofs.Walks.There.{fork_there, pending_there}
use Rattle.cw_tree.proofs.NodeKinds.{fork_no_strand}
use Rattle.cw_trace.specs.Columns.{ColumnTable, used}
use Rattle.cw_trace.specs.Stands.{fork_column}
use Rattle.cw_trace.specs.Running.{MayGoOn, IsDone}
use Rattle.cw_trace.specs.Keeps.{Keeps}
use Rattle.cw_trace.proofs.Stands.Counting.{fork_column_one, fork_column_lt, pending_no_fork, pending_no_strand}
use Rattle.cw_trace.proofs.Segments.Lines.{left_of_odd}
use Rattle.cw_trace.proofs.Keeps.Grow.{fork_column_append}
use Rattle.cw_trace.proofs.Keeps.Forking.{get_right}
use Rattle.cw_trace.proofs.Keeps.Ending.{SameShape}
use Rattle.cw_trace.proofs.Keeps.TierLaws.{closed_shape}
use Rattle.cw_trace.proofs.ManyHands.Opening.{Made}
use Rattle.cw_trace.proofs.ManyHands.Shutting.{Shut}

-- ## One node more

module _ (c : ColumnTable) (t : List Node) (joins : List ℕ) (p : ℕ) (there : p < length t) (x : Node) (under : x.parent ≡ p) (ns : is_strand_kind x.kind ≡ false) (nf : is_fork_kind x.kind ≡ false) (new : ℕ → Bool)
    (pend : (is_block_kind x.kind && is_pending_state x.state) ≡ true → new (length t) ≡ true) (only : new (length t) ≡ true → (is_block_kind x.kind && is_pending_state x.state) ≡ true) where
  last : (k : ℕ) → length t ≤ k → k < length (t ++ x ∷ []) → k ≡ length t
  last k l h = omega (arith, length-append t (x ∷ []))

  no_fork : (k : ℕ) → length t ≤ k → is_fork (t ++ x ∷ []) k ≡ true → ⊥
  no_fork k l e = cc (sym (ap (is_fork (t ++ x ∷ [])) (last k l (fork_there (t ++ x ∷ []) k e))) ∙ e, node_new t x (λ y. is_fork_kind y.kind) ∙ nf)

  parent_here : (k : ℕ) → length t ≤ k → k < length (t ++ x ∷ []) → parent_of (t ++ x ∷ []) k ≡ p
  parent_here k l h = ap (parent_of (t ++ x ∷ [])) (last k l h) ∙ number_new t x (λ y. y.parent) ∙ under

  pub node_made : Made c c t (x ∷ []) joins p new
  node_made = record {
    parents = λ k l h. inl (parent_here k l h);
    pending = λ k l e. (let same = last k l (pending_there (t ++ x ∷ []) k e) in ap new same ∙ pend (sym (node_new t x (λ y. is_block_kind y.kind && is_pending_state y.state)) ∙ ap (is_pending (t ++ x ∷ [])) (sym same) ∙ e));
    forks = λ k l e. absurd (no_fork k l e);
    unjoined = λ k l e h. absurd (no_fork k l e);
    kinds = λ k l h e. (let same = last k l h in inr (inr (ap (is_pending (t ++ x ∷ [])) same ∙ node_new t x (λ y. is_block_kind y.kind && is_pending_state y.state) ∙ only (ap new (sym same) ∙ e))));
    outer = λ k l h up. absurd (omega (arith, parent_here k l h, there));
    alone = λ k j l m h g same nf. last k l h ∙ sym (last j m g);
    leaves = λ a r k l less h g e. absurd (omega (arith, length-append t (x ∷ [])));
    wide = λ f e. ((λ h. h), λ h. h);
  }

-- ## A fork

module _ (c d : ColumnTable) (words : List ℕ) (t : List Node) (cuts joins : List ℕ) (k : Keeps c words t cuts joins) (tr : IsTree t) (p stamp : ℕ) (there : p < length t) (tr2 : IsTree (t ++ fork_nodes (length t) p stamp))
    (wide : (f : ℕ) → is_fork t f ≡ true → (fork_column t f + 1 < used d → fork_column t f + 1 < used c) × (fork_column t f + 1 < used c → fork_column t f + 1 < used d)) where
  abbrev s : List Node
  s = fork_nodes (length t) p stamp

  abbrev u : List Node
  u = t ++ fork_nodes (length t) p stamp

  abbrev new : ℕ → Bool
  new m = nat_lt m (length t + 3)

  len : length u ≡ length t + 3
  len = length-append t s

  -- the fork, or one of its strands
  data Which (m : ℕ) : Type 0 where
    the_fork : m ≡ length t → slice_get u m ≡ Some (fresh_node p Fork stamp) → Which m
    its_strand : length t < m → slice_get u m ≡ Some (fresh_node (length t) Strand 0) → Which m

  at_right : (m j : ℕ) → m ≡ length t + j → slice_get u m ≡ slice_get s j
  at_right m j e = ap (slice_get u) e ∙ get_right t s j

  which : (m : ℕ) → length t ≤ m → m < length u → Which m
  which m l h = elim (cases_eq m (length t)) [
    | inl e ↦ the_fork e (at_right m 0 (omega (arith, e)))
    | inr ne ↦ elim (cases_eq m (length t + 1)) [
      | inl e ↦ its_strand (omega (arith, e)) (at_right m 1 e)
      | inr nf ↦ its_strand (omega (arith, ne)) (at_right m 2 (omega (arith, len, ne, nf)))
    ]
  ]

  open_new : (m : ℕ) → m < length u → new m ≡ true
  open_new m h = lt-ltb m (length t + 3) (omega (arith, len))

  fork_here : is_fork u (length t) ≡ true
  fork_here = ap (passes (λ y. is_fork_kind y.kind)) (at_right (length t) 0 (omega arith))

  is_the_fork : (m : ℕ) → length t ≤ m → is_fork u m ≡ true → m ≡ length t
  is_the_fork m l e = elim (which m l (fork_there u m e)) [ the_fork q z ↦ q | its_strand q z ↦ absurd (cc (e, ap (passes (λ y. is_fork_kind y.kind)) z)) ]

  parent_is : (m : ℕ) → length t ≤ m → m < length u → ((m ≡ length t) × (parent_of u m ≡ p)) ⊎ ((length t < m) × (parent_of u m ≡ length t))
  parent_is m l h = elim (which m l h) [ the_fork q z ↦ inl (q, ap (number_in (λ y. y.parent)) z) | its_strand q z ↦ inr (q, ap (number_in (λ y. y.parent)) z) ]

  -- no fork that was joined has the column of the new one
  unjoined_new : has joins (fork_column t (length t)) ≡ false
  unjoined_new = false_from_ne_true (has joins (fork_column t (length t))) (λ e. (
      let z = k.segments.join_left (fork_column t (length t)) e in
      let w = k.all_used (fork_column t (length t)) z.1 (by_odd (fork_column t (length t)) z.0) in
      let less : fork_column t w.0 + 2 ≤ fork_column t (length t) = fork_column_lt t w.0 (length t) (fork_there t w.0 w.1) w.1 in
      let same : fork_column t w.0 ≡ fork_column t (length t) = w.2 ∙ left_of_odd (fork_column t (length t)) z.0 in
      omega arith)) where
        by_odd : (n : ℕ) → n % 2 ≡ 1 → 0 < n
        by_odd n e = omega arith

  alone_new : (m j : ℕ) → length t ≤ m → length t ≤ j → m < length u → j < length u → parent_of u m ≡ parent_of u j → is_fork u (parent_of u m) ≡ false → m ≡ j
  alone_new m j l n h g same nf = elim (parent_is m l h) [
    | inr z ↦ absurd (cc (sym (ap (is_fork u) z.1) ∙ nf, fork_here))
    | inl z ↦ elim (parent_is j n g) [
      | inl y ↦ z.0 ∙ sym y.0
      | inr y ↦ absurd (omega (arith, z.1, y.1, same, there))
    ]
  ]

  leaves_new : (l r m : ℕ) → length t ≤ l → l < r → r < length u → m < length u → is_ancestor u r m ≡ true → m ≡ r
  leaves_new l r m past less h g e =
      let le : r ≤ m = ancestor_le u tr2.rooted r m g e in
      elim (ancestor_cases u tr2.rooted r m (omega arith) g e) [
        | inl q ↦ q
        | inr up ↦ elim (parent_is m (omega arith) g) [
          | inl z ↦ absurd (omega (arith, z.0))
          | inr z ↦ absurd (let lower : r ≤ parent_of u m = ancestor_le u tr2.rooted r (parent_of u m) (omega (arith, z.1, len)) up in omega (arith, z.1))
        ]
      ]

  pub fork_made : Made c d t (fork_nodes (length t) p stamp) joins p (λ m. nat_lt m (length t + 3))
  fork_made = record {
    parents = λ m l h. elim (parent_is m l h) [ inl z ↦ inl z.1 | inr z ↦ inr (omega (arith, z.1)) ];
    pending = λ m l e. open_new m (pending_there u m e);
    forks = λ m l e. open_new m (fork_there u m e);
    unjoined = λ m l e h. ap (λ f. has joins (fork_column u f)) (is_the_fork m l e) ∙ ap (has joins) (fork_column_append t s tr.rooted 0 (length t) (omega arith)) ∙ unjoined_new;
    kinds = λ m l h e. elim (which m l h) [ the_fork q z ↦ inr (inl (ap (passes (λ y. is_fork_kind y.kind)) z)) | its_strand q z ↦ inl (ap (passes (λ y. is_strand_kind y.kind)) z) ];
    outer = λ m l h up. (let low : parent_of u m < m = tr2.rooted m (omega arith) h in open_new (parent_of u m) (omega arith));
    alone = alone_new;
    leaves = leaves_new;
    wide = wide;
  }

-- ## Nodes that are open no more

pub shape_same : (t : List Node) → SameShape t t
shape_same t = record { lengths = refl; parents = λ n. refl; forks = λ n. refl; strands = λ n. refl; stamps = λ n. refl }

pub fork_no_root : (t : List Node) → IsTree t → (f : ℕ) → is_fork t f ≡ true → 0 < f
fork_no_root t tr f e = elim (cases_eq f 0) [ inl z ↦ absurd (cc (ap (is_strand t) z, fork_no_strand t f e, tr.root)) | inr ne ↦ omega (arith, ne) ]

pub close_shuts : (c : ColumnTable) (t : List Node) (cuts joins : List ℕ) (is_open : ℕ → Bool) (tr : IsTree t) (q end : ℕ) (state : BlockState) → MayGoOn c t cuts is_open q → is_pending t q ≡ true → is_pending_state state ≡ false
    → Shut c c t (closed t q state end) joins joins is_open q
close_shuts c t cuts joins is_open tr q end state m pq over = record {
  shape = closed_shape t q state end;
  used_same = refl;
  some = elim (cases_eq q 0) [ inl z ↦ absurd (cc (ap (is_strand t) z, pending_no_strand t q pq, tr.root)) | inr ne ↦ omega (arith, ne) ];
  innermost = m.innermost;
  pending_was = λ b e. (let z = pending_closed t q state end over b e in (z.1, z.0));
  pending_on = λ b ne e. pending_stays t q state end b ne ∙ e;
  unjoined_was = λ f e h un. (un, λ z. cc (ap (is_fork t) z, e, pending_no_fork t q pq));
  unjoined_on = λ f e h ne un. un;
}

pub finish_shuts : (c : ColumnTable) (t : List Node) (cuts joins : List ℕ) (is_open : ℕ → Bool) (x : ℕ) → MayGoOn c t cuts is_open x → is_strand t x ≡ true → 0 < x → Shut c c t t joins joins is_open x
finish_shuts c t cuts joins is_open x m is_one some = record {
  shape = shape_same t;
  used_same = refl;
  some = some;
  innermost = m.innermost;
  pending_was = λ b e. (e, λ z. cc (ap (is_strand t) z, is_one, pending_no_strand t b e));
  pending_on = λ b ne e. e;
  unjoined_was = λ f e h un. (un, λ z. cc (ap (is_strand t) z, is_one, fork_no_strand t f e));
  unjoined_on = λ f e h ne un. un;
}

-- a fork with columns was joined
pub join_shuts : (c d : ColumnTable) (t : List Node) (joins : List ℕ) (is_open : ℕ → Bool) (tr : IsTree t) (f : ℕ) → used d ≡ used c → (done : IsDone t is_open f) → Shut c d t t joins (f ∷ joins) is_open done.fork
join_shuts c d t joins is_open tr f same done = record {
  shape = shape_same t;
  used_same = same;
  some = fork_no_root t tr done.fork done.is;
  innermost = λ n p h e o. cc (o, done.done n p h e);
  pending_was = λ b e. (e, λ z. cc (ap (is_fork t) z, done.is, pending_no_fork t b e));
  pending_on = λ b ne e. e;
  unjoined_was = λ g e h un. (
      let z = or_parts (nat_eq f (fork_column t g)) (has joins (fork_column t g)) un in
      (z.1, λ q. cc (z.0, eq-eqb f (fork_column t g) (sym done.at ∙ ap (fork_column t) (sym q)))));
  unjoined_on = λ g e h ne un. or_from (nat_eq f (fork_column t g)) (has joins (fork_column t g)) (ne_eqb f (fork_column t g) (λ q. ne (fork_column_one t g done.fork e done.is (sym q ∙ sym done.at)))) un;
}

-- a fork without columns was
pub inline_shuts : (c : ColumnTable) (t : List Node) (joins : List ℕ) (is_open : ℕ → Bool) (tr : IsTree t) (f : ℕ) → is_fork t f ≡ true → used c < fork_column t f + 2 → ((x : ℕ) → 0 < x → x < length t → parent_of t x ≡ f → is_open x ≡ false) → Shut c c t t joins joins is_open f
inline_shuts c t joins is_open tr f fork bare done = record {
  shape = shape_same t;
  used_same = refl;
  some = fork_no_root t tr f fork;
  innermost = λ n p h e o. cc (o, done n p h e);
  pending_was = λ b e. (e, λ z. cc (ap (is_fork t) z, fork, pending_no_fork t b e));
  pending_on = λ b ne e. e;
  unjoined_was = λ g e h un. (un, λ z. omega (arith, ap (fork_column t) z));
  unjoined_on = λ g e h ne un. un;
}
