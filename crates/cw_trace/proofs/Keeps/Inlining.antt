-- A fork that gets no columns: the tier stays as it is, and all that the fork adds stands where the forking strand stands.
use Rattle.std.proofs.Common.{◌≡◌, ℕ, zero, suc, ◌+◌, ◌-◌, ◌<◌, ◌≤◌, List, ◌++◌, length, refl, ap, sym, ◌∙◌, arith, true, Option, Some, None, nat_eq, nat_lt, inl, inr, subst, length-append}
use Rattle.std.specs.Prelude.{◌⊎◌, ◌%◌, ◌&&◌, ◌↔◌, IsTrue, nat_le, slice_index, if◌then◌else◌}
use Rattle.std.specs.List.{slice_get}
use Rattle.std.proofs.lemmas.Bool.{leb-true, le-ltb, and_parts, and_from, cases_eq}
use Rattle.cw_tree.specs.declared.node.Node.{Node}
use Rattle.cw_tree.specs.declared.node.Kind.TheVariants.{Strand, Fork}
use Rattle.cw_tree.specs.Nodes.{parent_of, stamp_of, is_fork, is_pending, passes, number_in, is_fork_kind, is_strand_kind, is_block_kind, is_pending_state, fresh_node}
use Rattle.cw_tree.specs.Walks.{is_ancestor, has}
use Rattle.cw_tree.specs.Shape.{IsTree}
use Rattle.cw_tree.proofs.Walks.Ancestors.{ancestor_up}
use Rattle.cw_tree.proofs.NextNodes.Growing.{node_grown, number_grown, ancestor_grown}
use Rattle.cw_trace.specs.Columns.{ColumnTable, used, owner, gap, left_column_of}
use Rattle.cw_trace.specs.Stands.{GoesOn, column, fork_column, outermost_pending, stamp_or_0}
use Rattle.cw_trace.specs.Segments.{Segments}
use Rattle.cw_trace.specs.Keeps.{Keeps}
use Rattle.cw_tree.specs.NextNodes.{fork_nodes}
use Rattle.cw_tree.proofs.Walks.There.{pending_there, fork_there}
use Rattle.cw_trace.proofs.Segments.Alike.{SamePending, segments_alike, ups_alike}
use Rattle.cw_trace.proofs.Stands.Counting.{some_below, fork_column_lt}
use Rattle.cw_trace.proofs.Keeps.Forking.{get_right}
use Rattle.cw_trace.proofs.Keeps.Grow.{column_append, fork_column_append}
use Rattle.cw_trace.proofs.Segments.Lines.{le_or_lt}
use Rattle.cw_trace.proofs.Keeps.Meaning.{first_of_both, odd_column}
use Rattle.cw_trace.proofs.Keeps.Owners.{column_other, column_strand}

module _ (c : ColumnTable) (words : List ℕ) (t : List Node) (cuts joins : List ℕ) (tr : IsTree t) (k : Keeps c words t cuts joins) (p stamp : ℕ) (hp : p < length t) (full : c.room < used c + 2) (goes : GoesOn c t (column t (used c) p) p)
    (tr2 : IsTree (t ++ fork_nodes (length t) p stamp)) where
  abbrev n : ℕ
  n = length t

  abbrev more : List Node
  more = fork_nodes (length t) p stamp

  abbrev grown : List Node
  grown = t ++ fork_nodes (length t) p stamp

  abbrev g : Segments c cuts joins (is_pending t) (column t (used c))
  g = k.segments

  new_length : length grown ≡ n + 3
  new_length = length-append t more

  -- no fork of the tree has columns that are not in use
  columns_out : used c ≤ fork_column t n
  columns_out = by_used (used c) g.odd (λ i h q. k.all_used i h q) where
    by_used : (u : ℕ) → u % 2 ≡ 1 → ((i : ℕ) → i < u → 0 < i → (f : ℕ) × (is_fork t f ≡ true) × (fork_column t f ≡ left_column_of i)) → u ≤ fork_column t n
    by_used zero e all = omega arith
    by_used (suc zero) e all = odd_pos (fork_column t n) (odd_column t n) where
      odd_pos : (m : ℕ) → m % 2 ≡ 1 → 1 ≤ m
      odd_pos m e = omega arith
    by_used (suc (suc u)) e all =
        let z = all (suc u) (omega arith) (omega arith) in
        let l = fork_column_lt t z.0 n (fork_there t z.0 z.1) z.1 in
        let at : left_column_of (suc u) ≡ u = even_left u e in
        omega (arith, l, z.2, at) where
          even_left : (u : ℕ) → suc (suc u) % 2 ≡ 1 → left_column_of (suc u) ≡ u
          even_left u e = omega arith

  -- the new nodes
  here : slice_get grown n ≡ Some (fresh_node p Fork stamp)
  here = ap (slice_get grown) (plus_zero n) ∙ get_right t more 0 where
    plus_zero : (n : ℕ) → n ≡ n + 0
    plus_zero n = omega arith

  strand_at : (j : ℕ) → 0 < j → j < 3 → slice_get grown (n + j) ≡ Some (fresh_node n Strand 0)
  strand_at zero a b = absurd (omega arith)
  strand_at (suc zero) a b = get_right t more 1
  strand_at (suc (suc zero)) a b = get_right t more 2
  strand_at (suc (suc (suc j))) a b = absurd (omega arith)

  -- a node of the grown tree is an old one, the fork or one of its strands
  data Which (m : ℕ) : Type 0 where
    old : m < n → Which m
    fork : m ≡ n → Which m
    strand : (j : ℕ) → 0 < j → j < 3 → m ≡ n + j → Which m

  which : (m : ℕ) → m < length grown → Which m
  which m h = elim (le_or_lt n m) [
    | inr l ↦ old l
    | inl l ↦ elim (cases_eq m n) [ inl e ↦ fork e | inr ne ↦ strand (m - n) (omega (arith, ne)) (omega (arith, new_length)) (omega arith) ]
  ]

  fc : (f : ℕ) → f ≤ n → fork_column grown f ≡ fork_column t f
  fc f h = fork_column_append t more tr.rooted (used c) f h

  cols : (m : ℕ) → m < n → column grown (used c) m ≡ column t (used c) m
  cols m h = column_append t more tr.rooted (used c) m h

  parent_here : parent_of grown n ≡ p
  parent_here = ap (number_in (λ y. y.parent)) here

  col_fork : column grown (used c) n ≡ column t (used c) p
  col_fork = column_other grown tr2 (used c) n (omega arith) (omega (arith, new_length)) (ap (passes (λ y. is_strand_kind y.kind)) here) ∙ ap (column grown (used c)) parent_here ∙ cols p hp

  col_strand : (j : ℕ) → 0 < j → j < 3 → column grown (used c) (n + j) ≡ column t (used c) p
  col_strand j a b =
      let up : parent_of grown (n + j) ≡ n = ap (number_in (λ y. y.parent)) (strand_at j a b) in
      column_strand grown tr2 (used c) (n + j) (omega arith) (omega (arith, new_length)) (ap (passes (λ y. is_strand_kind y.kind)) (strand_at j a b))
      ∙ ap (λ f. if nat_lt (fork_column grown f + 1) (used c) then (if Rattle.cw_tree.specs.Names.is_right grown (n + j) then fork_column grown f + 1 else fork_column grown f) else column grown (used c) f) up
      ∙ ap (λ v. if v then (if Rattle.cw_tree.specs.Names.is_right grown (n + j) then fork_column grown n + 1 else fork_column grown n) else column grown (used c) n) (le-ltb (fork_column grown n + 1) (used c) (omega (arith, fc n (omega arith), columns_out)))
      ∙ col_fork

  col_new : (m : ℕ) → n ≤ m → m < length grown → column grown (used c) m ≡ column t (used c) p
  col_new m l h = elim (which m h) [ old s ↦ absurd (omega arith) | fork e ↦ ap (column grown (used c)) e ∙ col_fork | strand j a b e ↦ ap (column grown (used c)) e ∙ col_strand j a b ]

  above_fork : (b : ℕ) → is_ancestor t b p ≡ true → is_ancestor grown b n ≡ true
  above_fork b e = ancestor_up grown tr2.rooted b n (omega arith) (omega (arith, new_length)) (ap (is_ancestor grown b) parent_here ∙ ancestor_grown t more tr.rooted b p hp ∙ e)

  above_new : (b m : ℕ) → n ≤ m → m < length grown → is_ancestor t b p ≡ true → is_ancestor grown b m ≡ true
  above_new b m l h e = elim (which m h) [
    | old s ↦ absurd (omega arith)
    | fork q ↦ ap (is_ancestor grown b) q ∙ above_fork b e
    | strand j a z q ↦
        ap (is_ancestor grown b) q
        ∙ ancestor_up grown tr2.rooted b (n + j) (omega arith) (omega (arith, new_length)) (ap (is_ancestor grown b) (ap (number_in (λ y. y.parent)) (strand_at j a z)) ∙ above_fork b e)
  ]

  pending_old : (b : ℕ) → is_pending grown b ≡ true → (b < n) × (is_pending t b ≡ true)
  pending_old b e = elim (which b (pending_there grown b e)) [
    | old l ↦ (l, sym (node_grown t more (λ y. is_block_kind y.kind && is_pending_state y.state) b l) ∙ e)
    | fork q ↦ absurd (cc (sym (ap (is_pending grown) q) ∙ e, ap (passes (λ y. is_block_kind y.kind && is_pending_state y.state)) here))
    | strand j a z q ↦ absurd (cc (sym (ap (is_pending grown) q) ∙ e, ap (passes (λ y. is_block_kind y.kind && is_pending_state y.state)) (strand_at j a z)))
  ]

  pending_new : (b : ℕ) → is_pending t b ≡ true → is_pending grown b ≡ true
  pending_new b e = node_grown t more (λ y. is_block_kind y.kind && is_pending_state y.state) b (pending_there t b e) ∙ e

  -- a fork with columns is an old one, and so is one for whose columns there is room
  fork_which : (f : ℕ) → is_fork grown f ≡ true → ((f < n) × (is_fork t f ≡ true)) ⊎ (f ≡ n)
  fork_which f e = elim (which f (fork_there grown f e)) [
    | old l ↦ inl (l, sym (node_grown t more (λ y. is_fork_kind y.kind) f l) ∙ e)
    | fork q ↦ inr q
    | strand j a z q ↦ absurd (cc (sym (ap (is_fork grown) q) ∙ e, ap (passes (λ y. is_fork_kind y.kind)) (strand_at j a z)))
  ]

  fork_old : (f : ℕ) → is_fork grown f ≡ true → fork_column grown f + 1 < used c → (f < n) × (is_fork t f ≡ true)
  fork_old f e h = elim (fork_which f e) [ inl z ↦ z | inr q ↦ absurd (omega (arith, ap (fork_column grown) q, fc n (omega arith), columns_out)) ]

  forks_new : (f : ℕ) → is_fork grown f ≡ true → IsTrue (nat_le (fork_column grown f + 2) c.room) ↔ (fork_column grown f + 1 < used c)
  forks_new f e = elim (fork_which f e) [
    | inl z ↦ (let P : ℕ → Type 0 = λ x. IsTrue (nat_le (x + 2) c.room) ↔ (x + 1 < used c) in subst P (sym (fc f (let l : f < n = z.0 in omega arith))) (k.forks f z.1))
    | inr q ↦
        (let out : used c ≤ fork_column grown f = omega (arith, ap (fork_column grown) q, fc n (omega arith), columns_out) in
        ((λ x. absurd (let l : fork_column grown f + 2 ≤ c.room = leb-true _ _ x in omega arith)), (λ x. absurd (omega arith))))
  ]

  first_same : (y : ℕ) → outermost_pending grown (used c) (λ j. nat_eq (gap c j) y) ≡ outermost_pending t (used c) (λ j. nat_eq (gap c j) y)
  first_same y =
      first_of_both (λ b. is_pending grown b && nat_eq (gap c (column grown (used c) b)) y) (λ b. is_pending t b && nat_eq (gap c (column t (used c) b)) y) (length grown) n
      (λ b h e. let z = and_parts (is_pending t b) (nat_eq (gap c (column t (used c) b)) y) e in
      (omega (arith, new_length), and_from (is_pending grown b) (nat_eq (gap c (column grown (used c) b)) y) (pending_new b z.0) (ap (λ v. nat_eq (gap c v) y) (cols b h) ∙ z.1)))
      (λ b h e. let z = and_parts (is_pending grown b) (nat_eq (gap c (column grown (used c) b)) y) e in
      let w = pending_old b z.0 in
      let le : b ≤ b = omega arith in
      (b, le, w.0, and_from (is_pending t b) (nat_eq (gap c (column t (used c) b)) y) w.1 (sym (ap (λ v. nat_eq (gap c v) y) (cols b w.0)) ∙ z.1)))

  stamp_old : (m : ℕ) → m < n → stamp_of grown m ≡ stamp_of t m
  stamp_old m l = number_grown t more (λ y. y.stamp) m l

  stamp_first : (o : Option ℕ) (y : ℕ) → outermost_pending t (used c) (λ j. nat_eq (gap c j) y) ≡ o → stamp_or_0 grown o ≡ stamp_or_0 t o
  stamp_first None y e = refl
  stamp_first (Some b) y e = stamp_old b (some_below (λ b. is_pending t b && nat_eq (gap c (column t (used c) b)) y) n b e).low

  same : SamePending (is_pending t) (column t (used c)) (is_pending grown) (column grown (used c))
  same = record { back = λ b e. (let z = pending_old b e in (z.1, cols b z.0)); forth = λ b e. (pending_new b e, cols b (pending_there t b e)) }

  pub keeps_inline : Keeps c words grown cuts joins
  keeps_inline = record {
    segments = segments_alike c cuts joins (is_pending t) (column t (used c)) (is_pending grown) (column grown (used c)) same g;
    ups = ups_alike c cuts joins (is_pending t) (column t (used c)) (is_pending grown) (column grown (used c)) same k.ups;
    nesting = k.nesting;
    outside = k.outside;
    room = k.room;
    forks = forks_new;
    all_forks = λ h. absurd (omega arith);
    all_used = λ j h q.
        (let w = k.all_used j h q in
        let l = fork_there t w.0 w.1 in
        (w.0, node_grown t more (λ y. is_fork_kind y.kind) w.0 l ∙ w.1, fc w.0 (omega arith) ∙ w.2));
    forked_from = λ f e h.
        (let w = fork_old f e h in
        let l : f < n = w.0 in
        let s = fc f (omega arith) in
        ap (slice_index c.parents) s ∙ k.forked_from f w.1 (omega (arith, s)) ∙ sym (cols f l));
    words_are = λ y h. k.words_are y h ∙ sym (ap (stamp_or_0 grown) (first_same y) ∙ stamp_first (outermost_pending t (used c) (λ j. nat_eq (gap c j) y)) y refl);
    spare_words = k.spare_words;
    contains = λ b m h j e q s. contains_new b m j (pending_old b e) q s (le_or_lt n m);
    lines = λ b f e ff h u q.
        (let z = pending_old b e in
        let w = fork_old f ff h in
        let l : f < n = w.0 in
        let s = fc f (omega arith) in
        elim (k.lines b f z.1 w.1 (omega (arith, s)) (sym (ap (has joins) s) ∙ u) (sym (ap (owner c) (cols b z.0)) ∙ q ∙ ap (owner c) (cols f l))) [
          | inl v ↦ inl (ancestor_grown t more tr.rooted b f l ∙ v)
          | inr v ↦ inr (omega (arith, s, cols b z.0))
        ]);
  } where
    contains_new : (b m : ℕ) → m < length grown → (b < n) × (is_pending t b ≡ true) → owner c (column grown (used c) b) ≡ owner c (column grown (used c) m) → stamp_of grown b < stamp_of grown m → (n ≤ m) ⊎ (m < n) → is_ancestor grown b m ≡ true
    contains_new b m h z q s (inr l) =
        ancestor_grown t more tr.rooted b m l ∙ k.contains b m z.0 l z.1 (sym (ap (owner c) (cols b z.0)) ∙ q ∙ ap (owner c) (cols m l)) (omega (arith, s, stamp_old b z.0, stamp_old m l))
    contains_new b m h z q s (inl l) = above_new b m l h (goes b z.0 z.1 (sym (ap (owner c) (cols b z.0)) ∙ q ∙ ap (owner c) (col_new m l h)))
