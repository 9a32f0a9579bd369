-- What is kept by a fork: the tree grows by a fork and its two strands.
use Rattle.std.proofs.Common.{◌≡◌, ◌≢◌, ℕ, zero, suc, ◌+◌, ◌<◌, ◌≤◌, List, [], ◌∷◌, ◌++◌, length, refl, ap, sym, ◌∙◌, arith, Bool, true, false, Option, Some, None, nat_eq, inl, inr, subst, length-append, eq-eqb, eqb-true}
use Rattle.std.specs.Prelude.{◌⊎◌, ◌&&◌, unwrap_or, slice_index, if◌then◌else◌}
use Rattle.std.specs.List.{slice_get, find}
use Rattle.std.proofs.lemmas.Bool.{lt-ltb, le-leb, and_parts, and_from, cases_eq}
use Rattle.cw_tree.specs.declared.node.Node.{Node}
use Rattle.cw_tree.specs.declared.node.Kind.TheVariants.{Strand, Fork}
use Rattle.cw_tree.specs.Nodes.{parent_of, stamp_of, is_fork, is_pending, is_strand, passes, number_in, is_fork_kind, is_strand_kind, is_block_kind, is_pending_state, fresh_node}
use Rattle.cw_tree.specs.Walks.{is_ancestor, path, has}
use Rattle.cw_tree.specs.Series.{strand_of}
use Rattle.cw_tree.specs.Names.{is_right}
use Rattle.cw_tree.specs.Shape.{IsTree}
use Rattle.cw_tree.proofs.Walks.Ancestors.{ancestor_up}
use Rattle.cw_tree.proofs.Walks.Upward.{find_found}
use Rattle.cw_tree.proofs.NextNodes.Growing.{get_append, ancestor_grown}
use Rattle.cw_trace.specs.Columns.{ColumnTable, used, owner, gap, left_column_of, forked}
use Rattle.cw_trace.specs.Stands.{GoesOn, column, column_in, fork_column, outermost_pending, stamp_or_0}
use Rattle.cw_trace.specs.Segments.{Segments, Active}
use Rattle.cw_trace.specs.Keeps.{KeepsAt, Keeps}
use Rattle.cw_trace.proofs.Stands.Counting.{none_below, some_below, fork_column_lt, fork_column_suc, fork_column_pass}
use Rattle.cw_trace.proofs.Keeps.Grow.{column_append, fork_column_append}
use Rattle.cw_trace.proofs.Keeps.Owners.{column_other}
use Rattle.cw_trace.proofs.Segments.Lines.{le_or_lt, left_of_odd, left_of_next, used_some, gap_le}
use Rattle.cw_trace.proofs.Segments.Alike.{SamePending, segments_alike, ups_alike}
use Rattle.cw_trace.proofs.Stands.UpsKept.{ups_fork}
use Rattle.cw_trace.proofs.Outward.Kept.{forks_fork}
use Rattle.cw_trace.proofs.Segments.Nested.{nesting_fork}
use Rattle.cw_trace.proofs.Keeps.Meaning.{column_low, first_of_both}
use Rattle.cw_trace.proofs.Segments.Fork as fork
use Rattle.cw_tree.proofs.Walks.There.{pending_there, fork_there, strand_there}

pub get_right : {A : Type 0} → (xs ys : List A) (j : ℕ) → slice_get (xs ++ ys) (length xs + j) ≡ slice_get ys j
get_right [] ys j = ap (slice_get ys) (zero_plus j) where
  zero_plus : (j : ℕ) → 0 + j ≡ j
  zero_plus j = omega arith
get_right (x ∷ xs) ys j = ap (slice_get (x ∷ xs ++ ys)) (move (length xs) j) ∙ get_right xs ys j where
  move : (n j : ℕ) → suc n + j ≡ suc (n + j)
  move n j = omega arith

module _ (t : List Node) (tr : IsTree t) (size more : ℕ) (all : (f : ℕ) → is_fork t f ≡ true → (fork_column t f + 1 < size) × (fork_column t f + 1 < more)) where
  strand_is : (n : ℕ) → n < length t → is_strand t (strand_of t n) ≡ true
  strand_is n h = by_found (find (is_strand t) (path t n)) refl where
    by_found : (o : Option ℕ) → find (is_strand t) (path t n) ≡ o → is_strand t (unwrap_or (find (is_strand t) (path t n)) 0) ≡ true
    by_found None e = ap (λ o. is_strand t (unwrap_or o 0)) e ∙ tr.root
    by_found (Some s) e = ap (λ o. is_strand t (unwrap_or o 0)) e ∙ (find_found t tr.rooted (is_strand t) s n h e).passed

  -- where each fork has columns, it does not matter how many there are more
  pub column_more : (n : ℕ) → n < length t → column t size n ≡ column t more n
  column_more n h = by_strand (strand_of t n) (strand_is n h) where
    by_strand : (s : ℕ) → is_strand t s ≡ true → column_in t size s s ≡ column_in t more s s
    by_strand zero e = refl
    by_strand (suc s) e =
        let z = all (parent_of t (suc s)) (tr.strands (suc s) (strand_there t (suc s) e) (omega arith) e) in
        ap (λ b. if b then (if is_right t (suc s) then fork_column t (parent_of t (suc s)) + 1 else fork_column t (parent_of t (suc s))) else column_in t size s (strand_of t (parent_of t (suc s)))) (lt-ltb _ _ z.0)
        ∙ sym (ap (λ b. if b then (if is_right t (suc s) then fork_column t (parent_of t (suc s)) + 1 else fork_column t (parent_of t (suc s))) else column_in t more s (strand_of t (parent_of t (suc s)))) (lt-ltb _ _ z.1))

module _ (c : ColumnTable) (words : List ℕ) (t : List Node) (cuts joins : List ℕ) (tr : IsTree t) (k : Keeps c words t cuts joins) (begun : (b : ℕ) → is_pending t b ≡ true → 0 < stamp_of t b)
    (p stamp : ℕ) (hp : p < length t) (roomy : used c + 2 ≤ c.room) (a : Active c cuts joins (column t (used c) p)) (goes : GoesOn c t (column t (used c) p) p) where
  abbrev col : ℕ → ℕ
  col = column t (used c)

  abbrev pend : ℕ → Bool
  pend = is_pending t

  abbrev g : Segments c cuts joins pend col
  g = k.segments

  abbrev i : ℕ
  i = col p

  abbrev word : ℕ
  word = slice_index words (gap c i)

  abbrev d : ColumnTable
  d = forked word i c

  abbrev n : ℕ
  n = length t

  abbrev added : List Node
  added = fresh_node p Fork stamp ∷ fresh_node (length t) Strand 0 ∷ fresh_node (length t) Strand 0 ∷ []

  abbrev grown : List Node
  grown = t ++ added

  abbrev size : ℕ
  size = used c + 2

  low : (m : ℕ) → col m < used c
  low m = column_low t (used c) m (used_some c cuts joins pend col g)

  word_is : word ≡ stamp_or_0 t (outermost_pending t (used c) (λ j. nat_eq (gap c j) (gap c i)))
  word_is = k.words_are (gap c i) (omega (arith, gap_le c cuts joins pend col g i (low p), low p))

  free : word ≡ 0 → (b : ℕ) → pend b ≡ true → gap c (col b) ≡ gap c i → ⊥
  free e b pb q = by_first (outermost_pending t (used c) (λ j. nat_eq (gap c j) (gap c i))) refl where
    by_first : (o : Option ℕ) → outermost_pending t (used c) (λ j. nat_eq (gap c j) (gap c i)) ≡ o → ⊥
    by_first None f = cc (none_below (λ b. is_pending t b && nat_eq (gap c (col b)) (gap c i)) (length t) f b (pending_there t b pb), and_from (is_pending t b) (nat_eq (gap c (col b)) (gap c i)) pb (eq-eqb _ _ q))
    by_first (Some b) f =
        let v = some_below (λ b. is_pending t b && nat_eq (gap c (col b)) (gap c i)) (length t) b f in
        let y = and_parts (is_pending t b) (nat_eq (gap c (col b)) (gap c i)) v.passed in
        let z : stamp_of t b ≡ 0 = sym (ap (stamp_or_0 t) f) ∙ sym word_is ∙ e in
        omega (arith, z, begun b y.0)

  taken : word ≢ 0 → (b : ℕ) × (pend b ≡ true) × (gap c (col b) ≡ gap c i)
  taken ne = by_first (outermost_pending t (used c) (λ j. nat_eq (gap c j) (gap c i))) refl where
    by_first : (o : Option ℕ) → outermost_pending t (used c) (λ j. nat_eq (gap c j) (gap c i)) ≡ o → (b : ℕ) × (pend b ≡ true) × (gap c (col b) ≡ gap c i)
    by_first None f = absurd (ne (word_is ∙ ap (stamp_or_0 t) f))
    by_first (Some b) f =
        let v = some_below (λ b. is_pending t b && nat_eq (gap c (col b)) (gap c i)) (length t) b f in
        let y = and_parts (is_pending t b) (nat_eq (gap c (col b)) (gap c i)) v.passed in
        (b, y.0, eqb-true _ _ y.1)

  -- the nodes of the tree that has grown
  data At (m : ℕ) : Type 0 where
    old_one : m < n → slice_get grown m ≡ slice_get t m → At m
    the_fork : m ≡ n → slice_get grown m ≡ Some (fresh_node p Fork stamp) → At m
    a_strand : n < m → slice_get grown m ≡ Some (fresh_node n Strand 0) → At m
    past : n < m → slice_get grown m ≡ None → At m

  at_right : (m j : ℕ) → m ≡ n + j → slice_get grown m ≡ slice_get added j
  at_right m j e = ap (slice_get grown) e ∙ get_right t added j

  at : (m : ℕ) → At m
  at m = elim (le_or_lt n m) [
    | inr l ↦ old_one l (get_append t added m l)
    | inl l ↦ elim (cases_eq m n) [
      | inl e ↦ the_fork e (at_right m 0 (omega (arith, e)))
      | inr q ↦ elim (cases_eq m (n + 1)) [
        | inl e ↦ a_strand (omega (arith, e)) (at_right m 1 e)
        | inr r ↦ elim (cases_eq m (n + 2)) [
          | inl e ↦ a_strand (omega (arith, e)) (at_right m 2 e)
          | inr s ↦ past (omega (arith, l, q)) (Rattle.std.proofs.lemmas.Option.slice_get_past grown m (omega (arith, length-append t added, l, q, r, s)))
        ]
      ]
    ]
  ]

  pending_old : (b : ℕ) → is_pending grown b ≡ true → (b < n) × (pend b ≡ true)
  pending_old b e = elim (at b) [
    | old_one l q ↦ (l, sym (ap (passes (λ y. is_block_kind y.kind && is_pending_state y.state)) q) ∙ e)
    | the_fork l q ↦ absurd (cc (ap (passes (λ y. is_block_kind y.kind && is_pending_state y.state)) q, e))
    | a_strand l q ↦ absurd (cc (ap (passes (λ y. is_block_kind y.kind && is_pending_state y.state)) q, e))
    | past l q ↦ absurd (cc (ap (passes (λ y. is_block_kind y.kind && is_pending_state y.state)) q, e))
  ]

  pending_new : (b : ℕ) → pend b ≡ true → is_pending grown b ≡ true
  pending_new b e = ap (passes (λ y. is_block_kind y.kind && is_pending_state y.state)) (get_append t added b (pending_there t b e)) ∙ e

  fork_old : (f : ℕ) → is_fork grown f ≡ true → ((f < n) × (is_fork t f ≡ true)) ⊎ (f ≡ n)
  fork_old f e = elim (at f) [
    | old_one l q ↦ inl (l, sym (ap (passes (λ y. is_fork_kind y.kind)) q) ∙ e)
    | the_fork l q ↦ inr l
    | a_strand l q ↦ absurd (cc (ap (passes (λ y. is_fork_kind y.kind)) q, e))
    | past l q ↦ absurd (cc (ap (passes (λ y. is_fork_kind y.kind)) q, e))
  ]

  fork_new : (f : ℕ) → is_fork t f ≡ true → is_fork grown f ≡ true
  fork_new f e = ap (passes (λ y. is_fork_kind y.kind)) (get_append t added f (fork_there t f e)) ∙ e

  stamp_old : (m : ℕ) → m < n → stamp_of grown m ≡ stamp_of t m
  stamp_old m l = ap (number_in (λ y. y.stamp)) (get_append t added m l)

  fc : (f : ℕ) → f ≤ n → fork_column grown f ≡ fork_column t f
  fc f h = fork_column_append t added tr.rooted size f h

  all : (f : ℕ) → is_fork t f ≡ true → (fork_column t f + 1 < size) × (fork_column t f + 1 < used c)
  all f e = let z : fork_column t f + 2 ≤ fork_column t n = fork_column_lt t f n (fork_there t f e) e in (omega (arith, k.all_forks roomy), omega (arith, k.all_forks roomy))

  cols : (m : ℕ) → m < n → column grown size m ≡ col m
  cols m h = column_append t added tr.rooted size m h ∙ column_more t tr size (used c) all m h

  new_column : fork_column grown n ≡ used c
  new_column = fc n (omega arith) ∙ k.all_forks roomy

  module _ (tr2 : IsTree grown) where
    new_length : length grown ≡ n + 3
    new_length = length-append t added

    fork_here : slice_get grown n ≡ Some (fresh_node p Fork stamp)
    fork_here = at_right n 0 (omega arith)

    parent_here : parent_of grown n ≡ p
    parent_here = ap (number_in (λ y. y.parent)) fork_here

    col_fork : column grown size n ≡ i
    col_fork = column_other grown tr2 size n (omega arith) (omega (arith, new_length)) (ap (passes (λ y. is_strand_kind y.kind)) fork_here) ∙ ap (column grown size) parent_here ∙ cols p hp

    above_fork : (b : ℕ) → is_ancestor t b p ≡ true → is_ancestor grown b n ≡ true
    above_fork b e = ancestor_up grown tr2.rooted b n (omega arith) (omega (arith, new_length)) (ap (is_ancestor grown b) parent_here ∙ ancestor_grown t added tr.rooted b p hp ∙ e)

    same : SamePending pend col (is_pending grown) (column grown size)
    same = record {
      back = λ b e. (let z = pending_old b e in (z.1, cols b z.0));
      forth = λ b e. (pending_new b e, cols b (pending_there t b e));
    }

    owner_old : (j : ℕ) → j < used c → owner d j ≡ owner c j
    owner_old = fork.owner_old c cuts joins pend col g word i a free taken

    gap_old : (j : ℕ) → j < used c → gap d j ≡ gap c j
    gap_old = fork.gap_old c cuts joins pend col g word i a free taken

    own : (m : ℕ) → m < n → owner d (column grown size m) ≡ owner c (col m)
    own m h = ap (owner d) (cols m h) ∙ owner_old (col m) (low m)

    own_fork : owner d (column grown size n) ≡ owner c i
    own_fork = ap (owner d) col_fork ∙ owner_old i (low p)

    -- the outermost pending block of a gap
    first_old : (x : ℕ) → outermost_pending grown size (λ j. nat_eq (gap d j) x) ≡ outermost_pending t (used c) (λ j. nat_eq (gap c j) x)
    first_old x =
        first_of_both (λ b. is_pending grown b && nat_eq (gap d (column grown size b)) x) (λ b. is_pending t b && nat_eq (gap c (col b)) x) (length grown) n
        (λ b h e. let z = and_parts (is_pending t b) (nat_eq (gap c (col b)) x) e in
        (omega (arith, new_length), and_from (is_pending grown b) (nat_eq (gap d (column grown size b)) x) (pending_new b z.0) (ap (λ y. nat_eq y x) (ap (gap d) (cols b h) ∙ gap_old (col b) (low b)) ∙ z.1)))
        (λ b h e. let z = and_parts (is_pending grown b) (nat_eq (gap d (column grown size b)) x) e in
        let w = pending_old b z.0 in
        let le : b ≤ b = omega arith in
        (b, le, w.0, and_from (is_pending t b) (nat_eq (gap c (col b)) x) w.1 (sym (ap (λ y. nat_eq y x) (ap (gap d) (cols b w.0) ∙ gap_old (col b) (low b))) ∙ z.1)))

    stamp_first : (o : Option ℕ) (x : ℕ) → outermost_pending t (used c) (λ j. nat_eq (gap c j) x) ≡ o → stamp_or_0 grown o ≡ stamp_or_0 t o
    stamp_first None x e = refl
    stamp_first (Some b) x e = stamp_old b (some_below (λ b. is_pending t b && nat_eq (gap c (col b)) x) n b e).low

    word_old : (x : ℕ) → stamp_or_0 grown (outermost_pending grown size (λ j. nat_eq (gap d j) x)) ≡ stamp_or_0 t (outermost_pending t (used c) (λ j. nat_eq (gap c j) x))
    word_old x = ap (stamp_or_0 grown) (first_old x) ∙ stamp_first (outermost_pending t (used c) (λ j. nat_eq (gap c j) x)) x refl

    no_block : (x : ℕ) → used c ≤ x → outermost_pending t (used c) (λ j. nat_eq (gap c j) x) ≡ None
    no_block x h = by_first (outermost_pending t (used c) (λ j. nat_eq (gap c j) x)) refl where
      by_first : (o : Option ℕ) → outermost_pending t (used c) (λ j. nat_eq (gap c j) x) ≡ o → outermost_pending t (used c) (λ j. nat_eq (gap c j) x) ≡ None
      by_first None e = e
      by_first (Some b) e =
          let v = some_below (λ b. is_pending t b && nat_eq (gap c (col b)) x) n b e in
          let y = and_parts (is_pending t b) (nat_eq (gap c (col b)) x) v.passed in
          absurd (omega (arith, eqb-true _ _ y.1, gap_le c cuts joins pend col g (col b) (low b), low b))

    words_new : (x : ℕ) → x < size → slice_index words x ≡ stamp_or_0 grown (outermost_pending grown size (λ j. nat_eq (gap d j) x))
    words_new x h = elim (le_or_lt (used c) x) [
      | inr l ↦ k.words_are x l ∙ sym (word_old x)
      | inl l ↦ k.spare_words x l ∙ sym (word_old x ∙ ap (stamp_or_0 t) (no_block x l))
    ]

    strands_no_fork : (j : ℕ) → 0 < j → j < 3 → is_fork grown (n + j) ≡ false
    strands_no_fork j a b = elim (at (n + j)) [
      | old_one l q ↦ absurd (omega arith)
      | the_fork l q ↦ absurd (omega (arith, l))
      | a_strand l q ↦ ap (passes (λ y. is_fork_kind y.kind)) q
      | past l q ↦ ap (passes (λ y. is_fork_kind y.kind)) q
    ]

    last_column : fork_column grown (length grown) ≡ size
    last_column =
        ap (fork_column grown) (new_length ∙ up3 n) ∙ fork_column_pass grown (suc (suc n)) (ap (is_fork grown) (up2 n) ∙ strands_no_fork 2 (omega arith) (omega arith))
        ∙ fork_column_pass grown (suc n) (ap (is_fork grown) (up1 n) ∙ strands_no_fork 1 (omega arith) (omega arith))
        ∙ fork_column_suc grown n (ap (passes (λ y. is_fork_kind y.kind)) fork_here) ∙ ap (λ x. x + 2) new_column where
          up3 : (n : ℕ) → n + 3 ≡ suc (suc (suc n))
          up3 n = omega arith

          up2 : (n : ℕ) → suc (suc n) ≡ n + 2
          up2 n = omega arith

          up1 : (n : ℕ) → suc n ≡ n + 1
          up1 n = omega arith

    forked_at_size : KeepsAt size d words grown cuts joins
    forked_at_size = record {
      segments = segments_alike d cuts joins pend col (is_pending grown) (column grown size) same (fork.segments_fork c cuts joins pend col g word i a free taken);
      ups = ups_alike d cuts joins pend col (is_pending grown) (column grown size) same (ups_fork c cuts joins pend col g k.ups word i a free taken);
      outside = forks_fork c cuts joins pend col g k.outside word i a free taken;
      nesting = nesting_fork c cuts joins pend col g k.nesting word i a free taken;
      room = (roomy, k.room.1);
      forks = λ f e. elim (fork_old f e) [
        | inl z ↦ (let y = all f z.1 in let same_column : fork_column grown f ≡ fork_column t f = fc f (let l : f < n = z.0 in omega arith) in (λ _. omega (arith, same_column, y.0), λ _. le-leb _ _ (omega (arith, same_column, y.1))))
        | inr z ↦ (let same_column : fork_column grown f ≡ used c = ap (fork_column grown) z ∙ new_column in (λ _. omega (arith, same_column), λ _. le-leb _ _ (omega (arith, same_column))))
      ];
      all_forks = λ h. last_column;
      all_used = λ j h q. elim (le_or_lt (used c) j) [
        | inr l ↦ (let z = k.all_used j l q in (z.0, fork_new z.0 z.1, fc z.0 (let y : z.0 < n = fork_there t z.0 z.1 in omega arith) ∙ z.2))
        | inl l ↦ (n, ap (passes (λ y. is_fork_kind y.kind)) fork_here, new_column ∙ sym (new_left j l h))
      ];
      forked_from = λ f e h. elim (fork_old f e) [
        | inl z ↦ (
            let y = all f z.1 in
            let le : f ≤ n = (let l : f < n = z.0 in omega arith) in
            ap (λ x. slice_index d.parents x) (fc f le) ∙ fork.parent_old c cuts joins pend col g word i a free taken (fork_column t f) (let l : fork_column t f + 1 < used c = y.1 in omega arith) ∙ k.forked_from f z.1 y.1 ∙ sym (cols f z.0))
        | inr z ↦ fork.parent_left c cuts joins pend col g word i a free taken (fork_column grown f) (ap (fork_column grown) z ∙ new_column) ∙ sym (ap (column grown size) z ∙ col_fork)
      ];
      words_are = words_new;
      spare_words = λ x h. k.spare_words x (omega arith);
      contains = λ b m h q e o s. contains_new b m e o s;
      lines = lines_new;
    } where
      new_left : (j : ℕ) → used c ≤ j → j < used c + 2 → left_column_of j ≡ used c
      new_left j l h = elim (cases_eq j (used c)) [ inl e ↦ ap left_column_of e ∙ left_of_odd (used c) g.odd | inr e ↦ ap left_column_of (next j (used c) l h e) ∙ left_of_next (used c) g.odd ] where
        next : (j u : ℕ) → u ≤ j → j < u + 2 → j ≢ u → j ≡ u + 1
        next j u a b e = omega (arith, e)

      contains_new : (b m : ℕ) → is_pending grown b ≡ true → owner d (column grown size b) ≡ owner d (column grown size m) → stamp_of grown b < stamp_of grown m → is_ancestor grown b m ≡ true
      contains_new b m e o s =
          let w = pending_old b e in
          elim (at m) [
            | old_one l q ↦ ancestor_grown t added tr.rooted b m l ∙ k.contains b m w.0 l w.1 (sym (own b w.0) ∙ o ∙ own m l) (omega (arith, s, stamp_old b w.0, stamp_old m l))
            | the_fork l q ↦ (
                let P : ℕ → Type 0 = λ x. is_ancestor grown b x ≡ true in
                subst P (sym l) (above_fork b (goes b w.0 w.1 (sym (own b w.0) ∙ o ∙ ap (λ x. owner d (column grown size x)) l ∙ own_fork))))
            | a_strand l q ↦ absurd (omega (arith, s, ap (number_in (λ y. y.stamp)) q))
            | past l q ↦ absurd (omega (arith, s, ap (number_in (λ y. y.stamp)) q))
          ]

      lines_new : (b f : ℕ) → is_pending grown b ≡ true → is_fork grown f ≡ true → fork_column grown f + 1 < size → has joins (fork_column grown f) ≡ false → owner d (column grown size b) ≡ owner d (column grown size f)
          → (is_ancestor grown b f ≡ true) ⊎ (fork_column grown f ≤ column grown size b)
      lines_new b f e ff h u o =
          let w = pending_old b e in
          elim (fork_old f ff) [
            | inl z ↦ (
                let le : f ≤ n = (let l : f < n = z.0 in omega arith) in
                let y = all f z.1 in
                elim (k.lines b f w.1 z.1 y.1 (sym (ap (has joins) (fc f le)) ∙ u) (sym (own b w.0) ∙ o ∙ own f z.0)) [
                  | inl v ↦ inl (ancestor_grown t added tr.rooted b f z.0 ∙ v)
                  | inr v ↦ inr (omega (arith, fc f le, cols b w.0, v))
                ])
            | inr z ↦ (
                let P : ℕ → Type 0 = λ x. is_ancestor grown b x ≡ true in
                inl (subst P (sym z) (above_fork b (goes b w.0 w.1 (sym (own b w.0) ∙ o ∙ ap (λ x. owner d (column grown size x)) z ∙ own_fork)))))
          ]

    pub keeps_fork : Keeps d words grown cuts joins
    keeps_fork = let P : ℕ → Type 0 = λ x. KeepsAt x d words grown cuts joins in subst P (sym (fork.used_new c cuts joins pend col g word i a free taken)) forked_at_size
