-- A strand that may go on stands beneath everything that is open in its trace.
use Rattle.std.proofs.Common.{◌≡◌, ◌≢◌, ℕ, ◌+◌, ◌<◌, ◌≤◌, List, length, refl, ap, sym, ◌∙◌, arith, Bool, true, false, inl, inr, subst}
use Rattle.std.specs.Prelude.{◌⊎◌, ◌%◌, slice_index}
use Rattle.std.proofs.lemmas.Bool.{cases_Bool, cases_eq}
use Rattle.cw_tree.specs.declared.node.Node.{Node}
use Rattle.cw_tree.specs.Nodes.{parent_of, is_fork, is_pending, is_strand}
use Rattle.cw_tree.specs.Walks.{is_ancestor, has}
use Rattle.cw_tree.specs.Shape.{IsTree}
use Rattle.cw_tree.proofs.Walks.Strands.{strand_of_root}
use Rattle.cw_tree.proofs.Walks.Climbs.{by_parent}
use Rattle.cw_tree.proofs.Walks.Ancestors.{ancestor_up, ancestor_self, ancestor_root, ancestor_le}
use Rattle.cw_tree.proofs.Walks.Upward.{ancestor_cases}
use Rattle.cw_tree.proofs.Walks.There.{fork_there}
use Rattle.cw_tree.proofs.NodeKinds.{fork_no_strand}
use Rattle.cw_trace.specs.Columns.{ColumnTable, used, owner, gap, left_column_of}
use Rattle.cw_trace.specs.Stands.{GoesOn, column, column_in, fork_column, around, Descends, child, further}
use Rattle.cw_trace.specs.Segments.{IsOpen, SegmentStart, IsCut, Segments, Active}
use Rattle.cw_trace.specs.Keeps.{Keeps}
use Rattle.cw_trace.specs.Running.{IsUnsplit, IsOrdered, MayGoOn}
use Rattle.cw_trace.proofs.Stands.Counting.{fork_column_lt, pending_no_strand}
use Rattle.cw_trace.proofs.Keeps.Owners.{column_other, owners_descend}
use Rattle.cw_trace.proofs.Segments.Lines.{order, le_or_lt, left_of_odd, left_of_next, used_some, own_le, own_trace, start_after, is_split, unsplit, right_used}
use Rattle.cw_trace.proofs.Keeps.Sides.{child_to, above_all, right_of, is_left, strand_in, bare, left, right, side}
use Rattle.cw_trace.proofs.Keeps.Meaning.{column_low, stands_of, odd_column}

module _ (c : ColumnTable) (words : List ℕ) (t : List Node) (cuts joins : List ℕ) (tr : IsTree t) (k : Keeps c words t cuts joins) (is_open : ℕ → Bool) (o : IsOrdered c t cuts joins is_open) where
  abbrev g : Segments c cuts joins (is_pending t) (column t (used c))
  g = k.segments

  abbrev col : ℕ → ℕ
  col = column t (used c)

  abbrev own : ℕ → ℕ
  own n = owner c (column t (used c) n)

  low : (m : ℕ) → col m < used c
  low m = column_low t (used c) m (used_some c cuts joins (is_pending t) col g)

  -- all above an open node is open
  pub open_above : (a n : ℕ) → n < length t → is_open n ≡ true → is_ancestor t a n ≡ true → is_open a ≡ true
  open_above a n h =
      by_parent t tr.rooted (λ n. is_open n ≡ true → is_ancestor t a n ≡ true → is_open a ≡ true)
      (λ e f. ap is_open (ancestor_root t a f) ∙ e)
      (λ m p q more e f. elim (ancestor_cases t tr.rooted a m p q f) [ inl z ↦ ap is_open (sym z) ∙ e | inr z ↦ more (o.outer m p q e) z ])
      n h

  -- two open nodes stand one above the other, or part at an open fork
  pub record Parted (n x : ℕ) : Type 0 where
    pub fork : ℕ
    pub is : is_fork t fork ≡ true
    pub one : ℕ
    pub other : ℕ
    pub one_pos : 0 < one
    pub one_low : one < length t
    pub other_pos : 0 < other
    pub other_low : other < length t
    pub differ : one ≢ other
    pub one_in : parent_of t one ≡ fork
    pub other_in : parent_of t other ≡ fork
    pub one_above : is_ancestor t one n ≡ true
    pub other_above : is_ancestor t other x ≡ true

  pub meet : (x : ℕ) → x < length t → is_open x ≡ true → (n : ℕ) → n < length t → is_open n ≡ true → (is_ancestor t x n ≡ true) ⊎ ((is_ancestor t n x ≡ true) ⊎ Parted n x)
  meet x hx ox =
      by_parent t tr.rooted (λ n. is_open n ≡ true → (is_ancestor t x n ≡ true) ⊎ ((is_ancestor t n x ≡ true) ⊎ Parted n x))
      (λ e. inr (inl (above_all t tr x hx)))
      (λ m p h more e. by_parent_case m p h e (more (o.outer m p h e)) (cases_eq (parent_of t m) x)) where
        by_parent_case : (m : ℕ) → 0 < m → m < length t → is_open m ≡ true → (is_ancestor t x (parent_of t m) ≡ true) ⊎ ((is_ancestor t (parent_of t m) x ≡ true) ⊎ Parted (parent_of t m) x) → (parent_of t m ≡ x) ⊎ (parent_of t m ≢ x)
            → (is_ancestor t x m ≡ true) ⊎ ((is_ancestor t m x ≡ true) ⊎ Parted m x)
        by_parent_case m p h e (inl z) s = inl (ancestor_up t tr.rooted x m p h z)
        by_parent_case m p h e (inr (inr z)) s = inr (inr (record {
          fork = z.fork;
          is = z.is;
          one = z.one;
          other = z.other;
          one_pos = z.one_pos;
          one_low = z.one_low;
          other_pos = z.other_pos;
          other_low = z.other_low;
          differ = z.differ;
          one_in = z.one_in;
          other_in = z.other_in;
          one_above = ancestor_up t tr.rooted z.one m p h z.one_above;
          other_above = z.other_above;
        }))
        by_parent_case m p h e (inr (inl z)) (inl s) = inl (ancestor_up t tr.rooted x m p h (let P : ℕ → Type 0 = λ y. is_ancestor t x y ≡ true in subst P (sym s) (ancestor_self t x)))
        by_parent_case m p h e (inr (inl z)) (inr s) =
            let w = child_to t tr (parent_of t m) x hx z s in
            by_child w.0 w.1 w.2 w.3 w.4 (cases_eq w.0 m) (cases_Bool (is_fork t (parent_of t m))) where
              by_child : (q : ℕ) → 0 < q → q < length t → parent_of t q ≡ parent_of t m → is_ancestor t q x ≡ true → (q ≡ m) ⊎ (q ≢ m) → (is_fork t (parent_of t m) ≡ true) ⊎ (is_fork t (parent_of t m) ≡ false) → (is_ancestor t x m ≡ true) ⊎ ((is_ancestor t m x ≡ true) ⊎ Parted m x)
              by_child q a b d v (inl y) f = inr (inl (ap (λ y. is_ancestor t y x) (sym y) ∙ v))
              by_child q a b d v (inr y) (inl f) = inr (inr (record {
                fork = parent_of t m;
                is = f;
                one = m;
                other = q;
                one_pos = p;
                one_low = h;
                other_pos = a;
                other_low = b;
                differ = λ i. y (sym i);
                one_in = refl;
                other_in = d;
                one_above = ancestor_self t m;
                other_above = v;
              }))
              by_child q a b d v (inr y) (inr f) = absurd (y (sym (o.one m q p a h b e (open_above q x hx ox v) (sym d) f)))

  -- owners along descent
  around_less : (y : ℕ) → 0 < y → y < used c → around c y < y
  around_less y p h = let l : slice_index c.parents y < y = g.rooted y p h in omega (arith, own_le c cuts joins (is_pending t) col g (slice_index c.parents y) (omega arith))

  descends_less : (x y : ℕ) → y < used c → Descends c x y → x < y
  descends_less x y h (child p e) = let l = around_less y p h in omega (arith, e)
  descends_less x y h (further p w) = let l : around c y < y = around_less y p h in let z : x < around c y = descends_less x (around c y) (omega arith) w in omega arith

  -- if a trace descends from two, they are one trace, or one descends from the other
  descends_both : (a b y : ℕ) → Descends c a y → Descends c b y → (a ≡ b) ⊎ (Descends c a b ⊎ Descends c b a)
  descends_both a b y (child p e) (child q f) = inl (sym e ∙ f)
  descends_both a b y (child p e) (further q w) = inr (inr (let P : ℕ → Type 0 = λ z. Descends c b z in subst P e w))
  descends_both a b y (further p v) (child q f) = inr (inl (let P : ℕ → Type 0 = λ z. Descends c a z in subst P f v))
  descends_both a b y (further p v) (further q w) = descends_both a b (around c y) v w

  own_low : (n : ℕ) → own n < used c
  own_low n = omega (arith, own_le c cuts joins (is_pending t) col g (col n) (low n), low n)

  odd_pos : (s : ℕ) → s % 2 ≡ 1 → 0 < s
  odd_pos s e = omega arith

  -- the two strands of a split fork that was not joined are in traces from which no trace descends in common
  split_apart : (f y : ℕ) → y < used c → is_fork t f ≡ true → fork_column t f + 1 < used c → has cuts (fork_column t f) ≡ true → has joins (fork_column t f) ≡ false
      → (y ≡ fork_column t f) ⊎ Descends c (fork_column t f) y → (y ≡ fork_column t f + 1) ⊎ Descends c (fork_column t f + 1) y → ⊥
  split_apart f y hy e h cut un (inl a) (inl b) = omega (arith, a, b)
  split_apart f y hy e h cut un (inl a) (inr b) = let l : fork_column t f + 1 < y = descends_less (fork_column t f + 1) y hy b in omega (arith, a)
  split_apart f y hy e h cut un (inr a) (inl b) = under (let P : ℕ → Type 0 = λ z. Descends c (fork_column t f) z in subst P b a) where
    w_low : around c (fork_column t f + 1) < fork_column t f
    w_low = let l = around_less (fork_column t f) (odd_pos (fork_column t f) (odd_column t f)) (omega arith) in omega (arith, ap (owner c) (g.pairs (fork_column t f) (odd_column t f) (omega arith)))

    under : Descends c (fork_column t f) (fork_column t f + 1) → ⊥
    under (child p q) = omega (arith, q, w_low)
    under (further p w) = let l : fork_column t f < around c (fork_column t f + 1) = descends_less (fork_column t f) (around c (fork_column t f + 1)) (omega (arith, w_low)) w in omega (arith, w_low)
  split_apart f y hy e h cut un (inr a) (inr b) = by_both (descends_both (fork_column t f) (fork_column t f + 1) y a b) where
    w_low : around c (fork_column t f + 1) < fork_column t f
    w_low = let l = around_less (fork_column t f) (odd_pos (fork_column t f) (odd_column t f)) (omega arith) in omega (arith, ap (owner c) (g.pairs (fork_column t f) (odd_column t f) (omega arith)))

    under : Descends c (fork_column t f) (fork_column t f + 1) → ⊥
    under (child p q) = omega (arith, q, w_low)
    under (further p w) = let l : fork_column t f < around c (fork_column t f + 1) = descends_less (fork_column t f) (around c (fork_column t f + 1)) (omega (arith, w_low)) w in omega (arith, w_low)

    by_both : (fork_column t f ≡ fork_column t f + 1) ⊎ (Descends c (fork_column t f) (fork_column t f + 1) ⊎ Descends c (fork_column t f + 1) (fork_column t f)) → ⊥
    by_both (inl q) = omega (arith, q)
    by_both (inr (inl q)) = under q
    by_both (inr (inr q)) = let l : fork_column t f + 1 < fork_column t f = descends_less (fork_column t f + 1) (fork_column t f) (omega arith) q in omega arith

  apart_own : (i f : ℕ) → fork_column t f + 1 < used c → has cuts (fork_column t f) ≡ true → has joins (fork_column t f) ≡ false → (i ≡ fork_column t f) ⊎ (i ≡ fork_column t f + 1) → owner c i ≡ i
  apart_own i f h cut un e =
      let left : left_column_of i ≡ fork_column t f = elim e [ inl q ↦ ap left_column_of q ∙ left_of_odd (fork_column t f) (odd_column t f) | inr q ↦ ap left_column_of q ∙ left_of_next (fork_column t f) (odd_column t f) ] in
      let some : 0 < i = elim e [ inl q ↦ omega (arith, q, odd_pos (fork_column t f) (odd_column t f)) | inr q ↦ omega (arith, q) ] in
      let lo : i < used c = elim e [ inl q ↦ omega (arith, q) | inr q ↦ omega (arith, q) ] in
      g.apart i some lo (is_split cuts joins i (ap (has cuts) left ∙ cut) (ap (has joins) left ∙ un))

  under_strand : (m n y : ℕ) → n < length t → is_ancestor t m n ≡ true → own n ≡ y → (i : ℕ) → owner c (col m) ≡ i → (y ≡ i) ⊎ Descends c i y
  under_strand m n y h e q i z = elim (owners_descend c words t cuts joins tr (stands_of c words t cuts joins k) m n h e) [
    | inl w ↦ inl (sym q ∙ w ∙ z)
    | inr w ↦ inr (let P : ℕ → Type 0 = λ v. Descends c v y in let R : ℕ → Type 0 = λ v. Descends c (own m) v in subst P z (subst R q w))
  ]

  module _ (p : ℕ) (m : MayGoOn c t cuts is_open p) where
    -- the two strands at which a strand that may go on and something open part
    never : (x : ℕ) → x < length t → is_open x ≡ true → (is_strand t x ≡ false) ⊎ MayGoOn c t cuts is_open x → own x ≡ own p → Parted p x → ⊥
    never x hx ox no_strand same z = by_columns (le_or_lt (fork_column t z.fork + 2) (used c)) where
      one_open : is_open z.one ≡ true
      one_open = open_above z.one p m.there m.opened z.one_above

      other_open : is_open z.other ≡ true
      other_open = open_above z.other x hx ox z.other_above

      fork_open : is_open z.fork ≡ true
      fork_open = ap is_open (sym z.one_in) ∙ o.outer z.one z.one_pos z.one_low one_open

      one_strand : is_strand t z.one ≡ true
      one_strand = strand_in t tr z.one z.fork z.one_pos z.one_low z.one_in z.is

      other_strand : is_strand t z.other ≡ true
      other_strand = strand_in t tr z.other z.fork z.other_pos z.other_low z.other_in z.is

      at_fork : (y : ℕ) → parent_of t y ≡ z.fork → IsUnsplit c t cuts z.fork → (is_fork t (parent_of t y) ≡ true) × IsUnsplit c t cuts (parent_of t y)
      at_fork y e u = let P : ℕ → Type 0 = λ f. (is_fork t f ≡ true) × IsUnsplit c t cuts f in subst P (sym e) (z.is, u)

      when_unsplit : IsUnsplit c t cuts z.fork → ⊥
      when_unsplit u = by_order (order z.one z.other) where
        by_order : (z.one < z.other) ⊎ ((z.one ≡ z.other) ⊎ (z.other < z.one)) → ⊥
        by_order (inl l) = elim (cases_eq x z.other) [
          | inr ne ↦ (
              let w = at_fork z.other z.other_in u in
              cc (o.left_first z.one z.other x z.one_pos l z.other_low (z.one_in ∙ sym z.other_in) w.0 w.1 hx z.other_above ne, one_open))
          | inl q ↦ elim no_strand [
            | inl plain ↦ cc (ap (is_strand t) q, plain, other_strand)
            | inr also ↦ (
                let w = at_fork x (ap (parent_of t) q ∙ z.other_in) u in
                cc (also.left_done z.one z.one_pos (omega (arith, q)) (z.one_in ∙ sym (ap (parent_of t) q ∙ z.other_in)) w.0 w.1, one_open))
          ]
        ]
        by_order (inr (inl q)) = z.differ q
        by_order (inr (inr l)) = elim (cases_eq p z.one) [
          | inl q ↦ (
              let w = at_fork p (ap (parent_of t) q ∙ z.one_in) u in
              cc (m.left_done z.other z.other_pos (omega (arith, q)) (z.other_in ∙ sym (ap (parent_of t) q ∙ z.one_in)) w.0 w.1, other_open))
          | inr q ↦ (
              let w = at_fork z.one z.one_in u in
              cc (o.left_first z.other z.one p z.other_pos l z.one_low (z.other_in ∙ sym z.one_in) w.0 w.1 m.there z.one_above q, other_open))
        ]

      when_split : fork_column t z.fork + 1 < used c → has cuts (fork_column t z.fork) ≡ true → ⊥
      when_split h cut = by_order (order z.one z.other) where
        un : has joins (fork_column t z.fork) ≡ false
        un = o.joined z.fork z.is h fork_open

        left_col : (a b : ℕ) → a < b → 0 < a → b < length t → parent_of t a ≡ z.fork → parent_of t b ≡ z.fork → is_strand t a ≡ true → own a ≡ fork_column t z.fork
        left_col a b l pa hb ea eb sa = elim (side t tr (used c) a z.fork pa (omega arith) ea sa) [
          | bare u q ↦ absurd (omega arith)
          | left u r q ↦ ap (owner c) q ∙ apart_own (fork_column t z.fork) z.fork h cut un (inl refl)
          | right u r q ↦ absurd (is_left t tr a b z.fork z.is l hb ea eb r)
        ]

        right_col : (a b : ℕ) → a < b → 0 < a → b < length t → parent_of t a ≡ z.fork → parent_of t b ≡ z.fork → is_strand t b ≡ true → own b ≡ fork_column t z.fork + 1
        right_col a b l pa hb ea eb sb = elim (side t tr (used c) b z.fork (omega arith) hb eb sb) [
          | bare u q ↦ absurd (omega arith)
          | left u r q ↦ absurd (cc (right_of t tr a b pa l (strand_in t tr a z.fork pa (omega arith) ea z.is) (ea ∙ sym eb), r))
          | right u r q ↦ ap (owner c) q ∙ apart_own (fork_column t z.fork + 1) z.fork h cut un (inr refl)
        ]

        by_order : (z.one < z.other) ⊎ ((z.one ≡ z.other) ⊎ (z.other < z.one)) → ⊥
        by_order (inl l) =
            split_apart z.fork (own p) (own_low p) z.is h cut un (under_strand z.one p (own p) m.there z.one_above refl (fork_column t z.fork) (left_col z.one z.other l z.one_pos z.other_low z.one_in z.other_in one_strand))
            (under_strand z.other x (own p) hx z.other_above same (fork_column t z.fork + 1) (right_col z.one z.other l z.one_pos z.other_low z.one_in z.other_in other_strand))
        by_order (inr (inl q)) = z.differ q
        by_order (inr (inr l)) =
            split_apart z.fork (own p) (own_low p) z.is h cut un (under_strand z.other x (own p) hx z.other_above same (fork_column t z.fork) (left_col z.other z.one l z.other_pos z.one_low z.other_in z.one_in other_strand))
            (under_strand z.one p (own p) m.there z.one_above refl (fork_column t z.fork + 1) (right_col z.other z.one l z.other_pos z.one_low z.other_in z.one_in one_strand))

      by_columns : (fork_column t z.fork + 2 ≤ used c) ⊎ (used c < fork_column t z.fork + 2) → ⊥
      by_columns (inr l) = when_unsplit (inl l)
      by_columns (inl l) = elim (cases_Bool (has cuts (fork_column t z.fork))) [ inl q ↦ when_split (omega arith) q | inr q ↦ when_unsplit (inr q) ]

    -- whatever is open in the trace stands above
    pub above_place : (x : ℕ) → x < length t → is_open x ≡ true → is_strand t x ≡ false → own x ≡ own p → is_ancestor t x p ≡ true
    above_place x hx ox no_strand same = elim (meet x hx ox p m.there m.opened) [
      | inl e ↦ e
      | inr w ↦ elim w [
        | inl e ↦ elim (cases_eq p x) [
          | inl q ↦ (let P : ℕ → Type 0 = λ y. is_ancestor t x y ≡ true in subst P (sym q) (ancestor_self t x))
          | inr q ↦ (let z = child_to t tr p x hx e q in absurd (m.innermost z.0 z.1 z.2 z.3 (open_above z.0 x hx ox z.4)))
        ]
        | inr z ↦ absurd (never x hx ox (inl no_strand) same z)
      ]
    ]

    -- two strands that may go on are in different traces
    pub owners_differ : (q : ℕ) → MayGoOn c t cuts is_open q → own q ≡ own p → q ≡ p
    owners_differ q also same = elim (meet q also.there also.opened p m.there m.opened) [
      | inl e ↦ elim (cases_eq q p) [
        | inl w ↦ w
        | inr ne ↦ (let z = child_to t tr q p m.there e (λ w. ne w) in absurd (also.innermost z.0 z.1 z.2 z.3 (open_above z.0 p m.there m.opened z.4)))
      ]
      | inr w ↦ elim w [
        | inl e ↦ elim (cases_eq p q) [
          | inl z ↦ sym z
          | inr ne ↦ (let z = child_to t tr p q also.there e (λ w. ne w) in absurd (m.innermost z.0 z.1 z.2 z.3 (open_above z.0 q also.there also.opened z.4)))
        ]
        | inr z ↦ absurd (never q also.there also.opened (inr also) same z)
      ]
    ]

    pub goes_on : GoesOn c t (col p) p
    goes_on = λ b h pb same. above_place b h (o.pending b pb) (pending_no_strand t b pb) same

  -- the segment in which an open node stands
  pub record Segment (n : ℕ) : Type 0 where
    pub start : ℕ
    pub starts : SegmentStart c joins (own n) start
    pub before : start ≤ col n
    pub same : gap c (col n) ≡ gap c start
    pub unjoined : 0 < col n → has joins (left_column_of (col n)) ≡ false
    pub last : (f : ℕ) → is_fork t f ≡ true → fork_column t f + 1 < used c → is_ancestor t f n ≡ true → f ≢ n → fork_column t f ≤ start

  pub segment_of : (n : ℕ) → n < length t → is_open n ≡ true → Segment n
  segment_of = by_parent t tr.rooted (λ n. is_open n ≡ true → Segment n) (λ e. at_root) (λ m p h more e. by_kind m p h e (more (o.outer m p h e)) (cases_Bool (is_strand t m))) where
    col_root : col 0 ≡ 0
    col_root = ap (λ s. column_in t (used c) s s) (strand_of_root t)

    at_root : Segment 0
    at_root = record {
      start = 0;
      starts = inl (sym (ap (owner c) col_root ∙ g.root));
      before = omega arith;
      same = ap (gap c) col_root;
      unjoined = λ p. absurd (omega (arith, col_root));
      last = λ f e h a n. absurd (n (ancestor_root t f a));
    }

    passed_on : (m : ℕ) → 0 < m → m < length t → col m ≡ col (parent_of t m) → ((f : ℕ) → is_fork t f ≡ true → fork_column t f + 1 < used c → f ≢ parent_of t m) → Segment (parent_of t m) → Segment m
    passed_on m p h q ne w = record {
      start = w.start;
      starts = (let P : ℕ → Type 0 = λ x. SegmentStart c joins x w.start in subst P (sym (ap (owner c) q)) w.starts);
      before = omega (arith, q, w.before);
      same = ap (gap c) q ∙ w.same;
      unjoined = λ z. ap (λ x. has joins (left_column_of x)) q ∙ w.unjoined (omega (arith, q));
      last = λ f e i a n. elim (ancestor_cases t tr.rooted f m p h a) [ inl z ↦ absurd (n (sym z)) | inr z ↦ w.last f e i z (ne f e i) ];
    }

    with_columns : (m : ℕ) → 0 < m → m < length t → is_open m ≡ true → is_fork t (parent_of t m) ≡ true → fork_column t (parent_of t m) + 1 < used c → (col m ≡ fork_column t (parent_of t m)) ⊎ (col m ≡ fork_column t (parent_of t m) + 1) → Segment m
    with_columns m p h e ff i q = by_cut (cases_Bool (has cuts (fork_column t (parent_of t m)))) where
      f : ℕ
      f = parent_of t m

      phi : ℕ
      phi = fork_column t (parent_of t m)

      un : has joins (fork_column t (parent_of t m)) ≡ false
      un = o.joined (parent_of t m) ff i (o.outer m p h e)

      left : left_column_of (col m) ≡ fork_column t (parent_of t m)
      left = elim q [ inl z ↦ ap left_column_of z ∙ left_of_odd (fork_column t (parent_of t m)) (odd_column t (parent_of t m)) | inr z ↦ ap left_column_of z ∙ left_of_next (fork_column t (parent_of t m)) (odd_column t (parent_of t m)) ]

      some : 0 < col m
      some = elim q [ inl z ↦ omega (arith, z, odd_pos (fork_column t (parent_of t m)) (odd_column t (parent_of t m))) | inr z ↦ omega (arith, z) ]

      earlier : (x : ℕ) → is_fork t x ≡ true → is_ancestor t x m ≡ true → x ≢ m → fork_column t x ≤ fork_column t (parent_of t m)
      earlier x ex a n = elim (ancestor_cases t tr.rooted x m p h a) [
        | inl z ↦ absurd (n (sym z))
        | inr z ↦ (
            let lo : parent_of t m < m = tr.rooted m p h in
            let le : x ≤ parent_of t m = ancestor_le t tr.rooted x (parent_of t m) (omega arith) z in
            elim (cases_eq x (parent_of t m)) [
              | inl y ↦ omega (arith, ap (fork_column t) y)
              | inr y ↦ (let z2 : fork_column t x + 2 ≤ fork_column t (parent_of t m) = fork_column_lt t x (parent_of t m) (omega (arith, y)) ex in omega arith)
            ])
      ]

      parent_col : slice_index c.parents (col m) ≡ slice_index c.parents (fork_column t (parent_of t m))
      parent_col = elim q [ inl z ↦ ap (λ x. slice_index c.parents x) z | inr z ↦ ap (λ x. slice_index c.parents x) z ∙ g.pairs (fork_column t (parent_of t m)) (odd_column t (parent_of t m)) (omega arith) ]

      by_cut : (has cuts (fork_column t (parent_of t m)) ≡ true) ⊎ (has cuts (fork_column t (parent_of t m)) ≡ false) → Segment m
      by_cut (inl cut) =
          let self : owner c (col m) ≡ col m = apart_own (col m) (parent_of t m) i cut un q in
          record {
            start = col m;
            starts = inl (sym self);
            before = omega arith;
            same = refl;
            unjoined = λ z. ap (has joins) left ∙ un;
            last = λ x ex j a n. (let le = earlier x ex a n in elim q [ inl z ↦ omega (arith, z) | inr z ↦ omega (arith, z) ]);
          }
      by_cut (inr uncut) =
          let together : owner c (col m) ≡ owner c (slice_index c.parents (fork_column t (parent_of t m))) = g.together (col m) some (low m) (unsplit cuts joins (col m) (ap (has cuts) left ∙ uncut)) ∙ ap (owner c) parent_col in
          record {
            start = fork_column t (parent_of t m);
            starts = inr (record { low = omega arith; left = odd_column t (parent_of t m); unjoined = un; outside = sym together });
            before = elim q [ inl z ↦ omega (arith, z) | inr z ↦ omega (arith, z) ];
            same = elim q [ inl z ↦ ap (gap c) z | inr z ↦ ap (gap c) z ∙ g.right_gap (fork_column t (parent_of t m)) (odd_column t (parent_of t m)) (omega arith) uncut ];
            unjoined = λ z. ap (has joins) left ∙ un;
            last = λ x ex j a n. earlier x ex a n;
          }

    by_kind : (m : ℕ) → 0 < m → m < length t → is_open m ≡ true → Segment (parent_of t m) → (is_strand t m ≡ true) ⊎ (is_strand t m ≡ false) → Segment m
    by_kind m p h e w (inr ns) = passed_on m p h (column_other t tr (used c) m p h ns) (λ f ff i q. cc (strand_in t tr m f p h (sym q) ff, ns)) w
    by_kind m p h e w (inl s) =
        let ff : is_fork t (parent_of t m) ≡ true = tr.strands m h p s in
        elim (side t tr (used c) m (parent_of t m) p h refl s) [
          | bare u q ↦ passed_on m p h q (λ f e2 i y. omega (arith, u, ap (fork_column t) y)) w
          | left i r q ↦ with_columns m p h e ff i (inl q)
          | right i r q ↦ with_columns m p h e ff i (inr q)
        ]

  module _ (p : ℕ) (m : MayGoOn c t cuts is_open p) where
    -- the fork of an open start stands above
    fork_above : (s : ℕ) → IsOpen c joins (own p) s → (f : ℕ) × (is_fork t f ≡ true) × (fork_column t f ≡ s) × (fork_column t f + 1 < used c) × (is_ancestor t f p ≡ true) × (f ≢ p)
    fork_above s w =
        let z = k.all_used s w.low (odd_pos s w.left) in
        let e : fork_column t z.0 ≡ s = z.2 ∙ left_of_odd s w.left in
        let h : fork_column t z.0 + 1 < used c = (let r = right_used c cuts joins (is_pending t) col g s w.low w.left in omega (arith, e)) in
        let un : has joins (fork_column t z.0) ≡ false = ap (has joins) e ∙ w.unjoined in
        let owned : own z.0 ≡ own p = ap (owner c) (sym (k.forked_from z.0 z.1 h)) ∙ ap (around c) e ∙ w.outside in
        (z.0, z.1, e, h, above_place p m z.0 (fork_there t z.0 z.1) (o.forks z.0 z.1 h un) (fork_no_strand t z.0 z.1) owned, λ q. cc (ap (is_fork t) q, z.1, m.no_fork))

    not_cut : (s : ℕ) → IsCut c cuts joins (own p) s → ⊥
    not_cut s w =
        let z = fork_above s w.fork in
        let y = child_to t tr z.0 p m.there z.4 z.5 in
        let st : is_strand t y.0 ≡ true = strand_in t tr y.0 z.0 y.1 y.2 y.3 z.1 in
        let cut : has cuts (fork_column t z.0) ≡ true = ap (has cuts) z.2 ∙ w.cut in
        let un : has joins (fork_column t z.0) ≡ false = ap (has joins) z.2 ∙ w.fork.unjoined in
        let lo : own p < s = Rattle.cw_trace.proofs.Segments.Lines.open_after c cuts joins (is_pending t) col g (own p) s w.fork in
        by_side z.0 y.0 s z.2 lo y.2 y.4 (elim (side t tr (used c) y.0 z.0 y.1 y.2 y.3 st) [
          | bare u q ↦ absurd (let h : fork_column t z.0 + 1 < used c = z.3 in omega arith)
          | left h r q ↦ (fork_column t z.0, omega arith, ap (owner c) q ∙ apart_own (fork_column t z.0) z.0 h cut un (inl refl))
          | right h r q ↦ (fork_column t z.0 + 1, omega arith, ap (owner c) q ∙ apart_own (fork_column t z.0 + 1) z.0 h cut un (inr refl))
        ]) where
          by_side : (f y s : ℕ) → fork_column t f ≡ s → own p < s → y < length t → is_ancestor t y p ≡ true → (i : ℕ) × (fork_column t f ≤ i) × (own y ≡ i) → ⊥
          by_side f y s e lo h a w = elim (under_strand y p (own p) m.there a refl w.0 w.2) [
            | inl q ↦ (let le = w.1 in omega (arith, q, e))
            | inr q ↦ (let le = w.1 in let l : w.0 < own p = descends_less w.0 (own p) (own_low p) q in omega (arith, e))
          ]

    -- what the trace of a strand that may go on offers
    pub active : Active c cuts joins (col p)
    active =
        let w = segment_of p m.there m.opened in
        record {
          low = low p;
          uncut = not_cut;
          unjoined = w.unjoined;
          start = w.start;
          starts = w.starts;
          before = w.before;
          same = w.same;
          last = λ s st. elim st [
            | inl q ↦ (let z : own p ≤ w.start = start_after c cuts joins (is_pending t) col g (own p) w.start w.starts in omega (arith, q))
            | inr q ↦ (let z = fork_above s q in let le : fork_column t z.0 ≤ w.start = w.last z.0 z.1 z.3 z.4 z.5 in omega (arith, z.2))
          ];
        }

  -- and use different gaps
  pub gaps_differ : (p q : ℕ) → MayGoOn c t cuts is_open p → MayGoOn c t cuts is_open q → gap c (col p) ≡ gap c (col q) → p ≡ q
  gaps_differ p q m n e =
      let a = active p m in
      let b = active q n in
      let same : own p ≡ own q =
      g.one_trace (own p) (own q) a.start b.start (own_trace c cuts joins (is_pending t) col g (col p) (low p)) (own_trace c cuts joins (is_pending t) col g (col q) (low q)) a.starts b.starts
      (λ h w f. a.uncut h w) (λ h w f. b.uncut h w) (sym a.same ∙ e ∙ b.same) in
      sym (owners_differ p m q n (sym same))
