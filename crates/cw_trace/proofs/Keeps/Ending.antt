-- What is kept where a block closes: the innermost one of a strand that may go on.
use Rattle.std.proofs.Common.{◌≡◌, ◌≢◌, ℕ, zero, suc, ◌+◌, ◌*◌, ◌<◌, ◌≤◌, List, length, refl, ap, sym, ◌∙◌, arith, Bool, true, false, Option, Some, None, nat_eq, nat_lt, inl, inr, subst, eq-eqb, eqb-true}
use Rattle.std.specs.Prelude.{◌&&◌, ◌↔◌, IsTrue, nat_le, slice_index, slice_set, if◌then◌else◌}
use Rattle.std.proofs.lemmas.Bool.{ne_eqb, and_parts, and_from, cases_eq}
use Rattle.std.proofs.lemmas.List.{get_or-set_same, get_or-set_other, length-set}
use Rattle.cw_tree.specs.declared.node.Node.{Node}
use Rattle.cw_tree.specs.Nodes.{parent_of, stamp_of, is_fork, is_pending, is_strand, below}
use Rattle.cw_tree.specs.Walks.{IsRooted, is_ancestor, has}
use Rattle.cw_tree.specs.Series.{strand_of}
use Rattle.cw_tree.specs.Names.{is_right}
use Rattle.cw_tree.specs.Shape.{IsTree}
use Rattle.cw_tree.proofs.Walks.Ancestors.{ancestor_le}
use Rattle.cw_tree.proofs.Members.{filter_same, any_same}
use Rattle.cw_tree.proofs.NextNodes.Kept.{KeepsParents, ancestor_kept, strand_of_kept}
use Rattle.cw_tree.proofs.Walks.Strands.{strand_of_le}
use Rattle.cw_tree.proofs.Walks.There.{pending_there, fork_there}
use Rattle.cw_trace.specs.Columns.{ColumnTable, used, owner, gap, left_column_of, closed_word}
use Rattle.cw_trace.specs.Stands.{GoesOn, column, column_in, fork_column, outermost_pending, stamp_or_0}
use Rattle.cw_trace.specs.Segments.{SegmentStart, IsCut, IsTrace, IsLive, Within, Segments, Active, Ups}
use Rattle.cw_trace.specs.Keeps.{Keeps}
use Rattle.cw_trace.proofs.Stands.Counting.{none_below, some_below}
use Rattle.cw_trace.proofs.Segments.Lines.{le_or_lt, used_some, gap_le, own_trace}
use Rattle.cw_trace.proofs.Stands.UpsKept.{cut_of}
use Rattle.cw_trace.proofs.Keeps.Meaning.{column_low, first_of_both}
use Rattle.cw_trace.proofs.Segments.Alike.{segments_with}

-- one block fewer is pending: q, after which none of its trace was begun
pub record OneFewer (c : ColumnTable) (pend : ℕ → Bool) (col : ℕ → ℕ) (pend2 : ℕ → Bool) (col2 : ℕ → ℕ) (q : ℕ) : Type 0 where
  pub pending : pend q ≡ true
  pub back : (b : ℕ) → pend2 b ≡ true → (pend b ≡ true) × (b ≢ q) × (col2 b ≡ col b)
  pub forth : (b : ℕ) → pend b ≡ true → b ≢ q → (pend2 b ≡ true) × (col2 b ≡ col b)
  pub last : (b : ℕ) → pend b ≡ true → owner c (col b) ≡ owner c (col q) → b ≤ q

module _ (c : ColumnTable) (cuts joins : List ℕ) (pend : ℕ → Bool) (col : ℕ → ℕ) (pend2 : ℕ → Bool) (col2 : ℕ → ℕ) (q : ℕ) (one : OneFewer c pend col pend2 col2 q) (a : Active c cuts joins (col q)) (g : Segments c cuts joins pend col) where
  within_back : (x s b : ℕ) → Within c pend2 col2 x s b → Within c pend col x s b
  within_back x s b w = let z = one.back b w.pending in record { pending = z.0; owned = sym (ap (owner c) z.2) ∙ w.owned; after = omega (arith, z.2, w.after) }

  gap_first2 : (x s b : ℕ) → IsTrace c cuts joins x → SegmentStart c joins x s → IsLive c cuts joins x s → Within c pend2 col2 x s b → (e : ℕ) × (e ≤ b) × (pend2 e ≡ true) × (gap c (col2 e) ≡ gap c s)
  gap_first2 x s b k st l w =
      let v = within_back x s b w in
      let z = g.gap_first x s b k st l v in
      let y = one.back b w.pending in
      let le : z.0 ≤ b = z.1 in
      elim (cases_eq z.0 q) [
        | inr n ↦ (let u = one.forth z.0 z.2 n in (z.0, le, u.0, ap (gap c) u.1 ∙ z.3))
        | inl e ↦ absurd (
            let owned : owner c (col z.0) ≡ x = (g.gap_owned x s z.0 k st l z.2 z.3).0 in
            let lo : b ≤ q = one.last b y.0 (v.owned ∙ sym owned ∙ ap (λ m. owner c (col m)) e) in
            let ne : b ≢ q = y.1 in
            omega (arith, e, ne))
      ]

  parted2 : (x s r : ℕ) → IsTrace c cuts joins x → SegmentStart c joins x s → SegmentStart c joins x r → s < r → (gap c s ≡ gap c r → ⊥) → (b : ℕ) × (col2 b < r) × Within c pend2 col2 x s b
  parted2 x s r k st sr lt ne =
      let z = g.parted x s r k st sr lt ne in
      let w = z.2 in
      let l : col z.0 < r = z.1 in
      elim (cases_eq z.0 q) [
        | inr n ↦ (let u = one.forth z.0 w.pending n in (z.0, omega (arith, u.1), record { pending = u.0; owned = ap (owner c) u.1 ∙ w.owned; after = omega (arith, u.1, w.after) }))
        | inl e ↦ absurd (
            let P : ℕ → Type 0 = λ y. SegmentStart c joins y r in
            let le : r ≤ a.start = a.last r (subst P (sym w.owned ∙ ap (λ m. owner c (col m)) e) sr) in
            let lo : a.start ≤ col q = a.before in
            omega (arith, ap col e))
      ]

  pub segments_close : Segments c cuts joins pend2 col2
  segments_close = segments_with c cuts joins pend col pend2 col2 g (record {
    there = λ b p. (let z = one.back b p in omega (arith, z.2, g.there b z.0));
    gap_owned = λ x s b n st l p e. (let z = one.back b p in let w = g.gap_owned x s b n st l z.0 (sym (ap (gap c) z.2) ∙ e) in (ap (owner c) z.2 ∙ w.0, omega (arith, z.2, w.1)));
    gap_first = gap_first2;
    shared = λ x s r b n st sr lt e w k. (let z = one.back b w.pending in g.shared x s r b n st sr lt e (within_back x s b w) (omega (arith, z.2)));
    parted = parted2;
  })

  pub ups_close : Ups c cuts joins pend col → Ups c cuts joins pend2 col2
  ups_close u = record {
    no_up = u.no_up;
    up_some = λ x b p k pb o. (let z = one.back b pb in u.up_some x b p k z.0 (sym (ap (owner c) z.2) ∙ o));
    up_none = λ x p k none. u.up_none x p k (λ b pb o. elim (cases_eq b q) [
      | inr n ↦ (let z = one.forth b pb n in none b z.0 (ap (owner c) z.1 ∙ o))
      | inl e ↦ (let P : ℕ → Type 0 = λ y. IsCut c cuts joins y (left_column_of x) in a.uncut (left_column_of x) (subst P (sym o ∙ ap (λ m. owner c (col m)) e) (cut_of c cuts joins pend col g x p k)))
    ]);
  }

  -- nothing else of its gap is pending where it was the first
  pub gap_free : (b : ℕ) → pend2 b ≡ true → gap c (col2 b) ≡ gap c (col q) → q ≤ b → ⊥
  gap_free b p e h =
      let z = one.back b p in
      let ne : b ≢ q = z.1 in
      let live : IsLive c cuts joins (owner c (col q)) a.start = λ k w f. a.uncut k w in
      let w = g.gap_owned (owner c (col q)) a.start b (own_trace c cuts joins pend col g (col q) a.low) a.starts live z.0 (sym (ap (gap c) z.2) ∙ e ∙ a.same) in
      let le : b ≤ q = one.last b z.0 w.0 in
      omega (arith, ne)

-- two trees that differ in no parent, kind or stamp
pub record SameShape (t u : List Node) : Type 0 where
  pub lengths : length u ≡ length t
  pub parents : (n : ℕ) → parent_of u n ≡ parent_of t n
  pub forks : (n : ℕ) → is_fork u n ≡ is_fork t n
  pub strands : (n : ℕ) → is_strand u n ≡ is_strand t n
  pub stamps : (n : ℕ) → stamp_of u n ≡ stamp_of t n

module _ (t u : List Node) (rooted : IsRooted t) (s : SameShape t u) where
  pub parents_kept : KeepsParents t u
  parents_kept = record { rooted = rooted; parents = λ n h. s.parents n }

  pub fork_column_same : (f : ℕ) → fork_column u f ≡ fork_column t f
  fork_column_same f = ap (λ xs. 2 * length xs + 1) (filter_same (is_fork u) (is_fork t) (below f) (λ m i. s.forks m))

  right_same : (n : ℕ) → is_right u n ≡ is_right t n
  right_same n =
      any_same _ _ (below n) (λ m i.
      ap (λ b. nat_lt 0 m && b && nat_eq (parent_of u m) (parent_of u n)) (s.strands m)
      ∙ ap (λ x. nat_lt 0 m && is_strand t m && nat_eq x (parent_of u n)) (s.parents m)
      ∙ ap (λ x. nat_lt 0 m && is_strand t m && nat_eq (parent_of t m) x) (s.parents n))

  strand_same : (n : ℕ) → n < length t → strand_of u n ≡ strand_of t n
  strand_same = strand_of_kept t u parents_kept (λ m h. s.strands m)

  in_same : (size k n : ℕ) → n < length t → column_in u size k n ≡ column_in t size k n
  in_same size zero n h = refl
  in_same size (suc k) zero h = refl
  in_same size (suc k) (suc n) h =
      let f : ℕ = parent_of t (suc n) in
      let low : f < suc n = rooted (suc n) (omega arith) h in
      let le : strand_of t f ≤ f = strand_of_le t rooted f (omega arith) in
      ap (λ x. if nat_lt (fork_column u x + 1) size then (if is_right u (suc n) then fork_column u x + 1 else fork_column u x) else column_in u size k (strand_of u x)) (s.parents (suc n))
      ∙ ap (λ x. if nat_lt (x + 1) size then (if is_right u (suc n) then x + 1 else x) else column_in u size k (strand_of u f)) (fork_column_same f)
      ∙ ap (λ b. if nat_lt (fork_column t f + 1) size then (if b then fork_column t f + 1 else fork_column t f) else column_in u size k (strand_of u f)) (right_same (suc n))
      ∙ ap (λ x. if nat_lt (fork_column t f + 1) size then (if is_right t (suc n) then fork_column t f + 1 else fork_column t f) else x) (ap (column_in u size k) (strand_same f (omega arith)) ∙ in_same size k (strand_of t f) (omega arith))

  pub column_same : (size n : ℕ) → n < length t → column u size n ≡ column t size n
  column_same size n h = let le : strand_of t n ≤ n = strand_of_le t rooted n h in ap (λ x. column_in u size x x) (strand_same n h) ∙ in_same size (strand_of t n) (strand_of t n) (omega arith)

module _ (c : ColumnTable) (words : List ℕ) (t u : List Node) (cuts joins : List ℕ) (tr : IsTree t) (k : Keeps c words t cuts joins) (s : SameShape t u) (q : ℕ) (pq : is_pending t q ≡ true) (goes : GoesOn c t (column t (used c) q) q)
    (a : Active c cuts joins (column t (used c) q)) (closes : (b : ℕ) → is_pending u b ≡ true → (is_pending t b ≡ true) × (b ≢ q)) (stays : (b : ℕ) → is_pending t b ≡ true → b ≢ q → is_pending u b ≡ true)
    (distinct : (b : ℕ) → is_pending t b ≡ true → stamp_of t b ≡ stamp_of t q → b ≡ q) where
  abbrev col : ℕ → ℕ
  col = column t (used c)

  abbrev g : Segments c cuts joins (is_pending t) col
  g = k.segments

  low : (m : ℕ) → col m < used c
  low m = column_low t (used c) m (used_some c cuts joins (is_pending t) col g)

  cols : (m : ℕ) → m < length t → column u (used c) m ≡ col m
  cols m h = column_same t u tr.rooted s (used c) m h

  fc : (f : ℕ) → fork_column u f ≡ fork_column t f
  fc = fork_column_same t u tr.rooted s

  above : (x n : ℕ) → n < length t → is_ancestor u x n ≡ is_ancestor t x n
  above x n h = ancestor_kept t u (parents_kept t u tr.rooted s) x n h

  one : OneFewer c (is_pending t) col (is_pending u) (column u (used c)) q
  one = record {
    pending = pq;
    back = λ b e. (let z = closes b e in (z.0, z.1, cols b (pending_there t b z.0)));
    forth = λ b e n. (stays b e n, cols b (pending_there t b e));
    last = λ b e o. ancestor_le t tr.rooted b q (pending_there t q pq) (goes b (pending_there t b e) e o);
  }

  abbrev words2 : List ℕ
  words2 = closed_word words (gap c (column t (used c) q)) (stamp_of t q)

  abbrev of_gap : ℕ → ℕ → Bool
  of_gap y b = is_pending t b && nat_eq (gap c (column t (used c) b)) y

  low_gap : gap c (col q) < used c
  low_gap = omega (arith, gap_le c cuts joins (is_pending t) (column t (used c)) g (column t (used c) q) (low q), low q)

  -- where the first of a gap is not the one that closes, it stays the first
  first_stays : (y b : ℕ) → outermost_pending t (used c) (λ j. nat_eq (gap c j) y) ≡ Some b → b ≢ q → outermost_pending u (used c) (λ j. nat_eq (gap c j) y) ≡ Some b
  first_stays y b e n = sym same ∙ e where
    w : (b < length t) × (is_pending t b ≡ true) × (gap c (col b) ≡ y)
    w = let v = some_below (of_gap y) (length t) b e in let z = and_parts (is_pending t b) (nat_eq (gap c (column t (used c) b)) y) v.passed in (v.low, z.0, eqb-true _ _ z.1)

    least : (v : ℕ) → is_pending t v ≡ true → gap c (col v) ≡ y → b ≤ v
    least v p x = elim (le_or_lt b v) [ inl l ↦ l | inr l ↦ absurd (cc ((some_below (of_gap y) (length t) b e).first v l, and_from (is_pending t v) (nat_eq (gap c (column t (used c) v)) y) p (eq-eqb _ _ x))) ]

    same : outermost_pending t (used c) (λ j. nat_eq (gap c j) y) ≡ outermost_pending u (used c) (λ j. nat_eq (gap c j) y)
    same =
        first_of_both (of_gap y) (λ b. is_pending u b && nat_eq (gap c (column u (used c) b)) y) (length t) (length u)
        (λ v h f. let z = and_parts (is_pending u v) (nat_eq (gap c (column u (used c) v)) y) f in
        let x = closes v z.0 in
        let l = pending_there t v x.0 in
        (l, and_from (is_pending t v) (nat_eq (gap c (column t (used c) v)) y) x.0 (sym (ap (λ m. nat_eq (gap c m) y) (cols v l)) ∙ z.1)))
        (λ v h f. let z = and_parts (is_pending t v) (nat_eq (gap c (column t (used c) v)) y) f in
        (b, least v z.0 (eqb-true _ _ z.1), omega (arith, w.0, s.lengths), and_from (is_pending u b) (nat_eq (gap c (column u (used c) b)) y) (stays b w.1 n) (eq-eqb _ _ (ap (gap c) (cols b w.0) ∙ w.2))))

  none_stays : (y : ℕ) → ((b : ℕ) → is_pending u b ≡ true → gap c (column u (used c) b) ≡ y → ⊥) → outermost_pending u (used c) (λ j. nat_eq (gap c j) y) ≡ None
  none_stays y none = by_found (outermost_pending u (used c) (λ j. nat_eq (gap c j) y)) refl where
    by_found : (o : Option ℕ) → outermost_pending u (used c) (λ j. nat_eq (gap c j) y) ≡ o → outermost_pending u (used c) (λ j. nat_eq (gap c j) y) ≡ None
    by_found None e = e
    by_found (Some b) e =
        let v = some_below (λ b. is_pending u b && nat_eq (gap c (column u (used c) b)) y) (length u) b e in
        let z = and_parts (is_pending u b) (nat_eq (gap c (column u (used c) b)) y) v.passed in
        absurd (none b z.0 (eqb-true _ _ z.1))

  gone : (y : ℕ) → outermost_pending t (used c) (λ j. nat_eq (gap c j) y) ≡ None → outermost_pending u (used c) (λ j. nat_eq (gap c j) y) ≡ None
  gone y e = none_stays y none where
    none : (b : ℕ) → is_pending u b ≡ true → gap c (column u (used c) b) ≡ y → ⊥
    none b p x =
        let z = closes b p in
        let l = pending_there t b z.0 in
        cc (none_below (of_gap y) (length t) e b l, and_from (is_pending t b) (nat_eq (gap c (column t (used c) b)) y) z.0 (eq-eqb _ _ (sym (ap (gap c) (cols b l)) ∙ x)))

  word_other : (y : ℕ) → y ≢ gap c (col q) → slice_index words2 y ≡ slice_index words y
  word_other y n = by_test (nat_eq (slice_index words (gap c (col q))) (stamp_of t q)) where
    by_test : (b : Bool) → slice_index (if b then slice_set words (gap c (col q)) 0 else words) y ≡ slice_index words y
    by_test true = get_or-set_other words (gap c (col q)) y 0 0 n
    by_test false = refl

  length_words : length words2 ≡ length words
  length_words = by_test (nat_eq (slice_index words (gap c (col q))) (stamp_of t q)) where
    by_test : (b : Bool) → length (if b then slice_set words (gap c (col q)) 0 else words) ≡ length words
    by_test true = length-set words (gap c (col q)) 0
    by_test false = refl

  words_new : (y : ℕ) → y < used c → slice_index words2 y ≡ stamp_or_0 u (outermost_pending u (used c) (λ j. nat_eq (gap c j) y))
  words_new y h = by_first (outermost_pending t (used c) (λ j. nat_eq (gap c j) y)) refl where
    old_word : (o : Option ℕ) → outermost_pending t (used c) (λ j. nat_eq (gap c j) y) ≡ o → slice_index words y ≡ stamp_or_0 t o
    old_word o e = k.words_are y h ∙ ap (stamp_or_0 t) e

    room : gap c (col q) < length words
    room = omega (arith, low_gap, k.room.0, k.room.1)

    -- the word is not that of the block that closes, or is another gap's
    unchanged : (b : ℕ) → outermost_pending t (used c) (λ j. nat_eq (gap c j) y) ≡ Some b → b ≢ q → slice_index words2 y ≡ slice_index words y
    unchanged b e n = elim (cases_eq y (gap c (col q))) [
      | inr m ↦ word_other y m
      | inl m ↦ (
          let v = some_below (of_gap y) (length t) b e in
          let pb : is_pending t b ≡ true = (and_parts (is_pending t b) (nat_eq (gap c (column t (used c) b)) y) v.passed).0 in
          let ne : slice_index words (gap c (col q)) ≢ stamp_of t q = λ z. n (distinct b pb (sym (old_word (Some b) e) ∙ ap (λ x. slice_index words x) m ∙ z)) in
          ap (λ z. slice_index (if z then slice_set words (gap c (col q)) 0 else words) y) (ne_eqb _ _ ne))
    ]

    by_first : (o : Option ℕ) → outermost_pending t (used c) (λ j. nat_eq (gap c j) y) ≡ o → slice_index words2 y ≡ stamp_or_0 u (outermost_pending u (used c) (λ j. nat_eq (gap c j) y))
    by_first None e = elim (cases_eq y (gap c (col q))) [
      | inr m ↦ word_other y m ∙ old_word None e ∙ sym (ap (stamp_or_0 u) (gone y e))
      | inl m ↦ absurd (cc (none_below (of_gap y) (length t) e q (pending_there t q pq), and_from (is_pending t q) (nat_eq (gap c (column t (used c) q)) y) pq (eq-eqb _ _ (sym m))))
    ]
    by_first (Some b) e = elim (cases_eq b q) [
      | inr n ↦ unchanged b e n ∙ old_word (Some b) e ∙ sym (ap (stamp_or_0 u) (first_stays y b e n) ∙ s.stamps b)
      | inl n ↦ (
          let v = some_below (of_gap y) (length t) b e in
          let z = and_parts (is_pending t b) (nat_eq (gap c (column t (used c) b)) y) v.passed in
          let at : gap c (col q) ≡ y = ap (λ m. gap c (col m)) (sym n) ∙ eqb-true _ _ z.1 in
          let same : slice_index words (gap c (col q)) ≡ stamp_of t q = ap (λ x. slice_index words x) at ∙ old_word (Some b) e ∙ ap (stamp_of t) n in
          ap (λ x. slice_index words2 x) (sym at) ∙ ap (λ z. slice_index (if z then slice_set words (gap c (col q)) 0 else words) (gap c (col q))) (eq-eqb _ _ same) ∙ get_or-set_same words (gap c (col q)) 0 0 room
          ∙ sym (ap (stamp_or_0 u) (none_stays y (λ m p x. gap_free c cuts joins (is_pending t) (column t (used c)) (is_pending u) (column u (used c)) q one a g m p (x ∙ sym at) (first_is m p x n v.first)))))
    ] where
      first_is : {b : ℕ} → (m : ℕ) → is_pending u m ≡ true → gap c (column u (used c) m) ≡ y → b ≡ q → ((v : ℕ) → v < b → of_gap y v ≡ false) → q ≤ m
      first_is {b = b} m p x n f = elim (le_or_lt q m) [
        | inl l ↦ l
        | inr l ↦ absurd (let z = closes m p in cc (f m (omega (arith, n)), and_from (is_pending t m) (nat_eq (gap c (column t (used c) m)) y) z.0 (eq-eqb _ _ (sym (ap (gap c) (cols m (pending_there t m z.0))) ∙ x))))
      ]

  -- a block closes: its gap's word becomes 0, where it was its begin stamp
  pub keeps_close : Keeps c words2 u cuts joins
  keeps_close = record {
    segments = segments_close c cuts joins (is_pending t) (column t (used c)) (is_pending u) (column u (used c)) q one a k.segments;
    ups = ups_close c cuts joins (is_pending t) (column t (used c)) (is_pending u) (column u (used c)) q one a k.segments k.ups;
    outside = k.outside;
    nesting = k.nesting;
    room = (k.room.0, omega (arith, k.room.1, length_words));
    forks = λ f e. (let P : ℕ → Type 0 = λ x. IsTrue (nat_le (x + 2) c.room) ↔ (x + 1 < used c) in subst P (sym (fc f)) (k.forks f (sym (s.forks f) ∙ e)));
    all_forks = λ h. ap (fork_column u) s.lengths ∙ fc (length t) ∙ k.all_forks h;
    all_used = λ j h p. (let z = k.all_used j h p in (z.0, s.forks z.0 ∙ z.1, fc z.0 ∙ z.2));
    forked_from = λ f e h. (let ef : is_fork t f ≡ true = sym (s.forks f) ∙ e in ap (λ x. slice_index c.parents x) (fc f) ∙ k.forked_from f ef (omega (arith, fc f)) ∙ sym (cols f (fork_there t f ef)));
    words_are = words_new;
    spare_words = λ y h. word_other y (λ z. omega (arith, z, low_gap)) ∙ k.spare_words y h;
    contains = λ b n h i p o l. (
        let z = closes b p in
        let hb = pending_there t b z.0 in
        let hn : n < length t = omega (arith, s.lengths) in
        above b n hn ∙ k.contains b n hb hn z.0 (sym (ap (owner c) (cols b hb)) ∙ o ∙ ap (owner c) (cols n hn)) (omega (arith, s.stamps b, s.stamps n)));
    lines = λ b f p e h un o. (
        let z = closes b p in
        let hb = pending_there t b z.0 in
        let ef : is_fork t f ≡ true = sym (s.forks f) ∙ e in
        let hf = fork_there t f ef in
        elim (k.lines b f z.0 ef (omega (arith, fc f)) (sym (ap (has joins) (fc f)) ∙ un) (sym (ap (owner c) (cols b hb)) ∙ o ∙ ap (owner c) (cols f hf))) [
          | inl v ↦ inl (above b f hf ∙ v)
          | inr v ↦ inr (omega (arith, fc f, cols b hb))
        ]);
  }
