-- What is kept where one node is added that is neither a strand nor a fork: a leaf, or a block that begins.
use Rattle.std.proofs.Common.{◌≡◌, ◌≢◌, ℕ, suc, ◌+◌, ◌<◌, ◌≤◌, List, [], ◌∷◌, ◌++◌, length, refl, ap, sym, ◌∙◌, arith, Bool, true, false, Option, Some, None, nat_eq, inl, inr, subst, length-append, eq-eqb, eqb-true}
use Rattle.std.specs.Prelude.{◌⊎◌, ◌&&◌, ◌↔◌, IsTrue, nat_le, slice_index, slice_set, if◌then◌else◌}
use Rattle.std.specs.List.{slice_get}
use Rattle.std.proofs.lemmas.Bool.{ne_eqb, and_parts, and_from, cases_eq}
use Rattle.std.proofs.lemmas.List.{get_or-set_same, get_or-set_other, length-set}
use Rattle.std.proofs.lemmas.Option.{slice_get_past}
use Rattle.cw_tree.specs.declared.node.Node.{Node}
use Rattle.cw_tree.specs.Nodes.{parent_of, stamp_of, is_node, is_fork, is_pending, passes, number_in, is_fork_kind, is_strand_kind, is_block_kind, is_pending_state}
use Rattle.cw_tree.specs.Walks.{is_ancestor, has}
use Rattle.cw_tree.specs.Shape.{IsTree}
use Rattle.cw_tree.proofs.Walks.Ancestors.{ancestor_up}
use Rattle.cw_tree.proofs.NextNodes.Growing.{get_append, ancestor_grown}
use Rattle.cw_tree.proofs.Walks.There.{pending_there, fork_there}
use Rattle.cw_trace.specs.Columns.{ColumnTable, used, owner, gap, left_column_of, begun_word}
use Rattle.cw_trace.specs.Stands.{GoesOn, column, fork_column, outermost_pending, stamp_or_0}
use Rattle.cw_trace.specs.Segments.{IsOpen, SegmentStart, IsCut, IsTrace, IsLive, Within, Segments, Active, Ups}
use Rattle.cw_trace.specs.Keeps.{Keeps}
use Rattle.cw_trace.proofs.Stands.Counting.{none_below, some_below, fork_column_pass}
use Rattle.cw_trace.proofs.Keeps.Grow.{column_append, fork_column_append}
use Rattle.cw_trace.proofs.Keeps.Owners.{column_other}
use Rattle.cw_trace.proofs.Segments.Lines.{le_or_lt, used_some, gap_le}
use Rattle.cw_trace.proofs.Segments.Alike.{SamePending, segments_alike, ups_alike, segments_with}
use Rattle.cw_trace.proofs.Stands.UpsKept.{cut_of}
use Rattle.cw_trace.proofs.Keeps.Meaning.{column_low, first_of_both, odd_column}

get_last : {A : Type 0} → (xs : List A) (x : A) → slice_get (xs ++ x ∷ []) (length xs) ≡ Some x
get_last [] x = refl
get_last (y ∷ xs) x = get_last xs x

-- one more block is pending, in a column where a strand may go on
pub record OneMore (pend : ℕ → Bool) (col : ℕ → ℕ) (pend2 : ℕ → Bool) (col2 : ℕ → ℕ) (n i : ℕ) : Type 0 where
  pub pending : pend2 n ≡ true
  pub column_is : col2 n ≡ i
  pub back : (b : ℕ) → pend2 b ≡ true → (b ≡ n) ⊎ ((b < n) × (pend b ≡ true) × (col2 b ≡ col b))
  pub forth : (b : ℕ) → pend b ≡ true → (b < n) × (pend2 b ≡ true) × (col2 b ≡ col b)

module _ (c : ColumnTable) (cuts joins : List ℕ) (pend : ℕ → Bool) (col : ℕ → ℕ) (pend2 : ℕ → Bool) (col2 : ℕ → ℕ) (n i : ℕ) (one : OneMore pend col pend2 col2 n i) (a : Active c cuts joins i) (g : Segments c cuts joins pend col) where
  abbrev t : ℕ
  t = owner c i

  is_col : (b : ℕ) → b ≡ n → col2 b ≡ i
  is_col b e = ap col2 e ∙ one.column_is

  within_forth : (x s b : ℕ) → Within c pend col x s b → Within c pend2 col2 x s b
  within_forth x s b w = let z = one.forth b w.pending in record { pending = z.1; owned = ap (owner c) z.2 ∙ w.owned; after = omega (arith, z.2, w.after) }

  within_back : (x s b : ℕ) → (pend b ≡ true) → col2 b ≡ col b → Within c pend2 col2 x s b → Within c pend col x s b
  within_back x s b p e w = record { pending = p; owned = sym (ap (owner c) e) ∙ w.owned; after = omega (arith, e, w.after) }

  live_t : (x s : ℕ) → x ≡ t → IsLive c cuts joins x s
  live_t x s e = λ k w q. (let P : ℕ → Type 0 = λ x. IsCut c cuts joins x k in a.uncut k (subst P e w))

  is_start : (x : ℕ) → x ≡ t → SegmentStart c joins x a.start
  is_start x e = let P : ℕ → Type 0 = λ x. SegmentStart c joins x a.start in subst P (sym e) a.starts

  is_last : (x s : ℕ) → x ≡ t → SegmentStart c joins x s → s ≤ a.start
  is_last x s e w = let P : ℕ → Type 0 = λ x. SegmentStart c joins x s in a.last s (subst P e w)

  trace_t : IsTrace c cuts joins t
  trace_t = Rattle.cw_trace.proofs.Segments.Lines.own_trace c cuts joins pend col g i a.low

  gap_owned2 : (x s b : ℕ) → IsTrace c cuts joins x → SegmentStart c joins x s → IsLive c cuts joins x s → pend2 b ≡ true → gap c (col2 b) ≡ gap c s → (owner c (col2 b) ≡ x) × (s ≤ col2 b)
  gap_owned2 x s b k st l p e = elim (one.back b p) [
    | inr z ↦ (let w = g.gap_owned x s b k st l z.1 (sym (ap (gap c) z.2) ∙ e) in (ap (owner c) z.2 ∙ w.0, omega (arith, z.2, w.1)))
    | inl q ↦ (
        let same : t ≡ x = g.one_trace t x a.start s trace_t k a.starts st (live_t t a.start refl) l (sym a.same ∙ sym (ap (gap c) (is_col b q)) ∙ e) in
        let le : s ≤ a.start = is_last x s (sym same) st in
        let lo : a.start ≤ i = a.before in
        (ap (owner c) (is_col b q) ∙ same, omega (arith, is_col b q)))
  ]

  gap_first2 : (x s b : ℕ) → IsTrace c cuts joins x → SegmentStart c joins x s → IsLive c cuts joins x s → Within c pend2 col2 x s b → (e : ℕ) × (e ≤ b) × (pend2 e ≡ true) × (gap c (col2 e) ≡ gap c s)
  gap_first2 x s b k st l w = elim (one.back b w.pending) [
    | inr z ↦ forward b (g.gap_first x s b k st l (within_back x s b z.1 z.2 w))
    | inl q ↦ (
        let e : x ≡ t = sym w.owned ∙ ap (owner c) (is_col b q) in
        let le : s ≤ a.start = is_last x s e st in
        elim (cases_eq (gap c s) (gap c a.start)) [
          | inl y ↦ (n, omega (arith, q), one.pending, ap (gap c) one.column_is ∙ a.same ∙ sym y)
          | inr y ↦ (
              let apart : s ≢ a.start = λ z. y (ap (gap c) z) in
              let m = g.parted x s a.start k st (is_start x e) (omega (arith, apart)) y in
              let v = m.2 in
              let lo : m.0 < n = (one.forth m.0 v.pending).0 in
              weaken (omega (arith, q)) (forward m.0 (g.gap_first x s m.0 k st l v)))
        ])
  ] where
    forward : (b : ℕ) → (e : ℕ) × (e ≤ b) × (pend e ≡ true) × (gap c (col e) ≡ gap c s) → (e : ℕ) × (e ≤ b) × (pend2 e ≡ true) × (gap c (col2 e) ≡ gap c s)
    forward b z = let y = one.forth z.0 z.2 in (z.0, z.1, y.1, ap (gap c) y.2 ∙ z.3)

    weaken : {u v : ℕ} → u ≤ v → (e : ℕ) × (e ≤ u) × (pend2 e ≡ true) × (gap c (col2 e) ≡ gap c s) → (e : ℕ) × (e ≤ v) × (pend2 e ≡ true) × (gap c (col2 e) ≡ gap c s)
    weaken h z = (let le = z.1 in (z.0, omega arith, z.2, z.3))

  shared2 : (x s r b : ℕ) → IsTrace c cuts joins x → SegmentStart c joins x s → SegmentStart c joins x r → s < r → gap c s ≡ gap c r → Within c pend2 col2 x s b → col2 b < r → ⊥
  shared2 x s r b k st sr lt e w h = elim (one.back b w.pending) [
    | inr z ↦ g.shared x s r b k st sr lt e (within_back x s b z.1 z.2 w) (omega (arith, z.2))
    | inl q ↦ (
        let y : x ≡ t = sym w.owned ∙ ap (owner c) (is_col b q) in
        let le : r ≤ a.start = is_last x r y sr in
        let lo : a.start ≤ i = a.before in
        omega (arith, is_col b q))
  ]

  pub segments_begin : Segments c cuts joins pend2 col2
  segments_begin = segments_with c cuts joins pend col pend2 col2 g (record {
    there = λ b p. elim (one.back b p) [ inr z ↦ omega (arith, z.2, g.there b z.1) | inl q ↦ omega (arith, is_col b q, a.low) ];
    gap_owned = gap_owned2;
    gap_first = gap_first2;
    shared = shared2;
    parted = λ x s r k st sr lt ne. (let z = g.parted x s r k st sr lt ne in let w = z.2 in let y = one.forth z.0 w.pending in let l : col z.0 < r = z.1 in (z.0, omega (arith, y.2), within_forth x s z.0 w));
  })

  pub ups_begin : Ups c cuts joins pend col → Ups c cuts joins pend2 col2
  ups_begin u = record {
    no_up = u.no_up;
    up_some = λ x b p k pb o. elim (one.back b pb) [
      | inr z ↦ u.up_some x b p k z.1 (sym (ap (owner c) z.2) ∙ o)
      | inl q ↦ absurd (
          let P : ℕ → Type 0 = λ y. IsCut c cuts joins y (left_column_of x) in
          a.uncut (left_column_of x) (subst P (sym o ∙ ap (owner c) (is_col b q)) (cut_of c cuts joins pend col g x p k)))
    ];
    up_none = λ x p k none. u.up_none x p k (λ b pb o. let z = one.forth b pb in none b z.1 (ap (owner c) z.2 ∙ o));
  }

module _ (c : ColumnTable) (words : List ℕ) (t : List Node) (cuts joins : List ℕ) (tr : IsTree t) (k : Keeps c words t cuts joins) (x : Node) (p : ℕ) (hp : p < length t) (under : x.parent ≡ p) (no_strand : is_strand_kind x.kind ≡ false) (no_fork : is_fork_kind x.kind ≡ false)
    (goes : GoesOn c t (column t (used c) p) p) (tr2 : IsTree (t ++ x ∷ [])) where
  abbrev col : ℕ → ℕ
  col = column t (used c)

  abbrev pend : ℕ → Bool
  pend = is_pending t

  abbrev n : ℕ
  n = length t

  abbrev i : ℕ
  i = col p

  abbrev grown : List Node
  grown = t ++ x ∷ []

  abbrev g : Segments c cuts joins pend col
  g = k.segments

  low : (m : ℕ) → col m < used c
  low m = column_low t (used c) m (used_some c cuts joins pend col g)

  here : slice_get grown n ≡ Some x
  here = get_last t x

  new_length : length grown ≡ n + 1
  new_length = length-append t (x ∷ [])

  -- a node that passes a test is an old one, or the new one passes it
  which : (q : Node → Bool) (m : ℕ) → is_node q grown m ≡ true → ((m < n) × (is_node q t m ≡ true)) ⊎ ((m ≡ n) × (q x ≡ true))
  which q m e = elim (le_or_lt n m) [
    | inr l ↦ inl (l, sym (ap (passes q) (get_append t (x ∷ []) m l)) ∙ e)
    | inl l ↦ elim (cases_eq m n) [
      | inl z ↦ inr (z, sym (ap (is_node q grown) z ∙ ap (passes q) here) ∙ e)
      | inr z ↦ absurd (cc (ap (passes q) (slice_get_past grown m (omega (arith, new_length, z))), e))
    ]
  ]

  old_is : (q : Node → Bool) (m : ℕ) → m < n → is_node q t m ≡ true → is_node q grown m ≡ true
  old_is q m l e = ap (passes q) (get_append t (x ∷ []) m l) ∙ e

  fork_old : (f : ℕ) → is_fork grown f ≡ true → (f < n) × (is_fork t f ≡ true)
  fork_old f e = elim (which (λ y. is_fork_kind y.kind) f e) [ inl z ↦ z | inr z ↦ absurd (cc (z.1, no_fork)) ]

  fork_new : (f : ℕ) → is_fork t f ≡ true → is_fork grown f ≡ true
  fork_new f e = old_is (λ y. is_fork_kind y.kind) f (fork_there t f e) e

  pending_which : (b : ℕ) → is_pending grown b ≡ true → ((b < n) × (pend b ≡ true)) ⊎ ((b ≡ n) × ((is_block_kind x.kind && is_pending_state x.state) ≡ true))
  pending_which b e = which (λ y. is_block_kind y.kind && is_pending_state y.state) b e

  pending_new : (b : ℕ) → pend b ≡ true → is_pending grown b ≡ true
  pending_new b e = old_is (λ y. is_block_kind y.kind && is_pending_state y.state) b (pending_there t b e) e

  stamp_old : (m : ℕ) → m < n → stamp_of grown m ≡ stamp_of t m
  stamp_old m l = ap (number_in (λ y. y.stamp)) (get_append t (x ∷ []) m l)

  stamp_here : stamp_of grown n ≡ x.stamp
  stamp_here = ap (number_in (λ y. y.stamp)) here

  parent_here : parent_of grown n ≡ p
  parent_here = ap (number_in (λ y. y.parent)) here ∙ under

  fc : (f : ℕ) → f ≤ n → fork_column grown f ≡ fork_column t f
  fc f h = fork_column_append t (x ∷ []) tr.rooted (used c) f h

  cols : (m : ℕ) → m < n → column grown (used c) m ≡ col m
  cols m h = column_append t (x ∷ []) tr.rooted (used c) m h

  col_here : column grown (used c) n ≡ i
  col_here = column_other grown tr2 (used c) n (omega arith) (omega (arith, new_length)) (ap (passes (λ y. is_strand_kind y.kind)) here ∙ no_strand) ∙ ap (column grown (used c)) parent_here ∙ cols p hp

  above_here : (b : ℕ) → is_ancestor t b p ≡ true → is_ancestor grown b n ≡ true
  above_here b e = ancestor_up grown tr2.rooted b n (omega arith) (omega (arith, new_length)) (ap (is_ancestor grown b) parent_here ∙ ancestor_grown t (x ∷ []) tr.rooted b p hp ∙ e)

  last_column : fork_column grown (length grown) ≡ fork_column t n
  last_column = ap (fork_column grown) (new_length ∙ add_one n) ∙ fork_column_pass grown n (ap (passes (λ y. is_fork_kind y.kind)) here ∙ no_fork) ∙ fc n (omega arith) where
    add_one : (n : ℕ) → n + 1 ≡ suc n
    add_one n = omega arith

  le_of : (f : ℕ) → f < n → f ≤ n
  le_of f h = omega arith

  forks_new : (f : ℕ) → is_fork grown f ≡ true → IsTrue (nat_le (fork_column grown f + 2) c.room) ↔ (fork_column grown f + 1 < used c)
  forks_new f e = (let w = fork_old f e in let P : ℕ → Type 0 = λ k. IsTrue (nat_le (k + 2) c.room) ↔ (k + 1 < used c) in subst P (sym (fc f (le_of f w.0))) (k.forks f w.1))

  all_used_new : (j : ℕ) → j < used c → 0 < j → (f : ℕ) × (is_fork grown f ≡ true) × (fork_column grown f ≡ left_column_of j)
  all_used_new j h q = (let w = k.all_used j h q in (w.0, fork_new w.0 w.1, fc w.0 (le_of w.0 (fork_there t w.0 w.1)) ∙ w.2))

  forked_from_new : (f : ℕ) → is_fork grown f ≡ true → fork_column grown f + 1 < used c → slice_index c.parents (fork_column grown f) ≡ column grown (used c) f
  forked_from_new f e h = (
      let w = fork_old f e in
      ap (λ y. slice_index c.parents y) (fc f (le_of f w.0)) ∙ k.forked_from f w.1 (omega (arith, fc f (le_of f w.0))) ∙ sym (cols f w.0))

  -- what a pending block that is not the new one contains
  contains_old : (b m : ℕ) → b < n → pend b ≡ true → m < length grown → owner c (column grown (used c) b) ≡ owner c (column grown (used c) m) → stamp_of grown b < stamp_of grown m → is_ancestor grown b m ≡ true
  contains_old b m hb pb h o s = elim (le_or_lt n m) [
    | inr l ↦ ancestor_grown t (x ∷ []) tr.rooted b m l ∙ k.contains b m hb l pb (sym (ap (owner c) (cols b hb)) ∙ o ∙ ap (owner c) (cols m l)) (omega (arith, s, stamp_old b hb, stamp_old m l))
    | inl l ↦ (
        let e : m ≡ n = omega (arith, new_length) in
        let P : ℕ → Type 0 = λ y. is_ancestor grown b y ≡ true in
        subst P (sym e) (above_here b (goes b hb pb (sym (ap (owner c) (cols b hb)) ∙ o ∙ ap (λ y. owner c (column grown (used c) y)) e ∙ ap (owner c) col_here))))
  ]

  lines_old : (b f : ℕ) → b < n → pend b ≡ true → is_fork grown f ≡ true → fork_column grown f + 1 < used c → has joins (fork_column grown f) ≡ false → owner c (column grown (used c) b) ≡ owner c (column grown (used c) f)
      → (is_ancestor grown b f ≡ true) ⊎ (fork_column grown f ≤ column grown (used c) b)
  lines_old b f hb pb e h u o =
      let w = fork_old f e in
      let s = fc f (le_of f w.0) in
      elim (k.lines b f pb w.1 (omega (arith, s)) (sym (ap (has joins) s) ∙ u) (sym (ap (owner c) (cols b hb)) ∙ o ∙ ap (owner c) (cols f w.0))) [
        | inl v ↦ inl (ancestor_grown t (x ∷ []) tr.rooted b f w.0 ∙ v)
        | inr v ↦ inr (omega (arith, s, cols b hb))
      ]

  module _ (no_pending : (is_block_kind x.kind && is_pending_state x.state) ≡ false) where
    pending_old : (b : ℕ) → is_pending grown b ≡ true → (b < n) × (pend b ≡ true)
    pending_old b e = elim (pending_which b e) [ inl z ↦ z | inr z ↦ absurd (cc (z.1, no_pending)) ]

    same : SamePending pend col (is_pending grown) (column grown (used c))
    same = record { back = λ b e. (let z = pending_old b e in (z.1, cols b z.0)); forth = λ b e. (pending_new b e, cols b (pending_there t b e)) }

    first_old : (y : ℕ) → outermost_pending grown (used c) (λ j. nat_eq (gap c j) y) ≡ outermost_pending t (used c) (λ j. nat_eq (gap c j) y)
    first_old y =
        first_of_both (λ b. is_pending grown b && nat_eq (gap c (column grown (used c) b)) y) (λ b. is_pending t b && nat_eq (gap c (col b)) y) (length grown) n
        (λ b h e. let z = and_parts (is_pending t b) (nat_eq (gap c (col b)) y) e in
        (omega (arith, new_length), and_from (is_pending grown b) (nat_eq (gap c (column grown (used c) b)) y) (pending_new b z.0) (ap (λ v. nat_eq (gap c v) y) (cols b h) ∙ z.1)))
        (λ b h e. let z = and_parts (is_pending grown b) (nat_eq (gap c (column grown (used c) b)) y) e in
        let w = pending_old b z.0 in
        let le : b ≤ b = omega arith in
        (b, le, w.0, and_from (is_pending t b) (nat_eq (gap c (col b)) y) w.1 (sym (ap (λ v. nat_eq (gap c v) y) (cols b w.0)) ∙ z.1)))

    stamp_first : (o : Option ℕ) (y : ℕ) → outermost_pending t (used c) (λ j. nat_eq (gap c j) y) ≡ o → stamp_or_0 grown o ≡ stamp_or_0 t o
    stamp_first None y e = refl
    stamp_first (Some b) y e = stamp_old b (some_below (λ b. is_pending t b && nat_eq (gap c (col b)) y) n b e).low

    -- a leaf changes no column and no word
    pub keeps_leaf : Keeps c words grown cuts joins
    keeps_leaf = record {
      segments = segments_alike c cuts joins pend col (is_pending grown) (column grown (used c)) same g;
      ups = ups_alike c cuts joins pend col (is_pending grown) (column grown (used c)) same k.ups;
      outside = k.outside;
      nesting = k.nesting;
      room = k.room;
      forks = forks_new;
      all_forks = λ h. last_column ∙ k.all_forks h;
      all_used = all_used_new;
      forked_from = forked_from_new;
      words_are = λ y h. k.words_are y h ∙ sym (ap (stamp_or_0 grown) (first_old y) ∙ stamp_first (outermost_pending t (used c) (λ j. nat_eq (gap c j) y)) y refl);
      spare_words = k.spare_words;
      contains = λ b m h j e o s. (let z = pending_old b e in contains_old b m z.0 z.1 j o s);
      lines = λ b f e ff h u o. (let z = pending_old b e in lines_old b f z.0 z.1 ff h u o);
    }

  module _ (a : Active c cuts joins (column t (used c) p)) (pends : (is_block_kind x.kind && is_pending_state x.state) ≡ true) (some : 0 < x.stamp) (begun : (b : ℕ) → is_pending t b ≡ true → 0 < stamp_of t b)
      (newest : (m : ℕ) → m < length t → owner c (column t (used c) m) ≡ owner c (column t (used c) p) → stamp_of t m ≤ x.stamp) where
    abbrev words2 : List ℕ
    words2 = begun_word words (gap c (column t (used c) p)) x.stamp

    pending_here : is_pending grown n ≡ true
    pending_here = ap (passes (λ y. is_block_kind y.kind && is_pending_state y.state)) here ∙ pends

    one : OneMore pend col (is_pending grown) (column grown (used c)) n i
    one = record {
      pending = pending_here;
      column_is = col_here;
      back = λ b e. elim (pending_which b e) [ inl z ↦ inr (z.0, z.1, cols b z.0) | inr z ↦ inl z.0 ];
      forth = λ b e. (let l = pending_there t b e in (l, pending_new b e, cols b l));
    }

    low_gap : gap c i < used c
    low_gap = omega (arith, gap_le c cuts joins (is_pending t) (column t (used c)) g i (low p), low p)

    -- where the old tree has an outermost pending block of a gap, it stays
    first_stays : (y b : ℕ) → outermost_pending t (used c) (λ j. nat_eq (gap c j) y) ≡ Some b → outermost_pending grown (used c) (λ j. nat_eq (gap c j) y) ≡ Some b
    first_stays y b e = same_first ∙ e where
      found : (b < n) × ((is_pending t b && nat_eq (gap c (col b)) y) ≡ true)
      found = let w = some_below (λ b. is_pending t b && nat_eq (gap c (col b)) y) n b e in (w.low, w.passed)

      by_which : (v : ℕ) → (is_pending grown v ≡ true) × (nat_eq (gap c (column grown (used c) v)) y ≡ true) → (u : ℕ) × (u ≤ v) × (u < n) × ((is_pending t u && nat_eq (gap c (col u)) y) ≡ true)
      by_which v z = elim (pending_which v z.0) [
        | inl w ↦ (let le : v ≤ v = omega arith in (v, le, w.0, and_from (is_pending t v) (nat_eq (gap c (col v)) y) w.1 (sym (ap (λ u. nat_eq (gap c u) y) (cols v w.0)) ∙ z.1)))
        | inr w ↦ (let l = found.0 in (b, omega (arith, w.0), found.0, found.1))
      ]

      same_first : outermost_pending grown (used c) (λ j. nat_eq (gap c j) y) ≡ outermost_pending t (used c) (λ j. nat_eq (gap c j) y)
      same_first =
          first_of_both (λ b. is_pending grown b && nat_eq (gap c (column grown (used c) b)) y) (λ b. is_pending t b && nat_eq (gap c (col b)) y) (length grown) n
          (λ v h f. let z = and_parts (is_pending t v) (nat_eq (gap c (col v)) y) f in
          (omega (arith, new_length), and_from (is_pending grown v) (nat_eq (gap c (column grown (used c) v)) y) (pending_new v z.0) (ap (λ u. nat_eq (gap c u) y) (cols v h) ∙ z.1)))
          (λ v h f. by_which v (and_parts (is_pending grown v) (nat_eq (gap c (column grown (used c) v)) y) f))

    -- where it has none, the new block is the first, if it is of that gap
    first_here : outermost_pending t (used c) (λ j. nat_eq (gap c j) (gap c i)) ≡ None → outermost_pending grown (used c) (λ j. nat_eq (gap c j) (gap c i)) ≡ Some n
    first_here e = by_found (outermost_pending grown (used c) (λ j. nat_eq (gap c j) (gap c i))) refl where
      here_passes : (is_pending grown n && nat_eq (gap c (column grown (used c) n)) (gap c i)) ≡ true
      here_passes = and_from (is_pending grown n) (nat_eq (gap c (column grown (used c) n)) (gap c i)) pending_here (eq-eqb _ _ (ap (gap c) col_here))

      by_found : (o : Option ℕ) → outermost_pending grown (used c) (λ j. nat_eq (gap c j) (gap c i)) ≡ o → outermost_pending grown (used c) (λ j. nat_eq (gap c j) (gap c i)) ≡ Some n
      by_found None f = absurd (cc (none_below (λ b. is_pending grown b && nat_eq (gap c (column grown (used c) b)) (gap c i)) (length grown) f n (omega (arith, new_length)), here_passes))
      by_found (Some b) f =
          let w = some_below (λ b. is_pending grown b && nat_eq (gap c (column grown (used c) b)) (gap c i)) (length grown) b f in
          let z = and_parts (is_pending grown b) (nat_eq (gap c (column grown (used c) b)) (gap c i)) w.passed in
          elim (pending_which b z.0) [
            | inr v ↦ f ∙ ap Some v.0
            | inl v ↦ absurd (cc (none_below (λ b. is_pending t b && nat_eq (gap c (col b)) (gap c i)) n e b v.0, and_from (is_pending t b) (nat_eq (gap c (col b)) (gap c i)) v.1 (sym (ap (λ u. nat_eq (gap c u) (gap c i)) (cols b v.0)) ∙ z.1)))
          ]

    none_stays : (y : ℕ) → y ≢ gap c i → outermost_pending t (used c) (λ j. nat_eq (gap c j) y) ≡ None → outermost_pending grown (used c) (λ j. nat_eq (gap c j) y) ≡ None
    none_stays y ne e = by_found (outermost_pending grown (used c) (λ j. nat_eq (gap c j) y)) refl where
      by_found : (o : Option ℕ) → outermost_pending grown (used c) (λ j. nat_eq (gap c j) y) ≡ o → outermost_pending grown (used c) (λ j. nat_eq (gap c j) y) ≡ None
      by_found None f = f
      by_found (Some b) f =
          let w = some_below (λ b. is_pending grown b && nat_eq (gap c (column grown (used c) b)) y) (length grown) b f in
          let z = and_parts (is_pending grown b) (nat_eq (gap c (column grown (used c) b)) y) w.passed in
          elim (pending_which b z.0) [
            | inr v ↦ absurd (ne (sym (eqb-true _ _ z.1) ∙ ap (λ u. gap c (column grown (used c) u)) v.0 ∙ ap (gap c) col_here))
            | inl v ↦ absurd (cc (none_below (λ b. is_pending t b && nat_eq (gap c (col b)) y) n e b v.0, and_from (is_pending t b) (nat_eq (gap c (col b)) y) v.1 (sym (ap (λ u. nat_eq (gap c u) y) (cols b v.0)) ∙ z.1)))
          ]

    word_other : (y : ℕ) → y ≢ gap c i → slice_index words2 y ≡ slice_index words y
    word_other y ne = by_test (nat_eq (slice_index words (gap c i)) 0) where
      by_test : (b : Bool) → slice_index (if b then slice_set words (gap c i) x.stamp else words) y ≡ slice_index words y
      by_test true = get_or-set_other words (gap c i) y x.stamp 0 ne
      by_test false = refl

    words_new : (y : ℕ) → y < used c → slice_index words2 y ≡ stamp_or_0 grown (outermost_pending grown (used c) (λ j. nat_eq (gap c j) y))
    words_new y h = by_first (outermost_pending t (used c) (λ j. nat_eq (gap c j) y)) refl (cases_eq y (gap c i)) where
      old_word : (o : Option ℕ) → outermost_pending t (used c) (λ j. nat_eq (gap c j) y) ≡ o → slice_index words y ≡ stamp_or_0 t o
      old_word o e = k.words_are y h ∙ ap (stamp_or_0 t) e

      room : gap c i < length words
      room = omega (arith, low_gap, k.room.0, k.room.1)

      by_first : (o : Option ℕ) → outermost_pending t (used c) (λ j. nat_eq (gap c j) y) ≡ o → (y ≡ gap c i) ⊎ (y ≢ gap c i) → slice_index words2 y ≡ stamp_or_0 grown (outermost_pending grown (used c) (λ j. nat_eq (gap c j) y))
      by_first None e (inr ne) = word_other y ne ∙ old_word None e ∙ sym (ap (stamp_or_0 grown) (none_stays y ne e))
      by_first (Some b) e (inr ne) =
          word_other y ne ∙ old_word (Some b) e ∙ sym (ap (stamp_or_0 grown) (first_stays y b e) ∙ stamp_old b (some_below (λ b. is_pending t b && nat_eq (gap c (col b)) y) n b e).low)
      by_first None e (inl q) =
          let zero_word : slice_index words (gap c i) ≡ 0 = ap (λ u. slice_index words u) (sym q) ∙ old_word None e in
          ap (λ u. slice_index words2 u) q ∙ ap (λ b. slice_index (if b then slice_set words (gap c i) x.stamp else words) (gap c i)) (eq-eqb _ _ zero_word)
          ∙ get_or-set_same words (gap c i) x.stamp 0 room
          ∙ sym (ap (λ u. stamp_or_0 grown (outermost_pending grown (used c) (λ j. nat_eq (gap c j) u))) q ∙ ap (stamp_or_0 grown) (first_here (ap (λ u. outermost_pending t (used c) (λ j. nat_eq (gap c j) u)) (sym q) ∙ e)) ∙ stamp_here)
      by_first (Some b) e (inl q) =
          let w = some_below (λ b. is_pending t b && nat_eq (gap c (col b)) y) n b e in
          let pb : is_pending t b ≡ true = (and_parts (is_pending t b) (nat_eq (gap c (col b)) y) w.passed).0 in
          let some_word : slice_index words (gap c i) ≢ 0 = λ z. omega (arith, z, ap (λ u. slice_index words u) q, old_word (Some b) e, begun b pb) in
          ap (λ b. slice_index (if b then slice_set words (gap c i) x.stamp else words) y) (ne_eqb _ _ some_word) ∙ old_word (Some b) e
          ∙ sym (ap (stamp_or_0 grown) (first_stays y b e) ∙ stamp_old b w.low)

    length_words : length words2 ≡ length words
    length_words = by_test (nat_eq (slice_index words (gap c i)) 0) where
      by_test : (b : Bool) → length (if b then slice_set words (gap c i) x.stamp else words) ≡ length words
      by_test true = length-set words (gap c i) x.stamp
      by_test false = refl

    contains_new : (b m : ℕ) → m < length grown → is_pending grown b ≡ true → owner c (column grown (used c) b) ≡ owner c (column grown (used c) m) → stamp_of grown b < stamp_of grown m → is_ancestor grown b m ≡ true
    contains_new b m h e o s = elim (pending_which b e) [
      | inl z ↦ contains_old b m z.0 z.1 h o s
      | inr z ↦ absurd (
          let sb : stamp_of grown b ≡ x.stamp = ap (stamp_of grown) z.0 ∙ stamp_here in
          let ob : owner c (column grown (used c) b) ≡ owner c i = ap (λ y. owner c (column grown (used c) y)) z.0 ∙ ap (owner c) col_here in
          elim (le_or_lt n m) [
            | inr l ↦ omega (arith, s, sb, stamp_old m l, newest m l (sym (ap (owner c) (cols m l)) ∙ sym o ∙ ob))
            | inl l ↦ (let q : m ≡ n = omega (arith, new_length) in omega (arith, s, sb, ap (stamp_of grown) q, stamp_here))
          ])
    ]

    lines_new : (b f : ℕ) → is_pending grown b ≡ true → is_fork grown f ≡ true → fork_column grown f + 1 < used c → has joins (fork_column grown f) ≡ false → owner c (column grown (used c) b) ≡ owner c (column grown (used c) f)
        → (is_ancestor grown b f ≡ true) ⊎ (fork_column grown f ≤ column grown (used c) b)
    lines_new b f e ff h u o = elim (pending_which b e) [
      | inl z ↦ lines_old b f z.0 z.1 ff h u o
      | inr z ↦ (
          let w = fork_old f ff in
          let s = fc f (le_of f w.0) in
          let ob : owner c (column grown (used c) b) ≡ owner c i = ap (λ y. owner c (column grown (used c) y)) z.0 ∙ ap (owner c) col_here in
          let start : IsOpen c joins (owner c i) (fork_column t f) = record { low = omega (arith, s); left = odd_column t f; unjoined = sym (ap (has joins) s) ∙ u; outside = ap (owner c) (k.forked_from f w.1 (omega (arith, s))) ∙ sym (ap (owner c) (cols f w.0)) ∙ sym o ∙ ob } in
          let le : fork_column t f ≤ a.start = a.last (fork_column t f) (inr start) in
          let lo : a.start ≤ i = a.before in
          inr (omega (arith, s, ap (column grown (used c)) z.0, col_here)))
    ]

    -- a block begins: its gap's word is its begin stamp, where it was 0
    pub keeps_begin : Keeps c words2 grown cuts joins
    keeps_begin = record {
      segments = segments_begin c cuts joins (is_pending t) (column t (used c)) (is_pending grown) (column grown (used c)) n i one a k.segments;
      ups = ups_begin c cuts joins (is_pending t) (column t (used c)) (is_pending grown) (column grown (used c)) n i one a k.segments k.ups;
      outside = k.outside;
      nesting = k.nesting;
      room = (k.room.0, omega (arith, k.room.1, length_words));
      forks = forks_new;
      all_forks = λ h. last_column ∙ k.all_forks h;
      all_used = all_used_new;
      forked_from = forked_from_new;
      words_are = words_new;
      spare_words = λ y h. word_other y (λ q. omega (arith, q, low_gap)) ∙ k.spare_words y h;
      contains = λ b m h j e o s. contains_new b m j e o s;
      lines = lines_new;
    }
