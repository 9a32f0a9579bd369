-- A fork keeps the division into segments.
use Rattle.std.proofs.Common.{◌≡◌, ◌≢◌, ℕ, ◌+◌, ◌<◌, ◌≤◌, List, [], ◌∷◌, ◌++◌, length, refl, ap, sym, ◌∙◌, arith, Bool, true, false, Some, None, nat_eq, inl, inr, subst, eq-eqb, eqb-true, length-append}
use Rattle.std.specs.Prelude.{◌⊎◌, ◌%◌, ◌==◌, slice_index, if◌then◌else◌}
use Rattle.std.proofs.lemmas.Bool.{ne_eqb, or_cases, cases_eq}
use Rattle.std.proofs.lemmas.List.{get_or_append_left, get_or-append-add}
use Rattle.cw_tree.proofs.NextNodes.Growing.{get_append}
use Rattle.cw_trace.specs.Columns.{ColumnTable, used, owner, gap, trace, trace_in, head_in, lead_in, left_column_of, forked}
use Rattle.cw_tree.specs.Walks.{has}
use Rattle.cw_trace.specs.Stands.{around, is_apart}
use Rattle.cw_trace.specs.Segments.{IsOpen, SegmentStart, IsCut, IsTrace, IsLive, Within, Segments, Active}
use Rattle.cw_trace.proofs.Segments.Lines.{le_or_lt, left_of_odd, left_of_next, apart_parts, right_used, gap_le}

append_at : (xs ys : List ℕ) (n k i : ℕ) → length xs ≡ n → i ≡ n + k → slice_index (xs ++ ys) i ≡ slice_index ys k
append_at xs ys n k i e q = ap (λ j. slice_index (xs ++ ys) j) (q ∙ ap (λ m. m + k) (sym e)) ∙ get_or-append-add xs ys k 0

module _ (c : ColumnTable) (cuts joins : List ℕ) (pend : ℕ → Bool) (col : ℕ → ℕ) (g : Segments c cuts joins pend col) (word i : ℕ) (a : Active c cuts joins i)
    (free : word ≡ 0 → (b : ℕ) → pend b ≡ true → gap c (col b) ≡ gap c i → ⊥) (taken : word ≢ 0 → (b : ℕ) × (pend b ≡ true) × (gap c (col b) ≡ gap c i)) where
  abbrev t : ℕ
  t = owner c i

  abbrev d : ColumnTable
  d = forked word i c

  abbrev u : ℕ
  u = used c

  abbrev new_gap : ℕ
  new_gap = if word == 0 then gap c i else used c

  gap_shared : word ≡ 0 → new_gap ≡ gap c i
  gap_shared e = ap (λ b. if b then gap c i else used c) (eq-eqb word 0 e)

  gap_fresh : word ≢ 0 → new_gap ≡ u
  gap_fresh n = ap (λ b. if b then gap c i else used c) (ne_eqb word 0 n)

  pub used_new : used d ≡ u + 2
  used_new = length-append c.owners (t ∷ t ∷ [])

  pub data Col (j : ℕ) : Type 0 where
    before : j < u → Col j
    on_left : j ≡ u → Col j
    on_right : j ≡ u + 1 → Col j

  pub column_of : (j : ℕ) → j < used d → Col j
  column_of j h = elim (le_or_lt u j) [
    | inr l ↦ before l
    | inl l ↦ elim (cases_eq j u) [ inl e ↦ on_left e | inr n ↦ on_right (omega (arith, used_new, n)) ]
  ]

  pub new : (j : ℕ) → j < u → j < used d
  new j h = omega (arith, used_new)

  pub owner_old : (j : ℕ) → j < u → owner d j ≡ owner c j
  owner_old j h = get_or_append_left c.owners (t ∷ t ∷ []) 0 j h

  owner_left : (j : ℕ) → j ≡ u → owner d j ≡ t
  owner_left j e = append_at c.owners (t ∷ t ∷ []) u 0 j refl (omega (arith, e))

  owner_right : (j : ℕ) → j ≡ u + 1 → owner d j ≡ t
  owner_right j e = append_at c.owners (t ∷ t ∷ []) u 1 j refl e

  pub parent_old : (j : ℕ) → j < u → slice_index d.parents j ≡ slice_index c.parents j
  parent_old j h = get_or_append_left c.parents (i ∷ i ∷ []) 0 j (omega (arith, g.lengths.1))

  pub parent_left : (j : ℕ) → j ≡ u → slice_index d.parents j ≡ i
  parent_left j e = append_at c.parents (i ∷ i ∷ []) u 0 j g.lengths.1 (omega (arith, e))

  parent_right : (j : ℕ) → j ≡ u + 1 → slice_index d.parents j ≡ i
  parent_right j e = append_at c.parents (i ∷ i ∷ []) u 1 j g.lengths.1 e

  pub gap_old : (j : ℕ) → j < u → gap d j ≡ gap c j
  gap_old j h = get_or_append_left c.gaps (new_gap ∷ new_gap ∷ []) 0 j (omega (arith, g.lengths.0))

  gap_left : (j : ℕ) → j ≡ u → gap d j ≡ new_gap
  gap_left j e = append_at c.gaps (new_gap ∷ new_gap ∷ []) u 0 j g.lengths.0 (omega (arith, e))

  gap_right : (j : ℕ) → j ≡ u + 1 → gap d j ≡ new_gap
  gap_right j e = append_at c.gaps (new_gap ∷ new_gap ∷ []) u 1 j g.lengths.0 e

  pub trace_old : (j : ℕ) → j < u → trace d j ≡ trace c j
  trace_old j h = ap trace_in (get_append c.traces (None ∷ None ∷ []) j (omega (arith, g.lengths.2)))

  gap_low : (j : ℕ) → j < u → gap c j ≤ j
  gap_low = gap_le c cuts joins pend col g

  pub around_old : (j : ℕ) → 0 < j → j < u → around d j ≡ around c j
  around_old j p h = let l : slice_index c.parents j < j = g.rooted j p h in ap (owner d) (parent_old j h) ∙ owner_old (slice_index c.parents j) (omega arith)

  around_left : (j : ℕ) → j ≡ u → around d j ≡ t
  around_left j e = ap (owner d) (parent_left j e) ∙ owner_old i a.low

  around_right : (j : ℕ) → j ≡ u + 1 → around d j ≡ t
  around_right j e = ap (owner d) (parent_right j e) ∙ owner_old i a.low

  odd_pos : (s : ℕ) → s % 2 ≡ 1 → 0 < s
  odd_pos s e = omega arith

  no_even : (j : ℕ) → j ≡ u + 1 → j % 2 ≡ 1 → ⊥
  no_even j e o = by_number u j g.odd e o where
    by_number : (n j : ℕ) → n % 2 ≡ 1 → j ≡ n + 1 → j % 2 ≡ 1 → ⊥
    by_number n j p e o = omega arith

  not_cut : (k : ℕ) → has cuts k ≡ true → k < u
  not_cut k e = (g.cut_left k e).1

  pub data Opened (x s : ℕ) : Type 0 where
    earlier : IsOpen c joins x s → Opened x s
    here : s ≡ u → x ≡ t → Opened x s

  pub opened_of : (x s : ℕ) → IsOpen d joins x s → Opened x s
  opened_of x s o = elim (column_of s o.low) [
    | before h ↦ earlier (record { low = h; left = o.left; unjoined = o.unjoined; outside = sym (around_old s (odd_pos s o.left) h) ∙ o.outside })
    | on_left e ↦ here e (sym o.outside ∙ around_left s e)
    | on_right e ↦ absurd (no_even s e o.left)
  ]

  open_new : (x s : ℕ) → IsOpen c joins x s → IsOpen d joins x s
  open_new x s o = record { low = new s o.low; left = o.left; unjoined = o.unjoined; outside = around_old s (odd_pos s o.left) o.low ∙ o.outside }

  pub was_trace : (x : ℕ) → IsTrace d cuts joins x → IsTrace c cuts joins x
  was_trace x n = elim (or_cases (nat_eq x 0) (is_apart cuts joins x) n.named) [
    | inl e ↦ (let z : x ≡ 0 = eqb-true _ _ e in record { low = (let p : i < u = a.low in omega arith); named = n.named })
    | inr e ↦ record {
      low =
          let k : left_column_of x < u = not_cut (left_column_of x) (apart_parts cuts joins x e).0 in
          elim (column_of x n.low) [
            | before h ↦ h
            | on_left q ↦ absurd (omega (arith, ap left_column_of q, left_of_odd u g.odd))
            | on_right q ↦ absurd (omega (arith, ap left_column_of q, left_of_next u g.odd))
          ];
      named = n.named;
    }
  ]

  pub start_of : (x s : ℕ) → IsTrace c cuts joins x → SegmentStart d joins x s → (SegmentStart c joins x s × (s < u)) ⊎ ((s ≡ u) × (x ≡ t))
  start_of x s n (inl e) = inl (inl e, omega (arith, e, n.low))
  start_of x s n (inr o) = elim (opened_of x s o) [ earlier w ↦ inl (inr w, w.low) | here e q ↦ inr (e, q) ]

  cut_old : (x k : ℕ) → IsCut d cuts joins x k → (IsCut c cuts joins x k) × (x ≢ t)
  cut_old x k w = elim (opened_of x k w.fork) [
    | earlier o ↦ (let z : IsCut c cuts joins x k = record { fork = o; cut = w.cut } in (z, λ e. (let P : ℕ → Type 0 = λ x. IsCut c cuts joins x k in a.uncut k (subst P e z))))
    | here e q ↦ absurd (omega (arith, e, not_cut k w.cut))
  ]

  cut_new : (x k : ℕ) → IsCut c cuts joins x k → IsCut d cuts joins x k
  cut_new x k w = record { fork = open_new x k w.fork; cut = w.cut }

  live_old : (x s : ℕ) → s < u → IsLive d cuts joins x s → IsLive c cuts joins x s
  live_old x s h l = λ k w e. l k (cut_new x k w) (gap_old s h ∙ e ∙ sym (gap_old k w.fork.low))

  live_t : (x s : ℕ) → x ≡ t → IsLive c cuts joins x s
  live_t x s e = λ k w q. (let P : ℕ → Type 0 = λ x. IsCut c cuts joins x k in a.uncut k (subst P e w))

  is_start : (x : ℕ) → x ≡ t → SegmentStart c joins x a.start
  is_start x e = let P : ℕ → Type 0 = λ x. SegmentStart c joins x a.start in subst P (sym e) a.starts

  is_last : (x s : ℕ) → x ≡ t → SegmentStart c joins x s → s ≤ a.start
  is_last x s e w = let P : ℕ → Type 0 = λ x. SegmentStart c joins x s in a.last s (subst P e w)

  start_low : a.start < u
  start_low = let p : i < u = a.low in let q : a.start ≤ i = a.before in omega arith

  gap_col : (b : ℕ) → pend b ≡ true → gap d (col b) ≡ gap c (col b)
  gap_col b p = gap_old (col b) (g.there b p)

  pub own_col : (b : ℕ) → pend b ≡ true → owner d (col b) ≡ owner c (col b)
  own_col b p = owner_old (col b) (g.there b p)

  within_old : (x s b : ℕ) → Within d pend col x s b → Within c pend col x s b
  within_old x s b w = record { pending = w.pending; owned = sym (own_col b w.pending) ∙ w.owned; after = w.after }

  within_new : (x s b : ℕ) → Within c pend col x s b → Within d pend col x s b
  within_new x s b w = record { pending = w.pending; owned = own_col b w.pending ∙ w.owned; after = w.after }

  word_or : (word ≡ 0) ⊎ (word ≢ 0)
  word_or = cases_eq word 0

  gap_owned2 : (x s b : ℕ) → IsTrace d cuts joins x → SegmentStart d joins x s → IsLive d cuts joins x s → pend b ≡ true → gap d (col b) ≡ gap d s → (owner d (col b) ≡ x) × (s ≤ col b)
  gap_owned2 x s b n st l p e = let k = was_trace x n in elim (start_of x s k st) [
    | inl z ↦ (let v = g.gap_owned x s b k z.0 (live_old x s z.1 l) p (sym (gap_col b p) ∙ e ∙ gap_old s z.1) in (own_col b p ∙ v.0, v.1))
    | inr z ↦ absurd (elim word_or [
      | inl w ↦ free w b p (sym (gap_col b p) ∙ e ∙ gap_left s z.0 ∙ gap_shared w)
      | inr w ↦ (let q : gap c (col b) ≡ u = sym (gap_col b p) ∙ e ∙ gap_left s z.0 ∙ gap_fresh w in omega (arith, q, gap_low (col b) (g.there b p), g.there b p))
    ])
  ]

  gap_first2 : (x s b : ℕ) → IsTrace d cuts joins x → SegmentStart d joins x s → IsLive d cuts joins x s → Within d pend col x s b → (e : ℕ) × (e ≤ b) × (pend e ≡ true) × (gap d (col e) ≡ gap d s)
  gap_first2 x s b n st l w = let k = was_trace x n in elim (start_of x s k st) [
    | inl z ↦ (let v = g.gap_first x s b k z.0 (live_old x s z.1 l) (within_old x s b w) in (v.0, v.1, v.2, gap_col v.0 v.2 ∙ v.3 ∙ sym (gap_old s z.1)))
    | inr z ↦ absurd (omega (arith, z.0, w.after, g.there b w.pending))
  ]

  shared2 : (x s r b : ℕ) → IsTrace d cuts joins x → SegmentStart d joins x s → SegmentStart d joins x r → s < r → gap d s ≡ gap d r → Within d pend col x s b → col b < r → ⊥
  shared2 x s r b n st sr lt e w h = let k = was_trace x n in by_both k (start_of x s k st) (start_of x r k sr) where
    by_both : IsTrace c cuts joins x → (SegmentStart c joins x s × (s < u)) ⊎ ((s ≡ u) × (x ≡ t)) → (SegmentStart c joins x r × (r < u)) ⊎ ((r ≡ u) × (x ≡ t)) → ⊥
    by_both k (inl z) (inl y) = g.shared x s r b k z.0 y.0 lt (sym (gap_old s z.1) ∙ e ∙ gap_old r y.1) (within_old x s b w) h
    by_both k (inl z) (inr y) =
        let q : gap c s ≡ new_gap = sym (gap_old s z.1) ∙ e ∙ gap_left r y.0 in
        elim word_or [
          | inl v ↦ (let m = g.gap_first x s b k z.0 (live_t x s y.1) (within_old x s b w) in free v m.0 m.2 (m.3 ∙ q ∙ gap_shared v))
          | inr v ↦ absurd (omega (arith, q, gap_fresh v, gap_low s z.1, z.1))
        ]
    by_both k (inr z) (inl y) = absurd (omega (arith, z.0, y.1))
    by_both k (inr z) (inr y) = absurd (omega (arith, z.0, y.0))

  parted2 : (x s r : ℕ) → IsTrace d cuts joins x → SegmentStart d joins x s → SegmentStart d joins x r → s < r → (gap d s ≡ gap d r → ⊥) → (b : ℕ) × (col b < r) × Within d pend col x s b
  parted2 x s r n st sr lt ne = let k = was_trace x n in by_both k (start_of x s k st) (start_of x r k sr) where
    by_both : IsTrace c cuts joins x → (SegmentStart c joins x s × (s < u)) ⊎ ((s ≡ u) × (x ≡ t)) → (SegmentStart c joins x r × (r < u)) ⊎ ((r ≡ u) × (x ≡ t)) → (b : ℕ) × (col b < r) × Within d pend col x s b
    by_both k (inl z) (inl y) = let v = g.parted x s r k z.0 y.0 lt (λ q. ne (gap_old s z.1 ∙ q ∙ sym (gap_old r y.1))) in (v.0, v.1, within_new x s v.0 v.2)
    by_both k (inl z) (inr y) = elim word_or [
      | inl v ↦ (
          let q : gap c s ≢ gap c a.start = λ q. ne (gap_old s z.1 ∙ q ∙ sym a.same ∙ sym (gap_shared v) ∙ sym (gap_left r y.0)) in
          let le : s ≤ a.start = is_last x s y.1 z.0 in
          let apart : s ≢ a.start = λ q2. q (ap (gap c) q2) in
          let m = g.parted x s a.start k z.0 (is_start x y.1) (omega (arith, apart)) q in
          let lo : col m.0 < a.start = m.1 in
          (m.0, omega (arith, y.0, start_low), within_new x s m.0 m.2))
      | inr v ↦ (
          let m = taken v in
          let w = g.gap_owned x a.start m.0 k (is_start x y.1) (live_t x a.start y.1) m.1 (m.2 ∙ a.same) in
          let le : s ≤ a.start = is_last x s y.1 z.0 in
          let lo : a.start ≤ col m.0 = w.1 in
          (m.0, omega (arith, y.0, g.there m.0 m.1), within_new x s m.0 (record { pending = m.1; owned = w.0; after = omega arith })))
    ]
    by_both k (inr z) (inl y) = absurd (omega (arith, z.0, y.1))
    by_both k (inr z) (inr y) = absurd (omega (arith, z.0, y.0))

  one_trace2 : (x y s r : ℕ) → IsTrace d cuts joins x → IsTrace d cuts joins y → SegmentStart d joins x s → SegmentStart d joins y r → IsLive d cuts joins x s → IsLive d cuts joins y r → gap d s ≡ gap d r → x ≡ y
  one_trace2 x y s r n k st sr l h e = let nx = was_trace x n in let ny = was_trace y k in by_both nx ny (start_of x s nx st) (start_of y r ny sr) where
    one_new : (x y s r : ℕ) → IsTrace c cuts joins x → IsTrace c cuts joins y → SegmentStart c joins x s → s < u → IsLive c cuts joins x s → y ≡ t → gap c s ≡ new_gap → x ≡ y
    one_new x y s r nx ny w hs lx q e = elim word_or [
      | inl v ↦ g.one_trace x y s a.start nx ny w (is_start y q) lx (live_t y a.start q) (e ∙ gap_shared v ∙ a.same)
      | inr v ↦ absurd (omega (arith, e, gap_fresh v, gap_low s hs, hs))
    ]

    by_both : IsTrace c cuts joins x → IsTrace c cuts joins y → (SegmentStart c joins x s × (s < u)) ⊎ ((s ≡ u) × (x ≡ t)) → (SegmentStart c joins y r × (r < u)) ⊎ ((r ≡ u) × (y ≡ t)) → x ≡ y
    by_both nx ny (inl z) (inl w) = g.one_trace x y s r nx ny z.0 w.0 (live_old x s z.1 l) (live_old y r w.1 h) (sym (gap_old s z.1) ∙ e ∙ gap_old r w.1)
    by_both nx ny (inl z) (inr w) = one_new x y s r nx ny z.0 z.1 (live_old x s z.1 l) w.1 (sym (gap_old s z.1) ∙ e ∙ gap_left r w.0)
    by_both nx ny (inr z) (inl w) = sym (one_new y x r s ny nx w.0 w.1 (live_old y r w.1 h) z.1 (sym (gap_old r w.1) ∙ sym e ∙ gap_left s z.0))
    by_both nx ny (inr z) (inr w) = z.1 ∙ sym w.1

  nested2 : (x s j : ℕ) → IsTrace d cuts joins x → SegmentStart d joins x s → j < used d → s + 1 < j → around d j ≡ x → s ≤ slice_index d.parents j
  nested2 x s j n st h lt e = let k = was_trace x n in by_both k (start_of x s k st) (column_of j h) where
    below : (x ≡ t) → SegmentStart c joins x s → s ≤ i
    below q w = let le : s ≤ a.start = is_last x s q w in let lo : a.start ≤ i = a.before in omega arith

    by_both : IsTrace c cuts joins x → (SegmentStart c joins x s × (s < u)) ⊎ ((s ≡ u) × (x ≡ t)) → Col j → s ≤ slice_index d.parents j
    by_both k (inl z) (before l) = omega (arith, parent_old j l, g.nested x s j k z.0 l lt (sym (around_old j (omega arith) l) ∙ e))
    by_both k (inl z) (on_left q) = omega (arith, parent_left j q, below (sym e ∙ around_left j q) z.0)
    by_both k (inl z) (on_right q) = omega (arith, parent_right j q, below (sym e ∙ around_right j q) z.0)
    by_both k (inr z) (before l) = absurd (omega (arith, z.0))
    by_both k (inr z) (on_left q) = absurd (omega (arith, z.0, q))
    by_both k (inr z) (on_right q) = absurd (omega (arith, z.0, q))

  cut_last2 : (x k j : ℕ) → IsCut d cuts joins x k → j < used d → owner d j ≡ x → j < k
  cut_last2 x k j w h e = let z = cut_old x k w in elim (column_of j h) [
    | before l ↦ g.cut_last x k j z.0 l (sym (owner_old j l) ∙ e)
    | on_left q ↦ absurd (z.1 (sym e ∙ owner_left j q))
    | on_right q ↦ absurd (z.1 (sym e ∙ owner_right j q))
  ]

  taken_back2 : (x k s : ℕ) → IsCut d cuts joins x k → IsOpen d joins x s → s ≢ k → (j : ℕ) × (0 < j) × (j < used d) × (slice_index d.parents j ≡ s + 1)
  taken_back2 x k s w o n = let z = cut_old x k w in elim (opened_of x s o) [
    | earlier y ↦ (let v = g.taken_back x k s z.0 y n in (v.0, v.1, new v.0 v.2, parent_old v.0 v.2 ∙ v.3))
    | here e q ↦ absurd (z.1 q)
  ]

  unjoined_above2 : (s : ℕ) → s < used d → s % 2 ≡ 1 → has joins s ≡ false → 0 < slice_index d.parents s → has joins (left_column_of (slice_index d.parents s)) ≡ false
  unjoined_above2 s h o un p = by_col (column_of s h) where
    P : ℕ → Type 0
    P x = has joins (left_column_of x) ≡ false

    by_col : Col s → has joins (left_column_of (slice_index d.parents s)) ≡ false
    by_col (before l) = ap (λ x. has joins (left_column_of x)) (parent_old s l) ∙ g.unjoined_above s l o un (omega (arith, parent_old s l))
    by_col (on_left q) = ap (λ x. has joins (left_column_of x)) (parent_left s q) ∙ a.unjoined (omega (arith, parent_left s q))
    by_col (on_right q) = absurd (no_even s q o)

  together2 : (j : ℕ) → 0 < j → j < used d → is_apart cuts joins j ≡ false → owner d j ≡ around d j
  together2 j p h e = elim (column_of j h) [
    | before l ↦ owner_old j l ∙ g.together j p l e ∙ sym (around_old j p l)
    | on_left q ↦ owner_left j q ∙ sym (around_left j q)
    | on_right q ↦ owner_right j q ∙ sym (around_right j q)
  ]

  not_apart : (j : ℕ) → left_column_of j ≡ u → is_apart cuts joins j ≡ true → ⊥
  not_apart j e q = omega (arith, e, not_cut (left_column_of j) (apart_parts cuts joins j q).0)

  apart2 : (j : ℕ) → 0 < j → j < used d → is_apart cuts joins j ≡ true → owner d j ≡ j
  apart2 j p h e = elim (column_of j h) [
    | before l ↦ owner_old j l ∙ g.apart j p l e
    | on_left q ↦ absurd (not_apart j (ap left_column_of q ∙ left_of_odd u g.odd) e)
    | on_right q ↦ absurd (not_apart j (ap left_column_of q ∙ left_of_next u g.odd) e)
  ]

  gap_step2 : (j : ℕ) → 0 < j → j < used d → (gap d j ≡ gap d (slice_index d.parents j)) ⊎ ((left_column_of j ≤ gap d j) × (gap d j ≤ j))
  gap_step2 j p h = by_col (column_of j h) where
    old_parent : j < u → slice_index c.parents j < u
    old_parent l = let y : slice_index c.parents j < j = g.rooted j p l in omega arith

    by_word : gap d j ≡ new_gap → slice_index d.parents j ≡ i → left_column_of j ≡ u → u ≤ j → (word ≡ 0) ⊎ (word ≢ 0) → (gap d j ≡ gap d (slice_index d.parents j)) ⊎ ((left_column_of j ≤ gap d j) × (gap d j ≤ j))
    by_word e q f le (inl w) = inl (e ∙ gap_shared w ∙ sym (ap (gap d) q ∙ gap_old i a.low))
    by_word e q f le (inr w) = inr (omega (arith, e, gap_fresh w, f), omega (arith, e, gap_fresh w))

    by_col : Col j → (gap d j ≡ gap d (slice_index d.parents j)) ⊎ ((left_column_of j ≤ gap d j) × (gap d j ≤ j))
    by_col (before l) = elim (g.gap_step j p l) [
      | inl q ↦ inl (gap_old j l ∙ q ∙ sym (ap (gap d) (parent_old j l) ∙ gap_old (slice_index c.parents j) (old_parent l)))
      | inr q ↦ inr (omega (arith, gap_old j l, q.0), omega (arith, gap_old j l, q.1))
    ]
    by_col (on_left q) = by_word (gap_left j q) (parent_left j q) (ap left_column_of q ∙ left_of_odd u g.odd) (omega (arith, q)) word_or
    by_col (on_right q) = by_word (gap_right j q) (parent_right j q) (ap left_column_of q ∙ left_of_next u g.odd) (omega (arith, q)) word_or

  right_gap2 : (s : ℕ) → s % 2 ≡ 1 → s < used d → has cuts s ≡ false → gap d (s + 1) ≡ gap d s
  right_gap2 s o h e = elim (column_of s h) [
    | before l ↦ gap_old (s + 1) (right_used c cuts joins pend col g s l o) ∙ g.right_gap s o l e ∙ sym (gap_old s l)
    | on_left q ↦ gap_right (s + 1) (ap (λ x. x + 1) q) ∙ sym (gap_left s q)
    | on_right q ↦ absurd (no_even s q o)
  ]

  right_new2 : (s j : ℕ) → s % 2 ≡ 1 → s < used d → j < used d → has cuts s ≡ false → gap d j ≡ s + 1 → ⊥
  right_new2 s j o h k e q = by_both (column_of s h) (column_of j k) where
    by_new : Col s → new_gap ≡ s + 1 → ⊥
    by_new (before l) z = elim word_or [ inl w ↦ g.right_new s i o l a.low e (sym (gap_shared w) ∙ z) | inr w ↦ no_even u (gap_up w z) g.odd ] where
      gap_up : word ≢ 0 → new_gap ≡ s + 1 → u ≡ u + 1
      gap_up w z = absurd (by_number u s g.odd o (sym (gap_fresh w) ∙ z)) where
        by_number : (n s : ℕ) → n % 2 ≡ 1 → s % 2 ≡ 1 → n ≡ s + 1 → ⊥
        by_number n s p o e = omega arith
    by_new (on_left y) z = elim word_or [ inl w ↦ omega (arith, gap_shared w, z, y, gap_low i a.low, a.low) | inr w ↦ omega (arith, gap_fresh w, z, y) ]
    by_new (on_right y) z = no_even s y o

    by_both : Col s → Col j → ⊥
    by_both (before l) (before m) = g.right_new s j o l m e (sym (gap_old j m) ∙ q)
    by_both (on_left y) (before m) = omega (arith, q, gap_old j m, gap_low j m, y)
    by_both (on_right y) (before m) = no_even s y o
    by_both x (on_left y) = by_new x (sym (gap_left j y) ∙ q)
    by_both x (on_right y) = by_new x (sym (gap_right j y) ∙ q)

  rooted2 : (j : ℕ) → 0 < j → j < used d → slice_index d.parents j < j
  rooted2 j p h = elim (column_of j h) [
    | before l ↦ omega (arith, parent_old j l, g.rooted j p l)
    | on_left q ↦ omega (arith, parent_left j q, q, a.low)
    | on_right q ↦ omega (arith, parent_right j q, q, a.low)
  ]

  pairs2 : (s : ℕ) → s % 2 ≡ 1 → s < used d → slice_index d.parents (s + 1) ≡ slice_index d.parents s
  pairs2 s o h = elim (column_of s h) [
    | before l ↦ parent_old (s + 1) (right_used c cuts joins pend col g s l o) ∙ g.pairs s o l ∙ sym (parent_old s l)
    | on_left q ↦ parent_right (s + 1) (ap (λ x. x + 1) q) ∙ sym (parent_left s q)
    | on_right q ↦ absurd (no_even s q o)
  ]

  some : 0 < u
  some = let p : i < u = a.low in omega arith

  odd_on : (n k : ℕ) → n % 2 ≡ 1 → k ≡ n + 2 → k % 2 ≡ 1
  odd_on n k e q = omega arith

  -- the division into segments after a fork
  pub segments_fork : Segments d cuts joins pend col
  segments_fork = record {
    odd = odd_on u (used d) g.odd used_new;
    lengths = (omega (arith, length-append c.gaps (new_gap ∷ new_gap ∷ []), used_new, g.lengths.0), omega (arith, length-append c.parents (i ∷ i ∷ []), used_new, g.lengths.1), omega (arith, length-append c.traces (None ∷ None ∷ []), used_new, g.lengths.2));
    rooted = rooted2;
    pairs = pairs2;
    cut_left = λ k e. (let z = g.cut_left k e in (z.0, new k z.1));
    join_left = λ k e. (let z = g.join_left k e in (z.0, new k z.1));
    unjoined_above = unjoined_above2;
    root = owner_old 0 some ∙ g.root;
    together = together2;
    apart = apart2;
    gap_root = gap_old 0 some ∙ g.gap_root;
    gap_step = gap_step2;
    right_gap = right_gap2;
    right_new = right_new2;
    heads = λ x n. (let k = was_trace x n in ap head_in (trace_old x k.low) ∙ g.heads x k ∙ sym (gap_old x k.low));
    lead_live = λ x n l. (let k = was_trace x n in ap lead_in (trace_old x k.low) ∙ g.lead_live x k (live_old x x k.low l) ∙ ap Some (sym (gap_old x k.low)));
    lead_lent = λ x k n w e. (let v = was_trace x n in let z = cut_old x k w in ap lead_in (trace_old x v.low) ∙ g.lead_lent x k v z.0 (sym (gap_old x v.low) ∙ e ∙ gap_old k z.0.fork.low));
    nested = nested2;
    one_cut = λ x k j w v. g.one_cut x k j (cut_old x k w).0 (cut_old x j v).0;
    cut_last = cut_last2;
    taken_back = taken_back2;
    there = λ b p. new (col b) (g.there b p);
    gap_owned = gap_owned2;
    gap_first = gap_first2;
    shared = shared2;
    parted = parted2;
    one_trace = one_trace2;
  }
