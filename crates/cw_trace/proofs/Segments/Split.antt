-- A split keeps the division into segments.
use Rattle.std.proofs.Common.{◌≡◌, ◌≢◌, ℕ, ◌+◌, ◌<◌, ◌≤◌, List, ◌∷◌, length, refl, ap, sym, ◌∙◌, arith, Bool, true, false, Option, Some, None, nat_eq, inl, inr, subst, eq-eqb, eqb-true}
use Rattle.std.specs.Prelude.{◌⊎◌, ◌%◌, ◌&&◌, not, nat_le, slice_index, slice_set, if◌then◌else◌}
use Rattle.std.proofs.lemmas.Bool.{leb-true, le-leb, ne_eqb, and_parts, and_from, or_left, or_right, or_cases, cases_eq}
use Rattle.std.proofs.lemmas.List.{get_or-set_same, get_or-set_other, length-set}
use Rattle.cw_trace.specs.declared.tier.Trace.{Trace}
use Rattle.cw_trace.specs.Columns.{ColumnTable, used, owner, gap, trace, trace_in, head, head_in, lead, lead_in, up, left_column_of, split_at, part_of, is_lead, or_else}
use Rattle.cw_tree.specs.Walks.{has}
use Rattle.cw_tree.proofs.NextNodes.Closing.{get_set_other}
use Rattle.cw_trace.specs.Stands.{around, is_apart, names_trace}
use Rattle.cw_trace.specs.Segments.{IsOpen, SegmentStart, IsCut, IsTrace, IsLive, Within, Segments, MaySplit, next_outward}
use Rattle.cw_trace.proofs.Marks.Edits.{length_parts, parts_at, has_cons_same, has_cons_other, set_get_same}
use Rattle.cw_trace.proofs.Segments.Lines.{le_or_lt, left_of_odd, left_of_next, left_of_cases, left_of_le, is_split, unsplit, own_trace, own_self, open_after, gap_le, start_used, later_gap, right_used, odd_apart}
use Rattle.cw_trace.proofs.Outward.Outward.{all_past}

module _ (c : ColumnTable) (cuts joins : List ℕ) (pend : ℕ → Bool) (col : ℕ → ℕ) (g : Segments c cuts joins pend col) (f : ℕ) (m : MaySplit c cuts joins pend col f) (early : next_outward c cuts f ≡ None) where
  abbrev t : ℕ
  t = owner c f

  abbrev d : ColumnTable
  d = split_at f c

  abbrev cuts2 : List ℕ
  cuts2 = f ∷ cuts

  pos : 0 < f
  pos = by_odd f m.left where
    by_odd : (f : ℕ) → f % 2 ≡ 1 → 0 < f
    by_odd f e = omega arith

  pub open_f : IsOpen c joins t f
  open_f = record { low = m.low; left = m.left; unjoined = m.unjoined; outside = sym (g.together f pos m.low (unsplit cuts joins f (ap (has cuts) (left_of_odd f m.left) ∙ m.uncut))) }

  pub tr : IsTrace c cuts joins t
  tr = own_trace c cuts joins pend col g f m.low

  pub uncut : (k : ℕ) → IsCut c cuts joins t k → ⊥
  uncut k w = elim (cases_eq f k) [ inl e ↦ absurd (cc (ap (has cuts) e, m.uncut, w.cut)) | inr n ↦ (let z = g.taken_back t k f w open_f n in m.no_fork z.0 z.1 z.2 z.3) ]

  live : (s : ℕ) → IsLive c cuts joins t s
  live s = λ k w e. uncut k w

  pub t_low : t < f
  t_low = open_after c cuts joins pend col g t f open_f

  pub used_same : used d ≡ used c
  used_same = length_parts t f 0 c.owners

  old : (i : ℕ) → i < used d → i < used c
  old i h = omega (arith, used_same)

  pub new : (i : ℕ) → i < used c → i < used d
  new i h = omega (arith, used_same)

  pub right_low : f + 1 < used c
  right_low = right_used c cuts joins pend col g f m.low m.left

  pub data Part (i : ℕ) : Type 0 where
    right : i ≡ f + 1 → owner d i ≡ f + 1 → Part i
    left : i ≢ f + 1 → owner c i ≡ t → f ≤ i → owner d i ≡ f → Part i
    rest : i ≢ f + 1 → owner d i ≡ owner c i → (owner c i ≡ t → i < f) → Part i

  pub part : (i : ℕ) → i < used c → Part i
  part i h = by_tests (nat_eq i (f + 1)) (nat_eq (owner c i) t && nat_le f i) refl refl (parts_at t f 0 c.owners i h ∙ ap (λ n. part_of t f n (owner c i)) (zero_plus i)) where
    zero_plus : (i : ℕ) → 0 + i ≡ i
    zero_plus i = omega arith

    by_tests : (a b : Bool) → nat_eq i (f + 1) ≡ a → (nat_eq (owner c i) t && nat_le f i) ≡ b → owner d i ≡ (if a then f + 1 else if b then f else owner c i) → Part i
    by_tests true b ea eb e = right (eqb-true _ _ ea) e
    by_tests false true ea eb e = let z = and_parts (nat_eq (owner c i) t) (nat_le f i) eb in left (λ q. cc (eq-eqb i (f + 1) q, ea)) (eqb-true _ _ z.0) (leb-true _ _ z.1) e
    by_tests false false ea eb e =
        rest (λ q. cc (eq-eqb i (f + 1) q, ea)) e (λ o. elim (le_or_lt f i) [ inl l ↦ absurd (cc (and_from (nat_eq (owner c i) t) (nat_le f i) (eq-eqb _ _ o) (le-leb _ _ l), eb)) | inr l ↦ l ])

  right_owner : owner c (f + 1) ≡ t
  right_owner = g.together (f + 1) (omega arith) right_low (unsplit cuts joins (f + 1) (ap (has cuts) (left_of_next f m.left) ∙ m.uncut)) ∙ ap (owner c) (g.pairs f m.left m.low) ∙ open_f.outside

  pub no_trace : (x i : ℕ) → x ≡ f → i < used c → owner c i ≡ x → ⊥
  no_trace x i e h q =
      let P : ℕ → Type 0 = λ x. IsTrace c cuts joins x in
      let w : owner c f ≡ f = own_self c cuts joins pend col g f (subst P (q ∙ e) (own_trace c cuts joins pend col g i h)) in
      omega (arith, w, t_low)

  pub no_right_trace : (x i : ℕ) → x ≡ f + 1 → i < used c → owner c i ≡ x → ⊥
  no_right_trace x i e h q =
      let P : ℕ → Type 0 = λ x. IsTrace c cuts joins x in
      let w : owner c (f + 1) ≡ f + 1 = own_self c cuts joins pend col g (f + 1) (subst P (q ∙ e) (own_trace c cuts joins pend col g i h)) in
      omega (arith, w, t_low, right_owner)

  -- what an open fork of a trace after the split was before it
  par : (s : ℕ) → 0 < s → s < used c → slice_index c.parents s < used c
  par s p h = let l : slice_index c.parents s < s = g.rooted s p h in omega arith

  odd_pos : (s : ℕ) → s % 2 ≡ 1 → 0 < s
  odd_pos s e = omega arith

  open_R : (x s : ℕ) → x ≡ f + 1 → IsOpen d joins x s → ⊥
  open_R x s e o =
      let h : s < used c = old s o.low in
      let p : 0 < s = odd_pos s o.left in
      elim (part (slice_index c.parents s) (par s p h)) [
        | right q w ↦ m.no_fork s p h q
        | left n q l w ↦ absurd (omega (arith, w, o.outside, e))
        | rest n w l ↦ no_right_trace x (slice_index c.parents s) e (par s p h) (sym w ∙ o.outside)
      ]

  open_L : (x s : ℕ) → x ≡ f → IsOpen d joins x s → (IsOpen c joins t s) × (f < s)
  open_L x s e o =
      let h : s < used c = old s o.low in
      let p : 0 < s = odd_pos s o.left in
      let low : slice_index c.parents s < s = g.rooted s p h in
      elim (part (slice_index c.parents s) (par s p h)) [
        | right q w ↦ absurd (m.no_fork s p h q)
        | left n q l w ↦ (record { low = h; left = o.left; unjoined = o.unjoined; outside = q }, omega arith)
        | rest n w l ↦ absurd (no_trace x (slice_index c.parents s) e (par s p h) (sym w ∙ o.outside))
      ]

  open_T : (x s : ℕ) → x ≡ t → IsOpen d joins x s → (IsOpen c joins t s) × (s ≤ f)
  open_T x s e o =
      let h : s < used c = old s o.low in
      let p : 0 < s = odd_pos s o.left in
      elim (part (slice_index c.parents s) (par s p h)) [
        | right q w ↦ absurd (m.no_fork s p h q)
        | left n q l w ↦ absurd (omega (arith, w, o.outside, e, t_low))
        | rest n w l ↦ (
            let q : around c s ≡ t = sym w ∙ o.outside ∙ e in
            let low : slice_index c.parents s < f = l q in (
              record { low = h; left = o.left; unjoined = o.unjoined; outside = q },
              elim (le_or_lt s f) [
                | inl z ↦ z
                | inr z ↦ (let apart : s ≢ f + 1 = odd_apart s f o.left m.left in let k : f ≤ slice_index c.parents s = g.nested t f s tr (inr open_f) h (omega (arith, apart)) q in absurd (omega arith))
              ],
            ))
      ]

  pub record Other (x : ℕ) : Type 0 where
    pub not_t : x ≢ t
    pub not_f : x ≢ f
    pub not_r : x ≢ f + 1

  open_O : (x s : ℕ) → Other x → IsOpen d joins x s → IsOpen c joins x s
  open_O x s e o =
      let h : s < used c = old s o.low in
      let p : 0 < s = odd_pos s o.left in
      elim (part (slice_index c.parents s) (par s p h)) [
        | right q w ↦ absurd (m.no_fork s p h q)
        | left n q l w ↦ absurd (e.not_f (sym o.outside ∙ w))
        | rest n w l ↦ record { low = h; left = o.left; unjoined = o.unjoined; outside = sym w ∙ o.outside }
      ]

  open_O_new : (x s : ℕ) → Other x → IsOpen c joins x s → IsOpen d joins x s
  open_O_new x s e o =
      let p : 0 < s = odd_pos s o.left in
      elim (part (slice_index c.parents s) (par s p o.low)) [
        | right q w ↦ absurd (m.no_fork s p o.low q)
        | left n q l w ↦ absurd (e.not_t (sym o.outside ∙ q))
        | rest n w l ↦ record { low = new s o.low; left = o.left; unjoined = o.unjoined; outside = w ∙ o.outside }
      ]

  pub cut_f : (x : ℕ) → x ≡ t → IsCut d cuts2 joins x f
  cut_f x e = record {
    fork = record {
      low = new f m.low;
      left = m.left;
      unjoined = m.unjoined;
      outside =
          let low : slice_index c.parents f < f = g.rooted f pos m.low in
          elim (part (slice_index c.parents f) (par f pos m.low)) [
            | right q w ↦ absurd (omega (arith, q))
            | left n q l w ↦ absurd (omega arith)
            | rest n w l ↦ w ∙ open_f.outside ∙ sym e
          ];
    };
    cut = has_cons_same cuts f;
  }

  pub data Kind (x : ℕ) : Type 0 where
    is_R : x ≡ f + 1 → Kind x
    is_L : x ≡ f → Kind x
    is_T : x ≡ t → Kind x
    is_O : Other x → IsTrace c cuts joins x → Kind x

  apart_same : (i : ℕ) → left_column_of i ≢ f → is_apart cuts2 joins i ≡ is_apart cuts joins i
  apart_same i n = ap (λ b. b && not (has joins (left_column_of i))) (has_cons_other cuts f (left_column_of i) n)

  not_left : (i : ℕ) → 0 < i → i ≢ f → i ≢ f + 1 → left_column_of i ≢ f
  not_left i p a b = λ e. elim (left_of_cases i p) [ inl q ↦ a (q ∙ e) | inr q ↦ b (q ∙ ap (λ z. z + 1) e) ]

  pub kind : (x : ℕ) → IsTrace d cuts2 joins x → Kind x
  kind x n = elim (cases_eq x (f + 1)) [
    | inl e ↦ is_R e
    | inr r ↦ elim (cases_eq x f) [
      | inl e ↦ is_L e
      | inr l ↦ elim (cases_eq x t) [ inl e ↦ is_T e | inr k ↦ is_O (record { not_t = k; not_f = l; not_r = r }) (record { low = old x n.low; named = named r l (cases_eq x 0) }) ]
    ]
  ] where
    named : x ≢ f + 1 → x ≢ f → (x ≡ 0) ⊎ (x ≢ 0) → names_trace cuts joins x ≡ true
    named r l (inl z) = or_left (nat_eq x 0) (is_apart cuts joins x) (eq-eqb x 0 z)
    named r l (inr z) = elim (or_cases (nat_eq x 0) (is_apart cuts2 joins x) n.named) [
      | inl q ↦ absurd (z (eqb-true x 0 q))
      | inr q ↦ or_right (nat_eq x 0) (is_apart cuts joins x) (sym (apart_same x (not_left x (omega (arith, z)) l r)) ∙ q)
    ]

  start_R : (x s : ℕ) → x ≡ f + 1 → SegmentStart d joins x s → s ≡ f + 1
  start_R x s e (inl q) = q ∙ e
  start_R x s e (inr o) = absurd (open_R x s e o)

  start_L : (x s : ℕ) → x ≡ f → SegmentStart d joins x s → (SegmentStart c joins t s) × (f ≤ s) × (s ≢ f + 1)
  start_L x s e (inl q) = (let P : ℕ → Type 0 = λ y. SegmentStart c joins t y in subst P (sym (q ∙ e)) (inr open_f), omega (arith, q, e), λ z. omega (arith, z, q, e))
  start_L x s e (inr o) = let z = open_L x s e o in (inr z.0, (let l : f < s = z.1 in omega arith), odd_apart s f o.left m.left)

  start_T : (x s : ℕ) → x ≡ t → SegmentStart d joins x s → (SegmentStart c joins t s) × (s ≤ f) × (s ≢ f + 1)
  start_T x s e (inl q) = (inl (q ∙ e), omega (arith, q, e, t_low), λ z. omega (arith, z, q, e, t_low))
  start_T x s e (inr o) = let z = open_T x s e o in (inr z.0, z.1, odd_apart s f o.left m.left)

  start_O : (x s : ℕ) → Other x → SegmentStart d joins x s → (SegmentStart c joins x s) × (s ≢ f + 1)
  start_O x s e (inl q) = (inl q, λ z. e.not_r (sym q ∙ z))
  start_O x s e (inr o) = (inr (open_O x s e o), odd_apart s f o.left m.left)

  pub gap_other : (i : ℕ) → i ≢ f + 1 → gap d i ≡ gap c i
  gap_other i n = get_or-set_other c.gaps (f + 1) i (f + 1) 0 n

  pub gap_right : gap d (f + 1) ≡ f + 1
  gap_right = get_or-set_same c.gaps (f + 1) (f + 1) 0 (omega (arith, g.lengths.0, right_low))

  -- pending blocks
  pub gap_col : (b : ℕ) → pend b ≡ true → gap d (col b) ≡ gap c (col b)
  gap_col b p = gap_other (col b) (m.no_block b p)

  in_L : (x b : ℕ) → x ≡ f → pend b ≡ true → owner d (col b) ≡ x → (owner c (col b) ≡ t) × (f ≤ col b)
  in_L x b e p o = elim (part (col b) (g.there b p)) [
    | right q w ↦ absurd (m.no_block b p q)
    | left n q l w ↦ (q, l)
    | rest n w l ↦ absurd (no_trace x (col b) e (g.there b p) (sym w ∙ o))
  ]

  pub in_T : (x b : ℕ) → x ≡ t → pend b ≡ true → owner d (col b) ≡ x → (owner c (col b) ≡ t) × (col b < f)
  in_T x b e p o = elim (part (col b) (g.there b p)) [
    | right q w ↦ absurd (m.no_block b p q)
    | left n q l w ↦ absurd (omega (arith, w, o, e, t_low))
    | rest n w l ↦ (sym w ∙ o ∙ e, l (sym w ∙ o ∙ e))
  ]

  pub in_O : (x b : ℕ) → Other x → pend b ≡ true → owner d (col b) ≡ x → owner c (col b) ≡ x
  in_O x b e p o = elim (part (col b) (g.there b p)) [ right q w ↦ absurd (m.no_block b p q) | left n q l w ↦ absurd (e.not_f (sym o ∙ w)) | rest n w l ↦ sym w ∙ o ]

  not_R : (x b : ℕ) → x ≡ f + 1 → pend b ≡ true → owner d (col b) ≡ x → ⊥
  not_R x b e p o = elim (part (col b) (g.there b p)) [
    | right q w ↦ m.no_block b p q
    | left n q l w ↦ absurd (omega (arith, w, o, e))
    | rest n w l ↦ no_right_trace x (col b) e (g.there b p) (sym w ∙ o)
  ]

  to_L : (x b : ℕ) → x ≡ f → pend b ≡ true → owner c (col b) ≡ t → f ≤ col b → owner d (col b) ≡ x
  to_L x b e p o l = elim (part (col b) (g.there b p)) [ right q w ↦ absurd (m.no_block b p q) | left n q k w ↦ w ∙ sym e | rest n w k ↦ (let z : col b < f = k o in absurd (omega arith)) ]

  pub to_T : (x b : ℕ) → x ≡ t → pend b ≡ true → owner c (col b) ≡ t → col b < f → owner d (col b) ≡ x
  to_T x b e p o l = elim (part (col b) (g.there b p)) [ right q w ↦ absurd (m.no_block b p q) | left n q k w ↦ absurd (omega arith) | rest n w k ↦ w ∙ o ∙ sym e ]

  pub to_O : (x b : ℕ) → Other x → pend b ≡ true → owner c (col b) ≡ x → owner d (col b) ≡ x
  to_O x b e p o = elim (part (col b) (g.there b p)) [ right q w ↦ absurd (m.no_block b p q) | left n q l w ↦ absurd (e.not_t (sym o ∙ q)) | rest n w l ↦ w ∙ o ]

  -- cuts after the split
  cut_R : (x k : ℕ) → x ≡ f + 1 → IsCut d cuts2 joins x k → ⊥
  cut_R x k e w = open_R x k e w.fork

  cut_L : (x k : ℕ) → x ≡ f → IsCut d cuts2 joins x k → ⊥
  cut_L x k e w = let z = open_L x k e w.fork in uncut k (record { fork = z.0; cut = sym (has_cons_other cuts f k (λ q. (let l : f < k = z.1 in omega (arith, q)))) ∙ w.cut })

  cut_T : (x k : ℕ) → x ≡ t → IsCut d cuts2 joins x k → k ≡ f
  cut_T x k e w = elim (cases_eq k f) [ inl q ↦ q | inr n ↦ (let z = open_T x k e w.fork in absurd (uncut k (record { fork = z.0; cut = sym (has_cons_other cuts f k n) ∙ w.cut }))) ]

  cut_O : (x k : ℕ) → Other x → IsCut d cuts2 joins x k → IsCut c cuts joins x k
  cut_O x k e w =
      let o = open_O x k e w.fork in
      record { fork = o; cut = sym (has_cons_other cuts f k (λ q. e.not_t (sym o.outside ∙ ap (around c) q ∙ open_f.outside))) ∙ w.cut }

  cut_O_new : (x k : ℕ) → Other x → IsCut c cuts joins x k → IsCut d cuts2 joins x k
  cut_O_new x k e w = record { fork = open_O_new x k e w.fork; cut = or_right (nat_eq f k) (has cuts k) w.cut }

  live_O : (x s : ℕ) → Other x → s ≢ f + 1 → IsLive d cuts2 joins x s → IsLive c cuts joins x s
  live_O x s e n l = λ k w q. l k (cut_O_new x k e w) (gap_other s n ∙ q ∙ sym (gap_other k (odd_apart k f w.fork.left m.left)))

  f_apart : f ≢ f + 1
  f_apart = λ q. omega (arith, q)

  live_T : (x s : ℕ) → x ≡ t → s ≢ f + 1 → IsLive d cuts2 joins x s → gap c s ≢ gap c f
  live_T x s e n l = λ q. l f (cut_f x e) (gap_other s n ∙ q ∙ sym (gap_other f f_apart))

  -- the traces after the split
  abbrev pub kept_lead : Option ℕ
  kept_lead = if is_lead (lead c t) (gap c f) then None else lead c t

  abbrev pub above : Option ℕ
  above = or_else kept_lead t (up c t)

  abbrev old_trace : Trace
  old_trace = record { head = head c t; lead = kept_lead; up = up c t }

  abbrev left_trace : Trace
  left_trace = record { head = gap c f; lead = Some (gap c f); up = above }

  abbrev right_trace : Trace
  right_trace = record { head = f + 1; lead = Some (f + 1); up = above }

  length_traces : length (slice_set c.traces t (Some old_trace)) ≡ used c
  length_traces = length-set c.traces t (Some old_trace) ∙ g.lengths.2

  length_traces2 : length (slice_set (slice_set c.traces t (Some old_trace)) f (Some left_trace)) ≡ used c
  length_traces2 = length-set (slice_set c.traces t (Some old_trace)) f (Some left_trace) ∙ length_traces

  pub trace_R : trace d (f + 1) ≡ Some right_trace
  trace_R = ap trace_in (set_get_same (slice_set (slice_set c.traces t (Some old_trace)) f (Some left_trace)) (f + 1) (Some right_trace) (omega (arith, length_traces2, right_low)))

  pub trace_L : trace d f ≡ Some left_trace
  trace_L =
      ap trace_in (get_set_other (slice_set (slice_set c.traces t (Some old_trace)) f (Some left_trace)) (f + 1) f (Some right_trace) f_apart
      ∙ set_get_same (slice_set c.traces t (Some old_trace)) f (Some left_trace) (omega (arith, length_traces, m.low)))

  pub trace_T : trace d t ≡ Some old_trace
  trace_T =
      ap trace_in (get_set_other (slice_set (slice_set c.traces t (Some old_trace)) f (Some left_trace)) (f + 1) t (Some right_trace) (λ q. omega (arith, q, t_low))
      ∙ get_set_other (slice_set c.traces t (Some old_trace)) f t (Some left_trace) (λ q. omega (arith, q, t_low))
      ∙ set_get_same c.traces t (Some old_trace) (omega (arith, g.lengths.2, t_low, m.low)))

  pub trace_O : (x : ℕ) → Other x → trace d x ≡ trace c x
  trace_O x e =
      ap trace_in (get_set_other (slice_set (slice_set c.traces t (Some old_trace)) f (Some left_trace)) (f + 1) x (Some right_trace) e.not_r
      ∙ get_set_other (slice_set c.traces t (Some old_trace)) f x (Some left_trace) e.not_f
      ∙ get_set_other c.traces t x (Some old_trace) e.not_t)

  lead_t : lead c t ≡ Some (gap c t)
  lead_t = g.lead_live t tr (live t)

  pub lead_stays : (gap c t ≢ gap c f) → kept_lead ≡ Some (gap c t)
  lead_stays n = ap (λ l. if is_lead l (gap c f) then None else l) lead_t ∙ ap (λ b. if b then None else Some (gap c t)) (ne_eqb (gap c t) (gap c f) n)

  pub lead_goes : gap c t ≡ gap c f → kept_lead ≡ None
  lead_goes e = ap (λ l. if is_lead l (gap c f) then None else l) lead_t ∙ ap (λ b. if b then None else Some (gap c t)) (eq-eqb (gap c t) (gap c f) e)

  t_apart : t ≢ f + 1
  t_apart = λ q. omega (arith, q, t_low)

  heads2 : (x : ℕ) → IsTrace d cuts2 joins x → head d x ≡ gap d x
  heads2 x n = by_kind (kind x n) where
    by_kind : Kind x → head d x ≡ gap d x
    by_kind (is_R e) = ap (head d) e ∙ ap head_in trace_R ∙ sym gap_right ∙ sym (ap (gap d) e)
    by_kind (is_L e) = ap (head d) e ∙ ap head_in trace_L ∙ sym (gap_other f f_apart) ∙ sym (ap (gap d) e)
    by_kind (is_T e) = ap (head d) e ∙ ap head_in trace_T ∙ g.heads t tr ∙ sym (gap_other t t_apart) ∙ sym (ap (gap d) e)
    by_kind (is_O o k) = ap head_in (trace_O x o) ∙ g.heads x k ∙ sym (gap_other x o.not_r)

  lead_live2 : (x : ℕ) → IsTrace d cuts2 joins x → IsLive d cuts2 joins x x → lead d x ≡ Some (gap d x)
  lead_live2 x n l = by_kind (kind x n) where
    by_kind : Kind x → lead d x ≡ Some (gap d x)
    by_kind (is_R e) = ap (lead d) e ∙ ap lead_in trace_R ∙ ap Some (sym gap_right ∙ sym (ap (gap d) e))
    by_kind (is_L e) = ap (lead d) e ∙ ap lead_in trace_L ∙ ap Some (sym (gap_other f f_apart) ∙ sym (ap (gap d) e))
    by_kind (is_T e) =
        let a : gap c x ≢ gap c f = live_T x x e (λ q. t_apart (sym e ∙ q)) l in
        ap (lead d) e ∙ ap lead_in trace_T ∙ lead_stays (λ q. a (ap (gap c) e ∙ q)) ∙ ap Some (sym (gap_other t t_apart) ∙ sym (ap (gap d) e))
    by_kind (is_O o k) = ap lead_in (trace_O x o) ∙ g.lead_live x k (live_O x x o o.not_r l) ∙ ap Some (sym (gap_other x o.not_r))

  lead_lent2 : (x k : ℕ) → IsTrace d cuts2 joins x → IsCut d cuts2 joins x k → gap d x ≡ gap d k → lead d x ≡ None
  lead_lent2 x k n w q = by_kind (kind x n) where
    by_kind : Kind x → lead d x ≡ None
    by_kind (is_R e) = absurd (cut_R x k e w)
    by_kind (is_L e) = absurd (cut_L x k e w)
    by_kind (is_T e) =
        let z : k ≡ f = cut_T x k e w in
        ap (lead d) e ∙ ap lead_in trace_T ∙ lead_goes (sym (gap_other t t_apart) ∙ sym (ap (gap d) e) ∙ q ∙ ap (gap d) z ∙ gap_other f f_apart)
    by_kind (is_O o i) =
        let y = cut_O x k o w in
        ap lead_in (trace_O x o) ∙ g.lead_lent x k i y (sym (gap_other x o.not_r) ∙ q ∙ gap_other k (odd_apart k f w.fork.left m.left))

  -- owners after the split
  together2 : (i : ℕ) → 0 < i → i < used d → is_apart cuts2 joins i ≡ false → owner d i ≡ around d i
  together2 i p h0 a =
      let h : i < used c = old i h0 in
      let n : left_column_of i ≢ f = λ q. cc (is_split cuts2 joins i (ap (has cuts2) q ∙ has_cons_same cuts f) (ap (has joins) q ∙ m.unjoined), a) in
      let same : is_apart cuts joins i ≡ false = sym (apart_same i n) ∙ a in
      let o : owner c i ≡ around c i = g.together i p h same in
      let low : slice_index c.parents i < i = g.rooted i p h in
      let not_right : slice_index c.parents i ≢ f + 1 = m.no_fork i p h in
      elim (part i h) [
        | right q w ↦ absurd (n (ap left_column_of q ∙ left_of_next f m.left))
        | left k q l w ↦ (
            let not_f : i ≢ f = λ z. n (ap left_column_of z ∙ left_of_odd f m.left) in
            let le : f ≤ slice_index c.parents i = g.nested t f i tr (inr open_f) h (omega (arith, l, not_f, k)) (sym o ∙ q) in
            elim (part (slice_index c.parents i) (par i p h)) [ right z y ↦ absurd (not_right z) | left z y x v ↦ w ∙ sym v | rest z y x ↦ (let v : slice_index c.parents i < f = x (sym o ∙ q) in absurd (omega arith)) ])
        | rest k w l ↦ elim (part (slice_index c.parents i) (par i p h)) [
          | right z y ↦ absurd (not_right z)
          | left z y x v ↦ (let u : i < f = l (o ∙ y) in absurd (omega arith))
          | rest z y x ↦ w ∙ o ∙ sym y
        ]
      ]

  apart2 : (i : ℕ) → 0 < i → i < used d → is_apart cuts2 joins i ≡ true → owner d i ≡ i
  apart2 i p h0 a =
      let h : i < used c = old i h0 in
      elim (part i h) [
        | right q w ↦ w ∙ sym q
        | left k q l w ↦ elim (cases_eq i f) [
          | inl z ↦ w ∙ sym z
          | inr z ↦ (let o : owner c i ≡ i = g.apart i p h (sym (apart_same i (not_left i p z k)) ∙ a) in absurd (omega (arith, o, q, l, t_low)))
        ]
        | rest k w l ↦ elim (cases_eq i f) [
          | inl z ↦ (let u : i < f = l (ap (owner c) z) in absurd (omega (arith, z)))
          | inr z ↦ w ∙ g.apart i p h (sym (apart_same i (not_left i p z k)) ∙ a)
        ]
      ]

  gap_step2 : (i : ℕ) → 0 < i → i < used d → (gap d i ≡ gap d (slice_index d.parents i)) ⊎ ((left_column_of i ≤ gap d i) × (gap d i ≤ i))
  gap_step2 i p h0 =
      let h : i < used c = old i h0 in
      elim (cases_eq i (f + 1)) [
        | inl e ↦ inr (let y = left_of_le i p in (omega (arith, ap (gap d) e, gap_right, e, left_of_next f m.left, ap left_column_of e), omega (arith, ap (gap d) e, gap_right, e)))
        | inr n ↦ elim (g.gap_step i p h) [
          | inl q ↦ inl (gap_other i n ∙ q ∙ sym (gap_other (slice_index c.parents i) (m.no_fork i p h)))
          | inr q ↦ inr (omega (arith, gap_other i n, q.0), omega (arith, gap_other i n, q.1))
        ]
      ]

  not_cut2 : (s : ℕ) → has cuts2 s ≡ false → (s ≢ f) × (has cuts s ≡ false)
  not_cut2 s u =
      let n : s ≢ f = λ q. cc (ap (has cuts2) q, has_cons_same cuts f, u) in
      (n, sym (has_cons_other cuts f s n) ∙ u)

  right_gap2 : (s : ℕ) → s % 2 ≡ 1 → s < used d → has cuts2 s ≡ false → gap d (s + 1) ≡ gap d s
  right_gap2 s o h u =
      let z = not_cut2 s u in
      gap_other (s + 1) (λ q. z.0 (omega (arith, q))) ∙ g.right_gap s o (old s h) z.1 ∙ sym (gap_other s (odd_apart s f o m.left))

  right_new2 : (s i : ℕ) → s % 2 ≡ 1 → s < used d → i < used d → has cuts2 s ≡ false → gap d i ≡ s + 1 → ⊥
  right_new2 s i o h k u q =
      let z = not_cut2 s u in
      elim (cases_eq i (f + 1)) [ inl e ↦ z.0 (omega (arith, sym (ap (gap d) e ∙ gap_right) ∙ q)) | inr n ↦ g.right_new s i o (old s h) (old i k) z.1 (sym (gap_other i n) ∙ q) ]

  -- one line for each trace
  nested2 : (x s i : ℕ) → IsTrace d cuts2 joins x → SegmentStart d joins x s → i < used d → s + 1 < i → around d i ≡ x → s ≤ slice_index d.parents i
  nested2 x s i n st h0 l a =
      let h : i < used c = old i h0 in
      let p : 0 < i = omega arith in
      by_part h p (part (slice_index c.parents i) (par i p h)) (kind x n) where
        by_part : i < used c → 0 < i → Part (slice_index c.parents i) → Kind x → s ≤ slice_index c.parents i
        by_part h p (right q w) k = absurd (m.no_fork i p h q)
        by_part h p (left z q y w) (is_R e) = absurd (omega (arith, w, a, e))
        by_part h p (left z q y w) (is_L e) = let u = start_L x s e st in g.nested t s i tr u.0 h l q
        by_part h p (left z q y w) (is_T e) = absurd (omega (arith, w, a, e, t_low))
        by_part h p (left z q y w) (is_O o k) = absurd (o.not_f (sym a ∙ w))
        by_part h p (rest z w y) (is_R e) = absurd (no_right_trace x (slice_index c.parents i) e (par i p h) (sym w ∙ a))
        by_part h p (rest z w y) (is_L e) = absurd (no_trace x (slice_index c.parents i) e (par i p h) (sym w ∙ a))
        by_part h p (rest z w y) (is_T e) = let u = start_T x s e st in g.nested t s i tr u.0 h l (sym w ∙ a ∙ e)
        by_part h p (rest z w y) (is_O o k) = let u = start_O x s o st in g.nested x s i k u.0 h l (sym w ∙ a)

  -- each trace that was cut is the old one or another
  cut_kind : (x k : ℕ) → IsCut d cuts2 joins x k → ((x ≡ t) × (k ≡ f)) ⊎ (Other x × IsCut c cuts joins x k)
  cut_kind x k w = elim (cases_eq x (f + 1)) [
    | inl e ↦ absurd (cut_R x k e w)
    | inr r ↦ elim (cases_eq x f) [
      | inl e ↦ absurd (cut_L x k e w)
      | inr l ↦ elim (cases_eq x t) [ inl e ↦ inl (e, cut_T x k e w) | inr n ↦ (let o : Other x = record { not_t = n; not_f = l; not_r = r } in inr (o, cut_O x k o w)) ]
    ]
  ]

  one_cut2 : (x k j : ℕ) → IsCut d cuts2 joins x k → IsCut d cuts2 joins x j → k ≡ j
  one_cut2 x k j w v = by_kind (cut_kind x k w) where
    by_kind : ((x ≡ t) × (k ≡ f)) ⊎ (Other x × IsCut c cuts joins x k) → k ≡ j
    by_kind (inl z) = z.1 ∙ sym (cut_T x j z.0 v)
    by_kind (inr z) = g.one_cut x k j z.1 (cut_O x j z.0 v)

  cut_last2 : (x k i : ℕ) → IsCut d cuts2 joins x k → i < used d → owner d i ≡ x → i < k
  cut_last2 x k i w h0 o = by_kind (cut_kind x k w) (part i (old i h0)) where
    by_kind : ((x ≡ t) × (k ≡ f)) ⊎ (Other x × IsCut c cuts joins x k) → Part i → i < k
    by_kind (inl z) (right q v) = absurd (omega (arith, v, o, z.0, t_low))
    by_kind (inl z) (left n q l v) = absurd (omega (arith, v, o, z.0, t_low))
    by_kind (inl z) (rest n v l) = let y : i < f = l (sym v ∙ o ∙ z.0) in omega (arith, z.1)
    by_kind (inr z) (right q v) = absurd (z.0.not_r (sym o ∙ v))
    by_kind (inr z) (left n q l v) = absurd (z.0.not_f (sym o ∙ v))
    by_kind (inr z) (rest n v l) = g.cut_last x k i z.1 (old i h0) (sym v ∙ o)

  taken_back2 : (x k s : ℕ) → IsCut d cuts2 joins x k → IsOpen d joins x s → s ≢ k → (i : ℕ) × (0 < i) × (i < used d) × (slice_index d.parents i ≡ s + 1)
  taken_back2 x k s w o n = by_kind (cut_kind x k w) where
    by_kind : ((x ≡ t) × (k ≡ f)) ⊎ (Other x × IsCut c cuts joins x k) → (i : ℕ) × (0 < i) × (i < used d) × (slice_index d.parents i ≡ s + 1)
    by_kind (inl z) =
        let y = open_T x s z.0 o in
        let apart : s ≢ f = λ q. n (q ∙ sym z.1) in
        let v = all_past c cuts joins pend col g f s m.uncut open_f y.0 (let le : s ≤ f = y.1 in omega (arith, apart)) early in
        (v.0, v.1, new v.0 v.2, v.3)
    by_kind (inr z) = let v = g.taken_back x k s z.1 (open_O x s z.0 o) n in (v.0, v.1, new v.0 v.2, v.3)

  -- gaps and pending blocks
  gap_owned2 : (x s b : ℕ) → IsTrace d cuts2 joins x → SegmentStart d joins x s → IsLive d cuts2 joins x s → pend b ≡ true → gap d (col b) ≡ gap d s → (owner d (col b) ≡ x) × (s ≤ col b)
  gap_owned2 x s b n st l p e = by_kind (kind x n) where
    by_kind : Kind x → (owner d (col b) ≡ x) × (s ≤ col b)
    by_kind (is_R q) = absurd (g.right_new f (col b) m.left m.low (g.there b p) m.uncut (sym (gap_col b p) ∙ e ∙ ap (gap d) (start_R x s q st) ∙ gap_right))
    by_kind (is_L q) =
        let u = start_L x s q st in
        let v = g.gap_owned t s b tr u.0 (live s) p (sym (gap_col b p) ∙ e ∙ gap_other s u.2) in
        let le : f ≤ s = u.1 in
        let w : s ≤ col b = v.1 in
        (to_L x b q p v.0 (omega arith), w)
    by_kind (is_T q) =
        let u = start_T x s q st in
        let same : gap c (col b) ≡ gap c s = sym (gap_col b p) ∙ e ∙ gap_other s u.2 in
        let v = g.gap_owned t s b tr u.0 (live s) p same in
        let a : gap c s ≢ gap c f = live_T x s q u.2 l in
        let le : s ≤ f = u.1 in
        elim (le_or_lt f (col b)) [
          | inr lt ↦ (to_T x b q p v.0 lt, v.1)
          | inl ge ↦ elim (later_gap c cuts joins pend col g t f tr (inr open_f) (uncut f) (col b) (g.there b p) v.0 ge) [
            | inl z ↦ absurd (a (sym same ∙ z))
            | inr z ↦ (
                let k : gap c s ≤ s = gap_le c cuts joins pend col g s (start_used c cuts joins pend col g t s tr u.0) in
                let ne : s ≢ f = λ y. a (ap (gap c) y) in
                absurd (omega (arith, same, z, ne)))
          ]
        ]
    by_kind (is_O o k) =
        let u = start_O x s o st in
        let v = g.gap_owned x s b k u.0 (live_O x s o u.1 l) p (sym (gap_col b p) ∙ e ∙ gap_other s u.1) in
        (to_O x b o p v.0, v.1)

  gap_first2 : (x s b : ℕ) → IsTrace d cuts2 joins x → SegmentStart d joins x s → IsLive d cuts2 joins x s → Within d pend col x s b → (a : ℕ) × (a ≤ b) × (pend a ≡ true) × (gap d (col a) ≡ gap d s)
  gap_first2 x s b n st l w = by_kind (kind x n) where
    with_gap : s ≢ f + 1 → ((a : ℕ) × (a ≤ b) × (pend a ≡ true) × (gap c (col a) ≡ gap c s)) → (a : ℕ) × (a ≤ b) × (pend a ≡ true) × (gap d (col a) ≡ gap d s)
    with_gap ne z = (z.0, z.1, z.2, gap_col z.0 z.2 ∙ z.3 ∙ sym (gap_other s ne))

    by_kind : Kind x → (a : ℕ) × (a ≤ b) × (pend a ≡ true) × (gap d (col a) ≡ gap d s)
    by_kind (is_R q) = absurd (not_R x b q w.pending w.owned)
    by_kind (is_L q) = let u = start_L x s q st in with_gap u.2 (g.gap_first t s b tr u.0 (live s) (record { pending = w.pending; owned = (in_L x b q w.pending w.owned).0; after = w.after }))
    by_kind (is_T q) = let u = start_T x s q st in with_gap u.2 (g.gap_first t s b tr u.0 (live s) (record { pending = w.pending; owned = (in_T x b q w.pending w.owned).0; after = w.after }))
    by_kind (is_O o k) = let u = start_O x s o st in with_gap u.1 (g.gap_first x s b k u.0 (live_O x s o u.1 l) (record { pending = w.pending; owned = in_O x b o w.pending w.owned; after = w.after }))

  shared2 : (x s r b : ℕ) → IsTrace d cuts2 joins x → SegmentStart d joins x s → SegmentStart d joins x r → s < r → gap d s ≡ gap d r → Within d pend col x s b → col b < r → ⊥
  shared2 x s r b n st sr lt e w k = by_kind (kind x n) where
    by_kind : Kind x → ⊥
    by_kind (is_R q) = not_R x b q w.pending w.owned
    by_kind (is_L q) =
        let u = start_L x s q st in
        let v = start_L x r q sr in
        g.shared t s r b tr u.0 v.0 lt (sym (gap_other s u.2) ∙ e ∙ gap_other r v.2) (record { pending = w.pending; owned = (in_L x b q w.pending w.owned).0; after = w.after }) k
    by_kind (is_T q) =
        let u = start_T x s q st in
        let v = start_T x r q sr in
        g.shared t s r b tr u.0 v.0 lt (sym (gap_other s u.2) ∙ e ∙ gap_other r v.2) (record { pending = w.pending; owned = (in_T x b q w.pending w.owned).0; after = w.after }) k
    by_kind (is_O o i) =
        let u = start_O x s o st in
        let v = start_O x r o sr in
        g.shared x s r b i u.0 v.0 lt (sym (gap_other s u.1) ∙ e ∙ gap_other r v.1) (record { pending = w.pending; owned = in_O x b o w.pending w.owned; after = w.after }) k

  parted2 : (x s r : ℕ) → IsTrace d cuts2 joins x → SegmentStart d joins x s → SegmentStart d joins x r → s < r → (gap d s ≡ gap d r → ⊥) → (b : ℕ) × (col b < r) × Within d pend col x s b
  parted2 x s r n st sr lt ne = by_kind (kind x n) where
    by_kind : Kind x → (b : ℕ) × (col b < r) × Within d pend col x s b
    by_kind (is_R q) = absurd (ne (ap (gap d) (start_R x s q st ∙ sym (start_R x r q sr))))
    by_kind (is_L q) =
        let u = start_L x s q st in
        let v = start_L x r q sr in
        let z = g.parted t s r tr u.0 v.0 lt (λ e. ne (gap_other s u.2 ∙ e ∙ sym (gap_other r v.2))) in
        let y = z.2 in
        let le : f ≤ s = u.1 in
        let ge : s ≤ col z.0 = y.after in
        (z.0, z.1, record { pending = y.pending; owned = to_L x z.0 q y.pending y.owned (omega arith); after = y.after })
    by_kind (is_T q) =
        let u = start_T x s q st in
        let v = start_T x r q sr in
        let z = g.parted t s r tr u.0 v.0 lt (λ e. ne (gap_other s u.2 ∙ e ∙ sym (gap_other r v.2))) in
        let y = z.2 in
        let le : r ≤ f = v.1 in
        let ge : col z.0 < r = z.1 in
        (z.0, z.1, record { pending = y.pending; owned = to_T x z.0 q y.pending y.owned (omega arith); after = y.after })
    by_kind (is_O o i) =
        let u = start_O x s o st in
        let v = start_O x r o sr in
        let z = g.parted x s r i u.0 v.0 lt (λ e. ne (gap_other s u.1 ∙ e ∙ sym (gap_other r v.1))) in
        let y = z.2 in
        (z.0, z.1, record { pending = y.pending; owned = to_O x z.0 o y.pending y.owned; after = y.after })

  -- gaps of different traces
  right_gap_none : (i : ℕ) → i < used c → gap c i ≡ f + 1 → ⊥
  right_gap_none i h q = g.right_new f i m.left m.low h m.uncut q

  left_and_old : (x s r : ℕ) → x ≡ t → IsLive d cuts2 joins x s → SegmentStart c joins t s → s ≤ f → s ≢ f + 1 → SegmentStart c joins t r → f ≤ r → gap c s ≡ gap c r → ⊥
  left_and_old x s r q l u le ne v ge e =
      let a : gap c s ≢ gap c f = live_T x s q ne l in
      let k : s ≢ f = λ y. a (ap (gap c) y) in
      let z = g.parted t s f tr u (inr open_f) (omega (arith, k)) a in
      let lt : col z.0 < f = z.1 in
      g.shared t s r z.0 tr u v (omega (arith, k)) e z.2 (omega arith)

  one_trace2 : (x y s r : ℕ) → IsTrace d cuts2 joins x → IsTrace d cuts2 joins y → SegmentStart d joins x s → SegmentStart d joins y r → IsLive d cuts2 joins x s → IsLive d cuts2 joins y r → gap d s ≡ gap d r → x ≡ y
  one_trace2 x y s r n k st sr l h e = by_kind (kind x n) (kind y k) where
    gap_R : (z i : ℕ) → z ≡ f + 1 → SegmentStart d joins z i → gap d i ≡ f + 1
    gap_R z i q w = ap (gap d) (start_R z i q w) ∙ gap_right

    by_kind : Kind x → Kind y → x ≡ y
    by_kind (is_R p) (is_R q) = p ∙ sym q
    by_kind (is_R p) (is_L q) = let v = start_L y r q sr in absurd (right_gap_none r (start_used c cuts joins pend col g t r tr v.0) (sym (gap_other r v.2) ∙ sym e ∙ gap_R x s p st))
    by_kind (is_R p) (is_T q) = let v = start_T y r q sr in absurd (right_gap_none r (start_used c cuts joins pend col g t r tr v.0) (sym (gap_other r v.2) ∙ sym e ∙ gap_R x s p st))
    by_kind (is_R p) (is_O o i) = let v = start_O y r o sr in absurd (right_gap_none r (start_used c cuts joins pend col g y r i v.0) (sym (gap_other r v.1) ∙ sym e ∙ gap_R x s p st))
    by_kind (is_L p) (is_R q) = let v = start_L x s p st in absurd (right_gap_none s (start_used c cuts joins pend col g t s tr v.0) (sym (gap_other s v.2) ∙ e ∙ gap_R y r q sr))
    by_kind (is_T p) (is_R q) = let v = start_T x s p st in absurd (right_gap_none s (start_used c cuts joins pend col g t s tr v.0) (sym (gap_other s v.2) ∙ e ∙ gap_R y r q sr))
    by_kind (is_O o i) (is_R q) = let v = start_O x s o st in absurd (right_gap_none s (start_used c cuts joins pend col g x s i v.0) (sym (gap_other s v.1) ∙ e ∙ gap_R y r q sr))
    by_kind (is_L p) (is_L q) = p ∙ sym q
    by_kind (is_T p) (is_T q) = p ∙ sym q
    by_kind (is_L p) (is_T q) =
        let u = start_L x s p st in
        let v = start_T y r q sr in
        absurd (left_and_old y r s q h v.0 v.1 v.2 u.0 u.1 (sym (gap_other r v.2) ∙ sym e ∙ gap_other s u.2))
    by_kind (is_T p) (is_L q) =
        let u = start_T x s p st in
        let v = start_L y r q sr in
        absurd (left_and_old x s r p l u.0 u.1 u.2 v.0 v.1 (sym (gap_other s u.2) ∙ e ∙ gap_other r v.2))
    by_kind (is_L p) (is_O o i) =
        let u = start_L x s p st in
        let v = start_O y r o sr in
        absurd (o.not_t (sym (g.one_trace t y s r tr i u.0 v.0 (live s) (live_O y r o v.1 h) (sym (gap_other s u.2) ∙ e ∙ gap_other r v.1))))
    by_kind (is_T p) (is_O o i) =
        let u = start_T x s p st in
        let v = start_O y r o sr in
        absurd (o.not_t (sym (g.one_trace t y s r tr i u.0 v.0 (live s) (live_O y r o v.1 h) (sym (gap_other s u.2) ∙ e ∙ gap_other r v.1))))
    by_kind (is_O o i) (is_L q) =
        let u = start_O x s o st in
        let v = start_L y r q sr in
        absurd (o.not_t (g.one_trace x t s r i tr u.0 v.0 (live_O x s o u.1 l) (live r) (sym (gap_other s u.1) ∙ e ∙ gap_other r v.2)))
    by_kind (is_O o i) (is_T q) =
        let u = start_O x s o st in
        let v = start_T y r q sr in
        absurd (o.not_t (g.one_trace x t s r i tr u.0 v.0 (live_O x s o u.1 l) (live r) (sym (gap_other s u.1) ∙ e ∙ gap_other r v.2)))
    by_kind (is_O o i) (is_O a j) =
        let u = start_O x s o st in
        let v = start_O y r a sr in
        g.one_trace x y s r i j u.0 v.0 (live_O x s o u.1 l) (live_O y r a v.1 h) (sym (gap_other s u.1) ∙ e ∙ gap_other r v.1)

  -- the division into segments after a split
  pub segments_split : Segments d cuts2 joins pend col
  segments_split = record {
    odd = ap (λ n. n % 2) used_same ∙ g.odd;
    lengths = (length-set c.gaps (f + 1) (f + 1) ∙ g.lengths.0 ∙ sym used_same, g.lengths.1 ∙ sym used_same, length-set (slice_set (slice_set c.traces t (Some old_trace)) f (Some left_trace)) (f + 1) (Some right_trace) ∙ length_traces2 ∙ sym used_same);
    rooted = λ i p h. g.rooted i p (old i h);
    pairs = λ s o h. g.pairs s o (old s h);
    cut_left = λ k e. elim (or_cases (nat_eq f k) (has cuts k) e) [
      | inl q ↦ (let z : f ≡ k = eqb-true _ _ q in (ap (λ n. n % 2) (sym z) ∙ m.left, omega (arith, z, m.low, used_same)))
      | inr q ↦ (let z = g.cut_left k q in (z.0, new k z.1))
    ];
    join_left = λ k e. (let z = g.join_left k e in (z.0, new k z.1));
    unjoined_above = λ s h o u p. g.unjoined_above s (old s h) o u p;
    root = elim (part 0 (omega (arith, m.low))) [ right q w ↦ absurd (omega (arith, q)) | left n q l w ↦ absurd (omega (arith, pos)) | rest n w l ↦ w ∙ g.root ];
    together = together2;
    apart = apart2;
    gap_root = gap_other 0 (λ q. omega (arith, q)) ∙ g.gap_root;
    gap_step = gap_step2;
    right_gap = right_gap2;
    right_new = right_new2;
    heads = heads2;
    lead_live = lead_live2;
    lead_lent = lead_lent2;
    nested = nested2;
    one_cut = one_cut2;
    cut_last = cut_last2;
    taken_back = taken_back2;
    there = λ b p. new (col b) (g.there b p);
    gap_owned = gap_owned2;
    gap_first = gap_first2;
    shared = shared2;
    parted = parted2;
    one_trace = one_trace2;
  }
