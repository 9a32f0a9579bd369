-- A merge keeps the division into segments, and so does the join of a fork that was not split.
use Rattle.std.proofs.Common.{◌≡◌, ◌≢◌, ℕ, ◌+◌, ◌<◌, ◌≤◌, List, ◌∷◌, length, refl, ap, sym, ◌∙◌, arith, Bool, true, false, Some, None, nat_eq, inl, inr, subst, eq-eqb, eqb-true}
use Rattle.std.specs.Prelude.{◌⊎◌, ◌%◌, ◌&&◌, ◌||◌, not, slice_index, slice_set, if◌then◌else◌}
use Rattle.std.proofs.lemmas.List.{get_or-map, length-map, length-set}
use Rattle.std.proofs.lemmas.Bool.{or_left, or_right, or_cases, cases_eq}
use Rattle.cw_trace.specs.declared.tier.Trace.{Trace}
use Rattle.cw_trace.specs.Columns.{ColumnTable, used, owner, gap, trace, trace_in, head, head_in, lead, lead_in, up, left_column_of, merged}
use Rattle.cw_tree.specs.Walks.{has}
use Rattle.cw_tree.proofs.NextNodes.Closing.{get_set_other}
use Rattle.cw_trace.specs.Stands.{around, is_apart}
use Rattle.cw_trace.specs.Segments.{IsOpen, SegmentStart, IsCut, IsTrace, IsLive, Within, Segments, MayMerge}
use Rattle.cw_trace.proofs.Marks.Edits.{has_cons_same, has_cons_other, set_get_same}
use Rattle.cw_trace.proofs.Segments.Lines.{left_of_odd, left_of_next, left_of_cases, is_split, apart_parts, own_le, own_trace, open_after, start_owner, right_used}

module _ (c : ColumnTable) (cuts joins : List ℕ) (pend : ℕ → Bool) (col : ℕ → ℕ) (g : Segments c cuts joins pend col) (f : ℕ) (m : MayMerge c cuts joins pend col f) where
  abbrev t : ℕ
  t = around c f

  abbrev d : ColumnTable
  d = merged f c

  abbrev joins2 : List ℕ
  joins2 = f ∷ joins

  odd_pos : (s : ℕ) → s % 2 ≡ 1 → 0 < s
  odd_pos s e = omega arith

  pub pos : 0 < f
  pos = odd_pos f m.left

  pub open_f : IsOpen c joins t f
  open_f = record { low = m.low; left = m.left; unjoined = m.unjoined; outside = refl }

  pub cut_f : IsCut c cuts joins t f
  cut_f = record { fork = open_f; cut = m.cut }

  t_low : t < f
  t_low = open_after c cuts joins pend col g t f open_f

  pub tr : IsTrace c cuts joins t
  tr = own_trace c cuts joins pend col g (slice_index c.parents f) (let l : slice_index c.parents f < f = g.rooted f pos m.low in omega (arith, m.low))

  right_low : f + 1 < used c
  right_low = right_used c cuts joins pend col g f m.low m.left

  pub own_f : owner c f ≡ f
  own_f = g.apart f pos m.low (is_split cuts joins f (ap (has cuts) (left_of_odd f m.left) ∙ m.cut) (ap (has joins) (left_of_odd f m.left) ∙ m.unjoined))

  pub own_r : owner c (f + 1) ≡ f + 1
  own_r = g.apart (f + 1) (omega arith) right_low (is_split cuts joins (f + 1) (ap (has cuts) (left_of_next f m.left) ∙ m.cut) (ap (has joins) (left_of_next f m.left) ∙ m.unjoined))

  trace_f : IsTrace c cuts joins f
  trace_f = let P : ℕ → Type 0 = λ x. IsTrace c cuts joins x in subst P own_f (own_trace c cuts joins pend col g f m.low)

  pub used_same : used d ≡ used c
  used_same = length-map c.owners (λ o. if nat_eq o f || nat_eq o (f + 1) then t else o)

  old : (i : ℕ) → i < used d → i < used c
  old i h = omega (arith, used_same)

  pub new : (i : ℕ) → i < used c → i < used d
  new i h = omega (arith, used_same)

  pub data Part (i : ℕ) : Type 0 where
    moved : (owner c i ≡ f) ⊎ (owner c i ≡ f + 1) → owner d i ≡ t → Part i
    stays : owner c i ≢ f → owner c i ≢ f + 1 → owner d i ≡ owner c i → Part i

  pub part : (i : ℕ) → i < used c → Part i
  part i h = by_tests (nat_eq (owner c i) f) (nat_eq (owner c i) (f + 1)) refl refl (get_or-map (λ o. if nat_eq o f || nat_eq o (f + 1) then t else o) c.owners i 0 0 h) where
    by_tests : (a b : Bool) → nat_eq (owner c i) f ≡ a → nat_eq (owner c i) (f + 1) ≡ b → owner d i ≡ (if a || b then t else owner c i) → Part i
    by_tests true b ea eb e = moved (inl (eqb-true _ _ ea)) e
    by_tests false true ea eb e = moved (inr (eqb-true _ _ eb)) e
    by_tests false false ea eb e = stays (λ q. cc (eq-eqb _ _ q, ea)) (λ q. cc (eq-eqb _ _ q, eb)) e

  par : (s : ℕ) → 0 < s → s < used c → slice_index c.parents s < used c
  par s p h = let l : slice_index c.parents s < s = g.rooted s p h in omega arith

  pub unjoined2 : (s : ℕ) → has joins2 s ≡ false → (s ≢ f) × (has joins s ≡ false)
  unjoined2 s u =
      let n : s ≢ f = λ q. cc (ap (has joins2) q, has_cons_same joins f, u) in
      (n, sym (has_cons_other joins f s n) ∙ u)

  -- what is open after the merge was so before
  open_old : (x s : ℕ) → IsOpen d joins2 x s → (IsOpen c joins x s) × (s ≢ f)
  open_old x s o =
      let h : s < used c = old s o.low in
      let p : 0 < s = odd_pos s o.left in
      let u = unjoined2 s o.unjoined in
      elim (part (slice_index c.parents s) (par s p h)) [
        | moved q w ↦ absurd (elim q [
          | inl z ↦ (m.no_fork s).0 (record { low = h; left = o.left; unjoined = u.1; outside = z })
          | inr z ↦ (m.no_fork s).1 (record { low = h; left = o.left; unjoined = u.1; outside = z })
        ])
        | stays a b w ↦ (record { low = h; left = o.left; unjoined = u.1; outside = sym w ∙ o.outside }, u.0)
      ]

  open_new : (x s : ℕ) → IsOpen c joins x s → s ≢ f → IsOpen d joins2 x s
  open_new x s o n =
      let p : 0 < s = odd_pos s o.left in
      elim (part (slice_index c.parents s) (par s p o.low)) [
        | moved q w ↦ absurd (elim q [
          | inl z ↦ (m.no_fork s).0 (record { low = o.low; left = o.left; unjoined = o.unjoined; outside = z })
          | inr z ↦ (m.no_fork s).1 (record { low = o.low; left = o.left; unjoined = o.unjoined; outside = z })
        ])
        | stays a b w ↦ record { low = new s o.low; left = o.left; unjoined = has_cons_other joins f s n ∙ o.unjoined; outside = w ∙ o.outside }
      ]

  cut_old : (x k : ℕ) → IsCut d cuts joins2 x k → (IsCut c cuts joins x k) × (x ≢ t)
  cut_old x k w =
      let z = open_old x k w.fork in
      let y : IsCut c cuts joins x k = record { fork = z.0; cut = w.cut } in
      (y, λ e. z.1 (let P : ℕ → Type 0 = λ x. IsCut c cuts joins x k in g.one_cut t k f (subst P e y) cut_f))

  cut_new : (x k : ℕ) → x ≢ t → IsCut c cuts joins x k → IsCut d cuts joins2 x k
  cut_new x k n w = record { fork = open_new x k w.fork (λ e. n (sym w.fork.outside ∙ ap (around c) e)); cut = w.cut }

  pub record Was (x : ℕ) : Type 0 where
    pub trace : IsTrace c cuts joins x
    pub not_f : x ≢ f
    pub not_r : x ≢ f + 1

  not_left : (i : ℕ) → is_apart cuts joins2 i ≡ true → left_column_of i ≢ f
  not_left i a e = cc (ap (has joins2) e, has_cons_same joins f, (apart_parts cuts joins2 i a).1)

  pub apart_same : (i : ℕ) → left_column_of i ≢ f → is_apart cuts joins2 i ≡ is_apart cuts joins i
  apart_same i n = ap (λ b. has cuts (left_column_of i) && not b) (has_cons_other joins f (left_column_of i) n)

  pub was : (x : ℕ) → IsTrace d cuts joins2 x → Was x
  was x n = by_name (or_cases (nat_eq x 0) (is_apart cuts joins2 x) n.named) where
    by_name : (nat_eq x 0 ≡ true) ⊎ (is_apart cuts joins2 x ≡ true) → Was x
    by_name (inl e) = let z : x ≡ 0 = eqb-true _ _ e in record { trace = record { low = old x n.low; named = or_left (nat_eq x 0) (is_apart cuts joins x) e }; not_f = λ q. omega (arith, q, z, pos); not_r = λ q. omega (arith, q, z) }
    by_name (inr a) =
        let k = not_left x a in
        record {
          trace = record { low = old x n.low; named = or_right (nat_eq x 0) (is_apart cuts joins x) (sym (apart_same x k) ∙ a) };
          not_f = λ q. k (ap left_column_of q ∙ left_of_odd f m.left);
          not_r = λ q. k (ap left_column_of q ∙ left_of_next f m.left);
        }

  start_old : (x s : ℕ) → Was x → SegmentStart d joins2 x s → (SegmentStart c joins x s) × (s ≢ f)
  start_old x s w (inl e) = (inl e, λ q. w.not_f (sym e ∙ q))
  start_old x s w (inr o) = let z = open_old x s o in (inr z.0, z.1)

  live_old : (x s : ℕ) → x ≢ t → IsLive d cuts joins2 x s → IsLive c cuts joins x s
  live_old x s n l = λ k w e. l k (cut_new x k n w) e

  live_t : (s : ℕ) → gap c s ≢ gap c f → IsLive c cuts joins t s
  live_t s n = λ k w e. n (e ∙ ap (gap c) (g.one_cut t k f w cut_f))

  live_f : IsLive c cuts joins f f
  live_f = λ k w e. (m.no_fork k).0 w.fork

  -- a start of the trace that goes on, before the fork
  start_low : (x s : ℕ) → x ≡ t → SegmentStart c joins x s → s ≢ f → s < f
  start_low x s e (inl q) n = omega (arith, q, e, t_low)
  start_low x s e (inr o) n =
      let P : ℕ → Type 0 = λ x. IsOpen c joins x s in
      let w : IsOpen c joins t s = subst P e o in
      g.cut_last t f s cut_f o.low (start_owner c cuts joins pend col g t s tr (inr w) (λ k. n (g.one_cut t s f k cut_f)))

  pub owned_old : (x b : ℕ) → pend b ≡ true → owner d (col b) ≡ x → owner c (col b) ≡ x
  owned_old x b p o = elim (part (col b) (g.there b p)) [
    | moved q w ↦ absurd (elim q [ inl z ↦ (m.no_block b p).0 z | inr z ↦ (m.no_block b p).1 z ])
    | stays a e w ↦ sym w ∙ o
  ]

  pub owned_new : (x b : ℕ) → pend b ≡ true → owner c (col b) ≡ x → owner d (col b) ≡ x
  owned_new x b p o = elim (part (col b) (g.there b p)) [
    | moved q w ↦ absurd (elim q [ inl z ↦ (m.no_block b p).0 z | inr z ↦ (m.no_block b p).1 z ])
    | stays a e w ↦ w ∙ o
  ]

  within_old : (x s b : ℕ) → Within d pend col x s b → Within c pend col x s b
  within_old x s b w = record { pending = w.pending; owned = owned_old x b w.pending w.owned; after = w.after }

  -- nothing is pending in the gap that was lent
  none_lent : (b : ℕ) → pend b ≡ true → gap c (col b) ≡ gap c f → ⊥
  none_lent b p e = (m.no_block b p).0 (g.gap_owned f f b trace_f (inl refl) live_f p e).0

  gap_owned2 : (x s b : ℕ) → IsTrace d cuts joins2 x → SegmentStart d joins2 x s → IsLive d cuts joins2 x s → pend b ≡ true → gap d (col b) ≡ gap d s → (owner d (col b) ≡ x) × (s ≤ col b)
  gap_owned2 x s b n st l p e = by_t (cases_eq x t) where
    w : Was x
    w = was x n

    u : (SegmentStart c joins x s) × (s ≢ f)
    u = start_old x s w st

    with_live : IsLive c cuts joins x s → (owner d (col b) ≡ x) × (s ≤ col b)
    with_live k = let v = g.gap_owned x s b w.trace u.0 k p e in (owned_new x b p v.0, v.1)

    by_t : (x ≡ t) ⊎ (x ≢ t) → (owner d (col b) ≡ x) × (s ≤ col b)
    by_t (inr k) = with_live (live_old x s k l)
    by_t (inl q) = elim (cases_eq (gap c s) (gap c f)) [
      | inl z ↦ absurd (none_lent b p (e ∙ z))
      | inr z ↦ (let P : ℕ → Type 0 = λ x. IsLive c cuts joins x s in with_live (subst P (sym q) (live_t s z)))
    ]

  gap_first2 : (x s b : ℕ) → IsTrace d cuts joins2 x → SegmentStart d joins2 x s → IsLive d cuts joins2 x s → Within d pend col x s b → (a : ℕ) × (a ≤ b) × (pend a ≡ true) × (gap d (col a) ≡ gap d s)
  gap_first2 x s b n st l h = by_t (cases_eq x t) where
    w : Was x
    w = was x n

    u : (SegmentStart c joins x s) × (s ≢ f)
    u = start_old x s w st

    v : Within c pend col x s b
    v = within_old x s b h

    by_t : (x ≡ t) ⊎ (x ≢ t) → (a : ℕ) × (a ≤ b) × (pend a ≡ true) × (gap c (col a) ≡ gap c s)
    by_t (inr k) = g.gap_first x s b w.trace u.0 (live_old x s k l) v
    by_t (inl q) = elim (cases_eq (gap c s) (gap c f)) [
      | inl z ↦ absurd (
          let P : ℕ → Type 0 = λ x. SegmentStart c joins x f in
          g.shared x s f b w.trace u.0 (subst P (sym q) (inr open_f)) (start_low x s q u.0 u.1) z v (g.cut_last t f (col b) cut_f (g.there b v.pending) (v.owned ∙ q)))
      | inr z ↦ (let P : ℕ → Type 0 = λ x. IsLive c cuts joins x s in g.gap_first x s b w.trace u.0 (subst P (sym q) (live_t s z)) v)
    ]

  shared2 : (x s r b : ℕ) → IsTrace d cuts joins2 x → SegmentStart d joins2 x s → SegmentStart d joins2 x r → s < r → gap d s ≡ gap d r → Within d pend col x s b → col b < r → ⊥
  shared2 x s r b n st sr lt e w k = let y = was x n in g.shared x s r b y.trace (start_old x s y st).0 (start_old x r y sr).0 lt e (within_old x s b w) k

  parted2 : (x s r : ℕ) → IsTrace d cuts joins2 x → SegmentStart d joins2 x s → SegmentStart d joins2 x r → s < r → (gap d s ≡ gap d r → ⊥) → (b : ℕ) × (col b < r) × Within d pend col x s b
  parted2 x s r n st sr lt ne =
      let y = was x n in
      let z = g.parted x s r y.trace (start_old x s y st).0 (start_old x r y sr).0 lt ne in
      let w = z.2 in
      (z.0, z.1, record { pending = w.pending; owned = owned_new x z.0 w.pending w.owned; after = w.after })

  one_trace2 : (x y s r : ℕ) → IsTrace d cuts joins2 x → IsTrace d cuts joins2 y → SegmentStart d joins2 x s → SegmentStart d joins2 y r → IsLive d cuts joins2 x s → IsLive d cuts joins2 y r → gap d s ≡ gap d r → x ≡ y
  one_trace2 x y s r n k st sr l h e = by_both (cases_eq x t) (cases_eq y t) where
    w : Was x
    w = was x n

    v : Was y
    v = was y k

    u : SegmentStart c joins x s
    u = (start_old x s w st).0

    z : SegmentStart c joins y r
    z = (start_old y r v sr).0

    lent : (x y r : ℕ) → Was y → SegmentStart c joins y r → IsLive c cuts joins y r → gap c r ≡ gap c f → x ≡ y
    lent x y r v z j e = absurd (v.not_f (sym (g.one_trace f y f r trace_f v.trace (inl refl) z live_f j (sym e))))

    by_both : (x ≡ t) ⊎ (x ≢ t) → (y ≡ t) ⊎ (y ≢ t) → x ≡ y
    by_both (inl p) (inl q) = p ∙ sym q
    by_both (inr p) (inr q) = g.one_trace x y s r w.trace v.trace u z (live_old x s p l) (live_old y r q h) e
    by_both (inl p) (inr q) = elim (cases_eq (gap c s) (gap c f)) [
      | inl i ↦ lent x y r v z (live_old y r q h) (sym e ∙ i)
      | inr i ↦ (let P : ℕ → Type 0 = λ x. IsLive c cuts joins x s in g.one_trace x y s r w.trace v.trace u z (subst P (sym p) (live_t s i)) (live_old y r q h) e)
    ]
    by_both (inr p) (inl q) = elim (cases_eq (gap c r) (gap c f)) [
      | inl i ↦ sym (lent y x s w u (live_old x s p l) (e ∙ i))
      | inr i ↦ (let P : ℕ → Type 0 = λ x. IsLive c cuts joins x r in g.one_trace x y s r w.trace v.trace u z (live_old x s p l) (subst P (sym q) (live_t r i)) e)
    ]

  nested2 : (x s i : ℕ) → IsTrace d cuts joins2 x → SegmentStart d joins2 x s → i < used d → s + 1 < i → around d i ≡ x → s ≤ slice_index d.parents i
  nested2 x s i n st h0 lt a =
      let h : i < used c = old i h0 in
      let p : 0 < i = omega arith in
      let w = was x n in
      let u = start_old x s w st in
      let le : owner c (slice_index c.parents i) ≤ slice_index c.parents i = own_le c cuts joins pend col g (slice_index c.parents i) (par i p h) in
      elim (part (slice_index c.parents i) (par i p h)) [
        | moved q v ↦ (let lo : s < f = start_low x s (sym a ∙ v) u.0 u.1 in elim q [ inl z ↦ omega (arith, z) | inr z ↦ omega (arith, z) ])
        | stays b e v ↦ g.nested x s i w.trace u.0 h lt (sym v ∙ a)
      ]

  cut_last2 : (x k i : ℕ) → IsCut d cuts joins2 x k → i < used d → owner d i ≡ x → i < k
  cut_last2 x k i w h o =
      let z = cut_old x k w in
      elim (part i (old i h)) [ moved q v ↦ absurd (z.1 (sym o ∙ v)) | stays b e v ↦ g.cut_last x k i z.0 (old i h) (sym v ∙ o) ]

  together2 : (i : ℕ) → 0 < i → i < used d → is_apart cuts joins2 i ≡ false → owner d i ≡ around d i
  together2 i p h0 a = by_left (cases_eq (left_column_of i) f) where
    h : i < used c
    h = old i h0

    parents_of : left_column_of i ≡ f → slice_index c.parents i ≡ slice_index c.parents f
    parents_of e = elim (left_of_cases i p) [
      | inl q ↦ ap (λ x. slice_index c.parents x) (q ∙ e)
      | inr q ↦ ap (λ x. slice_index c.parents x) (q ∙ ap (λ x. x + 1) e) ∙ g.pairs f m.left m.low
    ]

    outer : owner d (slice_index c.parents f) ≡ t
    outer = elim (part (slice_index c.parents f) (par f pos m.low)) [ moved q w ↦ w | stays b e w ↦ w ]

    inner : left_column_of i ≡ f → owner d i ≡ t
    inner e = elim (part i h) [
      | moved q w ↦ w
      | stays b k w ↦ absurd (elim (left_of_cases i p) [
        | inl q ↦ b (ap (owner c) (q ∙ e) ∙ own_f)
        | inr q ↦ k (ap (owner c) (q ∙ ap (λ x. x + 1) e) ∙ own_r)
      ])
    ]

    same : owner c i ≡ around c i → owner d i ≡ around d i
    same e = elim (part i h) [
      | moved q w ↦ elim (part (slice_index c.parents i) (par i p h)) [
        | moved z y ↦ w ∙ sym y
        | stays b k y ↦ absurd (elim q [ inl z ↦ b (sym e ∙ z) | inr z ↦ k (sym e ∙ z) ])
      ]
      | stays b k w ↦ elim (part (slice_index c.parents i) (par i p h)) [
        | moved z y ↦ absurd (elim z [ inl q ↦ b (e ∙ q) | inr q ↦ k (e ∙ q) ])
        | stays z y x ↦ w ∙ e ∙ sym x
      ]
    ]

    by_left : (left_column_of i ≡ f) ⊎ (left_column_of i ≢ f) → owner d i ≡ around d i
    by_left (inl e) = inner e ∙ sym outer ∙ sym (ap (owner d) (parents_of e))
    by_left (inr n) = same (g.together i p h (sym (apart_same i n) ∙ a))

  apart2 : (i : ℕ) → 0 < i → i < used d → is_apart cuts joins2 i ≡ true → owner d i ≡ i
  apart2 i p h a =
      let n = not_left i a in
      let o : owner c i ≡ i = g.apart i p (old i h) (sym (apart_same i n) ∙ a) in
      elim (part i (old i h)) [
        | moved q w ↦ absurd (elim q [ inl z ↦ n (ap left_column_of (sym o ∙ z) ∙ left_of_odd f m.left) | inr z ↦ n (ap left_column_of (sym o ∙ z) ∙ left_of_next f m.left) ])
        | stays b k w ↦ w ∙ o
      ]

  unjoined_above2 : (s : ℕ) → s < used d → s % 2 ≡ 1 → has joins2 s ≡ false → 0 < slice_index d.parents s → has joins2 (left_column_of (slice_index d.parents s)) ≡ false
  unjoined_above2 s h0 o u p =
      let h : s < used c = old s h0 in
      let z = unjoined2 s u in
      let n : left_column_of (slice_index c.parents s) ≢ f = λ e. elim (left_of_cases (slice_index c.parents s) p) [
        | inl q ↦ (m.no_fork s).0 (record { low = h; left = o; unjoined = z.1; outside = ap (owner c) (q ∙ e) ∙ own_f })
        | inr q ↦ (m.no_fork s).1 (record { low = h; left = o; unjoined = z.1; outside = ap (owner c) (q ∙ ap (λ x. x + 1) e) ∙ own_r })
      ] in
      has_cons_other joins f (left_column_of (slice_index c.parents s)) n ∙ g.unjoined_above s h o z.1 p

  -- the traces after the merge
  abbrev whole : Trace
  whole = record { head = head c t; lead = Some (head c t); up = up c t }

  length_traces : length (slice_set c.traces t (Some whole)) ≡ used c
  length_traces = length-set c.traces t (Some whole) ∙ g.lengths.2

  pub trace_t : trace d t ≡ Some whole
  trace_t =
      ap trace_in (get_set_other (slice_set (slice_set c.traces t (Some whole)) f None) (f + 1) t None (λ q. omega (arith, q, t_low))
      ∙ get_set_other (slice_set c.traces t (Some whole)) f t None (λ q. omega (arith, q, t_low))
      ∙ set_get_same c.traces t (Some whole) (omega (arith, g.lengths.2, t_low, m.low)))

  pub trace_other : (x : ℕ) → x ≢ t → x ≢ f → x ≢ f + 1 → trace d x ≡ trace c x
  trace_other x a b e =
      ap trace_in (get_set_other (slice_set (slice_set c.traces t (Some whole)) f None) (f + 1) x None e
      ∙ get_set_other (slice_set c.traces t (Some whole)) f x None b
      ∙ get_set_other c.traces t x (Some whole) a)

  pub trace_f_gone : trace d f ≡ None
  trace_f_gone =
      ap trace_in (get_set_other (slice_set (slice_set c.traces t (Some whole)) f None) (f + 1) f None (λ q. omega (arith, q))
      ∙ set_get_same (slice_set c.traces t (Some whole)) f None (omega (arith, length_traces, m.low)))

  pub trace_r_gone : trace d (f + 1) ≡ None
  trace_r_gone = ap trace_in (set_get_same (slice_set (slice_set c.traces t (Some whole)) f None) (f + 1) None (omega (arith, length-set (slice_set c.traces t (Some whole)) f None, length_traces, right_low)))

  heads2 : (x : ℕ) → IsTrace d cuts joins2 x → head d x ≡ gap d x
  heads2 x n = let w = was x n in elim (cases_eq x t) [
    | inl q ↦ ap (head d) q ∙ ap head_in trace_t ∙ g.heads t tr ∙ sym (ap (gap c) q)
    | inr q ↦ ap head_in (trace_other x q w.not_f w.not_r) ∙ g.heads x w.trace
  ]

  lead_live2 : (x : ℕ) → IsTrace d cuts joins2 x → IsLive d cuts joins2 x x → lead d x ≡ Some (gap d x)
  lead_live2 x n l = let w = was x n in elim (cases_eq x t) [
    | inl q ↦ ap (lead d) q ∙ ap lead_in trace_t ∙ ap Some (g.heads t tr ∙ sym (ap (gap c) q))
    | inr q ↦ ap lead_in (trace_other x q w.not_f w.not_r) ∙ g.lead_live x w.trace (live_old x x q l)
  ]

  lead_lent2 : (x k : ℕ) → IsTrace d cuts joins2 x → IsCut d cuts joins2 x k → gap d x ≡ gap d k → lead d x ≡ None
  lead_lent2 x k n w e =
      let z = cut_old x k w in
      let v = was x n in
      ap lead_in (trace_other x z.1 v.not_f v.not_r) ∙ g.lead_lent x k v.trace z.0 e

  -- the division into segments after a merge
  pub segments_merge : Segments d cuts joins2 pend col
  segments_merge = record {
    odd = ap (λ n. n % 2) used_same ∙ g.odd;
    lengths = (g.lengths.0 ∙ sym used_same, g.lengths.1 ∙ sym used_same, length-set (slice_set (slice_set c.traces t (Some whole)) f None) (f + 1) None ∙ length-set (slice_set c.traces t (Some whole)) f None ∙ length_traces ∙ sym used_same);
    rooted = λ i p h. g.rooted i p (old i h);
    pairs = λ s o h. g.pairs s o (old s h);
    cut_left = λ k e. (let z = g.cut_left k e in (z.0, new k z.1));
    join_left = λ k e. elim (or_cases (nat_eq f k) (has joins k) e) [
      | inl q ↦ (let z : f ≡ k = eqb-true _ _ q in (ap (λ n. n % 2) (sym z) ∙ m.left, omega (arith, z, m.low, used_same)))
      | inr q ↦ (let z = g.join_left k q in (z.0, new k z.1))
    ];
    unjoined_above = unjoined_above2;
    root = elim (part 0 (omega (arith, m.low))) [ moved q w ↦ absurd (elim q [ inl z ↦ omega (arith, z, g.root, pos) | inr z ↦ omega (arith, z, g.root) ]) | stays b e w ↦ w ∙ g.root ];
    together = together2;
    apart = apart2;
    gap_root = g.gap_root;
    gap_step = λ i p h. g.gap_step i p (old i h);
    right_gap = λ s o h u. g.right_gap s o (old s h) u;
    right_new = λ s i o h k u e. g.right_new s i o (old s h) (old i k) u e;
    heads = heads2;
    lead_live = lead_live2;
    lead_lent = lead_lent2;
    nested = nested2;
    one_cut = λ x k j w v. g.one_cut x k j (cut_old x k w).0 (cut_old x j v).0;
    cut_last = cut_last2;
    taken_back = λ x k s w o n. (let v = g.taken_back x k s (cut_old x k w).0 (open_old x s o).0 n in (v.0, v.1, new v.0 v.2, v.3));
    there = λ b p. new (col b) (g.there b p);
    gap_owned = gap_owned2;
    gap_first = gap_first2;
    shared = shared2;
    parted = parted2;
    one_trace = one_trace2;
  }
