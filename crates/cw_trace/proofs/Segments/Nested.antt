-- Splits, merges and forks keep the nesting of traces.
use Rattle.std.proofs.Common.{◌≡◌, ◌≢◌, ℕ, ◌+◌, ◌<◌, List, [], ◌∷◌, refl, ap, sym, ◌∙◌, arith, Bool, true, false, nat_eq, inl, inr, subst, eq-eqb, eqb-true}
use Rattle.std.specs.Prelude.{◌⊎◌, ◌&&◌, ◌||◌, not, slice_index, None}
use Rattle.std.proofs.lemmas.Bool.{ne_eqb, and_parts, and_from, or_left, or_right, or_cases, cases_eq}
use Rattle.cw_trace.specs.Columns.{ColumnTable, owner, gap, left_column_of, split_at, merged, forked, opening_mark, closing_mark, stands_before, inside, marks, is_mark_of}
use Rattle.cw_tree.specs.Walks.{has}
use Rattle.cw_trace.specs.Stands.{around, Descends, child, further}
use Rattle.cw_trace.specs.Segments.{IsTrace, Segments, MaySplit, MayMerge, Active, Ups, next_outward}
use Rattle.cw_trace.specs.Keeps.{Nesting, Distinct}
use Rattle.cw_trace.proofs.Segments.Lines.{own_trace, own_self}
use Rattle.cw_trace.proofs.Marks.Marking.{has_place, before_old, before_new, new_before, new_new, not_both, before_first, before_second, distinct_place, filter_has, before_filter, distinct_filter}
use Rattle.cw_trace.proofs.Segments.Split as split
use Rattle.cw_trace.proofs.Segments.Merge as merge
use Rattle.cw_trace.proofs.Segments.Fork as fork
use Rattle.cw_trace.proofs.Stands.UpsKept as ups

-- traces descend alike where they have the same traces around them
pub descends_to : (c d : ColumnTable) (T : ℕ → Type 0) → ((y : ℕ) → 0 < y → T y → (around d y ≡ around c y) × T (around c y)) → (x y : ℕ) → T y → Descends d x y → Descends c x y
descends_to c d T s x y h (child p e) = child p (sym (s y p h).0 ∙ e)
descends_to c d T s x y h (further p w) =
    let z = s y p h in
    let P : ℕ → Type 0 = λ v. Descends c x v in
    further p (subst P z.0 (descends_to c d T s x (around d y) (subst T (sym z.0) z.1) w))

opening_one : (x y : ℕ) → opening_mark x ≡ opening_mark y → x ≡ y
opening_one x y e = omega (arith, e)

closing_one : (x y : ℕ) → closing_mark x ≡ closing_mark y → x ≡ y
closing_one x y e = omega (arith, e)

mixed : (x y : ℕ) → opening_mark x ≡ closing_mark y → ⊥
mixed x y e = omega (arith, e)

module _ (f : ℕ) where
  has_four : (a b c d n : ℕ) → a ≢ n → b ≢ n → c ≢ n → d ≢ n → has (a ∷ b ∷ c ∷ d ∷ []) n ≡ false
  has_four a b c d n p q r s = rw (ne_eqb a n p, ne_eqb b n q, ne_eqb c n r, ne_eqb d n s) refl

  pub old_opening : (x : ℕ) → x ≢ f → x ≢ f + 1 → has (marks f) (opening_mark x) ≡ false
  old_opening x a b = has_four (opening_mark f) (closing_mark f) (opening_mark (f + 1)) (closing_mark (f + 1)) (opening_mark x) (λ e. a (sym (opening_one f x e))) (λ e. mixed x f (sym e)) (λ e. b (sym (opening_one (f + 1) x e))) (λ e. mixed x (f + 1) (sym e))

  pub old_closing : (x : ℕ) → x ≢ f → x ≢ f + 1 → has (marks f) (closing_mark x) ≡ false
  old_closing x a b = has_four (opening_mark f) (closing_mark f) (opening_mark (f + 1)) (closing_mark (f + 1)) (closing_mark x) (λ e. mixed f x e) (λ e. a (sym (closing_one f x e))) (λ e. mixed (f + 1) x e) (λ e. b (sym (closing_one (f + 1) x e)))

  pub distinct_marks : Distinct (marks f)
  distinct_marks = (
    rw (ne_eqb (closing_mark f) (opening_mark f) (λ e. mixed f f (sym e)), ne_eqb (opening_mark (f + 1)) (opening_mark f) (λ e. omega (arith, e)), ne_eqb (closing_mark (f + 1)) (opening_mark f) (λ e. omega (arith, e))) refl,
    (
      rw (ne_eqb (opening_mark (f + 1)) (closing_mark f) (λ e. omega (arith, e)), ne_eqb (closing_mark (f + 1)) (closing_mark f) (λ e. omega (arith, e))) refl,
      (rw (ne_eqb (closing_mark (f + 1)) (opening_mark (f + 1)) (λ e. omega (arith, e))) refl, (refl, tt)),
    ),
  )

  whose_four : (a b c d n : ℕ) → has (a ∷ b ∷ c ∷ d ∷ []) n ≡ true → (a ≡ n) ⊎ ((b ≡ n) ⊎ ((c ≡ n) ⊎ (d ≡ n)))
  whose_four a b c d n e = elim (or_cases (nat_eq a n) (has (b ∷ c ∷ d ∷ []) n) e) [
    | inl z ↦ inl (eqb-true _ _ z)
    | inr z ↦ elim (or_cases (nat_eq b n) (has (c ∷ d ∷ []) n) z) [
      | inl y ↦ inr (inl (eqb-true _ _ y))
      | inr y ↦ elim (or_cases (nat_eq c n) (has (d ∷ []) n) y) [
        | inl x ↦ inr (inr (inl (eqb-true _ _ x)))
        | inr x ↦ elim (or_cases (nat_eq d n) false x) [ inl w ↦ inr (inr (inr (eqb-true _ _ w))) | inr w ↦ absurd (cc w) ]
      ]
    ]
  ]

  -- a mark of the list is of one of the two traces
  pub whose : (b : ℕ) → has (marks f) b ≡ true → (x : ℕ) × ((x ≡ f) ⊎ (x ≡ f + 1)) × ((b ≡ opening_mark x) ⊎ (b ≡ closing_mark x))
  whose b e = elim (whose_four (opening_mark f) (closing_mark f) (opening_mark (f + 1)) (closing_mark (f + 1)) b e) [
    | inl z ↦ (f, inl refl, inl (sym z))
    | inr z ↦ elim z [
      | inl y ↦ (f, inl refl, inr (sym y))
      | inr y ↦ elim y [ inl x ↦ (f + 1, inr refl, inl (sym x)) | inr x ↦ (f + 1, inr refl, inr (sym x)) ]
    ]
  ]

  new_opening : (x : ℕ) → (x ≡ f) ⊎ (x ≡ f + 1) → has (marks f) (opening_mark x) ≡ true
  new_opening x (inl e) = or_left (nat_eq (opening_mark f) (opening_mark x)) (has (closing_mark f ∷ opening_mark (f + 1) ∷ closing_mark (f + 1) ∷ []) (opening_mark x)) (eq-eqb _ _ (ap opening_mark (sym e)))
  new_opening x (inr e) = or_right (nat_eq (opening_mark f) (opening_mark x)) _ (or_right (nat_eq (closing_mark f) (opening_mark x)) _ (or_left (nat_eq (opening_mark (f + 1)) (opening_mark x)) _ (eq-eqb _ _ (ap opening_mark (sym e)))))

  new_closing : (x : ℕ) → (x ≡ f) ⊎ (x ≡ f + 1) → has (marks f) (closing_mark x) ≡ true
  new_closing x (inl e) = or_right (nat_eq (opening_mark f) (closing_mark x)) _ (or_left (nat_eq (closing_mark f) (closing_mark x)) _ (eq-eqb _ _ (ap closing_mark (sym e))))
  new_closing x (inr e) = or_right (nat_eq (opening_mark f) (closing_mark x)) _ (or_right (nat_eq (closing_mark f) (closing_mark x)) _ (or_right (nat_eq (opening_mark (f + 1)) (closing_mark x)) _ (or_left (nat_eq (closing_mark (f + 1)) (closing_mark x)) _ (eq-eqb _ _ (ap closing_mark (sym e))))))

  pub left_pair : stands_before (marks f) (opening_mark f) (closing_mark f) ≡ true
  left_pair = rw (eq-eqb (opening_mark f) (opening_mark f) refl, eq-eqb (closing_mark f) (closing_mark f) refl) refl

  pub right_pair : stands_before (marks f) (opening_mark (f + 1)) (closing_mark (f + 1)) ≡ true
  right_pair =
      rw (ne_eqb (opening_mark f) (opening_mark (f + 1)) (λ e. omega (arith, e)), ne_eqb (closing_mark f) (opening_mark (f + 1)) (λ e. omega (arith, e)), eq-eqb (opening_mark (f + 1)) (opening_mark (f + 1)) refl, eq-eqb (closing_mark (f + 1)) (closing_mark (f + 1)) refl) refl

  pub right_after_left : stands_before (marks f) (opening_mark (f + 1)) (closing_mark f) ≡ false
  right_after_left =
      rw (ne_eqb (opening_mark f) (opening_mark (f + 1)) (λ e. omega (arith, e)), ne_eqb (closing_mark f) (opening_mark (f + 1)) (λ e. omega (arith, e)), eq-eqb (opening_mark (f + 1)) (opening_mark (f + 1)) refl, ne_eqb (closing_mark (f + 1)) (closing_mark f) (λ e. omega (arith, e))) refl

module _ (c : ColumnTable) (cuts joins : List ℕ) (pend : ℕ → Bool) (col : ℕ → ℕ) (g : Segments c cuts joins pend col) (nest : Nesting c cuts joins) where
  trace_has : (x : ℕ) → IsTrace c cuts joins x → (has c.brackets (opening_mark x) ≡ true) × (has c.brackets (closing_mark x) ≡ true)
  trace_has x n = let z = nest.closes x n in (before_first c.brackets (opening_mark x) (closing_mark x) z, before_second c.brackets (opening_mark x) (closing_mark x) z)

  module _ (f : ℕ) (m : MaySplit c cuts joins pend col f) (early : next_outward c cuts f ≡ None) (above : Ups c cuts joins pend col) where
    abbrev t : ℕ
    t = owner c f

    abbrev d : ColumnTable
    d = split_at f c

    tr : IsTrace c cuts joins t
    tr = split.tr c cuts joins pend col g f m early

    t_low : t < f
    t_low = split.t_low c cuts joins pend col g f m early

    abbrev New : ℕ → Type 0
    New x = (x ≡ f) ⊎ (x ≡ f + 1)

    record Was (x : ℕ) : Type 0 where
      trace : IsTrace c cuts joins x
      not_f : x ≢ f
      not_r : x ≢ f + 1

    not_new : (x : ℕ) → IsTrace c cuts joins x → Was x
    not_new x n = record {
      trace = n;
      not_f = λ e. split.no_trace c cuts joins pend col g f m early x x e n.low (own_self c cuts joins pend col g x n);
      not_r = λ e. split.no_right_trace c cuts joins pend col g f m early x x e n.low (own_self c cuts joins pend col g x n);
    }

    was_t : Was t
    was_t = not_new t tr

    which : (x : ℕ) → IsTrace d (f ∷ cuts) joins x → New x ⊎ Was x
    which x n = elim (split.kind c cuts joins pend col g f m early x n) [
      | split.is_R e ↦ inl (inr e)
      | split.is_L e ↦ inl (inl e)
      | split.is_T e ↦ inr (let P : ℕ → Type 0 = λ y. Was y in subst P (sym e) was_t)
      | split.is_O o k ↦ inr (not_new x k)
    ]

    -- marks
    old_marks : (x : ℕ) → Was x → (has (marks f) (opening_mark x) ≡ false) × (has (marks f) (closing_mark x) ≡ false)
    old_marks x w = (old_opening f x w.not_f w.not_r, old_closing f x w.not_f w.not_r)

    no_mark : (b : ℕ) → has c.brackets b ≡ true → has (marks f) b ≡ false
    no_mark b h =
        let z = nest.marks b h in
        let w = old_marks z.0 (not_new z.0 z.1) in
        elim z.2 [ inl e ↦ ap (has (marks f)) e ∙ w.0 | inr e ↦ ap (has (marks f)) e ∙ w.1 ]

    not_in : (b : ℕ) → has (marks f) b ≡ true → has c.brackets b ≡ false
    not_in b h = by_bool (has c.brackets b) refl where
      by_bool : (q : Bool) → has c.brackets b ≡ q → has c.brackets b ≡ false
      by_bool true q = absurd (cc (no_mark b q, h))
      by_bool false q = q

    t_there : has c.brackets (opening_mark t) ≡ true
    t_there = (trace_has t tr).0

    old_before : (a b : ℕ) → has (marks f) a ≡ false → has (marks f) b ≡ false → stands_before d.brackets a b ≡ stands_before c.brackets a b
    old_before a b x y = before_old (opening_mark t) (marks f) c.brackets a b x y

    inside_old : (x y : ℕ) → Was x → Was y → inside d y x ≡ inside c y x
    inside_old x y w v =
        let p = old_marks x w in
        let q = old_marks y v in
        ap (λ z. z && stands_before d.brackets (opening_mark y) (closing_mark x)) (old_before (opening_mark x) (opening_mark y) p.0 q.0) ∙ ap (λ z. stands_before c.brackets (opening_mark x) (opening_mark y) && z) (old_before (opening_mark y) (closing_mark x) q.0 p.1)

    -- a new trace stands within an old one where the trace that was cut is it or stands within it
    inside_new : (x y : ℕ) → Was x → New y → inside d y x ≡ ((nat_eq (opening_mark t) (opening_mark x) || stands_before c.brackets (opening_mark x) (opening_mark t)) && stands_before c.brackets (opening_mark t) (closing_mark x))
    inside_new x y w v =
        let p = old_marks x w in
        let q = new_opening f y v in
        ap (λ z. z && stands_before d.brackets (opening_mark y) (closing_mark x)) (before_new (opening_mark t) (marks f) c.brackets nest.distinct (opening_mark x) (opening_mark y) p.0 q (not_in (opening_mark y) q) t_there)
        ∙ ap (λ z. (nat_eq (opening_mark t) (opening_mark x) || stands_before c.brackets (opening_mark x) (opening_mark t)) && z) (new_before (opening_mark t) (marks f) c.brackets (opening_mark y) (closing_mark x) q (not_in (opening_mark y) q) p.1)

    -- no old trace stands within a new one
    not_inside : (x y : ℕ) → New x → Was y → inside d y x ≡ true → ⊥
    not_inside x y v w e =
        let z = and_parts (stands_before d.brackets (opening_mark x) (opening_mark y)) (stands_before d.brackets (opening_mark y) (closing_mark x)) e in
        let p = old_marks y w in
        let q = new_opening f x v in
        let r = new_closing f x v in
        let first : stands_before c.brackets (opening_mark t) (opening_mark y) ≡ true = sym (new_before (opening_mark t) (marks f) c.brackets (opening_mark x) (opening_mark y) q (not_in (opening_mark x) q) p.0) ∙ z.0 in
        let second = or_cases (nat_eq (opening_mark t) (opening_mark y)) (stands_before c.brackets (opening_mark y) (opening_mark t)) (sym (before_new (opening_mark t) (marks f) c.brackets nest.distinct (opening_mark y) (closing_mark x) p.0 r (not_in (closing_mark x) r) t_there) ∙ z.1) in
        elim second [
          | inl s ↦ (let same : opening_mark t ≡ opening_mark y = eqb-true _ _ s in let self : stands_before c.brackets (opening_mark t) (opening_mark t) ≡ true = ap (stands_before c.brackets (opening_mark t)) same ∙ first in not_both c.brackets nest.distinct (opening_mark t) (opening_mark t) self self)
          | inr s ↦ not_both c.brackets nest.distinct (opening_mark t) (opening_mark y) first s
        ]

    among : (a b : ℕ) → has (marks f) a ≡ true → has (marks f) b ≡ true → stands_before d.brackets a b ≡ stands_before (marks f) a b
    among a b p q = new_new (opening_mark t) (marks f) c.brackets a b p (not_in a p) (not_in b q) t_there

    -- nor does one new trace within another
    never : (x y : ℕ) → New x → New y → inside d y x ≡ true → ⊥
    never x y v w e = by_both v w where
      z : (stands_before (marks f) (opening_mark x) (opening_mark y) ≡ true) × (stands_before (marks f) (opening_mark y) (closing_mark x) ≡ true)
      z =
          let y2 = and_parts (stands_before d.brackets (opening_mark x) (opening_mark y)) (stands_before d.brackets (opening_mark y) (closing_mark x)) e in
          (sym (among (opening_mark x) (opening_mark y) (new_opening f x v) (new_opening f y w)) ∙ y2.0, sym (among (opening_mark y) (closing_mark x) (new_opening f y w) (new_closing f x v)) ∙ y2.1)

      self : x ≡ y → ⊥
      self q = let s : stands_before (marks f) (opening_mark x) (opening_mark x) ≡ true = ap (λ n. stands_before (marks f) (opening_mark x) (opening_mark n)) q ∙ z.0 in not_both (marks f) (distinct_marks f) (opening_mark x) (opening_mark x) s s

      by_both : New x → New y → ⊥
      by_both (inl p) (inl q) = self (p ∙ sym q)
      by_both (inr p) (inr q) = self (p ∙ sym q)
      by_both (inl p) (inr q) = cc (right_after_left f, sym (ap (λ n. stands_before (marks f) (opening_mark n) (closing_mark x)) q) ∙ z.1, ap (λ n. stands_before (marks f) (opening_mark (f + 1)) (closing_mark n)) p)
      by_both (inr p) (inl q) =
          let s : stands_before (marks f) (opening_mark (f + 1)) (opening_mark f) ≡ true = sym (ap (λ n. stands_before (marks f) (opening_mark n) (opening_mark f)) p) ∙ sym (ap (λ n. stands_before (marks f) (opening_mark x) (opening_mark n)) q) ∙ z.0 in
          let r : stands_before (marks f) (opening_mark f) (opening_mark (f + 1)) ≡ true = rw (eq-eqb (opening_mark f) (opening_mark f) refl, ne_eqb (closing_mark f) (opening_mark (f + 1)) (λ e. omega (arith, e)), eq-eqb (opening_mark (f + 1)) (opening_mark (f + 1)) refl) refl in
          not_both (marks f) (distinct_marks f) (opening_mark f) (opening_mark (f + 1)) r s

    -- descent
    same_around : (y : ℕ) → 0 < y → IsTrace c cuts joins y → (around d y ≡ around c y) × IsTrace c cuts joins (around c y)
    same_around y p n =
        let a = ups.around_of c cuts joins pend col g above f m early y p n in
        (a.same, own_trace c cuts joins pend col g (slice_index c.parents y) (let l : slice_index c.parents y < y = g.rooted y p n.low in omega (arith, n.low)))

    to_old : (x y : ℕ) → IsTrace c cuts joins y → Descends d x y → Descends c x y
    to_old = descends_to c d (IsTrace c cuts joins) same_around

    from_old : (x y : ℕ) → IsTrace c cuts joins y → Descends c x y → Descends d x y
    from_old = descends_to d c (IsTrace c cuts joins) (λ y p n. let z = same_around y p n in (sym z.0, let P : ℕ → Type 0 = λ v. IsTrace c cuts joins v in subst P (sym z.0) z.1))

    new_around : (y : ℕ) → New y → around d y ≡ t
    new_around = ups.new_around c cuts joins pend col g above f m early

    new_pos : (y : ℕ) → New y → 0 < y
    new_pos y (inl e) = omega (arith, e, t_low)
    new_pos y (inr e) = omega (arith, e)

    from_new : (x y : ℕ) → New y → Descends d x y → (x ≡ t) ⊎ Descends c x t
    from_new x y v (child p e) = inl (sym e ∙ new_around y v)
    from_new x y v (further p w) = inr (to_old x t tr (let P : ℕ → Type 0 = λ z. Descends d x z in subst P (new_around y v) w))

    to_new : (x y : ℕ) → New y → (x ≡ t) ⊎ Descends c x t → Descends d x y
    to_new x y v (inl e) = child (new_pos y v) (new_around y v ∙ sym e)
    to_new x y v (inr w) = further (new_pos y v) (let P : ℕ → Type 0 = λ z. Descends d x z in subst P (sym (new_around y v)) (from_old x t tr w))

    -- nothing descends from a new trace
    leafless : (x y : ℕ) → New x → IsTrace c cuts joins y → Descends c x y → ⊥
    leafless x y v n (child p e) =
        let z = same_around y p n in
        let w = not_new (around c y) z.1 in
        elim v [ inl q ↦ w.not_f (e ∙ q) | inr q ↦ w.not_r (e ∙ q) ]
    leafless x y v n (further p w) = leafless x (around c y) v (same_around y p n).1 w

    none_under : (x y : ℕ) → New x → New y ⊎ Was y → Descends d x y → ⊥
    none_under x y v (inr w) e = leafless x y v w.trace (to_old x y w.trace e)
    none_under x y v (inl w) e = elim (from_new x y w e) [ inl q ↦ elim v [ inl z ↦ was_t.not_f (sym q ∙ z) | inr z ↦ was_t.not_r (sym q ∙ z) ] | inr q ↦ leafless x t v tr q ]

    descends2 : (x y : ℕ) → New x ⊎ Was x → New y ⊎ Was y → inside d y x ≡ true → Descends d x y
    descends2 x y (inl v) (inl w) e = absurd (never x y v w e)
    descends2 x y (inl v) (inr w) e = absurd (not_inside x y v w e)
    descends2 x y (inr v) (inr w) e = from_old x y w.trace (nest.descends x y v.trace w.trace (sym (inside_old x y v w) ∙ e))
    descends2 x y (inr v) (inl w) e =
        let z = and_parts (nat_eq (opening_mark t) (opening_mark x) || stands_before c.brackets (opening_mark x) (opening_mark t)) (stands_before c.brackets (opening_mark t) (closing_mark x)) (sym (inside_new x y v w) ∙ e) in
        to_new x y w (elim (or_cases (nat_eq (opening_mark t) (opening_mark x)) (stands_before c.brackets (opening_mark x) (opening_mark t)) z.0) [
          | inl q ↦ inl (sym (opening_one t x (eqb-true _ _ q)))
          | inr q ↦ inr (nest.descends x t v.trace tr (and_from (stands_before c.brackets (opening_mark x) (opening_mark t)) (stands_before c.brackets (opening_mark t) (closing_mark x)) q z.1))
        ])

    within2 : (x y : ℕ) → New x ⊎ Was x → New y ⊎ Was y → Descends d x y → inside d y x ≡ true
    within2 x y (inl v) w e = absurd (none_under x y v w e)
    within2 x y (inr v) (inr w) e = inside_old x y v w ∙ nest.within x y v.trace w.trace (to_old x y w.trace e)
    within2 x y (inr v) (inl w) e = inside_new x y v w ∙ by_case (from_new x y w e) where
      by_case : (x ≡ t) ⊎ Descends c x t → ((nat_eq (opening_mark t) (opening_mark x) || stands_before c.brackets (opening_mark x) (opening_mark t)) && stands_before c.brackets (opening_mark t) (closing_mark x)) ≡ true
      by_case (inl q) =
          and_from (nat_eq (opening_mark t) (opening_mark x) || stands_before c.brackets (opening_mark x) (opening_mark t)) (stands_before c.brackets (opening_mark t) (closing_mark x)) (or_left (nat_eq (opening_mark t) (opening_mark x)) (stands_before c.brackets (opening_mark x) (opening_mark t)) (eq-eqb _ _ (ap opening_mark (sym q))))
          (ap (λ n. stands_before c.brackets (opening_mark t) (closing_mark n)) q ∙ nest.closes t tr)
      by_case (inr q) =
          let z = and_parts (stands_before c.brackets (opening_mark x) (opening_mark t)) (stands_before c.brackets (opening_mark t) (closing_mark x)) (nest.within x t v.trace tr q) in
          and_from (nat_eq (opening_mark t) (opening_mark x) || stands_before c.brackets (opening_mark x) (opening_mark t)) (stands_before c.brackets (opening_mark t) (closing_mark x)) (or_right (nat_eq (opening_mark t) (opening_mark x)) (stands_before c.brackets (opening_mark x) (opening_mark t)) z.0) z.1

    new_trace : (x : ℕ) → IsTrace c cuts joins x → IsTrace d (f ∷ cuts) joins x
    new_trace x n =
        let w = not_new x n in
        record {
          low = split.new c cuts joins pend col g f m early x n.low;
          named = elim (or_cases (nat_eq x 0) (Rattle.cw_trace.specs.Stands.is_apart cuts joins x) n.named) [
            | inl e ↦ or_left (nat_eq x 0) (Rattle.cw_trace.specs.Stands.is_apart (f ∷ cuts) joins x) e
            | inr e ↦ or_right (nat_eq x 0) (Rattle.cw_trace.specs.Stands.is_apart (f ∷ cuts) joins x) (
                let z = Rattle.cw_trace.proofs.Segments.Lines.apart_parts cuts joins x e in
                Rattle.cw_trace.proofs.Segments.Lines.is_split (f ∷ cuts) joins x (or_right (nat_eq f (left_column_of x)) (has cuts (left_column_of x)) z.0) z.1)
          ];
        }

    new_one : (x : ℕ) → New x → IsTrace d (f ∷ cuts) joins x
    new_one x v = record {
      low = split.new c cuts joins pend col g f m early x (elim v [ inl e ↦ omega (arith, e, m.low) | inr e ↦ omega (arith, e, split.right_low c cuts joins pend col g f m early) ]);
      named = or_right (nat_eq x 0) (Rattle.cw_trace.specs.Stands.is_apart (f ∷ cuts) joins x) (
          let e : left_column_of x ≡ f = elim v [ inl q ↦ ap left_column_of q ∙ Rattle.cw_trace.proofs.Segments.Lines.left_of_odd f m.left | inr q ↦ ap left_column_of q ∙ Rattle.cw_trace.proofs.Segments.Lines.left_of_next f m.left ] in
          Rattle.cw_trace.proofs.Segments.Lines.is_split (f ∷ cuts) joins x (ap (has (f ∷ cuts)) e ∙ Rattle.cw_trace.proofs.Marks.Edits.has_cons_same cuts f) (ap (has joins) e ∙ m.unjoined));
    }

    -- the nesting after a split
    pub nesting_split : Nesting d (f ∷ cuts) joins
    nesting_split = record {
      distinct = distinct_place (opening_mark t) (marks f) c.brackets (distinct_marks f) nest.distinct no_mark;
      marks = λ b h. elim (or_cases (has (marks f) b) (has c.brackets b) (sym (has_place (opening_mark t) (marks f) c.brackets b t_there) ∙ h)) [
        | inl e ↦ (let z = whose f b e in (z.0, new_one z.0 z.1, z.2))
        | inr e ↦ (let z = nest.marks b e in (z.0, new_trace z.0 z.1, z.2))
      ];
      closes = λ x n. closes2 x (which x n);
      descends = λ x y n k e. descends2 x y (which x n) (which y k) e;
      within = λ x y n k e. within2 x y (which x n) (which y k) e;
    } where
      closes2 : (x : ℕ) → New x ⊎ Was x → stands_before d.brackets (opening_mark x) (closing_mark x) ≡ true
      closes2 x (inr w) = let p = old_marks x w in old_before (opening_mark x) (closing_mark x) p.0 p.1 ∙ nest.closes x w.trace
      closes2 x (inl v) =
          among (opening_mark x) (closing_mark x) (new_opening f x v) (new_closing f x v)
          ∙ elim v [ inl e ↦ ap (λ n. stands_before (marks f) (opening_mark n) (closing_mark n)) e ∙ left_pair f | inr e ↦ ap (λ n. stands_before (marks f) (opening_mark n) (closing_mark n)) e ∙ right_pair f ]

  module _ (f : ℕ) (m : MayMerge c cuts joins pend col f) (above : Ups c cuts joins pend col) where
    abbrev d2 : ColumnTable
    d2 = merged f c

    stays_in : ℕ → Bool
    stays_in b = not (is_mark_of f b || is_mark_of (f + 1) b)

    or_false : (a b : Bool) → a ≡ false → b ≡ false → (a || b) ≡ false
    or_false true b e h = absurd (cc e)
    or_false false b e h = h

    keeps_mark : (x b : ℕ) → x ≢ f → x ≢ f + 1 → (b ≡ opening_mark x) ⊎ (b ≡ closing_mark x) → stays_in b ≡ true
    unfolding stays_in
    keeps_mark x b p q (inl e) =
        ap (λ n. not (is_mark_of f n || is_mark_of (f + 1) n)) e
        ∙ ap not (or_false (is_mark_of f (opening_mark x)) (is_mark_of (f + 1) (opening_mark x))
        (or_false (nat_eq (opening_mark x) (opening_mark f)) (nat_eq (opening_mark x) (closing_mark f)) (ne_eqb _ _ (λ r. p (opening_one x f r))) (ne_eqb _ _ (λ r. mixed x f r)))
        (or_false (nat_eq (opening_mark x) (opening_mark (f + 1))) (nat_eq (opening_mark x) (closing_mark (f + 1))) (ne_eqb _ _ (λ r. q (opening_one x (f + 1) r))) (ne_eqb _ _ (λ r. mixed x (f + 1) r))))
    keeps_mark x b p q (inr e) =
        ap (λ n. not (is_mark_of f n || is_mark_of (f + 1) n)) e
        ∙ ap not (or_false (is_mark_of f (closing_mark x)) (is_mark_of (f + 1) (closing_mark x))
        (or_false (nat_eq (closing_mark x) (opening_mark f)) (nat_eq (closing_mark x) (closing_mark f)) (ne_eqb _ _ (λ r. mixed f x (sym r))) (ne_eqb _ _ (λ r. p (closing_one x f r))))
        (or_false (nat_eq (closing_mark x) (opening_mark (f + 1))) (nat_eq (closing_mark x) (closing_mark (f + 1))) (ne_eqb _ _ (λ r. mixed (f + 1) x (sym r))) (ne_eqb _ _ (λ r. q (closing_one x (f + 1) r)))))

    loses_mark : (x b : ℕ) → (x ≡ f) ⊎ (x ≡ f + 1) → (b ≡ opening_mark x) ⊎ (b ≡ closing_mark x) → stays_in b ≡ true → ⊥
    unfolding stays_in
    loses_mark x b v w e = cc (e, ap not (by_both v w)) where
      by_both : (x ≡ f) ⊎ (x ≡ f + 1) → (b ≡ opening_mark x) ⊎ (b ≡ closing_mark x) → (is_mark_of f b || is_mark_of (f + 1) b) ≡ true
      by_both (inl p) (inl q) = or_left (is_mark_of f b) (is_mark_of (f + 1) b) (or_left (nat_eq b (opening_mark f)) (nat_eq b (closing_mark f)) (eq-eqb _ _ (q ∙ ap opening_mark p)))
      by_both (inl p) (inr q) = or_left (is_mark_of f b) (is_mark_of (f + 1) b) (or_right (nat_eq b (opening_mark f)) (nat_eq b (closing_mark f)) (eq-eqb _ _ (q ∙ ap closing_mark p)))
      by_both (inr p) (inl q) = or_right (is_mark_of f b) (is_mark_of (f + 1) b) (or_left (nat_eq b (opening_mark (f + 1))) (nat_eq b (closing_mark (f + 1))) (eq-eqb _ _ (q ∙ ap opening_mark p)))
      by_both (inr p) (inr q) = or_right (is_mark_of f b) (is_mark_of (f + 1) b) (or_right (nat_eq b (opening_mark (f + 1))) (nat_eq b (closing_mark (f + 1))) (eq-eqb _ _ (q ∙ ap closing_mark p)))

    abbrev Was2 : ℕ → Type 0
    Was2 = merge.Was c cuts joins pend col g f m

    was2 : (x : ℕ) → IsTrace d2 cuts (f ∷ joins) x → Was2 x
    was2 = merge.was c cuts joins pend col g f m

    same_around2 : (y : ℕ) → 0 < y → IsTrace d2 cuts (f ∷ joins) y → (around d2 y ≡ around c y) × IsTrace d2 cuts (f ∷ joins) (around c y)
    same_around2 y p n =
        let a = ups.around2_of c cuts joins pend col g above f m y p (was2 y n) in
        let s : around d2 y ≡ around c y = a.same in
        let P : ℕ → Type 0 = λ v. IsTrace d2 cuts (f ∷ joins) v in
        (s, subst P s (own_trace d2 cuts (f ∷ joins) pend col (merge.segments_merge c cuts joins pend col g f m) (slice_index c.parents y) (let l : slice_index c.parents y < y = g.rooted y p (was2 y n).trace.low in omega (arith, n.low))))

    inside_same2 : (x y : ℕ) → Was2 x → Was2 y → inside d2 y x ≡ inside c y x
    unfolding stays_in
    inside_same2 x y w v =
        let p = keeps_mark x (opening_mark x) w.not_f w.not_r (inl refl) in
        let q = keeps_mark x (closing_mark x) w.not_f w.not_r (inr refl) in
        let r = keeps_mark y (opening_mark y) v.not_f v.not_r (inl refl) in
        ap (λ z. z && stands_before d2.brackets (opening_mark y) (closing_mark x)) (before_filter stays_in c.brackets (opening_mark x) (opening_mark y) p r) ∙ ap (λ z. stands_before c.brackets (opening_mark x) (opening_mark y) && z) (before_filter stays_in c.brackets (opening_mark y) (closing_mark x) r q)

    -- the nesting after a merge
    pub nesting_merge : Nesting d2 cuts (f ∷ joins)
    unfolding stays_in
    nesting_merge = record {
      distinct = distinct_filter stays_in c.brackets nest.distinct;
      marks = λ b h. (
          let z = filter_has stays_in c.brackets b h in
          let y = nest.marks b z.1 in
          (y.0, keeps_trace y.0 y.1 (λ e. loses_mark y.0 b (inl e) y.2 z.0) (λ e. loses_mark y.0 b (inr e) y.2 z.0), y.2));
      closes = λ x n. (let w = was2 x n in before_filter stays_in c.brackets (opening_mark x) (closing_mark x) (keeps_mark x (opening_mark x) w.not_f w.not_r (inl refl)) (keeps_mark x (closing_mark x) w.not_f w.not_r (inr refl)) ∙ nest.closes x w.trace);
      descends = λ x y n k e. (
          let w = was2 x n in
          let v = was2 y k in
          descends_to d2 c (IsTrace d2 cuts (f ∷ joins)) (λ i p j. let s = same_around2 i p j in (sym s.0, let P : ℕ → Type 0 = λ u. IsTrace d2 cuts (f ∷ joins) u in subst P (sym s.0) s.1)) x y k (nest.descends x y w.trace v.trace (sym (inside_same2 x y w v) ∙ e)));
      within = λ x y n k e. (
          let w = was2 x n in
          let v = was2 y k in
          inside_same2 x y w v ∙ nest.within x y w.trace v.trace (descends_to c d2 (IsTrace d2 cuts (f ∷ joins)) same_around2 x y k e));
    } where
      keeps_trace : (x : ℕ) → IsTrace c cuts joins x → x ≢ f → x ≢ f + 1 → IsTrace d2 cuts (f ∷ joins) x
      keeps_trace x n a b = record {
        low = merge.new c cuts joins pend col g f m x n.low;
        named = elim (cases_eq x 0) [
          | inl e ↦ or_left (nat_eq x 0) _ (eq-eqb x 0 e)
          | inr e ↦ elim (or_cases (nat_eq x 0) (Rattle.cw_trace.specs.Stands.is_apart cuts joins x) n.named) [
            | inl z ↦ absurd (e (eqb-true _ _ z))
            | inr z ↦ (
                let p : 0 < x = omega (arith, e) in
                let l : left_column_of x ≢ f = λ q. elim (Rattle.cw_trace.proofs.Segments.Lines.left_of_cases x p) [ inl y ↦ a (y ∙ q) | inr y ↦ b (y ∙ ap (λ k. k + 1) q) ] in
                or_right (nat_eq x 0) _ (merge.apart_same c cuts joins pend col g f m x l ∙ z))
          ]
        ];
      }

  module _ (word i : ℕ) (a : Active c cuts joins i) (free : word ≡ 0 → (b : ℕ) → pend b ≡ true → gap c (col b) ≡ gap c i → ⊥) (taken : word ≢ 0 → (b : ℕ) × (pend b ≡ true) × (gap c (col b) ≡ gap c i)) where
    abbrev d3 : ColumnTable
    d3 = forked word i c

    same_around3 : (y : ℕ) → 0 < y → IsTrace c cuts joins y → (around d3 y ≡ around c y) × IsTrace c cuts joins (around c y)
    same_around3 y p n = (
      fork.around_old c cuts joins pend col g word i a free taken y p n.low,
      own_trace c cuts joins pend col g (slice_index c.parents y) (let l : slice_index c.parents y < y = g.rooted y p n.low in omega (arith, n.low)),
    )

    -- the nesting after a fork
    pub nesting_fork : Nesting d3 cuts joins
    nesting_fork = record {
      distinct = nest.distinct;
      marks = λ b h. (let z = nest.marks b h in let n = z.1 in (z.0, record { low = fork.new c cuts joins pend col g word i a free taken z.0 n.low; named = n.named }, z.2));
      closes = λ x n. nest.closes x (fork.was_trace c cuts joins pend col g word i a free taken x n);
      descends = λ x y n k e. (
          let w = fork.was_trace c cuts joins pend col g word i a free taken x n in
          let v = fork.was_trace c cuts joins pend col g word i a free taken y k in
          descends_to d3 c (IsTrace c cuts joins) (λ j p q. let s = same_around3 j p q in (sym s.0, let P : ℕ → Type 0 = λ u. IsTrace c cuts joins u in subst P (sym s.0) s.1)) x y v (nest.descends x y w v e));
      within = λ x y n k e. (
          let w = fork.was_trace c cuts joins pend col g word i a free taken x n in
          let v = fork.was_trace c cuts joins pend col g word i a free taken y k in
          nest.within x y w v (descends_to c d3 (IsTrace c cuts joins) same_around3 x y v e));
    }
