-- What every call keeps of the columns, kept by a split.
use Rattle.std.proofs.Common.{◌≡◌, ◌≢◌, ℕ, suc, ◌+◌, ◌<◌, ◌≤◌, List, length, refl, ap, sym, ◌∙◌, arith, Bool, true, false, Option, Some, nat_eq, inl, inr, eqb-true}
use Rattle.std.specs.Prelude.{◌⊎◌, ◌*◌, ◌/◌, ◌%◌, ◌&&◌, ◌||◌, nat_le, slice_set, if◌then◌else◌}
use Rattle.std.proofs.lemmas.Bool.{leb-true, and_parts, or_left, or_right, or_cases, cases_eq}
use Rattle.std.proofs.lemmas.List.{length-set}
use Rattle.cw_tree.specs.Walks.{has}
use Rattle.cw_trace.specs.declared.tier.Trace.{Trace}
use Rattle.cw_trace.specs.Columns.{ColumnTable, used, owner, is_trace, opening_mark, closing_mark, marks, part_of, split_at}
use Rattle.cw_trace.specs.Tier.{trace_count, AreSound}
use Rattle.cw_trace.proofs.Marks.Edits.{length_parts, parts_at}
use Rattle.cw_trace.proofs.Marks.Marking.{has_place, distinct_place}
use Rattle.cw_trace.proofs.Marks.FourMarks.{length_place}
use Rattle.cw_trace.proofs.Segments.Nested.{distinct_marks}
use Rattle.cw_trace.proofs.Marks.Counts.{SameLengths, count_fill, count_keep, count_le, half_closing, half_marks, half_opening, lacks_mark, marks_has, named_same, named_set, odd_next}
use Rattle.cw_trace.proofs.Segments.Lines.{odd_apart}

module _ (c : ColumnTable) (s : AreSound c) (l : SameLengths c) where
  module _ (f : ℕ) (low : f < used c) (left : f % 2 ≡ 1) (whole : is_trace c f ≡ false) where
    abbrev t : ℕ
    t = owner c f

    right_low : f + 1 < used c
    right_low = odd_next f (used c) left low s.odd

    right_whole : is_trace c (f + 1) ≡ false
    right_whole = s.pairs f left low ∙ whole

    t_trace : is_trace c t ≡ true
    t_trace = s.owned f low

    t_low : t < f
    t_low =
        let le : t ≤ f = s.owner_low f low in
        let ne : t ≢ f = λ q. cc (sym (ap (is_trace c) q) ∙ t_trace, whole) in
        omega arith

    pub split_trace_low : t < used c
    split_trace_low = omega (arith, t_low, low)

    pub split_around : has c.brackets (opening_mark t) ≡ true
    split_around = (s.there t t_trace).0

    pub split_left : (has c.brackets (opening_mark f) ≡ false) × (has c.brackets (closing_mark f) ≡ false)
    split_left = (lacks_mark c s l f (opening_mark f) whole (half_opening f), lacks_mark c s l f (closing_mark f) whole (half_closing f))

    pub split_right : (has c.brackets (opening_mark (f + 1)) ≡ false) × (has c.brackets (closing_mark (f + 1)) ≡ false)
    split_right = (lacks_mark c s l (f + 1) (opening_mark (f + 1)) right_whole (half_opening (f + 1)), lacks_mark c s l (f + 1) (closing_mark (f + 1)) right_whole (half_closing (f + 1)))

    abbrev d : ColumnTable
    d = split_at f c

    abbrev row : Trace
    row = record { head = Rattle.cw_trace.specs.Columns.head c t; lead = Rattle.cw_trace.specs.Columns.kept_lead (Rattle.cw_trace.specs.Columns.lead c t) (Rattle.cw_trace.specs.Columns.gap c f); up = Rattle.cw_trace.specs.Columns.up c t }

    abbrev around : Option ℕ
    around = Rattle.cw_trace.specs.Columns.or_else row.lead t (Rattle.cw_trace.specs.Columns.up c t)

    abbrev left_row : Trace
    left_row = record { head = Rattle.cw_trace.specs.Columns.gap c f; lead = Some (Rattle.cw_trace.specs.Columns.gap c f); up = around }

    abbrev right_row : Trace
    right_row = record { head = f + 1; lead = Some (f + 1); up = around }

    abbrev ts1 : List (Option Trace)
    ts1 = slice_set c.traces t (Some row)

    abbrev ts2 : List (Option Trace)
    ts2 = slice_set ts1 f (Some left_row)

    len1 : length ts1 ≡ used c
    len1 = length-set c.traces t (Some row) ∙ l.traces

    len2 : length ts2 ≡ used c
    len2 = length-set ts1 f (Some left_row) ∙ len1

    names_t : is_trace d t ≡ true
    names_t = named_same ts2 (f + 1) t (Some right_row) (omega (arith, t_low)) ∙ named_same ts1 f t (Some left_row) (omega (arith, t_low)) ∙ named_set c.traces t (Some row) (omega (arith, l.traces, split_trace_low))

    names_f : is_trace d f ≡ true
    names_f = named_same ts2 (f + 1) f (Some right_row) (omega arith) ∙ named_set ts1 f (Some left_row) (omega (arith, len1, low))

    names_r : is_trace d (f + 1) ≡ true
    names_r = named_set ts2 (f + 1) (Some right_row) (omega (arith, len2, right_low))

    names_other : (x : ℕ) → x ≢ t → x ≢ f → x ≢ f + 1 → is_trace d x ≡ is_trace c x
    names_other x a b e = named_same ts2 (f + 1) x (Some right_row) e ∙ named_same ts1 f x (Some left_row) b ∙ named_same c.traces t x (Some row) a

    names_stay : (x : ℕ) → is_trace c x ≡ true → is_trace d x ≡ true
    names_stay x h = elim (cases_eq x f) [
      | inl e ↦ ap (is_trace d) e ∙ names_f
      | inr a ↦ elim (cases_eq x (f + 1)) [
        | inl e ↦ ap (is_trace d) e ∙ names_r
        | inr b ↦ elim (cases_eq x t) [ inl e ↦ ap (is_trace d) e ∙ names_t | inr n ↦ names_other x n a b ∙ h ]
      ]
    ]

    names_back : (x : ℕ) → is_trace d x ≡ true → (is_trace c x ≡ true) ⊎ ((x ≡ f) ⊎ (x ≡ f + 1))
    names_back x h = elim (cases_eq x f) [
      | inl e ↦ inr (inl e)
      | inr a ↦ elim (cases_eq x (f + 1)) [
        | inl e ↦ inr (inr e)
        | inr b ↦ inl (elim (cases_eq x t) [ inl e ↦ ap (is_trace c) e ∙ t_trace | inr n ↦ sym (names_other x n a b) ∙ h ])
      ]
    ]

    same_used : used d ≡ used c
    same_used = length_parts t f 0 c.owners

    -- the new owner of a column is its old one, or the fork's left or right strand with no greater number
    owner_new : (i : ℕ) → i < used c → (owner d i ≡ owner c i) ⊎ (((owner d i ≡ f) × (f ≤ i)) ⊎ ((owner d i ≡ f + 1) × (f + 1 ≤ i)))
    owner_new i h = by_tests (nat_eq i (f + 1)) (nat_eq (owner c i) t && nat_le f i) refl refl (parts_at t f 0 c.owners i h ∙ ap (λ n. part_of t f n (owner c i)) (zero_plus i)) where
      zero_plus : (i : ℕ) → 0 + i ≡ i
      zero_plus i = omega arith

      by_tests : (a b : Bool) → nat_eq i (f + 1) ≡ a → (nat_eq (owner c i) t && nat_le f i) ≡ b → owner d i ≡ (if a then f + 1 else if b then f else owner c i)
          → (owner d i ≡ owner c i) ⊎ (((owner d i ≡ f) × (f ≤ i)) ⊎ ((owner d i ≡ f + 1) × (f + 1 ≤ i)))
      by_tests true b ea eb e = inr (inr (e, omega (arith, eqb-true _ _ ea)))
      by_tests false true ea eb e = inr (inl (e, leb-true _ _ (and_parts (nat_eq (owner c i) t) (nat_le f i) eb).1))
      by_tests false false ea eb e = inl e

    no_mark : (b : ℕ) → has c.brackets b ≡ true → has (marks f) b ≡ false
    no_mark b h = by_case (has (marks f) b) refl where
      by_case : (v : Bool) → has (marks f) b ≡ v → has (marks f) b ≡ false
      by_case false q = q
      by_case true q = elim (half_marks f b q) [
        | inl e ↦ absurd (cc (lacks_mark c s l f b whole e, h))
        | inr e ↦ absurd (cc (lacks_mark c s l (f + 1) b right_whole e, h))
      ]

    brackets_has : (b : ℕ) → has d.brackets b ≡ (has (marks f) b || has c.brackets b)
    brackets_has b = has_place (opening_mark t) (marks f) c.brackets b split_around

    two_more : trace_count d.traces ≡ suc (suc (trace_count c.traces))
    two_more =
        count_fill ts2 (f + 1) right_row (omega (arith, len2, right_low)) (named_same ts1 f (f + 1) (Some left_row) (omega arith) ∙ named_same c.traces t (f + 1) (Some row) (omega (arith, t_low)) ∙ right_whole)
        ∙ ap suc (count_fill ts1 f left_row (omega (arith, len1, low)) (named_same c.traces t f (Some row) (omega (arith, t_low)) ∙ whole))
        ∙ ap (λ n. suc (suc n)) (count_keep c.traces t row t_trace)

    -- there is room for the brackets of two more traces
    pub split_few : length c.brackets + 4 ≤ 2 * used c
    split_few =
        let le : trace_count d.traces ≤ length d.traces = count_le d.traces in
        omega (arith, s.count, two_more, length-set ts2 (f + 1) (Some right_row), len2)

    pub sound_split : AreSound d
    sound_split = record {
      odd = ap (λ n. n % 2) same_used ∙ s.odd;
      rooted = λ i p h. s.rooted i p (omega (arith, same_used));
      owner_low = λ i h. elim (owner_new i (omega (arith, same_used))) [
        | inl e ↦ (let w = s.owner_low i (omega (arith, same_used)) in omega (arith, e))
        | inr z ↦ elim z [ inl e ↦ omega (arith, e.0, e.1) | inr e ↦ omega (arith, e.0, e.1) ]
      ];
      owned = λ i h. elim (owner_new i (omega (arith, same_used))) [
        | inl e ↦ ap (is_trace d) e ∙ names_stay (owner c i) (s.owned i (omega (arith, same_used)))
        | inr z ↦ elim z [ inl e ↦ ap (is_trace d) e.0 ∙ names_f | inr e ↦ ap (is_trace d) e.0 ∙ names_r ]
      ];
      pairs = λ x o h. pairs_new x o (omega (arith, same_used)) (cases_eq x f);
      outer_low = λ i o e. (let w = s.outer_low i o e in omega (arith, same_used));
      distinct = distinct_place (opening_mark t) (marks f) c.brackets (distinct_marks f) s.distinct no_mark;
      count = omega (arith, length_place (opening_mark t) (marks f) c.brackets split_around, s.count, two_more);
      there = λ x h. elim (names_back x h) [
        | inl e ↦ (let w = s.there x e in (brackets_has (opening_mark x) ∙ or_right (has (marks f) (opening_mark x)) (has c.brackets (opening_mark x)) w.0, brackets_has (closing_mark x) ∙ or_right (has (marks f) (closing_mark x)) (has c.brackets (closing_mark x)) w.1))
        | inr z ↦ there_new x z
      ];
      only = λ b h. elim (or_cases (has (marks f) b) (has c.brackets b) (sym (brackets_has b) ∙ h)) [
        | inr e ↦ names_stay (b / 2) (s.only b e)
        | inl e ↦ elim (half_marks f b e) [ inl q ↦ ap (is_trace d) q ∙ names_f | inr q ↦ ap (is_trace d) q ∙ names_r ]
      ];
    } where
      pairs_new : (x : ℕ) → x % 2 ≡ 1 → x < used c → (x ≡ f) ⊎ (x ≢ f) → is_trace d (x + 1) ≡ is_trace d x
      pairs_new x o h (inl e) = ap (λ n. is_trace d (n + 1)) e ∙ names_r ∙ sym (ap (is_trace d) e ∙ names_f)
      pairs_new x o h (inr n) = by_bool (is_trace c x) refl where
        by_bool : (b : Bool) → is_trace c x ≡ b → is_trace d (x + 1) ≡ is_trace d x
        by_bool true q = names_stay (x + 1) (s.pairs x o h ∙ q) ∙ sym (names_stay x q)
        by_bool false q =
            let not_t : x ≢ t = λ e. cc (sym (ap (is_trace c) e) ∙ q, t_trace) in
            let next_not_t : x + 1 ≢ t = λ e. cc (sym (ap (is_trace c) e) ∙ s.pairs x o h ∙ q, t_trace) in
            names_other (x + 1) next_not_t (λ e. odd_apart f x left o (sym e)) (λ e. n (omega arith)) ∙ s.pairs x o h ∙ sym (names_other x not_t n (odd_apart x f o left))

      in_marks : (b : ℕ) → has (marks f) b ≡ true → has d.brackets b ≡ true
      in_marks b h = brackets_has b ∙ or_left (has (marks f) b) (has c.brackets b) h

      there_new : (x : ℕ) → (x ≡ f) ⊎ (x ≡ f + 1) → (has d.brackets (opening_mark x) ≡ true) × (has d.brackets (closing_mark x) ≡ true)
      there_new x (inl e) = (ap (λ n. has d.brackets (opening_mark n)) e ∙ in_marks (opening_mark f) (marks_has f).0, ap (λ n. has d.brackets (closing_mark n)) e ∙ in_marks (closing_mark f) (marks_has f).1)
      there_new x (inr e) = (ap (λ n. has d.brackets (opening_mark n)) e ∙ in_marks (opening_mark (f + 1)) (marks_has f).2, ap (λ n. has d.brackets (closing_mark n)) e ∙ in_marks (closing_mark (f + 1)) (marks_has f).3)
