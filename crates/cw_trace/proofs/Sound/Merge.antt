-- What every call keeps of the columns, kept by a merge.
use Rattle.std.proofs.Common.{◌≡◌, ◌≢◌, ℕ, suc, ◌+◌, ◌<◌, ◌≤◌, List, length, refl, ap, sym, ◌∙◌, arith, Bool, true, false, Option, Some, None, nat_eq, not, inl, inr, eq-eqb, eqb-true}
use Rattle.std.specs.Prelude.{◌⊎◌, ◌/◌, ◌%◌, ◌||◌, slice_index, slice_set, if◌then◌else◌}
use Rattle.std.proofs.lemmas.Bool.{ne_eqb, or_left, or_right, cases_eq}
use Rattle.std.proofs.lemmas.List.{get_or-map, length-map, length-set}
use Rattle.cw_tree.specs.Walks.{has}
use Rattle.cw_trace.specs.declared.tier.Trace.{Trace}
use Rattle.cw_trace.specs.Columns.{ColumnTable, used, owner, is_trace, opening_mark, closing_mark, back_to, merged, is_mark_of, around_fork}
use Rattle.cw_trace.specs.Tier.{trace_count, AreSound}
use Rattle.cw_trace.proofs.Marks.Marking.{distinct_filter, filter_has, has_filter}
use Rattle.cw_trace.proofs.Marks.FourMarks.{length_four}
use Rattle.cw_trace.proofs.Marks.Counts.{SameLengths, count_clear, count_keep, half_closing, half_opening, named_same, named_set, odd_next}
use Rattle.cw_trace.proofs.Segments.Lines.{odd_apart}

module _ (c : ColumnTable) (s : AreSound c) (l : SameLengths c) where
  module _ (f : ℕ) (low : f < used c) (left : f % 2 ≡ 1) (split : is_trace c f ≡ true) where
    abbrev up_of : ℕ
    up_of = slice_index c.parents f

    abbrev whole_trace : ℕ
    whole_trace = around_fork c f

    pos : 0 < f
    pos = by_odd f left where
      by_odd : (f : ℕ) → f % 2 ≡ 1 → 0 < f
      by_odd f e = omega arith

    pub merge_parent_low : up_of < used c
    merge_parent_low = let less : up_of < f = s.rooted f pos low in omega arith

    around_low : whole_trace < f
    around_low =
        let less : up_of < f = s.rooted f pos low in
        let le : whole_trace ≤ up_of = s.owner_low up_of merge_parent_low in
        omega arith

    pub merge_trace_low : whole_trace < used c
    merge_trace_low = omega (arith, around_low, low)

    whole_named : is_trace c whole_trace ≡ true
    whole_named = s.owned up_of merge_parent_low

    merge_right_low : f + 1 < used c
    merge_right_low = odd_next f (used c) left low s.odd

    right_split : is_trace c (f + 1) ≡ true
    right_split = s.pairs f left low ∙ split

    pub merge_left : (has c.brackets (opening_mark f) ≡ true) × (has c.brackets (closing_mark f) ≡ true)
    merge_left = s.there f split

    pub merge_right : (has c.brackets (opening_mark (f + 1)) ≡ true) × (has c.brackets (closing_mark (f + 1)) ≡ true)
    merge_right = s.there (f + 1) right_split

    pub merge_smaller : (i : ℕ) → i < f → owner c i < f
    merge_smaller i h = let le : owner c i ≤ i = s.owner_low i (omega arith) in omega arith

    abbrev m : ColumnTable
    m = merged f c

    abbrev whole_row : Trace
    whole_row = record { head = Rattle.cw_trace.specs.Columns.head c whole_trace; lead = Some (Rattle.cw_trace.specs.Columns.head c whole_trace); up = Rattle.cw_trace.specs.Columns.up c whole_trace }

    abbrev ms1 : List (Option Trace)
    ms1 = slice_set c.traces whole_trace (Some whole_row)

    abbrev ms2 : List (Option Trace)
    ms2 = slice_set ms1 f None

    mlen1 : length ms1 ≡ used c
    mlen1 = length-set c.traces whole_trace (Some whole_row) ∙ l.traces

    mlen2 : length ms2 ≡ used c
    mlen2 = length-set ms1 f None ∙ mlen1

    gone_f : is_trace m f ≡ false
    gone_f = named_same ms2 (f + 1) f None (omega arith) ∙ named_set ms1 f None (omega (arith, mlen1, low))

    gone_r : is_trace m (f + 1) ≡ false
    gone_r = named_set ms2 (f + 1) None (omega (arith, mlen2, merge_right_low))

    whole_stays : is_trace m whole_trace ≡ true
    whole_stays = named_same ms2 (f + 1) whole_trace None (omega (arith, around_low)) ∙ named_same ms1 f whole_trace None (omega (arith, around_low)) ∙ named_set c.traces whole_trace (Some whole_row) (omega (arith, l.traces, merge_trace_low))

    others : (x : ℕ) → x ≢ f → x ≢ f + 1 → is_trace m x ≡ is_trace c x
    others x a b = elim (cases_eq x whole_trace) [
      | inl e ↦ ap (is_trace m) e ∙ whole_stays ∙ sym (ap (is_trace c) e ∙ whole_named)
      | inr n ↦ named_same ms2 (f + 1) x None b ∙ named_same ms1 f x None a ∙ named_same c.traces whole_trace x (Some whole_row) n
    ]

    merged_used : used m ≡ used c
    merged_used = length-map c.owners (back_to whole_trace f)

    merged_owner : (i : ℕ) → i < used c → ((owner m i ≡ whole_trace) × (f ≤ i)) ⊎ ((owner m i ≡ owner c i) × (owner c i ≢ f) × (owner c i ≢ f + 1))
    merged_owner i h = by_tests (nat_eq (owner c i) f) (nat_eq (owner c i) (f + 1)) refl refl (get_or-map (back_to whole_trace f) c.owners i 0 0 h) where
      by_tests : (a b : Bool) → nat_eq (owner c i) f ≡ a → nat_eq (owner c i) (f + 1) ≡ b → owner m i ≡ (if a || b then whole_trace else owner c i) → ((owner m i ≡ whole_trace) × (f ≤ i)) ⊎ ((owner m i ≡ owner c i) × (owner c i ≢ f) × (owner c i ≢ f + 1))
      by_tests true b ea eb e = inl (e, (let le : owner c i ≤ i = s.owner_low i h in omega (arith, eqb-true _ _ ea)))
      by_tests false true ea eb e = inl (e, (let le : owner c i ≤ i = s.owner_low i h in omega (arith, eqb-true _ _ eb)))
      by_tests false false ea eb e = inr (e, (λ q. cc (eq-eqb _ _ q, ea)), (λ q. cc (eq-eqb _ _ q, eb)))

    two_fewer : suc (suc (trace_count m.traces)) ≡ trace_count c.traces
    two_fewer =
        ap suc (count_clear ms2 (f + 1) (named_same ms1 f (f + 1) None (omega arith) ∙ named_same c.traces whole_trace (f + 1) (Some whole_row) (omega (arith, around_low)) ∙ right_split))
        ∙ count_clear ms1 f (named_same c.traces whole_trace f (Some whole_row) (omega (arith, around_low)) ∙ split)
        ∙ count_keep c.traces whole_trace whole_row whole_named

    pub sound_merge : AreSound m
    sound_merge = record {
      odd = ap (λ n. n % 2) merged_used ∙ s.odd;
      rooted = λ i p h. s.rooted i p (omega (arith, merged_used));
      owner_low = λ i h. elim (merged_owner i (omega (arith, merged_used))) [
        | inl e ↦ omega (arith, e.0, e.1, around_low)
        | inr e ↦ (let w = s.owner_low i (omega (arith, merged_used)) in omega (arith, e.0))
      ];
      owned = λ i h. elim (merged_owner i (omega (arith, merged_used))) [
        | inl e ↦ ap (is_trace m) e.0 ∙ whole_stays
        | inr e ↦ ap (is_trace m) e.0 ∙ others (owner c i) e.1 e.2 ∙ s.owned i (omega (arith, merged_used))
      ];
      pairs = λ x o h. elim (cases_eq x f) [
        | inl e ↦ ap (λ n. is_trace m (n + 1)) e ∙ gone_r ∙ sym (ap (is_trace m) e ∙ gone_f)
        | inr n ↦ others (x + 1) (λ e. odd_apart f x left o (sym e)) (λ e. n (omega arith)) ∙ s.pairs x o (omega (arith, merged_used)) ∙ sym (others x n (odd_apart x f o left))
      ];
      outer_low = λ i o e. (let w = s.outer_low i o e in omega (arith, merged_used));
      distinct = distinct_filter (λ b. not (is_mark_of f b || is_mark_of (f + 1) b)) c.brackets s.distinct;
      count = omega (arith, length_four f c.brackets s.distinct merge_left.0 merge_left.1 merge_right.0 merge_right.1, s.count, two_fewer);
      there = λ x h. there_new x h;
      only = λ b h. only_new b h;
    } where
      not_f : (x : ℕ) → is_trace m x ≡ true → (x ≢ f) × (x ≢ f + 1)
      not_f x h = ((λ e. cc (sym (ap (is_trace m) e) ∙ h, gone_f)), (λ e. cc (sym (ap (is_trace m) e) ∙ h, gone_r)))

      stays : (x b : ℕ) → x ≢ f → x ≢ f + 1 → b / 2 ≡ x → not (is_mark_of f b || is_mark_of (f + 1) b) ≡ true
      stays x b p q e = rw (
        ne_eqb b (opening_mark f) (λ z. p (sym e ∙ ap (λ n. n / 2) z ∙ half_opening f)),
        ne_eqb b (closing_mark f) (λ z. p (sym e ∙ ap (λ n. n / 2) z ∙ half_closing f)),
        ne_eqb b (opening_mark (f + 1)) (λ z. q (sym e ∙ ap (λ n. n / 2) z ∙ half_opening (f + 1))),
        ne_eqb b (closing_mark (f + 1)) (λ z. q (sym e ∙ ap (λ n. n / 2) z ∙ half_closing (f + 1))),
      ) refl

      there_new : (x : ℕ) → is_trace m x ≡ true → (has m.brackets (opening_mark x) ≡ true) × (has m.brackets (closing_mark x) ≡ true)
      there_new x h =
          let n = not_f x h in
          let w = s.there x (sym (others x n.0 n.1) ∙ h) in (
            has_filter (λ b. not (is_mark_of f b || is_mark_of (f + 1) b)) c.brackets (opening_mark x) (stays x (opening_mark x) n.0 n.1 (half_opening x)) ∙ w.0,
            has_filter (λ b. not (is_mark_of f b || is_mark_of (f + 1) b)) c.brackets (closing_mark x) (stays x (closing_mark x) n.0 n.1 (half_closing x)) ∙ w.1,
          )

      of_half : (b x : ℕ) → b / 2 ≡ x → (b ≡ opening_mark x) ⊎ (b ≡ closing_mark x)
      of_half b x q = grind arith

      is_gone : (x b : ℕ) → (b ≡ opening_mark x) ⊎ (b ≡ closing_mark x) → is_mark_of x b ≡ true
      is_gone x b (inl e) = or_left (nat_eq b (opening_mark x)) (nat_eq b (closing_mark x)) (eq-eqb b (opening_mark x) e)
      is_gone x b (inr e) = or_right (nat_eq b (opening_mark x)) (nat_eq b (closing_mark x)) (eq-eqb b (closing_mark x) e)

      gone : (p q : Bool) → not (p || q) ≡ true → (p ≡ false) × (q ≡ false)
      gone true q e = absurd (cc e)
      gone false true e = absurd (cc e)
      gone false false e = (refl, refl)

      -- a mark that stays is of neither trace
      other_mark : (b : ℕ) → not (is_mark_of f b || is_mark_of (f + 1) b) ≡ true → (b / 2 ≢ f) × (b / 2 ≢ f + 1)
      other_mark b e = let w = gone (is_mark_of f b) (is_mark_of (f + 1) b) e in ((λ q. cc (is_gone f b (of_half b f q), w.0)), (λ q. cc (is_gone (f + 1) b (of_half b (f + 1) q), w.1)))

      only_new : (b : ℕ) → has m.brackets b ≡ true → is_trace m (b / 2) ≡ true
      only_new b h =
          let w = filter_has (λ b. not (is_mark_of f b || is_mark_of (f + 1) b)) c.brackets b h in
          let n = other_mark b w.0 in
          others (b / 2) n.0 n.1 ∙ s.only b w.1
