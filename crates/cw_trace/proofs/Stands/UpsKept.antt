-- Splits, merges and forks keep the ups.
use Rattle.std.proofs.Common.{◌≡◌, ◌≢◌, ℕ, ◌+◌, ◌<◌, List, ◌∷◌, refl, ap, sym, ◌∙◌, arith, Bool, true, Some, None, inl, inr, subst, eqb-true, nat_eq}
use Rattle.std.specs.Prelude.{◌⊎◌, ◌%◌, slice_index}
use Rattle.cw_trace.specs.Columns.{ColumnTable, used, owner, gap, up, up_in, left_column_of, or_else, split_at, merged, forked}
use Rattle.cw_trace.specs.Stands.{around, is_apart}
use Rattle.cw_trace.specs.Segments.{SegmentStart, IsCut, IsTrace, Within, Segments, MaySplit, MayMerge, Active, Ups, next_outward}
use Rattle.cw_trace.proofs.Segments.Lines.{left_of_cases, left_of_is_odd, left_of_le, apart_parts, own_le}
use Rattle.cw_trace.proofs.Segments.Split as split
use Rattle.cw_trace.proofs.Segments.Merge as merge
use Rattle.cw_trace.proofs.Segments.Fork as fork
use Rattle.std.proofs.lemmas.Bool.{or_cases, cases_eq}

module _ (c : ColumnTable) (cuts joins : List ℕ) (pend : ℕ → Bool) (col : ℕ → ℕ) (g : Segments c cuts joins pend col) where
  trace_apart : (x : ℕ) → 0 < x → IsTrace c cuts joins x → is_apart cuts joins x ≡ true
  trace_apart x p n = elim (or_cases (nat_eq x 0) (is_apart cuts joins x) n.named) [ inl e ↦ absurd (let z : x ≡ 0 = eqb-true _ _ e in omega (arith, z)) | inr e ↦ e ]

  -- the trace around a trace was cut at its fork
  pub cut_of : (x : ℕ) → 0 < x → IsTrace c cuts joins x → IsCut c cuts joins (around c x) (left_column_of x)
  cut_of x p n =
      let z = apart_parts cuts joins x (trace_apart x p n) in
      let odd : left_column_of x % 2 ≡ 1 = left_of_is_odd x p in
      let le = left_of_le x p in
      let low : left_column_of x < used c = omega (arith, le.0, n.low) in
      record {
        fork = record {
          low = low;
          left = odd;
          unjoined = z.1;
          outside = elim (left_of_cases x p) [ inl q ↦ sym (ap (around c) q) | inr q ↦ sym (ap (owner c) (ap (λ i. slice_index c.parents i) q ∙ g.pairs (left_column_of x) odd low)) ];
        };
        cut = z.0;
      }

  around_low : (x : ℕ) → 0 < x → x < used c → around c x < x
  around_low x p h = let l : slice_index c.parents x < x = g.rooted x p h in omega (arith, own_le c cuts joins pend col g (slice_index c.parents x) (omega arith))

  par : (s : ℕ) → 0 < s → s < used c → slice_index c.parents s < used c
  par s p h = let l : slice_index c.parents s < s = g.rooted s p h in omega arith

  module _ (ups : Ups c cuts joins pend col) where
    module _ (f : ℕ) (m : MaySplit c cuts joins pend col f) (early : next_outward c cuts f ≡ None) where
      abbrev t : ℕ
      t = owner c f

      abbrev d : ColumnTable
      d = split_at f c

      -- a trace that is not one of the new ones keeps what it had around it
      pub record Around (x : ℕ) : Type 0 where
        pub same : around d x ≡ around c x
        pub other : split.Other c cuts joins pend col g f m early (around c x)

      pub around_of : (x : ℕ) → 0 < x → IsTrace c cuts joins x → Around x
      around_of x p n =
          let w = cut_of x p n in
          let low : slice_index c.parents x < used c = par x p n.low in
          let not_t : around c x ≢ t = λ e. (let P : ℕ → Type 0 = λ y. IsCut c cuts joins y (left_column_of x) in split.uncut c cuts joins pend col g f m early (left_column_of x) (subst P e w)) in
          elim (split.part c cuts joins pend col g f m early (slice_index c.parents x) low) [
            | split.right q v ↦ absurd (m.no_fork x p n.low q)
            | split.left k q l v ↦ absurd (not_t q)
            | split.rest k v l ↦ record {
              same = v;
              other = record { not_t = not_t; not_f = λ e. split.no_trace c cuts joins pend col g f m early (around c x) (slice_index c.parents x) e low refl; not_r = λ e. split.no_right_trace c cuts joins pend col g f m early (around c x) (slice_index c.parents x) e low refl };
            }
          ]

      pub new_around : (x : ℕ) → (x ≡ f) ⊎ (x ≡ f + 1) → around d x ≡ t
      new_around x e =
          let w = (split.cut_f c cuts joins pend col g f m early t refl).fork in
          elim e [ inl q ↦ ap (around d) q ∙ w.outside | inr q ↦ ap (around d) q ∙ ap (owner d) (g.pairs f m.left m.low) ∙ w.outside ]

      new_up : (x : ℕ) → (x ≡ f) ⊎ (x ≡ f + 1) → up d x ≡ split.above c cuts joins pend col g f m early
      new_up x e = elim e [ inl q ↦ ap (up d) q ∙ ap up_in (split.trace_L c cuts joins pend col g f m early) | inr q ↦ ap (up d) q ∙ ap up_in (split.trace_R c cuts joins pend col g f m early) ]

      tr : IsTrace c cuts joins t
      tr = split.tr c cuts joins pend col g f m early

      start_f : SegmentStart c joins t f
      start_f = inr (split.open_f c cuts joins pend col g f m early)

      t_low : t < f
      t_low = split.t_low c cuts joins pend col g f m early

      from : (x b : ℕ) → split.Other c cuts joins pend col g f m early x → pend b ≡ true → owner d (col b) ≡ x → owner c (col b) ≡ x
      from = split.in_O c cuts joins pend col g f m early

      up_t : up d t ≡ up c t
      up_t = ap up_in (split.trace_T c cuts joins pend col g f m early)

      above_some : gap c t ≢ gap c f → split.above c cuts joins pend col g f m early ≡ Some t
      above_some n = ap (λ l. or_else l t (up c t)) (split.lead_stays c cuts joins pend col g f m early n)

      above_none : gap c t ≡ gap c f → split.above c cuts joins pend col g f m early ≡ up c t
      above_none n = ap (λ l. or_else l t (up c t)) (split.lead_goes c cuts joins pend col g f m early n)

      some_new : (x b : ℕ) → (x ≡ f) ⊎ (x ≡ f + 1) → pend b ≡ true → owner d (col b) ≡ around d x → up d x ≡ Some (around d x)
      some_new x b e p o =
          let z = split.in_T c cuts joins pend col g f m early t b refl p (o ∙ new_around x e) in
          let w : Within c pend col t t b = record { pending = p; owned = z.0; after = omega (arith, own_le c cuts joins pend col g (col b) (g.there b p), z.0) } in
          new_up x e ∙ above_some (λ q. g.shared t t f b tr (inl refl) start_f t_low q w z.1) ∙ ap Some (sym (new_around x e))

      none_new : (x : ℕ) → (x ≡ f) ⊎ (x ≡ f + 1) → ((b : ℕ) → pend b ≡ true → owner d (col b) ≡ around d x → ⊥) → up d x ≡ up d (around d x)
      none_new x e none = new_up x e ∙ by_gap (cases_eq (gap c t) (gap c f)) ∙ sym (ap (up d) (new_around x e) ∙ up_t) where
        by_gap : (gap c t ≡ gap c f) ⊎ (gap c t ≢ gap c f) → split.above c cuts joins pend col g f m early ≡ up c t
        by_gap (inl q) = above_none q
        by_gap (inr q) =
            let z = g.parted t t f tr (inl refl) start_f t_low q in
            let w = z.2 in
            absurd (none z.0 w.pending (split.to_T c cuts joins pend col g f m early t z.0 refl w.pending w.owned z.1 ∙ sym (new_around x e)))

      some_old : (x b : ℕ) → 0 < x → IsTrace c cuts joins x → up d x ≡ up c x → pend b ≡ true → owner d (col b) ≡ around d x → up d x ≡ Some (around d x)
      some_old x b p n e pb o = let a = around_of x p n in e ∙ ups.up_some x b p n pb (from (around c x) b a.other pb (o ∙ a.same)) ∙ ap Some (sym a.same)

      none_old : (x : ℕ) → 0 < x → IsTrace c cuts joins x → up d x ≡ up c x → ((b : ℕ) → pend b ≡ true → owner d (col b) ≡ around d x → ⊥) → up d x ≡ up d (around d x)
      none_old x p n e none =
          let a = around_of x p n in
          e ∙ ups.up_none x p n (λ b pb o. none b pb (split.to_O c cuts joins pend col g f m early (around c x) b a.other pb o ∙ sym a.same))
          ∙ sym (ap (up d) a.same ∙ ap up_in (split.trace_O c cuts joins pend col g f m early (around c x) a.other))

      pub ups_split : Ups d (f ∷ cuts) joins pend col
      ups_split = record {
        no_up = by_root (cases_eq t 0);
        up_some = λ x b p n pb o. some x b p pb o (split.kind c cuts joins pend col g f m early x n);
        up_none = λ x p n none. absent x p none (split.kind c cuts joins pend col g f m early x n);
      } where
        by_root : (t ≡ 0) ⊎ (t ≢ 0) → up d 0 ≡ None
        by_root (inl e) = ap (up d) (sym e) ∙ up_t ∙ ap (up c) e ∙ ups.no_up
        by_root (inr e) = ap up_in (split.trace_O c cuts joins pend col g f m early 0 (record { not_t = λ q. e (sym q); not_f = λ q. omega (arith, q, t_low); not_r = λ q. omega (arith, q) })) ∙ ups.no_up

        up_T : (x : ℕ) → x ≡ t → up d x ≡ up c x
        up_T x e = ap (up d) e ∙ up_t ∙ sym (ap (up c) e)

        trace_T : (x : ℕ) → x ≡ t → IsTrace c cuts joins x
        trace_T x e = let P : ℕ → Type 0 = λ y. IsTrace c cuts joins y in subst P (sym e) tr

        some : (x b : ℕ) → 0 < x → pend b ≡ true → owner d (col b) ≡ around d x → split.Kind c cuts joins pend col g f m early x → up d x ≡ Some (around d x)
        some x b p pb o (split.is_R e) = some_new x b (inr e) pb o
        some x b p pb o (split.is_L e) = some_new x b (inl e) pb o
        some x b p pb o (split.is_T e) = some_old x b p (trace_T x e) (up_T x e) pb o
        some x b p pb o (split.is_O a n) = some_old x b p n (ap up_in (split.trace_O c cuts joins pend col g f m early x a)) pb o

        absent : (x : ℕ) → 0 < x → ((b : ℕ) → pend b ≡ true → owner d (col b) ≡ around d x → ⊥) → split.Kind c cuts joins pend col g f m early x → up d x ≡ up d (around d x)
        absent x p none (split.is_R e) = none_new x (inr e) none
        absent x p none (split.is_L e) = none_new x (inl e) none
        absent x p none (split.is_T e) = none_old x p (trace_T x e) (up_T x e) none
        absent x p none (split.is_O a n) = none_old x p n (ap up_in (split.trace_O c cuts joins pend col g f m early x a)) none

    module _ (f : ℕ) (m : MayMerge c cuts joins pend col f) where
      abbrev t2 : ℕ
      t2 = around c f

      abbrev d2 : ColumnTable
      d2 = merged f c

      pub record Around2 (x : ℕ) : Type 0 where
        pub same : around d2 x ≡ around c x
        pub not_t : around c x ≢ t2
        pub not_f : around c x ≢ f
        pub not_r : around c x ≢ f + 1

      pub around2_of : (x : ℕ) → 0 < x → merge.Was c cuts joins pend col g f m x → Around2 x
      around2_of x p w =
          let k = cut_of x p w.trace in
          elim (merge.part c cuts joins pend col g f m (slice_index c.parents x) (par x p w.trace.low)) [
            | merge.moved q v ↦ absurd (elim q [
              | inl z ↦ (m.no_fork (left_column_of x)).0 (record { low = k.fork.low; left = k.fork.left; unjoined = k.fork.unjoined; outside = k.fork.outside ∙ z })
              | inr z ↦ (m.no_fork (left_column_of x)).1 (record { low = k.fork.low; left = k.fork.left; unjoined = k.fork.unjoined; outside = k.fork.outside ∙ z })
            ])
            | merge.stays a b v ↦ record {
              same = v;
              not_t = λ e. (
                  let P : ℕ → Type 0 = λ y. IsCut c cuts joins y (left_column_of x) in
                  let q : left_column_of x ≡ f = g.one_cut t2 (left_column_of x) f (subst P e k) (merge.cut_f c cuts joins pend col g f m) in
                  elim (left_of_cases x p) [ inl z ↦ w.not_f (z ∙ q) | inr z ↦ w.not_r (z ∙ ap (λ y. y + 1) q) ]);
              not_f = a;
              not_r = b;
            }
          ]

      up_same : (x : ℕ) → x ≢ f → x ≢ f + 1 → up d2 x ≡ up c x
      up_same x a b = elim (cases_eq x t2) [
        | inl e ↦ ap (up d2) e ∙ ap up_in (merge.trace_t c cuts joins pend col g f m) ∙ sym (ap (up c) e)
        | inr n ↦ ap up_in (merge.trace_other c cuts joins pend col g f m x n a b)
      ]

      pub ups_merge : Ups d2 cuts (f ∷ joins) pend col
      ups_merge = record {
        no_up = up_same 0 (λ q. omega (arith, q, merge.pos c cuts joins pend col g f m)) (λ q. omega (arith, q)) ∙ ups.no_up;
        up_some = λ x b p n pb o. (
            let w = merge.was c cuts joins pend col g f m x n in
            let a = around2_of x p w in
            up_same x w.not_f w.not_r ∙ ups.up_some x b p w.trace pb (merge.owned_old c cuts joins pend col g f m (around c x) b pb (o ∙ a.same)) ∙ ap Some (sym a.same));
        up_none = λ x p n none. (
            let w = merge.was c cuts joins pend col g f m x n in
            let a = around2_of x p w in
            up_same x w.not_f w.not_r ∙ ups.up_none x p w.trace (λ b pb o. none b pb (merge.owned_new c cuts joins pend col g f m (around c x) b pb o ∙ sym a.same))
            ∙ sym (ap (up d2) a.same ∙ up_same (around c x) a.not_f a.not_r));
      }

    module _ (word i : ℕ) (a : Active c cuts joins i) (free : word ≡ 0 → (b : ℕ) → pend b ≡ true → gap c (col b) ≡ gap c i → ⊥) (taken : word ≢ 0 → (b : ℕ) × (pend b ≡ true) × (gap c (col b) ≡ gap c i)) where
      abbrev d3 : ColumnTable
      d3 = forked word i c

      pub ups_fork : Ups d3 cuts joins pend col
      ups_fork = record {
        no_up = ap up_in (fork.trace_old c cuts joins pend col g word i a free taken 0 (let p : i < used c = a.low in omega arith)) ∙ ups.no_up;
        up_some = λ x b p n pb o. (
            let w = fork.was_trace c cuts joins pend col g word i a free taken x n in
            let s = fork.around_old c cuts joins pend col g word i a free taken x p w.low in
            ap up_in (fork.trace_old c cuts joins pend col g word i a free taken x w.low) ∙ ups.up_some x b p w pb (sym (fork.own_col c cuts joins pend col g word i a free taken b pb) ∙ o ∙ s) ∙ ap Some (sym s));
        up_none = λ x p n none. (
            let w = fork.was_trace c cuts joins pend col g word i a free taken x n in
            let s = fork.around_old c cuts joins pend col g word i a free taken x p w.low in
            let low : around c x < x = around_low x p w.low in
            ap up_in (fork.trace_old c cuts joins pend col g word i a free taken x w.low) ∙ ups.up_none x p w (λ b pb o. none b pb (fork.own_col c cuts joins pend col g word i a free taken b pb ∙ o ∙ sym s))
            ∙ sym (ap (up d3) s ∙ ap up_in (fork.trace_old c cuts joins pend col g word i a free taken (around c x) (omega (arith, low, w.low)))));
      }
