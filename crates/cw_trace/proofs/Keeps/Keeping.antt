-- What is kept by splits and merges, in which the tree stays.
use Rattle.std.proofs.Common.{◌≡◌, ◌≢◌, ℕ, ◌+◌, ◌<◌, ◌≤◌, List, ◌∷◌, length, refl, ap, sym, ◌∙◌, arith, Bool, true, false, None, nat_eq, inl, inr, subst}
use Rattle.std.specs.Prelude.{◌⊎◌, ◌%◌}
use Rattle.cw_tree.specs.declared.node.Node.{Node}
use Rattle.cw_tree.specs.Nodes.{stamp_of, is_fork, is_pending}
use Rattle.cw_tree.specs.Walks.{is_ancestor, has}
use Rattle.cw_tree.specs.Shape.{IsTree}
use Rattle.cw_tree.proofs.Walks.Ancestors.{ancestor_trans}
use Rattle.cw_trace.specs.Columns.{ColumnTable, used, owner, gap, left_column_of, split_at, merged}
use Rattle.cw_trace.specs.Stands.{column, fork_column, stamp_or_0, around}
use Rattle.cw_trace.specs.Segments.{Segments, MaySplit, MayMerge, next_outward}
use Rattle.cw_trace.specs.Keeps.{KeepsAt, Keeps}
use Rattle.cw_trace.proofs.Keeps.Owners.{head_of}
use Rattle.cw_trace.proofs.Segments.Lines.{left_of_odd, left_of_next, used_some}
use Rattle.cw_trace.proofs.Stands.UpsKept.{ups_split, ups_merge}
use Rattle.cw_trace.proofs.Outward.Kept.{forks_split, forks_merge}
use Rattle.cw_trace.proofs.Segments.Nested.{nesting_split, nesting_merge}
use Rattle.cw_trace.proofs.Keeps.Meaning.{column_low, outermost_agrees, stands_of}
use Rattle.cw_trace.proofs.Segments.Split as split
use Rattle.cw_trace.proofs.Segments.Merge as merge

module _ (c : ColumnTable) (words : List ℕ) (t : List Node) (cuts joins : List ℕ) (k : Keeps c words t cuts joins) where
  abbrev col : ℕ → ℕ
  col = column t (used c)

  abbrev pend : ℕ → Bool
  pend = is_pending t

  abbrev g : Segments c cuts joins pend col
  g = k.segments

  low : (n : ℕ) → col n < used c
  low n = column_low t (used c) n (used_some c cuts joins pend col g)

  module _ (f : ℕ) (m : MaySplit c cuts joins pend col f) (early : next_outward c cuts f ≡ None) where
    abbrev d : ColumnTable
    d = split_at f c

    -- who has the owner of a pending block's column after the split had it before
    owner_before : (b n : ℕ) → pend b ≡ true → owner d (col b) ≡ owner d (col n) → owner c (col b) ≡ owner c (col n)
    owner_before b n p e = by_both (split.part c cuts joins pend col g f m early (col b) (low b)) (split.part c cuts joins pend col g f m early (col n) (low n)) where
      by_both : split.Part c cuts joins pend col g f m early (col b) → split.Part c cuts joins pend col g f m early (col n) → owner c (col b) ≡ owner c (col n)
      by_both (split.right q w) y = absurd (m.no_block b p q)
      by_both (split.left x q l w) (split.right z v) = absurd (omega (arith, w, e, v))
      by_both (split.left x q l w) (split.left z y r v) = q ∙ sym y
      by_both (split.left x q l w) (split.rest z v y) = absurd (split.no_trace c cuts joins pend col g f m early (owner c (col n)) (col n) (sym v ∙ sym e ∙ w) (low n) refl)
      by_both (split.rest x w l) (split.right z v) = absurd (split.no_right_trace c cuts joins pend col g f m early (owner c (col b)) (col b) (sym w ∙ e ∙ v) (low b) refl)
      by_both (split.rest x w l) (split.left z y r v) = absurd (split.no_trace c cuts joins pend col g f m early (owner c (col b)) (col b) (sym w ∙ e ∙ v) (low b) refl)
      by_both (split.rest x w l) (split.rest z v y) = sym w ∙ e ∙ v

    split_at_size : KeepsAt (used c) d words t (f ∷ cuts) joins
    split_at_size = record {
      segments = split.segments_split c cuts joins pend col g f m early;
      ups = ups_split c cuts joins pend col g k.ups f m early;
      outside = forks_split c cuts joins pend col g k.outside f m early;
      nesting = nesting_split c cuts joins pend col g k.nesting f m early k.ups;
      room = k.room;
      forks = k.forks;
      all_forks = k.all_forks;
      all_used = k.all_used;
      forked_from = k.forked_from;
      words_are = λ x h. k.words_are x h ∙ ap (stamp_or_0 t) (outermost_agrees t (used c) (λ i. nat_eq (gap c i) x) (λ i. nat_eq (gap d i) x) (λ b p. ap (λ y. nat_eq y x) (sym (split.gap_col c cuts joins pend col g f m early b p))));
      spare_words = k.spare_words;
      contains = λ b n h i p o s. k.contains b n h i p (owner_before b n p o) s;
      lines = λ b x p e h u o. k.lines b x p e h u (owner_before b x p o);
    }

    pub keeps_split : Keeps d words t (f ∷ cuts) joins
    keeps_split = let P : ℕ → Type 0 = λ n. KeepsAt n d words t (f ∷ cuts) joins in subst P (sym (split.used_same c cuts joins pend col g f m early)) split_at_size

  module _ (tr : IsTree t) (f : ℕ) (m : MayMerge c cuts joins pend col f) where
    abbrev d2 : ColumnTable
    d2 = merged f c

    -- what the two traces did stands beneath each pending block of the trace that they go back to
    beneath : (b n : ℕ) → b < length t → n < length t → pend b ≡ true → owner c (col b) ≡ around c f → (owner c (col n) ≡ f) ⊎ (owner c (col n) ≡ f + 1) → is_ancestor t b n ≡ true
    beneath b n hb hn p o e =
        let st = stands_of c words t cuts joins k in
        let pos : 0 < f = merge.pos c cuts joins pend col g f m in
        let left : left_column_of (owner c (col n)) ≡ f = elim e [ inl q ↦ ap left_column_of q ∙ left_of_odd f m.left | inr q ↦ ap left_column_of q ∙ left_of_next f m.left ] in
        let some : 0 < owner c (col n) = elim e [ inl q ↦ omega (arith, q, pos) | inr q ↦ omega (arith, q) ] in
        let w = head_of c words t cuts joins tr st n hn some in
        let h = w.1 in
        let same : fork_column t w.0 ≡ f = h.column_is ∙ left in
        let un : has joins (fork_column t w.0) ≡ false = ap (has joins) same ∙ m.unjoined in
        let around_is : owner c (col b) ≡ owner c (col w.0) = o ∙ ap (around c) (sym same) ∙ ap (owner c) (k.forked_from w.0 h.fork h.paired) in
        elim (k.lines b w.0 p h.fork h.paired un around_is) [
          | inl y ↦ ancestor_trans t tr.rooted b w.0 n hn y h.above
          | inr y ↦ absurd (let l : col b < f = g.cut_last (around c f) f (col b) (merge.cut_f c cuts joins pend col g f m) (low b) o in omega (arith, same))
        ]

    merged_at_size : KeepsAt (used c) d2 words t cuts (f ∷ joins)
    merged_at_size = record {
      segments = merge.segments_merge c cuts joins pend col g f m;
      ups = ups_merge c cuts joins pend col g k.ups f m;
      outside = forks_merge c cuts joins pend col g k.outside f m;
      nesting = nesting_merge c cuts joins pend col g k.nesting f m k.ups;
      room = k.room;
      forks = k.forks;
      all_forks = k.all_forks;
      all_used = k.all_used;
      forked_from = k.forked_from;
      words_are = k.words_are;
      spare_words = k.spare_words;
      contains = λ b n h i p o s. contains_new b n h i p o s (merge.part c cuts joins pend col g f m (col n) (low n));
      lines = λ b x p e h u o. lines_new b x p e h (merge.unjoined2 c cuts joins pend col g f m (fork_column t x) u) o (merge.part c cuts joins pend col g f m (col x) (low x));
    } where
      contains_new : (b n : ℕ) → b < length t → n < length t → pend b ≡ true → owner d2 (col b) ≡ owner d2 (col n) → stamp_of t b < stamp_of t n → merge.Part c cuts joins pend col g f m (col n) → is_ancestor t b n ≡ true
      contains_new b n h i p o s (merge.moved q w) = beneath b n h i p (merge.owned_old c cuts joins pend col g f m (around c f) b p (o ∙ w)) q
      contains_new b n h i p o s (merge.stays a e w) = k.contains b n h i p (merge.owned_old c cuts joins pend col g f m (owner c (col n)) b p (o ∙ w)) s

      lines_new : (b x : ℕ) → pend b ≡ true → is_fork t x ≡ true → fork_column t x + 1 < used c → (fork_column t x ≢ f) × (has joins (fork_column t x) ≡ false) → owner d2 (col b) ≡ owner d2 (col x)
          → merge.Part c cuts joins pend col g f m (col x) → (is_ancestor t b x ≡ true) ⊎ (fork_column t x ≤ col b)
      lines_new b x p e h u o (merge.stays a v w) = k.lines b x p e h u.1 (merge.owned_old c cuts joins pend col g f m (owner c (col x)) b p (o ∙ w))
      lines_new b x p e h u o (merge.moved q w) =
          let from = k.forked_from x e h in
          absurd (elim q [
            | inl z ↦ (m.no_fork (fork_column t x)).0 (record { low = omega arith; left = odd_fork x; unjoined = u.1; outside = ap (owner c) from ∙ z })
            | inr z ↦ (m.no_fork (fork_column t x)).1 (record { low = omega arith; left = odd_fork x; unjoined = u.1; outside = ap (owner c) from ∙ z })
          ]) where
            odd_fork : (f : ℕ) → fork_column t f % 2 ≡ 1
            odd_fork f = Rattle.cw_trace.proofs.Keeps.Meaning.odd_column t f

    pub keeps_merge : Keeps d2 words t cuts (f ∷ joins)
    keeps_merge = let P : ℕ → Type 0 = λ n. KeepsAt n d2 words t cuts (f ∷ joins) in subst P (sym (merge.used_same c cuts joins pend col g f m)) merged_at_size
