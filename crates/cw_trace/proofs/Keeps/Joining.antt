-- What is kept by the join of a fork that was not split, and what stands at the start.
use Rattle.std.proofs.Common.{◌≡◌, ◌≢◌, ℕ, ◌<◌, List, ◌∷◌, ap, sym, ◌∙◌, arith, Bool, true, false, nat_eq, inl, inr, eqb-true}
use Rattle.std.specs.Prelude.{◌⊎◌, ◌%◌, ◌&&◌, ◌||◌, not, slice_index}
use Rattle.std.proofs.lemmas.Bool.{or_cases, cases_Bool}
use Rattle.cw_tree.specs.declared.node.Node.{Node}
use Rattle.cw_tree.specs.Nodes.{is_pending}
use Rattle.cw_trace.specs.Columns.{ColumnTable, used, left_column_of}
use Rattle.cw_tree.specs.Walks.{has}
use Rattle.cw_trace.specs.Stands.{column, fork_column, is_apart}
use Rattle.cw_trace.specs.Segments.{IsOpen, SegmentStart, IsCut, IsTrace, IsLive, Segments}
use Rattle.cw_trace.specs.Keeps.{Keeps}
use Rattle.cw_trace.proofs.Marks.Edits.{has_cons_same, has_cons_other}

-- a fork that was not split is joined: both its strands have finished, and no fork in them is unjoined
pub record MayJoin (c : ColumnTable) (cuts joins : List ℕ) (f : ℕ) : Type 0 where
  pub low : f < used c
  pub left : f % 2 ≡ 1
  pub uncut : has cuts f ≡ false
  pub no_fork : (s : ℕ) → s < used c → s % 2 ≡ 1 → has joins s ≡ false → 0 < slice_index c.parents s → left_column_of (slice_index c.parents s) ≡ f → ⊥

module _ (c : ColumnTable) (cuts joins : List ℕ) (f : ℕ) (m : MayJoin c cuts joins f) where
  abbrev joins2 : List ℕ
  joins2 = f ∷ joins

  pub unjoined : (s : ℕ) → has joins2 s ≡ false → (s ≢ f) × (has joins s ≡ false)
  unjoined s u =
      let n : s ≢ f = λ q. cc (ap (has joins2) q, has_cons_same joins f, u) in
      (n, sym (has_cons_other joins f s n) ∙ u)

  open_old : (x s : ℕ) → IsOpen c joins2 x s → IsOpen c joins x s
  open_old x s o = record { low = o.low; left = o.left; unjoined = (unjoined s o.unjoined).1; outside = o.outside }

  start_old : (x s : ℕ) → SegmentStart c joins2 x s → SegmentStart c joins x s
  start_old x s (inl e) = inl e
  start_old x s (inr o) = inr (open_old x s o)

  cut_old : (x k : ℕ) → IsCut c cuts joins2 x k → IsCut c cuts joins x k
  cut_old x k w = record { fork = open_old x k w.fork; cut = w.cut }

  cut_new : (x k : ℕ) → IsCut c cuts joins x k → IsCut c cuts joins2 x k
  cut_new x k w = record {
    fork = record { low = w.fork.low; left = w.fork.left; unjoined = has_cons_other joins f k (λ q. cc (sym (ap (has cuts) q) ∙ w.cut, m.uncut)) ∙ w.fork.unjoined; outside = w.fork.outside };
    cut = w.cut;
  }

  live_old : (x s : ℕ) → IsLive c cuts joins2 x s → IsLive c cuts joins x s
  live_old x s l = λ k w e. l k (cut_new x k w) e

  -- the join of a fork that was not split takes no trace away
  pub apart_same : (i : ℕ) → is_apart cuts joins2 i ≡ is_apart cuts joins i
  apart_same i = by_cut (cases_Bool (has cuts (left_column_of i))) where
    by_cut : (has cuts (left_column_of i) ≡ true) ⊎ (has cuts (left_column_of i) ≡ false) → is_apart cuts joins2 i ≡ is_apart cuts joins i
    by_cut (inl e) = ap (λ b. has cuts (left_column_of i) && not b) (has_cons_other joins f (left_column_of i) (λ q. cc (sym (ap (has cuts) q) ∙ e, m.uncut)))
    by_cut (inr e) = ap (λ b. b && not (has joins2 (left_column_of i))) e ∙ sym (ap (λ b. b && not (has joins (left_column_of i))) e)

  trace_old : (x : ℕ) → IsTrace c cuts joins2 x → IsTrace c cuts joins x
  trace_old x n = record { low = n.low; named = ap (λ b. nat_eq x 0 || b) (sym (apart_same x)) ∙ n.named }

  trace_new : (x : ℕ) → IsTrace c cuts joins x → IsTrace c cuts joins2 x
  trace_new x n = record { low = n.low; named = ap (λ b. nat_eq x 0 || b) (apart_same x) ∙ n.named }

  module _ (pend : ℕ → Bool) (col : ℕ → ℕ) (g : Segments c cuts joins pend col) where
    pub segments_join : Segments c cuts joins2 pend col
    segments_join = record {
      odd = g.odd;
      lengths = g.lengths;
      rooted = g.rooted;
      pairs = g.pairs;
      cut_left = g.cut_left;
      join_left = λ k e. elim (or_cases (nat_eq f k) (has joins k) e) [
        | inl q ↦ (let z : f ≡ k = eqb-true _ _ q in (ap (λ n. n % 2) (sym z) ∙ m.left, omega (arith, z, m.low)))
        | inr q ↦ g.join_left k q
      ];
      unjoined_above = λ s h o u p. (let z = unjoined s u in has_cons_other joins f (left_column_of (slice_index c.parents s)) (λ q. m.no_fork s h o z.1 p q) ∙ g.unjoined_above s h o z.1 p);
      root = g.root;
      together = λ i p h e. g.together i p h (sym (apart_same i) ∙ e);
      apart = λ i p h e. g.apart i p h (sym (apart_same i) ∙ e);
      gap_root = g.gap_root;
      gap_step = g.gap_step;
      right_gap = g.right_gap;
      right_new = g.right_new;
      heads = λ x n. g.heads x (trace_old x n);
      lead_live = λ x n l. g.lead_live x (trace_old x n) (live_old x x l);
      lead_lent = λ x k n w e. g.lead_lent x k (trace_old x n) (cut_old x k w) e;
      nested = λ x s i n st h lt e. g.nested x s i (trace_old x n) (start_old x s st) h lt e;
      one_cut = λ x k j w v. g.one_cut x k j (cut_old x k w) (cut_old x j v);
      cut_last = λ x k i w h e. g.cut_last x k i (cut_old x k w) h e;
      taken_back = λ x k s w o n. g.taken_back x k s (cut_old x k w) (open_old x s o) n;
      there = g.there;
      gap_owned = λ x s b n st l p e. g.gap_owned x s b (trace_old x n) (start_old x s st) (live_old x s l) p e;
      gap_first = λ x s b n st l w. g.gap_first x s b (trace_old x n) (start_old x s st) (live_old x s l) w;
      shared = λ x s r b n st sr lt e w h. g.shared x s r b (trace_old x n) (start_old x s st) (start_old x r sr) lt e w h;
      parted = λ x s r n st sr lt ne. g.parted x s r (trace_old x n) (start_old x s st) (start_old x r sr) lt ne;
      one_trace = λ x y s r n k st sr l h e. g.one_trace x y s r (trace_old x n) (trace_old y k) (start_old x s st) (start_old y r sr) (live_old x s l) (live_old y r h) e;
    }

module _ (c : ColumnTable) (words : List ℕ) (t : List Node) (cuts joins : List ℕ) (k : Keeps c words t cuts joins) (f : ℕ) (m : MayJoin c cuts joins f) where
  -- the tier stays as it is
  pub keeps_join : Keeps c words t cuts (f ∷ joins)
  keeps_join = record {
    segments = segments_join c cuts joins f m (is_pending t) (column t (used c)) k.segments;
    ups = record {
      no_up = k.ups.no_up;
      up_some = λ x b p n pb e. k.ups.up_some x b p (trace_old c cuts joins f m x n) pb e;
      up_none = λ x p n none. k.ups.up_none x p (trace_old c cuts joins f m x n) none;
    };
    nesting = record {
      distinct = k.nesting.distinct;
      marks = λ b h. (let z = k.nesting.marks b h in (z.0, trace_new c cuts joins f m z.0 z.1, z.2));
      closes = λ x n. k.nesting.closes x (trace_old c cuts joins f m x n);
      descends = λ x y n i e. k.nesting.descends x y (trace_old c cuts joins f m x n) (trace_old c cuts joins f m y i) e;
      within = λ x y n i e. k.nesting.within x y (trace_old c cuts joins f m x n) (trace_old c cuts joins f m y i) e;
    };
    outside = record {
      same_length = k.outside.same_length;
      named = λ i h. k.outside.named i h ∙ ap (λ b. nat_eq i 0 || b) (sym (apart_same c cuts joins f m i));
      left = k.outside.left;
      step = k.outside.step;
      next = λ s h o u. k.outside.next s h o (unjoined c cuts joins f m s u).1;
    };
    room = k.room;
    forks = k.forks;
    all_forks = k.all_forks;
    all_used = k.all_used;
    forked_from = k.forked_from;
    words_are = k.words_are;
    spare_words = k.spare_words;
    contains = k.contains;
    lines = λ b x p e h u o. k.lines b x p e h (unjoined c cuts joins f m (fork_column t x) u).1 o;
  }
