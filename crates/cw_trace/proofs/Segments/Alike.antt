-- The division into segments and the ups speak of pending blocks' columns alone.
use Rattle.std.proofs.Common.{◌≡◌, ℕ, ◌<◌, List, ap, sym, ◌∙◌, arith, Bool, true, ◌≤◌}
use Rattle.cw_trace.specs.Columns.{ColumnTable, owner, gap, used}
use Rattle.cw_trace.specs.Segments.{Within, Segments, Ups, IsTrace, IsLive, SegmentStart}

module _ (c : ColumnTable) (cuts joins : List ℕ) where
  -- what the division says of pending blocks and gaps
  pub record OfPending (pend : ℕ → Bool) (col : ℕ → ℕ) : Type 0 where
    pub there : (b : ℕ) → pend b ≡ true → col b < used c
    pub gap_owned : (t s b : ℕ) → IsTrace c cuts joins t → SegmentStart c joins t s → IsLive c cuts joins t s → pend b ≡ true → gap c (col b) ≡ gap c s → (owner c (col b) ≡ t) × (s ≤ col b)
    pub gap_first : (t s b : ℕ) → IsTrace c cuts joins t → SegmentStart c joins t s → IsLive c cuts joins t s → Within c pend col t s b → (a : ℕ) × (a ≤ b) × (pend a ≡ true) × (gap c (col a) ≡ gap c s)
    pub shared : (t s r b : ℕ) → IsTrace c cuts joins t → SegmentStart c joins t s → SegmentStart c joins t r → s < r → gap c s ≡ gap c r → Within c pend col t s b → col b < r → ⊥
    pub parted : (t s r : ℕ) → IsTrace c cuts joins t → SegmentStart c joins t s → SegmentStart c joins t r → s < r → (gap c s ≡ gap c r → ⊥) → (b : ℕ) × (col b < r) × Within c pend col t s b

  -- so all else stays where other blocks are pending, or in other columns
  pub segments_with : (pend : ℕ → Bool) (col : ℕ → ℕ) (pend2 : ℕ → Bool) (col2 : ℕ → ℕ) → Segments c cuts joins pend col → OfPending pend2 col2 → Segments c cuts joins pend2 col2
  segments_with pend col pend2 col2 g of = record {
    odd = g.odd;
    lengths = g.lengths;
    rooted = g.rooted;
    pairs = g.pairs;
    cut_left = g.cut_left;
    join_left = g.join_left;
    unjoined_above = g.unjoined_above;
    root = g.root;
    together = g.together;
    apart = g.apart;
    gap_root = g.gap_root;
    gap_step = g.gap_step;
    right_gap = g.right_gap;
    right_new = g.right_new;
    heads = g.heads;
    lead_live = g.lead_live;
    lead_lent = g.lead_lent;
    nested = g.nested;
    one_cut = g.one_cut;
    cut_last = g.cut_last;
    taken_back = g.taken_back;
    there = of.there;
    gap_owned = of.gap_owned;
    gap_first = of.gap_first;
    shared = of.shared;
    parted = of.parted;
    one_trace = g.one_trace;
  }

-- the same blocks are pending, in the same columns
pub record SamePending (pend : ℕ → Bool) (col : ℕ → ℕ) (pend2 : ℕ → Bool) (col2 : ℕ → ℕ) : Type 0 where
  pub back : (b : ℕ) → pend2 b ≡ true → (pend b ≡ true) × (col2 b ≡ col b)
  pub forth : (b : ℕ) → pend b ≡ true → (pend2 b ≡ true) × (col2 b ≡ col b)

module _ (c : ColumnTable) (cuts joins : List ℕ) (pend : ℕ → Bool) (col : ℕ → ℕ) (pend2 : ℕ → Bool) (col2 : ℕ → ℕ) (same : SamePending pend col pend2 col2) where
  within_back : (t s b : ℕ) → Within c pend2 col2 t s b → Within c pend col t s b
  within_back t s b w = let z = same.back b w.pending in record { pending = z.0; owned = sym (ap (owner c) z.1) ∙ w.owned; after = omega (arith, z.1, w.after) }

  within_forth : (t s b : ℕ) → Within c pend col t s b → Within c pend2 col2 t s b
  within_forth t s b w = let z = same.forth b w.pending in record { pending = z.0; owned = ap (owner c) z.1 ∙ w.owned; after = omega (arith, z.1, w.after) }

  pub segments_alike : Segments c cuts joins pend col → Segments c cuts joins pend2 col2
  segments_alike g = segments_with c cuts joins pend col pend2 col2 g (record {
    there = λ b p. (let z = same.back b p in omega (arith, z.1, g.there b z.0));
    gap_owned = λ t s b n st l p e. (let z = same.back b p in let w = g.gap_owned t s b n st l z.0 (sym (ap (gap c) z.1) ∙ e) in (ap (owner c) z.1 ∙ w.0, omega (arith, z.1, w.1)));
    gap_first = λ t s b n st l w. (let z = g.gap_first t s b n st l (within_back t s b w) in let y = same.forth z.0 z.2 in (z.0, z.1, y.0, ap (gap c) y.1 ∙ z.3));
    shared = λ t s r b n st sr lt e w k. (let z = same.back b w.pending in g.shared t s r b n st sr lt e (within_back t s b w) (omega (arith, z.1)));
    parted = λ t s r n st sr lt ne. (let z = g.parted t s r n st sr lt ne in let w = z.2 in let y = same.forth z.0 w.pending in let l : col z.0 < r = z.1 in (z.0, omega (arith, y.1), within_forth t s z.0 w));
  })

  pub ups_alike : Ups c cuts joins pend col → Ups c cuts joins pend2 col2
  ups_alike u = record {
    no_up = u.no_up;
    up_some = λ x b p n pb o. (let z = same.back b pb in u.up_some x b p n z.0 (sym (ap (owner c) z.1) ∙ o));
    up_none = λ x p n none. u.up_none x p n (λ b pb o. let z = same.forth b pb in none b z.0 (ap (owner c) z.1 ∙ o));
  }
