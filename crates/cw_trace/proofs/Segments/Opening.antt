-- What stands at the start: the root's column alone, and no word set.
use Rattle.std.proofs.Common.{◌≡◌, ℕ, zero, suc, ◌<◌, ◌≤◌, List, [], ◌∷◌, length, refl, ap, sym, ◌∙◌, arith, Bool, true, false, Some, nat_eq, inl, inr, subst, eqb-true}
use Rattle.std.specs.Prelude.{◌⊎◌, ◌%◌, ◌||◌, slice_index}
use Rattle.std.proofs.lemmas.Bool.{or_cases}
use Rattle.cw_tree.specs.declared.node.Node.{Node}
use Rattle.cw_tree.specs.declared.node.Kind.TheVariants.{Strand}
use Rattle.cw_tree.specs.Nodes.{is_fork, is_pending, fresh_node}
use Rattle.cw_trace.specs.Columns.{ColumnTable, used, gap, first_tier, opening_mark, closing_mark, stands_before, is_trace, outer, before_split}
use Rattle.cw_trace.specs.Stands.{column, Descends, child, further, names_trace}
use Rattle.cw_trace.specs.Segments.{IsOpen, IsTrace, Segments, next_outward}
use Rattle.cw_trace.specs.Keeps.{Keeps, Nesting}

abbrev root_alone : List Node
root_alone = fresh_node 0 Strand 0 ∷ []

no_fork : (f : ℕ) → is_fork root_alone f ≡ true → ⊥
no_fork zero e = cc e
no_fork (suc f) e = cc e

no_pending : (b : ℕ) → is_pending root_alone b ≡ true → ⊥
no_pending zero e = cc e
no_pending (suc b) e = cc e

module _ (room : ℕ) where
  abbrev c : ColumnTable
  c = first_tier room

  no_open : (x s : ℕ) → IsOpen c [] x s → ⊥
  no_open x s o = by_number s o.low o.left where
    by_number : (s : ℕ) → s < 1 → s % 2 ≡ 1 → ⊥
    by_number s h e = omega arith

  is_root : (x : ℕ) → IsTrace c [] [] x → x ≡ 0
  is_root x n = (let h : x < 1 = n.low in omega arith)

  no_more : (i : ℕ) → 0 < i → i < used c → ⊥
  no_more i p h = by_number i p h where
    by_number : (i : ℕ) → 0 < i → i < 1 → ⊥
    by_number i p h = omega arith

  segments_first : (pend : ℕ → Bool) (col : ℕ → ℕ) → ((b : ℕ) → pend b ≡ true → ⊥) → Segments c [] [] pend col
  segments_first pend col none = record {
    odd = refl;
    lengths = (refl, refl, refl);
    rooted = λ i p h. absurd (no_more i p h);
    pairs = λ s o h. absurd (no_open 0 s (record { low = h; left = o; unjoined = refl; outside = absurd (no_odd s o h) }));
    cut_left = λ g e. absurd (cc e);
    join_left = λ g e. absurd (cc e);
    unjoined_above = λ s h o u p. absurd (no_odd s o h);
    root = refl;
    together = λ i p h e. absurd (no_more i p h);
    apart = λ i p h e. absurd (no_more i p h);
    gap_root = refl;
    gap_step = λ i p h. absurd (no_more i p h);
    right_gap = λ s o h u. absurd (no_odd s o h);
    right_new = λ s i o h k u e. absurd (no_odd s o h);
    heads = λ t n. (let P : ℕ → Type 0 = λ x. Rattle.cw_trace.specs.Columns.head c x ≡ gap c x in subst P (sym (is_root t n)) refl);
    lead_live = λ t n l. (let P : ℕ → Type 0 = λ x. Rattle.cw_trace.specs.Columns.lead c x ≡ Some (gap c x) in subst P (sym (is_root t n)) refl);
    lead_lent = λ t g n w e. absurd (no_open t g w.fork);
    nested = λ t s i n st h lt e. absurd (no_more i (omega arith) h);
    one_cut = λ t f g w v. absurd (no_open t f w.fork);
    cut_last = λ t g i w h e. absurd (no_open t g w.fork);
    taken_back = λ t g s w o n. absurd (no_open t g w.fork);
    there = λ b p. absurd (none b p);
    gap_owned = λ t s b n st l p e. absurd (none b p);
    gap_first = λ t s b n st l w. absurd (none b w.pending);
    shared = λ t s r b n st sr lt e w k. none b w.pending;
    parted = λ t s r n st sr lt ne. absurd (elim sr [ inl q ↦ (let z = is_root t n in omega (arith, q)) | inr o ↦ no_open t r o ]);
    one_trace = λ t u s r n k st sr l h e. is_root t n ∙ sym (is_root u k);
  } where
    no_odd : (s : ℕ) → s % 2 ≡ 1 → s < used c → ⊥
    no_odd s o h = by_number s o h where
      by_number : (s : ℕ) → s % 2 ≡ 1 → s < 1 → ⊥
      by_number s o h = omega arith

  nesting_first : Nesting c [] []
  nesting_first = record {
    distinct = (refl, (refl, tt));
    marks = λ b e. (0, record { low = omega arith; named = refl }, by_mark b (or_cases (nat_eq 0 b) (nat_eq 1 b || false) e));
    closes = λ x n. (let P : ℕ → Type 0 = λ y. stands_before c.brackets (opening_mark y) (closing_mark y) ≡ true in subst P (sym (is_root x n)) refl);
    descends = λ x y n k e. absurd (by_inside x y (is_root x n) (is_root y k) e);
    within = λ x y n k w. absurd (by_descent x y (is_root y k) w);
  } where
    by_mark : (b : ℕ) → (nat_eq 0 b ≡ true) ⊎ ((nat_eq 1 b || false) ≡ true) → (b ≡ opening_mark 0) ⊎ (b ≡ closing_mark 0)
    by_mark b (inl e) = inl (sym (eqb-true 0 b e))
    by_mark b (inr e) = elim (or_cases (nat_eq 1 b) false e) [ inl q ↦ inr (sym (eqb-true 1 b q)) | inr q ↦ absurd (cc q) ]

    by_inside : (x y : ℕ) → x ≡ 0 → y ≡ 0 → Rattle.cw_trace.specs.Columns.inside c y x ≡ true → ⊥
    by_inside x y p q e = let z : Rattle.cw_trace.specs.Columns.inside c 0 0 ≡ true = ap (λ v. Rattle.cw_trace.specs.Columns.inside c v 0) (sym q) ∙ ap (λ v. Rattle.cw_trace.specs.Columns.inside c y v) (sym p) ∙ e in cc z

    by_descent : (x y : ℕ) → y ≡ 0 → Descends c x y → ⊥
    by_descent x y q (child p e) = omega (arith, q)
    by_descent x y q (further p w) = omega (arith, q)

  -- the relation holds of the root strand alone
  pub keeps_first : (words : List ℕ) → 0 < room → room ≤ length words → ((g : ℕ) → slice_index words g ≡ 0) → Keeps c words root_alone [] []
  keeps_first words some fits zeros = record {
    segments = segments_first (is_pending root_alone) (column root_alone 1) no_pending;
    ups = record { no_up = refl; up_some = λ x b p n pb e. absurd (no_pending b pb); up_none = λ x p n none. absurd (let z = is_root x n in omega (arith, z)) };
    nesting = nesting_first;
    outside = record {
      same_length = refl;
      named = λ i h. (let P : ℕ → Type 0 = λ x. is_trace c x ≡ names_trace [] [] x in subst P (sym (zero_of i h)) refl);
      left = λ s o h e. absurd (cc (sym (ap (outer c) (zero_of s h)) ∙ e));
      step = λ s o h q e. absurd (no_open 0 s (record { low = h; left = q; unjoined = refl; outside = absurd (cc (sym (ap (outer c) (zero_of s h)) ∙ e)) }));
      next = λ s h q u. (let P : ℕ → Type 0 = λ x. before_split c x ≡ next_outward c [] x in subst P (sym (zero_of s h)) refl);
    };
    room = (some, fits);
    forks = λ f e. absurd (no_fork f e);
    all_forks = λ h. refl;
    all_used = λ i h p. absurd (no_more i p h);
    forked_from = λ f e h. absurd (no_fork f e);
    words_are = λ g h. zeros g;
    spare_words = λ g h. zeros g;
    contains = λ b n h i p o s. absurd (no_pending b p);
    lines = λ b f p e h u o. absurd (no_pending b p);
  } where
    zero_of : (i : ℕ) → i < used c → i ≡ 0
    zero_of i h = by_number i h where
      by_number : (i : ℕ) → i < 1 → i ≡ 0
      by_number i h = omega arith
