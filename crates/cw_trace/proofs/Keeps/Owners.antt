-- How owners change along a path of the tree.
use Rattle.std.proofs.Common.{◌≡◌, ℕ, zero, suc, ◌+◌, ◌*◌, ◌<◌, ◌≤◌, List, length, refl, ap, sym, ◌∙◌, arith, Bool, true, false, inl, inr, subst, nat_lt, nat_eq, eq-eqb}
use Rattle.std.specs.Prelude.{◌⊎◌, ◌&&◌, ◌||◌, not, if◌then◌else◌, slice_index}
use borrow.Author.Tests.{ltb-true}
use Rattle.std.proofs.lemmas.Bool.{lt-ltb}
use Rattle.cw_trace.proofs.Stands.Counting.{fork_column_one, pending_no_fork}
use Rattle.cw_tree.specs.declared.node.Node.{Node}
use Rattle.cw_tree.specs.Nodes.{parent_of, is_strand, is_fork, is_pending}
use Rattle.cw_tree.specs.Walks.{is_ancestor, has}
use Rattle.cw_tree.specs.Series.{strand_of}
use Rattle.cw_tree.specs.Names.{is_right}
use Rattle.cw_tree.specs.Shape.{IsTree}
use Rattle.cw_tree.proofs.Walks.Climbs.{by_parent}
use Rattle.cw_tree.proofs.Walks.Ancestors.{ancestor_up, ancestor_self, ancestor_trans, ancestor_root, ancestor_le}
use Rattle.cw_tree.proofs.Walks.Upward.{ancestor_cases}
use Rattle.cw_tree.proofs.Walks.Strands.{strand_of_strand, strand_of_other, strand_of_le, strand_of_root}
use Rattle.cw_trace.specs.Columns.{ColumnTable, used, owner, left_column_of}
use Rattle.cw_trace.specs.Stands.{Stands, column, column_in, fork_column, around, is_apart, Descends, child, further, names_trace, is_cut_at}

module _ (t : List Node) (tr : IsTree t) (size : ℕ) where
  -- enough levels are enough
  column_enough : (k j s : ℕ) → s < length t → s ≤ k → s ≤ j → column_in t size k s ≡ column_in t size j s
  column_enough zero zero s b h g = refl
  column_enough zero (suc j) zero b h g = refl
  column_enough zero (suc j) (suc s) b h g = absurd (omega arith)
  column_enough (suc k) zero zero b h g = refl
  column_enough (suc k) zero (suc s) b h g = absurd (omega arith)
  column_enough (suc k) (suc j) zero b h g = refl
  column_enough (suc k) (suc j) (suc s) b h g =
      let f : ℕ = parent_of t (suc s) in
      let low : f < suc s = tr.rooted (suc s) (omega arith) b in
      let le : strand_of t f ≤ f = strand_of_le t tr.rooted f (omega arith) in
      ap (λ x. if nat_lt (fork_column t f + 1) size then (if is_right t (suc s) then fork_column t f + 1 else fork_column t f) else x)
      (column_enough k j (strand_of t f) (omega arith) (omega arith) (omega arith))

  -- the column of a strand that a fork made
  pub column_strand : (s : ℕ) → 0 < s → s < length t → is_strand t s ≡ true
      → column t size s ≡ (if nat_lt (fork_column t (parent_of t s) + 1) size then (if is_right t s then fork_column t (parent_of t s) + 1 else fork_column t (parent_of t s)) else column t size (parent_of t s))
  column_strand zero p h e = absurd (omega arith)
  column_strand (suc s) p h e =
      let f : ℕ = parent_of t (suc s) in
      let low : f < suc s = tr.rooted (suc s) p h in
      let le : strand_of t f ≤ f = strand_of_le t tr.rooted f (omega arith) in
      ap (λ x. column_in t size x x) (strand_of_strand t tr.rooted (suc s) p h e)
      ∙ ap (λ x. if nat_lt (fork_column t f + 1) size then (if is_right t (suc s) then fork_column t f + 1 else fork_column t f) else x)
      (column_enough s (strand_of t f) (strand_of t f) (omega arith) (omega arith) (omega arith))

  pub column_other : (n : ℕ) → 0 < n → n < length t → is_strand t n ≡ false → column t size n ≡ column t size (parent_of t n)
  column_other n p h e = ap (λ x. column_in t size x x) (strand_of_other t tr.rooted n p h e)

module _ (c : ColumnTable) (words : List ℕ) (t : List Node) (cuts merges : List ℕ) (tr : IsTree t) (st : Stands c words t cuts merges) where
  abbrev pub own : ℕ → ℕ
  own n = owner c (column t (used c) n)

  -- the strand of a split fork heads a trace of its own
  pub record Heads (n : ℕ) : Type 0 where
    pub used_up : own n < used c
    pub paired : fork_column t (parent_of t n) + 1 < used c
    pub named : 0 < own n
    pub apart : is_apart cuts merges (own n) ≡ true
    pub fork : is_fork t (parent_of t n) ≡ true
    pub column_is : fork_column t (parent_of t n) ≡ left_column_of (own n)
    pub outside : around c (own n) ≡ own (parent_of t n)

  -- node n made by its parent's trace, or the head of a new one
  abbrev pub OwnStep : ℕ → Type 0
  OwnStep n = (own n ≡ own (parent_of t n)) ⊎ Heads n

  left_of_left : (k : ℕ) → left_column_of (2 * k + 1) ≡ 2 * k + 1
  left_of_left k = omega arith

  left_of_right : (k : ℕ) → left_column_of (2 * k + 1 + 1) ≡ 2 * k + 1
  left_of_right k = omega arith

  by_apart : (n i : ℕ) → 0 < n → n < length t → is_fork t (parent_of t n) ≡ true → fork_column t (parent_of t n) + 1 < used c → column t (used c) n ≡ i → 0 < i → i < used c → left_column_of i ≡ fork_column t (parent_of t n)
      → slice_index c.parents i ≡ column t (used c) (parent_of t n) → (b : Bool) → is_apart cuts merges i ≡ b → OwnStep n
  by_apart n i p h f z e q s l w false a = inl (ap (owner c) e ∙ st.together i q s (ap not a) ∙ ap (owner c) w)
  by_apart n i p h f z e q s l w true a =
      let o : own n ≡ i = ap (owner c) e ∙ st.apart i q s a in
      inr (record {
        used_up = omega (arith, o);
        paired = z;
        named = omega (arith, o);
        apart = ap (is_apart cuts merges) o ∙ a;
        fork = f;
        column_is = sym l ∙ sym (ap left_column_of o);
        outside = ap (around c) o ∙ ap (owner c) w;
      })

  by_side : (n : ℕ) → 0 < n → n < length t → is_fork t (parent_of t n) ≡ true → fork_column t (parent_of t n) + 1 < used c → (b : Bool)
      → column t (used c) n ≡ (if b then fork_column t (parent_of t n) + 1 else fork_column t (parent_of t n)) → OwnStep n
  by_side n p h f s true e =
      by_apart n (fork_column t (parent_of t n) + 1) p h f s e (omega arith) s (left_of_right _) (st.forked_from (parent_of t n) f s).1 (is_apart cuts merges (fork_column t (parent_of t n) + 1)) refl
  by_side n p h f s false e =
      by_apart n (fork_column t (parent_of t n)) p h f s e (omega arith) (omega arith) (left_of_left _) (st.forked_from (parent_of t n) f s).0 (is_apart cuts merges (fork_column t (parent_of t n))) refl

  by_room : (n : ℕ) → 0 < n → n < length t → is_fork t (parent_of t n) ≡ true → (b : Bool) → nat_lt (fork_column t (parent_of t n) + 1) (used c) ≡ b
      → column t (used c) n ≡ (if b then (if is_right t n then fork_column t (parent_of t n) + 1 else fork_column t (parent_of t n)) else column t (used c) (parent_of t n)) → OwnStep n
  by_room n p h f true g e = by_side n p h f (ltb-true _ _ g) (is_right t n) e
  by_room n p h f false g e = inl (ap (owner c) e)

  by_kind : (n : ℕ) → 0 < n → n < length t → (b : Bool) → is_strand t n ≡ b → OwnStep n
  by_kind n p h false e = inl (ap (owner c) (column_other t tr (used c) n p h e))
  by_kind n p h true e =
      by_room n p h (tr.strands n h p e) (nat_lt (fork_column t (parent_of t n) + 1) (used c)) refl (column_strand t tr (used c) n p h e)

  pub own_step : (n : ℕ) → 0 < n → n < length t → OwnStep n
  own_step n p h = by_kind n p h (is_strand t n) refl

  pub own_root : own 0 ≡ 0
  own_root = ap (λ s. owner c (column_in t (used c) s s)) (strand_of_root t) ∙ st.root

  descends_pos : (x y : ℕ) → Descends c x y → 0 < y
  descends_pos x y (child p e) = p
  descends_pos x y (further p d) = p

  -- beneath a node, owners are its owner or descend from it
  pub owners_descend : (a n : ℕ) → n < length t → is_ancestor t a n ≡ true → (own n ≡ own a) ⊎ Descends c (own a) (own n)
  owners_descend a n h =
      by_parent t tr.rooted (λ n. is_ancestor t a n ≡ true → (own n ≡ own a) ⊎ Descends c (own a) (own n))
      (λ f. inl (ap own (sym (ancestor_root t a f))))
      (λ m p q more f. elim (ancestor_cases t tr.rooted a m p q f) [ inl z ↦ inl (ap own z) | inr z ↦ go_on m (own_step m p q) (more z) ])
      n h where
        go_on : (m : ℕ) → OwnStep m → (own (parent_of t m) ≡ own a) ⊎ Descends c (own a) (own (parent_of t m)) → (own m ≡ own a) ⊎ Descends c (own a) (own m)
        go_on m (inl s) (inl e) = inl (s ∙ e)
        go_on m (inl s) (inr d) = inr (let P : ℕ → Type 0 = λ x. Descends c (own a) x in subst P (sym s) d)
        go_on m (inr w) (inl e) = inr (child w.named (w.outside ∙ e))
        go_on m (inr w) (inr d) = inr (further w.named (let P : ℕ → Type 0 = λ x. Descends c (own a) x in subst P (sym w.outside) d))

  -- the fork at the head of a node's trace
  pub record HeadOf (n f : ℕ) : Type 0 where
    pub there : f < length t
    pub above : is_ancestor t f n ≡ true
    pub fork : is_fork t f ≡ true
    pub used_up : own n < used c
    pub paired : fork_column t f + 1 < used c
    pub apart : is_apart cuts merges (own n) ≡ true
    pub column_is : fork_column t f ≡ left_column_of (own n)
    pub outside : around c (own n) ≡ own f
    pub near : (a : ℕ) → is_ancestor t a n ≡ true → (own a ≡ own n) ⊎ (is_ancestor t a f ≡ true)

  pub head_of : (n : ℕ) → n < length t → 0 < own n → (f : ℕ) × HeadOf n f
  head_of =
      by_parent t tr.rooted (λ n. 0 < own n → (f : ℕ) × HeadOf n f)
      (λ p. absurd (omega (arith, own_root)))
      (λ m p q more s. by_step m p q more s (own_step m p q)) where
        by_step : (m : ℕ) → 0 < m → m < length t → (0 < own (parent_of t m) → (f : ℕ) × HeadOf (parent_of t m) f) → 0 < own m → OwnStep m → (f : ℕ) × HeadOf m f
        by_step m p q more s (inl e) =
            let w = more (omega (arith, e)) in
            let h = w.1 in (
              w.0,
              record {
                there = h.there;
                above = ancestor_up t tr.rooted w.0 m p q h.above;
                fork = h.fork;
                used_up = omega (arith, e, h.used_up);
                paired = h.paired;
                apart = ap (is_apart cuts merges) e ∙ h.apart;
                column_is = h.column_is ∙ ap left_column_of (sym e);
                outside = ap (around c) e ∙ h.outside;
                near = λ a g. elim (ancestor_cases t tr.rooted a m p q g) [ inl z ↦ inl (ap own (sym z)) | inr z ↦ elim (h.near a z) [ inl y ↦ inl (y ∙ sym e) | inr y ↦ inr y ] ];
              },
            )
        by_step m p q more s (inr w) =
            let low : parent_of t m < m = tr.rooted m p q in (
              parent_of t m,
              record {
                there = omega arith;
                above = ancestor_up t tr.rooted (parent_of t m) m p q (ancestor_self t (parent_of t m));
                fork = w.fork;
                used_up = w.used_up;
                paired = w.paired;
                apart = w.apart;
                column_is = w.column_is;
                outside = w.outside;
                near = λ a g. elim (ancestor_cases t tr.rooted a m p q g) [ inl z ↦ inl (ap own (sym z)) | inr z ↦ inr z ];
              },
            )

  -- a pending block's trace goes on down to a node of the same trace
  pub owner_between : (b a g : ℕ) → g < length t → a < length t → b < length t → is_ancestor t b a ≡ true → is_ancestor t a g ≡ true → is_pending t b ≡ true → own b ≡ own g → own a ≡ own g
  owner_between b a g hg ha hb e f pb s = by_owner (own g) refl where
    no_zero : (y : ℕ) → y ≡ 0 → Descends c (own a) y → ⊥
    no_zero y e d = let p : 0 < y = descends_pos (own a) y d in omega arith

    deep : 0 < own g → (x : (k : ℕ) × HeadOf g k) → own a ≡ own g
    deep p x = elim (x.1.near a f) [
      | inl z ↦ z
      | inr z ↦ absurd (
          let y = head_of b hb (omega (arith, s)) in
          let same : y.0 ≡ x.0 = fork_column_one t y.0 x.0 y.1.fork x.1.fork (y.1.column_is ∙ ap left_column_of s ∙ sym x.1.column_is) in
          let up : is_ancestor t b x.0 ≡ true = ancestor_trans t tr.rooted b a x.0 x.1.there e z in
          let le : b ≤ x.0 = ancestor_le t tr.rooted b x.0 x.1.there up in
          let ge : y.0 ≤ b = ancestor_le t tr.rooted y.0 b hb y.1.above in
          let is : x.0 ≡ b = omega (arith, same) in
          cc (ap (is_fork t) is, x.1.fork, pending_no_fork t b pb))
    ]

    by_owner : (y : ℕ) → own g ≡ y → own a ≡ own g
    by_owner zero q = elim (owners_descend a g hg f) [ inl z ↦ sym z | inr z ↦ absurd (no_zero (own g) q z) ]
    by_owner (suc y) q = deep (omega (arith, q)) (head_of g hg (omega (arith, q)))

  -- the fork at which a trace was cut
  pub record CutAt (x f n : ℕ) : Type 0 where
    pub there : f < length t
    pub fork : is_fork t f ≡ true
    pub cut : is_cut_at c cuts merges x (fork_column t f) ≡ true
    pub above : is_ancestor t f n ≡ true

  pub cut_of : (x n f : ℕ) → n < length t → HeadOf n f → own f ≡ x → CutAt x f n
  cut_of x n f h w e = record {
    there = w.there;
    fork = w.fork;
    cut =
        let z = st.forked_from f w.fork w.paired in
        let apart : is_apart cuts merges (fork_column t f) ≡ true = ap (is_apart cuts merges) w.column_is ∙ ap (λ k. has cuts k && not (has merges k)) (left_again (own n)) ∙ w.apart in
        by_parts (nat_lt (fork_column t f) (used c)) (has cuts (fork_column t f)) (has merges (fork_column t f)) (nat_eq (around c (fork_column t f)) x)
        (lt-ltb _ _ (omega (arith, w.paired)))
        (ap (λ k. has cuts k && not (has merges k)) w.column_is ∙ w.apart)
        (eq-eqb _ _ (ap (owner c) z.0 ∙ e));
    above = w.above;
  } where
    left_again : (k : ℕ) → left_column_of (left_column_of k) ≡ left_column_of k
    left_again k = omega arith

    by_parts : (a b d e : Bool) → a ≡ true → (b && not d) ≡ true → e ≡ true → (a && b && not d && e) ≡ true
    by_parts true true false true p q r = refl
    by_parts true true false false p q r = absurd (cc r)
    by_parts true true true e p q r = absurd (cc q)
    by_parts true false d e p q r = absurd (cc q)
    by_parts false b d e p q r = absurd (cc p)

  -- whatever a trace within trace x did stands beneath the fork at which x was cut
  pub beneath_cut : (x y : ℕ) → Descends c x y → (n : ℕ) → n < length t → own n ≡ y → (f : ℕ) × CutAt x f n
  beneath_cut x y (child p e) n h s =
      let w = head_of n h (omega (arith, s)) in
      (w.0, cut_of x n w.0 h w.1 (sym w.1.outside ∙ ap (around c) s ∙ e))
  beneath_cut x y (further p d) n h s =
      let w = head_of n h (omega (arith, s)) in
      let z = beneath_cut x (around c y) d w.0 w.1.there (sym w.1.outside ∙ ap (around c) s) in
      (z.0, record { there = z.1.there; fork = z.1.fork; cut = z.1.cut; above = ancestor_trans t tr.rooted z.0 w.0 n h z.1.above w.1.above })

  -- owners are traces
  pub record IsNamed (x : ℕ) : Type 0 where
    pub low : x < used c
    pub named : names_trace cuts merges x ≡ true

  pub own_named : (n : ℕ) → n < length t → IsNamed (own n)
  own_named =
      by_parent t tr.rooted (λ n. IsNamed (own n))
      (record { low = omega (arith, own_root, st.some); named = ap (names_trace cuts merges) own_root })
      (λ m p q more. elim (own_step m p q) [
        | inl e ↦ (let P : ℕ → Type 0 = λ x. IsNamed x in subst P (sym e) more)
        | inr w ↦ record { low = w.used_up; named = or_true (nat_eq (own m) 0) (is_apart cuts merges (own m)) w.apart }
      ]) where
        or_true : (a b : Bool) → b ≡ true → (a || b) ≡ true
        or_true true b e = refl
        or_true false b e = e
