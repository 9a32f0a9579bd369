-- What is kept gives the relation between tier, gap words and tree.
use Rattle.std.proofs.Common.{◌≡◌, ℕ, zero, suc, ◌+◌, ◌<◌, ◌≤◌, List, length, refl, ap, sym, ◌∙◌, arith, Bool, true, false, Option, Some, None, nat_eq, nat_lt, inl, inr, eq-eqb, eqb-true}
use Rattle.std.specs.Prelude.{◌⊎◌, ◌*◌, ◌%◌, ◌&&◌, not, is_some, if◌then◌else◌}
use Rattle.std.specs.List.{find}
use Rattle.std.proofs.lemmas.Bool.{ltb-true, lt-ltb, and_parts, and_from, not-true}
use Rattle.cw_tree.specs.declared.node.Node.{Node}
use Rattle.cw_tree.specs.Nodes.{parent_of, is_fork, is_pending, below}
use Rattle.cw_tree.specs.Series.{strand_of}
use Rattle.cw_tree.specs.Names.{is_right}
use Rattle.cw_trace.specs.Columns.{ColumnTable, used, owner, gap, lead, up}
use Rattle.cw_tree.specs.Walks.{has}
use Rattle.cw_trace.specs.Stands.{word_of, Stands, column, column_in, fork_column, outermost_pending, stamp_or_0, around, is_cut_at}
use Rattle.cw_trace.specs.Segments.{IsCut, IsTrace, IsLive, Within, Segments}
use Rattle.cw_trace.specs.Keeps.{Keeps}
use Rattle.cw_trace.proofs.Stands.Counting.{none_below, some_below}
use Rattle.cw_trace.proofs.Segments.Lines.{order, used_some, right_used, own_le}

-- each column is in use
pub column_in_low : (t : List Node) (size k s : ℕ) → 0 < size → column_in t size k s < size
column_in_low t size zero s h = h
column_in_low t size (suc k) zero h = h
column_in_low t size (suc k) (suc s) h = by_room (nat_lt (fork_column t (parent_of t (suc s)) + 1) size) (is_right t (suc s)) refl (column_in_low t size k (strand_of t (parent_of t (suc s))) h) where
  by_room : (a b : Bool) → nat_lt (fork_column t (parent_of t (suc s)) + 1) size ≡ a → column_in t size k (strand_of t (parent_of t (suc s))) < size
      → (if a then (if b then fork_column t (parent_of t (suc s)) + 1 else fork_column t (parent_of t (suc s))) else column_in t size k (strand_of t (parent_of t (suc s)))) < size
  by_room true true e l = ltb-true _ _ e
  by_room true false e l = let z : fork_column t (parent_of t (suc s)) + 1 < size = ltb-true _ _ e in omega arith
  by_room false b e l = l

pub column_low : (t : List Node) (size n : ℕ) → 0 < size → column t size n < size
column_low t size n h = column_in_low t size (strand_of t n) (strand_of t n) h

-- two tests below two bounds have the same first number where each number that passes the second passes the first, and none that passes the first stands before all that pass the second
pub first_of_both : (p q : ℕ → Bool) (n m : ℕ) → ((b : ℕ) → b < m → q b ≡ true → (b < n) × (p b ≡ true)) → ((b : ℕ) → b < n → p b ≡ true → (a : ℕ) × (a ≤ b) × (a < m) × (q a ≡ true)) → find p (below n) ≡ find q (below m)
first_of_both p q n m from to = by_both (find p (below n)) (find q (below m)) refl refl where
  by_both : (x y : Option ℕ) → find p (below n) ≡ x → find q (below m) ≡ y → find p (below n) ≡ find q (below m)
  by_both None None e f = e ∙ sym f
  by_both None (Some b) e f = let w = some_below q m b f in let z = from b w.low w.passed in absurd (cc (none_below p n e b z.0, z.1))
  by_both (Some b) None e f = let w = some_below p n b e in let z = to b w.low w.passed in absurd (cc (none_below q m f z.0 z.2, z.3))
  by_both (Some b) (Some a) e f =
      let w = some_below p n b e in
      let v = some_below q m a f in
      let z = to b w.low w.passed in
      let y = from a v.low v.passed in
      let le : z.0 ≤ b = z.1 in
      let up : b ≤ a = by_order (order a b) (λ l. cc (w.first a l, y.1)) in
      let down : a ≤ z.0 = by_order2 (order z.0 a) (λ l. cc (v.first z.0 l, z.3)) in
      e ∙ ap Some (omega arith) ∙ sym f where
        by_order : (a < b) ⊎ ((a ≡ b) ⊎ (b < a)) → (a < b → ⊥) → b ≤ a
        by_order (inl l) never = absurd (never l)
        by_order (inr (inl q)) never = omega (arith, q)
        by_order (inr (inr l)) never = omega arith

        by_order2 : {z : ℕ} → (z < a) ⊎ ((z ≡ a) ⊎ (a < z)) → (z < a → ⊥) → a ≤ z
        by_order2 (inl l) never = absurd (never l)
        by_order2 (inr (inl q)) never = omega (arith, q)
        by_order2 (inr (inr l)) never = omega arith

pub first_same : (p q : ℕ → Bool) (n : ℕ) → ((b : ℕ) → b < n → q b ≡ true → p b ≡ true) → ((b : ℕ) → b < n → p b ≡ true → (a : ℕ) × (a ≤ b) × (q a ≡ true)) → find p (below n) ≡ find q (below n)
first_same p q n from to = first_of_both p q n n (λ b h e. (h, from b h e)) (λ b h e. let z = to b h e in let le : z.0 ≤ b = z.1 in (z.0, z.1, omega arith, z.2))

-- tests that agree on the columns of pending blocks find the same one
pub outermost_agrees : (t : List Node) (size : ℕ) (q r : ℕ → Bool) → ((b : ℕ) → is_pending t b ≡ true → q (column t size b) ≡ r (column t size b)) → outermost_pending t size q ≡ outermost_pending t size r
outermost_agrees t size q r e =
    first_same (λ b. is_pending t b && q (column t size b)) (λ b. is_pending t b && r (column t size b)) (length t)
    (λ b l h. let z = and_parts (is_pending t b) (r (column t size b)) h in and_from (is_pending t b) (q (column t size b)) z.0 (e b z.0 ∙ z.1))
    (λ b l h. let z = and_parts (is_pending t b) (q (column t size b)) h in let y : b ≤ b = omega arith in (b, y, and_from (is_pending t b) (r (column t size b)) z.0 (sym (e b z.0) ∙ z.1)))

-- a fork's column is odd
pub odd_column : (t : List Node) (f : ℕ) → fork_column t f % 2 ≡ 1
odd_column t f = odd (length (Rattle.std.specs.List.filter (is_fork t) (below f))) where
  odd : (n : ℕ) → (2 * n + 1) % 2 ≡ 1
  odd n = omega arith

parts4 : (a b d e : Bool) → (a && b && not d && e) ≡ true → (a ≡ true) × (b ≡ true) × (d ≡ false) × (e ≡ true)
parts4 true true false true h = (refl, refl, refl, refl)
parts4 true true false false h = absurd (cc h)
parts4 true true true e h = absurd (cc h)
parts4 true false d e h = absurd (cc h)
parts4 false b d e h = absurd (cc h)

whole4 : (a b d e : Bool) → a ≡ true → b ≡ true → d ≡ false → e ≡ true → (a && b && not d && e) ≡ true
whole4 true true false true p q r s = refl
whole4 true true false false p q r s = absurd (cc s)
whole4 true true true e p q r s = absurd (cc r)
whole4 true false d e p q r s = absurd (cc q)
whole4 false b d e p q r s = absurd (cc p)

module _ (c : ColumnTable) (words : List ℕ) (t : List Node) (cuts joins : List ℕ) (k : Keeps c words t cuts joins) where
  abbrev g : Segments c cuts joins (is_pending t) (column t (used c))
  g = k.segments

  pub as_cut : (x f : ℕ) → is_cut_at c cuts joins x f ≡ true → IsCut c cuts joins x f
  as_cut x f e =
      let z = parts4 (nat_lt f (used c)) (has cuts f) (has joins f) (nat_eq (around c f) x) e in
      record { fork = record { low = ltb-true _ _ z.0; left = (g.cut_left f z.1).0; unjoined = z.2; outside = eqb-true _ _ z.3 }; cut = z.1 }

  pub cut_as : (x f : ℕ) → IsCut c cuts joins x f → is_cut_at c cuts joins x f ≡ true
  cut_as x f w = whole4 (nat_lt f (used c)) (has cuts f) (has joins f) (nat_eq (around c f) x) (lt-ltb _ _ w.fork.low) w.cut w.fork.unjoined (eq-eqb _ _ w.fork.outside)

  pub col_low : (n : ℕ) → column t (used c) n < used c
  col_low n = column_low t (used c) n (used_some c cuts joins (is_pending t) (column t (used c)) g)

  -- the lead of a trace
  leads : (x : ℕ) → IsTrace c cuts joins x → word_of words (lead c x) ≡ stamp_or_0 t (outermost_pending t (used c) (λ i. nat_eq (owner c i) x))
  leads x n = by_lead (lent_or (has_cut x)) where
    head_after : (b : ℕ) → is_pending t b ≡ true → owner c (column t (used c) b) ≡ x → Within c (is_pending t) (column t (used c)) x x b
    head_after b p o = record { pending = p; owned = o; after = omega (arith, own_le c cuts joins (is_pending t) (column t (used c)) g (column t (used c) b) (col_low b), o) }

    has_cut : (x : ℕ) → (f : ℕ) → Bool
    has_cut x f = is_cut_at c cuts joins x f && nat_eq (gap c x) (gap c f)

    -- whether the trace lent its gap
    lent_or : (p : ℕ → Bool) → ((f : ℕ) × (p f ≡ true)) ⊎ ((f : ℕ) → f < used c → p f ≡ false)
    lent_or p = by_find (find p (below (used c))) refl where
      by_find : (o : Option ℕ) → find p (below (used c)) ≡ o → ((f : ℕ) × (p f ≡ true)) ⊎ ((f : ℕ) → f < used c → p f ≡ false)
      by_find None e = inr (none_below p (used c) e)
      by_find (Some f) e = inl (f, (some_below p (used c) f e).passed)

    by_lead : ((f : ℕ) × (has_cut x f ≡ true)) ⊎ ((f : ℕ) → f < used c → has_cut x f ≡ false) → word_of words (lead c x) ≡ stamp_or_0 t (outermost_pending t (used c) (λ i. nat_eq (owner c i) x))
    by_lead (inl z) =
        let y = and_parts (is_cut_at c cuts joins x z.0) (nat_eq (gap c x) (gap c z.0)) z.1 in
        let w = as_cut x z.0 y.0 in
        ap (word_of words) (g.lead_lent x z.0 n w (eqb-true _ _ y.1)) ∙ by_first z.0 w (eqb-true _ _ y.1) (outermost_pending t (used c) (λ i. nat_eq (owner c i) x)) refl where
          by_first : (f : ℕ) → IsCut c cuts joins x f → gap c x ≡ gap c f → (o : Option ℕ) → outermost_pending t (used c) (λ i. nat_eq (owner c i) x) ≡ o → 0 ≡ stamp_or_0 t (outermost_pending t (used c) (λ i. nat_eq (owner c i) x))
          by_first f w e None q = sym (ap (stamp_or_0 t) q)
          by_first f w e (Some b) q =
              let v = some_below (λ b. is_pending t b && nat_eq (owner c (column t (used c) b)) x) (length t) b q in
              let y = and_parts (is_pending t b) (nat_eq (owner c (column t (used c) b)) x) v.passed in
              let o : owner c (column t (used c) b) ≡ x = eqb-true _ _ y.1 in
              let lo : x < f = Rattle.cw_trace.proofs.Segments.Lines.open_after c cuts joins (is_pending t) (column t (used c)) g x f w.fork in
              absurd (g.shared x x f b n (inl refl) (inr w.fork) lo e (head_after b y.0 o) (g.cut_last x f (column t (used c) b) w (col_low b) o))
    by_lead (inr none) =
        let live : IsLive c cuts joins x x = λ f w e. cc (none f w.fork.low, and_from (is_cut_at c cuts joins x f) (nat_eq (gap c x) (gap c f)) (cut_as x f w) (eq-eqb _ _ e)) in
        let low : gap c x < used c = omega (arith, Rattle.cw_trace.proofs.Segments.Lines.gap_le c cuts joins (is_pending t) (column t (used c)) g x n.low, n.low) in
        ap (word_of words) (g.lead_live x n live) ∙ k.words_are (gap c x) low
        ∙ sym (ap (stamp_or_0 t) (first_same (λ b. is_pending t b && nat_eq (owner c (column t (used c) b)) x) (λ b. is_pending t b && nat_eq (gap c (column t (used c) b)) (gap c x)) (length t)
        (λ b l h. let z = and_parts (is_pending t b) (nat_eq (gap c (column t (used c) b)) (gap c x)) h in and_from (is_pending t b) (nat_eq (owner c (column t (used c) b)) x) z.0 (eq-eqb _ _ (g.gap_owned x x b n (inl refl) live z.0 (eqb-true _ _ z.1)).0))
        (λ b l h.
        let z = and_parts (is_pending t b) (nat_eq (owner c (column t (used c) b)) x) h in
        let y = g.gap_first x x b n (inl refl) live (head_after b z.0 (eqb-true _ _ z.1)) in
        (y.0, y.1, and_from (is_pending t y.0) (nat_eq (gap c (column t (used c) y.0)) (gap c x)) y.2 (eq-eqb _ _ y.3)))))

  -- the relation
  pub stands_of : Stands c words t cuts joins
  stands_of = record {
    some = used_some c cuts joins (is_pending t) (column t (used c)) g;
    room = k.room;
    lengths = g.lengths;
    forks = k.forks;
    all_used = k.all_used;
    forked_from = λ f e h. (
        let z = k.forked_from f e h in
        (z, g.pairs (fork_column t f) (odd_fork f) (omega arith) ∙ z));
    root = g.root;
    together = λ i p h e. g.together i p h (not-true _ e);
    apart = g.apart;
    words_are = k.words_are;
    leads = λ x h n. leads x (record { low = h; named = n });
    heads = λ x h n. g.heads x (record { low = h; named = n });
    active = λ x h n none. (let tr : IsTrace c cuts joins x = record { low = h; named = n } in g.lead_live x tr (λ f w e. cc (cut_as x f w, not-true _ (none f))) ∙ ap Some (sym (g.heads x tr)));
    no_up = k.ups.no_up;
    ups = λ x p h n. by_first x p (record { low = h; named = n }) (outermost_pending t (used c) (λ i. nat_eq (owner c i) (around c x))) refl;
    brackets = λ x y h i n m. (k.nesting.descends x y (record { low = h; named = n }) (record { low = i; named = m }), k.nesting.within x y (record { low = h; named = n }) (record { low = i; named = m }));
    contains = λ b n h i p o s. k.contains b n h i p o s;
    contains_cut = λ b f h p e w. (
        let z = as_cut (owner c (column t (used c) b)) (fork_column t f) w in
        let low : fork_column t f + 1 < used c = right_used c cuts joins (is_pending t) (column t (used c)) g (fork_column t f) z.fork.low z.fork.left in
        elim (k.lines b f p e low z.fork.unjoined (sym z.fork.outside ∙ ap (owner c) (k.forked_from f e low))) [
          | inl y ↦ y
          | inr y ↦ absurd (let l : column t (used c) b < fork_column t f = g.cut_last (owner c (column t (used c) b)) (fork_column t f) (column t (used c) b) z (col_low b) refl in omega arith)
        ]);
    one_cut = λ x f h w v. g.one_cut x f h (as_cut x f w) (as_cut x h v);
  } where
    odd_fork : (f : ℕ) → fork_column t f % 2 ≡ 1
    odd_fork f = odd_column t f

    by_first : (x : ℕ) → 0 < x → IsTrace c cuts joins x → (o : Option ℕ) → outermost_pending t (used c) (λ i. nat_eq (owner c i) (around c x)) ≡ o → up c x ≡ (if is_some (outermost_pending t (used c) (λ i. nat_eq (owner c i) (around c x))) then Some (around c x) else up c (around c x))
    by_first x p n None e =
        k.ups.up_none x p n (λ b q o. let h : b < length t = Rattle.cw_tree.proofs.Walks.There.pending_there t b q in
        cc (none_below (λ b. is_pending t b && nat_eq (owner c (column t (used c) b)) (around c x)) (length t) e b h, and_from (is_pending t b) (nat_eq (owner c (column t (used c) b)) (around c x)) q (eq-eqb _ _ o)))
        ∙ sym (ap (λ o. if is_some o then Some (around c x) else up c (around c x)) e)
    by_first x p n (Some b) e =
        let v = some_below (λ b. is_pending t b && nat_eq (owner c (column t (used c) b)) (around c x)) (length t) b e in
        let y = and_parts (is_pending t b) (nat_eq (owner c (column t (used c) b)) (around c x)) v.passed in
        k.ups.up_some x b p n y.0 (eqb-true _ _ y.1) ∙ sym (ap (λ o. if is_some o then Some (around c x) else up c (around c x)) e)
