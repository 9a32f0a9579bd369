-- When a split is early, in words of the tree.
use Rattle.std.proofs.Common.{◌≡◌, ◌≢◌, ℕ, zero, suc, ◌+◌, ◌<◌, ◌≤◌, List, length, refl, ap, sym, ◌∙◌, arith, Bool, true, false, Some, None, nat_eq, inl, inr, subst, eq-eqb}
use Rattle.std.specs.Prelude.{◌%◌, slice_index, if◌then◌else◌, Result, Ok, Err, OnOk, IfErr}
use Rattle.cw_tree.specs.declared.node.Node.{Node}
use Rattle.cw_tree.specs.Nodes.{parent_of, is_fork, is_pending, is_strand}
use Rattle.cw_tree.specs.Walks.{is_ancestor, has}
use Rattle.cw_tree.specs.Names.{is_right}
use Rattle.cw_tree.specs.Shape.{IsTree}
use Rattle.cw_tree.proofs.Walks.Ancestors.{ancestor_self, ancestor_up, ancestor_trans, ancestor_le}
use Rattle.cw_tree.proofs.Walks.Kin.{ancestor_linear, children_apart}
use Rattle.cw_tree.proofs.Walks.There.{fork_there}
use Rattle.cw_tree.proofs.NodeKinds.{fork_no_strand}
use Rattle.cw_trace.specs.Columns.{ColumnTable, used, owner, is_trace, left_column_of, before_split}
use Rattle.cw_trace.specs.Stands.{column, fork_column, around}
use Rattle.cw_trace.specs.Segments.{Segments, IsOpen, outward, next_outward}
use Rattle.cw_trace.specs.Keeps.{Keeps}
use Rattle.cw_trace.specs.Running.{IsOrdered, IsUnsplit}
use Rattle.cw_trace.specs.Outward.{IsOutward, IsBarring, NoneBars, IsNext, NextBars}
use Rattle.cw_trace.proofs.Stands.Counting.{fork_column_lt}
use Rattle.cw_trace.proofs.Segments.Lines.{order, le_or_lt, unsplit, left_of_odd, own_trace}
use Rattle.cw_trace.proofs.Keeps.Meaning.{odd_column}
use Rattle.cw_trace.proofs.Outward.Outward.{Past, all_past, Next, early_is_next}
use Rattle.cw_trace.proofs.Keeps.Sides.{right_of, strand_in, InFork, on_side}
use Rattle.cw_trace.proofs.Keeps.GoingOn.{open_above}
use Rattle.cw_trace.proofs.Outward.FromTree.{fork_at, left_pair, same_parent, uncut, odd_pos}

module _ (c : ColumnTable) (words : List ℕ) (t : List Node) (cuts joins : List ℕ) (k : Keeps c words t cuts joins) (tr : IsTree t) where
  abbrev g : Segments c cuts joins (is_pending t) (column t (used c))
  g = k.segments

  -- what the walk from a node's column finds is a fork in whose left strand the node stands
  walk_left : (s m : ℕ) → is_fork t m ≡ true → fork_column t m ≡ s → (j p x : ℕ) → x < length t → column t (used c) x ≡ p → p < used c → outward cuts c.parents j p ≡ Some s → InFork t tr (used c) m x false
  walk_left s m fm at zero p x hx e low w = absurd (cc w)
  walk_left s m fm at (suc j) zero x hx e low w = absurd (cc w)
  walk_left s m fm at (suc j) (suc n) x hx e low w =
      by_cut (λ p x hx e low w. walk_left s m fm at j p x hx e low w) (has cuts (left_column_of (suc n))) (nat_eq (suc n % 2) 1) refl w where
        p : ℕ
        p = suc n

        is_even : nat_eq (p % 2) 1 ≡ false → p ≡ left_column_of p + 1
        is_even q = by_parity (λ o. cc (eq-eqb (p % 2) 1 o, q)) where
          by_parity : p % 2 ≢ 1 → p ≡ left_column_of p + 1
          by_parity o = omega (arith, o)

        on : ((q y : ℕ) → y < length t → column t (used c) y ≡ q → q < used c → outward cuts c.parents j q ≡ Some s → InFork t tr (used c) m y false) → nat_eq (p % 2) 1 ≡ false → outward cuts c.parents j (slice_index c.parents p) ≡ Some s → InFork t tr (used c) m x false
        on more q v =
            let z = fork_at c words t cuts joins k tr p (omega arith) low in
            let right : column t (used c) x ≡ fork_column t z.node + 1 = e ∙ is_even q ∙ ap (λ i. i + 1) (sym z.at) in
            let y = on_side t tr (used c) true z.node z.is x hx right in
            let from : slice_index c.parents p ≡ column t (used c) z.node = same_parent c words t cuts joins k tr p (omega arith) low ∙ z.from in
            let less : slice_index c.parents p < p = g.rooted p (omega arith) low in
            let w = more (slice_index c.parents p) z.node (fork_there t z.node z.is) (sym from) (omega arith) v in
            let under : is_ancestor t z.node x ≡ true = ancestor_trans t tr.rooted z.node y.strand x hx (let P : ℕ → Type 0 = λ i. is_ancestor t i y.strand ≡ true in subst P y.child (ancestor_up t tr.rooted (parent_of t y.strand) y.strand y.some y.low (ancestor_self t (parent_of t y.strand)))) y.over in
            record { strand = w.strand; some = w.some; low = w.low; child = w.child; side = w.side; over = ancestor_trans t tr.rooted w.strand z.node x hx w.over under }

        by_cut : ((q y : ℕ) → y < length t → column t (used c) y ≡ q → q < used c → outward cuts c.parents j q ≡ Some s → InFork t tr (used c) m y false)
            → (a b : Bool) → nat_eq (p % 2) 1 ≡ b → (if a then None else if b then Some p else outward cuts c.parents j (slice_index c.parents p)) ≡ Some s → InFork t tr (used c) m x false
        by_cut more true b q v = absurd (cc v)
        by_cut more false true q v = let same : p ≡ s = cc v in on_side t tr (used c) false m fm x hx (e ∙ same ∙ sym at)
        by_cut more false false q v = on more q v

  module _ (is_open : ℕ → Bool) (o : IsOrdered c t cuts joins is_open) (f n : ℕ) (fn : is_fork t n ≡ true) (at : fork_column t n ≡ f) (un : has joins f ≡ false) (low : f < used c) (left : f % 2 ≡ 1) (whole : is_trace c f ≡ false) where
    hn : n < length t
    hn = fork_there t n fn

    pair : fork_column t n + 1 < used c
    pair = let l = left_pair c words t cuts joins k tr f (odd_pos f left) low in omega (arith, at, left_of_odd f left)

    not_split : has cuts f ≡ false
    not_split = uncut c words t cuts joins k tr f low left whole un

    parent_is : slice_index c.parents f ≡ column t (used c) n
    parent_is = ap (slice_index c.parents) (sym at) ∙ k.forked_from n fn pair

    own_is : owner c f ≡ around c f
    own_is = g.together f (odd_pos f left) low (unsplit cuts joins f (ap (has cuts) (left_of_odd f left) ∙ not_split))

    open_f : IsOpen c joins (owner c f) f
    open_f = record { low = low; left = left; unjoined = un; outside = sym own_is }

    opened : is_open n ≡ true
    opened = o.forks n fn pair (ap (has joins) at ∙ un)

    fork_above : (m : ℕ) → IsOutward t m n → (is_ancestor t m n ≡ true) × (m < n)
    fork_above m w =
        let le : w.left ≤ n = ancestor_le t tr.rooted w.left n hn w.over in
        let less : parent_of t w.left < w.left = tr.rooted w.left w.some w.low in
        let P : ℕ → Type 0 = λ i. is_ancestor t i w.left ≡ true in
        let up : is_ancestor t m w.left ≡ true = subst P w.child (ancestor_up t tr.rooted (parent_of t w.left) w.left w.some w.low (ancestor_self t (parent_of t w.left))) in
        (ancestor_trans t tr.rooted m w.left n hn up w.over, (let child : parent_of t w.left ≡ m = w.child in omega arith))

    -- a fork that bars the split is an open one of the trace
    open_m : (m : ℕ) → IsBarring c t cuts joins n m → IsOpen c joins (owner c f) (fork_column t m)
    open_m m b = record {
      low = let l = b.columns in omega arith;
      left = odd_column t m;
      unjoined = b.unjoined;
      outside = ap (owner c) (k.forked_from m b.outward.fork b.columns) ∙ b.same_trace ∙ ap (owner c) (sym parent_is) ∙ sym own_is;
    }

    less_m : (m : ℕ) → IsBarring c t cuts joins n m → fork_column t m < f
    less_m m b = let l = fork_column_lt t m n (fork_above m b.outward).1 b.outward.fork in omega (arith, at)

    -- its left strand is open, so nothing was forked in its right one
    no_past : (m : ℕ) → IsBarring c t cuts joins n m → Past c cuts joins (is_pending t) (column t (used c)) g (fork_column t m) → ⊥
    no_past m b past =
        let i = past.0 in
        let z = fork_at c words t cuts joins k tr i past.1 past.2 in
        let from : column t (used c) z.node ≡ fork_column t m + 1 = sym z.from ∙ sym (same_parent c words t cuts joins k tr i past.1 past.2) ∙ past.3 in
        let w = b.outward in
        let y = on_side t tr (used c) true m w.fork z.node (fork_there t z.node z.is) from in
        let P : ℕ → Type 0 = λ x. is_fork t x ≡ true in
        let Q : ℕ → Type 0 = λ x. IsUnsplit c t cuts x in
        let less : w.left < y.strand = elim (order w.left y.strand) [
          | inl l ↦ l
          | inr r ↦ absurd (elim r [
            | inl q ↦ cc (ap (is_right t) q, w.side, y.side)
            | inr l ↦ cc (right_of t tr y.strand w.left y.some l (strand_in t tr y.strand m y.some y.low y.child w.fork) (y.child ∙ sym w.child), w.side)
          ])
        ] in
        let differs : z.node ≢ y.strand = λ q. cc (fork_no_strand t z.node z.is, ap (is_strand t) q, strand_in t tr y.strand m y.some y.low y.child w.fork) in
        cc (o.left_first w.left y.strand z.node w.some less y.low (w.child ∙ sym y.child) (subst P (sym y.child) w.fork) (subst Q (sym y.child) (inr b.uncut)) (fork_there t z.node z.is) y.over differs, open_above c words t cuts joins tr k is_open o w.left n hn opened w.over)

    pub none_bars : before_split c f ≡ None → (m : ℕ) → IsBarring c t cuts joins n m → ⊥
    none_bars e m b = no_past m b (all_past c cuts joins (is_pending t) (column t (used c)) g f (fork_column t m) not_split open_f (open_m m b) (less_m m b) (sym (k.outside.next f low left un) ∙ e))

    pub next_bars : (s : ℕ) → before_split c f ≡ Some s → IsNext c t cuts joins n s
    next_bars s e =
        let v : next_outward c cuts f ≡ Some s = sym (k.outside.next f low left un) ∙ e in
        let x = early_is_next c cuts joins (is_pending t) (column t (used c)) g f s open_f v in
        let w = x.open_fork in
        let pos = odd_pos s w.left in
        let z = fork_at c words t cuts joins k tr s pos w.low in
        let own_left : left_column_of s ≡ s = left_of_odd s w.left in
        let here : fork_column t z.node ≡ s = z.at ∙ own_left in
        let parent_low : slice_index c.parents f < f = g.rooted f (odd_pos f left) low in
        let y = walk_left s z.node z.is here f (slice_index c.parents f) n hn (sym parent_is) (omega (arith, low)) v in
        let bars : IsBarring c t cuts joins n z.node = record {
          outward = record { fork = z.is; left = y.strand; some = y.some; low = y.low; child = y.child; side = y.side; over = y.over };
          columns = let l = left_pair c words t cuts joins k tr s pos w.low in omega (arith, z.at);
          same_trace = ap (owner c) (sym z.from ∙ ap (slice_index c.parents) own_left) ∙ w.outside ∙ own_is ∙ ap (owner c) parent_is;
          uncut = ap (has cuts) here ∙ x.uncut;
          unjoined = ap (has joins) here ∙ w.unjoined;
        } in
        record {
          fork = z.node;
          at = here;
          bars = bars;
          next = λ m b. elim (le_or_lt m z.node) [
            | inl le ↦ ancestor_linear t tr.rooted m z.node n hn (fork_above m b.outward).0 (fork_above z.node bars.outward).0 le
            | inr l ↦ absurd (between m b z.node (fork_column_lt t z.node m l z.is) here x)
          ];
        } where
          between : (m : ℕ) → IsBarring c t cuts joins n m → (z : ℕ) → fork_column t z + 2 ≤ fork_column t m → fork_column t z ≡ s → Next c cuts joins (is_pending t) (column t (used c)) g (owner c f) (slice_index c.parents f) s → ⊥
          between m b z l here x =
              let w = open_m m b in
              let apart : fork_column t m + 1 < f = by_parity (fork_column t m) f w.left left (less_m m b) in
              let le : fork_column t m ≤ slice_index c.parents f = g.nested (owner c f) (fork_column t m) f (own_trace c cuts joins (is_pending t) (column t (used c)) g f low) (inr w) low apart (sym own_is) in
              elim (x.between (fork_column t m) w (omega (arith, here)) le) [
                | inr past ↦ no_past m b past
                | inl q ↦
                    (let y = on_side t tr (used c) true m b.outward.fork n hn (sym parent_is ∙ q) in
                    let v = b.outward in
                    let same : v.left ≡ y.strand = children_apart t tr.rooted v.left y.strand n hn v.some y.some (v.child ∙ sym y.child) v.over y.over in
                    cc (ap (is_right t) same, v.side, y.side))
              ] where
                by_parity : (a f : ℕ) → a % 2 ≡ 1 → f % 2 ≡ 1 → a < f → a + 1 < f
                by_parity a f p q l = omega arith

pub none_bars_ok : {A E : Type 0} → (r : Result A E) (f : ℕ) (c : ColumnTable) → f < used c → f % 2 ≡ 1 → is_trace c f ≡ false → OnOk r (before_split c f ≡ None) → OnOk r (NoneBars f c)
none_bars_ok (Ok x) f c low left whole e = λ words t cuts joins is_open n k tr o fn at un. none_bars c words t cuts joins k tr is_open o f n fn at un low left whole e
none_bars_ok (Err x) f c low left whole e = tt

pub next_bars_err : {A E : Type 0} → (r : Result A E) (b : E → ℕ) (f : ℕ) (c : ColumnTable) → f < used c → f % 2 ≡ 1 → is_trace c f ≡ false → IfErr r (λ x. before_split c f ≡ Some (b x)) → IfErr r (λ x. NextBars f (b x) c)
next_bars_err (Ok x) b f c low left whole e = tt
next_bars_err (Err x) b f c low left whole e = λ words t cuts joins is_open n k tr o fn at un. next_bars c words t cuts joins k tr is_open o f n fn at un low left whole (b x) e
