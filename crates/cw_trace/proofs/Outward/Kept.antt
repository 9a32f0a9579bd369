-- What the columns tell of split forks and of the forks outward of a fork, as forks, splits and merges keep it.
use Rattle.std.proofs.Common.{◌≡◌, ◌≢◌, ℕ, zero, suc, ◌+◌, ◌<◌, ◌≤◌, List, [], ◌∷◌, ◌++◌, length, refl, ap, sym, ◌∙◌, arith, Bool, true, false, Option, Some, None, nat_eq, inl, inr, eq-eqb, eqb-true, length-append}
use Rattle.std.specs.Prelude.{◌⊎◌, ◌%◌, ◌==◌, ◌&&◌, ◌||◌, not, is_some, slice_index, if◌then◌else◌}
use Rattle.std.proofs.lemmas.Bool.{ne_eqb, cases_Bool, cases_eq}
use Rattle.cw_tree.specs.Walks.{has}
use Rattle.cw_tree.proofs.NextNodes.Growing.{get_append, get_next}
use Rattle.cw_trace.specs.Columns.{ColumnTable, used, owner, is_trace, outer, outer_at, fork_in, unless_split, before_split, forked, split_at, merged, left_column_of}
use Rattle.cw_trace.specs.Stands.{around, is_apart, names_trace}
use Rattle.cw_trace.specs.Segments.{Segments, MaySplit, MayMerge, Active, Forks, outward, next_outward}
use Rattle.cw_trace.proofs.Marks.Edits.{has_cons_same, has_cons_other}
use Rattle.cw_trace.proofs.Segments.Lines.{left_of_odd, left_of_next, left_of_cases, odd_apart}
use Rattle.cw_trace.proofs.Outward.Outside.{outward_alike, outward_cut, except}
use Rattle.cw_trace.proofs.Segments.Fork as fork
use Rattle.cw_trace.proofs.Segments.Split as split
use Rattle.cw_trace.proofs.Segments.Merge as merge

odd_some : (s : ℕ) → s % 2 ≡ 1 → 0 < s
odd_some s e = omega arith

module _ (c : ColumnTable) (cuts joins : List ℕ) (pend : ℕ → Bool) (col : ℕ → ℕ) (g : Segments c cuts joins pend col) (w : Forks c cuts joins) where
  low : (s : ℕ) → s < used c → s % 2 ≡ 1 → slice_index c.parents s < used c
  low s h o = let l : slice_index c.parents s < s = g.rooted s (odd_some s o) h in omega arith

  -- ## A split

  module _ (f : ℕ) (m : MaySplit c cuts joins pend col f) (early : next_outward c cuts f ≡ None) where
    abbrev d : ColumnTable
    d = split_at f c

    abbrev t : ℕ
    t = owner c f

    same_trace : (x : ℕ) → x ≢ f → x ≢ f + 1 → is_trace d x ≡ is_trace c x
    same_trace x a b = elim (cases_eq x t) [
      | inl e ↦
          ap (is_trace d) e ∙ ap is_some (split.trace_T c cuts joins pend col g f m early)
          ∙ sym (ap (is_trace c) e ∙ w.named t (split.tr c cuts joins pend col g f m early).low ∙ (split.tr c cuts joins pend col g f m early).named)
      | inr n ↦ ap is_some (split.trace_O c cuts joins pend col g f m early x (record { not_t = n; not_f = a; not_r = b }))
    ]

    apart_new : (i : ℕ) → left_column_of i ≡ f → 0 < i → names_trace (f ∷ cuts) joins i ≡ true
    apart_new i e p =
        ap (λ b. b || is_apart (f ∷ cuts) joins i) (ne_eqb i 0 (λ q. omega (arith, q)))
        ∙ ap (λ x. has (f ∷ cuts) x && not (has joins x)) e
        ∙ ap (λ b. b && not (has joins f)) (has_cons_same cuts f) ∙ ap not m.unjoined

    names : (i : ℕ) → i < used c → is_trace d i ≡ names_trace (f ∷ cuts) joins i
    names i h = elim (cases_eq i f) [
      | inl e ↦
          ap (is_trace d) e ∙ ap is_some (split.trace_L c cuts joins pend col g f m early)
          ∙ sym (apart_new i (ap left_column_of e ∙ left_of_odd f m.left) (omega (arith, e, odd_some f m.left)))
      | inr a ↦ elim (cases_eq i (f + 1)) [
        | inl e ↦
            ap (is_trace d) e ∙ ap is_some (split.trace_R c cuts joins pend col g f m early)
            ∙ sym (apart_new i (ap left_column_of e ∙ left_of_next f m.left) (omega (arith, e)))
        | inr b ↦ same_trace i a b ∙ w.named i h ∙ ap (λ q. (nat_eq i 0) || (q && not (has joins (left_column_of i)))) (sym (has_cons_other cuts f (left_column_of i) (not_left i a b))) ∙ at_root i
      ]
    ] where
      not_left : (i : ℕ) → i ≢ f → i ≢ f + 1 → left_column_of i ≢ f
      not_left i a b q = elim (cases_eq i 0) [
        | inl z ↦ omega (arith, q, odd_some f m.left, ap left_column_of z)
        | inr z ↦ elim (left_of_cases i (omega (arith, z))) [ inl y ↦ a (y ∙ q) | inr y ↦ b (omega (arith, y, q)) ]
      ]

      at_root : (i : ℕ) → (nat_eq i 0 || (has (f ∷ cuts) (left_column_of i) && not (has joins (left_column_of i)))) ≡ names_trace (f ∷ cuts) joins i
      at_root i = refl

    reads : (o : Option ℕ) → ((x : ℕ) → o ≡ Some x → x % 2 ≡ 1) → unless_split d o ≡ except f (unless_split c o)
    reads None odd = refl
    reads (Some x) odd = elim (cases_eq x f) [
      | inl e ↦
          ap (λ b. if b then None else Some x) (ap (is_trace d) e ∙ ap is_some (split.trace_L c cuts joins pend col g f m early))
          ∙ sym (gone (is_trace c x) (eq-eqb x f e))
      | inr n ↦
          ap (λ b. if b then None else Some x) (same_trace x n (odd_apart x f (odd x refl) m.left))
          ∙ stays (is_trace c x) (ne_eqb x f n)
    ] where
      gone : (b : Bool) → nat_eq x f ≡ true → except f (if b then None else Some x) ≡ None
      gone true e = refl
      gone false e = ap (λ z. if z then None else Some x) e

      stays : (b : Bool) → nat_eq x f ≡ false → (if b then None else Some x) ≡ except f (if b then None else Some x)
      stays true e = refl
      stays false e = sym (ap (λ z. if z then None else Some x) e)

    pub forks_split : Forks d (f ∷ cuts) joins
    forks_split =
        let same = split.used_same c cuts joins pend col g f m early in
        record {
          same_length = w.same_length ∙ sym same;
          named = λ i h. names i (omega (arith, same));
          left = λ s o h e. w.left s o (omega (arith, same)) e;
          step = λ s o h q e. w.step s o (omega (arith, same)) q e;
          next = λ s h o u.
              (let hs : s < used c = omega (arith, same) in
              reads (outer c s) (λ x e. w.left s x hs e)
              ∙ ap (except f) (w.next s hs o u)
              ∙ sym (outward_cut cuts c.parents (used c) g.rooted f m.left m.uncut (λ i p l. m.no_fork i p l) s (slice_index c.parents s) (low s hs o) (m.no_fork s (odd_some s o) hs)));
        }

  -- ## A merge

  module _ (f : ℕ) (m : MayMerge c cuts joins pend col f) where
    abbrev d2 : ColumnTable
    d2 = merged f c

    -- no unjoined fork stands inside the fork, so none has it as the next outward
    inner : (s : ℕ) → s < used c → s % 2 ≡ 1 → has joins s ≡ false → outer c s ≡ Some f → ⊥
    inner = Rattle.cw_trace.proofs.Segments.Lines.strong (λ s. s < used c → s % 2 ≡ 1 → has joins s ≡ false → outer c s ≡ Some f → ⊥) (λ s more h o u e. by_step s more h o u (w.step s f h o e)) where
      own_left : owner c f ≡ f
      own_left = merge.own_f c cuts joins pend col g f m

      own_right : owner c (f + 1) ≡ f + 1
      own_right = merge.own_r c cuts joins pend col g f m

      by_step : (s : ℕ) → ((q : ℕ) → q < s → q < used c → q % 2 ≡ 1 → has joins q ≡ false → outer c q ≡ Some f → ⊥) → s < used c → s % 2 ≡ 1 → has joins s ≡ false
          → (slice_index c.parents s ≡ f) ⊎ ((q : ℕ) × (q % 2 ≡ 1) × (slice_index c.parents s ≡ q + 1) × (outer c q ≡ Some f)) → ⊥
      by_step s more h o u (inl e) = (m.no_fork s).0 (record { low = h; left = o; unjoined = u; outside = ap (owner c) e ∙ own_left })
      by_step s more h o u (inr z) =
          let q : ℕ = z.0 in
          let lower : slice_index c.parents s < s = g.rooted s (odd_some s o) h in
          let up : slice_index c.parents s ≡ q + 1 = z.2 in
          let open_q : has joins q ≡ false = ap (has joins) (sym (ap left_column_of up ∙ left_of_next q z.1)) ∙ g.unjoined_above s h o u (omega (arith, up)) in
          more q (omega (arith, up)) (omega (arith, up)) z.1 open_q z.3

    same_trace2 : (x : ℕ) → x ≢ f → x ≢ f + 1 → is_trace d2 x ≡ is_trace c x
    same_trace2 x a b = elim (cases_eq x (around c f)) [
      | inl e ↦
          ap (is_trace d2) e ∙ ap is_some (merge.trace_t c cuts joins pend col g f m)
          ∙ sym (ap (is_trace c) e ∙ w.named (around c f) (merge.tr c cuts joins pend col g f m).low ∙ (merge.tr c cuts joins pend col g f m).named)
      | inr n ↦ ap is_some (merge.trace_other c cuts joins pend col g f m x n a b)
    ]

    apart_gone : (i : ℕ) → left_column_of i ≡ f → 0 < i → false ≡ names_trace cuts (f ∷ joins) i
    apart_gone i e p =
        sym (ap (λ b. b || is_apart cuts (f ∷ joins) i) (ne_eqb i 0 (λ q. omega (arith, q)))
        ∙ ap (λ x. has cuts x && not (has (f ∷ joins) x)) e
        ∙ ap (λ b. has cuts f && not b) (has_cons_same joins f) ∙ none (has cuts f)) where
          none : (b : Bool) → (b && not true) ≡ false
          none true = refl
          none false = refl

    names2 : (i : ℕ) → i < used c → is_trace d2 i ≡ names_trace cuts (f ∷ joins) i
    names2 i h = elim (cases_eq i f) [
      | inl e ↦
          ap (is_trace d2) e ∙ ap is_some (merge.trace_f_gone c cuts joins pend col g f m)
          ∙ apart_gone i (ap left_column_of e ∙ left_of_odd f m.left) (omega (arith, e, odd_some f m.left))
      | inr a ↦ elim (cases_eq i (f + 1)) [
        | inl e ↦
            ap (is_trace d2) e ∙ ap is_some (merge.trace_r_gone c cuts joins pend col g f m)
            ∙ apart_gone i (ap left_column_of e ∙ left_of_next f m.left) (omega (arith, e))
        | inr b ↦ same_trace2 i a b ∙ w.named i h ∙ ap (λ q. nat_eq i 0 || (has cuts (left_column_of i) && not q)) (sym (has_cons_other joins f (left_column_of i) (not_left i a b)))
      ]
    ] where
      not_left : (i : ℕ) → i ≢ f → i ≢ f + 1 → left_column_of i ≢ f
      not_left i a b q = elim (cases_eq i 0) [
        | inl z ↦ omega (arith, q, odd_some f m.left, ap left_column_of z)
        | inr z ↦ elim (left_of_cases i (omega (arith, z))) [ inl y ↦ a (y ∙ q) | inr y ↦ b (omega (arith, y, q)) ]
      ]

    reads2 : (o : Option ℕ) → ((x : ℕ) → o ≡ Some x → (x % 2 ≡ 1) × (x ≢ f)) → unless_split d2 o ≡ unless_split c o
    reads2 None odd = refl
    reads2 (Some x) odd = let z = odd x refl in ap (λ b. if b then None else Some x) (same_trace2 x z.1 (odd_apart x f z.0 m.left))

    pub forks_merge : Forks d2 cuts (f ∷ joins)
    forks_merge =
        let same = merge.used_same c cuts joins pend col g f m in
        record {
          same_length = w.same_length ∙ sym same;
          named = λ i h. names2 i (omega (arith, same));
          left = λ s o h e. w.left s o (omega (arith, same)) e;
          step = λ s o h q e. w.step s o (omega (arith, same)) q e;
          next = λ s h o u.
              (let hs : s < used c = omega (arith, same) in
              let z = merge.unjoined2 c cuts joins pend col g f m s u in
              reads2 (outer c s) (λ x e. (w.left s x hs e, λ q. inner s hs o z.1 (e ∙ ap Some q)))
              ∙ w.next s hs o z.1);
        }

  -- ## A fork

  module _ (word p : ℕ) (a : Active c cuts joins p) (free : word ≡ 0 → (b : ℕ) → pend b ≡ true → Rattle.cw_trace.specs.Columns.gap c (col b) ≡ Rattle.cw_trace.specs.Columns.gap c p → ⊥)
      (taken : word ≢ 0 → (b : ℕ) × (pend b ≡ true) × (Rattle.cw_trace.specs.Columns.gap c (col b) ≡ Rattle.cw_trace.specs.Columns.gap c p)) where
    abbrev d3 : ColumnTable
    d3 = forked word p c

    abbrev u : ℕ
    u = used c

    abbrev two : List (Option ℕ)
    two = outer_at c p ∷ outer_at c p ∷ []

    outer_old : (s : ℕ) → s < u → outer d3 s ≡ outer c s
    outer_old s h = ap fork_in (get_append c.outers two s (omega (arith, w.same_length)))

    outer_new : (s : ℕ) → s ≡ u → outer d3 s ≡ outer_at c p
    outer_new s e = ap (outer d3) (e ∙ sym w.same_length) ∙ ap fork_in (get_next c.outers (outer_at c p) (outer_at c p ∷ []))

    trace_old : (x : ℕ) → x < u → is_trace d3 x ≡ is_trace c x
    trace_old x h = ap is_some (fork.trace_old c cuts joins pend col g word p a free taken x h)

    -- a column's own fork is split where the column names a trace
    cut_of : (x : ℕ) → 0 < x → x < u → has joins (left_column_of x) ≡ false → is_trace c x ≡ has cuts (left_column_of x)
    cut_of x q h un =
        w.named x h ∙ ap (λ b. b || is_apart cuts joins x) (ne_eqb x 0 (λ e. omega (arith, e))) ∙ ap (λ b. has cuts (left_column_of x) && not b) un ∙ whole (has cuts (left_column_of x)) where
          whole : (b : Bool) → (b && true) ≡ b
          whole true = refl
          whole false = refl

    even_left : (n : ℕ) → nat_eq (suc n % 2) 1 ≡ false → (n % 2 ≡ 1) × (left_column_of (suc n) ≡ n)
    even_left n e = by_even (λ q. cc (eq-eqb (suc n % 2) 1 q, e)) where
      by_even : (suc n % 2 ≢ 1) → (n % 2 ≡ 1) × (left_column_of (suc n) ≡ n)
      by_even ne = (omega (arith, ne), omega (arith, ne))

    -- what is set at the fork is what the walk finds then
    at_walk : (q : ℕ) → q ≡ p → (k : ℕ) → q ≤ k → unless_split c (outer_at c q) ≡ outward cuts c.parents k q
    at_walk zero e zero h = refl
    at_walk zero e (suc k) h = refl
    at_walk (suc n) e zero h = absurd (omega arith)
    at_walk (suc n) e (suc k) h = by_tests (is_trace c (suc n)) (nat_eq (suc n % 2) 1) refl refl where
      here : suc n < u
      here = let l : p < u = a.low in omega (arith, e)

      un : has joins (left_column_of (suc n)) ≡ false
      un = ap (λ x. has joins (left_column_of x)) e ∙ a.unjoined (omega (arith, e))

      walks : (x y : Bool) → has cuts (left_column_of (suc n)) ≡ x → nat_eq (suc n % 2) 1 ≡ y → outward cuts c.parents (suc k) (suc n) ≡ (if x then None else if y then Some (suc n) else outward cuts c.parents k (slice_index c.parents (suc n)))
      walks x y p q = ap (λ b. if b then None else if suc n % 2 == 1 then Some (suc n) else outward cuts c.parents k (slice_index c.parents (suc n))) p ∙ ap (λ b. if x then None else if b then Some (suc n) else outward cuts c.parents k (slice_index c.parents (suc n))) q

      sets : (x y : Bool) → is_trace c (suc n) ≡ x → nat_eq (suc n % 2) 1 ≡ y → outer_at c (suc n) ≡ (if x then None else if y then Some (suc n) else outer c n)
      sets x y p q = ap (λ b. if b then None else if suc n % 2 == 1 then Some (suc n) else outer c n) p ∙ ap (λ b. if x then None else if b then Some (suc n) else outer c n) q

      by_tests : (x y : Bool) → is_trace c (suc n) ≡ x → nat_eq (suc n % 2) 1 ≡ y → unless_split c (outer_at c (suc n)) ≡ outward cuts c.parents (suc k) (suc n)
      by_tests true y p q = ap (unless_split c) (sets true y p q) ∙ sym (walks true y (sym (cut_of (suc n) (omega arith) here un) ∙ p) q)
      by_tests false true p q =
          ap (unless_split c) (sets false true p q) ∙ ap (λ b. if b then None else Some (suc n)) p
          ∙ sym (walks false true (sym (cut_of (suc n) (omega arith) here un) ∙ p) q)
      by_tests false false p q =
          let z = even_left n q in
          let some : 0 < n = odd_some n z.0 in
          let low_n : slice_index c.parents n < n = g.rooted n some (omega arith) in
          let same : slice_index c.parents (suc n) ≡ slice_index c.parents n = ap (slice_index c.parents) (plus_one n) ∙ g.pairs n z.0 (omega arith) in
          ap (unless_split c) (sets false false p q)
          ∙ w.next n (omega arith) z.0 (ap (has joins) (sym z.1) ∙ un)
          ∙ outward_alike cuts c.parents u g.rooted c.parents (λ i l. refl) n k (slice_index c.parents n) (omega arith) (omega arith) (omega arith)
          ∙ ap (outward cuts c.parents k) (sym same)
          ∙ sym (walks false false (sym (cut_of (suc n) (omega arith) here un) ∙ p) q) where
            plus_one : (n : ℕ) → suc n ≡ n + 1
            plus_one n = omega arith

    -- the fork outward of a fork has a smaller number
    outer_used : (s x : ℕ) → s < u → s % 2 ≡ 1 → outer c s ≡ Some x → x < u
    outer_used s x h o r = under s h o r where
      under : (s : ℕ) → s < u → s % 2 ≡ 1 → outer c s ≡ Some x → x < u
      under = Rattle.cw_trace.proofs.Segments.Lines.strong (λ s. s < u → s % 2 ≡ 1 → outer c s ≡ Some x → x < u) (λ s more h o r.
          let lower : slice_index c.parents s < s = g.rooted s (odd_some s o) h in
          elim (w.step s x h o r) [
            | inl e ↦ omega (arith, e)
            | inr z ↦ (let up : slice_index c.parents s ≡ z.0 + 1 = z.2 in more z.0 (omega (arith, up)) (omega (arith, up)) z.1 z.3)
          ])

    -- what is set at the fork
    outer_low : (q x : ℕ) → q ≡ p → outer_at c q ≡ Some x → (x < u) × (x % 2 ≡ 1) × ((q ≡ x) ⊎ ((y : ℕ) × (y % 2 ≡ 1) × (q ≡ y + 1) × (outer c y ≡ Some x)))
    outer_low zero x e s = absurd (cc s)
    outer_low (suc n) x e s = by_tests (is_trace c (suc n)) (nat_eq (suc n % 2) 1) refl s where
      by_tests : (v y : Bool) → nat_eq (suc n % 2) 1 ≡ y → (if v then None else if y then Some (suc n) else outer c n) ≡ Some x → (x < u) × (x % 2 ≡ 1) × ((suc n ≡ x) ⊎ ((y : ℕ) × (y % 2 ≡ 1) × (suc n ≡ y + 1) × (outer c y ≡ Some x)))
      by_tests true y q r = absurd (cc r)
      by_tests false true q r = let z : suc n ≡ x = cc r in let l : p < u = a.low in (omega (arith, z, e), ap (λ v. v % 2) (sym z) ∙ eqb-true _ _ q, inl z)
      by_tests false false q r =
          let z = even_left n q in
          let l : p < u = a.low in
          (outer_used n x (omega (arith, e)) z.0 r, w.left n x (omega (arith, e)) r, inr (n, z.0, plus_one n, r)) where
            plus_one : (n : ℕ) → suc n ≡ n + 1
            plus_one n = omega arith

    abbrev used_new : used d3 ≡ u + 2
    used_new = fork.used_new c cuts joins pend col g word p a free taken

    names3 : (i : ℕ) → i < used d3 → is_trace d3 i ≡ names_trace cuts joins i
    names3 i h = elim (fork.column_of c cuts joins pend col g word p a free taken i h) [
      | fork.before l ↦ trace_old i l ∙ w.named i l
      | fork.on_left e ↦ ap (is_trace d3) (e ∙ sym g.lengths.2) ∙ ap (λ x. is_some (Rattle.cw_trace.specs.Columns.trace_in x)) (get_next c.traces None (None ∷ [])) ∙ sym (unnamed i (ap left_column_of e ∙ left_of_odd u g.odd) (omega (arith, e, odd_some u g.odd)))
      | fork.on_right e ↦ ap (is_trace d3) (e ∙ ap (λ x. x + 1) (sym g.lengths.2)) ∙ ap (λ x. is_some (Rattle.cw_trace.specs.Columns.trace_in x)) (get_right c.traces) ∙ sym (unnamed i (ap left_column_of e ∙ left_of_next u g.odd) (omega (arith, e)))
    ] where
      get_right : {A : Type 0} → (xs : List (Option A)) → Rattle.std.specs.List.slice_get (xs ++ None ∷ None ∷ []) (length xs + 1) ≡ Some None
      get_right [] = refl
      get_right (x ∷ xs) = ap (Rattle.std.specs.List.slice_get (x ∷ (xs ++ None ∷ None ∷ []))) (move (length xs)) ∙ get_right xs where
        move : (n : ℕ) → suc n + 1 ≡ suc (n + 1)
        move n = omega arith

      no_cut : (has cuts u ≡ true) ⊎ (has cuts u ≡ false) → has cuts u ≡ false
      no_cut (inr e) = e
      no_cut (inl e) = absurd (let l : u < u = (g.cut_left u e).1 in omega arith)

      unnamed : (i : ℕ) → left_column_of i ≡ u → 0 < i → names_trace cuts joins i ≡ false
      unnamed i e p = ap (λ b. b || is_apart cuts joins i) (ne_eqb i 0 (λ q. omega (arith, q))) ∙ ap (λ x. has cuts x && not (has joins x)) e ∙ ap (λ b. b && not (has joins u)) (no_cut (cases_Bool (has cuts u)))

    reads3 : (o : Option ℕ) → ((x : ℕ) → o ≡ Some x → x < u) → unless_split d3 o ≡ unless_split c o
    reads3 None h = refl
    reads3 (Some x) h = ap (λ b. if b then None else Some x) (trace_old x (h x refl))

    abbrev At : ℕ → Type 0
    At = fork.Col c cuts joins pend col g word p a free taken

    pub forks_fork : Forks d3 cuts joins
    forks_fork = record {
      same_length = length-append c.outers two ∙ ap (λ n. n + 2) w.same_length ∙ sym used_new;
      named = names3;
      left = λ s o h e. left_new s o (fork.column_of c cuts joins pend col g word p a free taken s h) e;
      step = λ s o h q e. step_new s o q (fork.column_of c cuts joins pend col g word p a free taken s h) e;
      next = λ s h o v. next_new s o v (fork.column_of c cuts joins pend col g word p a free taken s h);
    } where
      get_second : {A : Type 0} → (xs : List A) (x y : A) → Rattle.std.specs.List.slice_get (xs ++ x ∷ y ∷ []) (length xs + 1) ≡ Some y
      get_second [] x y = refl
      get_second (z ∷ xs) x y = ap (Rattle.std.specs.List.slice_get (z ∷ (xs ++ x ∷ y ∷ []))) (move (length xs)) ∙ get_second xs x y where
        move : (n : ℕ) → suc n + 1 ≡ suc (n + 1)
        move n = omega arith

      outer_right : (s : ℕ) → s ≡ u + 1 → outer d3 s ≡ outer_at c p
      outer_right s e = ap (outer d3) (e ∙ ap (λ n. n + 1) (sym w.same_length)) ∙ ap fork_in (get_second c.outers (outer_at c p) (outer_at c p))

      even : (s : ℕ) → s % 2 ≡ 1 → s ≡ u + 1 → ⊥
      even s o e = odd_apart s u o g.odd e

      left_new : (s o : ℕ) → At s → outer d3 s ≡ Some o → o % 2 ≡ 1
      left_new s o (fork.before l) e = w.left s o l (sym (outer_old s l) ∙ e)
      left_new s o (fork.on_left q) e = (outer_low p o refl (sym (outer_new s q) ∙ e)).1
      left_new s o (fork.on_right q) e = (outer_low p o refl (sym (outer_right s q) ∙ e)).1

      step_new : (s o : ℕ) → s % 2 ≡ 1 → At s → outer d3 s ≡ Some o → (slice_index d3.parents s ≡ o) ⊎ ((q : ℕ) × (q % 2 ≡ 1) × (slice_index d3.parents s ≡ q + 1) × (outer d3 q ≡ Some o))
      step_new s o v (fork.on_right q) e = absurd (even s v q)
      step_new s o v (fork.before l) e =
          let same = fork.parent_old c cuts joins pend col g word p a free taken s l in
          let lower : slice_index c.parents s < s = g.rooted s (odd_some s v) l in
          elim (w.step s o l v (sym (outer_old s l) ∙ e)) [
            | inl z ↦ inl (same ∙ z)
            | inr z ↦ inr (z.0, z.1, same ∙ z.2, outer_old z.0 (let up : slice_index c.parents s ≡ z.0 + 1 = z.2 in omega (arith, up)) ∙ z.3)
          ]
      step_new s o v (fork.on_left q) e =
          let same = fork.parent_left c cuts joins pend col g word p a free taken s q in
          elim (outer_low p o refl (sym (outer_new s q) ∙ e)).2 [
            | inl z ↦ inl (same ∙ z)
            | inr z ↦ inr (z.0, z.1, same ∙ z.2, outer_old z.0 (let l : p < u = a.low in let up : p ≡ z.0 + 1 = z.2 in omega (arith, up)) ∙ z.3)
          ]

      parents_old : (i : ℕ) → i < u → slice_index d3.parents i ≡ slice_index c.parents i
      parents_old = fork.parent_old c cuts joins pend col g word p a free taken

      next_new : (s : ℕ) → s % 2 ≡ 1 → has joins s ≡ false → At s → before_split d3 s ≡ next_outward d3 cuts s
      next_new s o v (fork.on_right q) = absurd (even s o q)
      next_new s o v (fork.before l) =
          let lower : slice_index c.parents s < s = g.rooted s (odd_some s o) l in
          ap (unless_split d3) (outer_old s l) ∙ reads3 (outer c s) (λ x e. outer_used s x l o e)
          ∙ w.next s l o v
          ∙ sym (outward_alike cuts c.parents u g.rooted d3.parents parents_old s s (slice_index c.parents s) (omega arith) (omega arith) (omega arith))
          ∙ ap (outward cuts d3.parents s) (sym (parents_old s l))
      next_new s o v (fork.on_left q) =
          let l : p < u = a.low in
          ap (unless_split d3) (outer_new s q) ∙ reads3 (outer_at c p) (λ x e. (outer_low p x refl e).0)
          ∙ at_walk p refl u (omega arith)
          ∙ sym (outward_alike cuts c.parents u g.rooted d3.parents parents_old s u p l (omega (arith, q)) (omega arith))
          ∙ ap (outward cuts d3.parents s) (sym (fork.parent_left c cuts joins pend col g word p a free taken s q))
