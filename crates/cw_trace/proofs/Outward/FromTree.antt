-- When a fork may be split and its traces merged, in words of the tree.
use Rattle.std.proofs.Common.{◌≡◌, ◌≢◌, ℕ, ◌+◌, ◌<◌, ◌≤◌, List, ◌∷◌, length, refl, ap, sym, ◌∙◌, arith, Bool, true, false, None, inl, inr}
use Rattle.std.specs.Prelude.{◌⊎◌, ◌%◌, ◌&&◌, ◌||◌, not, slice_index}
use Rattle.std.proofs.lemmas.Bool.{ne_eqb, cases_eq}
use Rattle.cw_tree.specs.declared.node.Node.{Node}
use Rattle.cw_tree.specs.Nodes.{is_fork, is_pending, is_strand}
use Rattle.cw_tree.specs.Walks.{has}
use Rattle.cw_tree.specs.Shape.{IsTree}
use Rattle.cw_tree.proofs.Walks.There.{pending_there, fork_there}
use Rattle.cw_tree.proofs.NodeKinds.{fork_no_strand}
use Rattle.cw_trace.specs.Columns.{ColumnTable, used, owner, is_trace, left_column_of, before_split, split_at, merged}
use Rattle.cw_trace.specs.Stands.{column, fork_column, is_apart, around}
use Rattle.cw_trace.specs.Segments.{Segments, IsOpen, MaySplit, MayMerge}
use Rattle.cw_trace.specs.Keeps.{Keeps}
use Rattle.cw_trace.specs.Running.{IsOrdered, IsUnstarted, IsDone, MayJoinAt}
use Rattle.cw_trace.proofs.Stands.Counting.{pending_no_strand, fork_column_one}
use Rattle.cw_trace.proofs.Segments.Lines.{left_of_odd, left_of_next, left_of_cases, apart_parts, own_le}
use Rattle.cw_trace.proofs.Keeps.Meaning.{odd_column, stands_of}
use Rattle.cw_trace.proofs.Keeps.Owners.{head_of}
use Rattle.cw_trace.proofs.Keeps.Sides.{child_to, strand_in, in_right, InFork, on_side}
use Rattle.cw_trace.proofs.Keeps.GoingOn.{open_above}
use Rattle.cw_trace.proofs.Keeps.Joining.{MayJoin}
use Rattle.cw_trace.proofs.Keeps.Keeping.{keeps_split, keeps_merge}

pub odd_pos : (f : ℕ) → f % 2 ≡ 1 → 0 < f
odd_pos f e = omega arith

module _ (c : ColumnTable) (words : List ℕ) (t : List Node) (cuts joins : List ℕ) (k : Keeps c words t cuts joins) (tr : IsTree t) where
  abbrev g : Segments c cuts joins (is_pending t) (column t (used c))
  g = k.segments

  -- the fork node of a column, and the column that it was made from
  pub record ForkAt (i : ℕ) : Type 0 where
    pub node : ℕ
    pub is : is_fork t node ≡ true
    pub at : fork_column t node ≡ left_column_of i
    pub from : slice_index c.parents (left_column_of i) ≡ column t (used c) node

  pub left_pair : (i : ℕ) → 0 < i → i < used c → left_column_of i + 1 < used c
  left_pair i p h = by_odd (used c) i p h g.odd where
    by_odd : (n i : ℕ) → 0 < i → i < n → n % 2 ≡ 1 → left_column_of i + 1 < n
    by_odd n i p h o = omega arith

  pub fork_at : (i : ℕ) → 0 < i → i < used c → ForkAt i
  fork_at i p h =
      let z = k.all_used i h p in
      record { node = z.0; is = z.1; at = z.2; from = ap (slice_index c.parents) (sym z.2) ∙ k.forked_from z.0 z.1 (let l = left_pair i p h in omega (arith, z.2)) }

  left_odd : (i : ℕ) → 0 < i → left_column_of i % 2 ≡ 1
  left_odd i p = omega arith

  pub same_parent : (i : ℕ) → 0 < i → i < used c → slice_index c.parents i ≡ slice_index c.parents (left_column_of i)
  same_parent i p h = elim (left_of_cases i p) [
    | inl e ↦ ap (slice_index c.parents) e
    | inr e ↦ ap (slice_index c.parents) e ∙ g.pairs (left_column_of i) (left_odd i p) (let l = left_pair i p h in omega arith)
  ]

  -- a fork that was not joined and whose columns name no traces was not split
  pub uncut : (f : ℕ) → f < used c → f % 2 ≡ 1 → is_trace c f ≡ false → has joins f ≡ false → has cuts f ≡ false
  uncut f low left whole un =
      let named = k.outside.named f low in
      let apart : is_apart cuts joins f ≡ false = sym (ap (λ b. b || is_apart cuts joins f) (ne_eqb f 0 (λ e. omega (arith, e, odd_pos f left)))) ∙ sym named ∙ whole in
      sym (whole_of (has cuts f)) ∙ ap (λ b. has cuts f && not b) (sym un) ∙ sym (ap (λ x. has cuts x && not (has joins x)) (left_of_odd f left)) ∙ apart where
        whole_of : (b : Bool) → (b && true) ≡ b
        whole_of true = refl
        whole_of false = refl

  -- ## Splits

  module _ (f : ℕ) (low : f < used c) (left : f % 2 ≡ 1) (whole : is_trace c f ≡ false) (u : IsUnstarted t joins f) where
    -- nothing but the right strand has its column
    nothing_there : (x : ℕ) → x < length t → is_strand t x ≡ false → column t (used c) x ≡ f + 1 → ⊥
    nothing_there x h ns e =
        let under = in_right t tr (used c) u.fork u.right u.is u.some u.low u.child u.side x h (e ∙ ap (λ n. n + 1) (sym u.at)) in
        let ne : u.right ≢ x = λ q. cc (ap (is_strand t) q, ns, strand_in t tr u.right u.fork u.some u.low u.child u.is) in
        let z = child_to t tr u.right x h under ne in
        u.nothing z.0 z.1 z.2 z.3

    pub may_split : MaySplit c cuts joins (is_pending t) (column t (used c)) f
    may_split = record {
      low = low;
      left = left;
      unjoined = u.unjoined;
      uncut = uncut f low left whole u.unjoined;
      no_block = λ b p e. nothing_there b (pending_there t b p) (pending_no_strand t b p) e;
      no_fork = λ i p h e.
          (let z = fork_at i p h in
          nothing_there z.node (fork_there t z.node z.is) (fork_no_strand t z.node z.is) (sym z.from ∙ sym (same_parent i p h) ∙ e));
    }

    pub split_keeps : before_split c f ≡ None → Keeps (split_at f c) words t (f ∷ cuts) joins
    split_keeps e = keeps_split c words t cuts joins k f may_split (sym (k.outside.next f low left u.unjoined) ∙ e)

  -- ## Merges

  module _ (is_open : ℕ → Bool) (o : IsOrdered c t cuts joins is_open) (f : ℕ) (low : f < used c) (left : f % 2 ≡ 1) (split : is_trace c f ≡ true) (done : IsDone t is_open f) where
    apart : is_apart cuts joins f ≡ true
    apart = sym (ap (λ b. b || is_apart cuts joins f) (ne_eqb f 0 (λ e. omega (arith, e, odd_pos f left)))) ∙ sym (k.outside.named f low) ∙ split

    is_cut : has cuts f ≡ true
    is_cut = sym (ap (has cuts) (left_of_odd f left)) ∙ (apart_parts cuts joins f apart).0

    unjoined : has joins f ≡ false
    unjoined = sym (ap (has joins) (left_of_odd f left)) ∙ (apart_parts cuts joins f apart).1

    around_less : (x : ℕ) → 0 < x → x < used c → around c x < x
    around_less x p h =
        let l : slice_index c.parents x < x = g.rooted x p h in
        let le : owner c (slice_index c.parents x) ≤ slice_index c.parents x = own_le c cuts joins (is_pending t) (column t (used c)) g (slice_index c.parents x) (omega arith) in
        omega arith

    -- nothing that is open stands in the traces
    pub nothing_open : (x : ℕ) → x < length t → is_open x ≡ true → (owner c (column t (used c) x) ≡ f) ⊎ (owner c (column t (used c) x) ≡ f + 1) → ⊥
    nothing_open x h ox e =
        let st = stands_of c words t cuts joins k in
        let some : 0 < owner c (column t (used c) x) = elim e [ inl q ↦ omega (arith, q, odd_pos f left) | inr q ↦ omega (arith, q) ] in
        let is_left : left_column_of (owner c (column t (used c) x)) ≡ f = elim e [ inl q ↦ ap left_column_of q ∙ left_of_odd f left | inr q ↦ ap left_column_of q ∙ left_of_next f left ] in
        let w = head_of c words t cuts joins tr st x h some in
        let y = w.1 in
        let same : w.0 ≡ done.fork = fork_column_one t w.0 done.fork y.fork done.is (y.column_is ∙ is_left ∙ sym done.at) in
        elim (cases_eq w.0 x) [
          | inr ne ↦
              (let z = child_to t tr w.0 x h y.above ne in
              cc (open_above c words t cuts joins tr k is_open o z.0 x h ox z.4, done.done z.0 z.1 z.2 (z.3 ∙ same)))
          | inl q ↦
              -- the fork itself is of the trace around it
              (let low : around c (owner c (column t (used c) x)) < owner c (column t (used c) x) = around_less (owner c (column t (used c) x)) some y.used_up in
              let own : owner c (column t (used c) w.0) ≡ owner c (column t (used c) x) = ap (λ m. owner c (column t (used c) m)) q in
              omega (arith, y.outside, own))
        ]

    pub may_merge : MayMerge c cuts joins (is_pending t) (column t (used c)) f
    may_merge = record {
      low = low;
      left = left;
      unjoined = unjoined;
      cut = is_cut;
      no_block = λ b p. ((λ e. nothing_open b (pending_there t b p) (o.pending b p) (inl e)), (λ e. nothing_open b (pending_there t b p) (o.pending b p) (inr e)));
      no_fork = λ s. ((λ w. in_fork s w (inl w.outside)), (λ w. in_fork s w (inr w.outside)));
    } where
      in_fork : {x : ℕ} (s : ℕ) → IsOpen c joins x s → (around c s ≡ f) ⊎ (around c s ≡ f + 1) → ⊥
      in_fork s w e =
          let p = odd_pos s w.left in
          let z = fork_at s p w.low in
          let own_left : left_column_of s ≡ s = left_of_odd s w.left in
          let pair : fork_column t z.node + 1 < used c = let l = left_pair s p w.low in omega (arith, z.at) in
          let opened = o.forks z.node z.is pair (ap (has joins) (z.at ∙ own_left) ∙ w.unjoined) in
          let same : owner c (column t (used c) z.node) ≡ around c s = ap (owner c) (sym z.from ∙ ap (slice_index c.parents) own_left) in
          nothing_open z.node (fork_there t z.node z.is) opened (elim e [ inl q ↦ inl (same ∙ q) | inr q ↦ inr (same ∙ q) ])

    pub merge_keeps : Keeps (merged f c) words t cuts (f ∷ joins)
    merge_keeps = keeps_merge c words t cuts joins k tr f may_merge

  -- ## Joins

  pub may_join : (is_open : ℕ → Bool) → IsOrdered c t cuts joins is_open → (f : ℕ) → MayJoinAt c t cuts joins is_open f → MayJoin c cuts joins f
  may_join is_open o f m =
      let d = m.done in
      record {
        low = let l = m.low in omega arith;
        left = ap (λ n. n % 2) (sym d.at) ∙ odd_column t d.fork;
        uncut = m.uncut;
        no_fork = λ s h odd un p e.
            (let z = fork_at s (odd_pos s odd) h in
            let own_left : left_column_of s ≡ s = left_of_odd s odd in
            let from : slice_index c.parents s ≡ column t (used c) z.node = ap (slice_index c.parents) (sym own_left) ∙ z.from in
            let pair : fork_column t z.node + 1 < used c = let l = left_pair s (odd_pos s odd) h in omega (arith, z.at) in
            let opened = o.forks z.node z.is pair (ap (has joins) (z.at ∙ own_left) ∙ un) in
            let never : (b : Bool) → InFork t tr (used c) d.fork z.node b → ⊥ = λ b w. cc (open_above c words t cuts joins tr k is_open o w.strand z.node (fork_there t z.node z.is) opened w.over, d.done w.strand w.some w.low w.child) in
            elim (left_of_cases (slice_index c.parents s) p) [
              | inl q ↦ never false (on_side t tr (used c) false d.fork d.is z.node (fork_there t z.node z.is) (sym from ∙ q ∙ e ∙ sym d.at))
              | inr q ↦ never true (on_side t tr (used c) true d.fork d.is z.node (fork_there t z.node z.is) (sym from ∙ q ∙ ap (λ n. n + 1) (e ∙ sym d.at)))
            ]);
      }
