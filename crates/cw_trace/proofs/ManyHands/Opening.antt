-- Open nodes stay ordered as nodes are made at a place where a strand may go on, and other places go on.
use Rattle.std.proofs.Common.{◌≡◌, ◌≢◌, ℕ, ◌+◌, ◌<◌, ◌≤◌, List, ◌++◌, length, ap, sym, ◌∙◌, arith, Bool, true, false, inl, inr, subst, nat_lt, length-append}
use Rattle.std.specs.Prelude.{◌⊎◌, if◌then◌else◌}
use Rattle.std.proofs.lemmas.Bool.{lt-ltb, ltb-true, cases_eq, false_from_ne_true}
use Rattle.cw_tree.specs.declared.node.Node.{Node}
use Rattle.cw_tree.specs.Nodes.{parent_of, is_strand, is_fork, is_pending, is_strand_kind, is_fork_kind, is_block_kind, is_pending_state}
use Rattle.std.specs.Prelude.{◌&&◌}
use Rattle.cw_tree.specs.Walks.{is_ancestor, has}
use Rattle.cw_tree.specs.Shape.{IsTree}
use Rattle.cw_tree.proofs.NextNodes.Growing.{node_grown, number_grown, ancestor_grown}
use Rattle.cw_tree.proofs.Walks.Upward.{ancestor_cases}
use Rattle.cw_trace.specs.Columns.{ColumnTable, used}
use Rattle.cw_trace.specs.Stands.{fork_column}
use Rattle.cw_trace.specs.Running.{IsUnsplit, IsOrdered, MayGoOn}
use Rattle.cw_trace.specs.OrderedRuns.{opens}
use Rattle.cw_trace.proofs.Segments.Lines.{le_or_lt, strong}
use Rattle.cw_trace.proofs.Keeps.Grow.{fork_column_append}

-- what is known of the nodes that are made at place p: those that pass the test are open
pub record Made (c d : ColumnTable) (t s : List Node) (joins : List ℕ) (p : ℕ) (new : ℕ → Bool) : Type 0 where
  pub parents : (k : ℕ) → length t ≤ k → k < length (t ++ s) → (parent_of (t ++ s) k ≡ p) ⊎ (length t ≤ parent_of (t ++ s) k)
  pub pending : (k : ℕ) → length t ≤ k → is_pending (t ++ s) k ≡ true → new k ≡ true
  pub forks : (k : ℕ) → length t ≤ k → is_fork (t ++ s) k ≡ true → new k ≡ true
  pub unjoined : (k : ℕ) → length t ≤ k → is_fork (t ++ s) k ≡ true → fork_column (t ++ s) k + 1 < used d → has joins (fork_column (t ++ s) k) ≡ false
  pub kinds : (k : ℕ) → length t ≤ k → k < length (t ++ s) → new k ≡ true → (is_strand (t ++ s) k ≡ true) ⊎ ((is_fork (t ++ s) k ≡ true) ⊎ (is_pending (t ++ s) k ≡ true))
  pub outer : (k : ℕ) → length t ≤ k → k < length (t ++ s) → length t ≤ parent_of (t ++ s) k → new (parent_of (t ++ s) k) ≡ true
  -- no two of them are children of one strand or block, and nothing stands beneath a second child
  pub alone : (k j : ℕ) → length t ≤ k → length t ≤ j → k < length (t ++ s) → j < length (t ++ s) → parent_of (t ++ s) k ≡ parent_of (t ++ s) j → is_fork (t ++ s) (parent_of (t ++ s) k) ≡ false → k ≡ j
  pub leaves : (l r k : ℕ) → length t ≤ l → l < r → r < length (t ++ s) → k < length (t ++ s) → is_ancestor (t ++ s) r k ≡ true → k ≡ r
  -- the forks that were there have columns as before
  pub wide : (f : ℕ) → is_fork t f ≡ true → (fork_column t f + 1 < used d → fork_column t f + 1 < used c) × (fork_column t f + 1 < used c → fork_column t f + 1 < used d)

module _ (c d : ColumnTable) (t s : List Node) (cuts joins : List ℕ) (is_open : ℕ → Bool) (tr : IsTree t) (tr2 : IsTree (t ++ s)) (p : ℕ) (m : MayGoOn c t cuts is_open p) (new : ℕ → Bool) (g : Made c d t s joins p new) where
  abbrev u : List Node
  u = t ++ s

  abbrev now : ℕ → Bool
  now = opens (length t) new is_open

  old : (n : ℕ) → n < length t → now n ≡ is_open n
  old n h = ap (λ b. if b then is_open n else new n) (lt-ltb n (length t) h)

  fresh : (n : ℕ) → length t ≤ n → now n ≡ new n
  fresh n h = ap (λ b. if b then is_open n else new n) (false_from_ne_true (nat_lt n (length t)) (λ e. let l : n < length t = ltb-true n (length t) e in omega arith))

  longer : (n : ℕ) → n < length t → n < length u
  longer n h = omega (arith, length-append t s)

  parent_old : (n : ℕ) → n < length t → parent_of u n ≡ parent_of t n
  parent_old n h = number_grown t s (λ x. x.parent) n h

  parent_low : (n : ℕ) → 0 < n → n < length t → parent_of t n < length t
  parent_low n q h = let l : parent_of t n < n = tr.rooted n q h in omega arith

  strand_old : (n : ℕ) → n < length t → is_strand u n ≡ is_strand t n
  strand_old = node_grown t s (λ x. is_strand_kind x.kind)

  fork_old : (n : ℕ) → n < length t → is_fork u n ≡ is_fork t n
  fork_old = node_grown t s (λ x. is_fork_kind x.kind)

  pending_old : (n : ℕ) → n < length t → is_pending u n ≡ is_pending t n
  pending_old = node_grown t s (λ x. is_block_kind x.kind && is_pending_state x.state)

  column_old : (n : ℕ) → n < length t → fork_column u n ≡ fork_column t n
  column_old n h = fork_column_append t s tr.rooted 0 n (omega arith)

  wide_old : (f : ℕ) → f < length t → is_fork t f ≡ true → fork_column u f + 1 < used d → fork_column t f + 1 < used c
  wide_old f h e l = (g.wide f e).0 (omega (arith, column_old f h))

  unsplit_old : (f : ℕ) → f < length t → is_fork t f ≡ true → IsUnsplit d u cuts f → IsUnsplit c t cuts f
  unsplit_old f h e (inr q) = inr (sym (ap (has cuts) (column_old f h)) ∙ q)
  unsplit_old f h e (inl l) = elim (le_or_lt (fork_column t f + 2) (used c)) [
    | inr z ↦ inl z
    | inl z ↦ absurd (let wide : fork_column t f + 1 < used d = (g.wide f e).1 (omega arith) in omega (arith, column_old f h))
  ]

  -- what stands above a new node, and was there, stands above the place
  beneath : (a : ℕ) → a < length t → (k : ℕ) → length t ≤ k → k < length u → is_ancestor u a k ≡ true → is_ancestor t a p ≡ true
  beneath a low = strong (λ k. length t ≤ k → k < length u → is_ancestor u a k ≡ true → is_ancestor t a p ≡ true) by_step where
    by_step : (k : ℕ) → ((j : ℕ) → j < k → length t ≤ j → j < length u → is_ancestor u a j ≡ true → is_ancestor t a p ≡ true) → length t ≤ k → k < length u → is_ancestor u a k ≡ true → is_ancestor t a p ≡ true
    by_step k more l h e =
        let some : 0 < k = (let root = tr.some in omega arith) in
        elim (ancestor_cases u tr2.rooted a k some h e) [
          | inl q ↦ absurd (omega (arith, q))
          | inr up ↦ elim (g.parents k l h) [
            | inl q ↦ sym (ancestor_grown t s tr.rooted a p m.there) ∙ ap (is_ancestor u a) (sym q) ∙ up
            | inr y ↦ (let less : parent_of u k < k = tr2.rooted k some h in more (parent_of u k) less y (omega arith) up)
          ]
        ]

  -- the parent of an old node, as it was
  fork_above : (n : ℕ) → 0 < n → n < length t → is_fork u (parent_of u n) ≡ is_fork t (parent_of t n)
  fork_above n q h = ap (is_fork u) (parent_old n h) ∙ fork_old (parent_of t n) (parent_low n q h)

  unsplit_above : (n : ℕ) → 0 < n → n < length t → is_fork t (parent_of t n) ≡ true → IsUnsplit d u cuts (parent_of u n) → IsUnsplit c t cuts (parent_of t n)
  unsplit_above n q h e un = let P : ℕ → Type 0 = λ f. IsUnsplit d u cuts f in unsplit_old (parent_of t n) (parent_low n q h) e (subst P (parent_old n h) un)

  siblings : (n k : ℕ) → n < length t → k < length t → parent_of u n ≡ parent_of u k → parent_of t n ≡ parent_of t k
  siblings n k h l e = sym (parent_old n h) ∙ e ∙ parent_old k l

  module _ (o : IsOrdered c t cuts joins is_open) where
    -- no old node beside a new one is open
    beside : (n k : ℕ) → 0 < n → n < length t → length t ≤ k → k < length u → now n ≡ true → parent_of u n ≡ parent_of u k → ⊥
    beside n k q h l hk e same = elim (g.parents k l hk) [
      | inl up ↦ m.innermost n q h (sym (parent_old n h) ∙ same ∙ up) (sym (old n h) ∙ e)
      | inr y ↦ (let low : parent_of t n < length t = parent_low n q h in omega (arith, parent_old n h, same))
    ]

    one_open : (n k : ℕ) → 0 < n → 0 < k → n < length u → k < length u → now n ≡ true → now k ≡ true → parent_of u n ≡ parent_of u k → is_fork u (parent_of u n) ≡ false → n ≡ k
    one_open n k q r h l e f same nf = elim (le_or_lt (length t) n) [
      | inr n_old ↦ elim (le_or_lt (length t) k) [
        | inr k_old ↦ o.one n k q r n_old k_old (sym (old n n_old) ∙ e) (sym (old k k_old) ∙ f) (siblings n k n_old k_old same) (sym (fork_above n q n_old) ∙ nf)
        | inl k_new ↦ absurd (beside n k q n_old k_new l e same)
      ]
      | inl n_new ↦ elim (le_or_lt (length t) k) [ inr k_old ↦ absurd (beside k n r k_old n_new h f (sym same)) | inl k_new ↦ g.alone n k n_new k_new h l same nf ]
    ]

    left_old : (l r n : ℕ) → 0 < l → l < r → r < length t → parent_of u l ≡ parent_of u r → is_fork u (parent_of u r) ≡ true → IsUnsplit d u cuts (parent_of u r) → n < length u → is_ancestor u r n ≡ true → n ≢ r → is_open l ≡ false
    left_old l r n q less h same f un hn over ne =
        let pos : 0 < r = omega arith in
        let fork : is_fork t (parent_of t r) ≡ true = sym (fork_above r pos h) ∙ f in
        let unsplit = unsplit_above r pos h fork un in
        let kin = siblings l r (omega arith) h same in
        elim (le_or_lt (length t) n) [
          | inr n_old ↦ o.left_first l r n q less h kin fork unsplit n_old (sym (ancestor_grown t s tr.rooted r n n_old) ∙ over) ne
          | inl n_new ↦ (
              let above : is_ancestor t r p ≡ true = beneath r h n n_new hn over in
              elim (cases_eq p r) [
                | inr other ↦ o.left_first l r p q less h kin fork unsplit m.there above other
                | inl e ↦ (
                    let P : ℕ → Type 0 = λ j. (l < j) × (parent_of t l ≡ parent_of t j) × (is_fork t (parent_of t j) ≡ true) × IsUnsplit c t cuts (parent_of t j) in
                    let z = subst P (sym e) (less, kin, fork, unsplit) in
                    m.left_done l q z.0 z.1 z.2 z.3)
              ])
        ]

    left_new : (l r n : ℕ) → 0 < l → l < r → length t ≤ r → r < length u → parent_of u l ≡ parent_of u r → is_fork u (parent_of u r) ≡ true → n < length u → is_ancestor u r n ≡ true → n ≢ r → ⊥
    left_new l r n q less past h same f hn over ne = elim (g.parents r past h) [
      | inl up ↦ cc (sym (ap (is_fork u) up ∙ fork_old p m.there) ∙ f, m.no_fork)
      | inr y ↦ (
          let low : parent_of u l < l = tr2.rooted l q (omega arith) in
          ne (g.leaves l r n (omega (arith, same)) less h hn over))
    ]

    pub made_ordered : IsOrdered d u cuts joins (opens (length t) new is_open)
    made_ordered = record {
      root = old 0 tr.some ∙ o.root;
      pending = λ b e. elim (le_or_lt (length t) b) [ inr h ↦ old b h ∙ o.pending b (sym (pending_old b h) ∙ e) | inl l ↦ fresh b l ∙ g.pending b l e ];
      forks = λ f e h un. elim (le_or_lt (length t) f) [
        | inr l ↦ (let was = sym (fork_old f l) ∙ e in old f l ∙ o.forks f was (wide_old f l was h) (sym (ap (has joins) (column_old f l)) ∙ un))
        | inl l ↦ fresh f l ∙ g.forks f l e
      ];
      joined = λ f e h op. elim (le_or_lt (length t) f) [
        | inr l ↦ (let was = sym (fork_old f l) ∙ e in ap (has joins) (column_old f l) ∙ o.joined f was (wide_old f l was h) (sym (old f l) ∙ op))
        | inl l ↦ g.unjoined f l e h
      ];
      kinds = λ n h e. elim (le_or_lt (length t) n) [
        | inr l ↦ elim (o.kinds n l (sym (old n l) ∙ e)) [ inl y ↦ inl (strand_old n l ∙ y) | inr y ↦ elim y [ inl x ↦ inr (inl (fork_old n l ∙ x)) | inr x ↦ inr (inr (pending_old n l ∙ x)) ] ]
        | inl l ↦ g.kinds n l h (sym (fresh n l) ∙ e)
      ];
      outer = λ n q h e. elim (le_or_lt (length t) n) [
        | inr l ↦ ap now (parent_old n l) ∙ old (parent_of t n) (parent_low n q l) ∙ o.outer n q l (sym (old n l) ∙ e)
        | inl l ↦ elim (g.parents n l h) [ inl up ↦ ap now up ∙ old p m.there ∙ m.opened | inr y ↦ fresh (parent_of u n) y ∙ g.outer n l h y ]
      ];
      one = one_open;
      left_first = λ l r n q less h same f un hn over ne. elim (le_or_lt (length t) r) [
        | inr r_old ↦ old l (omega arith) ∙ left_old l r n q less r_old same f un hn over ne
        | inl r_new ↦ absurd (left_new l r n q less r_new h same f hn over ne)
      ];
    }

  -- a place goes on unless one of the new nodes is open there
  pub made_goes : (x : ℕ) → MayGoOn c t cuts is_open x → ((k : ℕ) → length t ≤ k → k < length u → parent_of u k ≡ x → new k ≡ true → ⊥) → MayGoOn d u cuts (opens (length t) new is_open) x
  made_goes x w apart = record {
    there = longer x w.there;
    opened = old x w.there ∙ w.opened;
    no_fork = fork_old x w.there ∙ w.no_fork;
    innermost = λ n q h e f. elim (le_or_lt (length t) n) [ inr l ↦ w.innermost n q l (sym (parent_old n l) ∙ e) (sym (old n l) ∙ f) | inl l ↦ apart n l h e (sym (fresh n l) ∙ f) ];
    left_done = λ l q less same f un. (
        let there = w.there in
        let pos : 0 < x = omega arith in
        let fork : is_fork t (parent_of t x) ≡ true = sym (fork_above x pos w.there) ∙ f in
        old l (omega arith) ∙ w.left_done l q less (siblings l x (omega arith) w.there same) fork (unsplit_above x pos w.there fork un));
  }
