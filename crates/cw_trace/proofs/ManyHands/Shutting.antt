-- Open nodes stay ordered as one of them is open no more, and other places go on.
use Rattle.std.proofs.Common.{◌≡◌, ◌≢◌, ℕ, ◌+◌, ◌<◌, List, length, ap, sym, ◌∙◌, arith, Bool, true, false, inl, inr, subst, eq-eqb}
use Rattle.std.specs.Prelude.{if◌then◌else◌}
use Rattle.std.proofs.lemmas.Bool.{ne_eqb, cases_eq}
use Rattle.cw_tree.specs.declared.node.Node.{Node}
use Rattle.cw_tree.specs.Nodes.{parent_of, is_fork, is_pending}
use Rattle.cw_tree.specs.Walks.{has}
use Rattle.cw_tree.specs.Shape.{IsTree}
use Rattle.cw_tree.proofs.NextNodes.Kept.{ancestor_kept}
use Rattle.cw_trace.specs.Columns.{ColumnTable, used}
use Rattle.cw_trace.specs.Stands.{fork_column}
use Rattle.cw_trace.specs.Running.{IsUnsplit, IsOrdered, MayGoOn}
use Rattle.cw_trace.specs.OrderedRuns.{shuts}
use Rattle.cw_trace.proofs.Keeps.Ending.{SameShape, parents_kept, fork_column_same}

-- what a step leaves that shuts node q
pub record Shut (c d : ColumnTable) (t u : List Node) (joins joins2 : List ℕ) (is_open : ℕ → Bool) (q : ℕ) : Type 0 where
  pub shape : SameShape t u
  pub used_same : used d ≡ used c
  pub some : 0 < q
  pub innermost : (n : ℕ) → 0 < n → n < length t → parent_of t n ≡ q → is_open n ≡ true → ⊥
  pub pending_was : (b : ℕ) → is_pending u b ≡ true → (is_pending t b ≡ true) × (b ≢ q)
  pub pending_on : (b : ℕ) → b ≢ q → is_pending t b ≡ true → is_pending u b ≡ true
  pub unjoined_was : (f : ℕ) → is_fork t f ≡ true → fork_column t f + 1 < used c → has joins2 (fork_column t f) ≡ false → (has joins (fork_column t f) ≡ false) × (f ≢ q)
  pub unjoined_on : (f : ℕ) → is_fork t f ≡ true → fork_column t f + 1 < used c → f ≢ q → has joins (fork_column t f) ≡ false → has joins2 (fork_column t f) ≡ false

module _ (c d : ColumnTable) (t u : List Node) (cuts joins joins2 : List ℕ) (is_open : ℕ → Bool) (tr : IsTree t) (q : ℕ) (s : Shut c d t u joins joins2 is_open q) where
  at : (n : ℕ) → n ≢ q → shuts q is_open n ≡ is_open n
  at n ne = ap (λ b. if b then false else is_open n) (ne_eqb n q ne)

  was : (n : ℕ) → shuts q is_open n ≡ true → (n ≢ q) × (is_open n ≡ true)
  was n e = elim (cases_eq n q) [
    | inl same ↦ absurd (cc (sym (ap (λ b. if b then false else is_open n) (eq-eqb n q same)) ∙ e))
    | inr ne ↦ (ne, sym (at n ne) ∙ e)
  ]

  off : (n : ℕ) → is_open n ≡ false → shuts q is_open n ≡ false
  off n e = elim (cases_eq n q) [ inl same ↦ ap (λ b. if b then false else is_open n) (eq-eqb n q same) | inr ne ↦ at n ne ∙ e ]

  low : (n : ℕ) → n < length u → n < length t
  low n h = omega (arith, s.shape.lengths)

  fork_was : (f : ℕ) → is_fork u f ≡ true → is_fork t f ≡ true
  fork_was f e = sym (s.shape.forks f) ∙ e

  column_was : (f : ℕ) → fork_column u f ≡ fork_column t f
  column_was f = fork_column_same t u tr.rooted s.shape f

  wide : (f : ℕ) → fork_column u f + 1 < used d → fork_column t f + 1 < used c
  wide f h = omega (arith, column_was f, s.used_same)

  unsplit_was : (f : ℕ) → IsUnsplit d u cuts f → IsUnsplit c t cuts f
  unsplit_was f (inl h) = inl (omega (arith, column_was f, s.used_same))
  unsplit_was f (inr e) = inr (sym (ap (has cuts) (column_was f)) ∙ e)

  -- what is said of the parent of a node
  fork_above : (n : ℕ) → is_fork u (parent_of u n) ≡ true → is_fork t (parent_of t n) ≡ true
  fork_above n e = fork_was (parent_of t n) (ap (is_fork u) (sym (s.shape.parents n)) ∙ e)

  unsplit_above : (n : ℕ) → IsUnsplit d u cuts (parent_of u n) → IsUnsplit c t cuts (parent_of t n)
  unsplit_above n e = let P : ℕ → Type 0 = λ f. IsUnsplit d u cuts f in unsplit_was (parent_of t n) (subst P (s.shape.parents n) e)

  siblings : (n m : ℕ) → parent_of u n ≡ parent_of u m → parent_of t n ≡ parent_of t m
  siblings n m e = sym (s.shape.parents n) ∙ e ∙ s.shape.parents m

  pub shut_ordered : IsOrdered c t cuts joins is_open → IsOrdered d u cuts joins2 (shuts q is_open)
  shut_ordered o = record {
    root = (let some = s.some in at 0 (λ e. omega (arith, e)) ∙ o.root);
    pending = λ b e. (let z = s.pending_was b e in at b z.1 ∙ o.pending b z.0);
    forks = λ f e h un. (let z = s.unjoined_was f (fork_was f e) (wide f h) (sym (ap (has joins2) (column_was f)) ∙ un) in at f z.1 ∙ o.forks f (fork_was f e) (wide f h) z.0);
    joined = λ f e h op. (let z = was f op in ap (has joins2) (column_was f) ∙ s.unjoined_on f (fork_was f e) (wide f h) z.0 (o.joined f (fork_was f e) (wide f h) z.1));
    kinds = λ n h e. (let z = was n e in elim (o.kinds n (low n h) z.1) [
      | inl y ↦ inl (s.shape.strands n ∙ y)
      | inr y ↦ elim y [ inl x ↦ inr (inl (s.shape.forks n ∙ x)) | inr x ↦ inr (inr (s.pending_on n z.0 x)) ]
    ]);
    outer = λ n p h e. (let z = was n e in ap (shuts q is_open) (s.shape.parents n) ∙ at (parent_of t n) (λ y. s.innermost n p (low n h) y z.1) ∙ o.outer n p (low n h) z.1);
    one = λ n m p r h g e f same nf. o.one n m p r (low n h) (low m g) (was n e).1 (was m f).1 (siblings n m same) (sym (s.shape.forks (parent_of t n)) ∙ ap (is_fork u) (sym (s.shape.parents n)) ∙ nf);
    left_first = λ l r n p less h same f un hn over ne.
        off l (o.left_first l r n p less (low r h) (siblings l r same) (fork_above r f) (unsplit_above r un) (low n hn) (sym (ancestor_kept t u (parents_kept t u tr.rooted s.shape) r n (low n hn)) ∙ over) ne);
  }

  pub shut_goes : (p : ℕ) → p ≢ q → MayGoOn c t cuts is_open p → MayGoOn d u cuts (shuts q is_open) p
  shut_goes p ne m = record {
    there = omega (arith, m.there, s.shape.lengths);
    opened = at p ne ∙ m.opened;
    no_fork = s.shape.forks p ∙ m.no_fork;
    innermost = λ n some h e f. m.innermost n some (low n h) (sym (s.shape.parents n) ∙ e) (was n f).1;
    left_done = λ l some less same f un. off l (m.left_done l some less (siblings l p same) (fork_above p f) (unsplit_above p un));
  }
