-- Numbers below a bound that pass a test.
use Rattle.std.proofs.Common.{◌≡◌, ℕ, zero, suc, ◌+◌, ◌<◌, ◌≤◌, List, [], ◌∷◌, ◌++◌, length, refl, ap, sym, ◌∙◌, arith, Bool, true, false, cond, Option, Some, None, inl, inr, subst, length-append}
use Rattle.std.specs.Prelude.{◌⊎◌, ◌&&◌}
use Rattle.std.specs.List.{find, filter, slice_get}
use Rattle.std.proofs.lemmas.List.Elements.{filter-append}
use Rattle.cw_tree.specs.declared.node.Node.{Node}
use Rattle.cw_tree.specs.declared.node.Kind.{Kind}
use Rattle.cw_tree.specs.declared.node.Kind.TheVariants.{Strand, Fork, Block, Read, Write, Out, Tried, Cancel}
use Rattle.cw_tree.specs.Nodes.{below, is_fork, is_strand, is_pending, is_fork_kind, is_block_kind, is_strand_kind, is_pending_state, passes}
use Rattle.cw_tree.proofs.Lists.{lt_or}
use Rattle.cw_trace.specs.Stands.{fork_column}

rank : (ℕ → Bool) → ℕ → ℕ
rank p n = length (filter p (below n))

rank_suc : (p : ℕ → Bool) (n : ℕ) → rank p (suc n) ≡ rank p n + length (filter p (n ∷ []))
unfolding rank
rank_suc p n = ap length (filter-append p (below n) (n ∷ [])) ∙ length-append (filter p (below n)) (filter p (n ∷ []))

one_more : (p : ℕ → Bool) (n : ℕ) → p n ≡ true → length (filter p (n ∷ [])) ≡ 1
one_more p n e = ap (λ b. length (cond b (n ∷ []) [])) e

rank_lt : (p : ℕ → Bool) (f g : ℕ) → f < g → p f ≡ true → rank p f < rank p g
rank_lt p f zero h e = absurd (omega arith)
rank_lt p f (suc g) h e =
    elim (lt_or f g h) [
      | inl q ↦ (let P : ℕ → Type 0 = λ x. rank p f < rank p (suc x) in subst P q (omega (arith, rank_suc p f, one_more p f e)))
      | inr l ↦ omega (arith, rank_lt p f g l e, rank_suc p g)
    ]

-- forks have columns of their own
pub fork_column_one : (t : List Node) (f g : ℕ) → is_fork t f ≡ true → is_fork t g ≡ true → fork_column t f ≡ fork_column t g → f ≡ g
unfolding rank
fork_column_one t f g a b e = by_order (order f g) where
  order : (f g : ℕ) → (f < g) ⊎ ((f ≡ g) ⊎ (g < f))
  order f g = grind arith

  by_order : (f < g) ⊎ ((f ≡ g) ⊎ (g < f)) → f ≡ g
  by_order (inl l) = absurd (let h : rank (is_fork t) f < rank (is_fork t) g = rank_lt (is_fork t) f g l a in omega (arith, e))
  by_order (inr (inl q)) = q
  by_order (inr (inr l)) = absurd (let h : rank (is_fork t) g < rank (is_fork t) f = rank_lt (is_fork t) g f l b in omega (arith, e))

-- a fork's column is followed by those of later forks
pub fork_column_lt : (t : List Node) (f g : ℕ) → f < g → is_fork t f ≡ true → fork_column t f + 2 ≤ fork_column t g
unfolding rank
fork_column_lt t f g l e = let h : rank (is_fork t) f < rank (is_fork t) g = rank_lt (is_fork t) f g l e in omega arith

pub fork_column_suc : (t : List Node) (n : ℕ) → is_fork t n ≡ true → fork_column t (suc n) ≡ fork_column t n + 2
unfolding rank
fork_column_suc t n e = omega (arith, rank_suc (is_fork t) n, one_more (is_fork t) n e)

none_more : (p : ℕ → Bool) (n : ℕ) → p n ≡ false → length (filter p (n ∷ [])) ≡ 0
none_more p n e = ap (λ b. length (cond b (n ∷ []) [])) e

pub fork_column_pass : (t : List Node) (n : ℕ) → is_fork t n ≡ false → fork_column t (suc n) ≡ fork_column t n
unfolding rank
fork_column_pass t n e = omega (arith, rank_suc (is_fork t) n, none_more (is_fork t) n e)

-- a pending block is no fork
pub pending_no_fork : (t : List Node) (n : ℕ) → is_pending t n ≡ true → is_fork t n ≡ false
pending_no_fork t n e = by_node (slice_get t n) e where
  by_kind : (k : Kind) (b : Bool) → (is_block_kind k && b) ≡ true → is_fork_kind k ≡ false
  by_kind Strand b h = absurd (cc h)
  by_kind Fork b h = absurd (cc h)
  by_kind Block b h = refl
  by_kind (Read c v) b h = refl
  by_kind (Write c v) b h = refl
  by_kind (Out v) b h = refl
  by_kind (Tried c) b h = refl
  by_kind (Cancel back) b h = refl

  by_node : (o : Option Node) → passes (λ x. is_block_kind x.kind && is_pending_state x.state) o ≡ true → passes (λ x. is_fork_kind x.kind) o ≡ false
  by_node None h = refl
  by_node (Some x) h = by_kind x.kind (is_pending_state x.state) h

pub find_append : (p : ℕ → Bool) (xs : List ℕ) (y : ℕ) → ((b : ℕ) × (find p xs ≡ Some b) × (find p (xs ++ y ∷ []) ≡ Some b)) ⊎ ((find p xs ≡ None) × (find p (xs ++ y ∷ []) ≡ cond (p y) (Some y) None))
find_append p [] y = inr (refl, refl)
find_append p (x ∷ xs) y = by_test (p x) (find_append p xs y) where
  by_test : (c : Bool) → ((b : ℕ) × (find p xs ≡ Some b) × (find p (xs ++ y ∷ []) ≡ Some b)) ⊎ ((find p xs ≡ None) × (find p (xs ++ y ∷ []) ≡ cond (p y) (Some y) None))
      → ((b : ℕ) × (cond c (Some x) (find p xs) ≡ Some b) × (cond c (Some x) (find p (xs ++ y ∷ [])) ≡ Some b)) ⊎ ((cond c (Some x) (find p xs) ≡ None) × (cond c (Some x) (find p (xs ++ y ∷ [])) ≡ cond (p y) (Some y) None))
  by_test true w = inl (x, refl, refl)
  by_test false w = w

-- the first number below a bound that passes
pub record FirstBelow (p : ℕ → Bool) (n b : ℕ) : Type 0 where
  pub low : b < n
  pub passed : p b ≡ true
  pub first : (a : ℕ) → a < b → p a ≡ false

pub none_below : (p : ℕ → Bool) (n : ℕ) → find p (below n) ≡ None → (a : ℕ) → a < n → p a ≡ false
none_below p zero e a h = absurd (omega arith)
none_below p (suc n) e a h = by_append (find_append p (below n) n) (λ g l. none_below p n g a l) where
  no : (c : Bool) → cond c (Some n) None ≡ None → c ≡ false
  no true f = absurd (cc f)
  no false f = refl

  by_append : ((b : ℕ) × (find p (below n) ≡ Some b) × (find p (below n ++ n ∷ []) ≡ Some b)) ⊎ ((find p (below n) ≡ None) × (find p (below n ++ n ∷ []) ≡ cond (p n) (Some n) None)) → (find p (below n) ≡ None → a < n → p a ≡ false) → p a ≡ false
  by_append (inl w) more = absurd (cc (w.2, e))
  by_append (inr w) more = elim (lt_or a n h) [ inl q ↦ (let P : ℕ → Type 0 = λ x. p x ≡ false in subst P (sym q) (no (p n) (sym w.1 ∙ e))) | inr l ↦ more w.0 l ]

pub some_below : (p : ℕ → Bool) (n b : ℕ) → find p (below n) ≡ Some b → FirstBelow p n b
some_below p zero b e = absurd (cc e)
some_below p (suc n) b e = by_append (find_append p (below n) n) (λ g. some_below p n b g) where
  here : (c : Bool) → cond c (Some n) None ≡ Some b → (c ≡ true) × (n ≡ b)
  here true f = (refl, cc f)
  here false f = absurd (cc f)

  by_append : ((b : ℕ) × (find p (below n) ≡ Some b) × (find p (below n ++ n ∷ []) ≡ Some b)) ⊎ ((find p (below n) ≡ None) × (find p (below n ++ n ∷ []) ≡ cond (p n) (Some n) None)) → (find p (below n) ≡ Some b → FirstBelow p n b) → FirstBelow p (suc n) b
  by_append (inl w) more =
      let same : find p (below n) ≡ Some b = cc (w.1, w.2, e) in
      let f : FirstBelow p n b = more same in
      record { low = omega (arith, f.low); passed = f.passed; first = f.first }
  by_append (inr w) more =
      let z = here (p n) (sym w.1 ∙ e) in
      record { low = omega (arith, z.1); passed = (let P : ℕ → Type 0 = λ x. p x ≡ true in subst P z.1 z.0); first = λ a l. none_below p n w.0 a (omega (arith, z.1)) }

-- a pending block is no strand
pub pending_no_strand : (t : List Node) (n : ℕ) → is_pending t n ≡ true → is_strand t n ≡ false
pending_no_strand t n e = by_node (slice_get t n) e where
  by_kind : (k : Kind) (b : Bool) → (is_block_kind k && b) ≡ true → is_strand_kind k ≡ false
  by_kind Strand b h = absurd (cc h)
  by_kind Fork b h = absurd (cc h)
  by_kind Block b h = refl
  by_kind (Read c v) b h = refl
  by_kind (Write c v) b h = refl
  by_kind (Out v) b h = refl
  by_kind (Tried c) b h = refl
  by_kind (Cancel back) b h = refl

  by_node : (o : Option Node) → passes (λ x. is_block_kind x.kind && is_pending_state x.state) o ≡ true → passes (λ x. is_strand_kind x.kind) o ≡ false
  by_node None h = refl
  by_node (Some x) h = by_kind x.kind (is_pending_state x.state) h
