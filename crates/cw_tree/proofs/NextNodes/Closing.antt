-- What stays as a block closes, and what it is then.
use Rattle.std.proofs.Common.{◌≡◌, ◌≢◌, ℕ, zero, suc, ◌<◌, List, [], ◌∷◌, length, refl, ap, sym, ◌∙◌, arith, Bool, Option, Some, None, inl, inr}
use Rattle.std.specs.Prelude.{◌⊎◌, ◌&&◌, slice_get, slice_set}
use Rattle.std.proofs.lemmas.Bool.{cases_eq}
use Rattle.std.proofs.lemmas.List.{length-set}
use Rattle.cw_tree.specs.declared.node.Node.{Node}
use Rattle.cw_tree.specs.declared.node.BlockState.{BlockState}
use Rattle.cw_tree.specs.Nodes.{passes, is_node, is_strand_kind, is_block_kind, number_in, parent_of, end_of, is_block, below, all_nodes, closed}
use Rattle.cw_tree.specs.Walks.{IsRooted, path, is_ancestor, is_above, xparent}
use Rattle.cw_tree.specs.Series.{strand_of}
use Rattle.cw_tree.proofs.NextNodes.Kept.{KeepsParents, path_kept, ancestor_kept, is_above_kept, strand_of_kept, xparent_kept}

pub get_set_other : {A : Type 0} → (xs : List A) (i j : ℕ) (y : A) → j ≢ i → slice_get (slice_set xs i y) j ≡ slice_get xs j
get_set_other [] i j y ne = refl
get_set_other (x ∷ xs) zero zero y ne = absurd (ne refl)
get_set_other (x ∷ xs) zero (suc j) y ne = refl
get_set_other (x ∷ xs) (suc i) zero y ne = refl
get_set_other (x ∷ xs) (suc i) (suc j) y ne = get_set_other xs i j y (λ e. ne (ap suc e))

pub get_set_same : {A : Type 0} → (xs : List A) (i : ℕ) (x y : A) → slice_get xs i ≡ Some x → slice_get (slice_set xs i y) i ≡ Some y
get_set_same [] i x y e = absurd (cc e)
get_set_same (z ∷ xs) zero x y e = refl
get_set_same (z ∷ xs) (suc i) x y e = get_set_same xs i x y e

get_there : {A : Type 0} → (xs : List A) (i : ℕ) → i < length xs → slice_get xs i ≡ None → ⊥
get_there [] i h e = absurd (omega arith)
get_there (x ∷ xs) zero h e = absurd (cc e)
get_there (x ∷ xs) (suc i) h e = get_there xs i (omega arith) e

module _ (t : List Node) (b : ℕ) (state : BlockState) (end : ℕ) where
  -- node b as it is then
  abbrev pub shut : Node → Node
  shut x = record x { state = state; end = end }

  closed_at : (x : Node) → slice_get t b ≡ Some x → closed t b state end ≡ slice_set t b (shut x)
  closed_at x e = rw e refl

  closed_past : slice_get t b ≡ None → closed t b state end ≡ t
  closed_past e = rw e refl

  pub closed_here : (x : Node) → slice_get t b ≡ Some x → slice_get (closed t b state end) b ≡ Some (shut x)
  closed_here x e = ap (λ u. slice_get u b) (closed_at x e) ∙ get_set_same t b x (shut x) e

  pub closed_other : (n : ℕ) → n ≢ b → slice_get (closed t b state end) n ≡ slice_get t n
  closed_other n ne = by (slice_get t b) refl where
    by : (o : Option Node) → slice_get t b ≡ o → slice_get (closed t b state end) n ≡ slice_get t n
    by None e = ap (λ u. slice_get u n) (closed_past e)
    by (Some x) e = ap (λ u. slice_get u n) (closed_at x e) ∙ get_set_other t b n (shut x) ne

  pub length_closed : length (closed t b state end) ≡ length t
  length_closed = by (slice_get t b) refl where
    by : (o : Option Node) → slice_get t b ≡ o → length (closed t b state end) ≡ length t
    by None e = ap length (closed_past e)
    by (Some x) e = ap length (closed_at x e) ∙ length-set t b (shut x)

  pub all_nodes_closed : all_nodes (closed t b state end) ≡ all_nodes t
  all_nodes_closed = ap below length_closed

  -- what looks at a node alone, and neither at its state nor at its end
  pub same_closed : {X : Type 0} (f : Option Node → X) → ((x : Node) → f (Some (shut x)) ≡ f (Some x)) → (n : ℕ) → f (slice_get (closed t b state end) n) ≡ f (slice_get t n)
  same_closed f e n = by (cases_eq n b) (slice_get t b) refl where
    by : (n ≡ b) ⊎ (n ≡ b → ⊥) → (o : Option Node) → slice_get t b ≡ o → f (slice_get (closed t b state end) n) ≡ f (slice_get t n)
    by (inr ne) o g = ap f (closed_other n ne)
    by (inl q) None g = ap (λ u. f (slice_get u n)) (closed_past g)
    by (inl q) (Some x) g =
        ap (λ m. f (slice_get (closed t b state end) m)) q
        ∙ ap f (closed_here x g)
        ∙ e x
        ∙ ap f (sym g)
        ∙ ap (λ m. f (slice_get t m)) (sym q)

  pub node_closed : (p : Node → Bool) → ((x : Node) → p (shut x) ≡ p x) → (n : ℕ) → is_node p (closed t b state end) n ≡ is_node p t n
  node_closed p e = same_closed (passes p) e

  pub number_closed : (f : Node → ℕ) → ((x : Node) → f (shut x) ≡ f x) → (n : ℕ) → number_in f (slice_get (closed t b state end) n) ≡ number_in f (slice_get t n)
  number_closed f e = same_closed (number_in f) e

  -- any test, and any number, of another node
  pub node_closed_other : (p : Node → Bool) (n : ℕ) → n ≢ b → is_node p (closed t b state end) n ≡ is_node p t n
  node_closed_other p n ne = ap (passes p) (closed_other n ne)

  pub number_closed_other : (f : Node → ℕ) (n : ℕ) → n ≢ b → number_in f (slice_get (closed t b state end) n) ≡ number_in f (slice_get t n)
  number_closed_other f n ne = ap (number_in f) (closed_other n ne)

  -- the block itself has its new state and end
  pub state_closed : (p : BlockState → Bool) → is_node (λ x. is_block_kind x.kind && p x.state) (closed t b state end) b ≡ (is_block t b && p state)
  state_closed p = by (slice_get t b) refl where
    by : (o : Option Node) → slice_get t b ≡ o → is_node (λ x. is_block_kind x.kind && p x.state) (closed t b state end) b ≡ (is_block t b && p state)
    by None e =
        ap (λ u. is_node (λ x. is_block_kind x.kind && p x.state) u b) (closed_past e)
        ∙ ap (passes (λ y. is_block_kind y.kind && p y.state)) e
        ∙ sym (ap (λ o. passes (λ y. is_block_kind y.kind) o && p state) e)
    by (Some x) e = ap (passes (λ y. is_block_kind y.kind && p y.state)) (closed_here x e) ∙ sym (ap (λ o. passes (λ y. is_block_kind y.kind) o && p state) e)

  pub end_closed : b < length t → end_of (closed t b state end) b ≡ end
  end_closed h = by (slice_get t b) refl where
    by : (o : Option Node) → slice_get t b ≡ o → end_of (closed t b state end) b ≡ end
    by None e = absurd (get_there t b h e)
    by (Some x) e = ap (number_in (λ y. y.end)) (closed_here x e)

  module _ (r : IsRooted t) where
    pub keeps_closed : KeepsParents t (closed t b state end)
    keeps_closed = record { rooted = r; parents = λ n h. number_closed (λ x. x.parent) (λ x. refl) n }

    pub rooted_closed : IsRooted (closed t b state end)
    rooted_closed n p h = let low : parent_of t n < n = r n p (omega (arith, length_closed)) in omega (arith, number_closed (λ x. x.parent) (λ x. refl) n)

    pub path_closed : (n : ℕ) → n < length t → path (closed t b state end) n ≡ path t n
    path_closed = path_kept t (closed t b state end) keeps_closed

    pub ancestor_closed : (a n : ℕ) → n < length t → is_ancestor (closed t b state end) a n ≡ is_ancestor t a n
    ancestor_closed = ancestor_kept t (closed t b state end) keeps_closed

    pub is_above_closed : (a n : ℕ) → n < length t → is_above (closed t b state end) a n ≡ is_above t a n
    is_above_closed = is_above_kept t (closed t b state end) keeps_closed

    pub strand_of_closed : (n : ℕ) → n < length t → strand_of (closed t b state end) n ≡ strand_of t n
    strand_of_closed = strand_of_kept t (closed t b state end) keeps_closed (λ m h. node_closed (λ x. is_strand_kind x.kind) (λ x. refl) m)

    pub xparent_closed : (n : ℕ) → n < length t → xparent (closed t b state end) n ≡ xparent t n
    xparent_closed = xparent_kept t (closed t b state end) keeps_closed (λ m h. node_closed (λ x. is_block_kind x.kind) (λ x. refl) m)
