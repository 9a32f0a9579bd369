-- The first node that is misplaced, and the tree of nodes of which none is.
use Rattle.std.proofs.Common.{◌≡◌, ℕ, zero, suc, ◌+◌, ◌<◌, ◌≤◌, Bool, true, false, cond, List, [], ◌∷◌, ◌++◌, length, take, get_or, refl, ap, sym, subst, ◌∙◌, arith, inl, inr, Option, Some, None}
use Rattle.std.specs.Prelude.{◌&&◌, ◌||◌, not, nat_lt, find, slice_get, All}
use Rattle.std.specs.Option.{option_or}
use Rattle.std.proofs.Math.Bool.{or-false}
use Rattle.std.proofs.lemmas.Bool.{and_parts, le-ltb, lt-ltb, ltb-true}
use Rattle.std.proofs.lemmas.Grind.{take_at_read}
use Rattle.std.proofs.lemmas.List.{get_or_at, length-take-le, length_push, set_at}
use Rattle.std.proofs.lemmas.List.Folds.{find-append}
use Rattle.std.proofs.lemmas.Option.{get_or_from_slice_get, slice_get-get_or}
use Rattle.cw_tree.specs.declared.node.Node.{Node}
use Rattle.cw_tree.specs.declared.node.Kind.{Kind}
use Rattle.cw_tree.specs.declared.node.Kind.TheVariants.{Strand, Fork, Block, Read, Write, Out, Tried, Cancel}
use Rattle.cw_tree.specs.declared.node.BlockState.TheVariants.{Committed}
use Rattle.cw_tree.specs.Nodes.{below, closed, first_state, fresh_node, is_block, is_block_kind, is_fork, is_strand, is_strand_kind, is_tried_kind, parent_of}
use Rattle.cw_tree.specs.Series.{children}
use Rattle.cw_tree.proofs.FirstBelow.{first_below}
use Rattle.cw_tree.proofs.Lists.{at_or_before}
use Rattle.cw_sheet.specs.declared.judging.Beneath.{Beneath}
use Rattle.cw_sheet.specs.Beneath.{beneath_of, is_two}
use Rattle.cw_sheet.specs.Contents.{HasLine}
use Rattle.cw_sheet.proofs.Beneath.{two_is}
use Rattle.cw_sheet.specs.Reading.{are_two_strands, hangs_well, is_misplaced, misplaced}

-- ## One node

-- where a node that is not the root hangs well
pub hangs_next : (t : List Node) (n : ℕ) → 0 < n →
    hangs_well t n ≡ (nat_lt (parent_of t n) n && (is_strand t (parent_of t n) || is_fork t (parent_of t n) || is_block t (parent_of t n)) && (is_fork t (parent_of t n) || not (is_strand t n)))
hangs_next t zero some = absurd (omega arith)
hangs_next t (suc n) some = refl

pub hangs_root : (t : List Node) (n : ℕ) → n ≡ 0 → hangs_well t n ≡ is_strand t 0
hangs_root t n e = ap (hangs_well t) e

by_fork : (s b x : Bool) → (true && (s || true || b) && (true || x)) ≡ true
by_fork true b x = refl
by_fork false b x = refl

by_other : (s b x : Bool) → (true && (s || false || b) && (false || x)) ≡ ((s || b) && x)
by_other true b x = refl
by_other false b x = refl

-- the same, by its parent p
module _ (t : List Node) (n p : ℕ) (some : 0 < n) (up : p ≡ parent_of t n) where
  hangs_at : hangs_well t n ≡ (nat_lt p n && (is_strand t p || is_fork t p || is_block t p) && (is_fork t p || not (is_strand t n)))
  hangs_at = hangs_next t n some ∙ ap (λ q. nat_lt q n && (is_strand t q || is_fork t q || is_block t q) && (is_fork t q || not (is_strand t n))) (sym up)

  pub hangs_high : n ≤ p → hangs_well t n ≡ false
  hangs_high high = hangs_at ∙ rw (le-ltb p n high) refl

  pub hangs_fork : p < n → is_fork t p ≡ true → hangs_well t n ≡ true
  hangs_fork low f = hangs_at ∙ rw (lt-ltb p n low, f) (by_fork (is_strand t p) (is_block t p) (not (is_strand t n)))

  pub hangs_other : p < n → is_fork t p ≡ false → hangs_well t n ≡ ((is_strand t p || is_block t p) && not (is_strand t n))
  hangs_other low f = hangs_at ∙ rw (lt-ltb p n low, f) (by_other (is_strand t p) (is_block t p) (not (is_strand t n)))

not_false : (a b : Bool) → not (a && b) ≡ false → a ≡ true
not_false true b h = refl
not_false false b h = cc

placed_hangs : (t : List Node) (n : ℕ) → is_misplaced t n ≡ false → hangs_well t n ≡ true
placed_hangs t n h = not_false (hangs_well t n) (are_two_strands t (children t n) || not (is_fork t n)) h

pub placed_low : (t : List Node) (n : ℕ) → is_misplaced t n ≡ false → 0 < n → parent_of t n < n
placed_low t n h some =
    let low = nat_lt (parent_of t n) n in
    let kinds = is_strand t (parent_of t n) || is_fork t (parent_of t n) || is_block t (parent_of t n) in
    let last = is_fork t (parent_of t n) || not (is_strand t n) in
    let all : (low && kinds && last) ≡ true = sym (hangs_next t n some) ∙ placed_hangs t n h in
    ltb-true (parent_of t n) n (and_parts low kinds (and_parts (low && kinds) last all).0).0

-- a fork that hangs well
pub misplaced_fork : (t : List Node) (n : ℕ) (b : Beneath) → b ≡ beneath_of t (length t) n → hangs_well t n ≡ true → is_fork t n ≡ true → not (is_two b) ≡ is_misplaced t n
misplaced_fork t n b e h f =
    let two = are_two_strands t (children t n) in
    let is : is_misplaced t n ≡ not two = rw (h, f) (ap not (or-false two)) in
    ap not (ap is_two e ∙ two_is t (children t n)) ∙ sym is

-- ## The first one

pub misplaced_at : (t : List Node) (n : ℕ) → n < length t → find (is_misplaced t) (below n) ≡ None → is_misplaced t n ≡ true → misplaced t ≡ Some (suc n)
misplaced_at [] n l h e = absurd (omega arith)
misplaced_at (x ∷ xs) n l h e = let f = first_below (is_misplaced (x ∷ xs)) n (length (x ∷ xs)) h e l in rw f refl

pub misplaced_none : (t : List Node) → 0 < length t → find (is_misplaced t) (below (length t)) ≡ None → misplaced t ≡ None
misplaced_none [] some h = absurd (omega arith)
misplaced_none (x ∷ xs) some h = rw h refl

-- ## None

none_at : (p : ℕ → Bool) (k n : ℕ) → find p (below k) ≡ None → n < k → p n ≡ false
none_at p zero n h l = absurd (omega arith)
none_at p (suc k) n h l =
    split (λ e less. none_at p k n e less) (find p (below k)) refl (p k) refl where
      whole : find p (below (suc k)) ≡ option_or (find p (below k)) (cond (p k) (Some k) None)
      whole = find-append p (below k) (k ∷ [])

      split : (find p (below k) ≡ None → n < k → p n ≡ false) → (o : Option ℕ) → find p (below k) ≡ o → (b : Bool) → p k ≡ b → p n ≡ false
      split earlier (Some m) e b f = let z : None ≡ Some m = sym h ∙ whole ∙ ap (λ o. option_or o (cond (p k) (Some k) None)) e in cc
      split earlier None e true f = let z : None ≡ Some k = sym h ∙ whole ∙ ap (λ o. option_or o (cond (p k) (Some k) None)) e ∙ ap (λ b. cond b (Some k) None) f in cc
      split earlier None e false f = elim (at_or_before n k l) [ inl less ↦ earlier e less | inr same ↦ ap p (sym same) ∙ f ]

found_none : (x : Node) (xs : List Node) (o : Option ℕ) → find (is_misplaced (x ∷ xs)) (below (length (x ∷ xs))) ≡ o → misplaced (x ∷ xs) ≡ None → o ≡ None
found_none x xs None e h = refl
found_none x xs (Some m) e h = let z : misplaced (x ∷ xs) ≡ Some (suc m) = rw e refl in cc

pub none_empty : (t : List Node) → misplaced t ≡ None → 0 < length t
none_empty [] h = cc
none_empty (x ∷ xs) h = omega arith

pub none_misplaced : (t : List Node) → misplaced t ≡ None → (n : ℕ) → n < length t → is_misplaced t n ≡ false
none_misplaced [] h n l = cc
none_misplaced (x ∷ xs) h n l = none_at (is_misplaced (x ∷ xs)) (length (x ∷ xs)) n (found_none x xs _ refl h) l

pub root_strand : (t : List Node) → misplaced t ≡ None → is_strand t 0 ≡ true
root_strand t h = placed_hangs t 0 (none_misplaced t h 0 (none_empty t h))

-- ## Nodes as they are made

first_is : (k : Kind) → is_block_kind k ≡ false → first_state k ≡ Committed
first_is Strand h = refl
first_is Fork h = refl
first_is Block h = cc
first_is (Read c v) h = refl
first_is (Write c v) h = refl
first_is (Out v) h = refl
first_is (Tried c) h = refl
first_is (Cancel b) h = refl

fresh_is : (x : Node) → is_block_kind x.kind ≡ false → HasLine x → fresh_node x.parent x.kind x.stamp ≡ x
fresh_is x h w =
    ap (λ s. record x { state = s; end = 0 }) (first_is x.kind h ∙ sym (w.state h))
    ∙ ap (λ e. record x { end = e }) (sym (w.end h))

strand_is : (k : Kind) → is_strand_kind k ≡ true → k ≡ Strand
strand_is Strand h = refl
strand_is _ h = cc

no_block : (k : Kind) → is_strand_kind k ≡ true → is_block_kind k ≡ false
no_block Block h = cc
no_block _ h = refl

-- a strand that is its own parent is what a tree begins with
pub root_is_fresh : (t : List Node) → 0 < length t → All HasLine t → is_strand t 0 ≡ true → parent_of t 0 ≡ 0 → fresh_node 0 Strand 0 ∷ [] ≡ take 1 t
root_is_fresh [] some w h e = absurd (omega arith)
root_is_fresh (x ∷ xs) some w h e =
    let line : HasLine x = w 0 x (omega arith) in
    let stamp : x.stamp ≡ 0 = line.stamp (ap (λ b. b || is_tried_kind x.kind) h) in
    let is : fresh_node 0 Strand 0 ≡ x =
    ap (λ p. fresh_node p Strand 0) (sym e)
    ∙ ap (λ k. fresh_node x.parent k 0) (sym (strand_is x.kind h))
    ∙ ap (λ n. fresh_node x.parent x.kind n) (sym stamp)
    ∙ fresh_is x (no_block x.kind h) line in
    ap (λ y. y ∷ []) is

-- one node more of the tree t
module _ (t made : List Node) (n : ℕ) (x : Node) (so_far : made ≡ take n t) (below_end : n < length t) (found : slice_get t n ≡ Some x) where
  read : x ≡ get_or t n x
  read = sym (get_or_from_slice_get t n x x found)

  next_nodes : made ++ x ∷ [] ≡ take (n + 1) t
  next_nodes = ap (λ l. l ++ x ∷ []) so_far ∙ ap (λ y. take n t ++ y ∷ []) read ∙ sym (take_at_read t n x below_end).1

  pub row_added : is_block t n ≡ false → All HasLine t → made ++ fresh_node x.parent x.kind x.stamp ∷ [] ≡ take (n + 1) t
  row_added h w =
      let line : HasLine x = subst HasLine (sym read) (w n x below_end) in
      ap (λ y. made ++ y ∷ []) (fresh_is x (rw found at h) line) ∙ next_nodes

  pub made_len : length made ≡ n
  made_len = ap length so_far ∙ length-take-le n t (omega arith)

  made_found : slice_get (made ++ fresh_node x.parent x.kind x.stamp ∷ []) n ≡ Some (fresh_node x.parent x.kind x.stamp)
  made_found =
      let y = fresh_node x.parent x.kind x.stamp in
      slice_get-get_or (made ++ y ∷ []) n y (omega (arith, made_len, length_push made y)) ∙ ap (λ z. Some z) (get_or_at made y [] y n made_len)

  -- it may be closed if it is a block
  pub block_there : is_block t n ≡ true → is_block (made ++ fresh_node x.parent x.kind x.stamp ∷ []) n ≡ true
  block_there h = rw made_found (rw found at h)

  pub block_added : closed (made ++ fresh_node x.parent x.kind x.stamp ∷ []) n x.state x.end ≡ take (n + 1) t
  block_added =
      let y = fresh_node x.parent x.kind x.stamp in
      rw made_found (set_at made y [] x n made_len ∙ next_nodes)
