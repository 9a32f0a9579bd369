-- The innermost block at a place, the block around a block, and the pending blocks on the way to a place.
use Rattle.std.proofs.Common.{◌≡◌, ℕ, zero, suc, ◌<◌, ◌≤◌, List, [], ◌∷◌, length, refl, ap, sym, ◌∙◌, arith, Bool, true, false, cond, Option, Some, None, inl, inr}
use Rattle.std.specs.Prelude.{◌&&◌}
use Rattle.std.specs.List.{find}
use Rattle.std.proofs.lemmas.Bool.{and_parts, and_from, eqb-true, eq-eqb, false_from_ne_true}
use Rattle.cw_tree.specs.declared.node.Node.{Node}
use Rattle.cw_tree.specs.Nodes.{parent_of, is_block, is_pending}
use Rattle.cw_tree.specs.Walks.{IsRooted, path, above, xparent, is_ancestor}
use Rattle.cw_tree.proofs.Lists.{In}
use Rattle.cw_tree.proofs.Walks.Climbs.{path_step, above_step, path_split}
use Rattle.cw_tree.proofs.Walks.Ancestors.{ancestor_self, ancestor_root, ancestor_step, ancestor_up, ancestor_trans, ancestor_le, beneath}
use Rattle.cw_tree.proofs.Walks.Kin.{in_ancestor}
use Rattle.cw_tree.proofs.NodeKinds.{pending_block}
use Rattle.cw_record.specs.Items.{same_block, is_right_in, open_member}

-- ## Searches

pub find_in : (p : ℕ → Bool) (m : ℕ) (ns : List ℕ) → find p ns ≡ Some m → In m ns × (p m ≡ true)
find_in p m [] e = absurd (cc e)
find_in p m (n ∷ ns) e =
    by (p n) refl (find_in p m ns) e where
      by : (b : Bool) → p n ≡ b → (find p ns ≡ Some m → In m ns × (p m ≡ true)) → cond b (Some n) (find p ns) ≡ Some m → In m (n ∷ ns) × (p m ≡ true)
      by true q more f = let same : n ≡ m = cc in (inl (sym same), sym (ap p same) ∙ q)
      by false q more f = let z = more f in (inr z.0, z.1)

find_none : (p : ℕ → Bool) (ns : List ℕ) → ((m : ℕ) → In m ns → p m ≡ false) → find p ns ≡ None
find_none p [] h = refl
find_none p (n ∷ ns) h = ap (λ b. cond b (Some n) (find p ns)) (h n (inl refl)) ∙ find_none p ns (λ m i. h m (inr i))

-- ## One block or another

pub same_block_true : (x y : Option ℕ) → same_block x y ≡ true → x ≡ y
same_block_true None None e = refl
same_block_true None (Some b) e = absurd (cc e)
same_block_true (Some a) None e = absurd (cc e)
same_block_true (Some a) (Some b) e = ap Some (eqb-true a b e)

pub same_block_self : (x : Option ℕ) → same_block x x ≡ true
same_block_self None = refl
same_block_self (Some a) = eq-eqb a a refl

pub same_block_false : (x y : Option ℕ) → (y ≡ x → ⊥) → same_block x y ≡ false
same_block_false x y ne = false_from_ne_true (same_block x y) (λ e. ne (sym (same_block_true x y e)))

-- the number of a block, and 0 of the root
abbrev pub number : Option ℕ → ℕ
number None = 0
number (Some m) = m

-- the innermost block at place p: p itself, or one above it
abbrev pub home : List Node → ℕ → Option ℕ
home t p = find (is_block t) (path t p)

module _ (t : List Node) (r : IsRooted t) where
  pub home_step : (p : ℕ) → 0 < p → p < length t → home t p ≡ cond (is_block t p) (Some p) (home t (parent_of t p))
  home_step p s h = ap (find (is_block t)) (path_step t r p s h)

  pub xparent_home : (m : ℕ) → 0 < m → m < length t → xparent t m ≡ home t (parent_of t m)
  xparent_home m s h = ap (find (is_block t)) (above_step t r m s h ∙ sym (path_split t (parent_of t m)))

  pub home_is : (p m : ℕ) → home t p ≡ Some m → (is_block t m ≡ true) × (is_ancestor t m p ≡ true)
  home_is p m e = let z = find_in (is_block t) m (path t p) e in (z.1, in_ancestor t m p z.0)

  -- a block on the way to a place is an ancestor of the innermost
  pub record Beneath (a : ℕ) (o : Option ℕ) : Type 0 where
    pub block : ℕ
    pub is : o ≡ Some block
    pub over : is_ancestor t a block ≡ true

  pub home_over : (a : ℕ) → is_block t a ≡ true → (p : ℕ) → p < length t → is_ancestor t a p ≡ true → Beneath a (home t p)
  home_over a e =
      beneath t r a (λ p. Beneath a (home t p)) here (λ p s h up more. by p s h up more (is_block t p) refl) where
        here : Beneath a (home t a)
        here = record { block = a; is = ap (find (is_block t)) (path_split t a) ∙ ap (λ b. cond b (Some a) (find (is_block t) (above t a))) e; over = ancestor_self t a }

        by : (p : ℕ) → 0 < p → p < length t → is_ancestor t a (parent_of t p) ≡ true → Beneath a (home t (parent_of t p)) → (b : Bool) → is_block t p ≡ b → Beneath a (home t p)
        by p s h up more true q = record { block = p; is = home_step p s h ∙ ap (λ b. cond b (Some p) (home t (parent_of t p))) q; over = ancestor_up t r a p s h up }
        by p s h up more false q = record { block = more.block; is = home_step p s h ∙ ap (λ b. cond b (Some p) (home t (parent_of t p))) q ∙ more.is; over = more.over }

  -- the block around a node is a block with a smaller number
  pub record IsAround (m n : ℕ) : Type 0 where
    pub block : is_block t m ≡ true
    pub over : is_ancestor t m n ≡ true
    pub less : m < n

  pub xparent_is : (m n : ℕ) → n < length t → xparent t n ≡ Some m → IsAround m n
  xparent_is m zero h e = absurd (cc e)
  xparent_is m (suc n) h e =
      let z = home_is (parent_of t (suc n)) m (sym (xparent_home (suc n) (omega arith) h) ∙ e) in
      let low : parent_of t (suc n) < suc n = r (suc n) (omega arith) h in
      let le : m ≤ parent_of t (suc n) = ancestor_le t r m (parent_of t (suc n)) (omega arith) z.1 in
      record { block = z.0; over = ancestor_up t r m (suc n) (omega arith) h z.1; less = omega arith }

  -- a block on the way to a node, and not this itself, is an ancestor of the block around it
  pub xparent_over : (a : ℕ) → is_block t a ≡ true → (n : ℕ) → n < length t → (n ≡ a → ⊥) → is_ancestor t a n ≡ true → Beneath a (xparent t n)
  xparent_over a e zero h ne f = absurd (ne (sym (ancestor_root t a f)))
  xparent_over a e (suc n) h ne f =
      let low : parent_of t (suc n) < suc n = r (suc n) (omega arith) h in
      let z = home_over a e (parent_of t (suc n)) (omega arith) (sym (ancestor_step t r a (suc n) (omega arith) h ne) ∙ f) in
      record { block = z.block; is = xparent_home (suc n) (omega arith) h ∙ z.is; over = z.over }

  -- ## Pending blocks on the way

  abbrev opens : Option ℕ → ℕ → Bool
  opens b n = is_pending t n && is_right_in t b n

  pub record IsOpen (p : ℕ) (b : Option ℕ) (n : ℕ) : Type 0 where
    pub over : is_ancestor t n p ≡ true
    pub pending : is_pending t n ≡ true
    pub around : xparent t n ≡ b

  pub open_is : (p : ℕ) (b : Option ℕ) (n : ℕ) → open_member t p b ≡ Some n → IsOpen p b n
  open_is p b n e =
      let z = find_in (opens b) n (path t p) e in
      let y = and_parts (is_pending t n) (is_right_in t b n) z.1 in
      record { over = in_ancestor t n p z.0; pending = y.0; around = same_block_true (xparent t n) b y.1 }

  pub open_none : (p : ℕ) (b : Option ℕ) → ((n : ℕ) → IsOpen p b n → ⊥) → open_member t p b ≡ None
  open_none p b h =
      find_none (opens b) (path t p) (λ n i. false_from_ne_true (opens b n) (λ e.
      let y = and_parts (is_pending t n) (is_right_in t b n) e in
      h n (record { over = in_ancestor t n p i; pending = y.0; around = same_block_true (xparent t n) b y.1 })))

  -- none is right in a block that is not on the way
  pub open_aside : (p m : ℕ) → p < length t → is_ancestor t m p ≡ false → open_member t p (Some m) ≡ None
  open_aside p m h e =
      open_none p (Some m) (λ n o.
      let le : n ≤ p = ancestor_le t r n p h o.over in
      let z = xparent_is m n (omega arith) o.around in
      absurd (cc (e, ancestor_trans t r m n p h z.over o.over)))

  -- none is right in the innermost
  pub open_home : (p : ℕ) → p < length t → open_member t p (home t p) ≡ None
  open_home p h =
      open_none p (home t p) (λ n o.
      let le : n ≤ p = ancestor_le t r n p h o.over in
      let z = home_over n (pending_block t n o.pending) p h o.over in
      let y = xparent_is z.block n (omega arith) (o.around ∙ z.is) in
      let low : z.block ≤ p = ancestor_le t r z.block p h (home_is p z.block z.is).1 in
      let deep : n ≤ z.block = ancestor_le t r n z.block (omega arith) z.over in
      let less = y.less in
      omega arith)

  -- and a pending block on the way is the one that is right in the block around it
  pub open_here : (p m : ℕ) → p < length t → is_pending t m ≡ true → is_ancestor t m p ≡ true → open_member t p (xparent t m) ≡ Some m
  open_here p m hp e =
      beneath t r m (λ p. open_member t p (xparent t m) ≡ Some m) here (λ p s h up more. ap (find (opens (xparent t m))) (path_step t r p s h) ∙ by p s h up more (opens (xparent t m) p) refl) p hp where
        here : open_member t m (xparent t m) ≡ Some m
        here =
            ap (find (opens (xparent t m))) (path_split t m)
            ∙ ap (λ b. cond b (Some m) (find (opens (xparent t m)) (above t m))) (and_from (is_pending t m) (is_right_in t (xparent t m) m) e (same_block_self (xparent t m)))

        by : (p : ℕ) → 0 < p → p < length t → is_ancestor t m (parent_of t p) ≡ true → open_member t (parent_of t p) (xparent t m) ≡ Some m → (b : Bool) → opens (xparent t m) p ≡ b → cond b (Some p) (open_member t (parent_of t p) (xparent t m)) ≡ Some m
        by p s h up more true q =
            let low : parent_of t p < p = r p s h in
            let le : m ≤ parent_of t p = ancestor_le t r m (parent_of t p) (omega arith) up in
            let y = and_parts (is_pending t p) (is_right_in t (xparent t m) p) q in
            let z = xparent_over m (pending_block t m e) p h (λ same. omega arith) (ancestor_up t r m p s h up) in
            let x = xparent_is z.block m (omega arith) (sym (same_block_true (xparent t p) (xparent t m) y.1) ∙ z.is) in
            let w = xparent_is z.block p h z.is in
            let less = x.less in
            let lower = w.less in
            let deep : m ≤ z.block = ancestor_le t r m z.block (omega arith) z.over in
            absurd (omega arith)
        by p s h up more false q = more
