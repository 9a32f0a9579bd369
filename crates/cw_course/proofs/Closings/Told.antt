-- The states that a tree tells: before each node, behind it, and reached in it. They follow one another in series, whatever strands they are of.
use Rattle.std.proofs.Common.{◌≡◌, ℕ, zero, suc, ◌<◌, ◌≤◌, List, [], ◌∷◌, ◌++◌, length, refl, ap, sym, ◌∙◌, subst, arith, true, false, cond, Option, Some, None, inl, nat_eq, append_assoc, append-nil}
use Rattle.std.specs.Prelude.{slice_get}
use Rattle.std.proofs.lemmas.Bool.{eq-eqb, ne_eqb}
use Rattle.cw_strand.specs.declared.want.Given.TheVariants.{Nothing, Value, Back as Wrote}
use Rattle.cw_strand.specs.Strands.{Strands}
use Rattle.cw_tree.specs.declared.node.Node.{Node}
use Rattle.cw_tree.specs.declared.node.Kind.{Kind}
use Rattle.cw_tree.specs.declared.node.Kind.TheVariants.{Strand, Fork, Block, Read, Write, Out, Tried, Cancel}
use Rattle.cw_tree.specs.declared.node.BlockState.{BlockState}
use Rattle.cw_tree.specs.declared.node.BlockState.TheVariants.{Pending, Committed, Aborted}
use Rattle.cw_tree.specs.Nodes.{parent_of, is_fork, is_block}
use Rattle.cw_tree.specs.Walks.{IsRooted}
use Rattle.cw_tree.specs.Series.{children}
use Rattle.cw_tree.proofs.Lists.{In}
use Rattle.cw_tree.proofs.Members.{in_right}
use Rattle.cw_tree.proofs.Rising.{Rises}
use Rattle.cw_tree.proofs.InOrder.DepthFirst.{IsChild, child_is, children_rise}
use Rattle.cw_record.specs.Coherent.{InSeries}

-- ## Lists

-- what stands before n
abbrev pub earlier : ℕ → List ℕ → List ℕ
earlier n [] = []
earlier n (c ∷ cs) = cond (nat_eq c n) [] (c ∷ earlier n cs)

earlier_is : (n : ℕ) (xs ys : List ℕ) → Rises (xs ++ n ∷ ys) → earlier n (xs ++ n ∷ ys) ≡ xs
earlier_is n [] ys r = ap (λ b. cond b [] (n ∷ earlier n ys)) (eq-eqb n n refl)
earlier_is n (x ∷ xs) ys r =
    let low : x < n = r.0 n (in_right n xs (n ∷ ys) (inl refl)) in
    ap (λ b. cond b [] (x ∷ earlier n (xs ++ n ∷ ys))) (ne_eqb x n (λ e. absurd (omega arith)))
    ∙ ap (λ ns. x ∷ ns) (earlier_is n xs ys r.1)

-- one node after another
abbrev pub through : {A : Type 0} → (ℕ → A → A) → A → List ℕ → A
through f a [] = a
through f a (n ∷ ns) = through f (f n a) ns

pub through_more : {A : Type 0} (f : ℕ → A → A) (a : A) (ns : List ℕ) (n : ℕ) → through f a (ns ++ n ∷ []) ≡ f n (through f a ns)
through_more f a [] n = refl
through_more f a (m ∷ ns) n = through_more f (f m a) ns n

module _ {A : Type 0} (s : Strands A) (t : List Node) where
  -- ## Behind a node

  -- behind a fork at which the strand stood in state a
  abbrev pub after_fork : (ℕ → A → A) → A → List ℕ → A
  after_fork f a (l ∷ r ∷ []) = s.joined (through f (s.right a) (children t r)) (through f (s.left a) (children t l))
  after_fork f a ns = a

  -- behind a node of this kind and state, with these children
  abbrev pub after_kind : (ℕ → A → A) → List ℕ → A → Kind → BlockState → A
  after_kind f ns a (Read c v) state = s.answer a (Value v)
  after_kind f ns a (Write c v) state = s.answer a Nothing
  after_kind f ns a (Out v) state = s.answer a Nothing
  after_kind f ns a (Cancel back) state = s.answer a (Wrote back)
  after_kind f ns a (Tried c) state = a
  after_kind f ns a Block Committed = s.answer (through f (s.answer a Nothing) ns) Nothing
  after_kind f ns a Block Pending = a
  after_kind f ns a Block Aborted = a
  after_kind f ns a Fork state = after_fork f a ns
  after_kind f ns a Strand state = a

  abbrev pub after_node : (ℕ → A → A) → ℕ → A → Option Node → A
  after_node f n a None = a
  after_node f n a (Some x) = after_kind f (children t n) a x.kind x.state

  -- the state behind node n, given the state before it, for this many levels
  abbrev pub past : (levels n : ℕ) → A → A
  past zero n a = a
  past (suc k) n a = after_node (past k) n a (slice_get t n)

  -- and to all of them
  abbrev pub past_all : ℕ → A → A
  past_all = past (suc (length t))

  -- ## Before a node

  -- in the strand or block with number p, before which the state is a
  abbrev pub in_place : (p : ℕ) → A → A
  in_place p a = cond (is_block t p) (s.answer a Nothing) a

  -- a strand of a fork at which this state stood, behind these strands of it
  abbrev pub side : A → List ℕ → A
  side a [] = s.left a
  side a (c ∷ cs) = s.right a

  -- before a child of p, behind these children of it
  abbrev pub before_child : (p : ℕ) → A → List ℕ → A
  before_child p a ns = cond (is_fork t p) (side a ns) (through past_all (in_place p a) ns)

  abbrev pub before_next : ℕ → A → A
  before_next zero a = s.start
  before_next (suc m) a = before_child (parent_of t (suc m)) a (earlier (suc m) (children t (parent_of t (suc m))))

  abbrev pub before_to : (levels n : ℕ) → A
  before_to zero n = s.start
  before_to (suc k) n = before_next n (before_to k (parent_of t n))

  abbrev pub before : ℕ → A
  before n = before_to n n

  abbrev pub after : ℕ → A
  after n = past_all n (before n)

  abbrev pub reached : ℕ → A
  reached n = through past_all (in_place n (before n)) (children t n)

  module _ (rooted : IsRooted t) where
    levels_enough : (j k n : ℕ) → n ≤ j → n ≤ k → n < length t → before_to j n ≡ before_to k n
    levels_enough zero zero n h g low = refl
    levels_enough zero (suc k) zero h g low = refl
    levels_enough zero (suc k) (suc m) h g low = absurd (omega arith)
    levels_enough (suc j) zero zero h g low = refl
    levels_enough (suc j) zero (suc m) h g low = absurd (omega arith)
    levels_enough (suc j) (suc k) zero h g low = refl
    levels_enough (suc j) (suc k) (suc m) h g low =
        let up : parent_of t (suc m) < suc m = rooted (suc m) (omega arith) low in
        ap (before_next (suc m)) (levels_enough j k (parent_of t (suc m)) (omega arith) (omega arith) (omega arith))

    before_of : (n p : ℕ) → IsChild t p n → before n ≡ before_child p (before p) (earlier n (children t p))
    before_of zero p c = absurd (let some = c.some in omega arith)
    before_of (suc m) p c =
        let low = c.there in
        let up : parent_of t (suc m) < suc m = rooted (suc m) (omega arith) low in
        ap (before_next (suc m)) (levels_enough m (parent_of t (suc m)) (parent_of t (suc m)) (omega arith) (omega arith) (omega arith))
        ∙ ap (λ q. before_child q (before q) (earlier (suc m) (children t q))) c.parent

    -- before a node behind these siblings
    pub before_is : (p n : ℕ) (xs ys : List ℕ) → children t p ≡ xs ++ n ∷ ys → before n ≡ before_child p (before p) xs
    before_is p n xs ys e =
        let P : List ℕ → Type 0 = In n in
        let R : List ℕ → Type 0 = Rises in
        before_of n p (child_is t p n (subst P (sym e) (in_right n xs (n ∷ ys) (inl refl))))
        ∙ ap (λ ns. before_child p (before p) (earlier n ns)) e
        ∙ ap (before_child p (before p)) (earlier_is n xs ys (subst R e (children_rise t p)))

    -- in a strand or block
    pub before_here : (p n : ℕ) (xs ys : List ℕ) → is_fork t p ≡ false → children t p ≡ xs ++ n ∷ ys → before n ≡ through past_all (in_place p (before p)) xs
    before_here p n xs ys plain e = before_is p n xs ys e ∙ ap (λ b. cond b (side (before p) xs) (through past_all (in_place p (before p)) xs)) plain

    pub before_left : (f l r : ℕ) → is_fork t f ≡ true → children t f ≡ l ∷ r ∷ [] → before l ≡ s.left (before f)
    before_left f l r fork e = before_is f l [] (r ∷ []) e ∙ ap (λ b. cond b (s.left (before f)) (in_place f (before f))) fork

    pub before_right : (f l r : ℕ) → is_fork t f ≡ true → children t f ≡ l ∷ r ∷ [] → before r ≡ s.right (before f)
    before_right f l r fork e = before_is f r (l ∷ []) [] e ∙ ap (λ b. cond b (s.right (before f)) (through past_all (in_place f (before f)) (l ∷ []))) fork

    series_from : (p : ℕ) (xs ys : List ℕ) → is_fork t p ≡ false → children t p ≡ xs ++ ys
        → InSeries before after (through past_all (in_place p (before p)) xs) ys (through past_all (in_place p (before p)) (xs ++ ys))
    series_from p xs [] plain e = ap (through past_all (in_place p (before p))) (sym (append-nil xs))
    series_from p xs (n ∷ ys) plain e =
        let a = in_place p (before p) in
        let here : before n ≡ through past_all a xs = before_here p n xs ys plain e in
        let P : A → Type 0 = λ b. InSeries before after b ys (through past_all a ((xs ++ n ∷ []) ++ ys)) in
        let Q : List ℕ → Type 0 = λ ns. InSeries before after (after n) ys (through past_all a ns) in
        let same : through past_all a (xs ++ n ∷ []) ≡ after n = through_more past_all a xs n ∙ ap (past_all n) (sym here) in
        (here, subst Q (append_assoc xs (n ∷ []) ys) (subst P same (series_from p (xs ++ n ∷ []) ys plain (e ∙ sym (append_assoc xs (n ∷ []) ys)))))

    -- the children of a strand or block follow one another
    pub in_series : (p : ℕ) → is_fork t p ≡ false → InSeries before after (in_place p (before p)) (children t p) (reached p)
    in_series p plain = series_from p [] (children t p) plain refl
