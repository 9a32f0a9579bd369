-- The tree of one worker is a computation tree, except for strands that are still to come.
use Rattle.std.proofs.Common.{◌≡◌, ℕ, zero, suc, ◌+◌, ◌<◌, List, [], ◌∷◌, length, refl, ap, sym, ◌∙◌, arith, Bool, true, false, inl, inr, subst, nat_eq, nat_lt, append-nil}
use Rattle.std.specs.Prelude.{◌&&◌, ◌||◌, All, IsTrue, count_by}
use Rattle.std.proofs.lemmas.Bool.{and_from, or_left, or_right, eq-eqb, ne_eqb, lt-ltb}
use Rattle.std.proofs.lemmas.List.Elements.{All-nil, All-cons, All-head, All-tail, All-weaker}
use Rattle.std.proofs.lemmas.List.Sums.{length-filter, sum_by-cons}
use Rattle.cw_tree.specs.declared.node.Node.{Node}
use Rattle.cw_tree.specs.declared.node.Kind.{Kind}
use Rattle.cw_tree.specs.declared.node.Kind.TheVariants.{Strand, Fork}
use Rattle.cw_tree.specs.declared.node.BlockState.{BlockState}
use Rattle.cw_tree.specs.Nodes.{passes, is_node, is_strand_kind, is_fork_kind, is_block_kind, is_tried_kind, parent_of, is_strand, is_fork, is_block, is_tried, all_nodes, fresh_node, closed}
use Rattle.cw_tree.specs.Walks.{IsRooted}
use Rattle.cw_tree.specs.Series.{children}
use Rattle.cw_tree.specs.ForkCounts.{one_if}
use Rattle.cw_tree.specs.Shape.{IsTree}
use Rattle.cw_tree.specs.Links.{is_child}
use Rattle.cw_tree.proofs.Counting.{count, count_step, count_same}
use Rattle.cw_tree.proofs.NextNodes.Growing.{get_append, length_more, node_new, number_new, node_grown, number_grown, rooted_more}
use Rattle.cw_tree.proofs.NextNodes.Closing.{length_closed, node_closed, number_closed, same_closed, rooted_closed}
use Rattle.cw_tree.proofs.InOrder.DepthFirst.{no_children, child_is}
use Rattle.cw_tree.proofs.Lists.{In}
use Rattle.cw_tree.proofs.NextNodes.Trees.{each_more, may_hold, no_fork, holds_here}
use Rattle.cw_tree.proofs.Walks.There.{node_there}
use Rattle.cw_record.specs.Drawn.{added, added_fork}
use Rattle.cw_record.proofs.OneWorker.Unstarted.{with_strands}
use Rattle.cw_record.proofs.OneWorker.Waiting.{one_unstarted}

-- how often a node is listed
abbrev pub times : ℕ → List ℕ → ℕ
times n = count_by (λ m. nat_eq m n)

-- With one more strand in each of these forks, once for each time that it is listed, the tree is a computation tree; and no
-- access was refused.
pub record IsShaped (t : List Node) (fs : List ℕ) : Type 0 where
  pub some : 0 < length t
  pub rooted : IsRooted t
  pub root : IsTrue (is_strand t 0)
  -- each fork has two strands, with those that are to come
  pub forks : (f : ℕ) → IsTrue (is_fork t f) → length (children t f) + times f fs ≡ 2
  -- a node other than the root is a strand just if it hangs from a fork
  pub strands : (n : ℕ) → n < length t → 0 < n → is_strand t n ≡ is_fork t (parent_of t n)
  pub parents : (n : ℕ) → n < length t → 0 < n → IsTrue (may_hold t (parent_of t n))
  pub untried : (n : ℕ) → n < length t → is_tried t n ≡ false
  pub to_come : All (λ f. IsTrue (is_fork t f)) fs

-- ## The start and the end

root_forks : (f : ℕ) → is_fork (fresh_node 0 Strand 0 ∷ []) f ≡ true → length (children (fresh_node 0 Strand 0 ∷ []) f) + 0 ≡ 2
root_forks zero e = absurd (cc e)
root_forks (suc f) e = absurd (cc e)

root_untried : (n : ℕ) → is_tried (fresh_node 0 Strand 0 ∷ []) n ≡ false
root_untried zero = refl
root_untried (suc n) = refl

pub shaped_root : IsShaped (fresh_node 0 Strand 0 ∷ []) []
shaped_root = record {
  some = omega arith;
  rooted = λ n s h. absurd (omega arith);
  root = refl;
  forks = root_forks;
  strands = λ n h s. absurd (omega arith);
  parents = λ n h s. absurd (omega arith);
  untried = λ n h. root_untried n;
  to_come = All-nil (λ f. is_fork (fresh_node 0 Strand 0 ∷ []) f ≡ true);
}

-- two numbers that pass a test
two : (p : ℕ → Bool) (ns : List ℕ) → length ns ≡ 2 → ((n : ℕ) → In n ns → p n ≡ true) → (l r : ℕ) × (ns ≡ l ∷ r ∷ []) × IsTrue (p l && p r)
two p [] e all = absurd (omega (arith, e))
two p (l ∷ []) e all = absurd (omega (arith, e))
two p (l ∷ r ∷ n ∷ ns) e all = absurd (omega (arith, e))
two p (l ∷ r ∷ []) e all = (l, r, refl, and_from (p l) (p r) (all l (inl refl)) (all r (inr (inl refl))))

-- Where no strand is to come it is a computation tree.
pub tree_of_shape : (t : List Node) → IsShaped t [] → IsTree t
tree_of_shape t s = record {
  some = s.some;
  rooted = s.rooted;
  root = s.root;
  forks = λ f h e. two (is_strand t) (children t f) (omega (arith, s.forks f e)) (λ n i. let c = child_is t f n i in s.strands n c.there c.some ∙ ap (is_fork t) c.parent ∙ e);
  strands = λ n h p e. sym (s.strands n h p) ∙ e;
  parents = s.parents;
}

pub to_come_there : (t : List Node) (fs : List ℕ) → IsShaped t fs → All (λ f. f < length t) fs
to_come_there t fs s = All-weaker (λ f. is_fork t f ≡ true) (λ f. f < length t) (λ f e. node_there (λ y. is_fork_kind y.kind) t f e) fs s.to_come

-- ## A new node

times_more : (n m : ℕ) (ns : List ℕ) → times n (m ∷ ns) ≡ one_if (nat_eq m n) + times n ns
times_more n m ns = sum_by-cons (λ k. one_if (nat_eq k n)) m ns

-- what exceeds all that are listed is not listed
none_listed : (n : ℕ) (ns : List ℕ) → All (λ m. m < n) ns → times n ns ≡ 0
none_listed n [] low = refl
none_listed n (m ∷ ns) low =
    let less : m < n = All-head (λ m. m < n) m ns low in
    let other : one_if (nat_eq m n) ≡ 0 = ap one_if (ne_eqb m n (λ e. omega arith)) in
    omega (arith, times_more n m ns, other, none_listed n ns (All-tail (λ m. m < n) m ns low))

module _ (t : List Node) (fs : List ℕ) (s : IsShaped t fs) (p : ℕ) (there : p < length t) (kind : Kind) (stamp : ℕ) where
  abbrev x : Node
  x = fresh_node p kind stamp

  abbrev u : List Node
  u = added t p kind stamp

  long : length u ≡ suc (length t)
  long = length_more t x

  kept : (g : Kind → Bool) (n : ℕ) → n < length t → is_node (λ y. g y.kind) u n ≡ is_node (λ y. g y.kind) t n
  kept g = node_grown t (x ∷ []) (λ y. g y.kind)

  new_is : (g : Kind → Bool) → is_node (λ y. g y.kind) u (length t) ≡ g kind
  new_is g = node_new t x (λ y. g y.kind)

  up : (n : ℕ) → n < length t → parent_of u n ≡ parent_of t n
  up = number_grown t (x ∷ []) (λ y. y.parent)

  up_new : parent_of u (length t) ≡ p
  up_new = number_new t x (λ y. y.parent)

  holds_kept : (n : ℕ) → n < length t → may_hold u n ≡ may_hold t n
  holds_kept n h = ap (λ o. passes (λ y. is_strand_kind y.kind) o || passes (λ y. is_fork_kind y.kind) o || passes (λ y. is_block_kind y.kind) o) (get_append t (x ∷ []) n h)

  forks_kept : (gs : List ℕ) → All (λ f. is_fork t f ≡ true) gs → All (λ f. is_fork u f ≡ true) gs
  forks_kept gs all = All-weaker (λ f. is_fork t f ≡ true) (λ f. is_fork u f ≡ true) (λ f e. kept is_fork_kind f (node_there (λ y. is_fork_kind y.kind) t f e) ∙ e) gs all

  one_child : (f : ℕ) → length (children u f) ≡ length (children t f) + one_if (nat_eq p f)
  one_child f =
      let some = s.some in
      let old : count (is_child u f) (length t) ≡ count (is_child t f) (length t) = count_same (is_child u f) (is_child t f) (length t) (λ m h. ap (λ q. nat_lt 0 m && nat_eq q f) (up m h)) in
      let new : is_child u f (length t) ≡ nat_eq p f = ap (λ q. nat_lt 0 (length t) && nat_eq q f) up_new ∙ ap (λ b. b && nat_eq p f) (lt-ltb 0 (length t) some) in
      omega (arith, length-filter (is_child u f) (all_nodes u), length-filter (is_child t f) (all_nodes t), ap (count (is_child u f)) long, count_step (is_child u f) (length t), old, ap one_if new)

  -- It is a strand that was to come, or hangs from no fork; where it is a fork, both its strands are to come.
  module _ (made : is_tried_kind kind ≡ false) (gs : List ℕ) (fits : is_strand_kind kind ≡ is_fork t p) (holds : may_hold t p ≡ true) (come : All (λ f. is_fork u f ≡ true) gs)
      (same : (f : ℕ) → is_fork t f ≡ true → one_if (nat_eq p f) + times f gs ≡ times f fs) (both : is_fork_kind kind ≡ true → times (length t) gs ≡ 2) where
    forks_old : (f : ℕ) → is_fork t f ≡ true → length (children u f) + times f gs ≡ 2
    forks_old f e = omega (arith, one_child f, same f e, s.forks f e)

    fork_new : is_fork_kind kind ≡ true → length (children u (length t)) + times (length t) gs ≡ 2
    fork_new e = omega (arith, one_child (length t), ap length (no_children t s.rooted (length t) (omega arith)), ap one_if (ne_eqb p (length t) (λ q. omega arith)), both e)

    shaped_more : IsShaped u gs
    shaped_more = record {
      some = omega (arith, long);
      rooted = rooted_more t x s.rooted there;
      root = kept is_strand_kind 0 s.some ∙ s.root;
      forks = λ f e.
          each_more t x (λ n. is_fork u n ≡ true → length (children u n) + times n gs ≡ 2) (λ n h g. forks_old n (sym (kept is_fork_kind n h) ∙ g)) (λ g. fork_new (sym (new_is is_fork_kind) ∙ g))
          f (node_there (λ y. is_fork_kind y.kind) u f e) e;
      strands =
          each_more t x (λ n. 0 < n → is_strand u n ≡ is_fork u (parent_of u n))
          (λ n h g. let low : parent_of t n < n = s.rooted n g h in kept is_strand_kind n h ∙ s.strands n h g ∙ sym (kept is_fork_kind (parent_of t n) (omega arith)) ∙ ap (is_fork u) (sym (up n h)))
          (λ g. new_is is_strand_kind ∙ fits ∙ sym (kept is_fork_kind p there) ∙ ap (is_fork u) (sym up_new));
      parents =
          each_more t x (λ n. 0 < n → may_hold u (parent_of u n) ≡ true)
          (λ n h g. let low : parent_of t n < n = s.rooted n g h in ap (may_hold u) (up n h) ∙ holds_kept (parent_of t n) (omega arith) ∙ s.parents n h g)
          (λ g. ap (may_hold u) up_new ∙ holds_kept p there ∙ holds);
      untried = each_more t x (λ n. is_tried u n ≡ false) (λ n h. kept is_tried_kind n h ∙ s.untried n h) (new_is is_tried_kind ∙ made);
      to_come = come;
    }

-- ## The steps

-- a strand of a fork that was to come
pub shaped_strand : (t : List Node) (f : ℕ) (fs : List ℕ) → IsShaped t (f ∷ fs) → IsShaped (added t f Strand 0) fs
shaped_strand t f fs s =
    let fork : is_fork t f ≡ true = All-head (λ f. is_fork t f ≡ true) f fs s.to_come in
    let there : f < length t = node_there (λ y. is_fork_kind y.kind) t f fork in
    shaped_more t (f ∷ fs) s f there Strand 0 refl fs (sym fork) (or_left (is_strand t f || is_fork t f) (is_block t f) (or_right (is_strand t f) (is_fork t f) fork))
    (forks_kept t (f ∷ fs) s f there Strand 0 fs (All-tail (λ f. is_fork t f ≡ true) f fs s.to_come)) (λ g e. sym (times_more g f fs)) (λ e. absurd (cc e))

-- all of them
pub shaped_strands : (fs : List ℕ) (t : List Node) → IsShaped t fs → IsShaped (with_strands t fs) []
shaped_strands [] t s = let P : List Node → Type 0 = λ u. IsShaped u [] in subst P (sym (append-nil t)) s
shaped_strands (f ∷ fs) t s = let P : List Node → Type 0 = λ u. IsShaped u [] in subst P (one_unstarted t f fs) (shaped_strands fs (added t f Strand 0) (shaped_strand t f fs s))

module _ (t : List Node) (fs : List ℕ) (s : IsShaped t fs) (p : ℕ) (there : p < length t) (place : (is_strand t p || is_block t p) ≡ true) where
  apart : (f : ℕ) → is_fork t f ≡ true → one_if (nat_eq p f) ≡ 0
  apart f e = ap one_if (ne_eqb p f (λ q. absurd (cc (ap (is_fork t) q, no_fork t p place, e))))

  -- a node that is no strand, no fork and no refused access
  pub shaped_beside : (kind : Kind) (stamp : ℕ) → is_strand_kind kind ≡ false → is_fork_kind kind ≡ false → is_tried_kind kind ≡ false → IsShaped (added t p kind stamp) fs
  shaped_beside kind stamp no_strand other made =
      shaped_more t fs s p there kind stamp made fs (no_strand ∙ sym (no_fork t p place)) (holds_here t p place) (forks_kept t fs s p there kind stamp fs s.to_come) (λ f e. omega (arith, apart f e)) (λ e. absurd (cc (e, other)))

  -- a fork, with its left strand
  pub shaped_forked : (stamp : ℕ) → IsShaped (added_fork t p stamp) (length t ∷ fs)
  shaped_forked stamp =
      let n = length t in
      let u = added t p Fork stamp in
      let is_new : is_fork u n ≡ true = node_new t (fresh_node p Fork stamp) (λ y. is_fork_kind y.kind) in
      let old = forks_kept t fs s p there Fork stamp fs s.to_come in
      let F : ℕ → Type 0 = λ f. is_fork u f ≡ true in
      shaped_strand u n (n ∷ fs)
      (shaped_more t fs s p there Fork stamp refl (n ∷ n ∷ fs) (sym (no_fork t p place)) (holds_here t p place) (All-cons F n (n ∷ fs) is_new (All-cons F n fs is_new old))
      (λ f e. let h : f < n = node_there (λ y. is_fork_kind y.kind) t f e in omega (arith, times_more f n (n ∷ fs), times_more f n fs, apart f e, ap one_if (ne_eqb n f (λ q. omega arith))))
      (λ e. omega (arith, times_more n n (n ∷ fs), times_more n n fs, ap one_if (eq-eqb n n refl), none_listed n fs (to_come_there t fs s))))

-- a closed block
pub shaped_closed : (t : List Node) (fs : List ℕ) → IsShaped t fs → (b : ℕ) (state : BlockState) (end : ℕ) → IsShaped (closed t b state end) fs
shaped_closed t fs s b state end =
    let v = closed t b state end in
    let long : length v ≡ length t = length_closed t b state end in
    let kinds = λ (g : Kind → Bool) (n : ℕ). node_closed t b state end (λ y. g y.kind) (λ y. refl) n in
    let up = number_closed t b state end (λ y. y.parent) (λ y. refl) in
    let holds = λ (n : ℕ). same_closed t b state end (λ o. passes (λ y. is_strand_kind y.kind) o || passes (λ y. is_fork_kind y.kind) o || passes (λ y. is_block_kind y.kind) o) (λ y. refl) n in
    record {
      some = (let some = s.some in omega arith);
      rooted = rooted_closed t b state end s.rooted;
      root = kinds is_strand_kind 0 ∙ s.root;
      forks = λ f e.
          omega (arith, length-filter (is_child v f) (all_nodes v), length-filter (is_child t f) (all_nodes t), ap (count (is_child v f)) long, count_same (is_child v f) (is_child t f) (length t) (λ m h. ap (λ q. nat_lt 0 m && nat_eq q f) (up m)), s.forks f (sym (kinds is_fork_kind f) ∙ e));
      strands = λ n h p. kinds is_strand_kind n ∙ s.strands n (omega arith) p ∙ sym (kinds is_fork_kind (parent_of t n)) ∙ ap (is_fork v) (sym (up n));
      parents = λ n h p. ap (may_hold v) (up n) ∙ holds (parent_of t n) ∙ s.parents n (omega arith) p;
      untried = λ n h. kinds is_tried_kind n ∙ s.untried n (omega arith);
      to_come = All-weaker (λ f. is_fork t f ≡ true) (λ f. is_fork v f ≡ true) (λ f e. kinds is_fork_kind f ∙ e) fs s.to_come;
    }
