-- What a tree is to the one before it, as a node comes at a place, or a fork with its strands.
use Rattle.std.proofs.Common.{◌≡◌, ℕ, suc, ◌<◌, ◌≤◌, List, [], ◌∷◌, ◌++◌, length, refl, ap, sym, ◌∙◌, subst, arith, Bool, true, false, inl, inr}
use Rattle.std.specs.Prelude.{◌⊎◌, ◌&&◌, slice_get}
use Rattle.std.proofs.lemmas.Bool.{false_from_ne_true}
use Rattle.cw_tree.specs.declared.node.Node.{Node}
use Rattle.cw_tree.specs.declared.node.Kind.{Kind}
use Rattle.cw_tree.specs.declared.node.Kind.TheVariants.{Strand, Fork, Block, Read, Write, Out, Tried}
use Rattle.cw_tree.specs.Nodes.{is_node, is_fork_kind, is_block_kind, is_committed_state, is_aborted_state, first_state, parent_of, stamp_of, is_fork, is_committed, is_aborted, fresh_node}
use Rattle.cw_tree.specs.Walks.{IsRooted}
use Rattle.cw_tree.specs.Series.{is_before}
use Rattle.cw_tree.specs.NextNodes.{is_before_at, IsPlace, fork_nodes}
use Rattle.cw_tree.specs.Shape.{IsTree}
use Rattle.cw_tree.proofs.Walks.There.{node_there}
use Rattle.cw_tree.proofs.NextNodes.Growing.{get_append, length_more, node_grown, node_new, number_grown, number_new, rooted_more}
use Rattle.cw_tree.proofs.NextNodes.Trees.{each_more, hung_one, hung_two, in_turn}
use Rattle.cw_tree.proofs.NextNodes.Stamps.{IsEnd}
use Rattle.cw_tree.proofs.NextNodes.Before.{old_before, new_first, new_last, new_before_at, new_apart}
use Rattle.cw_tree.proofs.NextNodes.Pending.{end_of_place, end_new, end_stays}
use Rattle.cw_tree.proofs.NodeKinds.{new_stands}

-- nodes came at place p, one of them with a stamp
pub record IsGrowth (t u : List Node) (p stamp : ℕ) : Type 0 where
  pub rooted : IsRooted u
  pub longer : length t ≤ length u
  pub old : (n : ℕ) → n < length t → slice_get u n ≡ slice_get t n
  -- they are no closed blocks
  pub aborted : (n : ℕ) → length t ≤ n → is_aborted u n ≡ false
  pub committed : (n : ℕ) → length t ≤ n → is_committed u n ≡ false
  pub parents : (n : ℕ) → length t ≤ n → n < length u → (parent_of u n ≡ p) ⊎ (length t ≤ parent_of u n)
  -- they are before none
  pub first : (g n : ℕ) → length t ≤ g → g < length u → n < length t → is_before u g n ≡ false
  pub apart : (g h : ℕ) → length t ≤ g → g < length u → length t ≤ h → h < length u → is_before u g h ≡ false
  pub before : (n k : ℕ) → n < length t → length t ≤ k → k < length u → 0 < stamp_of u k → is_before u n k ≡ true → (is_before_at t n p ≡ true) × (stamp_of u k ≡ stamp)

not_committed : (k : Kind) → (is_block_kind k && is_committed_state (first_state k)) ≡ false
not_committed Strand = refl
not_committed Fork = refl
not_committed Block = refl
not_committed (Read c v) = refl
not_committed (Write c v) = refl
not_committed (Out v) = refl
not_committed (Tried c) = refl
not_committed _ = refl

-- a test that a new node fails, as did all that were not there
module _ (t : List Node) (x : Node) (test : Node → Bool) where
  none_more : (k : ℕ) → ((n : ℕ) → k ≤ n → is_node test t n ≡ false) → test x ≡ false → (n : ℕ) → k ≤ n → is_node test (t ++ x ∷ []) n ≡ false
  none_more k old new n le =
      false_from_ne_true (is_node test (t ++ x ∷ []) n) (λ e.
      let h = node_there test (t ++ x ∷ []) n e in
      each_more t x (λ n. k ≤ n → is_node test (t ++ x ∷ []) n ≡ true → ⊥)
      (λ n h le e. absurd (cc (e, node_grown t (x ∷ []) test n h, old n le)))
      (λ le e. absurd (cc (e, node_new t x test, new))) n h le e)

-- no node is there past the end
past : (t : List Node) (test : Node → Bool) (n : ℕ) → length t ≤ n → is_node test t n ≡ false
past t test n le = false_from_ne_true (is_node test t n) (λ e. absurd (let h = node_there test t n e in omega arith))

-- ## One node

module _ (t : List Node) (r : IsRooted t) (p : ℕ) (w : IsEnd t p) (kind : Kind) (stamp : ℕ) where
  abbrev x : Node
  x = fresh_node p kind stamp

  abbrev u : List Node
  u = t ++ x ∷ []

  at_end : (k : ℕ) → length t ≤ k → k < length u → k ≡ length t
  at_end k le h = omega (arith, length_more t x)

  pub growth_leaf : IsGrowth t u p stamp
  growth_leaf = record {
    rooted = rooted_more t x r w.there;
    longer = omega (arith, length_more t x);
    old = get_append t (x ∷ []);
    aborted = none_more t x (λ y. is_block_kind y.kind && is_aborted_state y.state) (length t) (past t (λ y. is_block_kind y.kind && is_aborted_state y.state)) (new_stands kind);
    committed = none_more t x (λ y. is_block_kind y.kind && is_committed_state y.state) (length t) (past t (λ y. is_block_kind y.kind && is_committed_state y.state)) (not_committed kind);
    parents = λ k le h. inl (ap (parent_of u) (at_end k le h) ∙ number_new t x (λ y. y.parent));
    first = λ k n le h low. ap (λ k. is_before u k n) (at_end k le h) ∙ new_first t x r w.there w.last n low;
    apart = λ k j le h le' h'. ap (λ k. is_before u k j) (at_end k le h) ∙ ap (is_before u (length t)) (at_end j le' h') ∙ new_apart t x r w.there;
    before = λ n k low le h some e. (
      new_before_at t x r w.there n low (ap (is_before u n) (sym (at_end k le h)) ∙ e),
      ap (stamp_of u) (at_end k le h) ∙ number_new t x (λ y. y.stamp),
    );
  }

-- ## A strand more, of a fork that came

module _ (t u : List Node) (p stamp : ℕ) (g : IsGrowth t u p stamp) (f : ℕ) (new : length t ≤ f) (fork : is_fork u f ≡ true) (last : (n : ℕ) → n < length u → is_before u f n ≡ false) where
  abbrev s : Node
  s = fresh_node f Strand 0

  abbrev v : List Node
  v = u ++ s ∷ []

  there : f < length u
  there = node_there (λ y. is_fork_kind y.kind) u f fork

  len : length v ≡ suc (length u)
  len = length_more u s

  was : (n k : ℕ) → n < length u → k < length u → is_before u n k ≡ false → is_before v n k ≡ false
  was n k hn hk e = false_from_ne_true (is_before v n k) (λ q. absurd (cc (old_before u s g.rooted there n k hn hk q, e)))

  -- nothing that came before is before it
  after_none : (n : ℕ) → length t ≤ n → n < length u → is_before v n (length u) ≡ false
  after_none n le h =
      false_from_ne_true (is_before v n (length u)) (λ q.
      elim (new_last u s g.rooted there n h q) [
        | inl z ↦ absurd (cc (z.1, fork))
        | inr z ↦ absurd (cc (z, g.apart n f le h new there))
      ])

  pub growth_strand : IsGrowth t v p stamp
  growth_strand = record {
    rooted = rooted_more u s g.rooted there;
    longer = (let le = g.longer in omega (arith, len));
    old = λ n h. (let le = g.longer in get_append u (s ∷ []) n (omega arith) ∙ g.old n h);
    aborted = none_more u s (λ y. is_block_kind y.kind && is_aborted_state y.state) (length t) g.aborted refl;
    committed = none_more u s (λ y. is_block_kind y.kind && is_committed_state y.state) (length t) g.committed refl;
    parents = λ k le h.
        each_more u s (λ k. length t ≤ k → (parent_of v k ≡ p) ⊎ (length t ≤ parent_of v k))
        (λ k h le.
        let same = number_grown u (s ∷ []) (λ y. y.parent) k h in
        elim (g.parents k le h) [ inl q ↦ inl (same ∙ q) | inr z ↦ inr (omega (arith, same)) ])
        (λ le. inr (omega (arith, number_new u s (λ y. y.parent)))) k h le;
    first = λ k n le h low.
        (let longer = g.longer in
        each_more u s (λ k. length t ≤ k → is_before v k n ≡ false)
        (λ k h le. was k n h (omega arith) (g.first k n le h low))
        (λ le. new_first u s g.rooted there last n (omega arith)) k h le);
    apart = λ k j le h le' h'.
        each_more u s (λ k. length t ≤ k → is_before v k j ≡ false)
        (λ k h le.
        each_more u s (λ j. length t ≤ j → is_before v k j ≡ false) (λ j h' le'. was k j h h' (g.apart k j le h le' h')) (λ le'. after_none k le h) j h' le')
        (λ le.
        each_more u s (λ j. length t ≤ j → is_before v (length u) j ≡ false) (λ j h' le'. new_first u s g.rooted there last j h') (λ le'. new_apart u s g.rooted there) j h' le') k h le;
    before = λ n k low le h.
        (let longer = g.longer in
        each_more u s (λ k. length t ≤ k → 0 < stamp_of v k → is_before v n k ≡ true → (is_before_at t n p ≡ true) × (stamp_of v k ≡ stamp))
        (λ k h le some e.
        let same = number_grown u (s ∷ []) (λ y. y.stamp) k h in
        let z = g.before n k low le h (omega (arith, same)) (old_before u s g.rooted there n k (omega arith) h e) in
        (z.0, same ∙ z.1))
        (λ le some e. absurd (omega (arith, number_new u s (λ y. y.stamp)))) k h le);
  }

-- ## A fork with its strands

pub growth_fork : (t : List Node) → IsTree t → (p : ℕ) → IsPlace t p → (stamp : ℕ) → IsGrowth t (t ++ fork_nodes (length t) p stamp) p stamp
growth_fork t tree p w stamp =
    let n = length t in
    let a = fresh_node p Fork stamp in
    let b = fresh_node n Strand 0 in
    let one = t ++ a ∷ [] in
    let two = one ++ b ∷ [] in
    let e = end_of_place t p w in
    let fork_one : is_fork one n ≡ true = node_new t a (λ y. is_fork_kind y.kind) in
    let fork_two : is_fork two n ≡ true = node_grown one (b ∷ []) (λ y. is_fork_kind y.kind) n (omega (arith, length_more t a)) ∙ fork_one in
    let r = hung_one t p stamp tree w.there w.holds in
    let q = hung_two t p stamp tree w.there w.holds in
    let e_one = end_new t tree.rooted p e Fork stamp refl in
    let e_two = end_stays one r.rooted n e_one Strand 0 fork_one refl in
    let g_one = growth_leaf t tree.rooted p e Fork stamp in
    let g_two = growth_strand t one p stamp g_one n (omega arith) fork_one e_one.last in
    let P : List Node → Type 0 = λ u. IsGrowth t u p stamp in
    subst P (sym (in_turn t p stamp tree w.there w.holds)) (growth_strand t two p stamp g_two n (omega arith) fork_two e_two.last)
