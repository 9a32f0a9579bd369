-- How many forks a strand has made before and behind each node, where the forks of attempts that were rolled back do not count.
use Rattle.std.proofs.Common.{◌≡◌, ◌≢◌, ℕ, zero, suc, ◌+◌, ◌<◌, ◌≤◌, List, [], ◌∷◌, ◌++◌, length, refl, ap, sym, ◌∙◌, arith, Bool, true, false, cond, subst, nat_eq, nat_lt, nat_le}
use Rattle.std.specs.Prelude.{◌&&◌, ◌||◌, not}
use Rattle.std.specs.List.{filter}
use Rattle.std.proofs.lemmas.List.{append-nil}
use Rattle.std.proofs.lemmas.List.Elements.{filter-append}
use Rattle.std.proofs.lemmas.Bool.{and_parts, and_from, lt-ltb, le-leb, ltb-true, leb-true, eqb-true, eq-eqb, false_from_ne_true}
use Rattle.cw_tree.specs.declared.node.Node.{Node}
use Rattle.cw_tree.specs.Nodes.{parent_of, below, is_strand, is_fork, is_block, is_aborted}
use Rattle.cw_tree.specs.Series.{children}
use Rattle.cw_tree.specs.Names.{fork_counts_at}
use Rattle.cw_tree.specs.ForkCounts.{lets_out, one_if}
use Rattle.cw_tree.specs.Shape.{IsTree}
use Rattle.cw_tree.specs.Links.{is_child}
use Rattle.cw_tree.proofs.Walks.Ancestors.{ancestor_le}
use Rattle.cw_tree.proofs.Counting.{count, count_none}
use Rattle.cw_tree.proofs.Names.Forks.{comes_to, comes, forks_to, forks_same, forks_stopped, forks_inside, child_from, child_to, is_same, same_truth}
use Rattle.cw_tree.proofs.Names.Numbers.{none_at_root, none_at_strand, forks_before}
use Rattle.cw_tree.proofs.Names.Passes.{to_none, to_more, to_same}
use Rattle.cw_tree.proofs.InOrder.DepthFirst.{IsChild}
use Rattle.cw_record.specs.Coherent.{InSeries}
use Rattle.cw_replay.proofs.Kin.{fork_child}
use Rattle.cw_replay.proofs.RecordsReplay.Tasks.Sorts.{IsSort, Sort, fork, committed, aborted, of_strand, of_fork, of_block, of_aborted}

pub in_series_append : {A : Type 0} (before after : ℕ → A) (a b c : A) (ns ms : List ℕ) → InSeries before after a ns b → InSeries before after b ms c → InSeries before after a (ns ++ ms) c
in_series_append {A = A} before after a b c [] ms l m = let P : A → Type 0 = λ x. InSeries before after x ms c in subst P (sym l) m
in_series_append before after a b c (n ∷ ns) ms l m = (l.0, in_series_append before after (after n) b c ns ms l.1 m)

module _ (t : List Node) where
  abbrev pub forks_before_node : ℕ → ℕ
  forks_before_node n = count (fork_counts_at t n) (length t)

  abbrev pub forks_behind : ℕ → ℕ
  forks_behind n = forks_before_node n + forks_to t (is_same n)

  -- where a strand or a block has come to
  abbrev pub forks_reached : ℕ → ℕ
  forks_reached q = forks_before_node q + forks_to t (child_to t (length t) q)

module _ (t : List Node) (tree : IsTree t) where
  -- ## From child to child

  module _ (q : ℕ) (no_fork : is_fork t q ≡ false) where
    plain_child : (n : ℕ) → IsChild t q n → is_strand t n ≡ false
    plain_child n k = false_from_ne_true (is_strand t n) (λ f. absurd (cc (no_fork, ap (is_fork t) (sym k.parent) ∙ tree.strands n k.there k.some f)))

    abbrev to_here : ℕ → ℕ
    to_here m = forks_before_node t q + forks_to t (child_to t m q)

    at_child : (n : ℕ) → IsChild t q n → forks_before_node t n ≡ to_here n
    at_child n k =
        forks_before t tree.rooted n k.some k.there (plain_child n k) (ap (is_fork t) k.parent ∙ no_fork)
        ∙ ap (λ x. forks_before_node t x + forks_to t (child_to t n x)) k.parent

    abbrev To : List ℕ → ℕ → Type 0
    To ns b = InSeries (forks_before_node t) (forks_behind t) (forks_before_node t q) ns b

    first_children : (m : ℕ) → 0 < m → m ≤ length t → To (filter (is_child t q) (below m)) (to_here m)
    first_children zero p le = absurd (omega arith)
    first_children (suc zero) p le = let none : forks_to t (child_to t 1 q) ≡ 0 = to_none t tree.rooted q in omega arith
    first_children (suc (suc m)) p le = by (is_child t q (suc m)) refl (first_children (suc m) (omega arith) (omega arith)) where
      split : filter (is_child t q) (below (suc (suc m))) ≡ filter (is_child t q) (below (suc m)) ++ cond (is_child t q (suc m)) (suc m ∷ []) []
      split = filter-append (is_child t q) (below (suc m)) (suc m ∷ [])

      by : (b : Bool) → is_child t q (suc m) ≡ b → To (filter (is_child t q) (below (suc m))) (to_here (suc m)) → To (filter (is_child t q) (below (suc (suc m)))) (to_here (suc (suc m)))
      by true e more =
          let parent : parent_of t (suc m) ≡ q = eqb-true (parent_of t (suc m)) q (and_parts (nat_lt 0 (suc m)) (nat_eq (parent_of t (suc m)) q) e).1 in
          let k : IsChild t q (suc m) = record { some = omega arith; there = omega arith; parent = parent } in
          let one : forks_to t (child_to t (suc (suc m)) q) ≡ forks_to t (child_to t (suc m) q) + forks_to t (is_same (suc m)) = to_more t tree.rooted (suc m) (omega arith) q (sym parent) in
          let here : forks_before_node t (suc m) ≡ to_here (suc m) = at_child (suc m) k in
          let next : forks_behind t (suc m) ≡ to_here (suc (suc m)) = omega (arith, one, here) in
          let Q : List ℕ → Type 0 = λ ns. To ns (to_here (suc (suc m))) in
          subst Q (sym (split ∙ ap (λ c. filter (is_child t q) (below (suc m)) ++ cond c (suc m ∷ []) []) e))
          (in_series_append (forks_before_node t) (forks_behind t) (forks_before_node t q) (to_here (suc m)) (to_here (suc (suc m))) (filter (is_child t q) (below (suc m))) (suc m ∷ []) more (here, next))
      by false e more =
          let other : q ≢ parent_of t (suc m) = λ z. absurd (cc (e, and_from (nat_lt 0 (suc m)) (nat_eq (parent_of t (suc m)) q) (lt-ltb 0 (suc m) (omega arith)) (eq-eqb (parent_of t (suc m)) q (sym z)))) in
          let none : to_here (suc (suc m)) ≡ to_here (suc m) = ap (λ k. forks_before_node t q + k) (to_same t tree.rooted (suc m) (omega arith) q other) in
          let R : ℕ → Type 0 = λ b. To (filter (is_child t q) (below (suc (suc m)))) b in
          let Q : List ℕ → Type 0 = λ ns. To ns (to_here (suc m)) in
          subst R (sym none)
          (subst Q (sym (split ∙ ap (λ c. filter (is_child t q) (below (suc m)) ++ cond c (suc m ∷ []) []) e ∙ append-nil (filter (is_child t q) (below (suc m))))) more)

    pub forks_in_series : InSeries (forks_before_node t) (forks_behind t) (forks_before_node t q) (children t q) (forks_reached t q)
    forks_in_series = first_children (length t) tree.some (omega arith)

  -- a strand begins with none
  pub none_first : (x : ℕ) → x < length t → is_strand t x ≡ true → forks_before_node t x ≡ 0
  none_first zero h e = none_at_root t tree.rooted
  none_first (suc x) h e = none_at_strand t tree.rooted (suc x) (omega arith) h e

  -- ## Behind a node

  none_inside : (n : ℕ) → n < length t → ((c : ℕ) → IsChild t n c → lets_out t c ≡ false) → forks_to t (child_from t (suc n) n) ≡ 0
  none_inside n h none =
      count_none (comes_to t (child_from t (suc n) n)) (length t) (λ g l. false_from_ne_true (comes_to t (child_from t (suc n) n) g) (λ e.
      let s = (comes t tree.rooted (child_from t (suc n) n) g l e).1 in
      let y = and_parts (nat_le (suc n) s.node) (nat_eq (parent_of t s.node) n) s.passes in
      let low : suc n ≤ s.node = leb-true (suc n) s.node y.0 in
      let le : s.node ≤ g = ancestor_le t tree.rooted s.node g l s.over in
      let k : IsChild t n s.node = record { some = omega arith; there = omega arith; parent = eqb-true (parent_of t s.node) n y.1 } in
      absurd (cc (none s.node k, s.opened s.node s.over (omega arith)))))

  leaf_inside : (n : ℕ) → (is_strand t n || is_fork t n || is_block t n) ≡ false → (c : ℕ) → IsChild t n c → ⊥
  leaf_inside n z c k = absurd (cc (z, ap (λ p. is_strand t p || is_fork t p || is_block t p) (sym k.parent) ∙ tree.parents c k.there k.some))

  lets : (n : ℕ) (z : Sort) → IsSort t n z → lets_out t n ≡ (not (of_strand z) && not (of_aborted z))
  lets n z s = ap (λ b. not b && not (is_aborted t n)) s.strand ∙ ap (λ b. not (of_strand z) && not b) s.aborted

  no_parent : (n : ℕ) (z : Sort) → IsSort t n z → (is_strand t n || is_fork t n || is_block t n) ≡ (of_strand z || of_fork z || of_block z)
  no_parent n z s = ap (λ b. b || is_fork t n || is_block t n) s.strand ∙ ap (λ b. of_strand z || b || is_block t n) s.fork ∙ ap (λ b. of_strand z || of_fork z || b) s.block

  -- with a fork there is one more
  pub one_more : (n : ℕ) → n < length t → IsSort t n fork → forks_behind t n ≡ suc (forks_before_node t n)
  one_more n h s =
      let inner : forks_to t (child_from t (suc n) n) ≡ 0 = none_inside n h (λ c k. strand_shut c (fork_child t tree n c h s.fork k)) in
      let own : one_if (is_fork t n) ≡ 1 = ap one_if s.fork in
      omega (arith, inner, own, forks_inside t tree.rooted n h (lets n fork s)) where
        strand_shut : (c : ℕ) → is_strand t c ≡ true → lets_out t c ≡ false
        strand_shut c e = ap (λ b. not b && not (is_aborted t c)) e

  -- with an access or an output there are none, made or refused
  pub none_more : (n : ℕ) (z : Sort) → n < length t → IsSort t n z → (not (of_strand z) && not (of_aborted z)) ≡ true → (of_strand z || of_fork z || of_block z) ≡ false → of_fork z ≡ false → forks_behind t n ≡ forks_before_node t n
  none_more n z h s o none f =
      let inner : forks_to t (child_from t (suc n) n) ≡ 0 = none_inside n h (λ c k. absurd (leaf_inside n (no_parent n z s ∙ none) c k)) in
      let own : one_if (is_fork t n) ≡ 0 = ap one_if (s.fork ∙ f) in
      omega (arith, inner, own, forks_inside t tree.rooted n h (lets n z s ∙ o))

  -- with a block that was rolled back there are none
  pub none_kept : (n : ℕ) → IsSort t n aborted → forks_behind t n ≡ forks_before_node t n
  none_kept n s = omega (arith, forks_stopped t tree.rooted n (lets n aborted s))

  -- behind a committed block there are those that it came to
  pub all_kept : (n : ℕ) → 0 < n → n < length t → IsSort t n committed → forks_behind t n ≡ forks_reached t n
  all_kept n p h s =
      let own : one_if (is_fork t n) ≡ 0 = ap one_if s.fork in
      omega (arith, own, forks_inside t tree.rooted n h (lets n committed s), forks_same t tree.rooted (child_from t (suc n) n) (child_to t (length t) n) (λ d l. same_truth (child_from t (suc n) n d) (child_to t (length t) n d) (down d l) (up d l))) where
        down : (d : ℕ) → d < length t → child_from t (suc n) n d ≡ true → child_to t (length t) n d ≡ true
        down d l e =
            let y = and_parts (nat_le (suc n) d) (nat_eq (parent_of t d) n) e in
            let low : suc n ≤ d = leb-true (suc n) d y.0 in
            and_from (nat_lt 0 d && nat_lt d (length t)) (nat_eq (parent_of t d) n) (and_from (nat_lt 0 d) (nat_lt d (length t)) (lt-ltb 0 d (omega arith)) (lt-ltb d (length t) l)) y.1

        up : (d : ℕ) → d < length t → child_to t (length t) n d ≡ true → child_from t (suc n) n d ≡ true
        up d l e =
            let y = and_parts (nat_lt 0 d && nat_lt d (length t)) (nat_eq (parent_of t d) n) e in
            let some : 0 < d = ltb-true 0 d (and_parts (nat_lt 0 d) (nat_lt d (length t)) y.0).0 in
            let low : parent_of t d < d = tree.rooted d some l in
            let same : parent_of t d ≡ n = eqb-true (parent_of t d) n y.1 in
            and_from (nat_le (suc n) d) (nat_eq (parent_of t d) n) (le-leb (suc n) d (omega (arith, same))) y.1
