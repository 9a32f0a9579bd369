-- The forks that count at a node are those that count at its parent, and those in its earlier siblings.
use Rattle.std.proofs.Common.{◌≡◌, ◌≢◌, ℕ, ◌+◌, ◌<◌, ◌≤◌, List, length, refl, ap, sym, ◌∙◌, arith, Bool, true, false, inl, inr, subst, nat_eq, nat_lt, Option, Some, None}
use Rattle.std.specs.Prelude.{◌⊎◌, ◌&&◌, ◌||◌, not, slice_get}
use Rattle.std.specs.List.{list_all}
use Rattle.std.proofs.lemmas.Bool.{and_parts, and_from, or_cases, or_left, or_right, cases_Bool, cases_eq, cases_lt, eqb-true, eq-eqb, ltb-true, lt-ltb, not-true, not_from_false, false_from_ne_true}
use Rattle.cw_tree.specs.declared.node.Node.{Node}
use Rattle.cw_tree.specs.declared.node.Kind.{Kind}
use Rattle.cw_tree.specs.declared.node.Kind.TheVariants.{Fork}
use Rattle.cw_tree.specs.Nodes.{passes, is_fork_kind, is_block_kind, is_aborted_state, parent_of, is_strand, is_fork, is_aborted}
use Rattle.cw_tree.specs.Walks.{IsRooted, above, is_ancestor, is_above}
use Rattle.cw_tree.specs.Series.{strand_of, is_before}
use Rattle.cw_tree.specs.Names.{fork_counts_at}
use Rattle.cw_tree.proofs.Lists.{all_in, all_from}
use Rattle.cw_tree.proofs.Walks.Ancestors.{ancestor_self, ancestor_root, ancestor_step, ancestor_up, ancestor_above, above_ancestor, above_parent, ancestor_le, ancestor_trans}
use Rattle.cw_tree.proofs.Walks.Strands.{strand_of_strand, strand_of_other, strand_of_le, strand_over, strand_innermost, strand_through}
use Rattle.cw_tree.proofs.Walks.Kin.{of_before, before_of, above_in, in_above, ancestor_linear, before_apart}
use Rattle.cw_tree.proofs.Counting.{count, count_same, count_none, count_or, count_less}
use Rattle.cw_tree.proofs.Names.Forks.{same_truth, comes_to, child_to, forks_to, comes, comes_from}

fork_kind_stays : (k : Kind) (b : Bool) → is_fork_kind k ≡ true → (is_block_kind k && b) ≡ false
fork_kind_stays Fork b e = refl
fork_kind_stays _ b e = absurd (cc e)

-- a fork is no block that was rolled back
pub fork_stays : (t : List Node) (n : ℕ) → is_fork t n ≡ true → is_aborted t n ≡ false
fork_stays t n =
    by_node (slice_get t n) where
      by_node : (o : Option Node) → passes (λ x. is_fork_kind x.kind) o ≡ true → passes (λ x. is_block_kind x.kind && is_aborted_state x.state) o ≡ false
      by_node None e = refl
      by_node (Some x) e = fork_kind_stays x.kind (is_aborted_state x.state) e

-- what counting forks asks of the blocks above one
abbrev pub is_past : List Node → ℕ → ℕ → Bool
is_past t n a = not (is_aborted t a) || is_above t a n

-- fork g counts at n
pub record Counts (t : List Node) (n g : ℕ) : Type 0 where
  pub fork : is_fork t g ≡ true
  pub strand : strand_of t g ≡ strand_of t n
  pub before : is_before t g n ≡ true
  pub attempts : (a : ℕ) → is_above t a g ≡ true → is_aborted t a ≡ true → is_above t a n ≡ true

pub of_counts : (t : List Node) (n g : ℕ) → fork_counts_at t n g ≡ true → Counts t n g
of_counts t n g e =
    let a = and_parts (is_fork t g && nat_eq (strand_of t g) (strand_of t n) && is_before t g n) (list_all (is_past t n) (above t g)) e in
    let b = and_parts (is_fork t g && nat_eq (strand_of t g) (strand_of t n)) (is_before t g n) a.0 in
    let c = and_parts (is_fork t g) (nat_eq (strand_of t g) (strand_of t n)) b.0 in
    record {
      fork = c.0;
      strand = eqb-true (strand_of t g) (strand_of t n) c.1;
      before = b.1;
      attempts = λ x h q. elim (or_cases (not (is_aborted t x)) (is_above t x n) (all_in (is_past t n) x (above t g) a.1 (above_in t x g h))) [ inl z ↦ absurd (cc (not-true (is_aborted t x) z, q)) | inr z ↦ z ];
    }

pub counts_of : (t : List Node) (n g : ℕ) → Counts t n g → fork_counts_at t n g ≡ true
counts_of t n g s =
    and_from (is_fork t g && nat_eq (strand_of t g) (strand_of t n) && is_before t g n) (list_all (is_past t n) (above t g))
    (and_from (is_fork t g && nat_eq (strand_of t g) (strand_of t n)) (is_before t g n) (and_from (is_fork t g) (nat_eq (strand_of t g) (strand_of t n)) s.fork (eq-eqb (strand_of t g) (strand_of t n) s.strand)) s.before)
    (all_from (is_past t n) (above t g) (λ x i. elim (cases_Bool (is_aborted t x)) [
      | inl q ↦ or_right (not (is_aborted t x)) (is_above t x n) (s.attempts x (in_above t x g i) q)
      | inr q ↦ or_left (not (is_aborted t x)) (is_above t x n) (not_from_false (is_aborted t x) q)
    ]))

module _ (t : List Node) (r : IsRooted t) where
  -- nothing counts at the root, and nothing at a strand
  pub none_at_root : count (fork_counts_at t 0) (length t) ≡ 0
  none_at_root =
      count_none (fork_counts_at t 0) (length t) (λ g h. false_from_ne_true (fork_counts_at t 0 g) (λ e.
      let s = of_before t g 0 (of_counts t 0 g e).before in
      let less = s.ordered.less in
      omega (arith, ancestor_root t s.second s.over_second)))

  pub none_at_strand : (n : ℕ) → 0 < n → n < length t → is_strand t n ≡ true → count (fork_counts_at t n) (length t) ≡ 0
  none_at_strand n p hn e =
      count_none (fork_counts_at t n) (length t) (λ g h. false_from_ne_true (fork_counts_at t n g) (λ f.
      let s = of_counts t n g f in
      let P : ℕ → Type 0 = λ m. is_ancestor t m g ≡ true in
      before_apart t r g n h s.before (subst P (s.strand ∙ strand_of_strand t r n p hn e) (strand_over t r g h))))

  -- what counts at a node is in none of its children
  apart : (q high g : ℕ) → g < length t → fork_counts_at t q g ≡ true → comes_to t (child_to t high q) g ≡ true → ⊥
  apart q high g h e f =
      let s = (comes t r (child_to t high q) g h f).1 in
      let y = and_parts (nat_lt 0 s.node && nat_lt s.node high) (nat_eq (parent_of t s.node) q) s.passes in
      let same : parent_of t s.node ≡ q = eqb-true (parent_of t s.node) q y.1 in
      let some : 0 < s.node = ltb-true 0 s.node (and_parts (nat_lt 0 s.node) (nat_lt s.node high) y.0).0 in
      let le : s.node ≤ g = ancestor_le t r s.node g h s.over in
      let P : ℕ → Type 0 = λ m. is_ancestor t m g ≡ true in
      before_apart t r g q h (of_counts t q g e).before
      (subst P same (ancestor_trans t r (parent_of t s.node) s.node g h (ancestor_up t r (parent_of t s.node) s.node some (omega arith) (ancestor_self t (parent_of t s.node))) s.over))

  none_in_root : (q high : ℕ) → 0 < length t → (fork_counts_at t q 0 || comes_to t (child_to t high q) 0) ≡ false
  none_in_root q high h =
      false_from_ne_true (fork_counts_at t q 0 || comes_to t (child_to t high q) 0) (λ e. elim (or_cases (fork_counts_at t q 0) (comes_to t (child_to t high q) 0) e) [
        | inl f ↦
            (let s = of_before t 0 q (of_counts t q 0 f).before in
            let some = s.ordered.some in
            omega (arith, ancestor_root t s.first s.over_first))
        | inr f ↦
            (let s = (comes t r (child_to t high q) 0 h f).1 in
            let y = and_parts (nat_lt 0 s.node && nat_lt s.node high) (nat_eq (parent_of t s.node) q) s.passes in
            let some : 0 < s.node = ltb-true 0 s.node (and_parts (nat_lt 0 s.node) (nat_lt s.node high) y.0).0 in
            omega (arith, ancestor_root t s.node s.over))
      ])

  pub numbers_fit : (q high : ℕ) → 0 < length t → count (fork_counts_at t q) (length t) + forks_to t (child_to t high q) < length t
  numbers_fit q high h =
      let both : ℕ → Bool = λ g. fork_counts_at t q g || comes_to t (child_to t high q) g in
      omega (arith, count_or both (fork_counts_at t q) (comes_to t (child_to t high q)) (length t) (λ g l. refl) (apart q high), count_less both (length t) (none_in_root q high h) h)

  module _ (n : ℕ) (p : 0 < n) (hn : n < length t) (other : is_strand t n ≡ false) where
    from_parent : (g : ℕ) → g < length t → Counts t (parent_of t n) g → Counts t n g
    from_parent g h s =
        let b = of_before t g (parent_of t n) s.before in
        record {
          fork = s.fork;
          strand = s.strand ∙ sym (strand_of_other t r n p hn other);
          before = before_of t g n (record { first = b.first; second = b.second; ordered = b.ordered; over_first = b.over_first; over_second = ancestor_up t r b.second n p hn b.over_second });
          attempts = λ a i q. above_parent t r a n p hn ∙ above_ancestor t a (parent_of t n) (s.attempts a i q);
        }

    -- where the fork is before n's parent too
    to_parent : (g : ℕ) → g < length t → Counts t n g → is_before t g (parent_of t n) ≡ true → Counts t (parent_of t n) g
    to_parent g h s b = record {
      fork = s.fork;
      strand = s.strand ∙ strand_of_other t r n p hn other;
      before = b;
      attempts = λ a i q.
          (let ne : parent_of t n ≢ a = λ e. before_apart t r g (parent_of t n) h b (let P : ℕ → Type 0 = λ m. is_ancestor t m g ≡ true in subst P (sym e) (above_ancestor t a g i)) in
          sym (ancestor_above t a (parent_of t n) ne) ∙ sym (above_parent t r a n p hn) ∙ s.attempts a i q);
    }

    -- where the fork stands in a sibling before n
    to_sibling : (g : ℕ) → g < length t → Counts t n g → (c : ℕ) → 0 < c → c < n → parent_of t c ≡ parent_of t n → is_ancestor t c g ≡ true → comes_to t (child_to t n (parent_of t n)) g ≡ true
    to_sibling g h s c q less same over =
        let low : parent_of t c < c = r c q (omega arith) in
        comes_from t r (child_to t n (parent_of t n)) g h s.fork (record {
          node = c;
          over = over;
          passes = and_from (nat_lt 0 c && nat_lt c n) (nat_eq (parent_of t c) (parent_of t n)) (and_from (nat_lt 0 c) (nat_lt c n) (lt-ltb 0 c q) (lt-ltb c n less)) (eq-eqb (parent_of t c) (parent_of t n) same);
          opened = λ m a k. and_from (not (is_strand t m)) (not (is_aborted t m))
              (not_from_false (is_strand t m) (false_from_ne_true (is_strand t m) (λ e.
              let deep : m ≤ strand_of t g = strand_innermost t r m e g h a in
              let high : strand_of t (parent_of t n) ≤ parent_of t n = strand_of_le t r (parent_of t n) (let l : parent_of t n < n = r n p hn in omega arith) in
              omega (arith, s.strand, strand_of_other t r n p hn other, same))))
              (not_from_false (is_aborted t m) (false_from_ne_true (is_aborted t m) (λ e.
              let ne : g ≢ m = λ z. (let P : ℕ → Type 0 = λ x. is_aborted t x ≡ false in absurd (cc (e, subst P z (fork_stays t g s.fork)))) in
              let up : is_ancestor t m (parent_of t n) ≡ true = sym (above_parent t r m n p hn) ∙ s.attempts m (sym (ancestor_above t m g ne) ∙ a) e in
              let le : m ≤ parent_of t n = ancestor_le t r m (parent_of t n) (let l : parent_of t n < n = r n p hn in omega arith) up in
              omega (arith, same))));
        })

    from_sibling : (g : ℕ) → g < length t → is_fork t (parent_of t n) ≡ false → comes_to t (child_to t n (parent_of t n)) g ≡ true → Counts t n g
    from_sibling g h f e =
        let z = comes t r (child_to t n (parent_of t n)) g h e in
        let s = z.1 in
        let c = s.node in
        let y = and_parts (nat_lt 0 c && nat_lt c n) (nat_eq (parent_of t c) (parent_of t n)) s.passes in
        let x = and_parts (nat_lt 0 c) (nat_lt c n) y.0 in
        let some : 0 < c = ltb-true 0 c x.0 in
        let less : c < n = ltb-true c n x.1 in
        let same : parent_of t c ≡ parent_of t n = eqb-true (parent_of t c) (parent_of t n) y.1 in
        let opened = λ (m : ℕ) (a : is_ancestor t m g ≡ true) (k : c ≤ m). and_parts (not (is_strand t m)) (not (is_aborted t m)) (s.opened m a k) in
        record {
          fork = z.0;
          strand = strand_through t r c some g h s.over (λ m a k. not-true (is_strand t m) (opened m a k).0) ∙ ap (strand_of t) same ∙ sym (strand_of_other t r n p hn other);
          before = before_of t g n (record {
            first = c;
            second = n;
            ordered = record { some = some; less = less; same = same; no_fork = ap (is_fork t) same ∙ f };
            over_first = s.over;
            over_second = ancestor_self t n;
          });
          attempts = λ a i q.
              (let over = above_ancestor t a g i in
              elim (cases_lt a c) [
                | inl l ↦
                    (let ne : c ≢ a = omega arith in
                    let P : ℕ → Type 0 = λ m. is_ancestor t a m ≡ true in
                    above_parent t r a n p hn ∙ subst P same (sym (ancestor_step t r a c some (omega arith) ne) ∙ ancestor_linear t r a c g h over s.over (omega arith)))
                | inr k ↦ absurd (cc (not-true (is_aborted t a) (opened a over k).1, q))
              ]);
        }

    split : (g : ℕ) → g < length t → Counts t n g → (is_before t g (parent_of t n) ≡ true) ⊎ ((is_fork t (parent_of t n) ≡ false) × (comes_to t (child_to t n (parent_of t n)) g ≡ true))
    split g h s =
        let b = of_before t g n s.before in
        elim (cases_eq n b.second) [
          | inl e ↦
              inr (
                (ap (is_fork t) (let same = b.ordered.same in ap (parent_of t) e ∙ sym same) ∙ b.ordered.no_fork),
                to_sibling g h s b.first b.ordered.some (let less = b.ordered.less in omega (arith, e)) (b.ordered.same ∙ ap (parent_of t) (sym e)) b.over_first,
              )
          | inr ne ↦ inl (before_of t g (parent_of t n) (record { first = b.first; second = b.second; ordered = b.ordered; over_first = b.over_first; over_second = sym (ancestor_step t r b.second n p hn ne) ∙ b.over_second }))
        ]

    -- beneath a fork only what counts at the fork counts
    pub forks_beneath_fork : is_fork t (parent_of t n) ≡ true → count (fork_counts_at t n) (length t) ≡ count (fork_counts_at t (parent_of t n)) (length t)
    forks_beneath_fork f =
        count_same (fork_counts_at t n) (fork_counts_at t (parent_of t n)) (length t) (λ g h. same_truth (fork_counts_at t n g) (fork_counts_at t (parent_of t n) g)
        (λ e. (let s = of_counts t n g e in elim (split g h s) [ inl b ↦ counts_of t (parent_of t n) g (to_parent g h s b) | inr z ↦ absurd (cc (f, z.0)) ]))
        (λ e. counts_of t n g (from_parent g h (of_counts t (parent_of t n) g e))))

    pub forks_before : is_fork t (parent_of t n) ≡ false → count (fork_counts_at t n) (length t) ≡ count (fork_counts_at t (parent_of t n)) (length t) + forks_to t (child_to t n (parent_of t n))
    forks_before f =
        count_or (fork_counts_at t n) (fork_counts_at t (parent_of t n)) (comes_to t (child_to t n (parent_of t n))) (length t)
        (λ g h. same_truth (fork_counts_at t n g) (fork_counts_at t (parent_of t n) g || comes_to t (child_to t n (parent_of t n)) g)
        (λ e.
        let s = of_counts t n g e in
        elim (split g h s) [
          | inl b ↦ or_left (fork_counts_at t (parent_of t n) g) (comes_to t (child_to t n (parent_of t n)) g) (counts_of t (parent_of t n) g (to_parent g h s b))
          | inr z ↦ or_right (fork_counts_at t (parent_of t n) g) (comes_to t (child_to t n (parent_of t n)) g) z.1
        ])
        (λ e. elim (or_cases (fork_counts_at t (parent_of t n) g) (comes_to t (child_to t n (parent_of t n)) g) e) [
          | inl q ↦ counts_of t n g (from_parent g h (of_counts t (parent_of t n) g q))
          | inr q ↦ counts_of t n g (from_sibling g h f q)
        ]))
        (apart (parent_of t n) n)
