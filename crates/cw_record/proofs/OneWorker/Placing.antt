-- What is before the next node of a tree that one worker builds.
use Rattle.std.proofs.Common.{◌≡◌, ◌≢◌, ℕ, suc, ◌+◌, ◌<◌, ◌≤◌, List, length, ap, sym, ◌∙◌, arith, true, false, inl, inr, subst, nat_eq}
use Rattle.std.specs.Prelude.{◌⊎◌, ◌&&◌, ◌||◌}
use Rattle.std.proofs.lemmas.Bool.{and_parts, and_from, or_cases, or_left, or_right, cases_Bool, cases_lt, eqb-true, eq-eqb, false_from_ne_true}
use Rattle.cw_tree.specs.declared.node.Node.{Node}
use Rattle.cw_tree.specs.Nodes.{parent_of, is_strand, is_fork, is_block}
use Rattle.cw_tree.specs.Walks.{is_ancestor}
use Rattle.cw_tree.specs.Series.{strand_of, is_before}
use Rattle.cw_tree.specs.Names.{fork_counts_at, fork_number}
use Rattle.cw_tree.proofs.Walks.Climbs.{by_parent}
use Rattle.cw_tree.proofs.Walks.Ancestors.{ancestor_self, ancestor_step, ancestor_up, above_ancestor, ancestor_le, ancestor_root, root_ancestor}
use Rattle.cw_tree.proofs.Walks.Strands.{strand_of_strand, strand_of_other, strand_of_le, strand_over}
use Rattle.cw_tree.proofs.Walks.Kin.{of_before, before_of, children_apart, branch, before_apart}
use Rattle.cw_tree.proofs.Counting.{count, count_same, count_past}
use Rattle.cw_tree.proofs.Names.Forks.{same_truth}
use Rattle.cw_tree.proofs.Names.Numbers.{of_counts, counts_of}
use Rattle.cw_tree.proofs.Walks.Agreeing.{OneMore, ancestor_same, strand_of_same}
use Rattle.cw_tree.proofs.Walks.StrandForks.{forks_of}
use Rattle.cw_tree.proofs.NextNodes.Trees.{only_fork, no_fork}
use Rattle.cw_record.proofs.OneWorker.Building.{IsBuilt}
use Rattle.cw_record.proofs.OneWorker.NoneAborted.{not_aborted}

module _ (t : List Node) (p clock : ℕ) (b : IsBuilt t p clock) (u : List Node) (m : OneMore t u p) where
  abbrev g : ℕ
  g = length t

  some : 0 < g
  some = let there = b.there in omega arith

  low : g < length u
  low = let len = m.len in omega arith

  -- the ancestors of the new node, except itself, are those of the place
  over_place : (c : ℕ) → g ≢ c → is_ancestor u c g ≡ is_ancestor t c p
  over_place c ne = ancestor_step u m.rooted c g some low ne ∙ ap (is_ancestor u c) m.parent ∙ ancestor_same t u g m.agree c p b.there

  -- the new node is before none
  pub before_no_old : (n : ℕ) → n < g → is_before u g n ≡ false
  before_no_old n h =
      false_from_ne_true (is_before u g n) (λ e.
      let s = of_before u g n e in
      let o = s.ordered in
      let less = o.less in
      let first_some = o.some in
      let le : s.second ≤ n = ancestor_le u m.rooted s.second n (omega arith) s.over_second in
      let ne : g ≢ s.first = omega arith in
      let over : is_ancestor t s.first p ≡ true = sym (over_place s.first ne) ∙ s.over_first in
      let beneath : is_ancestor u s.first s.second ≡ true = ancestor_same t u g m.agree s.first s.second (omega arith) ∙ b.last s.first s.second over (omega arith) (omega arith) in
      let same : s.first ≡ s.second = children_apart u m.rooted s.first s.second s.second (omega arith) first_some (omega arith) o.same beneath (ancestor_self u s.second) in
      omega arith)

  -- a node that is not on the way to the place, right in a node on this way that is no fork, is before the new node
  aside : (n : ℕ) → 0 < n → n < g → is_fork t (parent_of t n) ≡ false → is_ancestor t n p ≡ false → is_ancestor t (parent_of t n) p ≡ true → is_before u n g ≡ true
  aside n q h plain off on =
      let q_low : parent_of t n < n = b.rooted n q h in
      let over : is_ancestor u (parent_of t n) g ≡ true = over_place (parent_of t n) (omega arith) ∙ on in
      let z = branch u m.rooted (parent_of t n) g low (omega arith) over in
      let high : z.child ≤ g = ancestor_le u m.rooted z.child g low z.over in
      let up : parent_of u n ≡ parent_of u z.child = m.agree.parents n h ∙ sym z.parent in
      let less : n < z.child =
      elim (cases_lt n z.child) [
        | inl l ↦ l
        | inr le ↦
            (let ne : g ≢ z.child = omega arith in
            let on_way : is_ancestor t z.child p ≡ true = sym (over_place z.child ne) ∙ z.over in
            let beneath : is_ancestor u z.child n ≡ true = ancestor_same t u g m.agree z.child n h ∙ b.last z.child n on_way le h in
            let same : z.child ≡ n = children_apart u m.rooted z.child n n (omega arith) z.some q (sym up) beneath (ancestor_self u n) in
            let P : ℕ → Type 0 = λ c. is_ancestor t c p ≡ true in
            absurd (cc (off, subst P same on_way)))
      ] in
      before_of u n g (record {
        first = n;
        second = z.child;
        ordered = record { some = q; less = less; same = up; no_fork = ap (is_fork u) (m.agree.parents n h) ∙ m.agree.forks (parent_of t n) (omega arith) ∙ plain };
        over_first = ancestor_self u n;
        over_second = z.over;
      })

  before_down : (n : ℕ) → 0 < n → n < g → is_before u (parent_of t n) g ≡ true → is_before u n g ≡ true
  before_down n q h e =
      let s = of_before u (parent_of t n) g e in
      let P : ℕ → Type 0 = λ x. is_ancestor u s.first x ≡ true in
      before_of u n g (record { first = s.first; second = s.second; ordered = s.ordered; over_first = ancestor_up u m.rooted s.first n q (omega (arith, low)) (subst P (sym (m.agree.parents n h)) s.over_first); over_second = s.over_second })

  -- what a fork or a block stands in
  parent_kind : (n : ℕ) → is_strand t n ≡ false → (is_strand t n || (is_block t n || is_fork t n)) ≡ true → (is_strand t (parent_of t n) || is_block t (parent_of t n)) ≡ true
  parent_kind n other k =
      elim (or_cases (is_strand t n) (is_block t n || is_fork t n) k) [
        | inl e ↦ absurd (cc (other, e))
        | inr e ↦ elim (or_cases (is_block t n) (is_fork t n) e) [ inl block ↦ b.blocks n block | inr fork ↦ b.forks n fork ]
      ]

  kind_more : (n : ℕ) → (is_strand t n || is_block t n) ≡ true → (is_strand t n || (is_block t n || is_fork t n)) ≡ true
  kind_more n k =
      elim (or_cases (is_strand t n) (is_block t n) k) [
        | inl e ↦ or_left (is_strand t n) (is_block t n || is_fork t n) e
        | inr e ↦ or_right (is_strand t n) (is_block t n || is_fork t n) (or_left (is_block t n) (is_fork t n) e)
      ]

  -- a strand, block or fork of the place's strand is on the way to the place, or before the new node
  on_way_or_before : (n : ℕ) → n < g → (is_strand t n || (is_block t n || is_fork t n)) ≡ true → strand_of t n ≡ strand_of t p → (is_ancestor t n p ≡ true) ⊎ (is_before u n g ≡ true)
  on_way_or_before =
      by_parent t b.rooted (λ n. (is_strand t n || (is_block t n || is_fork t n)) ≡ true → strand_of t n ≡ strand_of t p → (is_ancestor t n p ≡ true) ⊎ (is_before u n g ≡ true))
      (λ k e. inl (root_ancestor t b.rooted p b.there))
      (λ n q h more k e. by_case n q h more k e (cases_Bool (is_strand t n)) (cases_Bool (is_ancestor t n p))) where
        by_case : (n : ℕ) → 0 < n → n < g
            → ((is_strand t (parent_of t n) || (is_block t (parent_of t n) || is_fork t (parent_of t n))) ≡ true → strand_of t (parent_of t n) ≡ strand_of t p → (is_ancestor t (parent_of t n) p ≡ true) ⊎ (is_before u (parent_of t n) g ≡ true))
            → (is_strand t n || (is_block t n || is_fork t n)) ≡ true → strand_of t n ≡ strand_of t p → (is_strand t n ≡ true) ⊎ (is_strand t n ≡ false) → (is_ancestor t n p ≡ true) ⊎ (is_ancestor t n p ≡ false)
            → (is_ancestor t n p ≡ true) ⊎ (is_before u n g ≡ true)
        by_case n q h more k e z (inl on) = inl on
        by_case n q h more k e (inl strand) (inr off) = inl (let P : ℕ → Type 0 = λ s. is_ancestor t s p ≡ true in subst P (sym e ∙ strand_of_strand t b.rooted n q h strand) (strand_over t b.rooted p b.there))
        by_case n q h more k e (inr other) (inr off) =
            let up = parent_kind n other k in
            inr (elim (more (kind_more (parent_of t n) up) (sym (strand_of_other t b.rooted n q h other) ∙ e)) [ inl on ↦ aside n q h (no_fork t (parent_of t n) up) off on | inr before ↦ before_down n q h before ])

  -- beneath a fork another strand begins
  strand_beneath : (n : ℕ) → is_fork t n ≡ true → (k : ℕ) → k < g → (is_strand t k || is_block t k) ≡ true → is_ancestor t n k ≡ true → n < strand_of t k
  strand_beneath n fork =
      by_parent t b.rooted (λ k. (is_strand t k || is_block t k) ≡ true → is_ancestor t n k ≡ true → n < strand_of t k)
      (λ s e. absurd (differ 0 s (sym (ancestor_root t n e))))
      (λ k q h more s e. by_kind k q h more s e (cases_Bool (is_strand t k))) where
        differ : (k : ℕ) → (is_strand t k || is_block t k) ≡ true → k ≢ n
        differ k s e = let P : ℕ → Type 0 = λ x. (is_strand t x || is_block t x) ≡ false in absurd (cc (s, subst P (sym e) (only_fork t n fork)))

        by_kind : (k : ℕ) → 0 < k → k < g → ((is_strand t (parent_of t k) || is_block t (parent_of t k)) ≡ true → is_ancestor t n (parent_of t k) ≡ true → n < strand_of t (parent_of t k))
            → (is_strand t k || is_block t k) ≡ true → is_ancestor t n k ≡ true → (is_strand t k ≡ true) ⊎ (is_strand t k ≡ false) → n < strand_of t k
        by_kind k q h more s e (inl strand) =
            let le : n ≤ k = ancestor_le t b.rooted n k h e in
            let ne : k ≢ n = differ k s in
            omega (arith, strand_of_strand t b.rooted k q h strand)
        by_kind k q h more s e (inr other) =
            let up : is_ancestor t n (parent_of t k) ≡ true = sym (ancestor_step t b.rooted n k q h (differ k s)) ∙ e in
            omega (arith, strand_of_other t b.rooted k q h other, more (parent_kind k other (kind_more k s)) up)

  fork_before : (n : ℕ) → n < g → is_fork t n ≡ true → strand_of t n ≡ strand_of t p → is_before u n g ≡ true
  fork_before n h fork same =
      elim (on_way_or_before n h (or_right (is_strand t n) (is_block t n || is_fork t n) (or_right (is_block t n) (is_fork t n) fork)) same) [
        | inl over ↦ absurd (let deep : n < strand_of t p = strand_beneath n fork p b.there b.place over in let high : strand_of t n ≤ n = strand_of_le t b.rooted n h in omega (arith, same))
        | inr before ↦ before
      ]

  module _ (other : is_strand u g ≡ false) where
    pub strand_of_added : strand_of u g ≡ strand_of t p
    strand_of_added = strand_of_other u m.rooted g some low other ∙ ap (strand_of u) m.parent ∙ strand_of_same t u g m.agree b.rooted p b.there

    -- at the new node the forks of its strand count
    forks_count : (n : ℕ) → n < g → fork_counts_at u g n ≡ (is_fork t n && nat_eq (strand_of t n) (strand_of t p))
    forks_count n h =
        same_truth (fork_counts_at u g n) (is_fork t n && nat_eq (strand_of t n) (strand_of t p))
        (λ e.
        let s = of_counts u g n e in
        and_from (is_fork t n) (nat_eq (strand_of t n) (strand_of t p)) (sym (m.agree.forks n h) ∙ s.fork) (eq-eqb (strand_of t n) (strand_of t p) (sym (strand_of_same t u g m.agree b.rooted n h) ∙ s.strand ∙ strand_of_added)))
        (λ e.
        let z = and_parts (is_fork t n) (nat_eq (strand_of t n) (strand_of t p)) e in
        let same : strand_of t n ≡ strand_of t p = eqb-true (strand_of t n) (strand_of t p) z.1 in
        counts_of u g n (record {
          fork = m.agree.forks n h ∙ z.0;
          strand = strand_of_same t u g m.agree b.rooted n h ∙ same ∙ sym strand_of_added;
          before = fork_before n h z.0 same;
          attempts = λ x i q.
              (let le : x ≤ n = ancestor_le u m.rooted x n (omega (arith, low)) (above_ancestor u x n i) in
              absurd (cc (q, m.agree.aborted x (omega arith), not_aborted t p clock b x)));
        }))

    -- the number of the new node, were it a fork
    pub number_added : fork_number u g ≡ suc (forks_of t (strand_of t p))
    number_added =
        let all : count (fork_counts_at u g) (length u) ≡ count (fork_counts_at u g) g =
        count_past (fork_counts_at u g) g (length u) m.agree.there_too (λ n le h.
        let same : g ≡ n = let len = m.len in omega arith in
        let P : ℕ → Type 0 = λ x. fork_counts_at u g x ≡ false in
        subst P same (false_from_ne_true (fork_counts_at u g g) (λ e. before_apart u m.rooted g g low (of_counts u g g e).before (ancestor_self u g)))) in
        let old : count (fork_counts_at u g) g ≡ forks_of t (strand_of t p) = count_same (fork_counts_at u g) (λ n. is_fork t n && nat_eq (strand_of t n) (strand_of t p)) g forks_count in
        ap (λ k. k + 1) (all ∙ old) ∙ omega arith
