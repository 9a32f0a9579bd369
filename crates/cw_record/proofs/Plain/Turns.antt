-- In a plain tree the number of a fork is how many its strand made before it, and one more; and a strand is a right one where it does not
-- come right after its fork.
use Rattle.std.proofs.Common.{◌≡◌, ◌≢◌, ℕ, suc, ◌+◌, ◌-◌, ◌<◌, ◌≤◌, List, length, refl, ap, sym, ◌∙◌, arith, Bool, true, false, inl, inr, subst, nat_lt, nat_eq}
use Rattle.std.specs.Prelude.{◌&&◌}
use Rattle.std.proofs.lemmas.Bool.{cases_lt, ne_eqb, eq-eqb, eqb-true, ltb-true, lt-ltb, and_from, and_parts, and_right, false_from_ne_true}
use Rattle.cw_tree.specs.declared.node.Node.{Node}
use Rattle.cw_tree.specs.Nodes.{parent_of, is_strand, is_fork, below}
use Rattle.cw_tree.specs.Walks.{IsNumbered, is_ancestor, lca}
use Rattle.cw_tree.specs.Series.{strand_of, is_before}
use Rattle.cw_tree.specs.Names.{fork_counts_at, fork_number, is_right}
use Rattle.cw_tree.specs.ForkCounts.{one_if}
use Rattle.cw_tree.proofs.Counting.{count, count_step, count_same, count_past}
use Rattle.cw_tree.proofs.Lists.{any_from, any_in}
use Rattle.cw_tree.proofs.Members.{below_in, in_below}
use Rattle.cw_tree.proofs.Walks.Ancestors.{ancestor_self, ancestor_step, ancestor_up, ancestor_le, ancestor_trans, above_ancestor}
use Rattle.cw_tree.proofs.Walks.Strands.{strand_of_le, strand_over, strand_innermost}
use Rattle.cw_tree.proofs.Walks.Meets.{lca_is_meet}
use Rattle.cw_tree.proofs.Walks.Kin.{Branch, branch, of_before, before_of, ancestor_linear, children_apart}
use Rattle.cw_tree.proofs.NodeKinds.{fork_some}
use Rattle.cw_tree.proofs.Names.Forks.{same_truth}
use Rattle.cw_tree.proofs.Names.Numbers.{Counts, of_counts, counts_of}
use Rattle.cw_record.specs.Plain.{IsPlainAt, forks_before}
use Rattle.cw_record.proofs.Orders.InOrder.{HangsFrom, between}
use Rattle.cw_record.proofs.Plain.Passing.{made_by}

module _ (t : List Node) (w : IsNumbered t) (plain : (m : ℕ) → 0 < m → m < length t → IsPlainAt t m) where
  pub hang : HangsFrom t (length t)
  hang n h =
      let before : suc n - 1 ≡ n = omega arith in
      ap (is_ancestor t (parent_of t (suc n))) (sym before) ∙ (plain (suc n) (omega arith) h).hangs

  -- what comes between a node and one beneath it is beneath it
  pub beneath : (i m n : ℕ) → i ≤ m → m ≤ n → n < length t → is_ancestor t i n ≡ true → is_ancestor t i m ≡ true
  beneath i m n le more h over = between t w.rooted hang i (n - m) m n (omega arith) le h over

  -- a child of a fork that stands above a node is a strand, and no strand around that node is farther out
  under_fork : (f n : ℕ) → n < length t → is_fork t f ≡ true → (b : Branch t w.rooted f n) → (is_strand t b.child ≡ true) × (b.child ≤ strand_of t n)
  under_fork f n h fork b =
      let le : b.child ≤ n = ancestor_le t w.rooted b.child n h b.over in
      let strand : is_strand t b.child ≡ true = (plain b.child b.some (omega arith)).strand ∙ ap (is_fork t) b.parent ∙ fork in
      (strand, strand_innermost t w.rooted b.child strand n h b.over)

  -- ## Forks that count

  module _ (n g : ℕ) (h : n < length t) where
    -- what comes before in series has the smaller number
    early : is_before t g n ≡ true → g < length t → g < n
    early e l =
        let s = of_before t g n e in
        let o = s.ordered in
        let less = o.less in
        elim (cases_lt g n) [
          | inl y ↦ y
          | inr ge ↦
              (let le : s.second ≤ n = ancestor_le t w.rooted s.second n h s.over_second in
              let under : is_ancestor t s.first s.second ≡ true = beneath s.first s.second g (omega arith) (omega arith) l s.over_first in
              let same = children_apart t w.rooted s.first s.second s.second (omega arith) o.some (omega arith) o.same under (ancestor_self t s.second) in
              absurd (omega arith))
        ]

    module _ (less : g < n) (fork : is_fork t g ≡ true) (same : strand_of t g ≡ strand_of t n) where
      abbrev meet : ℕ
      meet = lca t g n

      -- the fork is not above n: else a strand would stand between
      not_above : is_ancestor t g n ≡ true → ⊥
      not_above over =
          let b = branch t w.rooted g n h (omega arith) over in
          let z = under_fork g n h fork b in
          let low : parent_of t b.child < b.child = (let le : b.child ≤ n = ancestor_le t w.rooted b.child n h b.over in w.rooted b.child b.some (omega arith)) in
          omega (arith, z.1, b.parent, same, strand_of_le t w.rooted g (omega arith))

      module _ (c : Branch t w.rooted meet g) (d : Branch t w.rooted meet n) where
        c_le : c.child ≤ g
        c_le = ancestor_le t w.rooted c.child g (omega arith) c.over

        d_le : d.child ≤ n
        d_le = ancestor_le t w.rooted d.child n h d.over

        -- they part there
        apart : c.child ≡ d.child → ⊥
        apart e =
            let P : ℕ → Type 0 = λ m. is_ancestor t m n ≡ true in
            let both : is_ancestor t c.child meet ≡ true = (lca_is_meet t w.rooted g n (omega arith) h).innermost c.child c.over (subst P (sym e) d.over) in
            let low : parent_of t c.child < c.child = w.rooted c.child c.some (let le = c_le in omega arith) in
            let le : c.child ≤ meet = ancestor_le t w.rooted c.child meet (omega (arith, c_le, c.parent)) both in
            omega (arith, c.parent)

        -- in series, since the strand around both is no deeper
        in_series : is_fork t meet ≡ false
        in_series =
            false_from_ne_true (is_fork t meet) (λ f.
            let z = under_fork meet g (omega arith) f c in
            let out : is_ancestor t c.child (strand_of t g) ≡ true = ancestor_linear t w.rooted c.child (strand_of t g) g (omega arith) c.over (strand_over t w.rooted g (omega arith)) z.1 in
            let P : ℕ → Type 0 = λ s. is_ancestor t s n ≡ true in
            let over : is_ancestor t c.child n ≡ true = ancestor_trans t w.rooted c.child (strand_of t g) n h out (subst P (sym same) (strand_over t w.rooted n h)) in
            apart (children_apart t w.rooted c.child d.child n h c.some d.some (c.parent ∙ sym d.parent) over d.over))

        ordered : c.child < d.child
        ordered = elim (cases_lt c.child d.child) [
          | inl y ↦ y
          | inr ge ↦
              (let le = c_le in
              let over : is_ancestor t d.child g ≡ true = beneath d.child g n (omega arith) (omega arith) h d.over in
              absurd (apart (children_apart t w.rooted c.child d.child g (omega arith) c.some d.some (c.parent ∙ sym d.parent) c.over over)))
        ]

        comes_before : is_before t g n ≡ true
        comes_before = before_of t g n (record {
          first = c.child;
          second = d.child;
          ordered = record { some = c.some; less = ordered; same = c.parent ∙ sym d.parent; no_fork = ap (is_fork t) c.parent ∙ in_series };
          over_first = c.over;
          over_second = d.over;
        })

      before : is_before t g n ≡ true
      before =
          let m = lca_is_meet t w.rooted g n (omega arith) h in
          let le : meet ≤ g = ancestor_le t w.rooted meet g (omega arith) m.left in
          let P : ℕ → Type 0 = λ x. is_ancestor t x n ≡ true in
          let ne : g ≢ meet = (λ e. absurd (not_above (subst P (sym e) m.right))) in
          comes_before (branch t w.rooted meet g (omega arith) ne m.left) (branch t w.rooted meet n h (omega arith) m.right)

      counts : Counts t n g
      counts = record {
        fork = fork;
        strand = same;
        before = before;
        attempts = λ a over b. absurd (cc ((plain g (fork_some t w.root g fork) (omega arith)).kept fork a (above_ancestor t a g over), b));
      }

  -- the forks that count at n are those that its strand made before it
  pub forks_counted : (n : ℕ) → n < length t → count (fork_counts_at t n) (length t) ≡ forks_before t (strand_of t n) n
  forks_counted n h =
      count_past (fork_counts_at t n) n (length t) (omega arith) (λ g le l. false_from_ne_true (fork_counts_at t n g) (λ e. let less = early n g h (of_counts t n g e).before l in omega arith))
      ∙ count_same (fork_counts_at t n) (made_by t (strand_of t n)) n (λ g l. same_truth (fork_counts_at t n g) (made_by t (strand_of t n) g)
      (λ e. let s = of_counts t n g e in and_from (is_fork t g) (nat_eq (strand_of t g) (strand_of t n)) s.fork (eq-eqb (strand_of t g) (strand_of t n) s.strand))
      (λ e. let z = and_parts (is_fork t g) (nat_eq (strand_of t g) (strand_of t n)) e in counts_of t n g (counts n g h l z.0 (eqb-true (strand_of t g) (strand_of t n) z.1))))

  -- ## The turn to a strand

  module _ (s : ℕ) (some : 0 < s) (there : s < length t) (strand : is_strand t s ≡ true) where
    abbrev up : ℕ
    up = parent_of t s

    low : up < s
    low = w.rooted s some there

    fork : is_fork t up ≡ true
    fork = sym (plain s some there).strand ∙ strand

    over : is_ancestor t up s ≡ true
    over = ancestor_up t w.rooted up s some there (ancestor_self t up)

    -- between a fork and a strand of it stand strands of the fork alone, and what is in them
    made_there : (m : ℕ) → suc up ≤ m → m < s → made_by t (strand_of t up) m ≡ false
    made_there m le l =
        let b = branch t w.rooted up m (omega arith) (omega arith) (beneath up m s (omega arith) (omega arith) there over) in
        let z = under_fork up m (omega arith) fork b in
        let deep : parent_of t b.child < b.child = (let y : b.child ≤ m = ancestor_le t w.rooted b.child m (omega arith) b.over in w.rooted b.child b.some (omega arith)) in
        let high : strand_of t up ≤ up = (let l = low in strand_of_le t w.rooted up (omega arith)) in
        and_right (is_fork t m) (nat_eq (strand_of t m) (strand_of t up)) (ne_eqb (strand_of t m) (strand_of t up) (λ e. omega (arith, z.1, b.parent)))

    pub fork_is : forks_before t (strand_of t up) s ≡ fork_number t up
    fork_is =
        let own : one_if (made_by t (strand_of t up) up) ≡ 1 = ap one_if (and_from (is_fork t up) (nat_eq (strand_of t up) (strand_of t up)) fork (eq-eqb (strand_of t up) (strand_of t up) refl)) in
        let l = low in
        omega (arith, count_past (made_by t (strand_of t up)) (suc up) s (omega arith) made_there, count_step (made_by t (strand_of t up)) up, own, forks_counted up (omega arith))

    -- the node after the fork is a strand of it
    next_up : suc up < s → parent_of t (suc up) ≡ up
    next_up h =
        let under : is_ancestor t up (suc up) ≡ true = beneath up (suc up) s (omega arith) (omega arith) there over in
        let deep : is_ancestor t up (parent_of t (suc up)) ≡ true = sym (ancestor_step t w.rooted up (suc up) (omega arith) (omega arith) (λ e. omega arith)) ∙ under in
        let high : parent_of t (suc up) < suc up = w.rooted (suc up) (omega arith) (omega arith) in
        omega (arith, ancestor_le t w.rooted up (parent_of t (suc up)) (omega arith) deep)

    abbrev branches : ℕ → Bool
    branches m = nat_lt 0 m && is_strand t m && nat_eq (parent_of t m) up

    pub right_is : is_right t s ≡ nat_lt (up + 1) s
    right_is =
        same_truth (is_right t s) (nat_lt (up + 1) s)
        (λ e.
        let y = any_in branches (below s) e in
        let less : y.0 < s = in_below y.0 s y.1 in
        let z = and_parts (nat_lt 0 y.0 && is_strand t y.0) (nat_eq (parent_of t y.0) up) y.2 in
        let first : 0 < y.0 = ltb-true 0 y.0 (and_parts (nat_lt 0 y.0) (is_strand t y.0) z.0).0 in
        let high : parent_of t y.0 < y.0 = w.rooted y.0 first (omega arith) in
        lt-ltb (up + 1) s (omega (arith, eqb-true (parent_of t y.0) up z.1)))
        (λ e.
        let h : suc up < s = (let l = ltb-true (up + 1) s e in omega arith) in
        let parent = next_up h in
        let is : is_strand t (suc up) ≡ true = (plain (suc up) (omega arith) (omega arith)).strand ∙ ap (is_fork t) parent ∙ fork in
        any_from branches (suc up) (below s) (below_in (suc up) s h)
        (and_from (nat_lt 0 (suc up) && is_strand t (suc up)) (nat_eq (parent_of t (suc up)) up) (and_from (nat_lt 0 (suc up)) (is_strand t (suc up)) (lt-ltb 0 (suc up) (omega arith)) is) (eq-eqb (parent_of t (suc up)) up parent)))

    -- no third strand: one that comes before this one and not right after the fork
    pub no_third : (m : ℕ) → suc up < m → m < s → parent_of t m ≡ up → ⊥
    no_third m h l e =
        let P : ℕ → Type 0 = λ x. is_ancestor t x (s - 1) ≡ true in
        let next : up + 1 ≡ suc up = omega arith in
        let first : is_ancestor t (suc up) (s - 1) ≡ true = subst P next ((plain s some there).side strand (omega arith)) in
        let under : is_ancestor t (suc up) m ≡ true = beneath (suc up) m (s - 1) (omega arith) (omega arith) (omega arith) first in
        let same = children_apart t w.rooted (suc up) m m (omega arith) (omega arith) (omega arith) (next_up (omega arith) ∙ sym e) under (ancestor_self t m) in
        omega arith
