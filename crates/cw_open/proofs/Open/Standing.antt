-- Where a running strand stands: at a place, in which nothing is open.
use Rattle.std.proofs.Common.{◌≡◌, ℕ, ◌<◌, ◌≤◌, List, length, refl, ap, ◌∙◌, arith, Bool, true, false, Option, Some, None, inl, inr, nat_eq}
use Rattle.std.specs.Prelude.{◌⊎◌, ◌&&◌, ◌||◌, not, unwrap_or}
use Rattle.std.proofs.lemmas.Bool.{and_parts, and_from, or_cases, or_left, or_right, not-true, not_from_false, eqb-true, eq-eqb, false_from_ne_true, true_from_ne_false}
use Rattle.cw_tree.specs.declared.node.Node.{Node}
use Rattle.cw_tree.specs.Nodes.{is_strand_kind, is_fork_kind, is_block_kind, is_pending_state, parent_of, is_strand, is_fork, is_block, is_pending, all_nodes, last_below}
use Rattle.cw_tree.specs.Walks.{IsRooted, has, is_ancestor, is_above}
use Rattle.cw_tree.specs.Series.{strand_of, place, is_before}
use Rattle.cw_tree.specs.Shape.{IsTree}
use Rattle.cw_tree.specs.NextNodes.{IsPlace}
use Rattle.cw_tree.proofs.Lists.{any_from}
use Rattle.cw_tree.proofs.Members.{below_in}
use Rattle.cw_tree.proofs.Walks.There.{node_there}
use Rattle.cw_tree.proofs.Walks.Ancestors.{above_ancestor, beneath, ancestor_le}
use Rattle.cw_tree.proofs.Walks.Kin.{of_before, branch}
use Rattle.cw_tree.proofs.Walks.Strands.{strand_of_other, strand_itself}
use Rattle.cw_tree.proofs.NextNodes.Trees.{no_fork}
use Rattle.cw_tree.proofs.NextNodes.Before.{above_less}
use Rattle.cw_tree.proofs.NodeKinds.{strand_no_block, fork_no_strand, fork_no_block, pending_block}
use Rattle.cw_tree.proofs.LastBelow.{last_is, none_is}
use Rattle.cw_open.specs.Machine.{OpenMachine, has_finished, waits, is_running}
use Rattle.cw_open.specs.Open.{is_open, AreNested}

-- it stands at itself, or in a pending block begun in it, the last of them
pub record StandsAt (t : List Node) (s p : ℕ) : Type 0 where
  pub there : p < length t
  pub strand : strand_of t p ≡ s
  pub kind : (p ≡ s) ⊎ (is_pending t p ≡ true)
  pub last : (b : ℕ) → p < b → is_pending t b ≡ true → strand_of t b ≡ s → ⊥

abbrev pub is_begun_in : List Node → ℕ → ℕ → Bool
is_begun_in t s n = is_pending t n && nat_eq (strand_of t n) s

pub stands_at : (t : List Node) → IsRooted t → (s : ℕ) → is_strand t s ≡ true → StandsAt t s (place t s)
stands_at t r s e = by (last_below (is_begun_in t s) (length t)) refl where
  by : (o : Option ℕ) → last_below (is_begun_in t s) (length t) ≡ o → StandsAt t s (unwrap_or o s)
  by None q = record {
    there = node_there (λ y. is_strand_kind y.kind) t s e;
    strand = strand_itself t r s e;
    kind = inl refl;
    last = λ b l pending same.
        absurd (cc (none_is (is_begun_in t s) (length t) b q (node_there (λ y. is_block_kind y.kind && is_pending_state y.state) t b pending), and_from (is_pending t b) (nat_eq (strand_of t b) s) pending (eq-eqb (strand_of t b) s same)));
  }
  by (Some b) q =
      let w = last_is (is_begun_in t s) (length t) b q in
      let z = and_parts (is_pending t b) (nat_eq (strand_of t b) s) w.passes in
      record {
        there = w.low;
        strand = eqb-true (strand_of t b) s z.1;
        kind = inr z.0;
        last = λ c l pending same.
            absurd (cc (w.none c l (node_there (λ y. is_block_kind y.kind && is_pending_state y.state) t c pending), and_from (is_pending t c) (nat_eq (strand_of t c) s) pending (eq-eqb (strand_of t c) s same)));
      }

-- ## What an open node has around it

module _ (m : OpenMachine) (tree : IsTree m.tree) (w : AreNested m.tree (is_open m)) where
  abbrev t : List Node
  t = m.tree

  r : IsRooted t
  r = tree.rooted

  -- each ancestor of an open node is open
  pub open_over : (a n : ℕ) → n < length t → is_ancestor t a n ≡ true → is_open m n ≡ true → is_open m a ≡ true
  open_over a n h over = beneath t r a (λ n. is_open m n ≡ true → is_open m a ≡ true) (λ e. e) (λ n p g up more e. more (w.outer n p g e)) n h over

  -- nothing comes after it in series
  pub open_last : (n k : ℕ) → n < length t → k < length t → is_open m n ≡ true → is_before t n k ≡ false
  open_last n k hn hk e =
      false_from_ne_true (is_before t n k) (λ q.
      let s = of_before t n k q in
      let o = s.ordered in
      let le : s.second ≤ k = ancestor_le t r s.second k hk s.over_second in
      absurd (cc (open_over s.first n hn s.over_first e, w.last s.first s.second o.some o.less (omega arith) o.same o.no_fork)))

  -- an open block is pending
  pub open_block : (n : ℕ) → is_block t n ≡ true → is_open m n ≡ true → is_pending t n ≡ true
  open_block n block e =
      elim (or_cases (is_strand t n && not (has_finished m n) || is_fork t n && not (has m.joined n)) (is_pending t n) e) [
        | inr z ↦ z
        | inl z ↦ elim (or_cases (is_strand t n && not (has_finished m n)) (is_fork t n && not (has m.joined n)) z) [
          | inl y ↦ absurd (cc (block, strand_no_block t n (and_parts (is_strand t n) (not (has_finished m n)) y).0))
          | inr y ↦ absurd (cc (block, fork_no_block t n (and_parts (is_fork t n) (not (has m.joined n)) y).0))
        ]
      ]

  pub pending_open : (n : ℕ) → is_pending t n ≡ true → is_open m n ≡ true
  pending_open n e = or_right (is_strand t n && not (has_finished m n) || is_fork t n && not (has m.joined n)) (is_pending t n) e

  -- ## A running strand

  module _ (s : ℕ) (running : is_running m s ≡ true) where
    abbrev p : ℕ
    p = place t s

    pub record Runs : Type 0 where
      pub strand : is_strand t s ≡ true
      pub unfinished : has_finished m s ≡ false
      pub waits_for_none : (f : ℕ) → is_fork t f ≡ true → strand_of t f ≡ s → has m.joined f ≡ true

    pub runs : Runs
    runs =
        let a = and_parts (is_strand t s && not (has_finished m s) && not (waits m s)) (not (has m.stopped s)) running in
        let b = and_parts (is_strand t s && not (has_finished m s)) (not (waits m s)) a.0 in
        let c = and_parts (is_strand t s) (not (has_finished m s)) b.0 in
        let none = not-true (waits m s) b.1 in
        record {
          strand = c.0;
          unfinished = not-true (has_finished m s) c.1;
          waits_for_none = λ f fork same.
              true_from_ne_false (has m.joined f) (λ e.
              let h = node_there (λ y. is_fork_kind y.kind) t f fork in
              let waiting = any_from (λ f. is_fork t f && nat_eq (strand_of t f) s && not (has m.joined f)) f (all_nodes t) (below_in f (length t) h)
              (and_from (is_fork t f && nat_eq (strand_of t f) s) (not (has m.joined f)) (and_from (is_fork t f) (nat_eq (strand_of t f) s) fork (eq-eqb (strand_of t f) s same)) (not_from_false (has m.joined f) e)) in
              absurd (cc (none, waiting)));
        }

    pub stands : StandsAt t s p
    stands = stands_at t r s runs.strand

    pub place_holds : (is_strand t p || is_block t p) ≡ true
    place_holds = elim stands.kind [
      | inl e ↦ or_left (is_strand t p) (is_block t p) (ap (is_strand t) e ∙ runs.strand)
      | inr e ↦ or_right (is_strand t p) (is_block t p) (pending_block t p e)
    ]

    pub place_open : is_open m p ≡ true
    place_open = elim stands.kind [
      | inl e ↦ ap (is_open m) e ∙ or_left (is_strand t s && not (has_finished m s) || is_fork t s && not (has m.joined s)) (is_pending t s)
          (or_left (is_strand t s && not (has_finished m s)) (is_fork t s && not (has m.joined s)) (and_from (is_strand t s) (not (has_finished m s)) runs.strand (not_from_false (has_finished m s) runs.unfinished)))
      | inr e ↦ pending_open p e
    ]

    -- nothing in it is open
    pub none_open : (c : ℕ) → 0 < c → c < length t → parent_of t c ≡ p → is_open m c ≡ false
    none_open c some h up =
        false_from_ne_true (is_open m c) (λ e.
        elim (or_cases (is_strand t c && not (has_finished m c) || is_fork t c && not (has m.joined c)) (is_pending t c) e) [
          | inr pending ↦
              (let low : parent_of t c < c = r c some h in
              let other : is_strand t c ≡ false = false_from_ne_true (is_strand t c) (λ q. absurd (cc (pending_block t c pending, strand_no_block t c q))) in
              stands.last c (omega (arith, up)) pending (strand_of_other t r c some h other ∙ ap (strand_of t) up ∙ stands.strand))
          | inl z ↦ elim (or_cases (is_strand t c && not (has_finished m c)) (is_fork t c && not (has m.joined c)) z) [
            | inl y ↦
                (let fork = tree.strands c h some (and_parts (is_strand t c) (not (has_finished m c)) y).0 in
                absurd (cc (no_fork t p place_holds, up, fork)))
            | inr y ↦
                (let a = and_parts (is_fork t c) (not (has m.joined c)) y in
                let joined = runs.waits_for_none c a.0 (strand_of_other t r c some h (fork_no_strand t c a.0) ∙ ap (strand_of t) up ∙ stands.strand) in
                absurd (cc (joined, not-true (has m.joined c) a.1)))
          ]
        ])

    -- nor beneath it
    pub shut_beneath : (b : ℕ) → b < length t → is_above t p b ≡ true → is_open m b ≡ false
    shut_beneath b h over =
        false_from_ne_true (is_open m b) (λ e.
        let less = above_less t r p b h over in
        let z = branch t r p b h (omega arith) (above_ancestor t p b over) in
        let le : z.child ≤ b = ancestor_le t r z.child b h z.over in
        absurd (cc (none_open z.child z.some (omega arith) z.parent, open_over z.child b h z.over e)))

    pub is_place : IsPlace t p
    is_place = record {
      there = stands.there;
      holds = place_holds;
      last = λ n h. open_last p n stands.there h place_open;
      around = λ b e. (let z = and_parts (is_block t b) (is_ancestor t b p) e in open_block b z.0 (open_over b p stands.there z.1 place_open));
      within = λ b h over.
          false_from_ne_true (is_pending t b) (λ e. absurd (cc (shut_beneath b h over, pending_open b e)));
    }
