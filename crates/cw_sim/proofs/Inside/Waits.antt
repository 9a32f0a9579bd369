-- What is above a strand that stands waits.
use Rattle.std.proofs.Common.{◌≡◌, ◌≢◌, ℕ, zero, suc, ◌<◌, ◌≤◌, List, length, refl, ap, sym, ◌∙◌, subst, arith, true, false, inl, inr, nat_eq}
use Rattle.std.specs.Prelude.{◌⊎◌, ◌&&◌, not}
use Rattle.std.proofs.lemmas.Bool.{and_parts, cases_Bool, cases_eq, eqb-true, not-true, false_from_ne_true}
use Rattle.cw_tree.specs.declared.node.Node.{Node}
use Rattle.cw_tree.specs.Nodes.{parent_of, is_strand, is_fork, is_pending, all_nodes}
use Rattle.cw_tree.specs.Walks.{IsRooted, has, is_ancestor, is_above}
use Rattle.cw_tree.specs.Series.{strand_of}
use Rattle.cw_tree.specs.Shape.{IsTree}
use Rattle.cw_tree.proofs.Walks.Ancestors.{ancestor_self, above_ancestor, ancestor_above, above_parent, ancestor_le, ancestor_trans}
use Rattle.cw_tree.proofs.Walks.Climbs.{by_parent}
use Rattle.cw_tree.proofs.Walks.Kin.{ancestor_linear}
use Rattle.cw_tree.proofs.Lists.{any_in}
use Rattle.cw_tree.proofs.Walks.Strands.{strand_of_other, strand_over, strand_innermost, strand_of_le, strand_itself}
use Rattle.cw_tree.proofs.Walks.There.{fork_there, strand_there}
use Rattle.cw_tree.proofs.NodeKinds.{fork_no_strand}
use Rattle.cw_open.specs.Machine.{OpenMachine, has_finished, waits, is_running}
use Rattle.cw_open.specs.Open.{is_open, AreNested}
use Rattle.cw_open.proofs.Open.Standing.{open_over, pending_open}
use Rattle.cw_open.proofs.Open.Kinds.{finished_shut, unjoined_open, open_unjoined}
use Rattle.cw_core.proofs.Events.Places.{waits_for}
use Rattle.cw_sim.specs.Workers.{right_node}
use Rattle.cw_sim.proofs.Kept.Halves.{AsMade, strand_open, right_child}
use Rattle.cw_sim.specs.Inside.{HasOneOpenFork, IsRightOf}

-- what a running strand is
pub record IsGoing (m : OpenMachine) (x : ℕ) : Type 0 where
  pub strand : is_strand m.tree x ≡ true
  pub unfinished : has_finished m x ≡ false
  pub alone : waits m x ≡ false

pub going : (m : OpenMachine) (x : ℕ) → is_running m x ≡ true → IsGoing m x
going m x e =
    let a = and_parts (is_strand m.tree x && not (has_finished m x) && not (waits m x)) (not (has m.stopped x)) e in
    let b = and_parts (is_strand m.tree x && not (has_finished m x)) (not (waits m x)) a.0 in
    let c = and_parts (is_strand m.tree x) (not (has_finished m x)) b.0 in
    record { strand = c.0; unfinished = not-true (has_finished m x) c.1; alone = not-true (waits m x) b.1 }

module _ (m : OpenMachine) (tree : IsTree m.tree) (nested : AreNested m.tree (is_open m)) where
  abbrev t : List Node
  t = m.tree

  r : IsRooted t
  r = tree.rooted

  -- a strand above an open node, and not its own, waits
  pub open_waits : (n : ℕ) → n < length t → is_open m n ≡ true → (z : ℕ) → is_strand t z ≡ true → is_above t z n ≡ true → (z ≡ strand_of t n) ⊎ (waits m z ≡ true)
  open_waits = by_parent t r (λ n. is_open m n ≡ true → (z : ℕ) → is_strand t z ≡ true → is_above t z n ≡ true → (z ≡ strand_of t n) ⊎ (waits m z ≡ true)) (λ e z is over. absurd (cc over)) step where
    step : (n : ℕ) → 0 < n → n < length t → (is_open m (parent_of t n) ≡ true → (z : ℕ) → is_strand t z ≡ true → is_above t z (parent_of t n) ≡ true → (z ≡ strand_of t (parent_of t n)) ⊎ (waits m z ≡ true))
        → is_open m n ≡ true → (z : ℕ) → is_strand t z ≡ true → is_above t z n ≡ true → (z ≡ strand_of t n) ⊎ (waits m z ≡ true)
    step n some h more e z is over = by_kind (cases_Bool (is_strand t n)) (cases_eq (parent_of t n) z) where
      q : ℕ
      q = parent_of t n

      low : q < n
      low = r n some h

      open_q : is_open m q ≡ true
      open_q = nested.outer n some h e

      up : is_ancestor t z q ≡ true
      up = sym (above_parent t r z n some h) ∙ over

      fork : is_strand t n ≡ true → is_fork t q ≡ true
      fork strand = tree.strands n h some strand

      by_kind : (is_strand t n ≡ true) ⊎ (is_strand t n ≡ false) → (q ≡ z) ⊎ (q ≢ z) → (z ≡ strand_of t n) ⊎ (waits m z ≡ true)
      by_kind (inl strand) (inl at) = absurd (let f = fork strand in cc (is, at, fork_no_strand t q f))
      by_kind (inr other) (inl at) = inl (sym (strand_of_other t r n some h other ∙ ap (strand_of t) at ∙ strand_itself t r z is))
      by_kind (inl strand) (inr ne) = elim (more open_q z is (sym (ancestor_above t z q ne) ∙ up)) [
        | inr w ↦ inr w
        | inl own ↦ inr (let f = fork strand in waits_for m z q (omega arith) f (sym own) (open_unjoined m q f open_q))
      ]
      by_kind (inr other) (inr ne) = elim (more open_q z is (sym (ancestor_above t z q ne) ∙ up)) [
        | inr w ↦ inr w
        | inl own ↦ inl (own ∙ sym (strand_of_other t r n some h other))
      ]

  -- ## Strands that stand

  module _ (y : ℕ) (stands : HasOneOpenFork m y) where
    low_y : y < length t
    low_y = strand_there t y stands.strand

    pub stands_waits : (z : ℕ) → is_strand t z ≡ true → is_above t z y ≡ true → waits m z ≡ true
    stands_waits z is over = elim (cases_eq y 0) [
      | inl e ↦ absurd (let o : is_above t z 0 ≡ false = refl in cc (o, over, ap (is_above t z) e))
      | inr ne ↦ by_fork (omega (arith, ne))
    ] where
      by_fork : 0 < y → waits m z ≡ true
      by_fork some =
          let f = parent_of t y in
          let low : f < y = r y some low_y in
          let h = low_y in
          let fork = tree.strands y h some stands.strand in
          let up : is_ancestor t z f ≡ true = sym (above_parent t r z y some h) ∙ over in
          let apart = stands.apart some in
          elim (cases_eq f z) [
            | inl at ↦ absurd (let o = ap (is_strand t) at in cc (is, o, fork_no_strand t f fork))
            | inr other ↦ elim (open_waits f (omega arith) (unjoined_open m f fork apart) z is (sym (ancestor_above t z f other) ∙ up)) [
              | inr w ↦ w
              | inl own ↦ waits_for m z f (omega arith) fork (sym own) apart
            ]
          ]

  -- a strand from which y comes as a right one is above it
  module _ (made : AsMade t) where
    right_step : (f y z : ℕ) → is_fork t f ≡ true → y ≡ right_node f → y < length t → is_ancestor t z (strand_of t f) ≡ true → is_above t z y ≡ true
    right_step f y z fork at h over =
        let low = fork_there t f fork in
        let c = right_child t tree made f fork in
        let up : parent_of t y ≡ f = ap (parent_of t) at ∙ c.parent in
        above_parent t r z y (omega (arith, at)) h ∙ ap (is_ancestor t z) up ∙ ancestor_trans t r z (strand_of t f) f low over (strand_over t r f low)

    strand_under_fork : (f : ℕ) → is_fork t f ≡ true → strand_of t f < length t
    strand_under_fork f fork = let low = fork_there t f fork in let le = strand_of_le t r f low in omega arith

    pub right_over : (n y z : ℕ) → y < length t → IsRightOf t n y z → is_ancestor t z y ≡ true
    right_over zero y z h e = ap (is_ancestor t z) e ∙ ancestor_self t z
    right_over (suc n) y z h (f, (fork, (at, rest))) = above_ancestor t z y (right_step f y z fork at h (right_over n (strand_of t f) z (strand_under_fork f fork) rest))

    pub right_above : (n y z : ℕ) → y < length t → IsRightOf t (suc n) y z → is_above t z y ≡ true
    right_above n y z h (f, (fork, (at, rest))) = right_step f y z fork at h (right_over n (strand_of t f) z (strand_under_fork f fork) rest)

  -- ## A running strand

  module _ (x : ℕ) (running : is_running m x ≡ true) where
    pub running_stands : HasOneOpenFork m x
    running_stands =
        let g = going m x running in
        let h = strand_there t x g.strand in
        record {
          strand = g.strand;
          apart = λ some. open_unjoined m (parent_of t x) (tree.strands x h some g.strand) (nested.outer x some h (strand_open m x g.strand g.unfinished));
          alone = g.alone;
        }

    -- no other strand that stands comes from it as a right one
    pub none_right : AsMade t → (y n : ℕ) → HasOneOpenFork m y → IsRightOf t n y x → y ≡ x
    none_right made y zero st e = e
    none_right made y (suc n) st e =
        absurd (
        let g = going m x running in
        let w = stands_waits y st x g.strand (right_above made n y x (strand_there t y st.strand) e) in
        let a = g.alone in
        cc (w, a))

    -- another strand above a node of it waits
    pub over_waits : (p y : ℕ) → p < length t → strand_of t p ≡ x → is_strand t y ≡ true → is_ancestor t y p ≡ true → y ≢ x → waits m y ≡ true
    over_waits p y h own is over ne =
        let P : ℕ → Type 0 = λ n. is_ancestor t n p ≡ true in
        let le : y ≤ strand_of t p = strand_innermost t r y is p h over in
        let up = ancestor_linear t r y x p h over (subst P own (strand_over t r p h)) (omega (arith, le, own)) in
        stands_waits x running_stands y is (sym (ancestor_above t y x (λ e. ne (sym e))) ∙ up)

  -- a strand of a pending block, come from another one as a right strand, waits there
  pub pending_waits : AsMade t → (q x n : ℕ) → is_pending t q ≡ true → q < length t → is_strand t x ≡ true → IsRightOf t (suc n) (strand_of t q) x → waits m x ≡ true
  pending_waits made q x n pending h is e =
      let own = strand_of t q in
      let le = strand_of_le t r q h in
      let over = right_above made n own x (omega arith) e in
      let up = ancestor_trans t r x own q h (above_ancestor t x own over) (strand_over t r q h) in
      let less : x < own = above_less own x (omega arith) over in
      elim (open_waits q h (pending_open m tree nested q pending) x is (sym (ancestor_above t x q (λ e. omega (arith, e, less, le))) ∙ up)) [
        | inr w ↦ w
        | inl same ↦ absurd (omega (arith, same, less))
      ] where
        above_less : (n a : ℕ) → n < length t → is_above t a n ≡ true → a < n
        above_less zero a h e = absurd (cc e)
        above_less (suc n) a h e =
            let up = ancestor_le t r a (parent_of t (suc n)) (let low : parent_of t (suc n) < suc n = r (suc n) (omega arith) h in omega arith) (sym (above_parent t r a (suc n) (omega arith) h) ∙ e) in
            let low : parent_of t (suc n) < suc n = r (suc n) (omega arith) h in
            omega arith

  -- a strand that finished waits for none
  pub finished_alone : (y : ℕ) → is_strand t y ≡ true → has_finished m y ≡ true → waits m y ≡ false
  finished_alone y is done =
      false_from_ne_true (waits m y) (λ e.
      let a = any_in (λ f. is_fork t f && nat_eq (strand_of t f) y && not (has m.joined f)) (all_nodes t) e in
      let b = and_parts (is_fork t a.0 && nat_eq (strand_of t a.0) y) (not (has m.joined a.0)) a.2 in
      let c = and_parts (is_fork t a.0) (nat_eq (strand_of t a.0) y) b.0 in
      let low = fork_there t a.0 c.0 in
      let P : ℕ → Type 0 = λ n. is_ancestor t n a.0 ≡ true in
      let over = subst P (eqb-true (strand_of t a.0) y c.1) (strand_over t r a.0 low) in
      let open_y = open_over m tree nested y a.0 low over (unjoined_open m a.0 c.0 (not-true (has m.joined a.0) b.1)) in
      absurd (cc (open_y, finished_shut m y is done)))
