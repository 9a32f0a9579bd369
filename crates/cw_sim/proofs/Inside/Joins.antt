-- Strands stay inside their blocks, as the two of a fork are joined.
use Rattle.std.proofs.Common.{◌≡◌, ◌≢◌, ℕ, suc, List, ◌∷◌, refl, ap, sym, ◌∙◌, subst, Bool, true, false, inl, inr, nat_eq}
use Rattle.std.specs.Prelude.{◌&&◌, ◌||◌, not, ℤ}
use Rattle.std.proofs.lemmas.Bool.{cases_eq, cases_Bool, and_parts, and_from, or_cases, or_parts, or_from, eqb-true, ne_eqb, not-true, not_from_false, false_from_ne_true}
use Rattle.cw_strand.specs.Strands.{Strands}
use Rattle.cw_strand.specs.Saving.{joins}
use Rattle.cw_tree.specs.declared.node.Node.{Node}
use Rattle.cw_tree.specs.Nodes.{parent_of, is_fork, is_pending, all_nodes}
use Rattle.cw_tree.specs.Walks.{has, is_ancestor}
use Rattle.cw_tree.specs.Series.{strand_of}
use Rattle.cw_tree.specs.Shape.{IsTree}
use Rattle.cw_tree.proofs.Walks.Ancestors.{above_ancestor, above_parent}
use Rattle.cw_tree.proofs.Lists.{any_in, any_from}
use Rattle.cw_tree.proofs.NextNodes.Before.{above_down}
use Rattle.cw_tree.proofs.Walks.Strands.{strand_over}
use Rattle.cw_tree.proofs.Walks.There.{fork_there}
use Rattle.cw_open.specs.Machine.{OpenMachine, has_finished, finished_dead, waits, is_dying}
use Rattle.cw_open.specs.Open.{is_open, AreNested}
use Rattle.cw_open.proofs.Refused.Backed.{dead_finished}
use Rattle.cw_open.proofs.Refused.BackedStates.{IsBackedState}
use Rattle.cw_open.proofs.Refused.Fell.{any_one}
use Rattle.cw_open.proofs.Laws.Named.{strand_is}
use Rattle.cw_open.proofs.Open.Standing.{open_over}
use Rattle.cw_open.proofs.Refused.Victims.{IsTold}
use Rattle.cw_open.proofs.Open.Kinds.{finished_shut, unjoined_open}
use Rattle.cw_sim.specs.Workers.{left_node, right_node, changed_at}
use Rattle.cw_sim.proofs.Kept.Halves.{AsMade, right_child, right_strand}
use Rattle.cw_sim.specs.Inside.{HasOneOpenFork, IsRightOf, goes_back, LivesIn, GoesBackIn, AreInside}
use Rattle.cw_sim.proofs.Inside.Dying.{dies_by, died_by, by_dies, dead_dies}
use Rattle.cw_sim.proofs.Inside.Kept.{changed_here, changed_other}
use Rattle.cw_sim.proofs.Inside.Quiet.{lives_to, back_to}
use Rattle.cw_sim.proofs.Inside.Waits.{finished_alone}

module _ {A : Type 0} (s : Strands A) (first : List ℤ) (m : OpenMachine) (w : IsBackedState first m) (made : AsMade m.tree) (f : ℕ) (fork : is_fork m.tree f ≡ true) (apart : has m.joined f ≡ false) (done : has_finished m (right_node f) ≡ true)
    (at saved there : ℕ → A) (old : AreInside s m at saved there) (here : A)
    (goes : is_dying m (strand_of m.tree f) ≡ true → here ≡ there (right_node f)) (joined : is_dying m (strand_of m.tree f) ≡ false → here ≡ s.joined (at (right_node f)) (at (left_node f))) where
  abbrev t : List Node
  t = m.tree

  abbrev p : ℕ
  p = strand_of t f

  abbrev y : ℕ
  y = right_node f

  abbrev u : OpenMachine
  u = record m { joined = f ∷ m.joined }

  abbrev a : A
  a = s.joined (at y) (at (left_node f))

  tree : IsTree t
  tree = w.told.state.well.sound.tree

  nested : AreNested t (is_open m)
  nested = w.told.state.well.nested

  p_open : is_open m p ≡ true
  p_open = let low = fork_there t f fork in open_over m tree nested p f low (strand_over t tree.rooted f low) (unjoined_open m f fork apart)

  unfinished : has_finished m p ≡ false
  unfinished = false_from_ne_true (has_finished m p) (λ e. absurd (let c = finished_shut m p (strand_is t tree.root f) e in let o = p_open in cc (c, o)))

  p_back : (b : Bool) → is_dying m p ≡ b → goes_back m p ≡ b
  p_back true e = ap (λ d. d || finished_dead m p) e
  p_back false e = ap (λ d. d || finished_dead m p) e ∙ false_from_ne_true (finished_dead m p) (λ d. absurd (let g = dead_finished m p d in let o = unfinished in cc (g, o)))

  -- the right strand stands
  right_stands : HasOneOpenFork m y
  right_stands =
      let c = right_child t tree made f fork in
      let strand = right_strand t tree made f fork in
      record { strand = strand; apart = λ some. ap (has m.joined) c.parent ∙ apart; alone = finished_alone m tree nested y strand done }

  -- where it goes back, so does the strand that forked
  right_dies : goes_back m y ≡ true → is_dying m p ≡ true
  right_dies e =
      let c = right_child t tree made f fork in
      elim (or_cases (is_dying m y) (finished_dead m y) e) [
        | inr d ↦ dead_dies first m w f y fork apart c.some c.parent d
        | inl d ↦
            (let o = any_one (IsTold t) (dies_by m y) m.conflicts w.told.told d in
            let (v, dies) = died_by m y o.one o.passes in
            let low = fork_there t f fork in
            let over = above_parent t tree.rooted p y c.some c.there ∙ ap (is_ancestor t p) c.parent ∙ strand_over t tree.rooted f low in
            o.among (dies_by m p) (by_dies m p o.one v (record {
              over = above_down t tree.rooted p y o.one.asker o.holds.asker over (above_ancestor t y o.one.asker dies.over);
              pending = dies.pending;
              victim = dies.victim;
            })))
      ]

  right_lives : is_dying m p ≡ false → goes_back m y ≡ false
  right_lives e = false_from_ne_true (goes_back m y) (λ g. absurd (let d = right_dies g in cc (d, e)))

  -- another strand that stands stood
  was : (x : ℕ) → x ≢ p → HasOneOpenFork u x → HasOneOpenFork m x
  was x ne st = record {
    strand = st.strand;
    apart = λ some. (or_parts (nat_eq f (parent_of t x)) (has m.joined (parent_of t x)) (st.apart some)).1;
    alone = false_from_ne_true (waits m x) (λ e. absurd (
        let z = any_in (λ g. is_fork t g && nat_eq (strand_of t g) x && not (has m.joined g)) (all_nodes t) e in
        let b = and_parts (is_fork t z.0 && nat_eq (strand_of t z.0) x) (not (has m.joined z.0)) z.2 in
        let c = and_parts (is_fork t z.0) (nat_eq (strand_of t z.0) x) b.0 in
        let other : f ≢ z.0 = λ q. ne (sym (eqb-true (strand_of t z.0) x c.1) ∙ ap (strand_of t) (sym q)) in
        let still = any_from (λ g. is_fork t g && nat_eq (strand_of t g) x && not (has (f ∷ m.joined) g)) z.0 (all_nodes t) z.1
        (and_from (is_fork t z.0 && nat_eq (strand_of t z.0) x) (not (has (f ∷ m.joined) z.0)) b.0 (not_from_false (has (f ∷ m.joined) z.0) (or_from (nat_eq f z.0) (has m.joined z.0) (ne_eqb f z.0 other) (not-true (has m.joined z.0) b.1)))) in
        let alone = st.alone in
        cc (still, alone)));
  }

  up : (b n : ℕ) → IsRightOf t n p (strand_of t b) → IsRightOf t (suc n) y (strand_of t b)
  up b n right = (f, (fork, (refl, right)))

  at_p : (b n : ℕ) → is_dying m p ≡ false → is_pending t b ≡ true → IsRightOf t n p (strand_of t b) → LivesIn s (has_finished m p) (saved b) n a
  at_p b n free pending right =
      let l = old.lives y b (suc n) right_stands (right_lives free) pending (up b n right) in
      record { inner = _; inside = joins l.inside (l.stays done) (at (left_node f)); stays = λ e. absurd (let o = unfinished in cc (e, o)) }

  there_p : (b n : ℕ) → is_pending t b ≡ true → IsRightOf t n p (strand_of t b) → GoesBackIn s (saved b) (there y)
  there_p b n pending right = elim (cases_Bool (goes_back m y)) [
    | inl g ↦ old.back y b (suc n) right_stands g pending (up b n right)
    | inr g ↦
        (let l = old.lives y b (suc n) right_stands g pending (up b n right) in
        let P : A → Type 0 = λ c. GoesBackIn s (saved b) c in
        subst P (sym (old.same y right_stands g)) (record { forks = suc n; inner = l.inner; inside = l.inside; stays = l.stays done }))
  ]

  p_free : goes_back u p ≡ false → is_dying m p ≡ false
  p_free e = (or_parts (is_dying m p) (finished_dead m p) e).0

  p_dies : goes_back u p ≡ true → is_dying m p ≡ true
  p_dies e = elim (cases_Bool (is_dying m p)) [ inl d ↦ d | inr d ↦ absurd (let o = p_back false d in cc (e, o)) ]

  same : (x : ℕ) → HasOneOpenFork u x → goes_back u x ≡ false → changed_at p here there x ≡ changed_at p a at x
  same x st e = elim (cases_eq x p) [
    | inl q ↦ ap (changed_at p here there) q ∙ changed_here p here there ∙ joined (p_free (ap (goes_back u) (sym q) ∙ e)) ∙ sym (ap (changed_at p a at) q ∙ changed_here p a at)
    | inr ne ↦ changed_other p here there x ne ∙ old.same x (was x ne st) e ∙ sym (changed_other p a at x ne)
  ]

  lives : (x b n : ℕ) → HasOneOpenFork u x → goes_back u x ≡ false → is_pending t b ≡ true → IsRightOf t n x (strand_of t b) → LivesIn s (has_finished m x) (saved b) n (changed_at p a at x)
  lives x b n st e pending right = elim (cases_eq x p) [
    | inl q ↦
        (let P : ℕ → Type 0 = λ c. IsRightOf t n c (strand_of t b) in
        lives_to s (has_finished m p) (has_finished m x) (saved b) (saved b) n a (changed_at p a at x) (ap (has_finished m) q) refl (ap (changed_at p a at) q ∙ changed_here p a at)
        (at_p b n (p_free (ap (goes_back u) (sym q) ∙ e)) pending (subst P q right)))
    | inr ne ↦ lives_to s (has_finished m x) (has_finished m x) (saved b) (saved b) n (at x) (changed_at p a at x) refl refl (changed_other p a at x ne) (old.lives x b n (was x ne st) e pending right)
  ]

  back : (x b n : ℕ) → HasOneOpenFork u x → goes_back u x ≡ true → is_pending t b ≡ true → IsRightOf t n x (strand_of t b) → GoesBackIn s (saved b) (changed_at p here there x)
  back x b n st e pending right = elim (cases_eq x p) [
    | inl q ↦
        (let P : ℕ → Type 0 = λ c. IsRightOf t n c (strand_of t b) in
        back_to s (saved b) (saved b) (there y) (changed_at p here there x) refl (ap (changed_at p here there) q ∙ changed_here p here there ∙ goes (p_dies (ap (goes_back u) (sym q) ∙ e))) (there_p b n pending (subst P q right)))
    | inr ne ↦ back_to s (saved b) (saved b) (there x) (changed_at p here there x) refl (changed_other p here there x ne) (old.back x b n (was x ne st) e pending right)
  ]

  pub both_joined : AreInside s u (changed_at p a at) saved (changed_at p here there)
  both_joined = record { same = same; lives = lives; back = back; blocks = old.blocks; begins = old.begins }
