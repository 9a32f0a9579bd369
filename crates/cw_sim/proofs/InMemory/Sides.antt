-- Which strands have bodies, before and after the strands of a fork are joined.
use Rattle.std.proofs.Common.{◌≡◌, ◌≢◌, ℕ, zero, suc, List, ◌∷◌, refl, ap, sym, ◌∙◌, subst, arith, true, false, inl, inr, nat_eq}
use Rattle.std.specs.Prelude.{◌&&◌, not, ℤ}
use Rattle.std.proofs.lemmas.Bool.{and_parts, and_from, or_cases, or_left, or_parts, or_from, eq-eqb, eqb-true, ne_eqb, not-true, not_from_false, false_from_ne_true}
use Rattle.cw_tree.specs.declared.node.Node.{Node}
use Rattle.cw_tree.specs.Nodes.{parent_of, is_strand, is_fork, all_nodes}
use Rattle.cw_tree.specs.Walks.{has, is_ancestor}
use Rattle.cw_tree.specs.Series.{strand_of}
use Rattle.cw_tree.specs.Shape.{IsTree}
use Rattle.cw_tree.proofs.Walks.Ancestors.{above_ancestor, above_parent}
use Rattle.cw_tree.proofs.Lists.{any_in, any_from}
use Rattle.cw_tree.proofs.NextNodes.Before.{above_down}
use Rattle.cw_tree.proofs.Walks.Strands.{strand_over}
use Rattle.cw_open.specs.Machine.{OpenMachine, has_finished, finished_dead, waits, is_dying}
use Rattle.cw_open.specs.Runs.{at_once}
use Rattle.cw_open.proofs.Refused.BackedStates.{IsBackedState, backed_states}
use Rattle.cw_open.proofs.Refused.Fell.{any_one}
use Rattle.cw_open.proofs.Refused.Victims.{IsTold}
use Rattle.cw_core.specs.declared.event.Event.TheVariants as event
use Rattle.cw_tree.proofs.Walks.There.{fork_there}
use Rattle.cw_tree.proofs.Walks.Kin.{fork_child}
use Rattle.cw_tree.proofs.InOrder.DepthFirst.{IsChild}
use Rattle.cw_core.specs.State.{CoreState}
use Rattle.cw_core.specs.Events.{after_event}
use Rattle.cw_core.proofs.Events.Going.{well}
use Rattle.cw_sim.specs.Kept.{CoreGoesOn}
use Rattle.cw_sim.specs.Inside.{HasOneOpenFork as IsThere, goes_back}
use Rattle.cw_sim.specs.InMemory.{has_body}
use Rattle.cw_sim.proofs.Inside.Dying.{dies_by, died_by, by_dies, dead_dies}
use Rattle.cw_sim.proofs.Inside.Waits.{finished_alone}

-- a strand that has a body stands
pub body_stands : (k : CoreState) → is_strand k.machine.tree 0 ≡ true → (x : ℕ) → has_body k x ≡ true → IsThere k.machine x
body_stands k root zero e = record { strand = root; apart = λ some. absurd (omega arith); alone = not-true (waits k.machine 0) e }
body_stands k root (suc x) e =
    let t = k.machine.tree in
    let off = has k.machine.joined (parent_of t (suc x)) in
    let a = and_parts (is_strand t (suc x) && not off) (not (waits k.machine (suc x))) e in
    let b = and_parts (is_strand t (suc x)) (not off) a.0 in
    record { strand = b.0; apart = λ some. not-true off b.1; alone = not-true (waits k.machine (suc x)) a.1 }

-- and one that stands has a body
pub stands_body : (k : CoreState) (x : ℕ) → IsThere k.machine x → has_body k x ≡ true
stands_body k zero st = not_from_false (waits k.machine 0) st.alone
stands_body k (suc x) st =
    let t = k.machine.tree in
    let off = has k.machine.joined (parent_of t (suc x)) in
    and_from (is_strand t (suc x) && not off) (not (waits k.machine (suc x)))
    (and_from (is_strand t (suc x)) (not off) st.strand (not_from_false off (st.apart (omega arith)))) (not_from_false (waits k.machine (suc x)) st.alone)

-- ## The strands of a fork that may be joined

module _ (first : List ℤ) (k : CoreState) (on : CoreGoesOn first k) (f : ℕ) (fork : is_fork k.machine.tree f ≡ true) (apart : has k.machine.joined f ≡ false) where
  abbrev m : OpenMachine
  m = k.machine

  abbrev t : List Node
  t = m.tree

  abbrev p : ℕ
  p = strand_of t f

  abbrev z : CoreState
  z = after_event k (event.Join f)

  tree : IsTree t
  tree = (well first k on.core).sound.tree

  backed : IsBackedState first m
  backed = backed_states at_once first m on.core.reached

  module _ (y : ℕ) (child : IsChild t f y) where
    strand : is_strand t y ≡ true
    strand = let P : ℕ → Type 0 = λ g. is_fork t g ≡ true in fork_child t tree y child.some child.there (subst P (sym child.parent) fork)

    -- one that has finished has a body
    pub side_body : has_finished m y ≡ true → has_body k y ≡ true
    side_body done = stands_body k y (record { strand = strand; apart = λ some. ap (has m.joined) child.parent ∙ apart; alone = finished_alone m tree (well first k on.core).nested y strand done })

    -- where it goes back, so does the strand that forked
    pub side_dies : goes_back m y ≡ true → is_dying m p ≡ true
    side_dies e = elim (or_cases (is_dying m y) (finished_dead m y) e) [
      | inr d ↦ dead_dies first m backed f y fork apart child.some child.parent d
      | inl d ↦
          (let o = any_one (IsTold t) (dies_by m y) m.conflicts backed.told.told d in
          let (v, dies) = died_by m y o.one o.passes in
          let low = fork_there t f fork in
          let over = above_parent t tree.rooted p y child.some child.there ∙ ap (is_ancestor t p) child.parent ∙ strand_over t tree.rooted f low in
          o.among (dies_by m p) (by_dies m p o.one v (record {
            over = above_down t tree.rooted p y o.one.asker o.holds.asker over (above_ancestor t y o.one.asker dies.over);
            pending = dies.pending;
            victim = dies.victim;
          })))
    ]

    pub side_lives : is_dying m p ≡ false → goes_back m y ≡ false
    side_lives e = false_from_ne_true (goes_back m y) (λ g. absurd (let d = side_dies g in cc (d, e)))

    -- once they are joined it has none
    pub side_gone : has_body z y ≡ true → ⊥
    side_gone e =
        let off = (body_stands z tree.root y e).apart child.some in
        let on : has z.machine.joined (parent_of t y) ≡ true = ap (has z.machine.joined) child.parent ∙ or_left (nat_eq f f) (has m.joined f) (eq-eqb f f refl) in
        absurd (cc (off, on))

  -- each other strand but the one that forked has one where it had one
  pub was_body : (x : ℕ) → x ≢ p → has_body z x ≡ true → has_body k x ≡ true
  was_body x ne e =
      let st = body_stands z tree.root x e in
      stands_body k x (record {
        strand = st.strand;
        apart = λ some. (or_parts (nat_eq f (parent_of t x)) (has m.joined (parent_of t x)) (st.apart some)).1;
        alone = false_from_ne_true (waits m x) (λ e. absurd (
            let z = any_in (λ g. is_fork t g && nat_eq (strand_of t g) x && not (has m.joined g)) (all_nodes t) e in
            let b = and_parts (is_fork t z.0 && nat_eq (strand_of t z.0) x) (not (has m.joined z.0)) z.2 in
            let c = and_parts (is_fork t z.0) (nat_eq (strand_of t z.0) x) b.0 in
            let other : f ≢ z.0 = λ q. ne (sym (eqb-true (strand_of t z.0) x c.1) ∙ ap (strand_of t) (sym q)) in
            let still = any_from (λ g. is_fork t g && nat_eq (strand_of t g) x && not (has (f ∷ m.joined) g)) z.0 (all_nodes t) z.1
            (and_from (is_fork t z.0 && nat_eq (strand_of t z.0) x) (not (has (f ∷ m.joined) z.0)) b.0 (not_from_false (has (f ∷ m.joined) z.0) (or_from (nat_eq f z.0) (has m.joined z.0) (ne_eqb f z.0 other) (not-true (has m.joined z.0) b.1)))) in
            let alone = st.alone in
            cc (still, alone)));
      })
