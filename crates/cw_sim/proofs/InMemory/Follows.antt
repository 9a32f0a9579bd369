-- What follows a strand that has finished, in memory as in the definitions.
use Rattle.std.proofs.Common.{◌≡◌, ◌+◌, ℕ, zero, suc, ◌<◌, length, refl, ap, sym, ◌∙◌, subst, arith, Bool, true, false, cond, None, nat_eq}
use Rattle.std.specs.Prelude.{◌&&◌, not, slice_set}
use Rattle.std.proofs.lemmas.Bool.{and_from, and_left, and_right, eq-eqb, ne_eqb, not_from_true, not_from_false}
use Rattle.cw_tree.specs.Nodes.{parent_of}
use Rattle.cw_strand.specs.Strands.{Strands}
use Rattle.cw_tree.proofs.Walks.There.{strand_there as strand_low}
use Rattle.cw_open.specs.Machine.{has_finished}
use Rattle.cw_core.specs.State.{CoreState, is_split}
use Rattle.cw_job.specs.Room.Strands.{StrandState}
use Rattle.cw_sim.specs.Workers.{Simulation, left_node, right_node, tree, worker_in}
use Rattle.cw_sim.specs.Moves.{go_to_right, join_or_idle, follow_up}
use Rattle.cw_sim.specs.InMemory.{Seen, law_of, StandsFor, Comes, MayMeet, MayTurn, HasFinished}
use Rattle.cw_sim.specs.WorkersInMemory.{workers_of}
use Rattle.cw_sim.specs.declared.moves.Driver.{Driver}
use Rattle.cw_sim.proofs.InMemory.Working.{run_stands}

module _ {A : Type 0} (s : Strands A) (w : ℕ) (dead : Bool) (m : Simulation A) where
  follows_some : (x : ℕ) → (x ≡ 0 → ⊥) → let f = parent_of (tree m) x in
      follow_up s w x dead m ≡ cond (nat_eq x (left_node f) && not (is_split m.core f)) (go_to_right s w f dead m) (join_or_idle s w f (has_finished m.core.machine (left_node f) && has_finished m.core.machine (right_node f)) m)
  follows_some zero some = absurd (some refl)
  follows_some (suc x) some = refl

module _ (c : Driver) (w x : ℕ) (dead : Bool) (z : Seen) (may : HasFinished c w x dead z) where
  abbrev k : CoreState
  k = z.m.core

  held : StandsFor c z
  held = may.steady.stands

  -- the strand is a node
  pub strand_there : x < length c.core.machine.tree
  strand_there = let h = strand_low k.machine.tree x may.strand in omega (arith, ap (λ j. length j.machine.tree) held.core)

  -- after main
  pub follows_main : x ≡ 0 → (new : Driver) → workers_of new.workers.items ≡ slice_set (workers_of c.workers.items) w (record (worker_in (workers_of c.workers.items) w) { runs = None })
      → Comes (record c { workers = new.workers }) z (follow_up (law_of z) w x dead z.m)
  follows_main e new workers =
      let P : ℕ → Type 0 = λ x. Comes (record c { workers = new.workers }) z (follow_up (law_of z) w x dead z.m) in
      subst P (sym e) (z.there, (run_stands c z held new w None workers, may.steady.inside))

  module _ (some : x ≡ 0 → ⊥) (fork : ℕ) (up : fork ≡ parent_of c.core.machine.tree x) where
    abbrev f : ℕ
    f = parent_of k.machine.tree x

    is_it : f ≡ fork
    is_it = sym (up ∙ ap (λ j. parent_of j.machine.tree x) held.core)

    split_is : is_split c.core fork ≡ is_split k f
    split_is = ap (λ j. is_split j fork) held.core ∙ ap (is_split k) (sym is_it)

    -- what its fork asks
    pub may_meet : MayMeet c w fork z
    may_meet = let P : ℕ → Type 0 = λ f. MayMeet c w f z in subst P is_it (may.meet (omega (arith, some)))

    left_is : x ≡ fork + 1 → x ≡ left_node f
    left_is e = e ∙ ap left_node (sym is_it)

    -- and where it is a left strand and the fork was not split
    pub may_turn : x ≡ fork + 1 → is_split c.core fork ≡ false → MayTurn c w fork dead z
    may_turn left off = let P : ℕ → Type 0 = λ f. MayTurn c w f dead z in subst P is_it (may.turn (omega (arith, some)) (left_is left) (sym split_is ∙ off))

    abbrev both : ℕ → Bool
    both f = has_finished k.machine (left_node f) && has_finished k.machine (right_node f)

    by_test : (d : Driver) (b : Bool) → (nat_eq x (left_node f) && not (is_split k f)) ≡ b → Comes d z (cond b (go_to_right (law_of z) w f dead z.m) (join_or_idle (law_of z) w f (both f) z.m)) → Comes d z (follow_up (law_of z) w x dead z.m)
    by_test d b e comes =
        let P : Simulation StrandState → Type 0 = λ m. Comes d z m in
        subst P (sym (follows_some (law_of z) w dead z.m x some ∙ ap (λ b. cond b (go_to_right (law_of z) w f dead z.m) (join_or_idle (law_of z) w f (both f) z.m)) e)) comes

    -- after such a left one
    pub follows_left : (left : x ≡ fork + 1) (off : is_split c.core fork ≡ false) (d : Driver) → (MayTurn c w fork dead z → Comes d z (go_to_right (law_of z) w fork dead z.m)) → Comes d z (follow_up (law_of z) w x dead z.m)
    follows_left left off d comes =
        let P : ℕ → Type 0 = λ f. Comes d z (go_to_right (law_of z) w f dead z.m) in
        by_test d true (and_from (nat_eq x (left_node f)) (not (is_split k f)) (eq-eqb x (left_node f) (left_is left)) (not_from_false (is_split k f) (sym split_is ∙ off)))
        (subst P (sym is_it) (comes (may_turn left off)))

    met : (nat_eq x (left_node f) && not (is_split k f)) ≡ false → (d : Driver) → (MayMeet c w fork z → Comes d z (join_or_idle (law_of z) w fork (both fork) z.m)) → Comes d z (follow_up (law_of z) w x dead z.m)
    met e d comes =
        let P : ℕ → Type 0 = λ f. Comes d z (join_or_idle (law_of z) w f (both f) z.m) in
        by_test d false e (subst P (sym is_it) (comes may_meet))

    -- after a right one
    pub follows_right : (x ≡ fork + 1 → ⊥) → (d : Driver) → (MayMeet c w fork z → Comes d z (join_or_idle (law_of z) w fork (both fork) z.m)) → Comes d z (follow_up (law_of z) w x dead z.m)
    follows_right ne = met (and_left (nat_eq x (left_node f)) (not (is_split k f)) (ne_eqb x (left_node f) (λ e. ne (e ∙ ap left_node is_it))))

    -- and where the fork was split
    pub follows_split : is_split c.core fork ≡ true → (d : Driver) → (MayMeet c w fork z → Comes d z (join_or_idle (law_of z) w fork (both fork) z.m)) → Comes d z (follow_up (law_of z) w x dead z.m)
    follows_split on = met (and_right (nat_eq x (left_node f)) (not (is_split k f)) (not_from_true (is_split k f) (sym split_is ∙ on)))
