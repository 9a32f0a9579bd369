-- What a step does to the tree, seen from a strand that does not make it: nodes come at the place of another strand, or the block there is
-- closed. An open node is not beneath the strand that steps.
use Rattle.std.proofs.Common.{◌≡◌, ◌≢◌, ℕ, ◌<◌, ◌≤◌, List, [], ◌∷◌, ◌++◌, length, refl, ap, sym, ◌∙◌, arith, true, false, inl, inr, nat_eq, nat_lt}
use Rattle.std.specs.Prelude.{◌⊎◌, ◌&&◌, not, ℤ, slice_get}
use Rattle.std.proofs.lemmas.Bool.{and_parts, cases_eq, eq-eqb, eqb-true, false_from_ne_true, true_from_ne_false}
use Rattle.cw_tree.specs.declared.node.Node.{Node}
use Rattle.cw_tree.specs.declared.node.Kind.{Kind}
use Rattle.cw_tree.specs.declared.node.Kind.TheVariants.{Block, Out, Cancel, Tried}
use Rattle.cw_tree.specs.declared.node.BlockState.{BlockState}
use Rattle.cw_tree.specs.declared.node.BlockState.TheVariants.{Committed, Aborted}
use Rattle.cw_tree.specs.ForkCounts.{one_if}
use Rattle.cw_tree.specs.Nodes.{parent_of, is_fork, is_pending, fresh_node, closed}
use Rattle.cw_tree.specs.Walks.{IsRooted, lca, is_ancestor}
use Rattle.cw_tree.specs.Series.{strand_of, place, parallel}
use Rattle.cw_tree.specs.AccessStacks.{access_kind}
use Rattle.cw_tree.specs.NextNodes.{IsPlace, fork_nodes}
use Rattle.cw_tree.proofs.Walks.Ancestors.{ancestor_trans}
use Rattle.cw_tree.proofs.Walks.Meets.{lca_is_meet}
use Rattle.cw_tree.proofs.Walks.Parting.{series_or_parallel}
use Rattle.cw_tree.proofs.Walks.Strands.{strand_over, strand_innermost}
use Rattle.cw_tree.proofs.NextNodes.Closing.{closed_other, rooted_closed, length_closed}
use Rattle.cw_tree.proofs.NextNodes.Pending.{end_of_place}
use Rattle.cw_open.specs.Machine.{OpenMachine, live_value, is_running, in_block, is_free, rolls_back}
use Rattle.cw_open.specs.Steps.{Step, forks, begins, accesses, refuses, outputs, cancels, commits, undoes, aborts, finishes, joins, stops, puts_back, after_open_step}
use Rattle.cw_open.specs.Runs.{Rules, Allowed}
use Rattle.cw_open.specs.Open.{is_open}
use Rattle.cw_open.specs.Hands.{is_step_of}
use Rattle.cw_open.proofs.Open.Trees.{IsWell, stands_well}
use Rattle.cw_open.proofs.Open.TreeSteps.{free_runs, rolls_runs, place_pending}
use Rattle.cw_open.proofs.Open.Standing.{stands, open_last, place_open, runs}
use Rattle.cw_open.proofs.Open.Growth.{IsGrowth, growth_leaf, growth_fork}
use Rattle.cw_open.proofs.Open.Staying.{Stays, grown_stays, closed_stays}
use Rattle.cw_open.proofs.Laws.Named.{strand_is}
use Rattle.cw_open.proofs.Refused.Victims.{IsToldState, no_fork_between, over_place}
use Rattle.cw_open.proofs.Hands.Apart.{not_over}

-- strand x runs, and is not strand y
pub record RunsBeside (m : OpenMachine) (y x : ℕ) : Type 0 where
  pub running : is_running m x ≡ true
  pub other : x ≢ y

-- tree u is what the machine's tree became by a step of another strand than y
pub record HasMoved (m : OpenMachine) (u : List Node) (y : ℕ) : Type 0 where
  pub stays : Stays m.tree u
  pub rooted : IsRooted u
  pub old : (n : ℕ) → n < length m.tree → (slice_get u n ≡ slice_get m.tree n) ⊎ ((x : ℕ) × RunsBeside m y x × (n ≡ place m.tree x) × (is_pending m.tree n ≡ true))
  pub new : (n : ℕ) → length m.tree ≤ n → n < length u → (x : ℕ) × RunsBeside m y x × ((parent_of u n ≡ place m.tree x) ⊎ (length m.tree ≤ parent_of u n))

module _ (m : OpenMachine) (w : IsWell m) (y : ℕ) where
  abbrev t : List Node
  t = m.tree

  r : IsRooted t
  r = w.sound.tree.rooted

  same_moved : HasMoved m t y
  same_moved = record {
    stays = record { longer = omega arith; rooted = r; parents = λ n h. refl; stamps = λ n h. refl; strands = λ n h. refl; forks = λ n h. refl; blocks = λ n h. refl };
    rooted = r;
    old = λ n h. inl refl;
    new = λ n le h. absurd (omega arith);
  }

  module _ (x : ℕ) (s : RunsBeside m y x) where
    abbrev p : ℕ
    p = place t x

    at : IsPlace t p
    at = stands_well m w x s.running

    grown_moved : (u : List Node) (stamp : ℕ) → IsGrowth t u p stamp → HasMoved m u y
    grown_moved u stamp g = record {
      stays = grown_stays t u p stamp r g;
      rooted = g.rooted;
      old = λ n h. inl (g.old n h);
      new = λ n le h. (x, s, g.parents n le h);
    }

    leaf_moved : (kind : Kind) (stamp : ℕ) → HasMoved m (t ++ fresh_node p kind stamp ∷ []) y
    leaf_moved kind stamp = grown_moved (t ++ fresh_node p kind stamp ∷ []) stamp (growth_leaf t r p (end_of_place t p at) kind stamp)

    fork_moved : (stamp : ℕ) → HasMoved m (t ++ fork_nodes (length t) p stamp) y
    fork_moved stamp = grown_moved (t ++ fork_nodes (length t) p stamp) stamp (growth_fork t w.sound.tree p at stamp)

    shut_moved : (state : BlockState) (end : ℕ) → in_block m x ≡ true → HasMoved m (closed t p state end) y
    shut_moved state end within = record {
      stays = closed_stays t r p state end;
      rooted = rooted_closed t p state end r;
      old = λ n h. elim (cases_eq n p) [
        | inr other ↦ inl (closed_other t p state end n other)
        | inl e ↦ inr (x, s, e, ap (is_pending t) e ∙ place_pending m w x s.running within)
      ];
      new = λ n le h. absurd (let len = length_closed t p state end in omega arith);
    }

  steps : (x : ℕ) → nat_eq x y ≡ false → is_running m x ≡ true → RunsBeside m y x
  steps x e running = record { running = running; other = λ same. cc (e, eq-eqb x y same) }

  pub moved : (rules : Rules) (e : Step) → is_step_of y e ≡ false → Allowed rules m e → HasMoved m (after_open_step m e).tree y
  moved rules (forks x stamp) o a = fork_moved x (steps x o (free_runs m x a.0)) stamp
  moved rules (begins x stamp) o a = leaf_moved x (steps x o (free_runs m x a.0)) Block stamp
  moved rules (accesses x c write stamp) o a =
      let z = and_parts (is_free m x && nat_lt c (length m.lists)) _ a.0 in
      let free = (and_parts (is_free m x) (nat_lt c (length m.lists)) z.0).0 in
      leaf_moved x (steps x o (free_runs m x free)) (access_kind c write (live_value m c)) stamp
  moved rules (refuses x c write met) o a =
      let free = (and_parts (is_free m x) (nat_lt c (length m.lists)) a.0).0 in
      leaf_moved x (steps x o (free_runs m x free)) (Tried c) 0
  moved rules (outputs x v stamp) o a = leaf_moved x (steps x o (free_runs m x a.0)) (Out v) stamp
  moved rules (cancels x stamp) o a = leaf_moved x (steps x o (free_runs m x (and_parts (is_free m x) (in_block m x) a.0).0)) (Cancel (puts_back m x stamp)) stamp
  moved rules (commits x stamp) o a =
      let z = and_parts (is_free m x && in_block m x) _ a.0 in
      let v = and_parts (is_free m x) (in_block m x) z.0 in
      shut_moved x (steps x o (free_runs m x v.0)) Committed stamp v.1
  moved rules (undoes x c) o a = same_moved
  moved rules (aborts x stamp) o a =
      let z = rolls_runs m x (and_parts (rolls_back m x) _ a.0).0 in
      shut_moved x (steps x o z.running) Aborted stamp z.within
  moved rules (finishes x dead) o a = same_moved
  moved rules (joins f) o a = same_moved
  moved rules (stops x) o a = same_moved

-- the strand that a step is of runs
step_runs : (m : OpenMachine) (x y : ℕ) → nat_eq x y ≡ true → is_running m x ≡ true → is_running m y ≡ true
step_runs m x y e running = ap (is_running m) (sym (eqb-true x y e)) ∙ running

-- a step changes the tree only if its strand runs
pub runs_or_same : (rules : Rules) (m : OpenMachine) (e : Step) (y : ℕ) → Allowed rules m e → is_step_of y e ≡ true → (is_running m y ≡ true) ⊎ ((after_open_step m e).tree ≡ m.tree)
runs_or_same rules m (forks x stamp) y a o = inl (step_runs m x y o (free_runs m x a.0))
runs_or_same rules m (begins x stamp) y a o = inl (step_runs m x y o (free_runs m x a.0))
runs_or_same rules m (accesses x c write stamp) y a o =
    let z = and_parts (is_free m x && nat_lt c (length m.lists)) _ a.0 in
    inl (step_runs m x y o (free_runs m x (and_parts (is_free m x) (nat_lt c (length m.lists)) z.0).0))
runs_or_same rules m (refuses x c write met) y a o = inl (step_runs m x y o (free_runs m x (and_parts (is_free m x) (nat_lt c (length m.lists)) a.0).0))
runs_or_same rules m (outputs x v stamp) y a o = inl (step_runs m x y o (free_runs m x a.0))
runs_or_same rules m (cancels x stamp) y a o = inl (step_runs m x y o (free_runs m x (and_parts (is_free m x) (in_block m x) a.0).0))
runs_or_same rules m (commits x stamp) y a o =
    let z = and_parts (is_free m x && in_block m x) _ a.0 in
    inl (step_runs m x y o (free_runs m x (and_parts (is_free m x) (in_block m x) z.0).0))
runs_or_same rules m (undoes x c) y a o = inr refl
runs_or_same rules m (aborts x stamp) y a o = inl (step_runs m x y o (rolls_runs m x (and_parts (rolls_back m x) _ a.0).0).running)
runs_or_same rules m (finishes x dead) y a o = inr refl
runs_or_same rules m (joins f) y a o = inr refl
runs_or_same rules m (stops x) y a o = inr refl

module _ (first : List ℤ) (m : OpenMachine) (w : IsToldState first m) where
  abbrev tree : List Node
  tree = m.tree

  well : IsWell m
  well = w.state.well

  rooted : IsRooted tree
  rooted = well.sound.tree.rooted

  -- an open node of another strand is not beneath a running one
  pub outside : (x : ℕ) → is_running m x ≡ true → (q : ℕ) → q < length tree → is_open m q ≡ true → strand_of tree q ≢ x → is_ancestor tree x q ≡ false
  outside x running q low opened other =
      false_from_ne_true (is_ancestor tree x q) (λ over.
      let p = place tree x in
      let at = stands m well.sound.tree well.nested x running in
      let not_down = not_over m well x running q low (λ e. other (ap (strand_of tree) e ∙ at.strand)) opened in
      let not_up : is_ancestor tree q p ≡ false = false_from_ne_true (is_ancestor tree q p) (λ up.
      let y = strand_of tree q in
      let inner : x ≤ y = strand_innermost tree rooted x (runs m well.sound.tree well.nested x running).strand q low over in
      let outer : y ≤ strand_of tree p = strand_innermost tree rooted y (strand_is tree well.sound.tree.root q) p at.there (ancestor_trans tree rooted y q p at.there (strand_over tree rooted q low) up) in
      absurd (other (let same : y ≡ x = omega (arith, inner, outer, at.strand) in same))) in
      let apart : parallel tree q p ≡ true = true_from_ne_false (parallel tree q p) (λ e.
      let one = series_or_parallel tree rooted q p low at.there not_up not_down in
      absurd (omega (
        arith,
        one,
        ap one_if e,
        ap one_if (open_last m well.sound.tree well.nested q p low at.there opened),
        ap one_if (open_last m well.sound.tree well.nested p q at.there low (place_open m well.sound.tree well.nested x running)),
      ))) in
      let parted = and_parts (not (is_ancestor tree q p) && not (is_ancestor tree p q)) (is_fork tree (lca tree q p)) apart in
      let meet = lca_is_meet tree rooted q p low at.there in
      absurd (no_fork_between first m w x running (lca tree q p) parted.1 (meet.innermost x over (over_place first m w x running)) meet.right))
