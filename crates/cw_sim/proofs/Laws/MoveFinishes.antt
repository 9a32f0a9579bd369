-- A worker finishes its strand, and goes on with what follows it.
use Rattle.std.proofs.Common.{◌≡◌, ℕ, zero, suc, ◌<◌, List, [], ◌∷◌, ◌++◌, length, refl, ap, sym, ◌∙◌, subst, arith, Bool, true, false, cond, Some, None, inl, inr, nat_eq}
use Rattle.std.specs.Prelude.{◌⊎◌, ◌&&◌, not, ℤ, filter, slice_set}
use Rattle.std.proofs.lemmas.Bool.{cases_Bool, and_parts, and_from, or_left, eq-eqb, eqb-true}
use Rattle.std.proofs.lemmas.List.{length-set}
use Rattle.std.proofs.lemmas.List.Elements.{filter-append}
use Rattle.cw_tree.specs.declared.node.Node.{Node}
use Rattle.cw_tree.specs.Nodes.{parent_of, is_strand, is_fork}
use Rattle.cw_tree.specs.Walks.{has}
use Rattle.cw_tree.specs.Series.{strand_of}
use Rattle.cw_tree.specs.Shape.{IsTree}
use Rattle.cw_strand.specs.Strands.{Strands}
use Rattle.cw_open.specs.Machine.{OpenMachine, has_finished}
use Rattle.cw_open.proofs.Open.Standing.{runs}
use Rattle.cw_core.specs.declared.event.Event.TheVariants as event
use Rattle.cw_tree.proofs.Walks.There.{strand_there}
use Rattle.cw_core.specs.State.{CoreState, is_split}
use Rattle.cw_core.specs.Events.{fits, after_event}
use Rattle.cw_core.proofs.Events.Going.{well}
use Rattle.cw_sim.specs.Workers.{Worker, Simulation, waiting, left_node, right_node, worker_in}
use Rattle.cw_sim.specs.Moves.{does, go_to_right, join_or_idle, finish_strand}
use Rattle.cw_sim.specs.Kept.{Runs, AreWorkers, CoreGoesOn, forks_around}
use Rattle.cw_sim.proofs.Laws.EventsFit.{strand_here, fork_here, unjoined_here, join_fits_here, right_fits_here, both_fit_here}
use Rattle.cw_sim.proofs.Kept.Finishing.{done, more, left_behind, takes_right, filter_has}
use Rattle.cw_sim.proofs.Kept.Halves.{right_child, which}
use Rattle.cw_sim.proofs.Laws.MoveJoins.{finish_goes, finish_others, join_goes, join_workers}
use Rattle.cw_sim.proofs.Laws.Moving.{GoesTo, goes_on_there, main_ended, by_event}
use Rattle.cw_sim.proofs.Laws.Ready.{left_done}
use Rattle.cw_sim.proofs.Kept.Ways.{around_split, around_right}
use Rattle.cw_sim.proofs.Kept.Workers.{runs_in, worker_here, set_run, workers_after}

both_empty : (xs ys : List ℕ) → xs ++ ys ≡ [] → (xs ≡ []) × (ys ≡ [])
both_empty [] ys e = (refl, e)
both_empty (x ∷ xs) ys e = absurd (cc e)

abbrev without_fork : ℕ → Worker → Worker
without_fork f v = record v { deque = filter (λ g. not (nat_eq g f)) v.deque; inline = filter (λ g. not (nat_eq g f)) v.inline }

-- ## The workers

module _ (first : List ℤ) (k : CoreState) (on : CoreGoesOn first k) (ws : List Worker) (old : AreWorkers k ws) (w x : ℕ) (run : (worker_in ws w).runs ≡ Some x) (dead : Bool) (fit : fits k (event.Finish x dead) ≡ true) (some : 0 < x) (low : w < length ws) where
  abbrev m : OpenMachine
  m = k.machine

  abbrev t : List Node
  t = m.tree

  abbrev z : CoreState
  z = after_event k (event.Finish x dead)

  abbrev here : Worker
  here = worker_in ws w

  abbrev f : ℕ
  f = parent_of t x

  tree : IsTree t
  tree = (well first k on.core).sound.tree

  at : Runs k here x
  at = runs_in k ws w x old run

  strand : is_strand t x ≡ true
  strand = strand_here first k on ws old w x run

  there : x < length t
  there = strand_there t x strand

  fork : is_fork t f ≡ true
  fork = fork_here first k on ws old w x run dead fit some

  unjoined : has m.joined f ≡ false
  unjoined = unjoined_here first k on ws old w x run dead fit some

  -- its fork is split, or it is a right strand: there waits in the worker what waits around the strand that forked
  abbrev ToMeet : Type 0
  ToMeet = (is_split k f ≡ true) ⊎ (x ≡ right_node f)

  right_around : x ≡ right_node f → (b : Bool) → is_split k f ≡ b → waiting here ≡ forks_around k (strand_of t f)
  right_around q true e = at.forks ∙ around_split k tree.rooted x some there strand e ∙ sym (on.outside f fork unjoined e)
  right_around q false e = at.forks ∙ around_right k tree.rooted x some there strand e (λ r. omega (arith, q, r))

  parent_around : ToMeet → waiting here ≡ forks_around k (strand_of t f)
  parent_around (inl e) = at.forks ∙ around_split k tree.rooted x some there strand e ∙ sym (on.outside f fork unjoined e)
  parent_around (inr q) = right_around q (is_split k f) refl

  -- where the other strand of the fork has not finished, the fork is split
  none_waits : ToMeet → (has_finished z.machine (left_node f) && has_finished z.machine (right_node f)) ≡ false → waiting here ≡ []
  none_waits (inl e) going = at.forks ∙ around_split k tree.rooted x some there strand e
  none_waits (inr q) going = elim (cases_Bool (is_split k f)) [
    | inl e ↦ at.forks ∙ around_split k tree.rooted x some there strand e
    | inr e ↦
        (let left = more first k on x dead at.running at.ready fit (left_node f) (left_done k on.forks x f refl fork q at.ready e) in
        let right = ap (has_finished z.machine) (sym q) ∙ done first k on x dead at.running at.ready fit in
        let all = and_from (has_finished z.machine (left_node f)) (has_finished z.machine (right_node f)) left right in
        absurd (cc (all, going)))
  ]

  pub idle_workers : ToMeet → (has_finished z.machine (left_node f) && has_finished z.machine (right_node f)) ≡ false → AreWorkers z (slice_set ws w (record here { runs = None }))
  idle_workers side going =
      let none = both_empty here.deque here.inline (none_waits side going) in
      workers_after ws w (record here { runs = None }) low k z old (finish_others first k on ws old w x run dead fit) (record { deque = none.0; inline = none.1 }) (λ v y ne e q. absurd (cc e)) (λ v g ne e q. ne (old.once v w g q e))

  pub met_workers : (join : fits z (event.Join f) ≡ true) → ToMeet → AreWorkers (after_event z (event.Join f)) (slice_set ws w (record here { runs = Some (strand_of t f) }))
  met_workers join side = join_workers first k on ws old w x run dead fit f fork unjoined join low (parent_around side)

  -- ## After the left strand of a fork that is not split

  module _ (left : x ≡ left_node f) (off : is_split k f ≡ false) where
    abbrev back : Worker
    back = record (without_fork f here) { runs = Some (right_node f) }

    -- no other worker runs the right strand, since the left one had not finished
    right_apart : (v : ℕ) → (worker_in ws v).runs ≡ Some (right_node f) → ⊥
    right_apart v e =
        let other = runs_in k ws v (right_node f) old e in
        let ended = left_done k on.forks (right_node f) f (right_child t tree on.forks f fork).parent fork refl other.ready off in
        let going = (runs m tree (well first k on.core).nested x at.running).unfinished in
        absurd (cc (ended, left, going))

    back_has : (g : ℕ) → has (waiting back) g ≡ true → has (waiting here) g ≡ true
    back_has g e = filter_has (λ g. not (nat_eq g f)) (waiting here) g (ap (λ ds. has ds g) (filter-append (λ g. not (nat_eq g f)) here.deque here.inline) ∙ e)

    pub turned_workers : AreWorkers z (slice_set ws w back)
    turned_workers =
        workers_after ws w back low k z old (finish_others first k on ws old w x run dead fit) (takes_right first k on x dead at.running at.ready fit here f fork off left at)
        (λ v y ne e q. right_apart v (q ∙ sym e)) (λ v g ne e q. ne (old.once v w g q (back_has g e)))

    pub waits_back : waiting back ≡ forks_around k (strand_of t f)
    waits_back = left_behind first k on x dead at.running at.ready fit here f fork off left at

-- ## The move

module _ {A : Type 0} (s : Strands A) (first : List ℤ) (n : Simulation A) (w : ℕ) (low : w < length n.workers) (on : CoreGoesOn first n.core) (old : AreWorkers n.core n.workers) where
  abbrev k : CoreState
  k = n.core

  abbrev ws : List Worker
  ws = n.workers

  abbrev fork_of : ℕ → ℕ
  fork_of x = parent_of k.machine.tree x

  -- the right strand is w's, or it finishes dead too, and they join
  turns_to : (x : ℕ) (run : (worker_in ws w).runs ≡ Some x) (dead : Bool) (fit : fits k (event.Finish x dead) ≡ true) → 0 < x → x ≡ left_node (fork_of x) → is_split k (fork_of x) ≡ false
      → GoesTo first (after_event k (event.Finish x dead)) (go_to_right s w (fork_of x) dead (does (event.Finish x dead) n))
  turns_to x run false fit some left off =
      let f = fork_of x in
      let o = does (event.Finish x false) n in
      goes_on_there first (go_to_right s w f false o) (finish_goes first k on ws old w x run false fit)
      (subst (λ us. AreWorkers (after_event k (event.Finish x false)) us) (sym (set_run ws w (without_fork f (worker_in ws w)) (Some (right_node f)) low)) (turned_workers first k on ws old w x run false fit some low left off))
  turns_to x run true fit some left off =
      let f = fork_of x in
      let r = right_node f in
      let p = strand_of k.machine.tree f in
      let o = does (event.Finish x true) n in
      let z = after_event k (event.Finish x true) in
      let here = worker_in ws w in
      let back : Worker = record (without_fork f here) { runs = Some r } in
      let vs = slice_set ws w back in
      let fork = fork_here first k on ws old w x run true fit some in
      let unjoined = unjoined_here first k on ws old w x run true fit some in
      let on_z = finish_goes first k on ws old w x run true fit in
      let turned = turned_workers first k on ws old w x run true fit some low left off in
      let run_r : (worker_in vs w).runs ≡ Some r = ap (λ v. v.runs) (worker_here ws w back low) in
      let fit_r = right_fits_here first k on ws old w x run fit f fork unjoined off left in
      let join = both_fit_here first k on ws old w x run fit f fork unjoined off left in
      let low_v : w < length vs = omega (arith, length-set ws w back, low) in
      let waits : waiting (worker_in vs w) ≡ forks_around z p = ap (λ v. waiting v) (worker_here ws w back low) ∙ waits_back first k on ws old w x run true fit some low left off in
      let joined = join_workers first z on_z vs turned w r run_r true fit_r f fork unjoined join low_v waits in
      by_event first (go_to_right s w f true o) z (event.Finish r true) fit_r
      (by_event first (go_to_right s w f true o) (after_event z (event.Finish r true)) (event.Join f) join
      (goes_on_there first (go_to_right s w f true o) (join_goes first z on_z vs turned w r run_r true fit_r f fork unjoined join)
      (subst (λ us. AreWorkers (after_event (after_event z (event.Finish r true)) (event.Join f)) us) (set_run ws w back (Some p) low ∙ sym (set_run ws w (without_fork f here) (Some p) low)) joined)))

  module _ (x : ℕ) (run : (worker_in ws w).runs ≡ Some x) (dead : Bool) (fit : fits k (event.Finish x dead) ≡ true) (some : 0 < x) where
    abbrev ended : CoreState
    ended = after_event k (event.Finish x dead)

    abbrev forked : ℕ
    forked = fork_of x

    abbrev o : Simulation A
    o = does (event.Finish x dead) n

    abbrev both : Bool
    both = has_finished ended.machine (left_node forked) && has_finished ended.machine (right_node forked)

    meets_to : ToMeet first k on ws old w x run dead fit some low → GoesTo first ended (join_or_idle s w forked both o)
    meets_to side = by both refl where
      by : (b : Bool) → both ≡ b → GoesTo first ended (join_or_idle s w forked b o)
      by false e = goes_on_there first (join_or_idle s w forked false o) (finish_goes first k on ws old w x run dead fit) (idle_workers first k on ws old w x run dead fit some low side e)
      by true e =
          let p = and_parts (has_finished ended.machine (left_node forked)) (has_finished ended.machine (right_node forked)) e in
          let join = join_fits_here first k on ws old w x run dead fit some p.0 p.1 in
          let fork = fork_here first k on ws old w x run dead fit some in
          let unjoined = unjoined_here first k on ws old w x run dead fit some in
          by_event first (join_or_idle s w forked true o) ended (event.Join forked) join
          (goes_on_there first (join_or_idle s w forked true o) (join_goes first k on ws old w x run dead fit forked fork unjoined join) (met_workers first k on ws old w x run dead fit some low join side))

    follows_to : GoesTo first ended (cond (nat_eq x (left_node forked) && not (is_split k forked)) (go_to_right s w forked dead o) (join_or_idle s w forked both o))
    follows_to = by (nat_eq x (left_node forked)) (is_split k forked) refl refl where
      tree : IsTree k.machine.tree
      tree = (well first k on.core).sound.tree

      strand : is_strand k.machine.tree x ≡ true
      strand = strand_here first k on ws old w x run

      by : (a b : Bool) → nat_eq x (left_node forked) ≡ a → is_split k forked ≡ b → GoesTo first ended (cond (a && not b) (go_to_right s w forked dead o) (join_or_idle s w forked both o))
      by true false p q = turns_to x run dead fit some (eqb-true x (left_node forked) p) q
      by true true p q = meets_to (inl q)
      by false b p q = elim (which k.machine.tree tree on.forks forked (fork_here first k on ws old w x run dead fit some) x some (strand_there k.machine.tree x strand) refl) [
        | inl e ↦ absurd (let same = eq-eqb x (left_node forked) e in cc (same, p))
        | inr e ↦ meets_to (inr e)
      ]

  pub finishes_to : (x : ℕ) → (worker_in ws w).runs ≡ Some x → (dead : Bool) → fits k (event.Finish x dead) ≡ true → GoesTo first k (finish_strand s w x dead n)
  finishes_to zero run dead fit = by_event first (finish_strand s w zero dead n) k (event.Finish zero dead) fit (main_ended first (finish_strand s w zero dead n) (or_left (nat_eq 0 0) (has_finished k.machine 0) refl))
  finishes_to (suc y) run dead fit = by_event first (finish_strand s w (suc y) dead n) k (event.Finish (suc y) dead) fit (follows_to (suc y) run dead fit (omega arith))
