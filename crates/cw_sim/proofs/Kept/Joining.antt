-- The strands of a fork have finished and are joined: the core, the other workers, and the strand that forked.
use Rattle.std.proofs.Common.{◌≡◌, ◌≢◌, ℕ, ◌<◌, List, length, refl, ap, sym, ◌∙◌, subst, arith, true, false, Option, Some, None, inl, inr, nat_eq}
use Rattle.std.specs.Prelude.{◌⊎◌, ◌&&◌, not, ℤ, is_none}
use Rattle.std.proofs.lemmas.Bool.{cases_Bool, cases_eq, and_parts, and_from, or_left, or_right, eq-eqb, eqb-true, not-true, not_from_false, false_from_ne_true}
use Rattle.cw_tree.specs.declared.node.Node.{Node}
use Rattle.cw_tree.specs.Nodes.{is_strand, is_fork, parent_of, all_nodes}
use Rattle.cw_tree.specs.Walks.{has, is_ancestor}
use Rattle.cw_tree.specs.Series.{strand_of}
use Rattle.cw_tree.specs.Shape.{IsTree}
use Rattle.cw_tree.proofs.Lists.{any_in, any_from}
use Rattle.cw_tree.proofs.Walks.Strands.{strand_over}
use Rattle.cw_open.specs.Machine.{OpenMachine, has_finished, is_running, waits}
use Rattle.cw_open.specs.Open.{is_open}
use Rattle.cw_open.proofs.Laws.Named.{strand_is}
use Rattle.cw_open.proofs.Open.Standing.{runs, open_over}
use Rattle.cw_core.specs.declared.event.Event.TheVariants as event
use Rattle.cw_tree.proofs.Walks.There.{fork_there, strand_there}
use Rattle.cw_tree.proofs.NodeKinds.{fork_no_strand}
use Rattle.cw_open.proofs.Open.Kinds.{finished_shut, unjoined_open}
use Rattle.cw_core.specs.State.{CoreState, has_columns, is_split, waits_for_left}
use Rattle.cw_core.specs.Events.{fits, after_event}
use Rattle.cw_core.specs.Laws.{IsCore}
use Rattle.cw_core.proofs.Events.Going.{well}
use Rattle.cw_core.proofs.Events.Kept.{events}
use Rattle.cw_core.proofs.Events.OneFork.{one_fork}
use Rattle.cw_core.proofs.Kept.PartsGrow.{none_spent}
use Rattle.cw_sim.specs.Workers.{Worker, waiting, right_node}
use Rattle.cw_sim.specs.Kept.{Runs, Fits, CoreGoesOn, forks_around}
use Rattle.cw_sim.proofs.Kept.After.{room_after}
use Rattle.cw_sim.proofs.Kept.Around.{waits_around}
use Rattle.cw_sim.proofs.Kept.Going.{goes_on, still_runs, still_ready}
use Rattle.cw_sim.proofs.Kept.Halves.{which}
use Rattle.cw_sim.proofs.Laws.Ready.{main_ready, split_ready, left_ready, right_ready}
use Rattle.cw_sim.proofs.Kept.Same.{SameWays, split_same, columns_same, same_around}
use Rattle.cw_sim.proofs.Laws.Unsplit.{left_ended}
use Rattle.cw_sim.proofs.Kept.Workers.{has_parts}

module _ (first : List ℤ) (k : CoreState) (on : CoreGoesOn first k) (f : ℕ) (fork : is_fork k.machine.tree f ≡ true) (unjoined : has k.machine.joined f ≡ false) (fit : fits k (event.Join f) ≡ true) where
  abbrev t : List Node
  t = k.machine.tree

  abbrev m : OpenMachine
  m = k.machine

  abbrev p : ℕ
  p = strand_of t f

  abbrev z : CoreState
  z = after_event k (event.Join f)

  tree : IsTree t
  tree = (well first k on.core).sound.tree

  core : IsCore first z
  core = (events first k (event.Join f) on.core fit).1

  pub columns : (g : ℕ) → g < length t → has_columns z g ≡ has_columns k g
  columns g h = columns_same k z g refl (room_after k (event.Join f))

  pub same : SameWays k z
  same = record { longer = omega arith; parents = λ n h. refl; strands = λ n h. refl; splits = λ g h. split_same k z g refl (room_after k (event.Join f)) refl }

  fewer : (g : ℕ) → has z.machine.joined g ≡ false → has m.joined g ≡ false
  fewer g e = false_from_ne_true (has m.joined g) (λ q. absurd (let h = or_right (nat_eq f g) (has m.joined g) q in cc (h, e)))

  pub goes : CoreGoesOn first z
  goes = goes_on first k z on core same (λ g e. (e, refl)) fewer on.halt (none_spent k z (ap is_none on.spent) refl refl ∙ on.spent) on.stopped

  -- ## The other workers

  -- a strand that waited for none waits for none
  no_waits : (y : ℕ) → waits m y ≡ false → waits z.machine y ≡ false
  no_waits y e = false_from_ne_true (waits z.machine y) (λ q.
      let a = any_in (λ g. is_fork t g && nat_eq (strand_of t g) y && not (has z.machine.joined g)) (all_nodes t) q in
      let b = and_parts (is_fork t a.0 && nat_eq (strand_of t a.0) y) (not (has z.machine.joined a.0)) a.2 in
      let still = any_from (λ g. is_fork t g && nat_eq (strand_of t g) y && not (has m.joined g)) a.0 (all_nodes t) a.1
      (and_from (is_fork t a.0 && nat_eq (strand_of t a.0) y) (not (has m.joined a.0)) b.0 (not_from_false (has m.joined a.0) (fewer a.0 (not-true (has z.machine.joined a.0) b.1)))) in
      absurd (cc (still, e)))

  still_running : (y : ℕ) → is_running m y ≡ true → is_running z.machine y ≡ true
  still_running y e =
      let a = and_parts (is_strand t y && not (has_finished m y) && not (waits m y)) (not (has m.stopped y)) e in
      let b = and_parts (is_strand t y && not (has_finished m y)) (not (waits m y)) a.0 in
      and_from (is_strand t y && not (has_finished m y) && not (waits z.machine y)) (not (has m.stopped y))
      (and_from (is_strand t y && not (has_finished m y)) (not (waits z.machine y)) b.0 (not_from_false (waits z.machine y) (no_waits y (not-true (waits m y) b.1)))) a.1

  pub others : (w : Worker) (r : Option ℕ) → Fits k w r → Fits z w r
  others w None idle = idle
  others w (Some y) at =
      let here = runs m tree (well first k on.core).nested y at.running in
      still_runs first k z on core same goes.forks (λ s e. e) columns w y at (still_running y at.running)
      (λ g e. let q = has_parts (waiting w) g e in fork_there t g (waits_around k tree on.forks y here.strand q.0 q.1 g (sym at.forks ∙ q.2)).fork) at.to_come

  -- ## The strand that forked

  f_low : f < length t
  f_low = fork_there t f fork

  p_strand : is_strand t p ≡ true
  p_strand = strand_is t tree.root f

  f_open : is_open m f ≡ true
  f_open = unjoined_open k.machine f fork unjoined

  over : is_ancestor t p f ≡ true
  over = strand_over t tree.rooted f f_low

  unfinished : has_finished m p ≡ false
  unfinished = false_from_ne_true (has_finished m p) (λ e. absurd (let o = open_over m tree (well first k on.core).nested p f f_low over f_open in let c = finished_shut m p p_strand e in cc (o, c)))

  -- no other fork of it is to be joined
  alone : waits z.machine p ≡ false
  alone = false_from_ne_true (waits z.machine p) (λ q.
      let a = any_in (λ g. is_fork t g && nat_eq (strand_of t g) p && not (has z.machine.joined g)) (all_nodes t) q in
      let b = and_parts (is_fork t a.0 && nat_eq (strand_of t a.0) p) (not (has z.machine.joined a.0)) a.2 in
      let c = and_parts (is_fork t a.0) (nat_eq (strand_of t a.0) p) b.0 in
      let apart = not-true (has z.machine.joined a.0) b.1 in
      let open_a = unjoined_open k.machine a.0 c.0 (fewer a.0 apart) in
      let one = one_fork m tree (well first k on.core).nested a.0 f c.0 fork open_a f_open (eqb-true (strand_of t a.0) p c.1) in
      let own = or_left (nat_eq f a.0) (has m.joined a.0) (eq-eqb f a.0 (sym one)) in
      absurd (cc (own, apart)))

  pub parent_runs : is_running z.machine p ≡ true
  parent_runs =
      and_from (is_strand t p && not (has_finished m p) && not (waits z.machine p)) (not (has m.stopped p))
      (and_from (is_strand t p && not (has_finished m p)) (not (waits z.machine p)) (and_from (is_strand t p) (not (has_finished m p)) p_strand (not_from_false (has_finished m p) unfinished)) (not_from_false (waits z.machine p) alone))
      (ap (λ ss. not (has ss p)) on.stopped)

  -- it waits for no left strand, since it made the fork
  pub parent_ready : waits_for_left k p ≡ false
  parent_ready = elim (cases_eq p 0) [
    | inl e ↦ (let P : ℕ → Type 0 = λ n. waits_for_left k n ≡ false in subst P (sym e) (main_ready k))
    | inr ne ↦ by_side (omega (arith, ne)) (cases_Bool (is_split k (parent_of t p)))
  ] where
    by_side : 0 < p → (is_split k (parent_of t p) ≡ true) ⊎ (is_split k (parent_of t p) ≡ false) → waits_for_left k p ≡ false
    by_side some split =
        let low = strand_there t p p_strand in
        let h = parent_of t p in
        let ff : is_fork t h ≡ true = tree.strands p low some p_strand in
        elim split [
          | inl s ↦ split_ready k on.forks p h refl ff s
          | inr s ↦ elim (which t tree on.forks h ff p some low refl) [
            | inl e ↦ left_ready k on.forks p h refl ff e
            | inr e ↦
                (let P : ℕ → Type 0 = λ n. is_ancestor t n f ≡ true in
                let ne : f ≢ right_node h = λ q. (let one = ap (is_strand t) (q ∙ sym e) in let two = fork_no_strand t f fork in absurd (cc (one, two, p_strand))) in
                right_ready k on.forks p h refl ff e (left_ended first k on h ff s f f_low (subst P e over) ne))
          ]
        ]

  -- the worker in which just the forks around it wait goes on with it
  pub takes_parent : (w : Worker) → waiting w ≡ forks_around k p → ((g : ℕ) → has w.deque g ≡ true → has_columns k g ≡ true) → ((g : ℕ) → has w.inline g ≡ true → has_columns k g ≡ false) → ((g : ℕ) → has (waiting w) g ≡ true → has_finished m (right_node g) ≡ false)
      → Runs z (record w { runs = Some p }) p
  takes_parent w waits deque inline to_come =
      let low : (g : ℕ) → has (waiting w) g ≡ true → g < length t = λ g e. (let q = has_parts (waiting w) g e in fork_there t g (waits_around k tree on.forks p p_strand q.0 q.1 g (sym waits ∙ q.2)).fork) in
      record {
        running = parent_runs;
        ready = still_ready first k z on core same goes.forks (λ s e. e) columns p p_strand parent_ready;
        forks = waits ∙ sym (same_around k z tree.rooted tree.rooted same p (strand_there t p p_strand));
        deque = λ g e. columns g (low g (Rattle.cw_sim.proofs.Kept.Workers.has_front w.deque w.inline g e)) ∙ deque g e;
        inline = λ g e. columns g (low g (Rattle.cw_sim.proofs.Kept.Workers.has_back w.deque w.inline g e)) ∙ inline g e;
        to_come = to_come;
      }
