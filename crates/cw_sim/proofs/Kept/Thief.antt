-- The workers after a fork was taken from the deque of one: that one, the others, and the thief.
use Rattle.std.proofs.Common.{◌≡◌, ◌≢◌, ℕ, ◌<◌, List, [], ◌∷◌, ◌++◌, length, refl, ap, sym, ◌∙◌, subst, arith, true, false, Option, Some, None, inl, inr, nat_eq}
use Rattle.std.specs.Prelude.{◌&&◌, not, ℤ}
use Rattle.std.proofs.lemmas.Bool.{cases_eq, and_parts, and_from, or_right, eqb-true, not_from_false, false_from_ne_true}
use Rattle.cw_tree.specs.declared.node.Node.{Node}
use Rattle.cw_tree.specs.Nodes.{is_strand, is_fork, parent_of, all_nodes}
use Rattle.cw_tree.specs.Walks.{has, is_ancestor}
use Rattle.cw_tree.specs.Series.{strand_of}
use Rattle.cw_tree.specs.Shape.{IsTree}
use Rattle.cw_tree.proofs.Lists.{any_in}
use Rattle.cw_tree.proofs.Walks.Strands.{strand_over}
use Rattle.cw_open.specs.Machine.{OpenMachine, has_finished, is_running, waits}
use Rattle.cw_open.proofs.Open.Standing.{runs}
use Rattle.cw_core.specs.declared.event.Event.TheVariants as event
use Rattle.cw_tree.proofs.Walks.There.{fork_there, strand_there}
use Rattle.cw_tree.proofs.NodeKinds.{fork_no_strand}
use Rattle.cw_open.proofs.Open.Kinds.{finished_shut}
use Rattle.cw_core.specs.State.{CoreState, has_columns, is_split, waits_for_left}
use Rattle.cw_core.specs.Events.{fits, after_event, is_early}
use Rattle.cw_core.proofs.Events.Going.{well}
use Rattle.cw_sim.specs.Workers.{Worker, waiting, left_node, right_node}
use Rattle.cw_sim.specs.Kept.{Runs, Fits, CoreGoesOn}
use Rattle.cw_sim.proofs.Kept.Around.{Waits}
use Rattle.cw_sim.proofs.Kept.Halves.{left_strand, right_child, right_strand, which}
use Rattle.cw_sim.proofs.Laws.Ready.{main_ready, split_ready, left_ready, right_ready, left_done}
use Rattle.cw_sim.proofs.Kept.Stealing.{now, more, goes, columns, robbed, kept}
use Rattle.cw_sim.proofs.Laws.Unsplit.{left_open, none_beneath}
use Rattle.cw_sim.proofs.Kept.Ways.{around_split}

module _ (first : List ℤ) (k : CoreState) (on : CoreGoesOn first k) (f : ℕ) (room : has_columns k f ≡ true) (early : is_early k f ≡ None) (fit : fits k (event.Split f) ≡ true)
    (y : ℕ) (y_runs : is_running k.machine y ≡ true) (here : Waits k y f []) where
  abbrev t : List Node
  t = k.machine.tree

  abbrev m : OpenMachine
  m = k.machine

  abbrev z : CoreState
  z = after_event k (event.Split f)

  tree : IsTree t
  tree = (well first k on.core).sound.tree

  fork : is_fork t f ≡ true
  fork = here.fork

  pub core_goes : CoreGoesOn first z
  core_goes = goes first k on f fork room here.split here.outer early fit

  none_made : (n : ℕ) → n < length t → is_ancestor t (right_node f) n ≡ true → n ≡ right_node f
  none_made = none_beneath first k on y f [] y_runs here

  -- no strand that is ready is the right one
  pub not_right : (x : ℕ) → waits_for_left k x ≡ false → x ≢ right_node f
  not_right x ready q =
      let up = (right_child t tree on.forks f fork).parent in
      let P : ℕ → Type 0 = λ n. waits_for_left k n ≡ false in
      let done = left_done k on.forks (right_node f) f up fork refl (subst P q ready) here.split in
      let shut = finished_shut m (left_node f) (left_strand t tree on.forks f fork) done in
      let o = left_open first k on y f [] y_runs here in
      absurd (cc (o, shut))

  -- a strand that waited for none waits for none
  ready_still : (x : ℕ) → is_strand t x ≡ true → waits_for_left k x ≡ false → waits_for_left z x ≡ false
  ready_still x strand ready = elim (cases_eq x 0) [
    | inl e ↦ (let P : ℕ → Type 0 = λ n. waits_for_left z n ≡ false in subst P (sym e) (main_ready z))
    | inr ne ↦ by_side (omega (arith, ne))
  ] where
    by_side : 0 < x → waits_for_left z x ≡ false
    by_side some =
        let low = strand_there t x strand in
        let g = parent_of t x in
        let ff : is_fork t g ≡ true = tree.strands x low some strand in
        elim (which t tree on.forks g ff x some low refl) [
          | inl e ↦ left_ready z on.forks x g refl ff e
          | inr e ↦ elim (Rattle.std.proofs.lemmas.Bool.cases_Bool (is_split k g)) [
            | inl s ↦ split_ready z on.forks x g refl ff (more first k on f fork room here.split here.outer early fit g s)
            | inr s ↦ right_ready z on.forks x g refl ff e (left_done k on.forks x g refl ff e ready s)
          ]
        ]

  -- the worker that is robbed
  pub robbed_runs : (w : Worker) (fs : List ℕ) → Runs k w y → w.deque ≡ f ∷ fs → Runs z (record w { deque = fs }) y
  robbed_runs w fs at e =
      let run = runs m tree (well first k on.core).nested y at.running in
      let in_deque : (g : ℕ) → has fs g ≡ true → has w.deque g ≡ true = λ g q. ap (λ ds. has ds g) e ∙ or_right (nat_eq f g) (has fs g) q in
      let in_all : (g : ℕ) → has (fs ++ w.inline) g ≡ true → has (waiting w) g ≡ true = λ g q. ap (λ ds. has (ds ++ w.inline) g) e ∙ or_right (nat_eq f g) (has (fs ++ w.inline) g) q in
      record {
        running = at.running;
        ready = ready_still y run.strand at.ready;
        forks = sym (robbed first k on f fork room here.split here.outer early fit y run.strand (fs ++ w.inline) (sym at.forks ∙ ap (λ ds. ds ++ w.inline) e));
        deque = λ g q. columns first k on f fork room here.split here.outer early fit g ∙ at.deque g (in_deque g q);
        inline = λ g q. columns first k on f fork room here.split here.outer early fit g ∙ at.inline g q;
        to_come = λ g q. at.to_come g (in_all g q);
      }

  -- any other worker, in which f does not wait
  pub others : (w : Worker) (r : Option ℕ) → has (waiting w) f ≡ false → Fits k w r → Fits z w r
  others w None off idle = idle
  others w (Some x) off at =
      let run = runs m tree (well first k on.core).nested x at.running in
      let apart : is_ancestor t (right_node f) x ≡ false = false_from_ne_true (is_ancestor t (right_node f) x) (λ q. absurd (not_right x at.ready (none_made x (strand_there t x run.strand) q))) in
      record {
        running = at.running;
        ready = ready_still x run.strand at.ready;
        forks = at.forks ∙ sym (kept first k on f fork room here.split here.outer early fit x run.strand (sym (ap (λ ds. has ds f) at.forks) ∙ off) apart);
        deque = λ g q. columns first k on f fork room here.split here.outer early fit g ∙ at.deque g q;
        inline = λ g q. columns first k on f fork room here.split here.outer early fit g ∙ at.inline g q;
        to_come = at.to_come;
      }

  right_waits : waits m (right_node f) ≡ false
  right_waits = false_from_ne_true (waits m (right_node f)) (λ e.
      let a = any_in (λ g. is_fork t g && nat_eq (strand_of t g) (right_node f) && not (has m.joined g)) (all_nodes t) e in
      let b = and_parts (is_fork t a.0 && nat_eq (strand_of t a.0) (right_node f)) (not (has m.joined a.0)) a.2 in
      let c = and_parts (is_fork t a.0) (nat_eq (strand_of t a.0) (right_node f)) b.0 in
      let low = fork_there t a.0 c.0 in
      let P : ℕ → Type 0 = λ n. is_ancestor t n a.0 ≡ true in
      let it = none_made a.0 low (subst P (eqb-true (strand_of t a.0) (right_node f) c.1) (strand_over t tree.rooted a.0 low)) in
      let strand = right_strand t tree on.forks f fork in
      absurd (cc (fork_no_strand t a.0 c.0, ap (is_strand t) it, strand)))

  -- the thief, in which nothing waits, goes on with the right strand
  pub thief_runs : has_finished m (right_node f) ≡ false → (w : Worker) → w.deque ≡ [] → w.inline ≡ [] → Runs z (record w { runs = Some (right_node f) }) (right_node f)
  thief_runs fresh w none_d none_i =
      let rc = right_child t tree on.forks f fork in
      let strand = right_strand t tree on.forks f fork in
      let split : is_split z (parent_of t (right_node f)) ≡ true = ap (is_split z) rc.parent ∙ now first k on f fork room here.split here.outer early fit in
      record {
        running = and_from (is_strand t (right_node f) && not (has_finished m (right_node f)) && not (waits m (right_node f))) (not (has m.stopped (right_node f)))
            (and_from (is_strand t (right_node f) && not (has_finished m (right_node f))) (not (waits m (right_node f))) (and_from (is_strand t (right_node f)) (not (has_finished m (right_node f))) strand (not_from_false (has_finished m (right_node f)) fresh)) (not_from_false (waits m (right_node f)) right_waits))
            (ap (λ ss. not (has ss (right_node f))) on.stopped);
        ready = split_ready z on.forks (right_node f) f rc.parent fork (now first k on f fork room here.split here.outer early fit);
        forks = ap (λ ds. ds ++ w.inline) none_d ∙ none_i ∙ sym (around_split z tree.rooted (right_node f) rc.some rc.there strand split);
        deque = λ g q. absurd (cc q);
        inline = λ g q. absurd (cc q);
        to_come = λ g q. absurd (let e = ap (λ ds. has (ds ++ w.inline) g) none_d ∙ ap (λ ds. has ds g) none_i in cc (e, q));
      }
