-- Commits, finishes and stops are runs of the open machine, and keep what is true of a core.
use Rattle.std.proofs.Common.{◌≡◌, ℕ, ◌+◌, ◌<◌, List, [], ◌∷◌, length, refl, ap, sym, ◌∙◌, subst, Bool, true, false, inl, inr, nat_eq}
use Rattle.std.specs.Prelude.{◌&&◌, ◌||◌, not, ℤ, Option, Some, if◌then◌else◌}
use Rattle.std.proofs.lemmas.Bool.{and_parts, and_from, or_cases, or_left, or_right, or_parts, cases_eq, not-true, not_from_false, false_from_ne_true}
use Rattle.cw_tree.specs.declared.node.Node.{Node}
use Rattle.cw_tree.specs.declared.closed.Halt.{Halt}
use Rattle.cw_tree.specs.declared.closed.Halt.TheVariants as halt
use Rattle.cw_tree.specs.declared.node.BlockState.{BlockState}
use Rattle.cw_tree.specs.declared.node.BlockState.TheVariants.{Committed}
use Rattle.cw_tree.specs.Nodes.{is_strand_kind, is_fork_kind, is_block_kind, is_pending_state, is_aborted_state, touches_kind, stamp_of, is_strand, is_fork, is_pending, is_aborted, touches, closed}
use Rattle.cw_tree.specs.Walks.{has, is_ancestor}
use Rattle.cw_tree.specs.Series.{place}
use Rattle.cw_tree.specs.Accesses.{is_live}
use Rattle.cw_tree.specs.Refusals.{is_victim}
use Rattle.cw_tree.proofs.Walks.There.{node_there}
use Rattle.cw_tree.proofs.NextNodes.Closing.{length_closed, node_closed, node_closed_other, number_closed, ancestor_closed, is_above_closed}
use Rattle.cw_tree.proofs.NextNodes.Pending.{pending_closed}
use Rattle.cw_trace.specs.Columns.{used, gap, closed_word}
use Rattle.cw_trace.specs.Stands.{fork_column}
use Rattle.cw_trace.specs.Keeps.{Keeps}
use Rattle.cw_trace.proofs.Keeps.Ending.{fork_column_same}
use Rattle.cw_trace.proofs.Keeps.TierLaws.{close, closed_shape}
use Rattle.cw_open.specs.Machine.{OpenMachine, has_finished, is_running, in_block, is_dying, is_free}
use Rattle.cw_open.specs.Steps.{stops}
use Rattle.cw_open.specs.Runs.{IsRun, IsReachedBy, at_once, left_died}
use Rattle.cw_open.specs.Open.{is_open}
use Rattle.cw_open.proofs.Open.TreeSteps.{free_runs, place_pending}
use Rattle.cw_open.proofs.Laws.Named.{live_tells, live_from, aborted_done}
use Rattle.cw_core.specs.declared.event.Event.TheVariants as event
use Rattle.cw_core.specs.State.{CoreState, joined_columns, waits_for_left, gap_of}
use Rattle.cw_core.specs.Events.{fits_now, steps_of, after_event}
use Rattle.cw_core.specs.Laws.{IsLeftFirst, IsCore}
use Rattle.cw_core.proofs.Events.Joined.{joins_of, joins_same}
use Rattle.cw_core.proofs.Laws.LeftFirst.{left_shut}
use Rattle.cw_core.proofs.Events.Complete.{none_of, all_fewer}
use Rattle.cw_open.proofs.Runs.More.{reached_more}
use Rattle.cw_core.proofs.Events.Going.{well, all_listed, end_stamp, pending_stamped, column_place, in_order, goes, at_place}
use Rattle.cw_core.proofs.Events.Making.{IsKept}

-- ## The block at a place is closed

module _ (first : List ℤ) (k : CoreState) (core : IsCore first k) (s : ℕ) (running : is_running k.machine s ≡ true) (ready : waits_for_left k s ≡ false) (within : in_block k.machine s ≡ true) (state : BlockState) (done : is_pending_state state ≡ false) where
  abbrev t : List Node
  t = k.machine.tree

  abbrev m : OpenMachine
  m = k.machine

  abbrev p : ℕ
  p = place t s

  abbrev end : ℕ
  end = m.clock + 1

  abbrev v : List Node
  v = closed t p state end

  pub pending : is_pending t p ≡ true
  pending = place_pending m (well first k core) s running within

  columns_same : (f : ℕ) → fork_column v f ≡ fork_column t f
  columns_same = fork_column_same t v (well first k core).sound.tree.rooted (closed_shape t p state end)

  joins_closed : joins_of v k.tier.room m.joined ≡ joined_columns k
  joins_closed = joins_same t v k.tier.room m.joined (λ f e. columns_same f)

  pub closed_forks : (f : ℕ) → has m.joined f ≡ true → is_fork v f ≡ true
  closed_forks f e = node_closed t p state end (λ y. is_fork_kind y.kind) (λ y. refl) f ∙ core.joined f e

  pub closed_stands : Keeps k.tier (closed_word k.words (gap_of k s) (stamp_of t p)) v k.splits (joins_of v k.tier.room m.joined)
  closed_stands =
      let stamps = (well first k core).sound.stamps in
      let low = λ (b : ℕ) (e : is_pending t b ≡ true). node_there (λ y. is_block_kind y.kind && is_pending_state y.state) t b e in
      let P : List ℕ → Type 0 = λ js. Keeps k.tier (closed_word k.words (gap_of k s) (stamp_of t p)) v k.splits js in
      let Q : ℕ → Type 0 = λ i. Keeps k.tier (closed_word k.words (gap k.tier i) (stamp_of t p)) v k.splits (joined_columns k) in
      subst P (sym joins_closed)
      (subst Q (column_place first k core s (used k.tier) running)
      (close k.tier k.words t k.splits (joined_columns k) (is_open m) p end state core.stands (well first k core).sound.tree (in_order first k core s running ready) (goes first k core s running ready) pending done (pending_stamped first k core)
      (λ b e same. stamps.distinct b p (low b e) (at_place first k core s running ready).there (pending_stamped first k core b e) same)))

  still_open : (n : ℕ) → is_open (record m { tree = v }) n ≡ true → is_open m n ≡ true
  still_open n e =
      let strand : is_strand v n ≡ is_strand t n = node_closed t p state end (λ y. is_strand_kind y.kind) (λ y. refl) n in
      let fork : is_fork v n ≡ is_fork t n = node_closed t p state end (λ y. is_fork_kind y.kind) (λ y. refl) n in
      let a = is_strand t n && not (has_finished m n) in
      let b = is_fork t n && not (has m.joined n) in
      elim (or_cases (is_strand v n && not (has_finished m n) || is_fork v n && not (has m.joined n)) (is_pending v n) e) [
        | inr z ↦ or_right (a || b) (is_pending t n) (pending_closed t p state end done n z).1
        | inl z ↦ or_left (a || b) (is_pending t n) (elim (or_cases (is_strand v n && not (has_finished m n)) (is_fork v n && not (has m.joined n)) z) [
          | inl y ↦ or_left a b (ap (λ q. q && not (has_finished m n)) (sym strand) ∙ y)
          | inr y ↦ or_right a b (ap (λ q. q && not (has m.joined n)) (sym fork) ∙ y)
        ])
      ]

  pub closed_left : IsLeftFirst k.tier v k.splits (is_open (record m { tree = v }))
  closed_left =
      let r = (well first k core).sound.tree.rooted in
      left_shut k.tier t v k.splits (is_open m) (is_open (record m { tree = v })) (length_closed t p state end) (number_closed t p state end (λ y. y.parent) (λ y. refl)) (node_closed t p state end (λ y. is_fork_kind y.kind) (λ y. refl)) columns_same
      (ancestor_closed t p state end r) still_open core.left_first

  -- what is live then was live
  pub was_live : (c n : ℕ) → touches v c n ≡ true → is_live v n ≡ true → (touches t c n ≡ true) × (is_live t n ≡ true) × (stamp_of v n ≡ stamp_of t n)
  was_live c n e l =
      let r = (well first k core).sound.tree.rooted in
      let e2 : touches t c n ≡ true = sym (node_closed t p state end (λ y. touches_kind c y.kind) (λ y. refl) n) ∙ e in
      let h = node_there (λ y. touches_kind c y.kind) t n e2 in (
        e2,
        live_from t n (λ b over.
            elim (cases_eq b p) [
              | inl q ↦ false_from_ne_true (is_aborted t b) (λ f. absurd (cc (ap (is_pending t) q, pending, aborted_done t b f)))
              | inr ne ↦ sym (node_closed_other t p state end (λ y. is_block_kind y.kind && is_aborted_state y.state) b ne) ∙ live_tells v n b l (is_above_closed t p state end r b n h ∙ over)
            ]),
        number_closed t p state end (λ y. y.stamp) (λ y. refl) n,
      )

-- ## A commit

pub keeps_commit : (first : List ℤ) (k : CoreState) (core : IsCore first k) (s : ℕ) → is_free k.machine s ≡ true → waits_for_left k s ≡ false → in_block k.machine s ≡ true → is_victim k.machine.tree k.machine.conflicts (place k.machine.tree s) ≡ false → IsKept first k (event.Commit s)
keeps_commit first k core s free ready within safe =
    let m = k.machine in
    let t = m.tree in
    let p = place t s in
    let running = free_runs m s free in
    let run : IsRun at_once m (steps_of k (event.Commit s)) = (
      (
        and_from (is_free m s && in_block m s) (not (is_victim t m.conflicts p)) (and_from (is_free m s) (in_block m s) free within) (not_from_false (is_victim t m.conflicts p) safe),
        end_stamp first k core p (at_place first k core s running ready).there,
      ),
      tt,
    ) in
    record {
      run = run;
      core = record {
        reached = reached_more at_once first m (steps_of k (event.Commit s)) core.reached run;
        complete = none_of (after_event k (event.Commit s)).machine (all_fewer t (closed t p Committed (m.clock + 1)) m.lists (was_live first k core s running ready within Committed refl) (all_listed first k core));
        joined = closed_forks first k core s running ready within Committed refl;
        left_first = closed_left first k core s running ready within Committed refl;
        stands = closed_stands first k core s running ready within Committed refl;
      };
    }

-- ## A finish and a stop

pub same_shape : (t : List Node) → (a n : ℕ) → n < length t → is_ancestor t a n ≡ is_ancestor t a n
same_shape t a n h = refl

pub keeps_finish : (first : List ℤ) (k : CoreState) (core : IsCore first k) (s : ℕ) (dead : Bool) → fits_now k (event.Finish s dead) ≡ true → IsKept first k (event.Finish s dead)
keeps_finish first k core s dead e =
    let m = k.machine in
    let t = m.tree in
    let kind = (if is_dying m s then dead else (not dead || left_died m s)) in
    let z = and_parts (is_running m s && not (waits_for_left k s) && not (in_block m s)) kind e in
    let y = and_parts (is_running m s && not (waits_for_left k s)) (not (in_block m s)) z.0 in
    let x = and_parts (is_running m s) (not (waits_for_left k s)) y.0 in
    let run : IsRun at_once m (steps_of k (event.Finish s dead)) = (and_from (is_running m s && not (in_block m s)) kind (and_from (is_running m s) (not (in_block m s)) x.0 y.1) z.1, tt) in
    let mz = (after_event k (event.Finish s dead)).machine in
    let fewer : (n : ℕ) → is_open mz n ≡ true → is_open m n ≡ true = λ n f. (
    let a = is_strand t n && not (has_finished m n) in
    let b = is_fork t n && not (has m.joined n) in
    elim (or_cases (is_strand t n && not (nat_eq s n || has_finished m n) || b) (is_pending t n) f) [
      | inr q ↦ or_right (a || b) (is_pending t n) q
      | inl q ↦ or_left (a || b) (is_pending t n) (elim (or_cases (is_strand t n && not (nat_eq s n || has_finished m n)) b q) [
        | inr w ↦ or_right a b w
        | inl w ↦
            (let parts = and_parts (is_strand t n) (not (nat_eq s n || has_finished m n)) w in
            or_left a b (and_from (is_strand t n) (not (has_finished m n)) parts.0 (not_from_false (has_finished m n) (or_parts (nat_eq s n) (has_finished m n) (not-true (nat_eq s n || has_finished m n) parts.1)).1)))
      ])
    ]) in
    record {
      run = run;
      core = record {
        reached = reached_more at_once first m (steps_of k (event.Finish s dead)) core.reached run;
        complete = none_of mz (all_listed first k core);
        joined = core.joined;
        left_first = left_shut k.tier t t k.splits (is_open m) (is_open mz) refl (λ n. refl) (λ n. refl) (λ f. refl) (same_shape t) fewer core.left_first;
        stands = core.stands;
      };
    }

same_core : (first : List ℤ) (k : CoreState) (core : IsCore first k) (stopped : List ℕ) (halt : Option Halt) → IsReachedBy at_once first (record k.machine { stopped = stopped }) → IsCore first (record k { machine = record k.machine { stopped = stopped }; halt = halt })
same_core first k core stopped halt reached = record { reached = reached; complete = core.complete; joined = core.joined; left_first = core.left_first; stands = core.stands }

pub keeps_stop : (first : List ℤ) (k : CoreState) (core : IsCore first k) (h : Halt) → IsRun at_once k.machine (steps_of k (event.Stop h)) → IsKept first k (event.Stop h)
keeps_stop first k core (halt.Fault s kind) run = record { run = run; core = same_core first k core (s ∷ k.machine.stopped) (Some (halt.Fault s kind)) (reached_more at_once first k.machine (stops s ∷ []) core.reached run) }
keeps_stop first k core (halt.Budget s) run = record { run = run; core = same_core first k core (s ∷ k.machine.stopped) (Some (halt.Budget s)) (reached_more at_once first k.machine (stops s ∷ []) core.reached run) }
keeps_stop first k core halt.Memory run = record { run = run; core = same_core first k core k.machine.stopped (Some halt.Memory) core.reached }
