-- An access, made or refused, is a run of the open machine, and keeps what is true of a core.
use Rattle.std.proofs.Common.{◌≡◌, ℕ, ◌+◌, ◌<◌, List, [], ◌∷◌, ◌++◌, length, refl, ap, sym, ◌∙◌, subst, arith, Bool, true, false, cond, Option, Some, None, inl, inr, nat_lt}
use Rattle.std.specs.Prelude.{◌&&◌, not, ℤ, find, unwrap_or, slice_set}
use Rattle.std.proofs.lemmas.Bool.{and_from, or_cases, cases_lt, ltb-true, not_from_false}
use Rattle.cw_tree.specs.declared.node.Node.{Node}
use Rattle.cw_tree.specs.declared.node.Kind.TheVariants.{Tried}
use Rattle.cw_tree.specs.declared.access.Mark.{Mark}
use Rattle.cw_tree.specs.Nodes.{is_strand_kind, is_fork_kind, is_block_kind, is_pending_state, first_state, touches_kind, stamp_of, touches, fresh_node}
use Rattle.cw_tree.specs.Walks.{has}
use Rattle.cw_tree.specs.Series.{place}
use Rattle.cw_tree.specs.AccessStacks.{conflict_at, access_at, access_kind}
use Rattle.cw_tree.specs.Newest.{newest}
use Rattle.cw_tree.proofs.Lists.{In}
use Rattle.cw_tree.proofs.Walks.There.{node_there}
use Rattle.cw_tree.proofs.NextNodes.Growing.{node_grown, number_grown}
use Rattle.cw_trace.specs.declared.verdict.Verdict.{Verdict}
use Rattle.cw_trace.specs.declared.verdict.Verdict.TheVariants.{Free, Within, Against}
use Rattle.cw_trace.specs.Columns.{used}
use Rattle.cw_trace.specs.Stands.{column}
use Rattle.cw_trace.specs.Query.{verdict}
use Rattle.cw_trace.specs.Verdicts.{Tells, is_against}
use Rattle.cw_trace.proofs.Query.Answering.{decides}
use Rattle.cw_open.specs.Machine.{OpenMachine, live, live_value, is_running, is_free}
use Rattle.cw_open.specs.Steps.{Met, Step, accesses, refuses, after_all}
use Rattle.cw_open.specs.Runs.{IsRun, IsRefused, ComesLast, meets, at_once}
use Rattle.cw_open.specs.Open.{is_open}
use Rattle.cw_open.proofs.Open.TreeSteps.{free_runs}
use Rattle.cw_open.proofs.Laws.Named.{access_named, live_grown}
use Rattle.cw_open.proofs.Laws.Listing.{listed}
use Rattle.cw_open.proofs.Laws.ListSteps.{none_new, kept, new_in}
use Rattle.cw_open.proofs.Laws.ChainSteps.{newest_in}
use Rattle.cw_core.specs.declared.event.Event.TheVariants as event
use Rattle.cw_tree.proofs.Walks.Kin.{has_in}
use Rattle.cw_core.specs.State.{CoreState, joined_columns, waits_for_left, column_of}
use Rattle.cw_core.specs.Events.{is_met, met_by, against}
use Rattle.cw_core.specs.Laws.{IsCore}
use Rattle.cw_core.proofs.Events.Complete.{HasAll, none_of, all_quiet}
use Rattle.cw_open.proofs.Runs.More.{reached_more}
use Rattle.cw_core.proofs.Events.Going.{state, well, all_listed, next_stamp, forks_grown, column_place, in_order, goes, at_place, leaf_stands, node_left}
use Rattle.cw_core.proofs.Events.Making.{IsKept}

access_no : (c : ℕ) (write : Option ℤ) (v : ℤ) → (is_strand_kind (access_kind c write v) ≡ false) × (is_fork_kind (access_kind c write v) ≡ false) × ((is_block_kind (access_kind c write v) && is_pending_state (first_state (access_kind c write v))) ≡ false)
access_no c None v = (refl, refl, refl)
access_no c (Some w) v = (refl, refl, refl)

-- what conflicts with the newest of some accesses conflicts with one
newest_one : (t : List Node) (us : List ℕ) (p : ℕ) → meets t (newest us) p ≡ true → (u : ℕ) × (newest us ≡ u ∷ []) × (conflict_at t (access_at t u) p ≡ true)
newest_one t [] p e = absurd (cc e)
newest_one t (u ∷ []) p e = (u, refl, elim (or_cases (conflict_at t (access_at t u) p) false e) [ inl q ↦ q | inr q ↦ absurd (cc q) ])
newest_one t (u ∷ v ∷ us) p e = newest_one t (v ∷ us) p e

against_some : (v : Verdict) → is_against v ≡ true → v ≡ Against (against v)
against_some Free e = absurd (cc e)
against_some Within e = absurd (cc e)
against_some (Against w) e = refl

module _ (first : List ℤ) (k : CoreState) (core : IsCore first k) (s c : ℕ) (write : Option ℤ) (free : is_free k.machine s ≡ true) (ready : waits_for_left k s ≡ false) (there : nat_lt c (length k.machine.lists) ≡ true) where
  abbrev t : List Node
  t = k.machine.tree

  abbrev m : OpenMachine
  m = k.machine

  abbrev p : ℕ
  p = place t s

  running : is_running m s ≡ true
  running = free_runs m s free

  -- ## Made

  abbrev stamp : ℕ
  stamp = m.clock + 1

  abbrev x : Node
  x = fresh_node p (access_kind c write (live_value m c)) stamp

  abbrev u : List Node
  u = t ++ x ∷ []

  abbrev ls : List (List ℕ)
  ls = slice_set m.lists c (live m c ++ stamp ∷ [])

  below_next : (v : ℕ) → has (live m c) v ≡ true → v < stamp
  below_next v e =
      let a = (state first k core).listed.accesses c v (has_in (live m c) v e) in
      let z = (well first k core).clock a.0 (node_there (λ y. touches_kind c y.kind) t a.0 a.1) in
      omega (arith, z.0, a.2)

  comes_last : ComesLast t (live m c) (newest (live m c)) p stamp
  comes_last = record { listed = below_next; ended = λ v b e h shut. (let z = (well first k core).clock b h in omega (arith, z.1)) }

  all_there : HasAll u ls
  all_there d n e l =
      let r = (well first k core).sound.tree.rooted in
      let a = (state first k core).listed in
      let place = at_place first k core s running ready in
      elim (cases_lt n (length t)) [
        | inr le ↦ (new_in m r a p c stamp write (live_value m c) place (ltb-true c (length m.lists) there) (next_stamp first k core p) below_next d n le e).0
        | inl h ↦
            (let old = all_listed first k core d n (sym (node_grown t (x ∷ []) (λ y. touches_kind d y.kind) n h) ∙ e) (sym (live_grown t (x ∷ []) r n h) ∙ l) in
            let P : ℕ → Type 0 = λ v. In v (listed ls d) in
            subst P (sym (number_grown t (x ∷ []) (λ y. y.stamp) n h)) (kept m r a p c stamp write (live_value m c) place (ltb-true c (length m.lists) there) (next_stamp first k core p) below_next d (stamp_of t n) old))
      ]

  made_run : is_met k s c ≡ false → IsRun at_once m (accesses s c write stamp ∷ [])
  made_run off = (
    (
      and_from (is_free m s && nat_lt c (length m.lists)) (not (meets t (newest (live m c)) p)) (and_from (is_free m s) (nat_lt c (length m.lists)) free there) (not_from_false (meets t (newest (live m c)) p) off),
      next_stamp first k core p,
      comes_last,
    ),
    tt,
  )

  made : IsRun at_once m (accesses s c write stamp ∷ []) → IsCore first (record k { machine = after_all m (accesses s c write stamp ∷ []) })
  made run =
      let n = access_no c write (live_value m c) in
      record {
        reached = reached_more at_once first m (accesses s c write stamp ∷ []) core.reached run;
        complete = none_of (after_all m (accesses s c write stamp ∷ [])) all_there;
        joined = forks_grown first k core (x ∷ []);
        left_first = node_left first k core s running ready x refl;
        stands = leaf_stands first k core s running ready x refl n.0 n.1 n.2;
      }

  -- ## Refused

  -- what the columns tell of the newest access
  pub told_newest : (last : ℕ) → newest (live m c) ≡ last ∷ [] → Tells t (access_at t last) p (verdict k.tier k.words (record { strand = column_of k (access_at t last); stamp = last }) (column_of k s))
  told_newest last is =
      let w = well first k core in
      let a = (state first k core).listed.accesses c last (newest_in (live m c) last is) in
      let v = access_at t last in
      let named : v ≡ a.0 = ap (access_at t) (sym a.2) ∙ access_named t w.sound.stamps c a.0 a.1 in
      let touched : touches t c v ≡ true = ap (touches t c) named ∙ a.1 in
      let stamped : last ≡ stamp_of t v = sym a.2 ∙ ap (stamp_of t) (sym named) in
      decides k.tier k.words (record { strand = column_of k v; stamp = last }) (column_of k s) t k.splits (joined_columns k) (is_open m) c v p core.stands w.sound.tree w.sound.stamps (in_order first k core s running ready) (goes first k core s running ready) touched
      (ap (λ z. (let q : Mark = record { strand = column t (used k.tier) v; stamp = z } in q)) stamped) (sym (column_place first k core s (used k.tier) running))

  abbrev met : Met
  met = met_by k s c

  abbrev y : Node
  y = fresh_node p (Tried c) 0

  refused : is_met k s c ≡ true → IsRefused m s c met
  refused e =
      let (last, is, conflicts) = newest_one t (live m c) p e in
      let same : met.last ≡ last = ap (λ us. unwrap_or (find (λ v. true) us) 0) is in
      let v = access_at t met.last in
      let stopped : conflict_at t v p ≡ true = ap (λ z. conflict_at t (access_at t z) p) same ∙ conflicts in
      let told = told_newest met.last (is ∙ ap (λ z. z ∷ []) (sym same)) in
      let v_against = against_some (verdict k.tier k.words (record { strand = column_of k v; stamp = met.last }) (column_of k s)) (told.against ∙ stopped) in
      record {
        last = is ∙ ap (λ z. z ∷ []) (sym same);
        conflicts = stopped;
        block = told.begun met.block v_against;
        chain = refl;
      }

  refused_run : is_met k s c ≡ true → IsRun at_once m (refuses s c write met ∷ [])
  refused_run e = ((and_from (is_free m s) (nat_lt c (length m.lists)) free there, refused e), tt)

  refused_core : IsRun at_once m (refuses s c write met ∷ []) → IsCore first (record k { machine = after_all m (refuses s c write met ∷ []) })
  refused_core run = record {
    reached = reached_more at_once first m (refuses s c write met ∷ []) core.reached run;
    complete = none_of (after_all m (refuses s c write met ∷ [])) (all_quiet t (y ∷ []) (well first k core).sound.tree.rooted m.lists (λ d n le. none_new (λ z. touches_kind d z.kind) t (y ∷ []) n refl le) (all_listed first k core));
    joined = forks_grown first k core (y ∷ []);
    left_first = node_left first k core s running ready y refl;
    stands = leaf_stands first k core s running ready y refl refl refl refl;
  }

  -- ## Either

  abbrev step : Bool → List Step
  step z = cond z (refuses s c write met) (accesses s c write stamp) ∷ []

  run_either : (z : Bool) → is_met k s c ≡ z → IsRun at_once m (step z)
  run_either true e = refused_run e
  run_either false e = made_run e

  core_either : (z : Bool) → IsRun at_once m (step z) → IsCore first (record k { machine = after_all m (step z) })
  core_either true run = refused_core run
  core_either false run = made run

  pub keeps_access : IsKept first k (event.Access s c write)
  keeps_access = let run = run_either (is_met k s c) refl in record { run = run; core = core_either (is_met k s c) run }
