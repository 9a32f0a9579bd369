-- At each moment of a run the facts hold that order the open nodes.
use Rattle.std.proofs.Common.{◌≡◌, ℕ, ◌+◌, ◌<◌, ◌≤◌, List, [], ◌∷◌, ◌++◌, length, refl, ap, sym, ◌∙◌, arith, Bool, true, false, cond, inl, inr, nat_lt, nat_eq, length-append}
use Rattle.std.specs.Prelude.{◌⊎◌, ◌&&◌, ◌||◌, not, nat_le, ℤ, Option, slice_index}
use Rattle.std.specs.List.{list_all}
use Rattle.std.proofs.lemmas.Bool.{and_parts, or_cases, or_right, not-true, false_from_ne_true, cases_eq, leb-true, eqb-true, not_from_false, not-false}
use Rattle.std.proofs.lemmas.List.{length-map}
use Rattle.cw_tree.specs.declared.node.Node.{Node}
use Rattle.cw_tree.specs.declared.node.Kind.{Kind}
use Rattle.cw_tree.specs.declared.node.Kind.TheVariants.{Block, Out, Tried, Cancel}
use Rattle.cw_tree.specs.declared.node.BlockState.{BlockState}
use Rattle.cw_tree.specs.declared.node.BlockState.TheVariants.{Committed, Aborted}
use Rattle.cw_tree.specs.Nodes.{number_in, is_fork_kind, parent_of, is_fork, fresh_node, closed}
use Rattle.cw_tree.specs.Walks.{has}
use Rattle.cw_tree.specs.Series.{place}
use Rattle.cw_tree.specs.AccessStacks.{access_kind}
use Rattle.cw_tree.specs.NextNodes.{fork_nodes}
use Rattle.cw_tree.proofs.NextNodes.Closing.{length_closed, node_closed, number_closed, strand_of_closed}
use Rattle.cw_tree.proofs.NextNodes.Growing.{node_new, number_new}
use Rattle.cw_tree.proofs.NodeKinds.{fork_no_strand}
use Rattle.cw_tree.proofs.Walks.Kin.{fork_child}
use Rattle.cw_tree.proofs.Walks.There.{fork_there}
use Rattle.cw_trace.specs.Columns.{ColumnTable, used, owner, forked, split_at, merged, back_to, around_fork}
use Rattle.cw_trace.specs.Stands.{column, fork_column}
use Rattle.cw_trace.specs.Keeps.{Keeps}
use Rattle.cw_trace.specs.Hands.{gap_at}
use Rattle.cw_trace.proofs.Marks.Edits.{length_parts}
use Rattle.cw_trace.proofs.ManyHands.Running.{each_moment_stands}
use Rattle.cw_trace.proofs.Stands.Counting.{fork_column_one}
use Rattle.cw_trace.proofs.Keeps.Ending.{fork_column_same}
use Rattle.cw_trace.proofs.Keeps.Forking.{get_right}
use Rattle.cw_trace.proofs.Keeps.TierLaws.{closed_shape}
use Rattle.cw_open.specs.Machine.{OpenMachine, live_value, has_finished, is_running, in_block, is_free}
use Rattle.cw_open.specs.Steps.{Step, puts_back, after_open_step}
use Rattle.cw_open.specs.Steps as step
use Rattle.cw_open.specs.Open.{is_open}
use Rattle.cw_open.specs.Runs.{Rules, Allowed, at_any_time}
use Rattle.cw_open.specs.LeftFirst.{makers}
use Rattle.cw_open.proofs.Open.Trees.{IsWell}
use Rattle.cw_open.proofs.Open.TreeSteps.{free_runs}
use Rattle.cw_open.proofs.Open.Kinds.{unjoined_open}
use Rattle.cw_hands.specs.Shared.{SharedMoment, has_columns, is_split, is_whole, is_owed, is_open_yet, moment_of, waits_for_left, waits_for_merge, is_ready, has_room, words_after, first_shared, after_shared, SharedStep, makes, splits, merges, RunsTogether, start, more}
use Rattle.cw_hands.specs.Laws.{OrderIsKept}
use Rattle.cw_hands.proofs.Shared.Going.{none_owed}
use Rattle.cw_hands.proofs.Shared.Order.{at_no_fork, wide_fork}
use Rattle.cw_hands.proofs.Shared.Forked.{unjoined, same_wide}
use Rattle.cw_hands.proofs.Shared.Seen.{access_plain}
use Rattle.cw_hands.proofs.Laws.Kept.{IsPassed, IsOwing, owed_is, owing_on, same_nodes, grown, other_fields}
use Rattle.cw_hands.proofs.Laws.Runs.{well_at, tier_run, tiers_run, unfinished_at}

module _ (s : SharedMoment) (w : IsWell s.machine) (k : Keeps s.columns s.words s.machine.tree s.cuts s.joins) where
  abbrev m : OpenMachine
  m = s.machine

  abbrev t : List Node
  t = s.machine.tree

  ready_unowed : (x : ℕ) → is_running m x ≡ true → is_ready s x ≡ true → (f : ℕ) → 0 < f → f < length t → parent_of t f ≡ place t x → is_owed s f ≡ false
  ready_unowed x running ready = none_owed s w.sound.tree w.nested x running (not-true (waits_for_merge s x) (and_parts (not (waits_for_left s x)) (not (waits_for_merge s x)) ready).1)

  pub leaf_passed : (x : ℕ) (kind : Kind) (stamp : ℕ) → is_running s.machine x ≡ true → is_ready s x ≡ true → is_fork_kind kind ≡ false
      → IsPassed s (record s { machine = record s.machine { tree = s.machine.tree ++ fresh_node (place s.machine.tree x) kind stamp ∷ [] } })
  leaf_passed x kind stamp running ready nf =
      let node = fresh_node (place t x) kind stamp in
      let last : (n : ℕ) → length t ≤ n → n < length (t ++ node ∷ []) → n ≡ length t = λ n le h. omega (arith, length-append t (node ∷ [])) in
      grown s w (node ∷ []) s.columns (λ n. refl)
      (λ n le h. inr (λ f some low up. ready_unowed x running ready f some low (up ∙ ap (parent_of (t ++ node ∷ [])) (last n le h) ∙ number_new t node (λ y. y.parent))))
      (λ f le e. absurd (cc (sym (ap (is_fork (t ++ node ∷ [])) (last f le (fork_there (t ++ node ∷ []) f e))) ∙ e, node_new t node (λ y. is_fork_kind y.kind) ∙ nf)))

  pub fork_passed : (x stamp : ℕ) (d : ColumnTable) → is_running s.machine x ≡ true → is_ready s x ≡ true
      → ((n : ℕ) → (is_fork s.machine.tree n && nat_lt (fork_column s.machine.tree n + 1) (used d)) ≡ (is_fork s.machine.tree n && nat_lt (fork_column s.machine.tree n + 1) (used s.columns)))
      → IsPassed s (record s { machine = record s.machine { tree = s.machine.tree ++ fork_nodes (length s.machine.tree) (place s.machine.tree x) stamp }; columns = d })
  fork_passed x stamp d running ready wide =
      let xs = fork_nodes (length t) (place t x) stamp in
      let at : (n j : ℕ) → n ≡ length t + j → parent_of (t ++ xs) n ≡ number_in (λ y. y.parent) (Rattle.std.specs.Prelude.slice_get xs j) = λ n j e. (ap (parent_of (t ++ xs)) e ∙ ap (number_in (λ y. y.parent)) (get_right t xs j)) in
      let len : length (t ++ xs) ≡ length t + 3 = length-append t xs in
      let other : (n j : ℕ) → n ≡ length t + j → is_fork (t ++ xs) n ≡ Rattle.cw_tree.specs.Nodes.passes (λ y. is_fork_kind y.kind) (Rattle.std.specs.Prelude.slice_get xs j) = λ n j e. (ap (is_fork (t ++ xs)) e ∙ ap (Rattle.cw_tree.specs.Nodes.passes (λ y. is_fork_kind y.kind)) (get_right t xs j)) in
      grown s w xs d wide
      (λ n le h. elim (cases_eq n (length t + 0)) [
        | inl e ↦ inr (λ f some low up. ready_unowed x running ready f some low (up ∙ at n 0 e))
        | inr n0 ↦ elim (cases_eq n (length t + 1)) [
          | inl e ↦ inl (omega (arith, at n 1 e))
          | inr n1 ↦ inl (omega (arith, at n 2 (omega (arith, n0, n1, len))))
        ]
      ])
      (λ f le e. elim (cases_eq f (length t + 0)) [
        | inl q ↦ unjoined s w k (place t x) stamp d f q
        | inr n0 ↦ elim (cases_eq f (length t + 1)) [
          | inl q ↦ absurd (cc (e, other f 1 q))
          | inr n1 ↦ absurd (let h = fork_there (t ++ xs) f e in let q : f ≡ length t + 2 = omega (arith, n0, n1, len) in cc (e, other f 2 q))
        ]
      ])

  fork_any : (x stamp : ℕ) → is_running m x ≡ true → is_ready s x ≡ true → (z : Bool) → has_room s ≡ z
      → IsPassed s (record s { machine = record s.machine { tree = t ++ fork_nodes (length t) (place t x) stamp }; columns = cond z (forked (slice_index s.words (gap_at s.columns t (place t x))) (column t (used s.columns) (place t x)) s.columns) s.columns })
  fork_any x stamp running ready true e =
      let word = slice_index s.words (gap_at s.columns t (place t x)) in
      let parent = column t (used s.columns) (place t x) in
      fork_passed x stamp (forked word parent s.columns) running ready (same_wide s k word parent (leb-true (used s.columns + 2) s.columns.room e))
  fork_any x stamp running ready false e = fork_passed x stamp s.columns running ready (λ n. refl)

  -- ## Steps that make no node

  close_passed : (q end : ℕ) (state : BlockState) → IsPassed s (record s { machine = record s.machine { tree = closed t q state end } })
  close_passed q end state =
      let v = closed t q state end in
      let columns_same : (f : ℕ) → fork_column v f ≡ fork_column t f = fork_column_same t v w.sound.tree.rooted (closed_shape t q state end) in
      let wide_same : (f : ℕ) → (is_fork v f && nat_lt (fork_column v f + 1) (used s.columns)) ≡ has_columns s f = λ f. (
      ap (λ b. b && nat_lt (fork_column v f + 1) (used s.columns)) (node_closed t q state end (λ y. is_fork_kind y.kind) (λ y. refl) f)
      ∙ ap (λ k. is_fork t f && nat_lt (k + 1) (used s.columns)) (columns_same f)) in
      same_nodes s (record s { machine = record s.machine { tree = v } }) (length_closed t q state end) (λ n. number_closed t q state end (λ y. y.parent) (λ y. refl) n)
      (λ f e. (sym (wide_same f) ∙ e, columns_same f)) (λ f e. e) (λ f h e. inl e) (λ f e. e) (λ f e. inl e)
      (λ f e. wide_same f ∙ e) (λ n e. e) (λ x e. e) (λ n h. strand_of_closed t q state end w.sound.tree.rooted n h)

  stay_passed : (finished : List (ℕ × Bool)) → ((x : ℕ) → has_finished m x ≡ true → has_finished (record m { finished = finished }) x ≡ true) → IsPassed s (record s { machine = record s.machine { finished = finished } })
  stay_passed finished grows =
      same_nodes s (record s { machine = record s.machine { finished = finished } }) refl (λ n. refl) (λ f e. (e, refl)) (λ f e. e) (λ f h e. inl e) (λ f e. e) (λ f e. inl e) (λ f e. e) (λ n e. e) grows (λ n h. refl)

  join_passed : (f : ℕ) → is_fork t f ≡ true → has m.joined f ≡ false → (z : Bool) → is_whole s f ≡ z
      → IsPassed s (record s { machine = record s.machine { joined = f ∷ s.machine.joined }; joins = cond z (fork_column t f ∷ s.joins) s.joins })
  join_passed f fork unjoined z e =
      same_nodes s (record s { machine = record s.machine { joined = f ∷ s.machine.joined }; joins = cond z (fork_column t f ∷ s.joins) s.joins }) refl (λ n. refl) (λ g h. (h, refl))
      (λ g h. or_right (nat_eq f g) (has m.joined g) h) (new_joins z) (more_joins z)
      (λ g h. elim (or_cases (nat_eq f g) (has m.joined g) h) [
        | inl q ↦ (let same : f ≡ g = eqb-true f g q in inr (sym (ap (is_open m) same) ∙ unjoined_open s.machine f fork unjoined))
        | inr was ↦ inl was
      ])
      (λ g h. h) (λ n h. h) (λ y h. h) (λ n h. refl) where
        new_joins : (z : Bool) (g : ℕ) → has_columns s g ≡ true → has (cond z (fork_column t f ∷ s.joins) s.joins) (fork_column t g) ≡ true → (has s.joins (fork_column t g) ≡ true) ⊎ (has (f ∷ m.joined) g ≡ true)
        new_joins false g wide h = inl h
        new_joins true g wide h = elim (or_cases (nat_eq (fork_column t f) (fork_column t g)) (has s.joins (fork_column t g)) h) [
          | inr was ↦ inl was
          | inl q ↦
              (let same : f ≡ g = fork_column_one t f g fork (wide_fork s g wide) (eqb-true (fork_column t f) (fork_column t g) q) in
              inr (Rattle.std.proofs.lemmas.Bool.or_left (nat_eq f g) (has m.joined g) (Rattle.std.proofs.lemmas.Bool.eq-eqb f g same)))
        ]

        more_joins : (z : Bool) (g : ℕ) → has s.joins (fork_column t g) ≡ true → has (cond z (fork_column t f ∷ s.joins) s.joins) (fork_column t g) ≡ true
        more_joins false g h = h
        more_joins true g h = or_right (nat_eq (fork_column t f) (fork_column t g)) (has s.joins (fork_column t g)) h

  split_passed : (d : ColumnTable) (cuts : List ℕ) → used d ≡ used s.columns → ((n : ℕ) → has s.cuts n ≡ true → has cuts n ≡ true) → IsPassed s (record s { columns = d; cuts = cuts })
  split_passed d cuts same grows =
      same_nodes s (record s { columns = d; cuts = cuts }) refl (λ n. refl) (λ f e. (sym (ap (λ k. is_fork t f && nat_lt (fork_column t f + 1) k) same) ∙ e, refl)) (λ f e. e) (λ f h e. inl e) (λ f e. e) (λ f e. inl e)
      (λ f e. ap (λ k. is_fork t f && nat_lt (fork_column t f + 1) k) same ∙ e) grows (λ x e. e) (λ n h. refl)

  merge_passed : (f : ℕ) (d : ColumnTable) → used d ≡ used s.columns → is_owed s f ≡ true → IsPassed s (record s { columns = d; joins = fork_column t f ∷ s.joins })
  merge_passed f d same owed =
      let o = owed_is s f owed in
      same_nodes s (record s { columns = d; joins = fork_column t f ∷ s.joins }) refl (λ n. refl) (λ g e. (sym (ap (λ k. is_fork t g && nat_lt (fork_column t g + 1) k) same) ∙ e, refl)) (λ g e. e)
      (λ g wide h. elim (or_cases (nat_eq (fork_column t f) (fork_column t g)) (has s.joins (fork_column t g)) h) [
        | inr was ↦ inl was
        | inl q ↦
            (let is : f ≡ g = fork_column_one t f g (wide_fork s f o.wide) (wide_fork s g wide) (eqb-true (fork_column t f) (fork_column t g) q) in
            inr (sym (ap (has m.joined) is) ∙ o.joined))
      ])
      (λ g h. or_right (nat_eq (fork_column t f) (fork_column t g)) (has s.joins (fork_column t g)) h) (λ g e. inl e)
      (λ g e. ap (λ k. is_fork t g && nat_lt (fork_column t g + 1) k) same ∙ e) (λ n e. e) (λ x e. e) (λ n h. refl)

  -- ## Each step

  one_ready : (x : ℕ) → list_all (is_ready s) (x ∷ []) ≡ true → is_ready s x ≡ true
  one_ready x e = (and_parts (is_ready s x) true e).0

  -- what a step makes of the other fields
  with_others : (e : Step) (u : SharedMoment) → IsPassed s u → IsPassed s (record u { machine = record u.machine { lists = (after_open_step m e).lists; clock = (after_open_step m e).clock; conflicts = (after_open_step m e).conflicts; stopped = (after_open_step m e).stopped }; words = words_after s e })
  with_others e u p = other_fields s u (after_open_step m e).lists (after_open_step m e).clock (after_open_step m e).conflicts (after_open_step m e).stopped (words_after s e) p

  machine_passed : (r : Rules) (e : Step) → Allowed r m e → list_all (is_ready s) (makers e) ≡ true → IsPassed s (after_shared s e)
  machine_passed r (step.forks x stamp) a ready = with_others (step.forks x stamp) _ (fork_any x stamp (free_runs m x a.0) (one_ready x ready) (has_room s) refl)
  machine_passed r (step.begins x stamp) a ready = with_others (step.begins x stamp) _ (leaf_passed x Block stamp (free_runs m x a.0) (one_ready x ready) refl)
  machine_passed r (step.accesses x c write stamp) a ready =
      let z = and_parts (is_free m x && nat_lt c (length m.lists)) _ a.0 in
      let free = (and_parts (is_free m x) (nat_lt c (length m.lists)) z.0).0 in
      with_others (step.accesses x c write stamp) _ (leaf_passed x (access_kind c write (live_value m c)) stamp (free_runs m x free) (one_ready x ready) (access_plain c write (live_value m c)).1)
  machine_passed r (step.refuses x c write met) a ready =
      let free = (and_parts (is_free m x) (nat_lt c (length m.lists)) a.0).0 in
      with_others (step.refuses x c write met) _ (leaf_passed x (Tried c) 0 (free_runs m x free) (one_ready x ready) refl)
  machine_passed r (step.outputs x v stamp) a ready = with_others (step.outputs x v stamp) _ (leaf_passed x (Out v) stamp (free_runs m x a.0) (one_ready x ready) refl)
  machine_passed r (step.cancels x stamp) a ready =
      let free = (and_parts (is_free m x) (in_block m x) a.0).0 in
      with_others (step.cancels x stamp) _ (leaf_passed x (Cancel (puts_back m x stamp)) stamp (free_runs m x free) (one_ready x ready) refl)
  machine_passed r (step.commits x stamp) a ready = with_others (step.commits x stamp) _ (close_passed (place t x) stamp Committed)
  machine_passed r (step.undoes x c) a ready = with_others (step.undoes x c) _ (stay_passed m.finished (λ y h. h))
  machine_passed r (step.aborts x stamp) a ready = with_others (step.aborts x stamp) _ (close_passed (place t x) stamp Aborted)
  machine_passed r (step.finishes x dead) a ready = stay_passed ((x, dead) ∷ m.finished) (λ y h. or_right (nat_eq x y) (has_finished m y) h)
  machine_passed r (step.joins f) a ready =
      let z = (and_parts (is_fork t f && not (has m.joined f)) _ a).0 in
      let y = and_parts (is_fork t f) (not (has m.joined f)) z in
      join_passed f y.0 (not-true (has m.joined f) y.1) (is_whole s f) refl
  machine_passed r (step.stops x) a ready = with_others (step.stops x) _ (stay_passed m.finished (λ y h. h))

  pub step_passed : (r : Rules) (u : SharedMoment) → SharedStep r s u → IsPassed s u
  step_passed r _ (makes e a ready later) = machine_passed r e a ready
  step_passed r _ (splits f whole early unstarted) = split_passed (split_at (fork_column t f) s.columns) (fork_column t f ∷ s.cuts) (length_parts (owner s.columns (fork_column t f)) (fork_column t f) 0 s.columns.owners) (λ n h. or_right (nat_eq (fork_column t f) n) (has s.cuts n) h)
  step_passed r _ (merges f e) = merge_passed f (merged (fork_column t f) s.columns) (length-map s.columns.owners (back_to (around_fork s.columns (fork_column t f)) (fork_column t f))) (and_parts (is_split s f) (is_owed s f) e).1

-- ## Each moment

pub owing_at : (r : Rules) (first : List ℤ) (s : SharedMoment) → RunsTogether r first s → has_finished s.machine 0 ≡ false → IsOwing s
owing_at r first _ (start room words some fits zeros) h = record {
  joined = λ f e j. absurd (cc j);
  last = λ f e. absurd (let o = owed_is (first_shared first room words) f e in cc o.joined);
}
owing_at r first u (more s _ run step) h =
    let before = unfinished_at r s u step h in
    owing_on s u (well_at r first s run) (step_passed s (well_at r first s run) (each_moment_stands (moment_of s) (tier_run r first s run before)).keeps r u step) (owing_at r first s run before)

pub order_is_kept : OrderIsKept
order_is_kept asked first s run h =
    let r = at_any_time asked in
    let w = well_at r first s run in
    let t = s.machine.tree in
    let tree = w.sound.tree in
    let o = owing_at r first s run h in
    let ordered = (each_moment_stands (moment_of s) (tiers_run asked first s run h)).ordered in
    record {
      joined = o.joined;
      owed = λ f e. (
          let z = owed_is s f e in
          let fork = wide_fork s f z.wide in
          let some : 0 < f = Rattle.cw_tree.proofs.NodeKinds.fork_some t tree.root f fork in
          let low = fork_there t f fork in
          let over : is_fork t (parent_of t f) ≡ false = false_from_ne_true (is_fork t (parent_of t f)) (λ q. absurd (cc (fork_child t tree f some low q, fork_no_strand t f fork))) in
          let opened : is_open_yet s f ≡ true = Rattle.cw_hands.proofs.Shared.Order.at_wide s f z.wide ∙ not_from_false (has s.joins (fork_column t f)) z.unmerged in
          (sym (at_no_fork s (parent_of t f) over) ∙ ordered.outer f some low opened, o.last f e));
      left_first = λ l k n some less hk same fork unsplit hn over ne. (
          let strand = fork_child t tree l some (omega arith) (ap (is_fork t) same ∙ fork) in
          sym (at_no_fork s l (false_from_ne_true (is_fork t l) (λ e. absurd (cc (strand, fork_no_strand t l e))))) ∙ ordered.left_first l k n some less hk same fork unsplit hn over ne);
    }
