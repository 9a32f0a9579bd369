-- Outputs, begins and forks are runs of the open machine, and keep what is true of a core.
use Rattle.std.proofs.Common.{◌≡◌, ℕ, suc, ◌+◌, ◌<◌, ◌≤◌, List, [], ◌∷◌, ◌++◌, length, refl, ap, sym, ◌∙◌, subst, arith, Bool, true, false, cond, length-append}
use Rattle.std.specs.Prelude.{ℤ, slice_index}
use Rattle.std.proofs.lemmas.Bool.{and_from, leb-true, leb-false}
use Rattle.cw_tree.specs.declared.node.Node.{Node}
use Rattle.cw_tree.specs.declared.node.Kind.TheVariants.{Strand, Fork, Block, Out, Cancel}
use Rattle.cw_tree.specs.Nodes.{is_fork_kind, touches_kind, parent_of, is_fork, fresh_node}
use Rattle.cw_tree.specs.Series.{place}
use Rattle.cw_tree.specs.NextNodes.{fork_nodes}
use Rattle.cw_tree.proofs.NextNodes.Growing.{length_more, node_grown, number_grown, number_new}
use Rattle.cw_tree.proofs.NextNodes.Trees.{in_turn, hung_one, hung_two, no_fork}
use Rattle.cw_trace.specs.Columns.{ColumnTable, used, owner, gap, forked, begun_word}
use Rattle.cw_trace.specs.Stands.{column}
use Rattle.cw_trace.specs.Keeps.{Keeps}
use Rattle.cw_trace.proofs.Keeps.Kept.{fork_keeps, inline_keeps}
use Rattle.cw_trace.proofs.Keeps.TierLaws.{begin}
use Rattle.cw_open.specs.Machine.{OpenMachine, is_running, in_block, is_free}
use Rattle.cw_open.specs.Steps.{puts_back}
use Rattle.cw_open.specs.Runs.{IsRun, at_once}
use Rattle.cw_open.specs.Open.{is_open}
use Rattle.cw_open.proofs.Open.TreeSteps.{free_runs}
use Rattle.cw_open.proofs.Laws.ListSteps.{none_new}
use Rattle.cw_open.proofs.Open.Trees.{open_more}
use Rattle.cw_core.specs.declared.event.Event.{Event}
use Rattle.cw_core.specs.declared.event.Event.TheVariants as event
use Rattle.cw_core.specs.State.{CoreState, joined_columns, waits_for_left, gap_of, column_of}
use Rattle.cw_core.specs.Events.{steps_of, after_event, may_fork}
use Rattle.cw_core.specs.Laws.{IsLeftFirst, IsCore}
use Rattle.cw_core.proofs.Events.Joined.{joins_of}
use Rattle.cw_core.proofs.Laws.LeftFirst.{left_more, left_tier}
use Rattle.cw_core.proofs.Events.Complete.{none_of, all_quiet}
use Rattle.cw_open.proofs.Runs.More.{reached_more}
use Rattle.cw_core.proofs.Events.Going.{well, all_listed, next_stamp, pending_stamped, joins_grown, forks_grown, column_place, in_order, goes, at_place, leaf_stands, node_left}

-- what holds of a core after an event
pub record IsKept (first : List ℤ) (k : CoreState) (e : Event) : Type 0 where
  pub run : IsRun at_once k.machine (steps_of k e)
  pub core : IsCore first (after_event k e)

module _ (first : List ℤ) (k : CoreState) (core : IsCore first k) (s : ℕ) (free : is_free k.machine s ≡ true) (ready : waits_for_left k s ≡ false) where
  abbrev t : List Node
  t = k.machine.tree

  abbrev m : OpenMachine
  m = k.machine

  abbrev p : ℕ
  p = place t s

  running : is_running m s ≡ true
  running = free_runs m s free

  pub keeps_out : (v : ℤ) → IsKept first k (event.Out s v)
  keeps_out v =
      let x = fresh_node p (Out v) (m.clock + 1) in
      let run : IsRun at_once m (steps_of k (event.Out s v)) = ((free, next_stamp first k core p), tt) in
      record {
        run = run;
        core = record {
          reached = reached_more at_once first m (steps_of k (event.Out s v)) core.reached run;
          complete = none_of (after_event k (event.Out s v)).machine (all_quiet t (x ∷ []) (well first k core).sound.tree.rooted m.lists (λ c n le. none_new (λ y. touches_kind c y.kind) t (x ∷ []) n refl le) (all_listed first k core));
          joined = forks_grown first k core (x ∷ []);
          left_first = node_left first k core s running ready x refl;
          stands = leaf_stands first k core s running ready x refl refl refl refl;
        };
      }

  pub keeps_cancel : in_block m s ≡ true → IsKept first k (event.Cancel s)
  keeps_cancel within =
      let x = fresh_node p (Cancel (puts_back m s (m.clock + 1))) (m.clock + 1) in
      let run : IsRun at_once m (steps_of k (event.Cancel s)) = ((and_from (is_free m s) (in_block m s) free within, next_stamp first k core p), tt) in
      record {
        run = run;
        core = record {
          reached = reached_more at_once first m (steps_of k (event.Cancel s)) core.reached run;
          complete = none_of (after_event k (event.Cancel s)).machine (all_quiet t (x ∷ []) (well first k core).sound.tree.rooted m.lists
              (λ c n le. none_new (λ y. touches_kind c y.kind) t (x ∷ []) n refl le) (all_listed first k core));
          joined = forks_grown first k core (x ∷ []);
          left_first = node_left first k core s running ready x refl;
          stands = leaf_stands first k core s running ready x refl refl refl refl;
        };
      }

  pub keeps_begin : IsKept first k (event.Begin s)
  keeps_begin =
      let x = fresh_node p Block (m.clock + 1) in
      let run : IsRun at_once m (steps_of k (event.Begin s)) = ((free, next_stamp first k core p), tt) in
      let P : List ℕ → Type 0 = λ js. Keeps k.tier (begun_word k.words (gap_of k s) (m.clock + 1)) (t ++ x ∷ []) k.splits js in
      let Q : ℕ → Type 0 = λ i. Keeps k.tier (begun_word k.words (gap k.tier i) (m.clock + 1)) (t ++ x ∷ []) k.splits (joined_columns k) in
      let stands : Keeps k.tier (begun_word k.words (gap k.tier (column t (used k.tier) p)) (m.clock + 1)) (t ++ x ∷ []) k.splits (joined_columns k) =
      begin k.tier k.words t k.splits (joined_columns k) (is_open m) p (m.clock + 1) core.stands (well first k core).sound.tree (in_order first k core s running ready) (goes first k core s running ready) (pending_stamped first k core) (omega arith)
      (λ n h same. let z = (well first k core).clock n h in omega (arith, z.0)) in
      record {
        run = run;
        core = record {
          reached = reached_more at_once first m (steps_of k (event.Begin s)) core.reached run;
          complete = none_of (after_event k (event.Begin s)).machine (all_quiet t (x ∷ []) (well first k core).sound.tree.rooted m.lists (λ c n le. none_new (λ y. touches_kind c y.kind) t (x ∷ []) n refl le) (all_listed first k core));
          joined = forks_grown first k core (x ∷ []);
          left_first = node_left first k core s running ready x refl;
          stands = subst P (sym (joins_grown first k core (x ∷ []))) (subst Q (column_place first k core s (used k.tier) running) stands);
        };
      }

  -- ## A fork

  abbrev stamp : ℕ
  stamp = m.clock + 1

  abbrev more : List Node
  more = fork_nodes (length t) p stamp

  abbrev a : Node
  a = fresh_node p Fork stamp

  abbrev b : Node
  b = fresh_node (length t) Strand 0

  abbrev one : List Node
  one = t ++ a ∷ []

  abbrev two : List Node
  two = one ++ b ∷ []

  left_forked : IsLeftFirst k.tier (t ++ more) k.splits (is_open (record m { tree = t ++ more }))
  left_forked =
      let place = at_place first k core s running ready in
      let tree = (well first k core).sound.tree in
      let n = length t in
      let r = hung_one t p stamp tree place.there place.holds in
      let q = hung_two t p stamp tree place.there place.holds in
      let len_one : length one ≡ suc n = length_more t a in
      let len_two : length two ≡ suc (suc n) = length_more one b ∙ ap suc len_one in
      let open_one = is_open (record m { tree = one }) in
      let open_two = is_open (record m { tree = two }) in
      let none = no_fork t p place.holds in
      -- the fork hangs from no fork
      let up_one : parent_of one n ≡ p = number_new t a (λ y. y.parent) in
      let other_one : is_fork one (parent_of one n) ≡ false = ap (is_fork one) up_one ∙ (node_grown t (a ∷ []) (λ y. is_fork_kind y.kind) p place.there ∙ none) in
      let up_two : parent_of two n ≡ parent_of one n = number_grown one (b ∷ []) (λ y. y.parent) n (omega (arith, len_one)) in
      let low_one : parent_of one n < length one = (let h = place.there in omega (arith, up_one, len_one)) in
      let other_two : is_fork two (parent_of two n) ≡ false = ap (is_fork two) up_two ∙ (node_grown one (b ∷ []) (λ y. is_fork_kind y.kind) (parent_of one n) low_one ∙ other_one) in
      let first_one = node_left first k core s running ready a refl in
      let first_two = left_more k.tier one k.splits open_one open_two r.rooted first_one b (omega (arith, len_one)) (open_more (record m { tree = one }) (b ∷ [])) (λ l some less same fork unsplit. absurd (cc (fork, other_one))) in
      let first_three = left_more k.tier two k.splits open_two (is_open (record m { tree = two ++ b ∷ [] })) q.rooted first_two b (omega (arith, len_two)) (open_more (record m { tree = two }) (b ∷ [])) (λ l some less same fork unsplit. absurd (cc (fork, other_two))) in
      let P : List Node → Type 0 = λ u. IsLeftFirst k.tier u k.splits (is_open (record m { tree = u })) in
      subst P (sym (in_turn t p stamp tree place.there place.holds)) first_three

  abbrev word : ℕ
  word = slice_index k.words (gap_of k s)

  -- with columns where there are two left, or without
  forked_stands : (z : Bool) → may_fork k ≡ z → Keeps (cond z (forked word (column_of k s) k.tier) k.tier) k.words (t ++ more) k.splits (joined_columns k)
  forked_stands true e =
      fork_keeps word (column_of k s) k.tier (forked word (column_of k s) k.tier) (leb-true (used k.tier + 2) k.tier.room e) refl k.words t k.splits (joined_columns k) (is_open m) p stamp core.stands (well first k core).sound.tree (pending_stamped first k core)
      (in_order first k core s running ready) (goes first k core s running ready) (column_place first k core s (used k.tier) running) refl
  forked_stands false e =
      inline_keeps word (column_of k s) k.tier k.tier (leb-false (used k.tier + 2) k.tier.room e) refl k.words t k.splits (joined_columns k) (is_open m) p stamp core.stands (well first k core).sound.tree (pending_stamped first k core)
      (in_order first k core s running ready) (goes first k core s running ready) (column_place first k core s (used k.tier) running) refl

  forked_room : (z : Bool) → (cond z (forked word (column_of k s) k.tier) k.tier).room ≡ k.tier.room
  forked_room true = refl
  forked_room false = refl

  forked_used : (z : Bool) → used k.tier ≤ used (cond z (forked word (column_of k s) k.tier) k.tier)
  forked_used true = omega (arith, length-append k.tier.owners (owner k.tier (column_of k s) ∷ owner k.tier (column_of k s) ∷ []))
  forked_used false = omega arith

  pub keeps_fork : IsKept first k (event.Fork s)
  keeps_fork =
      let run : IsRun at_once m (steps_of k (event.Fork s)) = ((free, next_stamp first k core p), tt) in
      let d : ColumnTable = cond (may_fork k) (forked word (column_of k s) k.tier) k.tier in
      let P : List ℕ → Type 0 = λ js. Keeps d k.words (t ++ more) k.splits js in
      record {
        run = run;
        core = record {
          reached = reached_more at_once first m (steps_of k (event.Fork s)) core.reached run;
          complete = none_of (after_event k (event.Fork s)).machine (all_quiet t more (well first k core).sound.tree.rooted m.lists (λ c n le. none_new (λ y. touches_kind c y.kind) t more n refl le) (all_listed first k core));
          joined = forks_grown first k core more;
          left_first = left_tier k.tier d (t ++ more) k.splits k.splits (is_open (record m { tree = t ++ more })) (forked_used (may_fork k)) (λ g e. e) left_forked;
          stands = subst P (sym (ap (λ r. joins_of (t ++ more) r m.joined) (forked_room (may_fork k)) ∙ joins_grown first k core more)) (forked_stands (may_fork k) refl);
        };
      }
