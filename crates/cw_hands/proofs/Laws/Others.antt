-- What the steps of others leave of a strand that goes on.
use Rattle.std.proofs.Common.{◌≡◌, ◌≢◌, ℕ, ◌+◌, ◌<◌, List, [], ◌∷◌, ◌++◌, length, refl, ap, sym, ◌∙◌, subst, arith, Bool, true, false, cond, Option, Some, None, inl, inr, nat_eq}
use Rattle.std.specs.Prelude.{◌&&◌, not, nat_lt, ℤ, slice_index}
use Rattle.std.specs.List.{list_all}
use Rattle.std.proofs.lemmas.Bool.{and_parts, and_from, not-true, cases_eq, leb-true, leb-false, eq-eqb}
use Rattle.cw_tree.specs.declared.node.Node.{Node}
use Rattle.cw_tree.specs.declared.node.Kind.TheVariants.{Block, Out, Tried, Cancel}
use Rattle.cw_tree.specs.declared.node.BlockState.TheVariants.{Committed, Aborted}
use Rattle.cw_tree.specs.Nodes.{parent_of, stamp_of, is_fork, fresh_node}
use Rattle.cw_tree.specs.Names.{is_right}
use Rattle.cw_tree.specs.Walks.{has}
use Rattle.cw_tree.specs.Series.{place}
use Rattle.cw_tree.specs.AccessStacks.{access_kind}
use Rattle.cw_tree.specs.NextNodes.{fork_nodes}
use Rattle.cw_tree.proofs.Walks.Kin.{fork_child}
use Rattle.cw_tree.proofs.Walks.Strands.{strand_itself}
use Rattle.cw_trace.specs.Columns.{used, forked}
use Rattle.cw_trace.specs.Stands.{column, fork_column}
use Rattle.cw_trace.specs.Hands.{StandsInOrder, gap_at, IsLater}
use Rattle.cw_trace.specs.OrderedRuns.{Moment, GoesOnAt, RunsInOrder}
use Rattle.cw_trace.proofs.Keeps.Meaning.{odd_column}
use Rattle.cw_trace.proofs.ManyHands.Running.{others_go_on}
use Rattle.cw_open.specs.Machine.{OpenMachine, live_value, has_finished, is_running, in_block, is_free, rolls_back}
use Rattle.cw_open.specs.Steps.{Step, puts_back, after_open_step}
use Rattle.cw_open.specs.Steps as step
use Rattle.cw_open.specs.Runs.{Rules, Allowed, at_any_time}
use Rattle.cw_open.specs.LeftFirst.{makers}
use Rattle.cw_open.specs.Hands.{is_step_of, IsLeftAlone}
use Rattle.cw_open.proofs.Hands.Alone.{others_leave_alone}
use Rattle.cw_open.proofs.Hands.Apart.{places_differ}
use Rattle.cw_open.proofs.Open.Standing.{stands}
use Rattle.cw_open.proofs.Open.Trees.{IsWell}
use Rattle.cw_open.proofs.Open.TreeSteps.{free_runs, rolls_runs}
use Rattle.cw_hands.specs.Shared.{SharedMoment, has_columns, is_open_yet, moment_of, is_ready, place_at, has_room, columns_after, words_after, after_shared, IsLaterStep, SharedStep, makes, splits, merges, is_about, RunsTogether, more}
use Rattle.cw_hands.specs.Laws.{OthersLeaveReady}
use Rattle.cw_hands.proofs.Shared.Order.{wide_fork, wide_low}
use Rattle.cw_hands.proofs.Shared.Going.{may_go_on}
use Rattle.cw_hands.proofs.Shared.Seen.{Seen, unseen, seen, access_plain, machine_step, split_step, merge_step, names, due}
use Rattle.cw_hands.proofs.Laws.Beside.{IsBeside, beside_none, leaf_beside, begin_beside, close_beside, inline_beside, fork_beside, split_beside, merge_beside}
use Rattle.cw_hands.proofs.Laws.Ready.{ready}
use Rattle.cw_hands.proofs.Laws.Runs.{machine_reached, well_at, tier_run, tiers_stand, unfinished_at}

-- what a step leaves at the place of the strand
pub record IsLeft (s u : SharedMoment) (x : ℕ) : Type 0 where
  pub running : is_running u.machine x ≡ true
  pub place : place_at u x ≡ place_at s x
  pub beside : IsBeside s.columns u.columns s.words u.words s.machine.tree u.machine.tree (place_at s x)
  pub goes : GoesOnAt (moment_of u) (place_at s x)

module _ (s : SharedMoment) (w : IsWell s.machine) (h : StandsInOrder s.columns s.words s.machine.tree s.cuts s.joins (is_open_yet s)) (o : RunsInOrder (moment_of s)) (x : ℕ) (running : is_running s.machine x ≡ true) (ready_x : is_ready s x ≡ true) where
  abbrev m : OpenMachine
  m = s.machine

  abbrev t : List Node
  t = s.machine.tree

  abbrev p : ℕ
  p = place t x

  go : GoesOnAt (moment_of s) (place s.machine.tree x)
  go = may_go_on s w.sound.tree w.nested x running ready_x

  -- ## Steps of the machine by others

  goes_at : (y : ℕ) → is_running m y ≡ true → list_all (is_ready s) (y ∷ []) ≡ true → GoesOnAt (moment_of s) (place t y)
  goes_at y run r = may_go_on s w.sound.tree w.nested y run (and_parts (is_ready s y) true r).0

  apart : (y : ℕ) → is_running m y ≡ true → nat_eq y x ≡ false → place t x ≢ place t y
  apart y run ne = places_differ m w x y running run (λ e. absurd (cc (ne, eq-eqb y x (sym e))))

  fork_any : (y stamp : ℕ) → is_running m y ≡ true → list_all (is_ready s) (y ∷ []) ≡ true → nat_eq y x ≡ false → (z : Bool) → has_room s ≡ z
      → IsBeside s.columns (cond z (forked (slice_index s.words (gap_at s.columns t (place t y))) (column t (used s.columns) (place t y)) s.columns) s.columns) s.words s.words t (t ++ fork_nodes (length t) (place t y) stamp) p
  fork_any y stamp run r ne true e =
      fork_beside s.columns s.words t s.cuts s.joins (is_open_yet s) h p go (place t y) (goes_at y run r) (apart y run ne) (slice_index s.words (gap_at s.columns t (place t y))) stamp (leb-true (used s.columns + 2) s.columns.room e)
  fork_any y stamp run r ne false e = inline_beside s.columns s.words t s.cuts s.joins (is_open_yet s) h p go (place t y) (goes_at y run r) (apart y run ne) stamp (leb-false (used s.columns + 2) s.columns.room e)

  nothing_beside : IsBeside s.columns s.columns s.words s.words t t p
  nothing_beside = beside_none s.columns s.words t s.cuts s.joins (is_open_yet s) h p go

  machine_beside : (r : Rules) (e : Step) → Allowed r m e → list_all (is_ready s) (makers e) ≡ true → is_step_of x e ≡ false → IsBeside s.columns (columns_after s e) s.words (words_after s e) t (after_open_step m e).tree p
  machine_beside r (step.forks y stamp) a all ne = fork_any y stamp (free_runs m y a.0) all ne (has_room s) refl
  machine_beside r (step.begins y stamp) a all ne =
      let run = free_runs m y a.0 in
      begin_beside s.columns s.words t s.cuts s.joins (is_open_yet s) h p go (place t y) (goes_at y run all) (apart y run ne) (fresh_node (place t y) Block stamp) stamp refl refl refl
  machine_beside r (step.accesses y c write stamp) a all ne =
      let z = and_parts (is_free m y && nat_lt c (length m.lists)) _ a.0 in
      let run = free_runs m y (and_parts (is_free m y) (nat_lt c (length m.lists)) z.0).0 in
      let k = access_plain c write (live_value m c) in
      leaf_beside s.columns s.words t s.cuts s.joins (is_open_yet s) h p go (place t y) (goes_at y run all) (apart y run ne) (fresh_node (place t y) (access_kind c write (live_value m c)) stamp) refl k.0 k.1
  machine_beside r (step.refuses y c write met) a all ne =
      let run = free_runs m y (and_parts (is_free m y) (nat_lt c (length m.lists)) a.0).0 in
      leaf_beside s.columns s.words t s.cuts s.joins (is_open_yet s) h p go (place t y) (goes_at y run all) (apart y run ne) (fresh_node (place t y) (Tried c) 0) refl refl refl
  machine_beside r (step.outputs y v stamp) a all ne =
      let run = free_runs m y a.0 in
      leaf_beside s.columns s.words t s.cuts s.joins (is_open_yet s) h p go (place t y) (goes_at y run all) (apart y run ne) (fresh_node (place t y) (Out v) stamp) refl refl refl
  machine_beside r (step.cancels y stamp) a all ne =
      let run = free_runs m y (and_parts (is_free m y) (in_block m y) a.0).0 in
      leaf_beside s.columns s.words t s.cuts s.joins (is_open_yet s) h p go (place t y) (goes_at y run all) (apart y run ne)
      (fresh_node (place t y) (Cancel (puts_back m y stamp)) stamp) refl refl refl
  machine_beside r (step.commits y stamp) a all ne =
      let z = and_parts (is_free m y && in_block m y) _ a.0 in
      let run = free_runs m y (and_parts (is_free m y) (in_block m y) z.0).0 in
      close_beside s.columns s.words t s.cuts s.joins (is_open_yet s) h p go (place t y) (goes_at y run all) (apart y run ne) stamp (stamp_of t (place t y)) Committed
  machine_beside r (step.undoes y c) a all ne = nothing_beside
  machine_beside r (step.aborts y stamp) a all ne =
      let run = (rolls_runs m y (and_parts (rolls_back m y) _ a.0).0).running in
      close_beside s.columns s.words t s.cuts s.joins (is_open_yet s) h p go (place t y) (goes_at y run all) (apart y run ne) stamp (stamp_of t (place t y)) Aborted
  machine_beside r (step.finishes y dead) a all ne = nothing_beside
  machine_beside r (step.joins f) a all ne = nothing_beside
  machine_beside r (step.stops y) a all ne = nothing_beside

  -- whose place it is made at is not the strand's
  hand_other : (y : ℕ) → is_running m y ≡ true → nat_eq y x ≡ false → Some (place t y) ≡ Some (place t x) → ⊥
  hand_other y run ne e = apart y run ne (sym (same e)) where
    same : {a b : ℕ} → Some a ≡ Some b → a ≡ b
    same e = cc e

  -- a step that was seen leaves it going on
  seen_goes : (u : SharedMoment) (who : Option ℕ) → Seen s u who → (who ≡ Some (place t x) → ⊥) → GoesOnAt (moment_of u) (place t x)
  seen_goes u who (unseen e) ne = let P : Moment → Type 0 = λ y. GoesOnAt y (place t x) in subst P e go
  seen_goes u who (seen step) ne = others_go_on (moment_of s) (moment_of u) who (place t x) o step ne go

  machine_goes : (r : Rules) (e : Step) → Allowed r m e → list_all (is_ready s) (makers e) ≡ true → IsLaterStep s e → has_finished (after_open_step m e) 0 ≡ false → is_step_of x e ≡ false → GoesOnAt (moment_of (after_shared s e)) (place t x)
  machine_goes r (step.forks y stamp) a all later root ne = seen_goes _ _ (machine_step s w h r (step.forks y stamp) a all later root) (hand_other y (free_runs m y a.0) ne)
  machine_goes r (step.begins y stamp) a all later root ne = seen_goes _ _ (machine_step s w h r (step.begins y stamp) a all later root) (hand_other y (free_runs m y a.0) ne)
  machine_goes r (step.accesses y c write stamp) a all later root ne =
      let z = and_parts (is_free m y && nat_lt c (length m.lists)) _ a.0 in
      seen_goes _ _ (machine_step s w h r (step.accesses y c write stamp) a all later root) (hand_other y (free_runs m y (and_parts (is_free m y) (nat_lt c (length m.lists)) z.0).0) ne)
  machine_goes r (step.refuses y c write met) a all later root ne = seen_goes _ _ (machine_step s w h r (step.refuses y c write met) a all later root) (hand_other y (free_runs m y (and_parts (is_free m y) (nat_lt c (length m.lists)) a.0).0) ne)
  machine_goes r (step.outputs y v stamp) a all later root ne = seen_goes _ _ (machine_step s w h r (step.outputs y v stamp) a all later root) (hand_other y (free_runs m y a.0) ne)
  machine_goes r (step.cancels y stamp) a all later root ne =
      let run = free_runs m y (and_parts (is_free m y) (in_block m y) a.0).0 in
      seen_goes _ _ (machine_step s w h r (step.cancels y stamp) a all later root) (hand_other y run ne)
  machine_goes r (step.commits y stamp) a all later root ne =
      let z = and_parts (is_free m y && in_block m y) _ a.0 in
      seen_goes _ _ (machine_step s w h r (step.commits y stamp) a all later root) (hand_other y (free_runs m y (and_parts (is_free m y) (in_block m y) z.0).0) ne)
  machine_goes r (step.undoes y c) a all later root ne = go
  machine_goes r (step.aborts y stamp) a all later root ne = seen_goes _ _ (machine_step s w h r (step.aborts y stamp) a all later root) (hand_other y (rolls_runs m y (and_parts (rolls_back m y) _ a.0).0).running ne)
  machine_goes r (step.finishes y dead) a all later root ne =
      let z = and_parts (is_running m y && not (in_block m y)) _ a in
      seen_goes _ _ (machine_step s w h r (step.finishes y dead) a all later root) (hand_other y (and_parts (is_running m y) (not (in_block m y)) z.0).0 ne)
  machine_goes r (step.joins f) a all later root ne = seen_goes _ _ (machine_step s w h r (step.joins f) a all later root) (λ e. cc e)
  machine_goes r (step.stops y) a all later root ne = go

  -- ## Splits and merges

  right_some : (n : ℕ) → is_right t n ≡ true → 0 < n
  right_some n side = elim (cases_eq n 0) [ inl e ↦ absurd (cc (sym (ap (is_right t) e) ∙ side)) | inr ne ↦ omega (arith, ne) ]

  -- where the strand's place is a right strand it is the strand
  at_fork : (f : ℕ) → is_fork t f ≡ true → parent_of t p ≡ f → is_right t p ≡ true → p ≡ x
  at_fork f fork up side =
      sym (strand_itself t w.sound.tree.rooted p (fork_child t w.sound.tree p (right_some p side) go.there (ap (is_fork t) up ∙ fork))) ∙ (stands m w.sound.tree w.nested x running).strand

  pub step_left : (asked : List Node → List ℕ → Option ℤ → List ℕ) (u : SharedMoment) (e : SharedStep (at_any_time asked) s u) → IsLeftAlone m u.machine x → has_finished u.machine 0 ≡ false → is_about (at_any_time asked) s u e x ≡ false → IsLeft s u x
  step_left asked _ (makes e a all later) alone root other = record {
    running = alone.running;
    place = alone.place;
    beside = machine_beside (at_any_time asked) e a all other;
    goes = machine_goes (at_any_time asked) e a all later root other;
  }
  step_left asked _ (splits f whole early unstarted) alone root other = record {
    running = running;
    place = refl;
    beside = (
        let z = and_parts (has_columns s f) (not (has s.cuts (fork_column t f))) whole in
        let fork = wide_fork s f z.0 in
        let low = wide_low s f z.0 in
        split_beside s.columns s.words t s.cuts s.joins (is_open_yet s) h p go f fork (omega (arith, low)) (odd_column t f) (names s w h f false (not-true (has s.cuts (fork_column t f)) z.1) z.0 unstarted.unjoined) early unstarted
        (λ side up.
        let own = at_fork f fork up side in
        cc (other, and_from (is_right t x) (nat_eq (parent_of t x) f) (sym (ap (is_right t) own) ∙ side) (eq-eqb (parent_of t x) f (sym (ap (parent_of t) own) ∙ up)))));
    goes = others_go_on (moment_of s) _ None p o (split_step s w h f whole early unstarted) (λ e. cc e) go;
  }
  step_left asked _ (merges f e) alone root other = record {
    running = running;
    place = refl;
    beside = (
        let d = due s w h f e in
        merge_beside s.columns s.words t s.cuts s.joins (is_open_yet s) h p go (fork_column t f) d.low (odd_column t f) d.apart (record { fork = f; is = wide_fork s f d.wide; at = refl; done = d.done }));
    goes = others_go_on (moment_of s) _ None p o (merge_step s w h f e) (λ e. cc e) go;
  }

-- the machine leaves it alone
pub alone_after : (asked : List Node → List ℕ → Option ℤ → List ℕ) (first : List ℤ) (s u : SharedMoment) (e : SharedStep (at_any_time asked) s u) (x : ℕ) → RunsTogether (at_any_time asked) first s → is_running s.machine x ≡ true → is_about (at_any_time asked) s u e x ≡ false → IsLeftAlone s.machine u.machine x
alone_after asked first s _ (makes e a all later) x run running other = others_leave_alone asked first s.machine (machine_reached (at_any_time asked) first s run) e a x running other
alone_after asked first s _ (splits f whole early unstarted) x run running other = record { running = running; place = refl; begun = refl; free = refl; rolls_back = refl }
alone_after asked first s _ (merges f e) x run running other = record { running = running; place = refl; begun = refl; free = refl; rolls_back = refl }

pub others_leave_ready : OthersLeaveReady
others_leave_ready asked first s u e x run root goes other =
    let r = at_any_time asked in
    let before = unfinished_at r s u e root in
    let z = and_parts (is_running s.machine x) (is_ready s x) goes in
    let w = well_at r first s run in
    let after : RunsTogether r first u = more s u run e in
    let left = step_left s w (tiers_stand asked first s run before) (tier_run r first s run before) x z.0 z.1 asked u e (alone_after asked first s u e x run z.0 other) root other in
    let P : ℕ → Type 0 = λ q. GoesOnAt (moment_of u) q in
    record {
      ready = and_from (is_running u.machine x) (is_ready u x) left.running (ready u (well_at r first u after) (tiers_stand asked first u after root) x left.running (subst P (sym left.place) left.goes));
      place = left.place;
      column = ap (column u.machine.tree (used u.columns)) left.place ∙ left.beside.column;
      gap = ap (gap_at u.columns u.machine.tree) left.place ∙ left.beside.gap;
      word = ap (λ q. slice_index u.words (gap_at u.columns u.machine.tree q)) left.place ∙ left.beside.word;
      later = λ number l. (let Q : ℕ → Type 0 = λ q. IsLater u.columns u.machine.tree q number in subst Q (sym left.place) (left.beside.later number l));
    }
