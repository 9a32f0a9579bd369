-- What a step of another leaves of the places of strands that wait, and of a strand that is owed a merge.
use Rattle.std.proofs.Common.{◌≡◌, ◌≢◌, ℕ, ◌<◌, ◌≤◌, List, [], ◌∷◌, length, refl, ap, sym, ◌∙◌, subst, arith, true, false, Option, inl, inr, nat_eq}
use Rattle.std.specs.Prelude.{◌&&◌, ℤ, slice_index}
use Rattle.std.specs.List.{list_all}
use Rattle.std.proofs.lemmas.Bool.{and_parts, and_from, cases_eq, cases_lt, eq-eqb, eqb-true, false_from_ne_true}
use Rattle.std.proofs.lemmas.List.{length-map}
use Rattle.cw_tree.specs.declared.node.Node.{Node}
use Rattle.cw_tree.specs.Nodes.{passes, is_block_kind, is_pending_state, parent_of, stamp_of, is_strand, is_fork, is_pending}
use Rattle.cw_tree.specs.Names.{is_right}
use Rattle.cw_tree.specs.Walks.{path, is_ancestor}
use Rattle.cw_tree.specs.Series.{strand_of, place}
use Rattle.cw_tree.proofs.Lists.{In}
use Rattle.cw_tree.proofs.Members.{in_filter, filter_in}
use Rattle.cw_tree.proofs.NodeKinds.{fork_some}
use Rattle.cw_tree.proofs.Walks.Ancestors.{ancestor_le, ancestor_trans}
use Rattle.cw_tree.proofs.Walks.Kin.{branch, fork_child, has_in}
use Rattle.cw_tree.proofs.Walks.Strands.{strand_itself}
use Rattle.cw_tree.proofs.Walks.There.{fork_there}
use Rattle.cw_trace.specs.Columns.{used, gap, merged, back_to, around_fork, begun_word, closed_word}
use Rattle.cw_trace.specs.Stands.{column, fork_column}
use Rattle.cw_trace.specs.Running.{IsUnstarted}
use Rattle.cw_trace.specs.Hands.{gap_at}
use Rattle.cw_trace.proofs.Keeps.Sides.{is_left}
use Rattle.cw_trace.proofs.Stands.Counting.{fork_column_one}
use Rattle.cw_open.specs.Machine.{has_finished, is_running, in_block, is_free, rolls_back}
use Rattle.cw_open.specs.Steps.{Step, after_open_step}
use Rattle.cw_open.specs.Steps as step
use Rattle.cw_open.specs.Open.{is_open}
use Rattle.cw_open.specs.Runs.{Rules, Allowed, at_any_time}
use Rattle.cw_open.specs.LeftFirst.{makers}
use Rattle.cw_open.specs.Hands.{is_step_of}
use Rattle.cw_open.proofs.Hands.Around.{open_there, open_stay, around_stays}
use Rattle.cw_open.proofs.Hands.Timed.{runs_go_on}
use Rattle.cw_open.proofs.Open.Trees.{IsWell}
use Rattle.cw_open.proofs.Open.Standing.{stands}
use Rattle.cw_open.proofs.Open.TreeSteps.{free_runs, rolls_runs}
use Rattle.cw_hands.specs.Shared.{SharedMoment, has_columns, is_split, is_owed, is_ready, goes_on, place_at, words_after, after_merge, SharedStep, makes, splits, merges, is_about, RunsTogether, more}
use Rattle.cw_hands.specs.Beside.{TogetherGoOn, is_stolen_by, OpenPlacesStay, WaitingStay, IsLeftThere, OwedStay}
use Rattle.cw_hands.proofs.Shared.Order.{wide_fork}
use Rattle.cw_hands.proofs.Laws.Columns.{set_aside, step_column, step_gap, step_word}
use Rattle.cw_hands.proofs.Laws.Kept.{owed_is}
use Rattle.cw_hands.proofs.Laws.Merged.{owed_there, merged_go_on}
use Rattle.cw_hands.proofs.Laws.Others.{alone_after, others_leave_ready}
use Rattle.cw_hands.proofs.Laws.Runs.{machine_reached, well_at, tiers_stand, unfinished_at, ready_differ}

-- ## Machine, tier and times

pub together_go_on : (r : Rules) → TogetherGoOn r
together_go_on r first s _ times (makes e a ready later) run to timely = (more s _ run (makes e a ready later), runs_go_on r first s.machine times e to a timely)
together_go_on r first s _ times (splits f whole early unstarted) run to timely = (more s _ run (splits f whole early unstarted), to)
together_go_on r first s _ times (merges f owed) run to timely = (more s _ run (merges f owed), to)

module _ (s : SharedMoment) (w : IsWell s.machine) where
  abbrev t : List Node
  t = s.machine.tree

  -- the right strand of a fork whose right strand has not started is that one
  one_right : (f : ℕ) (u : IsUnstarted t s.joins (fork_column t f)) → is_fork t f ≡ true → (q : ℕ) → 0 < q → q < length t → (is_right t q && nat_eq (parent_of t q) f) ≡ true → u.right ≡ q
  one_right f u fork q some low e =
      let z = and_parts (is_right t q) (nat_eq (parent_of t q) f) e in
      let own : u.fork ≡ f = fork_column_one t u.fork f u.is fork u.at in
      let up : parent_of t q ≡ f = eqb-true (parent_of t q) f z.1 in
      let child : parent_of t u.right ≡ f = u.child ∙ own in
      elim (cases_eq u.right q) [
        | inl same ↦ same
        | inr ne ↦ elim (cases_lt u.right q) [
          | inl less ↦ absurd (is_left t w.sound.tree u.right q f fork less low child up u.side)
          | inr le ↦ absurd (is_left t w.sound.tree q u.right f fork (omega (arith, ne)) u.low up child z.0)
        ]
      ]

  -- a node in which there is another is not stolen
  not_stolen : (asked : List Node → List ℕ → Option ℤ → List ℕ) (u : SharedMoment) (e : SharedStep (at_any_time asked) s u) (q n : ℕ) → 0 < n → n < length s.machine.tree → parent_of s.machine.tree n ≡ q
      → is_stolen_by (at_any_time asked) s u e q ≡ false
  not_stolen asked _ (makes e a ready later) q n some low up = refl
  not_stolen asked _ (merges f owed) q n some low up = refl
  not_stolen asked _ (splits f whole early unstarted) q n some low up =
      false_from_ne_true (is_right t q && nat_eq (parent_of t q) f) (λ z.
      let fork = wide_fork s f (and_parts (has_columns s f) _ whole).0 in
      let less : parent_of t n < n = w.sound.tree.rooted n some low in
      let high : q < length t = omega (arith, up) in
      let right = and_parts (is_right t q) (nat_eq (parent_of t q) f) z in
      let pos : 0 < q = elim (cases_eq q 0) [ inl c ↦ absurd (cc (right.0, ap (is_right t) c)) | inr c ↦ omega (arith, c) ] in
      absurd (unstarted.nothing n some low (up ∙ sym (one_right f unstarted fork q pos high z))))

  -- nor is one whose own strand the step is not about
  unstolen : (asked : List Node → List ℕ → Option ℤ → List ℕ) (u : SharedMoment) (e : SharedStep (at_any_time asked) s u) (q : ℕ) → q < length s.machine.tree → is_about (at_any_time asked) s u e (strand_of s.machine.tree q) ≡ false
      → is_stolen_by (at_any_time asked) s u e q ≡ false
  unstolen asked _ (makes e a ready later) q low other = refl
  unstolen asked _ (merges f owed) q low other = refl
  unstolen asked _ (splits f whole early unstarted) q low other =
      false_from_ne_true (is_right t q && nat_eq (parent_of t q) f) (λ z.
      let fork = wide_fork s f (and_parts (has_columns s f) _ whole).0 in
      let y = and_parts (is_right t q) (nat_eq (parent_of t q) f) z in
      let some : 0 < q = elim (cases_eq q 0) [ inl c ↦ absurd (cc (y.0, ap (is_right t) c)) | inr c ↦ omega (arith, c) ] in
      let strand : is_strand t q ≡ true = fork_child t w.sound.tree q some low (ap (is_fork t) (eqb-true (parent_of t q) f y.1) ∙ fork) in
      let itself : q ≡ strand_of t q = sym (strand_itself t w.sound.tree.rooted q strand) in
      cc (other, ap (λ n. is_right t n && nat_eq (parent_of t n) f) itself, z))

  -- ## The places of strands that wait

  module _ (x : ℕ) (running : is_running s.machine x ≡ true) where
    abbrev p : ℕ
    p = place s.machine.tree x

    low : p < length t
    low = (stands s.machine w.sound.tree w.nested x running).there

    waiting_kept : (asked : List Node → List ℕ → Option ℤ → List ℕ) (u : SharedMoment) (e : SharedStep (at_any_time asked) s u) → is_about (at_any_time asked) s u e x ≡ false → (q : ℕ) → is_ancestor s.machine.tree q (place s.machine.tree x) ≡ true
        → is_stolen_by (at_any_time asked) s u e q ≡ false
    waiting_kept asked u e other q up = elim (cases_eq p q) [
      | inr ne ↦ (
          let c = branch t w.sound.tree.rooted q p low ne up in
          let le : c.child ≤ p = ancestor_le t w.sound.tree.rooted c.child p low c.over in
          not_stolen asked u e q c.child c.some (let l = low in omega arith) c.parent)
      | inl same ↦ (let P : ℕ → Type 0 = λ n. is_stolen_by (at_any_time asked) s u e n ≡ false in subst P same (own asked u e other))
    ] where
      own : (asked : List Node → List ℕ → Option ℤ → List ℕ) (u : SharedMoment) (e : SharedStep (at_any_time asked) s u) → is_about (at_any_time asked) s u e x ≡ false → is_stolen_by (at_any_time asked) s u e p ≡ false
      own asked u e other =
          let P : ℕ → Type 0 = λ n. is_about (at_any_time asked) s u e n ≡ false in
          unstolen asked u e p low (subst P (sym (stands s.machine w.sound.tree w.nested x running).strand) other)

-- a block around the place of a strand stays pending as others step
still_pending : (asked : List Node → List ℕ → Option ℤ → List ℕ) (first : List ℤ) (s u : SharedMoment) (e : SharedStep (at_any_time asked) s u) (x : ℕ) → RunsTogether (at_any_time asked) first s → is_running s.machine x ≡ true
    → is_about (at_any_time asked) s u e x ≡ false → (b : ℕ) → is_pending s.machine.tree b ≡ true → is_ancestor s.machine.tree b (place_at s x) ≡ true → is_pending u.machine.tree b ≡ true
still_pending asked first s _ (makes e a ready later) x run running other b pending over =
    ap (passes (λ y. is_block_kind y.kind && is_pending_state y.state)) (around_stays asked first s.machine (machine_reached (at_any_time asked) first s run) e a x running other b over).node ∙ pending
still_pending asked first s _ (splits f whole early unstarted) x run running other b pending over = pending
still_pending asked first s _ (merges f owed) x run running other b pending over = pending

-- a block around an open node stays pending if the step is not about the node's own strand
pending_around : (asked : List Node → List ℕ → Option ℤ → List ℕ) (first : List ℤ) (s u : SharedMoment) (e : SharedStep (at_any_time asked) s u) (q : ℕ) → RunsTogether (at_any_time asked) first s → is_open s.machine q ≡ true
    → is_about (at_any_time asked) s u e (strand_of s.machine.tree q) ≡ false → (b : ℕ) → is_pending s.machine.tree b ≡ true → is_ancestor s.machine.tree b q ≡ true → is_pending u.machine.tree b ≡ true
pending_around asked first s _ (makes e a ready later) q run opened other b pending over =
    let t = s.machine.tree in
    let v = (after_open_step s.machine e).tree in
    let kept = open_stay asked first s.machine (machine_reached (at_any_time asked) first s run) e a q opened other in
    let In_ : List ℕ → Type 0 = λ ns. In b ns in
    (in_filter (is_pending v) b (path v q) (subst In_ (sym kept.blocks) (filter_in (is_pending t) b (path t q) (has_in (path t q) b over) pending))).1
pending_around asked first s _ (splits f whole early unstarted) q run opened other b pending over = pending
pending_around asked first s _ (merges f owed) q run opened other b pending over = pending

pub open_places_stay : OpenPlacesStay
open_places_stay asked first s u e run root q opened other =
    let r = at_any_time asked in
    let t = s.machine.tree in
    let w = well_at r first s run in
    let h = tiers_stand asked first s run (unfinished_at r s u e root) in
    let there = open_there s.machine q opened in
    let gap_same = step_gap s w h asked u e q there (unstolen s w asked u e q there other) in
    record {
      column = step_column s w h asked u e q there;
      gap = gap_same;
      word = λ b around shows. (
          let z = and_parts (is_pending t b) (is_ancestor t b q) around in
          ap (slice_index u.words) gap_same ∙ step_word s w h (gap_at s.columns t q) b z.0 shows asked u e (pending_around asked first s u e q run opened other b z.0 z.1));
    }

pub waiting_stay : WaitingStay
waiting_stay asked first s u e run root x q running other up =
    let r = at_any_time asked in
    let t = s.machine.tree in
    let w = well_at r first s run in
    let h = tiers_stand asked first s run (unfinished_at r s u e root) in
    let low = (stands s.machine w.sound.tree w.nested x running).there in
    let le : q ≤ place t x = ancestor_le t w.sound.tree.rooted q (place t x) low up in
    let there : q < length t = omega arith in
    let gap_same = step_gap s w h asked u e q there (waiting_kept s w x running asked u e other q up) in
    record {
      column = step_column s w h asked u e q there;
      gap = gap_same;
      word = λ b around shows. (
          let z = and_parts (is_pending t b) (is_ancestor t b q) around in
          let over = ancestor_trans t w.sound.tree.rooted b q (place t x) low z.1 up in
          ap (slice_index u.words) gap_same ∙ step_word s w h (gap_at s.columns t q) b z.0 shows asked u e (still_pending asked first s u e x run running other b z.0 over));
    }

-- ## A strand that is owed a merge

module _ (asked : List Node → List ℕ → Option ℤ → List ℕ) (first : List ℤ) (s : SharedMoment) (run : RunsTogether (at_any_time asked) first s) (root : has_finished s.machine 0 ≡ false)
    (f : ℕ) (owed : (is_split s f && is_owed s f) ≡ true) (running : is_running s.machine (strand_of s.machine.tree f) ≡ true) where
  abbrev x : ℕ
  x = strand_of s.machine.tree f

  abbrev tree : List Node
  tree = s.machine.tree

  -- one that goes on uses another gap
  gaps_apart : (y : ℕ) → goes_on s y ≡ true → nat_eq y x ≡ false → gap_at s.columns tree (place tree x) ≢ gap_at s.columns tree (place tree y)
  gaps_apart y goes other e =
      let r = at_any_time asked in
      let v = after_merge s f in
      let col = fork_column tree f in
      let step : SharedStep r s v = merges f owed in
      let after : RunsTogether r first v = more s v run step in
      let same : used (merged col s.columns) ≡ used s.columns = length-map s.columns.owners (back_to (around_fork s.columns col) col) in
      let at : (n : ℕ) → gap_at v.columns tree n ≡ gap_at s.columns tree n = λ n. ap (λ size. gap s.columns (column tree size n)) same in
      let mine = merged_go_on asked first s run root f owed running in
      let theirs = (others_leave_ready asked first s v step y run root goes refl).ready in
      (ready_differ asked first v after root x y mine theirs (λ q. cc (other, eq-eqb y x (sym q)))).1 (at (place tree x) ∙ e ∙ sym (at (place tree y)))

  makes_on : (y : ℕ) → is_running s.machine y ≡ true → list_all (is_ready s) (y ∷ []) ≡ true → goes_on s y ≡ true
  makes_on y run_y ready = and_from (is_running s.machine y) (is_ready s y) run_y (and_parts (is_ready s y) true ready).0

  begun_beside : (y stamp : ℕ) → goes_on s y ≡ true → nat_eq y x ≡ false → slice_index (begun_word s.words (gap_at s.columns tree (place tree y)) stamp) (gap_at s.columns tree (place tree x)) ≡ slice_index s.words (gap_at s.columns tree (place tree x))
  begun_beside y stamp goes other = set_aside (nat_eq (slice_index s.words (gap_at s.columns tree (place tree y))) 0) s.words (gap_at s.columns tree (place tree y)) (gap_at s.columns tree (place tree x)) stamp (gaps_apart y goes other)

  closed_beside : (y stamp : ℕ) → goes_on s y ≡ true → nat_eq y x ≡ false → slice_index (closed_word s.words (gap_at s.columns tree (place tree y)) stamp) (gap_at s.columns tree (place tree x)) ≡ slice_index s.words (gap_at s.columns tree (place tree x))
  closed_beside y stamp goes other = set_aside (nat_eq (slice_index s.words (gap_at s.columns tree (place tree y))) stamp) s.words (gap_at s.columns tree (place tree y)) (gap_at s.columns tree (place tree x)) 0 (gaps_apart y goes other)

  machine_beside : (e : Step) → Allowed (at_any_time asked) s.machine e → list_all (is_ready s) (makers e) ≡ true → is_step_of x e ≡ false → slice_index (words_after s e) (gap_at s.columns tree (place tree x)) ≡ slice_index s.words (gap_at s.columns tree (place tree x))
  machine_beside (step.forks y stamp) a ready other = refl
  machine_beside (step.begins y stamp) a ready other = begun_beside y stamp (makes_on y (free_runs s.machine y a.0) ready) other
  machine_beside (step.accesses y c write stamp) a ready other = refl
  machine_beside (step.refuses y c write met) a ready other = refl
  machine_beside (step.outputs y v stamp) a ready other = refl
  machine_beside (step.cancels y stamp) a ready other = refl
  machine_beside (step.commits y stamp) a ready other =
      let z = and_parts (is_free s.machine y && in_block s.machine y) _ a.0 in
      let run_y = free_runs s.machine y (and_parts (is_free s.machine y) (in_block s.machine y) z.0).0 in
      closed_beside y (stamp_of tree (place tree y)) (makes_on y run_y ready) other
  machine_beside (step.undoes y c) a ready other = refl
  machine_beside (step.aborts y stamp) a ready other = closed_beside y (stamp_of tree (place tree y)) (makes_on y (rolls_runs s.machine y (and_parts (rolls_back s.machine y) _ a.0).0).running ready) other
  machine_beside (step.finishes y dead) a ready other = refl
  machine_beside (step.joins g) a ready other = refl
  machine_beside (step.stops y) a ready other = refl

  word_beside : (u : SharedMoment) (e : SharedStep (at_any_time asked) s u) → is_about (at_any_time asked) s u e x ≡ false → slice_index u.words (gap_at s.columns tree (place tree x)) ≡ slice_index s.words (gap_at s.columns tree (place tree x))
  word_beside _ (makes e a ready later) other = machine_beside e a ready other
  word_beside _ (splits g whole early unstarted) other = refl
  word_beside _ (merges g due) other = refl

  pub left_there : (u : SharedMoment) (e : SharedStep (at_any_time asked) s u) → is_about (at_any_time asked) s u e x ≡ false → IsLeftThere s u x
  left_there u e other =
      let w = well_at (at_any_time asked) first s run in
      let h = tiers_stand asked first s run root in
      let alone = alone_after asked first s u e x run running other in
      let low = (stands s.machine w.sound.tree w.nested x running).there in
      let p = place tree x in
      let is = (and_parts (is_split s f) (is_owed s f) owed).1 in
      let fork = wide_fork s f (owed_is s f is).wide in
      let up : parent_of tree f ≡ p = owed_there s w h x running f is refl in
      let gap_same = step_gap s w h asked u e p low (not_stolen s w asked u e p f (fork_some tree w.sound.tree.root f fork) (fork_there tree f fork) up) in
      record {
        running = alone.running;
        place = alone.place;
        column = ap (column u.machine.tree (used u.columns)) alone.place ∙ step_column s w h asked u e p low;
        gap = ap (gap_at u.columns u.machine.tree) alone.place ∙ gap_same;
        word = ap (λ q. slice_index u.words (gap_at u.columns u.machine.tree q)) alone.place ∙ ap (slice_index u.words) gap_same ∙ word_beside u e other;
      }

pub owed_stay : OwedStay
owed_stay asked first s u e run root f owed running other = left_there asked first s run (unfinished_at (at_any_time asked) s u e root) f owed running u e other
