-- What steps leave of columns, gaps and gap words of nodes.
use Rattle.std.proofs.Common.{◌≡◌, ◌≢◌, ℕ, ◌+◌, ◌<◌, ◌≤◌, List, [], ◌∷◌, ◌++◌, length, refl, ap, sym, ◌∙◌, arith, Bool, true, false, cond, Option, inl, inr, nat_eq, length-append}
use Rattle.std.specs.Prelude.{◌&&◌, ℤ, slice_index, slice_set}
use Rattle.std.proofs.lemmas.Bool.{and_parts, and_from, cases_eq, eq-eqb, ne_eqb, leb-true}
use Rattle.std.proofs.lemmas.List.{get_or-set_other, length-map}
use Rattle.std.proofs.Math.ListN.{get_or-append}
use Rattle.cw_tree.specs.declared.node.Node.{Node}
use Rattle.cw_tree.specs.declared.node.BlockState.{BlockState}
use Rattle.cw_tree.specs.declared.node.BlockState.TheVariants.{Committed, Aborted}
use Rattle.cw_tree.specs.Nodes.{is_pending_state, parent_of, stamp_of, is_fork, is_pending, closed}
use Rattle.cw_tree.specs.Names.{is_right}
use Rattle.cw_tree.specs.Series.{place}
use Rattle.cw_tree.specs.NextNodes.{fork_nodes}
use Rattle.cw_tree.proofs.NodeKinds.{pending_block, block_stamped}
use Rattle.cw_tree.proofs.Walks.There.{fork_there, pending_there}
use Rattle.cw_tree.proofs.NextNodes.Pending.{pending_closed}
use Rattle.cw_trace.specs.Columns.{ColumnTable, used, owner, gap, forked, split_at, back_to, around_fork, begun_word, closed_word}
use Rattle.cw_trace.specs.Stands.{column, fork_column}
use Rattle.cw_trace.specs.Running.{IsUnstarted}
use Rattle.cw_trace.specs.Hands.{StandsInOrder, gap_at}
use Rattle.cw_trace.proofs.Marks.Edits.{length_parts}
use Rattle.cw_trace.proofs.Segments.Lines.{used_some}
use Rattle.cw_trace.proofs.Stands.Counting.{fork_column_lt, fork_column_one}
use Rattle.cw_trace.proofs.Keeps.Meaning.{column_low}
use Rattle.cw_trace.proofs.Keeps.Grow.{column_append}
use Rattle.cw_trace.proofs.Keeps.Forking.{column_more}
use Rattle.cw_trace.proofs.Keeps.Ending.{column_same}
use Rattle.cw_trace.proofs.Keeps.Sides.{child_to, in_right}
use Rattle.cw_trace.proofs.Keeps.TierLaws.{closed_shape}
use Rattle.cw_open.specs.Machine.{in_block, is_free, rolls_back}
use Rattle.cw_open.specs.Steps.{Step, after_open_step}
use Rattle.cw_open.specs.Steps as step
use Rattle.cw_open.specs.Runs.{Rules, Allowed, at_any_time}
use Rattle.cw_open.proofs.Open.Trees.{IsWell}
use Rattle.cw_open.proofs.Open.Standing.{stands}
use Rattle.cw_open.proofs.Open.TreeSteps.{free_runs, rolls_runs}
use Rattle.cw_hands.specs.Shared.{SharedMoment, is_open_yet, has_room, columns_after, words_after, SharedStep, makes, splits, merges}
use Rattle.cw_hands.specs.Beside.{ColumnsStay, GapsStay, ShownWordsStay, is_stolen_by}
use Rattle.cw_hands.proofs.Laws.Runs.{well_at, tiers_stand, unfinished_at}

-- a word that is set is no other word
pub set_aside : (b : Bool) (words : List ℕ) (g h w : ℕ) → h ≢ g → slice_index (cond b (slice_set words g w) words) h ≡ slice_index words h
set_aside true words g h w ne = get_or-set_other words g h w 0 ne
set_aside false words g h w ne = refl

module _ (s : SharedMoment) (w : IsWell s.machine) (h : StandsInOrder s.columns s.words s.machine.tree s.cuts s.joins (is_open_yet s)) where
  abbrev t : List Node
  t = s.machine.tree

  abbrev c : ColumnTable
  c = s.columns

  abbrev col : ℕ → ℕ
  col = column s.machine.tree (used s.columns)

  low_column : (n : ℕ) → col n < used c
  low_column n = column_low t (used c) n (used_some c s.cuts s.joins (is_pending t) (column t (used c)) h.keeps.segments)

  -- ## Columns

  all : used c + 2 ≤ c.room → (f : ℕ) → is_fork t f ≡ true → (fork_column t f + 1 < used c + 2) × (fork_column t f + 1 < used c)
  all roomy f e =
      let z : fork_column t f + 2 ≤ fork_column t (length t) = fork_column_lt t f (length t) (fork_there t f e) e in
      (omega (arith, h.keeps.all_forks roomy), omega (arith, h.keeps.all_forks roomy))

  forked_column : (q stamp word parent : ℕ) (z : Bool) → has_room s ≡ z → (n : ℕ) → n < length t → column (t ++ fork_nodes (length t) q stamp) (used (cond z (forked word parent c) c)) n ≡ col n
  forked_column q stamp word parent true e n l =
      let roomy = leb-true (used c + 2) c.room e in
      let more : used (forked word parent c) ≡ used c + 2 = length-append c.owners (owner c parent ∷ owner c parent ∷ []) in
      ap (λ size. column (t ++ fork_nodes (length t) q stamp) size n) more
      ∙ column_append t (fork_nodes (length t) q stamp) h.tree.rooted (used c + 2) n l
      ∙ column_more t h.tree (used c + 2) (used c) (all roomy) n l
  forked_column q stamp word parent false e n l = column_append t (fork_nodes (length t) q stamp) h.tree.rooted (used c) n l

  grown_column : (xs : List Node) (n : ℕ) → n < length t → column (t ++ xs) (used c) n ≡ col n
  grown_column xs n l = column_append t xs h.tree.rooted (used c) n l

  closed_column : (q end : ℕ) (state : BlockState) (n : ℕ) → n < length t → column (closed t q state end) (used c) n ≡ col n
  closed_column q end state n l = column_same t (closed t q state end) h.tree.rooted (closed_shape t q state end) (used c) n l

  pub machine_column : (e : Step) (n : ℕ) → n < length s.machine.tree → column (after_open_step s.machine e).tree (used (columns_after s e)) n ≡ column s.machine.tree (used s.columns) n
  machine_column (step.forks x stamp) n l = forked_column (place t x) stamp (slice_index s.words (gap_at s.columns t (place t x))) (col (place t x)) (has_room s) refl n l
  machine_column (step.begins x stamp) n l = grown_column _ n l
  machine_column (step.accesses x d write stamp) n l = grown_column _ n l
  machine_column (step.refuses x d write met) n l = grown_column _ n l
  machine_column (step.outputs x v stamp) n l = grown_column _ n l
  machine_column (step.cancels x stamp) n l = grown_column _ n l
  machine_column (step.commits x stamp) n l = closed_column (place t x) stamp Committed n l
  machine_column (step.undoes x d) n l = refl
  machine_column (step.aborts x stamp) n l = closed_column (place t x) stamp Aborted n l
  machine_column (step.finishes x dead) n l = refl
  machine_column (step.joins f) n l = refl
  machine_column (step.stops x) n l = refl

  pub step_column : (asked : List Node → List ℕ → Option ℤ → List ℕ) (u : SharedMoment) (e : SharedStep (at_any_time asked) s u) (n : ℕ) → n < length s.machine.tree
      → column u.machine.tree (used u.columns) n ≡ column s.machine.tree (used s.columns) n
  step_column asked _ (makes e a ready later) n l = machine_column e n l
  step_column asked _ (splits f whole early unstarted) n l = ap (λ size. column t size n) (length_parts (owner c (fork_column t f)) (fork_column t f) 0 c.owners)
  step_column asked _ (merges f owed) n l = ap (λ size. column t size n) (length-map c.owners (back_to (around_fork c (fork_column t f)) (fork_column t f)))

  -- ## Gaps

  -- no other node than the right strand that is stolen has its column
  other_column : (f : ℕ) → IsUnstarted t s.joins (fork_column t f) → is_fork t f ≡ true → (n : ℕ) → n < length t → (is_right t n && nat_eq (parent_of t n) f) ≡ false → col n ≢ fork_column t f + 1
  other_column f u fork n l not_it e =
      let own : u.fork ≡ f = fork_column_one t u.fork f u.is fork u.at in
      let under = in_right t h.tree (used c) u.fork u.right u.is u.some u.low u.child u.side n l (e ∙ ap (λ x. x + 1) (sym u.at)) in
      elim (cases_eq u.right n) [
        | inl q ↦ cc (not_it, and_from (is_right t n) (nat_eq (parent_of t n) f) (ap (is_right t) (sym q) ∙ u.side) (eq-eqb (parent_of t n) f (ap (parent_of t) (sym q) ∙ u.child ∙ own)))
        | inr ne ↦ (let z = child_to t h.tree u.right n l under ne in u.nothing z.0 z.1 z.2 z.3)
      ]

  forked_gap : (word parent i : ℕ) → i < used c → gap (forked word parent c) i ≡ gap c i
  forked_gap word parent i l = get_or-append c.gaps _ 0 i (omega (arith, l, h.keeps.segments.lengths.0))

  room_gap : (word parent : ℕ) (z : Bool) (i : ℕ) → i < used c → gap (cond z (forked word parent c) c) i ≡ gap c i
  room_gap word parent true i l = forked_gap word parent i l
  room_gap word parent false i l = refl

  machine_gap : (e : Step) (i : ℕ) → i < used s.columns → gap (columns_after s e) i ≡ gap s.columns i
  machine_gap (step.forks x stamp) i l = room_gap (slice_index s.words (gap_at s.columns t (place t x))) (col (place t x)) (has_room s) i l
  machine_gap (step.begins x stamp) i l = refl
  machine_gap (step.accesses x d write stamp) i l = refl
  machine_gap (step.refuses x d write met) i l = refl
  machine_gap (step.outputs x v stamp) i l = refl
  machine_gap (step.cancels x stamp) i l = refl
  machine_gap (step.commits x stamp) i l = refl
  machine_gap (step.undoes x d) i l = refl
  machine_gap (step.aborts x stamp) i l = refl
  machine_gap (step.finishes x dead) i l = refl
  machine_gap (step.joins f) i l = refl
  machine_gap (step.stops x) i l = refl

  pub step_gap : (asked : List Node → List ℕ → Option ℤ → List ℕ) (u : SharedMoment) (e : SharedStep (at_any_time asked) s u) (n : ℕ) → n < length s.machine.tree → is_stolen_by (at_any_time asked) s u e n ≡ false
      → gap_at u.columns u.machine.tree n ≡ gap_at s.columns s.machine.tree n
  step_gap asked _ (makes e a ready later) n l o = ap (gap (columns_after s e)) (machine_column e n l) ∙ machine_gap e (col n) (low_column n)
  step_gap asked _ (splits f whole early unstarted) n l o =
      let fork = Rattle.cw_hands.proofs.Shared.Order.wide_fork s f (and_parts _ _ whole).0 in
      ap (gap (split_at (fork_column t f) c)) (ap (λ size. column t size n) (length_parts (owner c (fork_column t f)) (fork_column t f) 0 c.owners))
      ∙ get_or-set_other c.gaps (fork_column t f + 1) (col n) (fork_column t f + 1) 0 (other_column f unstarted fork n l o)
  step_gap asked _ (merges f owed) n l o = ap (gap c) (ap (λ size. column t size n) (length-map c.owners (back_to (around_fork c (fork_column t f)) (fork_column t f))))

  -- ## Words

  module _ (g b : ℕ) (pending : is_pending s.machine.tree b ≡ true) (shows : slice_index s.words g ≡ stamp_of s.machine.tree b) where
    some : 0 < stamp_of t b
    some = block_stamped t w.sound.stamps b (pending_block t b pending)

    begun_stays : (k stamp : ℕ) → slice_index (begun_word s.words k stamp) g ≡ slice_index s.words g
    begun_stays k stamp = elim (cases_eq g k) [
      | inr ne ↦ set_aside (nat_eq (slice_index s.words k) 0) s.words k g stamp ne
      | inl e ↦ ap (λ (q : Bool). slice_index (cond q (slice_set s.words k stamp) s.words) g) (ne_eqb (slice_index s.words k) 0 (λ z. omega (arith, some, ap (slice_index s.words) e, shows, z)))
    ]

    closed_stays : (k q : ℕ) → (q ≡ b → ⊥) → q < length t → slice_index (closed_word s.words k (stamp_of t q)) g ≡ slice_index s.words g
    closed_stays k q other low = elim (cases_eq g k) [
      | inr ne ↦ set_aside (nat_eq (slice_index s.words k) (stamp_of t q)) s.words k g 0 ne
      | inl e ↦ ap (λ (z : Bool). slice_index (cond z (slice_set s.words k 0) s.words) g)
          (ne_eqb (slice_index s.words k) (stamp_of t q) (λ z. other (sym (w.sound.stamps.distinct b q (pending_there t b pending) low some (sym shows ∙ ap (slice_index s.words) e ∙ z)))))
    ]

    shut_stays : (r : Rules) (x stamp : ℕ) (state : BlockState) → is_pending_state state ≡ false → Rattle.cw_open.specs.Machine.is_running s.machine x ≡ true → is_pending (closed t (place t x) state stamp) b ≡ true
        → slice_index (closed_word s.words (gap_at c t (place t x)) (stamp_of t (place t x))) g ≡ slice_index s.words g
    shut_stays r x stamp state done run still =
        closed_stays (gap_at c t (place t x)) (place t x) (λ q. (pending_closed t (place t x) state stamp done b still).0 (sym q)) (stands s.machine w.sound.tree w.nested x run).there

    machine_word : (r : Rules) (e : Step) → Allowed r s.machine e → is_pending (after_open_step s.machine e).tree b ≡ true → slice_index (words_after s e) g ≡ slice_index s.words g
    machine_word r (step.forks x stamp) a still = refl
    machine_word r (step.begins x stamp) a still = begun_stays (gap_at c t (place t x)) stamp
    machine_word r (step.accesses x d write stamp) a still = refl
    machine_word r (step.refuses x d write met) a still = refl
    machine_word r (step.outputs x v stamp) a still = refl
    machine_word r (step.cancels x stamp) a still = refl
    machine_word r (step.commits x stamp) a still =
        let z = and_parts (is_free s.machine x && in_block s.machine x) _ a.0 in
        let run = free_runs s.machine x (and_parts (is_free s.machine x) (in_block s.machine x) z.0).0 in
        shut_stays r x stamp Committed refl run still
    machine_word r (step.undoes x d) a still = refl
    machine_word r (step.aborts x stamp) a still = shut_stays r x stamp Aborted refl (rolls_runs s.machine x (and_parts (rolls_back s.machine x) _ a.0).0).running still
    machine_word r (step.finishes x dead) a still = refl
    machine_word r (step.joins f) a still = refl
    machine_word r (step.stops x) a still = refl

    pub step_word : (asked : List Node → List ℕ → Option ℤ → List ℕ) (u : SharedMoment) → SharedStep (at_any_time asked) s u → is_pending u.machine.tree b ≡ true → slice_index u.words g ≡ slice_index s.words g
    step_word asked _ (makes e a ready later) still = machine_word (at_any_time asked) e a still
    step_word asked _ (splits f whole early unstarted) still = refl
    step_word asked _ (merges f owed) still = refl

pub columns_stay : ColumnsStay
columns_stay asked first s u e run root n l =
    let before = unfinished_at (at_any_time asked) s u e root in
    step_column s (well_at (at_any_time asked) first s run) (tiers_stand asked first s run before) asked u e n l

pub gaps_stay : GapsStay
gaps_stay asked first s u e run root n l o =
    let before = unfinished_at (at_any_time asked) s u e root in
    step_gap s (well_at (at_any_time asked) first s run) (tiers_stand asked first s run before) asked u e n l o

pub shown_words_stay : ShownWordsStay
shown_words_stay asked first s u e run root g b pending still shows =
    let before = unfinished_at (at_any_time asked) s u e root in
    step_word s (well_at (at_any_time asked) first s run) (tiers_stand asked first s run before) g b pending shows asked u e still
