-- What a fork gives its strands.
use Rattle.std.proofs.Common.{◌≡◌, ℕ, suc, ◌+◌, ◌<◌, ◌≤◌, List, [], ◌∷◌, ◌++◌, length, refl, ap, sym, ◌∙◌, subst, arith, Bool, true, false, nat_eq, nat_lt, length-append}
use Rattle.std.specs.Prelude.{slice_index, if◌then◌else◌}
use Rattle.std.proofs.lemmas.Bool.{lt-ltb, leb-true, eqb-true, false_from_ne_true}
use Rattle.cw_tree.specs.declared.node.Node.{Node}
use Rattle.cw_tree.specs.Nodes.{passes, number_in, is_strand_kind, is_fork_kind, parent_of, is_strand, is_fork}
use Rattle.cw_tree.specs.Names.{is_right}
use Rattle.cw_tree.specs.Series.{place}
use Rattle.cw_tree.specs.Shape.{IsTree}
use Rattle.cw_tree.specs.NextNodes.{fork_nodes}
use Rattle.cw_trace.specs.Columns.{ColumnTable, used, owner, gap, forked}
use Rattle.cw_trace.specs.Stands.{column, fork_column}
use Rattle.cw_trace.specs.Hands.{StandsInOrder, gap_at}
use Rattle.cw_trace.proofs.Keeps.Forking.{get_right}
use Rattle.cw_trace.proofs.Keeps.Grow.{fork_column_append}
use Rattle.cw_trace.proofs.Keeps.Owners.{column_strand}
use Rattle.cw_trace.proofs.Keeps.Sides.{right_of, is_left}
use Rattle.cw_open.specs.Steps.{forks}
use Rattle.cw_open.specs.Runs.{at_any_time}
use Rattle.cw_open.proofs.Runs.States.{states, state_after}
use Rattle.cw_hands.specs.Shared.{is_open_yet}
use Rattle.cw_hands.specs.NewColumns.{new_gap, HasNewColumns, ForksGiveColumns}
use Rattle.cw_hands.proofs.Laws.Runs.{machine_reached, tiers_stand}

number_right : (xs ys : List ℕ) (j : ℕ) → slice_index (xs ++ ys) (length xs + j) ≡ slice_index ys j
number_right [] ys j = ap (slice_index ys) (let e : 0 + j ≡ j = omega arith in e)
number_right (x ∷ xs) ys j = ap (slice_index (x ∷ xs ++ ys)) (let e : suc (length xs) + j ≡ suc (length xs + j) = omega arith in e) ∙ number_right xs ys j

module _ (c : ColumnTable) (words : List ℕ) (t : List Node) (cuts joins : List ℕ) (is_open : ℕ → Bool) (h : StandsInOrder c words t cuts joins is_open) (p stamp : ℕ) (roomy : used c + 2 ≤ c.room)
    (later : IsTree (t ++ fork_nodes (length t) p stamp)) where
  abbrev u : List Node
  u = t ++ fork_nodes (length t) p stamp

  abbrev d : ColumnTable
  d = forked (slice_index words (gap_at c t p)) (column t (used c) p) c

  many_now : used d ≡ used c + 2
  many_now = length-append c.owners (owner c (column t (used c) p) ∷ owner c (column t (used c) p) ∷ [])

  long : length u ≡ length t + 3
  long = length-append t (fork_nodes (length t) p stamp)

  fork_now : fork_column u (length t) ≡ used c
  fork_now = fork_column_append t (fork_nodes (length t) p stamp) h.tree.rooted 0 (length t) (omega arith) ∙ h.keeps.all_forks roomy

  is_fork_now : is_fork u (length t) ≡ true
  is_fork_now = ap (is_fork u) (let e : length t ≡ length t + 0 = omega arith in e) ∙ ap (passes (λ y. is_fork_kind y.kind)) (get_right t (fork_nodes (length t) p stamp) 0)

  up_left : parent_of u (length t + 1) ≡ length t
  up_left = ap (number_in (λ y. y.parent)) (get_right t (fork_nodes (length t) p stamp) 1)

  up_right : parent_of u (length t + 2) ≡ length t
  up_right = ap (number_in (λ y. y.parent)) (get_right t (fork_nodes (length t) p stamp) 2)

  strand_left : is_strand u (length t + 1) ≡ true
  strand_left = ap (passes (λ y. is_strand_kind y.kind)) (get_right t (fork_nodes (length t) p stamp) 1)

  strand_right : is_strand u (length t + 2) ≡ true
  strand_right = ap (passes (λ y. is_strand_kind y.kind)) (get_right t (fork_nodes (length t) p stamp) 2)

  left_side : is_right u (length t + 1) ≡ false
  left_side = false_from_ne_true (is_right u (length t + 1)) (λ e. is_left u later (length t + 1) (length t + 2) (length t) is_fork_now (omega arith) (omega (arith, long)) up_left up_right e)

  right_side : is_right u (length t + 2) ≡ true
  right_side = right_of u later (length t + 1) (length t + 2) (omega arith) (omega arith) strand_left (up_left ∙ sym up_right)

  -- the column of a strand of the fork
  by_side : (n : ℕ) → 0 < n → n < length u → is_strand u n ≡ true → parent_of u n ≡ length t → (b : Bool) → is_right u n ≡ b → column u (used d) n ≡ (if b then used c + 1 else used c)
  by_side n some low strand up b side =
      column_strand u later (used d) n some low strand
      ∙ ap (λ f. if nat_lt (fork_column u f + 1) (used d) then (if is_right u n then fork_column u f + 1 else fork_column u f) else column u (used d) f) up
      ∙ ap (λ f. if nat_lt (f + 1) (used d) then (if is_right u n then f + 1 else f) else column u (used d) (length t)) fork_now
      ∙ ap (λ (q : Bool). if q then (if is_right u n then used c + 1 else used c) else column u (used d) (length t)) (lt-ltb (used c + 1) (used d) (omega (arith, many_now)))
      ∙ ap (λ (q : Bool). if q then used c + 1 else used c) side

  left_now : column u (used d) (length t + 1) ≡ used c
  left_now = by_side (length t + 1) (omega arith) (omega (arith, long)) strand_left up_left false left_side

  right_now : column u (used d) (length t + 2) ≡ used c + 1
  right_now = by_side (length t + 2) (omega arith) (omega (arith, long)) strand_right up_right true right_side

  abbrev g : ℕ
  g = new_gap c words t p

  new_at : (j : ℕ) → slice_index (c.gaps ++ g ∷ g ∷ []) (used c + j) ≡ slice_index (g ∷ g ∷ []) j
  new_at j = ap (λ k. slice_index (c.gaps ++ g ∷ g ∷ []) (k + j)) (sym h.keeps.segments.lengths.0) ∙ number_right c.gaps (g ∷ g ∷ []) j

  shows_none : (b : Bool) → nat_eq (slice_index words (gap_at c t p)) 0 ≡ b → slice_index words (if b then gap_at c t p else used c) ≡ 0
  shows_none true e = eqb-true (slice_index words (gap_at c t p)) 0 e
  shows_none false e = h.keeps.spare_words (used c) (omega arith)

  pub given : HasNewColumns c d words t u p
  given = record {
    many = many_now;
    fork = fork_now;
    left = left_now;
    right = right_now;
    left_gap = ap (gap d) left_now ∙ ap (slice_index (c.gaps ++ g ∷ g ∷ [])) (let e : used c ≡ used c + 0 = omega arith in e) ∙ new_at 0;
    right_gap = ap (gap d) right_now ∙ new_at 1;
    word = shows_none (nat_eq (slice_index words (gap_at c t p)) 0) refl;
  }

pub forks_give_columns : ForksGiveColumns
forks_give_columns asked first s x stamp run root a ready roomy =
    let p = place s.machine.tree x in
    let h = tiers_stand asked first s run root in
    let state = states (at_any_time asked) first s.machine (machine_reached (at_any_time asked) first s run) in
    let later = (state_after (at_any_time asked) first s.machine (forks x stamp) state a).well.sound.tree in
    let d = forked (slice_index s.words (gap_at s.columns s.machine.tree p)) (column s.machine.tree (used s.columns) p) s.columns in
    let P : ColumnTable → Type 0 = λ e. HasNewColumns s.columns e s.words s.machine.tree (s.machine.tree ++ fork_nodes (length s.machine.tree) p stamp) p in
    subst P (sym (ap (λ (b : Bool). if b then d else s.columns) roomy))
    (given s.columns s.words s.machine.tree s.cuts s.joins (is_open_yet s) h p stamp (leb-true (used s.columns + 2) s.columns.room roomy) later)
