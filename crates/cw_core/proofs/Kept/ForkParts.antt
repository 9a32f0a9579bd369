-- The parts of a core after a fork.
use Rattle.std.proofs.Common.{◌≡◌, ℕ, zero, suc, ◌+◌, ◌*◌, ◌<◌, ◌≤◌, ◌^◌, List, [], ◌∷◌, ◌++◌, length, refl, ap, sym, ◌∙◌, subst, arith, Bool, true, false, cond, Option, Some, None, nat_eq, nat_lt, inl, inr, length-append}
use Rattle.std.specs.Prelude.{◌%◌, ◌&&◌, ◌||◌, slice_get, slice_index, is_none, nat_le, max}
use Rattle.std.specs.List.{list_any}
use Rattle.std.proofs.lemmas.Bool.{and_parts, and_from, false_from_ne_true, leb-true, leb-false, le-ltb, lt-ltb, eqb-true, eq-eqb}
use Rattle.cw_tree.specs.declared.node.Node.{Node}
use Rattle.cw_tree.specs.declared.node.Kind.TheVariants.{Fork, Strand}
use Rattle.cw_tree.specs.Nodes.{passes, number_in, is_strand_kind, is_fork_kind, is_tried_kind, touches_kind, parent_of, is_strand, is_fork, below, fresh_node}
use Rattle.cw_tree.specs.Walks.{has}
use Rattle.cw_tree.specs.Series.{place}
use Rattle.cw_tree.specs.Shape.{IsTree}
use Rattle.cw_tree.specs.Accesses.{value_in, written_kind}
use Rattle.cw_tree.specs.NextNodes.{fork_nodes}
use Rattle.cw_tree.proofs.Lists.{any_in, any_from}
use Rattle.cw_tree.proofs.Members.{in_below, below_in}
use Rattle.cw_tree.proofs.Walks.There.{node_there, fork_there}
use Rattle.cw_tree.proofs.NextNodes.Growing.{get_next, get_append, node_grown, number_grown}
use Rattle.cw_stack.specs.Cells.{CellParts}
use Rattle.cw_trace.specs.Columns.{ColumnTable, used, left_column_of, forked}
use Rattle.cw_trace.specs.Stands.{column, fork_column}
use Rattle.cw_trace.proofs.Stands.Counting.{fork_column_lt}
use Rattle.cw_trace.proofs.Keeps.Meaning.{odd_column}
use Rattle.cw_trace.proofs.Keeps.Grow.{fork_column_append, column_append}
use Rattle.cw_trace.proofs.Keeps.Owners.{column_strand, column_other}
use Rattle.cw_trace.proofs.Keeps.Forking.{column_more, get_right}
use Rattle.cw_open.specs.Machine.{OpenMachine, is_running, is_free}
use Rattle.cw_open.proofs.Open.TreeSteps.{free_runs}
use Rattle.cw_core.specs.declared.event.Event.TheVariants as event
use Rattle.cw_core.specs.declared.row.Row.{Row}
use Rattle.cw_core.specs.State.{CoreState, waits_for_left, column_of, gap_of, is_split, spent}
use Rattle.cw_core.specs.Events.{fits, fits_now, is_stop, may_fork, after_event}
use Rattle.cw_core.specs.Laws.{IsCore}
use Rattle.cw_core.specs.Kept.{AreParts, AreForks, IsHeld, with_row_changed, with_tail, with_wait, plain_tail, fork_row, strand_row, fork_rows}
use Rattle.cw_core.proofs.Events.Going.{well, at_place, column_place}
use Rattle.cw_core.proofs.Events.Kept.{events, free_ready}
use Rattle.cw_core.proofs.Kept.PartsGrow.{unspent, none_spent}
use Rattle.cw_core.proofs.Kept.ForkTails.{closed_apart}
use Rattle.cw_core.proofs.Kept.ForkRows.{rows_forked}
use Rattle.cw_core.proofs.Kept.Entering.{there_or_last}

module _ (k : CoreState) (rows : List Row) (forks : List ℕ) (cells : List CellParts) (last : Option ℕ) (w : AreParts k rows forks cells last) (s : ℕ) (fit : fits k (event.Fork s) ≡ true) where
  abbrev t : List Node
  t = k.machine.tree

  abbrev m : OpenMachine
  m = k.machine

  abbrev p : ℕ
  p = place t s

  abbrev f : ℕ
  f = length t

  abbrev stamp : ℕ
  stamp = m.clock + 1

  abbrev xs : List Node
  xs = fork_nodes f p stamp

  abbrev u : List Node
  u = t ++ xs

  abbrev half : Node
  half = fresh_node f Strand 0

  pub now : (is_free m s ≡ true) × (waits_for_left k s ≡ false)
  now = free_ready m.first k w.core s (and_parts (is_none k.halt && (is_none (spent k) || is_stop (event.Fork s))) (fits_now k (event.Fork s)) fit).1

  running : is_running m s ≡ true
  running = free_runs m s now.0

  there : p < length t
  there = (at_place m.first k w.core s running now.1).there

  old_tree : IsTree t
  old_tree = (well m.first k w.core).sound.tree

  tree : IsTree u
  tree = (well m.first (after_event k (event.Fork s)) (events m.first k (event.Fork s) w.core fit).1).sound.tree

  len : length u ≡ f + 3
  len = length-append t xs

  -- ## Columns

  abbrev tier : Bool → ColumnTable
  tier z = cond z (forked (slice_index k.words (gap_of k s)) (column_of k s) k.tier) k.tier

  abbrev pub forked_state : Bool → CoreState
  forked_state z = record k { machine = record m { tree = u; clock = max m.clock stamp }; tier = tier z }

  pub after_is : (z : Bool) → may_fork k ≡ z → after_event k (event.Fork s) ≡ forked_state z
  after_is z e = ap (λ b. let y : CoreState = record k { machine = record m { tree = u; clock = max m.clock stamp }; tier = tier b } in y) e

  used_more : used (tier true) ≡ used k.tier + 2
  used_more = length-append k.tier.owners _

  room_same : (z : Bool) → (tier z).room ≡ k.tier.room
  room_same true = refl
  room_same false = refl

  -- the forks of the tree have all columns that are in use
  columns_out : used k.tier ≤ fork_column t f
  columns_out = by_used (used k.tier) w.core.stands.segments.odd (λ i h q. w.core.stands.all_used i h q) where
    by_used : (n : ℕ) → n % 2 ≡ 1 → ((i : ℕ) → i < n → 0 < i → (g : ℕ) × (is_fork t g ≡ true) × (fork_column t g ≡ left_column_of i)) → n ≤ fork_column t f
    by_used zero e all = omega arith
    by_used (suc zero) e all = odd_some (fork_column t f) (odd_column t f) where
      odd_some : (n : ℕ) → n % 2 ≡ 1 → 1 ≤ n
      odd_some n e = omega arith
    by_used (suc (suc n)) e all =
        let z = all (suc n) (omega arith) (omega arith) in
        let l = fork_column_lt t z.0 f (fork_there t z.0 z.1) z.1 in
        let at : left_column_of (suc n) ≡ n = even_left n e in
        omega (arith, l, z.2, at) where
          even_left : (n : ℕ) → suc (suc n) % 2 ≡ 1 → left_column_of (suc n) ≡ n
          even_left n e = omega arith

  new_column : fork_column u f ≡ fork_column t f
  new_column = fork_column_append t xs old_tree.rooted (used k.tier) f (omega arith)

  roomy : may_fork k ≡ true → used k.tier + 2 ≤ k.tier.room
  roomy e = leb-true (used k.tier + 2) k.tier.room e

  at_used : may_fork k ≡ true → fork_column u f ≡ used k.tier
  at_used e = new_column ∙ w.core.stands.all_forks (roomy e)

  columns : (z : Bool) → may_fork k ≡ z → (n : ℕ) → n < f → column t (used (tier z)) n ≡ column t (used k.tier) n
  columns false e n h = refl
  columns true e n h =
      column_more t old_tree (used (tier true)) (used k.tier)
      (λ g fork. let low = fork_column_lt t g f (fork_there t g fork) fork in let all = w.core.stands.all_forks (roomy e) in (omega (arith, low, all, used_more), omega (arith, low, all)))
      n h

  has_is : (z : Bool) → may_fork k ≡ z → nat_le (fork_column u f + 2) (tier z).room ≡ z
  has_is true e = ap (λ n. nat_le (n + 2) k.tier.room) (at_used e) ∙ e
  has_is false e =
      false_from_ne_true (nat_le (fork_column u f + 2) k.tier.room) (λ q. absurd (
      let full = leb-false (used k.tier + 2) k.tier.room e in
      let le = leb-true (fork_column u f + 2) k.tier.room q in
      let out = columns_out in
      omega (arith, new_column)))

  whole : (z : Bool) → is_split (forked_state z) f ≡ false
  whole z = Rattle.std.proofs.lemmas.Bool.and_right (nat_le (fork_column u f + 2) (tier z).room) (has k.splits (fork_column u f)) (false_from_ne_true (has k.splits (fork_column u f)) (λ e. absurd (
      let low = w.core.stands.segments.cut_left (fork_column u f) e in
      let out = columns_out in
      omega (arith, low.1, new_column))))

  abbrev pub left_column : Bool → ℕ
  left_column z = cond z (used k.tier) (column_of k s)

  abbrev pub right_column : Bool → ℕ
  right_column z = cond z (used k.tier + 1) (column_of k s)

  fork_at : (z : Bool) → may_fork k ≡ z → z ≡ true → fork_column u f ≡ left_column z
  fork_at true e q = at_used e
  fork_at false e q = absurd (cc q)

  at_left : slice_get u (suc f) ≡ Some half
  at_left = ap (slice_get u) (let e : suc f ≡ f + 1 = omega arith in e) ∙ get_right t xs 1

  at_right : slice_get u (suc (suc f)) ≡ Some half
  at_right = ap (slice_get u) (let e : suc (suc f) ≡ f + 2 = omega arith in e) ∙ get_right t xs 2

  at_fork : slice_get u f ≡ Some (fresh_node p Fork stamp)
  at_fork = get_next t (fresh_node p Fork stamp) (half ∷ half ∷ [])

  abbrev lies_right : ℕ → Bool
  lies_right n = list_any (λ b. nat_lt 0 b && is_strand u b && nat_eq (parent_of u b) f) (below n)

  left_is : lies_right (suc f) ≡ false
  left_is = false_from_ne_true (lies_right (suc f)) (λ e.
      let v = any_in (λ b. nat_lt 0 b && is_strand u b && nat_eq (parent_of u b) f) (below (suc f)) e in
      let h = in_below v.0 (suc f) v.1 in
      let a = and_parts (nat_lt 0 v.0 && is_strand u v.0) (nat_eq (parent_of u v.0) f) v.2 in
      let b = and_parts (nat_lt 0 v.0) (is_strand u v.0) a.0 in
      let q = eqb-true (parent_of u v.0) f a.1 in
      let low = tree.rooted v.0 (Rattle.std.proofs.lemmas.Bool.ltb-true 0 v.0 b.0) (omega (arith, len, h)) in
      absurd (omega (arith, low, q, h)))

  right_is : lies_right (suc (suc f)) ≡ true
  right_is =
      any_from (λ b. nat_lt 0 b && is_strand u b && nat_eq (parent_of u b) f) (suc f) (below (suc (suc f))) (below_in (suc f) (suc (suc f)) (omega arith))
      (and_from (nat_lt 0 (suc f) && is_strand u (suc f)) (nat_eq (parent_of u (suc f)) f)
      (and_from (nat_lt 0 (suc f)) (is_strand u (suc f)) (lt-ltb 0 (suc f) (omega arith)) (ap (passes (λ y. is_strand_kind y.kind)) at_left))
      (eq-eqb (parent_of u (suc f)) f (ap (number_in (λ y. y.parent)) at_left)))

  -- the column of a new strand
  half_column : (size n : ℕ) (right : Bool) → f < n → n < length u → slice_get u n ≡ Some half → lies_right n ≡ right
      → column u size n ≡ cond (nat_lt (fork_column u f + 1) size) (cond right (fork_column u f + 1) (fork_column u f)) (column u size f)
  half_column size n right lo hi at is =
      let up : parent_of u n ≡ f = ap (number_in (λ y. y.parent)) at in
      column_strand u tree size n (omega arith) hi (ap (passes (λ y. is_strand_kind y.kind)) at)
      ∙ ap (λ g. cond (nat_lt (fork_column u g + 1) size) (cond (list_any (λ b. nat_lt 0 b && is_strand u b && nat_eq (parent_of u b) g) (below n)) (fork_column u g + 1) (fork_column u g)) (column u size g)) up
      ∙ ap (λ b. cond (nat_lt (fork_column u f + 1) size) (cond b (fork_column u f + 1) (fork_column u f)) (column u size f)) is

  inline_column : column u (used k.tier) f ≡ column_of k s
  inline_column =
      column_other u tree (used k.tier) f (omega (arith, there)) (omega (arith, len)) (ap (passes (λ y. is_strand_kind y.kind)) at_fork)
      ∙ ap (column u (used k.tier)) (ap (number_in (λ y. y.parent)) at_fork)
      ∙ column_append t xs old_tree.rooted (used k.tier) p there
      ∙ column_place m.first k w.core s (used k.tier) running

  has_pair : may_fork k ≡ true → nat_lt (fork_column u f + 1) (used (tier true)) ≡ true
  has_pair e = lt-ltb (fork_column u f + 1) (used (tier true)) (omega (arith, at_used e, used_more))

  no_pair : nat_lt (fork_column u f + 1) (used k.tier) ≡ false
  no_pair = le-ltb (fork_column u f + 1) (used k.tier) (omega (arith, new_column, columns_out))

  left_at : (z : Bool) → may_fork k ≡ z → column u (used (tier z)) (suc f) ≡ left_column z
  left_at true e =
      half_column (used (tier true)) (suc f) false (omega arith) (omega (arith, len)) at_left left_is
      ∙ ap (λ b. cond b (fork_column u f) (column u (used (tier true)) f)) (has_pair e) ∙ at_used e
  left_at false e =
      half_column (used k.tier) (suc f) false (omega arith) (omega (arith, len)) at_left left_is
      ∙ ap (λ b. cond b (fork_column u f) (column u (used k.tier) f)) no_pair ∙ inline_column

  right_at : (z : Bool) → may_fork k ≡ z → column u (used (tier z)) (suc (suc f)) ≡ right_column z
  right_at true e =
      half_column (used (tier true)) (suc (suc f)) true (omega arith) (omega (arith, len)) at_right right_is
      ∙ ap (λ b. cond b (fork_column u f + 1) (column u (used (tier true)) f)) (has_pair e) ∙ ap (λ n. n + 1) (at_used e)
  right_at false e =
      half_column (used k.tier) (suc (suc f)) true (omega arith) (omega (arith, len)) at_right right_is
      ∙ ap (λ b. cond b (fork_column u f + 1) (column u (used k.tier) f)) no_pair ∙ inline_column

  -- ## Forks

  abbrev pub forks_after : Bool → List ℕ
  forks_after z = cond z (forks ++ f ∷ []) forks

  old_fork : (z : Bool) (i g : ℕ) → slice_get forks i ≡ Some g → (is_fork u g ≡ true) × (fork_column u g ≡ 2 * i + 1)
  old_fork z i g e =
      let q = w.forked.each i g e in
      let h = node_there (λ y. is_fork_kind y.kind) t g q.0 in
      (node_grown t xs (λ y. is_fork_kind y.kind) g h ∙ q.0, fork_column_append t xs old_tree.rooted (used k.tier) g (omega arith) ∙ q.1)

  forks_are : (z : Bool) → may_fork k ≡ z → AreForks (forked_state z) (forks_after z)
  forks_are false e = record { count = w.forked.count; each = λ i g h. old_fork false i g h }
  forks_are true e = record {
    count = omega (arith, used_more, w.forked.count, length-append forks (f ∷ []));
    each = λ i g h. elim (there_or_last forks f i g h) [
      | inl old ↦ old_fork true i g old
      | inr new ↦ (
        ap (is_fork u) new.1 ∙ ap (passes (λ y. is_fork_kind y.kind)) at_fork,
        ap (fork_column u) new.1 ∙ at_used e ∙ w.forked.count ∙ ap (λ n. 2 * n + 1) (sym new.0),
      )
    ];
  }

  -- ## Cells

  held : (z : Bool) → may_fork k ≡ z → (c : ℕ) (cell : CellParts) → IsHeld k c cell → IsHeld (forked_state z) c cell
  held z e c cell h = record {
    whole = h.whole;
    entries = λ i x at. (
        let q = h.entries i x at in
        let low = node_there (λ y. touches_kind c y.kind) t q.node q.touches in
        record {
          node = q.node;
          touches = node_grown t xs (λ y. touches_kind c y.kind) q.node low ∙ q.touches;
          stamp = number_grown t xs (λ y. y.stamp) q.node low ∙ q.stamp;
          wrote = ap (value_in written_kind) (get_append t xs q.node low) ∙ q.wrote;
          strand = column_append t xs old_tree.rooted (used (tier z)) q.node low ∙ columns z e q.node low ∙ q.strand;
        });
  }

  -- ## The whole

  rows_same : (l r : ℕ) (z : Bool) → fork_rows s l r f z ≡ fork_row s l (suc f) (suc (suc f)) z ∷ strand_row (suc f) l None ∷ strand_row (suc (suc f)) r (Some (suc f)) ∷ []
  rows_same l r z =
      let a : f + 1 ≡ suc f = omega arith in
      let b : f + 2 ≡ suc (suc f) = omega arith in
      ap (λ i. fork_row s l i (f + 2) z ∷ strand_row i l None ∷ strand_row (f + 2) r (Some i) ∷ []) a
      ∙ ap (λ j. fork_row s l (suc f) j z ∷ strand_row (suc f) l None ∷ strand_row j r (Some (suc f)) ∷ []) b

  abbrev pub rows_after : Bool → List Row
  rows_after z = with_row_changed with_wait s (with_row_changed (with_tail plain_tail) p rows ++ fork_rows s (left_column z) (right_column z) f z)

  pub fork_parts : (z : Bool) → may_fork k ≡ z → f + 3 < 2 ^ 32 → AreParts (after_event k (event.Fork s)) (rows_after z) (forks_after z) cells last
  fork_parts z e few =
      let P : CoreState → Type 0 = λ y. AreParts y (rows_after z) (forks_after z) cells last in
      let Q : CoreState → Type 0 = λ y. IsCore m.first y in
      let R : List Row → Type 0 = λ rs. Rattle.cw_core.specs.Kept.AreRows (forked_state z) rs in
      let rowed = rows_forked m.first k w.core s now.0 now.1 stamp (max m.clock stamp) (tier z) (room_same z) (columns z e) tree (left_column z) (right_column z) z (has_is z e) (fork_at z e) (whole z) (left_at z e) (right_at z e) rows w.rowed in
      subst P (sym (after_is z e)) (record {
        core = subst Q (after_is z e) (events m.first k (event.Fork s) w.core fit).1;
        few = omega (arith, len);
        drawn = (let d = w.drawn in omega (arith, len, closed_apart xs t refl));
        rowed = subst R (ap (λ ys. with_row_changed with_wait s (with_row_changed (with_tail plain_tail) p rows ++ ys)) (sym (rows_same (left_column z) (right_column z) z))) rowed;
        askers = λ i c h. (let q = w.askers i c h in node_grown t xs (λ y. is_tried_kind y.kind) c.asker (node_there (λ y. is_tried_kind y.kind) t c.asker q) ∙ q);
        forked = forks_are z e;
        held = λ c cell h. held z e c cell (w.held c cell h);
        firsts = w.firsts;
        lists = w.lists;
        told = none_spent k (forked_state z) (unspent k (event.Fork s) refl fit) refl refl ∙ w.told;
      })
