-- Rows stay right as the block in which a running strand stands is closed.
use Rattle.std.proofs.Common.{◌≡◌, ◌≢◌, ℕ, ◌+◌, ◌<◌, List, [], ◌∷◌, ◌++◌, length, refl, ap, sym, ◌∙◌, arith, Bool, true, false, cond, Option, Some, None, nat_eq, nat_lt, nat_le, inl, inr}
use Rattle.std.specs.Prelude.{◌⊎◌, ◌&&◌, ◌||◌, not, ℤ, filter, slice_get, unwrap_or}
use Rattle.std.specs.List.{suffix_len, list_any}
use Rattle.std.proofs.lemmas.Bool.{and_parts, and_from, and_left, and_right, or_cases, cases_lt, cases_eq, cases_Bool, eqb-true, eq-eqb, ne_eqb, ltb-true, lt-ltb, false_from_ne_true}
use Rattle.cw_tree.specs.declared.node.Node.{Node}
use Rattle.cw_tree.specs.declared.node.BlockState.{BlockState}
use Rattle.cw_tree.specs.declared.conflict.Conflict.{Conflict}
use Rattle.cw_tree.specs.Nodes.{is_strand_kind, is_fork_kind, is_block_kind, is_pending_state, is_aborted_state, parent_of, stamp_of, is_strand, is_fork, is_block, is_pending, is_aborted, all_nodes, below, closed}
use Rattle.cw_tree.specs.Walks.{IsRooted, has, is_ancestor}
use Rattle.cw_tree.specs.Series.{strand_of, children, place}
use Rattle.cw_tree.specs.Shape.{IsTree}
use Rattle.cw_tree.specs.Refusals.{is_victim, victim_of}
use Rattle.cw_tree.specs.ForkCounts.{one_if}
use Rattle.cw_tree.specs.Attempts.{tried_cell_in, tried_cell, same_cell, elders}
use Rattle.cw_tree.proofs.Members.{filter_same, any_same, in_filter, in_below, below_last, suffix_same}
use Rattle.cw_tree.proofs.Walks.There.{node_there}
use Rattle.cw_tree.proofs.Walks.Kin.{before_of, fork_child}
use Rattle.cw_tree.proofs.Walks.Ancestors.{ancestor_self, ancestor_above, above_ancestor, above_parent, ancestor_le}
use Rattle.cw_tree.proofs.Walks.Parting.{series_or_parallel}
use Rattle.cw_tree.proofs.Walks.Strands.{strand_of_other, strand_itself}
use Rattle.cw_tree.proofs.NextNodes.Closing.{length_closed, all_nodes_closed, node_closed, number_closed, node_closed_other, same_closed, state_closed, rooted_closed, strand_of_closed, is_above_closed}
use Rattle.cw_tree.proofs.NextNodes.Trees.{is_child}
use Rattle.cw_tree.proofs.LastBelow.{last_same}
use Rattle.cw_tree.proofs.InOrder.DepthFirst.{child_is}
use Rattle.cw_tree.proofs.NodeKinds.{strand_no_block, pending_block}
use Rattle.cw_trace.specs.Columns.{used}
use Rattle.cw_trace.proofs.Keeps.Ending.{SameShape, fork_column_same, column_same}
use Rattle.cw_open.specs.Machine.{OpenMachine, has_finished, waits, is_running, in_block, falls}
use Rattle.cw_open.proofs.Open.Standing.{StandsAt, is_begun_in, runs, stands}
use Rattle.cw_open.specs.Runs.{at_once}
use Rattle.cw_open.proofs.Refused.Victims.{IsTold, told_states}
use Rattle.cw_core.specs.declared.row.Made.{Made}
use Rattle.cw_core.specs.declared.row.Tail.{Tail}
use Rattle.cw_core.specs.declared.row.Now.{Now}
use Rattle.cw_core.specs.State.{CoreState, waits_for_left}
use Rattle.cw_core.specs.Laws.{IsCore}
use Rattle.cw_core.specs.Kept.{IsMade, IsTail, IsNow, IsAtStake, IsVictim, is_counted}
use Rattle.cw_core.proofs.Events.Going.{well, at_place}
use Rattle.cw_core.proofs.Events.Closing.{pending}
use Rattle.cw_core.proofs.Events.Places.{place_is}
use Rattle.cw_core.proofs.Events.OneFork.{not_parallel}
use Rattle.cw_core.proofs.Kept.PartsGrow.{all_at}
use Rattle.cw_core.proofs.Fits.Dying.{conflict_any}

abbrev cell_of : Option Node → Option ℕ
cell_of None = None
cell_of (Some x) = tried_cell_in x.kind

cell_is : (t : List Node) (n : ℕ) → tried_cell t n ≡ cell_of (slice_get t n)
cell_is t n = elim (slice_get t n) [ None ↦ refl | Some x ↦ refl ]

module _ (first : List ℤ) (k : CoreState) (core : IsCore first k) (s : ℕ) (running : is_running k.machine s ≡ true) (ready : waits_for_left k s ≡ false) (within : in_block k.machine s ≡ true) (state : BlockState) (done : is_pending_state state ≡ false) (end clock : ℕ) (words : List ℕ) where
  abbrev t : List Node
  t = k.machine.tree

  abbrev m : OpenMachine
  m = k.machine

  abbrev b : ℕ
  b = place t s

  abbrev q : ℕ
  q = parent_of t b

  abbrev u : List Node
  u = closed t b state end

  abbrev z : CoreState
  z = record k { machine = record m { tree = u; clock = clock }; words = words }

  tree : IsTree t
  tree = (well first k core).sound.tree

  pub rooted : IsRooted t
  rooted = tree.rooted

  pub open_block : is_pending t b ≡ true
  open_block = pending first k core s running ready within state done

  pub there : b < length t
  there = (at_place first k core s running ready).there

  no_strand : is_strand t b ≡ false
  no_strand = false_from_ne_true (is_strand t b) (λ e. absurd (cc (pending_block t b open_block, strand_no_block t b e)))

  some : 0 < b
  some = elim (cases_eq b 0) [ inl e ↦ absurd (let a = ap (is_strand t) e in let r = tree.root in let x = no_strand in cc (a, r, x)) | inr ne ↦ omega arith ]

  pub low : q < b
  low = rooted b some there

  -- ## The tree

  pub shape : SameShape t u
  shape = record {
    lengths = length_closed t b state end;
    parents = number_closed t b state end (λ y. y.parent) (λ y. refl);
    forks = node_closed t b state end (λ y. is_fork_kind y.kind) (λ y. refl);
    strands = node_closed t b state end (λ y. is_strand_kind y.kind) (λ y. refl);
    stamps = number_closed t b state end (λ y. y.stamp) (λ y. refl);
  }

  pub blocks : (n : ℕ) → is_block u n ≡ is_block t n
  blocks = node_closed t b state end (λ y. is_block_kind y.kind) (λ y. refl)

  pub children_same : (n : ℕ) → children u n ≡ children t n
  children_same n = ap (filter (is_child u n)) (all_nodes_closed t b state end) ∙ filter_same (is_child u n) (is_child t n) (all_nodes t) (λ v i. ap (λ p. nat_lt 0 v && nat_eq p n) (shape.parents v))

  pub aborted_other : (n : ℕ) → n ≢ b → is_aborted u n ≡ is_aborted t n
  aborted_other = node_closed_other t b state end (λ y. is_block_kind y.kind && is_aborted_state y.state)

  pub pending_other : (n : ℕ) → n ≢ b → is_pending u n ≡ is_pending t n
  pending_other = node_closed_other t b state end (λ y. is_block_kind y.kind && is_pending_state y.state)

  pub pending_here : is_pending u b ≡ false
  pending_here = state_closed t b state end is_pending_state ∙ ap (λ x. is_block t b && x) done ∙ and_right (is_block t b) false refl

  pub tried_same : (n : ℕ) → tried_cell u n ≡ tried_cell t n
  tried_same n = cell_is u n ∙ same_closed t b state end cell_of (λ y. refl) n ∙ sym (cell_is t n)

  -- what hangs above the block is no fork
  up_no_fork : is_fork t q ≡ false
  up_no_fork = false_from_ne_true (is_fork t q) (λ e. absurd (let a = fork_child t tree b some there e in let x = no_strand in cc (a, x)))

  -- nothing comes after the block
  last_child : (n : ℕ) → b < n → n < length t → parent_of t n ≡ q → ⊥
  last_child n less h up =
      let before = before_of t b n (record { first = b; second = n; ordered = record { some = some; less = less; same = sym up; no_fork = up_no_fork }; over_first = ancestor_self t b; over_second = ancestor_self t n }) in
      let none = (at_place first k core s running ready).last n h in
      cc (before, none)

  -- ## What is known of nodes since they were made

  pub made_closed : (n : ℕ) (r : Made) → n < length t → IsMade k n r → IsMade z n r
  made_closed n r h w = record {
    strand = strand_of_closed t b state end rooted n h ∙ w.strand;
    column = λ e. column_same t u rooted shape (used k.tier) n h ∙ w.column (sym (shape.strands n) ∙ e);
    elder = λ e. ap (λ p. filter (λ l. nat_lt l n) (children u p)) (shape.parents n) ∙ ap (filter (λ l. nat_lt l n)) (children_same (parent_of t n)) ∙ w.elder (sym (shape.strands n) ∙ e);
    halves = λ e. children_same n ∙ w.halves (sym (shape.forks n) ∙ e);
    columns = λ e. ap (λ c. nat_le (c + 2) k.tier.room) (fork_column_same t u rooted shape n) ∙ w.columns (sym (shape.forks n) ∙ e);
    forked = λ e c. fork_column_same t u rooted shape n ∙ w.forked (sym (shape.forks n) ∙ e) c;
    attempt = λ e.
        (let ne : n ≢ b = λ g. (let a = ap (is_pending u) g in let x = pending_here in cc (a, x, e)) in
        ap (λ p. suffix_len (is_aborted u) (filter (λ l. nat_lt l n) (children u p)) + 1) (shape.parents n)
        ∙ ap (λ ns. suffix_len (is_aborted u) (filter (λ l. nat_lt l n) ns) + 1) (children_same (parent_of t n))
        ∙ ap (λ x. x + 1) (suffix_same (is_aborted u) (is_aborted t) (elders t n) (λ v i.
        let j = in_filter (λ l. nat_lt l n) v (children t (parent_of t n)) i in
        let c = child_is t (parent_of t n) v j.0 in
        aborted_other v (λ g. last_child n (let l = ltb-true v n j.1 in omega (arith, g)) h (sym c.parent ∙ ap (parent_of t) g))))
        ∙ w.attempt (sym (pending_other n ne) ∙ e));
  }

  -- ## How children end

  pub tail_closed : (n : ℕ) (r : Tail) → n ≢ q → IsTail t n r → IsTail u n r
  tail_closed n r ne w = record {
    started = ap (λ ns. nat_eq (length ns) 0) (children_same n) ∙ w.started;
    aborted = ap (suffix_len (is_aborted u)) (children_same n)
        ∙ suffix_same (is_aborted u) (is_aborted t) (children t n) (λ v i. aborted_other v (λ g. ne (sym (child_is t n v i).parent ∙ ap (parent_of t) g)))
        ∙ w.aborted;
    tried = λ c.
        ap (suffix_len (λ m. same_cell (tried_cell u m) (Some c))) (children_same n)
        ∙ suffix_same (λ m. same_cell (tried_cell u m) (Some c)) (λ m. same_cell (tried_cell t m) (Some c)) (children t n) (λ v i. ap (λ o. same_cell o (Some c)) (tried_same v))
        ∙ w.tried c;
  }

  pub front : children t q ≡ filter (is_child t q) (below b) ++ b ∷ []
  front = below_last (is_child t q) b (length t) there (and_from (nat_lt 0 b) (nat_eq q q) (lt-ltb 0 b some) (eq-eqb q q refl)) (λ n l h.
      false_from_ne_true (is_child t q n) (λ e. absurd (last_child n l h (eqb-true (parent_of t n) q (and_parts (nat_lt 0 n) (nat_eq (parent_of t n) q) e).1))))

  -- ## Places

  pub place_other : (n : ℕ) → n ≢ s → place u n ≡ place t n
  place_other n ne =
      ap (λ x. unwrap_or (Rattle.cw_tree.specs.Nodes.last_below (is_begun_in u n) x) n) shape.lengths
      ∙ ap (λ o. unwrap_or o n) (last_same (is_begun_in u n) (is_begun_in t n) (length t) (λ x h. at x h (cases_eq x b))) where
        own : strand_of t b ≡ s
        own = (stands m tree (well first k core).nested s running).strand

        at : (x : ℕ) → x < length t → (x ≡ b) ⊎ (x ≢ b) → is_begun_in u n x ≡ is_begun_in t n x
        at x h (inr g) = ap (λ c. c && nat_eq (strand_of u x) n) (pending_other x g) ∙ ap (λ y. is_pending t x && nat_eq y n) (strand_of_closed t b state end rooted x h)
        at x h (inl g) =
            let off : nat_eq (strand_of t x) n ≡ false = ne_eqb (strand_of t x) n (λ e. ne (sym e ∙ ap (strand_of t) g ∙ own)) in
            ap (λ c. c && nat_eq (strand_of u x) n) (ap (is_pending u) g ∙ pending_here) ∙ sym (and_right (is_pending t x) (nat_eq (strand_of t x) n) off)

  own : strand_of t b ≡ s
  own = (stands m tree (well first k core).nested s running).strand

  up_own : strand_of t q ≡ s
  up_own = sym (strand_of_other t rooted b some there no_strand) ∙ own

  -- a pending block of the strand before this one is above it
  none_between : (c : ℕ) → q < c → c < b → is_pending t c ≡ true → strand_of t c ≡ s → ⊥
  none_between c more less pend same =
      let hc : c < length t = (let h = there in omega arith) in
      elim (cases_Bool (is_ancestor t c b)) [
        | inl over ↦
            (let up : is_ancestor t c q ≡ true = sym (above_parent t rooted c b some there) ∙ sym (ancestor_above t c b (λ e. absurd (omega arith))) ∙ over in
            let le = ancestor_le t rooted c q (let h = there in let l = low in omega arith) up in
            omega arith)
        | inr off ↦
            (let back : is_ancestor t b c ≡ false = false_from_ne_true (is_ancestor t b c) (λ e. absurd (let h = ancestor_le t rooted b c hc e in omega arith)) in
            let sum = series_or_parallel t rooted c b hc there off back in
            let one = ap one_if ((well first k core).sound.pending_last.last c b hc there pend) in
            let two = ap one_if ((at_place first k core s running ready).last c hc) in
            let par = ap one_if (not_parallel t tree c b hc there off (same ∙ sym own)) in
            omega (arith, sum, one, two, par))
      ]

  strand_own : is_strand t s ≡ true
  strand_own = (runs m tree (well first k core).nested s running).strand

  stands_back : StandsAt u s q
  stands_back = record {
    there = (let h = there in let l = low in let n = shape.lengths in omega arith);
    strand = strand_of_closed t b state end rooted q (let h = there in let l = low in omega arith) ∙ up_own;
    kind = elim (or_cases (is_strand t q || is_fork t q) (is_block t q) (tree.parents b there some)) [
      | inl e ↦ elim (or_cases (is_strand t q) (is_fork t q) e) [
        | inl g ↦ inl (sym (strand_itself t rooted q g) ∙ up_own)
        | inr g ↦ absurd (let x = up_no_fork in cc (g, x))
      ]
      | inr g ↦
          (let over : is_ancestor t q b ≡ true = above_ancestor t q b (above_parent t rooted q b some there ∙ ancestor_self t q) in
          let pend = (at_place first k core s running ready).around q (and_from (is_block t q) (is_ancestor t q b) g over) in
          inr (pending_other q (λ e. absurd (let l = low in omega arith)) ∙ pend))
    ];
    last = λ c more pend same.
        (let ne : c ≢ b = λ e. (let a = ap (is_pending u) e in let x = pending_here in cc (a, x, pend)) in
        let was : is_pending t c ≡ true = sym (pending_other c ne) ∙ pend in
        let hc = node_there (λ y. is_block_kind y.kind && is_pending_state y.state) t c was in
        let here : strand_of t c ≡ s = sym (strand_of_closed t b state end rooted c hc) ∙ same in
        elim (cases_lt b c) [
          | inl after ↦ (stands m tree (well first k core).nested s running).last c after was here
          | inr le ↦ none_between c more (omega arith) was here
        ]);
  }

  pub place_here : place u s ≡ q
  place_here = place_is u (rooted_closed t b state end rooted) s q (shape.strands s ∙ strand_own) stands_back

  -- ## Waits and victims

  waits_same : (n : ℕ) → waits z.machine n ≡ waits m n
  waits_same n =
      ap (list_any (λ f. is_fork u f && nat_eq (strand_of u f) n && not (has m.joined f))) (all_nodes_closed t b state end)
      ∙ any_same (λ f. is_fork u f && nat_eq (strand_of u f) n && not (has m.joined f)) (λ f. is_fork t f && nat_eq (strand_of t f) n && not (has m.joined f)) (all_nodes t) (λ f i.
      ap (λ x. x && nat_eq (strand_of u f) n && not (has m.joined f)) (shape.forks f)
      ∙ ap (λ y. is_fork t f && nat_eq y n && not (has m.joined f)) (strand_of_closed t b state end rooted f (in_below f (length t) i)))

  pub counted_same : (n : ℕ) → is_counted z.machine n ≡ is_counted m n
  counted_same n =
      ap (λ y. cond (has_finished m n) (not (has m.joined y)) (is_running z.machine n)) (shape.parents n)
      ∙ ap (λ x. cond (has_finished m n) (not (has m.joined (parent_of t n))) (x && not (has_finished m n) && not (waits z.machine n) && not (has m.stopped n))) (shape.strands n)
      ∙ ap (λ x. cond (has_finished m n) (not (has m.joined (parent_of t n))) (is_strand t n && not (has_finished m n) && not x && not (has m.stopped n))) (waits_same n)

  pub falls_other : (c : Conflict) (v : ℕ) → v ≢ b → falls z.machine c v ≡ falls m c v
  falls_other c v ne =
      ap (λ x. x && is_victim u (c ∷ []) v) (pending_other v ne)
      ∙ ap (λ x. is_pending t v && (x && list_any (λ c. Rattle.std.specs.Option.option_map_or (λ x. nat_eq x (stamp_of u v)) (victim_of c) false) (c ∷ []))) (blocks v)
      ∙ ap (λ n. is_pending t v && (is_block t v && list_any (λ c. Rattle.std.specs.Option.option_map_or (λ x. nat_eq x n) (victim_of c) false) (c ∷ []))) (shape.stamps v)

  pub falls_here : (c : Conflict) → falls z.machine c b ≡ false
  falls_here c = and_left (is_pending u b) (is_victim u (c ∷ []) b) pending_here

  pub asker_low : (i : ℕ) (c : Conflict) → slice_get m.conflicts i ≡ Some c → c.asker < length t
  asker_low i c at = (all_at (λ c. IsTold t c) m.conflicts i c at (told_states at_once first m core.reached).told).asker

  pub stake_closed : (n v i : ℕ) (c : Conflict) → slice_get m.conflicts i ≡ Some c → IsAtStake z.machine n c v → IsAtStake m n c v × (v ≢ b)
  stake_closed n v i c at w =
      let low = asker_low i c at in
      let ne : v ≢ b = λ e. (let a = ap (falls z.machine c) e in let x = falls_here c in let y = w.falls in cc (a, x, y)) in (
        record {
          over = sym (is_above_closed t b state end rooted n c.asker low) ∙ w.over;
          falls = sym (falls_other c v ne) ∙ w.falls;
          beside = λ f fork same e.
              sym (is_above_closed t b state end rooted f c.asker low)
              ∙ w.beside f (shape.forks f ∙ fork) (strand_of_closed t b state end rooted f (node_there (λ y. is_fork_kind y.kind) t f fork) ∙ same) e;
        },
        ne,
      )

  -- where the block is no victim, victims stay as they were
  pub victim_closed : is_victim t m.conflicts b ≡ false → (n : ℕ) (o : Option ℕ) → IsVictim m n o → IsVictim z.machine n o
  victim_closed safe n None w = λ i v c at stake. w i v c at (stake_closed n v i c at stake).0
  victim_closed safe n (Some y) w = (
    λ i v c at stake. w.0 i v c at (stake_closed n v i c at stake).0,
    λ e. (let x = w.1 (sym (counted_same n) ∙ e) in
        let low = asker_low x.0 x.1 x.2 in
        let ne : y ≢ b = λ g. absurd (let a = ap (falls m x.1) g in let f = x.4 in let safe_here = safe_falls x.0 x.1 x.2 in cc (a, f, safe_here)) in
        (x.0, x.1, x.2, is_above_closed t b state end rooted n x.1.asker low ∙ x.3, falls_other x.1 y ne ∙ x.4)),
  ) where
    safe_falls : (i : ℕ) (c : Conflict) → slice_get m.conflicts i ≡ Some c → falls m c b ≡ false
    safe_falls i c at = false_from_ne_true (falls m c b) (λ e.
        let y = and_parts (is_pending t b) (is_victim t (c ∷ []) b) e in
        let x = and_parts (is_block t b) (Rattle.std.specs.Option.option_map_or (λ x. nat_eq x (stamp_of t b)) (victim_of c) false || false) y.1 in
        let here : Rattle.std.specs.Option.option_map_or (λ x. nat_eq x (stamp_of t b)) (victim_of c) false ≡ true = sym (or_false _) ∙ x.1 in
        let some = conflict_any (λ c. Rattle.std.specs.Option.option_map_or (λ x. nat_eq x (stamp_of t b)) (victim_of c) false) m.conflicts i c at here in
        let all = and_from (is_block t b) (list_any (λ c. Rattle.std.specs.Option.option_map_or (λ x. nat_eq x (stamp_of t b)) (victim_of c) false) m.conflicts) x.0 some in
        absurd (cc (all, safe))) where
          or_false : (x : Bool) → (x || false) ≡ x
          or_false true = refl
          or_false false = refl

  pub now_closed : (n : ℕ) (r : Now) (x : ℕ) (o : Option ℕ) → (is_strand t n ≡ true → place u n ≡ x) → (is_strand t n ≡ true → IsVictim z.machine n o) → (is_strand t n ≡ true → r.waits ≡ true → o ≡ None) → IsNow k n r → IsNow z n (record r { place = x; victim = o })
  now_closed n r x o at victim quiet w = record {
    place = λ e. at (sym (shape.strands n) ∙ e);
    waits = λ e. waits_same n ∙ w.waits (sym (shape.strands n) ∙ e);
    finished = w.finished;
    dead = w.dead;
    victim = λ e. victim (sym (shape.strands n) ∙ e);
    quiet = λ e g. quiet (sym (shape.strands n) ∙ e) g;
    split = λ e. ap (λ c. nat_le (c + 2) k.tier.room && has k.splits c) (fork_column_same t u rooted shape n) ∙ w.split (sym (shape.forks n) ∙ e);
    joined = w.joined;
  }
