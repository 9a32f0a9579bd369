-- Rows stay right as a strand forks.
use Rattle.std.proofs.Common.{◌≡◌, ◌≢◌, ℕ, suc, ◌+◌, ◌<◌, ◌≤◌, List, [], ◌∷◌, ◌++◌, length, refl, ap, sym, ◌∙◌, subst, arith, Bool, true, false, cond, Option, Some, None, nat_eq, nat_lt, inl, inr, length-append, append_assoc}
use Rattle.std.specs.Prelude.{◌&&◌, not, ℤ, filter, slice_get, nat_le, is_some, unwrap_or}
use Rattle.std.specs.List.{suffix_len}
use Rattle.std.proofs.lemmas.Bool.{and_parts, and_left, and_right, cases_eq, false_from_ne_true, ne_eqb, eq-eqb, eqb-true, not-true, ltb-true, lt-ltb}
use Rattle.cw_tree.specs.declared.node.Node.{Node}
use Rattle.cw_tree.specs.declared.node.Kind.TheVariants.{Fork, Strand}
use Rattle.cw_tree.specs.declared.conflict.Conflict.{Conflict}
use Rattle.cw_tree.specs.Nodes.{passes, number_in, is_strand_kind, is_fork_kind, is_block_kind, is_pending_state, is_aborted_state, parent_of, is_strand, is_fork, is_pending, is_aborted, all_nodes, fresh_node}
use Rattle.cw_tree.specs.Walks.{IsRooted, has}
use Rattle.cw_tree.specs.Series.{strand_of, children, place}
use Rattle.cw_tree.specs.Shape.{IsTree}
use Rattle.cw_tree.specs.Refusals.{is_victim}
use Rattle.cw_tree.specs.Attempts.{tried_cell, same_cell, elders}
use Rattle.cw_tree.specs.NextNodes.{fork_nodes}
use Rattle.cw_tree.proofs.Lists.{any_in}
use Rattle.cw_tree.proofs.Members.{in_filter, in_below, suffix_same}
use Rattle.cw_tree.proofs.NextNodes.Growing.{get_next, length_more, node_grown, number_grown, strand_of_grown, is_above_grown}
use Rattle.cw_tree.proofs.NextNodes.Trees.{no_fork}
use Rattle.cw_tree.proofs.Walks.Ancestors.{above_ancestor, ancestor_le}
use Rattle.cw_tree.proofs.Walks.Strands.{strand_of_strand, strand_of_other, strand_of_le}
use Rattle.cw_tree.proofs.LastBelow.{last_past}
use Rattle.cw_trace.specs.Columns.{ColumnTable, used}
use Rattle.cw_trace.specs.Stands.{fork_column, column}
use Rattle.cw_trace.proofs.Keeps.Grow.{fork_column_append, column_append}
use Rattle.cw_trace.proofs.Keeps.Forking.{get_right}
use Rattle.cw_open.specs.Machine.{OpenMachine, has_finished, finished_dead, waits, is_running, is_dying, is_free, falls}
use Rattle.cw_open.specs.Runs.{at_once}
use Rattle.cw_open.proofs.Laws.ListSteps.{none_new}
use Rattle.cw_open.proofs.Open.Standing.{runs, stands}
use Rattle.cw_open.proofs.Open.TreeSteps.{free_runs}
use Rattle.cw_open.proofs.Refused.Victims.{IsTold, told_states}
use Rattle.cw_open.proofs.Refused.Backed.{dead_finished}
use Rattle.cw_core.specs.declared.row.Made.{Made}
use Rattle.cw_core.specs.declared.row.Tail.{Tail}
use Rattle.cw_core.specs.declared.row.Now.{Now}
use Rattle.cw_core.specs.declared.row.Row.{Row}
use Rattle.cw_core.specs.State.{CoreState, has_columns, is_split, waits_for_left}
use Rattle.cw_core.specs.Laws.{IsCore}
use Rattle.cw_core.specs.Kept.{IsMade, IsTail, IsNow, IsRow, AreRows, IsVictim, is_counted, elder_list, plain_tail, fork_row, strand_row, with_row_changed, with_tail, with_wait}
use Rattle.cw_core.proofs.Events.Going.{well, at_place}
use Rattle.cw_core.proofs.Kept.Tails.{suffix_more, child_low}
use Rattle.cw_core.proofs.Events.Places.{place_grown, waits_grown, waits_for}
use Rattle.cw_core.proofs.Kept.Changed.{length_changed, was_changed, was_there}
use Rattle.cw_core.proofs.Kept.Stakes.{stake_old, falls_still}
use Rattle.cw_core.proofs.Kept.RowsGrow.{tried_grown}
use Rattle.cw_core.proofs.Kept.PartsGrow.{all_at}
use Rattle.cw_core.proofs.Fits.Dying.{dying_is}
use Rattle.cw_core.proofs.Kept.ForkTails.{elders_apart, place_children, fork_children, other_children, no_children}

module _ (first : List ℤ) (k : CoreState) (core : IsCore first k) (s : ℕ) (free : is_free k.machine s ≡ true) (ready : waits_for_left k s ≡ false) (stamp clock : ℕ) (d : ColumnTable) (room : d.room ≡ k.tier.room)
    (columns : (n : ℕ) → n < length k.machine.tree → column k.machine.tree (used d) n ≡ column k.machine.tree (used k.tier) n) where
  abbrev t : List Node
  t = k.machine.tree

  abbrev m : OpenMachine
  m = k.machine

  abbrev p : ℕ
  p = place t s

  abbrev f : ℕ
  f = length t

  abbrev xs : List Node
  xs = fork_nodes f p stamp

  abbrev u : List Node
  u = t ++ xs

  abbrev z : CoreState
  z = record k { machine = record m { tree = u; clock = clock }; tier = d }

  running : is_running m s ≡ true
  running = free_runs m s free

  rooted : IsRooted t
  rooted = (well first k core).sound.tree.rooted

  there : p < length t
  there = (at_place first k core s running ready).there

  some : 0 < length t
  some = let h = there in omega arith

  place_no_fork : is_fork t p ≡ false
  place_no_fork = no_fork t p (at_place first k core s running ready).holds

  own : strand_of t p ≡ s
  own = (stands m (well first k core).sound.tree (well first k core).nested s running).strand

  strand_there : s < length t
  strand_there = Rattle.cw_tree.proofs.Walks.There.node_there (λ y. is_strand_kind y.kind) t s (runs m (well first k core).sound.tree (well first k core).nested s running).strand

  strand_same : (n : ℕ) → n < f → is_strand u n ≡ is_strand t n
  strand_same n h = node_grown t xs (λ y. is_strand_kind y.kind) n h

  fork_same : (n : ℕ) → n < f → is_fork u n ≡ is_fork t n
  fork_same n h = node_grown t xs (λ y. is_fork_kind y.kind) n h

  aborted_same : (n : ℕ) → n < f → is_aborted u n ≡ is_aborted t n
  aborted_same n h = node_grown t xs (λ y. is_block_kind y.kind && is_aborted_state y.state) n h

  quiet : (n : ℕ) → f ≤ n → is_pending u n ≡ false
  quiet n le = none_new (λ y. is_block_kind y.kind && is_pending_state y.state) t xs n refl le

  -- ## What is known of nodes since they were made

  pub made_forked : (n : ℕ) (r : Made) → n < f → IsMade k n r → IsMade z n r
  made_forked n r h w =
      let parent_same : parent_of u n ≡ parent_of t n = number_grown t xs (λ y. y.parent) n h in
      let columns_same : fork_column u n ≡ fork_column t n = fork_column_append t xs rooted (used k.tier) n (omega arith) in
      record {
        strand = strand_of_grown t xs rooted n h ∙ w.strand;
        column = λ e. column_append t xs rooted (used d) n h ∙ columns n h ∙ w.column (sym (strand_same n h) ∙ e);
        elder = λ e.
            ap (λ q. filter (λ l. nat_lt l n) (children u q)) parent_same
            ∙ elders_apart xs t (parent_of t n) n some (omega arith)
            ∙ w.elder (sym (strand_same n h) ∙ e);
        halves = λ e.
            (let fork = sym (fork_same n h) ∙ e in
            other_children t rooted p stamp there n (λ q. absurd (let a = ap (is_fork t) q in cc (a, fork, place_no_fork))) (λ q. absurd (omega (arith, q))) ∙ w.halves fork);
        columns = λ e. ap (λ c. nat_le (c + 2) d.room) columns_same ∙ ap (nat_le (fork_column t n + 2)) room ∙ w.columns (sym (fork_same n h) ∙ e);
        forked = λ e c. columns_same ∙ w.forked (sym (fork_same n h) ∙ e) c;
        attempt = λ e.
            ap (λ q. suffix_len (is_aborted u) (filter (λ l. nat_lt l n) (children u q)) + 1) parent_same
            ∙ ap (λ ns. suffix_len (is_aborted u) ns + 1) (elders_apart xs t (parent_of t n) n some (omega arith))
            ∙ ap (λ c. c + 1) (suffix_same (is_aborted u) (is_aborted t) (elders t n) (λ v i. aborted_same v (child_low t (parent_of t n) v (in_filter (λ l. nat_lt l n) v (children t (parent_of t n)) i).0)))
            ∙ w.attempt (sym (node_grown t xs (λ y. is_block_kind y.kind && is_pending_state y.state) n h) ∙ e);
      }

  -- ## How children end

  pub tail_apart : (n : ℕ) (r : Tail) → n < f → n ≢ p → IsTail t n r → IsTail u n r
  tail_apart n r h ne w =
      let same : children u n ≡ children t n = other_children t rooted p stamp there n ne (λ q. absurd (omega (arith, q))) in
      record {
        started = ap (λ ns. nat_eq (length ns) 0) same ∙ w.started;
        aborted = ap (suffix_len (is_aborted u)) same ∙ suffix_same (is_aborted u) (is_aborted t) (children t n) (λ v i. aborted_same v (child_low t n v i)) ∙ w.aborted;
        tried = λ c.
            ap (suffix_len (λ m. same_cell (tried_cell u m) (Some c))) same
            ∙ suffix_same (λ m. same_cell (tried_cell u m) (Some c)) (λ m. same_cell (tried_cell t m) (Some c)) (children t n) (λ v i. ap (λ o. same_cell o (Some c)) (tried_grown t xs v (child_low t n v i)))
            ∙ w.tried c;
      }

  abbrev one : Node
  one = fresh_node p Fork stamp

  abbrev half : Node
  half = fresh_node f Strand 0

  none : (c : ℕ) → (let n : ℕ = 0 in n) ≡ cond (nat_eq 0 c) 0 0
  none c = by (nat_eq 0 c) where
    by : (b : Bool) → (let n : ℕ = 0 in n) ≡ cond b 0 0
    by true = refl
    by false = refl

  -- children that end with a node that is neither rolled back nor refused
  plain : (n : ℕ) (older : List ℕ) (v : ℕ) → children u n ≡ older ++ v ∷ [] → is_aborted u v ≡ false → tried_cell u v ≡ None → IsTail u n plain_tail
  plain n older v more fresh untried = record {
    started = ap (λ ns. nat_eq (length ns) 0) more ∙ ne_eqb (length (older ++ v ∷ [])) 0 (λ q. absurd (omega (arith, q, length-append older (v ∷ []))));
    aborted = ap (suffix_len (is_aborted u)) more ∙ suffix_more (is_aborted u) older v ∙ ap (λ b. cond b (1 + suffix_len (is_aborted u) older) 0) fresh;
    tried = λ c.
        ap (suffix_len (λ m. same_cell (tried_cell u m) (Some c))) more
        ∙ suffix_more (λ m. same_cell (tried_cell u m) (Some c)) older v
        ∙ ap (λ o. cond (same_cell o (Some c)) (1 + suffix_len (λ m. same_cell (tried_cell u m) (Some c)) older) 0) untried
        ∙ none c;
  }

  at_fork : slice_get u f ≡ Some one
  at_fork = get_next t one (half ∷ half ∷ [])

  at_left : slice_get u (suc f) ≡ Some half
  at_left = ap (slice_get u) (let e : suc f ≡ f + 1 = omega arith in e) ∙ get_right t xs 1

  at_right : slice_get u (suc (suc f)) ≡ Some half
  at_right = ap (slice_get u) (let e : suc (suc f) ≡ f + 2 = omega arith in e) ∙ get_right t xs 2

  pub tail_place : IsTail u p plain_tail
  tail_place = plain p (children t p) f (place_children t rooted p stamp there) (ap (passes (λ y. is_block_kind y.kind && is_aborted_state y.state)) at_fork) (rw at_fork refl)

  tail_fork : IsTail u f plain_tail
  tail_fork = plain f (suc f ∷ []) (suc (suc f)) (fork_children t rooted p stamp there) (ap (passes (λ y. is_block_kind y.kind && is_aborted_state y.state)) at_right) (rw at_right refl)

  -- ## What becomes of nodes

  module _ (tree : IsTree u) where
    len : length u ≡ f + 3
    len = length-append t xs

    fork_strand : strand_of u f ≡ s
    fork_strand =
        strand_of_other u tree.rooted f some (omega (arith, len)) (ap (passes (λ y. is_strand_kind y.kind)) at_fork)
        ∙ ap (strand_of u) (ap (number_in (λ y. y.parent)) at_fork)
        ∙ strand_of_grown t xs rooted p there
        ∙ own

    no_half : (n : ℕ) → f < n → n < length u → is_fork u n ≡ false
    no_half n lo hi = elim (cases_eq n (suc f)) [
      | inl e ↦ ap (is_fork u) e ∙ ap (passes (λ y. is_fork_kind y.kind)) at_left
      | inr ne ↦ (let e : n ≡ suc (suc f) = omega (arith, len) in ap (is_fork u) e ∙ ap (passes (λ y. is_fork_kind y.kind)) at_right)
    ]

    waits_other : (n : ℕ) → n ≢ s → waits z.machine n ≡ waits m n
    waits_other n ne = waits_grown t xs rooted m z.machine refl refl refl n (λ g a b. elim (cases_eq g f) [
      | inl e ↦ and_right (is_fork u g) (nat_eq (strand_of u g) n) (ne_eqb (strand_of u g) n (λ q. ne (sym (sym fork_strand ∙ ap (strand_of u) (sym e) ∙ q))))
      | inr nf ↦ and_left (is_fork u g) (nat_eq (strand_of u g) n) (no_half g (omega arith) b)
    ])

    waits_now : waits z.machine s ≡ true
    waits_now = waits_for z.machine s f (omega (arith, len)) (ap (passes (λ y. is_fork_kind y.kind)) at_fork) fork_strand (false_from_ne_true (has m.joined f) (λ e. absurd (let h = (well first k core).joined f e in omega arith)))

    same_place : (n : ℕ) → place u n ≡ place t n
    same_place n = place_grown t xs rooted n (λ b le h. and_left (is_pending u b) (nat_eq (strand_of u b) n) (quiet b le))

    -- ## Victims

    fresh : (c : Conflict) (v : ℕ) → f ≤ v → falls z.machine c v ≡ false
    fresh c v le = and_left (is_pending u v) (is_victim u (c ∷ []) v) (quiet v le)

    asker_low : (i : ℕ) (c : Conflict) → slice_get m.conflicts i ≡ Some c → c.asker < f
    asker_low i c at = (all_at (λ c. IsTold t c) m.conflicts i c at (told_states at_once first m core.reached).told).asker

    pub victim_none : (n : ℕ) → IsVictim m n None → IsVictim z.machine n None
    victim_none n w = λ i v c at stake. w i v c at (stake_old t xs rooted m z.machine refl refl refl n v c (asker_low i c at) (λ v le. fresh c v le) stake)

    counted_same : (n : ℕ) → n < f → n ≢ s → is_counted z.machine n ≡ is_counted m n
    counted_same n h ne =
        ap (λ q. cond (has_finished m n) (not (has m.joined q)) (is_running z.machine n)) (number_grown t xs (λ y. y.parent) n h)
        ∙ ap (λ b. cond (has_finished m n) (not (has m.joined (parent_of t n))) (b && not (has_finished m n) && not (waits z.machine n) && not (has m.stopped n))) (node_grown t xs (λ y. is_strand_kind y.kind) n h)
        ∙ ap (λ b. cond (has_finished m n) (not (has m.joined (parent_of t n))) (is_strand t n && not (has_finished m n) && not b && not (has m.stopped n))) (waits_other n ne)

    pub victim_forked : (n : ℕ) → n < f → n ≢ s → (o : Option ℕ) → IsVictim m n o → IsVictim z.machine n o
    victim_forked n h ne None w = victim_none n w
    victim_forked n h ne (Some y) w = (
      λ i v c at stake. w.0 i v c at (stake_old t xs rooted m z.machine refl refl refl n v c (asker_low i c at) (λ v le. fresh c v le) stake),
      λ e. (let q = w.1 (sym (counted_same n h ne) ∙ e) in (q.0, q.1, q.2, is_above_grown t xs rooted n q.1.asker (asker_low q.0 q.1 q.2) ∙ q.3, falls_still t xs rooted m z.machine refl refl refl q.1 y q.4)),
    )

    -- the strand that forks is free, so nothing is at stake for it
    pub no_victim_here : (o : Option ℕ) → IsVictim m s o → o ≡ None
    no_victim_here o w = by o (sym (dying_is first k core s running o w) ∙ not-true (is_dying m s) (and_parts (is_running m s) (not (is_dying m s)) free).1) where
      by : (o : Option ℕ) → is_some o ≡ false → o ≡ None
      by None e = refl
      by (Some x) e = absurd (cc e)

    now_apart : (n : ℕ) (r : Now) → n < f → n ≢ s → IsNow k n r → IsNow z n r
    now_apart n r h ne w = record {
      place = λ e. same_place n ∙ w.place (sym (strand_same n h) ∙ e);
      waits = λ e. waits_other n ne ∙ w.waits (sym (strand_same n h) ∙ e);
      finished = w.finished;
      dead = w.dead;
      victim = λ e. victim_forked n h ne r.victim (w.victim (sym (strand_same n h) ∙ e));
      quiet = λ e g. w.quiet (sym (strand_same n h) ∙ e) g;
      split = λ e.
          ap (λ c. nat_le (c + 2) d.room && has k.splits c) (fork_column_append t xs rooted (used k.tier) n (omega arith))
          ∙ ap (λ r. nat_le (fork_column t n + 2) r && has k.splits (fork_column t n)) room
          ∙ w.split (sym (fork_same n h) ∙ e);
      joined = w.joined;
    }

    now_here : (r : Now) → IsNow k s r → IsNow z s (record r { waits = true })
    now_here r w =
        let h = strand_there in
        let is : is_strand t s ≡ true = (runs m (well first k core).sound.tree (well first k core).nested s running).strand in
        let gone = no_victim_here r.victim (w.victim is) in
        let P : Option ℕ → Type 0 = λ o. IsVictim z.machine s o in
        let Q : Option ℕ → Type 0 = λ o. IsVictim m s o in
        record {
          place = λ e. same_place s ∙ w.place is;
          waits = λ e. waits_now;
          finished = w.finished;
          dead = w.dead;
          victim = λ e. subst P (sym gone) (victim_none s (subst Q gone (w.victim is)));
          quiet = λ e g. gone;
          split = λ e.
              ap (λ c. nat_le (c + 2) d.room && has k.splits c) (fork_column_append t xs rooted (used k.tier) s (omega arith))
              ∙ ap (λ r. nat_le (fork_column t s + 2) r && has k.splits (fork_column t s)) room
              ∙ w.split (sym (fork_same s h) ∙ e);
          joined = w.joined;
        }

    -- ## New nodes

    unfinished : (n : ℕ) → f ≤ n → has_finished m n ≡ false
    unfinished n le = false_from_ne_true (has_finished m n) (λ e. absurd (let h = (well first k core).finished n e in omega arith))

    undead : (n : ℕ) → f ≤ n → finished_dead m n ≡ false
    undead n le = false_from_ne_true (finished_dead m n) (λ e. absurd (let a = unfinished n le in let b = dead_finished m n e in cc (a, b)))

    unjoined : (n : ℕ) → f ≤ n → has m.joined n ≡ false
    unjoined n le = false_from_ne_true (has m.joined n) (λ e. absurd (let h = (well first k core).joined n e in omega arith))

    waits_new : (n : ℕ) → f ≤ n → waits z.machine n ≡ false
    waits_new n le =
        waits_other n (λ e. absurd (let h = strand_there in omega (arith, e)))
        ∙ false_from_ne_true (waits m n) (λ e.
        let v = any_in (λ g. is_fork t g && nat_eq (strand_of t g) n && not (has m.joined g)) (all_nodes t) e in
        let h = in_below v.0 (length t) v.1 in
        let a = and_parts (is_fork t v.0 && nat_eq (strand_of t v.0) n) (not (has m.joined v.0)) v.2 in
        let b = and_parts (is_fork t v.0) (nat_eq (strand_of t v.0) n) a.0 in
        absurd (let q = eqb-true (strand_of t v.0) n b.1 in let low = strand_of_le t rooted v.0 h in omega arith))

    place_new : (n : ℕ) → f ≤ n → place u n ≡ n
    place_new n le =
        same_place n
        ∙ ap (λ o. unwrap_or o n)
        (last_past (λ b. is_pending t b && nat_eq (strand_of t b) n) 0 (length t) (omega arith)
        (λ b a h. and_right (is_pending t b) (nat_eq (strand_of t b) n) (ne_eqb (strand_of t b) n (λ q. absurd (let low = strand_of_le t rooted b h in omega arith)))))

    pub fork_is : (c : ℕ) (columned : Bool) → has_columns z f ≡ columned → (columned ≡ true → fork_column u f ≡ c) → is_split z f ≡ false → IsRow z f (fork_row s c (suc f) (suc (suc f)) columned)
    fork_is c columned has is whole =
        let strand_no : is_strand u f ≡ false = ap (passes (λ y. is_strand_kind y.kind)) at_fork in
        record {
          made = record {
            strand = fork_strand;
            column = λ e. absurd (cc (e, strand_no));
            elder = λ e. absurd (cc (e, strand_no));
            halves = λ e. fork_children t rooted p stamp there;
            columns = λ e. has;
            forked = λ e g. is g;
            attempt = λ e. absurd (let q = quiet f (omega arith) in cc (e, q));
          };
          tail = tail_fork;
          now = record {
            place = λ e. absurd (cc (e, strand_no));
            waits = λ e. absurd (cc (e, strand_no));
            finished = unfinished f (omega arith);
            dead = undead f (omega arith);
            victim = λ e. absurd (cc (e, strand_no));
            quiet = λ e g. absurd (cc (e, strand_no));
            split = λ e. whole;
            joined = unjoined f (omega arith);
          };
        }

    pub strand_is : (n c : ℕ) (elder : Option ℕ) → f < n → slice_get u n ≡ Some half → n < length u → column u (used d) n ≡ c → filter (λ l. nat_lt l n) (children u f) ≡ elder_list elder → IsRow z n (strand_row n c elder)
    strand_is n c elder h at low is older =
        let fork_no : is_fork u n ≡ false = ap (passes (λ y. is_fork_kind y.kind)) at in
        let none_there = no_children t rooted p stamp there n h in
        record {
          made = record {
            strand = strand_of_strand u tree.rooted n (omega arith) low (ap (passes (λ y. is_strand_kind y.kind)) at);
            column = λ e. is;
            elder = λ e. ap (λ q. filter (λ l. nat_lt l n) (children u q)) (ap (number_in (λ y. y.parent)) at) ∙ older;
            halves = λ e. absurd (cc (e, fork_no));
            columns = λ e. absurd (cc (e, fork_no));
            forked = λ e g. absurd (cc (e, fork_no));
            attempt = λ e. absurd (let q = quiet n (omega arith) in cc (e, q));
          };
          tail = record {
            started = ap (λ ns. nat_eq (length ns) 0) none_there;
            aborted = ap (suffix_len (is_aborted u)) none_there;
            tried = λ c. ap (suffix_len (λ m. same_cell (tried_cell u m) (Some c))) none_there ∙ none c;
          };
          now = record {
            place = λ e. place_new n (omega arith);
            waits = λ e. waits_new n (omega arith);
            finished = unfinished n (omega arith);
            dead = undead n (omega arith);
            victim = λ e i v c at stake. absurd (let before = asker_low i c at in let le = ancestor_le u tree.rooted n c.asker (omega (arith, len)) (above_ancestor u n c.asker stake.over) in omega arith);
            quiet = λ e g. refl;
            split = λ e. absurd (cc (e, fork_no));
            joined = unjoined n (omega arith);
          };
        }

    -- ## All rows

    not_less : (a b : ℕ) → b ≤ a → nat_lt a b ≡ false
    not_less a b le = false_from_ne_true (nat_lt a b) (λ e. absurd (let h = ltb-true a b e in omega arith))

    first_elders : filter (λ l. nat_lt l (suc f)) (children u f) ≡ []
    first_elders =
        ap (filter (λ l. nat_lt l (suc f))) (fork_children t rooted p stamp there)
        ∙ ap (λ b. cond b (suc f ∷ filter (λ l. nat_lt l (suc f)) (suc (suc f) ∷ [])) (filter (λ l. nat_lt l (suc f)) (suc (suc f) ∷ []))) (not_less (suc f) (suc f) (omega arith))
        ∙ ap (λ b. cond b (suc (suc f) ∷ []) []) (not_less (suc (suc f)) (suc f) (omega arith))

    second_elders : filter (λ l. nat_lt l (suc (suc f))) (children u f) ≡ suc f ∷ []
    second_elders =
        ap (filter (λ l. nat_lt l (suc (suc f)))) (fork_children t rooted p stamp there)
        ∙ ap (λ b. cond b (suc f ∷ filter (λ l. nat_lt l (suc (suc f))) (suc (suc f) ∷ [])) (filter (λ l. nat_lt l (suc (suc f))) (suc (suc f) ∷ []))) (lt-ltb (suc f) (suc (suc f)) (omega arith))
        ∙ ap (λ b. suc f ∷ cond b (suc (suc f) ∷ []) []) (not_less (suc (suc f)) (suc (suc f)) (omega arith))

    tail_at : (n : ℕ) (r : Row) (a : Bool) → nat_eq n p ≡ a → IsRow k n r → n < f → IsTail u n (cond a (with_tail plain_tail r) r).tail
    tail_at n r true e w h = let P : ℕ → Type 0 = λ n. IsTail u n plain_tail in subst P (sym (eqb-true n p e)) tail_place
    tail_at n r false e w h = tail_apart n r.tail h (λ q. absurd (cc (e, eq-eqb n p q))) w.tail

    now_at : (n : ℕ) (r : Row) (b : Bool) → nat_eq n s ≡ b → IsRow k n r → n < f → IsNow z n (cond b (with_wait r) r).now
    now_at n r true e w h =
        let q = eqb-true n s e in
        let P : ℕ → Type 0 = λ n. IsNow z n (with_wait r).now in
        let Q : ℕ → Type 0 = λ n. IsNow k n r.now in
        subst P (sym q) (now_here r.now (subst Q q w.now))
    now_at n r false e w h = now_apart n r.now h (λ q. absurd (cc (e, eq-eqb n s q))) w.now

    row_at : (n : ℕ) (r : Row) (a b : Bool) → nat_eq n p ≡ a → nat_eq n s ≡ b → IsRow k n r → n < f → IsRow z n (cond b (with_wait (cond a (with_tail plain_tail r) r)) (cond a (with_tail plain_tail r) r))
    row_at n r true true ea eb w h = record { made = made_forked n r.made h w.made; tail = tail_at n r true ea w h; now = now_at n r true eb w h }
    row_at n r true false ea eb w h = record { made = made_forked n r.made h w.made; tail = tail_at n r true ea w h; now = now_at n r false eb w h }
    row_at n r false true ea eb w h = record { made = made_forked n r.made h w.made; tail = tail_at n r false ea w h; now = now_at n r true eb w h }
    row_at n r false false ea eb w h = record { made = made_forked n r.made h w.made; tail = tail_at n r false ea w h; now = now_at n r false eb w h }

    module _ (lc rc : ℕ) (columned : Bool) (has_is : has_columns z f ≡ columned) (fork_at : columned ≡ true → fork_column u f ≡ lc) (whole : is_split z f ≡ false)
        (left_at : column u (used d) (suc f) ≡ lc) (right_at : column u (used d) (suc (suc f)) ≡ rc) (rows : List Row) (w : AreRows k rows) where
      abbrev once : List Row
      once = with_row_changed (with_tail plain_tail) p rows

      abbrev a : Row
      a = fork_row s lc (suc f) (suc (suc f)) columned

      abbrev b : Row
      b = strand_row (suc f) lc None

      abbrev c : Row
      c = strand_row (suc (suc f)) rc (Some (suc f))

      abbrev one_more : List Row
      one_more = once ++ a ∷ []

      abbrev two_more : List Row
      two_more = one_more ++ b ∷ []

      in_turn : once ++ a ∷ b ∷ c ∷ [] ≡ two_more ++ c ∷ []
      in_turn = sym (append_assoc once (a ∷ []) (b ∷ c ∷ [])) ∙ sym (append_assoc one_more (b ∷ []) (c ∷ []))

      len_once : length once ≡ f
      len_once = length_changed (with_tail plain_tail) p rows ∙ w.len

      len_one : length one_more ≡ suc f
      len_one = length_more once a ∙ ap suc len_once

      len_two : length two_more ≡ suc (suc f)
      len_two = length_more one_more b ∙ ap suc len_one

      still : (n : ℕ) (before r : Row) → f ≤ n → r ≡ cond (nat_eq n s) (with_wait before) before → r ≡ before
      still n before r le is = is ∙ ap (λ b. cond b (with_wait before) before) (ne_eqb n s (λ q. absurd (let h = strand_there in omega (arith, q))))

      old_is : (n : ℕ) (before r : Row) → slice_get once n ≡ Some before → n < f → r ≡ cond (nat_eq n s) (with_wait before) before → IsRow z n r
      old_is n before r at h is =
          let q = was_changed (with_tail plain_tail) p rows n before at in
          let P : Row → Type 0 = λ r. IsRow z n r in
          let same : r ≡ cond (nat_eq n s) (with_wait (cond (nat_eq n p) (with_tail plain_tail q.before) q.before)) (cond (nat_eq n p) (with_tail plain_tail q.before) q.before) = is ∙ ap (λ r. cond (nat_eq n s) (with_wait r) r) q.is in
          subst P (sym same) (row_at n q.before (nat_eq n p) (nat_eq n s) refl refl (w.each n q.before q.there) h)

      new_is : (n j : ℕ) (before r x : Row) → n ≡ j → f ≤ j → before ≡ x → r ≡ cond (nat_eq n s) (with_wait before) before → IsRow z j x → IsRow z n r
      new_is n j before r x at le same is row =
          let P : Row → Type 0 = λ r. IsRow z n r in
          let Q : ℕ → Type 0 = λ n. IsRow z n x in
          subst P (sym (still n before r (omega (arith, at)) is ∙ same)) (subst Q (sym at) row)

      each : (n : ℕ) (r : Row) → slice_get (with_row_changed with_wait s (once ++ a ∷ b ∷ c ∷ [])) n ≡ Some r → IsRow z n r
      each n r e =
          let q = was_changed with_wait s (once ++ a ∷ b ∷ c ∷ []) n r e in
          elim (was_there two_more c n q.before (sym (ap (λ l. slice_get l n) in_turn) ∙ q.there)) [
            | inr new ↦ new_is n (suc (suc f)) q.before r c (new.0 ∙ len_two) (omega arith) new.1 q.is (strand_is (suc (suc f)) rc (Some (suc f)) (omega arith) at_right (omega (arith, len)) right_at second_elders)
            | inl at_two ↦ elim (was_there one_more b n q.before at_two.1) [
              | inr new ↦ new_is n (suc f) q.before r b (new.0 ∙ len_one) (omega arith) new.1 q.is (strand_is (suc f) lc None (omega arith) at_left (omega (arith, len)) left_at first_elders)
              | inl at_one ↦ elim (was_there once a n q.before at_one.1) [
                | inr new ↦ new_is n f q.before r a (new.0 ∙ len_once) (omega arith) new.1 q.is (fork_is lc columned has_is fork_at whole)
                | inl old ↦ old_is n q.before r old.1 (omega (arith, old.0, len_once)) q.is
              ]
            ]
          ]

      pub rows_forked : AreRows z (with_row_changed with_wait s (once ++ a ∷ b ∷ c ∷ []))
      rows_forked = record {
        len = length_changed with_wait s (once ++ a ∷ b ∷ c ∷ []) ∙ ap length in_turn ∙ length_more two_more c ∙ omega (arith, len_two, len);
        each = each;
      }
