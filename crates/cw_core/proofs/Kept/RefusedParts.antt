-- The parts of a core after an access that is refused.
use Rattle.std.proofs.Common.{◌≡◌, ◌≢◌, ℕ, suc, ◌+◌, ◌<◌, ◌≤◌, ◌^◌, List, [], ◌∷◌, ◌++◌, length, refl, ap, sym, ◌∙◌, subst, arith, Bool, true, false, cond, Option, Some, nat_eq, inl, inr, length-append}
use Rattle.std.specs.Prelude.{◌&&◌, not, ℤ, slice_get}
use Rattle.std.specs.List.{suffix_len}
use Rattle.std.proofs.lemmas.Bool.{and_parts, and_left, ne_eqb, eq-eqb, eqb-true, not-true}
use Rattle.cw_tree.specs.declared.node.Node.{Node}
use Rattle.cw_tree.specs.declared.conflict.Conflict.{Conflict}
use Rattle.cw_tree.specs.declared.node.Kind.TheVariants.{Tried}
use Rattle.cw_tree.specs.Nodes.{is_strand_kind, is_fork_kind, is_block_kind, is_tried_kind, is_pending_state, is_aborted_state, parent_of, is_strand, is_block, is_tried, is_pending, is_aborted, fresh_node}
use Rattle.cw_tree.specs.Walks.{IsRooted, has}
use Rattle.cw_tree.specs.Series.{strand_of, children, place}
use Rattle.cw_tree.specs.Attempts.{tried_cell, same_cell}
use Rattle.cw_tree.proofs.Walks.There.{node_there}
use Rattle.cw_tree.proofs.NextNodes.Growing.{get_next, node_grown, number_grown, node_new, length_more}
use Rattle.cw_tree.proofs.Members.{suffix_same}
use Rattle.cw_stack.specs.Cells.{CellParts}
use Rattle.cw_trace.specs.Columns.{used}
use Rattle.cw_trace.proofs.Keeps.Grow.{fork_column_append}
use Rattle.cw_open.specs.Machine.{OpenMachine, has_finished, waits, is_running, is_free}
use Rattle.cw_open.proofs.Laws.ListSteps.{none_new}
use Rattle.cw_open.proofs.Open.Standing.{runs}
use Rattle.cw_open.proofs.Open.TreeSteps.{free_runs}
use Rattle.cw_core.specs.declared.row.Tail.{Tail}
use Rattle.cw_core.specs.declared.row.Now.{Now}
use Rattle.cw_core.specs.declared.row.Row.{Row}
use Rattle.cw_core.specs.State.{CoreState, waits_for_left, spent}
use Rattle.cw_core.specs.Laws.{IsCore}
use Rattle.cw_core.specs.Kept.{IsTail, IsNow, IsRow, AreRows, AreForks, IsHeld, AreParts, IsVictim, is_counted, with_row_changed, with_tail, with_victim, tried_tail, leaf_row}
use Rattle.cw_core.proofs.Events.Going.{well, at_place}
use Rattle.cw_core.proofs.Kept.Tails.{suffix_more, child_low, children_here}
use Rattle.cw_core.proofs.Events.Places.{place_grown}
use Rattle.cw_core.proofs.Kept.Changed.{length_changed, was_changed, was_there}
use Rattle.cw_core.proofs.Kept.RowsGrow.{tried_grown, made_grown, now_grown, new_row, tail_other, waits_same}
use Rattle.cw_core.proofs.Kept.PartsGrow.{askers_still, forks_still, held_still, closed_still}
use Rattle.cw_core.proofs.Kept.RefusedStakes.{victim_other}
use Rattle.cw_core.proofs.Kept.Entering.{there_or_last}

module _ (first : List ℤ) (k : CoreState) (core : IsCore first k) (s : ℕ) (free : is_free k.machine s ≡ true) (ready : waits_for_left k s ≡ false) (c : ℕ) (conflict : Conflict) (asks : conflict.asker ≡ length k.machine.tree) where
  abbrev t : List Node
  t = k.machine.tree

  abbrev m : OpenMachine
  m = k.machine

  abbrev p : ℕ
  p = place t s

  abbrev f : ℕ
  f = length t

  abbrev x : Node
  x = fresh_node p (Tried c) 0

  abbrev u : List Node
  u = t ++ x ∷ []

  abbrev conflicts : List Conflict
  conflicts = m.conflicts ++ conflict ∷ []

  abbrev pub refused_state : CoreState
  refused_state = record k { machine = record m { tree = u; conflicts = conflicts } }

  abbrev z : CoreState
  z = refused_state

  running : is_running m s ≡ true
  running = free_runs m s free

  rooted : IsRooted t
  rooted = (well first k core).sound.tree.rooted

  there : p < length t
  there = (at_place first k core s running ready).there

  strand_there : s < length t
  strand_there = node_there (λ y. is_strand_kind y.kind) t s (runs m (well first k core).sound.tree (well first k core).nested s running).strand

  quiet : (n : ℕ) → f ≤ n → is_pending u n ≡ false
  quiet n le = none_new (λ y. is_block_kind y.kind && is_pending_state y.state) t (x ∷ []) n refl le

  same_place : (n : ℕ) → place u n ≡ place t n
  same_place n = place_grown t (x ∷ []) rooted n (λ b le h. and_left (is_pending u b) (nat_eq (strand_of u b) n) (quiet b le))

  waits_still : (n : ℕ) → waits z.machine n ≡ waits m n
  waits_still n = waits_same first k core s running ready x refl m.lists m.clock conflicts k.words refl n

  pub counted_same : (n : ℕ) → n < f → is_counted z.machine n ≡ is_counted m n
  counted_same n h =
      ap (λ q. cond (has_finished m n) (not (has m.joined q)) (is_running z.machine n)) (number_grown t (x ∷ []) (λ y. y.parent) n h)
      ∙ ap (λ b. cond (has_finished m n) (not (has m.joined (parent_of t n))) (b && not (has_finished m n) && not (waits z.machine n) && not (has m.stopped n))) (node_grown t (x ∷ []) (λ y. is_strand_kind y.kind) n h)
      ∙ ap (λ b. cond (has_finished m n) (not (has m.joined (parent_of t n))) (is_strand t n && not (has_finished m n) && not b && not (has m.stopped n))) (waits_still n)

  -- ## How the children of the place end

  tried_new : tried_cell u f ≡ Some c
  tried_new = rw (get_next t x []) refl

  pub tail_tried : (r : Tail) → IsTail t p r → IsTail u p (tried_tail c r)
  tail_tried r w =
      let more : children u p ≡ children t p ++ f ∷ [] = children_here t x (omega (arith, there)) in
      record {
        started = ap (λ ns. nat_eq (length ns) 0) more ∙ ne_eqb (length (children t p ++ f ∷ [])) 0 (λ q. absurd (omega (arith, q, length-append (children t p) (f ∷ []))));
        aborted = ap (suffix_len (is_aborted u)) more ∙ suffix_more (is_aborted u) (children t p) f ∙ ap (λ b. cond b (1 + suffix_len (is_aborted u) (children t p)) 0) (node_new t x (λ y. is_block_kind y.kind && is_aborted_state y.state));
        tried = λ d.
            ap (suffix_len (λ n. same_cell (tried_cell u n) (Some d))) more
            ∙ suffix_more (λ n. same_cell (tried_cell u n) (Some d)) (children t p) f
            ∙ ap (λ o. cond (same_cell o (Some d)) (1 + suffix_len (λ n. same_cell (tried_cell u n) (Some d)) (children t p)) 0) tried_new
            ∙ by d (nat_eq c d) refl;
      } where
        older : (d : ℕ) → suffix_len (λ n. same_cell (tried_cell u n) (Some d)) (children t p) ≡ cond (nat_eq r.cell d) r.tried 0
        older d =
            suffix_same (λ n. same_cell (tried_cell u n) (Some d)) (λ n. same_cell (tried_cell t n) (Some d)) (children t p) (λ v i. ap (λ o. same_cell o (Some d)) (tried_grown t (x ∷ []) v (child_low t p v i)))
            ∙ w.tried d

        by : (d : ℕ) (b : Bool) → nat_eq c d ≡ b → cond b (1 + suffix_len (λ n. same_cell (tried_cell u n) (Some d)) (children t p)) 0 ≡ cond b (cond (nat_eq r.cell c) r.tried 0 + 1) 0
        by d false e = refl
        by d true e =
            let same = eqb-true c d e in
            let o = older d ∙ ap (λ d. cond (nat_eq r.cell d) r.tried 0) (sym same) in
            let next : (n j : ℕ) → n ≡ j → 1 + n ≡ j + 1 = λ n j q. omega (arith, q) in
            next (suffix_len (λ n. same_cell (tried_cell u n) (Some d)) (children t p)) (cond (nat_eq r.cell c) r.tried 0) o

  -- ## Rows

  module _ (victim : Option ℕ) (marked : (o : Option ℕ) → IsVictim m s o → IsVictim z.machine s victim) where
    now_other : (n : ℕ) (r : Now) → n < f → n ≢ s → IsNow k n r → IsNow z n r
    now_other n r h ne w =
        now_grown first k core s running ready x refl m.lists m.clock conflicts k.words refl n r r.place h w (λ e. same_place n ∙ w.place e)
        (λ e. victim_other first k core s free ready c conflict asks counted_same n h e ne r.victim (w.victim e))

    now_asks : (r : Now) → IsNow k s r → IsNow z s (record r { victim = victim })
    now_asks r w =
        let is = (runs m (well first k core).sound.tree (well first k core).nested s running).strand in
        let a = and_parts (is_strand t s && not (has_finished m s) && not (waits m s)) (not (has m.stopped s)) running in
        let b = and_parts (is_strand t s && not (has_finished m s)) (not (waits m s)) a.0 in
        let still = not-true (waits m s) b.1 in
        let v = marked r.victim (w.victim is) in
        record {
          place = λ e. same_place s ∙ w.place is;
          waits = λ e. waits_still s ∙ w.waits is;
          finished = w.finished;
          dead = w.dead;
          victim = λ e. v;
          quiet = λ e g. absurd (let q = w.waits is in cc (q, still, g));
          split = λ e.
              ap (λ c. Rattle.std.specs.Prelude.nat_le (c + 2) k.tier.room && has k.splits c) (fork_column_append t (x ∷ []) rooted (used k.tier) s (let h = strand_there in omega arith))
              ∙ w.split (sym (node_grown t (x ∷ []) (λ y. is_fork_kind y.kind) s strand_there) ∙ e);
          joined = w.joined;
        }

    tail_at : (n : ℕ) (r : Row) (tail : Tail) → IsTail u p tail → (a : Bool) → nat_eq n p ≡ a → IsRow k n r → n < f → IsTail u n (cond a (with_tail tail r) r).tail
    tail_at n r tail is true e w h = let P : ℕ → Type 0 = λ n. IsTail u n tail in subst P (sym (eqb-true n p e)) is
    tail_at n r tail is false e w h = tail_other first k core s running ready x refl n r.tail h (λ q. absurd (cc (e, eq-eqb n p q))) w.tail

    now_at : (n : ℕ) (r : Row) (b : Bool) → nat_eq n s ≡ b → IsRow k n r → n < f → IsNow z n (cond b (with_victim victim r) r).now
    now_at n r true e w h =
        let q = eqb-true n s e in
        let P : ℕ → Type 0 = λ n. IsNow z n (with_victim victim r).now in
        let Q : ℕ → Type 0 = λ n. IsNow k n r.now in
        subst P (sym q) (now_asks r.now (subst Q q w.now))
    now_at n r false e w h = now_other n r.now h (λ q. absurd (cc (e, eq-eqb n s q))) w.now

    module _ (tail : Tail) (tail_is : IsTail u p tail) where
      row_at : (n : ℕ) (r : Row) (a b : Bool) → nat_eq n p ≡ a → nat_eq n s ≡ b → IsRow k n r → n < f → IsRow z n (cond b (with_victim victim (cond a (with_tail tail r) r)) (cond a (with_tail tail r) r))
      row_at n r true true ea eb w h = record { made = made_grown first k core s running ready x refl m.lists m.clock conflicts k.words n r.made h w.made; tail = tail_at n r tail tail_is true ea w h; now = now_at n r true eb w h }
      row_at n r true false ea eb w h = record { made = made_grown first k core s running ready x refl m.lists m.clock conflicts k.words n r.made h w.made; tail = tail_at n r tail tail_is true ea w h; now = now_at n r false eb w h }
      row_at n r false true ea eb w h = record { made = made_grown first k core s running ready x refl m.lists m.clock conflicts k.words n r.made h w.made; tail = tail_at n r tail tail_is false ea w h; now = now_at n r true eb w h }
      row_at n r false false ea eb w h = record { made = made_grown first k core s running ready x refl m.lists m.clock conflicts k.words n r.made h w.made; tail = tail_at n r tail tail_is false ea w h; now = now_at n r false eb w h }

      module _ (rows : List Row) (w : AreRows k rows) where
        abbrev once : List Row
        once = with_row_changed (with_tail tail) p rows

        same_len : length once ≡ f
        same_len = length_changed (with_tail tail) p rows ∙ w.len

        each : (n : ℕ) (r : Row) → slice_get (with_row_changed (with_victim victim) s (once ++ leaf_row s 0 ∷ [])) n ≡ Some r → IsRow z n r
        each n r e =
            let q = was_changed (with_victim victim) s (once ++ leaf_row s 0 ∷ []) n r e in
            let P : Row → Type 0 = λ r. IsRow z n r in
            elim (was_there once (leaf_row s 0) n q.before q.there) [
              | inl old ↦
                  (let d = was_changed (with_tail tail) p rows n q.before old.1 in
                  let h : n < f = omega (arith, old.0, same_len) in
                  let is : r ≡ cond (nat_eq n s) (with_victim victim (cond (nat_eq n p) (with_tail tail d.before) d.before)) (cond (nat_eq n p) (with_tail tail d.before) d.before) =
                  q.is ∙ ap (λ r. cond (nat_eq n s) (with_victim victim r) r) d.is in
                  subst P (sym is) (row_at n d.before (nat_eq n p) (nat_eq n s) refl refl (w.each n d.before d.there) h))
              | inr new ↦
                  (let at : n ≡ f = new.0 ∙ same_len in
                  let apart : nat_eq n s ≡ false = ne_eqb n s (λ e. absurd (let h = strand_there in omega (arith, at, e))) in
                  let is : r ≡ leaf_row s 0 = q.is ∙ ap (λ b. cond b (with_victim victim q.before) q.before) apart ∙ new.1 in
                  let Q : ℕ → Type 0 = λ n. IsRow z n (leaf_row s 0) in
                  subst P (sym is) (subst Q (sym at) (new_row first k core s running ready x refl m.lists m.clock conflicts k.words refl refl 0 (λ e. absurd (let g = quiet f (omega arith) in cc (e, g))))))
            ]

        pub rows_refused : AreRows z (with_row_changed (with_victim victim) s (once ++ leaf_row s 0 ∷ []))
        rows_refused = record {
          len = length_changed (with_victim victim) s (once ++ leaf_row s 0 ∷ []) ∙ length_more once (leaf_row s 0) ∙ ap suc same_len ∙ sym (length_more t x);
          each = each;
        }

  -- ## The other parts

  module _ (rows : List Row) (forks : List ℕ) (cells : List CellParts) (last : Option ℕ) (w : AreParts k rows forks cells last) where
    asked : (i : ℕ) (d : Conflict) → slice_get conflicts i ≡ Some d → is_tried u d.asker ≡ true
    asked i d at = elim (there_or_last m.conflicts conflict i d at) [
      | inl old ↦ askers_still first k core s running ready x refl i d old (w.askers i d old)
      | inr new ↦ ap (is_tried u) (ap (λ d. d.asker) new.1 ∙ asks) ∙ node_new t x (λ y. is_tried_kind y.kind)
    ]

    forks_kept : AreForks z forks
    forks_kept = let h = forks_still first k core s running ready x refl m.lists m.clock k.words refl forks w.forked in record { count = h.count; each = h.each }

    held_kept : (d : ℕ) (cell : CellParts) → IsHeld k d cell → IsHeld z d cell
    held_kept d cell q =
        let h = held_still first k core s running ready x refl m.lists m.clock k.words refl d cell q in
        record { whole = h.whole; entries = λ i e at. (let y = h.entries i e at in record { node = y.node; touches = y.touches; stamp = y.stamp; wrote = y.wrote; strand = y.strand }) }

    -- whatever victim the strand gets, if it is its victim then
    pub refused_parts : IsCore m.first z → length t + 1 < 2 ^ 32 → (victim : Option ℕ) → ((o : Option ℕ) → IsVictim m s o → IsVictim z.machine s victim) → (r : Row) → slice_get rows p ≡ Some r
        → (spends : Option ℕ) → spent z ≡ spends
        → AreParts z (with_row_changed (with_victim victim) s (with_row_changed (with_tail (tried_tail c r.tail)) p rows ++ leaf_row s 0 ∷ [])) forks cells spends
    refused_parts after few victim marked r at spends told = record {
      core = after;
      few = omega (arith, length_more t x);
      drawn = (let d = w.drawn in omega (arith, length_more t x, closed_still first k core s running ready x refl (and_left (is_block u (length t)) (not (is_pending u (length t))) (node_new t x (λ y. is_block_kind y.kind)))));
      rowed = rows_refused victim marked (tried_tail c r.tail) (tail_tried r.tail (w.rowed.each p r at).tail) rows w.rowed;
      askers = asked;
      forked = forks_kept;
      held = λ d cell e. held_kept d cell (w.held d cell e);
      firsts = w.firsts;
      lists = w.lists;
      told = told;
    }
