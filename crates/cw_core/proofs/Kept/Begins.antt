-- The parts of a core after a begin.
use Rattle.std.proofs.Common.{◌≡◌, ◌≢◌, ℕ, ◌+◌, ◌<◌, ◌≤◌, ◌^◌, List, [], ◌∷◌, ◌++◌, length, refl, ap, sym, ◌∙◌, arith, Bool, true, false, cond, Option, Some, None, nat_eq, nat_lt, inl, inr}
use Rattle.std.specs.Prelude.{◌&&◌, ◌||◌, not, filter, slice_get, is_none, max}
use Rattle.std.specs.List.{suffix_len}
use Rattle.std.proofs.lemmas.Bool.{and_parts, and_from, and_left, cases_lt, false_from_ne_true, ne_eqb, eq-eqb, lt-ltb}
use Rattle.cw_tree.specs.declared.node.Node.{Node}
use Rattle.cw_tree.specs.declared.conflict.Conflict.{Conflict}
use Rattle.cw_tree.specs.declared.node.Kind.TheVariants.{Block}
use Rattle.cw_tree.specs.Nodes.{is_block_kind, is_pending_state, is_aborted_state, is_strand, is_block, is_pending, is_aborted, stamp_of, fresh_node}
use Rattle.cw_tree.specs.Walks.{IsRooted, is_above}
use Rattle.cw_tree.specs.Series.{strand_of, children, place}
use Rattle.cw_tree.specs.Refusals.{is_victim}
use Rattle.cw_tree.specs.Attempts.{tried_cell, block_attempt, elders}
use Rattle.cw_tree.proofs.Lists.{In}
use Rattle.cw_tree.proofs.Walks.There.{node_there}
use Rattle.cw_tree.proofs.NextNodes.Growing.{get_next, length_more, node_grown, node_new, number_new, strand_of_new}
use Rattle.cw_stack.specs.Cells.{CellParts}
use Rattle.cw_open.specs.Machine.{OpenMachine, is_running, is_free, falls}
use Rattle.cw_open.specs.Runs.{at_once}
use Rattle.cw_open.proofs.Open.Standing.{stands}
use Rattle.cw_open.proofs.Open.TreeSteps.{free_runs}
use Rattle.cw_open.proofs.Refused.Victims.{IsTold, told_states}
use Rattle.cw_core.specs.declared.event.Event.TheVariants as event
use Rattle.cw_tree.proofs.Members.{suffix_same}
use Rattle.cw_core.specs.declared.row.Row.{Row}
use Rattle.cw_core.specs.State.{CoreState, waits_for_left, spent}
use Rattle.cw_core.specs.Events.{fits, fits_now, is_stop, after_event}
use Rattle.cw_core.specs.Kept.{AreParts, with_row_changed, with_tail, with_place, plain_tail, leaf_row}
use Rattle.cw_core.proofs.Events.Going.{well, at_place}
use Rattle.cw_core.proofs.Events.Kept.{events, free_ready}
use Rattle.cw_core.proofs.Kept.Tails.{child_low, elders_more}
use Rattle.cw_core.proofs.Events.Places.{place_grown, place_begun}
use Rattle.cw_core.proofs.Kept.Stakes.{no_victim}
use Rattle.cw_core.proofs.Kept.RowsGrow.{tail_here}
use Rattle.cw_core.proofs.Kept.PartsGrow.{all_at, askers_still, unspent, none_spent, forks_still, held_still, closed_still, rows_grown}

module _ (k : CoreState) (rows : List Row) (forks : List ℕ) (cells : List CellParts) (last : Option ℕ) (w : AreParts k rows forks cells last) where
  abbrev t : List Node
  t = k.machine.tree

  abbrev m : OpenMachine
  m = k.machine

  module _ (s : ℕ) (fit : fits k (event.Begin s) ≡ true) where
    abbrev p : ℕ
    p = place t s

    abbrev x : Node
    x = fresh_node p Block (m.clock + 1)

    abbrev u : List Node
    u = t ++ x ∷ []

    now : (is_free m s ≡ true) × (waits_for_left k s ≡ false)
    now = free_ready m.first k w.core s (and_parts (is_none k.halt && (is_none (spent k) || is_stop (event.Begin s))) (fits_now k (event.Begin s)) fit).1

    running : is_running m s ≡ true
    running = free_runs m s now.0

    rooted : IsRooted t
    rooted = (well m.first k w.core).sound.tree.rooted

    there : p < length t
    there = (at_place m.first k w.core s running now.1).there

    own : strand_of u (length t) ≡ s
    own = strand_of_new t x rooted there ∙ (stands m (well m.first k w.core).sound.tree (well m.first k w.core).nested s running).strand

    begun : is_pending u (length t) ≡ true
    begun = node_new t x (λ y. is_block_kind y.kind && is_pending_state y.state)

    -- the newest number is the only new one
    only : (n : ℕ) → length t ≤ n → n < length u → n ≡ length t
    only n le h = omega (arith, length_more t x)

    other_place : (n : ℕ) → n < length t → is_strand t n ≡ true → n ≢ s → place u n ≡ place t n
    other_place n h strand ne =
        place_grown t (x ∷ []) rooted n (λ b le g.
        Rattle.std.proofs.lemmas.Bool.and_right (is_pending u b) (nat_eq (strand_of u b) n)
        (ne_eqb (strand_of u b) n (λ q. ne (sym (sym own ∙ ap (strand_of u) (sym (only b le g)) ∙ q)))))

    fresh : (c : Conflict) (v i : ℕ) → slice_get m.conflicts i ≡ Some c → length t ≤ v → falls (after_event k (event.Begin s)).machine c v ≡ false
    fresh c v i at le =
        elim (cases_lt v (length u)) [
          | inl h ↦
              (let q = only v le h in
              let named = (all_at (λ c. IsTold t c) m.conflicts i c at (told_states at_once m.first m w.core.reached).told).named in
              let stamped : stamp_of u v ≡ m.clock + 1 = ap (stamp_of u) q ∙ number_new t x (λ y. y.stamp) in
              let low : c.victim ≤ m.clock = elim named [
                | inl e ↦ omega arith
                | inr z ↦ (let b = and_parts (is_block t z.0) (is_above t z.0 c.asker) z.1 in let g = (well m.first k w.core).clock z.0 (node_there (λ y. is_block_kind y.kind) t z.0 b.0) in omega (arith, g.0, z.2))
              ] in
              no_victim (after_event k (event.Begin s)).machine c v (omega arith))
          | inr ge ↦ and_left (is_pending u v) (is_victim u (c ∷ []) v) (false_from_ne_true (is_pending u v) (λ e. absurd (let h = node_there (λ y. is_block_kind y.kind && is_pending_state y.state) u v e in omega arith)))
        ]

    pub begin_parts : (r : Row) → slice_get rows p ≡ Some r → length t + 1 < 2 ^ 32
        → AreParts (after_event k (event.Begin s)) (with_row_changed (with_place (length t)) s (with_row_changed (with_tail plain_tail) p rows ++ leaf_row s (r.tail.aborted + 1) ∷ [])) forks cells last
    begin_parts r at few =
        let c = m.first in
        let core = w.core in
        let row = w.rowed.each p r at in
        let now_clock = max m.clock (m.clock + 1) in
        let words = (after_event k (event.Begin s)).words in
        let elders_are : elders u (length t) ≡ children t p =
        ap (λ q. filter (λ l. nat_lt l (length t)) (children u q)) (number_new t x (λ y. y.parent))
        ∙ elders_more t x p (length t) (omega (arith, there)) (omega arith)
        ∙ filter_all (λ l. nat_lt l (length t)) (children t p) (λ v i. lt-ltb v (length t) (child_low t p v i)) in
        let attempt : block_attempt u (length t) ≡ r.tail.aborted + 1 =
        ap (λ ns. suffix_len (is_aborted u) ns + 1) elders_are
        ∙ ap (λ n. n + 1) (suffix_same (is_aborted u) (is_aborted t) (children t p) (λ v i. node_grown t (x ∷ []) (λ y. is_block_kind y.kind && is_aborted_state y.state) v (child_low t p v i)))
        ∙ ap (λ n. n + 1) row.tail.aborted in
        record {
          core = (events c k (event.Begin s) core fit).1;
          few = omega (arith, length_more t x);
          askers = λ i c e. askers_still m.first k core s running now.1 x refl i c e (w.askers i c e);
          drawn = (let d = w.drawn in omega (arith, length_more t x, closed_still c k core s running now.1 x refl (Rattle.std.proofs.lemmas.Bool.and_right (is_block u (length t)) (not (is_pending u (length t))) (ap not begun))));
          rowed = rows_grown c k core s running now.1 x refl m.lists now_clock words refl refl plain_tail
              (tail_here c k core s running now.1 x refl r.tail row.tail refl (node_new t x (λ y. is_block_kind y.kind && is_aborted_state y.state)) none_tried)
              (length t) (place_begun t (x ∷ []) rooted s (length t) (length_more t x) (and_from (is_pending u (length t)) (nat_eq (strand_of u (length t)) s) begun (eq-eqb (strand_of u (length t)) s own)))
              other_place (r.tail.aborted + 1) (λ e. attempt) fresh rows w.rowed;
          forked = forks_still c k core s running now.1 x refl m.lists now_clock words refl forks w.forked;
          held = λ i cell e. held_still c k core s running now.1 x refl m.lists now_clock words refl i cell (w.held i cell e);
          firsts = w.firsts;
          lists = w.lists;
          told = none_spent k (after_event k (event.Begin s)) (unspent k (event.Begin s) refl fit) refl refl ∙ w.told;
        } where
          none_tried : tried_cell u (length t) ≡ None
          none_tried = rw (get_next t x []) refl

          filter_all : (f : ℕ → Bool) (xs : List ℕ) → ((v : ℕ) → In v xs → f v ≡ true) → filter f xs ≡ xs
          filter_all f [] g = refl
          filter_all f (y ∷ xs) g = ap (λ b. cond b (y ∷ filter f xs) (filter f xs)) (g y (inl refl)) ∙ ap (λ ns. y ∷ ns) (filter_all f xs (λ v i. g v (inr i)))
