-- The parts of a core after an access that is made.
use Rattle.std.proofs.Common.{◌≡◌, ℕ, ◌+◌, ◌<◌, ◌≤◌, ◌^◌, List, [], ◌∷◌, ◌++◌, length, map, refl, ap, sym, ◌∙◌, subst, arith, true, false, cond, Option, Some, None, nat_eq, nat_lt, inl, inr}
use Rattle.std.specs.Prelude.{◌&&◌, ◌||◌, not, ℤ, slice_get, slice_set, is_none, max}
use Rattle.std.proofs.lemmas.Bool.{and_parts, and_left, cases_eq, eq-eqb}
use Rattle.std.proofs.lemmas.List.{map-append, map-set}
use Rattle.cw_tree.specs.declared.node.Node.{Node}
use Rattle.cw_tree.specs.declared.node.Kind.{Kind}
use Rattle.cw_tree.specs.declared.node.Kind.TheVariants.{Read, Write}
use Rattle.cw_tree.specs.declared.access.Entry.{Entry}
use Rattle.cw_tree.specs.declared.access.Mark.{Mark}
use Rattle.cw_tree.specs.Nodes.{is_strand_kind, is_fork_kind, is_block_kind, is_pending_state, is_aborted_state, touches_kind, is_block, is_pending, fresh_node}
use Rattle.cw_tree.specs.Walks.{IsRooted}
use Rattle.cw_tree.specs.Series.{strand_of, place}
use Rattle.cw_tree.specs.Refusals.{is_victim}
use Rattle.cw_tree.specs.Accesses.{value_in, written_kind}
use Rattle.cw_tree.specs.Attempts.{tried_cell_in, tried_cell}
use Rattle.cw_tree.specs.AccessStacks.{access_kind, written_by, stamps}
use Rattle.cw_tree.proofs.NextNodes.Growing.{get_next, length_more, node_new, number_new, strand_of_new, strand_of_grown}
use Rattle.cw_tree.proofs.NextNodes.Closing.{get_set_same, get_set_other}
use Rattle.cw_stack.specs.Cells.{CellParts, entry_of}
use Rattle.cw_trace.specs.Columns.{used}
use Rattle.cw_trace.specs.Stands.{column_in}
use Rattle.cw_trace.proofs.Keeps.Grow.{column_append}
use Rattle.cw_open.specs.Machine.{OpenMachine, live, live_value, is_running, is_free}
use Rattle.cw_open.specs.Steps.{accesses, refuses, after_all}
use Rattle.cw_open.proofs.Laws.ListSteps.{none_new}
use Rattle.cw_open.proofs.Open.Standing.{stands}
use Rattle.cw_open.proofs.Open.TreeSteps.{free_runs}
use Rattle.cw_core.specs.declared.event.Event.TheVariants as event
use Rattle.cw_core.specs.declared.row.Row.{Row}
use Rattle.cw_core.specs.State.{CoreState, waits_for_left, column_of, spent}
use Rattle.cw_core.specs.Events.{fits, fits_now, is_stop, is_met, met_by, after_event}
use Rattle.cw_core.specs.Laws.{IsCore}
use Rattle.cw_core.specs.Kept.{AreParts, IsEntryOf, IsHeld, with_row_changed, with_tail, with_place, plain_tail, leaf_row, cell_changed, with_entry}
use Rattle.cw_core.proofs.Events.Going.{well, at_place}
use Rattle.cw_core.proofs.Events.Kept.{events, free_ready}
use Rattle.cw_core.proofs.Events.Places.{place_grown}
use Rattle.cw_core.proofs.Kept.RowsGrow.{tail_here}
use Rattle.cw_core.proofs.Fits.Ready.{strand_there}
use Rattle.cw_core.proofs.Kept.PartsGrow.{askers_still, unspent, none_spent, forks_still, entry_still, held_still, closed_still, rows_grown}
use Rattle.cw_core.proofs.Kept.Entering.{changed_cell, there_or_last, firsts_kept, live_is}

-- what is true of reads and of writes is true of accesses
kinds : (P : Kind → Type 0) → (c : ℕ) (write : Option ℤ) (v : ℤ) → P (Read c v) → ((w : ℤ) → P (Write c w)) → P (access_kind c write v)
kinds P c None v read write = read
kinds P c (Some w) v read write = write w

wrote_kind : (c : ℕ) (write : Option ℤ) (v z : ℤ) (mark : Mark) → written_kind (access_kind c write v) ≡ written_by (entry_of mark write z)
wrote_kind c None v z mark = refl
wrote_kind c (Some w) v z mark = refl

-- what an access needs
pub access_ready : (k : CoreState) (s c : ℕ) (write : Option ℤ) → IsCore k.machine.first k → fits k (event.Access s c write) ≡ true → (is_free k.machine s ≡ true) × (waits_for_left k s ≡ false) × (nat_lt c (length k.machine.lists) ≡ true)
access_ready k s c write core fit =
    let now = (and_parts (is_none k.halt && (is_none (spent k) || is_stop (event.Access s c write))) (fits_now k (event.Access s c write)) fit).1 in
    let y = and_parts (is_free k.machine s && not (waits_for_left k s)) (nat_lt c (length k.machine.lists)) now in
    let z = free_ready k.machine.first k core s y.0 in
    (z.0, z.1, y.1)

module _ (k : CoreState) (rows : List Row) (forks : List ℕ) (cells : List CellParts) (last : Option ℕ) (w : AreParts k rows forks cells last) where
  abbrev t : List Node
  t = k.machine.tree

  abbrev m : OpenMachine
  m = k.machine

  module _ (s c : ℕ) (write : Option ℤ) (fit : fits k (event.Access s c write) ≡ true) (off : is_met k s c ≡ false) where
    abbrev p : ℕ
    p = place t s

    abbrev stamp : ℕ
    stamp = m.clock + 1

    abbrev x : Node
    x = fresh_node p (access_kind c write (live_value m c)) stamp

    abbrev u : List Node
    u = t ++ x ∷ []

    abbrev lists : List (List ℕ)
    lists = slice_set m.lists c (live m c ++ stamp ∷ [])

    abbrev pub made : CoreState
    made = record k { machine = record m { tree = u; lists = lists; clock = max m.clock stamp } }

    pub after_made : after_event k (event.Access s c write) ≡ made
    after_made = ap (λ b. let z : CoreState = record k { machine = after_all m (cond b (refuses s c write (met_by k s c)) (accesses s c write stamp) ∷ []) } in z) off

    now : (is_free m s ≡ true) × (waits_for_left k s ≡ false) × (nat_lt c (length m.lists) ≡ true)
    now = access_ready k s c write w.core fit

    running : is_running m s ≡ true
    running = free_runs m s now.0

    rooted : IsRooted t
    rooted = (well m.first k w.core).sound.tree.rooted

    there : p < length t
    there = (at_place m.first k w.core s running now.1).there

    no_strand : is_strand_kind x.kind ≡ false
    no_strand = kinds (λ y. is_strand_kind y ≡ false) c write (live_value m c) refl (λ v. refl)

    no_fork : is_fork_kind x.kind ≡ false
    no_fork = kinds (λ y. is_fork_kind y ≡ false) c write (live_value m c) refl (λ v. refl)

    no_block : is_block_kind x.kind ≡ false
    no_block = kinds (λ y. is_block_kind y ≡ false) c write (live_value m c) refl (λ v. refl)

    quiet : (n : ℕ) → length t ≤ n → is_pending u n ≡ false
    quiet n le = none_new (λ y. is_block_kind y.kind && is_pending_state y.state) t (x ∷ []) n (ap (λ b. (b && is_pending_state x.state) || false) no_block) le

    same_place : (n : ℕ) → place u n ≡ place t n
    same_place n = place_grown t (x ∷ []) rooted n (λ b le h. and_left (is_pending u b) (nat_eq (strand_of u b) n) (quiet b le))

    none_tried : tried_cell u (length t) ≡ None
    none_tried = rw (get_next t x []) (kinds (λ y. tried_cell_in y ≡ None) c write (live_value m c) refl (λ v. refl))

    -- ## The new entry

    own : strand_of u (length t) ≡ s
    own = strand_of_new t x rooted there ∙ ap (λ b. cond b (length t) (strand_of t p)) no_strand ∙ (stands m (well m.first k w.core).sound.tree (well m.first k w.core).nested s running).strand

    abbrev mark : Mark
    mark = record { strand = column_of k s; stamp = stamp }

    new_entry : (v : ℤ) → IsEntryOf made c (entry_of mark write v)
    new_entry v = record {
      node = length t;
      touches = node_new t x (λ y. touches_kind c y.kind) ∙ kinds (λ y. touches_kind c y ≡ true) c write (live_value m c) (eq-eqb c c refl) (λ v. eq-eqb c c refl);
      stamp = number_new t x (λ y. y.stamp);
      wrote = ap (value_in written_kind) (get_next t x []) ∙ wrote_kind c write (live_value m c) v mark;
      strand =
          (let h = strand_there k rows forks cells last w s running in
          let self = Rattle.cw_tree.proofs.Walks.Strands.strand_itself t rooted s (Rattle.cw_open.proofs.Open.Standing.runs m (well m.first k w.core).sound.tree (well m.first k w.core).nested s running).strand in
          ap (λ q. column_in u (used k.tier) q q) (own ∙ sym self ∙ sym (strand_of_grown t (x ∷ []) rooted s h)) ∙ column_append t (x ∷ []) rooted (used k.tier) s h);
    }

    module _ (cell : CellParts) (at : slice_get cells c ≡ Some cell) where
      abbrev next : CellParts
      next = with_entry (column_of k s) stamp write cell

      held : (d : ℕ) (b : CellParts) → slice_get (slice_set cells c next) d ≡ Some b → IsHeld made d b
      held d b e =
          elim (cases_eq d c) [
            | inr ne ↦ held_still m.first k w.core s running now.1 x refl lists (max m.clock stamp) k.words no_fork d b (w.held d b (sym (get_set_other cells c d next ne) ∙ e))
            | inl q ↦
                (let is : b ≡ next = (let a = ap (slice_get (slice_set cells c next)) q in let g = get_set_same cells c cell next at in cc (a, g, e)) in
                let P : ℕ → Type 0 = λ d. IsHeld made d next in
                let Q : CellParts → Type 0 = λ b. IsHeld made d b in
                subst Q (sym is) (subst P (sym q) held_here))
          ] where
            held_here : IsHeld made c next
            held_here = record {
              whole = (w.held c cell at).whole;
              entries = λ i e g. elim (there_or_last cell.entries (entry_of mark write (Rattle.cw_stack.specs.Cells.entries_value cell)) i e g) [
                | inl old ↦ entry_still m.first k w.core s running now.1 x refl lists (max m.clock stamp) k.words no_fork c e ((w.held c cell at).entries i e old)
                | inr new ↦ (let P : Entry → Type 0 = λ e. IsEntryOf made c e in subst P (sym new.1) (new_entry (Rattle.cw_stack.specs.Cells.entries_value cell)))
              ];
            }

      pub listed : map (λ b. stamps b.entries) (slice_set cells c next) ≡ lists
      listed =
          map-set (λ b. stamps b.entries) cells c next
          ∙ ap (λ ls. slice_set ls c (stamps next.entries)) w.lists
          ∙ ap (slice_set m.lists c) (map-append (λ e. e.mark.stamp) cell.entries (entry_of mark write (Rattle.cw_stack.specs.Cells.entries_value cell) ∷ []) ∙ ap (λ us. us ++ stamp ∷ []) (sym (live_is k rows forks cells last w c cell at)))

      made_parts : (r : Row) → slice_get rows p ≡ Some r → length t + 1 < 2 ^ 32 → AreParts made (with_row_changed (with_place p) s (with_row_changed (with_tail plain_tail) p rows ++ leaf_row s 0 ∷ [])) forks (slice_set cells c next) last
      made_parts r here few =
          let f = m.first in
          let core = w.core in
          let P : CoreState → Type 0 = λ z. IsCore f z in
          record {
            core = subst P after_made (events f k (event.Access s c write) core fit).1;
            few = omega (arith, length_more t x);
            askers = λ i c e. askers_still f k core s running now.1 x refl i c e (w.askers i c e);
            drawn = (let d = w.drawn in omega (arith, length_more t x, closed_still f k core s running now.1 x refl (and_left (is_block u (length t)) (not (is_pending u (length t))) (node_new t x (λ y. is_block_kind y.kind) ∙ no_block))));
            rowed = rows_grown f k core s running now.1 x refl lists (max m.clock stamp) k.words no_strand no_fork plain_tail
                (tail_here f k core s running now.1 x refl r.tail (w.rowed.each p r here).tail refl (node_new t x (λ y. is_block_kind y.kind && is_aborted_state y.state) ∙ and_left (is_block_kind x.kind) (is_aborted_state x.state) no_block) none_tried)
                p (same_place s) (λ n h g ne. same_place n) 0 (λ e. absurd (cc (e, quiet (length t) (omega arith)))) (λ c v i g le. and_left (is_pending u v) (is_victim u (c ∷ []) v) (quiet v le)) rows w.rowed;
            forked = forks_still f k core s running now.1 x refl lists (max m.clock stamp) k.words no_fork forks w.forked;
            held = held;
            firsts = firsts_kept (λ b. b.first) cells c cell next at refl ∙ w.firsts;
            lists = listed;
            told = none_spent k made (unspent k (event.Access s c write) refl fit) refl refl ∙ w.told;
          }

    pub access_parts : (r : Row) → slice_get rows p ≡ Some r → length t + 1 < 2 ^ 32 → (cell : CellParts) → slice_get cells c ≡ Some cell
        → AreParts (after_event k (event.Access s c write)) (with_row_changed (with_place p) s (with_row_changed (with_tail plain_tail) p rows ++ leaf_row s 0 ∷ [])) forks (cell_changed (with_entry (column_of k s) stamp write) c cells) last
    access_parts r here few cell at =
        let rs = with_row_changed (with_place p) s (with_row_changed (with_tail plain_tail) p rows ++ leaf_row s 0 ∷ []) in
        let P : CoreState → Type 0 = λ z. AreParts z rs forks (cell_changed (with_entry (column_of k s) stamp write) c cells) last in
        let Q : List CellParts → Type 0 = λ cs. AreParts made rs forks cs last in
        subst P (sym after_made) (subst Q (sym (changed_cell (with_entry (column_of k s) stamp write) c cells cell at)) (made_parts cell at r here few))
