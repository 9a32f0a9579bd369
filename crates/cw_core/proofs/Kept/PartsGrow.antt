-- The parts of a core stay right as a node comes that is neither a strand nor a fork nor an access.
use Rattle.std.proofs.Common.{◌≡◌, ◌≢◌, ℕ, zero, suc, ◌+◌, ◌<◌, ◌≤◌, ◌^◌, List, [], ◌∷◌, ◌++◌, length, map, refl, ap, sym, ◌∙◌, subst, arith, Bool, true, false, cond, Option, Some, None, nat_eq, inl, inr, length-append}
use Rattle.std.specs.Prelude.{◌&&◌, ◌||◌, not, ℤ, All, filter, find, slice_get, is_none}
use Rattle.std.specs.Option.{option_map}
use Rattle.std.proofs.lemmas.Option.{get_or_from_slice_get, slice_get_within}
use Rattle.std.proofs.lemmas.List.Elements.{All-get_or, filter-append}
use Rattle.std.proofs.lemmas.Bool.{and_parts, or_cases, ne_eqb, eq-eqb, eqb-true}
use Rattle.cw_tree.specs.declared.node.Node.{Node}
use Rattle.cw_tree.specs.declared.access.Entry.{Entry}
use Rattle.cw_tree.specs.declared.conflict.Conflict.{Conflict}
use Rattle.cw_tree.specs.Nodes.{is_strand_kind, is_fork_kind, is_block_kind, is_tried_kind, is_pending_state, touches_kind, parent_of, is_strand, is_block, is_tried, is_pending, all_nodes}
use Rattle.cw_tree.specs.Walks.{IsRooted, has}
use Rattle.cw_tree.specs.Series.{strand_of, place}
use Rattle.cw_tree.specs.Shape.{is_closed}
use Rattle.cw_tree.specs.Refusals.{refused_node}
use Rattle.cw_tree.specs.Attempts.{block_attempt}
use Rattle.cw_tree.specs.Accesses.{value_in, written_kind}
use Rattle.cw_tree.proofs.Members.{filter_same, in_below}
use Rattle.cw_tree.proofs.Walks.There.{node_there}
use Rattle.cw_tree.proofs.NextNodes.Growing.{length_more, get_append, node_grown, number_grown, node_new, number_new, all_nodes_more}
use Rattle.cw_stack.specs.Cells.{CellParts}
use Rattle.cw_trace.specs.Columns.{used}
use Rattle.cw_trace.proofs.Keeps.Grow.{fork_column_append, column_append}
use Rattle.cw_open.specs.Machine.{OpenMachine, has_finished, waits, is_running, falls}
use Rattle.cw_open.specs.Runs.{at_once}
use Rattle.cw_open.proofs.Open.Standing.{runs}
use Rattle.cw_open.proofs.Refused.Victims.{told_states}
use Rattle.cw_core.specs.declared.row.Tail.{Tail}
use Rattle.cw_core.specs.declared.row.Row.{Row}
use Rattle.cw_core.specs.declared.event.Event.{Event}
use Rattle.cw_core.specs.State.{CoreState, waits_for_left, last_refusal, spent}
use Rattle.cw_core.specs.Events.{fits, fits_now, is_stop}
use Rattle.cw_core.specs.Laws.{IsCore}
use Rattle.cw_core.specs.Kept.{IsTail, IsNow, IsRow, AreRows, AreForks, IsEntryOf, IsHeld, IsVictim, is_counted, with_row_changed, with_tail, with_place, leaf_row}
use Rattle.cw_core.proofs.Events.Going.{well}
use Rattle.cw_core.proofs.Kept.Changed.{length_changed, was_changed, was_there}
use Rattle.cw_core.proofs.Kept.Stakes.{stake_old, falls_still}
use Rattle.cw_core.proofs.Kept.RowsGrow.{made_grown, now_grown, new_row, tail_other, waits_same}

pub all_at : {X : Type 0} (P : X → Type 0) (xs : List X) (i : ℕ) (x : X) → slice_get xs i ≡ Some x → All P xs → P x
all_at P xs i x e all = subst P (get_or_from_slice_get xs i x x e) (All-get_or P xs i x (slice_get_within xs i x e) all)

-- once a budget is spent, only a stop fits
pub unspent : (k : CoreState) (e : Event) → is_stop e ≡ false → fits k e ≡ true → is_none (spent k) ≡ true
unspent k e other fit =
    let a = and_parts (is_none k.halt && (is_none (spent k) || is_stop e)) (fits_now k e) fit in
    let b = and_parts (is_none k.halt) (is_none (spent k) || is_stop e) a.0 in
    elim (or_cases (is_none (spent k)) (is_stop e) b.1) [ inl c ↦ c | inr c ↦ absurd (cc (c, other)) ]

-- what was spent is none still where the conflicts are the same
pub none_spent : (k z : CoreState) → is_none (spent k) ≡ true → z.machine.conflicts ≡ k.machine.conflicts → z.budget ≡ k.budget → spent z ≡ spent k
none_spent k z e same budget = by (last_refusal k) refl e where
  by : (o : Option Conflict) → last_refusal k ≡ o → is_none (option_map (λ c. strand_of k.machine.tree (refused_node k.machine.tree c)) o) ≡ true → spent z ≡ spent k
  by (Some c) q e = absurd (cc e)
  by None q e =
      ap (λ cs. option_map (λ c. strand_of z.machine.tree (refused_node z.machine.tree c)) (find (λ c. nat_eq c.attempt z.budget) cs)) same
      ∙ ap (λ b. option_map (λ c. strand_of z.machine.tree (refused_node z.machine.tree c)) (find (λ c. nat_eq c.attempt b) k.machine.conflicts)) budget
      ∙ ap (option_map (λ c. strand_of z.machine.tree (refused_node z.machine.tree c))) q
      ∙ ap (option_map (λ c. strand_of k.machine.tree (refused_node k.machine.tree c))) (sym q)

module _ (first : List ℤ) (k : CoreState) (core : IsCore first k) (s : ℕ) (running : is_running k.machine s ≡ true) (ready : waits_for_left k s ≡ false) (x : Node) (up : x.parent ≡ place k.machine.tree s) where
  abbrev t : List Node
  t = k.machine.tree

  abbrev m : OpenMachine
  m = k.machine

  abbrev p : ℕ
  p = place t s

  abbrev u : List Node
  u = t ++ x ∷ []

  rooted : IsRooted t
  rooted = (well first k core).sound.tree.rooted

  module _ (lists : List (List ℕ)) (clock : ℕ) (words : List ℕ) (other : is_fork_kind x.kind ≡ false) where
    abbrev z : CoreState
    z = record k { machine = record m { tree = u; lists = lists; clock = clock }; words = words }

    -- ## Victims

    counted_same : (n : ℕ) → n < length t → is_counted z.machine n ≡ is_counted m n
    counted_same n h =
        ap (λ q. cond (has_finished m n) (not (has m.joined q)) (is_running z.machine n)) (number_grown t (x ∷ []) (λ y. y.parent) n h)
        ∙ ap (λ b. cond (has_finished m n) (not (has m.joined (parent_of t n))) (b && not (has_finished m n) && not (waits z.machine n) && not (has m.stopped n))) (node_grown t (x ∷ []) (λ y. is_strand_kind y.kind) n h)
        ∙ ap (λ b. cond (has_finished m n) (not (has m.joined (parent_of t n))) (is_strand t n && not (has_finished m n) && not b && not (has m.stopped n))) (waits_same first k core s running ready x up lists clock m.conflicts words other n)

    pub victim_grown : ((c : Conflict) (v i : ℕ) → slice_get m.conflicts i ≡ Some c → length t ≤ v → falls z.machine c v ≡ false) → (n : ℕ) → n < length t → (o : Option ℕ) → IsVictim m n o → IsVictim z.machine n o
    victim_grown fresh n h None w = λ i v c at stake. w i v c at (stake_old t (x ∷ []) rooted m z.machine refl refl refl n v c (all_at (λ c. Rattle.cw_open.proofs.Refused.Victims.IsTold t c) m.conflicts i c at (told_states at_once first m core.reached).told).asker (λ v le. fresh c v i at le) stake)
    victim_grown fresh n h (Some y) w = (
      λ i v c at stake. w.0 i v c at (stake_old t (x ∷ []) rooted m z.machine refl refl refl n v c (all_at (λ c. Rattle.cw_open.proofs.Refused.Victims.IsTold t c) m.conflicts i c at (told_states at_once first m core.reached).told).asker (λ v le. fresh c v i at le) stake),
      λ e. (let q = w.1 (sym (counted_same n h) ∙ e) in (q.0, q.1, q.2, above_still q.0 q.1 q.2 q.3, falls_still t (x ∷ []) rooted m z.machine refl refl refl q.1 y q.4)),
    ) where
      above_still : (i : ℕ) (c : Conflict) → slice_get m.conflicts i ≡ Some c → Rattle.cw_tree.specs.Walks.is_above t n c.asker ≡ true → Rattle.cw_tree.specs.Walks.is_above u n c.asker ≡ true
      above_still i c at e = Rattle.cw_tree.proofs.NextNodes.Growing.is_above_grown t (x ∷ []) rooted n c.asker (all_at (λ c. Rattle.cw_open.proofs.Refused.Victims.IsTold t c) m.conflicts i c at (told_states at_once first m core.reached).told).asker ∙ e

    -- ## Forks, cells and the clock

    pub forks_still : (fs : List ℕ) → AreForks k fs → AreForks z fs
    forks_still fs w = record {
      count = w.count;
      each = λ i f e.
          (let q = w.each i f e in
          let h = node_there (λ y. is_fork_kind y.kind) t f q.0 in
          (node_grown t (x ∷ []) (λ y. is_fork_kind y.kind) f h ∙ q.0, fork_column_append t (x ∷ []) rooted (used k.tier) f (omega arith) ∙ q.1));
    }

    pub entry_still : (c : ℕ) (e : Entry) → IsEntryOf k c e → IsEntryOf z c e
    entry_still c e w =
        let h = node_there (λ y. touches_kind c y.kind) t w.node w.touches in
        record {
          node = w.node;
          touches = node_grown t (x ∷ []) (λ y. touches_kind c y.kind) w.node h ∙ w.touches;
          stamp = number_grown t (x ∷ []) (λ y. y.stamp) w.node h ∙ w.stamp;
          wrote = ap (value_in written_kind) (get_append t (x ∷ []) w.node h) ∙ w.wrote;
          strand = column_append t (x ∷ []) rooted (used k.tier) w.node h ∙ w.strand;
        }

    pub held_still : (c : ℕ) (cell : CellParts) → IsHeld k c cell → IsHeld z c cell
    held_still c cell w = record { whole = w.whole; entries = λ i e at. entry_still c e (w.entries i e at) }

  -- refused accesses stay what they are
  pub askers_still : (i : ℕ) (c : Conflict) → slice_get m.conflicts i ≡ Some c → is_tried t c.asker ≡ true → is_tried u c.asker ≡ true
  askers_still i c at e = node_grown t (x ∷ []) (λ y. is_tried_kind y.kind) c.asker (node_there (λ y. is_tried_kind y.kind) t c.asker e) ∙ e

  pub closed_still : is_closed u (length t) ≡ false → length (filter (is_closed u) (all_nodes u)) ≡ length (filter (is_closed t) (all_nodes t))
  closed_still fresh =
      ap length
      (ap (filter (is_closed u)) (all_nodes_more t x)
      ∙ filter-append (is_closed u) (all_nodes t) (length t ∷ [])
      ∙ ap (λ ns. ns ++ filter (is_closed u) (length t ∷ [])) (filter_same (is_closed u) (is_closed t) (all_nodes t) (λ v i. same v (in_below v (length t) i)))
      ∙ ap (λ b. filter (is_closed t) (all_nodes t) ++ cond b (length t ∷ []) []) fresh
      ∙ Rattle.std.proofs.Common.append-nil (filter (is_closed t) (all_nodes t))) where
        same : (v : ℕ) → v < length t → is_closed u v ≡ is_closed t v
        same v h =
            ap (λ b. b && not (is_pending u v)) (node_grown t (x ∷ []) (λ y. is_block_kind y.kind) v h)
            ∙ ap (λ b. is_block t v && not b) (node_grown t (x ∷ []) (λ y. is_block_kind y.kind && is_pending_state y.state) v h)

  -- ## Rows

  module _ (lists : List (List ℕ)) (clock : ℕ) (words : List ℕ) (no_strand : is_strand_kind x.kind ≡ false) (other : is_fork_kind x.kind ≡ false)
      (tail : Tail) (tail_is : IsTail u p tail) (q : ℕ) (place_is : place u s ≡ q) (place_other : (n : ℕ) → n < length t → is_strand t n ≡ true → n ≢ s → place u n ≡ place t n)
      (attempt : ℕ) (attempt_is : is_pending u (length t) ≡ true → block_attempt u (length t) ≡ attempt)
      (fresh : (c : Conflict) (v i : ℕ) → slice_get m.conflicts i ≡ Some c → length t ≤ v → falls (z lists clock words other).machine c v ≡ false) where
    abbrev y : CoreState
    y = z lists clock words other

    tail_at : (n : ℕ) (r : Row) (a : Bool) → nat_eq n p ≡ a → IsRow k n r → n < length t → IsTail u n (cond a (with_tail tail r) r).tail
    tail_at n r true e w h = let P : ℕ → Type 0 = λ n. IsTail u n tail in subst P (sym (eqb-true n p e)) tail_is
    tail_at n r false e w h = tail_other first k core s running ready x up n r.tail h (λ q. absurd (cc (e, eq-eqb n p q))) w.tail

    now_at : (n : ℕ) (r : Row) (b : Bool) → nat_eq n s ≡ b → IsRow k n r → n < length t → IsNow y n (cond b (with_place q r) r).now
    now_at n r true e w h =
        now_grown first k core s running ready x up lists clock m.conflicts words other n r.now q h w.now (λ g. ap (place u) (eqb-true n s e) ∙ place_is) (λ g. victim_grown lists clock words other fresh n h r.now.victim (w.now.victim g))
    now_at n r false e w h =
        now_grown first k core s running ready x up lists clock m.conflicts words other n r.now r.now.place h w.now (λ g. place_other n h g (λ q. absurd (cc (e, eq-eqb n s q))) ∙ w.now.place g)
        (λ g. victim_grown lists clock words other fresh n h r.now.victim (w.now.victim g))

    row_at : (n : ℕ) (r : Row) (a b : Bool) → nat_eq n p ≡ a → nat_eq n s ≡ b → IsRow k n r → n < length t → IsRow y n (cond b (with_place q (cond a (with_tail tail r) r)) (cond a (with_tail tail r) r))
    row_at n r true true ea eb w h = record { made = made_grown first k core s running ready x up lists clock m.conflicts words n r.made h w.made; tail = tail_at n r true ea w h; now = now_at n r true eb w h }
    row_at n r true false ea eb w h = record { made = made_grown first k core s running ready x up lists clock m.conflicts words n r.made h w.made; tail = tail_at n r true ea w h; now = now_at n r false eb w h }
    row_at n r false true ea eb w h = record { made = made_grown first k core s running ready x up lists clock m.conflicts words n r.made h w.made; tail = tail_at n r false ea w h; now = now_at n r true eb w h }
    row_at n r false false ea eb w h = record { made = made_grown first k core s running ready x up lists clock m.conflicts words n r.made h w.made; tail = tail_at n r false ea w h; now = now_at n r false eb w h }

    strand_there : s < length t
    strand_there = node_there (λ y. is_strand_kind y.kind) t s (runs m (well first k core).sound.tree (well first k core).nested s running).strand

    module _ (rows : List Row) (w : AreRows k rows) where
      abbrev once : List Row
      once = with_row_changed (with_tail tail) p rows

      same_len : length once ≡ length t
      same_len = length_changed (with_tail tail) p rows ∙ w.len

      len : length (with_row_changed (with_place q) s (once ++ leaf_row s attempt ∷ [])) ≡ length u
      len = length_changed (with_place q) s (once ++ leaf_row s attempt ∷ []) ∙ length_more once (leaf_row s attempt) ∙ ap suc same_len ∙ sym (length_more t x)

      each : (n : ℕ) (r : Row) → slice_get (with_row_changed (with_place q) s (once ++ leaf_row s attempt ∷ [])) n ≡ Some r → IsRow y n r
      each n r e =
          let c = was_changed (with_place q) s (once ++ leaf_row s attempt ∷ []) n r e in
          let P : Row → Type 0 = λ r. IsRow y n r in
          elim (was_there once (leaf_row s attempt) n c.before c.there) [
            | inl old ↦
                (let d = was_changed (with_tail tail) p rows n c.before old.1 in
                let h : n < length t = omega (arith, old.0, same_len) in
                let is : r ≡ cond (nat_eq n s) (with_place q (cond (nat_eq n p) (with_tail tail d.before) d.before)) (cond (nat_eq n p) (with_tail tail d.before) d.before) =
                c.is ∙ ap (λ r. cond (nat_eq n s) (with_place q r) r) d.is in
                subst P (sym is) (row_at n d.before (nat_eq n p) (nat_eq n s) refl refl (w.each n d.before d.there) h))
            | inr new ↦
                (let at : n ≡ length t = new.0 ∙ same_len in
                let apart : nat_eq n s ≡ false = ne_eqb n s (λ q. absurd (let h = strand_there in omega (arith, at, q))) in
                let is : r ≡ leaf_row s attempt = c.is ∙ ap (λ b. cond b (with_place q c.before) c.before) apart ∙ new.1 in
                let Q : ℕ → Type 0 = λ n. IsRow y n (leaf_row s attempt) in
                subst P (sym is) (subst Q (sym at) (new_row first k core s running ready x up lists clock m.conflicts words no_strand other attempt attempt_is)))
          ]

      pub rows_grown : AreRows y (with_row_changed (with_place q) s (once ++ leaf_row s attempt ∷ []))
      rows_grown = record { len = len; each = each }
