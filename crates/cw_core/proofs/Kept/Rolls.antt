-- A core's parts and fields after a roll.
use Rattle.std.proofs.Common.{◌≡◌, ◌≢◌, ℕ, ◌+◌, ◌<◌, List, length, refl, ap, sym, ◌∙◌, subst, arith, Bool, true, false, cond, Option, Some, None, nat_eq}
use Rattle.std.specs.Prelude.{not, max, ℤ, slice_get}
use Rattle.std.proofs.lemmas.Option.{slice_get_within}
use Rattle.std.proofs.lemmas.Bool.{and_parts, and_from, eqb-true, eq-eqb, not-true}
use Rattle.cw_tree.specs.declared.node.Node.{Node}
use Rattle.cw_tree.specs.declared.node.BlockState.TheVariants.{Aborted}
use Rattle.cw_tree.specs.declared.conflict.Conflict.{Conflict}
use Rattle.cw_tree.specs.Nodes.{is_aborted_state, parent_of, stamp_of, is_strand, is_block, is_aborted, closed}
use Rattle.cw_tree.specs.Series.{place}
use Rattle.cw_tree.specs.Attempts.{block_attempt}
use Rattle.cw_tree.proofs.NextNodes.Closing.{length_closed, state_closed, is_above_closed}
use Rattle.cw_stack.specs.Cells.{CellParts}
use Rattle.cw_open.specs.Machine.{OpenMachine, is_running, in_block, falls, rolls_back}
use Rattle.cw_open.proofs.Open.TreeSteps.{rolls_runs}
use Rattle.cw_core.specs.declared.event.Event.TheVariants as event
use Rattle.cw_tree.proofs.NodeKinds.{pending_block}
use Rattle.cw_core.specs.declared.row.Row.{Row}
use Rattle.cw_core.specs.declared.cores.Core.TheInside.{Inside}
use Rattle.cw_core.specs.InMemory.{state_of, IsCoreInMemory}
use Rattle.cw_trace.specs.Columns.{closed_word}
use Rattle.cw_core.specs.State.{CoreState, waits_for_left, gap_of}
use Rattle.cw_core.specs.Events.{fits, after_event}
use Rattle.cw_core.specs.Kept.{IsTail, IsNow, IsRow, IsAtStake, IsVictim, IsHeld, AreRows, AreParts, is_counted, with_row_changed, with_tail, with_rolled, without_number, aborted_tail, stopped_by}
use Rattle.cw_core.specs.Undone.{AreUndone, NoneBeneath, is_beneath}
use Rattle.cw_core.proofs.Events.Kept.{events}
use Rattle.cw_core.proofs.Kept.Changed.{length_changed, was_changed}
use Rattle.cw_core.proofs.Kept.PartsGrow.{unspent, none_spent}
use Rattle.cw_core.proofs.Kept.RowsClose.{open_block, low, made_closed, tail_closed, place_here, place_other, now_closed, stake_closed, counted_same, falls_other, asker_low, rooted}
use Rattle.cw_core.proofs.Kept.PartsClose.{forks_closed, held_closed, askers_closed, one_closed, tail_shut}
use Rattle.cw_core.proofs.InMemory.Out.{now_of, max_next}
use Rattle.cw_core.proofs.Undone.Undoing.{get_among, among_was}
use Rattle.cw_core.proofs.Events.Rolling.{ls, rolled, state_with, machine_is}
use Rattle.cw_core.proofs.Kept.Rolled.{among_get, lists_of}
use Rattle.cw_core.proofs.Kept.RolledLists.{rolled_lists, rolled_firsts}
use Rattle.cw_core.proofs.Kept.RollVictims.{last_victim, other_victim}

pub record MayRoll (k : CoreState) (s : ℕ) : Type 0 where
  pub rolls : rolls_back k.machine s ≡ true
  pub running : is_running k.machine s ≡ true
  pub ready : waits_for_left k s ≡ false
  pub within : in_block k.machine s ≡ true

pub may_roll : (k : CoreState) (s : ℕ) → fits k (event.Roll s) ≡ true → MayRoll k s
may_roll k s fit =
    let x = and_parts (rolls_back k.machine s) (not (waits_for_left k s)) (now_of k (event.Roll s) fit) in
    let y = rolls_runs k.machine s x.0 in
    record { rolls = x.0; running = y.running; ready = not-true (waits_for_left k s) x.1; within = y.within }

-- a state in which the cells have other lists
abbrev relisted : CoreState → List (List ℕ) → CoreState
relisted z xs = record z { machine = record z.machine { lists = xs } }

relist_stake : (z : CoreState) (xs : List (List ℕ)) (n v : ℕ) (c : Conflict) → IsAtStake (relisted z xs).machine n c v → IsAtStake z.machine n c v
relist_stake z xs n v c w = record { over = w.over; falls = w.falls; beside = w.beside }

relist_victim : (z : CoreState) (xs : List (List ℕ)) (n : ℕ) (o : Option ℕ) → IsVictim z.machine n o → IsVictim (relisted z xs).machine n o
relist_victim z xs n None w = λ i v c at stake. w i v c at (relist_stake z xs n v c stake)
relist_victim z xs n (Some y) w = (λ i v c at stake. w.0 i v c at (relist_stake z xs n v c stake), w.1)

relist_row : (z : CoreState) (xs : List (List ℕ)) (n : ℕ) (r : Row) → IsRow z n r → IsRow (relisted z xs) n r
relist_row z xs n r w = record {
  made = record { strand = w.made.strand; column = w.made.column; elder = w.made.elder; halves = w.made.halves; columns = w.made.columns; forked = w.made.forked; attempt = w.made.attempt };
  tail = w.tail;
  now = record {
    place = w.now.place;
    waits = w.now.waits;
    finished = w.now.finished;
    dead = w.now.dead;
    victim = λ e. relist_victim z xs n r.now.victim (w.now.victim e);
    quiet = w.now.quiet;
    split = w.now.split;
    joined = w.now.joined;
  };
}

module _ (k : CoreState) (rows : List Row) (forks : List ℕ) (cells : List CellParts) (last : Option ℕ) (w : AreParts k rows forks cells last) (s : ℕ) (fit : fits k (event.Roll s) ≡ true) where
  abbrev t : List Node
  t = k.machine.tree

  abbrev m : OpenMachine
  m = k.machine

  abbrev b : ℕ
  b = place t s

  abbrev q : ℕ
  q = parent_of t b

  abbrev end : ℕ
  end = m.clock + 1

  abbrev u : List Node
  u = closed t b Aborted end

  abbrev words : List ℕ
  words = (after_event k (event.Roll s)).words

  -- the block is closed, with the lists as they were
  abbrev z : CoreState
  z = record k { machine = record m { tree = u; clock = max m.clock end }; words = words }

  pub may : MayRoll k s
  may = may_roll k s fit

  pub block_here : is_block t b ≡ true
  block_here = pending_block t b (open_block m.first k w.core s may.running may.ready may.within Aborted refl end (max m.clock end) words)

  pub parent_low : q < b
  parent_low = low m.first k w.core s may.running may.ready may.within Aborted refl end (max m.clock end) words

  -- ## Victims

  stake_was : (n v i : ℕ) (c : Conflict) → slice_get m.conflicts i ≡ Some c → IsAtStake z.machine n c v → IsAtStake m n c v × (v ≢ b)
  stake_was = stake_closed m.first k w.core s may.running may.ready may.within Aborted refl end (max m.clock end) words

  none_kept : (n : ℕ) → IsVictim m n None → IsVictim z.machine n None
  none_kept n h = λ i v c at stake. h i v c at (stake_was n v i c at stake).0

  some_kept : (n y : ℕ) → (y ≡ b → is_counted m n ≡ true → (i : ℕ) (c : Conflict) → slice_get m.conflicts i ≡ Some c → Rattle.cw_tree.specs.Walks.is_above t n c.asker ≡ true → falls m c b ≡ true → ⊥) → IsVictim m n (Some y) → IsVictim z.machine n (Some y)
  some_kept n y safe h = (
    λ i v c at stake. h.0 i v c at (stake_was n v i c at stake).0,
    λ e. (let counted = sym (counted_same m.first k w.core s may.running may.ready may.within Aborted refl end (max m.clock end) words n) ∙ e in
        let x = h.1 counted in
        let low = asker_low m.first k w.core s may.running may.ready may.within Aborted refl end (max m.clock end) words x.0 x.1 x.2 in
        let ne : y ≢ b = λ g. safe g counted x.0 x.1 x.2 x.3 (sym (ap (falls m x.1) g) ∙ x.4) in (
          x.0,
          x.1,
          x.2,
          is_above_closed t b Aborted end (rooted m.first k w.core s may.running may.ready may.within Aborted refl end (max m.clock end) words) n x.1.asker low ∙ x.3,
          falls_other m.first k w.core s may.running may.ready may.within Aborted refl end (max m.clock end) words x.1 y ne ∙ x.4,
        )),
  )

  victim_other : (n : ℕ) (o : Option ℕ) → n ≢ s → is_strand t n ≡ true → IsVictim m n o → IsVictim z.machine n o
  victim_other n None ne strand h = none_kept n h
  victim_other n (Some y) ne strand h = some_kept n y (λ g counted i c at over fall. other_victim m.first k w.core s may.running may.ready may.within n i c strand ne counted at over fall) h

  own_cond : (y : ℕ) (x : Bool) → nat_eq y b ≡ x → IsVictim m s (Some y) → IsVictim z.machine s (cond x None (Some y))
  own_cond y false e h = some_kept s y (λ g. absurd (cc (eq-eqb y b g, e))) h
  own_cond y true e h =
      let g : y ≡ b = eqb-true y b e in
      λ i v c at stake.
      (let was = stake_was s v i c at stake in
      let le = h.0 i v c at was.0 in
      let ne = was.1 in
      absurd (last_victim m.first k w.core s may.running may.ready may.within i v c at was.0.over was.0.falls (omega (arith, le, g, ne))))

  victim_own : (o : Option ℕ) → IsVictim m s o → IsVictim z.machine s (without_number b o)
  victim_own None h = none_kept s h
  victim_own (Some y) h = own_cond y (nat_eq y b) refl h

  -- ## Rows

  tail_at : (count n : ℕ) (r : Row) (a : Bool) → block_attempt t b ≡ count → nat_eq n q ≡ a → IsRow k n r → IsTail u n (cond a (with_tail (aborted_tail count) r) r).tail
  tail_at count n r true is e row =
      let P : ℕ → Type 0 = λ n. IsTail u n (aborted_tail count) in
      let Q : ℕ → Type 0 = λ c. IsTail u q (aborted_tail c) in
      let on : is_aborted u b ≡ true = state_closed t b Aborted end is_aborted_state ∙ and_from (is_block t b) true block_here refl in
      subst P (sym (eqb-true n q e)) (subst Q is (tail_shut m.first k w.core s may.running may.ready may.within Aborted refl end (max m.clock end) words true on))
  tail_at count n r false is e row = tail_closed m.first k w.core s may.running may.ready may.within Aborted refl end (max m.clock end) words n r.tail (λ g. absurd (cc (e, eq-eqb n q g))) row.tail

  now_at : (n : ℕ) (r : Row) (c : Bool) → nat_eq n s ≡ c → IsRow k n r → IsNow z n (cond c (with_rolled q b r) r).now
  now_at n r true e row =
      let P : ℕ → Type 0 = λ n. IsVictim z.machine n (without_number b r.now.victim) in
      let Q : ℕ → Type 0 = λ n. IsVictim m n r.now.victim in
      now_closed m.first k w.core s may.running may.ready may.within Aborted refl end (max m.clock end) words n r.now q (without_number b r.now.victim)
      (λ g. ap (place u) (eqb-true n s e) ∙ place_here m.first k w.core s may.running may.ready may.within Aborted refl end (max m.clock end) words)
      (λ g. subst P (sym (eqb-true n s e)) (victim_own r.now.victim (subst Q (eqb-true n s e) (row.now.victim g)))) (λ g h. ap (without_number b) (row.now.quiet g h)) row.now
  now_at n r false e row =
      let ne : n ≢ s = λ x. absurd (cc (e, eq-eqb n s x)) in
      now_closed m.first k w.core s may.running may.ready may.within Aborted refl end (max m.clock end) words n r.now r.now.place r.now.victim
      (λ g. place_other m.first k w.core s may.running may.ready may.within Aborted refl end (max m.clock end) words n ne ∙ row.now.place g)
      (λ g. victim_other n r.now.victim ne g (row.now.victim g)) row.now.quiet row.now

  row_at : (count n : ℕ) (r : Row) (a c : Bool) → block_attempt t b ≡ count → nat_eq n q ≡ a → nat_eq n s ≡ c → IsRow k n r → n < length t → IsRow z n (cond c (with_rolled q b (cond a (with_tail (aborted_tail count) r) r)) (cond a (with_tail (aborted_tail count) r) r))
  row_at count n r true true is ea ec row h = record { made = made_closed m.first k w.core s may.running may.ready may.within Aborted refl end (max m.clock end) words n r.made h row.made; tail = tail_at count n r true is ea row; now = now_at n r true ec row }
  row_at count n r true false is ea ec row h = record { made = made_closed m.first k w.core s may.running may.ready may.within Aborted refl end (max m.clock end) words n r.made h row.made; tail = tail_at count n r true is ea row; now = now_at n r false ec row }
  row_at count n r false true is ea ec row h = record { made = made_closed m.first k w.core s may.running may.ready may.within Aborted refl end (max m.clock end) words n r.made h row.made; tail = tail_at count n r false is ea row; now = now_at n r true ec row }
  row_at count n r false false is ea ec row h = record { made = made_closed m.first k w.core s may.running may.ready may.within Aborted refl end (max m.clock end) words n r.made h row.made; tail = tail_at count n r false is ea row; now = now_at n r false ec row }

  roll_rows : (count : ℕ) → block_attempt t b ≡ count → AreRows z (with_row_changed (with_rolled q b) s (with_row_changed (with_tail (aborted_tail count)) q rows))
  roll_rows count is = record {
    len = length_changed (with_rolled q b) s (with_row_changed (with_tail (aborted_tail count)) q rows) ∙ length_changed (with_tail (aborted_tail count)) q rows ∙ w.rowed.len ∙ sym (length_closed t b Aborted end);
    each = λ n r e.
        (let c = was_changed (with_rolled q b) s (with_row_changed (with_tail (aborted_tail count)) q rows) n r e in
        let d = was_changed (with_tail (aborted_tail count)) q rows n c.before c.there in
        let h : n < length t = omega (arith, slice_get_within rows n d.before d.there, w.rowed.len) in
        let P : Row → Type 0 = λ r. IsRow z n r in
        let same : r ≡ cond (nat_eq n s) (with_rolled q b (cond (nat_eq n q) (with_tail (aborted_tail count) d.before) d.before)) (cond (nat_eq n q) (with_tail (aborted_tail count) d.before) d.before) =
        c.is ∙ ap (λ r. cond (nat_eq n s) (with_rolled q b r) r) d.is in
        subst P (sym same) (row_at count n d.before (nat_eq n q) (nat_eq n s) is refl refl (w.rowed.each n d.before d.there) h));
  }

  -- ## The whole

  abbrev y : CoreState
  y = state_with m.first k w.core s may.rolls may.ready (rolled m.first k w.core s may.rolls may.ready)

  pub is_rolled : after_event k (event.Roll s) ≡ y
  is_rolled = ap (state_with m.first k w.core s may.rolls may.ready) (machine_is m.first k w.core s may.rolls may.ready)

  held_at : (new : List CellParts) → AreUndone t b cells new → (c : ℕ) (cell : CellParts) → slice_get new c ≡ Some cell → IsHeld y c cell
  held_at new undone c cell at =
      let x = undone.each c cell at in
      let old = held_closed m.first k w.core s may.running may.ready may.within Aborted refl end (max m.clock end) words c x.0 (w.held c x.0 x.1) in
      record {
        whole = x.2.cleaned ∙ old.whole;
        entries = λ i e g.
            (let P : List Rattle.cw_tree.specs.declared.access.Entry.Entry → Type 0 = λ es. Rattle.cw_core.specs.Undone.Among e es in
            let was = among_was (λ e. not (is_beneath t b e)) x.0.entries e (subst P x.2.entries (get_among cell.entries i e g)) in
            let j = among_get x.0.entries e was.0 in
            let told = old.entries j.0 e j.1 in
            record { node = told.node; touches = told.touches; stamp = told.stamp; wrote = told.wrote; strand = told.strand });
      }

  pub roll_parts : (count : ℕ) → block_attempt t b ≡ count → (new : List CellParts) → AreUndone t b cells new → AreParts (after_event k (event.Roll s)) (with_row_changed (with_rolled q b) s (with_row_changed (with_tail (aborted_tail count)) q rows)) forks new last
  roll_parts count is new undone =
      let P : CoreState → Type 0 = λ x. AreParts x (with_row_changed (with_rolled q b) s (with_row_changed (with_tail (aborted_tail count)) q rows)) forks new last in
      let Q : CoreState → Type 0 = λ x. Rattle.cw_core.specs.Laws.IsCore m.first x in
      let fs = forks_closed m.first k w.core s may.running may.ready may.within Aborted refl end (max m.clock end) words forks w.forked in
      let rs = roll_rows count is in
      subst P (sym is_rolled) (record {
        core = subst Q is_rolled (events m.first k (event.Roll s) w.core fit).1;
        few = (let f = w.few in omega (arith, f, length_closed t b Aborted end));
        drawn = (let d = w.drawn in let c = one_closed m.first k w.core s may.running may.ready may.within Aborted refl end (max m.clock end) words in omega (arith, d, c, length_closed t b Aborted end));
        rowed = record { len = rs.len; each = λ n r e. relist_row z (ls m.first k w.core s may.rolls may.ready) n r (rs.each n r e) };
        askers = λ i c e. askers_closed m.first k w.core s may.running may.ready may.within Aborted refl end (max m.clock end) words c.asker (w.askers i c e);
        forked = record { count = fs.count; each = fs.each };
        held = held_at new undone;
        firsts = rolled_firsts m.first k w.core s may.rolls may.ready cells new w.lists undone ∙ w.firsts;
        lists = rolled_lists m.first k w.core s may.rolls may.ready cells new w.lists undone;
        told = none_spent k y (unspent k (event.Roll s) refl fit) refl refl ∙ w.told;
      })

-- ## Fields

module _ (a : Inside) (i : IsCoreInMemory a) (s : ℕ) (fit : fits (state_of a) (event.Roll s) ≡ true) where
  abbrev j : CoreState
  j = state_of a

  abbrev form : List ℤ → List Node → List (List ℕ) → ℕ → List ℕ → CoreState
  form f t l n ws = record {
    machine = record { first = f; tree = t; lists = l; clock = n; conflicts = a.conflicts.items; finished = a.finished; joined = a.joined; stopped = stopped_by a.halt };
    tier = a.tier.columns;
    words = ws;
    splits = a.splits;
    budget = a.budget;
    halt = a.halt;
  }

  module _ (o : Inside) (tree : o.tree ≡ closed a.tree (place a.tree s) Aborted (a.clock + 1)) (drawn : o.clock ≡ a.clock + 1)
      (words : o.gaps.words.items ≡ closed_word a.gaps.words.items (gap_of j s) (stamp_of a.tree (place a.tree s))) (undone : AreUndone a.tree (place a.tree s) a.cells.items o.cells.items) where
    abbrev whole : Inside
    whole = record a { tree = o.tree; clock = o.clock; rows = o.rows; gaps = o.gaps; cells = o.cells }

    pub roll_state : state_of whole ≡ after_event j (event.Roll s)
    roll_state =
        let g = may_roll j s fit in
        ap (λ f. form f o.tree (lists_of o.cells.items) o.clock o.gaps.words.items) (rolled_firsts j.machine.first j i.core s g.rolls g.ready a.cells.items o.cells.items i.lists undone)
        ∙ ap (λ t. form j.machine.first t (lists_of o.cells.items) o.clock o.gaps.words.items) tree
        ∙ ap (λ l. form j.machine.first (closed a.tree (place a.tree s) Aborted (a.clock + 1)) l o.clock o.gaps.words.items) (rolled_lists j.machine.first j i.core s g.rolls g.ready a.cells.items o.cells.items i.lists undone)
        ∙ ap (λ n. form j.machine.first (closed a.tree (place a.tree s) Aborted (a.clock + 1)) (ls j.machine.first j i.core s g.rolls g.ready) n o.gaps.words.items) (drawn ∙ max_next a.clock)
        ∙ ap (form j.machine.first (closed a.tree (place a.tree s) Aborted (a.clock + 1)) (ls j.machine.first j i.core s g.rolls g.ready) (max a.clock (a.clock + 1))) words
        ∙ sym (is_rolled j a.rows.items a.forks.items a.cells.items a.spent i s fit)

    pub roll_kept : (count : ℕ) → block_attempt a.tree (place a.tree s) ≡ count
        → o.rows.items ≡ with_row_changed (with_rolled (parent_of a.tree (place a.tree s)) (place a.tree s)) s (with_row_changed (with_tail (aborted_tail count)) (parent_of a.tree (place a.tree s)) a.rows.items) → IsCoreInMemory whole
    roll_kept count is rows =
        let P : CoreState → Type 0 = λ z. AreParts z o.rows.items a.forks.items o.cells.items a.spent in
        let Q : List Row → Type 0 = λ rs. AreParts (after_event j (event.Roll s)) rs a.forks.items o.cells.items a.spent in
        subst P (sym roll_state) (subst Q (sym rows) (roll_parts j a.rows.items a.forks.items a.cells.items a.spent i s fit count is o.cells.items undone))

-- nothing is left of what was done beneath a block where that was undone
pub none_left : (t : List Node) (b : ℕ) (old new : List CellParts) → AreUndone t b old new → NoneBeneath t b new
none_left t b old new undone c y e at i =
    let x = undone.each c y at in
    let P : List Rattle.cw_tree.specs.declared.access.Entry.Entry → Type 0 = λ es. Rattle.cw_core.specs.Undone.Among e es in
    not-true (is_beneath t b e) (among_was (λ e. not (is_beneath t b e)) x.0.entries e (subst P x.2.entries i)).1
