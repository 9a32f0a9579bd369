-- A core's parts and fields after a commit.
use Rattle.std.proofs.Common.{◌≡◌, ℕ, ◌+◌, ◌<◌, List, length, refl, ap, sym, ◌∙◌, subst, arith, Bool, true, false, cond, Option, nat_eq}
use Rattle.std.specs.Prelude.{◌&&◌, not, max}
use Rattle.std.proofs.lemmas.Option.{slice_get_within}
use Rattle.std.proofs.lemmas.Bool.{and_parts, and_right, eqb-true, eq-eqb, not-true}
use Rattle.cw_tree.specs.declared.node.Node.{Node}
use Rattle.cw_tree.specs.declared.node.BlockState.TheVariants.{Committed}
use Rattle.cw_tree.specs.Nodes.{is_aborted_state, parent_of, stamp_of, is_block, is_aborted, closed}
use Rattle.cw_tree.specs.Series.{place}
use Rattle.cw_tree.specs.Refusals.{is_victim}
use Rattle.cw_tree.proofs.NextNodes.Closing.{length_closed, state_closed}
use Rattle.cw_stack.specs.Cells.{CellParts}
use Rattle.cw_trace.specs.Columns.{closed_word}
use Rattle.cw_open.specs.Machine.{OpenMachine, is_running, in_block, is_free}
use Rattle.cw_open.proofs.Open.TreeSteps.{free_runs}
use Rattle.cw_core.specs.declared.cores.Core.TheInside.{Inside}
use Rattle.cw_core.specs.declared.event.Event.TheVariants as event
use Rattle.cw_tree.proofs.NodeKinds.{pending_block}
use Rattle.cw_core.specs.declared.row.Row.{Row}
use Rattle.cw_core.specs.State.{CoreState, waits_for_left, gap_of}
use Rattle.cw_core.specs.Events.{fits, after_event}
use Rattle.cw_core.specs.Kept.{IsTail, IsNow, IsRow, AreRows, AreParts, with_row_changed, with_tail, with_place, plain_tail}
use Rattle.cw_core.specs.InMemory.{state_of, IsCoreInMemory}
use Rattle.cw_core.proofs.Events.Kept.{events}
use Rattle.cw_core.proofs.Kept.Changed.{length_changed, was_changed}
use Rattle.cw_core.proofs.Kept.PartsGrow.{unspent, none_spent}
use Rattle.cw_core.proofs.Kept.RowsClose.{open_block, low, made_closed, tail_closed, place_here, place_other, victim_closed, now_closed}
use Rattle.cw_core.proofs.Kept.PartsClose.{forks_closed, held_closed, askers_closed, one_closed, tail_shut}
use Rattle.cw_core.proofs.InMemory.Out.{now_of, max_next}

pub record MayCommit (k : CoreState) (s : ℕ) : Type 0 where
  pub running : is_running k.machine s ≡ true
  pub ready : waits_for_left k s ≡ false
  pub within : in_block k.machine s ≡ true
  pub safe : is_victim k.machine.tree k.machine.conflicts (place k.machine.tree s) ≡ false

pub may_commit : (k : CoreState) (s : ℕ) → fits k (event.Commit s) ≡ true → MayCommit k s
may_commit k s fit =
    let m = k.machine in
    let x = and_parts (is_free m s && not (waits_for_left k s) && in_block m s) (not (is_victim m.tree m.conflicts (place m.tree s))) (now_of k (event.Commit s) fit) in
    let y = and_parts (is_free m s && not (waits_for_left k s)) (in_block m s) x.0 in
    let z = and_parts (is_free m s) (not (waits_for_left k s)) y.0 in
    record { running = free_runs m s z.0; ready = not-true (waits_for_left k s) z.1; within = y.1; safe = not-true (is_victim m.tree m.conflicts (place m.tree s)) x.1 }

module _ (k : CoreState) (rows : List Row) (forks : List ℕ) (cells : List CellParts) (last : Option ℕ) (w : AreParts k rows forks cells last) (s : ℕ) (fit : fits k (event.Commit s) ≡ true) where
  abbrev t : List Node
  t = k.machine.tree

  abbrev m : OpenMachine
  m = k.machine

  abbrev b : ℕ
  b = place t s

  abbrev q : ℕ
  q = parent_of t b

  abbrev end : ℕ
  end = m.clock + 1

  abbrev u : List Node
  u = closed t b Committed end

  abbrev z : CoreState
  z = after_event k (event.Commit s)

  may : MayCommit k s
  may = may_commit k s fit

  pub block_here : is_block t b ≡ true
  block_here = pending_block t b (open_block m.first k w.core s may.running may.ready may.within Committed refl end (max m.clock end) z.words)

  pub parent_low : q < b
  parent_low = low m.first k w.core s may.running may.ready may.within Committed refl end (max m.clock end) z.words

  tail_at : (n : ℕ) (r : Row) (a : Bool) → nat_eq n q ≡ a → IsRow k n r → IsTail u n (cond a (with_tail plain_tail r) r).tail
  tail_at n r true e row =
      let P : ℕ → Type 0 = λ n. IsTail u n plain_tail in
      let off : is_aborted u b ≡ false = state_closed t b Committed end is_aborted_state ∙ and_right (is_block t b) false refl in
      subst P (sym (eqb-true n q e)) (tail_shut m.first k w.core s may.running may.ready may.within Committed refl end (max m.clock end) z.words false off)
  tail_at n r false e row = tail_closed m.first k w.core s may.running may.ready may.within Committed refl end (max m.clock end) z.words n r.tail (λ g. absurd (cc (e, eq-eqb n q g))) row.tail

  now_at : (n : ℕ) (r : Row) (c : Bool) → nat_eq n s ≡ c → IsRow k n r → IsNow z n (cond c (with_place q r) r).now
  now_at n r true e row =
      now_closed m.first k w.core s may.running may.ready may.within Committed refl end (max m.clock end) z.words n r.now q r.now.victim
      (λ g. ap (place u) (eqb-true n s e) ∙ place_here m.first k w.core s may.running may.ready may.within Committed refl end (max m.clock end) z.words)
      (λ g. victim_closed m.first k w.core s may.running may.ready may.within Committed refl end (max m.clock end) z.words may.safe n r.now.victim (row.now.victim g)) row.now.quiet row.now
  now_at n r false e row =
      now_closed m.first k w.core s may.running may.ready may.within Committed refl end (max m.clock end) z.words n r.now r.now.place r.now.victim
      (λ g. place_other m.first k w.core s may.running may.ready may.within Committed refl end (max m.clock end) z.words n (λ x. absurd (cc (e, eq-eqb n s x))) ∙ row.now.place g)
      (λ g. victim_closed m.first k w.core s may.running may.ready may.within Committed refl end (max m.clock end) z.words may.safe n r.now.victim (row.now.victim g)) row.now.quiet row.now

  row_at : (n : ℕ) (r : Row) (a c : Bool) → nat_eq n q ≡ a → nat_eq n s ≡ c → IsRow k n r → n < length t → IsRow z n (cond c (with_place q (cond a (with_tail plain_tail r) r)) (cond a (with_tail plain_tail r) r))
  row_at n r true true ea ec row h = record { made = made_closed m.first k w.core s may.running may.ready may.within Committed refl end (max m.clock end) z.words n r.made h row.made; tail = tail_at n r true ea row; now = now_at n r true ec row }
  row_at n r true false ea ec row h = record { made = made_closed m.first k w.core s may.running may.ready may.within Committed refl end (max m.clock end) z.words n r.made h row.made; tail = tail_at n r true ea row; now = now_at n r false ec row }
  row_at n r false true ea ec row h = record { made = made_closed m.first k w.core s may.running may.ready may.within Committed refl end (max m.clock end) z.words n r.made h row.made; tail = tail_at n r false ea row; now = now_at n r true ec row }
  row_at n r false false ea ec row h = record { made = made_closed m.first k w.core s may.running may.ready may.within Committed refl end (max m.clock end) z.words n r.made h row.made; tail = tail_at n r false ea row; now = now_at n r false ec row }

  commit_rows : AreRows z (with_row_changed (with_place q) s (with_row_changed (with_tail plain_tail) q rows))
  commit_rows = record {
    len = length_changed (with_place q) s (with_row_changed (with_tail plain_tail) q rows) ∙ length_changed (with_tail plain_tail) q rows ∙ w.rowed.len ∙ sym (length_closed t b Committed end);
    each = λ n r e.
        (let c = was_changed (with_place q) s (with_row_changed (with_tail plain_tail) q rows) n r e in
        let d = was_changed (with_tail plain_tail) q rows n c.before c.there in
        let h : n < length t = omega (arith, slice_get_within rows n d.before d.there, w.rowed.len) in
        let P : Row → Type 0 = λ r. IsRow z n r in
        let is : r ≡ cond (nat_eq n s) (with_place q (cond (nat_eq n q) (with_tail plain_tail d.before) d.before)) (cond (nat_eq n q) (with_tail plain_tail d.before) d.before) =
        c.is ∙ ap (λ r. cond (nat_eq n s) (with_place q r) r) d.is in
        subst P (sym is) (row_at n d.before (nat_eq n q) (nat_eq n s) refl refl (w.rowed.each n d.before d.there) h));
  }

  pub commit_parts : AreParts (after_event k (event.Commit s)) (with_row_changed (with_place q) s (with_row_changed (with_tail plain_tail) q rows)) forks cells last
  commit_parts = record {
    core = (events m.first k (event.Commit s) w.core fit).1;
    few = (let f = w.few in omega (arith, f, length_closed t b Committed end));
    drawn = (let d = w.drawn in let c = one_closed m.first k w.core s may.running may.ready may.within Committed refl end (max m.clock end) z.words in omega (arith, d, c, length_closed t b Committed end));
    rowed = commit_rows;
    askers = λ i c e. askers_closed m.first k w.core s may.running may.ready may.within Committed refl end (max m.clock end) z.words c.asker (w.askers i c e);
    forked = forks_closed m.first k w.core s may.running may.ready may.within Committed refl end (max m.clock end) z.words forks w.forked;
    held = λ c cell e. held_closed m.first k w.core s may.running may.ready may.within Committed refl end (max m.clock end) z.words c cell (w.held c cell e);
    firsts = w.firsts;
    lists = w.lists;
    told = none_spent k z (unspent k (event.Commit s) refl fit) refl refl ∙ w.told;
  }

-- ## Fields

module _ (a : Inside) (i : IsCoreInMemory a) (s : ℕ) (fit : fits (state_of a) (event.Commit s) ≡ true) where
  abbrev j : CoreState
  j = state_of a

  module _ (b : Inside) (tree : b.tree ≡ closed a.tree (place a.tree s) Committed (a.clock + 1)) (drawn : b.clock ≡ a.clock + 1)
      (words : b.gaps.words.items ≡ closed_word a.gaps.words.items (gap_of j s) (stamp_of a.tree (place a.tree s))) where
    abbrev whole : Inside
    whole = record a { tree = b.tree; clock = b.clock; rows = b.rows; gaps = b.gaps }

    pub commit_state : state_of whole ≡ after_event j (event.Commit s)
    commit_state =
        ap (λ t. state_of (record a { tree = t; clock = b.clock; rows = b.rows; gaps = b.gaps })) tree
        ∙ ap (λ n. state_of (record a { tree = closed a.tree (place a.tree s) Committed (a.clock + 1); clock = n; rows = b.rows; gaps = b.gaps })) (drawn ∙ max_next a.clock)
        ∙ ap (λ ws. let y : CoreState = record (after_event j (event.Commit s)) { words = ws } in y) words

    pub commit_kept : b.rows.items ≡ with_row_changed (with_place (parent_of a.tree (place a.tree s))) s (with_row_changed (with_tail plain_tail) (parent_of a.tree (place a.tree s)) a.rows.items) → IsCoreInMemory whole
    commit_kept rows =
        let P : CoreState → Type 0 = λ z. AreParts z b.rows.items a.forks.items a.cells.items a.spent in
        let Q : List Row → Type 0 = λ rs. AreParts (after_event j (event.Commit s)) rs a.forks.items a.cells.items a.spent in
        subst P (sym commit_state) (subst Q (sym rows) (commit_parts j a.rows.items a.forks.items a.cells.items a.spent i s fit))
