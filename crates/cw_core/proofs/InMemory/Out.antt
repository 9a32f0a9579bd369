-- A core's fields after an output and a begin.
use Rattle.std.proofs.Common.{◌≡◌, ℕ, ◌+◌, ◌-◌, ◌^◌, ◌<◌, List, [], ◌∷◌, ◌++◌, length, ap, sym, ◌∙◌, subst, arith, Bool, true, cond}
use Rattle.std.specs.Prelude.{◌&&◌, ◌||◌, not, ℤ, is_none, max}
use Rattle.std.proofs.lemmas.Bool.{and_parts}
use Rattle.cw_tree.specs.declared.node.Kind.TheVariants.{Block, Out}
use Rattle.cw_tree.specs.Nodes.{is_strand_kind, is_strand, fresh_node}
use Rattle.cw_tree.specs.Walks.{has}
use Rattle.cw_tree.specs.Series.{place}
use Rattle.cw_tree.proofs.Walks.There.{node_there}
use Rattle.cw_trace.specs.Columns.{used, gap, begun_word}
use Rattle.cw_open.specs.Machine.{OpenMachine, has_finished, waits, is_running, in_block, is_dying, is_free}
use Rattle.cw_open.proofs.Open.TreeSteps.{free_runs}
use Rattle.cw_open.specs.Runs.{left_died}
use Rattle.cw_core.specs.declared.event.Event.{Event}
use Rattle.cw_core.specs.declared.event.Event.TheVariants as event
use Rattle.cw_core.specs.declared.row.Row.{Row}
use Rattle.cw_core.specs.declared.cores.Core.TheInside.{Inside}
use Rattle.cw_core.specs.State.{CoreState, waits_for_left, column_of, gap_of, spent}
use Rattle.cw_core.specs.Events.{fits, fits_now, is_stop, after_event}
use Rattle.cw_core.specs.Kept.{IsRow, AreParts, with_row_changed, with_finished, with_tail, with_place, plain_tail, leaf_row}
use Rattle.cw_core.specs.InMemory.{state_of, IsCoreInMemory}
use Rattle.cw_core.proofs.Fits.Ready.{clock_fits, column_there, gap_there, attempt_fits, row_there, row_place, place_there, one_more}
use Rattle.cw_core.proofs.Kept.Outputs.{out_parts}
use Rattle.cw_core.proofs.Kept.Begins.{begin_parts}
use Rattle.cw_core.proofs.Kept.Finishes.{finish_parts}

-- a core is seen by its fields
pub seen : (a : Inside) (k : CoreState) (P : CoreState → Type 0) → state_of a ≡ k → P k → P (state_of a)
seen a k P e x = subst P (sym e) x

-- what fits now
pub now_of : (k : CoreState) (e : Event) → fits k e ≡ true → fits_now k e ≡ true
now_of k e fit = (and_parts (is_none k.halt && (is_none (spent k) || is_stop e)) (fits_now k e) fit).1

pub runs_free : (k : CoreState) (s : ℕ) → (is_free k.machine s && not (waits_for_left k s)) ≡ true → is_running k.machine s ≡ true
runs_free k s e = free_runs k.machine s (and_parts (is_free k.machine s) (not (waits_for_left k s)) e).0

pub strand_runs : (m : OpenMachine) (s : ℕ) → is_running m s ≡ true → is_strand m.tree s ≡ true
strand_runs m s e =
    let a = and_parts (is_strand m.tree s && not (has_finished m s) && not (waits m s)) (not (has m.stopped s)) e in
    let b = and_parts (is_strand m.tree s && not (has_finished m s)) (not (waits m s)) a.0 in
    (and_parts (is_strand m.tree s) (not (has_finished m s)) b.0).0

pub running_there : (m : OpenMachine) (s : ℕ) → is_running m s ≡ true → s < length m.tree
running_there m s e = node_there (λ y. is_strand_kind y.kind) m.tree s (strand_runs m s e)

-- what is found by the row of a strand that runs
pub record Finds (a : Inside) (s : ℕ) (r : Row) : Type 0 where
  pub strand : s < length a.tree
  pub at : r.now.place ≡ place a.tree s
  pub there : place a.tree s < length a.tree
  pub rows : length a.rows.items ≡ length a.tree
  pub clock : a.clock + 1 < 2 ^ 64
  pub column : r.made.column ≡ column_of (state_of a) s
  pub used : r.made.column < used a.tier.columns
  pub gap : gap a.tier.columns r.made.column < length a.gaps.words.items

pub finds : (a : Inside) → IsCoreInMemory a → (k : CoreState) → state_of a ≡ k → (s : ℕ) → is_running k.machine s ≡ true → (r : Row) → IsRow k s r → Finds a s r
finds a i k e s running r row =
    let runs = seen a k (λ k. is_running k.machine s ≡ true) e running in
    record {
      strand = running_there (state_of a).machine s runs;
      at = row_place (state_of a) a.rows.items a.forks.items a.cells.items a.spent i s runs r (seen a k (λ k. IsRow k s r) e row);
      there = place_there (state_of a) a.rows.items a.forks.items a.cells.items a.spent i s runs;
      rows = i.rowed.len;
      clock = clock_fits (state_of a) a.rows.items a.forks.items a.cells.items a.spent i;
      column = sym ((seen a k (λ k. IsRow k s r) e row).made.column (strand_runs (state_of a).machine s runs));
      used = column_there (state_of a) a.rows.items a.forks.items a.cells.items a.spent i s runs r (seen a k (λ k. IsRow k s r) e row);
      gap = gap_there (state_of a) a.rows.items a.forks.items a.cells.items a.spent i s runs r (seen a k (λ k. IsRow k s r) e row);
    }

pub max_next : (n : ℕ) → n + 1 ≡ max n (n + 1)
max_next n = omega arith

module _ (a : Inside) (i : IsCoreInMemory a) (s : ℕ) (v : ℤ) (fit : fits (state_of a) (event.Out s v) ≡ true) where
  abbrev k : CoreState
  k = state_of a

  running : is_running k.machine s ≡ true
  running = runs_free k s (now_of k (event.Out s v) fit)

  pub out_state : (b : Inside) → b.tree ≡ a.tree ++ fresh_node (place a.tree s) (Out v) (a.clock + 1) ∷ [] → b.clock ≡ a.clock + 1 → state_of (record a { tree = b.tree; clock = b.clock; rows = b.rows }) ≡ after_event k (event.Out s v)
  out_state b grown drawn =
      ap (λ t. state_of (record a { tree = t; clock = b.clock; rows = b.rows })) grown
      ∙ ap (λ n. state_of (record a { tree = a.tree ++ fresh_node (place a.tree s) (Out v) (a.clock + 1) ∷ []; clock = n; rows = b.rows })) (drawn ∙ max_next a.clock)

  pub out_kept : (b : Inside) → b.tree ≡ a.tree ++ fresh_node (place a.tree s) (Out v) (a.clock + 1) ∷ [] → b.clock ≡ a.clock + 1
      → (length a.tree ≡ 2 ^ 32 - 1 → ⊥)
      → b.rows.items ≡ with_row_changed (with_place (place a.tree s)) s (with_row_changed (with_tail plain_tail) (place a.tree s) a.rows.items ++ leaf_row s 0 ∷ [])
      → IsCoreInMemory (record a { tree = b.tree; clock = b.clock; rows = b.rows })
  out_kept b grown drawn full rows =
      let r = row_there k a.rows.items a.forks.items a.cells.items a.spent i (place a.tree s) (place_there k a.rows.items a.forks.items a.cells.items a.spent i s running) in
      let parts = out_parts k a.rows.items a.forks.items a.cells.items a.spent i s v fit r.0 r.1 (one_more (length a.tree) i.few full) in
      let P : CoreState → Type 0 = λ z. AreParts z b.rows.items a.forks.items a.cells.items a.spent in
      let Q : List Row → Type 0 = λ rs. AreParts (after_event k (event.Out s v)) rs a.forks.items a.cells.items a.spent in
      subst P (sym (out_state b grown drawn)) (subst Q (sym rows) parts)

-- the same of the row of its place
pub tries : (a : Inside) → IsCoreInMemory a → (k : CoreState) → state_of a ≡ k → (s : ℕ) → is_running k.machine s ≡ true → (r : Row) → IsRow k (place k.machine.tree s) r → r.tail.aborted + 1 < 2 ^ 32
tries a i k e s running r row =
    attempt_fits (state_of a) a.rows.items a.forks.items a.cells.items a.spent i s (seen a k (λ k. is_running k.machine s ≡ true) e running) r (seen a k (λ k. IsRow k (place k.machine.tree s) r) e row)

module _ (a : Inside) (i : IsCoreInMemory a) (s : ℕ) (fit : fits (state_of a) (event.Begin s) ≡ true) where
  abbrev now : CoreState
  now = state_of a

  runs_now : is_running now.machine s ≡ true
  runs_now = runs_free now s (now_of now (event.Begin s) fit)

  pub begin_state : (b : Inside) → b.tree ≡ a.tree ++ fresh_node (place a.tree s) Block (a.clock + 1) ∷ [] → b.clock ≡ a.clock + 1 → b.gaps.words.items ≡ begun_word a.gaps.words.items (gap_of now s) (a.clock + 1)
      → state_of (record a { tree = b.tree; clock = b.clock; rows = b.rows; gaps = b.gaps }) ≡ after_event now (event.Begin s)
  begin_state b grown drawn words =
      ap (λ t. state_of (record a { tree = t; clock = b.clock; rows = b.rows; gaps = b.gaps })) grown
      ∙ ap (λ n. state_of (record a { tree = a.tree ++ fresh_node (place a.tree s) Block (a.clock + 1) ∷ []; clock = n; rows = b.rows; gaps = b.gaps })) (drawn ∙ max_next a.clock)
      ∙ ap (λ ws. let z : CoreState = record (after_event now (event.Begin s)) { words = ws } in z) words

  pub begin_kept : (b : Inside) → b.tree ≡ a.tree ++ fresh_node (place a.tree s) Block (a.clock + 1) ∷ [] → b.clock ≡ a.clock + 1 → b.gaps.words.items ≡ begun_word a.gaps.words.items (gap_of now s) (a.clock + 1)
      → (length a.tree ≡ 2 ^ 32 - 1 → ⊥)
      → (r : Row) → IsRow now (place a.tree s) r
      → b.rows.items ≡ with_row_changed (with_place (length a.tree)) s (with_row_changed (with_tail plain_tail) (place a.tree s) a.rows.items ++ leaf_row s (r.tail.aborted + 1) ∷ [])
      → IsCoreInMemory (record a { tree = b.tree; clock = b.clock; rows = b.rows; gaps = b.gaps })
  begin_kept b grown drawn words full r row rows =
      let z = row_there now a.rows.items a.forks.items a.cells.items a.spent i (place a.tree s) (place_there now a.rows.items a.forks.items a.cells.items a.spent i s runs_now) in
      let same : z.0.tail.aborted ≡ r.tail.aborted = sym (i.rowed.each (place a.tree s) z.0 z.1).tail.aborted ∙ row.tail.aborted in
      let parts = begin_parts now a.rows.items a.forks.items a.cells.items a.spent i s fit z.0 z.1 (one_more (length a.tree) i.few full) in
      let P : CoreState → Type 0 = λ z. AreParts z b.rows.items a.forks.items a.cells.items a.spent in
      let Q : List Row → Type 0 = λ rs. AreParts (after_event now (event.Begin s)) rs a.forks.items a.cells.items a.spent in
      let counted = ap (λ n. with_row_changed (with_place (length a.tree)) s (with_row_changed (with_tail plain_tail) (place a.tree s) a.rows.items ++ leaf_row s (n + 1) ∷ [])) same in
      subst P (sym (begin_state b grown drawn words)) (subst Q (counted ∙ sym rows) parts)

-- ## A finish

pub runs_finish : (k : CoreState) (s : ℕ) (dead : Bool) → fits k (event.Finish s dead) ≡ true → is_running k.machine s ≡ true
runs_finish k s dead fit =
    let a = and_parts (is_running k.machine s && not (waits_for_left k s) && not (in_block k.machine s)) (if_dying (is_dying k.machine s)) (now_of k (event.Finish s dead) fit) in
    let b = and_parts (is_running k.machine s && not (waits_for_left k s)) (not (in_block k.machine s)) a.0 in
    (and_parts (is_running k.machine s) (not (waits_for_left k s)) b.0).0 where
      if_dying : Bool → Bool
      if_dying b = cond b dead (not dead || left_died k.machine s)

pub finish_kept : (a : Inside) → IsCoreInMemory a → (s : ℕ) (dead : Bool) → fits (state_of a) (event.Finish s dead) ≡ true
    → (b : Inside) → b.finished ≡ (s, dead) ∷ a.finished → b.rows.items ≡ with_row_changed (with_finished dead) s a.rows.items
    → IsCoreInMemory (record a { finished = b.finished; rows = b.rows })
finish_kept a i s dead fit b more rows =
    let parts = finish_parts (state_of a) s dead (runs_finish (state_of a) s dead fit) a.rows.items a.forks.items a.cells.items a.spent i fit in
    let P : CoreState → Type 0 = λ z. AreParts z b.rows.items a.forks.items a.cells.items a.spent in
    let Q : List Row → Type 0 = λ rs. AreParts (after_event (state_of a) (event.Finish s dead)) rs a.forks.items a.cells.items a.spent in
    let same : state_of (record a { finished = b.finished; rows = b.rows }) ≡ after_event (state_of a) (event.Finish s dead) = ap (λ fs. state_of (record a { finished = fs; rows = b.rows })) more in
    subst P (sym same) (subst Q (sym rows) parts)
