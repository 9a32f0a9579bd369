-- The parts of a core that stopped.
use Rattle.std.proofs.Common.{◌≡◌, ℕ, List, ◌∷◌, refl, ap, sym, ◌∙◌, subst, Bool, true, false, cond, Option, Some, None, nat_eq}
use Rattle.std.specs.Prelude.{◌&&◌, ◌||◌, not, is_none}
use Rattle.std.proofs.lemmas.Bool.{and_parts, and_from, or_right, not-true, not_from_false, false_from_ne_true}
use Rattle.cw_tree.specs.declared.conflict.Conflict.{Conflict}
use Rattle.cw_tree.specs.declared.closed.Halt.{Halt}
use Rattle.cw_tree.specs.declared.closed.Halt.TheVariants as halt
use Rattle.cw_tree.specs.Nodes.{parent_of, is_strand}
use Rattle.cw_tree.specs.Walks.{has}
use Rattle.cw_open.specs.Machine.{OpenMachine, has_finished, waits, is_running}
use Rattle.cw_core.specs.declared.cores.Core.TheInside.{Inside}
use Rattle.cw_core.specs.declared.event.Event.TheVariants as event
use Rattle.cw_core.specs.declared.row.Row.{Row}
use Rattle.cw_core.specs.State.{CoreState, spent}
use Rattle.cw_core.specs.Events.{fits, fits_now, after_event}
use Rattle.cw_core.specs.Kept.{IsRow, AreRows, AreParts, IsAtStake, IsVictim, is_counted, stopped_by}
use Rattle.cw_core.specs.InMemory.{state_of, IsCoreInMemory}
use Rattle.cw_core.proofs.Events.Kept.{events}
use Rattle.cw_core.proofs.Kept.SameTree.{with_same_tree, made_same, forks_same, held_same}

module _ (k : CoreState) (stopped : List ℕ) (h : Option Halt) (more : (n : ℕ) → has k.machine.stopped n ≡ true → has stopped n ≡ true) where
  abbrev m : OpenMachine
  m = k.machine

  abbrev z : CoreState
  z = with_same_tree k m.finished m.joined stopped k.tier k.splits h refl refl

  counted : (n : ℕ) (b : Bool) → has_finished m n ≡ b → is_counted z.machine n ≡ true → is_counted m n ≡ true
  counted n true e g = ap (λ b. cond b (not (has m.joined (parent_of m.tree n))) (is_running m n)) e ∙ sym (ap (λ b. cond b (not (has m.joined (parent_of m.tree n))) (is_running z.machine n)) e) ∙ g
  counted n false e g =
      let runs : is_running z.machine n ≡ true = sym (ap (λ b. cond b (not (has m.joined (parent_of m.tree n))) (is_running z.machine n)) e) ∙ g in
      let a = and_parts (is_strand m.tree n && not (has_finished m n) && not (waits m n)) (not (has stopped n)) runs in
      let off : has m.stopped n ≡ false = false_from_ne_true (has m.stopped n) (λ q. absurd (cc (more n q, not-true (has stopped n) a.1))) in
      ap (λ b. cond b (not (has m.joined (parent_of m.tree n))) (is_running m n)) e
      ∙ and_from (is_strand m.tree n && not (has_finished m n) && not (waits m n)) (not (has m.stopped n)) a.0 (not_from_false (has m.stopped n) off)

  stake_same : (n v : ℕ) (c : Conflict) → IsAtStake z.machine n c v → IsAtStake m n c v
  stake_same n v c w = record { over = w.over; falls = w.falls; beside = w.beside }

  victim_same : (n : ℕ) (o : Option ℕ) → IsVictim m n o → IsVictim z.machine n o
  victim_same n None w = λ i v c at stake. w i v c at (stake_same n v c stake)
  victim_same n (Some y) w = (λ i v c at stake. w.0 i v c at (stake_same n v c stake), λ e. w.1 (counted n (has_finished m n) refl e))

  row_same : (n : ℕ) (r : Row) → IsRow k n r → IsRow z n r
  row_same n r w = record {
    made = made_same k m.finished m.joined stopped k.tier k.splits h refl refl n r.made w.made;
    tail = w.tail;
    now = record { place = w.now.place; waits = w.now.waits; finished = w.now.finished; dead = w.now.dead; victim = λ e. victim_same n r.now.victim (w.now.victim e); quiet = w.now.quiet; split = w.now.split; joined = w.now.joined };
  }

  pub stopped_rows : (rows : List Row) → AreRows k rows → AreRows z rows
  stopped_rows rows w = record { len = w.len; each = λ n r e. row_same n r (w.each n r e) }

abbrev after_stop : CoreState → Halt → List ℕ
after_stop k h = (after_event k (event.Stop h)).machine.stopped

more_stopped : (k : CoreState) (h : Halt) (n : ℕ) → has k.machine.stopped n ≡ true → has (after_stop k h) n ≡ true
more_stopped k (halt.Fault s kind) n e = or_right (nat_eq s n) (has k.machine.stopped n) e
more_stopped k (halt.Budget s) n e = or_right (nat_eq s n) (has k.machine.stopped n) e
more_stopped k halt.Memory n e = e

stopped_state : (k : CoreState) (h : Halt) → after_event k (event.Stop h) ≡ with_same_tree k k.machine.finished k.machine.joined (after_stop k h) k.tier k.splits (Some h) refl refl
stopped_state k (halt.Fault s kind) = refl
stopped_state k (halt.Budget s) = refl
stopped_state k halt.Memory = refl

seen_stop : (a : Inside) (h : Halt) → a.halt ≡ None → state_of (record a { halt = Some h }) ≡ after_event (state_of a) (event.Stop h)
seen_stop a (halt.Fault s kind) e = ap (λ ss. with_same_tree (state_of a) a.finished a.joined (s ∷ ss) a.tier.columns a.splits (Some (halt.Fault s kind)) refl refl) (sym (ap stopped_by e))
seen_stop a (halt.Budget s) e = ap (λ ss. with_same_tree (state_of a) a.finished a.joined (s ∷ ss) a.tier.columns a.splits (Some (halt.Budget s)) refl refl) (sym (ap stopped_by e))
seen_stop a halt.Memory e = ap (λ ss. with_same_tree (state_of a) a.finished a.joined ss a.tier.columns a.splits (Some halt.Memory) refl refl) (sym (ap stopped_by e))

unhalted : (k : CoreState) (h : Halt) → fits k (event.Stop h) ≡ true → k.halt ≡ None
unhalted k h fit = none k.halt (and_parts (is_none k.halt) (is_none (spent k) || true) (and_parts (is_none k.halt && (is_none (spent k) || true)) (fits_now k (event.Stop h)) fit).0).0 where
  none : (o : Option Halt) → is_none o ≡ true → o ≡ None
  none None e = refl
  none (Some x) e = absurd (cc e)

pub stop_state : (a : Inside) (h : Halt) → fits (state_of a) (event.Stop h) ≡ true → state_of (record a { halt = Some h }) ≡ after_event (state_of a) (event.Stop h)
stop_state a h fit = seen_stop a h (unhalted (state_of a) h fit)

pub stop_kept : (a : Inside) → IsCoreInMemory a → (h : Halt) → fits (state_of a) (event.Stop h) ≡ true → IsCoreInMemory (record a { halt = Some h })
stop_kept a i h fit =
    let k = state_of a in
    let y = with_same_tree k k.machine.finished k.machine.joined (after_stop k h) k.tier k.splits (Some h) refl refl in
    let P : CoreState → Type 0 = λ z. AreParts z a.rows.items a.forks.items a.cells.items a.spent in
    let Q : CoreState → Type 0 = λ z. Rattle.cw_core.specs.Laws.IsCore k.machine.first z in
    subst P (sym (stopped_state k h) ∙ sym (stop_state a h fit))
    (record {
      core = subst Q (stopped_state k h) (events k.machine.first k (event.Stop h) i.core fit).1;
      few = i.few;
      drawn = i.drawn;
      askers = i.askers;
      rowed = stopped_rows k (after_stop k h) (Some h) (more_stopped k h) a.rows.items i.rowed;
      forked = forks_same k k.machine.finished k.machine.joined (after_stop k h) k.tier k.splits (Some h) refl refl a.forks.items i.forked;
      held = λ c cell e. held_same k k.machine.finished k.machine.joined (after_stop k h) k.tier k.splits (Some h) refl refl c cell (i.held c cell e);
      firsts = i.firsts;
      lists = i.lists;
      told = i.told;
    })
