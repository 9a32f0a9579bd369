-- The parts of a core after a strand has finished.
use Rattle.std.proofs.Common.{◌≡◌, ℕ, List, ◌∷◌, refl, ap, sym, ◌∙◌, subst, Bool, true, false, cond, Option, Some, None, nat_eq}
use Rattle.std.specs.Prelude.{◌&&◌, ◌||◌, not}
use Rattle.std.proofs.lemmas.Bool.{and_parts, eqb-true, eq-eqb, false_from_ne_true, not-true}
use Rattle.cw_tree.specs.declared.conflict.Conflict.{Conflict}
use Rattle.cw_tree.specs.Nodes.{parent_of, is_strand}
use Rattle.cw_tree.specs.Walks.{has}
use Rattle.cw_stack.specs.Cells.{CellParts}
use Rattle.cw_open.specs.Machine.{OpenMachine, has_finished, finished_dead, waits, is_running}
use Rattle.cw_core.specs.declared.event.Event.TheVariants as event
use Rattle.cw_open.proofs.Refused.Backed.{dead_finished}
use Rattle.cw_core.specs.declared.row.Row.{Row}
use Rattle.cw_core.specs.State.{CoreState}
use Rattle.cw_core.specs.Events.{fits, after_event}
use Rattle.cw_core.specs.Kept.{IsNow, IsRow, AreRows, AreParts, IsAtStake, IsVictim, is_counted, with_row_changed, with_finished}
use Rattle.cw_core.proofs.Events.Kept.{events}
use Rattle.cw_core.proofs.Kept.Changed.{length_changed, was_changed}
use Rattle.cw_core.proofs.Kept.PartsGrow.{unspent, none_spent}
use Rattle.cw_core.proofs.Kept.SameTree.{with_same_tree, made_same, forks_same, held_same}

module _ (k : CoreState) (s : ℕ) (dead : Bool) (running : is_running k.machine s ≡ true) where
  abbrev m : OpenMachine
  m = k.machine

  abbrev z : CoreState
  z = with_same_tree k ((s, dead) ∷ m.finished) m.joined m.stopped k.tier k.splits k.halt refl refl

  unfinished : has_finished m s ≡ false
  unfinished =
      let a = and_parts (is_strand m.tree s && not (has_finished m s) && not (waits m s)) (not (has m.stopped s)) running in
      let b = and_parts (is_strand m.tree s && not (has_finished m s)) (not (waits m s)) a.0 in
      not-true (has_finished m s) (and_parts (is_strand m.tree s) (not (has_finished m s)) b.0).1

  undead : finished_dead m s ≡ false
  undead = false_from_ne_true (finished_dead m s) (λ e. absurd (cc (unfinished, dead_finished m s e)))

  stake_same : (n v : ℕ) (c : Conflict) → IsAtStake z.machine n c v → IsAtStake m n c v
  stake_same n v c w = record { over = w.over; falls = w.falls; beside = w.beside }

  -- whose victim counts then, counted before
  counted : (n : ℕ) (b : Bool) → nat_eq s n ≡ b → is_counted z.machine n ≡ true → is_counted m n ≡ true
  counted n true e g =
      let P : ℕ → Type 0 = λ n. is_counted m n ≡ true in
      subst P (eqb-true s n e) (ap (λ b. cond b (not (has m.joined (parent_of m.tree s))) (is_running m s)) unfinished ∙ running)
  counted n false e g =
      sym (ap (λ b. cond (b || has_finished m n) (not (has m.joined (parent_of m.tree n))) (is_strand m.tree n && not (b || has_finished m n) && not (waits m n) && not (has m.stopped n))) e) ∙ g

  victim_same : (n : ℕ) (o : Option ℕ) → IsVictim m n o → IsVictim z.machine n o
  victim_same n None w = λ i v c at stake. w i v c at (stake_same n v c stake)
  victim_same n (Some y) w = (λ i v c at stake. w.0 i v c at (stake_same n v c stake), λ e. w.1 (counted n (nat_eq s n) refl e))

  now_at : (n : ℕ) (r : Row) (b : Bool) → nat_eq n s ≡ b → IsNow k n r.now → IsNow z n (cond b (with_finished dead r) r).now
  now_at n r true e w =
      let q : nat_eq s n ≡ true = eq-eqb s n (sym (eqb-true n s e)) in
      let unfin : finished_dead m n ≡ false = ap (finished_dead m) (eqb-true n s e) ∙ undead in
      record {
        place = w.place;
        waits = w.waits;
        finished = ap (λ b. b || has_finished m n) q;
        dead = ap (λ b. b && dead || finished_dead m n) q ∙ ap (λ b. dead || b) unfin ∙ or_false dead;
        victim = λ e. victim_same n r.now.victim (w.victim e);
        quiet = w.quiet;
        split = w.split;
        joined = w.joined;
      } where
        or_false : (b : Bool) → (b || false) ≡ b
        or_false true = refl
        or_false false = refl
  now_at n r false e w =
      let q : nat_eq s n ≡ false = false_from_ne_true (nat_eq s n) (λ g. absurd (cc (e, eq-eqb n s (sym (eqb-true s n g))))) in
      record {
        place = w.place;
        waits = w.waits;
        finished = ap (λ b. b || has_finished m n) q ∙ w.finished;
        dead = ap (λ b. b && dead || finished_dead m n) q ∙ w.dead;
        victim = λ e. victim_same n r.now.victim (w.victim e);
        quiet = w.quiet;
        split = w.split;
        joined = w.joined;
      }

  row_at : (n : ℕ) (r : Row) (b : Bool) → nat_eq n s ≡ b → IsRow k n r → IsRow z n (cond b (with_finished dead r) r)
  row_at n r true e w = record { made = made_same k ((s, dead) ∷ m.finished) m.joined m.stopped k.tier k.splits k.halt refl refl n r.made w.made; tail = w.tail; now = now_at n r true e w.now }
  row_at n r false e w = record { made = made_same k ((s, dead) ∷ m.finished) m.joined m.stopped k.tier k.splits k.halt refl refl n r.made w.made; tail = w.tail; now = now_at n r false e w.now }

  rows_finished : (rows : List Row) → AreRows k rows → AreRows z (with_row_changed (with_finished dead) s rows)
  rows_finished rows w = record {
    len = length_changed (with_finished dead) s rows ∙ w.len;
    each = λ n r e.
        (let c = was_changed (with_finished dead) s rows n r e in
        let P : Row → Type 0 = λ r. IsRow z n r in
        subst P (sym c.is) (row_at n c.before (nat_eq n s) refl (w.each n c.before c.there)));
  }

  pub finish_parts : (rows : List Row) (forks : List ℕ) (cells : List CellParts) (last : Option ℕ) → AreParts k rows forks cells last → fits k (event.Finish s dead) ≡ true
      → AreParts (after_event k (event.Finish s dead)) (with_row_changed (with_finished dead) s rows) forks cells last
  finish_parts rows forks cells last w fit = record {
    core = (events m.first k (event.Finish s dead) w.core fit).1;
    few = w.few;
    drawn = w.drawn;
    askers = w.askers;
    rowed = rows_finished rows w.rowed;
    forked = forks_same k ((s, dead) ∷ m.finished) m.joined m.stopped k.tier k.splits k.halt refl refl forks w.forked;
    held = λ i cell e. held_same k ((s, dead) ∷ m.finished) m.joined m.stopped k.tier k.splits k.halt refl refl i cell (w.held i cell e);
    firsts = w.firsts;
    lists = w.lists;
    told = none_spent k (after_event k (event.Finish s dead)) (unspent k (event.Finish s dead) refl fit) refl refl ∙ w.told;
  }
