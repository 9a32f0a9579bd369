-- Cores that differ only in what splits change go on to differ only in that: no step of the open machine looks at the blocks of conflicts.
use Rattle.std.proofs.Common.{◌≡◌, ℕ, ◌+◌, List, [], ◌∷◌, map, refl, ap, sym, ◌∙◌, Bool, true, false, cond, Option, None, nat_le}
use Rattle.std.specs.Prelude.{ℤ, is_none, slice_index}
use Rattle.std.proofs.lemmas.List.{length-append, length-map, map-append}
use Rattle.cw_tree.specs.Series.{place}
use Rattle.cw_trace.specs.Columns.{ColumnTable, used, owner, first_tier, forked, split_at, merged, back_to, around_fork}
use Rattle.cw_trace.specs.Stands.{fork_column}
use Rattle.cw_open.specs.Machine.{OpenMachine}
use Rattle.cw_open.specs.Steps.{Step, forks, begins, accesses, refuses, outputs, cancels, commits, undoes, aborts, finishes, joins, stops, refusal, after_all, after_open_step as after_step}
use Rattle.cw_core.specs.declared.event.Event.{Event}
use Rattle.cw_core.specs.declared.event.Event.TheVariants as event
use Rattle.cw_trace.proofs.Marks.Edits.{length_parts}
use Rattle.cw_core.specs.State.{CoreState, column_of, gap_of, is_split}
use Rattle.cw_core.specs.Events.{after_event, steps_of, next, is_met, met_by, is_early, may_fork, tier_after}
use Rattle.cw_core.specs.Laws.{blockless, without_blocks, AreAlike, AlikeStay}

pub alike_self : (k : CoreState) → AreAlike k k
alike_self k = record { machine = refl; columns = refl; room = refl; budget = refl; halt = refl }

pub alike_sym : (k j : CoreState) → AreAlike k j → AreAlike j k
alike_sym k j a = record { machine = sym a.machine; columns = sym a.columns; room = sym a.room; budget = sym a.budget; halt = sym a.halt }

pub alike_trans : (i k j : CoreState) → AreAlike i k → AreAlike k j → AreAlike i j
alike_trans i k j a b = record { machine = a.machine ∙ b.machine; columns = a.columns ∙ b.columns; room = a.room ∙ b.room; budget = a.budget ∙ b.budget; halt = a.halt ∙ b.halt }

-- ## The machine

-- a step without the block that a refused access met
abbrev plain : Step → Step
plain (refuses s c w met) = refuses s c w (record met { block = 0 })
plain (forks s n) = forks s n
plain (begins s n) = begins s n
plain (accesses s c w n) = accesses s c w n
plain (outputs s v n) = outputs s v n
plain (cancels s n) = cancels s n
plain (commits s n) = commits s n
plain (undoes s c) = undoes s c
plain (aborts s n) = aborts s n
plain (finishes s d) = finishes s d
plain (joins f) = joins f
plain (stops s) = stops s

plain_step : (m : OpenMachine) (e : Step) → without_blocks (after_step m e) ≡ after_step (without_blocks m) (plain e)
plain_step m (refuses s c w met) =
    ap (λ cs. let y : OpenMachine = record (after_step (without_blocks m) (plain (refuses s c w met))) { conflicts = cs } in y)
    (map-append blockless m.conflicts (refusal m (place m.tree s) c met ∷ []))
plain_step m (forks s n) = refl
plain_step m (begins s n) = refl
plain_step m (accesses s c w n) = refl
plain_step m (outputs s v n) = refl
plain_step m (cancels s n) = refl
plain_step m (commits s n) = refl
plain_step m (undoes s c) = refl
plain_step m (aborts s n) = refl
plain_step m (finishes s d) = refl
plain_step m (joins f) = refl
plain_step m (stops s) = refl

plain_steps : (m : OpenMachine) (es : List Step) → without_blocks (after_all m es) ≡ after_all (without_blocks m) (map plain es)
plain_steps m [] = refl
plain_steps m (e ∷ es) = plain_steps (after_step m e) es ∙ ap (λ x. after_all x (map plain es)) (plain_step m e)

-- a core with this machine, whose columns tell nothing
abbrev with_machine : OpenMachine → CoreState
with_machine m = record { machine = m; tier = first_tier 0; words = []; splits = []; budget = 0; halt = None }

access_steps : (z : Bool) (s c : ℕ) (w : Option ℤ) (n last b d : ℕ) (chain : List ℕ)
    → map plain (cond z (refuses s c w (record { last = last; block = b; chain = chain })) (accesses s c w n) ∷ []) ≡ map plain (cond z (refuses s c w (record { last = last; block = d; chain = chain })) (accesses s c w n) ∷ [])
access_steps true s c w n last b d chain = refl
access_steps false s c w n last b d chain = refl

-- apart from those blocks, the steps of an event come from the machine alone
same_steps : (k : CoreState) (e : Event) → map plain (steps_of k e) ≡ map plain (steps_of (with_machine (without_blocks k.machine)) e)
same_steps k (event.Access s c w) =
    let met = met_by k s c in
    access_steps (is_met k s c) s c w (next k) met.last met.block (met_by (with_machine (without_blocks k.machine)) s c).block met.chain
same_steps k (event.Fork s) = refl
same_steps k (event.Begin s) = refl
same_steps k (event.Out s v) = refl
same_steps k (event.Cancel s) = refl
same_steps k (event.Commit s) = refl
same_steps k (event.Roll s) = refl
same_steps k (event.Finish s dead) = refl
same_steps k (event.Split f) = refl
same_steps k (event.Join f) = refl
same_steps k (event.Stop h) = refl

abbrev made : Event → OpenMachine → OpenMachine
made e m = after_all m (map plain (steps_of (with_machine m) e))

machine_is : (k : CoreState) (e : Event) → without_blocks (after_event k e).machine ≡ made e (without_blocks k.machine)
machine_is k e = plain_steps k.machine (steps_of k e) ∙ ap (λ es. after_all (without_blocks k.machine) es) (same_steps k e)

-- ## The columns

abbrev used_after : (columns room : ℕ) → Event → ℕ
used_after n room (event.Fork s) = cond (nat_le (n + 2) room) (n + 2) n
used_after n room _ = n

fork_used : (z : Bool) (word p : ℕ) (c : ColumnTable) → used (cond z (forked word p c) c) ≡ cond z (used c + 2) (used c)
fork_used true word p c = length-append c.owners (owner c p ∷ owner c p ∷ [])
fork_used false word p c = refl

split_used : (z : Bool) (f : ℕ) (c : ColumnTable) → used (cond z (split_at f c) c) ≡ used c
split_used true f c = length_parts (owner c f) f 0 c.owners
split_used false f c = refl

join_used : (z : Bool) (f : ℕ) (c : ColumnTable) → used (cond z (merged f c) c) ≡ used c
join_used true f c = length-map c.owners (back_to (around_fork c f) f)
join_used false f c = refl

used_is : (k : CoreState) (e : Event) → used (tier_after k e) ≡ used_after (used k.tier) k.tier.room e
used_is k (event.Fork s) = fork_used (may_fork k) (slice_index k.words (gap_of k s)) (column_of k s) k.tier
used_is k (event.Split f) = split_used (is_none (is_early k f)) (fork_column k.machine.tree f) k.tier
used_is k (event.Join f) = join_used (is_split k f) (fork_column k.machine.tree f) k.tier
used_is k (event.Begin s) = refl
used_is k (event.Access s c w) = refl
used_is k (event.Out s v) = refl
used_is k (event.Cancel s) = refl
used_is k (event.Commit s) = refl
used_is k (event.Roll s) = refl
used_is k (event.Finish s dead) = refl
used_is k (event.Stop h) = refl

fork_room : (z : Bool) (word p : ℕ) (c : ColumnTable) → (cond z (forked word p c) c).room ≡ c.room
fork_room true word p c = refl
fork_room false word p c = refl

split_room : (z : Bool) (f : ℕ) (c : ColumnTable) → (cond z (split_at f c) c).room ≡ c.room
split_room true f c = refl
split_room false f c = refl

join_room : (z : Bool) (f : ℕ) (c : ColumnTable) → (cond z (merged f c) c).room ≡ c.room
join_room true f c = refl
join_room false f c = refl

room_is : (k : CoreState) (e : Event) → (tier_after k e).room ≡ k.tier.room
room_is k (event.Fork s) = fork_room (may_fork k) (slice_index k.words (gap_of k s)) (column_of k s) k.tier
room_is k (event.Split f) = split_room (is_none (is_early k f)) (fork_column k.machine.tree f) k.tier
room_is k (event.Join f) = join_room (is_split k f) (fork_column k.machine.tree f) k.tier
room_is k (event.Begin s) = refl
room_is k (event.Access s c w) = refl
room_is k (event.Out s v) = refl
room_is k (event.Cancel s) = refl
room_is k (event.Commit s) = refl
room_is k (event.Roll s) = refl
room_is k (event.Finish s dead) = refl
room_is k (event.Stop h) = refl

-- ## Both

halt_is : (k j : CoreState) (e : Event) → k.halt ≡ j.halt → (after_event k e).halt ≡ (after_event j e).halt
halt_is k j (event.Stop h) same = refl
halt_is k j (event.Fork s) same = same
halt_is k j (event.Begin s) same = same
halt_is k j (event.Access s c w) same = same
halt_is k j (event.Out s v) same = same
halt_is k j (event.Cancel s) same = same
halt_is k j (event.Commit s) same = same
halt_is k j (event.Roll s) same = same
halt_is k j (event.Finish s dead) same = same
halt_is k j (event.Split f) same = same
halt_is k j (event.Join f) same = same

pub alike_after : AlikeStay
alike_after k j e a = record {
  machine = machine_is k e ∙ ap (λ m. made e m) a.machine ∙ sym (machine_is j e);
  columns = used_is k e ∙ ap (λ n. used_after n k.tier.room e) a.columns ∙ ap (λ r. used_after (used j.tier) r e) a.room ∙ sym (used_is j e);
  room = room_is k e ∙ a.room ∙ sym (room_is j e);
  budget = a.budget;
  halt = halt_is k j e a.halt;
}

-- a split leaves a core alike
pub alike_split : (k : CoreState) (f : ℕ) → AreAlike (after_event k (event.Split f)) k
alike_split k f = record { machine = refl; columns = used_is k (event.Split f); room = room_is k (event.Split f); budget = refl; halt = refl }
