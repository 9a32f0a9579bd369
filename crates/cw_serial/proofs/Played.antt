-- The machine in memory plays the picks one by one.
use Rattle.std.proofs.Common.{◌≡◌, ◌≤◌, ◌∙◌, ◌+◌, ℕ, zero, suc, List, [], ◌∷◌, Bool, true, false, Option, Some, None, drop, length, refl, sym, ap, subst, add-one}
use Rattle.std.specs.Prelude.{IfOk, Result, Ok, Err}
use Rattle.std.specs.List.{slice_get}
use Rattle.std.proofs.Math.ListN.{drop_of_length-le}
use Rattle.cw_strand.specs.Strands.{Strands}
use Rattle.cw_tree.specs.declared.picks.Name.{Name}
use Rattle.cw_tree.specs.declared.picks.Turn.{Turn}
use Rattle.cw_tree.specs.declared.picks.Picks.{Picks as Order}
use Rattle.cw_job.specs.Jobs.{Job}
use Rattle.cw_serial.specs.declared.ends.SerialEnd.{SerialEnd}
use Rattle.cw_serial.specs.declared.ends.SerialEnd.TheVariants as last
use Rattle.cw_serial.specs.declared.machine.Machine.{Machine as Code}
use Rattle.cw_serial.specs.declared.orders.Known.{Known}
use Rattle.cw_serial.specs.declared.play.Play.{Play}
use Rattle.cw_serial.specs.Machine.{Machine, steps_down, pick, pick_at, pick_named, machine_shows, play}
use Rattle.cw_job.specs.Room.Strands.{StrandState, strands_of_job}
use Rattle.cw_serial.specs.MachineOf.{end_under}
use Rattle.cw_serial.specs.TableInMemory.{StrandsAreNumbered, IsFront}
use Rattle.cw_serial.specs.InMemory.{IsMachine, Picks}
use Rattle.cw_serial.specs.Orders.{AreKnown, Finds, IsNamed, IsPlay, Plays}
use Rattle.cw_serial.proofs.Numbers.{turns_more}

-- ## One pick

-- what holds of a result, from two facts of it
pub both_if_ok : {X Y : Type 0} (r : Result X Y) (P Q R : X → Type 0) → ((x : X) → P x → Q x → R x) → IfOk r P → IfOk r Q → IfOk r R
both_if_ok (Ok x) P Q R f p q = f x p q
both_if_ok (Err e) P Q R f p q = tt

known_front : (order : List Name) (numbers : List (Option ℕ)) (names more : List Name) → AreKnown order numbers names → IsFront names more → AreKnown order numbers more
known_front order numbers names more known (rest, e) n i h =
    let same = known n i h in
    record { path = same.path; here = same.here; there = ap (λ v. steps_down v i) e ∙ turns_more names rest i same.path same.there }

module _ (job : Job) (names : List Name) (m : Machine StrandState) (n : ℕ) where
  -- what is found of a name is that of its strand
  pub finds_named : (code : Code) (found : Option ℕ) → IsMachine job code m → Finds names n code found → IsNamed job m code found (steps_down names n)
  finds_named code (Some i) is same = subst (IsNamed job m code (Some i)) (sym same.here) same.there
  finds_named code None is nowhere = by (steps_down names n) refl where
    by : (o : Option (List Turn)) → steps_down names n ≡ o → IsNamed job m code None o
    by None e = tt
    by (Some q) e = nowhere job m q is e

  -- What was looked for in a machine that is driven by names: what is known grew, and is so.
  pub record Looked (old : Play) (now : Known) (found : Option ℕ) : Type 0 where
    pub finds : Finds names n old.machine found
    pub order : now.order.now ≡ names
    pub known : AreKnown names now.numbers.items old.machine.strands.names.items

  pub looked : (old : Play) (now : Known) (found : Option ℕ) → IsPlay job names old m → now.order.now ≡ old.known.order.now
      → (StrandsAreNumbered old.machine.strands.names.items old.machine.strands.rows.items → AreKnown old.known.order.now old.known.numbers.items old.machine.strands.names.items
      → Finds old.known.order.now n old.machine found × AreKnown old.known.order.now now.numbers.items old.machine.strands.names.items)
      → Looked old now found
  looked old now found is same finds =
      let known = subst (λ ns. AreKnown ns old.known.numbers.items old.machine.strands.names.items) (sym is.order) is.known in
      let (f, k) = finds is.machine.strands.numbered known in
      record {
        finds = subst (λ ns. Finds ns n old.machine found) is.order f;
        order = same ∙ is.order;
        known = subst (λ ns. AreKnown ns now.numbers.items old.machine.strands.names.items) is.order k;
      }

  -- the same machine, once more is known about it
  pub looks : (old new : Play) (found : Option ℕ) → IsPlay job names old m → new.machine ≡ old.machine → Looked old new.known found → IsPlay job names new m
  looks old new found is same l = record {
    machine = subst (λ code. IsMachine job code m) (sym same) is.machine;
    order = l.order;
    known = subst (λ code. AreKnown names new.known.numbers.items code.strands.names.items) (sym same) l.known;
  }

  -- a name of which no strand stands cannot be picked
  pub nowhere_plays : (old new : Play) → IsPlay job names old m → new.machine ≡ old.machine → Looked old new.known None → Plays job names m (pick_named (strands_of_job job) m (steps_down names n)) false new
  nowhere_plays old new is same l = by (steps_down names n) refl where
    by : (o : Option (List Turn)) → steps_down names n ≡ o → Plays job names m (pick_named (strands_of_job job) m o) false new
    by None e = looks old new None is same l
    by (Some q) e = subst (λ o. Plays job names m o false new) (sym (ap (pick_at (strands_of_job job) m q) (l.finds job m q is.machine e))) (looks old new None is same l)

  -- the strand of a name is picked
  pub started_plays : (old new : Play) (i : ℕ) (moved : Bool) → Looked old new.known (Some i)
      → ((q : List Turn) → steps_down old.machine.strands.names.items i ≡ Some q → Picks job m (pick (strands_of_job job) m q) moved new.machine) → IsFront old.machine.strands.names.items new.machine.strands.names.items
      → Plays job names m (pick_named (strands_of_job job) m (steps_down names n)) moved new
  started_plays old new i moved l picks front =
      subst (λ o. Plays job names m (pick_named (strands_of_job job) m o) moved new) (sym l.finds.here) (by (pick (strands_of_job job) m l.finds.path) moved (picks l.finds.path l.finds.there)) where
        more : AreKnown names new.known.numbers.items new.machine.strands.names.items
        more = known_front names new.known.numbers.items old.machine.strands.names.items new.machine.strands.names.items l.known front

        by : (o : Option (Machine StrandState)) (b : Bool) → Picks job m o b new.machine → Plays job names m o b new
        by (Some t) true h = record { machine = h; order = l.order; known = more }
        by None false h = record { machine = h; order = l.order; known = more }
        by (Some t) false h = absurd h
        by None true h = absurd h

-- ## All of them

pub drop_at : {X : Type 0} (xs : List X) (i : ℕ) (x : X) → slice_get xs i ≡ Some x → drop i xs ≡ x ∷ drop (suc i) xs
drop_at [] i x h = absurd cc
drop_at (y ∷ ys) zero x h = cc
drop_at (y ∷ ys) (suc i) x h = drop_at ys i x h

-- One pick of a play that comes to this end.
module _ {A : Type 0} (s : Strands A) (names : List Name) (list : List ℕ) (name : ℕ) (e : SerialEnd) where
  played_on : (place n : ℕ) (m t : Machine A) → slice_get list place ≡ Some n → pick_named s m (steps_down names n) ≡ Some t → e ≡ play s m names (drop place list) name place → e ≡ play s t names (drop (place + 1) list) name (place + 1)
  played_on place n m t there is same = rw add-one (rw (drop_at list place n there, is) at same)

  played_stuck : (place n : ℕ) (m : Machine A) → slice_get list place ≡ Some n → pick_named s m (steps_down names n) ≡ None → e ≡ play s m names (drop place list) name place → last.Stuck place ≡ e
  played_stuck place n m there is same = sym (rw (drop_at list place n there, is) at same)

  played_all : (place : ℕ) (m : Machine A) → length list ≤ place → e ≡ play s m names (drop place list) name place → machine_shows s m names name place ≡ e
  played_all place m past same = sym (rw (drop_of_length-le list past) at same)

module _ (job : Job) (picks : Order) where
  -- The first `place` picks were made, and the remaining ones lead to the end.
  pub record Played (code : Play) (place : ℕ) : Type 0 where
    pub machine : Machine StrandState
    pub is : IsPlay job picks.names code machine
    pub leaves : end_under job picks ≡ play (strands_of_job job) machine picks.names (drop place picks.list) picks.last place

  -- a pick, by its name
  abbrev pub Picked : Play → ℕ → Bool → Play → Type 0
  Picked old n moved new = (any : Job) (names : List Name) (m : Machine StrandState) → any.program ≡ job.program → IsPlay any names old m → Plays any names m (pick_named (strands_of_job any) m (steps_down names n)) moved new

  module _ (old new : Play) (place n : ℕ) (there : slice_get picks.list place ≡ Some n) (played : Played old place) where
    pub plays_on : Picked old n true new → Played new (place + 1)
    plays_on picked = by (pick_named (strands_of_job job) played.machine (steps_down picks.names n)) refl (picked job picks.names played.machine refl played.is) where
      by : (o : Option (Machine StrandState)) → pick_named (strands_of_job job) played.machine (steps_down picks.names n) ≡ o → Plays job picks.names played.machine o true new → Played new (place + 1)
      by None e h = absurd h
      by (Some t) e h = record { machine = t; is = h; leaves = played_on (strands_of_job job) picks.names picks.list picks.last (end_under job picks) place n played.machine t there e played.leaves }

    pub stuck_at : Picked old n false new → last.Stuck place ≡ end_under job picks
    stuck_at picked = by (pick_named (strands_of_job job) played.machine (steps_down picks.names n)) refl (picked job picks.names played.machine refl played.is) where
      by : (o : Option (Machine StrandState)) → pick_named (strands_of_job job) played.machine (steps_down picks.names n) ≡ o → Plays job picks.names played.machine o false new → last.Stuck place ≡ end_under job picks
      by (Some t) e h = absurd h
      by None e h = played_stuck (strands_of_job job) picks.names picks.list picks.last (end_under job picks) place n played.machine there e played.leaves

  -- what the machine shows of itself once all picks are made
  pub shown_at : (code : Play) (place : ℕ) (e : SerialEnd) → length picks.list ≤ place → (played : Played code place) → e ≡ machine_shows (strands_of_job job) played.machine picks.names picks.last place → e ≡ end_under job picks
  shown_at code place e past played shows = shows ∙ played_all (strands_of_job job) picks.names picks.list picks.last (end_under job picks) place played.machine past played.leaves
