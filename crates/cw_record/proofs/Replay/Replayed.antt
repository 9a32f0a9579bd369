-- The machine in memory replays the items of a record one by one.
use Rattle.std.proofs.Common.{◌≡◌, ◌↔◌, ◌+◌, ◌<◌, ◌≤◌, ℕ, ℤ, suc, List, [], ◌∷◌, Bool, true, false, Option, Some, None, drop, length, refl, sym, ◌∙◌, ap, subst, arith, option_map}
use Rattle.std.specs.Prelude.{slice_get, IsSomeAnd, if◌then◌else◌}
use Rattle.std.proofs.Math.ListN.{drop_of_length-le}
use Rattle.std.proofs.lemmas.Option.{slice_get-map, slice_get_within, get_or_from_slice_get}
use Rattle.cw_strand.specs.declared.want.Want.{Want}
use Rattle.cw_strand.specs.declared.want.Want.TheVariants as want
use Rattle.cw_strand.specs.Strands.{is_over}
use Rattle.cw_tree.specs.declared.node.Node.{Node}
use Rattle.cw_tree.specs.declared.node.Kind.{Kind}
use Rattle.cw_tree.specs.declared.node.Kind.TheVariants.{Read, Write, Out, Cancel}
use Rattle.cw_tree.specs.declared.conflict.Conflict.{Conflict}
use Rattle.cw_tree.specs.Nodes.{is_strand}
use Rattle.cw_tree.specs.Walks.{IsNumbered}
use Rattle.cw_tree.specs.Names.{name_of}
use Rattle.cw_tree.specs.Refusals.{victim_of, telling}
use Rattle.cw_serial.specs.declared.play.Play.{Play}
use Rattle.cw_job.specs.Jobs.{Job}
use Rattle.cw_serial.specs.StrandTree.{at}
use Rattle.cw_serial.specs.Machine.{Machine, pick, pick_named, steps_down}
use Rattle.cw_serial.specs.Wants.{Since}
use Rattle.cw_job.specs.Room.Strands.{StrandState, strands_of_job}
use Rattle.cw_serial.specs.MachineOf.{machine_of}
use Rattle.cw_serial.specs.InMemory.{want_before_end}
use Rattle.cw_serial.specs.Orders.{at_named, IsPlay, Plays}
use Rattle.cw_serial.proofs.Played.{drop_at}
use Rattle.cw_record.specs.declared.record.Record.{Record}
use Rattle.cw_record.specs.declared.record_end.RecordEnd.{RecordEnd}
use Rattle.cw_record.specs.declared.record_end.RecordEnd.TheVariants.{Finished, Fault, Budget, Moves}
use Rattle.cw_record.specs.declared.items.OrderItem.{OrderItem}
use Rattle.cw_record.specs.declared.items.OrderItem.TheVariants.{Begins, Does, Ends}
use Rattle.cw_record.specs.Items.{items}
use Rattle.cw_record.specs.Listed.{listed_names}
use Rattle.cw_record.specs.Order.{node_of, pick_of, order_of, ending_strand}
use Rattle.cw_record.specs.Records.{job_of_record}
use Rattle.cw_record.specs.Replay.{doer, IsAct, IsActOf, IsItemDone, DoesAll, IsRefusedBy, WantsAgain, StandsRefused, IsSpent}
use Rattle.cw_record.specs.Replaying.{DoesFrom, WantsTold, WantsRefused}
use Rattle.cw_record.proofs.Orders.ItemsThere.{items_there}
use Rattle.cw_record.proofs.Walked.Named.{strand_turns, item_turns}

-- ## What a strand that has not come to its end wants

module _ (job : Job) (P : Want → Type 0) (before : (w : Want) → P w → is_over w ≡ false) where
  abbrev Wants : Option StrandState → Type 0
  Wants o = (a : StrandState) × (o ≡ Some a) × P ((strands_of_job job).want a)

  abbrev Passes : Option StrandState → Bool → Type 0
  Passes (Some a) b = IsSomeAnd (if b then None else Some ((strands_of_job job).want a)) P
  Passes None b = ⊥

  wants_some : (o : Option StrandState) → IsSomeAnd (want_before_end (strands_of_job job) o) P → Wants o
  wants_some None h = absurd h
  wants_some (Some a) h = by (is_over ((strands_of_job job).want a)) h where
    by : (b : Bool) → Passes (Some a) b → Wants (Some a)
    by true g = absurd g
    by false g = (a, refl, g)

  some_wants : (o : Option StrandState) → Wants o → IsSomeAnd (want_before_end (strands_of_job job) o) P
  some_wants o (a, e, h) = subst (λ x. IsSomeAnd (want_before_end (strands_of_job job) x) P) (sym e) (subst (Passes (Some a)) (sym (before ((strands_of_job job).want a) h)) h)

-- no strand that has come to its end does an item, or stands at what was refused
act_before : (memory : List ℤ) (since : List Since) (w : Want) (k : Kind) → IsAct memory since w k → is_over w ≡ false
act_before memory since w (Read c v) h = ap is_over h.0
act_before memory since w (Write c v) h = ap is_over h
act_before memory since w (Out v) h = ap is_over h
act_before memory since w (Cancel back) h = ap is_over h.0
act_before memory since w _ h = absurd h

act_of_before : (memory : List ℤ) (since : List Since) (w : Want) (o : Option Node) → IsActOf memory since w o → is_over w ≡ false
act_of_before memory since w None h = absurd h
act_of_before memory since w (Some x) h = act_before memory since w x.kind h

item_before : {A : Type 0} (t : List Node) (m : Machine A) (i : OrderItem) (w : Want) → IsItemDone t m w i → is_over w ≡ false
item_before t m (Begins b) w h = ap is_over h
item_before t m (Does n) w h = act_of_before m.memory m.since w (slice_get t n) h
item_before t m (Ends b) w h = ap is_over h

refused_before : (cell : ℕ) (victim : Option ℕ) (w : Want) → IsRefusedBy cell victim w → is_over w ≡ false
refused_before cell (Some v) w h = ap is_over h
refused_before cell None (want.Load d) h = refl
refused_before cell None (want.Store d v) h = refl
refused_before cell None _ h = absurd h

-- ## A record whose order is the right one

module _ (r : Record) where
  abbrev pub all : List OrderItem
  all = items r.tree r.conflicts r.limits.aborts r.end

  -- The first `place` items were done, and the remaining ones can be done just if all can.
  pub record Stands (play : Play) (place : ℕ) : Type 0 where
    pub machine : Machine StrandState
    pub is : IsPlay (job_of_record r) r.order.names play machine
    pub same : DoesFrom r (machine_of (job_of_record r)) all ↔ DoesFrom r machine (drop place all)

  pub stands_first : (play : Play) → IsPlay (job_of_record r) r.order.names play (machine_of (job_of_record r)) → Stands play 0
  stands_first play is = record { machine = machine_of (job_of_record r); is = is; same = (λ h. h, λ h. h) }

  -- the list in memory has the items of the record
  pub all_listed : {xs ys : List OrderItem} {cs : List Conflict} → xs ≡ ys → ys ≡ items r.tree cs r.limits.aborts r.end → cs ≡ r.conflicts → xs ≡ all
  all_listed same is told = same ∙ (is ∙ ap (λ cs. items r.tree cs r.limits.aborts r.end) told)

  pub listed_at : {xs : List OrderItem} (place : ℕ) (i : OrderItem) → xs ≡ all → slice_get xs place ≡ Some i → slice_get all place ≡ Some i
  listed_at place i listed there = subst (λ is. slice_get is place ≡ Some i) listed there

  pub item_there : (place : ℕ) (i : OrderItem) → slice_get all place ≡ Some i → node_of i < length r.tree
  item_there place i h = subst (λ x. node_of x < length r.tree) (get_or_from_slice_get all place i i h) (items_there r.tree _ _ _ place i (slice_get_within all place i h))

  module _ (numbered : IsNumbered r.tree) (order : r.order ≡ order_of r.tree r.conflicts r.limits.aborts r.end) where
    -- ## An item

    module _ (old new : Play) (place : ℕ) (i : OrderItem) (there : slice_get all place ≡ Some i) (name : ℕ) (named : slice_get r.order.list place ≡ Some name) (stands : Stands old place) where
      abbrev left : List OrderItem
      left = drop (suc place) all

      name_is : steps_down r.order.names name ≡ Some (doer r.tree i)
      name_is =
          let number : Some name ≡ Some (pick_of r.tree i) = sym named ∙ ap (λ o. slice_get o.list place) order ∙ slice_get-map (pick_of r.tree) all place ∙ ap (option_map (pick_of r.tree)) there in
          let e : name ≡ pick_of r.tree i = cc in
          ap (λ o. steps_down o.names name) order ∙ (ap (steps_down (listed_names r.tree)) e ∙ item_turns r.tree numbered.rooted numbered.root i (item_there place i there))

      -- what is left begins with the item
      rest_is : drop place all ≡ i ∷ left
      rest_is = drop_at all place i there

      abbrev IsHere : Want → Type 0
      IsHere w = IsItemDone r.tree stands.machine w i

      abbrev standing : Option StrandState
      standing = at (strands_of_job (job_of_record r)) stands.machine.strands (doer r.tree i)

      before_item : DoesFrom r (machine_of (job_of_record r)) all → DoesFrom r stands.machine (i ∷ left)
      before_item h = subst (DoesFrom r stands.machine) rest_is (stands.same.0 h)

      -- a strand that wants something else does not do the item
      pub other_want : (w : Option Want) → w ≡ want_before_end (strands_of_job (job_of_record r)) (at_named (job_of_record r) stands.machine (steps_down r.order.names name)) → (IsSomeAnd w IsHere → ⊥) → DoesFrom r (machine_of (job_of_record r)) all → ⊥
      other_want w wants none h =
          let (last, (a, n, stood, item, picks, rest), spent) = before_item h in
          let named_want : want_before_end (strands_of_job (job_of_record r)) standing ≡ w = sym (wants ∙ ap (λ o. want_before_end (strands_of_job (job_of_record r)) (at_named (job_of_record r) stands.machine o)) name_is) in
          none (subst (λ x. IsSomeAnd x IsHere) named_want (some_wants (job_of_record r) IsHere (item_before r.tree stands.machine i) standing (a, stood, item)))

      picks_named : (moved : Bool) → Plays (job_of_record r) r.order.names stands.machine (pick_named (strands_of_job (job_of_record r)) stands.machine (steps_down r.order.names name)) moved new → Plays (job_of_record r) r.order.names stands.machine (pick (strands_of_job (job_of_record r)) stands.machine (doer r.tree i)) moved new
      picks_named moved h = subst (λ o. Plays (job_of_record r) r.order.names stands.machine (pick_named (strands_of_job (job_of_record r)) stands.machine o) moved new) name_is h

      -- a strand that cannot be picked does not do it either
      pub no_pick : Plays (job_of_record r) r.order.names stands.machine (pick_named (strands_of_job (job_of_record r)) stands.machine (steps_down r.order.names name)) false new → DoesFrom r (machine_of (job_of_record r)) all → ⊥
      no_pick h all_done =
          let (last, (a, n, stood, item, picks, rest), spent) = before_item all_done in
          subst (λ o. Plays (job_of_record r) r.order.names stands.machine o false new) picks (picks_named false h)

      -- one that wants the item, and is picked, does it
      goes_on : (o : Option (Machine StrandState)) → pick (strands_of_job (job_of_record r)) stands.machine (doer r.tree i) ≡ o → Wants (job_of_record r) IsHere (item_before r.tree stands.machine i) standing → Plays (job_of_record r) r.order.names stands.machine o true new → Stands new (place + 1)
      goes_on None e wants h = absurd h
      goes_on (Some n) e wants h = record {
        machine = n;
        is = h;
        same = (λ g. subst from next (forth (before_item g)), λ g. stands.same.1 (subst (DoesFrom r stands.machine) (sym rest_is) (back (subst from (sym next) g))));
      } where
        from : ℕ → Type 0
        from k = DoesFrom r n (drop k all)

        next : suc place ≡ place + 1
        next = omega arith

        forth : DoesFrom r stands.machine (i ∷ left) → DoesFrom r n left
        forth (last, (a, m, stood, item, picks, rest), spent) =
            let same : m ≡ n = (let both = sym picks ∙ e in cc) in
            (last, subst (λ x. DoesAll (strands_of_job (job_of_record r)) r.tree x left last) same rest, spent)

        back : DoesFrom r n left → DoesFrom r stands.machine (i ∷ left)
        back (last, rest, spent) = (last, (wants.0, n, wants.1, wants.2, e, rest), spent)

      pub does_item : (w : Option Want) → w ≡ want_before_end (strands_of_job (job_of_record r)) (at_named (job_of_record r) stands.machine (steps_down r.order.names name)) → IsSomeAnd w IsHere
          → Plays (job_of_record r) r.order.names stands.machine (pick_named (strands_of_job (job_of_record r)) stands.machine (steps_down r.order.names name)) true new → Stands new (place + 1)
      does_item w wants here h =
          let named_want : w ≡ want_before_end (strands_of_job (job_of_record r)) standing = wants ∙ ap (λ o. want_before_end (strands_of_job (job_of_record r)) (at_named (job_of_record r) stands.machine o)) name_is in
          goes_on (pick (strands_of_job (job_of_record r)) stands.machine (doer r.tree i)) refl (wants_some (job_of_record r) IsHere (item_before r.tree stands.machine i) standing (subst (λ x. IsSomeAnd x IsHere) named_want here)) (picks_named true h)

    -- ## The end

    pub all_done : (strand : is_strand r.tree (ending_strand r.end) ≡ true) (play : Play) (place : ℕ) → length all ≤ place → (stands : Stands play place) → (w : Option Want)
        → w ≡ want_before_end (strands_of_job (job_of_record r)) (at_named (job_of_record r) stands.machine (steps_down r.order.names r.order.last)) → WantsRefused r r.end w ↔ DoesFrom r (machine_of (job_of_record r)) all
    all_done strand play place past stands w wants =
        (λ h. stands.same.1 (subst (DoesFrom r stands.machine) (sym none_left) (stands.machine, refl, spent r.end refl h)), λ h. by_end (subst (DoesFrom r stands.machine) none_left (stands.same.0 h))) where
          none_left : drop place all ≡ []
          none_left = drop_of_length-le all past

          last_is : steps_down r.order.names r.order.last ≡ Some (name_of r.tree (ending_strand r.end))
          last_is = ap (λ o. steps_down o.names o.last) order ∙ strand_turns r.tree numbered.rooted numbered.root (ending_strand r.end) strand

          want_is : w ≡ want_before_end (strands_of_job (job_of_record r)) (at (strands_of_job (job_of_record r)) stands.machine.strands (name_of r.tree (ending_strand r.end)))
          want_is = wants ∙ ap (λ o. want_before_end (strands_of_job (job_of_record r)) (at_named (job_of_record r) stands.machine o)) last_is

          Spent : RecordEnd → Type 0
          Spent e = IsSpent (strands_of_job (job_of_record r)) r.tree r.conflicts r.limits.aborts e stands.machine

          spent : (e : RecordEnd) → r.end ≡ e → WantsRefused r e w → Spent e
          spent (Finished memory outputs) is h = tt
          spent (Fault x kind) is h = tt
          spent Moves is h = tt
          spent (Budget x) is h = by (telling r.tree r.conflicts r.limits.aborts x) h where
            by : (o : Option Conflict) → WantsTold o w → StandsRefused (strands_of_job (job_of_record r)) o stands.machine (name_of r.tree x)
            by None g = absurd g
            by (Some c) g = wants_some (job_of_record r) (WantsAgain c) (refused_before c.cell (victim_of c)) _ (subst (λ v. IsSomeAnd v (WantsAgain c)) (want_is ∙ ap (λ e. want_before_end (strands_of_job (job_of_record r)) (at (strands_of_job (job_of_record r)) stands.machine.strands (name_of r.tree (ending_strand e)))) is) g)

          refused : (e : RecordEnd) → r.end ≡ e → Spent e → WantsRefused r e w
          refused (Finished memory outputs) is h = tt
          refused (Fault x kind) is h = tt
          refused Moves is h = tt
          refused (Budget x) is h = by (telling r.tree r.conflicts r.limits.aborts x) h where
            by : (o : Option Conflict) → StandsRefused (strands_of_job (job_of_record r)) o stands.machine (name_of r.tree x) → WantsTold o w
            by None g = absurd g
            by (Some c) g = subst (λ v. IsSomeAnd v (WantsAgain c)) (sym (want_is ∙ ap (λ e. want_before_end (strands_of_job (job_of_record r)) (at (strands_of_job (job_of_record r)) stands.machine.strands (name_of r.tree (ending_strand e)))) is)) (some_wants (job_of_record r) (WantsAgain c) (refused_before c.cell (victim_of c)) _ g)

          by_end : DoesFrom r stands.machine [] → WantsRefused r r.end w
          by_end (last, same, at_last) = refused r.end refl (subst (IsSpent (strands_of_job (job_of_record r)) r.tree r.conflicts r.limits.aborts r.end) (sym same) at_last)
