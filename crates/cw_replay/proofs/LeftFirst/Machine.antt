-- Where left strands go first, the machine with one memory does each item of the order by its leftmost strand.
use Rattle.std.proofs.Common.{◌≡◌, ℕ, ℤ, List, [], ◌∷◌, refl, ap, sym, ◌∙◌, true, false, Some, inl, subst, map}
use Rattle.std.specs.Prelude.{◌⊎◌}
use Rattle.cw_strand.specs.declared.want.Want.{Want}
use Rattle.cw_strand.specs.Strands.{Strands, IsDeep, wants_fork}
use Rattle.cw_tree.specs.declared.node.Node.{Node}
use Rattle.cw_tree.specs.declared.access.Entry.{Entry}
use Rattle.cw_tree.specs.declared.conflict.Conflict.{Conflict}
use Rattle.cw_tree.specs.Histories.{IsHistory}
use Rattle.cw_serial.specs.StrandTree.{at}
use Rattle.cw_serial.specs.Machine.{Machine, initial}
use Rattle.cw_serial.specs.DepthFirst.{leftmost, GoesDepthFirst, here, picks}
use Rattle.cw_open.specs.LeftFirst.{LeftsAreOlder}
use Rattle.cw_record.specs.declared.items.OrderItem.{OrderItem}
use Rattle.cw_record.specs.Replay.{doer}
use Rattle.cw_replay.proofs.RecordsReplay.Work.Work.{Work, Doing, Way}
use Rattle.cw_replay.proofs.RecordsReplay.Work.Ways.{Stops, threads}
use Rattle.cw_replay.proofs.RecordsReplay.Work.Next.{Next}
use Rattle.cw_replay.proofs.RecordsReplay.Work.Orders.{Respects, SeenAfter, Plays, way_after, left_first}
use Rattle.cw_replay.proofs.RecordsReplay.Machine.Acts.{Act, item, stop, act_name, act_wanted, doing, PutsBack, Remembers, Picks, stops_item, picks_item, next_machine, next_threads, here_at, machine_after}
use Rattle.cw_replay.proofs.RecordsReplay.Memory.Given.{cancels_stand, order_puts_back}
use Rattle.cw_replay.proofs.RecordsReplay.Machine.Replaying.{last_machine, last_strands, order_remembers}
use Rattle.cw_replay.proofs.RecordsReplay.Blocks.Nesting.{order_picks}
use Rattle.cw_replay.proofs.RecordsReplay.Tasks.Tasks.{whole}
use Rattle.cw_replay.proofs.RecordsReplay.Tasks.Fitting.{whole_fits}
use Rattle.cw_replay.proofs.RecordsReplay.Tasks.Single.{whole_once}
use Rattle.cw_replay.proofs.RecordsReplay.Ordered.Entries.{Order}
use Rattle.cw_replay.proofs.RecordsReplay.Ordered.Respecting.{Items, deeds, start, order_plays, stop_next, seen_in}
use Rattle.cw_replay.proofs.RecordsReplay.Ordered.Runs.{Run}
use Rattle.cw_replay.proofs.LeftFirst.Leftmost.{Beside, leftmost_step, LeftFirst, none_left, first_step}
use Rattle.cw_replay.proofs.LeftFirst.Lefts.{LeftsEnd, whole_lefts}
use Rattle.cw_replay.proofs.LeftFirst.Ordered.{lefts_respected, lefts_seen}

module _ {A : Type 0} (s : Strands A) (deep : IsDeep s) (t : List Node) (at_stop : Want) (all : Work Act) where
  abbrev u : Doing Act A
  u = doing s t at_stop

  abbrev First : (Act → Type 0) → Way Act A → Type 0
  First seen c = LeftFirst u deep all seen c

  -- where all to its left was done, an act is one of the leftmost strand
  next_leftmost : (seen : Act → Type 0) (c : Way Act A) (i : Act) → First seen c → ((j : Act) → Beside j i all → seen j) → (z : Next u [] c i) → Stops s (act_wanted t at_stop i) → leftmost s (threads u c) ≡ Some (act_name t i)
  next_leftmost seen c i l r z g =
      let P : Want → Type 0 = λ w. Stops s w in
      leftmost_step u deep c z.after z.turns i z.state (subst P (sym z.wants) g) l.lefts (none_left u deep all seen c i l r) z.step ∙ ap Some (sym z.named)

  pub goes_leftmost : (is : List OrderItem) (seen : Act → Type 0) (c : Way Act A) (m : Machine A) → First seen c → Respects (λ i j. Beside i j all) (λ j. Unit {0}) seen (map item is) → m.strands ≡ threads u c
      → (p : Plays u c (map item is)) (b : Picks t m.begun is) → Remembers t m.memory is → PutsBack t m.memory m.since is → GoesDepthFirst s m (map (doer t) is) (machine_after s deep t at_stop m c is p b)
  goes_leftmost [] seen c m l r e p b q o = here
  goes_leftmost (i ∷ is) seen c m l r e p b q o =
      let z = p.0 in
      let g = stops_item t m.memory s i q.0 in
      let stands : at s m.strands (doer t i) ≡ Some z.state = ap (λ x. at s x (doer t i)) e ∙ here_at s deep t at_stop c (item i) z g in
      let n = next_machine s deep t at_stop m i z.state b.1 in
      let left : leftmost s m.strands ≡ Some (doer t i) = ap (leftmost s) e ∙ next_leftmost seen c (item i) l r.1 z g in
      picks left (picks_item s deep t at_stop m i z.state b.1 stands b.0 z.wants b.2 q.0 o.0)
      (goes_leftmost is (λ j. (j ≡ item i) ⊎ seen j) z.after n (first_step u deep all seen c (item i) l z) r.3 (next_threads s deep t at_stop m c i z b.1 e g) p.1 b.3 q.1 o.1)

  pub first_after : (js : List Act) (seen : Act → Type 0) (c : Way Act A) → First seen c → (p : Plays u c js) → First (SeenAfter seen js) (way_after u c js p)
  first_after [] seen c l p = l
  first_after (j ∷ js) seen c l p = first_after js (λ i. (i ≡ j) ⊎ seen i) p.0.after (first_step u deep all seen c j l p.0) p.1

-- ## The order of a run

module _ {A : Type 0} (s : Strands A) (deep : IsDeep s) (t : List Node) (p : ℕ) (r : Run s t p) (first : List ℤ) (kept : List (List Entry)) (cs : List Conflict) (h : IsHistory t first kept cs) (older : LeftsAreOlder t)
    (ends : LeftsEnd s t r.account) (all_in : (b : ℕ) → r.account.stop.out b ≡ false) where
  abbrev all : Work Act
  all = whole r.account.stop t

  at_first : LeftFirst (deeds s t p r deep) deep all (λ i. ⊥) (start s t p r deep)
  at_first = record {
    left = left_first (deeds s t p r deep) deep all s.start (whole_once s t r.account) (whole_fits s t r.account);
    lefts = whole_lefts s t r.account ends all_in;
    beside = λ i j h. h;
  }

  pub order_leftmost : GoesDepthFirst s (initial s first) (map (doer t) (Order t p r.laid)) (last_machine s deep t p r first kept cs h)
  order_leftmost =
      goes_leftmost s deep t r.account.stop.wants all (Order t p r.laid) (λ i. ⊥) (start s t p r deep) (initial s first) at_first (lefts_respected s t p r older ends) refl (order_plays s t p r deep) (order_picks t p r.laid (cancels_stand s t p r first kept cs h))
      (order_remembers s deep t p r first kept cs h) (order_puts_back s t p r first kept cs h)

  -- where a strand stopped, that is the leftmost then
  pub stop_leftmost : (n : ℕ) → r.account.stop.at n ≡ true → wants_fork r.account.stop.wants ≡ false → leftmost s (last_machine s deep t p r first kept cs h).strands ≡ Some (act_name t (stop n))
  stop_leftmost n e f =
      let u = deeds s t p r deep in
      let plays = order_plays s t p r deep in
      let c = way_after u (start s t p r deep) (Items s t p r) plays in
      let l = first_after s deep t r.account.stop.wants all (Items s t p r) (λ i. ⊥) (start s t p r deep) at_first plays in
      ap (leftmost s) (last_strands s deep t p r first kept cs h)
      ∙ next_leftmost s deep t r.account.stop.wants all (SeenAfter (λ i. ⊥) (Items s t p r)) c (stop n) l (λ j b. seen_in (λ i. ⊥) (Items s t p r) j (inl (lefts_seen s t p r older ends n e j b))) (stop_next s t p r deep n e) (r.account.not_over, f)
