-- The journals of a run's cells as far as its order has come: before it nothing was done, and after each front of it as much as that has.
use Rattle.std.proofs.Common.{◌≡◌, ℕ, ℤ, ◌<◌, List, [], ◌∷◌, ◌++◌, length, refl, ap, arith, Some, map, subst}
use Rattle.std.specs.Prelude.{◌⊎◌, slice_get, unwrap_or, pos}
use Rattle.cw_strand.specs.Strands.{Strands}
use Rattle.cw_tree.specs.declared.node.Node.{Node}
use Rattle.cw_tree.specs.declared.access.Entry.{Entry}
use Rattle.cw_tree.specs.declared.conflict.Conflict.{Conflict}
use Rattle.cw_tree.specs.Accesses.{live_accesses}
use Rattle.cw_tree.specs.Histories.{IsHistory}
use Rattle.cw_tree.proofs.Ahead.{Ahead, never_itself}
use Rattle.cw_serial.proofs.Numbers.{get_some}
use Rattle.cw_record.specs.declared.items.OrderItem.{OrderItem}
use Rattle.cw_replay.proofs.RecordsReplay.Work.Orders.{Respects, SeenAfter}
use Rattle.cw_replay.proofs.RecordsReplay.Machine.Acts.{memory_all}
use Rattle.cw_replay.proofs.RecordsReplay.Memory.Journaling.{journal_once, journals_respected}
use Rattle.cw_replay.proofs.RecordsReplay.Memory.Remembering.{Precedes, There, Tracks, read_back, tracks_after}
use Rattle.cw_replay.proofs.RecordsReplay.Ordered.Entries.{Order}
use Rattle.cw_replay.proofs.RecordsReplay.Ordered.Runs.{Run}

-- what is true of an order is true of its fronts
respects_front : {I : Type 0} (R : I → I → Type 0) (there seen : I → Type 0) (xs ys : List I) → Respects R there seen (xs ++ ys) → Respects R there seen xs
respects_front R there seen [] ys h = tt
respects_front {I} R there seen (x ∷ xs) ys h =
    let also : I → Type 0 = λ i. (i ≡ x) ⊎ seen i in
    (h.0, h.1, h.2, respects_front R there also xs ys h.3)

module _ {A : Type 0} (s : Strands A) (t : List Node) (p : ℕ) (r : Run s t p) (first : List ℤ) (kept : List (List Entry)) (cs : List Conflict) (h : IsHistory t first kept cs) where
  -- what a cell holds at first
  abbrev pub start : ℕ → ℤ
  start c = unwrap_or (slice_get first c) (pos 0)

  pub first_track : Tracks t (length first) h.cells start (λ i. ⊥) first
  first_track c low =
      let v = get_some first c low in
      let es = get_some kept c (omega (arith, h.journals.len)) in
      record {
        done = [];
        left = live_accesses t c;
        whole = refl;
        did = λ u g. absurd g;
        value = v.0;
        memory = v.1;
        back = read_back t v.0 (live_accesses t c) es.0 (h.journals.each c v.0 es.0 v.1 es.1);
        unseen = λ u g q. q;
        all = λ u g q. g;
        part = λ u g. g;
        order = λ u n g. g;
        spent = ap (λ o. unwrap_or o (pos 0)) v.1;
      }

  pub no_twice : (c u : ℕ) → Ahead u u (live_accesses t c) → ⊥
  no_twice c u e = never_itself u (live_accesses t c) (journal_once s t p r c) e

  pub front_tracks : (front rest : List OrderItem) → Order t p r.laid ≡ front ++ rest → Tracks t (length first) h.cells start (SeenAfter (λ i. ⊥) front) (memory_all t first front)
  front_tracks front rest is =
      let R = Precedes t (length first) h.cells in
      let T = There t (length first) h.cells in
      let P : List OrderItem → Type 0 = λ os. Respects R T (λ i. ⊥) os in
      tracks_after t (length first) h.cells start no_twice front (λ i. ⊥) first first_track (respects_front R T (λ i. ⊥) front rest (subst P is (journals_respected s t p r (length first) h.cells h.ended)))
