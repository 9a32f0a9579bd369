-- Live accesses, memory and journals in a tree that one worker builds.
use Rattle.std.proofs.Common.{◌≡◌, ℕ, ◌<◌, ◌≤◌, ℤ, List, [], ◌∷◌, ◌++◌, length, refl, sym, ◌∙◌, arith, true, false, nat_eq}
use Rattle.std.specs.Prelude.{slice_get, slice_set, Some}
use Rattle.std.proofs.lemmas.Bool.{ne_eqb}
use Rattle.cw_tree.specs.declared.node.Node.{Node}
use Rattle.cw_tree.specs.declared.node.Kind.{Kind}
use Rattle.cw_tree.specs.declared.node.Kind.TheVariants.{Strand, Fork, Read, Write}
use Rattle.cw_tree.specs.declared.node.BlockState.TheVariants.{Committed}
use Rattle.cw_tree.specs.declared.access.Entry.{Entry}
use Rattle.cw_tree.specs.Nodes.{is_aborted, touches_kind, touches, fresh_node, closed, stamp_of}
use Rattle.cw_tree.specs.Accesses.{live_accesses}
use Rattle.cw_tree.proofs.NextNodes.Growing.{get_next, length_more, node_new}
use Rattle.cw_tree.proofs.NextNodes.Closing.{length_closed}
use Rattle.cw_tree.proofs.ChainLaws.Entries.{Notes}
use Rattle.cw_tree.proofs.ChainLaws.LiveAccesses.{SameAccesses, accesses_grown, accesses_closed, live_same, live_stays}
use Rattle.cw_tree.proofs.ChainLaws.CellJournals.{HasJournals, journals_stay, journals_read, journals_write}
use Rattle.cw_tree.proofs.NodeKinds.{new_stands}
use Rattle.cw_record.proofs.OneWorker.Building.{IsBuilt}
use Rattle.cw_record.specs.Drawn.{added}
use Rattle.cw_record.proofs.OneWorker.NoneAborted.{not_aborted}

-- a node more, where nothing was rolled back
module _ (t : List Node) (none : (n : ℕ) → is_aborted t n ≡ false) (f : ℕ) (kind : Kind) (st : ℕ) where
  pub same_more : SameAccesses t (added t f kind st)
  same_more = accesses_grown t (fresh_node f kind st) none (new_stands kind)

  touched_more : (c : ℕ) → touches (added t f kind st) c (length t) ≡ touches_kind c kind
  touched_more c = node_new t (fresh_node f kind st) (λ y. touches_kind c y.kind)

  live_unless : (c : ℕ) → touches_kind c kind ≡ false → live_accesses (added t f kind st) c ≡ live_accesses t c
  live_unless c e = live_stays t (added t f kind st) same_more c (length_more t (fresh_node f kind st)) (touched_more c ∙ e)

  pub has_unless : (first memory : List ℤ) (kept : List (List Entry)) → HasJournals t first memory kept → ((c : ℕ) → touches_kind c kind ≡ false) → HasJournals (added t f kind st) first memory kept
  has_unless first memory kept h e = journals_stay t (added t f kind st) same_more first memory kept h (λ c. live_unless c (e c))

module _ (t : List Node) (p clock : ℕ) (b : IsBuilt t p clock) where
  -- ## A node, anywhere

  module _ (f : ℕ) (kind : Kind) (st : ℕ) where
    pub same_added : SameAccesses t (added t f kind st)
    same_added = same_more t (not_aborted t p clock b) f kind st

    newest : clock < st → (n : ℕ) → n < length t → stamp_of t n ≤ st
    newest later n h = let le : stamp_of t n ≤ clock = b.stamps n in omega arith

    -- what is no access of a cell leaves its live accesses
    pub live_beside : (c : ℕ) → touches_kind c kind ≡ false → live_accesses (added t f kind st) c ≡ live_accesses t c
    live_beside = live_unless t (not_aborted t p clock b) f kind st

    -- and so does an access of another cell
    pub live_elsewhere : (c d : ℕ) → (d ≡ c → ⊥) → touches_kind d kind ≡ nat_eq c d → live_accesses (added t f kind st) d ≡ live_accesses t d
    live_elsewhere c d ne e = live_beside d (e ∙ ne_eqb c d (λ q. ne (sym q)))

  -- ## A closed block

  module _ (n end : ℕ) where
    same_closed : SameAccesses t (closed t n Committed end)
    same_closed = accesses_closed t n Committed end (not_aborted t p clock b) refl

    pub live_closed : (c : ℕ) → live_accesses (closed t n Committed end) c ≡ live_accesses t c
    live_closed c = live_same t (closed t n Committed end) same_closed c (length_closed t n Committed end)

  -- ## Memory and journals

  module _ (first memory : List ℤ) (kept : List (List Entry)) (h : HasJournals t first memory kept) where
    pub has_closed : (n end : ℕ) → HasJournals (closed t n Committed end) first memory kept
    has_closed n end = journals_stay t (closed t n Committed end) (same_closed n end) first memory kept h (live_closed n end)

    pub has_forked : (st : ℕ) → HasJournals (added (added t p Fork st) (length t) Strand 0) first memory kept
    has_forked st =
        has_unless (added t p Fork st) (same_added p Fork st).none_too (length t) Strand 0 first memory kept
        (has_unless t (not_aborted t p clock b) p Fork st first memory kept h (λ c. refl)) (λ c. refl)

    module _ (f : ℕ) where
      -- what is no access
      pub has_beside : (kind : Kind) (st : ℕ) → ((c : ℕ) → touches_kind c kind ≡ false) → HasJournals (added t f kind st) first memory kept
      has_beside kind st e = has_unless t (not_aborted t p clock b) f kind st first memory kept h e

      module _ (c : ℕ) (w : ℤ) (es : List Entry) (e : Entry) (st : ℕ) (later : clock < st) (journal : slice_get kept c ≡ Some es) (met : slice_get memory c ≡ Some w) where
        -- a read of the value in memory
        pub has_read : Notes e st false w w → HasJournals (added t f (Read c w) st) first memory (slice_set kept c (es ++ e ∷ []))
        has_read note =
            let x = fresh_node f (Read c w) st in
            journals_read t (added t f (Read c w) st) (same_added f (Read c w) st) first memory kept h (length_more t x) x (get_next t x []) (newest f (Read c w) st later) c w es e journal refl met note

        -- a write
        pub has_written : (v : ℤ) → Notes e st true v w → HasJournals (added t f (Write c v) st) first (slice_set memory c v) (slice_set kept c (es ++ e ∷ []))
        has_written v note =
            let x = fresh_node f (Write c v) st in
            journals_write t (added t f (Write c v) st) (same_added f (Write c v) st) first memory kept h (length_more t x) x (get_next t x []) (newest f (Write c v) st later) c w es e journal v refl met note
