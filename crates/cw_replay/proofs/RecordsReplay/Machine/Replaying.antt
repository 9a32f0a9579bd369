-- The machine with one memory does all that the order of a run has.
use Rattle.std.proofs.Common.{◌≡◌, ℕ, ℤ, ◌<◌, List, [], ◌∷◌, ◌++◌, length, refl, ap, sym, ◌∙◌, arith, true, false, Option, Some, None, inl, inr, map, append_assoc, append-nil}
use Rattle.std.specs.Prelude.{slice_get, unwrap_or, pos}
use Rattle.cw_strand.specs.Strands.{Strands, IsDeep, wants_fork}
use Rattle.cw_tree.specs.declared.node.Node.{Node}
use Rattle.cw_tree.specs.declared.node.Kind.{Kind}
use Rattle.cw_tree.specs.declared.node.Kind.TheVariants.{Out}
use Rattle.cw_tree.specs.declared.access.Entry.{Entry}
use Rattle.cw_tree.specs.declared.conflict.Conflict.{Conflict}
use Rattle.cw_tree.specs.Accesses.{live_accesses, cell_value, written}
use Rattle.cw_tree.specs.Histories.{IsHistory}
use Rattle.cw_tree.proofs.Lists.{In}
use Rattle.cw_serial.specs.StrandTree.{at}
use Rattle.cw_serial.specs.Machine.{Machine, initial}
use Rattle.cw_serial.specs.Wants.{outputs_after}
use Rattle.cw_serial.proofs.Numbers.{get_some}
use Rattle.cw_record.specs.declared.items.OrderItem.{OrderItem}
use Rattle.cw_record.specs.declared.items.OrderItem.TheVariants.{Begins, Does, Ends}
use Rattle.cw_record.specs.Order.{node_of}
use Rattle.cw_record.specs.Coherent.{outputs_shown, shown_node, shown_kind}
use Rattle.cw_record.specs.Replay.{DoesAll}
use Rattle.cw_record.proofs.Replay.ShownItems.{block_shows}
use Rattle.cw_replay.proofs.RecordsReplay.Work.Orders.{SeenAfter, way_after}
use Rattle.cw_replay.proofs.RecordsReplay.Work.Ways.{threads}
use Rattle.cw_replay.proofs.RecordsReplay.Machine.Acts.{stop, act_name, Remembers, machine_after, does_all, threads_after, memory_of, outputs_of, here_at, memory_all, outputs_all, wanted_kind, wanted_node, wanted_item}
use Rattle.cw_replay.proofs.RecordsReplay.Tasks.Sorts.{committed_sort}
use Rattle.cw_replay.proofs.RecordsReplay.Ordered.Entries.{IsOfNode, placed, Order}
use Rattle.cw_replay.proofs.RecordsReplay.Blocks.Nesting.{order_picks}
use Rattle.cw_replay.proofs.RecordsReplay.Memory.Given.{cancels_stand, order_puts_back}
use Rattle.cw_replay.proofs.RecordsReplay.Memory.Journaling.{journals_respected}
use Rattle.cw_replay.proofs.RecordsReplay.Memory.Remembering.{Tracks, remembers, memory_length}
use Rattle.cw_replay.proofs.RecordsReplay.Memory.Tracking.{first_track, front_tracks, no_twice, start as first_value}
use Rattle.cw_replay.proofs.RecordsReplay.Ordered.Runs.{Run}
use Rattle.cw_replay.proofs.RecordsReplay.Ordered.Respecting.{order_plays, start, stop_next, Items, seen_in, deeds}

-- ## Outputs

module _ (t : List Node) where
  kind_shows : (outputs : List ℤ) (k : Kind) → outputs_after (wanted_kind k) outputs ≡ outputs ++ shown_kind k
  kind_shows outputs (Out v) = refl
  kind_shows outputs _ = sym (append-nil outputs)

  item_shows : (outputs : List ℤ) (i : OrderItem) → IsOfNode t i → outputs_after (wanted_item t i) outputs ≡ outputs ++ shown_node (slice_get t (node_of i))
  item_shows outputs (Begins n) e = sym (ap (λ x. outputs ++ x) (block_shows (slice_get t n) e) ∙ append-nil outputs)
  item_shows outputs (Does n) e = by (slice_get t n) where
    by : (o : Option Node) → outputs_after (wanted_node o) outputs ≡ outputs ++ shown_node o
    by None = sym (append-nil outputs)
    by (Some x) = kind_shows outputs x.kind
  item_shows outputs (Ends n) e = sym (ap (λ x. outputs ++ x) (block_shows (slice_get t n) (committed_sort t n e).block) ∙ append-nil outputs)

  all_shown : (outputs : List ℤ) (is : List OrderItem) → ((i : OrderItem) → In i is → IsOfNode t i) → outputs_all t outputs is ≡ outputs ++ outputs_shown t is
  all_shown outputs [] h = sym (append-nil outputs)
  all_shown outputs (i ∷ is) h =
      ap (λ x. outputs_all t x is) (item_shows outputs i (h i (inl refl))) ∙ all_shown (outputs ++ shown_node (slice_get t (node_of i))) is (λ j g. h j (inr g)) ∙ append_assoc outputs (shown_node (slice_get t (node_of i))) (outputs_shown t is)

-- ## The machine

module _ {A : Type 0} (s : Strands A) (deep : IsDeep s) (t : List Node) (p : ℕ) (r : Run s t p) (first : List ℤ) (kept : List (List Entry)) (cs : List Conflict) (h : IsHistory t first kept cs) where
  -- what a cell holds after all its live accesses
  abbrev pub total : ℕ → ℤ
  total c = cell_value (unwrap_or (slice_get first c) (pos 0)) (map (written t) (live_accesses t c))

  pub order_remembers : Remembers t first (Order t p r.laid)
  order_remembers = remembers t (length first) h.cells (first_value s t p r first kept cs h) (no_twice s t p r first kept cs h) (Order t p r.laid) (λ i. ⊥) first (first_track s t p r first kept cs h) (journals_respected s t p r (length first) h.cells h.ended)

  -- the machine behind all items
  abbrev pub last_machine : Machine A
  last_machine = machine_after s deep t r.account.stop.wants (initial s first) (start s t p r deep) (Order t p r.laid) (order_plays s t p r deep) (order_picks t p r.laid (cancels_stand s t p r first kept cs h))

  pub order_done : DoesAll s t (initial s first) (Order t p r.laid) last_machine
  order_done = does_all s deep t r.account.stop.wants (Order t p r.laid) (start s t p r deep) (initial s first) refl (order_plays s t p r deep) (order_picks t p r.laid (cancels_stand s t p r first kept cs h)) order_remembers (order_puts_back s t p r first kept cs h)

  pub last_strands : last_machine.strands ≡ threads (deeds s t p r deep) (way_after (deeds s t p r deep) (start s t p r deep) (Items s t p r) (order_plays s t p r deep))
  last_strands = threads_after s deep t r.account.stop.wants (Order t p r.laid) (start s t p r deep) (initial s first) refl (order_plays s t p r deep) (order_picks t p r.laid (cancels_stand s t p r first kept cs h)) order_remembers

  -- where a strand stopped, it stands at what it wants
  pub stands_stopped : (n : ℕ) → r.account.stop.at n ≡ true → wants_fork r.account.stop.wants ≡ false → (b : A) × (at s last_machine.strands (act_name t (stop n)) ≡ Some b) × (s.want b ≡ r.account.stop.wants)
  stands_stopped n e f =
      let z = stop_next s t p r deep n e in
      (z.state, ap (λ x. at s x (act_name t (stop n))) last_strands ∙ here_at s deep t r.account.stop.wants (way_after (deeds s t p r deep) (start s t p r deep) (Items s t p r) (order_plays s t p r deep)) (stop n) z (r.account.not_over, f), z.wants)

  last_tracks : Tracks t (length first) h.cells (first_value s t p r first kept cs h) (SeenAfter (λ i. ⊥) (Order t p r.laid)) (memory_all t first (Order t p r.laid))
  last_tracks = front_tracks s t p r first kept cs h (Order t p r.laid) [] (sym (append-nil (Order t p r.laid)))

  pub last_memory : last_machine.memory ≡ memory_all t first (Order t p r.laid)
  last_memory = memory_of s deep t r.account.stop.wants (Order t p r.laid) (initial s first) (start s t p r deep) (order_plays s t p r deep) (order_picks t p r.laid (cancels_stand s t p r first kept cs h))

  pub last_outputs : last_machine.outputs ≡ outputs_shown t (Order t p r.laid)
  last_outputs =
      outputs_of s deep t r.account.stop.wants (Order t p r.laid) (initial s first) (start s t p r deep) (order_plays s t p r deep) (order_picks t p r.laid (cancels_stand s t p r first kept cs h))
      ∙ all_shown t [] (Order t p r.laid) (λ i g. (placed t p r.laid (length t) None i g).proper)

  -- a cell of which all live accesses stand in the order holds what they leave
  pub cell_holds : (c : ℕ) → c < length first → ((u : ℕ) → In u (live_accesses t c) → In (Does u) (Order t p r.laid)) → slice_get last_machine.memory c ≡ Some (total c)
  cell_holds c low there =
      let k = last_tracks c low in
      let none = nothing_left k.left k.part k.unseen in
      ap (λ m. slice_get m c) last_memory ∙ k.memory ∙ ap Some (sym k.spent ∙ ap (λ xs. cell_value (first_value s t p r first kept cs h c) (map (written t) xs)) (sym (append-nil k.done) ∙ ap (λ xs. k.done ++ xs) (sym none) ∙ k.whole)) where
        nothing_left : (left : List ℕ) → ((u : ℕ) → In u left → In u (live_accesses t c)) → ((u : ℕ) → In u left → SeenAfter (λ (i : OrderItem). ⊥) (Order t p r.laid) (Does u) → ⊥) → left ≡ []
        nothing_left [] q n = refl
        nothing_left (u ∷ us) q n = absurd (n u (inl refl) (seen_in (λ (i : OrderItem). ⊥) (Order t p r.laid) (Does u) (inl (there u (q u (inl refl))))))

  pub memory_len : length last_machine.memory ≡ length first
  memory_len = ap length last_memory ∙ memory_length t (Order t p r.laid) first
