-- The order of a run keeps the order of each journal.
use Rattle.std.proofs.Common.{◌≡◌, ◌≢◌, ℕ, ◌<◌, ◌≤◌, List, [], ◌∷◌, length, refl, ap, sym, ◌∙◌, arith, true, false, Option, Some, None, inl, inr, subst}
use Rattle.std.specs.Prelude.{◌⊎◌, ◌&&◌, not, slice_get}
use Rattle.std.specs.List.{filter}
use Rattle.std.proofs.lemmas.Bool.{and_from, cases_Bool, not_from_false, false_from_ne_true}
use Rattle.std.proofs.lemmas.List.Elements.{All-head}
use Rattle.cw_tree.specs.declared.node.Node.{Node}
use Rattle.cw_tree.specs.declared.node.Kind.{Kind}
use Rattle.cw_tree.specs.declared.node.Kind.TheVariants.{Read, Write}
use Rattle.cw_tree.specs.Nodes.{stamp_of, end_of, is_block, is_pending, is_committed, is_aborted, touches, touches_kind, passes, all_nodes}
use Rattle.cw_tree.specs.Walks.{above, is_ancestor, is_above}
use Rattle.cw_tree.specs.Accesses.{is_live, live_accesses}
use Rattle.cw_tree.specs.Journals.{FitsCells, JournalsEnded, EndedBetween}
use Rattle.cw_tree.proofs.Lists.{all_from, In}
use Rattle.cw_tree.proofs.Walks.Ancestors.{ancestor_above, above_ancestor, ancestor_le}
use Rattle.cw_tree.proofs.Walks.Kin.{in_above}
use Rattle.cw_record.specs.declared.items.OrderItem.{OrderItem}
use Rattle.cw_record.specs.declared.items.OrderItem.TheVariants.{Begins, Does, Ends}
use Rattle.cw_record.specs.Items.{is_act, is_act_kind, key}
use Rattle.cw_record.specs.Order.{node_of}
use Rattle.cw_replay.proofs.RecordsReplay.Work.Orders.{Respects}
use Rattle.cw_replay.proofs.Kin.{live_over}
use Rattle.cw_replay.proofs.RecordsReplay.Tasks.Sorts.{act_sort, committed_sort, pending_sort}
use Rattle.cw_replay.proofs.RecordsReplay.Memory.Closing.{StampsRise, ended_between}
use Rattle.cw_replay.proofs.RecordsReplay.Ordered.Entries.{Entry, Stays, leaf_over, one_entry, placed, Order, all_stay}
use Rattle.cw_replay.proofs.RecordsReplay.Ordered.Ordering.{Over, Leads, earlier, order_once}
use Rattle.cw_replay.proofs.RecordsReplay.Ordered.Climbing.{stands}
use Rattle.cw_replay.proofs.RecordsReplay.Memory.Remembering.{of_journal, Precedes, precedes, There}
use Rattle.cw_strand.specs.Strands.{Strands}
use Rattle.cw_tree.proofs.Members.{in_below}
use Rattle.cw_tree.proofs.Rising.{rises_filter, below_rises, rises_apart}
use Rattle.cw_tree.proofs.Ahead.{Ahead, first_in, second_in, Apart}
use Rattle.cw_tree.proofs.Sorts.{Sorted, sorted_by_key}
use Rattle.cw_tree.proofs.InOrder.Keys.{apart_by_key}
use Rattle.cw_replay.proofs.RecordsReplay.Ordered.Runs.{Run, stamp_some, act_key, block_key, key_least}
use Rattle.cw_replay.proofs.RecordsReplay.Ordered.Respecting.{respects_from, order_kept}

module _ {A : Type 0} (s : Strands A) (t : List Node) (p : ℕ) (r : Run s t p) where
  -- an access of a journal
  pub record Live (n : ℕ) : Type 0 where
    pub there : n < length t
    pub act : is_act t n ≡ true
    pub live : (a : ℕ) → is_ancestor t a n ≡ true → is_aborted t a ≡ false

  touch_act : (c : ℕ) (o : Option Node) → passes (λ x. touches_kind c x.kind) o ≡ true → passes (λ x. is_act_kind x.kind) o ≡ true
  touch_act c None e = absurd (cc e)
  touch_act c (Some x) e = kinds x.kind e where
    kinds : (k : Kind) → touches_kind c k ≡ true → is_act_kind k ≡ true
    kinds (Read d v) e = refl
    kinds (Write d v) e = refl
    kinds _ e = absurd (cc e)

  pub live_of : (c n : ℕ) → In n (live_accesses t c) → Live n
  live_of c n h =
      let z = of_journal t c n h in
      let act : is_act t n ≡ true = touch_act c (slice_get t n) z.1 in
      record {
        there = in_below n (length t) z.0;
        act = act;
        live = live_over t n z.2 (act_sort t n act).aborted;
      }

  strictly : (us : List ℕ) → ((n : ℕ) → In n us → Live n) → Sorted (stamp_of t) us → Apart us → StampsRise t us
  strictly [] l z d = tt
  strictly (u ∷ []) l z d = tt
  strictly (u ∷ v ∷ us) l z d =
      let a = l u (inl refl) in
      let b = l v (inr (inl refl)) in
      let le : stamp_of t u ≤ stamp_of t v = All-head (λ n. stamp_of t u ≤ stamp_of t n) v us z.0 in
      let ne : stamp_of t u ≢ stamp_of t v = λ e. d.0 (inl (r.laid.stamps.distinct u v a.there b.there (stamp_some s t p r u a.there (inl a.act)) e)) in
      (omega arith, strictly (v ∷ us) (λ n h. l n (inr h)) z.1 d.1)

  -- an act of the order is live
  pub acts_live : (x : ℕ) → In (Does x) (Order t p r.laid) → is_live t x ≡ true
  acts_live x h = all_from (λ m. not (is_aborted t m)) (above t x) (λ a g. not_from_false (is_aborted t a) (order_kept s t p r (Does x) h a (above_ancestor t a x (in_above t a x g))).0)

  pub journal_once : (c : ℕ) → Apart (live_accesses t c)
  journal_once c = apart_by_key (stamp_of t) (filter (λ n. touches t c n && is_live t n) (all_nodes t)) (rises_apart (filter (λ n. touches t c n && is_live t n) (all_nodes t)) (rises_filter (λ n. touches t c n && is_live t n) (all_nodes t) (below_rises (length t))))

  journal_rises : (c : ℕ) → StampsRise t (live_accesses t c)
  journal_rises c = strictly (live_accesses t c) (live_of c) (sorted_by_key (stamp_of t) (filter (λ n. touches t c n && is_live t n) (all_nodes t))) (journal_once c)

  module _ (cells : ℕ) (fits : FitsCells t cells) (ended : JournalsEnded t cells) where
    module _ (c u n : ℕ) (hc : c < cells) (e : Ahead u n (live_accesses t c)) where
      pub lu : Live u
      lu = live_of c u (first_in u n (live_accesses t c) e)

      pub ln : Live n
      ln = live_of c n (second_in u n (live_accesses t c) e)

      between : EndedBetween t u n × (stamp_of t u < stamp_of t n)
      between = ended_between t (live_accesses t c) u n (ended c hc) (journal_rises c) e

      -- a block around the earlier access and not around the later one has ended before the later one
      pub block_ended : (m : ℕ) → m < length t → is_block t m ≡ true → is_ancestor t m u ≡ true → is_ancestor t m n ≡ false → (is_committed t m ≡ true) × (end_of t m < stamp_of t n)
      block_ended m h b over aside =
          let ne : u ≡ m → ⊥ = λ q. (let P : ℕ → Type 0 = λ x. is_block t x ≡ false in absurd (cc (b, subst P q (act_sort t u lu.act).block))) in
          let outside : is_above t m n ≡ false = false_from_ne_true (is_above t m n) (λ q. absurd (cc (aside, above_ancestor t m n q))) in
          between.0 m h (and_from (is_block t m && is_above t m u) (not (is_above t m n)) (and_from (is_block t m) (is_above t m u) b (sym (ancestor_above t m u ne) ∙ over)) (not_from_false (is_above t m n) outside))

      pub smaller : (b : Option ℕ) (m x : ℕ) → Entry t p r.laid b m → Entry t p r.laid b x → (m ≡ x → ⊥) → Over t p r.laid m (Does u) → Over t p r.laid x (Does n) → (is_act t x ≡ true) ⊎ (is_committed t x ≡ true) → (key t m < key t x) × (is_pending t m ≡ true → ⊥)
      smaller b m x em ex ne au an k = by em.stays where
        low_key : stamp_of t n ≤ key t x
        low_key = key_least s t p r x n ex.there ln.there an.0 k

        aside : is_ancestor t m n ≡ false
        aside = false_from_ne_true (is_ancestor t m n) (λ q. ne (one_entry t p r.laid b m x n em ex an.1 q an.0))

        block : is_block t m ≡ true → (key t m < key t x) × (is_pending t m ≡ true → ⊥)
        block bl =
            let z = block_ended m em.there bl au.0 aside in
            let done = committed_sort t m z.0 in
            (omega (arith, block_key s t p r m bl, z.1, low_key), λ w. absurd (cc (w, done.pending)))

        by : Stays t p r.laid m → (key t m < key t x) × (is_pending t m ≡ true → ⊥)
        by (inl d) =
            let same : u ≡ m = leaf_over t p r.laid m u d au.1 au.0 in
            let plain = act_sort t m d in
            (omega (arith, act_key s t p r m d, ap (stamp_of t) same, between.1, low_key), λ w. absurd (cc (w, plain.pending)))
        by (inr (inl d)) = block (committed_sort t m d).block
        by (inr (inr d)) = block (pending_sort t m d.0).block

      journal_leads : Leads t p r.laid (Does u) (Does n)
      journal_leads = record {
        no_begin = λ m h a q. absurd (cc q);
        no_end = λ m h a q. absurd (cc q);
        not_same = λ m h q f. (let less = between.1 in let same : u ≡ n = ap node_of q ∙ sym (ap node_of f) in omega (arith, ap (stamp_of t) same));
        smaller = smaller;
      }

      there_too : In (Does n) (Order t p r.laid) → In (Does u) (Order t p r.laid)
      there_too h = stands t p r.laid (Does u) lu.there lu.act (λ a b f. elim (cases_Bool (is_ancestor t a n)) [
        | inl g ↦ all_stay t p r.laid (Does n) h a b g
        | inr g ↦ (let le : a ≤ u = ancestor_le t r.laid.tree.rooted a u lu.there f in let low = lu.there in inr (inl (block_ended a (omega arith) b f g).0))
      ])

      journal_earlier : In (Does n) (Order t p r.laid) → Ahead (Does u) (Does n) (Order t p r.laid)
      journal_earlier h = earlier t p r.laid (Does u) (Does n) journal_leads (there_too h) h

    -- an earlier access comes earlier, and each act of the order is live
    pub journals_respected : Respects (Precedes t cells fits) (There t cells fits) (λ i. ⊥) (Order t p r.laid)
    journals_respected =
        respects_from (Precedes t cells fits) (There t cells fits) (λ i. ⊥) (Order t p r.laid) is_there (λ i j h x. inr (by i j h x)) (λ j h e. e) (order_once t p r.laid) where
          is_there : (j : OrderItem) → In j (Order t p r.laid) → There t cells fits j
          is_there (Begins x) h = tt
          is_there (Ends x) h = tt
          is_there (Does x) h =
              let z = placed t p r.laid (length t) None (Does x) h in
              (z.there, z.proper, acts_live x h)

          by : (i j : OrderItem) → In j (Order t p r.laid) → Precedes t cells fits i j → Ahead i j (Order t p r.laid)
          by i j h (precedes c u n hc q f e) =
              let P : OrderItem → Type 0 = λ x. In x (Order t p r.laid) in
              let X : OrderItem → Type 0 = λ x. Ahead x j (Order t p r.laid) in
              let Y : OrderItem → Type 0 = λ x. Ahead (Does u) x (Order t p r.laid) in
              subst X (sym q) (subst Y (sym f) (journal_earlier c u n hc e (subst P f h)))
