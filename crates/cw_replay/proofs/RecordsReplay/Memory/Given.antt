-- In the order of a run each cancel lists what its block puts back: of a block's items so far, the cells that they wrote, and what these held
-- where the block began.
use Rattle.std.proofs.Common.{◌≡◌, ℕ, zero, suc, ℤ, ◌<◌, ◌≤◌, List, [], ◌∷◌, ◌++◌, length, refl, ap, sym, ◌∙◌, arith, Bool, true, false, cond, Option, Some, None, inl, inr, subst, map, nat_eq, nat_lt, append_assoc, append-nil}
use Rattle.std.specs.Prelude.{◌⊎◌, ◌&&◌, not, slice_get, is_some, filter, slice_index_or, unwrap_or, pos}
use Rattle.std.specs.List.{list_any, flat_map}
use Rattle.std.proofs.lemmas.Bool.{and_parts, and_from, cases_eq, cases_lt, eqb-true, eq-eqb, false_from_ne_true, lt-ltb, ltb-true, not_from_false}
use Rattle.std.proofs.lemmas.List.Elements.{filter_agree}
use Rattle.std.proofs.lemmas.Grind.{flat_map-append}
use Rattle.std.proofs.lemmas.Option.{unwrap_or-slice_get}
use Rattle.cw_code.specs.declared.Back.{Back}
use Rattle.cw_strand.specs.declared.want.Want.{Want}
use Rattle.cw_strand.specs.declared.want.Want.TheVariants as want
use Rattle.cw_strand.specs.Strands.{Strands}
use Rattle.cw_tree.specs.declared.node.Node.{Node}
use Rattle.cw_tree.specs.declared.node.Kind.{Kind}
use Rattle.cw_tree.specs.declared.node.Kind.TheVariants.{Read, Write, Out, Cancel}
use Rattle.cw_tree.specs.declared.access.Entry.{Entry as JournalEntry}
use Rattle.cw_tree.specs.declared.conflict.Conflict.{Conflict}
use Rattle.cw_tree.specs.Nodes.{parent_of, stamp_of, end_of, is_block, is_pending, is_committed, is_aborted, is_fork, touches, touches_kind, passes, number_in, below}
use Rattle.cw_tree.specs.Walks.{above, is_ancestor, is_above, xparent}
use Rattle.cw_tree.specs.Series.{is_before, strand_of}
use Rattle.cw_tree.specs.Accesses.{is_live, live_accesses, by_key, cell_value, written, value_in, written_kind}
use Rattle.cw_tree.specs.Cancels.{IsCancel, before_block, put_back, wrote_in}
use Rattle.cw_tree.specs.Histories.{IsHistory}
use Rattle.cw_tree.proofs.Ahead.{Ahead, Apart, ahead_both, first_in}
use Rattle.cw_tree.proofs.Lists.{In, all_from, any_from, any_in}
use Rattle.cw_tree.proofs.Members.{all_at, in_append, in_below, in_filter, in_flat, in_left, in_right, map_same}
use Rattle.cw_tree.proofs.Names.Forks.{same_truth}
use Rattle.cw_tree.proofs.NodeKinds.{block_no_strand, block_stamped, fork_no_block, other_some}
use Rattle.cw_tree.proofs.Sorts.{Sorted, sorted_by_key}
use Rattle.cw_tree.proofs.Walks.Ancestors.{above_ancestor, ancestor_above, ancestor_le, ancestor_self, ancestor_step, ancestor_trans}
use Rattle.cw_tree.proofs.Walks.Kin.{AreOrdered, before_of, branch, in_above}
use Rattle.cw_tree.proofs.Walks.Strands.{strand_of_other}
use Rattle.cw_job.specs.Memory.{value_at}
use Rattle.cw_serial.specs.Wants.{Since, given_up, memory_after, put_back_since, since_after, was_written}
use Rattle.cw_serial.proofs.Numbers.{get_some}
use Rattle.cw_record.specs.declared.items.OrderItem.{OrderItem}
use Rattle.cw_record.specs.declared.items.OrderItem.TheVariants.{Begins, Does, Ends}
use Rattle.cw_record.specs.Items.{is_act, is_act_kind, key, members, open_member, as_items, last_open, items_in}
use Rattle.cw_record.specs.Order.{node_of}
use Rattle.cw_record.proofs.Orders.Homes.{home, home_step, xparent_home}
use Rattle.cw_replay.proofs.Kin.{either_over, live_over}
use Rattle.cw_replay.proofs.RecordsReplay.Blocks.Nesting.{CancelsStand, LevelStays, entry_stays, no_open}
use Rattle.cw_replay.proofs.RecordsReplay.Machine.Acts.{PutsBack, PutsBackItem, PutsBackKind, PutsBackNode, memory_all, wanted_item, wanted_kind, wanted_node}
use Rattle.cw_replay.proofs.RecordsReplay.Memory.Beginning.{holds_before, in_front, later, one_way}
use Rattle.cw_replay.proofs.RecordsReplay.Memory.Journaling.{acts_live, live_of}
use Rattle.cw_replay.proofs.RecordsReplay.Memory.Remembering.{in_journal, memory_length, of_journal}
use Rattle.cw_replay.proofs.RecordsReplay.Memory.Tracking.{front_tracks, start}
use Rattle.cw_replay.proofs.RecordsReplay.Ordered.Climbing.{stands}
use Rattle.cw_replay.proofs.RecordsReplay.Ordered.Entries.{AllStay, Entry, Order, Segment, Stays, leaf_over, level_over, member_entry, member_kind, one_entry, open_entry, placed, segment_spot}
use Rattle.cw_replay.proofs.RecordsReplay.Ordered.Ordering.{Leads, Over, earlier, order_once, spot_over}
use Rattle.cw_replay.proofs.RecordsReplay.Ordered.Runs.{Run, act_key, block_key, key_least, stamp_some}
use Rattle.cw_replay.proofs.RecordsReplay.Tasks.Sorts.{aborted_sort, act_sort, committed_sort, kept_block, pending_sort}

-- ## What items write

-- the cell that a want writes
abbrev pub wrote : Want → List ℕ
wrote (want.Store c v) = c ∷ []
wrote w = []

abbrev pub cells_written : List Node → List OrderItem → List ℕ
cells_written t [] = []
cells_written t (i ∷ is) = wrote (wanted_item t i) ++ cells_written t is

written_more : (t : List Node) (xs ys : List OrderItem) → cells_written t (xs ++ ys) ≡ cells_written t xs ++ cells_written t ys
written_more t [] ys = refl
written_more t (x ∷ xs) ys = ap (λ cs. wrote (wanted_item t x) ++ cs) (written_more t xs ys) ∙ sym (append_assoc (wrote (wanted_item t x)) (cells_written t xs) (cells_written t ys))

-- a cell that was written has an item that wrote it
written_by : (t : List Node) (c : ℕ) (is : List OrderItem) → In c (cells_written t is) → (i : OrderItem) × In i is × In c (wrote (wanted_item t i))
written_by t c [] h = absurd h
written_by t c (i ∷ is) h =
    elim (in_append c (wrote (wanted_item t i)) (cells_written t is) h) [ inl z ↦ (i, inl refl, z) | inr z ↦ (let (j, k, w) = written_by t c is z in (j, inr k, w)) ]

by_written : (t : List Node) (c : ℕ) (i : OrderItem) (is : List OrderItem) → In i is → In c (wrote (wanted_item t i)) → In c (cells_written t is)
by_written t c i [] h w = absurd h
by_written t c i (j ∷ is) (inl q) w = let P : OrderItem → Type 0 = λ x. In c (wrote (wanted_item t x)) in in_left c (wrote (wanted_item t j)) (cells_written t is) (subst P q w)
by_written t c i (j ∷ is) (inr h) w = in_right c (wrote (wanted_item t j)) (cells_written t is) (by_written t c i is h w)

-- these were written, too
abbrev pub more : List ℕ → Since → Since
more cs x = record { memory = x.memory; written = x.written ++ cs }

more_none : (xs : List Since) → map (more []) xs ≡ xs
more_none [] = refl
more_none (x ∷ xs) =
    ap (λ ys. more [] x ∷ ys) (more_none xs) ∙ ap (λ cs. (let y : Since = record { memory = x.memory; written = cs } in y) ∷ xs) (append-nil x.written)

more_twice : (cs ds : List ℕ) (xs : List Since) → map (more ds) (map (more cs) xs) ≡ map (more (cs ++ ds)) xs
more_twice cs ds [] = refl
more_twice cs ds (x ∷ xs) =
    ap (λ ys. more ds (more cs x) ∷ ys) (more_twice cs ds xs) ∙ ap (λ es. (let y : Since = record { memory = x.memory; written = es } in y) ∷ map (more (cs ++ ds)) xs) (append_assoc x.written cs ds)

-- what a write of a cell is
record IsWriteOf (t : List Node) (c u : ℕ) : Type 0 where
  touches : touches t c u ≡ true
  written : is_some (written t u) ≡ true

write_of : (t : List Node) (c u : ℕ) → In c (wrote (wanted_node (slice_get t u))) → IsWriteOf t c u
write_of t c u = by (slice_get t u) refl where
  kinds : (x : Node) → slice_get t u ≡ Some x → (k : Kind) → x.kind ≡ k → In c (wrote (wanted_kind k)) → IsWriteOf t c u
  kinds x is (Write d v) q (inl e) = record {
    touches = ap (passes (λ y. touches_kind c y.kind)) is ∙ ap (touches_kind c) q ∙ eq-eqb d c (sym e);
    written = ap (λ o. is_some (value_in written_kind o)) is ∙ ap (λ k. is_some (written_kind k)) q;
  }
  kinds x is (Write d v) q (inr z) = absurd z
  kinds x is _ q h = absurd h

  by : (o : Option Node) → slice_get t u ≡ o → In c (wrote (wanted_node o)) → IsWriteOf t c u
  by None is h = absurd h
  by (Some x) is h = kinds x is x.kind refl h

of_write : (t : List Node) (c u : ℕ) → touches t c u ≡ true → is_some (written t u) ≡ true → In c (wrote (wanted_node (slice_get t u)))
of_write t c u = by (slice_get t u) where
  kinds : (k : Kind) → touches_kind c k ≡ true → is_some (written_kind k) ≡ true → In c (wrote (wanted_kind k))
  kinds (Write d v) e f = inl (sym (eqb-true d c e))
  kinds _ e f = absurd (cc f)

  by : (o : Option Node) → passes (λ y. touches_kind c y.kind) o ≡ true → is_some (value_in written_kind o) ≡ true → In c (wrote (wanted_node o))
  by None e f = absurd (cc e)
  by (Some x) e f = kinds x.kind e f

-- the item of a write is that of a node
does_write : (t : List Node) (c : ℕ) (i : OrderItem) → In c (wrote (wanted_item t i)) → (u : ℕ) × (i ≡ Does u) × IsWriteOf t c u
does_write t c (Begins n) h = absurd h
does_write t c (Does n) h = (n, refl, write_of t c n h)
does_write t c (Ends n) h = absurd h

-- ## What may be put back after an item

act_since : (k : Kind) (memory : List ℤ) (since : List Since) → is_act_kind k ≡ true → since_after (wanted_kind k) memory since ≡ map (more (wrote (wanted_kind k))) since
act_since (Read c v) memory since e = sym (more_none since)
act_since (Write c v) memory since e = refl
act_since (Out v) memory since e = sym (more_none since)
act_since (Cancel back) memory since e = sym (more_none since)
act_since _ memory since e = absurd (cc e)

memory_next : (t : List Node) (i : OrderItem) (is : List OrderItem) (memory : List ℤ) → memory_all t memory (is ++ i ∷ []) ≡ memory_after (wanted_item t i) (memory_all t memory is)
memory_next t i [] memory = refl
memory_next t i (j ∷ is) memory = memory_next t i is (memory_after (wanted_item t j) memory)

-- what stands in front of another in a sorted list has no greater key
sorted_front : (f : ℕ → ℕ) (ds : List ℕ) (n : ℕ) (ms : List ℕ) → Sorted f (ds ++ n ∷ ms) → (d : ℕ) → In d ds → f d ≤ f n
sorted_front f [] n ms h d i = absurd i
sorted_front f (x ∷ ds) n ms h d (inl q) =
    let le : f x ≤ f n = all_at (λ y. f x ≤ f y) (ds ++ n ∷ ms) h.0 n (in_right n ds (n ∷ ms) (inl refl)) in
    omega (arith, le, ap f q)
sorted_front f (x ∷ ds) n ms h d (inr i) = sorted_front f ds n ms h.1 d i

module _ {A : Type 0} (s : Strands A) (t : List Node) (p : ℕ) (r : Run s t p) (first : List ℤ) (kept : List (List JournalEntry)) (cs : List Conflict) (h : IsHistory t first kept cs) where
  abbrev order : List OrderItem
  order = Order t p r.laid

  -- ## Where a cancel stands

  -- an act around which all blocks stand is live
  entry_live : (b : Option ℕ) (n : ℕ) → Entry t p r.laid b n → LevelStays t p r.laid b → is_live t n ≡ true
  entry_live b n e l =
      all_from (λ a. not (is_aborted t a)) (above t n) (λ a g. not_from_false (is_aborted t a) (false_from_ne_true (is_aborted t a) (λ f.
      let z = aborted_sort t a f in
      elim (entry_stays t p r.laid b n e l a z.block (above_ancestor t a n (in_above t a n g))) [
        | inl d ↦ absurd (cc (d, z.act))
        | inr y ↦ elim y [ inl d ↦ absurd (cc (d, z.committed)) | inr d ↦ absurd (cc (d.0, z.pending)) ]
      ])))

  record IsGiven (b : Option ℕ) (n : ℕ) (back : List Back) : Type 0 where
    block : ℕ
    level : b ≡ Some block
    is_block : is_block t block ≡ true
    parent : parent_of t n ≡ block
    list : back ≡ put_back t first (live_accesses t) block (stamp_of t n)

  given : (b : Option ℕ) (n : ℕ) (x : Node) (back : List Back) → slice_get t n ≡ Some x → x.kind ≡ Cancel back → Entry t p r.laid b n → LevelStays t p r.laid b → IsGiven b n back
  given b n x back is kind e l =
      let c = h.cancels n x back is kind (entry_live b n e l) in
      let parent : parent_of t n ≡ x.parent = ap (number_in (λ y. y.parent)) is in
      let stamp : stamp_of t n ≡ x.stamp = ap (number_in (λ y. y.stamp)) is in
      let m = parent_of t n in
      let P : ℕ → Type 0 = λ y. is_block t y ≡ true in
      let block : is_block t m ≡ true = subst P (sym parent) c.block in
      let less : m < n = r.laid.tree.rooted n e.some e.there in
      let low = e.there in
      let around : xparent t n ≡ Some m =
      xparent_home t r.laid.tree.rooted n e.some e.there
      ∙ home_step t r.laid.tree.rooted m (other_some t r.laid.tree.root m (block_no_strand t m block)) (omega arith)
      ∙ ap (λ y. cond y (Some m) (home t (parent_of t m))) block in
      record {
        block = m;
        level = sym e.up ∙ around;
        is_block = block;
        parent = refl;
        list = c.list ∙ ap (λ y. put_back t first (live_accesses t) y x.stamp) (sym parent) ∙ ap (put_back t first (live_accesses t) m) (sym stamp);
      }

  pub cancels_stand : CancelsStand t p r.laid
  cancels_stand b n x back is kind e l =
      let g = given b n x back is kind e l in
      let act : is_act t n ≡ true = ap (passes (λ y. is_act_kind y.kind)) is ∙ ap is_act_kind kind in
      (g.block, g.level, strand_of_other t r.laid.tree.rooted n e.some e.there (act_sort t n act).strand ∙ ap (strand_of t) g.parent)

  -- ## What was written in a block before a cancel

  -- in a block m of the order, a cancel n right in it, and a live write u beneath it of a smaller stamp
  module _ (m n : ℕ) (block : is_block t m ≡ true) (entry : Entry t p r.laid (Some m) n) (act : is_act t n ≡ true) (parent : parent_of t n ≡ m) (stays : AllStay t p r.laid m)
      (u : ℕ) (low_u : u < length t) (act_u : is_act t u ≡ true) (live_u : is_live t u ≡ true) (over_u : is_above t m u ≡ true) (sooner : stamp_of t u < stamp_of t n) where
    over_mu : is_ancestor t m u ≡ true
    over_mu = above_ancestor t m u over_u

    over_mn : is_ancestor t m n ≡ true
    over_mn = (level_over t p r.laid m n entry).1

    -- a block between the two comes before the cancel
    before_it : (a : ℕ) → is_block t a ≡ true → is_ancestor t m a ≡ true → (a ≡ m → ⊥) → is_ancestor t a u ≡ true → is_before t a n ≡ true
    before_it a block_a over_ma ne over_au =
        let le : a ≤ u = ancestor_le t r.laid.tree.rooted a u low_u over_au in
        let low : a < length t = omega arith in
        let b = branch t r.laid.tree.rooted m a low ne over_ma in
        let small : b.child ≤ a = ancestor_le t r.laid.tree.rooted b.child a low b.over in
        let no_fork : is_fork t m ≡ false = false_from_ne_true (is_fork t m) (λ f. absurd (let none = fork_no_block t m f in cc (block, none))) in
        let P : ℕ → Type 0 = λ y. is_fork t y ≡ false in
        let leaf : b.child ≡ n → ⊥ = λ q. (
        let Q : ℕ → Type 0 = λ y. is_ancestor t y a ≡ true in
        let same : a ≡ n = leaf_over t p r.laid n a act low (subst Q q b.over) in
        let R : ℕ → Type 0 = λ y. is_block t y ≡ true in
        absurd (cc (subst R same block_a, (act_sort t n act).block))) in
        elim (cases_lt b.child n) [
          | inl less ↦
              before_of t a n (record {
                first = b.child;
                second = n;
                ordered = record { some = b.some; less = less; same = b.parent ∙ sym parent; no_fork = subst P (sym b.parent) no_fork };
                over_first = b.over;
                over_second = ancestor_self t n;
              })
          | inr le ↦
              (let after : is_before t n a ≡ true =
              before_of t n a (record {
                first = n;
                second = b.child;
                ordered = record { some = entry.some; less = (let ne : n ≡ b.child → ⊥ = λ q. leaf (sym q) in omega arith); same = parent ∙ sym b.parent; no_fork = subst P (sym parent) no_fork };
                over_first = ancestor_self t n;
                over_second = b.over;
              }) in
              let stamped : 0 < stamp_of t a = block_stamped t r.laid.stamps a block_a in
              let later_a = r.laid.stamps.series n a entry.there low after stamped in
              let ne_u : u ≡ a → ⊥ = λ q. (let R : ℕ → Type 0 = λ y. is_block t y ≡ true in absurd (cc (subst R (sym q) block_a, (act_sort t u act_u).block))) in
              let above_u : is_above t a u ≡ true = sym (ancestor_above t a u ne_u) ∙ over_au in
              let begun = r.laid.stamps.begun a u low low_u (and_from (is_block t a) (is_above t a u) block_a above_u) (stamp_some s t p r u low_u (inl act_u)) in
              absurd (omega (arith, sooner, later_a.0, begun)))
        ]

    not_pending : (a : ℕ) → a < length t → is_before t a n ≡ true → is_pending t a ≡ true → ⊥
    not_pending a low before e = absurd (cc (r.laid.pending_last.last a n low entry.there e, before))

    leads : Leads t p r.laid (Does u) (Does n)
    leads = record {
      no_begin = λ a x y q. absurd (cc q);
      no_end = λ a x y q. absurd (cc q);
      not_same = λ a x q f. (let same : u ≡ n = ap node_of q ∙ sym (ap node_of f) in omega (arith, sooner, ap (stamp_of t) same));
      smaller = smaller;
    } where
      smaller : (b : Option ℕ) (x y : ℕ) → Entry t p r.laid b x → Entry t p r.laid b y → (x ≡ y → ⊥) → Over t p r.laid x (Does u) → Over t p r.laid y (Does n) → (is_act t y ≡ true) ⊎ (is_committed t y ≡ true) → (key t x < key t y) × (is_pending t x ≡ true → ⊥)
      smaller b x y ex ey ne ax ay k = by_stays ex.stays where
        -- no entry is over both
        apart : is_ancestor t y u ≡ true → ⊥
        apart over = ne (one_entry t p r.laid b x y u ex ey low_u ax.0 over)

        is_n : y ≡ n
        is_n = elim (cases_eq n y) [
          | inl q ↦ sym q
          | inr other ↦ absurd (
              let P : ℕ → Type 0 = λ z. is_ancestor t y z ≡ true in
              let up : is_ancestor t y m ≡ true = subst P parent (sym (ancestor_step t r.laid.tree.rooted y n entry.some entry.there other) ∙ ay.0) in
              apart (ancestor_trans t r.laid.tree.rooted y m u low_u up over_mu))
        ]

        key_n : key t y ≡ stamp_of t n
        key_n = ap (key t) is_n ∙ act_key s t p r n act

        between : is_block t x ≡ true → (key t x < key t y) × (is_pending t x ≡ true → ⊥)
        between block_x =
            elim (either_over t r.laid.tree.rooted x m u low_u ax.0 over_mu) [
              | inl up ↦ absurd (
                  let Q : ℕ → Type 0 = λ z. is_ancestor t z n ≡ true in
                  ne (one_entry t p r.laid b x y n ex ey entry.there (ancestor_trans t r.laid.tree.rooted x m n entry.there up over_mn) (subst Q (sym is_n) (ancestor_self t n))))
              | inr down ↦
                  (let other : x ≡ m → ⊥ = λ q. (
                  let P : ℕ → Type 0 = λ z. is_ancestor t z n ≡ true in
                  ne (one_entry t p r.laid b x y n ex ey entry.there (subst P (sym q) over_mn) (subst P (sym is_n) (ancestor_self t n)))) in
                  let before = before_it x block_x down other ax.0 in
                  let z = r.laid.stamps.series x n ex.there entry.there before (stamp_some s t p r n entry.there (inl act)) in
                  (omega (arith, key_n, block_key s t p r x block_x, z.1), not_pending x ex.there before))
            ]

        by_stays : Stays t p r.laid x → (key t x < key t y) × (is_pending t x ≡ true → ⊥)
        by_stays (inl d) =
            let same : u ≡ x = leaf_over t p r.laid x u d low_u ax.0 in
            let plain = act_sort t x d in
            (omega (arith, key_n, act_key s t p r x d, ap (stamp_of t) same, sooner), λ w. absurd (cc (w, plain.pending)))
        by_stays (inr (inl d)) = between (committed_sort t x d).block
        by_stays (inr (inr d)) = between (pending_sort t x d.0).block

    stands_too : In (Does u) order
    stands_too =
        stands t p r.laid (Does u) low_u act_u (λ a f g. elim (either_over t r.laid.tree.rooted a m u low_u g over_mu) [
          | inl up ↦ stays a f up
          | inr down ↦ elim (cases_eq a m) [
            | inl q ↦ (let P : ℕ → Type 0 = λ z. is_ancestor t z m ≡ true in stays a f (subst P (sym q) (ancestor_self t m)))
            | inr ne ↦
                (let le : a ≤ u = ancestor_le t r.laid.tree.rooted a u low_u g in
                let kept = live_over t u live_u (act_sort t u act_u).aborted a g in
                elim (kept_block t a f kept) [
                  | inl c ↦ inr (inl c)
                  | inr w ↦ absurd (not_pending a (omega arith) (before_it a f down ne g) w)
                ])
          ]
        ])

    pub write_ahead : In (Does n) order → Ahead (Does u) (Does n) order
    write_ahead in_order = earlier t p r.laid (Does u) (Does n) leads stands_too in_order

  -- ## The list of a cancel

  abbrev Seg : ℕ → ℕ → List OrderItem
  Seg = Segment t p r.laid

  -- where a block begins, each cell that has an access beneath it holds what those before the first one left
  abbrev Good : ℕ → List ℤ → Type 0
  Good m memory = (c v : ℕ) → c < length first → In v (live_accesses t c) → is_above t m v ≡ true → value_at memory c ≡ cell_value (start s t p r first kept cs h c) (map (written t) (before_block t m (live_accesses t c)))

  -- for the innermost begun block: what is in front of its begin, and its items so far
  record Head (m : ℕ) (front done : List OrderItem) (since : List Since) : Type 0 where
    base : List OrderItem
    is_front : front ≡ base ++ Begins m ∷ done
    top : Since
    rest : List Since
    is_since : since ≡ top ∷ rest
    long : length top.memory ≡ length first
    good : Good m top.memory
    wrote_done : top.written ≡ cells_written t done

  abbrev Level : Option ℕ → List OrderItem → List OrderItem → List Since → Type 0
  Level None front done since = Unit {0}
  Level (Some m) front done since = Head m front done since

  level_on : (b : Option ℕ) (front done seg : List OrderItem) (since : List Since) → Level b front done since → Level b (front ++ seg) (done ++ seg) (map (more (cells_written t seg)) since)
  level_on None front done seg since l = tt
  level_on (Some m) front done seg since l = record {
    base = l.base;
    is_front = ap (λ xs. xs ++ seg) l.is_front ∙ append_assoc l.base (Begins m ∷ done) seg;
    top = more (cells_written t seg) l.top;
    rest = map (more (cells_written t seg)) l.rest;
    is_since = ap (map (more (cells_written t seg))) l.is_since;
    long = l.long;
    good = l.good;
    wrote_done = ap (λ ws. ws ++ cells_written t seg) l.wrote_done ∙ sym (written_more t done seg);
  }

  module _ (k m n : ℕ) (back : List Back) (x : Node) (is : slice_get t n ≡ Some x) (kind : x.kind ≡ Cancel back) (entry : Entry t p r.laid (Some m) n) (stays : AllStay t p r.laid m)
      (front xs : List OrderItem) (ds ms : List ℕ) (parts : by_key (key t) (members t (Some m)) ≡ ds ++ n ∷ ms) (since : List Since) (l : Head m front (flat_map (Seg k) ds) since)
      (whole : order ≡ front ++ Does n ∷ xs) where
    g : IsGiven (Some m) n back
    g = given (Some m) n x back is kind entry stays

    same_block : g.block ≡ m
    same_block = (let q = g.level in cc q)

    block : is_block t m ≡ true
    block = (level_over t p r.laid m n entry).0

    act : is_act t n ≡ true
    act = ap (passes (λ y. is_act_kind y.kind)) is ∙ ap is_act_kind kind

    writes_not : is_some (written t n) ≡ false
    writes_not = ap (λ o. is_some (value_in written_kind o)) is ∙ ap (λ y. is_some (written_kind y)) kind

    here : In (Does n) order
    here = let P : List OrderItem → Type 0 = λ os. In (Does n) os in subst P (sym whole) (in_right (Does n) front (Does n ∷ xs) (inl refl))

    begins : In (Begins m) order
    begins =
        let P : List OrderItem → Type 0 = λ os. In (Begins m) os in
        subst P (sym whole) (in_left (Begins m) front (Does n ∷ xs) (subst P (sym l.is_front) (in_right (Begins m) l.base (Begins m ∷ flat_map (Seg k) ds) (inl refl))))

    abbrev done : List OrderItem
    done = flat_map (Seg k) ds

    -- what was written since the begin is beneath the block, and older than the cancel
    from_items : (c : ℕ) → In c (cells_written t done) → wrote_in t m (stamp_of t n) (live_accesses t c) ≡ true
    from_items c i =
        let (j, at, w) = written_by t c done i in
        let (u, q, f) = does_write t c j w in
        let P : OrderItem → Type 0 = λ o. In o done in
        let at_u : In (Does u) done = subst P q at in
        let Q : List OrderItem → Type 0 = λ os. In (Does u) os in
        let in_order : In (Does u) order = subst Q (sym whole) (in_left (Does u) front (Does n ∷ xs) (subst Q (sym l.is_front) (in_right (Does u) l.base (Begins m ∷ done) (inr at_u)))) in
        let place = placed t p r.laid (length t) None (Does u) in_order in
        let (d, in_ds, in_seg) = in_flat (Seg k) (Does u) ds at_u in
        let R : List ℕ → Type 0 = λ vs. In d vs in
        let member : In d (by_key (key t) (members t (Some m))) = subst R (sym parts) (in_left d ds (n ∷ ms) in_ds) in
        let e = member_entry t p r.laid (Some m) d member in
        let over = spot_over t p r.laid k d (Does u) e.there (segment_spot t p r.laid k d (Does u) in_seg) in
        let up = level_over t p r.laid m d e in
        let ne : u ≡ m → ⊥ = λ z. (let S : ℕ → Type 0 = λ y. is_block t y ≡ true in absurd (cc (subst S (sym z) block, (act_sort t u place.proper).block))) in
        let above_u : is_above t m u ≡ true = sym (ancestor_above t m u ne) ∙ ancestor_trans t r.laid.tree.rooted m d u over.1 up.1 over.0 in
        let T : List ℕ → Type 0 = λ vs. Sorted (key t) vs in
        let keys : key t d ≤ key t n = sorted_front (key t) ds n ms (subst T parts (sorted_by_key (key t) (members t (Some m)))) d in_ds in
        let low = key_least s t p r d u e.there over.1 over.0 (member_kind t p r.laid (Some m) d member) in
        let other : stamp_of t u ≡ stamp_of t n → ⊥ = λ z. (
        let same : u ≡ n = r.laid.stamps.distinct u n over.1 entry.there (stamp_some s t p r u over.1 (inl place.proper)) z in
        let S : ℕ → Type 0 = λ y. is_some (written t y) ≡ true in
        absurd (cc (subst S same f.written, writes_not))) in
        let less : stamp_of t u < stamp_of t n = omega (arith, keys, low, act_key s t p r n act, other) in
        any_from (λ v. is_above t m v && nat_lt (stamp_of t v) (stamp_of t n) && is_some (written t v)) u (live_accesses t c)
        (in_journal t c u over.1 f.touches (acts_live s t p r u in_order))
        (and_from (is_above t m u && nat_lt (stamp_of t u) (stamp_of t n)) (is_some (written t u)) (and_from (is_above t m u) (nat_lt (stamp_of t u) (stamp_of t n)) above_u (lt-ltb (stamp_of t u) (stamp_of t n) less)) f.written)

    -- a live write that is beneath it, and older than the cancel
    record Older (c : ℕ) : Type 0 where
      write : ℕ
      live : In write (live_accesses t c)
      over : is_above t m write ≡ true
      older : stamp_of t write < stamp_of t n
      writes : is_some (written t write) ≡ true

    older_of : (c : ℕ) → wrote_in t m (stamp_of t n) (live_accesses t c) ≡ true → Older c
    older_of c e =
        let (u, i, f) = any_in (λ v. is_above t m v && nat_lt (stamp_of t v) (stamp_of t n) && is_some (written t v)) (live_accesses t c) e in
        let y = and_parts (is_above t m u && nat_lt (stamp_of t u) (stamp_of t n)) (is_some (written t u)) f in
        let z = and_parts (is_above t m u) (nat_lt (stamp_of t u) (stamp_of t n)) y.0 in
        record { write = u; live = i; over = z.0; older = ltb-true (stamp_of t u) (stamp_of t n) z.1; writes = y.1 }

    -- was written since the begin
    to_items : (c : ℕ) → Older c → In c (cells_written t done)
    to_items c o =
        let u = o.write in
        let z = of_journal t c u o.live in
        let y = live_of s t p r c u o.live in
        let parent : parent_of t n ≡ m = g.parent ∙ same_block in
        let ahead = write_ahead m n block entry act parent stays u y.there y.act z.2 o.over o.older here in
        let P : List OrderItem → Type 0 = λ os. Ahead (Does u) (Does n) os in
        let Q : List OrderItem → Type 0 = λ os. Apart os in
        let R : List OrderItem → Type 0 = λ os. In (Does u) os in
        let in_front_part = subst R l.is_front (in_front (Does u) (Does n) front xs (subst Q whole (order_once t p r.laid)) (subst P whole ahead)) in
        let in_order : In (Does u) order = first_in (Does u) (Does n) order ahead in
        by_written t c (Does u) done
        (elim (in_append (Does u) l.base (Begins m ∷ done) in_front_part) [
          | inl early ↦ absurd (
              let S : List OrderItem → Type 0 = λ os. Ahead (Does u) (Begins m) os in
              let all : order ≡ l.base ++ Begins m ∷ (done ++ Does n ∷ xs) = whole ∙ ap (λ os. os ++ Does n ∷ xs) l.is_front ∙ append_assoc l.base (Begins m ∷ done) (Does n ∷ xs) in
              one_way (Does u) (Begins m) order (order_once t p r.laid) (subst S (sym all) (ahead_both (Does u) (Begins m) l.base (Begins m ∷ (done ++ Does n ∷ xs)) early (inl refl)))
              (later s t p r (length first) h.cells h.ended m block begins u o.over in_order))
          | inr i ↦ elim i [ inl q ↦ absurd (cc q) | inr i ↦ i ]
        ])
        (of_write t c u z.1 o.writes)

    same_cells : (c : ℕ) → was_written l.top c ≡ wrote_in t m (stamp_of t n) (live_accesses t c)
    same_cells c =
        same_truth (was_written l.top c) (wrote_in t m (stamp_of t n) (live_accesses t c))
        (λ e.
        let (d, i, q) = any_in (λ d. nat_eq d c) l.top.written e in
        let P : ℕ → Type 0 = λ y. In y l.top.written in
        let Q : List ℕ → Type 0 = λ ws. In c ws in
        from_items c (subst Q l.wrote_done (subst P (eqb-true d c q) i)))
        (λ e. let Q : List ℕ → Type 0 = λ ws. In c ws in any_from (λ d. nat_eq d c) c l.top.written (subst Q (sym l.wrote_done) (to_items c (older_of c e))) (eq-eqb c c refl))

    same_value : (c : ℕ) → In c (filter (λ c. wrote_in t m (stamp_of t n) (live_accesses t c)) (below (length first)))
        → value_at l.top.memory c ≡ cell_value (slice_index_or first c (pos 0)) (map (written t) (before_block t m (live_accesses t c)))
    same_value c i =
        let z = in_filter (λ c. wrote_in t m (stamp_of t n) (live_accesses t c)) c (below (length first)) i in
        let o = older_of c z.1 in
        l.good c o.write (in_below c (length first) z.0) o.live o.over
        ∙ ap (λ v. cell_value v (map (written t) (before_block t m (live_accesses t c)))) (unwrap_or-slice_get first c (pos 0))

    puts_back_list : given_up since ≡ back
    puts_back_list =
        let f : (ℕ → ℤ) → ℕ → Back = λ v c. record { cell = c; value = v c } in
        let held : ℕ → ℤ = value_at l.top.memory in
        let left : ℕ → ℤ = λ c. cell_value (slice_index_or first c (pos 0)) (map (written t) (before_block t m (live_accesses t c))) in
        let cells = filter (λ c. wrote_in t m (stamp_of t n) (live_accesses t c)) (below (length first)) in
        ap given_up l.is_since
        ∙ ap (λ k. map (f held) (filter (was_written l.top) (below k))) l.long
        ∙ ap (map (f held)) (filter_agree (was_written l.top) (λ c. wrote_in t m (stamp_of t n) (live_accesses t c)) same_cells (below (length first)))
        ∙ map_same (f held) (f left) cells (λ c i. ap (λ (v : ℤ). (let b : Back = record { cell = c; value = v } in b)) (same_value c i))
        ∙ sym (g.list ∙ ap (λ y. put_back t first (live_accesses t) y (stamp_of t n)) same_block)

  -- ## Level by level

  abbrev Owes : List OrderItem → List Since → List OrderItem → Type 0
  Owes front since xs = order ≡ front ++ xs → PutsBack t (memory_all t first front) since xs

  one : (front : List OrderItem) (since : List Since) (i : OrderItem) (xs : List OrderItem) → (order ≡ front ++ i ∷ xs → PutsBackItem t since i) → Owes (front ++ i ∷ []) (since_after (wanted_item t i) (memory_all t first front) since) xs → Owes front since (i ∷ xs)
  one front since i xs item rest is =
      let P : List ℤ → Type 0 = λ memory. PutsBack t memory (since_after (wanted_item t i) (memory_all t first front) since) xs in
      (item is, subst P (memory_next t i front first) (rest (is ∙ sym (append_assoc front (i ∷ []) xs))))

  -- some items, and what comes behind them
  abbrev Pays : List OrderItem → List Since → List OrderItem → Type 0
  Pays front since seg = (xs : List OrderItem) → Owes (front ++ seg) (map (more (cells_written t seg)) since) xs → Owes front since (seg ++ xs)

  pays_none : (front : List OrderItem) (since : List Since) → Pays front since []
  pays_none front since xs o =
      let P : List OrderItem → Type 0 = λ f. Owes f (map (more []) since) xs in
      let Q : List Since → Type 0 = λ ys. Owes front ys xs in
      subst Q (more_none since) (subst P (append-nil front) o)

  pays_both : (front : List OrderItem) (since : List Since) (a b : List OrderItem) → Pays front since a → Pays (front ++ a) (map (more (cells_written t a)) since) b → Pays front since (a ++ b)
  pays_both front since a b pa pb xs o =
      let P : List OrderItem → Type 0 = λ os. Owes front since os in
      let Q : List OrderItem → Type 0 = λ f. Owes f (map (more (cells_written t (a ++ b))) since) xs in
      let R : List Since → Type 0 = λ ys. Owes ((front ++ a) ++ b) ys xs in
      let lists : map (more (cells_written t (a ++ b))) since ≡ map (more (cells_written t b)) (map (more (cells_written t a)) since) =
      ap (λ ws. map (more ws) since) (written_more t a b) ∙ sym (more_twice (cells_written t a) (cells_written t b) since) in
      subst P (sym (append_assoc a b xs)) (pa (b ++ xs) (pb xs (subst R lists (subst Q (sym (append_assoc front a b)) o))))

  -- an act
  pays_act : (front : List OrderItem) (since : List Since) (n : ℕ) → is_act t n ≡ true → ((xs : List OrderItem) → order ≡ front ++ Does n ∷ xs → PutsBackItem t since (Does n)) → Pays front since (Does n ∷ [])
  pays_act front since n act item xs o =
      let P : List Since → Type 0 = λ ys. Owes (front ++ Does n ∷ []) ys xs in
      let lists : map (more (cells_written t (Does n ∷ []))) since ≡ since_after (wanted_item t (Does n)) (memory_all t first front) since =
      ap (λ ws. map (more ws) since) (append-nil (wrote (wanted_item t (Does n)))) ∙ sym (by (slice_get t n) act) in
      one front since (Does n) xs (item xs) (subst P lists o) where
        by : (v : Option Node) → passes (λ y. is_act_kind y.kind) v ≡ true → since_after (wanted_node v) (memory_all t first front) since ≡ map (more (wrote (wanted_node v))) since
        by None e = absurd (cc e)
        by (Some y) e = act_since y.kind (memory_all t first front) since e

  -- a block that begins
  begun_head : (front rest : List OrderItem) (since : List Since) (m : ℕ) → is_block t m ≡ true → order ≡ front ++ Begins m ∷ rest → Head m (front ++ Begins m ∷ []) [] (record { memory = memory_all t first front; written = [] } ∷ since)
  begun_head front rest since m block is = record {
    base = front;
    is_front = refl;
    top = record { memory = memory_all t first front; written = [] };
    rest = since;
    is_since = refl;
    long = memory_length t front first;
    good = λ c v low live over.
        (let P : List OrderItem → Type 0 = λ os. In (Begins m) os in
        holds_before s t p r (length first) h.cells h.ended m block (subst P (sym is) (in_right (Begins m) front (Begins m ∷ rest) (inl refl))) front rest is (start s t p r first kept cs h c) (memory_all t first front) c low
        (front_tracks s t p r first kept cs h front (Begins m ∷ rest) is c low) v live over);
    wrote_done = refl;
  }

  -- a block in which all blocks are closed
  abbrev Closes : ℕ → Type 0
  Closes k = (m : ℕ) (front : List OrderItem) (since : List Since) → AllStay t p r.laid m → open_member t p (Some m) ≡ None → Head m front [] since → Pays front since (items_in t p k (Some m))

  module _ (k : ℕ) (b : Option ℕ) (closes : Closes k) (stays : LevelStays t p r.laid b) where
    act_item : (n : ℕ) → Entry t p r.laid b n → (ds ms : List ℕ) → by_key (key t) (members t b) ≡ ds ++ n ∷ ms → (front : List OrderItem) (since : List Since) → Level b front (flat_map (Seg k) ds) since → (xs : List OrderItem) → order ≡ front ++ Does n ∷ xs
        → PutsBackItem t since (Does n)
    act_item n e ds ms parts front since l xs is = by (slice_get t n) refl where
      kinds : (x : Node) → slice_get t n ≡ Some x → (kind : Kind) → x.kind ≡ kind → PutsBackKind since kind
      kinds x at (Cancel back) q = stand b (given b n x back at q e stays) e parts stays l where
        stand : (c : Option ℕ) → IsGiven c n back → Entry t p r.laid c n → by_key (key t) (members t c) ≡ ds ++ n ∷ ms → LevelStays t p r.laid c → Level c front (flat_map (Seg k) ds) since → given_up since ≡ back
        stand None g e parts stays l = absurd (let q = g.level in cc q)
        stand (Some m) g e parts stays l = puts_back_list k m n back x at q e stays front xs ds ms parts since l is
      kinds x at _ q = tt

      by : (o : Option Node) → slice_get t n ≡ o → PutsBackNode since o
      by None at = tt
      by (Some x) at = kinds x at x.kind refl

    block_pays : (n : ℕ) → Entry t p r.laid b n → is_committed t n ≡ true → (front : List OrderItem) (since : List Since) → Pays front since (Begins n ∷ items_in t p k (Some n) ++ Ends n ∷ [])
    block_pays n e done front since xs o is =
        let inner = items_in t p k (Some n) in
        let block = (committed_sort t n done).block in
        let memory = memory_all t first front in
        let now : List Since = record { memory = memory; written = [] } ∷ since in
        let P : List OrderItem → Type 0 = λ os. Owes (front ++ Begins n ∷ []) now os in
        let Q : List OrderItem → Type 0 = λ f. Owes f (map (more (cells_written t (inner ++ Ends n ∷ []))) since) xs in
        let R : List ℕ → Type 0 = λ ws. Owes (((front ++ Begins n ∷ []) ++ inner) ++ Ends n ∷ []) (map (more ws) since) xs in
        let fronts : front ++ Begins n ∷ (inner ++ Ends n ∷ []) ≡ ((front ++ Begins n ∷ []) ++ inner) ++ Ends n ∷ [] =
        sym (append_assoc front (Begins n ∷ []) (inner ++ Ends n ∷ [])) ∙ sym (append_assoc (front ++ Begins n ∷ []) inner (Ends n ∷ [])) in
        let same : cells_written t (inner ++ Ends n ∷ []) ≡ cells_written t inner = written_more t inner (Ends n ∷ []) ∙ append-nil (cells_written t inner) in
        let behind = one ((front ++ Begins n ∷ []) ++ inner) (map (more (cells_written t inner)) now) (Ends n) xs (λ q. tt) (subst R same (subst Q fronts o)) in
        let within = closes n (front ++ Begins n ∷ []) now (entry_stays t p r.laid b n e stays) (no_open t p r.laid (cancels_stand) n e.there done) (begun_head front ((inner ++ Ends n ∷ []) ++ xs) since n block is) (Ends n ∷ xs) behind in
        one front since (Begins n) ((inner ++ Ends n ∷ []) ++ xs) (λ q. tt) (subst P (sym (append_assoc inner (Ends n ∷ []) xs)) within) is

    member_pays : (n : ℕ) → Entry t p r.laid b n → (is_act t n ≡ true) ⊎ (is_committed t n ≡ true) → (ds ms : List ℕ) → by_key (key t) (members t b) ≡ ds ++ n ∷ ms → (front : List OrderItem) (since : List Since) → Level b front (flat_map (Seg k) ds) since
        → Pays front since (Seg k n)
    member_pays n e (inl act) ds ms parts front since l =
        let P : Bool → Type 0 = λ v. Pays front since (as_items v n (items_in t p k (Some n))) in
        subst P (sym (act_sort t n act).block) (pays_act front since n act (act_item n e ds ms parts front since l))
    member_pays n e (inr done) ds ms parts front since l =
        let P : Bool → Type 0 = λ v. Pays front since (as_items v n (items_in t p k (Some n))) in
        subst P (sym (committed_sort t n done).block) (block_pays n e done front since)

    members_pay : (ds ms : List ℕ) → by_key (key t) (members t b) ≡ ds ++ ms → (front : List OrderItem) (since : List Since) → Level b front (flat_map (Seg k) ds) since → Pays front since (flat_map (Seg k) ms)
    members_pay ds [] parts front since l = pays_none front since
    members_pay ds (n ∷ ms) parts front since l =
        let P : List ℕ → Type 0 = λ vs. In n vs in
        let member : In n (by_key (key t) (members t b)) = subst P (sym parts) (in_right n ds (n ∷ ms) (inl refl)) in
        let Q : List OrderItem → Type 0 = λ os. Level b (front ++ Seg k n) os (map (more (cells_written t (Seg k n))) since) in
        let done : flat_map (Seg k) (ds ++ n ∷ []) ≡ flat_map (Seg k) ds ++ Seg k n = flat_map-append (Seg k) ds (n ∷ []) ∙ ap (λ os. flat_map (Seg k) ds ++ os) (append-nil (Seg k n)) in
        let next = subst Q (sym done) (level_on b front (flat_map (Seg k) ds) (Seg k n) since l) in
        pays_both front since (Seg k n) (flat_map (Seg k) ms) (member_pays n (member_entry t p r.laid b n member) (member_kind t p r.laid b n member) ds ms parts front since l)
        (members_pay (ds ++ n ∷ []) ms (parts ∙ sym (append_assoc ds (n ∷ []) ms)) (front ++ Seg k n) (map (more (cells_written t (Seg k n))) since) next)

    level_pays : (front : List OrderItem) (since : List Since) → Level b front [] since → Pays front since (flat_map (Seg k) (by_key (key t) (members t b)))
    level_pays = members_pay [] (by_key (key t) (members t b)) refl

  closed_pays : (k : ℕ) → Closes k
  closed_pays zero m front since stays none l = pays_none front since
  closed_pays (suc k) m front since stays none l =
      let flat = flat_map (Seg k) (by_key (key t) (members t (Some m))) in
      let P : Option ℕ → Type 0 = λ o. Pays front since (flat ++ last_open o (items_in t p k o)) in
      subst P (sym none) (pays_both front since flat [] (level_pays k (Some m) (closed_pays k) stays front since l) (pays_none (front ++ flat) (map (more (cells_written t flat)) since)))

  level_owes : (k : ℕ) (b : Option ℕ) (front : List OrderItem) (since : List Since) → LevelStays t p r.laid b → Level b front [] since → Owes front since (items_in t p k b)
  level_owes zero b front since stays l = λ is. tt
  level_owes (suc k) b front since stays l =
      level_pays k b (closed_pays k) stays front since l (last_open (open_member t p b) (items_in t p k (open_member t p b)))
      (by (open_member t p b) refl (λ m f n around head. level_owes k (Some m) f n around head)) where
        flat : List OrderItem
        flat = flat_map (Seg k) (by_key (key t) (members t b))

        by : (o : Option ℕ) → open_member t p b ≡ o → ((m : ℕ) (f : List OrderItem) (n : List Since) → AllStay t p r.laid m → Head m f [] n → Owes f n (items_in t p k (Some m)))
            → Owes (front ++ flat) (map (more (cells_written t flat)) since) (last_open o (items_in t p k o))
        by None e within = λ is. tt
        by (Some m) e within = λ is.
            (let opened = open_entry t p r.laid b m e in
            let block = (pending_sort t m opened.pending).block in
            let now = map (more (cells_written t flat)) since in
            one (front ++ flat) now (Begins m) (items_in t p k (Some m)) (λ q. tt)
            (within m ((front ++ flat) ++ Begins m ∷ []) (record { memory = memory_all t first (front ++ flat); written = [] } ∷ now) (entry_stays t p r.laid b m opened.entry stays)
            (begun_head (front ++ flat) (items_in t p k (Some m)) now m block is)) is)

  -- each cancel of the order puts back what its leaf lists
  pub order_puts_back : PutsBack t first [] order
  order_puts_back = level_owes (length t) None [] [] tt tt refl
