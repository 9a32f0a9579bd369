-- In the order of a record each item stands once; and of two items that one comes earlier that leads in the level of both.
use Rattle.std.proofs.Common.{◌≡◌, ℕ, zero, suc, ◌<◌, ◌≤◌, List, [], ◌∷◌, ◌++◌, length, refl, ap, sym, ◌∙◌, arith, Bool, true, false, Option, Some, None, inl, inr, subst}
use Rattle.std.specs.Prelude.{◌⊎◌, ◌&&◌, ◌||◌}
use Rattle.std.specs.List.{flat_map}
use Rattle.std.proofs.lemmas.Bool.{cases_eq}
use Rattle.cw_tree.specs.declared.node.Node.{Node}
use Rattle.cw_tree.specs.Nodes.{is_block, is_pending, is_committed, all_nodes}
use Rattle.cw_tree.specs.Walks.{is_ancestor}
use Rattle.cw_tree.specs.Accesses.{by_key}
use Rattle.cw_tree.proofs.Walks.Ancestors.{ancestor_self, ancestor_le, ancestor_trans}
use Rattle.cw_tree.proofs.Members.{in_left, in_right, in_append, in_flat, flat_in}
use Rattle.cw_tree.proofs.Lists.{In}
use Rattle.cw_tree.proofs.Rising.{rises_filter, below_rises, rises_apart}
use Rattle.cw_tree.proofs.Ahead.{Ahead, ahead_left, ahead_right, ahead_both, ahead_pieces, ahead_piece, Apart, apart_append, apart_flat}
use Rattle.cw_tree.proofs.Sorts.{sorted_by_key, sorted_ahead}
use Rattle.cw_tree.proofs.InOrder.Keys.{apart_by_key}
use Rattle.cw_record.specs.declared.items.OrderItem.{OrderItem}
use Rattle.cw_record.specs.declared.items.OrderItem.TheVariants.{Begins, Does, Ends}
use Rattle.cw_record.specs.Items.{is_act, is_right_in, key, members, open_member, as_items, last_open, items_in}
use Rattle.cw_record.specs.Order.{node_of}
use Rattle.cw_replay.proofs.RecordsReplay.Tasks.Sorts.{pending_sort}
use Rattle.cw_replay.proofs.RecordsReplay.Ordered.Entries.{Laid, Entry, member_kind, member_entry, open_entry, level_over, one_entry, Segment, Spot, act, begin, inner, end, segment_spot, Inside, of_member, of_open, inside, placed, Order}

module _ (t : List Node) (p : ℕ) (g : Laid t p) where
  -- node m is over the node of an item
  abbrev pub Over : ℕ → OrderItem → Type 0
  Over m i = (is_ancestor t m (node_of i) ≡ true) × (node_of i < length t)

  pub over_itself : (m : ℕ) (i : OrderItem) → m < length t → node_of i ≡ m → Over m i
  over_itself m i h q = let P : ℕ → Type 0 = λ x. (is_ancestor t m x ≡ true) × (x < length t) in subst P (sym q) (ancestor_self t m, h)

  beneath : (k m : ℕ) (i : OrderItem) → In i (items_in t p k (Some m)) → Over m i × (m < node_of i)
  beneath k m i h =
      let z = placed t p g k (Some m) i h in
      let y = level_over t p g m z.entry z.is_entry in
      let le : z.entry ≤ node_of i = ancestor_le t g.tree.rooted z.entry (node_of i) z.there z.over in
      ((ancestor_trans t g.tree.rooted m z.entry (node_of i) z.there y.1 z.over, z.there), omega (arith, y.2))

  pub spot_over : (k m : ℕ) (i : OrderItem) → m < length t → Spot t p g k m i → Over m i
  spot_over k m i h (act q e) = over_itself m i h (ap node_of q)
  spot_over k m i h (begin q e) = over_itself m i h (ap node_of q)
  spot_over k m i h (inner x e) = (beneath k m i x).0
  spot_over k m i h (end q e) = over_itself m i h (ap node_of q)

  open_over : (k m : ℕ) (i : OrderItem) → m < length t → (i ≡ Begins m) ⊎ In i (items_in t p k (Some m)) → Over m i
  open_over k m i h (inl q) = over_itself m i h (ap node_of q)
  open_over k m i h (inr x) = (beneath k m i x).0

  -- no member is pending
  member_not_open : (b : Option ℕ) (n : ℕ) → In n (by_key (key t) (members t b)) → is_pending t n ≡ true → ⊥
  member_not_open b n h e =
      let z = pending_sort t n e in
      elim (member_kind t p g b n h) [ inl d ↦ absurd (cc (d, z.act)) | inr d ↦ absurd (cc (d, z.committed)) ]

  -- ## Which comes earlier

  -- What makes an item come earlier than another: nothing in a block is before its begin or after its end, and of two entries of a level
  -- the first has a smaller key and is no pending block.
  pub record Leads (i j : OrderItem) : Type 0 where
    pub no_begin : (m : ℕ) → m < length t → Over m i → j ≡ Begins m → ⊥
    pub no_end : (m : ℕ) → m < length t → Over m j → i ≡ Ends m → ⊥
    pub not_same : (m : ℕ) → m < length t → i ≡ Does m → j ≡ Does m → ⊥
    pub smaller : (b : Option ℕ) (m n : ℕ) → Entry t p g b m → Entry t p g b n → (m ≡ n → ⊥) → Over m i → Over n j → (is_act t n ≡ true) ⊎ (is_committed t n ≡ true) → (key t m < key t n) × (is_pending t m ≡ true → ⊥)

  module _ (i j : OrderItem) (s : Leads i j) where
    blocked : (m : ℕ) (xs : List OrderItem) → is_block t m ≡ true → Ahead i j (Begins m ∷ xs ++ Ends m ∷ []) → Ahead i j (as_items (is_block t m) m xs)
    blocked m xs e h = let P : Bool → Type 0 = λ b. Ahead i j (as_items b m xs) in subst P (sym e) h

    in_segment : (k m : ℕ) → m < length t → (In i (items_in t p k (Some m)) → In j (items_in t p k (Some m)) → Ahead i j (items_in t p k (Some m))) → Spot t p g k m i → Spot t p g k m j → Ahead i j (Segment t p g k m)
    in_segment k m h more (act q e) (act r f) = absurd (s.not_same m h q r)
    in_segment k m h more (act q e) (begin r f) = absurd (cc (e, f))
    in_segment k m h more (act q e) (inner r f) = absurd (cc (e, f))
    in_segment k m h more (act q e) (end r f) = absurd (cc (e, f))
    in_segment k m h more (begin q e) (act r f) = absurd (cc (e, f))
    in_segment k m h more (begin q e) (begin r f) = absurd (s.no_begin m h (spot_over k m i h (begin q e)) r)
    in_segment k m h more (begin q e) (inner r f) = blocked m (items_in t p k (Some m)) e (inl (q, in_left j (items_in t p k (Some m)) (Ends m ∷ []) r))
    in_segment k m h more (begin q e) (end r f) = blocked m (items_in t p k (Some m)) e (inl (q, in_right j (items_in t p k (Some m)) (Ends m ∷ []) (inl r)))
    in_segment k m h more (inner q e) (act r f) = absurd (cc (e, f))
    in_segment k m h more (inner q e) (begin r f) = absurd (s.no_begin m h (spot_over k m i h (inner q e)) r)
    in_segment k m h more (inner q e) (inner r f) = blocked m (items_in t p k (Some m)) e (inr (ahead_left i j (items_in t p k (Some m)) (Ends m ∷ []) (more q r)))
    in_segment k m h more (inner q e) (end r f) = blocked m (items_in t p k (Some m)) e (inr (ahead_both i j (items_in t p k (Some m)) (Ends m ∷ []) q (inl r)))
    in_segment k m h more (end q e) r = absurd (s.no_end m h (spot_over k m j h r) q)

    abbrev Rest : ℕ → Option ℕ → List OrderItem
    Rest k b = last_open (open_member t p b) (items_in t p k (open_member t p b))

    by_inside : (k : ℕ) (b : Option ℕ) → ((m : ℕ) → In i (items_in t p k (Some m)) → In j (items_in t p k (Some m)) → Ahead i j (items_in t p k (Some m))) → Inside t p g k b i → Inside t p g k b j → Ahead i j (items_in t p (suc k) b)
    by_inside k b more (of_member m hm gm sm) (of_member n hn gn sn) =
        ahead_left i j (flat_map (Segment t p g k) (by_key (key t) (members t b))) (Rest k b) (
        let em = member_entry t p g b m hm in
        let en = member_entry t p g b n hn in
        elim (cases_eq m n) [
          | inl q ↦
              (let P : ℕ → Type 0 = λ x. Spot t p g k x j in
              ahead_piece (Segment t p g k) i j m (by_key (key t) (members t b)) hm (in_segment k m em.there (more m) sm (subst P (sym q) sn)))
          | inr ne ↦
              ahead_pieces (Segment t p g k) i j m n (by_key (key t) (members t b))
              (sorted_ahead (key t) m n (by_key (key t) (members t b)) (sorted_by_key (key t) (members t b)) hm hn
              (s.smaller b m n em en ne (spot_over k m i em.there sm) (spot_over k n j en.there sn) (member_kind t p g b n hn)).0)
              gm gn
        ])
    by_inside k b more (of_member m hm gm sm) (of_open n on gn) =
        ahead_both i j (flat_map (Segment t p g k) (by_key (key t) (members t b))) (Rest k b) (flat_in (Segment t p g k) i m (by_key (key t) (members t b)) hm gm)
        (let P : Option ℕ → Type 0 = λ o. In j (last_open o (items_in t p k o)) in subst P (sym on) gn)
    by_inside k b more (of_open m om gm) (of_member n hn gn sn) =
        let em = open_entry t p g b m om in
        let en = member_entry t p g b n hn in
        let ne : m ≡ n → ⊥ = λ q. (let P : ℕ → Type 0 = λ x. is_pending t x ≡ true in member_not_open b n hn (subst P q em.pending)) in
        absurd ((s.smaller b m n em.entry en ne (open_over k m i em.entry.there gm) (spot_over k n j en.there sn) (member_kind t p g b n hn)).1 em.pending)
    by_inside k b more (of_open m om gm) (of_open n on gn) =
        ahead_right i j (flat_map (Segment t p g k) (by_key (key t) (members t b))) (Rest k b)
        (let P : Option ℕ → Type 0 = λ o. Ahead i j (last_open o (items_in t p k o)) in
        let Q : ℕ → Type 0 = λ x. (j ≡ Begins x) ⊎ In j (items_in t p k (Some x)) in
        let same : n ≡ m = (let q : Some n ≡ Some m = sym on ∙ om in cc q) in
        subst P (sym om) (both gm (subst Q same gn))) where
          low : m < length t
          low = (open_entry t p g b m om).entry.there

          both : (i ≡ Begins m) ⊎ In i (items_in t p k (Some m)) → (j ≡ Begins m) ⊎ In j (items_in t p k (Some m)) → Ahead i j (Begins m ∷ items_in t p k (Some m))
          both a (inl r) = absurd (s.no_begin m low (open_over k m i low a) r)
          both (inl q) (inr r) = inl (q, r)
          both (inr q) (inr r) = inr (more m q r)

    earlier_in : (k : ℕ) (b : Option ℕ) → In i (items_in t p k b) → In j (items_in t p k b) → Ahead i j (items_in t p k b)
    earlier_in zero b h x = absurd h
    earlier_in (suc k) b h x = by_inside k b (λ m. earlier_in k (Some m)) (inside t p g k b i h) (inside t p g k b j x)

    pub earlier : In i (Order t p g) → In j (Order t p g) → Ahead i j (Order t p g)
    earlier = earlier_in (length t) None

  -- ## Once

  deeper_begin : (k m : ℕ) → In (Begins m) (items_in t p k (Some m)) → ⊥
  deeper_begin k m h = let z = (beneath k m (Begins m) h).1 in let l : m < m = z in omega arith

  deeper_end : (k m : ℕ) → In (Ends m) (items_in t p k (Some m)) → ⊥
  deeper_end k m h = let z = (beneath k m (Ends m) h).1 in let l : m < m = z in omega arith

  segment_once : (k m : ℕ) → Apart (items_in t p k (Some m)) → (b : Bool) → Apart (as_items b m (items_in t p k (Some m)))
  segment_once k m d true = (
    (λ x. elim (in_append (Begins m) (items_in t p k (Some m)) (Ends m ∷ []) x) [ inl y ↦ deeper_begin k m y | inr y ↦ elim y [ inl q ↦ absurd (cc q) | inr z ↦ z ] ]),
    apart_append (items_in t p k (Some m)) (Ends m ∷ []) d ((λ x. x), tt) (λ x a c. elim c [ inl q ↦ (let P : OrderItem → Type 0 = λ v. In v (items_in t p k (Some m)) in deeper_end k m (subst P q a)) | inr z ↦ z ]),
  )
  segment_once k m d false = ((λ x. x), tt)

  once_in : (k : ℕ) (b : Option ℕ) → Apart (items_in t p k b)
  once_in zero b = tt
  once_in (suc k) b =
      apart_append (flat_map (Segment t p g k) (by_key (key t) (members t b))) (last_open (open_member t p b) (items_in t p k (open_member t p b)))
      (apart_flat (Segment t p g k) (by_key (key t) (members t b)) (apart_by_key (key t) (members t b) (rises_apart (members t b) (rises_filter (λ n. (is_act t n || is_committed t n) && is_right_in t b n) (all_nodes t) (below_rises (length t)))))
      (λ n h. segment_once k n (once_in k (Some n)) (is_block t n)) (same_entry k b))
      (open_once k (open_member t p b) (λ m. once_in k (Some m)))
      (apart k b) where
        open_once : (k : ℕ) (o : Option ℕ) → ((m : ℕ) → Apart (items_in t p k (Some m))) → Apart (last_open o (items_in t p k o))
        open_once k None d = tt
        open_once k (Some m) d = (deeper_begin k m, d m)

        at_segment : (k : ℕ) (b : Option ℕ) (m : ℕ) (i : OrderItem) → In m (by_key (key t) (members t b)) → In i (Segment t p g k m) → Over m i
        at_segment k b m i h x = spot_over k m i (member_entry t p g b m h).there (segment_spot t p g k m i x)

        same_entry : (k : ℕ) (b : Option ℕ) (m n : ℕ) (i : OrderItem) → In m (by_key (key t) (members t b)) → In n (by_key (key t) (members t b)) → In i (Segment t p g k m) → In i (Segment t p g k n) → m ≡ n
        same_entry k b m n i hm hn gm gn =
            let x = at_segment k b m i hm gm in
            let y = at_segment k b n i hn gn in
            one_entry t p g b m n (node_of i) (member_entry t p g b m hm) (member_entry t p g b n hn) x.1 x.0 y.0

        apart : (k : ℕ) (b : Option ℕ) (i : OrderItem) → In i (flat_map (Segment t p g k) (by_key (key t) (members t b))) → In i (last_open (open_member t p b) (items_in t p k (open_member t p b))) → ⊥
        apart k b i h x = by (open_member t p b) refl x where
          by : (o : Option ℕ) → open_member t p b ≡ o → In i (last_open o (items_in t p k o)) → ⊥
          by None e y = y
          by (Some m) e y =
              let z = in_flat (Segment t p g k) i (by_key (key t) (members t b)) h in
              let em = open_entry t p g b m e in
              let a = open_over k m i em.entry.there y in
              let c = at_segment k b z.0 i z.1 z.2 in
              let same : m ≡ z.0 = one_entry t p g b m z.0 (node_of i) em.entry (member_entry t p g b z.0 z.1) a.1 a.0 c.0 in
              let P : ℕ → Type 0 = λ v. is_pending t v ≡ true in
              member_not_open b z.0 z.1 (subst P same em.pending)

  -- no item stands twice
  pub order_once : Apart (Order t p g)
  order_once = once_in (length t) None
