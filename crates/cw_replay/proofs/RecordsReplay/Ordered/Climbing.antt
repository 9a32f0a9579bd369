-- An item around which all blocks stand in the order of a record stands there itself.
use Rattle.std.proofs.Common.{◌≡◌, ℕ, zero, suc, ◌+◌, ◌<◌, ◌≤◌, List, [], ◌∷◌, length, refl, sym, arith, Bool, true, Option, Some, None, inl, inr, subst}
use Rattle.std.specs.Prelude.{◌⊎◌, ◌&&◌, ◌||◌}
use Rattle.std.specs.List.{flat_map}
use Rattle.std.proofs.lemmas.Bool.{and_from, or_left, or_right}
use Rattle.cw_tree.specs.declared.node.Node.{Node}
use Rattle.cw_tree.specs.Nodes.{is_block, is_pending, is_committed, all_nodes}
use Rattle.cw_tree.specs.Walks.{xparent}
use Rattle.cw_tree.specs.Accesses.{by_key}
use Rattle.cw_tree.proofs.Walks.Ancestors.{ancestor_self, ancestor_trans}
use Rattle.cw_tree.proofs.Members.{filter_in, below_in, in_left, in_right, flat_in}
use Rattle.cw_tree.proofs.Lists.{In}
use Rattle.cw_tree.proofs.InOrder.Keys.{in_by_key}
use Rattle.cw_record.specs.declared.items.OrderItem.{OrderItem}
use Rattle.cw_record.specs.declared.items.OrderItem.TheVariants.{Begins, Does, Ends}
use Rattle.cw_record.specs.Items.{is_act, is_right_in, key, members, open_member, as_items, last_open, items_in}
use Rattle.cw_record.specs.Order.{node_of}
use Rattle.cw_record.proofs.Orders.Homes.{same_block_self, xparent_is, open_here}
use Rattle.cw_replay.proofs.RecordsReplay.Tasks.Sorts.{act_sort, committed_sort}
use Rattle.cw_replay.proofs.RecordsReplay.Ordered.Entries.{Laid, IsOfNode, Stays, Entry, stays_some, open_entry, Segment, Order, AllStay}

module _ (t : List Node) (p : ℕ) (g : Laid t p) where
  -- an entry is a member or the pending block that comes last
  in_level : (b : Option ℕ) (x : ℕ) → Entry t p g b x → In x (by_key (key t) (members t b)) ⊎ (open_member t p b ≡ Some x)
  in_level b x e = by e.stays where
    right_in : is_right_in t b x ≡ true
    right_in = let P : Option ℕ → Type 0 = λ o. is_right_in t o x ≡ true in subst P e.up (same_block_self (xparent t x))

    member : (is_act t x || is_committed t x) ≡ true → In x (by_key (key t) (members t b))
    member o = in_by_key (key t) x (members t b) (filter_in (λ n. (is_act t n || is_committed t n) && is_right_in t b n) x (all_nodes t) (below_in x (length t) e.there) (and_from (is_act t x || is_committed t x) (is_right_in t b x) o right_in))

    by : Stays t p g x → In x (by_key (key t) (members t b)) ⊎ (open_member t p b ≡ Some x)
    by (inl d) = inl (member (or_left (is_act t x) (is_committed t x) d))
    by (inr (inl d)) = inl (member (or_right (is_act t x) (is_committed t x) d))
    by (inr (inr d)) = inr (let P : Option ℕ → Type 0 = λ o. open_member t p o ≡ Some x in subst P e.up (open_here t g.tree.rooted p x g.there d.0 d.1))

  to_level : (k : ℕ) (b : Option ℕ) (x : ℕ) (i : OrderItem) → Entry t p g b x → In i (Segment t p g k x) → (is_pending t x ≡ true → (i ≡ Begins x) ⊎ In i (items_in t p k (Some x))) → In i (items_in t p (suc k) b)
  to_level k b x i e h o = by (in_level b x e) where
    by : In x (by_key (key t) (members t b)) ⊎ (open_member t p b ≡ Some x) → In i (items_in t p (suc k) b)
    by (inl m) = in_left i (flat_map (Segment t p g k) (by_key (key t) (members t b))) (last_open (open_member t p b) (items_in t p k (open_member t p b))) (flat_in (Segment t p g k) i x (by_key (key t) (members t b)) m h)
    by (inr q) =
        in_right i (flat_map (Segment t p g k) (by_key (key t) (members t b))) (last_open (open_member t p b) (items_in t p k (open_member t p b)))
        (let P : Option ℕ → Type 0 = λ r. In i (last_open r (items_in t p k r)) in subst P (sym q) (o (open_entry t p g b x q).pending))

  entry_of : (x : ℕ) (b : Option ℕ) → x < length t → Stays t p g x → xparent t x ≡ b → Entry t p g b x
  entry_of x b h s e = record { there = h; some = stays_some t p g x s; up = e; stays = s }

  -- an item in an entry is in its level
  one_up : (n c : ℕ) (b : Option ℕ) (i : OrderItem) → n < length t → is_block t n ≡ true → Stays t p g n → xparent t n ≡ b → ((k : ℕ) → c ≤ k → In i (items_in t p k (Some n))) → (k : ℕ) → suc c ≤ k → In i (items_in t p k b)
  one_up n c b i h e s q f zero m = absurd (omega arith)
  one_up n c b i h e s q f (suc k) m =
      let y : In i (items_in t p k (Some n)) = f k (omega arith) in
      let P : Bool → Type 0 = λ o. In i (as_items o n (items_in t p k (Some n))) in
      to_level k b n i (entry_of n b h s q) (subst P (sym e) (inr (in_left i (items_in t p k (Some n)) (Ends n ∷ []) y))) (λ w. inr y)

  climb_up : (f n c : ℕ) (i : OrderItem) → n ≤ f → n < length t → is_block t n ≡ true → AllStay t p g n → ((k : ℕ) → c ≤ k → In i (items_in t p k (Some n))) → c + n ≤ length t → In i (Order t p g)
  climb_up zero n c i le h e s o l = absurd (let z : 0 < n = stays_some t p g n (s n e (ancestor_self t n)) in omega arith)
  climb_up (suc f) n c i le h e s o l = by (xparent t n) refl (λ m d le h e s o l. climb_up f m d i le h e s o l) where
    stays : Stays t p g n
    stays = s n e (ancestor_self t n)

    by : (b : Option ℕ) → xparent t n ≡ b → ((m d : ℕ) → m ≤ f → m < length t → is_block t m ≡ true → AllStay t p g m → ((k : ℕ) → d ≤ k → In i (items_in t p k (Some m))) → d + m ≤ length t → In i (Order t p g)) → In i (Order t p g)
    by None q more = one_up n c None i h e stays q o (length t) (let z : 0 < n = stays_some t p g n stays in omega arith)
    by (Some m) q more =
        let z = xparent_is t g.tree.rooted m n h q in
        let less = z.less in
        more m (suc c) (omega arith) (omega arith) z.block (λ a k y. s a k (ancestor_trans t g.tree.rooted a m n h y z.over)) (one_up n c (Some m) i h e stays q o) (omega arith)

  start_up : (x : ℕ) (i : OrderItem) → x < length t → 0 < x → AllStay t p g x → ((k : ℕ) → 1 ≤ k → In i (items_in t p k (xparent t x))) → In i (Order t p g)
  start_up x i h some s o = by (xparent t x) refl o where
    by : (b : Option ℕ) → xparent t x ≡ b → ((k : ℕ) → 1 ≤ k → In i (items_in t p k b)) → In i (Order t p g)
    by None q o = o (length t) (omega arith)
    by (Some m) q o =
        let z = xparent_is t g.tree.rooted m x h q in
        let less = z.less in
        climb_up m m 1 i (omega arith) (omega arith) z.block (λ a k y. s a k (ancestor_trans t g.tree.rooted a m x h y z.over)) o (omega arith)

  here : (x : ℕ) (i : OrderItem) → Entry t p g (xparent t x) x → ((k : ℕ) → In i (Segment t p g k x)) → (is_pending t x ≡ true → i ≡ Begins x) → (k : ℕ) → 1 ≤ k → In i (items_in t p k (xparent t x))
  here x i e f w zero h = absurd (omega arith)
  here x i e f w (suc k) h = to_level k (xparent t x) x i e (f k) (λ q. inl (w q))

  from_here : (x : ℕ) (i : OrderItem) → x < length t → Stays t p g x → AllStay t p g x → ((k : ℕ) → In i (Segment t p g k x)) → (is_pending t x ≡ true → i ≡ Begins x) → In i (Order t p g)
  from_here x i h k s f w = start_up x i h (stays_some t p g x k) s (here x i (entry_of x (xparent t x) h k refl) f w)

  pub stands : (i : OrderItem) → node_of i < length t → IsOfNode t i → AllStay t p g (node_of i) → In i (Order t p g)
  stands (Begins x) h o s = from_here x (Begins x) h (s x o (ancestor_self t x)) s (λ k. let P : Bool → Type 0 = λ b. In (Begins x) (as_items b x (items_in t p k (Some x))) in subst P (sym o) (inl refl)) (λ q. refl)
  stands (Does x) h o s =
      let z = act_sort t x o in
      from_here x (Does x) h (inl o) s (λ k. let P : Bool → Type 0 = λ b. In (Does x) (as_items b x (items_in t p k (Some x))) in subst P (sym z.block) (inl refl)) (λ q. absurd (cc (q, z.pending)))
  stands (Ends x) h o s =
      let z = committed_sort t x o in
      from_here x (Ends x) h (inr (inl o)) s
      (λ k. let P : Bool → Type 0 = λ b. In (Ends x) (as_items b x (items_in t p k (Some x))) in subst P (sym z.block) (inr (in_right (Ends x) (items_in t p k (Some x)) (Ends x ∷ []) (inl refl)))) (λ q. absurd (cc (q, z.pending)))
