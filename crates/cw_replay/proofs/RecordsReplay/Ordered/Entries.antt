-- What stands in the order of a record, and where in the tree.
use Rattle.std.proofs.Common.{◌≡◌, ℕ, zero, suc, ◌<◌, ◌≤◌, List, [], ◌∷◌, length, refl, ap, sym, ◌∙◌, arith, Bool, true, false, Option, Some, None, inl, inr, subst}
use Rattle.std.specs.Prelude.{◌⊎◌, ◌&&◌, ◌||◌}
use Rattle.std.specs.List.{flat_map}
use Rattle.std.proofs.lemmas.Bool.{and_parts, or_cases, cases_eq}
use Rattle.cw_tree.specs.declared.node.Node.{Node}
use Rattle.cw_tree.specs.Nodes.{parent_of, is_strand, is_fork, is_block, is_pending, is_committed, all_nodes}
use Rattle.cw_tree.specs.Walks.{is_ancestor, xparent}
use Rattle.cw_tree.specs.Accesses.{by_key}
use Rattle.cw_tree.specs.Shape.{IsTree, AreStamps, PendingLast}
use Rattle.cw_tree.proofs.Walks.Ancestors.{ancestor_self, ancestor_step, ancestor_le, ancestor_root, ancestor_trans}
use Rattle.cw_tree.proofs.Walks.Climbs.{by_parent}
use Rattle.cw_tree.proofs.NodeKinds.{other_some}
use Rattle.cw_tree.proofs.Members.{in_filter, in_below, in_append, in_flat}
use Rattle.cw_tree.proofs.Lists.{In}
use Rattle.cw_tree.proofs.InOrder.Keys.{by_key_in}
use Rattle.cw_record.specs.declared.items.OrderItem.{OrderItem}
use Rattle.cw_record.specs.declared.items.OrderItem.TheVariants.{Begins, Does, Ends}
use Rattle.cw_record.specs.Items.{is_act, is_right_in, key, members, open_member, as_items, last_open, items_in}
use Rattle.cw_record.specs.Order.{node_of}
use Rattle.cw_record.proofs.Orders.Homes.{same_block_true, xparent_is, xparent_over, open_is}
use Rattle.cw_replay.proofs.RecordsReplay.Tasks.Sorts.{act_sort, committed_sort, pending_sort}
use Rattle.cw_replay.proofs.Kin.{either_over}

-- a tree of a run, and the place of its end
pub record Laid (t : List Node) (p : ℕ) : Type 0 where
  pub tree : IsTree t
  pub stamps : AreStamps t
  pub pending_last : PendingLast t
  pub there : p < length t

-- the node of an item is what the item says
abbrev pub IsOfNode : List Node → OrderItem → Type 0
IsOfNode t (Begins n) = is_block t n ≡ true
IsOfNode t (Does n) = is_act t n ≡ true
IsOfNode t (Ends n) = is_committed t n ≡ true

module _ (t : List Node) (p : ℕ) (g : Laid t p) where
  -- ## Entries of a level

  -- what may stand right in a block: an act, a committed block, or the pending block on the way to the end
  abbrev pub Stays : ℕ → Type 0
  Stays m = (is_act t m ≡ true) ⊎ ((is_committed t m ≡ true) ⊎ ((is_pending t m ≡ true) × (is_ancestor t m p ≡ true)))

  pub record Entry (b : Option ℕ) (m : ℕ) : Type 0 where
    pub there : m < length t
    pub some : 0 < m
    pub up : xparent t m ≡ b
    pub stays : Stays m

  pub stays_plain : (m : ℕ) → Stays m → is_strand t m ≡ false
  stays_plain m (inl e) = (act_sort t m e).strand
  stays_plain m (inr (inl e)) = (committed_sort t m e).strand
  stays_plain m (inr (inr e)) = (pending_sort t m e.0).strand

  pub stays_some : (m : ℕ) → Stays m → 0 < m
  stays_some m h = other_some t g.tree.root m (stays_plain m h)

  -- an act or a committed block among the members
  pub member_kind : (b : Option ℕ) (m : ℕ) → In m (by_key (key t) (members t b)) → (is_act t m ≡ true) ⊎ (is_committed t m ≡ true)
  member_kind b m h =
      let z = in_filter (λ n. (is_act t n || is_committed t n) && is_right_in t b n) m (all_nodes t) (by_key_in (key t) m (members t b) h) in
      or_cases (is_act t m) (is_committed t m) (and_parts (is_act t m || is_committed t m) (is_right_in t b m) z.1).0

  pub member_entry : (b : Option ℕ) (m : ℕ) → In m (by_key (key t) (members t b)) → Entry b m
  member_entry b m h =
      let z = in_filter (λ n. (is_act t n || is_committed t n) && is_right_in t b n) m (all_nodes t) (by_key_in (key t) m (members t b) h) in
      let y = and_parts (is_act t m || is_committed t m) (is_right_in t b m) z.1 in
      let k : Stays m = elim (or_cases (is_act t m) (is_committed t m) y.0) [ inl e ↦ inl e | inr e ↦ inr (inl e) ] in
      record { there = in_below m (length t) z.0; some = stays_some m k; up = same_block_true (xparent t m) b y.1; stays = k }

  -- the pending block that comes last
  pub record OpenEntry (b : Option ℕ) (m : ℕ) : Type 0 where
    pub entry : Entry b m
    pub pending : is_pending t m ≡ true
    pub over : is_ancestor t m p ≡ true

  pub open_entry : (b : Option ℕ) (m : ℕ) → open_member t p b ≡ Some m → OpenEntry b m
  open_entry b m e =
      let o = open_is t g.tree.rooted p b m e in
      let k : Stays m = inr (inr (o.pending, o.over)) in
      let le : m ≤ p = ancestor_le t g.tree.rooted m p g.there o.over in
      let low = g.there in
      record { entry = record { there = omega arith; some = stays_some m k; up = o.around; stays = k }; pending = o.pending; over = o.over }

  -- a block over an entry and not the entry itself is over the block of its level
  pub outside : (b : Option ℕ) (m a : ℕ) → Entry b m → is_block t a ≡ true → is_ancestor t a m ≡ true → (a ≡ m → ⊥) → (n : ℕ) × (b ≡ Some n) × (is_ancestor t a n ≡ true)
  outside b m a e k f ne = let z = xparent_over t g.tree.rooted a k m e.there (λ q. ne (sym q)) f in (z.block, sym e.up ∙ z.is, z.over)

  -- the block of a level is over its entries, and smaller
  pub level_over : (n m : ℕ) → Entry (Some n) m → (is_block t n ≡ true) × (is_ancestor t n m ≡ true) × (n < m)
  level_over n m e = let z = xparent_is t g.tree.rooted n m e.there e.up in (z.block, z.over, z.less)

  -- nothing stands in an act
  pub leaf_over : (m x : ℕ) → is_act t m ≡ true → x < length t → is_ancestor t m x ≡ true → x ≡ m
  leaf_over m x d h =
      by_parent t g.tree.rooted (λ x. is_ancestor t m x ≡ true → x ≡ m)
      (λ f. sym (ancestor_root t m f))
      (λ y q low more f. elim (cases_eq y m) [
        | inl e ↦ e
        | inr ne ↦ absurd (
            let same : parent_of t y ≡ m = more (sym (ancestor_step t g.tree.rooted m y q low ne) ∙ f) in
            let k = act_sort t m d in
            let o : (is_strand t m || is_fork t m || is_block t m) ≡ true = ap (λ z. is_strand t z || is_fork t z || is_block t z) (sym same) ∙ g.tree.parents y low q in
            cc (o, k.strand, k.fork, k.block))
      ])
      x h

  -- no entry of a level is over another
  entries_apart : (b : Option ℕ) (m n : ℕ) → Entry b m → Entry b n → is_ancestor t m n ≡ true → m ≡ n
  entries_apart b m n e f o = elim (cases_eq m n) [ inl q ↦ q | inr ne ↦ by ne e.stays ] where
    block : is_block t m ≡ true → (m ≡ n → ⊥) → ⊥
    block k ne =
        let z = outside b n m f k o ne in
        let P : Option ℕ → Type 0 = λ o. Entry o m in
        let y = level_over z.0 m (subst P z.1 e) in
        let le : m ≤ z.0 = ancestor_le t g.tree.rooted m z.0 (let hm : m < length t = e.there in omega (arith, y.2)) z.2 in
        omega (arith, y.2)

    by : (m ≡ n → ⊥) → Stays m → m ≡ n
    by ne (inl d) = sym (leaf_over m n d f.there o)
    by ne (inr (inl k)) = absurd (block (committed_sort t m k).block ne)
    by ne (inr (inr k)) = absurd (block (pending_sort t m k.0).block ne)

  -- no two entries of a level are over one node
  pub one_entry : (b : Option ℕ) (m n x : ℕ) → Entry b m → Entry b n → x < length t → is_ancestor t m x ≡ true → is_ancestor t n x ≡ true → m ≡ n
  one_entry b m n x e f h o q = elim (either_over t g.tree.rooted m n x h o q) [ inl y ↦ entries_apart b m n e f y | inr y ↦ sym (entries_apart b n m f e y) ]

  -- ## Items of a level

  abbrev pub Segment : ℕ → ℕ → List OrderItem
  Segment k n = as_items (is_block t n) n (items_in t p k (Some n))

  -- where in an entry an item stands
  pub data Spot (k m : ℕ) (i : OrderItem) : Type 0 where
    act : i ≡ Does m → is_block t m ≡ false → Spot k m i
    begin : i ≡ Begins m → is_block t m ≡ true → Spot k m i
    inner : In i (items_in t p k (Some m)) → is_block t m ≡ true → Spot k m i
    end : i ≡ Ends m → is_block t m ≡ true → Spot k m i

  pub segment_spot : (k m : ℕ) (i : OrderItem) → In i (Segment k m) → Spot k m i
  segment_spot k m i h = by (is_block t m) refl h where
    by : (b : Bool) → is_block t m ≡ b → In i (as_items b m (items_in t p k (Some m))) → Spot k m i
    by false e (inl q) = act q e
    by false e (inr x) = absurd x
    by true e (inl q) = begin q e
    by true e (inr x) = elim (in_append i (items_in t p k (Some m)) (Ends m ∷ []) x) [ inl y ↦ inner y e | inr y ↦ elim y [ inl q ↦ end q e | inr z ↦ absurd z ] ]

  -- an item of a level: among the members, or in the pending block that comes last
  pub data Inside (k : ℕ) (b : Option ℕ) (i : OrderItem) : Type 0 where
    of_member : (m : ℕ) → In m (by_key (key t) (members t b)) → In i (Segment k m) → Spot k m i → Inside k b i
    of_open : (m : ℕ) → open_member t p b ≡ Some m → (i ≡ Begins m) ⊎ In i (items_in t p k (Some m)) → Inside k b i

  pub inside : (k : ℕ) (b : Option ℕ) (i : OrderItem) → In i (items_in t p (suc k) b) → Inside k b i
  inside k b i h =
      elim (in_append i (flat_map (Segment k) (by_key (key t) (members t b))) (last_open (open_member t p b) (items_in t p k (open_member t p b))) h) [
        | inl x ↦ (let z = in_flat (Segment k) i (by_key (key t) (members t b)) x in of_member z.0 z.1 z.2 (segment_spot k z.0 i z.2))
        | inr x ↦ by (open_member t p b) refl x
      ] where
        by : (o : Option ℕ) → open_member t p b ≡ o → In i (last_open o (items_in t p k o)) → Inside k b i
        by None e y = absurd y
        by (Some m) e y = of_open m e y

  -- what is known of an item in the order
  pub record Placed (b : Option ℕ) (i : OrderItem) : Type 0 where
    pub entry : ℕ
    pub is_entry : Entry b entry
    pub over : is_ancestor t entry (node_of i) ≡ true
    pub there : node_of i < length t
    pub proper : IsOfNode t i
    pub stays : Stays (node_of i)

  at_entry : (b : Option ℕ) (m : ℕ) (i : OrderItem) → Entry b m → node_of i ≡ m → IsOfNode t i → Placed b i
  at_entry b m i e q f =
      let P : ℕ → Type 0 = λ x. is_ancestor t m x ≡ true in
      let Q : ℕ → Type 0 = λ x. x < length t in
      let R : ℕ → Type 0 = λ x. Stays x in
      record { entry = m; is_entry = e; over = subst P (sym q) (ancestor_self t m); there = subst Q (sym q) e.there; proper = f; stays = subst R (sym q) e.stays }

  deeper : (b : Option ℕ) (m : ℕ) (i : OrderItem) → Entry b m → Placed (Some m) i → Placed b i
  deeper b m i e z = record {
    entry = m;
    is_entry = e;
    over = ancestor_trans t g.tree.rooted m z.entry (node_of i) z.there (level_over m z.entry z.is_entry).1 z.over;
    there = z.there;
    proper = z.proper;
    stays = z.stays;
  }

  pub placed : (k : ℕ) (b : Option ℕ) (i : OrderItem) → In i (items_in t p k b) → Placed b i
  placed zero b i h = absurd h
  placed (suc k) b i h = by (λ m. placed k (Some m) i) (inside k b i h) where
    act_of : (m : ℕ) → (is_act t m ≡ true) ⊎ (is_committed t m ≡ true) → is_block t m ≡ false → is_act t m ≡ true
    act_of m (inl d) e = d
    act_of m (inr d) e = absurd (cc (e, (committed_sort t m d).block))

    ends_of : (m : ℕ) → (is_act t m ≡ true) ⊎ (is_committed t m ≡ true) → is_block t m ≡ true → is_committed t m ≡ true
    ends_of m (inl d) e = absurd (cc (e, (act_sort t m d).block))
    ends_of m (inr d) e = d

    by : ((m : ℕ) → In i (items_in t p k (Some m)) → Placed (Some m) i) → Inside k b i → Placed b i
    by more (of_member m h x (act q e)) = let P : OrderItem → Type 0 = λ x. IsOfNode t x in at_entry b m i (member_entry b m h) (ap node_of q) (subst P (sym q) (act_of m (member_kind b m h) e))
    by more (of_member m h x (begin q e)) = let P : OrderItem → Type 0 = λ x. IsOfNode t x in at_entry b m i (member_entry b m h) (ap node_of q) (subst P (sym q) e)
    by more (of_member m h x (inner y e)) = deeper b m i (member_entry b m h) (more m y)
    by more (of_member m h x (end q e)) = let P : OrderItem → Type 0 = λ x. IsOfNode t x in at_entry b m i (member_entry b m h) (ap node_of q) (subst P (sym q) (ends_of m (member_kind b m h) e))
    by more (of_open m q (inl y)) = let e = open_entry b m q in let P : OrderItem → Type 0 = λ x. IsOfNode t x in at_entry b m i e.entry (ap node_of y) (subst P (sym y) (pending_sort t m e.pending).block)
    by more (of_open m q (inr y)) = deeper b m i (open_entry b m q).entry (more m y)

  -- all blocks around an item within its level stand in the order too
  abbrev Stands : Option ℕ → ℕ → Type 0
  Stands b a = Stays a ⊎ ((n : ℕ) × (b ≡ Some n) × (is_ancestor t a n ≡ true))

  included : (k : ℕ) (b : Option ℕ) (i : OrderItem) → In i (items_in t p k b) → (a : ℕ) → is_block t a ≡ true → is_ancestor t a (node_of i) ≡ true → Stands b a
  included zero b i h a ab f = absurd h
  included (suc k) b i h a ab f = by (λ m x. included k (Some m) i x a ab f) (inside k b i h) where
    at_level : (m : ℕ) → Entry b m → is_ancestor t a m ≡ true → Stands b a
    at_level m e x = elim (cases_eq a m) [
      | inl q ↦ inl (let R : ℕ → Type 0 = λ x. Stays x in subst R (sym q) e.stays)
      | inr ne ↦ inr (outside b m a e ab x ne)
    ]

    here : (m : ℕ) → Entry b m → node_of i ≡ m → Stands b a
    here m e q = let P : ℕ → Type 0 = λ x. is_ancestor t a x ≡ true in at_level m e (subst P q f)

    below : (m : ℕ) → Entry b m → Stands (Some m) a → Stands b a
    below m e (inl z) = inl z
    below m e (inr z) = let P : ℕ → Type 0 = λ x. is_ancestor t a x ≡ true in let same : z.0 ≡ m = (let q = z.1 in cc q) in at_level m e (subst P same z.2)

    by : ((m : ℕ) → In i (items_in t p k (Some m)) → Stands (Some m) a) → Inside k b i → Stands b a
    by more (of_member m h x (act q e)) = here m (member_entry b m h) (ap node_of q)
    by more (of_member m h x (begin q e)) = here m (member_entry b m h) (ap node_of q)
    by more (of_member m h x (inner y e)) = below m (member_entry b m h) (more m y)
    by more (of_member m h x (end q e)) = here m (member_entry b m h) (ap node_of q)
    by more (of_open m q (inl y)) = here m (open_entry b m q).entry (ap node_of y)
    by more (of_open m q (inr y)) = below m (open_entry b m q).entry (more m y)

  -- the order
  abbrev pub Order : List OrderItem
  Order = items_in t p (length t) None

  -- all blocks around a node stand in the order
  abbrev pub AllStay : ℕ → Type 0
  AllStay x = (a : ℕ) → is_block t a ≡ true → is_ancestor t a x ≡ true → Stays a

  pub all_stay : (j : OrderItem) → In j Order → AllStay (node_of j)
  all_stay j h a b f = elim (included (length t) None j h a b f) [ inl x ↦ x | inr z ↦ absurd (let q = z.1 in cc q) ]
