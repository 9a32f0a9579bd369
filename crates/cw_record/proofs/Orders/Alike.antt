-- Where the items at a place are those at another, also of another tree; and more levels than there are nodes change nothing.
use Rattle.std.proofs.Common.{◌≡◌, ℕ, zero, suc, ◌+◌, ◌<◌, ◌≤◌, List, [], ◌∷◌, ◌++◌, length, refl, ap, ◌∙◌, arith, Bool, true, false, Option, Some, None, inl, inr}
use Rattle.std.specs.Prelude.{◌&&◌, ◌||◌}
use Rattle.std.specs.List.{flat_map}
use Rattle.std.proofs.lemmas.Bool.{and_parts}
use Rattle.cw_tree.specs.declared.node.Node.{Node}
use Rattle.cw_tree.specs.Nodes.{is_block, is_committed, all_nodes}
use Rattle.cw_tree.specs.Walks.{IsRooted, xparent}
use Rattle.cw_tree.specs.Accesses.{by_key}
use Rattle.cw_tree.proofs.Lists.{In}
use Rattle.cw_tree.proofs.Walks.Ancestors.{ancestor_le}
use Rattle.cw_tree.proofs.Members.{in_below, in_filter}
use Rattle.cw_record.specs.declared.items.OrderItem.{OrderItem}
use Rattle.cw_record.specs.Items.{is_act, is_right_in, key, members, open_member, as_items, last_open, items_in}
use Rattle.cw_tree.proofs.InOrder.Keys.{by_key_in}
use Rattle.cw_tree.proofs.NodeKinds.{pending_block}
use Rattle.cw_record.proofs.Orders.Homes.{same_block_true, number, xparent_is, open_is}

-- the members of a block, or of the root, as they stand in the order
abbrev pub sorted : List Node → Option ℕ → List ℕ
sorted t b = by_key (key t) (members t b)

pub record IsMember (t : List Node) (b : Option ℕ) (n : ℕ) : Type 0 where
  pub there : n < length t
  pub kind : (is_act t n || is_committed t n) ≡ true
  pub around : xparent t n ≡ b

pub member_is : (t : List Node) (b : Option ℕ) (n : ℕ) → In n (members t b) → IsMember t b n
member_is t b n h =
    let z = in_filter (λ m. (is_act t m || is_committed t m) && is_right_in t b m) n (all_nodes t) h in
    let y = and_parts (is_act t n || is_committed t n) (is_right_in t b n) z.1 in
    record { there = in_below n (length t) z.0; kind = y.0; around = same_block_true (xparent t n) b y.1 }

pub sorted_is : (t : List Node) (b : Option ℕ) (n : ℕ) → In n (sorted t b) → IsMember t b n
sorted_is t b n h = member_is t b n (by_key_in (key t) n (members t b) h)

pub flat_same : (f g : ℕ → List OrderItem) (ns : List ℕ) → ((n : ℕ) → In n ns → f n ≡ g n) → flat_map f ns ≡ flat_map g ns
flat_same f g [] h = refl
flat_same f g (n ∷ ns) h = ap (λ xs. xs ++ flat_map f ns) (h n (inl refl)) ∙ ap (λ xs. g n ++ xs) (flat_same f g ns (λ m i. h m (inr i)))

pub as_items_same : (b : Bool) (n : ℕ) (xs ys : List OrderItem) → (b ≡ true → xs ≡ ys) → as_items b n xs ≡ as_items b n ys
as_items_same true n xs ys h = ap (as_items true n) (h refl)
as_items_same false n xs ys h = refl

pub last_open_same : (o : Option ℕ) (f g : Option ℕ → List OrderItem) → ((n : ℕ) → o ≡ Some n → f (Some n) ≡ g (Some n)) → last_open o (f o) ≡ last_open o (g o)
last_open_same None f g h = refl
last_open_same (Some n) f g h = ap (last_open (Some n)) (h n refl)

-- ## The same levels

-- Tree u with place q has the members and open members of tree t with place p at these levels, and levels in these are among them.
pub record AreAlike (t : List Node) (p : ℕ) (u : List Node) (q : ℕ) (at : Option ℕ → Type 0) : Type 0 where
  pub members : (b : Option ℕ) → at b → sorted u b ≡ sorted t b
  pub opens : (b : Option ℕ) → at b → open_member u q b ≡ open_member t p b
  pub blocks : (n : ℕ) → n < length t → is_block u n ≡ is_block t n
  pub inner : (b : Option ℕ) → at b → (n : ℕ) → IsMember t b n → is_block t n ≡ true → at (Some n)
  pub inner_open : (b : Option ℕ) → at b → (n : ℕ) → open_member t p b ≡ Some n → at (Some n)

module _ (t : List Node) (p : ℕ) (u : List Node) (q : ℕ) where
  -- members with the same items in them
  pub members_alike : ((n : ℕ) → n < length t → is_block u n ≡ is_block t n) → (k : ℕ) (b : Option ℕ) → ((n : ℕ) → IsMember t b n → is_block t n ≡ true → items_in u q k (Some n) ≡ items_in t p k (Some n))
      → flat_map (λ n. as_items (is_block u n) n (items_in u q k (Some n))) (sorted t b) ≡ flat_map (λ n. as_items (is_block t n) n (items_in t p k (Some n))) (sorted t b)
  members_alike blocks k b h =
      flat_same (λ n. as_items (is_block u n) n (items_in u q k (Some n))) (λ n. as_items (is_block t n) n (items_in t p k (Some n))) (sorted t b) (λ n i.
      let m = sorted_is t b n i in
      ap (λ c. as_items c n (items_in u q k (Some n))) (blocks n m.there)
      ∙ as_items_same (is_block t n) n (items_in u q k (Some n)) (items_in t p k (Some n)) (h n m))

  pub items_alike : (at : Option ℕ → Type 0) → AreAlike t p u q at → (k : ℕ) (b : Option ℕ) → at b → items_in u q k b ≡ items_in t p k b
  items_alike at a zero b h = refl
  items_alike at a (suc k) b h =
      let f : ℕ → List OrderItem = λ n. as_items (is_block u n) n (items_in u q k (Some n)) in
      let g : ℕ → List OrderItem = λ n. as_items (is_block t n) n (items_in t p k (Some n)) in
      ap (λ ns. flat_map f ns ++ last_open (open_member u q b) (items_in u q k (open_member u q b))) (a.members b h)
      ∙ ap (λ o. flat_map f (sorted t b) ++ last_open o (items_in u q k o)) (a.opens b h)
      ∙ ap (λ xs. xs ++ last_open (open_member t p b) (items_in u q k (open_member t p b))) (members_alike a.blocks k b (λ n m e. items_alike at a k (Some n) (a.inner b h n m e)))
      ∙ ap (λ xs. flat_map g (sorted t b) ++ xs) (last_open_same (open_member t p b) (items_in u q k) (items_in t p k) (λ n e. items_alike at a k (Some n) (a.inner_open b h n e)))

-- ## Levels enough

module _ (t : List Node) (r : IsRooted t) (root : is_block t 0 ≡ false) (p : ℕ) (there : p < length t) where
  -- a block has a greater number than the block around it
  deeper : (b : Option ℕ) (n : ℕ) → n < length t → is_block t n ≡ true → xparent t n ≡ b → number b < n
  deeper None zero h e f = absurd (cc (root, e))
  deeper None (suc n) h e f = omega arith
  deeper (Some m) n h e f = (xparent_is t r m n h f).less

  pub levels_more : (k : ℕ) (b : Option ℕ) → number b < length t → length t ≤ k + number b → items_in t p (suc k) b ≡ items_in t p k b
  levels_more zero b h le = absurd (omega arith)
  levels_more (suc k) b h le =
      let f : ℕ → List OrderItem = λ n. as_items (is_block t n) n (items_in t p (suc k) (Some n)) in
      let g : ℕ → List OrderItem = λ n. as_items (is_block t n) n (items_in t p k (Some n)) in
      ap (λ xs. xs ++ last_open (open_member t p b) (items_in t p (suc k) (open_member t p b)))
      (flat_same f g (sorted t b) (λ n i.
      let m = sorted_is t b n i in
      as_items_same (is_block t n) n (items_in t p (suc k) (Some n)) (items_in t p k (Some n)) (λ e.
      let low = m.there in
      let deep : number b < n = deeper b n low e m.around in
      levels_more k (Some n) low (omega arith))))
      ∙ ap (λ xs. flat_map g (sorted t b) ++ xs) (last_open_same (open_member t p b) (items_in t p (suc k)) (items_in t p k) (λ n e.
      let o = open_is t r p b n e in
      let low : n ≤ p = ancestor_le t r n p there o.over in
      let deep : number b < n = deeper b n (omega arith) (pending_block t n o.pending) o.around in
      levels_more k (Some n) (omega arith) (omega arith)))
