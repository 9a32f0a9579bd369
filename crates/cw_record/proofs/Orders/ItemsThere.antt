-- All items of a run are of nodes of its tree.
use Rattle.std.proofs.Common.{◌≡◌, ℕ, zero, suc, ◌<◌, List, [], ◌∷◌, ◌++◌, length, refl, Bool, true, false, Option, Some, None}
use Rattle.std.specs.Prelude.{◌&&◌, All}
use Rattle.std.specs.List.{flat_map}
use Rattle.std.proofs.lemmas.Bool.{and_parts}
use Rattle.std.proofs.lemmas.List.Elements.{All-nil, All-cons, All-append, All-push, All-head, All-tail, All-filter}
use Rattle.cw_tree.specs.declared.node.Node.{Node}
use Rattle.cw_tree.specs.Nodes.{is_block, is_block_kind, is_pending, is_pending_state, all_nodes}
use Rattle.cw_tree.specs.Walks.{path}
use Rattle.cw_tree.specs.Accesses.{by_key}
use Rattle.cw_record.specs.declared.items.OrderItem.{OrderItem}
use Rattle.cw_record.specs.declared.items.OrderItem.TheVariants.{Begins, Does, Ends}
use Rattle.cw_record.specs.Order.{node_of}
use Rattle.cw_record.specs.Items.{is_right_in, key, members, open_member, as_items, last_open, items_in}
use Rattle.cw_record.proofs.Lists.{find_passes}
use Rattle.cw_tree.proofs.Walks.There.{node_there}
use Rattle.cw_tree.proofs.Sorts.{all_by_key}
use Rattle.cw_record.proofs.Orders.There.{all_below}

module _ (t : List Node) where
  abbrev pub OfTree : OrderItem → Type 0
  OfTree i = node_of i < length t

  as_items_there : (b : Bool) (n : ℕ) (inner : List OrderItem) → n < length t → All OfTree inner → All OfTree (as_items b n inner)
  as_items_there true n inner h inside = All-cons OfTree (Begins n) (inner ++ Ends n ∷ []) h (All-push OfTree inner (Ends n) inside h)
  as_items_there false n inner h inside = All-cons OfTree (Does n) [] h (All-nil OfTree)

  flat_there : (ns : List ℕ) (inner : ℕ → List OrderItem) → All (λ n. n < length t) ns → ((n : ℕ) → All OfTree (inner n)) → All OfTree (flat_map (λ n. as_items (is_block t n) n (inner n)) ns)
  flat_there [] inner h inside = All-nil OfTree
  flat_there (n ∷ ns) inner h inside =
      All-append OfTree (as_items (is_block t n) n (inner n)) (flat_map (λ m. as_items (is_block t m) m (inner m)) ns) (as_items_there (is_block t n) n (inner n) (All-head (λ m. m < length t) n ns h) (inside n))
      (flat_there ns inner (All-tail (λ m. m < length t) n ns h) inside)

  members_there : (b : Option ℕ) → All (λ n. n < length t) (by_key (key t) (members t b))
  members_there b = all_by_key (key t) (λ n. n < length t) (members t b) (All-filter _ (λ n. n < length t) (all_nodes t) (all_below (length t)))

  -- an open member is pending, and so a node of the tree
  open_there : (p : ℕ) (b o : Option ℕ) (inner : List OrderItem) → open_member t p b ≡ o → All OfTree inner → All OfTree (last_open o inner)
  open_there p b None inner e inside = All-nil OfTree
  open_there p b (Some n) inner e inside =
      let passed = and_parts (is_pending t n) (is_right_in t b n) (find_passes (λ m. is_pending t m && is_right_in t b m) (path t p) n e) in
      All-cons OfTree (Begins n) inner (node_there (λ x. is_block_kind x.kind && is_pending_state x.state) t n passed.0) inside

  pub items_there : (p k : ℕ) (b : Option ℕ) → All OfTree (items_in t p k b)
  items_there p zero b = All-nil OfTree
  items_there p (suc k) b =
      let o = open_member t p b in
      All-append OfTree (flat_map (λ n. as_items (is_block t n) n (items_in t p k (Some n))) (by_key (key t) (members t b))) (last_open o (items_in t p k o))
      (flat_there (by_key (key t) (members t b)) (λ n. items_in t p k (Some n)) (members_there b) (λ n. items_there p k (Some n)))
      (open_there p b o (items_in t p k o) refl (items_there p k o))
