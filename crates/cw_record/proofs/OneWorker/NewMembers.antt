-- The members of each level, and the open ones, where a tree has one node more; and where its place goes up.
use Rattle.std.proofs.Common.{◌≡◌, ℕ, ◌<◌, ◌≤◌, List, [], ◌∷◌, ◌++◌, length, refl, ap, sym, ◌∙◌, arith, Bool, true, false, cond, Option, Some}
use Rattle.std.specs.Prelude.{◌&&◌, ◌||◌}
use Rattle.std.specs.List.{find, filter}
use Rattle.std.proofs.lemmas.Bool.{false_from_ne_true, and_from, and_left}
use Rattle.std.proofs.lemmas.List.{append-nil}
use Rattle.std.proofs.lemmas.List.Elements.{filter-append}
use Rattle.cw_tree.specs.declared.node.Node.{Node}
use Rattle.cw_tree.specs.declared.node.Kind.{Kind}
use Rattle.cw_tree.specs.Nodes.{parent_of, stamp_of, end_of, is_block, is_pending, is_committed, is_block_kind, is_pending_state, is_committed_state, all_nodes, fresh_node}
use Rattle.cw_tree.specs.Walks.{IsRooted, path, xparent}
use Rattle.cw_tree.specs.Accesses.{by_key}
use Rattle.cw_tree.proofs.Walks.Climbs.{path_step}
use Rattle.cw_tree.proofs.Members.{in_below, filter_same}
use Rattle.cw_tree.proofs.NextNodes.Kept.{find_path_kept}
use Rattle.cw_tree.proofs.NextNodes.Growing.{keeps_grown, node_grown, number_grown, xparent_grown, path_grown, all_nodes_more, node_new, number_new, path_new, find_above_new}
use Rattle.cw_record.specs.Items.{is_act, is_act_kind, same_block, is_right_in, key, members, open_member, items_in}
use Rattle.cw_record.specs.Drawn.{added}
use Rattle.cw_record.proofs.Members.{new_member, act_no_block}
use Rattle.cw_tree.proofs.InOrder.Keys.{by_key_same, by_key_last}
use Rattle.cw_tree.proofs.NodeKinds.{pending_block, new_open}
use Rattle.cw_record.proofs.Orders.Homes.{home, same_block_self}
use Rattle.cw_record.proofs.Orders.Alike.{sorted, member_is, items_alike}

module _ (t : List Node) (r : IsRooted t) (f : ℕ) (there : f < length t) (kind : Kind) (stamp : ℕ) where
  abbrev n : ℕ
  n = length t

  abbrev x : Node
  x = fresh_node f kind stamp

  abbrev u : List Node
  u = added t f kind stamp

  right_old : (b : Option ℕ) (m : ℕ) → m < n → is_right_in u b m ≡ is_right_in t b m
  right_old b m h = ap (λ o. same_block o b) (xparent_grown t (x ∷ []) r m h)

  -- the new node is right in the innermost block at its parent
  pub around_new : xparent u n ≡ home t f
  around_new = find_above_new t x r there (is_block u) (is_block t) (node_grown t (x ∷ []) (λ y. is_block_kind y.kind))

  abbrev member_test : List Node → Option ℕ → ℕ → Bool
  member_test v b m = (is_act v m || is_committed v m) && is_right_in v b m

  member_old : (b : Option ℕ) (m : ℕ) → m < n → member_test u b m ≡ member_test t b m
  member_old b m h =
      ap (λ c. (c || is_committed u m) && is_right_in u b m) (node_grown t (x ∷ []) (λ y. is_act_kind y.kind) m h)
      ∙ ap (λ c. (is_act t m || c) && is_right_in u b m) (node_grown t (x ∷ []) (λ y. is_block_kind y.kind && is_committed_state y.state) m h)
      ∙ ap (λ c. (is_act t m || is_committed t m) && c) (right_old b m h)

  member_new : (b : Option ℕ) → member_test u b n ≡ (is_act_kind kind && same_block (home t f) b)
  member_new b =
      ap (λ c. (c || is_committed u n) && is_right_in u b n) (node_new t x (λ y. is_act_kind y.kind))
      ∙ ap (λ c. (is_act_kind kind || c) && is_right_in u b n) (node_new t x (λ y. is_block_kind y.kind && is_committed_state y.state))
      ∙ ap (λ c. c && is_right_in u b n) (new_member kind)
      ∙ ap (λ o. is_act_kind kind && same_block o b) around_new

  members_added : (b : Option ℕ) → members u b ≡ members t b ++ cond (is_act_kind kind && same_block (home t f) b) (n ∷ []) []
  members_added b =
      ap (filter (member_test u b)) (all_nodes_more t x)
      ∙ filter-append (member_test u b) (all_nodes t) (n ∷ [])
      ∙ ap (λ ms. ms ++ cond (member_test u b n) (n ∷ []) []) (filter_same (member_test u b) (member_test t b) (all_nodes t) (λ m i. member_old b m (in_below m n i)))
      ∙ ap (λ c. members t b ++ cond c (n ∷ []) []) (member_new b)

  key_old : (m : ℕ) → m < n → key u m ≡ key t m
  key_old m h =
      ap (λ c. cond c (end_of u m) (stamp_of u m)) (node_grown t (x ∷ []) (λ y. is_block_kind y.kind) m h)
      ∙ ap (λ e. cond (is_block t m) e (stamp_of u m)) (number_grown t (x ∷ []) (λ y. y.end) m h)
      ∙ ap (λ e. cond (is_block t m) (end_of t m) e) (number_grown t (x ∷ []) (λ y. y.stamp) m h)

  by_key_old : (b : Option ℕ) → by_key (key u) (members t b) ≡ sorted t b
  by_key_old b = by_key_same (key u) (key t) (members t b) (λ m i. key_old m (member_is t b m i).there)

  -- a level that the new node is no member of has the members that it had
  pub sorted_old : (b : Option ℕ) → (is_act_kind kind && same_block (home t f) b) ≡ false → sorted u b ≡ sorted t b
  sorted_old b e = ap (by_key (key u)) (members_added b ∙ ap (λ c. members t b ++ cond c (n ∷ []) []) e ∙ append-nil (members t b)) ∙ by_key_old b

  -- and the new node comes last in its own level, where no key is above its stamp
  pub sorted_new : is_act_kind kind ≡ true → ((m : ℕ) → key t m ≤ stamp) → sorted u (home t f) ≡ sorted t (home t f) ++ n ∷ []
  sorted_new e low =
      let h = home t f in
      let own : key u n ≡ stamp =
      ap (λ c. cond c (end_of u n) (stamp_of u n)) (node_new t x (λ y. is_block_kind y.kind) ∙ act_no_block kind e) ∙ number_new t x (λ y. y.stamp) in
      ap (by_key (key u)) (members_added h ∙ ap (λ c. members t h ++ cond c (n ∷ []) []) (and_from (is_act_kind kind) (same_block h h) e (same_block_self h)))
      ∙ by_key_last (key u) n (members t h) (λ m i. let l = low m in omega (arith, own, key_old m (member_is t h m i).there))
      ∙ ap (λ ms. ms ++ n ∷ []) (by_key_old h)

  abbrev open_test : List Node → Option ℕ → ℕ → Bool
  open_test v b m = is_pending v m && is_right_in v b m

  open_test_old : (b : Option ℕ) (m : ℕ) → m < n → open_test u b m ≡ open_test t b m
  open_test_old b m h =
      ap (λ c. c && is_right_in u b m) (node_grown t (x ∷ []) (λ y. is_block_kind y.kind && is_pending_state y.state) m h)
      ∙ ap (λ c. is_pending t m && c) (right_old b m h)

  -- an old place has the open members that it had
  pub open_old : (q : ℕ) → q < n → (b : Option ℕ) → open_member u q b ≡ open_member t q b
  open_old q h b = find_path_kept t u (keeps_grown t (x ∷ []) r) (open_test u b) (open_test t b) (open_test_old b) q h

  -- and at the new node those of its parent, and itself where it is a block
  pub open_new : (b : Option ℕ) → open_member u n b ≡ cond (is_block_kind kind && same_block (home t f) b) (Some n) (open_member t f b)
  open_new b =
      ap (find (open_test u b)) (path_new t x r there)
      ∙ ap (λ c. cond (c && is_right_in u b n) (Some n) (find (open_test u b) (path t f))) (node_new t x (λ y. is_block_kind y.kind && is_pending_state y.state) ∙ new_open kind)
      ∙ ap (λ o. cond (is_block_kind kind && same_block o b) (Some n) (find (open_test u b) (path t f))) around_new
      ∙ ap (λ ns. cond (is_block_kind kind && same_block (home t f) b) (Some n) (find (open_test u b) ns)) (sym (path_grown t (x ∷ []) r f there))
      ∙ ap (cond (is_block_kind kind && same_block (home t f) b) (Some n)) (open_old f there b)

  pub blocks_old : (m : ℕ) → m < n → is_block u m ≡ is_block t m
  blocks_old = node_grown t (x ∷ []) (λ y. is_block_kind y.kind)

  -- a node that is no member changes nothing at a place that was there
  pub items_stay : is_act_kind kind ≡ false → (q : ℕ) → q < n → (k : ℕ) (b : Option ℕ) → items_in u q k b ≡ items_in t q k b
  items_stay e q h k b =
      items_alike t q u q (λ o. Unit {0}) (record {
        members = λ o z. sorted_old o (and_left (is_act_kind kind) (same_block (home t f) o) e);
        opens = λ o z. open_old q h o;
        blocks = blocks_old;
        inner = λ o z m i g. tt;
        inner_open = λ o z m g. tt;
      }) k b tt

  -- nor where the place goes to it, where it is no block
  pub items_down : is_act_kind kind ≡ false → is_block_kind kind ≡ false → (k : ℕ) (b : Option ℕ) → items_in u n k b ≡ items_in t f k b
  items_down e g k b =
      items_alike t f u n (λ o. Unit {0}) (record {
        members = λ o z. sorted_old o (and_left (is_act_kind kind) (same_block (home t f) o) e);
        opens = λ o z. open_new o ∙ ap (λ c. cond c (Some n) (open_member t f o)) (and_left (is_block_kind kind) (same_block (home t f) o) g);
        blocks = blocks_old;
        inner = λ o z m i j. tt;
        inner_open = λ o z m j. tt;
      }) k b tt

-- the place goes up from a node that is no block
pub items_up : (t : List Node) → IsRooted t → (p : ℕ) → 0 < p → p < length t → is_block t p ≡ false → (k : ℕ) (b : Option ℕ) → items_in t (parent_of t p) k b ≡ items_in t p k b
items_up t r p some there e k b =
    items_alike t p t (parent_of t p) (λ o. Unit {0}) (record {
      members = λ o z. refl;
      opens = λ o z. sym (open_up o);
      blocks = λ n h. refl;
      inner = λ o z m i g. tt;
      inner_open = λ o z m g. tt;
    }) k b tt where
      no_pending : is_pending t p ≡ false
      no_pending = false_from_ne_true (is_pending t p) (λ f. let g = pending_block t p f in absurd (cc (e, g)))

      open_up : (o : Option ℕ) → open_member t p o ≡ open_member t (parent_of t p) o
      open_up o =
          ap (find (λ m. is_pending t m && is_right_in t o m)) (path_step t r p some there)
          ∙ ap (λ c. cond c (Some p) (open_member t (parent_of t p) o)) (and_left (is_pending t p) (is_right_in t o p) no_pending)
