-- The members of each level, and the open ones, where the block at the place is committed and the place goes to its parent.
use Rattle.std.proofs.Common.{◌≡◌, ℕ, ◌<◌, ◌≤◌, List, [], ◌∷◌, ◌++◌, length, refl, ap, sym, ◌∙◌, arith, Bool, true, false, cond, Option, Some, None, inl, inr}
use Rattle.std.specs.Prelude.{◌&&◌, ◌||◌}
use Rattle.std.specs.List.{find, filter}
use Rattle.std.proofs.lemmas.Bool.{and_from, and_left, and_right, or_right, cases_eq}
use Rattle.cw_tree.specs.declared.node.Node.{Node}
use Rattle.cw_tree.specs.declared.node.BlockState.TheVariants.{Committed}
use Rattle.cw_tree.specs.Nodes.{parent_of, stamp_of, end_of, is_block, is_pending, is_committed, is_block_kind, is_pending_state, is_committed_state, below, closed}
use Rattle.cw_tree.specs.Walks.{path, xparent}
use Rattle.cw_tree.specs.Accesses.{by_key}
use Rattle.cw_tree.proofs.Walks.Climbs.{path_step}
use Rattle.cw_tree.proofs.Walks.Ancestors.{ancestor_self, ancestor_le}
use Rattle.cw_tree.proofs.Walks.Kin.{in_ancestor}
use Rattle.cw_tree.proofs.Members.{in_below, filter_same, below_none, below_last, find_same}
use Rattle.cw_tree.proofs.NextNodes.Closing.{all_nodes_closed, node_closed, node_closed_other, number_closed, number_closed_other, state_closed, end_closed, path_closed, xparent_closed}
use Rattle.cw_record.specs.Items.{is_act, is_act_kind, same_block, is_right_in, key, members, open_member}
use Rattle.cw_tree.proofs.InOrder.Keys.{by_key_same, by_key_last}
use Rattle.cw_record.proofs.Orders.Homes.{home, same_block_self, same_block_false, home_step, xparent_home, xparent_is, xparent_over, open_home, open_here}
use Rattle.cw_record.proofs.OneWorker.Moves.{IsGrowing}
use Rattle.cw_record.proofs.Orders.Alike.{sorted, IsMember, member_is}
use Rattle.cw_record.proofs.Members.{pending_no_member}
use Rattle.cw_record.proofs.OneWorker.Tails.{SameBut}

-- no key is above the clock
pub key_low : (t : List Node) (p c : ℕ) → IsGrowing t p c → (m : ℕ) → key t m ≤ c
key_low t p c g m =
    by (is_block t m) where
      by : (b : Bool) → cond b (end_of t m) (stamp_of t m) ≤ c
      by true = g.ends m
      by false = g.stamps m

module _ (t : List Node) (p c : ℕ) (g : IsGrowing t p c) (some : 0 < p) (block : is_block t p ≡ true) (stamp : ℕ) (later : c ≤ stamp) where
  abbrev v : List Node
  v = closed t p Committed stamp

  abbrev q : ℕ
  q = parent_of t p

  -- the block around it
  abbrev h : Option ℕ
  h = xparent t p

  pub open_block : is_pending t p ≡ true
  open_block = g.pending p block (ancestor_self t p)

  pub q_low : q < p
  q_low = g.rooted p some g.there

  q_there : q < length t
  q_there = let low = q_low in let there = g.there in omega arith

  pub blocks_same : (m : ℕ) → m < length t → is_block v m ≡ is_block t m
  blocks_same m l = node_closed t p Committed stamp (λ y. is_block_kind y.kind) (λ y. refl) m

  right_same : (b : Option ℕ) (m : ℕ) → m < length t → is_right_in v b m ≡ is_right_in t b m
  right_same b m l = ap (λ o. same_block o b) (xparent_closed t p Committed stamp g.rooted m l)

  -- ## Members

  abbrev member_test : List Node → Option ℕ → ℕ → Bool
  member_test w b m = (is_act w m || is_committed w m) && is_right_in w b m

  member_same : (b : Option ℕ) (m : ℕ) → m < length t → (m ≡ p → ⊥) → member_test v b m ≡ member_test t b m
  member_same b m l ne =
      ap (λ x. (x || is_committed v m) && is_right_in v b m) (node_closed t p Committed stamp (λ y. is_act_kind y.kind) (λ y. refl) m)
      ∙ ap (λ x. (is_act t m || x) && is_right_in v b m) (node_closed_other t p Committed stamp (λ y. is_block_kind y.kind && is_committed_state y.state) m ne)
      ∙ ap (λ x. (is_act t m || is_committed t m) && x) (right_same b m l)

  was_none : (b : Option ℕ) → member_test t b p ≡ false
  was_none b = and_left (is_act t p || is_committed t p) (is_right_in t b p) (pending_no_member t p open_block)

  is_none : (b : Option ℕ) → (b ≡ h → ⊥) → member_test v b p ≡ false
  is_none b ne = and_right (is_act v p || is_committed v p) (is_right_in v b p) (right_same b p g.there ∙ same_block_false h b ne)

  is_one : member_test v h p ≡ true
  is_one =
      and_from (is_act v p || is_committed v p) (is_right_in v h p)
      (or_right (is_act v p) (is_committed v p) (state_closed t p Committed stamp is_committed_state ∙ and_from (is_block t p) true block refl))
      (right_same h p g.there ∙ same_block_self h)

  -- what comes after the block stands in it
  inside : (m : ℕ) → p < m → m < length t → is_right_in t h m ≡ false
  inside m less l =
      same_block_false (xparent t m) h (λ e.
      let z = xparent_over t g.rooted p block m l (λ same. omega arith) (g.last p m (ancestor_self t p) (omega arith) l) in
      let le : p ≤ z.block = ancestor_le t g.rooted p z.block (let y = (xparent_is t g.rooted z.block m l z.is).less in omega arith) z.over in
      let low = (xparent_is t g.rooted z.block p g.there (e ∙ z.is)).less in
      omega arith)

  filter_kept : (b : Option ℕ) (k : ℕ) → k ≤ length t → ((m : ℕ) → m < k → m ≡ p → member_test v b m ≡ member_test t b m) → filter (member_test v b) (below k) ≡ filter (member_test t b) (below k)
  filter_kept b k le at_p =
      filter_same (member_test v b) (member_test t b) (below k) (λ m i.
      let low : m < k = in_below m k i in
      elim (cases_eq m p) [ inl e ↦ at_p m low e | inr ne ↦ member_same b m (omega arith) ne ])

  members_same : (b : Option ℕ) → (b ≡ h → ⊥) → members v b ≡ members t b
  members_same b ne =
      ap (filter (member_test v b)) (all_nodes_closed t p Committed stamp)
      ∙ filter_kept b (length t) (omega arith) (λ m l e. ap (member_test v b) e ∙ is_none b ne ∙ sym (was_none b) ∙ sym (ap (member_test t b) e))

  members_more : members v h ≡ members t h ++ p ∷ []
  members_more =
      let there = g.there in
      ap (filter (member_test v h)) (all_nodes_closed t p Committed stamp)
      ∙ below_last (member_test v h) p (length t) there is_one (λ m less l. and_right (is_act v m || is_committed v m) (is_right_in v h m) (right_same h m l ∙ inside m less l))
      ∙ ap (λ ms. ms ++ p ∷ []) (filter_kept h p (omega arith) (λ m l e. absurd (omega arith)))
      ∙ ap (λ ms. ms ++ p ∷ []) (sym (below_none (member_test t h) p (length t) (omega arith) (λ m le l. elim (cases_eq m p) [
        | inl e ↦ ap (member_test t h) e ∙ was_none h
        | inr ne ↦ and_right (is_act t m || is_committed t m) (is_right_in t h m) (inside m (omega arith) l)
      ])))

  key_same : (m : ℕ) → (m ≡ p → ⊥) → key v m ≡ key t m
  key_same m ne =
      ap (λ x. cond x (end_of v m) (stamp_of v m)) (node_closed t p Committed stamp (λ y. is_block_kind y.kind) (λ y. refl) m)
      ∙ ap (λ e. cond (is_block t m) e (stamp_of v m)) (number_closed_other t p Committed stamp (λ y. y.end) m ne)
      ∙ ap (λ e. cond (is_block t m) (end_of t m) e) (number_closed t p Committed stamp (λ y. y.stamp) (λ y. refl) m)

  key_end : key v p ≡ stamp
  key_end = ap (λ x. cond x (end_of v p) (stamp_of v p)) (blocks_same p g.there ∙ block) ∙ end_closed t p Committed stamp g.there

  member_other : (b : Option ℕ) (m : ℕ) → IsMember t b m → m ≡ p → ⊥
  member_other b m i e = absurd (let no = pending_no_member t p open_block in let yes = sym (ap (λ k. is_act t k || is_committed t k) e) ∙ i.kind in cc)

  by_key_kept : (b : Option ℕ) → by_key (key v) (members t b) ≡ sorted t b
  by_key_kept b = by_key_same (key v) (key t) (members t b) (λ m i. key_same m (member_other b m (member_is t b m i)))

  pub sorted_same : (b : Option ℕ) → (b ≡ h → ⊥) → sorted v b ≡ sorted t b
  sorted_same b ne = ap (by_key (key v)) (members_same b ne) ∙ by_key_kept b

  pub sorted_more : sorted v h ≡ sorted t h ++ p ∷ []
  sorted_more =
      ap (by_key (key v)) members_more
      ∙ by_key_last (key v) p (members t h) (λ m i. let low = key_low t p c g m in omega (arith, later, key_end, key_same m (member_other h m (member_is t h m i))))
      ∙ ap (λ ms. ms ++ p ∷ []) (by_key_kept h)

  -- ## Open members

  abbrev open_test : List Node → Option ℕ → ℕ → Bool
  open_test w b m = is_pending w m && is_right_in w b m

  open_up : (b : Option ℕ) → open_member v q b ≡ open_member t q b
  open_up b =
      ap (find (open_test v b)) (path_closed t p Committed stamp g.rooted q q_there)
      ∙ find_same (open_test v b) (open_test t b) (path t q) (λ m i.
      let le : m ≤ q = ancestor_le t g.rooted m q q_there (in_ancestor t m q i) in
      let low = q_low in
      let there = q_there in
      ap (λ x. x && is_right_in v b m) (node_closed_other t p Committed stamp (λ y. is_block_kind y.kind && is_pending_state y.state) m (λ e. omega arith))
      ∙ ap (λ x. is_pending t m && x) (right_same b m (omega arith)))

  pub opens_same : (b : Option ℕ) → (b ≡ h → ⊥) → open_member v q b ≡ open_member t p b
  opens_same b ne =
      open_up b
      ∙ sym (ap (find (open_test t b)) (path_step t g.rooted p some g.there)
      ∙ ap (λ x. cond x (Some p) (open_member t q b)) (and_right (is_pending t p) (is_right_in t b p) (same_block_false h b ne)))

  -- where the block was open
  pub was_open : open_member t p h ≡ Some p
  was_open = open_here t g.rooted p p g.there open_block (ancestor_self t p)

  -- none is
  pub none_open : open_member v q h ≡ None
  none_open = open_up h ∙ ap (open_member t q) (xparent_home t g.rooted p some g.there) ∙ open_home t g.rooted q q_there

  pub none_inside : open_member t p (Some p) ≡ None
  none_inside = ap (open_member t p) (sym (home_step t g.rooted p some g.there ∙ ap (λ b. cond b (Some p) (home t q)) block)) ∙ open_home t g.rooted p g.there

  pub around_other : Some p ≡ h → ⊥
  around_other e = let z = (xparent_is t g.rooted p p g.there (sym e)).less in omega arith

  pub closed_same : SameBut t p v q h
  closed_same = record { blocks = blocks_same; members = sorted_same; opens = opens_same }
