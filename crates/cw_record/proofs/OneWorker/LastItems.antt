-- The items so far, and one more at the end: an access, output or cancel, the begin of a block, or its end.
use Rattle.std.proofs.Common.{◌≡◌, ℕ, zero, suc, ◌<◌, ◌≤◌, List, [], ◌∷◌, ◌++◌, length, refl, ap, sym, ◌∙◌, arith, true, false, cond, Option, Some, None, append_assoc}
use Rattle.std.specs.Prelude.{◌&&◌, ◌||◌}
use Rattle.std.specs.List.{flat_map}
use Rattle.std.proofs.lemmas.Bool.{and_right}
use Rattle.std.proofs.lemmas.List.{append-nil}
use Rattle.std.proofs.lemmas.Grind.{flat_map-append}
use Rattle.cw_tree.specs.declared.node.Node.{Node}
use Rattle.cw_tree.specs.declared.node.Kind.{Kind}
use Rattle.cw_tree.specs.declared.node.Kind.TheVariants.{Block}
use Rattle.cw_tree.specs.declared.node.BlockState.TheVariants.{Committed}
use Rattle.cw_tree.specs.Accesses.{by_key}
use Rattle.cw_tree.specs.Nodes.{parent_of, is_committed, is_block, is_block_kind, fresh_node, closed}
use Rattle.cw_tree.specs.Walks.{is_ancestor, xparent}
use Rattle.cw_tree.proofs.Walks.Ancestors.{ancestor_past, ancestor_le}
use Rattle.cw_tree.proofs.NextNodes.Growing.{length_more, node_new}
use Rattle.cw_tree.proofs.NextNodes.Closing.{length_closed}
use Rattle.cw_record.specs.declared.items.OrderItem.{OrderItem}
use Rattle.cw_record.specs.declared.items.OrderItem.TheVariants.{Begins, Does, Ends}
use Rattle.cw_record.specs.Items.{is_act, is_act_kind, same_block, is_right_in, key, open_member, as_items, last_open, items_in}
use Rattle.cw_record.proofs.OneWorker.Building.{open_items}
use Rattle.cw_record.specs.Drawn.{added}
use Rattle.cw_tree.proofs.Members.{below_none}
use Rattle.cw_record.proofs.Orders.Homes.{home, number, home_is, xparent_is, open_aside, open_home, same_block_self, same_block_false}
use Rattle.cw_record.proofs.OneWorker.Moves.{IsGrowing}
use Rattle.cw_record.proofs.Orders.Alike.{sorted}
use Rattle.cw_record.proofs.OneWorker.Tails.{SameBut, items_shut, members_stay, Lengthens, around_less, lengthens_all, lengthens_more}
use Rattle.cw_record.proofs.Members.{act_no_block}
use Rattle.cw_record.proofs.OneWorker.NewMembers.{sorted_old, sorted_new, open_old, open_new, blocks_old}
use Rattle.cw_record.proofs.OneWorker.ClosedMembers.{key_low, blocks_same, sorted_more, was_open, none_open, none_inside, around_other, closed_same}

home_low : (t : List Node) (p c : ℕ) → IsGrowing t p c → number (home t p) < length t
home_low t p c g =
    by (home t p) refl where
      by : (o : Option ℕ) → home t p ≡ o → number (home t p) < length t
      by None e = let there = g.there in omega (arith, ap number e)
      by (Some m) e = let there = g.there in let le : m ≤ p = ancestor_le t g.rooted m p there (home_is t g.rooted p m e).1 in omega (arith, ap number e)

-- what has the length of a tree with one node more
pub levels_added : (t : List Node) (p : ℕ) (kind : Kind) (stamp : ℕ) (q : ℕ) → open_items (added t p kind stamp) q ≡ items_in (added t p kind stamp) q (suc (length t)) None
levels_added t p kind stamp q = ap (λ k. items_in (added t p kind stamp) q k None) (length_more t (fresh_node p kind stamp))

module _ (t : List Node) (p c : ℕ) (g : IsGrowing t p c) (kind : Kind) (st : ℕ) (later : c < st) where
  abbrev u : List Node
  u = added t p kind st

  abbrev h : Option ℕ
  h = home t p

  module _ (act : is_act_kind kind ≡ true) where
    leaf_same : SameBut t p u p h
    leaf_same = record {
      blocks = blocks_old t g.rooted p g.there kind st;
      members = λ b ne. sorted_old t g.rooted p g.there kind st b (and_right (is_act_kind kind) (same_block h b) (same_block_false h b ne));
      opens = λ b ne. open_old t g.rooted p g.there kind st p g.there b;
    }

    leaf_way : (m : ℕ) → h ≡ Some m → (is_block t m ≡ true) × (is_ancestor t m p ≡ true)
    leaf_way m e = home_is t g.rooted p m e

    leaf_here : Lengthens t p c g u p h leaf_same leaf_way (Does (length t) ∷ []) h
    leaf_here zero enough = absurd (let low = home_low t p c g in omega arith)
    leaf_here (suc k) enough =
        let f : ℕ → List OrderItem = λ n. as_items (is_block u n) n (items_in u p k (Some n)) in
        let before : ℕ → List OrderItem = λ n. as_items (is_block t n) n (items_in t p k (Some n)) in
        let none : open_member t p h ≡ None = open_home t g.rooted p g.there in
        let new_kind : is_block u (length t) ≡ false = node_new t (fresh_node p kind st) (λ y. is_block_kind y.kind) ∙ act_no_block kind act in
        ap (λ ns. flat_map f ns ++ last_open (open_member u p h) (items_in u p k (open_member u p h))) (sorted_new t g.rooted p g.there kind st act (λ m. let low = key_low t p c g m in omega arith))
        ∙ ap (λ o. flat_map f (sorted t h ++ length t ∷ []) ++ last_open o (items_in u p k o)) (open_old t g.rooted p g.there kind st p g.there h ∙ none)
        ∙ append-nil (flat_map f (sorted t h ++ length t ∷ []))
        ∙ flat_map-append f (sorted t h) (length t ∷ [])
        ∙ ap (λ xs. xs ++ flat_map f (length t ∷ [])) (members_stay t p c g u p h leaf_same leaf_way k h)
        ∙ ap (λ b. flat_map before (sorted t h) ++ (as_items b (length t) (items_in u p k (Some (length t))) ++ [])) new_kind
        ∙ ap (λ xs. xs ++ Does (length t) ∷ []) (sym (append-nil (flat_map before (sorted t h))))
        ∙ ap (λ o. (flat_map before (sorted t h) ++ last_open o (items_in t p k o)) ++ Does (length t) ∷ []) (sym none)

    -- an access, output or cancel comes last
    pub leaf_last : open_items u p ≡ open_items t p ++ Does (length t) ∷ []
    leaf_last = levels_added t p kind st p ∙ lengthens_more t p c g u p h leaf_same leaf_way (Does (length t) ∷ []) leaf_here

module _ (t : List Node) (p c : ℕ) (g : IsGrowing t p c) (st : ℕ) where
  abbrev w : List Node
  w = added t p Block st

  abbrev around : Option ℕ
  around = home t p

  abbrev new : ℕ
  new = length t

  block_same : SameBut t p w new around
  block_same = record {
    blocks = blocks_old t g.rooted p g.there Block st;
    members = λ b ne. sorted_old t g.rooted p g.there Block st b refl;
    opens = λ b ne. open_new t g.rooted p g.there Block st b ∙ ap (λ x. cond x (Some new) (open_member t p b)) (same_block_false around b ne);
  }

  block_way : (m : ℕ) → around ≡ Some m → (is_block t m ≡ true) × (is_ancestor t m p ≡ true)
  block_way m e = home_is t g.rooted p m e

  -- nothing stands in the new block
  no_member : (m : ℕ) → m < length t → is_right_in t (Some new) m ≡ false
  no_member m low = same_block_false (xparent t m) (Some new) (λ e. let less = (xparent_is t g.rooted new m low (sym e)).less in omega arith)

  none_sorted : sorted w (Some new) ≡ []
  none_sorted =
      sorted_old t g.rooted p g.there Block st (Some new) refl
      ∙ ap (by_key (key t)) (below_none (λ m. (is_act t m || is_committed t m) && is_right_in t (Some new) m) 0 (length t) (omega arith) (λ m le low. and_right (is_act t m || is_committed t m) (is_right_in t (Some new) m) (no_member m low)))

  around_old : Some new ≡ around → ⊥
  around_old e = let there = g.there in let le : new ≤ p = ancestor_le t g.rooted new p there (home_is t g.rooted p new (sym e)).1 in omega arith

  none_open_in : open_member w new (Some new) ≡ None
  none_open_in =
      open_new t g.rooted p g.there Block st (Some new)
      ∙ ap (λ x. cond x (Some new) (open_member t p (Some new))) (same_block_false around (Some new) around_old)
      ∙ open_aside t g.rooted p new g.there (ancestor_past t g.rooted new p g.there g.there)

  none_in : (k : ℕ) → items_in w new k (Some new) ≡ []
  none_in zero = refl
  none_in (suc k) =
      ap (λ ns. flat_map (λ n. as_items (is_block w n) n (items_in w new k (Some n))) ns ++ last_open (open_member w new (Some new)) (items_in w new k (open_member w new (Some new)))) none_sorted
      ∙ ap (λ o. last_open o (items_in w new k o)) none_open_in

  block_here : Lengthens t p c g w new around block_same block_way (Begins new ∷ []) around
  block_here zero enough = absurd (let low = home_low t p c g in omega arith)
  block_here (suc k) enough =
      let f : ℕ → List OrderItem = λ n. as_items (is_block w n) n (items_in w new k (Some n)) in
      let before : ℕ → List OrderItem = λ n. as_items (is_block t n) n (items_in t p k (Some n)) in
      let none : open_member t p around ≡ None = open_home t g.rooted p g.there in
      let here : open_member w new around ≡ Some new = open_new t g.rooted p g.there Block st around ∙ ap (λ x. cond x (Some new) (open_member t p around)) (same_block_self around) in
      ap (λ ns. flat_map f ns ++ last_open (open_member w new around) (items_in w new k (open_member w new around))) (sorted_old t g.rooted p g.there Block st around refl)
      ∙ ap (λ o. flat_map f (sorted t around) ++ last_open o (items_in w new k o)) here
      ∙ ap (λ xs. flat_map f (sorted t around) ++ Begins new ∷ xs) (none_in k)
      ∙ ap (λ xs. xs ++ Begins new ∷ []) (members_stay t p c g w new around block_same block_way k around)
      ∙ ap (λ xs. xs ++ Begins new ∷ []) (sym (append-nil (flat_map before (sorted t around))))
      ∙ ap (λ o. (flat_map before (sorted t around) ++ last_open o (items_in t p k o)) ++ Begins new ∷ []) (sym none)

  -- so does the begin of a block, where the place goes into it
  pub begin_last : open_items w new ≡ open_items t p ++ Begins new ∷ []
  begin_last = levels_added t p Block st new ∙ lengthens_more t p c g w new around block_same block_way (Begins new ∷ []) block_here

module _ (t : List Node) (p c : ℕ) (g : IsGrowing t p c) (some : 0 < p) (block : is_block t p ≡ true) (st : ℕ) (later : c ≤ st) where
  abbrev v : List Node
  v = closed t p Committed st

  abbrev q : ℕ
  q = parent_of t p

  abbrev outer : Option ℕ
  outer = xparent t p

  same : SameBut t p v q outer
  same = closed_same t p c g some block st later

  way : (m : ℕ) → outer ≡ Some m → (is_block t m ≡ true) × (is_ancestor t m p ≡ true)
  way m e = let z = xparent_is t g.rooted m p g.there e in (z.block, z.over)

  end_here : Lengthens t p c g v q outer same way (Ends p ∷ []) outer
  end_here zero enough = absurd (let there = g.there in let low = around_less t p c g v q outer same way (Ends p ∷ []) p some there in omega arith)
  end_here (suc k) enough =
      let f : ℕ → List OrderItem = λ n. as_items (is_block v n) n (items_in v q k (Some n)) in
      let before : ℕ → List OrderItem = λ n. as_items (is_block t n) n (items_in t p k (Some n)) in
      let inner : items_in v q k (Some p) ≡ items_in t p k (Some p) =
      items_shut t p c g v q outer same way k (Some p) (around_other t p c g some block st later) (none_inside t p c g some block st later) in
      let is_open = was_open t p c g some block st later in
      ap (λ ns. flat_map f ns ++ last_open (open_member v q outer) (items_in v q k (open_member v q outer))) (sorted_more t p c g some block st later)
      ∙ ap (λ o. flat_map f (sorted t outer ++ p ∷ []) ++ last_open o (items_in v q k o)) (none_open t p c g some block st later)
      ∙ append-nil (flat_map f (sorted t outer ++ p ∷ []))
      ∙ flat_map-append f (sorted t outer) (p ∷ [])
      ∙ ap (λ xs. xs ++ flat_map f (p ∷ [])) (members_stay t p c g v q outer same way k outer)
      ∙ ap (λ b. flat_map before (sorted t outer) ++ (as_items b p (items_in v q k (Some p)) ++ [])) (blocks_same t p c g some block st later p g.there ∙ block)
      ∙ ap (λ xs. flat_map before (sorted t outer) ++ ((Begins p ∷ xs ++ Ends p ∷ []) ++ [])) inner
      ∙ ap (λ xs. flat_map before (sorted t outer) ++ xs) (append-nil (Begins p ∷ items_in t p k (Some p) ++ Ends p ∷ []))
      ∙ sym (append_assoc (flat_map before (sorted t outer)) (Begins p ∷ items_in t p k (Some p)) (Ends p ∷ []))
      ∙ ap (λ o. (flat_map before (sorted t outer) ++ last_open o (items_in t p k o)) ++ Ends p ∷ []) (sym is_open)

  -- and the end of the block at the place, where the place goes out of it
  pub end_last : open_items v q ≡ open_items t p ++ Ends p ∷ []
  end_last =
      ap (λ k. items_in v q k None) (length_closed t p Committed st)
      ∙ lengthens_all t p c g v q outer same way (Ends p ∷ []) end_here
