-- The lists of cancels stay right in a tree that one worker builds.
use Rattle.std.proofs.Common.{◌≡◌, ℕ, ◌<◌, ◌≤◌, ℤ, pos, List, [], ◌∷◌, ◌++◌, length, map, refl, ap, sym, ◌∙◌, subst, arith, Bool, true, false, Some, inl, inr, append-nil}
use Rattle.std.specs.Prelude.{◌⊎◌, ◌&&◌, ◌||◌, is_some, filter, nat_lt, slice_get, slice_index_or}
use Rattle.std.specs.List.{list_any}
use Rattle.std.proofs.Math.Bool.{and-false, or-false}
use Rattle.std.proofs.lemmas.Bool.{cases_lt, ltb-true, false_from_ne_true}
use Rattle.std.proofs.lemmas.List.Folds.{list_any-append, list_any_none}
use Rattle.std.proofs.lemmas.List.{map-id}
use Rattle.std.proofs.lemmas.Option.{same_Some, slice_get_within}
use Rattle.cw_code.specs.declared.Back.{Back}
use Rattle.cw_tree.specs.declared.node.Node.{Node}
use Rattle.cw_tree.specs.declared.node.Kind.{Kind}
use Rattle.cw_tree.specs.declared.node.Kind.TheVariants.{Cancel}
use Rattle.cw_tree.specs.declared.node.BlockState.TheVariants.{Committed}
use Rattle.cw_tree.specs.Nodes.{is_block_kind, is_block, is_aborted, stamp_of, touches_kind, below, fresh_node, closed}
use Rattle.cw_tree.specs.Walks.{IsRooted, is_above}
use Rattle.cw_tree.specs.Accesses.{live_accesses, written, cell_value}
use Rattle.cw_tree.specs.Cancels.{wrote_in, before_block, put_back, IsCancel, AreCancels}
use Rattle.cw_tree.proofs.Cancels.{before_front, before_same, wrote_tells}
use Rattle.cw_tree.proofs.Lists.{In}
use Rattle.cw_tree.proofs.Members.{in_filter, any_same, all_of, filter_same, map_same}
use Rattle.cw_tree.proofs.ChainLaws.LiveAccesses.{live_there, live_more, live_same, live_stays}
use Rattle.cw_tree.proofs.NextNodes.Growing.{get_next, length_more, node_new, number_new}
use Rattle.cw_tree.proofs.NextNodes.Closing.{length_closed}
use Rattle.cw_tree.proofs.Walks.There.{node_there, stamp_is}
use Rattle.cw_record.specs.Drawn.{added}
use Rattle.cw_record.proofs.OneWorker.Grown.{IsGrown, grown_by, grown_closed}
use Rattle.cw_record.proofs.OneWorker.NoneRefused.{all_are_live}

-- what stands before a block wrote the same in a tree where it is the same to the block
before_kept : (t u : List Node) (b : ℕ) (ns : List ℕ) → ((n : ℕ) → In n ns → (is_above u b n ≡ is_above t b n) × (written u n ≡ written t n))
    → map (written u) (before_block u b ns) ≡ map (written t) (before_block t b ns)
before_kept t u b ns h =
    let P : List ℕ → Type 0 = λ ms. map (written u) (before_block u b ms) ≡ map (written t) (before_block t b ms) in
    subst P (map-id ns) (before_same t u b b (λ n. n) (λ n. n) ns h)

-- ## A list

-- In tree u accesses came that have no smaller stamps than all of tree t.
pub record Comes (t u : List Node) (c : ℕ) : Type 0 where
  pub more : List ℕ
  pub all : live_accesses u c ≡ live_accesses t c ++ more
  pub later : (m n : ℕ) → m < length t → In n more → stamp_of t m ≤ stamp_of u n

module _ (t u : List Node) (g : IsGrown t u) (comes : (c : ℕ) → Comes t u c) (first : List ℤ) (b n : ℕ) (low : n < length t) where
  abbrev stamp : ℕ
  stamp = stamp_of t n

  not_before : (k : ℕ) → stamp ≤ k → nat_lt k stamp ≡ false
  not_before k le = false_from_ne_true (nat_lt k stamp) (λ q. let less : k < stamp = ltb-true k stamp q in omega arith)

  wrote_stays : (c : ℕ) → wrote_in u b stamp (live_accesses u c) ≡ wrote_in t b stamp (live_accesses t c)
  wrote_stays c =
      let p : ℕ → Bool = λ m. is_above u b m && nat_lt (stamp_of u m) stamp && is_some (written u m) in
      let q : ℕ → Bool = λ m. is_above t b m && nat_lt (stamp_of t m) stamp && is_some (written t m) in
      let z = comes c in
      let gone : (m : ℕ) → In m z.more → p m ≡ false = λ m i.
      ap (λ a. is_above u b m && a && is_some (written u m)) (not_before (stamp_of u m) (z.later n m low i))
      ∙ ap (λ a. a && is_some (written u m)) (and-false (is_above u b m)) in
      ap (wrote_in u b stamp) z.all
      ∙ list_any-append p (live_accesses t c) z.more
      ∙ ap (λ a. list_any p (live_accesses t c) || a) (list_any_none p z.more (all_of (λ m. p m ≡ false) z.more gone))
      ∙ or-false (list_any p (live_accesses t c))
      ∙ any_same p q (live_accesses t c) (λ m i.
      let there = live_there t c m i in
      let same = g.same.each m there in
      ap (λ a. a && nat_lt (stamp_of u m) stamp && is_some (written u m)) (g.over b m there)
      ∙ ap (λ k. is_above t b m && nat_lt k stamp && is_some (written u m)) same.stamp
      ∙ ap (λ w. is_above t b m && nat_lt (stamp_of t m) stamp && is_some w) same.wrote)

  left_stays : (c : ℕ) → wrote_in t b stamp (live_accesses t c) ≡ true
      → map (written u) (before_block u b (live_accesses u c)) ≡ map (written t) (before_block t b (live_accesses t c))
  left_stays c wrote =
      let z = comes c in
      let (m, w) = wrote_tells t b stamp (live_accesses t c) wrote in
      ap (λ us. map (written u) (before_block u b us)) z.all
      ∙ ap (map (written u)) (before_front u b (live_accesses t c) z.more m w.member (g.over b m (live_there t c m w.member) ∙ w.over))
      ∙ before_kept t u b (live_accesses t c) (λ k j. let there = live_there t c k j in (g.over b k there, (g.same.each k there).wrote))

  -- what the block puts back at the stamp of a node is what it put back there
  pub list_stays : put_back u first (live_accesses u) b stamp ≡ put_back t first (live_accesses t) b stamp
  list_stays =
      let entry : ℕ → ℤ → Back = λ c v. record { cell = c; value = v } in
      let wrote : ℕ → Bool = λ c. wrote_in t b stamp (live_accesses t c) in
      let old : ℕ → ℤ = λ c. cell_value (slice_index_or first c (pos 0)) (map (written t) (before_block t b (live_accesses t c))) in
      let new : ℕ → ℤ = λ c. cell_value (slice_index_or first c (pos 0)) (map (written u) (before_block u b (live_accesses u c))) in
      ap (map (λ c. entry c (new c))) (filter_same (λ c. wrote_in u b stamp (live_accesses u c)) wrote (below (length first)) (λ c i. wrote_stays c))
      ∙ map_same (λ c. entry c (new c)) (λ c. entry c (old c)) (filter wrote (below (length first)))
      (λ c i. ap (λ ws. entry c (cell_value (slice_index_or first c (pos 0)) ws)) (left_stays c (in_filter wrote c (below (length first)) i).1))

-- ## All lists

-- they stay right where those of new cancels are
pub cancels_grown : (t u : List Node) → IsGrown t u → ((c : ℕ) → Comes t u c) → (first : List ℤ) → AreCancels t first
    → ((n : ℕ) (x : Node) (back : List Back) → length t ≤ n → slice_get u n ≡ Some x → x.kind ≡ Cancel back → IsCancel u first x back) → AreCancels u first
cancels_grown t u g comes first h new n x back at kind alive = by (cases_lt n (length t)) where
  by : (n < length t) ⊎ (length t ≤ n) → IsCancel u first x back
  by (inr past) = new n x back past at kind
  by (inl low) =
      let (y, there, is) = g.nodes n x low at in
      let old = h n y back there (is.kind ∙ kind) (all_are_live t g.same.none n) in
      let around : y.parent < length t = node_there (λ z. is_block_kind z.kind) t y.parent old.block in
      let s : stamp_of t n ≡ x.stamp = stamp_is t n y there ∙ is.stamp in
      record {
        block = ap (is_block u) (sym is.parent) ∙ g.blocks y.parent around ∙ old.block;
        list =
            old.list
            ∙ ap (put_back t first (live_accesses t) y.parent) (sym (stamp_is t n y there))
            ∙ sym (list_stays t u g comes first y.parent n low)
            ∙ ap (λ b. put_back u first (live_accesses u) b (stamp_of t n)) is.parent
            ∙ ap (put_back u first (live_accesses u) x.parent) s;
      }

-- ## The steps

-- a tree in which nothing was rolled back, and a node that is no access
module _ (t : List Node) (r : IsRooted t) (none : (n : ℕ) → is_aborted t n ≡ false) (first : List ℤ) (h : AreCancels t first) where
  plain_comes : (f : ℕ) (kind : Kind) (st : ℕ) → ((e : ℕ) → touches_kind e kind ≡ false) → (c : ℕ) → Comes t (added t f kind st) c
  plain_comes f kind st plain c =
      let x = fresh_node f kind st in
      record {
        more = [];
        all = live_stays t (added t f kind st) (grown_by t r none f kind st).same c (length_more t x) (node_new t x (λ y. touches_kind c y.kind) ∙ plain c)
            ∙ sym (append-nil (live_accesses t c));
        later = λ m n low i. absurd i;
      }

  -- the node that came is no cancel, or its list is right
  new_cancel : (f : ℕ) (kind : Kind) (st : ℕ) → ((back : List Back) → kind ≡ Cancel back → IsCancel (added t f kind st) first (fresh_node f kind st) back)
      → (n : ℕ) (x : Node) (back : List Back) → length t ≤ n → slice_get (added t f kind st) n ≡ Some x → x.kind ≡ Cancel back
      → IsCancel (added t f kind st) first x back
  new_cancel f kind st is n x back past at k =
      let u = added t f kind st in
      let low : n < length u = slice_get_within u n x at in
      let same : n ≡ length t = omega (arith, length_more t (fresh_node f kind st)) in
      let node : fresh_node f kind st ≡ x = same_Some (fresh_node f kind st) x (sym (get_next t (fresh_node f kind st) []) ∙ (ap (slice_get u) (sym same)
      ∙ at)) in
      let P : Node → Type 0 = λ y. IsCancel u first y back in
      subst P node (is back (ap (λ y. y.kind) node ∙ k))

  pub cancels_plain : (f : ℕ) (kind : Kind) (st : ℕ) → ((e : ℕ) → touches_kind e kind ≡ false) → ((back : List Back) → kind ≡ Cancel back
      → IsCancel (added t f kind st) first (fresh_node f kind st) back) → AreCancels (added t f kind st) first
  cancels_plain f kind st plain is = cancels_grown t (added t f kind st) (grown_by t r none f kind st) (plain_comes f kind st plain) first h
      (new_cancel f kind st is)

  -- any node with a stamp that none exceeds
  pub cancels_next : (f : ℕ) (kind : Kind) (st : ℕ) → ((n : ℕ) → n < length t → stamp_of t n ≤ st) → ((back : List Back) → kind ≡ Cancel back
      → IsCancel (added t f kind st) first (fresh_node f kind st) back) → AreCancels (added t f kind st) first
  cancels_next f kind st newest is = cancels_grown t (added t f kind st) (grown_by t r none f kind st) (λ c. by c (touches_kind c kind) refl) first h
      (new_cancel f kind st is) where
        by : (c : ℕ) (a : Bool) → touches_kind c kind ≡ a → Comes t (added t f kind st) c
        by c false e =
            let x = fresh_node f kind st in
            record {
              more = [];
              all = live_stays t (added t f kind st) (grown_by t r none f kind st).same c (length_more t x) (node_new t x (λ y. touches_kind c y.kind) ∙ e)
                  ∙ sym (append-nil (live_accesses t c));
              later = λ m n low i. absurd i;
            }
        by c true e =
            let x = fresh_node f kind st in
            let u = added t f kind st in
            let stamped : stamp_of u (length t) ≡ st = number_new t x (λ y. y.stamp) in
            record {
              more = length t ∷ [];
              all = live_more t u (grown_by t r none f kind st).same c (length_more t x) (node_new t x (λ y. touches_kind c y.kind)
                  ∙ e) (λ n low. let le = newest n low in omega arith);
              later = λ m n low i. elim i [ inl q ↦ (let le = newest m low in omega (arith, ap (stamp_of u) q)) | inr z ↦ absurd z ];
            }

  pub cancels_closed : (p st : ℕ) → AreCancels (closed t p Committed st) first
  cancels_closed p st =
      let u = closed t p Committed st in
      let g = grown_closed t r none p st in
      let long = length_closed t p Committed st in
      cancels_grown t u g
      (λ c. record { more = []; all = live_same t u g.same c long ∙ sym (append-nil (live_accesses t c)); later = λ m n low i. absurd i })
      first h (λ n x back past at k. let low : n < length u = slice_get_within u n x at in absurd (omega (arith, long)))
