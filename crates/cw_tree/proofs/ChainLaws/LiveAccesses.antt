-- The live accesses of a cell, as the tree grows and nothing is rolled back.
use Rattle.std.proofs.Common.{Bool, ◌≡◌, ℕ, suc, ◌<◌, ◌≤◌, List, [], ◌∷◌, ◌++◌, length, refl, ap, sym, ◌∙◌, arith, true, false, cond, inl, inr, map}
use Rattle.std.specs.Prelude.{◌⊎◌, ◌&&◌, not}
use Rattle.std.specs.List.{filter}
use Rattle.std.proofs.lemmas.Bool.{not_from_false, cases_lt, and_parts}
use Rattle.std.proofs.lemmas.Option.{slice_get_past}
use Rattle.std.proofs.lemmas.List.Elements.{filter-append}
use Rattle.std.proofs.lemmas.List.{append-nil}
use Rattle.std.proofs.Math.Bool.{and-true}
use Rattle.cw_tree.specs.declared.node.Node.{Node}
use Rattle.cw_tree.specs.declared.node.BlockState.{BlockState}
use Rattle.cw_tree.specs.Nodes.{passes, touches_kind, is_block_kind, is_aborted_state, stamp_of, is_aborted, touches, below, all_nodes, closed}
use Rattle.cw_tree.specs.Walks.{above}
use Rattle.cw_tree.specs.Accesses.{is_live, by_key, live_accesses, value_in, written_kind, read_kind}
use Rattle.cw_tree.specs.Shape.{AreStamps}
use Rattle.cw_tree.proofs.Lists.{In, all_from, at_or_before}
use Rattle.cw_tree.proofs.Members.{in_below, in_filter, filter_same}
use Rattle.cw_tree.proofs.NextNodes.Growing.{get_append, length_more, node_grown, node_new, number_grown}
use Rattle.cw_tree.proofs.NextNodes.Closing.{node_closed, number_closed, same_closed}
use Rattle.cw_tree.proofs.Walks.Agreeing.{aborted_closed}
use Rattle.cw_tree.proofs.ChainLaws.Entries.{SameAccess}
use Rattle.cw_tree.proofs.InOrder.Keys.{by_key_last, by_key_in, by_key_same, by_key_rises}
use Rattle.cw_tree.proofs.Rising.{below_rises, Rises, rises_filter, rises_apart}
use Rattle.cw_tree.proofs.Ahead.{apart_map}
use Rattle.cw_tree.proofs.NodeKinds.{access_stamped}

-- the accesses of cell c among the first k nodes
abbrev pub accesses_below : List Node → ℕ → ℕ → List ℕ
accesses_below t c k = filter (touches t c) (below k)

-- where nothing was rolled back all accesses are live
pub all_live : (t : List Node) → ((n : ℕ) → is_aborted t n ≡ false) → (c : ℕ) → live_accesses t c ≡ by_key (stamp_of t) (accesses_below t c (length t))
all_live t none c =
    ap (by_key (stamp_of t)) (filter_same (λ n. touches t c n && is_live t n) (touches t c) (all_nodes t) (λ n h.
    ap (λ b. touches t c n && b) (all_from (λ a. not (is_aborted t a)) (above t n) (λ a i. not_from_false (is_aborted t a) (none a))) ∙ and-true (touches t c n)))

pub live_there : (t : List Node) (c n : ℕ) → In n (live_accesses t c) → n < length t
live_there t c n h =
    in_below n (length t) (in_filter (λ n. touches t c n && is_live t n) n (all_nodes t) (by_key_in (stamp_of t) n (filter (λ n. touches t c n && is_live t n) (all_nodes t)) h)).0

-- the accesses among the first nodes of t are the same in u, and none of either was rolled back
pub record SameAccesses (t u : List Node) : Type 0 where
  pub none : (n : ℕ) → is_aborted t n ≡ false
  pub none_too : (n : ℕ) → is_aborted u n ≡ false
  pub each : (n : ℕ) → n < length t → SameAccess t u n

-- one node more
pub accesses_grown : (t : List Node) (x : Node) → ((n : ℕ) → is_aborted t n ≡ false) → (is_block_kind x.kind && is_aborted_state x.state) ≡ false → SameAccesses t (t ++ x ∷ [])
accesses_grown t x none fresh = record {
  none = none;
  none_too = λ n. new n (cases_lt n (suc (length t)));
  each = λ n h. record {
    touched = λ c. node_grown t (x ∷ []) (λ y. touches_kind c y.kind) n h;
    stamp = number_grown t (x ∷ []) (λ y. y.stamp) n h;
    wrote = ap (value_in written_kind) (get_append t (x ∷ []) n h);
    read = ap (value_in read_kind) (get_append t (x ∷ []) n h);
  };
} where
  new : (n : ℕ) → (n < suc (length t)) ⊎ (suc (length t) ≤ n) → is_aborted (t ++ x ∷ []) n ≡ false
  new n (inl h) =
      elim (at_or_before n (length t) h) [
        | inl old ↦ node_grown t (x ∷ []) (λ y. is_block_kind y.kind && is_aborted_state y.state) n old ∙ none n
        | inr e ↦ ap (is_aborted (t ++ x ∷ [])) (sym e) ∙ node_new t x (λ y. is_block_kind y.kind && is_aborted_state y.state) ∙ fresh
      ]
  new n (inr past) = ap (passes (λ y. is_block_kind y.kind && is_aborted_state y.state)) (slice_get_past (t ++ x ∷ []) n (omega (arith, length_more t x)))

-- a closed block
pub accesses_closed : (t : List Node) (b : ℕ) (state : BlockState) (end : ℕ) → ((n : ℕ) → is_aborted t n ≡ false) → is_aborted_state state ≡ false → SameAccesses t (closed t b state end)
accesses_closed t b state end none e = record {
  none = none;
  none_too = λ n. aborted_closed t b state end (none b) e n ∙ none n;
  each = λ n h. record {
    touched = λ c. node_closed t b state end (λ x. touches_kind c x.kind) (λ x. refl) n;
    stamp = number_closed t b state end (λ x. x.stamp) (λ x. refl) n;
    wrote = same_closed t b state end (value_in written_kind) (λ x. refl) n;
    read = same_closed t b state end (value_in read_kind) (λ x. refl) n;
  };
}

module _ (t u : List Node) (s : SameAccesses t u) (c : ℕ) where
  first_same : accesses_below u c (length t) ≡ accesses_below t c (length t)
  first_same = filter_same (touches u c) (touches t c) (below (length t)) (λ n h. (s.each n (in_below n (length t) h)).touched c)

  first_keys : by_key (stamp_of u) (accesses_below t c (length t)) ≡ live_accesses t c
  first_keys = by_key_same (stamp_of u) (stamp_of t) (accesses_below t c (length t)) (λ n h. (s.each n (in_below n (length t) (in_filter (touches t c) n (below (length t)) h).0)).stamp) ∙ sym (all_live t s.none c)

  -- where no node comes in
  pub live_same : length u ≡ length t → live_accesses u c ≡ live_accesses t c
  live_same len = all_live u s.none_too c ∙ ap (λ k. by_key (stamp_of u) (accesses_below u c k)) len ∙ ap (by_key (stamp_of u)) first_same ∙ first_keys

  module _ (len : length u ≡ suc (length t)) where
    one_more : accesses_below u c (length u) ≡ accesses_below t c (length t) ++ filter (touches u c) (length t ∷ [])
    one_more = ap (accesses_below u c) len ∙ filter-append (touches u c) (below (length t)) (length t ∷ []) ∙ ap (λ ns. ns ++ filter (touches u c) (length t ∷ [])) first_same

    -- where the node that comes in is no access of the cell
    pub live_stays : touches u c (length t) ≡ false → live_accesses u c ≡ live_accesses t c
    live_stays e =
        all_live u s.none_too c
        ∙ ap (by_key (stamp_of u)) (one_more ∙ ap (λ b. accesses_below t c (length t) ++ cond b (length t ∷ []) []) e ∙ append-nil (accesses_below t c (length t)))
        ∙ first_keys

    -- where it is one, and no node has a greater stamp
    pub live_more : touches u c (length t) ≡ true → ((n : ℕ) → n < length t → stamp_of t n ≤ stamp_of u (length t)) → live_accesses u c ≡ live_accesses t c ++ length t ∷ []
    live_more e newest =
        all_live u s.none_too c
        ∙ ap (by_key (stamp_of u)) (one_more ∙ ap (λ b. accesses_below t c (length t) ++ cond b (length t ∷ []) []) e)
        ∙ by_key_last (stamp_of u) (length t) (accesses_below t c (length t)) (λ n h.
        let low : n < length t = in_below n (length t) (in_filter (touches t c) n (below (length t)) h).0 in
        let le : stamp_of t n ≤ stamp_of u (length t) = newest n low in
        omega (arith, (s.each n low).stamp))
        ∙ ap (λ ns. ns ++ length t ∷ []) first_keys

-- their stamps rise
pub live_rises : (t : List Node) (c : ℕ) → AreStamps t → Rises (map (stamp_of t) (live_accesses t c))
live_rises t c s =
    let lives : ℕ → Bool = λ n. touches t c n && is_live t n in
    let ns : List ℕ = filter lives (all_nodes t) in
    by_key_rises (stamp_of t) ns
    (apart_map (stamp_of t) ns
    (λ x y i j e.
    let a = in_filter lives x (all_nodes t) i in
    let b = in_filter lives y (all_nodes t) j in
    s.distinct x y (in_below x (length t) a.0) (in_below y (length t) b.0) (access_stamped t s c x (and_parts (touches t c x) (is_live t x) a.1).0) e)
    (rises_apart ns (rises_filter lives (all_nodes t) (below_rises (length t)))))
