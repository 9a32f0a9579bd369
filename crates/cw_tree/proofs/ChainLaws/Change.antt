-- Chains and conflicts as nodes are added and as blocks are closed.
use Rattle.std.proofs.Common.{◌≡◌, ℕ, ◌<◌, ◌≤◌, List, [], ◌∷◌, ◌++◌, length, refl, ap, sym, ◌∙◌, arith, Bool, true, false, Option, Some, None, inl, inr}
use Rattle.std.specs.Prelude.{◌&&◌, ◌||◌, not}
use Rattle.std.proofs.lemmas.Bool.{cases_eq, and_parts, ne_eqb}
use Rattle.std.proofs.lemmas.List.Elements.{All-head, All-tail}
use Rattle.cw_tree.specs.declared.node.Node.{Node}
use Rattle.cw_tree.specs.declared.node.BlockState.{BlockState}
use Rattle.cw_tree.specs.Nodes.{is_block_kind, is_pending_state, is_block, is_pending, closed}
use Rattle.cw_tree.specs.Walks.{IsRooted, has, is_above, is_ancestor, nua, conflict}
use Rattle.cw_tree.specs.Accesses.{lets_follow, IsChain}
use Rattle.cw_tree.specs.AccessStacks.{newest_conflicts, AreThere}
use Rattle.cw_tree.specs.ChainLaws.{ChainsGrow, ChainsClose, ConflictsAt, ConflictsGrow, ConflictsClose, NewestGrow, NewestClose, ChainsExtend}
use Rattle.cw_tree.proofs.Walks.Ancestors.{ancestor_le, above_ancestor}
use Rattle.cw_tree.proofs.NextNodes.Kept.{nua_kept}
use Rattle.cw_tree.proofs.NextNodes.Growing.{node_grown, keeps_grown, length_more, is_above_grown, ancestor_grown, rooted_more, above_new, ancestor_new}
use Rattle.cw_tree.proofs.NextNodes.Closing.{length_closed, node_closed_other, state_closed, is_above_closed, ancestor_closed, rooted_closed}
use Rattle.cw_tree.proofs.ChainLaws.Nearest.{first_found, follows_passes, passes_follows, free_passes, passes_free}
use Rattle.cw_tree.proofs.ChainLaws.Chains.{there_in, chain_kept}

above_there : (t : List Node) → IsRooted t → (b n : ℕ) → n < length t → is_above t b n ≡ true → b < length t
above_there t r b n h over = let le : b ≤ n = ancestor_le t r b n h (above_ancestor t b n over) in omega arith

pub nua_there : (t : List Node) → IsRooted t → (n b : ℕ) → n < length t → nua t n ≡ Some b → b < length t
nua_there t r n b h e = above_there t r b n h (first_found t r (is_pending t) n h b e).over

-- ## More nodes

module _ (t s : List Node) (r : IsRooted t) where
  pub nua_grown : (n : ℕ) → n < length t → nua (t ++ s) n ≡ nua t n
  nua_grown = nua_kept t (t ++ s) (keeps_grown t s r) (node_grown t s (λ x. is_block_kind x.kind && is_pending_state x.state))

  follows_same : (x y : Option ℕ) → ((b : ℕ) → y ≡ Some b → b < length t) → lets_follow (t ++ s) x y ≡ lets_follow t x y
  follows_same None y h = refl
  follows_same (Some a) None h = refl
  follows_same (Some a) (Some b) h = ancestor_grown t s r a b (h b refl)

  follows_grown : (x y : ℕ) → x < length t → y < length t → lets_follow t (nua t x) (nua t y) ≡ true → lets_follow (t ++ s) (nua (t ++ s) x) (nua (t ++ s) y) ≡ true
  follows_grown x y hx hy e = rw (nua_grown x hx, nua_grown y hy) (follows_same (nua t x) (nua t y) (λ b q. nua_there t r y b hy q) ∙ e)

pub chains_grow : ChainsGrow
chains_grow t s us r h = chain_kept t (t ++ s) us (λ x y i j e. follows_grown t s r x y (there_in (length t) us h x i) (there_in (length t) us h y j) e)

-- whether an access conflicts, by the nearest pending block of the other
pub bars : List Node → Option ℕ → ℕ → Bool
bars t None v = false
bars t (Some b) v = not (is_ancestor t b v)

pub conflict_bars : (t : List Node) (u v : ℕ) (o : Option ℕ) → nua t u ≡ o → conflict t u v ≡ bars t o v
unfolding bars
conflict_bars t u v None e = rw e refl
conflict_bars t u v (Some b) e = rw e refl

-- a node v of another tree has the ancestors that p has here, among the nodes that are here
bars_same : (t u : List Node) (v p : ℕ) (o : Option ℕ) → ((b : ℕ) → o ≡ Some b → is_ancestor u b v ≡ is_ancestor t b p) → bars u o v ≡ bars t o p
unfolding bars
bars_same t u v p None e = refl
bars_same t u v p (Some b) e = ap not (e b refl)

conflict_same : (t s : List Node) → IsRooted t → (u v p : ℕ) → u < length t → ((b : ℕ) → b < length t → is_ancestor (t ++ s) b v ≡ is_ancestor t b p) → conflict (t ++ s) u v ≡ conflict t u p
conflict_same t s r u v p hu e =
    conflict_bars (t ++ s) u v (nua t u) (nua_grown t s r u hu)
    ∙ bars_same t (t ++ s) v p (nua t u) (λ b q. e b (nua_there t r u b hu q))
    ∙ sym (conflict_bars t u p (nua t u) refl)

pub conflicts_grow : ConflictsGrow
conflicts_grow t s u p r hu hp = conflict_same t s r u p p hu (λ b h. ancestor_grown t s r b p hp)

pub conflicts_at : ConflictsAt
conflicts_at t x u r hu hp =
    conflict_same t (x ∷ []) r u (length t) x.parent hu
    (λ b h. ancestor_new t x r hp b ∙ ap (λ q. q || is_ancestor t b x.parent) (ne_eqb (length t) b (λ z. absurd (omega arith))))

-- ## A new access behind the newest

module _ (t : List Node) (x : Node) (r : IsRooted t) (hp : x.parent < length t) where
  follows_new : (u : ℕ) → u < length t → conflict t u x.parent ≡ false → lets_follow (t ++ x ∷ []) (nua (t ++ x ∷ []) u) (nua (t ++ x ∷ []) (length t)) ≡ true
  follows_new u hu e =
      let len = length_more t x in
      passes_follows (t ++ x ∷ []) (rooted_more t x r hp) u (length t) (omega arith) (omega arith)
      (λ b pending over.
      let up : is_above t b u ≡ true = sym (is_above_grown t (x ∷ []) r b u hu) ∙ over in
      let there : b < length t = above_there t r b u hu up in
      let was : is_pending t b ≡ true = sym (node_grown t (x ∷ []) (λ y. is_block_kind y.kind && is_pending_state y.state) b there) ∙ pending in
      ap (λ ns. has ns b) (above_new t x r hp) ∙ free_passes t r u x.parent hu hp e b was up)

  extended : (us : List ℕ) → AreThere t us → IsChain t us → newest_conflicts t us x.parent ≡ false → IsChain (t ++ x ∷ []) (us ++ length t ∷ [])
  extended [] h c e = tt
  extended (u ∷ []) h c e = (follows_new u (All-head (λ n. n < length t) u [] h) e, tt)
  extended (u ∷ v ∷ us) h c e =
      let rest : AreThere t (v ∷ us) = All-tail (λ n. n < length t) u (v ∷ us) h in
      (follows_grown t (x ∷ []) r u v (All-head (λ n. n < length t) u (v ∷ us) h) (All-head (λ n. n < length t) v us rest) c.0, extended (v ∷ us) rest c.1 e)

pub chains_extend : ChainsExtend
chains_extend t x us r hp = extended t x r hp us

-- ## Closed blocks

-- a block that is closed is pending no more
pending_closed : (t : List Node) (b : ℕ) (state : BlockState) (end : ℕ) → is_pending_state state ≡ false → (n : ℕ) → is_pending (closed t b state end) n ≡ true → is_pending t n ≡ true
pending_closed t b state end done n e =
    elim (cases_eq n b) [
      | inl q ↦
          (let z = and_parts (is_block t b) (is_pending_state state) (sym (state_closed t b state end is_pending_state) ∙ ap (is_pending (closed t b state end)) (sym q) ∙ e) in
          absurd (cc (z.1, done)))
      | inr ne ↦ sym (node_closed_other t b state end (λ x. is_block_kind x.kind && is_pending_state x.state) n ne) ∙ e
    ]

module _ (t : List Node) (b : ℕ) (state : BlockState) (end : ℕ) (r : IsRooted t) (done : is_pending_state state ≡ false) where
  follows_closed : (x y : ℕ) → x < length t → y < length t → lets_follow t (nua t x) (nua t y) ≡ true → lets_follow (closed t b state end) (nua (closed t b state end) x) (nua (closed t b state end) y) ≡ true
  follows_closed x y hx hy e =
      let len = length_closed t b state end in
      passes_follows (closed t b state end) (rooted_closed t b state end r) x y (omega arith) (omega arith)
      (λ a p over.
      is_above_closed t b state end r a y hy
      ∙ follows_passes t r x y hx hy e a (pending_closed t b state end done a p) (sym (is_above_closed t b state end r a x hx) ∙ over))

  free_closed : (x p : ℕ) → x < length t → p < length t → conflict t x p ≡ false → conflict (closed t b state end) x p ≡ false
  free_closed x p hx hp e =
      let len = length_closed t b state end in
      passes_free (closed t b state end) (rooted_closed t b state end r) x p (omega arith)
      (λ a f over.
      ancestor_closed t b state end r a p hp
      ∙ free_passes t r x p hx hp e a (pending_closed t b state end done a f) (sym (is_above_closed t b state end r a x hx) ∙ over))

pub chains_close : ChainsClose
chains_close t us b state end r h done =
    chain_kept t (closed t b state end) us (λ x y i j e. follows_closed t b state end r done x y (there_in (length t) us h x i) (there_in (length t) us h y j) e)

pub conflicts_close : ConflictsClose
conflicts_close t u p b state end r hu hp done = free_closed t b state end r done u p hu hp

-- ## The newest of some accesses

pub newest_grow : NewestGrow
newest_grow t s [] p r h hp = refl
newest_grow t s (u ∷ []) p r h hp = conflicts_grow t s u p r (All-head (λ n. n < length t) u [] h) hp
newest_grow t s (u ∷ v ∷ us) p r h hp = newest_grow t s (v ∷ us) p r (All-tail (λ n. n < length t) u (v ∷ us) h) hp

pub newest_close : NewestClose
newest_close t [] p b state end r h hp done e = e
newest_close t (u ∷ []) p b state end r h hp done e = conflicts_close t u p b state end r (All-head (λ n. n < length t) u [] h) hp done e
newest_close t (u ∷ v ∷ us) p b state end r h hp done e = newest_close t (v ∷ us) p b state end r (All-tail (λ n. n < length t) u (v ∷ us) h) hp done e
