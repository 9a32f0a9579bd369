-- Accesses by their stamps, and which nodes are live, as the tree changes.
use Rattle.std.proofs.Common.{◌≡◌, inl, inr, ℕ, ◌<◌, List, [], ◌∷◌, ◌++◌, length, refl, ap, sym, ◌∙◌, arith, Bool, true, false, cond, Option, Some, None, nat_eq}
use Rattle.std.specs.Prelude.{◌&&◌, not, unwrap_or}
use Rattle.std.specs.List.{find, list_all}
use Rattle.std.proofs.lemmas.Bool.{and_parts, and_from, and_right, not-true, not_from_false, false_from_ne_true, cases_eq, eqb-true}
use Rattle.cw_tree.specs.declared.node.Node.{Node}
use Rattle.cw_tree.specs.declared.node.BlockState.{BlockState}
use Rattle.cw_tree.specs.declared.node.BlockState.TheVariants.{Pending, Committed, Aborted}
use Rattle.cw_tree.specs.Nodes.{is_block_kind, is_pending_state, is_aborted_state, touches_kind, stamp_of, is_strand, is_block, is_pending, is_aborted, touches, all_nodes, closed}
use Rattle.cw_tree.specs.Walks.{IsRooted, path, above, is_ancestor, is_above}
use Rattle.cw_tree.specs.Series.{strand_of}
use Rattle.cw_tree.specs.Shape.{AreStamps}
use Rattle.cw_tree.specs.Accesses.{is_live}
use Rattle.cw_tree.specs.AccessStacks.{access_at}
use Rattle.cw_tree.specs.NextNodes.{IsPlace}
use Rattle.cw_tree.proofs.Lists.{all_in, all_from}
use Rattle.cw_tree.proofs.Walks.There.{node_there}
use Rattle.cw_tree.proofs.Walks.Kin.{in_ancestor, in_above, above_in}
use Rattle.cw_tree.proofs.Walks.Ancestors.{above_ancestor, ancestor_le}
use Rattle.cw_tree.proofs.NextNodes.Growing.{node_grown, above_grown, above_new}
use Rattle.cw_tree.proofs.NextNodes.Closing.{node_closed_other, state_closed, is_above_closed}
use Rattle.cw_tree.proofs.ChainLaws.Stamps.{named}
use Rattle.cw_tree.proofs.Members.{all_same}
use Rattle.cw_tree.proofs.NodeKinds.{node_tells, access_stamped, aborted_block}

-- ## What a stamp names

pub find_passes : (p : ℕ → Bool) (xs : List ℕ) (m : ℕ) → find p xs ≡ Some m → p m ≡ true
find_passes p [] m e = absurd (cc e)
find_passes p (x ∷ xs) m e = by (p x) refl e (find_passes p xs m) where
  by : (b : Bool) → p x ≡ b → cond b (Some x) (find p xs) ≡ Some m → (find p xs ≡ Some m → p m ≡ true) → p m ≡ true
  by true is f more = let same : x ≡ m = cc f in sym (ap p same) ∙ is
  by false is f more = more f

-- the strand of a node is one
pub strand_is : (t : List Node) → is_strand t 0 ≡ true → (n : ℕ) → is_strand t (strand_of t n) ≡ true
strand_is t root n = by (find (is_strand t) (path t n)) refl where
  by : (o : Option ℕ) → find (is_strand t) (path t n) ≡ o → is_strand t (unwrap_or o 0) ≡ true
  by None e = root
  by (Some s) e = find_passes (is_strand t) (path t n) s e

-- and the stamp names it
pub access_named : (t : List Node) → AreStamps t → (c n : ℕ) → touches t c n ≡ true → access_at t (stamp_of t n) ≡ n
access_named t s c n e =
    let w = named t c (stamp_of t n) (n, e, refl) in
    let same : stamp_of t (access_at t (stamp_of t n)) ≡ stamp_of t n = eqb-true (stamp_of t (access_at t (stamp_of t n))) (stamp_of t n) (find_passes (λ m. nat_eq (stamp_of t m) (stamp_of t n)) (all_nodes t) (access_at t (stamp_of t n)) w.found) in
    let some = access_stamped t s c n e in
    s.distinct (access_at t (stamp_of t n)) n w.there (node_there (λ x. touches_kind c x.kind) t n e) (omega (arith, same)) same

-- ## Live nodes

-- what is above a live node was not rolled back
pub live_tells : (t : List Node) (n b : ℕ) → is_live t n ≡ true → is_above t b n ≡ true → is_aborted t b ≡ false
live_tells t n b e over = not-true (is_aborted t b) (all_in (λ a. not (is_aborted t a)) b (above t n) e (above_in t b n over))

pub live_from : (t : List Node) (n : ℕ) → ((b : ℕ) → is_above t b n ≡ true → is_aborted t b ≡ false) → is_live t n ≡ true
live_from t n f = all_from (λ a. not (is_aborted t a)) (above t n) (λ b i. not_from_false (is_aborted t b) (f b (in_above t b n i)))

pub live_grown : (t s : List Node) → IsRooted t → (n : ℕ) → n < length t → is_live (t ++ s) n ≡ is_live t n
live_grown t s r n h =
    ap (list_all (λ a. not (is_aborted (t ++ s) a))) (above_grown t s r n h)
    ∙ all_same (λ a. not (is_aborted (t ++ s) a)) (λ a. not (is_aborted t a)) (above t n)
    (λ b i.
    let le = ancestor_le t r b n h (above_ancestor t b n (in_above t b n i)) in
    ap not (node_grown t s (λ x. is_block_kind x.kind && is_aborted_state x.state) b (omega arith)))

both_states : (s : BlockState) → is_aborted_state s ≡ true → is_pending_state s ≡ false
both_states Aborted e = refl
both_states Pending e = absurd (cc e)
both_states Committed e = absurd (cc e)

pub aborted_done : (t : List Node) (n : ℕ) → is_aborted t n ≡ true → is_pending t n ≡ false
aborted_done t =
    node_tells false t (λ x. is_block_kind x.kind && is_aborted_state x.state) (λ x. is_block_kind x.kind && is_pending_state x.state)
    (λ x e. let z = and_parts (is_block_kind x.kind) (is_aborted_state x.state) e in and_right (is_block_kind x.kind) (is_pending_state x.state) (both_states x.state z.1))

-- the blocks around a place were not rolled back
pub none_aborted : (t : List Node) (p : ℕ) → IsPlace t p → (b : ℕ) → is_ancestor t b p ≡ true → is_aborted t b ≡ false
none_aborted t p w b over = false_from_ne_true (is_aborted t b) (λ e. absurd (cc (aborted_done t b e, w.around b (and_from (is_block t b) (is_ancestor t b p) (aborted_block t b e) over))))

-- so a node that is made there is live
pub live_new : (t : List Node) (x : Node) → IsRooted t → IsPlace t x.parent → is_live (t ++ x ∷ []) (length t) ≡ true
live_new t x r w =
    ap (list_all (λ a. not (is_aborted (t ++ x ∷ []) a))) (above_new t x r w.there)
    ∙ all_from (λ a. not (is_aborted (t ++ x ∷ []) a)) (path t x.parent)
    (λ b i.
    let over = in_ancestor t b x.parent i in
    let there = w.there in
    let le = ancestor_le t r b x.parent there over in
    not_from_false (is_aborted (t ++ x ∷ []) b) (node_grown t (x ∷ []) (λ y. is_block_kind y.kind && is_aborted_state y.state) b (omega arith) ∙ none_aborted t x.parent w b over))

-- a block is closed that was pending
module _ (t : List Node) (r : IsRooted t) (p : ℕ) (state : BlockState) (end : ℕ) where
  abbrev v : List Node
  v = closed t p state end

  was_aborted : is_pending t p ≡ true → (b : ℕ) → is_aborted v b ≡ false → is_aborted t b ≡ false
  was_aborted pending b e = elim (cases_eq b p) [
    | inl q ↦ false_from_ne_true (is_aborted t b) (λ f. absurd (cc (ap (is_pending t) q, pending, aborted_done t b f)))
    | inr ne ↦ sym (node_closed_other t p state end (λ y. is_block_kind y.kind && is_aborted_state y.state) b ne) ∙ e
  ]

  -- what is live then was live
  pub was_live : is_pending t p ≡ true → (n : ℕ) → n < length t → is_live v n ≡ true → is_live t n ≡ true
  was_live pending n h e = live_from t n (λ b over. was_aborted pending b (live_tells v n b e (is_above_closed t p state end r b n h ∙ over)))

  -- and what was live is live still, unless it stands in a block that is rolled back
  pub live_closed : (n : ℕ) → n < length t → is_live t n ≡ true → (is_above t p n ≡ true → is_aborted_state state ≡ false) → is_live v n ≡ true
  live_closed n h l kept =
      live_from v n (λ b over.
      let up = sym (is_above_closed t p state end r b n h) ∙ over in
      elim (cases_eq b p) [
        | inl q ↦ ap (is_aborted v) q
            ∙ state_closed t p state end is_aborted_state
            ∙ and_right (is_block t p) (is_aborted_state state) (kept (ap (λ c. is_above t c n) (sym q) ∙ up))
        | inr ne ↦ node_closed_other t p state end (λ y. is_block_kind y.kind && is_aborted_state y.state) b ne ∙ live_tells t n b l up
      ])
