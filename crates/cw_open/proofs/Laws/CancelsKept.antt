-- The list of a cancel stays right as nodes come in, as blocks are closed and as what they did is undone.
use Rattle.std.proofs.Common.{◌≡◌, ℕ, ◌<◌, List, ◌++◌, length, map, refl, ap, sym, ◌∙◌, arith, true}
use Rattle.std.specs.Prelude.{not, ℤ, pos, filter, is_some, slice_index_or}
use Rattle.std.proofs.lemmas.List.{map-append}
use Rattle.cw_code.specs.declared.Back.{Back}
use Rattle.cw_tree.specs.declared.node.Node.{Node}
use Rattle.cw_tree.specs.declared.node.BlockState.{BlockState}
use Rattle.cw_tree.specs.Nodes.{touches_kind, stamp_of, is_block, is_pending, touches, below, closed}
use Rattle.cw_tree.specs.Walks.{IsRooted, is_above}
use Rattle.cw_tree.specs.Shape.{AreStamps}
use Rattle.cw_tree.specs.Accesses.{is_live, live_accesses, written, written_kind, value_in, cell_value, HasAccess, IsChainOf}
use Rattle.cw_tree.specs.AccessStacks.{access_at}
use Rattle.cw_tree.specs.Cancels.{wrote_in}
use Rattle.cw_tree.proofs.Lists.{In}
use Rattle.cw_tree.proofs.Members.{filter_same, map_in}
use Rattle.cw_tree.proofs.Cancels.{wrote_same, live_is, is_live_access, left_before, before_same, before_front}
use Rattle.cw_tree.proofs.Walks.There.{node_there}
use Rattle.cw_tree.proofs.NextNodes.Growing.{get_append, node_grown, number_grown, is_above_grown}
use Rattle.cw_tree.proofs.NextNodes.Closing.{node_closed, number_closed, same_closed, is_above_closed}
use Rattle.cw_tree.proofs.ChainLaws.Stamps.{stamps_beneath}
use Rattle.cw_open.specs.Machine.{OpenMachine, live}
use Rattle.cw_open.proofs.Laws.Chained.{same_name}
use Rattle.cw_open.proofs.Laws.Named.{access_named}
use Rattle.cw_open.proofs.Laws.Cancelling.{IsListedCancel}

-- ## Two trees

-- the accesses of cell c are in tree u what they were in t, and stand to block b as they did
pub record AreAsBefore (t u : List Node) (c b : ℕ) : Type 0 where
  pub touched : (n : ℕ) → touches t c n ≡ true → touches u c n ≡ true
  pub stamps : (n : ℕ) → touches t c n ≡ true → stamp_of u n ≡ stamp_of t n
  pub over : (n : ℕ) → touches t c n ≡ true → is_above u b n ≡ is_above t b n
  pub wrote : (n : ℕ) → touches t c n ≡ true → written u n ≡ written t n

pub as_grown : (t xs : List Node) → IsRooted t → (c b : ℕ) → AreAsBefore t (t ++ xs) c b
as_grown t xs r c b =
    let there : (n : ℕ) → touches t c n ≡ true → n < length t = node_there (λ y. touches_kind c y.kind) t in
    record {
      touched = λ n e. node_grown t xs (λ y. touches_kind c y.kind) n (there n e) ∙ e;
      stamps = λ n e. number_grown t xs (λ y. y.stamp) n (there n e);
      over = λ n e. is_above_grown t xs r b n (there n e);
      wrote = λ n e. ap (value_in written_kind) (get_append t xs n (there n e));
    }

pub as_closed : (t : List Node) (p : ℕ) (state : BlockState) (end : ℕ) → IsRooted t → (c b : ℕ) → AreAsBefore t (closed t p state end) c b
as_closed t p state end r c b = record {
  touched = λ n e. node_closed t p state end (λ y. touches_kind c y.kind) (λ y. refl) n ∙ e;
  stamps = λ n e. number_closed t p state end (λ y. y.stamp) (λ y. refl) n;
  over = λ n e. is_above_closed t p state end r b n (node_there (λ y. touches_kind c y.kind) t n e);
  wrote = λ n e. same_closed t p state end (value_in written_kind) (λ y. refl) n;
}

module _ (t u : List Node) (c b : ℕ) (a : AreAsBefore t u c b) where
  -- the block wrote the cell before a stamp where it had, if nothing of that dies and nothing comes to it
  pub wrote_kept : (stamp : ℕ) → ((n : ℕ) → touches t c n ≡ true → is_live t n ≡ true → is_above t b n ≡ true → stamp_of t n < stamp → is_live u n ≡ true)
      → ((n : ℕ) → touches u c n ≡ true → is_live u n ≡ true → is_above u b n ≡ true → stamp_of u n < stamp → (touches t c n ≡ true) × (is_live t n ≡ true))
      → wrote_in u b stamp (live_accesses u c) ≡ wrote_in t b stamp (live_accesses t c)
  wrote_kept stamp lives was =
      wrote_same t u b stamp b stamp (live_accesses t c) (live_accesses u c)
      (λ n w.
      let z = live_is t c n w.member in
      let less = w.earlier in (
        n,
        record {
          member = is_live_access u c n (a.touched n z.0) (lives n z.0 z.1 w.over less);
          over = a.over n z.0 ∙ w.over;
          earlier = omega (arith, less, a.stamps n z.0);
          wrote = ap is_some (a.wrote n z.0) ∙ w.wrote;
        },
      ))
      (λ n w.
      let y = live_is u c n w.member in
      let less = w.earlier in
      let z = was n y.0 y.1 w.over less in (
        n,
        record {
          member = is_live_access t c n z.0 z.1;
          over = sym (a.over n z.0) ∙ w.over;
          earlier = omega (arith, less, a.stamps n z.0);
          wrote = ap is_some (sym (a.wrote n z.0)) ∙ w.wrote;
        },
      ))

  -- and what a list of its accesses had before the block stays
  module _ (st : AreStamps t) (su : AreStamps u) (us : List ℕ) (accesses : (v : ℕ) → In v us → HasAccess t c v) where
    pub named_kept : (v : ℕ) → In v us → access_at u v ≡ access_at t v
    named_kept v i = let h = accesses v i in same_name t u st su c v h.0 h.1 h.2 (a.touched h.0 h.1) (a.stamps h.0 h.1 ∙ h.2)

    touched_at : (v : ℕ) → In v us → touches t c (access_at t v) ≡ true
    touched_at v i = let h = accesses v i in ap (touches t c) (ap (access_at t) (sym h.2) ∙ access_named t st c h.0 h.1) ∙ h.1

    pub over_kept : (v : ℕ) → In v us → is_above u b (access_at u v) ≡ is_above t b (access_at t v)
    over_kept v i = ap (is_above u b) (named_kept v i) ∙ a.over (access_at t v) (touched_at v i)

    pub left_kept : (f : ℤ) → left_before u f b (map (access_at u) us) ≡ left_before t f b (map (access_at t) us)
    left_kept f =
        ap (cell_value f)
        (before_same t u b b (access_at t) (access_at u) us
        (λ v i. (over_kept v i, ap (written u) (named_kept v i) ∙ a.wrote (access_at t v) (touched_at v i))))

-- ## Two states

-- an access is beneath block b in the list of cell c, and what the list had before the block is what it was
pub record IsLeft (m k : OpenMachine) (b c v : ℕ) : Type 0 where
  pub member : In v (live m c)
  pub over : is_above m.tree b (access_at m.tree v) ≡ true
  pub left : (f : ℤ) → left_before k.tree f b (map (access_at k.tree) (live k c)) ≡ left_before m.tree f b (map (access_at m.tree) (live m c))

pub cancel_kept : (m k : OpenMachine) (x : Node) (back : List Back) → IsListedCancel m x back → k.first ≡ m.first → is_block k.tree x.parent ≡ true
    → ((c : ℕ) → wrote_in k.tree x.parent x.stamp (live_accesses k.tree c) ≡ wrote_in m.tree x.parent x.stamp (live_accesses m.tree c))
    → ((c v : ℕ) → In v (live k c) → is_above k.tree x.parent (access_at k.tree v) ≡ true → v < x.stamp → IsLeft m k x.parent c v)
    → IsListedCancel k x back
cancel_kept m k x back h same block wrote lists = record {
  block = block;
  cells =
      h.cells
      ∙ ap (λ vs. filter (λ c. wrote_in m.tree x.parent x.stamp (live_accesses m.tree c)) (below (length vs))) (sym same)
      ∙ sym
      (filter_same (λ c. wrote_in k.tree x.parent x.stamp (live_accesses k.tree c)) (λ c. wrote_in m.tree x.parent x.stamp (live_accesses m.tree c))
      (below (length k.first)) (λ c i. wrote c));
  values = λ e v i j over less. (
      let z = lists e.cell v j over less in
      h.values e v i z.member z.over less
      ∙ sym (z.left (slice_index_or m.first e.cell (pos 0)))
      ∙ ap (λ vs. left_before k.tree (slice_index_or vs e.cell (pos 0)) x.parent (map (access_at k.tree) (live k e.cell))) (sym same));
}

-- what goes from the end of a list leaves what was before an access that stays
pub left_front : (t : List Node) (b : ℕ) (us vs : List ℕ) (v : ℕ) → In v us → is_above t b (access_at t v) ≡ true → (f : ℤ)
    → left_before t f b (map (access_at t) (us ++ vs)) ≡ left_before t f b (map (access_at t) us)
left_front t b us vs v i over f =
    ap (left_before t f b) (map-append (access_at t) us vs)
    ∙ ap (λ ns. cell_value f (map (written t) ns))
    (before_front t b (map (access_at t) us) (map (access_at t) vs) (access_at t v) (map_in (access_at t) v us i) over)

-- so does what is undone of a block, from a chain
pub left_undone : (t : List Node) (c p b : ℕ) (us : List ℕ) → IsRooted t → is_pending t p ≡ true → IsChainOf t c us → (v : ℕ)
    → In v (filter (λ s. not (is_above t p (access_at t s))) us) → is_above t b (access_at t v) ≡ true
    → (f : ℤ) → left_before t f b (map (access_at t) (filter (λ s. not (is_above t p (access_at t s))) us)) ≡ left_before t f b (map (access_at t) us)
left_undone t c p b us r pending chain v i over f =
    let kept = filter (λ s. not (is_above t p (access_at t s))) us in
    let gone = filter (λ s. is_above t p (access_at t s)) us in
    sym (left_front t b kept gone v i over f) ∙ ap (λ ns. left_before t f b (map (access_at t) ns)) (sym (stamps_beneath t c p us r pending chain))
