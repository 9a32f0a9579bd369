-- Each step keeps of the lists of live accesses what is true of them: blocks are closed, and what they did is undone.
use Rattle.std.proofs.Common.{◌≡◌, ◌≢◌, ℕ, ◌<◌, List, [], length, refl, ap, sym, ◌∙◌, subst, arith, Bool, true, false, inl, inr, append-nil}
use Rattle.std.specs.Prelude.{◌⊎◌, ◌&&◌, not, slice_set}
use Rattle.std.proofs.lemmas.Bool.{and_from, cases_Bool, cases_eq, not_from_false}
use Rattle.std.proofs.lemmas.List.{length-set}
use Rattle.std.proofs.lemmas.List.Elements.{All-weaker}
use Rattle.cw_tree.specs.declared.node.Node.{Node}
use Rattle.cw_tree.specs.declared.node.BlockState.{BlockState}
use Rattle.cw_tree.specs.Nodes.{is_block_kind, is_pending_state, is_aborted_state, touches_kind, stamp_of, is_block, is_pending, is_aborted, touches, closed}
use Rattle.cw_tree.specs.Walks.{IsRooted, is_ancestor, is_above}
use Rattle.cw_tree.specs.Series.{strand_of}
use Rattle.cw_tree.specs.Shape.{AreStamps}
use Rattle.cw_tree.specs.Accesses.{is_live}
use Rattle.cw_tree.specs.Journals.{fits_cells}
use Rattle.cw_tree.specs.AccessStacks.{access_at}
use Rattle.cw_tree.specs.NextNodes.{IsPlace}
use Rattle.cw_tree.proofs.Lists.{In}
use Rattle.cw_tree.proofs.Members.{in_filter, filter_in}
use Rattle.cw_tree.proofs.Walks.There.{node_there}
use Rattle.cw_tree.proofs.Walks.Ancestors.{ancestor_above}
use Rattle.cw_tree.proofs.NextNodes.Closing.{length_closed, node_closed, number_closed, state_closed, ancestor_closed, is_above_closed, strand_of_closed}
use Rattle.cw_tree.proofs.NextNodes.Pending.{pending_stays}
use Rattle.cw_tree.proofs.Rising.{Rises, rises_filter}
use Rattle.cw_tree.proofs.NodeKinds.{pending_block}
use Rattle.cw_open.specs.Machine.{OpenMachine, live, leads_back}
use Rattle.cw_open.specs.Steps.{live_beside}
use Rattle.cw_open.specs.Open.{is_open}
use Rattle.cw_open.proofs.Refused.Falling.{Holds, IsGone, StayShut, back_kept}
use Rattle.cw_open.proofs.Laws.Listing.{AreListed, listed, with_parts}
use Rattle.cw_open.proofs.Laws.ListSteps.{listed_here, listed_other}
use Rattle.cw_open.proofs.Laws.Named.{access_named, live_tells, was_live, live_closed}

-- ## The block at a place is closed

module _ (m : OpenMachine) (r : IsRooted m.tree) (a : AreListed m) (p : ℕ) (place : IsPlace m.tree p) (pending : is_pending m.tree p ≡ true)
    (state : BlockState) (end clock : ℕ) (finished : List (ℕ × Bool)) (joined stopped : List ℕ)
    (still : StayShut m (with_parts m (closed m.tree p state end) m.lists clock m.conflicts finished joined stopped)) where
  abbrev t : List Node
  t = m.tree

  abbrev v : List Node
  v = closed t p state end

  abbrev k : OpenMachine
  k = with_parts m v m.lists clock m.conflicts finished joined stopped

  len : length v ≡ length t
  len = length_closed t p state end

  -- another pending block stays pending, and what it stands in too
  holds_closed : (s b : ℕ) → b < length t → is_pending t b ≡ true → b ≢ p → Holds t v s b
  holds_closed s b h e ne = record {
    longer = omega (arith, len);
    above = λ n l. is_above_closed t p state end r s n l;
    over = λ x. ancestor_closed t p state end r x b h;
    pending = λ x l o f.
        pending_stays t p state end x (λ q. (
        let P : ℕ → Type 0 = λ x. is_ancestor t x b ≡ true in
        absurd (cc (e, place.within b h (sym (ancestor_above t p b ne) ∙ subst P q o))))) ∙ f;
    blocks = λ x l. node_closed t p state end (λ y. is_block_kind y.kind) (λ y. refl) x;
    stamps = λ x l. number_closed t p state end (λ y. y.stamp) (λ y. refl) x;
  }

  gone_closed : (n : ℕ) → n < length t → (g : IsGone m n) → g.block ≢ p → IsGone k n
  gone_closed n h g ne =
      let b = g.block in
      let there : b < length t = node_there (λ y. is_block_kind y.kind && is_pending_state y.state) t b g.pending in
      let P : ℕ → Type 0 = λ s. leads_back k s b ≡ true in
      record {
        block = b;
        pending = pending_stays t p state end b ne ∙ g.pending;
        over = is_above_closed t p state end r b n h ∙ g.over;
        back = subst P (sym (strand_of_closed t p state end r b there)) (back_kept m k [] (sym (append-nil m.conflicts)) a.askers (strand_of t b) b (holds_closed (strand_of t b) b there g.pending ne) g.back);
        shut = still n g;
      }

  -- nothing that a list has gets lost, and what was undone stays so
  module _ (lives : (c n : ℕ) → touches t c n ≡ true → In (stamp_of t n) (live m c) → is_live t n ≡ true → is_live v n ≡ true) (gone : (n : ℕ) → n < length t → is_live v n ≡ true → (g : IsGone m n) → g.block ≢ p) where
    was : (c n : ℕ) → touches v c n ≡ true → touches t c n ≡ true
    was c n e = sym (node_closed t p state end (λ y. touches_kind c y.kind) (λ y. refl) n) ∙ e

    same_stamp : (n : ℕ) → stamp_of v n ≡ stamp_of t n
    same_stamp n = number_closed t p state end (λ y. y.stamp) (λ y. refl) n

    pub listed_closed : AreListed k
    listed_closed = record {
      len = a.len;
      askers = All-weaker (λ c. c.asker < length t) (λ c. c.asker < length v) (λ c h. omega (arith, len)) m.conflicts a.askers;
      accesses = λ c s i. (let h = a.accesses c s i in (h.0, node_closed t p state end (λ y. touches_kind c y.kind) (λ y. refl) h.0 ∙ h.1, same_stamp h.0 ∙ h.2));
      rises = a.rises;
      lives = λ c n e i. (
          let P : ℕ → Type 0 = λ s. In s (live m c) in
          let j = subst P (same_stamp n) i in
          lives c n (was c n e) j (a.lives c n (was c n e) j));
      missing = λ c n e l. (
          let P : ℕ → Type 0 = λ s. In s (live m c) in
          let h : n < length t = node_there (λ y. touches_kind c y.kind) t n (was c n e) in
          elim (a.missing c n (was c n e) (was_live t r p state end pending n h l)) [
            | inl i ↦ inl (subst P (sym (same_stamp n)) i)
            | inr g ↦ inr (gone_closed n h g (gone n h l g))
          ]);
      cells = λ n h. node_closed t p state end (λ y. fits_cells (length m.first) y.kind) (λ y. refl) n ∙ a.cells n (omega (arith, len));
    }

  -- a commit
  pub committed_listed : is_aborted_state state ≡ false → (leads_back m (strand_of t p) p ≡ true → ⊥) → AreListed k
  committed_listed kept back =
      listed_closed (λ c n e i l. live_closed t r p state end n (node_there (λ y. touches_kind c y.kind) t n e) l (λ over. kept))
      (λ n h l g q. let P : ℕ → Type 0 = λ b. leads_back m (strand_of t b) b ≡ true in back (subst P q g.back))

  -- an abort
  pub aborted_listed : is_aborted_state state ≡ true → ((c n : ℕ) → touches t c n ≡ true → In (stamp_of t n) (live m c) → is_above t p n ≡ false) → AreListed k
  aborted_listed rolled undone =
      listed_closed (λ c n e i l. live_closed t r p state end n (node_there (λ y. touches_kind c y.kind) t n e) l (λ over. absurd (cc (undone c n e i, over))))
      (λ n h l g q.
      let P : ℕ → Type 0 = λ b. is_above t b n ≡ true in
      let over = is_above_closed t p state end r p n h ∙ subst P q g.over in
      let is : is_aborted v p ≡ true = state_closed t p state end is_aborted_state ∙ and_from (is_block t p) (is_aborted_state state) (pending_block t p pending) rolled in
      absurd (cc (is, live_tells v n p l over)))

-- ## What a block did to a cell is undone

module _ (m : OpenMachine) (stamped : AreStamps m.tree) (a : AreListed m) (p c clock : ℕ) (there : c < length m.lists) (pending : is_pending m.tree p ≡ true)
    (back : leads_back m (strand_of m.tree p) p ≡ true)
    (shut : (k : ℕ) → k < length m.tree → is_above m.tree p k ≡ true → is_open m k ≡ false) where
  abbrev w : List Node
  w = m.tree

  abbrev ls : List (List ℕ)
  ls = slice_set m.lists c (live_beside m p c)

  abbrev z : OpenMachine
  z = with_parts m w ls clock m.conflicts m.finished m.joined m.stopped

  abbrev beside : ℕ → Bool
  beside s = not (is_above w p (access_at w s))

  here : listed ls c ≡ live_beside m p c
  here = listed_here m.lists c (live_beside m p c) there

  other : (d : ℕ) → d ≢ c → listed ls d ≡ live m d
  other d ne = listed_other m.lists c d (live_beside m p c) ne

  old : (d s : ℕ) → In s (listed ls d) → In s (live m d)
  old d s i =
      let P : List ℕ → Type 0 = λ us. In s us in
      elim (cases_eq d c) [
        | inl q ↦ (let Q : ℕ → Type 0 = λ d. In s (live m d) in subst Q (sym q) (in_filter beside s (live m c) (subst P (ap (listed ls) q ∙ here) i)).0)
        | inr ne ↦ subst P (other d ne) i
      ]

  -- a stamp that goes is one of an access beneath the block
  left : (d n : ℕ) → touches w d n ≡ true → In (stamp_of w n) (live m d) → In (stamp_of w n) (listed ls d) ⊎ (is_above w p n ≡ true)
  left d n e i =
      let P : List ℕ → Type 0 = λ us. In (stamp_of w n) us in
      elim (cases_eq d c) [
        | inr ne ↦ inl (subst P (sym (other d ne)) i)
        | inl q ↦ elim (cases_Bool (is_above w p n)) [
          | inl over ↦ inr over
          | inr off ↦ inl (subst P (sym (ap (listed ls) q ∙ here)) (filter_in beside (stamp_of w n) (live m c) (let Q : ℕ → Type 0 = λ d. In (stamp_of w n) (live m d) in subst Q q i)
              (not_from_false (is_above w p (access_at w (stamp_of w n))) (ap (is_above w p) (access_named w stamped d n e) ∙ off))))
        ]
      ]

  gone_still : (n : ℕ) → IsGone m n → IsGone z n
  gone_still n g = record { block = g.block; pending = g.pending; over = g.over; back = g.back; shut = g.shut }

  pub undone_listed : AreListed z
  undone_listed = record {
    len = length-set m.lists c (live_beside m p c) ∙ a.len;
    askers = a.askers;
    accesses = λ d s i. a.accesses d s (old d s i);
    rises = λ d. elim (cases_eq d c) [
      | inl q ↦ (let P : List ℕ → Type 0 = λ us. Rises us in subst P (sym (ap (listed ls) q ∙ here)) (rises_filter beside (live m c) (a.rises c)))
      | inr ne ↦ (let P : List ℕ → Type 0 = λ us. Rises us in subst P (sym (other d ne)) (a.rises d))
    ];
    lives = λ d n e i. a.lives d n e (old d (stamp_of w n) i);
    missing = λ d n e l. elim (a.missing d n e l) [
      | inr g ↦ inr (gone_still n g)
      | inl i ↦ elim (left d n e i) [
        | inl j ↦ inl j
        | inr over ↦ inr (record { block = p; pending = pending; over = over; back = back; shut = shut })
      ]
    ];
    cells = a.cells;
  }

-- ## The lists and the tree stay

pub same_listed : (m : OpenMachine) (clock : ℕ) (finished : List (ℕ × Bool)) (joined stopped : List ℕ)
    → StayShut m (with_parts m m.tree m.lists clock m.conflicts finished joined stopped) → AreListed m
    → AreListed (with_parts m m.tree m.lists clock m.conflicts finished joined stopped)
same_listed m clock finished joined stopped still a = record {
  len = a.len;
  askers = a.askers;
  accesses = a.accesses;
  rises = a.rises;
  lives = a.lives;
  missing =
      λ c n e l. elim (a.missing c n e l) [
        | inl i ↦ inl i
        | inr g ↦ inr
            (record { block = g.block; pending = g.pending; over = g.over; back = g.back; shut = still n g })
      ];
  cells = a.cells;
}
