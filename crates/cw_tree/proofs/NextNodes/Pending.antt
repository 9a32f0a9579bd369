-- Nothing comes after a pending block, as nodes are made at places and blocks are closed; so what is true of the tree of a run stays so.
use Rattle.std.proofs.Common.{◌≡◌, ◌≢◌, ℕ, ◌<◌, List, [], ◌∷◌, ◌++◌, length, refl, ap, sym, ◌∙◌, arith, true, false, inl, inr, subst}
use Rattle.std.specs.Prelude.{◌&&◌, ◌||◌, not}
use Rattle.std.proofs.lemmas.Bool.{and_parts, and_from, and_right, cases_eq, false_from_ne_true, lt-ltb}
use Rattle.cw_tree.specs.declared.node.Node.{Node}
use Rattle.cw_tree.specs.declared.node.Kind.{Kind}
use Rattle.cw_tree.specs.declared.node.Kind.TheVariants.{Strand, Fork, Block, Read, Write, Out, Tried}
use Rattle.cw_tree.specs.declared.node.BlockState.{BlockState}
use Rattle.cw_tree.specs.Nodes.{is_strand_kind, is_fork_kind, is_block_kind, is_tried_kind, is_pending_state, is_fork, is_block, is_pending, fresh_node, closed}
use Rattle.cw_tree.specs.Walks.{IsRooted, has, is_ancestor, is_above}
use Rattle.cw_tree.specs.Series.{is_before}
use Rattle.cw_tree.specs.Shape.{PendingLast}
use Rattle.cw_tree.specs.NextNodes.{IsPlace, IsSound, SoundGrows, SoundRefuses, SoundForks, SoundCloses}
use Rattle.cw_tree.proofs.Walks.Ancestors.{ancestor_self}
use Rattle.cw_tree.proofs.NextNodes.Growing.{length_more, node_grown, node_new, rooted_more, is_above_grown, above_new, ancestor_grown}
use Rattle.cw_tree.proofs.NextNodes.Closing.{length_closed, node_closed, node_closed_other, state_closed, is_above_closed}
use Rattle.cw_tree.proofs.Walks.There.{node_there}
use Rattle.cw_tree.proofs.Walks.Kin.{before_apart}
use Rattle.cw_tree.proofs.NextNodes.Trees.{each_more, tree_more, hung_one, hung_two, in_turn, forked_tree, tree_closed}
use Rattle.cw_tree.proofs.NextNodes.Before.{above_less, old_before, new_first, new_last, new_apart, over_parent, before_closed}
use Rattle.cw_tree.proofs.NextNodes.Stamps.{IsEnd, each_two, stamps_more}
use Rattle.cw_tree.proofs.NextNodes.ClosedStamps.{stamps_closed}

-- what is in a place
pub end_of_place : (t : List Node) (p : ℕ) → IsPlace t p → IsEnd t p
end_of_place t p w = record { there = w.there; last = w.last; around = w.around }

-- beneath p, unless it is a fork, no block is pending
abbrev pub NoneWithin : List Node → ℕ → Type 0
NoneWithin t p = is_fork t p ≡ false → (b : ℕ) → b < length t → is_above t p b ≡ true → is_pending t b ≡ false

-- ## One node more

module _ (t : List Node) (r : IsRooted t) (p : ℕ) (w : IsEnd t p) (kind : Kind) (stamp : ℕ) where
  abbrev x : Node
  x = fresh_node p kind stamp

  abbrev u : List Node
  u = t ++ x ∷ []

  abbrev g : ℕ
  g = length t

  more : IsRooted u
  more = rooted_more t x r w.there

  same_pending : (n : ℕ) → n < g → is_pending u n ≡ is_pending t n
  same_pending = node_grown t (x ∷ []) (λ y. is_block_kind y.kind && is_pending_state y.state)

  same_block : (n : ℕ) → n < g → is_block u n ≡ is_block t n
  same_block = node_grown t (x ∷ []) (λ y. is_block_kind y.kind)

  old_around : (b : ℕ) → b < g → is_block u b ≡ true → is_ancestor t b p ≡ true → is_pending u b ≡ true
  old_around b h e over = same_pending b h ∙ w.around b (and_from (is_block t b) (is_ancestor t b p) (sym (same_block b h) ∙ e) over)

  pub last_more : PendingLast t → NoneWithin t p → PendingLast u
  last_more old within = record {
    last = each_two t x (λ n k. is_pending u n ≡ true → is_before u n k ≡ false)
        (λ n k hn hk e. false_from_ne_true (is_before u n k) (λ q. absurd (cc (old_before t x r w.there n k hn hk q, old.last n k hn hk (sym (same_pending n hn) ∙ e)))))
        (λ n h e.
        let was = sym (same_pending n h) ∙ e in
        false_from_ne_true (is_before u n g) (λ q.
        elim (new_last t x r w.there n h q) [
          | inl z ↦ absurd (cc (was, within z.1 n h z.0))
          | inr z ↦ absurd (cc (z, old.last n p h w.there was))
        ]))
        (λ k h e. new_first t x r w.there w.last k h)
        (λ e. new_apart t x r w.there);
    around = each_two t x (λ b n. (is_pending u n && is_block u b && is_above u b n) ≡ true → is_pending u b ≡ true)
        (λ b n hb hn e.
        let z = and_parts (is_pending u n && is_block u b) (is_above u b n) e in
        let y = and_parts (is_pending u n) (is_block u b) z.0 in
        same_pending b hb
        ∙ old.around b n hb hn
        (and_from (is_pending t n && is_block t b) (is_above t b n)
        (and_from (is_pending t n) (is_block t b) (sym (same_pending n hn) ∙ y.0) (sym (same_block b hb) ∙ y.1))
        (sym (is_above_grown t (x ∷ []) r b n hn) ∙ z.1)))
        (λ b h e.
        let z = and_parts (is_pending u g && is_block u b) (is_above u b g) e in
        old_around b h (and_parts (is_pending u g) (is_block u b) z.0).1 (sym (ap (λ ns. has ns b) (above_new t x r w.there)) ∙ z.1))
        (λ n h e. absurd (let less = above_less u more g n (omega (arith, length_more t x)) (and_parts (is_pending u n && is_block u g) (is_above u g n) e).1 in omega arith))
        (λ e. absurd (let less = above_less u more g g (omega (arith, length_more t x)) (and_parts (is_pending u g && is_block u g) (is_above u g g) e).1 in omega arith));
  }

  -- a fork at a place is where its strands may hang
  pub end_new : kind ≡ Fork → IsEnd u g
  end_new e = record {
    there = omega (arith, length_more t x);
    last = each_more t x (λ n. is_before u g n ≡ false) (new_first t x r w.there w.last) (new_apart t x r w.there);
    around = λ b f.
        (let z = and_parts (is_block u b) (is_ancestor u b g) f in
        let h : b < length u = node_there (λ y. is_block_kind y.kind) u b z.0 in
        each_more t x (λ b. is_block u b ≡ true → is_ancestor u b g ≡ true → is_pending u b ≡ true)
        (λ b h q over. old_around b h q (sym (over_parent t x r w.there b (omega arith)) ∙ over))
        (λ q over. absurd (cc (q, node_new t x (λ y. is_block_kind y.kind), ap is_block_kind e))) b h z.0 z.1);
  }

  -- and still is once a strand hangs there
  pub end_stays : is_fork t p ≡ true → is_block_kind kind ≡ false → IsEnd u p
  end_stays fork other = record {
    there = (let there = w.there in omega (arith, length_more t x));
    last = each_more t x (λ n. is_before u p n ≡ false)
        (λ n h. false_from_ne_true (is_before u p n) (λ q. absurd (cc (old_before t x r w.there p n w.there h q, w.last n h))))
        (false_from_ne_true (is_before u p g) (λ q.
        elim (new_last t x r w.there p w.there q) [
          | inl z ↦ absurd (cc (fork, z.1))
          | inr z ↦ absurd (before_apart t r p p w.there z (ancestor_self t p))
        ]));
    around = λ b f.
        (let z = and_parts (is_block u b) (is_ancestor u b p) f in
        let h : b < length u = node_there (λ y. is_block_kind y.kind) u b z.0 in
        each_more t x (λ b. is_block u b ≡ true → is_ancestor u b p ≡ true → is_pending u b ≡ true)
        (λ b h q over. old_around b h q (sym (ancestor_grown t (x ∷ []) r b p w.there) ∙ over))
        (λ q over. absurd (cc (q, node_new t x (λ y. is_block_kind y.kind), other))) b h z.0 z.1);
  }

-- ## The laws

pub sound_grows : SoundGrows
sound_grows t p kind stamp s w no_strand other made next =
    let tree = s.tree in
    let e = end_of_place t p w in
    record {
      tree = tree_more t p kind stamp tree w.there w.holds no_strand other;
      stamps = stamps_more t tree.rooted s.stamps p w.there kind stamp (lt-ltb 0 stamp next.some ∙ sym (ap not (ap (λ b. b || is_tried_kind kind) no_strand ∙ made))) (λ some. (e, next));
      pending_last = last_more t tree.rooted p e kind stamp s.pending_last (λ f. w.within);
    }

no_other : (kind : Kind) → is_tried_kind kind ≡ true → (is_strand_kind kind ≡ false) × (is_fork_kind kind ≡ false)
no_other (Tried c) e = (refl, refl)
no_other Strand e = absurd (cc e)
no_other Fork e = absurd (cc e)
no_other Block e = absurd (cc e)
no_other (Read c v) e = absurd (cc e)
no_other (Write c v) e = absurd (cc e)
no_other (Out v) e = absurd (cc e)
no_other _ e = absurd (cc e)

pub sound_refuses : SoundRefuses
sound_refuses t p kind s w tried =
    let tree = s.tree in
    let e = end_of_place t p w in
    let k = no_other kind tried in
    record {
      tree = tree_more t p kind 0 tree w.there w.holds k.0 k.1;
      stamps = stamps_more t tree.rooted s.stamps p w.there kind 0 (sym (ap not (ap (λ b. b || is_tried_kind kind) k.0 ∙ tried))) (λ some. absurd (omega arith));
      pending_last = last_more t tree.rooted p e kind 0 s.pending_last (λ f. w.within);
    }

pub sound_forks : SoundForks
sound_forks t p stamp s w next =
    let tree = s.tree in
    let n = length t in
    let there = w.there in
    let holds = w.holds in
    let e = end_of_place t p w in
    let a = fresh_node p Fork stamp in
    let b = fresh_node n Strand 0 in
    let one = t ++ a ∷ [] in
    let two = one ++ b ∷ [] in
    let fork : is_fork one n ≡ true = node_new t a (λ y. is_fork_kind y.kind) in
    let fork_two : is_fork two n ≡ true = node_grown one (b ∷ []) (λ y. is_fork_kind y.kind) n (omega (arith, length_more t a)) ∙ fork in
    let r = hung_one t p stamp tree there holds in
    let q = hung_two t p stamp tree there holds in
    let e_one = end_new t tree.rooted p e Fork stamp refl in
    let e_two = end_stays one r.rooted n e_one Strand 0 fork refl in
    let stamps_one = stamps_more t tree.rooted s.stamps p w.there Fork stamp (lt-ltb 0 stamp next.some) (λ some. (e, next)) in
    let stamps_two = stamps_more one r.rooted stamps_one n e_one.there Strand 0 refl (λ some. absurd (omega arith)) in
    let last_one = last_more t tree.rooted p e Fork stamp s.pending_last (λ f. w.within) in
    let last_two = last_more one r.rooted n e_one Strand 0 last_one (λ f. absurd (cc (f, fork))) in
    subst IsSound (sym (in_turn t p stamp tree there holds)) (record {
      tree = forked_tree t p stamp tree there holds;
      stamps = stamps_more two q.rooted stamps_two n e_two.there Strand 0 refl (λ some. absurd (omega arith));
      pending_last = last_more two q.rooted n e_two Strand 0 last_two (λ f. absurd (cc (f, fork_two)));
    })

pub pending_stays : (t : List Node) (b : ℕ) (state : BlockState) (end : ℕ) (n : ℕ) → n ≢ b → is_pending (closed t b state end) n ≡ is_pending t n
pending_stays t b state end n ne = node_closed_other t b state end (λ y. is_block_kind y.kind && is_pending_state y.state) n ne

-- a closed block is no longer pending, and all others are what they were
pub pending_closed : (t : List Node) (b : ℕ) (state : BlockState) (end : ℕ) → is_pending_state state ≡ false → (n : ℕ) → is_pending (closed t b state end) n ≡ true → (n ≢ b) × (is_pending t n ≡ true)
pending_closed t b state end done n e =
    elim (cases_eq n b) [
      | inl q ↦ absurd (cc (e, ap (is_pending (closed t b state end)) q, state_closed t b state end is_pending_state, and_right (is_block t b) (is_pending_state state) done))
      | inr ne ↦ (ne, sym (pending_stays t b state end n ne) ∙ e)
    ]

pub sound_closes : SoundCloses
sound_closes t b state end s w block done z =
    let tree = s.tree in
    let r = tree.rooted in
    let old = s.pending_last in
    let v = closed t b state end in
    let long = length_closed t b state end in
    record {
      tree = tree_closed t tree b state end;
      stamps = stamps_closed t r s.stamps b (end_of_place t b w) state end block done z;
      pending_last = record {
        last = λ n m hn hm e.
            before_closed t b state end r n m (omega (arith, long)) (omega (arith, long)) ∙ old.last n m (omega (arith, long)) (omega (arith, long)) (pending_closed t b state end done n e).1;
        around = λ a n ha hn e.
            (let y = and_parts (is_pending v n && is_block v a) (is_above v a n) e in
            let q = and_parts (is_pending v n) (is_block v a) y.0 in
            let was = (pending_closed t b state end done n q.0).1 in
            let over : is_above t a n ≡ true = sym (is_above_closed t b state end r a n (omega (arith, long))) ∙ y.1 in
            let is : is_block t a ≡ true = sym (node_closed t b state end (λ y. is_block_kind y.kind) (λ y. refl) a) ∙ q.1 in
            elim (cases_eq a b) [
              | inl same ↦ absurd (let P : ℕ → Type 0 = λ k. is_above t k n ≡ true in cc (was, w.within n (omega (arith, long)) (subst P same over)))
              | inr ne ↦ pending_stays t b state end a ne ∙ old.around a n (omega (arith, long)) (omega (arith, long)) (and_from (is_pending t n && is_block t a) (is_above t a n) (and_from (is_pending t n) (is_block t a) was is) over)
            ]);
      };
    }
