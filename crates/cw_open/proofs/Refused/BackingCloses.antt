-- What was rolled back, and what dying strands leave undone, as a block is closed and as a strand finishes.
use Rattle.std.proofs.Common.{◌≡◌, ◌≢◌, ℕ, ◌<◌, List, [], length, ap, sym, ◌∙◌, subst, arith, Bool, true, false, inl, inr, append-nil}
use Rattle.std.specs.Prelude.{◌&&◌}
use Rattle.std.proofs.lemmas.Bool.{and_right, cases_eq, false_from_ne_true}
use Rattle.cw_tree.specs.declared.node.Node.{Node}
use Rattle.cw_tree.specs.declared.node.BlockState.{BlockState}
use Rattle.cw_tree.specs.declared.conflict.Conflict.{Conflict}
use Rattle.cw_tree.specs.Nodes.{is_fork_kind, is_block_kind, is_committed_state, is_aborted_state, parent_of, is_strand, is_block, is_committed, is_aborted, closed}
use Rattle.cw_tree.specs.Walks.{IsRooted}
use Rattle.cw_tree.specs.Series.{strand_of, has_later}
use Rattle.cw_tree.specs.Refusals.{is_victim}
use Rattle.cw_tree.proofs.Walks.There.{node_there}
use Rattle.cw_tree.proofs.NextNodes.Closing.{length_closed, node_closed_other, state_closed}
use Rattle.cw_open.proofs.Refused.Falling.{AreAskers}
use Rattle.cw_open.proofs.Open.Staying.{Stays, closed_stays, strand_stays, later_closed}
use Rattle.cw_open.proofs.Refused.Fell.{fell, fell_stays, victim_stays}
use Rattle.cw_open.proofs.Refused.Backing.{Died, GoesBack}

module _ (t : List Node) (r : IsRooted t) (cs : List Conflict) (askers : AreAskers t cs) (p : ℕ) (state : BlockState) (end : ℕ) where
  abbrev v : List Node
  v = closed t p state end

  stays : Stays t v
  stays = closed_stays t r p state end

  fell_closed : (a b : ℕ) → b < length t → fell t cs a b ≡ true → fell v cs a b ≡ true
  fell_closed a b h e = let P : List Conflict → Type 0 = λ ds. fell v ds a b ≡ true in subst P (append-nil cs) (fell_stays t v stays cs [] askers a b h e)

  there : (n : ℕ) → is_aborted v n ≡ true → n < length t
  there n e = let h = node_there (λ y. is_block_kind y.kind && is_aborted_state y.state) v n e in omega (arith, length_closed t p state end)

  -- no other block that was committed, or rolled back, than p, if that was
  module _ (w : GoesBack t cs) (aborted_here : is_aborted v p ≡ true → (fell t cs (strand_of t p) p ≡ true) × (has_later t p ≡ false)) (committed_here : is_committed v p ≡ true → is_victim t cs p ≡ false) where
    old_aborted : (n : ℕ) → n ≢ p → is_aborted v n ≡ true → is_aborted t n ≡ true
    old_aborted n ne e = sym (node_closed_other t p state end (λ y. is_block_kind y.kind && is_aborted_state y.state) n ne) ∙ e

    fell_where : (n : ℕ) → is_aborted v n ≡ true → (fell t cs (strand_of t n) n ≡ true)
    fell_where n e = elim (cases_eq n p) [
      | inl q ↦ (let P : ℕ → Type 0 = λ n. fell t cs (strand_of t n) n ≡ true in subst P (sym q) (aborted_here (ap (is_aborted v) (sym q) ∙ e)).0)
      | inr ne ↦ w.aborted n (old_aborted n ne e)
    ]

    safe_where : (n : ℕ) → is_committed v n ≡ true → is_victim t cs n ≡ false
    safe_where n e = elim (cases_eq n p) [
      | inl q ↦ ap (is_victim t cs) q ∙ committed_here (ap (is_committed v) (sym q) ∙ e)
      | inr ne ↦ w.committed n (sym (node_closed_other t p state end (λ y. is_block_kind y.kind && is_committed_state y.state) n ne) ∙ e)
    ]

    pub back_closed : GoesBack v cs
    back_closed = record {
      aborted = λ b e. (let P : ℕ → Type 0 = λ a. fell v cs a b ≡ true in subst P (sym (strand_stays t v stays b (there b e))) (fell_closed (strand_of t b) b (there b e) (fell_where b e)));
      committed = λ b e. (let h = node_there (λ y. is_block_kind y.kind && is_committed_state y.state) v b e in victim_stays t v stays cs b (omega (arith, length_closed t p state end)) ∙ safe_where b e);
      tried = λ n some h e. later_closed t p state end n ∙ w.tried n some (omega (arith, length_closed t p state end)) e;
      gone = λ n e none.
          later_closed t p state end n
          ∙ elim (cases_eq n p) [
            | inl q ↦ ap (has_later t) q ∙ (aborted_here (ap (is_aborted v) (sym q) ∙ e)).1
            | inr ne ↦ w.gone n (old_aborted n ne e) (sym (victim_stays t v stays cs n (there n e)) ∙ none)
          ];
    }

  -- no strand died in what is committed
  pub died_closed : (done dead : ℕ → Bool) (f : ℕ) → (is_committed_state state ≡ true → parent_of t f ≢ p) → Died t cs done dead f → Died v cs done dead f
  died_closed done dead f out d =
      let low = node_there (λ y. is_fork_kind y.kind) t f d.fork in
      let up : parent_of t f < f = r f d.some low in
      let same = stays.parents f low in
      let block : is_committed v (parent_of t f) ≡ false = elim (cases_eq (parent_of t f) p) [
        | inl q ↦ ap (is_committed v) q ∙ state_closed t p state end is_committed_state ∙ and_right (is_block t p) (is_committed_state state) (false_from_ne_true (is_committed_state state) (λ e. absurd (out e q)))
        | inr ne ↦ node_closed_other t p state end (λ y. is_block_kind y.kind && is_committed_state y.state) (parent_of t f) ne ∙ d.block
      ] in
      record {
        some = d.some;
        fork = stays.forks f low ∙ d.fork;
        fell = fell_closed f f low d.fell;
        last = later_closed t p state end f ∙ d.last;
        block = ap (is_committed v) same ∙ block;
        strand = λ e q. ap dead same ∙ d.strand (sym (stays.strands (parent_of t f) (omega arith)) ∙ ap (is_strand v) (sym same) ∙ e) (ap done (sym same) ∙ q);
      }
