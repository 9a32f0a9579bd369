-- Nothing comes after a pending block of a tree that one worker builds, also where right strands never started.
use Rattle.std.proofs.Common.{◌≡◌, ℕ, ◌<◌, List, [], ◌∷◌, length, sym, ◌∙◌, subst, arith, true, append-nil}
use Rattle.std.specs.Prelude.{◌&&◌}
use Rattle.std.proofs.lemmas.Bool.{and_parts, and_from, false_from_ne_true}
use Rattle.std.proofs.lemmas.List.Elements.{All-head}
use Rattle.cw_tree.specs.declared.node.Node.{Node}
use Rattle.cw_tree.specs.declared.node.Kind.TheVariants.{Strand}
use Rattle.cw_tree.specs.Nodes.{is_block_kind, is_fork_kind, is_pending_state, is_fork, is_block, is_pending, fresh_node}
use Rattle.cw_tree.specs.Walks.{IsRooted, is_above}
use Rattle.cw_tree.specs.Series.{is_before}
use Rattle.cw_tree.specs.Shape.{PendingLast}
use Rattle.cw_tree.proofs.Walks.Agreeing.{agree_grown, agree_back, before_to}
use Rattle.cw_tree.proofs.Walks.Ancestors.{above_ancestor, ancestor_trans}
use Rattle.cw_tree.proofs.NextNodes.Growing.{node_grown, node_new, rooted_more, is_above_grown}
use Rattle.cw_record.specs.Drawn.{added}
use Rattle.cw_record.proofs.OneWorker.Building.{IsBuilt}
use Rattle.cw_record.proofs.OneWorker.Faults.{pending_over}
use Rattle.cw_tree.proofs.NextNodes.Before.{above_less}
use Rattle.cw_record.proofs.OneWorker.InSeries.{none_after, before_fork}
use Rattle.cw_tree.proofs.NextNodes.Trees.{each_more}
use Rattle.cw_record.proofs.OneWorker.Shaped.{IsShaped, shaped_strand}
use Rattle.cw_tree.proofs.Walks.There.{node_there}
use Rattle.cw_record.proofs.OneWorker.Unstarted.{with_strands}
use Rattle.cw_record.proofs.OneWorker.Waiting.{one_unstarted}

pub last_built : (t : List Node) (p clock : ℕ) → IsBuilt t p clock → PendingLast t
last_built t p clock b = record {
  last = λ n m hn hm e. none_after t p clock b n m (pending_over t p clock b n e) hm;
  around = λ a n ha hn e.
      (let z = and_parts (is_pending t n && is_block t a) (is_above t a n) e in
      let y = and_parts (is_pending t n) (is_block t a) z.0 in
      b.pending a y.1 (ancestor_trans t b.rooted a n p b.there (above_ancestor t a n z.1) (pending_over t p clock b n y.0)));
}

-- a strand more in a fork
module _ (t : List Node) (r : IsRooted t) (f : ℕ) (there : f < length t) (fork : is_fork t f ≡ true) (old : PendingLast t) where
  abbrev x : Node
  x = fresh_node f Strand 0

  abbrev u : List Node
  u = added t f Strand 0

  more : IsRooted u
  more = rooted_more t x r there

  same_pending : (n : ℕ) → n < length t → is_pending u n ≡ is_pending t n
  same_pending = node_grown t (x ∷ []) (λ y. is_block_kind y.kind && is_pending_state y.state)

  is_old : (n : ℕ) → n < length u → is_pending u n ≡ true → n < length t
  is_old = each_more t x (λ n. is_pending u n ≡ true → n < length t) (λ n h e. h) (λ e. absurd (cc (e, node_new t x (λ y. is_block_kind y.kind && is_pending_state y.state))))

  was_before : (n m : ℕ) → n < length t → m < length u → is_before u n m ≡ true → (k : ℕ) × (k < length t) × (is_before t n k ≡ true)
  was_before n m h =
      each_more t x (λ m. is_before u n m ≡ true → (k : ℕ) × (k < length t) × (is_before t n k ≡ true))
      (λ m g e. (m, g, before_to u t (length t) (agree_back t u (length t) (agree_grown t (x ∷ []) r)) more n m h g e))
      (λ e. (f, there, before_fork t r f there fork n h e)) m

  last_more : PendingLast u
  last_more = record {
    last = λ n m hn hm e.
        (let h = is_old n hn e in
        false_from_ne_true (is_before u n m) (λ q.
        let (k, g, before) = was_before n m h hm q in
        absurd (cc (before, old.last n k h g (sym (same_pending n h) ∙ e)))));
    around = λ b n hb hn e.
        (let z = and_parts (is_pending u n && is_block u b) (is_above u b n) e in
        let y = and_parts (is_pending u n) (is_block u b) z.0 in
        let h = is_old n hn y.0 in
        let low = above_less u more b n hn z.1 in
        let g : b < length t = omega arith in
        same_pending b g
        ∙ old.around b n g h
        (and_from (is_pending t n && is_block t b) (is_above t b n)
        (and_from (is_pending t n) (is_block t b) (sym (same_pending n h) ∙ y.0) (sym (node_grown t (x ∷ []) (λ y. is_block_kind y.kind) b g) ∙ y.1))
        (sym (is_above_grown t (x ∷ []) r b n h) ∙ z.1)));
  }

-- all that were to come
pub last_behind : (fs : List ℕ) (t : List Node) → IsShaped t fs → PendingLast t → PendingLast (with_strands t fs)
last_behind [] t s old = subst PendingLast (sym (append-nil t)) old
last_behind (f ∷ fs) t s old =
    let fork : is_fork t f ≡ true = All-head (λ f. is_fork t f ≡ true) f fs s.to_come in
    let there : f < length t = node_there (λ y. is_fork_kind y.kind) t f fork in
    subst PendingLast (one_unstarted t f fs) (last_behind fs (added t f Strand 0) (shaped_strand t f fs s) (last_more t s.rooted f there fork old))
