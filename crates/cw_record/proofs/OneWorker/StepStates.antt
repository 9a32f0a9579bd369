-- What one worker knows of the states of its strands, after each step: a want that it does, and a fork.
use Rattle.std.proofs.Common.{◌≡◌, ◌≢◌, ℕ, suc, ◌<◌, ◌≤◌, List, ◌∷◌, length, refl, ap, sym, ◌∙◌, subst, arith, true, false, Option, Some, None}
use Rattle.std.specs.Prelude.{◌&&◌, ◌||◌, slice_get}
use Rattle.std.proofs.lemmas.Bool.{or_right, false_from_ne_true}
use Rattle.std.proofs.lemmas.Option.{same_Some}
use Rattle.cw_strand.specs.declared.want.Want.TheVariants as want
use Rattle.cw_strand.specs.declared.want.Given.TheVariants.{Nothing}
use Rattle.cw_strand.specs.Strands.{Strands}
use Rattle.cw_tree.specs.declared.node.Node.{Node}
use Rattle.cw_tree.specs.declared.node.Kind.{Kind}
use Rattle.cw_tree.specs.declared.node.Kind.TheVariants.{Strand, Fork, Block}
use Rattle.cw_tree.specs.declared.node.BlockState.{BlockState}
use Rattle.cw_tree.specs.declared.node.BlockState.TheVariants.{Committed}
use Rattle.cw_tree.specs.Nodes.{passes, parent_of, is_block, is_committed, is_strand_kind, is_fork_kind, is_block_kind, is_committed_state, first_state, fresh_node, closed}
use Rattle.cw_tree.specs.Walks.{IsRooted, is_ancestor}
use Rattle.cw_tree.proofs.Walks.Ancestors.{ancestor_self, ancestor_step, ancestor_up}
use Rattle.cw_tree.proofs.NextNodes.Closing.{shut, length_closed, node_closed, number_closed, closed_here, closed_other, rooted_closed, ancestor_closed}
use Rattle.cw_tree.proofs.NextNodes.Growing.{length_more, node_new, rooted_more}
use Rattle.cw_tree.proofs.NextNodes.Trees.{no_fork}
use Rattle.cw_tree.proofs.NodeKinds.{block_some, fork_no_block, committed_block, strand_no_block}
use Rattle.cw_job.specs.Room.Strands.{StrandState, state_of}
use Rattle.cw_job.specs.declared.standing.Standing.{Standing as Written}
use Rattle.cw_record.specs.declared.worker.Branch.{Branch}
use Rattle.cw_record.specs.declared.worker.Branch.TheVariants.{Left}
use Rattle.cw_record.specs.Drawn.{added, added_fork}
use Rattle.cw_record.proofs.Coherent.AddedStates.{with_node, state_other, state_same, none_in_new, reached_new, starts_in, starts_left, knows_leaf, knows_down}
use Rattle.cw_record.proofs.OneWorker.Building.{IsBuilt}
use Rattle.cw_record.proofs.OneWorker.KnownStates.{Known, Knows}
use Rattle.cw_record.proofs.Members.{pending_no_member}
use Rattle.cw_record.proofs.OneWorker.ReachedStates.{SameNodesBut, with_after, reached_here, knows_up, joins_up}
use Rattle.cw_record.proofs.Coherent.States.{States, reached, DoesAs, Does}
use Rattle.cw_record.specs.Items.{is_act}

module _ (t : List Node) (p clock : ℕ) (b : IsBuilt t p clock) where
  -- what is on the way is not committed
  pub undone_way : (n : ℕ) → is_ancestor t n p ≡ true → is_committed t n ≡ false
  undone_way n over =
      false_from_ne_true (is_committed t n) (λ e.
      let none = pending_no_member t n (b.pending n (committed_block t n e) over) in
      let some = or_right (is_act t n) (is_committed t n) e in
      absurd (cc (none, some)))

module _ (s : Strands StrandState) where
  module _ (t : List Node) (p clock : ℕ) (b : IsBuilt t p clock) (xs : List Branch) (a : StrandState) (x : States StrandState) (k : Knows s t p xs a x) where
    -- ## An access, an output, or the begin of a block

    pub states_leaf : (kind : Kind) (st : ℕ) (c : StrandState) → (is_strand_kind kind || is_fork_kind kind) ≡ false → ((d : StrandState) → DoesAs s a c d kind (first_state kind)) → Known s (added t p kind st) p xs c
    states_leaf kind st c plain does =
        (with_node s t b.rooted x p b.there kind st a c, knows_leaf s t b.rooted x p b.there kind st a c k.states (undone_way t p clock b p (ancestor_self t p)) (starts_in s t b.rooted x p b.there kind st a c (no_fork t p b.place) (sym k.here)) (does _) xs k plain)

    pub states_begin : (st : ℕ) → s.want a ≡ want.Begin → Known s (added t p Block st) (length t) xs (s.answer a Nothing)
    states_begin st is =
        let y = with_node s t b.rooted x p b.there Block st a a in
        let down =
        knows_down s t b.rooted x p b.there Block st a a k.states (undone_way t p clock b p (ancestor_self t p)) (starts_in s t b.rooted x p b.there Block st a a (no_fork t p b.place) (sym k.here)) (is, refl) xs p (λ n l e. e) k.waits k.over k.joins in
        let P : StrandState → Type 0 = λ c. Knows s (added t p Block st) (length t) xs c y in
        (y, subst P (reached_new s t b.rooted x p b.there Block st a a) down)

    -- ## A fork

    module _ (st : ℕ) (is : s.want a ≡ want.Fork) (right : Written) (stands : state_of right ≡ s.right a) where
      abbrev u : List Node
      u = added t p Fork st

      abbrev y : States StrandState
      y = with_node s t b.rooted x p b.there Fork st a a

      at_fork : Knows s u (length t) xs (reached s u y (length t)) y
      at_fork =
          knows_down s t b.rooted x p b.there Fork st a a k.states (undone_way t p clock b p (ancestor_self t p)) (starts_in s t b.rooted x p b.there Fork st a a (no_fork t p b.place) (sym k.here)) is xs p (λ n l e. e) k.waits k.over k.joins

      r : IsRooted (added t p Fork st)
      r = rooted_more t (fresh_node p Fork st) b.rooted b.there

      low : length t < length u
      low = omega (arith, length_more t (fresh_node p Fork st))

      abbrev v : List Node
      v = added_fork t p st

      abbrev z : States StrandState
      z = with_node s u r y (length t) low Strand 0 (s.left a) (s.left a)

      before_fork : y.before (length t) ≡ a
      before_fork = state_same x.before (length t) a

      at_left : Knows s v (length u) xs (reached s v z (length u)) z
      at_left =
          knows_down s u r y (length t) low Strand 0 (s.left a) (s.left a) at_fork.states (node_new t (fresh_node p Fork st) (λ w. is_block_kind w.kind && is_committed_state w.state))
          (starts_left s u r y (length t) low Strand 0 (s.left a) (s.left a) (node_new t (fresh_node p Fork st) (λ w. is_fork_kind w.kind)) (none_in_new s t b.rooted x p b.there Fork st a a) (sym (ap s.left before_fork)))
          tt xs (length t) (λ n l e. e) at_fork.waits at_fork.over at_fork.joins

      with_right : Knows s v (length u) (Left (length t) right ∷ xs) (s.left a) z
      with_right =
          let grown = length_more u (fresh_node (length t) Strand 0) in
          let less = low in
          let P : StrandState → Type 0 = λ c. Knows s v (length u) xs c z in
          let h = subst P (reached_new s u r y (length t) low Strand 0 (s.left a) (s.left a)) at_left in
          record {
            states = h.states;
            here = h.here;
            over = h.over;
            joins = h.joins;
            waits = ((omega arith, stands ∙ ap s.right (sym (state_other y.before (length u) (s.left a) (length t) (omega arith) ∙ before_fork))), h.waits);
          }

      pub states_fork : Known s (added_fork t p st) (suc (length t)) (Left (length t) right ∷ xs) (s.left a)
      states_fork = let P : ℕ → Type 0 = λ n. Knows s v n (Left (length t) right ∷ xs) (s.left a) z in (z, subst P (length_more t (fresh_node p Fork st)) with_right)

    -- ## The end of a block

    block_closes : (kind : Kind) (state : BlockState) (c d e f g : StrandState) → is_block_kind kind ≡ true → DoesAs s c d e kind state → s.want g ≡ want.End → f ≡ s.answer g Nothing → DoesAs s c f g kind Committed
    block_closes Block state c d e f g block h ends is = (h.0, (ends, is))
    block_closes _ state c d e f g block h ends is = absurd (cc block)

    module _ (st : ℕ) (block : is_block t p ≡ true) (is : s.want a ≡ want.End) where
      abbrev w : List Node
      w = closed t p Committed st

      some_p : 0 < p
      some_p = block_some t b.root p block

      same : SameNodesBut t w p
      same = record {
        rooted = rooted_closed t p Committed st b.rooted;
        len = length_closed t p Committed st;
        parents = number_closed t p Committed st (λ y. y.parent) (λ y. refl);
        strands = node_closed t p Committed st (λ y. is_strand_kind y.kind) (λ y. refl);
        forks = node_closed t p Committed st (λ y. is_fork_kind y.kind) (λ y. refl);
        blocks = node_closed t p Committed st (λ y. is_block_kind y.kind) (λ y. refl);
        nodes = closed_other t p Committed st;
        over = ancestor_closed t p Committed st b.rooted;
      }

      lastly : (m : ℕ) → p ≤ m → m < length t → is_ancestor t p m ≡ true
      lastly m = b.last p m (ancestor_self t p)

      abbrev after : States StrandState
      after = with_after s t w b.rooted x p some_p b.there lastly same (s.answer a Nothing)

      there_ends : reached s w after p ≡ a
      there_ends = reached_here s t w b.rooted x p some_p b.there lastly same (s.answer a Nothing) ∙ k.here

      ends : (o : Option Node) → slice_get t p ≡ o → (n : Node) → slice_get w p ≡ Some n → Does s w after p n.kind n.state
      ends None e n is_n = absurd (let no = ap (passes (λ y. is_block_kind y.kind)) (sym e) in let yes = block in cc (no, yes))
      ends (Some m) e n is_n =
          let kind : is_block_kind m.kind ≡ true = ap (passes (λ y. is_block_kind y.kind)) (sym e) ∙ block in
          let N : Node → Type 0 = λ y. Does s w after p y.kind y.state in
          subst N (same_Some (shut t p Committed st m) n (sym (closed_here t p Committed st m e) ∙ is_n))
          (block_closes m.kind m.state (x.before p) (x.after p) (reached s t x p) (after.after p) (reached s w after p) kind (k.states.does p m e) (ap s.want there_ends ∙ is) (state_same x.after p (s.answer a Nothing) ∙ ap (λ c. s.answer c Nothing) (sym there_ends)))

      off_place : (n : ℕ) → p ≢ n → is_ancestor t n (parent_of t p) ≡ false → is_ancestor t n p ≡ false
      off_place n ne off = ancestor_step t b.rooted n p some_p b.there ne ∙ off

      not_block : (n : ℕ) → is_block t n ≡ false → p ≢ n
      not_block n other q = (let P : ℕ → Type 0 = λ i. is_block t i ≡ true in absurd (let yes = subst P q block in cc (other, yes)))

      above : (n : ℕ) → is_ancestor t n (parent_of t p) ≡ true → is_ancestor t n p ≡ true
      above n = ancestor_up t b.rooted n p some_p b.there

      knows_end : Knows s w (parent_of t p) xs (s.answer a Nothing) after
      knows_end =
          knows_up s t w b.rooted x p some_p b.there lastly same (s.answer a Nothing) p above xs k.states (undone_way t p clock b (parent_of t p) (above (parent_of t p) (ancestor_self t (parent_of t p)))) (ends (slice_get t p) refl) k.waits
          (λ n l strand off. k.over n l strand (off_place n (not_block n (strand_no_block t n strand)) off))
          (λ f l fork off.
          let ne : p ≢ f = not_block f (fork_no_block t f fork) in
          joins_up s t w b.rooted x p some_p b.there lastly same (s.answer a Nothing) p above f l off (λ q. ne (sym q)) (k.joins f l fork (off_place f ne off)))

      pub states_end : Known s (closed t p Committed st) (parent_of t p) xs (s.answer a Nothing)
      states_end = (after, knows_end)
