-- What one step of a worker adds to the run so far.
use Rattle.std.proofs.Common.{◌≡◌, ℕ, ◌<◌, ◌≤◌, List, [], ◌∷◌, ◌++◌, length, refl, ap, sym, ◌∙◌, subst, arith, true, false, cond, Option, Some}
use Rattle.cw_strand.specs.declared.want.Want.TheVariants as want
use Rattle.cw_strand.specs.Strands.{Strands, Closes, takes_answer}
use Rattle.cw_tree.specs.declared.node.Node.{Node}
use Rattle.cw_tree.specs.declared.node.Kind.{Kind}
use Rattle.cw_tree.specs.declared.node.Kind.TheVariants.{Strand, Block}
use Rattle.cw_tree.specs.declared.node.BlockState.TheVariants.{Committed}
use Rattle.cw_tree.specs.Nodes.{is_strand_kind, parent_of, is_block, fresh_node, closed}
use Rattle.cw_tree.specs.Series.{strand_of}
use Rattle.cw_tree.specs.Names.{name_of}
use Rattle.cw_tree.proofs.NextNodes.Growing.{get_next, length_more, strand_of_new}
use Rattle.cw_tree.proofs.NextNodes.Closing.{length_closed}
use Rattle.cw_tree.proofs.Walks.Strands.{strand_of_le}
use Rattle.cw_tree.proofs.Walks.Ancestors.{ancestor_self}
use Rattle.cw_serial.specs.StrandTree.{at}
use Rattle.cw_serial.specs.Machine.{Machine, pick}
use Rattle.cw_serial.proofs.Branches.{way}
use Rattle.cw_serial.proofs.Working.{WorkerState, machine_at, after_act, IsAtWork, stands_by, at_here, leftmost_here, act_is_pick}
use Rattle.cw_record.specs.declared.items.OrderItem.{OrderItem}
use Rattle.cw_record.specs.declared.items.OrderItem.TheVariants.{Begins, Does, Ends}
use Rattle.cw_record.specs.Items.{is_act_kind}
use Rattle.cw_record.specs.Order.{node_of}
use Rattle.cw_record.specs.Replay.{doer, IsAct, IsItemDone, IsActOf}
use Rattle.cw_record.specs.Drawn.{added}
use Rattle.cw_record.proofs.OneWorker.Building.{IsBuilt, open_items}
use Rattle.cw_record.proofs.OneWorker.GrowingItems.{leaf_items, begin_items, end_items}
use Rattle.cw_record.proofs.OneWorker.GrowingNames.{name_placed}
use Rattle.cw_record.proofs.OneWorker.Doers.{doers_placed, doers_closed}
use Rattle.cw_record.proofs.OneWorker.Playing.{SameDoers, Plays, plays_more, plays_kept}

act_no_strand : (k : Kind) → is_act_kind k ≡ true → is_strand_kind k ≡ false
act_no_strand Strand e = absurd (cc e)
act_no_strand _ e = refl

module _ {A : Type 0} (s : Strands A) (closes : Closes s) where
  -- one item more, at a pick of the strand that is run
  one_more : (t u : List Node) (m : Machine A) (w : WorkerState A) (is : List OrderItem) (i : OrderItem) → IsAtWork s w → takes_answer (s.want w.strand) ≡ true → SameDoers t u → Plays s t m is (machine_at s w)
      → node_of i < length u → doer u i ≡ way w.branches → IsItemDone u (machine_at s w) (s.want w.strand) i → Plays s u m (is ++ i ∷ []) (machine_at s (after_act s w))
  one_more t u m w is i h d same played there name act =
      let (o, f) = stands_by s (s.want w.strand) d in
      plays_more s u m (machine_at s w) (machine_at s (after_act s w)) is i w.strand (plays_kept s t u same m (machine_at s w) is played) there
      (leftmost_here s closes w h f o ∙ ap Some (sym name))
      (ap (at s (machine_at s w).strands) name ∙ at_here s closes w f o)
      act
      (ap (pick s (machine_at s w)) name ∙ act_is_pick s closes w h d)

  module _ (t : List Node) (p clock : ℕ) (built : IsBuilt t p clock) (m : Machine A) (w : WorkerState A) (h : IsAtWork s w) (d : takes_answer (s.want w.strand) ≡ true)
      (named : name_of t (strand_of t p) ≡ way w.branches) (played : Plays s t m (open_items t p) (machine_at s w)) where
    -- the node is of the strand at the place
    new_doer : (kind : Kind) (st : ℕ) (i : OrderItem) → node_of i ≡ length t → is_strand_kind kind ≡ false → doer (added t p kind st) i ≡ way w.branches
    new_doer kind st i e other =
        let u = added t p kind st in
        ap (λ n. name_of u (strand_of u n)) e
        ∙ (ap (name_of u) (strand_of_new t (fresh_node p kind st) built.rooted built.there ∙ ap (λ b. cond b (length t) (strand_of t p)) other)
        ∙ (name_placed t p clock built kind st (strand_of t p) (let low : strand_of t p ≤ p = strand_of_le t built.rooted p built.there in let there = built.there in omega arith) ∙ named))

    pub leaf_played : (kind : Kind) (st : ℕ) → clock < st → is_act_kind kind ≡ true → IsAct w.memory w.since (s.want w.strand) kind → Plays s (added t p kind st) m (open_items (added t p kind st) p) (machine_at s (after_act s w))
    leaf_played kind st later act is =
        let u = added t p kind st in
        let P : List OrderItem → Type 0 = λ items. Plays s u m items (machine_at s (after_act s w)) in
        let Q : Option Node → Type 0 = λ o. IsActOf w.memory w.since (s.want w.strand) o in
        subst P (sym (leaf_items t p clock built kind st act later))
        (one_more t u m w (open_items t p) (Does (length t)) h d (doers_placed t p clock built kind st) played (omega (arith, length_more t (fresh_node p kind st))) (new_doer kind st (Does (length t)) refl (act_no_strand kind act))
        (subst Q (sym (get_next t (fresh_node p kind st) [])) is))

    pub begin_played : (st : ℕ) → s.want w.strand ≡ want.Begin → Plays s (added t p Block st) m (open_items (added t p Block st) (length t)) (machine_at s (after_act s w))
    begin_played st is =
        let u = added t p Block st in
        let P : List OrderItem → Type 0 = λ items. Plays s u m items (machine_at s (after_act s w)) in
        subst P (sym (begin_items t p clock built st))
        (one_more t u m w (open_items t p) (Begins (length t)) h d (doers_placed t p clock built Block st) played (omega (arith, length_more t (fresh_node p Block st))) (new_doer Block st (Begins (length t)) refl refl) is)

    pub end_played : (st : ℕ) → clock < st → is_block t p ≡ true → s.want w.strand ≡ want.End → Plays s (closed t p Committed st) m (open_items (closed t p Committed st) (parent_of t p)) (machine_at s (after_act s w))
    end_played st later block is =
        let u = closed t p Committed st in
        let there = built.there in
        let same = doers_closed t built.rooted p st (built.pending p block (ancestor_self t p)) in
        let P : List OrderItem → Type 0 = λ items. Plays s u m items (machine_at s (after_act s w)) in
        subst P (sym (end_items t p clock built st block later))
        (one_more t u m w (open_items t p) (Ends p) h d same played (omega (arith, length_closed t p Committed st)) (same.doers (Ends p) there ∙ named) is)
