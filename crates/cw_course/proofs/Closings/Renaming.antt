-- Where a strand stands, in depth-first order.
use Rattle.std.proofs.Common.{◌≡◌, ℕ, zero, suc, ◌<◌, List, length, refl, ap, sym, ◌∙◌, subst, arith, true, false, Option, Some, None}
use Rattle.std.specs.Prelude.{◌||◌, option_map}
use Rattle.cw_tree.specs.declared.node.Node.{Node}
use Rattle.cw_tree.specs.Nodes.{parent_of, is_strand, is_fork, is_block, is_pending}
use Rattle.cw_tree.specs.Walks.{IsNumbered}
use Rattle.cw_tree.specs.Series.{place}
use Rattle.cw_tree.specs.Shape.{PendingLast}
use Rattle.cw_tree.specs.InOrder.{renamed, in_order}
use Rattle.cw_tree.proofs.NodeKinds.{block_some, pending_block}
use Rattle.cw_tree.proofs.Walks.There.{pending_there}
use Rattle.cw_tree.proofs.InOrder.DepthFirst.{IsChild}
use Rattle.cw_tree.proofs.InOrder.Renumbered.{in_order_numbered}
use Rattle.cw_tree.proofs.InOrder.Renaming.{root_stays, parent_stays, renamed_some, renamed_apart}
use Rattle.cw_open.proofs.Reordered.Renamed.{each_number, low, strand_kept, fork_kept, block_kept, pending_kept}
use Rattle.cw_course.proofs.Closings.Chains.{Chain, here, down, Down, AreInPlaces, place_is}

module _ (t : List Node) (w : IsNumbered t) where
  abbrev new : List Node
  new = in_order t

  abbrev f : ℕ → ℕ
  f = renamed t

  child_renamed : (p m : ℕ) → IsChild t p m → IsChild new (f p) (f m)
  child_renamed p m c = record { some = renamed_some t w m c.some c.there; there = low t w m c.there; parent = parent_stays t w m c.there ∙ ap f c.parent }

  child_back : (p m : ℕ) → p < length t → m < length t → IsChild new (f p) (f m) → IsChild t p m
  child_back p zero hp h c = absurd (let some = c.some in let root = root_stays t w in omega arith)
  child_back p (suc m) hp h c =
      let up : parent_of t (suc m) < suc m = w.rooted (suc m) (omega arith) h in
      record { some = omega arith; there = h; parent = renamed_apart t w (parent_of t (suc m)) p (omega arith) hp (sym (parent_stays t w (suc m) h) ∙ c.parent) }

  pub chain_low : (p q : ℕ) → Chain t p q → p < length t → q < length t
  chain_low p q here h = h
  chain_low p q (down {n = n} c e more) h = chain_low n q more c.there

  chain_renamed : (p q : ℕ) → Chain t p q → Chain new (f p) (f q)
  chain_renamed p q here = here
  chain_renamed p q (down {n = n} c e more) = down (child_renamed p n c) (pending_kept t w n c.there ∙ e) (chain_renamed n q more)

  down_renamed : (p q : ℕ) → p < length t → Down t p q → Down new (f p) (f q)
  down_renamed p q h d = record {
    chain = chain_renamed p q d.chain;
    last = λ m c.
        each_number t w (λ k. IsChild new (f q) k → is_pending new k ≡ false)
        (λ k l e. pending_kept t w k l ∙ d.last k (child_back q k (chain_low p q d.chain h) l e)) m c.there c;
  }

  held_renamed : AreInPlaces t → AreInPlaces new
  held_renamed held n e =
      each_number t w (λ k. is_pending new k ≡ true → (is_strand new (parent_of new k) || is_block new (parent_of new k)) ≡ true)
      (λ k h waits.
      let is = sym (pending_kept t w k h) ∙ waits in
      let up : parent_of t k < k = w.rooted k (block_some t w.root k (pending_block t k is)) h in
      ap (λ p. is_strand new p || is_block new p) (parent_stays t w k h)
      ∙ ap (λ b. b || is_block new (f (parent_of t k))) (strand_kept t w (parent_of t k) (omega arith))
      ∙ ap (λ b. is_strand t (parent_of t k) || b) (block_kept t w (parent_of t k) (omega arith))
      ∙ held k is)
      n (pending_there new n e) e

  -- the strand of which this is the place in the one tree stands there in the other
  pub place_renamed : AreInPlaces t → PendingLast new → (x q : ℕ) → x < length t → is_strand t x ≡ true → Down t x q → place new (f x) ≡ f q
  place_renamed held pl x q h is d = place_is new (in_order_numbered t w) pl (held_renamed held) (f x) (f q) (strand_kept t w x h ∙ is) (down_renamed x q h d)
