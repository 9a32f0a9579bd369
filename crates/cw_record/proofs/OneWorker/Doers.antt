-- As a tree grows, its old nodes are done by strands of the same names.
use Rattle.std.proofs.Common.{◌≡◌, ℕ, ◌<◌, ◌≤◌, List, [], ◌∷◌, ◌++◌, length, refl, ap, ◌∙◌, arith, true, false}
use Rattle.std.specs.Prelude.{option_map}
use Rattle.cw_tree.specs.declared.node.Node.{Node}
use Rattle.cw_tree.specs.declared.node.Kind.{Kind}
use Rattle.cw_tree.specs.declared.node.Kind.TheVariants.{Strand, Fork}
use Rattle.cw_tree.specs.declared.node.BlockState.TheVariants.{Committed}
use Rattle.cw_tree.specs.Nodes.{is_fork_kind, is_pending, fresh_node, closed}
use Rattle.cw_tree.specs.Walks.{IsRooted}
use Rattle.cw_tree.specs.Series.{strand_of}
use Rattle.cw_tree.specs.Names.{name_of}
use Rattle.cw_tree.proofs.Walks.Strands.{strand_of_le}
use Rattle.cw_tree.proofs.NextNodes.Growing.{get_append, length_more, rooted_more, strand_of_grown}
use Rattle.cw_tree.proofs.NextNodes.Closing.{length_closed, same_closed, strand_of_closed}
use Rattle.cw_record.specs.declared.items.OrderItem.{OrderItem}
use Rattle.cw_record.specs.Order.{node_of}
use Rattle.cw_record.specs.Drawn.{added, added_fork}
use Rattle.cw_record.proofs.OneWorker.Building.{IsBuilt}
use Rattle.cw_record.proofs.OneWorker.GrowingNames.{name_beside, name_closed, name_placed, name_forked}
use Rattle.cw_record.proofs.OneWorker.Playing.{SameDoers}

module _ (t : List Node) (r : IsRooted t) where
  -- what a name is of, in a tree with more nodes
  same_doers : (s : List Node) → ((n : ℕ) → n < length t → name_of (t ++ s) n ≡ name_of t n) → length t ≤ length (t ++ s) → SameDoers t (t ++ s)
  same_doers s names longer = record {
    longer = longer;
    doers = λ i h.
        (let low : strand_of t (node_of i) ≤ node_of i = strand_of_le t r (node_of i) h in
        ap (name_of (t ++ s)) (strand_of_grown t s r (node_of i) h) ∙ names (strand_of t (node_of i)) (omega arith));
    kinds = λ n h. ap (option_map (λ x. x.kind)) (get_append t s n h);
  }

  pub doers_beside : (f : ℕ) (kind : Kind) (st : ℕ) → f < length t → is_fork_kind kind ≡ false → SameDoers t (added t f kind st)
  doers_beside f kind st there other = same_doers (fresh_node f kind st ∷ []) (name_beside t r f there kind st other) (omega (arith, length_more t (fresh_node f kind st)))

  pub doers_closed : (n end : ℕ) → is_pending t n ≡ true → SameDoers t (closed t n Committed end)
  doers_closed n end pending = record {
    longer = omega (arith, length_closed t n Committed end);
    doers = λ i h.
        (let low : strand_of t (node_of i) ≤ node_of i = strand_of_le t r (node_of i) h in
        ap (name_of (closed t n Committed end)) (strand_of_closed t n Committed end r (node_of i) h) ∙ name_closed t r n end pending (strand_of t (node_of i)) (omega arith));
    kinds = λ m h. same_closed t n Committed end (option_map (λ x. x.kind)) (λ x. refl) m;
  }

module _ (t : List Node) (p clock : ℕ) (b : IsBuilt t p clock) where
  pub doers_placed : (kind : Kind) (st : ℕ) → SameDoers t (added t p kind st)
  doers_placed kind st = same_doers t b.rooted (fresh_node p kind st ∷ []) (name_placed t p clock b kind st) (omega (arith, length_more t (fresh_node p kind st)))

  pub doers_forked : (st : ℕ) → SameDoers t (added_fork t p st)
  doers_forked st = record {
    longer = omega (arith, length_more t (fresh_node p Fork st), length_more (added t p Fork st) (fresh_node (length t) Strand 0));
    doers = λ i h.
        (let low : strand_of t (node_of i) ≤ node_of i = strand_of_le t b.rooted (node_of i) h in
        ap (name_of (added_fork t p st)) (kept i h) ∙ name_forked t p clock b st (strand_of t (node_of i)) (omega arith));
    kinds = λ n h. ap (option_map (λ x. x.kind)) (get_append (added t p Fork st) (fresh_node (length t) Strand 0 ∷ []) n (omega (arith, length_more t (fresh_node p Fork st))) ∙ get_append t (fresh_node p Fork st ∷ []) n h);
  } where
    kept : (i : OrderItem) → node_of i < length t → strand_of (added_fork t p st) (node_of i) ≡ strand_of t (node_of i)
    kept i h =
        strand_of_grown (added t p Fork st) (fresh_node (length t) Strand 0 ∷ []) (rooted_more t (fresh_node p Fork st) b.rooted b.there) (node_of i) (omega (arith, length_more t (fresh_node p Fork st)))
        ∙ strand_of_grown t (fresh_node p Fork st ∷ []) b.rooted (node_of i) h
