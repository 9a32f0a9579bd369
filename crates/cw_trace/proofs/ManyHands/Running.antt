-- Each step of a run leaves the tier standing for the tree and the open nodes ordered, and all others go on.
use Rattle.std.proofs.Common.{◌≡◌, ◌≢◌, ℕ, zero, suc, ◌+◌, ◌<◌, ◌≤◌, List, [], ◌∷◌, ◌++◌, length, refl, ap, sym, ◌∙◌, arith, Bool, true, false, Option, Some, inl, inr, nat_lt, nat_eq, eq-eqb, eqb-true, length-append}
use Rattle.std.specs.Prelude.{◌⊎◌, ◌&&◌, slice_get, slice_index}
use Rattle.std.proofs.lemmas.Bool.{or_parts, cases_eq}
use Rattle.std.proofs.lemmas.List.{length-map}
use Rattle.cw_tree.specs.declared.node.Node.{Node}
use Rattle.cw_tree.specs.declared.node.Kind.TheVariants.{Strand, Block}
use Rattle.cw_tree.specs.Nodes.{parent_of, stamp_of, passes, is_strand, is_fork, is_pending, is_strand_kind, is_fork_kind, is_block_kind, is_pending_state, fresh_node, closed}
use Rattle.cw_tree.specs.NextNodes.{fork_nodes}
use Rattle.cw_tree.specs.Walks.{has}
use Rattle.cw_tree.specs.Shape.{IsTree}
use Rattle.cw_tree.proofs.NextNodes.Growing.{node_grown, number_grown, number_new}
use Rattle.cw_tree.proofs.NextNodes.Pending.{pending_closed}
use Rattle.cw_tree.proofs.NextNodes.Trees.{tree_closed}
use Rattle.cw_tree.proofs.Walks.There.{fork_there, pending_there}
use Rattle.cw_tree.proofs.Worked.Checks.{is_tree}
use Rattle.cw_trace.specs.Columns.{ColumnTable, used, owner, first_tier, forked, split_at, merged, back_to, around_fork}
use Rattle.cw_trace.specs.Stands.{column, fork_column}
use Rattle.cw_trace.specs.Keeps.{Keeps}
use Rattle.cw_trace.specs.Running.{IsUnsplit, IsOrdered, MayGoOn}
use Rattle.cw_trace.specs.Hands.{StandsInOrder, gap_at}
use Rattle.cw_trace.specs.OrderedRuns.{Moment, GoesOnAt, TierStep, leaf, begin, fork, inline, close, finish, split, merge, join, join_inline, RunsInOrder, start, more, EachMomentStands, OthersGoOn}
use Rattle.cw_trace.proofs.Stands.Counting.{fork_column_lt}
use Rattle.cw_trace.proofs.Segments.Lines.{le_or_lt}
use Rattle.cw_trace.proofs.Marks.Edits.{length_parts}
use Rattle.cw_trace.proofs.Keeps.Forking.{get_right}
use Rattle.cw_trace.proofs.Keeps.Kept.{fork_keeps, inline_keeps}
use Rattle.cw_trace.proofs.Keeps.TreeGrows.{may_have, tree_one_more, tree_forked}
use Rattle.cw_trace.proofs.Keeps.TierLaws as law
use Rattle.cw_trace.proofs.Outward.FromTree.{split_keeps, merge_keeps}
use Rattle.cw_trace.proofs.ManyHands.Opening.{Made, made_ordered, made_goes}
use Rattle.cw_trace.proofs.ManyHands.Shutting.{shut_ordered, shut_goes}
use Rattle.cw_trace.proofs.ManyHands.Steps.{node_made, fork_made, close_shuts, finish_shuts, join_shuts, inline_shuts}

-- what holds at each moment of a run
pub record Standing (s : Moment) : Type 0 where
  pub stands : StandsInOrder s.columns s.words s.tree s.cuts s.joins s.is_open
  pub stamps : (b : ℕ) → is_pending s.tree b ≡ true → 0 < stamp_of s.tree b

-- ## The root strand alone

root_ordered : (room : ℕ) → IsOrdered (first_tier room) (fresh_node 0 Strand 0 ∷ []) [] [] (λ m. nat_eq m 0)
root_ordered room = record {
  root = refl;
  pending = λ b e. absurd (no_node b e);
  forks = λ f e h un. absurd (no_fork f e);
  joined = λ f e h op. absurd (no_fork f e);
  kinds = λ n h e. (let same : n ≡ 0 = omega arith in inl (ap (is_strand (fresh_node 0 Strand 0 ∷ [])) same));
  outer = λ n p h e. absurd (omega arith);
  one = λ n m p q h g e f same nf. absurd (omega arith);
  left_first = λ l r n p q h same f un hn over ne. absurd (omega arith);
} where
  no_node : (b : ℕ) → is_pending (fresh_node 0 Strand 0 ∷ []) b ≡ true → ⊥
  no_node zero e = cc e
  no_node (suc b) e = cc e

  no_fork : (f : ℕ) → is_fork (fresh_node 0 Strand 0 ∷ []) f ≡ true → ⊥
  no_fork zero e = cc e
  no_fork (suc f) e = cc e

-- ## Splits

module _ (c : ColumnTable) (t : List Node) (cuts joins : List ℕ) (is_open : ℕ → Bool) (f : ℕ) where
  split_used : used (split_at f c) ≡ used c
  split_used = length_parts (owner c f) f 0 c.owners

  unsplit_was : (g : ℕ) → IsUnsplit (split_at f c) t (f ∷ cuts) g → IsUnsplit c t cuts g
  unsplit_was g (inl h) = inl (omega (arith, split_used))
  unsplit_was g (inr e) = inr (or_parts (nat_eq f (fork_column t g)) (has cuts (fork_column t g)) e).1

  split_ordered : IsOrdered c t cuts joins is_open → IsOrdered (split_at f c) t (f ∷ cuts) joins is_open
  split_ordered o = record {
    root = o.root;
    pending = o.pending;
    forks = λ g e h un. o.forks g e (omega (arith, split_used)) un;
    joined = λ g e h op. o.joined g e (omega (arith, split_used)) op;
    kinds = o.kinds;
    outer = o.outer;
    one = o.one;
    left_first = λ l r n p less h same fk un hn over ne. o.left_first l r n p less h same fk (unsplit_was (parent_of t r) un) hn over ne;
  }

  split_goes : (p : ℕ) → MayGoOn c t cuts is_open p → MayGoOn (split_at f c) t (f ∷ cuts) is_open p
  split_goes p m = record { there = m.there; opened = m.opened; no_fork = m.no_fork; innermost = m.innermost; left_done = λ l q less same fk un. m.left_done l q less same fk (unsplit_was (parent_of t p) un) }

-- ## Each step

-- the pending blocks of a tree that has grown have stamps, where the new ones have
stamps_grown : (t s : List Node) → ((b : ℕ) → is_pending t b ≡ true → 0 < stamp_of t b) → ((b : ℕ) → length t ≤ b → is_pending (t ++ s) b ≡ true → 0 < stamp_of (t ++ s) b) → (b : ℕ) → is_pending (t ++ s) b ≡ true → 0 < stamp_of (t ++ s) b
stamps_grown t s old new b e = elim (le_or_lt (length t) b) [
  | inl l ↦ new b l e
  | inr l ↦ (let some : 0 < stamp_of t b = old b (sym (node_grown t s (λ x. is_block_kind x.kind && is_pending_state x.state) b l) ∙ e) in omega (arith, number_grown t s (λ x. x.stamp) b l))
]

module _ (s : Moment) (h : Standing s) where
  abbrev c : ColumnTable
  c = s.columns

  abbrev t : List Node
  t = s.tree

  tr : IsTree t
  tr = h.stands.tree

  keeps : Keeps s.columns s.words s.tree s.cuts s.joins
  keeps = h.stands.keeps

  o : IsOrdered s.columns s.tree s.cuts s.joins s.is_open
  o = h.stands.ordered

  grown_tree : (x : Node) → GoesOnAt s x.parent → is_strand_kind x.kind ≡ false → is_fork_kind x.kind ≡ false → IsTree (s.tree ++ x ∷ [])
  grown_tree x m ns nf = tree_one_more t tr x.parent m.there (may_have c t s.cuts s.joins s.is_open o x.parent m) x refl ns nf

  forked_tree : (p stamp : ℕ) → GoesOnAt s p → IsTree (s.tree ++ fork_nodes (length s.tree) p stamp)
  forked_tree p stamp m = tree_forked t tr p m.there (may_have c t s.cuts s.joins s.is_open o p m) stamp

  leaf_made : (x : Node) → GoesOnAt s x.parent → is_strand_kind x.kind ≡ false → is_fork_kind x.kind ≡ false → (is_block_kind x.kind && is_pending_state x.state) ≡ false → Made c c t (x ∷ []) s.joins x.parent (λ m. false)
  leaf_made x m ns nf np = node_made c t s.joins x.parent m.there x refl ns nf (λ m. false) (λ e. absurd (cc (e, np))) (λ e. absurd (cc e))

  block_made : (p stamp : ℕ) → GoesOnAt s p → Made c c t (fresh_node p Block stamp ∷ []) s.joins p (λ m. nat_eq m (length s.tree))
  block_made p stamp m = node_made c t s.joins p m.there (fresh_node p Block stamp) refl refl refl (λ m. nat_eq m (length s.tree)) (λ e. eq-eqb (length s.tree) (length s.tree) refl) (λ e. refl)

  more_used : (word p : ℕ) → used (forked word p c) ≡ used c + 2
  more_used word p = length-append c.owners (owner c p ∷ owner c p ∷ [])

  all : used s.columns + 2 ≤ s.columns.room → (f : ℕ) → is_fork t f ≡ true → fork_column t f + 2 ≤ used c
  all roomy f e = let z : fork_column t f + 2 ≤ fork_column t (length t) = fork_column_lt t f (length t) (fork_there t f e) e in omega (arith, keeps.all_forks roomy)

  forks_made : (word p stamp : ℕ) → GoesOnAt s p → used s.columns + 2 ≤ s.columns.room → Made c (forked word (column t (used c) p) c) t (fork_nodes (length t) p stamp) s.joins p (λ m. nat_lt m (length s.tree + 3))
  forks_made word p stamp m roomy =
      fork_made c (forked word (column t (used c) p) c) s.words t s.cuts s.joins keeps tr p stamp m.there (forked_tree p stamp m)
      (λ f e. (let l = all roomy f e in ((λ k. omega arith), (λ k. omega (arith, more_used word (column t (used c) p))))))

  inline_made : (p stamp : ℕ) → GoesOnAt s p → Made c c t (fork_nodes (length t) p stamp) s.joins p (λ m. nat_lt m (length s.tree + 3))
  inline_made p stamp m = fork_made c c s.words t s.cuts s.joins keeps tr p stamp m.there (forked_tree p stamp m) (λ f e. ((λ k. k), λ k. k))

  fork_stamps : (p stamp b : ℕ) → is_pending (s.tree ++ fork_nodes (length s.tree) p stamp) b ≡ true → 0 < stamp_of (s.tree ++ fork_nodes (length s.tree) p stamp) b
  fork_stamps p stamp = stamps_grown t (fork_nodes (length t) p stamp) h.stamps (λ b l e. absurd (no_block b l e)) where
    no_block : (b : ℕ) → length t ≤ b → is_pending (t ++ fork_nodes (length t) p stamp) b ≡ true → ⊥
    no_block b l e = by_place (cases_eq b (length t)) (cases_eq b (length t + 1)) where
      long : length (t ++ fork_nodes (length t) p stamp) ≡ length t + 3
      long = length-append t (fork_nodes (length t) p stamp)

      at : (j : ℕ) → b ≡ length t + j → is_pending (t ++ fork_nodes (length t) p stamp) b ≡ passes (λ x. is_block_kind x.kind && is_pending_state x.state) (slice_get (fork_nodes (length t) p stamp) j)
      at j q = ap (is_pending (t ++ fork_nodes (length t) p stamp)) q ∙ ap (passes (λ x. is_block_kind x.kind && is_pending_state x.state)) (get_right t (fork_nodes (length t) p stamp) j)

      by_place : (b ≡ length t) ⊎ (b ≢ length t) → (b ≡ length t + 1) ⊎ (b ≢ length t + 1) → ⊥
      by_place (inl q) z = cc (sym (at 0 (omega (arith, q))) ∙ e)
      by_place (inr n1) (inl q) = cc (sym (at 1 q) ∙ e)
      by_place (inr n1) (inr n2) = cc (sym (at 2 (let j = pending_there (t ++ fork_nodes (length t) p stamp) b e in omega (arith, long, n1, n2))) ∙ e)

merged_used : (f : ℕ) (c : ColumnTable) → used (merged f c) ≡ used c
merged_used f c = length-map c.owners (back_to (around_fork c f) f)

-- after each step the tier stands for the tree, and the open nodes are ordered
pub steps_on : (s u : Moment) (who : Option ℕ) → Standing s → TierStep s who u → Standing u
steps_on s _ _ h (leaf x m ns nf np) = record {
  stands = record {
    tree = grown_tree s h x m ns nf;
    keeps = law.leaf s.columns s.words s.tree s.cuts s.joins s.is_open x.parent x h.stands.keeps h.stands.tree h.stands.ordered m refl ns nf np;
    ordered = made_ordered s.columns s.columns s.tree (x ∷ []) s.cuts s.joins s.is_open h.stands.tree (grown_tree s h x m ns nf) x.parent m (λ m. false) (leaf_made s h x m ns nf np) h.stands.ordered;
  };
  stamps = stamps_grown s.tree (x ∷ []) h.stamps (λ b l e. absurd (cc ((leaf_made s h x m ns nf np).pending b l e)));
}
steps_on s _ _ h (begin p stamp m some later) = record {
  stands = record {
    tree = grown_tree s h (fresh_node p Block stamp) m refl refl;
    keeps = law.begin s.columns s.words s.tree s.cuts s.joins s.is_open p stamp h.stands.keeps h.stands.tree h.stands.ordered m h.stamps some later;
    ordered = made_ordered s.columns s.columns s.tree (fresh_node p Block stamp ∷ []) s.cuts s.joins s.is_open h.stands.tree (grown_tree s h (fresh_node p Block stamp) m refl refl) p m (λ k. nat_eq k (length s.tree)) (block_made s h p stamp m) h.stands.ordered;
  };
  stamps = stamps_grown s.tree (fresh_node p Block stamp ∷ []) h.stamps (λ b l e. (
      let same : b ≡ length s.tree = eqb-true b (length s.tree) ((block_made s h p stamp m).pending b l e) in
      omega (arith, ap (stamp_of (s.tree ++ fresh_node p Block stamp ∷ [])) same, number_new s.tree (fresh_node p Block stamp) (λ y. y.stamp))));
}
steps_on s _ _ h (fork p stamp m roomy) = record {
  stands = record {
    tree = forked_tree s h p stamp m;
    keeps = fork_keeps _ _ s.columns _ roomy refl s.words s.tree s.cuts s.joins s.is_open p stamp h.stands.keeps h.stands.tree h.stamps h.stands.ordered m refl refl;
    ordered = made_ordered s.columns _ s.tree (fork_nodes (length s.tree) p stamp) s.cuts s.joins s.is_open h.stands.tree (forked_tree s h p stamp m) p m (λ k. nat_lt k (length s.tree + 3)) (forks_made s h _ p stamp m roomy) h.stands.ordered;
  };
  stamps = fork_stamps s h p stamp;
}
steps_on s _ _ h (inline p stamp m full) = record {
  stands = record {
    tree = forked_tree s h p stamp m;
    keeps = inline_keeps _ _ s.columns s.columns full refl s.words s.tree s.cuts s.joins s.is_open p stamp h.stands.keeps h.stands.tree h.stamps h.stands.ordered m refl refl;
    ordered = made_ordered s.columns s.columns s.tree (fork_nodes (length s.tree) p stamp) s.cuts s.joins s.is_open h.stands.tree (forked_tree s h p stamp m) p m (λ k. nat_lt k (length s.tree + 3)) (inline_made s h p stamp m) h.stands.ordered;
  };
  stamps = fork_stamps s h p stamp;
}
steps_on s _ _ h (close q end state m pq over distinct) = record {
  stands = record {
    tree = tree_closed s.tree h.stands.tree q state end;
    keeps = law.close s.columns s.words s.tree s.cuts s.joins s.is_open q end state h.stands.keeps h.stands.tree h.stands.ordered m pq over h.stamps distinct;
    ordered = shut_ordered s.columns s.columns s.tree (closed s.tree q state end) s.cuts s.joins s.joins s.is_open h.stands.tree q (close_shuts s.columns s.tree s.cuts s.joins s.is_open h.stands.tree q end state m pq over) h.stands.ordered;
  };
  stamps = λ b e. (let some : 0 < stamp_of s.tree b = h.stamps b (pending_closed s.tree q state end over b e).1 in omega (arith, (law.closed_shape s.tree q state end).stamps b));
}
steps_on s _ _ h (finish x m strand some) = record {
  stands = record {
    tree = h.stands.tree;
    keeps = h.stands.keeps;
    ordered = shut_ordered s.columns s.columns s.tree s.tree s.cuts s.joins s.joins s.is_open h.stands.tree x (finish_shuts s.columns s.tree s.cuts s.joins s.is_open x m strand some) h.stands.ordered;
  };
  stamps = h.stamps;
}
steps_on s _ _ h (split f low left whole early unstarted) = record {
  stands = record {
    tree = h.stands.tree;
    keeps = split_keeps s.columns s.words s.tree s.cuts s.joins h.stands.keeps h.stands.tree f low left whole unstarted early;
    ordered = split_ordered s.columns s.tree s.cuts s.joins s.is_open f h.stands.ordered;
  };
  stamps = h.stamps;
}
steps_on s _ _ h (merge f low left apart done) = record {
  stands = record {
    tree = h.stands.tree;
    keeps = merge_keeps s.columns s.words s.tree s.cuts s.joins h.stands.keeps h.stands.tree s.is_open h.stands.ordered f low left apart done;
    ordered = shut_ordered s.columns (merged f s.columns) s.tree s.tree s.cuts s.joins (f ∷ s.joins) s.is_open h.stands.tree done.fork (join_shuts s.columns (merged f s.columns) s.tree s.joins s.is_open h.stands.tree f (merged_used f s.columns) done) h.stands.ordered;
  };
  stamps = h.stamps;
}
steps_on s _ _ h (join f may) = record {
  stands = record {
    tree = h.stands.tree;
    keeps = law.join s.columns s.words s.tree s.cuts s.joins s.is_open f h.stands.keeps h.stands.tree h.stands.ordered may;
    ordered = shut_ordered s.columns s.columns s.tree s.tree s.cuts s.joins (f ∷ s.joins) s.is_open h.stands.tree may.done.fork (join_shuts s.columns s.columns s.tree s.joins s.is_open h.stands.tree f refl may.done) h.stands.ordered;
  };
  stamps = h.stamps;
}
steps_on s _ _ h (join_inline f is bare done) = record {
  stands = record {
    tree = h.stands.tree;
    keeps = h.stands.keeps;
    ordered = shut_ordered s.columns s.columns s.tree s.tree s.cuts s.joins s.joins s.is_open h.stands.tree f (inline_shuts s.columns s.tree s.joins s.is_open h.stands.tree f is bare done) h.stands.ordered;
  };
  stamps = h.stamps;
}

pub each_stands : (s : Moment) → RunsInOrder s → Standing s
each_stands _ (start room words some fits zeros) = record {
  stands = record { tree = is_tree (fresh_node 0 Strand 0 ∷ []) (omega arith) refl refl refl refl refl; keeps = law.start room words some fits zeros; ordered = root_ordered room };
  stamps = λ b e. absurd (none b e);
} where
  none : (b : ℕ) → is_pending (fresh_node 0 Strand 0 ∷ []) b ≡ true → ⊥
  none zero e = cc e
  none (suc b) e = cc e
each_stands u (more s _ who r step) = steps_on s u who (each_stands s r) step

pub each_moment_stands : EachMomentStands
each_moment_stands s r = (each_stands s r).stands

-- ## Others

-- no new node stands at another's place
beside : (c d : ColumnTable) (t s : List Node) (joins : List ℕ) (p q : ℕ) (new : ℕ → Bool) → Made c d t s joins q new → p < length t → (q ≡ p → ⊥) → (k : ℕ) → length t ≤ k → k < length (t ++ s) → parent_of (t ++ s) k ≡ p → new k ≡ true → ⊥
beside c d t s joins p q new g there ne k l h e o = elim (g.parents k l h) [ inl up ↦ ne (sym up ∙ e) | inr y ↦ omega (arith, e) ]

others : (s u : Moment) (who : Option ℕ) (p : ℕ) → Standing s → TierStep s who u → (who ≡ Some p → ⊥) → GoesOnAt s p → GoesOnAt u p
others s _ _ p h (leaf x m ns nf np) ne w =
    made_goes s.columns s.columns s.tree (x ∷ []) s.cuts s.joins s.is_open h.stands.tree (grown_tree s h x m ns nf) x.parent m (λ m. false) (leaf_made s h x m ns nf np) p w (λ k l g e o. cc o)
others s _ _ p h (begin q stamp m some later) ne w =
    made_goes s.columns s.columns s.tree (fresh_node q Block stamp ∷ []) s.cuts s.joins s.is_open h.stands.tree (grown_tree s h (fresh_node q Block stamp) m refl refl) q m (λ k. nat_eq k (length s.tree)) (block_made s h q stamp m) p w
    (beside s.columns s.columns s.tree (fresh_node q Block stamp ∷ []) s.joins p q (λ k. nat_eq k (length s.tree)) (block_made s h q stamp m) w.there (λ z. ne (ap Some z)))
others s _ _ p h (fork q stamp m roomy) ne w =
    made_goes s.columns (forked (slice_index s.words (gap_at s.columns s.tree q)) (column s.tree (used s.columns) q) s.columns) s.tree (fork_nodes (length s.tree) q stamp) s.cuts s.joins s.is_open h.stands.tree (forked_tree s h q stamp m) q m (λ k. nat_lt k (length s.tree + 3)) (forks_made s h (slice_index s.words (gap_at s.columns s.tree q)) q stamp m roomy) p w
    (beside s.columns (forked (slice_index s.words (gap_at s.columns s.tree q)) (column s.tree (used s.columns) q) s.columns) s.tree (fork_nodes (length s.tree) q stamp) s.joins p q (λ k. nat_lt k (length s.tree + 3)) (forks_made s h (slice_index s.words (gap_at s.columns s.tree q)) q stamp m roomy) w.there (λ z. ne (ap Some z)))
others s _ _ p h (inline q stamp m full) ne w =
    made_goes s.columns s.columns s.tree (fork_nodes (length s.tree) q stamp) s.cuts s.joins s.is_open h.stands.tree (forked_tree s h q stamp m) q m (λ k. nat_lt k (length s.tree + 3)) (inline_made s h q stamp m) p w
    (beside s.columns s.columns s.tree (fork_nodes (length s.tree) q stamp) s.joins p q (λ k. nat_lt k (length s.tree + 3)) (inline_made s h q stamp m) w.there (λ z. ne (ap Some z)))
others s _ _ p h (close q end state m pq over distinct) ne w =
    shut_goes s.columns s.columns s.tree (closed s.tree q state end) s.cuts s.joins s.joins s.is_open h.stands.tree q (close_shuts s.columns s.tree s.cuts s.joins s.is_open h.stands.tree q end state m pq over) p (λ z. ne (ap Some (sym z))) w
others s _ _ p h (finish x m strand some) ne w =
    shut_goes s.columns s.columns s.tree s.tree s.cuts s.joins s.joins s.is_open h.stands.tree x (finish_shuts s.columns s.tree s.cuts s.joins s.is_open x m strand some) p (λ z. ne (ap Some (sym z))) w
others s _ _ p h (split f low left whole early unstarted) ne w = split_goes s.columns s.tree s.cuts s.joins s.is_open f p w
others s _ _ p h (merge f low left apart done) ne w =
    shut_goes s.columns (merged f s.columns) s.tree s.tree s.cuts s.joins (f ∷ s.joins) s.is_open h.stands.tree done.fork (join_shuts s.columns (merged f s.columns) s.tree s.joins s.is_open h.stands.tree f (merged_used f s.columns) done) p
    (λ z. cc (ap (is_fork s.tree) z, done.is, w.no_fork)) w
others s _ _ p h (join f may) ne w =
    shut_goes s.columns s.columns s.tree s.tree s.cuts s.joins (f ∷ s.joins) s.is_open h.stands.tree may.done.fork (join_shuts s.columns s.columns s.tree s.joins s.is_open h.stands.tree f refl may.done) p
    (λ z. cc (ap (is_fork s.tree) z, may.done.is, w.no_fork)) w
others s _ _ p h (join_inline f is bare done) ne w =
    shut_goes s.columns s.columns s.tree s.tree s.cuts s.joins s.joins s.is_open h.stands.tree f (inline_shuts s.columns s.tree s.joins s.is_open h.stands.tree f is bare done) p
    (λ z. cc (ap (is_fork s.tree) z, is, w.no_fork)) w

pub others_go_on : OthersGoOn
others_go_on s u who p r step ne w = others s u who p (each_stands s r) step ne w
