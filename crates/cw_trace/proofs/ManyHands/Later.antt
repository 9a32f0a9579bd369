-- A number that is above all stamps of a trace stays so as others step, and as forks are split and merged.
use Rattle.std.proofs.Common.{◌≡◌, ◌≢◌, ℕ, zero, suc, ◌+◌, ◌<◌, ◌≤◌, List, [], ◌∷◌, ◌++◌, length, refl, ap, sym, ◌∙◌, arith, true, None, inl, inr, length-append}
use Rattle.std.proofs.lemmas.Bool.{cases_eq}
use Rattle.std.proofs.Math.ListN.{get_or-append}
use Rattle.cw_tree.specs.declared.node.Node.{Node}
use Rattle.cw_tree.specs.declared.node.Kind.TheVariants.{Strand, Fork}
use Rattle.cw_tree.specs.Nodes.{stamp_of, number_in, is_fork, is_pending, fresh_node, closed}
use Rattle.cw_tree.specs.NextNodes.{fork_nodes}
use Rattle.cw_tree.specs.Shape.{IsTree}
use Rattle.cw_tree.proofs.NextNodes.Growing.{number_grown}
use Rattle.cw_tree.proofs.NextNodes.Closing.{length_closed}
use Rattle.cw_tree.proofs.Walks.There.{fork_there}
use Rattle.cw_trace.specs.Columns.{ColumnTable, used, owner, forked, split_at, merged}
use Rattle.cw_trace.specs.Stands.{column, fork_column, around}
use Rattle.cw_trace.specs.Segments.{MaySplit, MayMerge, next_outward}
use Rattle.cw_trace.specs.Hands.{trace_at, IsLater, LaterWithNode, LaterWithFork, LaterWithInline, LaterClosed, LaterSplit, LaterMerged}
use Rattle.cw_trace.proofs.Stands.Counting.{fork_column_lt}
use Rattle.cw_trace.proofs.Segments.Lines.{le_or_lt, used_some}
use Rattle.cw_trace.proofs.Segments.Split as split
use Rattle.cw_trace.proofs.Segments.Merge as merge
use Rattle.cw_trace.proofs.Keeps.Meaning.{column_low}
use Rattle.cw_trace.proofs.Keeps.Grow.{column_append}
use Rattle.cw_trace.proofs.Keeps.Forking.{column_more, get_right}
use Rattle.cw_trace.proofs.Keeps.Ending.{column_same}
use Rattle.cw_trace.proofs.Keeps.TierLaws.{closed_shape}
use Rattle.cw_trace.proofs.Keeps.GoingOn.{active}
use Rattle.cw_trace.proofs.Keeps.TreeGrows.{may_have, tree_forked}
use Rattle.cw_trace.proofs.Outward.FromTree.{may_split, may_merge, nothing_open}
use Rattle.cw_trace.proofs.ManyHands.Differ.{hands_differ, nodes_apart, column_next}

-- ## Nodes of another

pub later_with_node : LaterWithNode
later_with_node c words t cuts joins is_open p q number x s m n ne under ns nf l k h e = elim (le_or_lt (length t) k) [
  | inr low ↦ (
      let same : trace_at c t k ≡ trace_at c t p = sym (ap (owner c) (column_append t (x ∷ []) s.tree.rooted (used c) k low)) ∙ e ∙ ap (owner c) (column_append t (x ∷ []) s.tree.rooted (used c) p m.there) in
      let le : stamp_of t k ≤ number = l k low same in
      omega (arith, number_grown t (x ∷ []) (λ y. y.stamp) k low))
  | inl past ↦ absurd (
      let here : k ≡ length t = omega (arith, length-append t (x ∷ [])) in
      nodes_apart c words t cuts joins is_open p q x s m n ne under ns nf (ap (trace_at c (t ++ x ∷ [])) (sym here) ∙ e))
]

-- a fork of another, whose strands have no stamps
module _ (c d : ColumnTable) (t : List Node) (q stamp : ℕ) (old : (m : ℕ) → m < length t → trace_at d (t ++ fork_nodes (length t) q stamp) m ≡ trace_at c t m) (here : trace_at d (t ++ fork_nodes (length t) q stamp) (length t) ≡ trace_at c t q) where
  abbrev grown : List Node
  grown = t ++ fork_nodes (length t) q stamp

  strand_stamp : (j : ℕ) → 0 < j → j < 3 → stamp_of grown (length t + j) ≡ 0
  strand_stamp zero a b = absurd (omega arith)
  strand_stamp (suc zero) a b = ap (number_in (λ y. y.stamp)) (get_right t (fork_nodes (length t) q stamp) 1)
  strand_stamp (suc (suc zero)) a b = ap (number_in (λ y. y.stamp)) (get_right t (fork_nodes (length t) q stamp) 2)
  strand_stamp (suc (suc (suc j))) a b = absurd (omega arith)

  later_fork : (p number : ℕ) → p < length t → trace_at c t p ≢ trace_at c t q → IsLater c t p number → IsLater d grown p number
  later_fork p number hp ne l k h e = elim (le_or_lt (length t) k) [
    | inr low ↦ (let le : stamp_of t k ≤ number = l k low (sym (old k low) ∙ e ∙ old p hp) in omega (arith, number_grown t (fork_nodes (length t) q stamp) (λ y. y.stamp) k low))
    | inl past ↦ elim (cases_eq k (length t)) [
      | inl same ↦ absurd (ne (sym (old p hp) ∙ sym e ∙ ap (trace_at d grown) same ∙ here))
      | inr other ↦ elim (cases_eq k (length t + 1)) [
        | inl one ↦ omega (arith, ap (stamp_of grown) one, strand_stamp 1 (omega arith) (omega arith))
        | inr more ↦ (
            let two : k ≡ length t + 2 = omega (arith, length-append t (fork_nodes (length t) q stamp)) in
            omega (arith, ap (stamp_of grown) two, strand_stamp 2 (omega arith) (omega arith)))
      ]
    ]
  ]

pub later_with_inline : LaterWithInline
later_with_inline c words t cuts joins is_open p q stamp number s m n ne full l =
    let more : List Node = fork_nodes (length t) q stamp in
    let tr2 : IsTree (t ++ fork_nodes (length t) q stamp) = tree_forked t s.tree q n.there (may_have c t cuts joins is_open s.ordered q n) stamp in
    let old : (k : ℕ) → k < length t → trace_at c (t ++ fork_nodes (length t) q stamp) k ≡ trace_at c t k = λ k h. ap (owner c) (column_append t (fork_nodes (length t) q stamp) s.tree.rooted (used c) k h) in
    let here : trace_at c (t ++ fork_nodes (length t) q stamp) (length t) ≡ trace_at c t q =
    ap (owner c) (column_next (used c) t s.tree q (fresh_node q Fork stamp) (fresh_node (length t) Strand 0 ∷ fresh_node (length t) Strand 0 ∷ []) tr2 refl refl) ∙ old q n.there
    in
    later_fork c c t q stamp old here p number m.there (hands_differ c words t cuts joins is_open p q s m n ne).0 l

pub later_with_fork : LaterWithFork
later_with_fork c words t cuts joins is_open p q word stamp number s m n ne roomy l = later_fork c d t q stamp old here p number m.there (hands_differ c words t cuts joins is_open p q s m n ne).0 l where
  d : ColumnTable
  d = forked word (column t (used c) q) c

  grown : List Node
  grown = t ++ fork_nodes (length t) q stamp

  tr2 : IsTree (t ++ fork_nodes (length t) q stamp)
  tr2 = tree_forked t s.tree q n.there (may_have c t cuts joins is_open s.ordered q n) stamp

  more_used : used (forked word (column t (used c) q) c) ≡ used c + 2
  more_used = length-append c.owners (owner c (column t (used c) q) ∷ owner c (column t (used c) q) ∷ [])

  all : (f : ℕ) → is_fork t f ≡ true → (fork_column t f + 1 < used c + 2) × (fork_column t f + 1 < used c)
  all f e =
      let z : fork_column t f + 2 ≤ fork_column t (length t) = fork_column_lt t f (length t) (fork_there t f e) e in
      (omega (arith, s.keeps.all_forks roomy), omega (arith, s.keeps.all_forks roomy))

  cols : (k : ℕ) → k < length t → column (t ++ fork_nodes (length t) q stamp) (used (forked word (column t (used c) q) c)) k ≡ column t (used c) k
  cols k h =
      ap (λ size. column (t ++ fork_nodes (length t) q stamp) size k) more_used
      ∙ column_append t (fork_nodes (length t) q stamp) s.tree.rooted (used c + 2) k h
      ∙ column_more t s.tree (used c + 2) (used c) all k h

  owner_old : (k : ℕ) → owner (forked word (column t (used c) q) c) (column t (used c) k) ≡ owner c (column t (used c) k)
  owner_old k =
      get_or-append c.owners (owner c (column t (used c) q) ∷ owner c (column t (used c) q) ∷ []) 0 (column t (used c) k)
      (column_low t (used c) k (used_some c cuts joins (is_pending t) (column t (used c)) s.keeps.segments))

  old : (k : ℕ) → k < length t → trace_at (forked word (column t (used c) q) c) (t ++ fork_nodes (length t) q stamp) k ≡ trace_at c t k
  old k h = ap (owner (forked word (column t (used c) q) c)) (cols k h) ∙ owner_old k

  here : trace_at (forked word (column t (used c) q) c) (t ++ fork_nodes (length t) q stamp) (length t) ≡ trace_at c t q
  here =
      ap (owner (forked word (column t (used c) q) c)) (column_next (used (forked word (column t (used c) q) c)) t s.tree q (fresh_node q Fork stamp) (fresh_node (length t) Strand 0 ∷ fresh_node (length t) Strand 0 ∷ []) tr2 refl refl)
      ∙ old q n.there

-- ## Closed blocks

pub later_closed : LaterClosed
later_closed c t p q end number state tr hp l k h e =
    let shape = closed_shape t q state end in
    let low : k < length t = omega (arith, length_closed t q state end) in
    let cols : (n : ℕ) → n < length t → column (closed t q state end) (used c) n ≡ column t (used c) n = column_same t (closed t q state end) tr.rooted shape (used c) in
    let le : stamp_of t k ≤ number = l k low (sym (ap (owner c) (cols k low)) ∙ e ∙ ap (owner c) (cols p hp)) in
    omega (arith, shape.stamps k)

-- ## Splits

pub later_split : LaterSplit
later_split c words t cuts joins f p number keeps tr low left whole early u hp l k h e = l k h (parts_same (column t (used c) k) (column t (used c) p) (low_column k) (low_column p) (sym (same k) ∙ e ∙ same p)) where
  m : MaySplit c cuts joins (is_pending t) (column t (used c)) f
  m = may_split c words t cuts joins keeps tr f low left whole u

  first : next_outward c cuts f ≡ None
  first = sym (keeps.outside.next f low left u.unjoined) ∙ early

  low_column : (n : ℕ) → column t (used c) n < used c
  low_column n = column_low t (used c) n (used_some c cuts joins (is_pending t) (column t (used c)) keeps.segments)

  same : (n : ℕ) → trace_at (split_at f c) t n ≡ owner (split_at f c) (column t (used c) n)
  same n = ap (λ size. owner (split_at f c) (column t size n)) (split.used_same c cuts joins (is_pending t) (column t (used c)) keeps.segments f m first)

  -- columns of one trace after the split are of one trace before it
  parts_same : (i j : ℕ) → i < used c → j < used c → owner (split_at f c) i ≡ owner (split_at f c) j → owner c i ≡ owner c j
  parts_same i j hi hj q = by_parts (part i hi) (part j hj) where
    part : (i : ℕ) → i < used c → split.Part c cuts joins (is_pending t) (column t (used c)) keeps.segments f m first i
    part i h = split.part c cuts joins (is_pending t) (column t (used c)) keeps.segments f m first i h

    by_parts : split.Part c cuts joins (is_pending t) (column t (used c)) keeps.segments f m first i → split.Part c cuts joins (is_pending t) (column t (used c)) keeps.segments f m first j → owner c i ≡ owner c j
    by_parts (split.right a b) (split.right a2 b2) = ap (owner c) (a ∙ sym a2)
    by_parts (split.right a b) (split.left n2 o2 l2 b2) = absurd (omega (arith, b, b2, q))
    by_parts (split.right a b) (split.rest n2 b2 l2) = absurd (split.no_right_trace c cuts joins (is_pending t) (column t (used c)) keeps.segments f m first (f + 1) j refl hj (sym b2 ∙ sym q ∙ b))
    by_parts (split.left n1 o l1 b) (split.right a2 b2) = absurd (omega (arith, b, b2, q))
    by_parts (split.left n1 o l1 b) (split.left n2 o2 l2 b2) = o ∙ sym o2
    by_parts (split.left n1 o l1 b) (split.rest n2 b2 l2) = absurd (split.no_trace c cuts joins (is_pending t) (column t (used c)) keeps.segments f m first f j refl hj (sym b2 ∙ sym q ∙ b))
    by_parts (split.rest n1 b l1) (split.right a2 b2) = absurd (split.no_right_trace c cuts joins (is_pending t) (column t (used c)) keeps.segments f m first (f + 1) i refl hi (sym b ∙ q ∙ b2))
    by_parts (split.rest n1 b l1) (split.left n2 o2 l2 b2) = absurd (split.no_trace c cuts joins (is_pending t) (column t (used c)) keeps.segments f m first f i refl hi (sym b ∙ q ∙ b2))
    by_parts (split.rest n1 b l1) (split.rest n2 b2 l2) = sym b ∙ q ∙ b2

-- ## Merges

pub later_merged : LaterMerged
later_merged c words t cuts joins is_open f p number s go low left apart done l k h e = l k h (by_parts (part k) (part p)) where
  m : MayMerge c cuts joins (is_pending t) (column t (used c)) f
  m = may_merge c words t cuts joins s.keeps s.tree is_open s.ordered f low left apart done

  same : (n : ℕ) → trace_at (merged f c) t n ≡ owner (merged f c) (column t (used c) n)
  same n = ap (λ size. owner (merged f c) (column t size n)) (merge.used_same c cuts joins (is_pending t) (column t (used c)) s.keeps.segments f m)

  whole : owner (merged f c) (column t (used c) k) ≡ owner (merged f c) (column t (used c) p)
  whole = sym (same k) ∙ e ∙ same p

  part : (n : ℕ) → merge.Part c cuts joins (is_pending t) (column t (used c)) s.keeps.segments f m (column t (used c) n)
  part n = merge.part c cuts joins (is_pending t) (column t (used c)) s.keeps.segments f m (column t (used c) n) (column_low t (used c) n (used_some c cuts joins (is_pending t) (column t (used c)) s.keeps.segments))

  outside : trace_at c t p ≢ around c f
  outside q = (active c words t cuts joins s.tree s.keeps is_open s.ordered p go).uncut f (record { fork = record { low = m.low; left = m.left; unjoined = m.unjoined; outside = sym q }; cut = m.cut })

  by_parts : merge.Part c cuts joins (is_pending t) (column t (used c)) s.keeps.segments f m (column t (used c) k) → merge.Part c cuts joins (is_pending t) (column t (used c)) s.keeps.segments f m (column t (used c) p) → trace_at c t k ≡ trace_at c t p
  by_parts x (merge.moved a b) = absurd (nothing_open c words t cuts joins s.keeps s.tree is_open s.ordered f low left apart done p go.there go.opened a)
  by_parts (merge.moved a b) (merge.stays n1 n2 b2) = absurd (outside (sym b2 ∙ sym whole ∙ b))
  by_parts (merge.stays n3 n4 b) (merge.stays n1 n2 b2) = sym b ∙ whole ∙ b2
