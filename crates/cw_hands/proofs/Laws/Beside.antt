-- What a step leaves of the column, the gap and its word, and of numbers drawn early, at a place where another strand may go on.
use Rattle.std.proofs.Common.{◌≡◌, ◌≢◌, ℕ, ◌+◌, ◌<◌, ◌≤◌, List, [], ◌∷◌, ◌++◌, length, refl, ap, sym, ◌∙◌, arith, Bool, true, false, None, inl, inr, length-append}
use Rattle.std.specs.Prelude.{◌%◌, slice_index}
use Rattle.std.proofs.lemmas.List.{get_or-set_other, length-map}
use Rattle.std.proofs.lemmas.Bool.{cases_eq}
use Rattle.std.proofs.Math.ListN.{get_or-append}
use Rattle.cw_tree.specs.declared.node.Node.{Node}
use Rattle.cw_tree.specs.declared.node.BlockState.{BlockState}
use Rattle.cw_tree.specs.Nodes.{is_strand_kind, is_fork_kind, parent_of, is_fork, is_pending, closed}
use Rattle.cw_tree.specs.Names.{is_right}
use Rattle.cw_tree.specs.NextNodes.{fork_nodes}
use Rattle.cw_tree.proofs.Walks.There.{fork_there}
use Rattle.cw_trace.specs.Columns.{ColumnTable, used, owner, gap, is_trace, before_split, forked, split_at, merged, back_to, around_fork, begun_word, closed_word}
use Rattle.cw_trace.specs.Stands.{column, fork_column}
use Rattle.cw_trace.specs.Running.{MayGoOn, IsUnstarted, IsDone}
use Rattle.cw_trace.specs.Hands.{StandsInOrder, gap_at, IsLater}
use Rattle.cw_trace.proofs.Marks.Edits.{length_parts}
use Rattle.cw_trace.proofs.Segments.Lines.{used_some}
use Rattle.cw_trace.proofs.Stands.Counting.{fork_column_lt, fork_column_one}
use Rattle.cw_trace.proofs.Keeps.Meaning.{column_low}
use Rattle.cw_trace.proofs.Keeps.Grow.{column_append}
use Rattle.cw_trace.proofs.Keeps.Forking.{column_more}
use Rattle.cw_trace.proofs.Keeps.Ending.{column_same}
use Rattle.cw_trace.proofs.Keeps.Sides.{child_to, in_right}
use Rattle.cw_trace.proofs.Keeps.TierLaws.{closed_shape}
use Rattle.cw_trace.proofs.ManyHands.Differ.{words_stay}
use Rattle.cw_trace.proofs.ManyHands.Later.{later_with_node, later_with_fork, later_with_inline, later_closed, later_split, later_merged}

pub record IsBeside (c d : ColumnTable) (words more : List ℕ) (t u : List Node) (p : ℕ) : Type 0 where
  pub column : column u (used d) p ≡ column t (used c) p
  pub gap : gap_at d u p ≡ gap_at c t p
  pub word : slice_index more (gap_at d u p) ≡ slice_index words (gap_at c t p)
  pub later : (number : ℕ) → IsLater c t p number → IsLater d u p number

module _ (c : ColumnTable) (words : List ℕ) (t : List Node) (cuts joins : List ℕ) (is_open : ℕ → Bool) (h : StandsInOrder c words t cuts joins is_open) (p : ℕ) (go : MayGoOn c t cuts is_open p) where
  col_low : column t (used c) p < used c
  col_low = column_low t (used c) p (used_some c cuts joins (is_pending t) (column t (used c)) h.keeps.segments)

  pub beside_none : IsBeside c c words words t t p
  beside_none = record { column = refl; gap = refl; word = refl; later = λ number l. l }

  module _ (q : ℕ) (other : MayGoOn c t cuts is_open q) (apart : p ≢ q) where
    -- a node
    node_beside : (x : Node) (more : List ℕ) → x.parent ≡ q → is_strand_kind x.kind ≡ false → is_fork_kind x.kind ≡ false → slice_index more (gap_at c t p) ≡ slice_index words (gap_at c t p) → IsBeside c c words more t (t ++ x ∷ []) p
    node_beside x more under ns nf word =
        let column_stays = column_append t (x ∷ []) h.tree.rooted (used c) p go.there in
        record {
          column = column_stays;
          gap = ap (gap c) column_stays;
          word = ap (slice_index more) (ap (gap c) column_stays) ∙ word;
          later = λ number l. later_with_node c words t cuts joins is_open p q number x h go other apart under ns nf l;
        }

    pub leaf_beside : (x : Node) → x.parent ≡ q → is_strand_kind x.kind ≡ false → is_fork_kind x.kind ≡ false → IsBeside c c words words t (t ++ x ∷ []) p
    leaf_beside x under ns nf = node_beside x words under ns nf refl

    pub begin_beside : (x : Node) (stamp : ℕ) → x.parent ≡ q → is_strand_kind x.kind ≡ false → is_fork_kind x.kind ≡ false → IsBeside c c words (begun_word words (gap_at c t q) stamp) t (t ++ x ∷ []) p
    begin_beside x stamp under ns nf = node_beside x (begun_word words (gap_at c t q) stamp) under ns nf (words_stay c words t cuts joins is_open p q stamp h go other apart).0

    -- a block is closed
    pub close_beside : (end stamp : ℕ) (state : BlockState) → IsBeside c c words (closed_word words (gap_at c t q) stamp) t (closed t q state end) p
    close_beside end stamp state =
        let column_stays = column_same t (closed t q state end) h.tree.rooted (closed_shape t q state end) (used c) p go.there in
        let more = closed_word words (gap_at c t q) stamp in
        record {
          column = column_stays;
          gap = ap (gap c) column_stays;
          word = ap (slice_index more) (ap (gap c) column_stays) ∙ (words_stay c words t cuts joins is_open p q stamp h go other apart).1;
          later = λ number l. later_closed c t p q end number state h.tree go.there l;
        }

    -- a fork
    pub inline_beside : (stamp : ℕ) → c.room < used c + 2 → IsBeside c c words words t (t ++ fork_nodes (length t) q stamp) p
    inline_beside stamp full =
        let column_stays = column_append t (fork_nodes (length t) q stamp) h.tree.rooted (used c) p go.there in
        record {
          column = column_stays;
          gap = ap (gap c) column_stays;
          word = ap (slice_index words) (ap (gap c) column_stays);
          later = λ number l. later_with_inline c words t cuts joins is_open p q stamp number h go other apart full l;
        }

    module _ (word stamp : ℕ) (roomy : used c + 2 ≤ c.room) where
      abbrev d : ColumnTable
      d = forked word (column t (used c) q) c

      more_used : used d ≡ used c + 2
      more_used = length-append c.owners (owner c (column t (used c) q) ∷ owner c (column t (used c) q) ∷ [])

      all : (f : ℕ) → is_fork t f ≡ true → (fork_column t f + 1 < used c + 2) × (fork_column t f + 1 < used c)
      all f e =
          let z : fork_column t f + 2 ≤ fork_column t (length t) = fork_column_lt t f (length t) (fork_there t f e) e in
          (omega (arith, h.keeps.all_forks roomy), omega (arith, h.keeps.all_forks roomy))

      column_stays : column (t ++ fork_nodes (length t) q stamp) (used d) p ≡ column t (used c) p
      column_stays =
          ap (λ size. column (t ++ fork_nodes (length t) q stamp) size p) more_used
          ∙ column_append t (fork_nodes (length t) q stamp) h.tree.rooted (used c + 2) p go.there
          ∙ column_more t h.tree (used c + 2) (used c) all p go.there

      gap_stays : gap_at d (t ++ fork_nodes (length t) q stamp) p ≡ gap_at c t p
      gap_stays = ap (gap d) column_stays ∙ get_or-append c.gaps _ 0 (column t (used c) p) (omega (arith, col_low, h.keeps.segments.lengths.0))

      pub fork_beside : IsBeside c (forked word (column t (used c) q) c) words words t (t ++ fork_nodes (length t) q stamp) p
      fork_beside = record {
        column = column_stays;
        gap = gap_stays;
        word = ap (slice_index words) gap_stays;
        later = λ number l. later_with_fork c words t cuts joins is_open p q word stamp number h go other apart roomy l;
      }

  -- a split, but of the fork whose right strand stands there
  module _ (f : ℕ) (fork : is_fork t f ≡ true) (low : fork_column t f < used c) (left : fork_column t f % 2 ≡ 1) (whole : is_trace c (fork_column t f) ≡ false) (early : before_split c (fork_column t f) ≡ None) (u : IsUnstarted t joins (fork_column t f))
      (no_right : is_right t p ≡ true → parent_of t p ≡ f → ⊥) where
    other_column : column t (used c) p ≢ fork_column t f + 1
    other_column e =
        let own : u.fork ≡ f = fork_column_one t u.fork f u.is fork u.at in
        let under = in_right t h.tree (used c) u.fork u.right u.is u.some u.low u.child u.side p go.there (e ∙ ap (λ n. n + 1) (sym u.at)) in
        elim (cases_eq u.right p) [
          | inl q ↦ no_right (ap (is_right t) (sym q) ∙ u.side) (ap (parent_of t) (sym q) ∙ u.child ∙ own)
          | inr ne ↦ (let z = child_to t h.tree u.right p go.there under ne in u.nothing z.0 z.1 z.2 z.3)
        ]

    pub split_beside : IsBeside c (split_at (fork_column t f) c) words words t t p
    split_beside =
        let column_stays : column t (used (split_at (fork_column t f) c)) p ≡ column t (used c) p = ap (λ size. column t size p) (length_parts (owner c (fork_column t f)) (fork_column t f) 0 c.owners) in
        let gap_stays : gap_at (split_at (fork_column t f) c) t p ≡ gap_at c t p = ap (gap (split_at (fork_column t f) c)) column_stays ∙ get_or-set_other c.gaps (fork_column t f + 1) (column t (used c) p) (fork_column t f + 1) 0 other_column in
        record {
          column = column_stays;
          gap = gap_stays;
          word = ap (slice_index words) gap_stays;
          later = λ number l. later_split c words t cuts joins (fork_column t f) p number h.keeps h.tree low left whole early u go.there l;
        }

  -- a merge
  pub merge_beside : (f : ℕ) → f < used c → f % 2 ≡ 1 → is_trace c f ≡ true → IsDone t is_open f → IsBeside c (merged f c) words words t t p
  merge_beside f low left apart done =
      let column_stays : column t (used (merged f c)) p ≡ column t (used c) p = ap (λ size. column t size p) (length-map c.owners (back_to (around_fork c f) f)) in
      record {
        column = column_stays;
        gap = ap (gap c) column_stays;
        word = ap (slice_index words) (ap (gap c) column_stays);
        later = λ number l. later_merged c words t cuts joins is_open f p number h go low left apart done l;
      }
