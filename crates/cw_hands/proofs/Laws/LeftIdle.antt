-- The word of a left strand's gap, when it is in no block of its own.
use Rattle.std.proofs.Common.{◌≡◌, ◌≢◌, ℕ, zero, suc, ◌+◌, ◌<◌, ◌≤◌, List, [], ◌∷◌, length, refl, ap, sym, ◌∙◌, subst, arith, Bool, true, false, inl, inr, nat_lt}
use Rattle.std.specs.Prelude.{slice_index, if◌then◌else◌}
use Rattle.std.proofs.lemmas.Bool.{and_from, cases_Bool, cases_lt, lt-ltb, false_from_ne_true}
use Rattle.cw_tree.specs.declared.node.Node.{Node}
use Rattle.cw_tree.specs.Nodes.{parent_of, is_strand, is_fork, is_pending}
use Rattle.cw_tree.specs.Names.{is_right}
use Rattle.cw_tree.specs.Walks.{has, is_ancestor}
use Rattle.cw_tree.specs.Series.{strand_of, children}
use Rattle.cw_tree.specs.Shape.{IsTree}
use Rattle.cw_tree.proofs.Lists.{In}
use Rattle.cw_tree.proofs.InOrder.DepthFirst.{child_is, children_rise}
use Rattle.cw_tree.proofs.Rising.{Rises}
use Rattle.cw_tree.proofs.NodeKinds.{pending_block, strand_no_block}
use Rattle.cw_tree.proofs.Walks.Ancestors.{ancestor_le, ancestor_step, ancestor_up, ancestor_self}
use Rattle.cw_tree.proofs.Walks.Kin.{fork_child}
use Rattle.cw_tree.proofs.Walks.Strands.{strand_of_le}
use Rattle.cw_tree.proofs.Walks.There.{fork_there, pending_there}
use Rattle.cw_trace.specs.Columns.{ColumnTable, used, gap}
use Rattle.cw_trace.specs.Stands.{column, column_in, fork_column}
use Rattle.cw_trace.specs.Running.{MayGoOn}
use Rattle.cw_trace.specs.Hands.{StandsInOrder, gap_at}
use Rattle.cw_trace.proofs.Keeps.GoingOn.{segment_of}
use Rattle.cw_trace.proofs.Keeps.Meaning.{odd_column}
use Rattle.cw_trace.proofs.Keeps.Owners.{column_strand}
use Rattle.cw_trace.proofs.Keeps.Sides.{right_of, is_left}
use Rattle.cw_trace.proofs.Stands.Counting.{fork_column_lt, fork_column_suc, fork_column_pass}
use Rattle.cw_open.proofs.Laws.Named.{strand_is}
use Rattle.cw_hands.specs.Shared.{has_columns, is_open_yet}
use Rattle.cw_hands.specs.LeftIdle.{IdleShowNone}
use Rattle.cw_hands.proofs.Shared.Order.{wide_fork, wide_low}
use Rattle.cw_hands.proofs.Laws.Runs.{tiers_stand, ready_go_on}
use Rattle.cw_hands.proofs.Laws.Shown.{is_shown, word_shows}

-- ## Columns rise

rising : (t : List Node) (n m : ℕ) → n ≤ m → fork_column t n ≤ fork_column t m
rising t n zero le = let e : n ≡ zero = omega arith in omega (arith, ap (fork_column t) e)
rising t n (suc m) le = elim (cases_lt n (suc m)) [
  | inr past ↦ (let e : n ≡ suc m = omega arith in omega (arith, ap (fork_column t) e))
  | inl low ↦ (
      let more = rising t n m (omega arith) in
      elim (cases_Bool (is_fork t m)) [ inl fork ↦ omega (arith, more, fork_column_suc t m fork) | inr plain ↦ omega (arith, more, fork_column_pass t m plain) ])
]

module _ (t : List Node) (tr : IsTree t) (size : ℕ) where
  in_before : (k s : ℕ) → s < length t → is_strand t s ≡ true → column_in t size k s < fork_column t s
  in_before zero s low strand = omega (arith, odd_column t s)
  in_before (suc k) zero low strand = omega (arith, odd_column t zero)
  in_before (suc k) (suc s) low strand =
      let f = parent_of t (suc s) in
      let less : f < suc s = tr.rooted (suc s) (omega arith) low in
      let fork = tr.strands (suc s) low (omega arith) strand in
      let le : strand_of t f ≤ f = strand_of_le t tr.rooted f (omega arith) in
      by (nat_lt (fork_column t f + 1) size) (is_right t (suc s)) (fork_column_lt t f (suc s) less fork)
      (let z = in_before k (strand_of t f) (omega arith) (strand_is t tr.root f) in let y = rising t (strand_of t f) (suc s) (omega arith) in omega (arith, z, y)) where
        by : (a b : Bool) → fork_column t (parent_of t (suc s)) + 2 ≤ fork_column t (suc s) → column_in t size k (strand_of t (parent_of t (suc s))) < fork_column t (suc s)
            → (if a then (if b then fork_column t (parent_of t (suc s)) + 1 else fork_column t (parent_of t (suc s))) else column_in t size k (strand_of t (parent_of t (suc s)))) < fork_column t (suc s)
        by true true h z = omega (arith, h)
        by true false h z = omega (arith, h)
        by false b h z = z

  -- a node has a smaller column than a fork that comes after it
  before : (n f : ℕ) → n < length t → n ≤ f → column t size n < fork_column t f
  before n f low le =
      let own : strand_of t n ≤ n = strand_of_le t tr.rooted n low in
      let z = in_before (strand_of t n) (strand_of t n) (omega arith) (strand_is t tr.root n) in
      let y = rising t (strand_of t n) f (omega arith) in
      omega (arith, z, y)

-- ## The word

module _ (c : ColumnTable) (words : List ℕ) (t : List Node) (cuts joins : List ℕ) (is_open : ℕ → Bool) (h : StandsInOrder c words t cuts joins is_open) (f l r : ℕ) (fork : is_fork t f ≡ true) (wide : fork_column t f + 1 < used c)
    (strands : children t f ≡ l ∷ r ∷ []) (m : MayGoOn c t cuts is_open l) where
  abbrev col : ℕ → ℕ
  col = column t (used c)

  left_in : In l (children t f)
  left_in = subst (λ ns. In l ns) (sym strands) (inl refl)

  right_in : In r (children t f)
  right_in = subst (λ ns. In r ns) (sym strands) (inr (inl refl))

  less : l < r
  less = (subst Rises strands (children_rise t f)).0 r (inl refl)

  strand_left : is_strand t l ≡ true
  strand_left = let z = child_is t f l left_in in fork_child t h.tree l z.some z.there (ap (is_fork t) z.parent ∙ fork)

  strand_right : is_strand t r ≡ true
  strand_right = let z = child_is t f r right_in in fork_child t h.tree r z.some z.there (ap (is_fork t) z.parent ∙ fork)

  left_side : is_right t l ≡ false
  left_side =
      let z = child_is t f l left_in in
      let y = child_is t f r right_in in
      false_from_ne_true (is_right t l) (λ e. is_left t h.tree l r f fork less y.there z.parent y.parent e)

  right_side : is_right t r ≡ true
  right_side =
      let z = child_is t f l left_in in
      let y = child_is t f r right_in in
      right_of t h.tree l r z.some less strand_left (z.parent ∙ sym y.parent)

  by_side : (n : ℕ) → In n (children t f) → is_strand t n ≡ true → (b : Bool) → is_right t n ≡ b → col n ≡ (if b then fork_column t f + 1 else fork_column t f)
  by_side n i strand b side =
      let z = child_is t f n i in
      column_strand t h.tree (used c) n z.some z.there strand
      ∙ ap (λ g. if nat_lt (fork_column t g + 1) (used c) then (if is_right t n then fork_column t g + 1 else fork_column t g) else col g) z.parent
      ∙ ap (λ (q : Bool). if q then (if is_right t n then fork_column t f + 1 else fork_column t f) else col f) (lt-ltb (fork_column t f + 1) (used c) wide)
      ∙ ap (λ (q : Bool). if q then fork_column t f + 1 else fork_column t f) side

  none_shown : (b : ℕ) → is_pending t b ≡ true → gap c (col b) ≡ gap c (col l) → ⊥
  none_shown b pending same =
      let z = child_is t f l left_in in
      let w = segment_of c words t cuts joins h.tree h.keeps is_open h.ordered l m.there m.opened in
      let low_b = pending_there t b pending in
      let shown = is_shown c words t cuts joins is_open h l m b pending same in
      let over : is_ancestor t b l ≡ true = shown.over in
      let apart : l ≢ b = λ e. cc (pending_block t b pending, strand_no_block t l strand_left, e) in
      let up : is_ancestor t b f ≡ true = ap (is_ancestor t b) (sym z.parent) ∙ sym (ancestor_step t h.tree.rooted b l z.some z.there apart) ∙ over in
      let low_f = fork_there t f fork in
      let le : b ≤ f = ancestor_le t h.tree.rooted b f low_f up in
      let above_l : is_ancestor t f l ≡ true = ancestor_up t h.tree.rooted f l z.some z.there (ap (is_ancestor t f) z.parent ∙ ancestor_self t f) in
      let other : f ≢ l = λ e. (let q : parent_of t l < l = h.tree.rooted l z.some z.there in absurd (omega (arith, e, z.parent))) in
      let last = w.last f fork wide above_l other in
      let small = before t h.tree (used c) b f low_b le in
      omega (arith, last, small, shown.late)

  pub left_none : slice_index words (gap_at c t l) ≡ 0
  left_none = elim (word_shows c words t cuts joins is_open h l m) [ inl none ↦ none | inr z ↦ absurd (none_shown z.0 z.1 z.2) ]

  pub right_none : has cuts (fork_column t f) ≡ false → slice_index words (gap_at c t r) ≡ 0
  right_none uncut =
      let same : gap c (col r) ≡ gap c (col l) = ap (gap c) (by_side r right_in strand_right true right_side) ∙ h.keeps.segments.right_gap (fork_column t f) (odd_column t f) (omega (arith, wide)) uncut ∙ sym (ap (gap c) (by_side l left_in strand_left false left_side)) in
      ap (slice_index words) same ∙ left_none

pub idle_show_none : IdleShowNone
idle_show_none asked first s run root f l r wide strands goes at =
    let t = s.machine.tree in
    let h = tiers_stand asked first s run root in
    let fork = wide_fork s f wide in
    let m = subst (λ p. MayGoOn s.columns t s.cuts (is_open_yet s) p) at (ready_go_on asked first s run root l goes) in
    record {
      left = left_none s.columns s.words t s.cuts s.joins (is_open_yet s) h f l r fork (wide_low s f wide) strands m;
      right = λ whole. right_none s.columns s.words t s.cuts s.joins (is_open_yet s) h f l r fork (wide_low s f wide) strands m
          (false_from_ne_true (has s.cuts (fork_column t f)) (λ e. absurd (cc (whole, and_from (has_columns s f) (has s.cuts (fork_column t f)) wide e))));
    }
