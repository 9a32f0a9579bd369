-- The parts of a core after a block was closed.
use Rattle.std.proofs.Common.{◌≡◌, ◌≢◌, ℕ, zero, suc, ◌+◌, ◌<◌, List, [], ◌∷◌, ◌++◌, length, refl, ap, ◌∙◌, arith, Bool, true, false, cond, Option, Some, None, nat_eq, nat_lt, inl, inr, length-append}
use Rattle.std.specs.Prelude.{◌&&◌, not, ℤ, filter, slice_get}
use Rattle.std.specs.List.{suffix_len}
use Rattle.std.proofs.lemmas.List.Elements.{filter-append}
use Rattle.std.proofs.lemmas.Bool.{and_from, and_right, cases_eq, eqb-true, ltb-true, lt-ltb, false_from_ne_true, not_from_false}
use Rattle.cw_tree.specs.declared.node.Node.{Node}
use Rattle.cw_tree.specs.declared.node.Kind.{Kind}
use Rattle.cw_tree.specs.declared.node.Kind.TheVariants.{Strand, Fork, Block, Read, Write, Out, Tried, Cancel}
use Rattle.cw_tree.specs.declared.node.BlockState.{BlockState}
use Rattle.cw_tree.specs.Nodes.{passes, is_block_kind, is_tried_kind, touches_kind, is_pending_state, parent_of, is_block, is_tried, is_pending, is_aborted, all_nodes, below, closed}
use Rattle.cw_tree.specs.Series.{children, place}
use Rattle.cw_tree.specs.Shape.{is_closed}
use Rattle.cw_tree.specs.Attempts.{tried_cell_in, tried_cell, same_cell, block_attempt, elders}
use Rattle.cw_tree.specs.Accesses.{value_in, written_kind}
use Rattle.cw_tree.proofs.Members.{filter_same, in_filter, in_below, suffix_same, filter_all}
use Rattle.cw_tree.proofs.Walks.There.{node_there}
use Rattle.cw_tree.proofs.NextNodes.Closing.{all_nodes_closed, node_closed, same_closed}
use Rattle.cw_tree.proofs.NextNodes.Trees.{is_child}
use Rattle.cw_tree.proofs.NodeKinds.{pending_block}
use Rattle.cw_stack.specs.Cells.{CellParts}
use Rattle.cw_trace.specs.Columns.{used}
use Rattle.cw_trace.proofs.Keeps.Ending.{fork_column_same, column_same}
use Rattle.cw_open.specs.Machine.{OpenMachine, is_running, in_block}
use Rattle.cw_core.specs.State.{CoreState, waits_for_left}
use Rattle.cw_core.specs.Laws.{IsCore}
use Rattle.cw_core.specs.Kept.{IsTail, AreForks, IsHeld}
use Rattle.cw_core.proofs.Kept.Tails.{suffix_more}
use Rattle.cw_core.proofs.Kept.RowsClose.{shape, blocks, children_same, aborted_other, pending_other, pending_here, open_block, tried_same, front, there, rooted}

-- one number more passes the test
count_flip : (p r : ℕ → Bool) (b n : ℕ) → b < n → p b ≡ false → r b ≡ true → ((x : ℕ) → x ≢ b → r x ≡ p x) → length (filter r (below n)) ≡ suc (length (filter p (below n)))
count_flip p r b zero h off on other = absurd (omega arith)
count_flip p r b (suc n) h off on other =
    let x = ap length (filter-append r (below n) (n ∷ [])) ∙ length-append (filter r (below n)) (filter r (n ∷ [])) in
    let y = ap length (filter-append p (below n) (n ∷ [])) ∙ length-append (filter p (below n)) (filter p (n ∷ [])) in
    elim (cases_eq n b) [
      | inl e ↦
          (let rn : r n ≡ true = ap r e ∙ on in
          let pn : p n ≡ false = ap p e ∙ off in
          let same : length (filter r (below n)) ≡ length (filter p (below n)) = ap length (filter_same r p (below n) (λ v i. other v (λ g. absurd (let l = in_below v n i in omega arith)))) in
          let one : length (filter r (n ∷ [])) ≡ 1 = ap (λ c. length (cond c (n ∷ []) (let ns : List ℕ = [] in ns))) rn in
          let none : length (filter p (n ∷ [])) ≡ 0 = ap (λ c. length (cond c (n ∷ []) (let ns : List ℕ = [] in ns))) pn in
          omega (arith, x, y, same, one, none))
      | inr ne ↦
          (let more = count_flip p r b n (omega arith) off on other in
          let same : length (filter r (n ∷ [])) ≡ length (filter p (n ∷ [])) = ap (λ c. length (cond c (n ∷ []) (let ns : List ℕ = [] in ns))) (other n ne) in
          omega (arith, x, y, more, same))
    ]

module _ (first : List ℤ) (k : CoreState) (core : IsCore first k) (s : ℕ) (running : is_running k.machine s ≡ true) (ready : waits_for_left k s ≡ false) (within : in_block k.machine s ≡ true) (state : BlockState) (done : is_pending_state state ≡ false) (end clock : ℕ) (words : List ℕ) where
  abbrev t : List Node
  t = k.machine.tree

  abbrev m : OpenMachine
  m = k.machine

  abbrev b : ℕ
  b = place t s

  abbrev q : ℕ
  q = parent_of t b

  abbrev u : List Node
  u = closed t b state end

  abbrev pub z : CoreState
  z = record k { machine = record m { tree = u; clock = clock }; words = words }

  -- ## Forks, cells, the clock

  pub forks_closed : (fs : List ℕ) → AreForks k fs → AreForks z fs
  forks_closed fs w = record {
    count = w.count;
    each = λ i f e. (let y = w.each i f e in ((shape first k core s running ready within state done end clock words).forks f ∙ y.0, fork_column_same t u (rooted first k core s running ready within state done end clock words) (shape first k core s running ready within state done end clock words) f ∙ y.1));
  }

  pub held_closed : (c : ℕ) (cell : CellParts) → IsHeld k c cell → IsHeld z c cell
  held_closed c cell w = record {
    whole = w.whole;
    entries = λ i e at.
        (let y = w.entries i e at in
        let sh = shape first k core s running ready within state done end clock words in
        record {
          node = y.node;
          touches = node_closed t b state end (λ x. touches_kind c x.kind) (λ x. refl) y.node ∙ y.touches;
          stamp = sh.stamps y.node ∙ y.stamp;
          wrote = same_closed t b state end (value_in written_kind) (λ x. refl) y.node ∙ y.wrote;
          strand = column_same t u (rooted first k core s running ready within state done end clock words) sh (used k.tier) y.node (node_there (λ x. touches_kind c x.kind) t y.node y.touches) ∙ y.strand;
        });
  }

  pub askers_closed : (n : ℕ) → is_tried t n ≡ true → is_tried u n ≡ true
  askers_closed n e = node_closed t b state end (λ y. is_tried_kind y.kind) (λ y. refl) n ∙ e

  pub one_closed : length (filter (is_closed u) (all_nodes u)) ≡ suc (length (filter (is_closed t) (all_nodes t)))
  one_closed =
      let open_here = open_block first k core s running ready within state done end clock words in
      ap (λ ns. length (filter (is_closed u) ns)) (all_nodes_closed t b state end)
      ∙ count_flip (is_closed t) (is_closed u) b (length t) (there first k core s running ready within state done end clock words)
      (and_right (is_block t b) (not (is_pending t b)) (ap not open_here))
      (and_from (is_block u b) (not (is_pending u b)) (blocks first k core s running ready within state done end clock words b ∙ pending_block t b open_here) (not_from_false (is_pending u b) (pending_here first k core s running ready within state done end clock words)))
      (λ x ne.
      ap (λ c. c && not (is_pending u x)) (blocks first k core s running ready within state done end clock words x)
      ∙ ap (λ c. is_block t x && not c) (pending_other first k core s running ready within state done end clock words x ne))

  -- ## How the children end where the block stood

  elders_are : elders t b ≡ filter (is_child t q) (below b)
  elders_are =
      let ends : nat_lt b b ≡ false = false_from_ne_true (nat_lt b b) (λ e. absurd (let l = ltb-true b b e in omega arith)) in
      ap (filter (λ l. nat_lt l b)) (front first k core s running ready within state done end clock words)
      ∙ filter-append (λ l. nat_lt l b) (filter (is_child t q) (below b)) (b ∷ [])
      ∙ ap (λ ns. ns ++ filter (λ l. nat_lt l b) (b ∷ [])) (filter_all (λ l. nat_lt l b) (filter (is_child t q) (below b)) (λ v i. lt-ltb v b (in_below v b (in_filter (is_child t q) v (below b) i).0)))
      ∙ ap (λ c. filter (is_child t q) (below b) ++ cond c (b ∷ []) []) ends
      ∙ Rattle.std.proofs.Common.append-nil (filter (is_child t q) (below b))

  no_cell : tried_cell u b ≡ None
  no_cell = tried_same first k core s running ready within state done end clock words b ∙ by (slice_get t b) (pending_block t b (open_block first k core s running ready within state done end clock words)) where
    kinds : (x : Kind) → is_block_kind x ≡ true → tried_cell_in x ≡ None
    kinds Strand e = absurd (cc e)
    kinds Fork e = absurd (cc e)
    kinds Block e = refl
    kinds (Read c v) e = absurd (cc e)
    kinds (Write c v) e = absurd (cc e)
    kinds (Out v) e = absurd (cc e)
    kinds (Cancel back) e = absurd (cc e)
    kinds (Tried c) e = absurd (cc e)

    cell_in : (o : Option Node) → slice_get t b ≡ o → passes (λ x. is_block_kind x.kind) o ≡ true → tried_cell t b ≡ None
    cell_in None g e = absurd (cc e)
    cell_in (Some x) g e = rw g (kinds x.kind e)

    by : (o : Option Node) → is_block t b ≡ true → tried_cell t b ≡ None
    by o e = cell_in (slice_get t b) refl e

  pub tail_shut : (x : Bool) → is_aborted u b ≡ x → IsTail u q (record { started = true; aborted = cond x (block_attempt t b) 0; tried = 0; cell = 0 })
  tail_shut x is =
      let more : children u q ≡ filter (is_child t q) (below b) ++ b ∷ [] = children_same first k core s running ready within state done end clock words q ∙ front first k core s running ready within state done end clock words in
      record {
        started = ap (λ ns. nat_eq (length ns) 0) more ∙ false_from_ne_true (nat_eq (length (filter (is_child t q) (below b) ++ b ∷ [])) 0) (λ e. absurd (let h = eqb-true (length (filter (is_child t q) (below b) ++ b ∷ [])) 0 e in omega (arith, length-append (filter (is_child t q) (below b)) (b ∷ []))));
        aborted = ap (suffix_len (is_aborted u)) more ∙ suffix_more (is_aborted u) (filter (is_child t q) (below b)) b ∙ ap (λ c. cond c (1 + suffix_len (is_aborted u) (filter (is_child t q) (below b))) 0) is ∙ count x;
        tried = λ c.
            ap (suffix_len (λ m. same_cell (tried_cell u m) (Some c))) more
            ∙ suffix_more (λ m. same_cell (tried_cell u m) (Some c)) (filter (is_child t q) (below b)) b
            ∙ ap (λ o. cond (same_cell o (Some c)) (1 + suffix_len (λ m. same_cell (tried_cell u m) (Some c)) (filter (is_child t q) (below b))) 0) no_cell
            ∙ none (nat_eq 0 c);
      } where
        none : (y : Bool) → (let n : ℕ = 0 in n) ≡ cond y 0 0
        none true = refl
        none false = refl

        count : (x : Bool) → cond x (1 + suffix_len (is_aborted u) (filter (is_child t q) (below b))) 0 ≡ cond x (block_attempt t b) 0
        count false = refl
        count true =
            let same = suffix_same (is_aborted u) (is_aborted t) (filter (is_child t q) (below b)) (λ v i. aborted_other first k core s running ready within state done end clock words v (λ g. absurd (let l = in_below v b (in_filter (is_child t q) v (below b) i).0 in omega arith))) in
            let at = ap (suffix_len (is_aborted t)) elders_are in
            omega (arith, same, at)
