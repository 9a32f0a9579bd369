-- A strand of a core that may go on: its place, its next stamp, and a node that it makes there.
use Rattle.std.proofs.Common.{◌≡◌, ℕ, ◌+◌, ◌<◌, List, [], ◌∷◌, ◌++◌, length, refl, ap, sym, ◌∙◌, subst, arith, true, false, Option, Some, None, inl, inr}
use Rattle.std.specs.Prelude.{◌&&◌, ◌||◌, not, ℤ, slice_get}
use Rattle.std.proofs.lemmas.Bool.{and_parts, or_cases, ltb-true, not-true}
use Rattle.cw_tree.specs.declared.node.Node.{Node}
use Rattle.cw_tree.specs.declared.node.Kind.{Kind}
use Rattle.cw_tree.specs.declared.node.Kind.TheVariants.{Strand, Fork, Block, Read, Write, Out, Tried, Cancel}
use Rattle.cw_tree.specs.Nodes.{passes, is_strand_kind, is_fork_kind, is_block_kind, is_tried_kind, is_pending_state, parent_of, stamp_of, is_fork, is_strand, is_block, is_pending}
use Rattle.cw_tree.specs.Walks.{has}
use Rattle.cw_tree.specs.Series.{strand_of, place}
use Rattle.cw_tree.specs.Shape.{has_stamp}
use Rattle.cw_tree.specs.NextNodes.{IsPlace, IsNextStamp, IsEndStamp}
use Rattle.cw_tree.proofs.Walks.Ancestors.{root_ancestor}
use Rattle.cw_tree.proofs.NextNodes.Growing.{node_grown}
use Rattle.cw_tree.proofs.Walks.There.{node_there}
use Rattle.cw_tree.proofs.NextNodes.Stamps.{stamp_test}
use Rattle.cw_tree.proofs.Walks.Strands.{strand_itself}
use Rattle.cw_tree.proofs.NodeKinds.{strand_no_block, fork_no_strand, pending_block}
use Rattle.cw_trace.specs.Columns.{used}
use Rattle.cw_trace.specs.Stands.{column, column_in}
use Rattle.cw_trace.specs.Keeps.{Keeps}
use Rattle.cw_trace.specs.Running.{IsUnsplit, IsOrdered, MayGoOn}
use Rattle.cw_trace.proofs.Keeps.TierLaws.{leaf}
use Rattle.cw_trace.proofs.Keeps.Grow.{fork_column_append}
use Rattle.cw_open.specs.Machine.{OpenMachine, has_finished, is_running}
use Rattle.cw_open.specs.Runs.{at_once}
use Rattle.cw_open.specs.Open.{is_open}
use Rattle.cw_open.proofs.Open.Standing.{runs, stands, place_open, open_over}
use Rattle.cw_open.proofs.Open.Trees.{IsWell, stands_well, open_more}
use Rattle.cw_open.proofs.Runs.States.{IsState, states}
use Rattle.cw_open.proofs.Runs.Clock.{next_above, end_above}
use Rattle.cw_core.specs.State.{CoreState, joined_columns, waits_for_left}
use Rattle.cw_core.specs.Laws.{IsLeftFirst, IsCore}
use Rattle.cw_core.proofs.Events.Joined.{joins_of, joins_same}
use Rattle.cw_core.proofs.Events.Ordering.{ordered, may_go_on}
use Rattle.cw_core.proofs.Laws.LeftFirst.{left_more}
use Rattle.cw_core.proofs.Events.Complete.{HasAll, all_of}

-- ## Where a strand may go on

no_stamp : (k : Kind) → is_block_kind k ≡ true → not (is_strand_kind k || is_tried_kind k) ≡ true
no_stamp Block e = refl
no_stamp Strand e = absurd (cc e)
no_stamp Fork e = absurd (cc e)
no_stamp (Read c v) e = absurd (cc e)
no_stamp (Write c v) e = absurd (cc e)
no_stamp (Out v) e = absurd (cc e)
no_stamp (Cancel back) e = absurd (cc e)
no_stamp (Tried c) e = absurd (cc e)

-- a block has a stamp
block_stamped : (t : List Node) (b : ℕ) → is_block t b ≡ true → has_stamp t b ≡ true
block_stamped t b = by (slice_get t b) where
  by : (o : Option Node) → passes (λ x. is_block_kind x.kind) o ≡ true → stamp_test o ≡ true
  by None e = absurd (cc e)
  by (Some x) e = no_stamp x.kind e

module _ (first : List ℤ) (k : CoreState) (core : IsCore first k) where
  abbrev t : List Node
  t = k.machine.tree

  abbrev m : OpenMachine
  m = k.machine

  pub state : IsState first m
  state = states at_once first m core.reached

  pub well : IsWell m
  well = state.well

  pub all_listed : HasAll t m.lists
  all_listed = all_of first m state core.complete

  -- ## Stamps

  ahead : m.clock < m.clock + 1
  ahead = omega arith

  pub next_stamp : (p : ℕ) → IsNextStamp t p (m.clock + 1)
  next_stamp = next_above m well (m.clock + 1) ahead

  pub end_stamp : (b : ℕ) → b < length t → IsEndStamp t b (m.clock + 1)
  end_stamp = end_above m well (m.clock + 1) ahead

  -- a pending block has a stamp, and another one
  pub pending_stamped : (b : ℕ) → is_pending t b ≡ true → 0 < stamp_of t b
  pending_stamped b e =
      let there = node_there (λ y. is_block_kind y.kind && is_pending_state y.state) t b e in
      let stamps = well.sound.stamps in
      ltb-true 0 (stamp_of t b) (stamps.there b there ∙ block_stamped t b (pending_block t b e))

  -- ## The tier

  pub joins_grown : (xs : List Node) → joins_of (t ++ xs) k.tier.room m.joined ≡ joined_columns k
  joins_grown xs = joins_same t (t ++ xs) k.tier.room m.joined (λ f e. let h = well.joined f e in fork_column_append t xs well.sound.tree.rooted (used k.tier) f (omega arith))

  pub forks_grown : (xs : List Node) → (f : ℕ) → has m.joined f ≡ true → is_fork (t ++ xs) f ≡ true
  forks_grown xs f e = node_grown t xs (λ y. is_fork_kind y.kind) f (well.joined f e) ∙ core.joined f e

  -- where any node is open, the root has not finished
  pub root_open : (n : ℕ) → n < length t → is_open m n ≡ true → has_finished m 0 ≡ false
  root_open n h e =
      let tree = well.sound.tree in
      let open_root = open_over m tree well.nested 0 n h (root_ancestor t tree.rooted n h) e in
      elim (or_cases (is_strand t 0 && not (has_finished m 0) || is_fork t 0 && not (has m.joined 0)) (is_pending t 0) open_root) [
        | inr z ↦ absurd (cc (pending_block t 0 z, strand_no_block t 0 tree.root))
        | inl z ↦ elim (or_cases (is_strand t 0 && not (has_finished m 0)) (is_fork t 0 && not (has m.joined 0)) z) [
          | inl y ↦ not-true (has_finished m 0) (and_parts (is_strand t 0) (not (has_finished m 0)) y).1
          | inr y ↦ absurd (let root = tree.root in cc (root, fork_no_strand t 0 (and_parts (is_fork t 0) (not (has m.joined 0)) y).0))
        ]
      ]

  pub root_runs : (s : ℕ) → is_running m s ≡ true → has_finished m 0 ≡ false
  root_runs s running = root_open (place t s) (stands_well m well s running).there (place_open m well.sound.tree well.nested s running)

  -- a strand has the column of its place
  pub column_place : (s size : ℕ) → is_running m s ≡ true → column t size (place t s) ≡ column t size s
  column_place s size running =
      let tree = well.sound.tree in
      let r = runs m tree well.nested s running in
      let own : strand_of t s ≡ s = strand_itself t tree.rooted s r.strand in
      ap (λ x. column_in t size x x) ((stands m tree well.nested s running).strand ∙ sym own)

  module _ (s : ℕ) (running : is_running m s ≡ true) (ready : waits_for_left k s ≡ false) where
    abbrev p : ℕ
    p = place t s

    pub in_order : IsOrdered k.tier t k.splits (joined_columns k) (is_open m)
    in_order = ordered k well core.joined core.left_first core.stands (root_runs s running)

    pub goes : MayGoOn k.tier t k.splits (is_open m) p
    goes = may_go_on k well core.joined core.left_first core.stands s running ready

    pub at_place : IsPlace t p
    at_place = stands_well m well s running

    -- a node there that is neither a strand nor a fork nor a pending block
    pub leaf_stands : (x : Node) → x.parent ≡ p → is_strand_kind x.kind ≡ false → is_fork_kind x.kind ≡ false → (is_block_kind x.kind && is_pending_state x.state) ≡ false
        → Keeps k.tier k.words (t ++ x ∷ []) k.splits (joins_of (t ++ x ∷ []) k.tier.room m.joined)
    leaf_stands x up a b c =
        let P : List ℕ → Type 0 = λ js. Keeps k.tier k.words (t ++ x ∷ []) k.splits js in
        subst P (sym (joins_grown (x ∷ []))) (leaf k.tier k.words t k.splits (joined_columns k) (is_open m) p x core.stands well.sound.tree in_order goes up a b c)

    -- any node there
    pub node_left : (x : Node) → x.parent ≡ p → IsLeftFirst k.tier (t ++ x ∷ []) k.splits (is_open (record m { tree = t ++ x ∷ [] }))
    node_left x up =
        let there : x.parent < length t = (let h = at_place.there in omega (arith, up)) in
        left_more k.tier t k.splits (is_open m) (is_open (record m { tree = t ++ x ∷ [] })) well.sound.tree.rooted core.left_first x there (open_more m (x ∷ []))
        (λ l some less same fork unsplit.
        let P : ℕ → Type 0 = λ q. (l < q) × (parent_of t l ≡ parent_of t q) × (is_fork t (parent_of t q) ≡ true) × IsUnsplit k.tier t k.splits (parent_of t q) in
        let z = subst P up (less, same, fork, unsplit) in
        goes.left_done l some z.0 z.1 z.2 z.3)
