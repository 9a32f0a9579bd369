-- A strand that runs and is not ready may not go on.
use Rattle.std.proofs.Common.{◌≡◌, ◌≢◌, ℕ, ◌<◌, ◌≤◌, List, length, ap, sym, ◌∙◌, subst, arith, true, false, inl, inr, nat_eq}
use Rattle.std.specs.Prelude.{◌&&◌, not}
use Rattle.std.proofs.lemmas.Bool.{and_parts, and_from, not_from_false, false_from_ne_true, cases_eq, eqb-true}
use Rattle.cw_tree.specs.declared.node.Node.{Node}
use Rattle.cw_tree.specs.Nodes.{parent_of, is_strand, is_fork, all_nodes}
use Rattle.cw_tree.specs.Walks.{has, is_ancestor}
use Rattle.cw_tree.specs.Series.{strand_of, place}
use Rattle.cw_tree.proofs.Lists.{any_in}
use Rattle.cw_tree.proofs.NodeKinds.{fork_no_strand, fork_some}
use Rattle.cw_tree.proofs.Walks.Ancestors.{ancestor_le}
use Rattle.cw_tree.proofs.Walks.Kin.{branch, fork_child}
use Rattle.cw_tree.proofs.Walks.Strands.{strand_of_other, strand_of_le, strand_innermost, strand_over, strand_itself}
use Rattle.cw_tree.proofs.Walks.There.{fork_there, strand_there}
use Rattle.cw_trace.specs.Columns.{used, owner}
use Rattle.cw_trace.specs.Stands.{column_in, fork_column}
use Rattle.cw_trace.specs.Running.{IsUnsplit}
use Rattle.cw_trace.specs.Hands.{StandsInOrder}
use Rattle.cw_trace.specs.OrderedRuns.{GoesOnAt}
use Rattle.cw_trace.proofs.Keeps.GoingOn.{open_above}
use Rattle.cw_trace.proofs.Keeps.TierLaws.{goes_on_beneath}
use Rattle.cw_open.specs.Machine.{OpenMachine, is_running}
use Rattle.cw_open.proofs.Open.Standing.{stands, runs}
use Rattle.cw_open.proofs.Open.Trees.{IsWell}
use Rattle.cw_hands.specs.Shared.{SharedMoment, is_owed, is_open_yet, moment_of, waits_for_left, waits_for_merge, is_ready}
use Rattle.cw_hands.proofs.Shared.Order.{at_wide, wide_fork}
use Rattle.cw_hands.proofs.Laws.Kept.{owed_is}
use Rattle.cw_hands.proofs.Laws.Unready.{none_left}

module _ (s : SharedMoment) (w : IsWell s.machine) (h : StandsInOrder s.columns s.words s.machine.tree s.cuts s.joins (is_open_yet s)) (x : ℕ) (running : is_running s.machine x ≡ true) (g : GoesOnAt (moment_of s) (place s.machine.tree x)) where
  abbrev m : OpenMachine
  m = s.machine

  abbrev t : List Node
  t = s.machine.tree

  abbrev p : ℕ
  p = place t x

  -- ## The left strand

  left_shut : (l : ℕ) → 0 < l → l < x → parent_of t l ≡ parent_of t x → is_fork t (parent_of t x) ≡ true → IsUnsplit s.columns t s.cuts (parent_of t x) → is_open_yet s l ≡ false
  left_shut l some less same fork whole = elim (cases_eq p x) [
    | inl e ↦
        (let P : ℕ → Type 0 = λ q. GoesOnAt (moment_of s) q in
        let here : GoesOnAt (moment_of s) x = subst P e g in
        here.left_done l some less same fork whole)
    | inr ne ↦
        (let over : is_ancestor t (strand_of t p) p ≡ true = strand_over t w.sound.tree.rooted p g.there in
        h.ordered.left_first l x p some less (strand_there t x (runs m w.sound.tree w.nested x running).strand) same fork whole g.there (sym (ap (λ y. is_ancestor t y p) (stands m w.sound.tree w.nested x running).strand) ∙ over) ne)
  ]

  no_left : waits_for_left s x ≡ false
  no_left = none_left s w x running left_shut

  -- ## The merge

  -- what is open of the strand is above its place
  open_over_place : (q : ℕ) → q < length t → is_open_yet s q ≡ true → is_fork t q ≡ false → strand_of t q ≡ x → is_ancestor t q p ≡ true
  open_over_place q low opened plain own = elim (h.ordered.kinds q low opened) [
    | inr z ↦ elim z [
      | inl fork ↦ absurd (cc (plain, fork))
      | inr pending ↦
          (let same : strand_of t q ≡ strand_of t p = own ∙ sym (stands m w.sound.tree w.nested x running).strand in
          goes_on_beneath s.columns s.words t s.cuts s.joins (is_open_yet s) p h.keeps h.tree h.ordered g q low pending (ap (λ y. owner s.columns (column_in t (used s.columns) y y)) same))
    ]
    | inl strand ↦
        (let self : q ≡ x = sym (strand_itself t w.sound.tree.rooted q strand) ∙ own in
        ap (λ y. is_ancestor t y p) (self ∙ sym (stands m w.sound.tree w.nested x running).strand) ∙ strand_over t w.sound.tree.rooted p g.there)
  ]

  -- a fork of the strand is not above its place
  no_fork_over : (f : ℕ) → is_fork t f ≡ true → strand_of t f ≡ x → is_ancestor t f p ≡ true → ⊥
  no_fork_over f fork own over =
      let r = w.sound.tree.rooted in
      let low = fork_there t f fork in
      let apart : p ≢ f = λ e. cc (e, fork, g.no_fork) in
      let b = branch t r f p g.there apart over in
      let le : b.child ≤ p = ancestor_le t r b.child p g.there b.over in
      let there = g.there in
      let up : parent_of t b.child < b.child = r b.child b.some (omega arith) in
      let strand : is_strand t b.child ≡ true = fork_child t w.sound.tree b.child b.some (omega arith) (ap (is_fork t) b.parent ∙ fork) in
      let inner : b.child ≤ strand_of t p = strand_innermost t r b.child strand p g.there b.over in
      let outer : strand_of t f ≤ f = strand_of_le t r f low in
      omega (arith, b.parent, own, (stands m w.sound.tree w.nested x running).strand)

  no_owed : (f : ℕ) → is_owed s f ≡ true → strand_of t f ≡ x → ⊥
  no_owed f owed own =
      let r = w.sound.tree.rooted in
      let o = owed_is s f owed in
      let fork = wide_fork s f o.wide in
      let low = fork_there t f fork in
      let some : 0 < f = fork_some t w.sound.tree.root f fork in
      let opened : is_open_yet s f ≡ true = at_wide s f o.wide ∙ not_from_false (has s.joins (fork_column t f)) o.unmerged in
      let up : parent_of t f < f = r f some low in
      let plain : is_fork t (parent_of t f) ≡ false = false_from_ne_true (is_fork t (parent_of t f)) (λ y. absurd (cc (fork_child t w.sound.tree f some low y, fork_no_strand t f fork))) in
      let over_own : strand_of t (parent_of t f) ≡ x = sym (strand_of_other t r f some low (fork_no_strand t f fork)) ∙ own in
      elim (cases_eq (parent_of t f) p) [
        | inl e ↦ g.innermost f some low e opened
        | inr ne ↦ child_is_fork f fork own some low opened plain (open_over_place (parent_of t f) (omega arith) (h.ordered.outer f some low opened) plain over_own) ne
      ] where
        child_is_fork : (f : ℕ) → is_fork t f ≡ true → strand_of t f ≡ x → 0 < f → f < length t → is_open_yet s f ≡ true → is_fork t (parent_of t f) ≡ false → is_ancestor t (parent_of t f) p ≡ true → parent_of t f ≢ p → ⊥
        child_is_fork f fork own some low opened plain over ne =
            let b = branch t w.sound.tree.rooted (parent_of t f) p g.there (λ y. ne (sym y)) over in
            let le : b.child ≤ p = ancestor_le t w.sound.tree.rooted b.child p g.there b.over in
            let there = g.there in
            let child_open : is_open_yet s b.child ≡ true = open_above s.columns s.words t s.cuts s.joins h.tree h.keeps (is_open_yet s) h.ordered b.child p g.there g.opened b.over in
            let same : b.child ≡ f = h.ordered.one b.child f b.some some (omega arith) low child_open opened b.parent (ap (is_fork t) b.parent ∙ plain) in
            no_fork_over f fork own (sym (ap (λ y. is_ancestor t y p) same) ∙ b.over)

  no_merge : waits_for_merge s x ≡ false
  no_merge =
      false_from_ne_true (waits_for_merge s x) (λ e.
      let q = any_in (λ f. is_owed s f && nat_eq (strand_of t f) x) (all_nodes t) e in
      let z = and_parts (is_owed s q.0) (nat_eq (strand_of t q.0) x) q.2 in
      absurd (no_owed q.0 z.0 (eqb-true (strand_of t q.0) x z.1)))

  pub ready : is_ready s x ≡ true
  ready = and_from (not (waits_for_left s x)) (not (waits_for_merge s x)) (not_from_false (waits_for_left s x) no_left) (not_from_false (waits_for_merge s x) no_merge)
