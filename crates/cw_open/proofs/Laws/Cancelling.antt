-- Where an access may conflict with the newest one alone, each live cancel has the right list: what the steps leave of it.
use Rattle.std.proofs.Common.{◌≡◌, ℕ, ◌<◌, ◌≤◌, List, length, map, refl, ap, sym, ◌∙◌, arith, true, false, Some, inl, inr}
use Rattle.std.specs.Prelude.{◌&&◌, ◌||◌, not, pos, filter, slice_get, slice_index_or}
use Rattle.std.proofs.lemmas.Bool.{and_from, and_left, or_from, or_left, or_right, cases_eq, cases_lt, false_from_ne_true}
use Rattle.cw_code.specs.declared.Back.{Back}
use Rattle.cw_tree.specs.declared.node.Node.{Node}
use Rattle.cw_tree.specs.declared.node.Kind.{Kind}
use Rattle.cw_tree.specs.declared.node.Kind.TheVariants.{Cancel}
use Rattle.cw_tree.specs.Nodes.{passes, number_in, is_strand_kind, is_fork_kind, is_block_kind, parent_of, stamp_of, is_node, is_strand, is_fork, is_block, is_pending, below}
use Rattle.cw_tree.specs.Walks.{has, is_ancestor, is_above}
use Rattle.cw_tree.specs.Series.{is_before}
use Rattle.cw_tree.specs.Accesses.{is_live, live_accesses}
use Rattle.cw_tree.specs.AccessStacks.{access_at}
use Rattle.cw_tree.specs.Cancels.{wrote_in}
use Rattle.cw_tree.specs.NextNodes.{is_before_at, IsNextStamp}
use Rattle.cw_tree.proofs.Lists.{In}
use Rattle.cw_tree.proofs.Cancels.{is_cancel_kind, left_before}
use Rattle.cw_tree.proofs.NodeKinds.{node_tells, other_some, fork_no_block, pending_block, block_stamped}
use Rattle.cw_tree.proofs.Walks.There.{node_there}
use Rattle.cw_tree.proofs.Walks.Kin.{branch, before_of}
use Rattle.cw_tree.proofs.Walks.Ancestors.{above_ancestor, above_parent, ancestor_above, ancestor_le, ancestor_self}
use Rattle.cw_tree.proofs.NextNodes.Before.{above_less}
use Rattle.cw_open.specs.Machine.{OpenMachine, live, has_finished}
use Rattle.cw_open.specs.Open.{is_open}
use Rattle.cw_open.proofs.Open.Standing.{open_over, pending_open}
use Rattle.cw_open.proofs.Open.Trees.{IsWell}

-- the list of a cancel at node x: its cells by the tree, and each value by the list of its cell, where what that block did to the cell is there
pub record IsListedCancel (m : OpenMachine) (x : Node) (back : List Back) : Type 0 where
  pub block : is_block m.tree x.parent ≡ true
  pub cells : map (λ e. e.cell) back ≡ filter (λ c. wrote_in m.tree x.parent x.stamp (live_accesses m.tree c)) (below (length m.first))
  pub values : (e : Back) (u : ℕ) → In e back → In u (live m e.cell) → is_above m.tree x.parent (access_at m.tree u) ≡ true → u < x.stamp
      → e.value ≡ left_before m.tree (slice_index_or m.first e.cell (pos 0)) x.parent (map (access_at m.tree) (live m e.cell))

-- each live cancel's is such a list
abbrev pub AreListedCancels : OpenMachine → Type 0
AreListedCancels m =
    (n : ℕ) (x : Node) (back : List Back) → slice_get m.tree n ≡ Some x → x.kind ≡ Cancel back → is_live m.tree n ≡ true → IsListedCancel m x back

-- ## What comes beneath its block comes after a cancel

cancel_no : (k : Kind) → is_cancel_kind k ≡ true → (is_strand_kind k ≡ false) × (is_fork_kind k ≡ false) × (is_block_kind k ≡ false)
cancel_no (Cancel back) e = (refl, refl, refl)
cancel_no _ e = absurd (cc e)

pub cancel_no_block : (t : List Node) (n : ℕ) → is_node (λ y. is_cancel_kind y.kind) t n ≡ true → is_block t n ≡ false
cancel_no_block t = node_tells false t (λ y. is_cancel_kind y.kind) (λ y. is_block_kind y.kind) (λ y f. (cancel_no y.kind f).2)

module _ (m : OpenMachine) (w : IsWell m) (n : ℕ) (x : Node) (at : slice_get m.tree n ≡ Some x) (cancel : is_cancel_kind x.kind ≡ true)
    (block : is_block m.tree x.parent ≡ true) where
  abbrev t : List Node
  t = m.tree

  is_cancel : is_node (λ y. is_cancel_kind y.kind) t n ≡ true
  is_cancel = ap (λ o. passes (λ y. is_cancel_kind y.kind) o) at ∙ cancel

  pub cancel_there : n < length t
  cancel_there = node_there (λ y. is_cancel_kind y.kind) t n is_cancel

  no_strand : is_strand t n ≡ false
  no_strand = node_tells false t (λ y. is_cancel_kind y.kind) (λ y. is_strand_kind y.kind) (λ y f. (cancel_no y.kind f).0) n is_cancel

  no_fork : is_fork t n ≡ false
  no_fork = node_tells false t (λ y. is_cancel_kind y.kind) (λ y. is_fork_kind y.kind) (λ y f. (cancel_no y.kind f).1) n is_cancel

  no_block : is_block t n ≡ false
  no_block = cancel_no_block t n is_cancel

  not_open : is_open m n ≡ false
  not_open =
      or_from (is_strand t n && not (has_finished m n) || is_fork t n && not (has m.joined n)) (is_pending t n)
      (or_from (is_strand t n && not (has_finished m n)) (is_fork t n && not (has m.joined n)) (and_left (is_strand t n) (not (has_finished m n)) no_strand)
      (and_left (is_fork t n) (not (has m.joined n)) no_fork))
      (false_from_ne_true (is_pending t n) (λ e. absurd (cc (no_block, pending_block t n e))))

  some : 0 < n
  some = other_some t w.sound.tree.root n no_strand

  pub cancel_up : parent_of t n ≡ x.parent
  cancel_up = ap (number_in (λ y. y.parent)) at

  -- what is at the block or above it is above the cancel
  pub over_cancel : (p : ℕ) → is_ancestor t p x.parent ≡ true → is_above t p n ≡ true
  over_cancel p e = above_parent t w.sound.tree.rooted p n some cancel_there ∙ ap (is_ancestor t p) cancel_up ∙ e

  -- an open node beneath the block
  pub open_after : (q : ℕ) → q < length t → is_above t x.parent q ≡ true → is_open m q ≡ true → is_before t n q ≡ true
  open_after q hq over e =
      let r = w.sound.tree.rooted in
      let less = above_less t r x.parent q hq over in
      let z = branch t r x.parent q hq (omega arith) (above_ancestor t x.parent q over) in
      let le : z.child ≤ q = ancestor_le t r z.child q hq z.over in
      let opened : is_open m z.child ≡ true = open_over m w.sound.tree w.nested z.child q hq z.over e in
      let flat : is_fork t x.parent ≡ false = false_from_ne_true (is_fork t x.parent) (λ f. absurd (cc (block, fork_no_block t x.parent f))) in
      let here : n < length t = cancel_there in
      elim (cases_lt n z.child) [
        | inl later ↦ before_of t n q (record {
          first = n;
          second = z.child;
          ordered = record { some = some; less = later; same = cancel_up ∙ sym z.parent; no_fork = ap (is_fork t) cancel_up ∙ flat };
          over_first = ancestor_self t n;
          over_second = z.over;
        })
        | inr no_later ↦ elim (cases_eq z.child n) [
          | inl same ↦ absurd (cc (opened, ap (is_open m) same, not_open))
          | inr ne ↦ absurd (cc (opened, w.nested.last z.child n z.some (omega arith) here (z.parent ∙ sym cancel_up) (ap (is_fork t) z.parent ∙ flat)))
        ]
      ]

  -- so what comes there has a greater stamp
  pub stamp_after : (p stamp : ℕ) → p < length t → is_open m p ≡ true → is_ancestor t x.parent p ≡ true → IsNextStamp t p stamp → x.stamp < stamp
  stamp_after p stamp hp e over next =
      let r = w.sound.tree.rooted in
      let before : is_before_at t n p ≡ true = elim (cases_eq p x.parent) [
        | inl q ↦ or_left (is_above t p n) (is_before t n p) (over_cancel p (ap (is_ancestor t p) (sym q) ∙ ancestor_self t p))
        | inr ne ↦ or_right (is_above t p n) (is_before t n p) (open_after p hp (sym (ancestor_above t x.parent p ne) ∙ over) e)
      ] in
      let less = (next.series n cancel_there before).0 in
      omega (arith, less, ap (number_in (λ y. y.stamp)) at)

  -- and so has all beneath a pending block that stands there
  pub stamps_after : (b k : ℕ) → is_pending t b ≡ true → is_above t x.parent b ≡ true → k < length t → is_above t b k ≡ true → 0 < stamp_of t k
      → x.stamp < stamp_of t k
  stamps_after b k pending over hk up has =
      let stamps = w.sound.stamps in
      let is = pending_block t b pending in
      let hb : b < length t = node_there (λ y. is_block_kind y.kind) t b is in
      let later = (stamps.series n b cancel_there hb (open_after b hb over (pending_open m w.sound.tree w.nested b pending)) (block_stamped t stamps b is)).0 in
      let less = stamps.begun b k hb hk (and_from (is_block t b) (is_above t b k) is up) has in
      omega (arith, later, less, ap (number_in (λ y. y.stamp)) at)
