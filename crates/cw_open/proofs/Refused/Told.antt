-- An access that is refused because it conflicts with the newest one is parallel to it.
use Rattle.std.proofs.Common.{◌≡◌, ℕ, ◌<◌, List, length, refl, ap, sym, ◌∙◌, arith, true, false, Option, Some, None, inl, inr, nat_lt}
use Rattle.std.specs.Prelude.{◌&&◌, ◌||◌, not, ℤ, slice_get}
use Rattle.std.proofs.lemmas.Bool.{and_parts, and_from, cases_eq, cases_lt, not-true, false_from_ne_true, true_from_ne_false}
use Rattle.cw_tree.specs.declared.node.Node.{Node}
use Rattle.cw_tree.specs.declared.node.Kind.{Kind}
use Rattle.cw_tree.specs.declared.node.Kind.TheVariants.{Strand, Fork, Block, Read, Write, Out, Tried}
use Rattle.cw_tree.specs.Nodes.{passes, is_strand_kind, is_fork_kind, is_block_kind, is_pending_state, touches_kind, parent_of, stamp_of, is_strand, is_fork, is_block, is_pending, touches}
use Rattle.cw_tree.specs.Walks.{IsRooted, is_ancestor, is_above}
use Rattle.cw_tree.specs.Series.{parallel, is_before, place}
use Rattle.cw_tree.specs.ForkCounts.{one_if}
use Rattle.cw_tree.specs.AccessStacks.{access_at}
use Rattle.cw_tree.specs.NextNodes.{IsPlace, IsSound}
use Rattle.cw_tree.proofs.Walks.There.{node_there}
use Rattle.cw_tree.proofs.Walks.Ancestors.{above_ancestor, ancestor_above, ancestor_step, ancestor_le, ancestor_trans, ancestor_up}
use Rattle.cw_tree.proofs.Walks.Kin.{of_before, before_of, branch, ancestor_linear}
use Rattle.cw_tree.proofs.Walks.Parting.{series_or_parallel}
use Rattle.cw_tree.proofs.NodeKinds.{pending_block}
use Rattle.cw_open.specs.Machine.{OpenMachine, live, is_running, is_free}
use Rattle.cw_open.specs.Steps.{Met, refuses}
use Rattle.cw_open.specs.Runs.{IsMet, IsRefused, Allowed, at_once, IsReachedBy}
use Rattle.cw_open.proofs.Open.Trees.{stands_well}
use Rattle.cw_open.proofs.Open.TreeSteps.{free_runs}
use Rattle.cw_open.proofs.Laws.Named.{access_named}
use Rattle.cw_open.proofs.Laws.ChainSteps.{newest_in}
use Rattle.cw_open.proofs.Runs.States.{IsState, states}

-- an access holds nothing
access_holds : (c : ℕ) (k : Kind) → touches_kind c k ≡ true → (is_strand_kind k || is_fork_kind k || is_block_kind k) ≡ false
access_holds c (Read d v) e = refl
access_holds c (Write d v) e = refl
access_holds c Strand e = absurd (cc e)
access_holds c Fork e = absurd (cc e)
access_holds c Block e = absurd (cc e)
access_holds c (Out v) e = absurd (cc e)
access_holds c (Tried d) e = absurd (cc e)
access_holds c _ e = absurd (cc e)

-- access u, a pending block b above it, and a place p that is not in that block
module _ (t : List Node) (s : IsSound t) (c u b p : ℕ) (access : touches t c u ≡ true) (pending : is_pending t b ≡ true) (over : is_above t b u ≡ true) (place : IsPlace t p) (off : is_ancestor t b p ≡ false) where
  r : IsRooted t
  r = s.tree.rooted

  low : u < length t
  low = node_there (λ y. touches_kind c y.kind) t u access

  there : p < length t
  there = place.there

  no_hold : (is_strand t u || is_fork t u || is_block t u) ≡ false
  no_hold = by (slice_get t u) access where
    by : (o : Option Node) → passes (λ x. touches_kind c x.kind) o ≡ true
        → (passes (λ x. is_strand_kind x.kind) o || passes (λ x. is_fork_kind x.kind) o || passes (λ x. is_block_kind x.kind) o) ≡ false
    by None e = absurd (cc e)
    by (Some x) e = access_holds c x.kind e

  not_over : is_ancestor t u p ≡ false
  not_over =
      false_from_ne_true (is_ancestor t u p) (λ e.
      elim (cases_eq p u) [
        | inl q ↦ absurd (cc (ap (is_ancestor t b) q, off, above_ancestor t b u over))
        | inr ne ↦
            (let w = branch t r u p there ne e in
            let le = ancestor_le t r w.child p there w.over in
            let held = s.tree.parents w.child (omega arith) w.some in
            absurd (cc (held, no_hold, ap (λ n. is_strand t n || is_fork t n || is_block t n) w.parent)))
      ])

  not_under : is_ancestor t p u ≡ false
  not_under =
      false_from_ne_true (is_ancestor t p u) (λ e.
      let h : b < length t = node_there (λ y. is_block_kind y.kind && is_pending_state y.state) t b pending in
      let up = above_ancestor t b u over in
      elim (cases_lt p b) [
        | inl less ↦
            (let above : is_above t p b ≡ true = sym (ancestor_above t p b (λ q. omega arith)) ∙ ancestor_linear t r p b u low e up (omega arith) in
            absurd (cc (pending, place.within b h above)))
        | inr le ↦ absurd (cc (off, ancestor_linear t r b p u low up e le))
      ])

  not_earlier : is_before t u p ≡ false
  not_earlier =
      false_from_ne_true (is_before t u p) (λ e.
      let w = of_before t u p e in
      let o = w.ordered in
      let some = o.some in
      let less = o.less in
      let high = ancestor_le t r w.second p there w.over_second in
      let up = above_ancestor t b u over in
      elim (cases_lt b w.first) [
        | inl l ↦
            (let first_low : w.first < length t = omega arith in
            let in_first = ancestor_linear t r b w.first u low up w.over_first (omega arith) in
            let in_parent : is_ancestor t b (parent_of t w.first) ≡ true = sym (ancestor_step t r b w.first some first_low (λ q. omega arith)) ∙ in_first in
            let in_second = ancestor_up t r b w.second (omega arith) (omega arith) (ap (is_ancestor t b) (sym o.same) ∙ in_parent) in
            absurd (cc (off, ancestor_trans t r b w.second p there in_second w.over_second)))
        | inr le ↦
            (let h : b < length t = let q = ancestor_le t r b u low up in omega (arith, low) in
            let before = before_of t b p (record { first = w.first; second = w.second; ordered = o; over_first = ancestor_linear t r w.first b u low w.over_first up le; over_second = w.over_second }) in
            let last = s.pending_last in
            absurd (cc (before, last.last b p h there pending)))
      ])

  pub are_parallel : parallel t u p ≡ true
  are_parallel =
      true_from_ne_false (parallel t u p) (λ e.
      let one = series_or_parallel t r u p low there not_over not_under in
      omega (arith, one, ap one_if e, ap one_if not_earlier, ap one_if (place.last u low)))

-- what an access met that conflicts with the newest one while a pending block stands in the way
pub met_where : (first : List ℤ) (m : OpenMachine) (s c : ℕ) (met : Met) → IsState first m → is_running m s ≡ true → IsRefused m s c met → IsMet m.tree (place m.tree s) c met
met_where first m s c met state running w =
    let well = state.well in
    let t = m.tree in
    let p = place t s in
    let at = stands_well m well s running in
    let acc = state.listed.accesses c met.last (newest_in (live m c) met.last w.last) in
    let named : access_at t met.last ≡ acc.0 = ap (access_at t) (sym acc.2) ∙ access_named t well.sound.stamps c acc.0 acc.1 in
    let u = access_at t met.last in
    let touched : touches t c u ≡ true = ap (touches t c) named ∙ acc.1 in
    let (b, is, stamped) = w.block in
    let y = and_parts (is_pending t b && is_above t b u) (not (is_ancestor t b p)) is in
    let x = and_parts (is_pending t b) (is_above t b u) y.0 in
    let off = not-true (is_ancestor t b p) y.1 in
    record {
      last = (touched, ap (stamp_of t) named ∙ acc.2);
      parallel = are_parallel t well.sound c u b p touched x.0 x.1 at off;
      block = (b, and_from (is_block t b && is_above t b u) (not (is_ancestor t b p)) (and_from (is_block t b) (is_above t b u) (pending_block t b x.0) x.1) y.1, stamped);
    }

-- what a refused access met
pub met_is : (first : List ℤ) (m : OpenMachine) (s c : ℕ) (write : Option ℤ) (met : Met) → IsState first m → Allowed at_once m (refuses s c write met) → IsMet m.tree (place m.tree s) c met
met_is first m s c write met state a = met_where first m s c met state (free_runs m s (and_parts (is_free m s) (nat_lt c (length m.lists)) a.0).0) a.1

pub told : (first : List ℤ) (m : OpenMachine) (s c : ℕ) (write : Option ℤ) (met : Met) → IsReachedBy at_once first m → Allowed at_once m (refuses s c write met) → IsMet m.tree (place m.tree s) c met
told first m s c write met reached a = met_is first m s c write met (states at_once first m reached) a
