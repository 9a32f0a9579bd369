-- Strands that have not finished.
use Rattle.std.proofs.Common.{◌≡◌, ◌≢◌, ℕ, ◌<◌, ◌≤◌, List, [], ◌∷◌, length, ap, sym, ◌∙◌, arith, true, false, cond, Some, None, inl, inr, nat_eq}
use Rattle.std.specs.Prelude.{◌&&◌, ◌||◌, not, ℤ, All}
use Rattle.std.specs.List.{list_any}
use Rattle.std.specs.Option.{option_map_or}
use Rattle.std.proofs.lemmas.Bool.{and_parts, and_from, or_cases, or_left, or_right, cases_eq, cases_lt, not-true, not-false, not_from_false, false_from_ne_true, true_from_ne_false, eqb-true, eq-eqb, ne_eqb}
use Rattle.cw_tree.specs.declared.node.Node.{Node}
use Rattle.cw_tree.specs.declared.conflict.Conflict.{Conflict}
use Rattle.cw_tree.specs.Nodes.{is_block_kind, is_pending_state, parent_of, stamp_of, is_strand, is_fork, is_block, is_pending, is_aborted, all_nodes}
use Rattle.cw_tree.specs.Walks.{IsRooted, has, path, lca, is_ancestor, is_above}
use Rattle.cw_tree.specs.Series.{strand_of, place, parallel}
use Rattle.cw_tree.specs.Accesses.{is_live}
use Rattle.cw_tree.specs.Refusals.{victim_of, is_victim}
use Rattle.cw_tree.specs.ForkCounts.{one_if}
use Rattle.cw_tree.proofs.Lists.{In, any_in}
use Rattle.cw_tree.proofs.Members.{all_at, filter_in, map_in}
use Rattle.cw_tree.proofs.NodeKinds.{aborted_block, pending_block, strand_no_block}
use Rattle.cw_tree.proofs.Walks.There.{node_there, fork_there, strand_there}
use Rattle.cw_tree.proofs.Walks.Kin.{ancestor_in, in_has, branch, fork_child, ancestor_linear}
use Rattle.cw_tree.proofs.Walks.Ancestors.{above_ancestor, ancestor_above, ancestor_le, ancestor_trans, root_ancestor}
use Rattle.cw_tree.proofs.Walks.Meets.{lca_is_meet}
use Rattle.cw_tree.proofs.Walks.Parting.{series_or_parallel}
use Rattle.cw_tree.proofs.Walks.Strands.{strand_over, strand_innermost, strand_of_le}
use Rattle.cw_open.specs.Machine.{OpenMachine, has_finished, falls, is_running, in_block, is_dying, is_free}
use Rattle.cw_open.specs.Runs.{at_any_time}
use Rattle.cw_open.specs.Open.{is_open}
use Rattle.cw_open.specs.Around.{blocks_at, begins_at}
use Rattle.cw_open.specs.Unfinished.{OneForkIsAwaited, UnfinishedAreLive, RootsLeaveNone, UntoldAreFree}
use Rattle.cw_open.proofs.Open.Trees.{IsWell}
use Rattle.cw_open.proofs.Open.Standing.{stands, open_over, open_last, open_block, pending_open, shut_beneath}
use Rattle.cw_open.proofs.Laws.Named.{live_from, aborted_done}
use Rattle.cw_open.proofs.Refused.Victims.{IsTold, IsToldState, told_states, victim_above, over_own, over_place}
use Rattle.cw_open.proofs.Runs.States.{states}

-- ## Forks

module _ (m : OpenMachine) (w : IsWell m) where
  abbrev t : List Node
  t = m.tree

  r : IsRooted t
  r = w.sound.tree.rooted

  -- a fork that was not joined is open
  fork_open : (f : ℕ) → (is_fork t f && not (has m.joined f)) ≡ true → is_open m f ≡ true
  fork_open f e = or_left (is_strand t f && not (has_finished m f) || is_fork t f && not (has m.joined f)) (is_pending t f) (or_right (is_strand t f && not (has_finished m f)) (is_fork t f && not (has m.joined f)) e)

  -- what is beneath a fork is in another strand
  beneath_fork : (f n : ℕ) → is_fork t f ≡ true → n < length t → n ≢ f → is_ancestor t f n ≡ true → strand_of t n ≡ strand_of t f → ⊥
  beneath_fork f n fork low ne over same =
      let b = branch t r f n low ne over in
      let le : b.child ≤ n = ancestor_le t r b.child n low b.over in
      let up : parent_of t b.child < b.child = r b.child b.some (omega arith) in
      let strand : is_strand t b.child ≡ true = fork_child t w.sound.tree b.child b.some (omega arith) (ap (is_fork t) b.parent ∙ fork) in
      let inner : b.child ≤ strand_of t n = strand_innermost t r b.child strand n low b.over in
      let outer : strand_of t f ≤ f = strand_of_le t r f (fork_there t f fork) in
      omega (arith, b.parent, same)

  pub one_awaited : (f g : ℕ) → (is_fork t f && not (has m.joined f)) ≡ true → (is_fork t g && not (has m.joined g)) ≡ true → strand_of t f ≡ strand_of t g → f ≡ g
  one_awaited f g ef eg same =
      let fork_f = (and_parts (is_fork t f) (not (has m.joined f)) ef).0 in
      let fork_g = (and_parts (is_fork t g) (not (has m.joined g)) eg).0 in
      let low_f = fork_there t f fork_f in
      let low_g = fork_there t g fork_g in
      elim (cases_eq f g) [
        | inl e ↦ e
        | inr ne ↦ absurd (
            let off_f : is_ancestor t f g ≡ false = false_from_ne_true (is_ancestor t f g) (λ q. beneath_fork f g fork_f low_g (λ e. ne (sym e)) q (sym same)) in
            let off_g : is_ancestor t g f ≡ false = false_from_ne_true (is_ancestor t g f) (λ q. beneath_fork g f fork_g low_f ne q same) in
            let one = series_or_parallel t r f g low_f low_g off_f off_g in
            let last_f = open_last m w.sound.tree w.nested f g low_f low_g (fork_open f ef) in
            let last_g = open_last m w.sound.tree w.nested g f low_g low_f (fork_open g eg) in
            let apart : parallel t f g ≡ true = true_from_ne_false (parallel t f g) (λ e. omega (arith, one, ap one_if e, ap one_if last_f, ap one_if last_g)) in
            let x = lca t f g in
            let fork_x = (and_parts (not (is_ancestor t f g) && not (is_ancestor t g f)) (is_fork t x) apart).1 in
            let meet = lca_is_meet t r f g low_f low_g in
            let s = strand_of t f in
            let over : is_ancestor t s x ≡ true = meet.innermost s (strand_over t r f low_f) (ap (λ n. is_ancestor t n g) same ∙ strand_over t r g low_g) in
            let le : x ≤ f = ancestor_le t r x f low_f meet.left in
            let high : s ≤ x = ancestor_le t r s x (omega arith) over in
            let b = branch t r x f low_f (λ e. cc (ap (λ n. is_ancestor t n g) e, meet.right, off_f)) meet.left in
            let at : b.child ≤ f = ancestor_le t r b.child f low_f b.over in
            let up : parent_of t b.child < b.child = r b.child b.some (omega arith) in
            let strand : is_strand t b.child ≡ true = fork_child t w.sound.tree b.child b.some (omega arith) (ap (is_fork t) b.parent ∙ fork_x) in
            let inner : b.child ≤ s = strand_innermost t r b.child strand f low_f b.over in
            omega (arith, b.parent))
      ]

  -- ## Strands

  pub unfinished_live : (s : ℕ) → is_strand t s ≡ true → has_finished m s ≡ false → is_live t s ≡ true
  unfinished_live s strand unfinished =
      let opened : is_open m s ≡ true = or_left (is_strand t s && not (has_finished m s) || is_fork t s && not (has m.joined s)) (is_pending t s) (or_left (is_strand t s && not (has_finished m s)) (is_fork t s && not (has m.joined s)) (and_from (is_strand t s) (not (has_finished m s)) strand (not_from_false (has_finished m s) unfinished))) in
      live_from t s (λ b over. false_from_ne_true (is_aborted t b) (λ e.
      absurd (cc (aborted_done t b e, open_block m w.sound.tree w.nested b (aborted_block t b e) (open_over m w.sound.tree w.nested b s (strand_there t s strand) (above_ancestor t b s over) opened)))))

  pub roots_leave : (b : ℕ) → (is_running m 0 && not (in_block m 0)) ≡ true → is_pending t b ≡ false
  roots_leave b e =
      false_from_ne_true (is_pending t b) (λ q.
      let z = and_parts (is_running m 0) (not (in_block m 0)) e in
      let at : place t 0 ≡ 0 = eqb-true (place t 0) 0 (not-false (nat_eq (place t 0) 0) (not-true (in_block m 0) z.1)) in
      let low : b < length t = node_there (λ y. is_block_kind y.kind && is_pending_state y.state) t b q in
      let ne : b ≢ 0 = λ c. cc (pending_block t b q, ap (is_block t) c, strand_no_block t 0 w.sound.tree.root) in
      let over : is_above t (place t 0) b ≡ true = ap (λ n. is_above t n b) at ∙ sym (ancestor_above t 0 b ne) ∙ root_ancestor t r b low in
      absurd (cc (pending_open m w.sound.tree w.nested b q, shut_beneath m w.sound.tree w.nested 0 z.0 b low over)))

pub one_fork_is_awaited : OneForkIsAwaited
one_fork_is_awaited asked first m reached f g ef eg same = one_awaited m (states (at_any_time asked) first m reached).well f g ef eg same

pub unfinished_are_live : UnfinishedAreLive
unfinished_are_live asked first m reached s strand unfinished = unfinished_live m (states (at_any_time asked) first m reached).well s strand unfinished

pub roots_leave_none : RootsLeaveNone
roots_leave_none asked first m reached b e = roots_leave m (states (at_any_time asked) first m reached).well b e

-- ## Who is free

-- a victim has its stamp
victim_is : (t : List Node) (c : Conflict) (b : ℕ) → is_victim t (c ∷ []) b ≡ true → c.victim ≡ stamp_of t b
victim_is t c b e =
    let z = (and_parts (is_block t b) (list_any (λ c. option_map_or (λ v. nat_eq v (stamp_of t b)) (victim_of c) false) (c ∷ [])) e).1 in
    elim (cases_eq c.victim 0) [
      | inl none ↦ absurd (cc (z, ap (λ x. option_map_or (λ v. nat_eq v (stamp_of t b)) (cond x None (Some c.victim)) false || false) (eq-eqb c.victim 0 none)))
      | inr some ↦ eqb-true c.victim (stamp_of t b) (elim (or_cases (nat_eq c.victim (stamp_of t b)) false (sym (ap (λ x. option_map_or (λ v. nat_eq v (stamp_of t b)) (cond x None (Some c.victim)) false || false) (ne_eqb c.victim 0 some)) ∙ z)) [ inl q ↦ q | inr q ↦ absurd (cc q) ])
    ]

module _ (first : List ℤ) (m : OpenMachine) (w : IsToldState first m) (s : ℕ) (running : is_running m s ≡ true) where
  abbrev tree : List Node
  tree = m.tree

  abbrev p : ℕ
  p = place tree s

  low : p < length tree
  low = (stands m w.state.well.sound.tree w.state.well.nested s running).there

  -- a pending victim of a conflict beneath the strand is around its place
  victim_around : (v : ℕ) (c : Conflict) → IsTold tree c → is_pending tree v ≡ true → is_above tree s c.asker ≡ true → is_above tree v c.asker ≡ true → is_ancestor tree v p ≡ true
  victim_around v c told pending mine over =
      let r = w.state.well.sound.tree.rooted in
      elim (cases_lt v s) [
        | inl less ↦ ancestor_trans tree r v s p low (ancestor_linear tree r v s c.asker told.asker (above_ancestor tree v c.asker over) (above_ancestor tree s c.asker mine) (omega arith)) (over_place first m w s running)
        | inr le ↦ over_own first m w s running v pending (ancestor_linear tree r s v c.asker told.asker (above_ancestor tree s c.asker mine) (above_ancestor tree v c.asker over) le)
      ]

  pub untold_free : All (λ c. is_above tree s c.asker ≡ true → has (begins_at tree (place tree s)) c.victim ≡ false) m.conflicts → is_free m s ≡ true
  untold_free untold =
      and_from (is_running m s) (not (is_dying m s)) running
      (not_from_false (is_dying m s) (false_from_ne_true (is_dying m s) (λ e.
      let z = any_in (λ c. is_above tree s c.asker && list_any (falls m c) (all_nodes tree)) m.conflicts e in
      let c = z.0 in
      let y = and_parts (is_above tree s c.asker) (list_any (falls m c) (all_nodes tree)) z.2 in
      let v = any_in (falls m c) (all_nodes tree) y.1 in
      let x = and_parts (is_pending tree v.0) (is_victim tree (c ∷ []) v.0) v.2 in
      let told = all_at (IsTold tree) m.conflicts w.told c z.1 in
      let over = victim_around v.0 c told x.0 y.0 (victim_above first m w c told v.0 x.1) in
      let block : In v.0 (blocks_at tree p) = filter_in (is_pending tree) v.0 (path tree p) (ancestor_in tree v.0 p over) x.0 in
      let there : has (begins_at tree p) (stamp_of tree v.0) ≡ true = in_has (begins_at tree p) (stamp_of tree v.0) (map_in (stamp_of tree) v.0 (blocks_at tree p) block) in
      let none = all_at (λ c. is_above tree s c.asker ≡ true → has (begins_at tree p) c.victim ≡ false) m.conflicts untold c z.1 y.0 in
      cc (none, ap (has (begins_at tree p)) (victim_is tree c v.0 x.1), there))))

pub untold_are_free : UntoldAreFree
untold_are_free asked first m reached s running untold = untold_free first m (told_states (at_any_time asked) first m reached) s running untold
