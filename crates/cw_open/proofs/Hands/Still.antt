-- What stands still stays so, as others step.
use Rattle.std.proofs.Common.{◌≡◌, ◌≢◌, ℕ, ◌<◌, ◌≤◌, List, [], ◌∷◌, ◌++◌, length, refl, ap, sym, ◌∙◌, arith, true, false, Option, Some, None, inl, inr, nat_eq, nat_lt}
use Rattle.std.specs.Prelude.{◌&&◌, ℤ, unwrap_or}
use Rattle.std.specs.Option.{option_map_or}
use Rattle.std.proofs.lemmas.Bool.{and_parts, and_right, cases_Bool, cases_eq, eq-eqb, eqb-true, ne_eqb}
use Rattle.std.proofs.lemmas.List.Elements.{All-contains}
use Rattle.cw_tree.specs.declared.node.Node.{Node}
use Rattle.cw_tree.specs.declared.node.Kind.{Kind}
use Rattle.cw_tree.specs.declared.node.Kind.TheVariants.{Block, Out, Cancel, Tried}
use Rattle.cw_tree.specs.declared.node.BlockState.{BlockState}
use Rattle.cw_tree.specs.declared.node.BlockState.TheVariants.{Committed, Aborted}
use Rattle.cw_tree.specs.declared.conflict.Conflict.{Conflict}
use Rattle.cw_tree.specs.Nodes.{passes, is_block_kind, is_pending_state, stamp_of, is_strand, is_block, is_pending, all_nodes, block_with_stamp, fresh_node, closed}
use Rattle.cw_tree.specs.Walks.{IsRooted}
use Rattle.cw_tree.specs.Series.{strand_of, last_of, place}
use Rattle.cw_tree.specs.Refusals.{victim_of, refused_node}
use Rattle.cw_tree.specs.AccessStacks.{access_kind}
use Rattle.cw_tree.specs.NextNodes.{fork_nodes}
use Rattle.cw_tree.proofs.LastBelow.{last_past, last_same}
use Rattle.cw_tree.proofs.NodeKinds.{pending_block, strand_no_block}
use Rattle.cw_tree.proofs.Walks.Climbs.{by_parent}
use Rattle.cw_tree.proofs.Walks.Strands.{strand_of_strand, strand_of_other, strand_of_le}
use Rattle.cw_tree.proofs.Walks.There.{pending_there}
use Rattle.cw_tree.proofs.NextNodes.Closing.{length_closed, node_closed_other}
use Rattle.cw_tree.proofs.NextNodes.Pending.{end_of_place}
use Rattle.cw_open.specs.Machine.{OpenMachine, live_value, has_finished, is_running, in_block, is_free, rolls_back}
use Rattle.cw_open.specs.Steps.{Step, forks, begins, accesses, refuses, outputs, cancels, commits, undoes, aborts, finishes, joins, stops, puts_back, after_open_step}
use Rattle.cw_open.specs.Runs.{Rules, Allowed, at_any_time}
use Rattle.cw_open.specs.Spent.{StandsStill}
use Rattle.cw_open.specs.Hands.{is_step_of}
use Rattle.cw_open.specs.Still.{StillStays}
use Rattle.cw_open.proofs.Open.Trees.{IsWell, stands_well}
use Rattle.cw_open.proofs.Open.TreeSteps.{free_runs, rolls_runs, well_after}
use Rattle.cw_open.proofs.Open.Standing.{stands}
use Rattle.cw_open.proofs.Open.Growth.{IsGrowth, growth_leaf, growth_fork}
use Rattle.cw_open.proofs.Open.Staying.{Stays, grown_stays, closed_stays, strand_stays}
use Rattle.cw_open.proofs.Laws.Named.{find_passes}
use Rattle.cw_open.proofs.Refused.Victims.{IsTold, told_states}
use Rattle.cw_open.proofs.Reordered.Spending.{block_found}
use Rattle.cw_open.proofs.Hands.Alone.{finished_stays}

-- tree t became u: no node of strand x came, and none of its blocks was closed
pub record IsApart (t u : List Node) (x : ℕ) : Type 0 where
  pub stays : Stays t u
  pub new : (n : ℕ) → length t ≤ n → n < length u → strand_of u n ≢ x
  pub pending : (n : ℕ) → n < length t → strand_of t n ≡ x → is_pending u n ≡ is_pending t n

grown_apart : (t u : List Node) (q stamp x : ℕ) → IsRooted t → IsGrowth t u q stamp → q < length t → x < length t → strand_of t q ≢ x → IsApart t u x
grown_apart t u q stamp x r g low_q low_x other =
    let s = grown_stays t u q stamp r g in
    record {
      stays = s;
      new = λ n le h. by_parent u g.rooted (λ n. length t ≤ n → strand_of u n ≢ x) (λ le. absurd (omega arith))
          (λ n some h more le e.
          elim (cases_Bool (is_strand u n)) [
            | inl is ↦ absurd (let own = strand_of_strand u g.rooted n some h is in omega (arith, own, e))
            | inr plain ↦ (
                let up = strand_of_other u g.rooted n some h plain in
                elim (g.parents n le h) [
                  | inl z ↦ other (sym (strand_stays t u s q low_q) ∙ sym (ap (strand_of u) z) ∙ sym up ∙ e)
                  | inr z ↦ more z (sym up ∙ e)
                ])
          ])
          n h le;
      pending = λ n h e. ap (passes (λ y. is_block_kind y.kind && is_pending_state y.state)) (g.old n h);
    }

closed_apart : (t : List Node) → IsRooted t → (q : ℕ) (state : BlockState) (end x : ℕ) → strand_of t q ≢ x → IsApart t (closed t q state end) x
closed_apart t r q state end x other = record {
  stays = closed_stays t r q state end;
  new = λ n le h. absurd (let len = length_closed t q state end in omega arith);
  pending = λ n h e. node_closed_other t q state end (λ y. is_block_kind y.kind && is_pending_state y.state) n (λ same. other (sym (ap (strand_of t) same) ∙ e));
}

same_apart : (t : List Node) → IsRooted t → (x : ℕ) → IsApart t t x
same_apart t r x = record {
  stays = record { longer = omega arith; rooted = r; parents = λ n h. refl; stamps = λ n h. refl; strands = λ n h. refl; forks = λ n h. refl; blocks = λ n h. refl };
  new = λ n le h. absurd (omega arith);
  pending = λ n h e. refl;
}

module _ (m : OpenMachine) (w : IsWell m) (x : ℕ) (low_x : x < length m.tree) where
  abbrev t : List Node
  t = m.tree

  r : IsRooted t
  r = w.sound.tree.rooted

  -- a running strand is another one
  other_place : (y : ℕ) → is_running m y ≡ true → nat_eq y x ≡ false → strand_of t (place t y) ≢ x
  other_place y run ne e = cc (ne, eq-eqb y x (sym (stands m w.sound.tree w.nested y run).strand ∙ e))

  leaf_apart : (y : ℕ) → is_running m y ≡ true → nat_eq y x ≡ false → (kind : Kind) (stamp : ℕ) → IsApart t (t ++ fresh_node (place t y) kind stamp ∷ []) x
  leaf_apart y run ne kind stamp =
      let at = stands_well m w y run in
      grown_apart t _ (place t y) stamp x r (growth_leaf t r (place t y) (end_of_place t (place t y) at) kind stamp) at.there low_x (other_place y run ne)

  fork_apart : (y stamp : ℕ) → is_running m y ≡ true → nat_eq y x ≡ false → IsApart t (t ++ fork_nodes (length t) (place t y) stamp) x
  fork_apart y stamp run ne =
      let at = stands_well m w y run in
      grown_apart t _ (place t y) stamp x r (growth_fork t w.sound.tree (place t y) at stamp) at.there low_x (other_place y run ne)

  pub apart_after : (rules : Rules) (e : Step) → Allowed rules m e → is_step_of x e ≡ false → IsApart m.tree (after_open_step m e).tree x
  apart_after rules (forks y stamp) a o = fork_apart y stamp (free_runs m y a.0) o
  apart_after rules (begins y stamp) a o = leaf_apart y (free_runs m y a.0) o Block stamp
  apart_after rules (accesses y c write stamp) a o =
      let z = and_parts (is_free m y && nat_lt c (length m.lists)) _ a.0 in
      leaf_apart y (free_runs m y (and_parts (is_free m y) (nat_lt c (length m.lists)) z.0).0) o (access_kind c write (live_value m c)) stamp
  apart_after rules (refuses y c write met) a o = leaf_apart y (free_runs m y (and_parts (is_free m y) (nat_lt c (length m.lists)) a.0).0) o (Tried c) 0
  apart_after rules (outputs y v stamp) a o = leaf_apart y (free_runs m y a.0) o (Out v) stamp
  apart_after rules (cancels y stamp) a o = leaf_apart y (free_runs m y (and_parts (is_free m y) (in_block m y) a.0).0) o (Cancel (puts_back m y stamp)) stamp
  apart_after rules (commits y stamp) a o =
      let z = and_parts (is_free m y && in_block m y) _ a.0 in
      closed_apart t r (place t y) Committed stamp x (other_place y (free_runs m y (and_parts (is_free m y) (in_block m y) z.0).0) o)
  apart_after rules (undoes y c) a o = same_apart t r x
  apart_after rules (aborts y stamp) a o = closed_apart t r (place t y) Aborted stamp x (other_place y (rolls_runs m y (and_parts (rolls_back m y) _ a.0).0).running o)
  apart_after rules (finishes y dead) a o = same_apart t r x
  apart_after rules (joins f) a o = same_apart t r x
  apart_after rules (stops y) a o = same_apart t r x

module _ (t u : List Node) (x : ℕ) (b : IsApart t u x) where
  last_stays : last_of u x ≡ last_of t x
  last_stays =
      ap (λ o. unwrap_or o x)
      (last_past (λ n. nat_eq (strand_of u n) x) (length t) (length u) b.stays.longer (λ n le h. ne_eqb (strand_of u n) x (b.new n le h))
      ∙ last_same (λ n. nat_eq (strand_of u n) x) (λ n. nat_eq (strand_of t n) x) (length t) (λ n h. ap (λ s. nat_eq s x) (strand_stays t u b.stays n h)))

  place_still : place u x ≡ place t x
  place_still =
      ap (λ o. unwrap_or o x)
      (last_past (λ n. is_pending u n && nat_eq (strand_of u n) x) (length t) (length u) b.stays.longer (λ n le h. and_right (is_pending u n) (nat_eq (strand_of u n) x) (ne_eqb (strand_of u n) x (b.new n le h)))
      ∙ last_same (λ n. is_pending u n && nat_eq (strand_of u n) x) (λ n. is_pending t n && nat_eq (strand_of t n) x) (length t)
      (λ n h. ap (λ s. is_pending u n && nat_eq s x) (strand_stays t u b.stays n h) ∙ elim (cases_eq (strand_of t n) x) [
        | inl own ↦ ap (λ q. q && nat_eq (strand_of t n) x) (b.pending n h own)
        | inr ne ↦ and_right (is_pending u n) (nat_eq (strand_of t n) x) (ne_eqb (strand_of t n) x ne) ∙ sym (and_right (is_pending t n) (nat_eq (strand_of t n) x) (ne_eqb (strand_of t n) x ne))
      ]))

-- the block that a conflict refused, if it is pending, has the victim's stamp
block_is : (t : List Node) → is_strand t 0 ≡ true → (v : ℕ) → is_pending t (unwrap_or (block_with_stamp t v) 0) ≡ true → (b : ℕ) × (block_with_stamp t v ≡ Some b) × (stamp_of t b ≡ v)
block_is t root v pending = by (block_with_stamp t v) refl where
  by : (o : Option ℕ) → block_with_stamp t v ≡ o → (b : ℕ) × (block_with_stamp t v ≡ Some b) × (stamp_of t b ≡ v)
  by None e = absurd (cc (pending_block t 0 (sym (ap (λ o. is_pending t (unwrap_or o 0)) e) ∙ pending), strand_no_block t 0 root))
  by (Some b) e = (b, e, eqb-true (stamp_of t b) v (and_parts (is_block t b) (nat_eq (stamp_of t b) v) (find_passes (λ n. is_block t n && nat_eq (stamp_of t n) v) (all_nodes t) b e)).1)

module _ (asked : List Node → List ℕ → Option ℤ → List ℕ) (m : OpenMachine) (w : IsWell m) (e : Step) (a : Allowed (at_any_time asked) m e) (c : Conflict) (told : IsTold m.tree c) where
  abbrev k : OpenMachine
  k = after_open_step m e

  abbrev node_of : List Node → Option ℕ → ℕ
  node_of v o = option_map_or (λ s. unwrap_or (block_with_stamp v s) 0) o c.asker

  pub still : (o : Option ℕ) → victim_of c ≡ o → is_step_of (strand_of m.tree (refused_node m.tree c)) e ≡ false → StandsStill m c o → StandsStill k c o
  still (Some v) at other h =
      let t = m.tree in
      let before : refused_node t c ≡ unwrap_or (block_with_stamp t v) 0 = ap (node_of t) at in
      let pending : is_pending t (unwrap_or (block_with_stamp t v) 0) ≡ true = sym (ap (is_pending t) before) ∙ h in
      let z = block_is t w.sound.tree.root v pending in
      let it : refused_node t c ≡ z.0 = before ∙ ap (λ o. unwrap_or o 0) z.1 in
      let now : is_pending t z.0 ≡ true = sym (ap (λ o. is_pending t (unwrap_or o 0)) z.1) ∙ pending in
      let low = pending_there t z.0 now in
      let x = strand_of t z.0 in
      let le : x ≤ z.0 = strand_of_le t w.sound.tree.rooted z.0 low in
      let b = apart_after m w x (omega arith) (at_any_time asked) e a (ap (λ n. is_step_of (strand_of t n) e) (sym it) ∙ other) in
      let later = well_after (at_any_time asked) m e w a in
      let block : is_block k.tree z.0 ≡ true = b.stays.blocks z.0 low ∙ pending_block t z.0 now in
      let found : block_with_stamp k.tree v ≡ Some z.0 = ap (block_with_stamp k.tree) (sym (b.stays.stamps z.0 low ∙ z.2)) ∙ block_found k.tree later.sound.stamps z.0 block in
      ap (is_pending k.tree) (ap (node_of k.tree) at ∙ ap (λ o. unwrap_or o 0) found) ∙ b.pending z.0 low refl ∙ now
  still None at other h =
      let t = m.tree in
      let n = c.asker in
      let low = told.asker in
      let x = strand_of t n in
      let le : x ≤ n = strand_of_le t w.sound.tree.rooted n low in
      let own : is_step_of x e ≡ false = ap (λ p. is_step_of (strand_of t p) e) (sym (ap (node_of t) at)) ∙ other in
      let b = apart_after m w x (omega arith) (at_any_time asked) e a own in
      let same : strand_of k.tree n ≡ x = strand_stays t k.tree b.stays n low in (
        ap (last_of k.tree) same ∙ last_stays t k.tree x b ∙ h.0,
        ap (place k.tree) same ∙ place_still t k.tree x b ∙ h.1 ∙ sym (b.stays.parents n low),
        ap (has_finished k) same ∙ finished_stays m e x own ∙ h.2,
      )

pub still_stays : StillStays
still_stays asked first m reached e a c there other h =
    let told = told_states (at_any_time asked) first m reached in
    still asked m told.state.well e a c (All-contains (IsTold m.tree) m.conflicts c told.told there) (victim_of c) refl other h
