-- What a strand that may go on wants, it may do: it stands where a run comes to, with as many blocks begun in it and not ended as are pending.
use Rattle.std.proofs.Common.{◌≡◌, ℕ, zero, suc, ◌<◌, ◌≤◌, List, ◌∷◌, length, refl, ap, sym, ◌∙◌, subst, arith, true, false, inl, inr, nat_eq}
use Rattle.std.specs.Prelude.{◌⊎◌, ◌&&◌, not, ℤ, Option}
use Rattle.std.proofs.lemmas.Bool.{and_parts, and_from, not-true, not_from_true, not_from_false, eq-eqb, ne_eqb, false_from_ne_true, cases_eq}
use Rattle.cw_strand.specs.declared.want.Want.{Want}
use Rattle.cw_strand.specs.declared.want.Want.TheVariants.{End, Cancel, Sync, Done}
use Rattle.cw_strand.specs.Strands.{Strands, Reached, MayWant, is_over}
use Rattle.cw_tree.specs.declared.node.Node.{Node}
use Rattle.cw_tree.specs.Nodes.{is_strand_kind, parent_of, is_strand, is_block, is_pending}
use Rattle.cw_tree.specs.Walks.{has}
use Rattle.cw_tree.specs.Series.{place}
use Rattle.cw_tree.specs.Newest.{newest}
use Rattle.cw_tree.specs.Shape.{IsTree}
use Rattle.cw_tree.proofs.Walks.There.{node_there}
use Rattle.cw_tree.proofs.NodeKinds.{strand_no_block, pending_block}
use Rattle.cw_open.specs.Machine.{OpenMachine, has_finished, waits, is_running, is_dying, in_block, is_free}
use Rattle.cw_open.specs.Refused.{unstopped}
use Rattle.cw_open.proofs.Laws.Naming.{cancels_name}
use Rattle.cw_open.proofs.Runs.LawsHold.{at_any}
use Rattle.cw_open.proofs.Open.Standing.{runs, stands, place_holds}
use Rattle.cw_open.proofs.Open.Trees.{IsWell}
use Rattle.cw_open.proofs.Open.Kinds.{open_unjoined}
use Rattle.cw_core.proofs.Events.Going.{well}
use Rattle.cw_record.specs.Coherent.{Follows}
use Rattle.cw_record.proofs.ClosedRun.Strands.{follows, no_open_fork}
use Rattle.cw_sim.specs.Workers.{Simulation}
use Rattle.cw_sim.specs.Kept.{CoreGoesOn, is_current, AreStanding, HasStates, IsKept}
use Rattle.cw_sim.specs.Laws.{AreStrands}
use Rattle.cw_sim.proofs.Kept.Halves.{strand_open}
use Rattle.cw_sim.specs.HasWants.{HasWants}
use Rattle.cw_sim.proofs.Kept.Levels.{levels, strand_levels, block_levels}
use Rattle.cw_sim.proofs.Kept.Reaching.{end_reached}

-- ## What may be wanted with these numbers of blocks

no_end : (w : Want) (bs : List ℕ) → w ≡ End → MayWant w (0 ∷ bs) → ⊥
no_end w bs e may = let P : Want → Type 0 = λ v. MayWant v (0 ∷ bs) in subst P e may

no_cancel : (w : Want) (bs : List ℕ) → w ≡ Cancel → MayWant w (0 ∷ bs) → ⊥
no_cancel w bs e may = let P : Want → Type 0 = λ v. MayWant v (0 ∷ bs) in subst P e may

no_over : (w : Want) (b : ℕ) (bs : List ℕ) → is_over w ≡ true → MayWant w (suc b ∷ bs) → ⊥
no_over Sync b bs e may = may
no_over Done b bs e may = may
no_over _ b bs e may = cc e

-- a pending block is not the root
pending_some : (t : List Node) → is_strand t 0 ≡ true → (b : ℕ) → is_pending t b ≡ true → 0 < b
pending_some t root b pending =
    elim (cases_eq b 0) [
      | inl q ↦ absurd (let block = pending_block t b pending in let none = strand_no_block t 0 root in let same = ap (is_block t) q in cc (block, none, same))
      | inr ne ↦ omega arith
    ]

module _ {A : Type 0} (s : Strands A) (first : List ℤ) (m : Simulation A) (on : CoreGoesOn first m.core) where
  abbrev o : OpenMachine
  o = m.core.machine

  abbrev t : List Node
  t = o.tree

  wl : IsWell o
  wl = well first m.core on.core

  tree : IsTree t
  tree = wl.sound.tree

  -- ## A strand that runs

  -- it is current
  pub running_current : (x : ℕ) → is_running o x ≡ true → is_current m.core x ≡ true
  running_current zero running = refl
  running_current (suc x) running =
      let r = runs o tree wl.nested (suc x) running in
      let low = node_there (λ y. is_strand_kind y.kind) t (suc x) r.strand in
      let f = parent_of t (suc x) in
      let up = wl.nested.outer (suc x) (omega arith) low (strand_open o (suc x) r.strand r.unfinished) in
      let apart = open_unjoined o f (tree.strands (suc x) low (omega arith) r.strand) up in
      and_from (is_strand t (suc x)) (not (has o.joined f)) r.strand (not_from_false (has o.joined f) apart)

  -- and does not wait
  pub running_waits : (x : ℕ) → is_running o x ≡ true → waits o x ≡ false
  running_waits x running =
      let a = and_parts (is_strand t x && not (has_finished o x) && not (waits o x)) (not (has o.stopped x)) running in
      let b = and_parts (is_strand t x && not (has_finished o x)) (not (waits o x)) a.0 in
      not-true (waits o x) b.1

  -- it stands in no block that was begun in it, or in one at least
  pub place_levels : (x : ℕ) → is_running o x ≡ true
      → ((in_block o x ≡ false) × (bs : List ℕ) × (levels t (place t x) ≡ 0 ∷ bs)) ⊎ ((in_block o x ≡ true) × (b : ℕ) × (bs : List ℕ) × (levels t (place t x) ≡ suc b ∷ bs))
  place_levels x running =
      let strand = (runs o tree wl.nested x running).strand in
      let p = place t x in
      let at = stands o tree wl.nested x running in
      elim at.kind [
        | inl here ↦
            (let (bs, e) = strand_levels t tree.rooted x (node_there (λ y. is_strand_kind y.kind) t x strand) strand in
            inl (not_from_true (nat_eq p x) (eq-eqb p x here), bs, ap (levels t) here ∙ e))
        | inr pending ↦
            (let block = pending_block t p pending in
            let plain = false_from_ne_true (is_strand t p) (λ e. absurd (let none = strand_no_block t p e in cc (block, none))) in
            let apart = ne_eqb p x (λ e. absurd (let same = ap (is_strand t) e in cc (same, plain, strand))) in
            let (b, bs, e) = block_levels t tree.rooted p (pending_some t tree.root p pending) at.there plain block in
            inr (not_from_false (nat_eq p x) apart, b, bs, e))
      ]

  -- ## Where runs come to

  module _ (before after reached : ℕ → A) (st : AreStanding s m before after reached) (are : length first ≤ s.elements) where
    abbrev asked : List Node → List ℕ → Option ℤ → List ℕ
    asked = λ us vs w. newest vs

    all : Follows s t before after reached
    all = follows s asked first o (at_any first o on.core.reached) before after reached st.states

    -- a strand that may go on stands where one does
    strand_reached : (x : ℕ) → is_free o x ≡ true → Reached s (levels t (place t x)) (m.at x)
    strand_reached x free =
        let running = (and_parts (is_running o x) (not (is_dying o x)) free).0 in
        let still : is_free (unstopped o) x ≡ true = ap (λ ss. is_free (record o { stopped = ss }) x) (sym on.stopped) ∙ free in
        let none = no_open_fork s asked first o (at_any first o on.core.reached) before after reached st.states x still in
        let named = cancels_name asked first o (at_any first o on.core.reached) in
        let there = end_reached s t before after reached tree all (length first) are named on.forks (place t x) (stands o tree wl.nested x running).there (place_holds o tree wl.nested x running) none in
        let P : A → Type 0 = λ a. Reached s (levels t (place t x)) a in
        subst P (st.strands x (running_current x running) (running_waits x running)) there

  -- a strand that may go on stands where a run comes to
  pub free_is_reached : length first ≤ s.elements → HasStates s m → (x : ℕ) → is_free o x ≡ true → Reached s (levels t (place t x)) (m.at x)
  free_is_reached are (before, after, reached, st) = strand_reached before after reached st are

  -- ## What is wanted there

  module _ (strands : AreStrands s (length first)) (has_states : HasStates s m) where
    module _ (x : ℕ) (free : is_free o x ≡ true) where
      may : MayWant (s.want (m.at x)) (levels t (place t x))
      may = strands.lawful.closes (levels t (place t x)) (m.at x) (free_is_reached strands.there has_states x free)

      running : is_running o x ≡ true
      running = (and_parts (is_running o x) (not (is_dying o x)) free).0

      ends : s.want (m.at x) ≡ End → in_block o x ≡ true
      ends e =
          let P : List ℕ → Type 0 = λ own. MayWant (s.want (m.at x)) own in
          elim (place_levels x running) [ inl z ↦ absurd (no_end (s.want (m.at x)) z.1 e (subst P z.2 may)) | inr z ↦ z.0 ]

      cancels : s.want (m.at x) ≡ Cancel → in_block o x ≡ true
      cancels e =
          let P : List ℕ → Type 0 = λ own. MayWant (s.want (m.at x)) own in
          elim (place_levels x running) [ inl z ↦ absurd (no_cancel (s.want (m.at x)) z.1 e (subst P z.2 may)) | inr z ↦ z.0 ]

      over : is_over (s.want (m.at x)) ≡ true → in_block o x ≡ false
      over e =
          let P : List ℕ → Type 0 = λ own. MayWant (s.want (m.at x)) own in
          elim (place_levels x running) [ inl z ↦ z.0 | inr z ↦ absurd (no_over (s.want (m.at x)) z.1 z.2 e (subst P z.3 may)) ]

    pub wants_hold : HasWants s (length first) m
    wants_hold = record {
      there = strands.there;
      ends = λ x free. ends x free;
      cancels = λ x free. cancels x free;
      over = λ x free. over x free;
      named = λ x free. strands.named (levels t (place t x)) (m.at x) (free_is_reached strands.there has_states x free);
    }

pub wants_fit : {A : Type 0} (s : Strands A) (first : List ℤ) (m : Simulation A) → AreStrands s (length first) → IsKept s first m → HasWants s (length first) m
wants_fit s first m strands kept = wants_hold s first m kept.core strands kept.states
