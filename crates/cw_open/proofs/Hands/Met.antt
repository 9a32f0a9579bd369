-- What an access met stays what a conflict tells of it, and no step makes an access conflict that did not.
use Rattle.std.proofs.Common.{◌≡◌, ℕ, ◌<◌, ◌≤◌, List, length, refl, ap, sym, ◌∙◌, subst, arith, true, false, inl, inr}
use Rattle.std.specs.Prelude.{◌⊎◌, ◌&&◌, not, ℤ, Option}
use Rattle.std.proofs.lemmas.Bool.{and_parts, and_from, cases_Bool}
use Rattle.std.proofs.lemmas.List.Elements.{All-weaker}
use Rattle.cw_tree.specs.declared.node.Node.{Node}
use Rattle.cw_tree.specs.Nodes.{is_block_kind, touches_kind, stamp_of, is_block, is_pending, touches}
use Rattle.cw_tree.specs.Walks.{IsRooted, is_ancestor, is_above}
use Rattle.cw_tree.specs.Series.{place, parallel}
use Rattle.cw_tree.specs.Accesses.{HasAccess}
use Rattle.cw_tree.specs.AccessStacks.{access_at, conflict_at}
use Rattle.cw_tree.proofs.ChainLaws.Change.{conflicts_grow, conflicts_close}
use Rattle.cw_tree.proofs.Walks.There.{node_there}
use Rattle.cw_tree.proofs.Walks.Ancestors.{ancestor_le}
use Rattle.cw_open.specs.Machine.{OpenMachine, is_running, live}
use Rattle.cw_open.specs.Steps.{Met, Step, forks, begins, accesses, refuses, outputs, cancels, commits, undoes, aborts, finishes, joins, stops, after_open_step}
use Rattle.cw_open.specs.Runs.{IsMet, Allowed, at_any_time}
use Rattle.cw_open.specs.Times.{times_after, ClosedLater, IsMetInTime}
use Rattle.cw_open.specs.Refused.{IsNewest}
use Rattle.cw_open.specs.Hands.{is_step_of, brought, NoneConflictsMore, MetStays, NewestStay, MetInTimeStays, ConflictsAreTold}
use Rattle.cw_open.proofs.Open.Staying.{above_stays, ancestor_stays, parallel_stays}
use Rattle.cw_open.proofs.Open.Standing.{stands}
use Rattle.cw_open.proofs.Open.Trees.{IsWell}
use Rattle.cw_open.proofs.Laws.Named.{access_named}
use Rattle.cw_open.proofs.Refused.OnwardSteps.{times_same, times_shut}
use Rattle.cw_open.proofs.Refused.Told.{met_where}
use Rattle.cw_open.proofs.Refused.Victims.{IsToldState, told_states, told_state_after, over_place}
use Rattle.cw_open.proofs.Runs.States.{states}
use Rattle.cw_open.proofs.Times.Ahead.{newest_told}
use Rattle.cw_open.proofs.Hands.Beside.{IsBeside, beside}
use Rattle.cw_open.proofs.Hands.Alone.{place_stays}
use Rattle.cw_open.proofs.Hands.Drawn.{was_before}

-- ## No step makes a conflict

none_more : (m : OpenMachine) → IsRooted m.tree → (e : Step) (u p : ℕ) → u < length m.tree → p < length m.tree → conflict_at m.tree u p ≡ false → conflict_at (after_open_step m e).tree u p ≡ false
none_more m r (forks s stamp) u p hu hp none = conflicts_grow m.tree _ u p r hu hp ∙ none
none_more m r (begins s stamp) u p hu hp none = conflicts_grow m.tree _ u p r hu hp ∙ none
none_more m r (accesses s c w stamp) u p hu hp none = conflicts_grow m.tree _ u p r hu hp ∙ none
none_more m r (refuses s c w met) u p hu hp none = conflicts_grow m.tree _ u p r hu hp ∙ none
none_more m r (outputs s v stamp) u p hu hp none = conflicts_grow m.tree _ u p r hu hp ∙ none
none_more m r (cancels s stamp) u p hu hp none = conflicts_grow m.tree _ u p r hu hp ∙ none
none_more m r (commits s stamp) u p hu hp none = conflicts_close m.tree u p (place m.tree s) _ stamp r hu hp refl none
none_more m r (undoes s c) u p hu hp none = none
none_more m r (aborts s stamp) u p hu hp none = conflicts_close m.tree u p (place m.tree s) _ stamp r hu hp refl none
none_more m r (finishes s dead) u p hu hp none = none
none_more m r (joins f) u p hu hp none = none
none_more m r (stops s) u p hu hp none = none

pub none_conflicts_more : NoneConflictsMore
none_conflicts_more asked first m reached e a u p hu hp none = none_more m (states (at_any_time asked) first m reached).well.sound.tree.rooted e u p hu hp none

-- ## What was met stays

module _ (asked : List Node → List ℕ → Option ℤ → List ℕ) (first : List ℤ) (m : OpenMachine) (w : IsToldState first m) (e : Step)
    (a : Allowed (at_any_time asked) m e) (s : ℕ) (running : is_running m s ≡ true) (o : is_step_of s e ≡ false) where
  abbrev t : List Node
  t = m.tree

  abbrev k : OpenMachine
  k = after_open_step m e

  abbrev u : List Node
  u = k.tree

  abbrev p : ℕ
  p = place t s

  b : IsBeside t u s p (brought e)
  b = beside first m w s running (at_any_time asked) e o a

  low : p < length t
  low = (stands m w.state.well.sound.tree w.state.well.nested s running).there

  same : place u s ≡ p
  same = place_stays t u s p (brought e) b

  later : IsWell k
  later = (told_state_after (at_any_time asked) first m e w a).state.well

  there : (c n : ℕ) → touches t c n ≡ true → n < length t
  there c = node_there (λ y. touches_kind c y.kind) t

  met_then : (c : ℕ) (met : Met) → IsMet t p c met → IsMet u (place u s) c met
  met_then c met z =
      let x = access_at t met.last in
      let (touched, stamped) = z.last in
      let h : x < length t = there c x touched in
      let touched_then : touches u c x ≡ true = b.touched c x h ∙ touched in
      let stamped_then : stamp_of u x ≡ met.last = b.stays.stamps x h ∙ stamped in
      let one : access_at u met.last ≡ x = ap (access_at u) (sym stamped_then) ∙ access_named u later.sound.stamps c x touched_then in
      let (d, over, block) = z.block in
      let y = and_parts (is_block t d && is_above t d x) (not (is_ancestor t d p)) over in
      let is = (and_parts (is_block t d) (is_above t d x) y.0).0 in
      let high : d < length t = node_there (λ y. is_block_kind y.kind) t d is in
      record {
        last = (ap (touches u c) one ∙ touched_then, ap (stamp_of u) one ∙ stamped_then);
        parallel = ap (λ n. parallel u n (place u s)) one ∙ ap (parallel u x) same ∙ parallel_stays t u b.stays x p h low ∙ z.parallel;
        block = (
          d,
          ap (λ n. is_block u d && is_above u d n && not (is_ancestor u d (place u s))) one
              ∙ ap (λ n. is_block u d && is_above u d x && not (is_ancestor u d n)) same
              ∙ ap (λ q. q && is_above u d x && not (is_ancestor u d p)) (b.stays.blocks d high)
              ∙ ap (λ q. is_block t d && q && not (is_ancestor u d p)) (above_stays t u b.stays d x h)
              ∙ ap (λ q. is_block t d && is_above t d x && not q) (ancestor_stays t u b.stays d p low)
              ∙ over,
          b.stays.stamps d high ∙ block,
        );
      }

  newest_then : (c : ℕ) (met : Met) → IsNewest t c met → IsNewest u c met
  newest_then c met z = record {
    len = z.len;
    rises = z.rises;
    accesses = All-weaker (HasAccess t c) (HasAccess u c) (λ y (n, touched, stamped). let h = there c n touched in (n, b.touched c n h ∙ touched, b.stays.stamps n h ∙ stamped)) met.chain z.accesses;
    last = z.last;
  }

  -- a block around the place is as it was
  around : (d : ℕ) → (is_block u d && is_ancestor u d p) ≡ true → (d < length t) × ((is_block t d && is_ancestor t d p) ≡ true)
  around d e =
      let z = and_parts (is_block u d) (is_ancestor u d p) e in
      let le : d ≤ p = ancestor_le u b.rooted d p (let l = b.stays.longer in let h = low in omega arith) z.1 in
      let h : d < length t = (let g = low in omega arith) in
      (h, and_from (is_block t d) (is_ancestor t d p) (sym (b.stays.blocks d h) ∙ z.0) (sym (ancestor_stays t u b.stays d p low) ∙ z.1))

  closed_then : (times : ℕ → ℕ) (d : ℕ) → d < length t → is_pending t d ≡ false → is_pending u d ≡ false → ClosedLater times t p d → ClosedLater (times_after times m e) u p d
  closed_then times d h was now z =
      let at : times_after times m e d ≡ times d = times_same times m e d h (was ∙ sym now) in
      record {
        before = λ n l q.
            (let x = was_before t u s p (brought e) b low (over_place first m w s running) n l q in
            let y = z.before n x.there x.before in (omega (arith, y.0, at, b.stays.stamps n x.there), omega (arith, y.1, at, x.end)));
        around = λ c q. (let x = around c q in let y = z.around c x.1 in omega (arith, y, at, b.stays.stamps c x.0));
      }

  closed_now : (times : ℕ → ℕ) (d : ℕ) → is_pending t d ≡ true → is_pending u d ≡ false → ClosedLater (times_after times m e) u p d
  closed_now times d was now =
      let at : times_after times m e d ≡ k.clock = times_shut times m e d was now in
      record {
        before = λ n l q. (let y = later.clock n l in (omega (arith, y.0, at), omega (arith, y.1, at)));
        around = λ c q. (let y = later.clock c (node_there (λ y. is_block_kind y.kind) u c (and_parts (is_block u c) (is_ancestor u c p) q).0) in omega (arith, y.0, at));
      }

  in_time_then : (times : ℕ → ℕ) (met : Met) → IsMetInTime times t p met → IsMetInTime (times_after times m e) u (place u s) met
  in_time_then times met (d, is, stamped, when) =
      let h : d < length t = node_there (λ y. is_block_kind y.kind) t d is in
      let P : ℕ → Type 0 = λ n. (is_pending u d ≡ true) ⊎ ClosedLater (times_after times m e) u n d in (
        d,
        b.stays.blocks d h ∙ is,
        b.stays.stamps d h ∙ stamped,
        subst P (sym same) (elim (cases_Bool (is_pending u d)) [
          | inl still ↦ inl still
          | inr now ↦ inr (elim (cases_Bool (is_pending t d)) [
            | inl was ↦ closed_now times d was now
            | inr was ↦ elim when [ inl q ↦ absurd (cc (q, was)) | inr z ↦ closed_then times d h was now z ]
          ])
        ]),
      )

pub met_stays : MetStays
met_stays asked first m reached e a s running o = met_then asked first m (told_states (at_any_time asked) first m reached) e a s running o

pub newest_stay : NewestStay
newest_stay asked first m reached e a s running o = newest_then asked first m (told_states (at_any_time asked) first m reached) e a s running o

pub met_in_time_stays : MetInTimeStays
met_in_time_stays asked first m reached e a s running o = in_time_then asked first m (told_states (at_any_time asked) first m reached) e a s running o

-- ## What is met now

pub conflicts_are_told : ConflictsAreTold
conflicts_are_told asked first m reached s c met running w =
    let state = states (at_any_time asked) first m reached in
    (met_where first m s c met state running w, newest_told m.tree c (live m c) met (state.listed.rises c) (state.listed.accesses c) w.last w.chain)
