-- In every state that a run leads to the lists of live cancels are right, where an access may conflict with the newest one alone.
use Rattle.std.proofs.Common.{◌≡◌, ℕ, zero, suc, ◌<◌, List, [], ◌∷◌, ◌++◌, length, map, refl, ap, sym, ◌∙◌, subst, arith, Bool, true, inl, inr, nat_lt}
use Rattle.std.specs.Prelude.{◌&&◌, ℤ, pos, max, filter, slice_index_or}
use Rattle.std.proofs.lemmas.Bool.{and_parts, ltb-true}
use Rattle.cw_code.specs.declared.Back.{Back}
use Rattle.cw_tree.specs.declared.node.Node.{Node}
use Rattle.cw_tree.specs.declared.node.Kind.TheVariants.{Block, Out, Tried}
use Rattle.cw_tree.specs.declared.node.BlockState.TheVariants.{Committed, Aborted}
use Rattle.cw_tree.specs.Nodes.{stamp_of, touches, below, fresh_node}
use Rattle.cw_tree.specs.Walks.{is_above}
use Rattle.cw_tree.specs.Series.{place}
use Rattle.cw_tree.specs.Shape.{AreStamps}
use Rattle.cw_tree.specs.Accesses.{live_accesses}
use Rattle.cw_tree.specs.AccessStacks.{access_at}
use Rattle.cw_tree.specs.Cancels.{wrote_in, put_back}
use Rattle.cw_tree.specs.NextNodes.{fork_nodes}
use Rattle.cw_tree.proofs.Lists.{In}
use Rattle.cw_tree.proofs.Members.{in_filter, in_map, map_in}
use Rattle.cw_tree.proofs.Cancels.{live_is, left_before, wrote_tells, backs_are}
use Rattle.cw_open.specs.Machine.{OpenMachine, live, in_block, is_free, rolls_back}
use Rattle.cw_open.specs.Steps.{Step, forks, begins, accesses, refuses, outputs, cancels, commits, undoes, aborts, finishes, joins, stops, refusal, after_open_step, first_machine}
use Rattle.cw_open.specs.Runs.{Allowed, IsReachedBy}
use Rattle.cw_open.specs.Laws.{NoneUndone, CancelsAreRight}
use Rattle.cw_open.proofs.Open.TreeSteps.{free_runs, rolls_runs, place_pending}
use Rattle.cw_open.proofs.Laws.Lists.{free_lives}
use Rattle.cw_open.proofs.Laws.Named.{access_named}
use Rattle.cw_open.proofs.Laws.ChainStates.{newest_alone, IsChainState, chained_after, chained_opening}
use Rattle.cw_open.proofs.Laws.Cancelling.{IsListedCancel, AreListedCancels}
use Rattle.cw_open.proofs.Runs.States.{IsState, by_run, state_after, state_opening}
use Rattle.cw_open.proofs.Runs.LawsHold.{same_list}
use Rattle.cw_open.proofs.Laws.CancelSteps.{is_cancel, quiet_cancels, access_cancels, told_cancels, closed_cancels, dead_apart, undone_cancels}

module _ (first : List ℤ) (m : OpenMachine) (s : IsChainState first m) (h : AreListedCancels m) where
  -- ## Each step

  pub cancels_after : (e : Step) → Allowed newest_alone m e → IsState first (after_open_step m e) → AreListedCancels (after_open_step m e)
  cancels_after (forks y stamp) a z =
      quiet_cancels first m s h (fork_nodes (length m.tree) (place m.tree y) stamp) m.lists
      (max m.clock stamp) m.conflicts m.finished m.joined m.stopped z.well.sound.stamps (λ c. refl) refl refl
  cancels_after (begins y stamp) a z =
      quiet_cancels first m s h (fresh_node (place m.tree y) Block stamp ∷ []) m.lists
      (max m.clock stamp) m.conflicts m.finished m.joined m.stopped z.well.sound.stamps (λ c. refl) refl refl
  cancels_after (accesses y c write stamp) a z =
      let k = and_parts (is_free m y && nat_lt c (length m.lists)) _ a.0 in
      let q = and_parts (is_free m y) (nat_lt c (length m.lists)) k.0 in
      access_cancels first m s h y (free_runs m y q.0) c write stamp (ltb-true c (length m.lists) q.1) a.1 z.well.sound.stamps
  cancels_after (refuses y c write met) a z =
      quiet_cancels first m s h (fresh_node (place m.tree y) (Tried c) 0 ∷ []) m.lists m.clock
      (m.conflicts ++ refusal m (place m.tree y) c met ∷ []) m.finished m.joined m.stopped z.well.sound.stamps (λ d. refl) refl refl
  cancels_after (outputs y v stamp) a z =
      quiet_cancels first m s h (fresh_node (place m.tree y) (Out v) stamp ∷ []) m.lists
      (max m.clock stamp) m.conflicts m.finished m.joined m.stopped z.well.sound.stamps (λ c. refl) refl refl
  cancels_after (cancels y stamp) a z =
      let q = and_parts (is_free m y) (in_block m y) a.0 in
      told_cancels first m s h y (free_runs m y q.0) (free_lives m y q.0) q.1 stamp z.well.sound.stamps
  cancels_after (commits y stamp) a z =
      let k = and_parts (is_free m y && in_block m y) _ a.0 in
      let q = and_parts (is_free m y) (in_block m y) k.0 in
      closed_cancels first m s h (place m.tree y) (place_pending m s.state.well y (free_runs m y q.0) q.1) Committed stamp
      (max m.clock stamp) z.well.sound.stamps (λ n g x back caught. refl)
  cancels_after (undoes y c) a z =
      let k = and_parts (rolls_back m y) _ a in
      let q = rolls_runs m y k.0 in
      undone_cancels first m s h (place m.tree y) c (place_pending m s.state.well y q.running q.within) (ltb-true c (length m.lists) k.1)
  cancels_after (aborts y stamp) a z =
      let q = rolls_runs m y (and_parts (rolls_back m y) _ a.0).0 in
      let pending = place_pending m s.state.well y q.running q.within in
      closed_cancels first m s h (place m.tree y) pending Aborted stamp (max m.clock stamp) z.well.sound.stamps
      (λ n g x back caught.
      absurd (dead_apart first m s h (place m.tree y) pending Aborted stamp (max m.clock stamp) z.well.sound.stamps refl n g x back caught))
  cancels_after (finishes y dead) a z =
      λ n x back at kind lives. (let old = h n x back at kind lives in record { block = old.block; cells = old.cells; values = old.values })
  cancels_after (joins f) a z =
      λ n x back at kind lives. (let old = h n x back at kind lives in record { block = old.block; cells = old.cells; values = old.values })
  cancels_after (stops y) a z =
      λ n x back at kind lives. (let old = h n x back at kind lives in record { block = old.block; cells = old.cells; values = old.values })

cancels_opening : (first : List ℤ) → AreListedCancels (first_machine first)
cancels_opening first zero x back at kind lives = absurd (cc (is_cancel (first_machine first).tree zero x back at kind))
cancels_opening first (suc n) x back at kind lives = absurd (cc at)

pub record IsCancelState (first : List ℤ) (m : OpenMachine) : Type 0 where
  pub chained : IsChainState first m
  pub cancelled : AreListedCancels m

pub cancel_states : (first : List ℤ) (m : OpenMachine) → IsReachedBy newest_alone first m → IsCancelState first m
cancel_states first =
    by_run newest_alone first (IsCancelState first)
    (record { chained = record { state = state_opening first; chained = chained_opening first }; cancelled = cancels_opening first })
    (λ m e w a.
    let z = state_after newest_alone first m e w.chained.state a in
    record {
      chained = record { state = z; chained = chained_after first m w.chained.state w.chained.chained e a z };
      cancelled = cancels_after first m w.chained w.cancelled e a z;
    })

-- ## The law

-- the nodes of the stamps of accesses
named_back : (t : List Node) → AreStamps t → (c : ℕ) (ns : List ℕ) → ((n : ℕ) → In n ns → touches t c n ≡ true) → map (access_at t) (map (stamp_of t) ns) ≡ ns
named_back t s c [] f = refl
named_back t s c (n ∷ ns) f =
    ap (λ k. k ∷ map (access_at t) (map (stamp_of t) ns)) (access_named t s c n (f n (inl refl))) ∙ ap (λ ks. n ∷ ks) (named_back t s c ns (λ k i. f k (inr i)))

pub all_named : (first : List ℤ) (m : OpenMachine) → IsState first m → NoneUndone m → (c : ℕ) → map (access_at m.tree) (live m c) ≡ live_accesses m.tree c
all_named first m s none c =
    ap (map (access_at m.tree)) (same_list first m s none c)
    ∙ named_back m.tree s.well.sound.stamps c (live_accesses m.tree c) (λ n i. (live_is m.tree c n i).0)

module _ (first : List ℤ) (m : OpenMachine) (s : IsState first m) (none : NoneUndone m) (x : Node) (back : List Back) (h : IsListedCancel m x back) where
  abbrev t : List Node
  t = m.tree

  abbrev value : ℕ → ℤ
  value c = left_before t (slice_index_or m.first c (pos 0)) x.parent (live_accesses t c)

  abbrev wrote : ℕ → Bool
  wrote c = wrote_in t x.parent x.stamp (live_accesses t c)

  -- a cell that the block wrote has what it did in its list
  record IsThere (c : ℕ) : Type 0 where
    stamp : ℕ
    member : In stamp (live m c)
    over : is_above t x.parent (access_at t stamp) ≡ true
    earlier : stamp < x.stamp

  is_there : (c : ℕ) → wrote c ≡ true → IsThere c
  is_there c e =
      let (n, w) = wrote_tells t x.parent x.stamp (live_accesses t c) e in
      let P : List ℕ → Type 0 = λ ns. In n ns in
      let (v, j, same) = in_map (access_at t) n (live m c) (subst P (sym (all_named first m s none c)) w.member) in
      let a = s.listed.accesses c v j in
      let at : n ≡ a.0 = same ∙ ap (access_at t) (sym a.2) ∙ access_named t s.well.sound.stamps c a.0 a.1 in
      let less = w.earlier in
      record { stamp = v; member = j; over = ap (is_above t x.parent) (sym same) ∙ w.over; earlier = omega (arith, less, ap (stamp_of t) at, a.2) }

  right_value : (e : Back) → In e back → e.value ≡ value e.cell
  right_value e i =
      let P : List ℕ → Type 0 = λ cs. In e.cell cs in
      let w = is_there e.cell (in_filter wrote e.cell (below (length m.first)) (subst P h.cells (map_in (λ (b : Back). b.cell) e back i))).1 in
      h.values e w.stamp i w.member w.over w.earlier ∙ ap (left_before t (slice_index_or m.first e.cell (pos 0)) x.parent) (all_named first m s none e.cell)

  right_list : back ≡ put_back t first (live_accesses t) x.parent x.stamp
  right_list =
      let P : List ℤ → Type 0 = λ vs. back ≡ put_back t vs (live_accesses t) x.parent x.stamp in
      subst P s.values (backs_are value back (filter wrote (below (length m.first))) h.cells right_value)

pub cancels_right : CancelsAreRight
cancels_right first m reached none n x back at kind lives =
    let w = cancel_states first m reached in
    let h = w.cancelled n x back at kind lives in
    record { block = h.block; list = right_list first m w.chained.state none x back h }
