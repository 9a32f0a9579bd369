-- Where left strands go first, what stands to the left of a stamp is older.
use Rattle.std.proofs.Common.{◌≡◌, ℕ, suc, ◌<◌, ◌≤◌, List, [], ◌∷◌, ◌++◌, length, refl, ap, sym, ◌∙◌, subst, arith, true, false, inl, inr}
use Rattle.std.specs.Prelude.{◌&&◌, ◌||◌, nat_lt, ℤ}
use Rattle.std.specs.List.{list_all}
use Rattle.std.proofs.lemmas.Bool.{and_parts, or_left, lt-ltb, not-true, false_from_ne_true, true_from_ne_false}
use Rattle.cw_tree.specs.declared.node.Node.{Node}
use Rattle.cw_tree.specs.declared.node.Kind.TheVariants.{Strand, Fork, Block, Out, Cancel, Tried}
use Rattle.cw_tree.specs.declared.node.BlockState.TheVariants.{Committed, Aborted}
use Rattle.cw_tree.specs.Nodes.{parent_of, stamp_of, end_of, is_strand, is_fork, is_pending, is_tried, fresh_node}
use Rattle.cw_tree.specs.Walks.{IsRooted, is_ancestor}
use Rattle.cw_tree.specs.Series.{place}
use Rattle.cw_tree.specs.AccessStacks.{access_kind}
use Rattle.cw_tree.specs.NextNodes.{fork_nodes}
use Rattle.cw_tree.proofs.Lists.{In}
use Rattle.cw_tree.proofs.Rising.{Rises}
use Rattle.cw_tree.proofs.InOrder.DepthFirst.{child_is, children_rise}
use Rattle.cw_tree.proofs.NextNodes.Growing.{length_more}
use Rattle.cw_tree.proofs.NextNodes.Trees.{hung_one, hung_two, in_turn, no_fork}
use Rattle.cw_tree.proofs.Walks.Ancestors.{ancestor_le}
use Rattle.cw_tree.proofs.Walks.There.{strand_there}
use Rattle.cw_tree.proofs.Walks.Kin.{branch, fork_child}
use Rattle.cw_open.specs.Machine.{OpenMachine, live_value, has_finished, in_block, is_running, is_free, rolls_back}
use Rattle.cw_open.specs.Open.{is_open}
use Rattle.cw_open.specs.Steps.{Step, forks, begins, accesses, refuses, outputs, cancels, commits, undoes, aborts, finishes, joins, stops, puts_back, after_open_step, after_all, first_machine}
use Rattle.cw_open.specs.Runs.{Rules, Allowed, IsRun, at_any_time}
use Rattle.cw_open.specs.Times.{IsAhead, AreAhead}
use Rattle.cw_open.specs.LeftFirst.{makers, lefts_have_finished, go_left_first, IsLeftOf, LeftFirstAreOlder, LeftFirstHaveFinished}
use Rattle.cw_open.proofs.Open.Standing.{open_over, pending_open, place_open}
use Rattle.cw_open.proofs.Open.Trees.{IsWell, stands_well}
use Rattle.cw_open.proofs.Open.TreeSteps.{free_runs, rolls_runs, well_after}
use Rattle.cw_open.proofs.Runs.States.{state_opening}
use Rattle.cw_open.proofs.LeftFirst.Sides.{RightsWait}
use Rattle.cw_open.proofs.LeftFirst.Meeting.{open_strand, strand_open, left_over}
use Rattle.cw_open.proofs.LeftFirst.Unrefused.{waits_after, waits_opening}
use Rattle.cw_open.proofs.LeftFirst.Older.{AreSides, Older, NoneRight, older_more, none_down, none_kept, older_closed}

module _ (m : OpenMachine) (w : IsWell m) (waits : RightsWait m.tree (has_finished m)) where
  abbrev t : List Node
  t = m.tree

  rooted : IsRooted t
  rooted = w.sound.tree.rooted

  -- where something has a stamp in a right strand, nothing is open in the left one
  left_shut : (l r k n : ℕ) → AreSides t l r → k < length t → n < length t → is_ancestor t l k ≡ true → is_ancestor t r n ≡ true → 0 < stamp_of t n → is_open m k ≡ true → ⊥
  left_shut l r k n z hk hn over_k over_n pos opened =
      let less = z.less in
      let some = z.some in
      let there = z.there in
      let right : is_strand t r ≡ true = fork_child t w.sound.tree r (omega arith) there z.fork in
      let left : is_strand t l ≡ true = fork_child t w.sound.tree l some (omega arith) (ap (is_fork t) z.same ∙ z.fork) in
      let other : n ≡ r → ⊥ = λ e. (let s = sym (w.sound.stamps.there n hn) ∙ lt-ltb 0 (stamp_of t n) pos in absurd (cc (not-true (is_strand t n || is_tried t n) s, or_left (is_strand t n) (is_tried t n) (ap (is_strand t) e ∙ right)))) in
      let c = branch t rooted r n hn other over_n in
      let le : c.child ≤ n = ancestor_le t rooted c.child n hn c.over in
      let done : has_finished m l ≡ true = waits c.child c.some (omega arith) l some (omega (arith, c.parent)) (z.same ∙ ap (parent_of t) (sym c.parent)) (ap (λ q. is_fork t (parent_of t q)) c.parent ∙ z.fork) in
      absurd (cc (done, open_strand m l left (open_over m w.sound.tree w.nested l k hk over_k opened)))

  -- the place of a running strand is to the left of no stamp
  module _ (s : ℕ) (running : is_running m s ≡ true) (old : Older t) where
    abbrev p : ℕ
    p = place t s

    there : p < length t
    there = (stands_well m w s running).there

    none_here : NoneRight t p
    none_here l r n z over hn over_n pos = left_shut l r p n z there hn over over_n pos (place_open m w.sound.tree w.nested s running)

    later : (stamp : ℕ) → m.clock < stamp → (k : ℕ) → k < length t → 0 < stamp → (stamp_of t k < stamp) × (end_of t k < stamp)
    later stamp ahead k h pos = let c = w.clock k h in (omega (arith, c.0), omega (arith, c.1))

    no_fork_here : is_fork t p ≡ false
    no_fork_here = no_fork t p (stands_well m w s running).holds

    none_stamped : (v : List Node) → (k : ℕ) → k < length v → 0 < 0 → (stamp_of v k < 0) × (end_of v k < 0)
    none_stamped v k h pos = absurd (omega arith)

    older_grows : (x : Node) → x.parent ≡ p → (0 < x.stamp → m.clock < x.stamp) → Older (t ++ x ∷ [])
    older_grows x up ahead =
        let P : ℕ → Type 0 = λ q. NoneRight t q in
        older_more t rooted x (let h = there in omega (arith, up)) (λ k h pos. later x.stamp (ahead pos) k h pos) (subst P (sym up) none_here) (λ f. absurd (cc (f, ap (is_fork t) up, no_fork_here))) old

    older_forks : (stamp : ℕ) → m.clock < stamp → Older (t ++ fork_nodes (length t) p stamp)
    older_forks stamp ahead =
        let n = length t in
        let at = stands_well m w s running in
        let a = fresh_node p Fork stamp in
        let b = fresh_node n Strand 0 in
        let one = t ++ a ∷ [] in
        let two = one ++ b ∷ [] in
        let r_one = (hung_one t p stamp w.sound.tree at.there at.holds).rooted in
        let r_two = (hung_two t p stamp w.sound.tree at.there at.holds).rooted in
        let len : length one ≡ suc n = length_more t a in
        let more : length two ≡ suc (length one) = length_more one b in
        let free_one : NoneRight one n = none_down t rooted a at.there none_here in
        let free_two : NoneRight two n = none_kept one r_one b (omega arith) refl n (omega arith) free_one in
        let in_one : Older one = older_grows a refl (λ pos. ahead) in
        let in_two : Older two = older_more one r_one b (omega arith) (none_stamped one) free_one (λ f. refl) in_one in
        let P : List Node → Type 0 = λ u. Older u in
        subst P (sym (in_turn t p stamp w.sound.tree at.there at.holds)) (older_more two r_two b (omega arith) (none_stamped two) free_two (λ f. refl) in_two)

  older_after : (r : Rules) (e : Step) → Allowed r m e → IsAhead m e → Older t → Older (after_open_step m e).tree
  older_after r (forks s stamp) a ahead old = older_forks s (free_runs m s a.0) old stamp ahead
  older_after r (begins s stamp) a ahead old = older_grows s (free_runs m s a.0) old (fresh_node (place t s) Block stamp) refl (λ pos. ahead)
  older_after r (accesses s c write stamp) a ahead old =
      let z = and_parts (is_free m s && nat_lt c (length m.lists)) _ a.0 in
      let free = (and_parts (is_free m s) (nat_lt c (length m.lists)) z.0).0 in
      older_grows s (free_runs m s free) old (fresh_node (place t s) (access_kind c write (live_value m c)) stamp) refl (λ pos. ahead)
  older_after r (refuses s c write met) a ahead old =
      let free = (and_parts (is_free m s) (nat_lt c (length m.lists)) a.0).0 in
      older_grows s (free_runs m s free) old (fresh_node (place t s) (Tried c) 0) refl (λ pos. absurd (omega arith))
  older_after r (outputs s v stamp) a ahead old = older_grows s (free_runs m s a.0) old (fresh_node (place t s) (Out v) stamp) refl (λ pos. ahead)
  older_after r (cancels s stamp) a ahead old = older_grows s (free_runs m s (and_parts (is_free m s) (in_block m s) a.0).0) old (fresh_node (place t s) (Cancel (puts_back m s stamp)) stamp) refl (λ pos. ahead)
  older_after r (commits s stamp) a ahead old =
      let z = and_parts (is_free m s && in_block m s) _ a.0 in
      let running = free_runs m s (and_parts (is_free m s) (in_block m s) z.0).0 in
      older_closed t rooted (place t s) Committed stamp (none_here s running old) old
  older_after r (undoes s c) a ahead old = old
  older_after r (aborts s stamp) a ahead old =
      let running = (rolls_runs m s (and_parts (rolls_back m s) _ a.0).0).running in
      older_closed t rooted (place t s) Aborted stamp (none_here s running old) old
  older_after r (finishes s dead) a ahead old = old
  older_after r (joins f) a ahead old = old
  older_after r (stops s) a ahead old = old

-- ## Each state of such a run

-- right strands wait
record GoesLeft (m : OpenMachine) : Type 0 where
  well : IsWell m
  waits : RightsWait m.tree (has_finished m)

begins_left : (first : List ℤ) → GoesLeft (first_machine first)
begins_left first = record { well = (state_opening first).well; waits = waits_opening first }

left_step : (r : Rules) (m : OpenMachine) (e : Step) → GoesLeft m → Allowed r m e → list_all (lefts_have_finished m) (makers e) ≡ true → GoesLeft (after_open_step m e)
left_step r m e u a first = record { well = well_after r m e u.well a; waits = waits_after m u.well u.waits r e a first }

left_run : (r : Rules) (m : OpenMachine) (es : List Step) → GoesLeft m → IsRun r m es → go_left_first m es ≡ true → GoesLeft (after_all m es)
left_run r m [] u run first = u
left_run r m (e ∷ es) u run first =
    let z = and_parts (list_all (lefts_have_finished m) (makers e)) (go_left_first (after_open_step m e) es) first in
    left_run r (after_open_step m e) es (left_step r m e u run.0 z.0) run.1 z.1

older_run : (r : Rules) (m : OpenMachine) (es : List Step) → GoesLeft m → Older m.tree → IsRun r m es → go_left_first m es ≡ true → AreAhead m es → Older (after_all m es).tree
older_run r m [] u old run first ahead = old
older_run r m (e ∷ es) u old run first ahead =
    let z = and_parts (list_all (lefts_have_finished m) (makers e)) (go_left_first (after_open_step m e) es) first in
    older_run r (after_open_step m e) es (left_step r m e u run.0 z.0) (older_after m u.well u.waits r e run.0 ahead.0 old) run.1 z.1 ahead.1

sides_of : (t : List Node) (m n : ℕ) (x : IsLeftOf t m n) → AreSides t x.left x.right
sides_of t m n x =
    let P : List ℕ → Type 0 = λ ns. In x.left ns in
    let Q : List ℕ → Type 0 = λ ns. In x.right ns in
    let R : List ℕ → Type 0 = λ ns. Rises ns in
    let l = child_is t x.fork x.left (subst P (sym x.strands) (inl refl)) in
    let r = child_is t x.fork x.right (subst Q (sym x.strands) (inr (inl refl))) in
    let less = (subst R x.strands (children_rise t x.fork)).0 x.right (inl refl) in
    record { some = l.some; less = less; there = r.there; same = l.parent ∙ sym r.parent; fork = ap (is_fork t) r.parent ∙ x.forks }

pub left_first_older : LeftFirstAreOlder
left_first_older asked first es run go ahead m n hm hn x pos =
    let u = left_run (at_any_time asked) (first_machine first) es (begins_left first) run go in
    let last = after_all (first_machine first) es in
    let z = sides_of last.tree m n x in
    let o = older_run (at_any_time asked) (first_machine first) es (begins_left first) (λ l r m n z. absurd (let less = z.less in let some = z.some in let there = z.there in omega arith)) run go ahead x.left x.right m n z hm hn x.in_left x.in_right pos in
    record {
      came = o.0;
      ended = o.1;
      shut = false_from_ne_true (is_pending last.tree m) (λ e. absurd (left_shut last u.well u.waits x.left x.right m n z hm hn x.in_left x.in_right pos (pending_open last u.well.sound.tree u.well.nested m e)));
    }

pub left_first_finished : LeftFirstHaveFinished
left_first_finished asked first es run go y n is hn x pos =
    let u = left_run (at_any_time asked) (first_machine first) es (begins_left first) run go in
    let last = after_all (first_machine first) es in
    true_from_ne_false (has_finished last y) (λ e.
    absurd (left_shut last u.well u.waits x.left x.right y n (sides_of last.tree y n x) (strand_there last.tree y is) hn x.in_left x.in_right pos (strand_open last y is e)))

-- ## Before a strand to the left of which all has finished

-- each strand to the left of its place has
pub lefts_ended : (m : OpenMachine) → IsWell m → (s : ℕ) → is_running m s ≡ true → lefts_have_finished m s ≡ true → (y : ℕ) → is_strand m.tree y ≡ true → IsLeftOf m.tree y (place m.tree s) → has_finished m y ≡ true
lefts_ended m w s running clear y is x =
    let t = m.tree in
    let z = sides_of t y (place t s) x in
    let less = z.less in
    let some = z.some in
    let there = z.there in
    let left : is_strand t x.left ≡ true = fork_child t w.sound.tree x.left some (omega arith) (ap (is_fork t) z.same ∙ z.fork) in
    let done : has_finished m x.left ≡ true = left_over m w s running clear x.right there x.in_right x.left some less z.same z.fork in
    true_from_ne_false (has_finished m y) (λ e.
    absurd (cc (done, open_strand m x.left left (open_over m w.sound.tree w.nested x.left y (strand_there t y is) x.in_left (strand_open m y is e)))))
