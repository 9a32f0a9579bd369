-- The states that one worker knows where it stops make those of a coherent record: at its end, and at a fault, where right strands that never
-- started stand in the tree, too.
use Rattle.std.proofs.Common.{◌≡◌, ◌≢◌, ℕ, ◌<◌, ◌≤◌, List, [], ◌∷◌, length, refl, ap, sym, ◌∙◌, subst, arith, Bool, true, false, inl, inr, Option, Some, None, nat_lt, nat_eq, map, append-nil}
use Rattle.std.specs.Prelude.{◌&&◌, ◌||◌, not, All}
use Rattle.std.proofs.lemmas.Bool.{and_parts, and_from, or_cases, or_right, cases_eq, cases_lt, not-true, ltb-true, lt-ltb, eqb-true, false_from_ne_true}
use Rattle.std.proofs.lemmas.List.Elements.{All-head, All-tail}
use Rattle.cw_strand.specs.Strands.{Strands, is_over}
use Rattle.cw_tree.specs.declared.node.Node.{Node}
use Rattle.cw_tree.specs.declared.node.Kind.TheVariants.{Strand}
use Rattle.cw_tree.specs.Nodes.{parent_of, is_strand, is_fork, is_block, is_fork_kind, is_strand_kind, is_block_kind, is_committed, is_committed_state, is_pending, fresh_node}
use Rattle.cw_tree.specs.Walks.{IsRooted, is_ancestor}
use Rattle.cw_tree.specs.Series.{children, has_later}
use Rattle.cw_tree.specs.Shape.{IsTree, NonePending}
use Rattle.cw_tree.specs.Links.{is_child, last_child}
use Rattle.cw_tree.proofs.Walks.Ancestors.{ancestor_self, ancestor_root, ancestor_step, ancestor_up, ancestor_le, ancestor_past, ancestor_trans}
use Rattle.cw_tree.proofs.NextNodes.Growing.{length_more, node_grown, node_new, number_grown, ancestor_grown, rooted_more}
use Rattle.cw_tree.proofs.Lists.{any_in}
use Rattle.cw_tree.proofs.Members.{in_below, in_filter}
use Rattle.cw_tree.proofs.Walks.There.{node_there}
use Rattle.cw_tree.proofs.Walks.Children.{last_passes}
use Rattle.cw_tree.proofs.NextNodes.Trees.{no_fork}
use Rattle.cw_tree.proofs.NodeKinds.{pending_block, fork_some, fork_no_block, fork_no_strand, committed_block, strand_no_block, strand_no_fork}
use Rattle.cw_job.specs.Room.Strands.{StrandState}
use Rattle.cw_record.specs.declared.worker.Branch.{Branch}
use Rattle.cw_record.specs.Drawn.{added}
use Rattle.cw_record.specs.Coherent.{Follows, StrandEnded, HasNoOpenFork}
use Rattle.cw_record.specs.Records.{BlocksAround}
use Rattle.cw_record.proofs.Coherent.AddedStates.{StartsAt, with_node, node_keeps, starts_left, starts_right, states_more, parent_new, is_new}
use Rattle.cw_record.proofs.OneWorker.Behind.{Over, over_lower}
use Rattle.cw_record.proofs.OneWorker.Building.{IsBuilt}
use Rattle.cw_record.proofs.Coherent.KeptStates.{reached_same}
use Rattle.cw_record.proofs.OneWorker.KnownStates.{Knows, Moves, over_old, joins_kept}
use Rattle.cw_record.proofs.Members.{pending_no_member}
use Rattle.cw_record.proofs.OneWorker.Shaped.{IsShaped, tree_of_shape}
use Rattle.cw_record.proofs.Coherent.States.{States, reached, AreStates, AreShut, IsOver, JoinsAt, all_follow, strand_ended, fork_joined}
use Rattle.cw_record.proofs.OneWorker.StepStates.{undone_way}
use Rattle.cw_record.proofs.OneWorker.Unstarted.{with_strands}
use Rattle.cw_record.proofs.OneWorker.Waiting.{one_unstarted}
use Rattle.cw_record.specs.Items.{is_act}

-- where all blocks but those around the root are committed, none is pending
pub none_pending : (t : List Node) → is_strand t 0 ≡ true → BlocksAround t 0 → NonePending t
none_pending t root b n l =
    false_from_ne_true (is_pending t n) (λ e.
    let block = pending_block t n e in
    let done = b.committed n block (λ over. (let P : ℕ → Type 0 = λ i. is_block t i ≡ true in absurd (let yes = subst P (ancestor_root t n over) block in let no = (strand_no_block t 0 root) in cc (no, yes)))) in
    absurd (let no = pending_no_member t n e in let yes = or_right (is_act t n) (is_committed t n) done in cc (no, yes)))

module _ (s : Strands StrandState) where
  -- ## The end of main

  module _ (t : List Node) (tree : IsTree t) (xs : List Branch) (a : StrandState) (x : States StrandState) (k : Knows s t 0 xs a x) (over : is_over (s.want a) ≡ true) where
    off_root : (n : ℕ) → n ≢ 0 → is_ancestor t n 0 ≡ false
    off_root n ne = false_from_ne_true (is_ancestor t n 0) (λ e. absurd (ne (ancestor_root t n e)))

    over_all : (n : ℕ) → n < length t → is_strand t n ≡ true → IsOver s t x n
    over_all n l strand =
        elim (cases_eq n 0) [
          | inl q ↦ (let P : ℕ → Type 0 = λ i. IsOver s t x i in subst P (sym q) (ap (λ c. is_over (s.want c)) k.here ∙ over))
          | inr ne ↦ k.over n l strand (off_root n ne)
        ]

    shut_all : AreShut s t x (λ n. true)
    shut_all = record {
      beneath = λ n m e some low up. refl;
      over = λ n l strand e. over_all n l strand;
      joins = λ f l fork e.
          k.joins f l fork (off_root f (λ q. (let P : ℕ → Type 0 = λ i. is_fork t i ≡ true in absurd (let no = (strand_no_fork t 0 tree.root) in let yes = subst P q fork in cc (no, yes)))));
    }

    pub finished_follows : Follows s t x.before x.after (reached s t x)
    finished_follows = all_follow s t x tree (λ n. true) shut_all k.states (λ f l e. refl)

    pub finished_ended : (n : ℕ) → n < length t → is_strand t n ≡ true → StrandEnded s t x.before x.after (reached s t x) n
    finished_ended n l strand = strand_ended s t x tree (λ m. true) shut_all n l strand refl

  -- ## A fault

  -- The states of tree u, which has strands that never started behind the nodes of tree t.
  record Stopped (t : List Node) (p : ℕ) (a : StrandState) (u : List Node) (y : States StrandState) : Type 0 where
    rooted : IsRooted u
    longer : length t ≤ length u
    states : AreStates s u y
    here : reached s u y p ≡ a
    over : (n : ℕ) → n < length t → is_strand u n ≡ true → is_ancestor u n p ≡ false → IsOver s u y n
    joins : (f : ℕ) → f < length t → is_fork u f ≡ true → is_ancestor u f p ≡ false → JoinsAt s u y f
    fresh : (n : ℕ) → length t ≤ n → n < length u → (is_strand u n ≡ true) × (is_ancestor u (parent_of u n) p ≡ true)

  -- the forks are on the way to p
  abbrev AreOn : List Node → ℕ → List ℕ → Type 0
  AreOn u p [] = Unit {0}
  AreOn u p (f ∷ fs) = ((is_ancestor u f p ≡ true) × (is_fork u f ≡ true)) × AreOn u p fs

  are_on : (u : List Node) → IsRooted u → (p : ℕ) → p < length u → (fs : List ℕ) → Over u p fs → All (λ f. is_fork u f ≡ true) fs → AreOn u p fs
  are_on u r p h [] o all = tt
  are_on u r p h (f ∷ fs) o all = ((o.0, All-head (λ n. is_fork u n ≡ true) f fs all), are_on u r p h fs (over_lower u r f p fs h o.0 o.1) (All-tail (λ n. is_fork u n ≡ true) f fs all))

  module _ (t : List Node) (p : ℕ) (there : p < length t) (a : StrandState) where
    module _ (u : List Node) (y : States StrandState) (h : Stopped t p a u y) (f : ℕ) (on : is_ancestor u f p ≡ true) (fork : is_fork u f ≡ true) (apart : p ≢ f) where
      low : f < length u
      low = node_there (λ w. is_fork_kind w.kind) u f fork

      p_low : p < length u
      p_low = let longer = h.longer in omega arith

      abbrev v : List Node
      v = added u f Strand 0

      undone : is_committed u f ≡ false
      undone = false_from_ne_true (is_committed u f) (λ e. absurd (let yes = committed_block u f e in let no = fork_no_block u f fork in cc (no, yes)))

      start : (c : StrandState) × StartsAt s u h.rooted y f low Strand 0 c c
      start = by (last_child u f) refl where
        by : (o : Option ℕ) → last_child u f ≡ o → (c : StrandState) × StartsAt s u h.rooted y f low Strand 0 c c
        by None e = (s.left (y.before f), starts_left s u h.rooted y f low Strand 0 (s.left (y.before f)) (s.left (y.before f)) fork e refl)
        by (Some m) e = (s.right (y.before f), starts_right s u h.rooted y f low Strand 0 (s.right (y.before f)) (s.right (y.before f)) m fork e refl)

      abbrev z : States StrandState
      z = with_node s u h.rooted y f low Strand 0 start.0 start.0

      same_over : (n : ℕ) → is_ancestor v n p ≡ is_ancestor u n p
      same_over n = ancestor_grown u (fresh_node f Strand 0 ∷ []) h.rooted n p p_low

      moves : Moves s u v p p f
      moves = record {
        rooted = rooted_more u (fresh_node f Strand 0) h.rooted low;
        there = let len = length_more u (fresh_node f Strand 0) in let l = p_low in omega arith;
        on = same_over f ∙ on;
        strands = node_grown u (fresh_node f Strand 0 ∷ []) (λ w. is_strand_kind w.kind);
        away = λ n l e. sym (same_over n) ∙ e;
        parents = parent_new s u h.rooted y f low Strand 0 start.0 start.0;
      }

      fresh_more : (n : ℕ) → length t ≤ n → n < length v → (is_strand v n ≡ true) × (is_ancestor v (parent_of v n) p ≡ true)
      fresh_more n le l =
          elim (cases_lt n (length u)) [
            | inl old ↦ (
                let w = h.fresh n le old in
                (moves.strands n old ∙ w.0, ap (λ i. is_ancestor v i p) (number_grown u (fresh_node f Strand 0 ∷ []) (λ z. z.parent) n old) ∙ (same_over (parent_of u n) ∙ w.1)))
            | inr past ↦ (
              ap (is_strand v) (is_new s u h.rooted y f low Strand 0 start.0 start.0 n past l) ∙ node_new u (fresh_node f Strand 0) (λ w. is_strand_kind w.kind),
              ap (λ i. is_ancestor v i p) (parent_new s u h.rooted y f low Strand 0 start.0 start.0 n past l) ∙ (same_over f ∙ on),
            )
          ]

      stopped_more : Stopped t p a v z
      stopped_more =
          let keeps = node_keeps s u h.rooted y f low Strand 0 start.0 start.0 in
          let longer = h.longer in
          record {
            rooted = moves.rooted;
            longer = let len = length_more u (fresh_node f Strand 0) in omega arith;
            states = states_more s u h.rooted y f low Strand 0 start.0 start.0 h.states undone start.1 tt;
            here = reached_same s u v y z (length u) f keeps p (keeps.touched p p_low apart) ∙ h.here;
            over = λ n l strand off. over_old s u v y z (length u) f keeps p p moves n (omega arith) off (h.over n l (sym (moves.strands n (omega arith)) ∙ strand) (sym (same_over n) ∙ off));
            joins = λ g l forks off.
                joins_kept s u v y z (length u) f keeps p p moves g (omega arith) off (omega arith) (h.joins g l (sym (keeps.forks g (omega arith)) ∙ forks) (sym (same_over g) ∙ off));
            fresh = fresh_more;
          }

    on_more : (u : List Node) → IsRooted u → p < length u → (f : ℕ) → (fs : List ℕ) → AreOn u p fs → AreOn (added u f Strand 0) p fs
    on_more u r l f [] o = tt
    on_more u r l f (g ∷ fs) o = (
      (
        ancestor_grown u (fresh_node f Strand 0 ∷ []) r g p l ∙ o.0.0,
        node_grown u (fresh_node f Strand 0 ∷ []) (λ w. is_fork_kind w.kind) g (node_there (λ w. is_fork_kind w.kind) u g o.0.1) ∙ o.0.1,
      ),
      on_more u r l f fs o.1,
    )

    all_stopped : (fs : List ℕ) (u : List Node) (y : States StrandState) → is_fork u p ≡ false → AreOn u p fs → Stopped t p a u y → (z : States StrandState) × Stopped t p a (with_strands u fs) z
    all_stopped [] u y none o h = (y, (let P : List Node → Type 0 = λ v. Stopped t p a v y in subst P (sym (append-nil u)) h))
    all_stopped (f ∷ fs) u y none o h =
        let longer = h.longer in
        let apart : p ≢ f = (λ q. (let P : ℕ → Type 0 = λ i. is_fork u i ≡ false in absurd (let no = subst P q none in let yes = o.0.1 in cc (no, yes)))) in
        let more = stopped_more u y h f o.0.0 o.0.1 apart in
        let (z, g) = all_stopped fs (added u f Strand 0) _ (node_grown u (fresh_node f Strand 0 ∷ []) (λ w. is_fork_kind w.kind) p (omega arith) ∙ none) (on_more u h.rooted (omega arith) f fs o.1) more in
        let P : List Node → Type 0 = λ v. Stopped t p a v z in
        (z, subst P (one_unstarted u f fs) g)

  -- the states at a fault follow each other, and no fork is open at the place
  pub record Stops (u : List Node) (p : ℕ) (a : StrandState) : Type 0 where
    pub states : States StrandState
    pub follows : Follows s u states.before states.after (reached s u states)
    pub here : reached s u states p ≡ a
    pub none : HasNoOpenFork s u states.before states.after (reached s u states) p

  module _ (t : List Node) (p clock : ℕ) (b : IsBuilt t p clock) (fs : List ℕ) (shape : IsShaped (with_strands t fs) []) (a : StrandState) (y : States StrandState) (h : Stopped t p a (with_strands t fs) y)
      (parents : (n : ℕ) → n < length t → parent_of (with_strands t fs) n ≡ parent_of t n) (over : (n m : ℕ) → m < length t → is_ancestor (with_strands t fs) n m ≡ is_ancestor t n m)
      (undone : (n : ℕ) → n < length t → is_committed (with_strands t fs) n ≡ is_committed t n) where
    abbrev u : List Node
    u = with_strands t fs

    abbrev shut : ℕ → Bool
    shut n = nat_lt n (length t) && not (is_ancestor u n p)

    there_p : p < length u
    there_p = let longer = h.longer in let there = b.there in omega arith

    is_shut : (n : ℕ) → shut n ≡ true → (n < length t) × (is_ancestor u n p ≡ false)
    is_shut n e = let w = and_parts (nat_lt n (length t)) (not (is_ancestor u n p)) e in (ltb-true n (length t) w.0, not-true (is_ancestor u n p) w.1)

    shut_from : (n : ℕ) → n < length t → is_ancestor u n p ≡ false → shut n ≡ true
    shut_from n l off = and_from (nat_lt n (length t)) (not (is_ancestor u n p)) (lt-ltb n (length t) l) (ap not off)

    shut_beneath : (n m : ℕ) → shut n ≡ true → 0 < m → m < length u → parent_of u m ≡ n → shut m ≡ true
    shut_beneath n m e some l up =
        let off = (is_shut n e).1 in
        elim (cases_lt m (length t)) [
          | inr past ↦ absurd (let on = (h.fresh m past l).1 in let P : ℕ → Type 0 = λ i. is_ancestor u i p ≡ true in let yes = subst P up on in cc (off, yes))
          | inl old ↦
              shut_from m old
              (false_from_ne_true (is_ancestor u m p) (λ on.
              let P : ℕ → Type 0 = λ i. is_ancestor u n i ≡ true in
              let above : is_ancestor u n m ≡ true = ancestor_up u h.rooted n m some l (subst P (sym up) (ancestor_self u n)) in
              absurd (let yes = ancestor_trans u h.rooted n m p there_p above on in cc (off, yes))))
        ]

    are_shut : AreShut s u y shut
    are_shut = record {
      beneath = shut_beneath;
      over = λ n l strand e. (let w = is_shut n e in h.over n w.0 strand w.1);
      joins = λ f l fork e. (let w = is_shut f e in h.joins f w.0 fork w.1);
    }

    fork_old : (f : ℕ) → f < length u → is_fork u f ≡ true → f < length t
    fork_old f l fork =
        elim (cases_lt f (length t)) [
          | inl old ↦ old
          | inr past ↦ absurd (let strand = (h.fresh f past l).0 in let no = fork_no_strand u f fork in cc (strand, no))
        ]

    -- behind a node on the way comes no other one
    none_later : (f : ℕ) → f < length u → is_fork u f ≡ true → is_ancestor u f p ≡ true → has_later u f ≡ false
    none_later f l fork on =
        false_from_ne_true (has_later u f) (λ e.
        let (m, i, more) = any_in (λ m. nat_lt f m) (children u (parent_of u f)) e in
        let z = in_filter (is_child u (parent_of u f)) m _ i in
        let low = in_below m (length u) z.0 in
        let w = and_parts (nat_lt 0 m) (nat_eq (parent_of u m) (parent_of u f)) z.1 in
        let up : parent_of u m ≡ parent_of u f = eqb-true (parent_of u m) (parent_of u f) w.1 in
        let less : f < m = ltb-true f m more in
        let some : 0 < f = fork_some u shape.root f fork in
        let f_low : f < length t = fork_old f l fork in
        elim (cases_lt m (length t)) [
          | inl old ↦ (
              let was : is_ancestor t f p ≡ true = sym (over f p b.there) ∙ on in
              let beneath : is_ancestor t f m ≡ true = b.last f m was (omega arith) old in
              let above : is_ancestor t f (parent_of t m) ≡ true = sym (ancestor_step t b.rooted f m (omega arith) old (omega arith)) ∙ beneath in
              let lower : parent_of t m < m = b.rooted m (omega arith) old in
              let under : parent_of t f < f = b.rooted f some f_low in
              let le : f ≤ parent_of t m = ancestor_le t b.rooted f (parent_of t m) (omega arith) above in
              let same : parent_of t m ≡ parent_of t f = sym (parents m old) ∙ (up ∙ parents f f_low) in
              absurd (omega arith))
          | inr past ↦ (
              let strand = (h.fresh m past low).0 in
              let fork_up : is_fork u (parent_of u f) ≡ true = ap (is_fork u) (sym up) ∙ (sym (shape.strands m low (omega arith)) ∙ strand) in
              let is : is_strand u f ≡ true = shape.strands f l some ∙ fork_up in
              absurd (let no = fork_no_strand u f fork in cc (is, no)))
        ])

    went_on : (f : ℕ) → f < length u → (is_fork u f && (has_later u f || is_committed u (parent_of u f))) ≡ true → shut f ≡ true
    went_on f l e =
        let z = and_parts (is_fork u f) (has_later u f || is_committed u (parent_of u f)) e in
        let f_low = fork_old f l z.0 in
        let some : 0 < f = fork_some u shape.root f z.0 in
        let under : parent_of u f < f = h.rooted f some l in
        shut_from f f_low
        (false_from_ne_true (is_ancestor u f p) (λ on.
        elim (or_cases (has_later u f) (is_committed u (parent_of u f)) z.1) [
          | inl later ↦ absurd (let no = none_later f l z.0 on in cc (later, no))
          | inr done ↦ (
              let up_f : is_ancestor u (parent_of u f) f ≡ true = ancestor_up u h.rooted (parent_of u f) f some l (ancestor_self u (parent_of u f)) in
              let up_on : is_ancestor t (parent_of u f) p ≡ true = sym (over (parent_of u f) p b.there) ∙ ancestor_trans u h.rooted (parent_of u f) f p there_p up_f on in
              absurd (let no = undone (parent_of u f) (omega arith) ∙ undone_way t p clock b (parent_of u f) up_on in cc (done, no)))
        ]))

    stops_here : Stops u p a
    stops_here = record {
      states = y;
      follows = all_follow s u y (tree_of_shape u shape) shut are_shut h.states went_on;
      here = h.here;
      none = λ f last fork.
          (let z = last_passes (is_child u p) (length u) f last in
          let w = and_parts (nat_lt 0 f) (nat_eq (parent_of u f) p) z.1 in
          let up : parent_of u f ≡ p = eqb-true (parent_of u f) p w.1 in
          let under : parent_of u f < f = h.rooted f (ltb-true 0 f w.0) z.0 in
          fork_joined s u y (tree_of_shape u shape) shut are_shut f z.0 fork (shut_from f (fork_old f z.0 fork) (ancestor_past u h.rooted f p there_p (omega arith))));
    }

  module _ (t : List Node) (p clock : ℕ) (b : IsBuilt t p clock) (xs : List Branch) (a : StrandState) (x : States StrandState) (k : Knows s t p xs a x) where
    begin_stopped : Stopped t p a t x
    begin_stopped = record { rooted = b.rooted; longer = omega arith; states = k.states; here = k.here; over = k.over; joins = k.joins; fresh = λ n le l. absurd (omega arith) }

    pub fault_stops : (fs : List ℕ) → Over t p fs → All (λ f. is_fork t f ≡ true) fs → IsShaped (with_strands t fs) [] → Stops (with_strands t fs) p a
    fault_stops fs o forks shape =
        let (y, h) = all_stopped t p b.there a fs t x (no_fork t p b.place) (are_on t b.rooted p b.there fs o forks) begin_stopped in
        let more = map (λ f. fresh_node f Strand 0) fs in
        stops_here t p clock b fs shape a y h (number_grown t more (λ w. w.parent)) (λ n m l. ancestor_grown t more b.rooted n m l) (node_grown t more (λ w. is_block_kind w.kind && is_committed_state w.state))
