-- What one worker knows of the states of its strands, where a strand comes to its end: the right strand of its fork begins, or both are joined.
use Rattle.std.proofs.Common.{◌≡◌, ◌≢◌, ℕ, ◌<◌, ◌≤◌, List, [], ◌∷◌, length, refl, ap, sym, ◌∙◌, subst, arith, true, false, inl, inr, Some, None}
use Rattle.std.specs.Prelude.{◌⊎◌, slice_get}
use Rattle.std.proofs.lemmas.Bool.{cases_eq, false_from_ne_true}
use Rattle.cw_strand.specs.Strands.{Strands, is_over}
use Rattle.cw_tree.specs.declared.node.Node.{Node}
use Rattle.cw_tree.specs.declared.node.Kind.{Kind}
use Rattle.cw_tree.specs.declared.node.Kind.TheVariants.{Strand, Fork}
use Rattle.cw_tree.specs.declared.node.BlockState.{BlockState}
use Rattle.cw_tree.specs.Nodes.{passes, parent_of, last_below, is_strand, is_fork, is_committed, is_fork_kind, fresh_node}
use Rattle.cw_tree.specs.Walks.{is_ancestor}
use Rattle.cw_tree.specs.Series.{children}
use Rattle.cw_tree.specs.Links.{is_child, last_child}
use Rattle.cw_tree.proofs.Walks.Ancestors.{ancestor_self, ancestor_step, ancestor_up, ancestor_le}
use Rattle.cw_tree.proofs.NextNodes.Growing.{length_more}
use Rattle.cw_tree.proofs.Lists.{In}
use Rattle.cw_tree.proofs.Walks.Children.{last_passes}
use Rattle.cw_tree.proofs.NodeKinds.{fork_some, strand_no_fork}
use Rattle.cw_tree.proofs.InOrder.DepthFirst.{child_in}
use Rattle.cw_job.specs.Room.Strands.{StrandState, state_of}
use Rattle.cw_job.specs.declared.standing.Standing.{Standing as Written}
use Rattle.cw_record.specs.declared.worker.Branch.{Branch}
use Rattle.cw_record.specs.declared.worker.Branch.TheVariants.{Left, Right}
use Rattle.cw_record.specs.Drawn.{added}
use Rattle.cw_record.proofs.Coherent.AddedStates.{StartsAt, with_node, state_same, node_keeps, reached_new, starts_right, over_new, knows_down}
use Rattle.cw_record.proofs.OneWorker.Building.{IsBuilt}
use Rattle.cw_record.proofs.Coherent.KeptStates.{reached_same}
use Rattle.cw_record.proofs.OneWorker.KnownStates.{Known, Knows, HasWaited}
use Rattle.cw_record.proofs.OneWorker.ReachedStates.{same_itself, with_after, last_right_in, still, knows_up, joins_up}
use Rattle.cw_record.proofs.Coherent.States.{States, reached, DoesAs, Does, IsOver, JoinsAt, two_below}
use Rattle.cw_record.proofs.OneWorker.StepStates.{undone_way}

module _ (s : Strands StrandState) where
  module _ (t : List Node) (p clock : ℕ) (b : IsBuilt t p clock) (f : ℕ) (rest : List Branch) (a : StrandState) (x : States StrandState) (strand : is_strand t p ≡ true) (fork : is_fork t f ≡ true) (some : 0 < p) (up : parent_of t p ≡ f) (over : is_over (s.want a) ≡ true) where
    low_f : f < p
    low_f = let low : parent_of t p < p = b.rooted p some b.there in omega (arith, up)

    there_f : f < length t
    there_f = let l = low_f in let h = b.there in omega arith

    last_p : (m : ℕ) → p ≤ m → m < length t → is_ancestor t p m ≡ true
    last_p m = b.last p m (ancestor_self t p)

    over_p : (n : ℕ) → p ≢ n → is_ancestor t n p ≡ is_ancestor t n f
    over_p n ne = ancestor_step t b.rooted n p some b.there ne ∙ ap (is_ancestor t n) up

    above_p : (n : ℕ) → is_ancestor t n f ≡ true → is_ancestor t n p ≡ true
    above_p n e = (let P : ℕ → Type 0 = λ i. is_ancestor t n i ≡ true in ancestor_up t b.rooted n p some b.there (subst P (sym up) e))

    no_strand : p ≢ f
    no_strand = let l = low_f in omega arith

    -- the strand is not above its fork
    beneath_fork : is_ancestor t p f ≡ false
    beneath_fork = false_from_ne_true (is_ancestor t p f) (λ e. let le : p ≤ f = ancestor_le t b.rooted p f there_f e in let l = low_f in absurd (omega arith))

    ends_over : (xs : List Branch) → Knows s t p xs a x → IsOver s t x p
    ends_over xs k = ap (λ c. is_over (s.want c)) k.here ∙ over

    over_off : (xs : List Branch) → Knows s t p xs a x → (n : ℕ) → n < length t → is_strand t n ≡ true → (p ≢ n → is_ancestor t n p ≡ false) → IsOver s t x n
    over_off xs k n l strand off =
        elim (cases_eq n p) [
          | inl q ↦ (let P : ℕ → Type 0 = λ i. IsOver s t x i in subst P (sym q) (ends_over xs k))
          | inr ne ↦ k.over n l strand (off (λ q. ne (sym q)))
        ]

    -- ## The right strand begins

    module _ (right left : Written) (k : Knows s t p (Left f right ∷ rest) a x) (ended : state_of left ≡ a) where
      abbrev right_begins : States StrandState
      right_begins = with_node s t b.rooted x f there_f Strand 0 (s.right (x.before f)) (s.right (x.before f))

      undone : is_committed t f ≡ false
      undone = undone_way t p clock b f (above_p f (ancestor_self t f))

      starts : StartsAt s t b.rooted x f there_f Strand 0 (s.right (x.before f)) (s.right (x.before f))
      starts =
          let P : ℕ → Type 0 = λ n. last_child t n ≡ Some p in
          starts_right s t b.rooted x f there_f Strand 0 (s.right (x.before f)) (s.right (x.before f)) p fork (subst P up (last_right_in s t t b.rooted x p some b.there last_p (same_itself t p b.rooted) a)) refl

      begun : Knows s (added t f Strand 0) (length t) rest (reached s (added t f Strand 0) right_begins (length t)) right_begins
      begun =
          knows_down s t b.rooted x f there_f Strand 0 (s.right (x.before f)) (s.right (x.before f)) k.states undone starts tt rest p (λ n l e. above_p n e) k.waits.1
          (λ n l strand off. over_off (Left f right ∷ rest) k n l strand (λ ne. over_p n ne ∙ off))
          (λ g l forks off. k.joins g l forks (over_p g (λ q. (let P : ℕ → Type 0 = λ i. is_fork t i ≡ false in absurd (let no = subst P q (strand_no_fork t p strand) in cc (no, forks)))) ∙ off))

      waited : HasWaited s (added t f Strand 0) (length t) right_begins f (state_of left)
      waited =
          let keeps = node_keeps s t b.rooted x f there_f Strand 0 (s.right (x.before f)) (s.right (x.before f)) in
          let there = b.there in
          record {
            strand = p;
            child = record { some = some; there = omega (arith, length_more t (fresh_node f Strand 0)); parent = keeps.parents p there ∙ up };
            off = over_new s t b.rooted x f there_f Strand 0 (s.right (x.before f)) (s.right (x.before f)) k.states undone starts tt p there ∙ beneath_fork;
            ended = ended ∙ (sym k.here ∙ sym (reached_same s t (added t f Strand 0) x right_begins (length t) f keeps p (keeps.touched p there no_strand)));
          }

      pub states_turn : Known s (added t f Strand 0) (length t) (Right f left ∷ rest) (state_of right)
      states_turn =
          let P : StrandState → Type 0 = λ c. Knows s (added t f Strand 0) (length t) rest c right_begins in
          let h = subst P (reached_new s t b.rooted x f there_f Strand 0 (s.right (x.before f)) (s.right (x.before f)) ∙ sym k.waits.0.1) begun in
          (right_begins, record { states = h.states; here = h.here; over = h.over; joins = h.joins; waits = (waited, h.waits) })

    -- ## Both strands are joined

    fork_any : (kind : Kind) (state : BlockState) (c d e g h : StrandState) → is_fork_kind kind ≡ true → DoesAs s c d e kind state → DoesAs s c g h kind state
    fork_any Fork state c d e g h q does = does
    fork_any _ state c d e g h q does = absurd (cc q)

    module _ (left : Written) (k : Knows s t p (Right f left ∷ rest) a x) (few : length (children t f) ≤ 2) where
      some_f : 0 < f
      some_f = fork_some t b.root f fork

      last_f : (m : ℕ) → f ≤ m → m < length t → is_ancestor t f m ≡ true
      last_f m = b.last f m (above_p f (ancestor_self t f))

      abbrev l0 : ℕ
      l0 = k.waits.0.strand

      apart : p ≢ l0
      apart q = (let P : ℕ → Type 0 = λ i. is_ancestor t i p ≡ true in absurd (let no = k.waits.0.off in let yes = subst P q (ancestor_self t p) in cc (no, yes)))

      -- the left strand is not behind the right one
      not_behind : p < l0 → ⊥
      not_behind more =
          let w = k.waits.0 in
          let beneath : is_ancestor t p l0 ≡ true = last_p l0 (omega arith) w.child.there in
          let above : is_ancestor t p f ≡ true = ap (is_ancestor t p) (sym w.child.parent) ∙ (sym (ancestor_step t b.rooted p l0 w.child.some w.child.there (λ q. apart (sym q))) ∙ beneath) in
          let no = beneath_fork in
          absurd (cc (no, above))

      module _ (l r : ℕ) (before : last_below (is_child t f) r ≡ Some l) where
        is_second : (c d : ℕ) → last_below (is_child t f) c ≡ None → last_below (is_child t f) d ≡ Some c → (r ≡ c) ⊎ ((r ≡ d) ⊎ ⊥) → (r ≡ d) × (l ≡ c)
        is_second c d none some (inl q) = absurd (let both = sym (ap (last_below (is_child t f)) q ∙ none) ∙ before in cc both)
        is_second c d none some (inr (inl q)) = (q, (let both : Some l ≡ Some c = sym before ∙ (ap (last_below (is_child t f)) q ∙ some) in cc both))
        is_second c d none some (inr (inr q)) = absurd q

        here_second : (c d : ℕ) → last_below (is_child t f) d ≡ Some c → (p ≡ c) ⊎ ((p ≡ d) ⊎ ⊥) → (l0 ≡ c) ⊎ ((l0 ≡ d) ⊎ ⊥) → (p ≡ d) × (l0 ≡ c)
        here_second c d some (inl q) (inl e) = absurd (apart (q ∙ sym e))
        here_second c d some (inl q) (inr (inl e)) = absurd (not_behind (let less = (last_passes (is_child t f) d c some).0 in omega (arith, q, e)))
        here_second c d some (inr (inl q)) (inl e) = (q, e)
        here_second c d some (inr (inl q)) (inr (inl e)) = absurd (apart (q ∙ sym e))
        here_second c d some (inr (inr q)) i = absurd q
        here_second c d some i (inr (inr q)) = absurd q

        are_two : (cs : List ℕ) → children t f ≡ cs → length cs ≤ 2 → In p cs → In l0 cs → In r cs → (r ≡ p) × (l ≡ l0)
        are_two [] e short ip il ir = absurd ip
        are_two (c ∷ []) e short (inl q) (inl i) ir = absurd (apart (q ∙ sym i))
        are_two (c ∷ []) e short (inr q) il ir = absurd q
        are_two (c ∷ []) e short (inl q) (inr i) ir = absurd i
        are_two (c ∷ d ∷ []) e short ip il ir =
            let z = two_below (is_child t f) (length t) c d e in
            let second = is_second c d z.0 z.1 ir in
            let here = here_second c d z.1 ip il in
            (second.0 ∙ sym here.0, second.1 ∙ sym here.1)
        are_two (c ∷ d ∷ n ∷ cs) e short ip il ir = absurd (omega arith)

      abbrev joins : States StrandState
      joins = with_after s t t b.rooted x f some_f there_f last_f (same_itself t f b.rooted) (s.joined a (state_of left))

      stays : (n : ℕ) → n < length t → n ≢ parent_of t f → reached s t joins n ≡ reached s t x n
      stays = still s t t b.rooted x f some_f there_f last_f (same_itself t f b.rooted) (s.joined a (state_of left))

      outer : parent_of t f < f
      outer = b.rooted f some_f there_f

      joined_here : JoinsAt s t joins f
      joined_here l r child before =
          let z = are_two l r (sym (ap (λ n. last_below (is_child t n) r) child.parent) ∙ before) (children t f) refl few (child_in t f p (record { some = some; there = b.there; parent = up })) (child_in t f l0 k.waits.0.child) (child_in t f r child) in
          let w = k.waits.0 in
          let under = outer in
          let lower = low_f in
          let l0_over : f < l0 = let low : parent_of t l0 < l0 = b.rooted l0 w.child.some w.child.there in omega (arith, w.child.parent) in
          let right : reached s t joins r ≡ a = ap (reached s t joins) z.0 ∙ (stays p b.there (omega arith) ∙ k.here) in
          let at_left : reached s t joins l ≡ state_of left = ap (reached s t joins) z.1 ∙ (stays l0 w.child.there (omega arith) ∙ sym w.ended) in
          state_same x.after f (s.joined a (state_of left)) ∙ (ap (λ c. s.joined c (state_of left)) (sym right) ∙ ap (s.joined (reached s t joins r)) (sym at_left))

      above_f : (n : ℕ) → is_ancestor t n (parent_of t f) ≡ true → is_ancestor t n p ≡ true
      above_f n e = above_p n (ancestor_up t b.rooted n f some_f there_f e)

      off_f : (n : ℕ) → p ≢ n → f ≢ n → is_ancestor t n (parent_of t f) ≡ false → is_ancestor t n p ≡ false
      off_f n np nf off = over_p n np ∙ (ancestor_step t b.rooted n f some_f there_f nf ∙ off)

      not_fork : (n : ℕ) → is_strand t n ≡ true → f ≢ n
      not_fork n on q = (let P : ℕ → Type 0 = λ i. is_fork t i ≡ true in absurd (let no = (strand_no_fork t n on) in let yes = subst P q fork in cc (no, yes)))

      not_strand : (n : ℕ) → is_fork t n ≡ true → p ≢ n
      not_strand n on q = (let P : ℕ → Type 0 = λ i. is_fork t i ≡ false in absurd (let no = subst P q (strand_no_fork t p strand) in cc (no, on)))

      does_fork : (z : Node) → slice_get t f ≡ Some z → Does s t joins f z.kind z.state
      does_fork z is = fork_any z.kind z.state (x.before f) (x.after f) (reached s t x f) (joins.after f) (reached s t joins f) (sym (ap (passes (λ w. is_fork_kind w.kind)) is) ∙ fork) (k.states.does f z is)

      joined_at : (g : ℕ) → g < length t → is_fork t g ≡ true → is_ancestor t g (parent_of t f) ≡ false → JoinsAt s t joins g
      joined_at g l forks off =
          elim (cases_eq g f) [
            | inl q ↦ (let P : ℕ → Type 0 = λ i. JoinsAt s t joins i in subst P (sym q) joined_here)
            | inr ne ↦
                joins_up s t t b.rooted x f some_f there_f last_f (same_itself t f b.rooted) (s.joined a (state_of left)) p above_f g l off ne
                (k.joins g l forks (off_f g (not_strand g forks) (λ q. ne (sym q)) off))
          ]

      knows_join : Knows s t (parent_of t f) rest (s.joined a (state_of left)) joins
      knows_join =
          knows_up s t t b.rooted x f some_f there_f last_f (same_itself t f b.rooted) (s.joined a (state_of left)) p above_f rest k.states (undone_way t p clock b (parent_of t f) (above_f (parent_of t f) (ancestor_self t (parent_of t f)))) does_fork k.waits.1
          (λ n l on off. over_off (Right f left ∷ rest) k n l on (λ np. off_f n np (not_fork n on) off))
          joined_at

      pub states_join : Known s t (parent_of t f) rest (s.joined a (state_of left))
      states_join = (joins, knows_join)
