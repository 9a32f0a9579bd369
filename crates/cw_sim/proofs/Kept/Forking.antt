-- A strand forks: the core, the other workers, and the left strand.
use Rattle.std.proofs.Common.{◌≡◌, ◌≢◌, ℕ, zero, suc, ◌+◌, ◌<◌, ◌≤◌, List, [], ◌∷◌, ◌++◌, length, refl, ap, sym, ◌∙◌, subst, arith, Bool, true, false, Option, Some, None, inl, inr, nat_eq, length-append, append_assoc, append-nil}
use Rattle.std.specs.Prelude.{◌⊎◌, ◌&&◌, ◌%◌, not, ℤ, nat_le, is_none}
use Rattle.std.proofs.lemmas.Bool.{cases_eq, cases_lt, and_from, and_left, and_right, and_parts, or_cases, or_left, ne_eqb, eq-eqb, eqb-true, leb-true, leb-false, le-leb, not_from_false, false_from_ne_true}
use Rattle.cw_tree.specs.declared.node.Node.{Node}
use Rattle.cw_tree.specs.declared.node.Kind.TheVariants.{Strand, Fork}
use Rattle.cw_tree.specs.Nodes.{is_strand_kind, is_fork_kind, is_strand, is_fork, parent_of, all_nodes, fresh_node}
use Rattle.cw_tree.specs.Walks.{has}
use Rattle.cw_tree.specs.Series.{children, strand_of, place}
use Rattle.cw_tree.specs.Shape.{IsTree}
use Rattle.cw_tree.specs.NextNodes.{fork_nodes}
use Rattle.cw_tree.proofs.NextNodes.Growing.{node_grown, number_grown, get_next}
use Rattle.cw_tree.proofs.Lists.{any_in}
use Rattle.cw_tree.proofs.NextNodes.Trees.{no_fork}
use Rattle.cw_tree.proofs.Walks.Strands.{strand_of_le, strand_of_other}
use Rattle.cw_trace.specs.Columns.{used, left_column_of as left_column}
use Rattle.cw_trace.specs.Stands.{fork_column}
use Rattle.cw_trace.proofs.Stands.Counting.{fork_column_lt}
use Rattle.cw_trace.proofs.Keeps.Grow.{fork_column_append}
use Rattle.cw_trace.proofs.Keeps.Meaning.{odd_column}
use Rattle.cw_open.specs.Machine.{OpenMachine, has_finished, is_running, waits}
use Rattle.cw_open.proofs.Laws.ListSteps.{none_new}
use Rattle.cw_open.proofs.Open.Standing.{runs, stands}
use Rattle.cw_core.specs.declared.event.Event.TheVariants as event
use Rattle.cw_tree.proofs.Walks.There.{fork_there, strand_there}
use Rattle.cw_tree.proofs.NodeKinds.{fork_no_strand}
use Rattle.cw_core.specs.State.{CoreState, has_columns, is_split, waits_for_left}
use Rattle.cw_core.specs.Events.{fits, after_event, may_fork, next}
use Rattle.cw_core.specs.Laws.{IsCore}
use Rattle.cw_core.proofs.Kept.ForkTails.{fork_children, other_children}
use Rattle.cw_core.proofs.Events.Going.{well, at_place}
use Rattle.cw_core.proofs.Events.Kept.{events}
use Rattle.cw_core.proofs.Kept.PartsGrow.{none_spent}
use Rattle.cw_core.proofs.Events.Places.{waits_grown}
use Rattle.cw_sim.specs.Workers.{Worker, waiting, with_fork, left_node, right_node}
use Rattle.cw_sim.specs.Kept.{Runs, Fits, CoreGoesOn, forks_around}
use Rattle.cw_sim.proofs.Kept.After.{room_after}
use Rattle.cw_sim.proofs.Kept.Around.{waits_around}
use Rattle.cw_sim.proofs.Kept.Going.{still_runs}
use Rattle.cw_sim.proofs.Kept.Halves.{AsMade, left_child, left_strand}
use Rattle.cw_sim.proofs.Laws.Ready.{left_ready}
use Rattle.cw_sim.proofs.Kept.Same.{SameWays, split_same, columns_same, same_strand, same_around}
use Rattle.cw_sim.proofs.Kept.Ways.{around_left}
use Rattle.cw_sim.proofs.Kept.Workers.{has_parts}

module _ (first : List ℤ) (k : CoreState) (on : CoreGoesOn first k) (x : ℕ) (running : is_running k.machine x ≡ true) (ready : waits_for_left k x ≡ false) (fit : fits k (event.Fork x) ≡ true) where
  abbrev t : List Node
  t = k.machine.tree

  abbrev m : OpenMachine
  m = k.machine

  abbrev n : ℕ
  n = length t

  abbrev p : ℕ
  p = place t x

  abbrev xs : List Node
  xs = fork_nodes n p (next k)

  abbrev u : List Node
  u = t ++ xs

  abbrev z : CoreState
  z = after_event k (event.Fork x)

  tree : IsTree t
  tree = (well first k on.core).sound.tree

  core : IsCore first z
  core = (events first k (event.Fork x) on.core fit).1

  tree_after : IsTree u
  tree_after = (well first z core).sound.tree

  len : length u ≡ n + 3
  len = length-append t xs

  there : p < n
  there = (at_place first k on.core x running ready).there

  -- ## Columns

  columns_out : used k.tier ≤ fork_column t n
  columns_out = by_used (used k.tier) on.core.stands.segments.odd (λ i h q. on.core.stands.all_used i h q) where
    by_used : (c : ℕ) → c % 2 ≡ 1 → ((i : ℕ) → i < c → 0 < i → (g : ℕ) × (is_fork t g ≡ true) × (fork_column t g ≡ left_column i)) → c ≤ fork_column t n
    by_used zero e all = omega arith
    by_used (suc zero) e all = odd_some (fork_column t n) (odd_column t n) where
      odd_some : (c : ℕ) → c % 2 ≡ 1 → 1 ≤ c
      odd_some c e = omega arith
    by_used (suc (suc c)) e all =
        let g = all (suc c) (omega arith) (omega arith) in
        let l = fork_column_lt t g.0 n (fork_there t g.0 g.1) g.1 in
        let at : left_column (suc c) ≡ c = even_left c e in
        omega (arith, l, g.2, at) where
          even_left : (c : ℕ) → suc (suc c) % 2 ≡ 1 → left_column (suc c) ≡ c
          even_left c e = omega arith

  column_old : (f : ℕ) → f ≤ n → fork_column u f ≡ fork_column t f
  column_old f h = fork_column_append t xs tree.rooted (used k.tier) f h

  pub columns : (f : ℕ) → f < n → has_columns z f ≡ has_columns k f
  columns f h = columns_same k z f (column_old f (omega arith)) (room_after k (event.Fork x))

  has_is : (b : Bool) → may_fork k ≡ b → has_columns z n ≡ b
  has_is b e = ap (λ r. nat_le (fork_column u n + 2) r) (room_after k (event.Fork x)) ∙ ap (λ c. nat_le (c + 2) k.tier.room) (column_old n (omega arith)) ∙ by b e where
    by : (b : Bool) → may_fork k ≡ b → nat_le (fork_column t n + 2) k.tier.room ≡ b
    by true e = let room = leb-true (used k.tier + 2) k.tier.room e in ap (λ c. nat_le (c + 2) k.tier.room) (on.core.stands.all_forks room) ∙ e
    by false e = false_from_ne_true (nat_le (fork_column t n + 2) k.tier.room) (λ q. absurd (
        let full = leb-false (used k.tier + 2) k.tier.room e in
        let le = leb-true (fork_column t n + 2) k.tier.room q in
        let out = columns_out in
        omega arith))

  unsplit : is_split z n ≡ false
  unsplit = and_right (has_columns z n) (has k.splits (fork_column u n)) (false_from_ne_true (has k.splits (fork_column u n)) (λ e. absurd (
      let low = on.core.stands.segments.cut_left (fork_column u n) e in
      let out = columns_out in
      let at = column_old n (omega arith) in
      omega (arith, low.1, at))))

  -- ## The tree

  pub same : SameWays k z
  same = record {
    longer = omega (arith, len);
    parents = λ f h. number_grown t xs (λ y. y.parent) f h;
    strands = λ f h. node_grown t xs (λ y. is_strand_kind y.kind) f h;
    splits = λ f h. split_same k z f (column_old f (omega arith)) (room_after k (event.Fork x)) refl;
  }

  fork_here : is_fork u n ≡ true
  fork_here = ap (Rattle.cw_tree.specs.Nodes.passes (λ y. is_fork_kind y.kind)) (get_next t (fresh_node p Fork (next k)) (fresh_node n Strand 0 ∷ fresh_node n Strand 0 ∷ []))

  -- no other new node is a fork
  fork_old : (f : ℕ) → is_fork u f ≡ true → f ≢ n → (f < n) × (is_fork t f ≡ true)
  fork_old f e ne = elim (cases_lt f n) [
    | inl low ↦ (low, sym (node_grown t xs (λ y. is_fork_kind y.kind) f low) ∙ e)
    | inr le ↦ absurd (
        let v = t ++ fresh_node p Fork (next k) ∷ [] in
        let apart : u ≡ v ++ fresh_node n Strand 0 ∷ fresh_node n Strand 0 ∷ [] = sym (append_assoc t (fresh_node p Fork (next k) ∷ []) (fresh_node n Strand 0 ∷ fresh_node n Strand 0 ∷ [])) in
        let l : length v ≡ suc n = Rattle.cw_tree.proofs.NextNodes.Growing.length_more t (fresh_node p Fork (next k)) in
        let none = none_new (λ y. is_fork_kind y.kind) v (fresh_node n Strand 0 ∷ fresh_node n Strand 0 ∷ []) f refl (omega (arith, ne, l)) in
        cc (e, ap (λ w. is_fork w f) apart, none))
  ]

  made : AsMade u
  made f e = elim (cases_eq f n) [
    | inl q ↦ ap (children u) q ∙ fork_children t tree.rooted p (next k) there ∙ ap (λ a. a ∷ suc (suc n) ∷ []) (next_is n) ∙ ap (λ a. left_node n ∷ a ∷ []) (after_is n) ∙ sym (ap (λ g. left_node g ∷ right_node g ∷ []) q)
    | inr ne ↦ (let o = fork_old f e ne in
        other_children t tree.rooted p (next k) there f (λ q. absurd (let under = no_fork t p (at_place first k on.core x running ready).holds in cc (o.1, ap (is_fork t) q, under))) ne ∙ on.forks f o.1)
  ] where
    next_is : (a : ℕ) → suc a ≡ left_node a
    next_is a = omega arith

    after_is : (a : ℕ) → suc (suc a) ≡ right_node a
    after_is a = omega arith

  pub goes : CoreGoesOn first z
  goes = record {
    core = core;
    halt = on.halt;
    spent = none_spent k z (ap is_none on.spent) refl refl ∙ on.spent;
    stopped = on.stopped;
    forks = made;
    outside = λ f e apart split. elim (cases_eq f n) [
      | inl q ↦ absurd (cc (split, ap (is_split z) q, unsplit))
      | inr ne ↦
          (let o = fork_old f e ne in
          let le = strand_of_le t tree.rooted f o.0 in
          ap (forks_around z) (same_strand k z tree.rooted tree_after.rooted same f o.0)
          ∙ same_around k z tree.rooted tree_after.rooted same (strand_of t f) (omega (arith, o.0))
          ∙ on.outside f o.1 apart (sym (same.splits f o.0) ∙ split))
    ];
  }

  -- ## The other workers

  fork_strand : strand_of u n ≡ x
  fork_strand =
      let some : 0 < n = (let h = there in omega arith) in
      let up : parent_of u n ≡ p = ap (Rattle.cw_tree.specs.Nodes.number_in (λ y. y.parent)) (get_next t (fresh_node p Fork (next k)) (fresh_node n Strand 0 ∷ fresh_node n Strand 0 ∷ [])) in
      strand_of_other u tree_after.rooted n some (omega (arith, len)) (fork_no_strand u n fork_here)
      ∙ ap (strand_of u) up ∙ same_strand k z tree.rooted tree_after.rooted same p there ∙ (stands m tree (well first k on.core).nested x running).strand

  no_new : (y f : ℕ) → y ≢ x → n ≤ f → (is_fork u f && nat_eq (strand_of u f) y) ≡ false
  no_new y f ne le = elim (cases_eq f n) [
    | inl q ↦ and_right (is_fork u f) (nat_eq (strand_of u f) y) (ne_eqb (strand_of u f) y (λ e. ne (sym e ∙ ap (strand_of u) q ∙ fork_strand)))
    | inr nf ↦ and_left (is_fork u f) (nat_eq (strand_of u f) y) (false_from_ne_true (is_fork u f) (λ e. absurd (let o = fork_old f e nf in omega (arith, o.0))))
  ]

  still_running : (y : ℕ) → y < n → y ≢ x → is_running m y ≡ true → is_running z.machine y ≡ true
  still_running y h ne e =
      ap (λ b. b && not (has_finished m y) && not (waits z.machine y) && not (has m.stopped y)) (node_grown t xs (λ w. is_strand_kind w.kind) y h)
      ∙ ap (λ b. is_strand t y && not (has_finished m y) && not b && not (has m.stopped y)) (waits_grown t xs tree.rooted m z.machine refl refl refl y (λ f le low. no_new y f ne le))
      ∙ e

  pub low_waiting : (w : Worker) (y : ℕ) → Runs k w y → (f : ℕ) → has (waiting w) f ≡ true → f < n
  low_waiting w y at f e =
      let here = runs m tree (well first k on.core).nested y at.running in
      let q = has_parts (waiting w) f e in
      fork_there t f (waits_around k tree on.forks y here.strand q.0 q.1 f (sym at.forks ∙ q.2)).fork

  pub others : (w : Worker) (r : Option ℕ) → ((y : ℕ) → r ≡ Some y → y ≢ x) → Fits k w r → Fits z w r
  others w None ne idle = idle
  others w (Some y) ne at =
      let here = runs m tree (well first k on.core).nested y at.running in
      still_runs first k z on core same made (λ s e. e) columns w y at (still_running y (strand_there t y here.strand) (ne y refl) at.running) (low_waiting w y at) at.to_come

  -- ## The worker goes on with the left strand

  module _ (w : Worker) (at : Runs k w x) where
    abbrev left : Worker
    left = record (with_fork (may_fork k) n w) { runs = Some (left_node n) }

    -- where there are columns left, no fork waits inline
    none_inline : may_fork k ≡ true → w.inline ≡ []
    none_inline e = by w.inline refl where
      by : (gs : List ℕ) → w.inline ≡ gs → w.inline ≡ []
      by [] q = q
      by (g ∷ gs) q =
          let P : List ℕ → Type 0 = λ ds. has ds g ≡ true in
          let here : has w.inline g ≡ true = subst P (sym q) (or_left (nat_eq g g) (has gs g) (eq-eqb g g refl)) in
          let off = at.inline g here in
          let run = runs m tree (well first k on.core).nested x at.running in
          let all = Rattle.cw_sim.proofs.Kept.Workers.has_back w.deque w.inline g here in
          let parts = has_parts (waiting w) g all in
          let fork = (waits_around k tree on.forks x run.strand parts.0 parts.1 g (sym at.forks ∙ parts.2)).fork in
          let less = fork_column_lt t g n (fork_there t g fork) fork in
          let room = leb-true (used k.tier + 2) k.tier.room e in
          let size = on.core.stands.all_forks room in
          absurd (let yes = le-leb (fork_column t g + 2) k.tier.room (omega (arith, less, room, size)) in cc (yes, off))

    pub waits_now : (b : Bool) → may_fork k ≡ b → waiting (with_fork b n w) ≡ waiting w ++ n ∷ []
    waits_now true e = ap (λ is. (w.deque ++ n ∷ []) ++ is) (none_inline e) ∙ append-nil (w.deque ++ n ∷ []) ∙ sym (ap (λ ds. ds ++ n ∷ []) (ap (λ is. w.deque ++ is) (none_inline e) ∙ append-nil w.deque))
    waits_now false e = sym (append_assoc w.deque w.inline (n ∷ []))

    x_low : x < n
    x_low = strand_there t x (runs m tree (well first k on.core).nested x running).strand

    -- what waits in a list and one more
    pub one_more : (ds : List ℕ) (g : ℕ) → has (ds ++ n ∷ []) g ≡ true → (has ds g ≡ true) ⊎ (g ≡ n)
    one_more [] g e = elim (or_cases (nat_eq n g) false e) [ inl q ↦ inr (sym (eqb-true n g q)) | inr q ↦ absurd (cc q) ]
    one_more (d ∷ ds) g e = elim (or_cases (nat_eq d g) (has (ds ++ n ∷ []) g) e) [
      | inl q ↦ inl (or_left (nat_eq d g) (has ds g) q)
      | inr q ↦ elim (one_more ds g q) [ inl y ↦ inl (Rattle.std.proofs.lemmas.Bool.or_right (nat_eq d g) (has ds g) y) | inr y ↦ inr y ]
    ]

    in_deque : (b : Bool) → may_fork k ≡ b → (g : ℕ) → (let v = with_fork b n w in has v.deque g) ≡ true → has_columns z g ≡ true
    in_deque false e g h = columns g (low_waiting w x at g (Rattle.cw_sim.proofs.Kept.Workers.has_front w.deque w.inline g h)) ∙ at.deque g h
    in_deque true e g h = elim (one_more w.deque g h) [
      | inl y ↦ columns g (low_waiting w x at g (Rattle.cw_sim.proofs.Kept.Workers.has_front w.deque w.inline g y)) ∙ at.deque g y
      | inr q ↦ ap (has_columns z) q ∙ has_is true e
    ]

    in_inline : (b : Bool) → may_fork k ≡ b → (g : ℕ) → (let v = with_fork b n w in has v.inline g) ≡ true → has_columns z g ≡ false
    in_inline true e g h = columns g (low_waiting w x at g (Rattle.cw_sim.proofs.Kept.Workers.has_back w.deque w.inline g h)) ∙ at.inline g h
    in_inline false e g h = elim (one_more w.inline g h) [
      | inl y ↦ columns g (low_waiting w x at g (Rattle.cw_sim.proofs.Kept.Workers.has_back w.deque w.inline g y)) ∙ at.inline g y
      | inr q ↦ ap (has_columns z) q ∙ has_is false e
    ]

    not_yet : (s : ℕ) → n ≤ s → has_finished m s ≡ false
    not_yet s le = false_from_ne_true (has_finished m s) (λ e. absurd (let h = (well first k on.core).finished s e in omega arith))

    left_waits : waits z.machine (left_node n) ≡ false
    left_waits = false_from_ne_true (waits z.machine (left_node n)) (λ e.
        let a = any_in (λ g. is_fork u g && nat_eq (strand_of u g) (left_node n) && not (has m.joined g)) (all_nodes u) e in
        let b = and_parts (is_fork u a.0 && nat_eq (strand_of u a.0) (left_node n)) (not (has m.joined a.0)) a.2 in
        let c = and_parts (is_fork u a.0) (nat_eq (strand_of u a.0) (left_node n)) b.0 in
        let own = eqb-true (strand_of u a.0) (left_node n) c.1 in
        let low = x_low in
        elim (cases_eq a.0 n) [
          | inl q ↦ absurd (let it = sym own ∙ ap (strand_of u) q ∙ fork_strand in omega (arith, it))
          | inr ne ↦ absurd (let o = fork_old a.0 c.0 ne in let le = strand_of_le u tree_after.rooted a.0 (omega (arith, o.0, len)) in omega (arith, own, o.0, le))
        ])

    pub takes_left : Runs z left (left_node n)
    takes_left =
        let lc = left_child u tree_after made n fork_here in
        let strand = left_strand u tree_after made n fork_here in
        record {
          running = and_from (is_strand u (left_node n) && not (has_finished m (left_node n)) && not (waits z.machine (left_node n))) (not (has m.stopped (left_node n)))
              (and_from (is_strand u (left_node n) && not (has_finished m (left_node n))) (not (waits z.machine (left_node n))) (and_from (is_strand u (left_node n)) (not (has_finished m (left_node n))) strand (not_from_false (has_finished m (left_node n)) (not_yet (left_node n) (omega arith)))) (not_from_false (waits z.machine (left_node n)) left_waits))
              (ap (λ ss. not (has ss (left_node n))) on.stopped);
          ready = left_ready z made (left_node n) n lc.parent fork_here refl;
          forks = waits_now (may_fork k) refl ∙ ap (λ ds. ds ++ n ∷ []) (at.forks ∙ sym (same_around k z tree.rooted tree_after.rooted same x x_low) ∙ sym (ap (forks_around z) fork_strand))
              ∙ sym (around_left z tree_after.rooted (left_node n) lc.some lc.there strand (ap (is_split z) lc.parent ∙ unsplit) (ap left_node (sym lc.parent)) ∙ ap (λ g. forks_around z (strand_of u g) ++ g ∷ []) lc.parent);
          deque = in_deque (may_fork k) refl;
          inline = in_inline (may_fork k) refl;
          to_come = λ g e. (let h : has (waiting w ++ n ∷ []) g ≡ true = sym (ap (λ ds. has ds g) (waits_now (may_fork k) refl)) ∙ e in
              elim (one_more (waiting w) g h) [ inl y ↦ at.to_come g y | inr q ↦ ap (λ a. has_finished m (right_node a)) q ∙ not_yet (right_node n) (omega arith) ]);
        }
